use Rattle.std.proofs.Common.{◌<◌, ◌∷◌, [], Some, None, length, sym, subst, arith}
use Rattle.std.proofs.lemmas.List.Elements.{All-cons, All-nil}
use Rattle.std.proofs.lemmas.Result.{IfOk-weaker}
use Rattle.graph_law.specs.Graph.{Calls}
use Rattle.loop_paths.specs.Circuits.{IsShortest}
use Rattle.import_rules.specs.Program.{Seen}
use Rattle.call_edges.specs.Successors.{successor_lists}
use Rattle.call_edges.proofs.SuccessorLemmas.{lists_count}
use Rattle.group_words.specs.Settings.{see_options}
use Rattle.group_tool.proofs.PartLemmas.{ends_below, path_within, told_path}
use Rattle.group_tool.proofs.parts.path_part.Goals as goal

pub shortest-requires-clause-from : goal.shortest-requires-clause-from
shortest-requires-clause-from c κs =
    let seen = c.args.program.now in
    let low = (ends_below (see_options c.args.options.now).path seen c.in-Some.from c.in-Some.to (rw c.in-Some.is at c.requires.asked.ends)).0 in
    subst (λ (s : Seen). c.in-Some.from < length (successor_lists s)) (sym c.requires.asked.calls) (omega (arith, low, lists_count seen))

pub shortest-requires-clause-to : goal.shortest-requires-clause-to
shortest-requires-clause-to c κs =
    let seen = c.args.program.now in
    let low = (ends_below (see_options c.args.options.now).path seen c.in-Some.from c.in-Some.to (rw c.in-Some.is at c.requires.asked.ends)).1 in
    subst (λ (s : Seen). c.in-Some.to < length (successor_lists s)) (sym c.requires.asked.calls) (omega (arith, low, lists_count seen))

pub walk_line-requires : goal.walk_line-requires
walk_line-requires c =
    let seen = c.args.program.now in
    let low = (ends_below (see_options c.args.options.now).path seen c.in-Some.from c.in-Some.to (rw c.in-Some.is at c.requires.asked.ends)).0 in
    let least : IsShortest (Calls (successor_lists seen)) c.in-Some.from c.in-Some.to (Some c.in-Some-2.path.items) =
    subst (λ (s : Seen). IsShortest (Calls (successor_lists s)) c.in-Some.from c.in-Some.to (Some c.in-Some-2.path.items)) c.requires.asked.calls
    (rw c.in-Some-2.is at c.in_ok-path.ensures) in
    rw (c.deref.ensures.value) (path_within seen c.in-Some.from c.in-Some.to c.in-Some-2.path.items low least.is)

pub walk_line-requires-in-None : goal.walk_line-requires-in-None
walk_line-requires-in-None c =
    let seen = c.args.program.now in
    let low = ends_below (see_options c.args.options.now).path seen c.in-Some.from c.in-Some.to (rw c.in-Some.is at c.requires.asked.ends) in
    All-cons (λ n. n < length seen.predicates) c.in-Some.from (c.in-Some.to ∷ []) low.0
    (All-cons (λ n. n < length seen.predicates) c.in-Some.to [] low.1 (All-nil (λ n. n < length seen.predicates)))

pub returns-in-Some-2 : goal.returns-in-Some-2
returns-in-Some-2 c =
    let seen = c.args.program.now in
    let least : IsShortest (Calls (successor_lists seen)) c.in-Some.from c.in-Some.to (Some c.in-Some-2.path.items) =
    subst (λ (s : Seen). IsShortest (Calls (successor_lists s)) c.in-Some.from c.in-Some.to (Some c.in-Some-2.path.items)) c.requires.asked.calls
    (rw c.in-Some-2.is at c.in_ok-path.ensures) in
    IfOk-weaker c.walk_line.result _ _
    (λ bytes line. told_path (see_options c.args.options.now).path seen c.in-Some.from c.in-Some.to (Some c.in-Some-2.path.items) bytes.items (rw c.in-Some.is at c.requires.asked.ends) least line)
    (rw (c.deref.ensures.value) at c.walk_line.ensures)

pub returns-in-None : goal.returns-in-None
returns-in-None c =
    let seen = c.args.program.now in
    let none : IsShortest (Calls (successor_lists seen)) c.in-Some.from c.in-Some.to None =
    subst (λ (s : Seen). IsShortest (Calls (successor_lists s)) c.in-Some.from c.in-Some.to None) c.requires.asked.calls (rw c.in-None.is at c.in_ok-path.ensures) in
    IfOk-weaker c.walk_line-in-None.result _ _
    (λ bytes line. told_path (see_options c.args.options.now).path seen c.in-Some.from c.in-Some.to None bytes.items (rw c.in-Some.is at c.requires.asked.ends) none line)
    c.walk_line-in-None.ensures
