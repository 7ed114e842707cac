use Rattle.std.proofs.Common.{◌≡◌, ◌<◌, ◌≤◌, List, [], ◌∷◌, Ok, false, length, sym, ◌∙◌, ap, subst, arith}
use Rattle.std.proofs.lemmas.List.{length-map}
use Rattle.std.proofs.Common.{◌++◌, get_or, take, drop}
use Rattle.std.specs.Prelude.{suc}
use Rattle.std.proofs.lemmas.Result.{err_from_is_err_and}
use Rattle.std.proofs.lemmas.Iterator.Adapters.{YieldsList-from_vec}
use Rattle.std.proofs.lemmas.Iterator.Consumers.{YieldsList-end, YieldsList-turn, YieldsList-so_far}
use Rattle.std.proofs.lemmas.List.{map-append, map-id, take-append-drop}
use Rattle.std.proofs.lemmas.List.Elements.{All-get_or}
use Rattle.std.proofs.Math.ListN.{get_or-map}
use Rattle.std.proofs.Math.Seq.{drop-cons}
use Rattle.prolog_tokens.specs.declared.limits.TheConstants.{MOST_BYTES}
use Rattle.prolog_names.specs.Names.{name_at}
use Rattle.prolog_terms.specs.Tree.{Tree}
use Rattle.prolog_terms.specs.Weight.{weight}
use Rattle.clause_text.specs.declared.text_clauses.Clause.{Clause}
use Rattle.clause_text.specs.Clauses.{clause_tree, clause_trees}
use Rattle.module_table.specs.Said.{IsWhy}
use Rattle.module_table.specs.Kinds.{none_said, with_said}
use Rattle.module_table.specs.Kept.{see_kinds}
use Rattle.module_table.specs.Directives.{home}
use Rattle.module_table.specs.Facts.{clause_said, trees_said}
use Rattle.module_table.proofs.KindLemmas.{kinds_go_on, added_parts, are_said}
use Rattle.module_table.proofs.FileLemmas.{IsFirst, file_one, file_stops, more_first}
use Rattle.module_table.proofs.file_facts.said.Goals as goal

-- the clause at a place, with those before it and behind it
split : (clauses done : List Clause) (clause : Clause) → done ≡ take (length done) clauses → length done < length clauses → clause ≡ get_or clauses (length done) clause
    → done ++ clause ∷ drop (suc (length done)) clauses ≡ clauses
split clauses done clause so_far below is =
    ap (λ l. l ++ clause ∷ drop (suc (length done)) clauses) so_far
    ∙ (ap (λ x. take (length done) clauses ++ x ∷ drop (suc (length done)) clauses) is
    ∙ (ap (λ l. take (length done) clauses ++ l) (sym (drop-cons clauses (length done) clause below)) ∙ take-append-drop (length done) clauses))

pub push_clause-requires-clause-light : goal.push_clause-requires-clause-light
push_clause-requires-clause-light c =
    let names = c.args.names.now in
    let done = c.loop-clause.yielded in
    let clauses = c.args.clauses.items in
    let clause = c.in-Some.clause in
    let gives = c.into_iter-clause-iterator.ensures.into_iter_gives in
    let road = YieldsList-from_vec {s = c.into_iter-clause-iterator.result} clauses gives.0 (gives.1 ∙ c.args.clauses.ok.0) in
    let turn = YieldsList-turn road done c.loop-clause.clause-iterator c.loop-clause.yielded_by c.next.result c.next.new.self clause c.in-Some.is c.next.ensures.steps in
    let same : get_or (clause_trees names clauses) (length done) (clause_tree names clause) ≡ clause_tree names clause =
    get_or-map (clause_tree names) clauses (length done) clause ∙ ap (clause_tree names) (sym turn.1) in
    subst (λ (tree : Tree). weight tree ≤ MOST_BYTES) same
    (All-get_or (λ (tree : Tree). weight tree ≤ MOST_BYTES) (clause_trees names clauses) (length done) (clause_tree names clause) (omega (arith, turn.0, length-map clauses (clause_tree names))) c.requires)

pub returns-in_err-push_clause-clause-refused : goal.returns-in_err-push_clause-clause-refused
returns-in_err-push_clause-clause-refused c =
    let names = c.args.names.now in
    let done = c.loop-clause.yielded in
    let clauses = c.args.clauses.items in
    let clause = c.in-Some.clause in
    let gives = c.into_iter-clause-iterator.ensures.into_iter_gives in
    let road = YieldsList-from_vec {s = c.into_iter-clause-iterator.result} clauses gives.0 (gives.1 ∙ c.args.clauses.ok.0) in
    let turn = YieldsList-turn road done c.loop-clause.clause-iterator c.loop-clause.yielded_by c.next.result c.next.new.self clause c.in-Some.is c.next.ensures.steps in
    let so_far : done ≡ take (length done) clauses = sym (map-id done) ∙ YieldsList-so_far road done c.loop-clause.clause-iterator c.loop-clause.yielded_by in
    let behind = drop (suc (length done)) clauses in
    let whole : clause_trees names done ++ clause_tree names clause ∷ clause_trees names behind ≡ clause_trees names clauses =
    sym (map-append (clause_tree names) done (clause ∷ behind)) ∙ ap (clause_trees names) (split clauses done clause so_far turn.0 turn.1) in
    let exit = err_from_is_err_and c.from_residual-in_err-push_clause.result c.from_residual-in_err-push_clause.ensures.1 in
    let added = added_parts none_said (see_kinds names [] c.loop-clause.kinds) (trees_said (home c.args.file.now (name_at c.args.names.now c.args.owner)) (clause_trees names done)) c.loop-clause.invariant.0 in
    let fault = c.in_err-push_clause.field-0.0 in
    rw (exit.1, exit.2)
    (subst (λ trees. IsWhy (trees_said (home c.args.file.now (name_at c.args.names.now c.args.owner)) trees) fault) whole
    (file_stops (home c.args.file.now (name_at c.args.names.now c.args.owner)) c.loop-clause.first (clause_trees names done) (clause_tree names clause) (clause_trees names behind) added.0 fault
    c.loop-clause.invariant.1 added.1 c.in_err-push_clause.ensures.refused))

pub loop-clause-preserved : goal.loop-clause-preserved
loop-clause-preserved c =
    let names = c.args.names.now in
    let done = clause_trees names c.loop-clause.yielded in
    let tree = clause_tree names c.in-Some.clause in
    let file = home c.args.file.now (name_at c.args.names.now c.args.owner) in
    let all : clause_trees names (c.loop-clause.yielded ++ c.in-Some.clause ∷ []) ≡ done ++ tree ∷ [] = map-append (clause_tree names) c.loop-clause.yielded (c.in-Some.clause ∷ []) in (
      ap (with_said none_said) (ap (trees_said file) all ∙ file_one file c.loop-clause.first done tree c.loop-clause.invariant.1)
          ∙ kinds_go_on none_said (see_kinds names [] c.loop-clause.kinds) (see_kinds names [] c.push_clause.new.kinds) (trees_said file done) (clause_said file c.loop-clause.first tree)
          c.loop-clause.invariant.0 c.in_ok-push_clause.ensures.ok,
      subst (IsFirst false) (sym all) (more_first done tree),
      c.in_ok-push_clause.ensures.ends,
    )

pub returns-clause-ok : goal.returns-clause-ok
returns-clause-ok c =
    let names = c.args.names.now in
    let done = c.loop-clause.yielded in
    let gives = c.into_iter-clause-iterator.ensures.into_iter_gives in
    let road = YieldsList-from_vec {s = c.into_iter-clause-iterator.result} c.args.clauses.items gives.0 (gives.1 ∙ c.args.clauses.ok.0) in
    let all : done ≡ c.args.clauses.items =
    sym (map-id done) ∙ (YieldsList-end road done c.loop-clause.clause-iterator c.loop-clause.yielded_by c.next.result c.next.new.self c.in-None.is c.next.ensures.steps).0 in
    are_said names (trees_said (home c.args.file.now (name_at c.args.names.now c.args.owner)) (clause_trees names c.args.clauses.items)) c.loop-clause.kinds c.loop-clause.invariant.2
    (subst (λ clauses. with_said none_said (trees_said (home c.args.file.now (name_at c.args.names.now c.args.owner)) (clause_trees names clauses)) ≡ Ok (see_kinds names [] c.loop-clause.kinds)) all c.loop-clause.invariant.0)
