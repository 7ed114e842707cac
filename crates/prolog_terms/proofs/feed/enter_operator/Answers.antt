use Rattle.std.proofs.Common.{Some, not, ap, sym, ◌∙◌}
use Rattle.prolog_ops.specs.Table.{ops_of}
use Rattle.prolog_terms.specs.Words.{table_of}
use Rattle.prolog_terms.specs.ReaderSeen.{prefix_step_seen}
use Rattle.prolog_terms.specs.StackSeen.{see_word, see_stack, see_state}
use Rattle.prolog_terms.proofs.Entries.{ok_then}
use Rattle.prolog_terms.proofs.NameFed.{calls, is_operator}
use Rattle.prolog_terms.proofs.ReaderRoom.{went_on, stopped}
use Rattle.prolog_terms.proofs.feed.enter_operator.Goals as goal

pub returns-then-is_opening : goal.returns-then-is_opening
returns-then-is_opening c =
    let names = c.args.names.now in
    let T = table_of (ops_of c.args.table.now) in
    let S = see_stack names c.args.reader.now.state in
    let n = see_word names c.args.name in
    let x = see_word names c.args.word in
    ok_then c.call_plain.result _ _ c.call_plain.ensures (λ goes step. step names ∙ calls T S n (Some c.args.sides) x (sym (c.is_opening.ensures names) ∙ c.if-is_opening.true))

pub returns-then-not-branch : goal.returns-then-not-branch
returns-then-not-branch c =
    let names = c.args.names.now in
    let T = table_of (ops_of c.args.table.now) in
    let S = see_stack names c.args.reader.now.state in
    let n = see_word names c.args.name in
    let x = see_word names c.args.word in
    stopped T c.in_ok-prefix_step.field-0 (see_state names c.prefix_step.new.state) (prefix_step_seen S n c.args.sides) x (c.in_ok-prefix_step.ensures names) c.if-not-branch.true
    ∙ is_operator T S n (Some c.args.sides) x (sym (c.is_opening.ensures names) ∙ c.if-is_opening.false) (sym c.is_negative.ensures ∙ c.if-is_negative.false)
    (ap not (sym c.begins_term.ensures ∙ c.if-not-begins_term.false))

pub returns : goal.returns
returns c =
    let names = c.args.names.now in
    let T = table_of (ops_of c.args.table.now) in
    let S = see_stack names c.args.reader.now.state in
    let n = see_word names c.args.name in
    let x = see_word names c.args.word in
    ok_then c.enter.result _ _ c.enter.ensures
    (λ goes step.
    step
    ∙ (went_on T c.in_ok-prefix_step.field-0 (see_state names c.prefix_step.new.state) (prefix_step_seen S n c.args.sides) x (c.in_ok-prefix_step.ensures names) c.if-not-branch.false
    ∙ is_operator T S n (Some c.args.sides) x (sym (c.is_opening.ensures names) ∙ c.if-is_opening.false) (sym c.is_negative.ensures ∙ c.if-is_negative.false)
    (ap not (sym c.begins_term.ensures ∙ c.if-not-begins_term.false))))
