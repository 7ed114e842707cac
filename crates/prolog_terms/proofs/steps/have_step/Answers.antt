use Rattle.std.proofs.Common.{ap, sym, ◌∙◌}
use Rattle.prolog_ops.specs.Table.{ops_of}
use Rattle.prolog_terms.specs.Words.{table_of}
use Rattle.prolog_terms.specs.ReaderSeen.{separator_seen, have_step_seen, comma_in, bar_in}
use Rattle.prolog_terms.specs.StackSeen.{see_word, see_held}
use Rattle.prolog_terms.proofs.Entries.{ok_then}
use Rattle.prolog_terms.proofs.ReaderTables.{comma_is, bar_is}
use Rattle.prolog_terms.proofs.steps.have_step.Goals as goal

pub returns-in-Comma : goal.returns-in-Comma
returns-in-Comma c =
    let known = c.args.names.now in
    let T = table_of (ops_of c.args.table.now) in
    let old = see_held known c.args.state.now c.args.operand in
    let w = see_word known c.args.word in
    ok_then c.comma.result _ _ c.comma.ensures
    (λ goes step.
    step
    ∙ (sym (ap (λ o. separator_seen old.stack old.operand w o comma_in) (comma_is (ops_of c.args.table.now) c.requires.law w c.in-Comma.is))
    ∙ sym (ap (have_step_seen T old.stack old.operand w) c.in-Comma.is)))

pub returns-in-Bar : goal.returns-in-Bar
returns-in-Bar c =
    let known = c.args.names.now in
    let T = table_of (ops_of c.args.table.now) in
    let old = see_held known c.args.state.now c.args.operand in
    let w = see_word known c.args.word in
    ok_then c.bar.result _ _ c.bar.ensures
    (λ goes step.
    step
    ∙ (sym (ap (λ o. separator_seen old.stack old.operand w o bar_in) (bar_is (ops_of c.args.table.now) c.requires.law w c.in-Bar.is))
    ∙ sym (ap (have_step_seen T old.stack old.operand w) c.in-Bar.is)))
