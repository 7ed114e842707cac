use Rattle.std.proofs.Common.{None, sym, ◌∙◌, refl}
use Rattle.prolog_ops.specs.Table.{ops_of}
use Rattle.prolog_terms.specs.Words.{table_of}
use Rattle.prolog_terms.specs.StackSeen.{see_word, see_stack}
use Rattle.prolog_terms.proofs.Entries.{ok_then}
use Rattle.prolog_terms.proofs.NameFed.{calls, is_atom}
use Rattle.prolog_terms.proofs.feed.feed_name.Goals as goal

pub returns-then-is_opening : goal.returns-then-is_opening
returns-then-is_opening c =
    let names = c.args.names.now in
    let T = table_of (ops_of c.args.table.now) in
    let S = see_stack names c.args.reader.now.state in
    let n = see_word names c.args.name in
    let x = see_word names c.args.word in
    ok_then c.call_plain.result _ _ c.call_plain.ensures (λ goes step. step names ∙ calls T S n None x (sym (c.is_opening.ensures names) ∙ c.if-is_opening.true))

pub returns : goal.returns
returns c =
    let names = c.args.names.now in
    let T = table_of (ops_of c.args.table.now) in
    let S = see_stack names c.args.reader.now.state in
    let n = see_word names c.args.name in
    let x = see_word names c.args.word in
    ok_then c.behind_atom.result _ _ c.behind_atom.ensures
    (λ goes step. step ∙ is_atom T S n None x (sym (c.is_opening.ensures names) ∙ c.if-is_opening.false) (sym c.is_negative.ensures ∙ c.if-is_negative.false) refl)
