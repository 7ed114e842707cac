use Rattle.std.proofs.Common.{◌≡◌, ◌++◌, ◌∷◌, ℕ, List, [], sym, ◌∙◌, subst}
use Rattle.prolog_terms.specs.Terms.{tree_of}
use Rattle.prolog_terms.specs.Views.{start_of}
use Rattle.import_rules.specs.Program.{meta_meant}
use Rattle.call_edges.specs.Goals.{call, place, AddsMet}
use Rattle.call_edges.specs.PlainCalls.{IsPlain}
use Rattle.call_edges.specs.ProgramRows.{rows_of}
use Rattle.call_edges.proofs.by_number.plain_call.Goals as goal

pub returns-clause-met : goal.returns-clause-met
returns-clause-met c = λ old.
    let seen = c.args.program.now in
    let tree = tree_of c.args.term.now in
    let owner = c.args.owner.now in
    let role = c.args.role in
    let name = c.text-name.result.now in
    let arity = c.in_ok-number.arity in
    let plain : IsPlain role tree name arity = subst (λ (n : List ℕ). IsPlain role tree n arity) (sym c.text-name.ensures) c.in_ok-number.ensures in
    let undeclared : meta_meant seen owner name arity ≡ [] =
    sym c.meaning_of-meaning.ensures.declared ∙ c.is_undeclared.ensures c.if-not-is_undeclared.false in
    let P : ℕ → ℕ → Type 0 = λ at more. AddsMet (rows_of seen) (place owner role tree) old (old ++ call at owner name arity more role.negated ∷ []) in
    subst (λ (at : ℕ). P at c.added_count.result) (sym c.start_of.ensures)
    (subst (P (start_of tree)) (sym c.added_count.ensures) (plain seen owner undeclared old))
