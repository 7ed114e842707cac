use Rattle.std.proofs.Common.{◌≡◌, ◌<◌, ◌++◌, ◌∷◌, ℕ, List, [], Option, Some, None, length, refl, sym, ap, ◌∙◌, subst}
use Rattle.std.specs.Prelude.{IfSome}
use Rattle.prolog_names.specs.Names.{name_at}
use Rattle.prolog_terms.specs.Terms.{tree_of}
use Rattle.prolog_terms.specs.Views.{start_of}
use Rattle.import_rules.specs.Program.{found, meta_meant, meta_of_found}
use Rattle.call_edges.specs.Goals.{call, place, AddsMet}
use Rattle.call_edges.specs.Meant.{IsMeaning}
use Rattle.call_edges.specs.PlainCalls.{IsPlain}
use Rattle.call_edges.specs.ProgramRows.{rows_of}
use Rattle.call_edges.proofs.by_number.home_call.Goals as goal

if_found : (P : ℕ → Type 0) (o : Option ℕ) → ((n : ℕ) → o ≡ Some n → P n) → IfSome o P
if_found P (Some n) holds = holds n refl
if_found P None holds = tt

pub declared_by-requires : goal.declared_by-requires
declared_by-requires c =
    let home = c.args.home.now in
    let seen = home.program.now in
    let name = name_at home.facts.now.names c.in_ok-number.number in
    if_found (λ node. node < length seen.predicates) c.find-callee.result (λ n is.
    c.found_means.ensures.below seen home.facts.now.module name c.in_ok-number.arity n (sym c.find-callee.ensures ∙ is))

pub returns-clause-met : goal.returns-clause-met
returns-clause-met c = λ old.
    let home = c.args.home.now in
    let seen = home.program.now in
    let tree = tree_of c.args.term.now in
    let owner = home.facts.now.module in
    let role = c.args.role in
    let number = c.in_ok-number.number in
    let arity = c.in_ok-number.arity in
    let plain : IsPlain role tree (name_at c.args.term.now.names.now number) arity = c.in_ok-number.ensures in
    let there : meta_meant seen owner (name_at home.facts.now.names number) arity ≡ [] =
    ap (meta_of_found seen) (sym c.find-callee.ensures) ∙ (sym c.declared_by.ensures ∙ c.is_undeclared.ensures c.if-not-is_undeclared.false) in
    let undeclared : meta_meant seen owner (name_at c.args.term.now.names.now number) arity ≡ [] =
    subst (λ (ns : List (List ℕ)). meta_meant seen owner (name_at ns number) arity ≡ []) (sym c.requires.names) there in
    let P : ℕ → List ℕ → List ℕ → Type 0 = λ at module_ name.
    AddsMet (rows_of seen) (place owner role tree) old (old ++ call at module_ name arity c.added_count.result role.negated ∷ []) in
    let own = name_at c.args.term.now.names.now number in
    let counted : P (start_of tree) owner own =
    subst (λ (more : ℕ). AddsMet (rows_of seen) (place owner role tree) old (old ++ call (start_of tree) owner own arity more role.negated ∷ []))
    (sym c.added_count.ensures) (plain seen owner undeclared old) in
    let named : P (start_of tree) owner c.text.result.now = subst (P (start_of tree) owner) (sym c.text.ensures) counted in
    let owned : P (start_of tree) c.as_str.result.now c.text.result.now = subst (λ (m : List ℕ). P (start_of tree) m c.text.result.now) (sym c.as_str.ensures) named in
    subst (λ (at : ℕ). P at c.as_str.result.now c.text.result.now) (sym c.start_of.ensures) owned

pub returns-clause-meant : goal.returns-clause-meant
returns-clause-meant c =
    let home = c.args.home.now in
    let seen = home.program.now in
    let number = c.in_ok-number.number in
    let arity = c.in_ok-number.arity in
    let named : name_at home.facts.now.names number ≡ c.text.result.now =
    ap (λ (ns : List (List ℕ)). name_at ns number) (sym c.requires.names) ∙ sym c.text.ensures in
    let is : c.find-callee.result ≡ found seen c.as_str.result.now c.text.result.now arity =
    c.find-callee.ensures ∙ (λ i. found seen (sym c.as_str.ensures i) (named i) arity) in
    subst (λ (o : Option ℕ). IsMeaning o c.meaning_found.result) is c.meaning_found.ensures
