-- The order of predicates' names, and whether two are the same.
use Rattle.std.proofs.Common.{◌≡◌, ℕ, List, true, false, not, ◌&&◌, nat_eq, refl, sym, ap, ◌∙◌}
use Rattle.std.specs.Ordering.{is_eq, is_lt, nat_cmp, ordering_reverse, ordering_then}
use Rattle.std.specs.Str.{bytes_eq}
use Rattle.std.specs.Cmp.{IsTotalOrder, both_tied, unsigned_ties}
use Rattle.std.specs.Cmp.Lexicographic.{slice_cmp, texts_ties}
use Rattle.std.specs.declared.cmp.Ordering.{Ordering}
use Rattle.std.specs.declared.cmp.Ordering.TheVariants.{Less, Equal, Greater}
use Rattle.std.proofs.lemmas.Cmp.{then_total, on_total, nat_list_cmp_total, nat_cmp_total, tied_itself}
use Rattle.std.proofs.lemmas.Bool.{and_parts}
use Rattle.std.proofs.lemmas.Bool.Decides.{Decides-eqb}
use Rattle.std.proofs.lemmas.Slice.Eq.{bytes_eq-Decides}
use Rattle.import_rules.specs.declared.names.PredName.{PredName}
use Rattle.import_rules.specs.Names.{pred_cmp, is_same}

pub pred_cmp_total : IsTotalOrder pred_cmp
pred_cmp_total =
    then_total (on_total (λ (p : PredName). p.module) nat_list_cmp_total)
    (then_total (on_total (λ (p : PredName). p.name) nat_list_cmp_total) (on_total (λ (p : PredName). p.arity) nat_cmp_total))

pub same_ties : (p q : PredName) → is_same p q ≡ is_eq (pred_cmp p q)
same_ties p q = both_tied _ _ _ _ (texts_ties p.module q.module) (both_tied _ _ _ _ (texts_ties p.name q.name) (unsigned_ties p.arity q.arity))

pub same_parts : (p q : PredName) → is_same p q ≡ true → p ≡ q
same_parts p q e =
    let outer = and_parts (bytes_eq p.module q.module) (bytes_eq p.name q.name && nat_eq p.arity q.arity) e in
    let inner = and_parts (bytes_eq p.name q.name) (nat_eq p.arity q.arity) outer.1 in
    let modules : p.module ≡ q.module = (bytes_eq-Decides p.module q.module).0 outer.0 in
    let names : p.name ≡ q.name = (bytes_eq-Decides p.name q.name).0 inner.0 in
    let arities : p.arity ≡ q.arity = (Decides-eqb p.arity q.arity).0 inner.1 in
    λ i. record { «module» = modules i; name = names i; arity = arities i }

pub same_itself : (p : PredName) → is_same p p ≡ true
same_itself p = same_ties p p ∙ ap is_eq (tied_itself pred_cmp_total p)

pub same_from : (p q : PredName) → p ≡ q → is_same p q ≡ true
same_from p q is = ap (is_same p) (sym is) ∙ same_itself p

pub apart_from_Less : (p q : PredName) → pred_cmp p q ≡ Less → is_same p q ≡ false
apart_from_Less p q less = same_ties p q ∙ ap is_eq less

-- how names stand to each other by what is behind their modules
abbrev pub behind_modules : PredName → PredName → Ordering
behind_modules p q = ordering_then (slice_cmp nat_cmp p.name q.name) (nat_cmp p.arity q.arity)

pub in_one_module : (p q : PredName) → p.module ≡ q.module → behind_modules p q ≡ pred_cmp p q
in_one_module p q same =
    ap (λ r. ordering_then r (behind_modules p q)) (sym (ap (slice_cmp nat_cmp p.module) (sym same) ∙ tied_itself nat_list_cmp_total p.module))

-- what ties in an order is equal in it
pub tied_is_same : {X : Type 0} (cmp : X → X → Ordering) → IsTotalOrder cmp → (x y : X) → (not (is_lt (cmp x y)) && not (is_lt (cmp y x))) ≡ is_eq (cmp x y)
tied_is_same {X} cmp o x y = at (cmp x y) (cmp y x) (o.antisymm y x)
  where
    at : (r back : Ordering) → back ≡ ordering_reverse r → (not (is_lt r) && not (is_lt back)) ≡ is_eq r
    at Less back e = refl
    at Equal back e = rw e refl
    at Greater back e = rw e refl

pub same_text : (a b : List ℕ) → slice_cmp nat_cmp a b ≡ Equal → a ≡ b
same_text a b e = (bytes_eq-Decides a b).0 (texts_ties a b ∙ ap is_eq e)
