-- When a class is the module `user` alone.
use Rattle.std.proofs.Common.{◌≡◌, ℕ, ◌<◌, Bool, true, List, [], ◌∷◌, length, get_or, nat_eq, All, sym, ap, ◌∙◌, codes, arith}
use Rattle.std.specs.Borrow.{Bor}
use Rattle.std.specs.Cmp.Lexicographic.{pointwise}
use Rattle.std.proofs.lemmas.List.{get_or-map}
use Rattle.std.proofs.lemmas.Slice.Eq.{bytes_eq-Decides}
use Rattle.loop_report.specs.ImportLoops.{names_at}
use Rattle.loop_report.specs.ModuleGraph.{texts_of}

pub user_alone : (lent : List (Bor (List ℕ))) (class : List ℕ) (d : Bor (List ℕ)) (same : Bool) → All (λ member. member < length lent) class → length class ≡ 1
    → same ≡ pointwise nat_eq (get_or lent (get_or class 0 0) d).now (codes "user")
    → (same ≡ true → names_at (texts_of lent) class ≡ codes "user" ∷ []) × (names_at (texts_of lent) class ≡ codes "user" ∷ [] → same ≡ true)
user_alone lent [] d same within one is = let none : ⊥ = omega (arith, one) in absurd none
user_alone lent (x ∷ y ∷ class) d same within one is = let none : ⊥ = omega (arith, one) in absurd none
user_alone lent (x ∷ []) d same within one is =
    let at : get_or (texts_of lent) x [] ≡ (get_or lent x d).now = get_or-map (λ (text : Bor (List ℕ)). text.now) lent x d [] (within 0 0 (omega arith)) in
    let decides = bytes_eq-Decides (get_or lent x d).now (codes "user") in (
      (λ holds. ap (λ name. name ∷ []) (at ∙ decides.0 (sym is ∙ holds))),
      (λ names. is ∙ decides.1 (sym at ∙ ap (λ (ns : List (List ℕ)). get_or ns 0 []) names)),
    )
