-- How one value is written, node by node.
use Rattle.std.proofs.Common.{◌≡◌, inl, inr, ℕ, ◌<◌, List, [], ◌∷◌, ◌++◌, length, get_or, set, subst, sym, ◌∙◌, refl, arith, get_or-set_same, get_or-set_other}
use Rattle.std.proofs.lemmas.Bool.{cases_eq}
use Rattle.std.proofs.lemmas.List.{length-set}
use Rattle.std.proofs.lemmas.List.Elements.{Contains-append_left, Contains-push, Contains-push_cases}
use Rattle.std.specs.Prelude.{Contains}
use Rattle.graph_law.specs.Stamp.{IsStamped}

-- no node is stamped yet
pub stamped_none : {X : Type 0} (value : X) (table : List X) → IsStamped [] value table table
stamped_none value table = record {
  each = refl;
  stamped = λ p d member. let none = member.1 in absurd (omega (arith, none));
  kept = λ p d. inr refl;
}

-- one node more is stamped
pub stamped_more : {X : Type 0} (xs : List ℕ) (node : ℕ) (value : X) (old new : List X) → node < length old → IsStamped xs value old new
    → IsStamped (xs ++ node ∷ []) value old (set new node value)
stamped_more {X} xs node value old new lt is =
    let within : node < length new = omega (arith, is.each, lt) in
    record {
      each = length-set new node value ∙ is.each;
      stamped = λ p d member.
          elim (cases_eq p node) [
            | inl same ↦ let P : ℕ → Type 0 = λ k. get_or (set new node value) k d ≡ value in subst P (sym same) (get_or-set_same new node value d within)
            | inr ne ↦
                elim (Contains-push_cases xs node p member)
                [ inl before ↦ get_or-set_other new node p value d ne ∙ is.stamped p d before | inr last ↦ absurd (ne (sym last)) ]
          ];
      kept = λ p d.
          elim (cases_eq p node) [
            | inl same ↦ inl (subst (λ k. Contains (xs ++ node ∷ []) k) (sym same) (Contains-push xs node))
            | inr ne ↦
                elim (is.kept p d) [
                  | inl before ↦ inl (Contains-append_left xs (node ∷ []) p before)
                  | inr same ↦ inr (get_or-set_other new node p value d ne ∙ same)
                ]
          ];
    }
