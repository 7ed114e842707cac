-- Lists that get more elements.
use Rattle.std.proofs.Common.{◌≡◌, ◌⊎◌, ◌↔◌, inl, inr, List, [], ◌∷◌, ◌++◌, Option, Some, None, ap, sym, subst}
use Rattle.std.specs.Prelude.{Contains}
use Rattle.std.specs.Option.{option_to_list}
use Rattle.std.proofs.lemmas.List.Elements.{Contains-append_left, Contains-append_right, Contains-append_cases, Contains-push, Contains-push_cases}
use Rattle.std.proofs.lemmas.Option.{none-some, same_Some}
use Rattle.list_laws.proofs.OneOrder.{nothing_in}
use Rattle.call_edges.specs.Goals.{Adds}

-- what an option has
pub option_has : {M : Type 0} (o : Option M) (m : M) → Contains (option_to_list o) m ↔ (o ≡ Some m)
option_has None m = (λ has. absurd (nothing_in m has), λ is. absurd (none-some m is))
option_has (Some x) m = (
  λ has. elim (Contains-push_cases [] x m has) [ inl before ↦ absurd (nothing_in m before) | inr same ↦ ap (λ y. Some y) same ],
  λ is. subst (λ y. Contains (x ∷ []) y) (same_Some x m is) (Contains-push [] x),
)

-- a list put behind another
pub adds_append : {M : Type 0} (old more : List M) → Adds (Contains more) old (old ++ more)
adds_append old more = record {
  each = λ m. (
    Contains-append_cases old more m,
    λ either. elim either [ inl before ↦ Contains-append_left old more m before | inr later ↦ Contains-append_right old more m later ],
  );
}

module _ {M : Type 0} where
  -- what is true of the same elements
  pub adds_as : (P Q : M → Type 0) (old new : List M) → ((m : M) → P m → Q m) → ((m : M) → Q m → P m) → Adds P old new → Adds Q old new
  adds_as P Q old new to from adds = record {
    each = λ m. (
      λ has. elim ((adds.each m).0 has) [ inl before ↦ inl before | inr more ↦ inr (to m more) ],
      λ either. (adds.each m).1 (elim either [ inl before ↦ inl before | inr more ↦ inr (from m more) ]),
    );
  }

  -- of no element
  pub adds_nothing : (P : M → Type 0) (xs : List M) → ((m : M) → P m → ⊥) → Adds P xs xs
  adds_nothing P xs never = record {
    each = λ m. (λ has. inl has, λ either. elim either [ inl before ↦ before | inr more ↦ absurd (never m more) ]);
  }

  -- of what an option has
  pub adds_option : (P : M → Type 0) (o : Option M) (old new : List M) → ((m : M) → P m → o ≡ Some m) → ((m : M) → o ≡ Some m → P m)
      → new ≡ old ++ option_to_list o → Adds P old new
  adds_option P o old new from to is = record {
    each = λ m. (
      λ has.
          elim (Contains-append_cases old (option_to_list o) m (subst (λ xs. Contains xs m) is has)) [
            | inl before ↦ inl before
            | inr more ↦ inr (to m ((option_has o m).0 more))
          ],
      λ either.
          let P : List M → Type 0 = λ xs. Contains xs m in
          subst P (sym is)
          (elim either [
            | inl before ↦ Contains-append_left old (option_to_list o) m before
            | inr more ↦ Contains-append_right old (option_to_list o) m ((option_has o m).1 (from m more))
          ]),
    );
  }

  -- one list after another
  pub adds_then : (P Q : M → Type 0) (old mid new : List M) → Adds P old mid → Adds Q mid new → Adds (λ m. P m ⊎ Q m) old new
  adds_then P Q old mid new first second = record {
    each = λ m. (
      λ has.
          elim ((second.each m).0 has) [
            | inl before ↦ elim ((first.each m).0 before) [ inl older ↦ inl older | inr more ↦ inr (inl more) ]
            | inr more ↦ inr (inr more)
          ],
      λ either.
          (second.each m).1
          (elim either [
            | inl older ↦ inl ((first.each m).1 (inl older))
            | inr more ↦ elim more [ inl one ↦ inl ((first.each m).1 (inr one)) | inr two ↦ inr two ]
          ]),
    );
  }
