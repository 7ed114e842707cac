-- Predicates that are all there.
use Rattle.std.proofs.Common.{◌≡◌, List, [], ◌∷◌, ◌++◌, Option, Some, None, Bool, true, false, refl, ap, ◌∙◌, append_assoc}
use Rattle.import_rules.specs.declared.names.PredName.{PredName}
use Rattle.group_words.specs.RootList.{AddsRoots, all_there}

module _ {A : Type 0} where
  abbrev pub put_before : List A → Option (List A) → Option (List A)
  put_before xs None = None
  put_before xs (Some ys) = Some (xs ++ ys)

  abbrev with_first : A → Option (List A) → Option (List A)
  with_first x found = elim found [ Some xs ↦ Some (x ∷ xs) | None ↦ None ]

  with_both : (x : A) (xs : List A) (found : Option (List A)) → with_first x (put_before xs found) ≡ put_before (x ∷ xs) found
  with_both x xs None = refl
  with_both x xs (Some ys) = refl

  -- the first ones are there
  pub first_there : (first second : List (Option A)) (xs : List A) → all_there first ≡ Some xs → all_there (first ++ second) ≡ put_before xs (all_there second)
  first_there [] second xs is = let none : [] ≡ xs = cc in rw (← none) (go (all_there second))
    where
      go : (found : Option (List A)) → found ≡ put_before [] found
      go None = refl
      go (Some ys) = refl
  first_there (None ∷ more) second xs is = let both : None ≡ Some xs = is in cc
  first_there (Some x ∷ more) second xs is = go (all_there more) (first_there more second) is
    where
      go : (found : Option (List A)) → ((ys : List A) → found ≡ Some ys → all_there (more ++ second) ≡ put_before ys (all_there second)) → with_first x found ≡ Some xs
          → with_first x (all_there (more ++ second)) ≡ put_before xs (all_there second)
      go None there e = let both : None ≡ Some xs = e in cc
      go (Some ys) there e =
          let same : x ∷ ys ≡ xs = cc in
          ap (with_first x) (there ys refl) ∙ (with_both x ys (all_there second) ∙ ap (λ zs. put_before zs (all_there second)) same)

  -- one of the first isn't there
  pub first_absent : (first second : List (Option A)) → all_there first ≡ None → all_there (first ++ second) ≡ None
  first_absent [] second is = let both : Some [] ≡ None = is in cc
  first_absent (None ∷ more) second is = refl
  first_absent (Some x ∷ more) second is = go (all_there more) (first_absent more second) is
    where
      go : (found : Option (List A)) → (found ≡ None → all_there (more ++ second) ≡ None) → with_first x found ≡ None → with_first x (all_there (more ++ second)) ≡ None
      go None absent e = ap (with_first x) (absent refl)
      go (Some ys) absent e = let both : Some (x ∷ ys) ≡ None = e in cc

-- roots are added, and then more of them
pub adds_both : (old mid new : List PredName) (all : Bool) (first second : List (Option PredName)) → AddsRoots old mid true (all_there first)
    → AddsRoots mid new all (all_there second) → AddsRoots old new all (all_there (first ++ second))
adds_both old mid new true first second x y =
    (x.0 ++ y.0, first_there first second x.0 x.1 ∙ ap (put_before x.0) y.1, y.2 ∙ (ap (λ zs. zs ++ y.0) x.2 ∙ append_assoc old x.0 y.0))
adds_both old mid new false first second x y = first_there first second x.0 x.1 ∙ ap (put_before x.0) y

-- one is added
pub adds_one : (old new : List PredName) (root : PredName) (found : Option PredName) → found ≡ Some root → new ≡ old ++ root ∷ [] → AddsRoots old new true (all_there (found ∷ []))
adds_one old new root found is added = (root ∷ [], ap (λ x. all_there (x ∷ [])) is, added)
