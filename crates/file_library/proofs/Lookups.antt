-- The map that answers are, and lists in which no two answers are for one name.
use Rattle.std.proofs.Common.{◌≡◌, ℕ, ◌-◌, ◌<◌, Bool, true, false, List, [], ◌∷◌, ◌++◌, None, Contains, length, get_or, refl, sym, subst, ◌∙◌, ap, inl, inr, arith, append-nil, if◌then◌else◌}
use Rattle.std.specs.List.{AllPairs}
use Rattle.std.specs.Bool.{Decides}
use Rattle.std.specs.Str.{bytes_eq}
use Rattle.std.specs.Ordering.{nat_cmp}
use Rattle.std.specs.Cmp.Lexicographic.{slice_cmp}
use Rattle.std.specs.declared.cmp.Ordering.TheVariants.{Less}
use Rattle.std.proofs.lemmas.Bool.{cases_lt}
use Rattle.std.proofs.lemmas.Cmp.{nat_list_cmp_total}
use Rattle.std.proofs.lemmas.List.{get_or_append_left, length-append, length-map, get_or-map}
use Rattle.std.proofs.lemmas.List.Elements.{Contains-get_or}
use Rattle.std.proofs.lemmas.Map.Keys.{Less-from_sorted}
use Rattle.std.proofs.lemmas.Slice.Eq.{bytes_eq-Decides}
use Rattle.std.proofs.Math.Seq.{get_or-append_right}
use Rattle.list_laws.proofs.OneOrder.{nothing_in, first_or_rest, in_rest, in_first, before_rest, rest_in_order, less_strict}
use Rattle.file_library.specs.Asked.{AreInOrder}
use Rattle.file_library.specs.Library.{Answered, names_of, map_of}
use Rattle.file_library.specs.AskAll.{Agrees, AreApart}

-- what holds of each pair of a list holds of those of two lists one after another, where it holds between them
pub all_pairs_append : {X : Type 0} (R : X → X → Type 0) (xs ys : List X) → AllPairs R xs → AllPairs R ys → ((a b : X) → Contains xs a → Contains ys b → R a b) → AllPairs R (xs ++ ys)
all_pairs_append {X} R xs ys first behind cross i j d lt within =
    elim (cases_lt j (length xs)) [
      | inl below ↦
          let lower : i < length xs = omega (arith, lt, below) in
          subst (λ a. R a (get_or (xs ++ ys) j d)) (sym (get_or_append_left xs ys d i lower))
          (subst (λ b. R (get_or xs i d) b) (sym (get_or_append_left xs ys d j below)) (first i j d lt below))
      | inr over ↦
          let inside : j - length xs < length ys = omega (arith, over, within, length-append xs ys) in
          subst (λ b. R (get_or (xs ++ ys) i d) b) (sym (get_or-append_right xs ys j d over))
          (elim (cases_lt i (length xs)) [
            | inl lower ↦
                subst (λ a. R a (get_or ys (j - length xs) d)) (sym (get_or_append_left xs ys d i lower))
                (cross (get_or xs i d) (get_or ys (j - length xs) d) (Contains-get_or xs i d lower) (Contains-get_or ys (j - length xs) d inside))
            | inr high ↦
                let less : i - length xs < j - length xs = omega (arith, lt, high, over) in
                subst (λ a. R a (get_or ys (j - length xs) d)) (sym (get_or-append_right xs ys i d high)) (behind (i - length xs) (j - length xs) d less inside)
          ])
    ]

-- names in order are different
pub order_once : (names : List (List ℕ)) → AreInOrder names → AllPairs (λ a b. a ≡ b → ⊥) names
order_once names ordered i j d lt within same =
    let less = Less-from_sorted (slice_cmp nat_cmp) names i j d ordered lt within in
    let own : slice_cmp nat_cmp (get_or names i d) (get_or names i d) ≡ Less = subst (λ n. slice_cmp nat_cmp (get_or names i d) n ≡ Less) (sym same) less in
    (less_strict (slice_cmp nat_cmp) nat_list_cmp_total).one_way (get_or names i d) (get_or names i d) own own

-- answers whose names are different, and the other way round

pub names_apart : (answers : List Answered) → AreApart answers → AllPairs (λ a b. a ≡ b → ⊥) (names_of answers)
names_apart answers apart i j d lt within same =
    let none : Answered = record { name = d; text = None } in
    let inside : j < length answers = omega (arith, within, length-map answers (λ (a : Answered). a.name)) in
    let lower : i < length answers = omega (arith, lt, inside) in
    apart i j none lt inside (sym (get_or-map (λ (a : Answered). a.name) answers i none d lower) ∙ (same ∙ get_or-map (λ (a : Answered). a.name) answers j none d inside))

pub apart_from : (answers : List Answered) (rest : List (List ℕ)) → AllPairs (λ a b. a ≡ b → ⊥) (names_of answers ++ rest) → AreApart answers
apart_from answers rest once i j d lt within same =
    let names = names_of answers in
    let inside : j < length names = omega (arith, within, length-map answers (λ (a : Answered). a.name)) in
    let lower : i < length names = omega (arith, lt, inside) in
    let whole : j < length (names ++ rest) = omega (arith, inside, length-append names rest) in
    let at : (k : ℕ) → k < length names → k < length answers → get_or (names ++ rest) k d.name ≡ (get_or answers k d).name = λ k below under.
    get_or_append_left names rest d.name k below ∙ get_or-map (λ (a : Answered). a.name) answers k d d.name under in
    once i j d.name lt whole (at i lower (omega (arith, lt, within)) ∙ (same ∙ sym (at j inside within)))

-- answers for names in order are for different names
pub apart_in_order : (answers : List Answered) → AreInOrder (names_of answers) → AreApart answers
apart_in_order answers ordered = apart_from answers [] (subst (AllPairs (λ a b. a ≡ b → ⊥)) (sym (append-nil (names_of answers))) (order_once (names_of answers) ordered))

-- the map of answers for different names has of each what was answered
pub map_agrees : (answers : List Answered) → AreApart answers → Agrees (map_of answers) answers
map_agrees [] apart answer has = absurd (nothing_in answer has)
map_agrees (first ∷ rest) apart answer has =
    elim (first_or_rest first answer rest has) [
      | inl is ↦ found (bytes_eq first.name answer.name) (bytes_eq-Decides first.name answer.name) is
      | inr later ↦
          passed (bytes_eq first.name answer.name) (bytes_eq-Decides first.name answer.name)
          (before_rest (λ a b. a.name ≡ b.name → ⊥) first answer rest apart later) (map_agrees rest (rest_in_order (λ a b. a.name ≡ b.name → ⊥) first rest apart) answer later)
    ]
  where
    found : (same : Bool) → Decides same (first.name ≡ answer.name) → first ≡ answer → (if same then first.text else map_of rest answer.name) ≡ answer.text
    found true decides is = ap (λ (a : Answered). a.text) is
    found false decides is = let both : false ≡ true = decides.1 (ap (λ (a : Answered). a.name) is) in absurd (cc)

    passed : (same : Bool) → Decides same (first.name ≡ answer.name) → (first.name ≡ answer.name → ⊥) → map_of rest answer.name ≡ answer.text
        → (if same then first.text else map_of rest answer.name) ≡ answer.text
    passed true decides differ is = absurd (differ (decides.0 refl))
    passed false decides differ is = is

pub name_in : (answers : List Answered) (answer : Answered) → Contains answers answer → Contains (names_of answers) answer.name
name_in [] answer has = absurd (nothing_in answer has)
name_in (first ∷ rest) answer has =
    elim (first_or_rest first answer rest has) [
      | inl is ↦ subst (λ (a : Answered). Contains (names_of (first ∷ rest)) a.name) is (in_first first.name (names_of rest))
      | inr later ↦ in_rest first.name answer.name (names_of rest) (name_in rest answer later)
    ]
