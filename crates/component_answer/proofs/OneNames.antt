-- What is said has one list of names, and what is told of it goes by that.
use Rattle.std.proofs.Common.{◌≡◌, ℕ, ◌<◌, List, [], ◌∷◌, length, get_or, map, All, Contains, refl, sym, subst, ap, ◌∙◌, inl, inr, arith}
use Rattle.std.specs.Ordering.{nat_cmp}
use Rattle.std.specs.Cmp.Lexicographic.{slice_cmp}
use Rattle.std.specs.declared.cmp.Ordering.TheVariants.{Less}
use Rattle.std.proofs.lemmas.Bool.{cases_order}
use Rattle.std.proofs.lemmas.Cmp.{nat_list_cmp_total}
use Rattle.std.proofs.lemmas.List.Elements.{All-contains, All-head, All-tail, Contains-get_or}
use Rattle.std.proofs.lemmas.List.{get_or-map, length-map}
use Rattle.list_laws.proofs.OneOrder.{less_strict, same_order}
use Rattle.byte_names.specs.Names.{AreInOrder, name_at}
use Rattle.edge_text.specs.EdgeGraph.{AreNames, Said}
use Rattle.component_answer.specs.Starts.{AreStarts, IsFirstMissing}

names_there : (said : Said) (names others : List (List ℕ)) → AreNames said names → AreNames said others → (name : List ℕ) → Contains names name
    → Contains others name
names_there said names others are also name has =
    All-contains (Contains others) said.names name also.all (All-contains (Contains said.names) names name are.only has)

-- what is said has one list of names
pub one_names : (said : Said) (names others : List (List ℕ)) → AreNames said names → AreNames said others → names ≡ others
one_names said names others are also =
    same_order (λ a b. slice_cmp nat_cmp a b ≡ Less) (less_strict (slice_cmp nat_cmp) nat_list_cmp_total) names others are.in_order also.in_order
    (names_there said names others are also) (names_there said others names also are)

-- and two nodes of one name are one
one_node : (names : List (List ℕ)) (a b : ℕ) → AreInOrder names → a < length names → b < length names → name_at names a ≡ name_at names b → a ≡ b
one_node names a b ordered within also same = elim (cases_order a b) [
  | inl is ↦ is
  | inr apart ↦ elim apart [
    | inl before ↦ absurd (never a b before also (sym same))
    | inr after ↦ absurd (never b a after within same)
  ]
]
  where
    never : (x y : ℕ) → x < y → y < length names → name_at names y ≡ name_at names x → ⊥
    never x y lt end equal =
        let less : slice_cmp nat_cmp (name_at names x) (name_at names y) ≡ Less = ordered x y [] lt end in
        let itself : slice_cmp nat_cmp (name_at names x) (name_at names x) ≡ Less =
        subst (λ name. slice_cmp nat_cmp (name_at names x) name ≡ Less) equal less in
        (less_strict (slice_cmp nat_cmp) nat_list_cmp_total).one_way (name_at names x) (name_at names x) itself itself

one_named : (names : List (List ℕ)) → AreInOrder names → (a b : List ℕ) → All (λ start. start < length names) a → All (λ start. start < length names) b
    → map (name_at names) a ≡ map (name_at names) b → a ≡ b
one_named names ordered [] [] within also same = refl
one_named names ordered [] (b ∷ bs) within also same = let both : [] ≡ name_at names b ∷ map (name_at names) bs = same in let none : ⊥ = cc in absurd none
one_named names ordered (a ∷ more) [] within also same =
    let both : name_at names a ∷ map (name_at names) more ≡ [] = same in let none : ⊥ = cc in absurd none
one_named names ordered (a ∷ more) (b ∷ bs) within also same =
    let both : name_at names a ∷ map (name_at names) more ≡ name_at names b ∷ map (name_at names) bs = same in
    let first : name_at names a ≡ name_at names b = cc in
    let others : map (name_at names) more ≡ map (name_at names) bs = cc in
    let one : a ≡ b =
    one_node names a b ordered (All-head (λ start. start < length names) a more within) (All-head (λ start. start < length names) b bs also) first in
    ap (λ x. x ∷ more) one
    ∙ ap (λ xs. b ∷ xs)
    (one_named names ordered more bs (All-tail (λ start. start < length names) a more within) (All-tail (λ start. start < length names) b bs also) others)

-- roots have one list of nodes
pub one_starts : (names roots : List (List ℕ)) (starts others : List ℕ) → AreInOrder names → AreStarts names roots starts → AreStarts names roots others
    → starts ≡ others
one_starts names [] starts others ordered are also = are ∙ sym also
one_starts names (root ∷ roots) starts others ordered are also =
    one_named names ordered starts others are.within also.within (are.named ∙ sym also.named)

-- or one of them is the first that is no node
pub one_missing : (names roots : List (List ℕ)) (place other : ℕ) → IsFirstMissing names roots place → IsFirstMissing names roots other → place ≡ other
one_missing names roots place other is also = elim (cases_order place other) [
  | inl same ↦ same
  | inr apart ↦ elim apart [
    | inl before ↦ absurd (is.missing (also.before place before))
    | inr after ↦ absurd (also.missing (is.before other after))
  ]
]

-- a root that is no node isn't among those that are nodes
pub none_missing : (names roots : List (List ℕ)) (starts : List ℕ) (place : ℕ) → AreStarts names roots starts → IsFirstMissing names roots place → ⊥
none_missing names [] starts place are is = let none : place < 0 = is.within in absurd (omega (arith, none))
none_missing names (root ∷ roots) starts place are is =
    let long : length starts ≡ length (root ∷ roots) = sym (length-map starts (name_at names)) ∙ ap length are.named in
    let within : place < length starts = omega (arith, long, is.within) in
    let at : name_at (root ∷ roots) place ≡ name_at names (get_or starts place 0) =
    ap (λ ns. get_or ns place []) (sym are.named) ∙ get_or-map (name_at names) starts place 0 [] within in
    is.missing
    (subst (Contains names) (sym at) (Contains-get_or names (get_or starts place 0) [] (are.within place 0 within)))
