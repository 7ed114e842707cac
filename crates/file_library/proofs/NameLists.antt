-- Lists of names, and lists in order of a key.
use Rattle.std.proofs.Common.{◌≡◌, ℕ, suc, ◌+◌, ◌<◌, ◌≤◌, ◌⊎◌, List, [], ◌∷◌, ◌++◌, length, map, get_or, AllPairs, Contains, refl, sym, subst, ap, ◌∙◌, inl, inr, arith}
use Rattle.std.specs.List.{AllZip}
use Rattle.std.specs.Cmp.{IsEquivalence}
use Rattle.std.specs.Str.{bytes_eq}
use Rattle.std.specs.Ordering.{nat_cmp}
use Rattle.std.specs.Cmp.Lexicographic.{slice_cmp}
use Rattle.std.specs.declared.cmp.Ordering.TheVariants.{Less}
use Rattle.std.proofs.lemmas.Cmp.{nat_list_cmp_total}
use Rattle.std.proofs.lemmas.Map.Keys.{Less-from_sorted}
use Rattle.std.proofs.lemmas.Map.Made.{length-le_from_is_member, is_member-Decides}
use Rattle.std.proofs.lemmas.Slice.Eq.{bytes_eq-Decides}
use Rattle.std.proofs.lemmas.Grind.{flat_map-append}
use Rattle.std.proofs.lemmas.List.{length-append, length-map, get_or-map, append_assoc, append-nil}
use Rattle.std.proofs.lemmas.List.Concat.{flat_map-cons}
use Rattle.list_laws.proofs.OneOrder.{IsStrict, same_order, less_strict, first_or_rest, nothing_in}
use Rattle.file_library.specs.Asked.{AreInOrder, wave_at, names_in}
use Rattle.file_library.specs.Loaded.{AreThose}
use Rattle.file_library.proofs.Lookups.{order_once}
use Rattle.file_library.proofs.OrderedFiles.{distinct_names, flips}
use Rattle.file_library.proofs.WaveLaws.{Names}

-- lists that begin others

abbrev pub Begins : Names → Names → Type 0
Begins names others = (rest : Names) × (others ≡ names ++ rest)

-- of two lists that begin one list, one begins the other
pub two_begin : (a b x y : Names) → a ++ x ≡ b ++ y → Begins a b ⊎ Begins b a
two_begin [] b x y same = inl (b, refl)
two_begin (p ∷ a) [] x y same = inr (p ∷ a, refl)
two_begin (p ∷ a) (q ∷ b) x y same =
    let both : p ∷ (a ++ x) ≡ q ∷ (b ++ y) = same in
    let first : p ≡ q = cc in
    let rest : a ++ x ≡ b ++ y = cc in
    elim (two_begin a b x y rest) [
      | inl on ↦ inl (on.0, λ i. sym first i ∷ on.1 i)
      | inr on ↦ inr (on.0, λ i. first i ∷ on.1 i)
    ]

-- what begins a list and is shorter begins it without its last
pub begins_before : (a before : Names) (x last : List ℕ) (rest : Names) → before ++ last ∷ [] ≡ a ++ x ∷ rest → Begins a before
begins_before [] before x last rest same = (before, refl)
begins_before (p ∷ a) [] x last rest same =
    let long : length (last ∷ []) ≡ length (p ∷ (a ++ x ∷ rest)) = ap (λ names. length names) same in
    let none : ⊥ = omega (arith, long, length-append a (x ∷ rest)) in absurd none
begins_before (p ∷ a) (q ∷ before) x last rest same =
    let both : q ∷ (before ++ last ∷ []) ≡ p ∷ (a ++ x ∷ rest) = same in
    let first : q ≡ p = cc in
    let tails : before ++ last ∷ [] ≡ a ++ x ∷ rest = cc in
    let on = begins_before a before x last rest tails in
    (on.0, λ i. first i ∷ on.1 i)

pub same_last : (a b : Names) (x y : List ℕ) → a ++ x ∷ [] ≡ b ++ y ∷ [] → x ≡ y
same_last [] [] x y same = let both : x ∷ [] ≡ y ∷ [] = same in cc
same_last [] (q ∷ b) x y same =
    let long : length (x ∷ []) ≡ length (q ∷ (b ++ y ∷ [])) = ap (λ names. length names) same in
    let none : ⊥ = omega (arith, long, length-append b (y ∷ [])) in absurd none
same_last (p ∷ a) [] x y same =
    let long : length (p ∷ (a ++ x ∷ [])) ≡ length (y ∷ []) = ap (λ names. length names) same in
    let none : ⊥ = omega (arith, long, length-append a (x ∷ [])) in absurd none
same_last (p ∷ a) (q ∷ b) x y same =
    let both : p ∷ (a ++ x ∷ []) ≡ q ∷ (b ++ y ∷ []) = same in
    let tails : a ++ x ∷ [] ≡ b ++ y ∷ [] = cc in
    same_last a b x y tails

-- and what stands before their last is the same
pub same_before : (a b : Names) (x y : List ℕ) → a ++ x ∷ [] ≡ b ++ y ∷ [] → a ≡ b
same_before [] [] x y same = refl
same_before [] (q ∷ b) x y same =
    let long : length (x ∷ []) ≡ length (q ∷ (b ++ y ∷ [])) = ap (λ names. length names) same in
    let none : ⊥ = omega (arith, long, length-append b (y ∷ [])) in absurd none
same_before (p ∷ a) [] x y same =
    let long : length (p ∷ (a ++ x ∷ [])) ≡ length (y ∷ []) = ap (λ names. length names) same in
    let none : ⊥ = omega (arith, long, length-append a (x ∷ [])) in absurd none
same_before (p ∷ a) (q ∷ b) x y same =
    let both : p ∷ (a ++ x ∷ []) ≡ q ∷ (b ++ y ∷ []) = same in
    let first : p ≡ q = cc in
    let tails : a ++ x ∷ [] ≡ b ++ y ∷ [] = cc in
    let rest = same_before a b x y tails in
    λ i. first i ∷ rest i

-- names are none, or have a last
pub last_of : (names : Names) → (names ≡ []) ⊎ ((before : Names) × (last : List ℕ) × (names ≡ before ++ last ∷ []))
last_of [] = inl refl
last_of (name ∷ names) = elim (last_of names) [
  | inl none ↦ inr ([], name, λ i. name ∷ none i)
  | inr (before, last, is) ↦ inr (name ∷ before, last, λ i. name ∷ is i)
]

pub begins_on : (a before after rest : Names) → before ≡ a ++ rest → Begins before after → Begins a after
begins_on a before after rest is on = (rest ++ on.0, on.1 ∙ (ap (λ names. names ++ on.0) is ∙ append_assoc a rest on.0))

-- waves that agree as far as the first of two lists goes
pub extends : (waves also : List Names) → length waves ≤ length also → ((n : ℕ) → n < length waves → wave_at waves n ≡ wave_at also n)
    → (rest : List Names) × (also ≡ waves ++ rest)
extends [] also within same = (also, refl)
extends (wave ∷ waves) [] within same = let none : ⊥ = omega (arith, within) in absurd none
extends (wave ∷ waves) (other ∷ also) within same =
    let some : 0 < suc (length waves) = omega arith in
    let first : wave ≡ other = same 0 some in
    let shorter : length waves ≤ length also = omega (arith, within) in
    let on = extends waves also shorter (λ n less. let below : suc n < suc (length waves) = omega (arith, less) in same (suc n) below) in
    (on.0, λ i. sym first i ∷ on.1 i)

pub empty_waves : (waves : List Names) → ((n : ℕ) → n < length waves → wave_at waves n ≡ []) → names_in waves ≡ []
empty_waves [] none = refl
empty_waves (wave ∷ waves) none =
    let some : 0 < suc (length waves) = omega arith in
    let rest = empty_waves waves (λ n less. let below : suc n < suc (length waves) = omega (arith, less) in none (suc n) below) in
    flat_map-cons (λ w. w) wave waves ∙ (ap (λ names. names ++ names_in waves) (none 0 some) ∙ rest)

pub names_more : (waves : List Names) (next : Names) → length (names_in (waves ++ next ∷ [])) ≡ length (names_in waves) + length next
names_more waves next =
    let last : names_in (next ∷ []) ≡ next = flat_map-cons (λ w. w) next [] ∙ append-nil next in
    ap (λ names. length names) (flat_map-append (λ w. w) waves (next ∷ []))
    ∙ (length-append (names_in waves) (names_in (next ∷ [])) ∙ ap (λ names. length (names_in waves) + length names) last)

-- lists in order of a key

pub keys_rise : {X : Type 0} (key : X → List ℕ) (xs : List X) → AreInOrder (map key xs) → AllPairs (λ a b. slice_cmp nat_cmp (key a) (key b) ≡ Less) xs
keys_rise {X} key xs ordered i j d less within =
    let there : j < length (map key xs) = omega (arith, within, length-map xs key) in
    let rise = Less-from_sorted (slice_cmp nat_cmp) (map key xs) i j (key d) ordered less there in
    let at : (k : ℕ) → k < length xs → get_or (map key xs) k (key d) ≡ key (get_or xs k d) = λ k below. get_or-map key xs k d (key d) below in
    let left = subst (λ name. slice_cmp nat_cmp name (get_or (map key xs) j (key d)) ≡ Less) (at i (omega (arith, less, within))) rise in
    subst (λ name. slice_cmp nat_cmp (key (get_or xs i d)) name ≡ Less) (at j within) left

pub by_key : {X : Type 0} (key : X → List ℕ) → IsStrict (λ a b. slice_cmp nat_cmp (key a) (key b) ≡ Less)
by_key {X} key = record { one_way = λ a b there back. (less_strict (slice_cmp nat_cmp) nat_list_cmp_total).one_way (key a) (key b) there back }

pub one_by_key : {X : Type 0} (key : X → List ℕ) (xs ys : List X) → AreInOrder (map key xs) → AreInOrder (map key ys)
    → ((x : X) → Contains xs x → Contains ys x) → ((x : X) → Contains ys x → Contains xs x) → xs ≡ ys
one_by_key {X} key xs ys up also there back =
    same_order (λ a b. slice_cmp nat_cmp (key a) (key b) ≡ Less) (by_key key) xs ys (keys_rise key xs up) (keys_rise key ys also) there back

pub one_in_order : (xs ys : Names) → AreInOrder xs → AreInOrder ys → ((x : List ℕ) → Contains xs x → Contains ys x) → ((x : List ℕ) → Contains ys x → Contains xs x)
    → xs ≡ ys
one_in_order xs ys up also there back =
    same_order (λ a b. slice_cmp nat_cmp a b ≡ Less) (less_strict (slice_cmp nat_cmp) nat_list_cmp_total) xs ys
    (λ i j d less within. Less-from_sorted (slice_cmp nat_cmp) xs i j d up less within)
    (λ i j d less within. Less-from_sorted (slice_cmp nat_cmp) ys i j d also less within) there back

pub those_one : (holds : List ℕ → Type 0) (xs ys : Names) → AreThose holds xs → AreThose holds ys → xs ≡ ys
those_one holds xs ys is also =
    one_in_order xs ys is.ordered also.ordered (λ x has. also.all x (is.sound x has)) (λ x has. is.all x (also.sound x has))

-- names that differ and are all among others are no more than these
pub no_more : (names others : Names) → AreInOrder names → ((name : List ℕ) → Contains names name → Contains others name) → length names ≤ length others
no_more names others ordered among =
    length-le_from_is_member laws names others (distinct_names names (order_once names ordered))
    (λ name has. (is_member-Decides bytes_eq-Decides others name).1 (among name ((is_member-Decides bytes_eq-Decides names name).0 has)))
  where
    laws : IsEquivalence bytes_eq
    laws = record { refl = λ a. (bytes_eq-Decides a a).1 refl; symm = flips; congr = λ a b c same. ap (λ name. bytes_eq name c) ((bytes_eq-Decides a b).0 same) }

-- lists side by side

pub zip_once : {X Y : Type 0} (R : X → Y → Type 0) → ((x : X) (y z : Y) → R x y → R x z → y ≡ z) → (xs : List X) (ys zs : List Y) → AllZip R xs ys → AllZip R xs zs → ys ≡ zs
zip_once {X} {Y} R once [] [] [] is also = refl
zip_once {X} {Y} R once [] [] (z ∷ zs) is also = absurd also
zip_once {X} {Y} R once [] (y ∷ ys) zs is also = absurd is
zip_once {X} {Y} R once (x ∷ xs) [] zs is also = absurd is
zip_once {X} {Y} R once (x ∷ xs) (y ∷ ys) [] is also = absurd also
zip_once {X} {Y} R once (x ∷ xs) (y ∷ ys) (z ∷ zs) is also =
    let first : y ≡ z = once x y z is.0 also.0 in
    let rest : ys ≡ zs = zip_once R once xs ys zs is.1 also.1 in
    λ i. first i ∷ rest i

pub zip_partner : {X Y : Type 0} (R : X → Y → Type 0) (xs : List X) (ys : List Y) (x : X) → AllZip R xs ys → Contains xs x → (y : Y) × R x y
zip_partner {X} {Y} R [] ys x zip has = absurd (nothing_in x has)
zip_partner {X} {Y} R (p ∷ xs) [] x zip has = absurd zip
zip_partner {X} {Y} R (p ∷ xs) (q ∷ ys) x zip has = elim (first_or_rest p x xs has) [
  | inl is ↦ (q, subst (λ w. R w q) is zip.0)
  | inr rest ↦ zip_partner R xs ys x zip.1 rest
]
