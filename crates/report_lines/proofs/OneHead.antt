-- Groups that are the same in any legal order have one head line.
use Rattle.std.proofs.Common.{◌≡◌, ℕ, ◌+◌, ◌<◌, ◌≤◌, false, cond, List, [], ◌∷◌, ◌++◌, AllPairs, length, map, sum_by, count_by, get_or, Contains, sym, subst, ◌∙◌, ap, inl, inr, arith}
use Rattle.std.specs.List.{range_with_len}
use Rattle.std.proofs.lemmas.List.{get_or-map, length-map}
use Rattle.std.proofs.lemmas.List.FromFn.{length-range_with_len, get_or-range_with_len}
use Rattle.std.proofs.lemmas.List.Sorted.{IsPermutation-refl}
use Rattle.std.proofs.lemmas.List.Sums.{sum_by-cons, sum_by-append}
use Rattle.group_release.specs.declared.level.Level.{Level}
use Rattle.group_release.specs.Level.{level_at}
use Rattle.list_laws.proofs.OneOrder.{nothing_in, first_or_rest, in_first, in_rest, before_rest, rest_in_order, range_has, sum_by-map, sum_by_places, most_upto, most_each}
use Rattle.report_lines.specs.Reportable.{AreGroups, AreLeveled}
use Rattle.report_lines.specs.Head.{head_of, height_count}
use Rattle.report_lines.proofs.HeadNumbers.{counted}
use Rattle.report_lines.proofs.Printable.{one_each}
use Rattle.report_lines.proofs.OneLine.{place_of, once, one_level, line_at, lines, has_line}

-- sums over lists, of which one has all that the other has

-- the element stands there between others
record StandsIn {X : Type 0} (ys : List X) (x : X) : Type 0 where
  before : List X
  after : List X
  is : ys ≡ before ++ x ∷ after

stands_in : {X : Type 0} (ys : List X) (x : X) → Contains ys x → StandsIn ys x
stands_in {X} [] x has = absurd (nothing_in x has)
stands_in {X} (y ∷ ys) x has = elim (first_or_rest y x ys has) [
  | inl here ↦ record { before = []; after = ys; is = ap (λ z. z ∷ ys) here }
  | inr later ↦ let s = stands_in ys x later in record { before = y ∷ s.before; after = s.after; is = ap (λ zs. y ∷ zs) s.is }
]

has_without : {X : Type 0} (before after : List X) (x y : X) → Contains (before ++ x ∷ after) y → (x ≡ y → ⊥) → Contains (before ++ after) y
has_without {X} [] after x y has differ = elim (first_or_rest x y after has) [ inl here ↦ absurd (differ here) | inr later ↦ later ]
has_without {X} (z ∷ before) after x y has differ = elim (first_or_rest z y (before ++ x ∷ after) has) [
  | inl here ↦ subst (Contains (z ∷ (before ++ after))) here (in_first z (before ++ after))
  | inr later ↦ in_rest z y (before ++ after) (has_without before after x y later differ)
]

sum_le : {X : Type 0} (f : X → ℕ) (xs ys : List X) → AllPairs (λ a b. a ≡ b → ⊥) xs → ((x : X) → Contains xs x → Contains ys x) → sum_by f xs ≤ sum_by f ys
sum_le {X} f [] ys apart all = omega arith
sum_le {X} f (x ∷ xs) ys apart all =
    let s = stands_in ys x (all x (in_first x xs)) in
    let rest = sum_le f xs (s.before ++ s.after) (rest_in_order (λ (a b : X). a ≡ b → ⊥) x xs apart)
    (λ y has.
    has_without s.before s.after x y (subst (λ zs. Contains zs y) s.is (all y (in_rest x y xs has))) (before_rest (λ (a b : X). a ≡ b → ⊥) x y xs apart has)) in
    omega (arith, rest, sum_by-cons f x xs, sum_by-append f s.before s.after, ap (sum_by f) s.is, sum_by-append f s.before (x ∷ s.after), sum_by-cons f x s.after)

sum_ones : {X : Type 0} (xs : List X) → sum_by (λ x. 1) xs ≡ length xs
sum_ones {X} [] = omega arith
sum_ones {X} (x ∷ xs) = omega (arith, sum_by-cons (λ x. 1) x xs, sum_ones xs)

-- all lines, in the order of the groups

abbrev places : List (List ℕ) → List ℕ
places groups = range_with_len 0 (length groups)

abbrev all_lines : List (List ℕ) → List Level → List (List ℕ × Level)
all_lines groups levels = lines groups levels (places groups)

line_is : (groups : List (List ℕ)) (levels : List Level) (i : ℕ) (d : List ℕ × Level) → i < length groups → get_or (all_lines groups levels) i d ≡ line_at groups levels i
line_is groups levels i d lt =
    let place : get_or (places groups) i 0 ≡ i = omega (arith, get_or-range_with_len 0 (length groups) i 0 lt) in
    get_or-map (line_at groups levels) (places groups) i 0 d (omega (arith, lt, length-range_with_len 0 (length groups))) ∙ ap (line_at groups levels) place

how_many : (groups : List (List ℕ)) (levels : List Level) → length (all_lines groups levels) ≡ length groups
how_many groups levels = omega (arith, length-map (places groups) (line_at groups levels), length-range_with_len 0 (length groups))

lines_apart : {calls : ℕ → ℕ → Type 0} {starts : List ℕ} {groups : List (List ℕ)} (levels : List Level) → AreGroups calls starts groups
    → AllPairs (λ a b. a ≡ b → ⊥) (all_lines groups levels)
lines_apart {calls} {starts} {groups} levels are i j d lt within same =
    let inside : j < length groups = omega (arith, within, how_many groups levels) in
    let lower : i < length groups = omega (arith, lt, inside) in
    let lines_same : line_at groups levels i ≡ line_at groups levels j = sym (line_is groups levels i d lower) ∙ (same ∙ line_is groups levels j d inside) in
    let one : i ≡ j = once are i j lower inside (ap (λ (line : List ℕ × Level). line.0) lines_same) in
    omega (arith, lt, one)

lines_across : {calls : ℕ → ℕ → Type 0} {starts : List ℕ} {groups others : List (List ℕ)} {levels marks : List Level}
    → AreLeveled calls starts groups levels → AreLeveled calls starts others marks → (z : List ℕ × Level) → Contains (all_lines groups levels) z → Contains (all_lines others marks) z
lines_across {calls} {starts} {groups} {others} {levels} {marks} a b z (k, lt, at) =
    let below : k < length groups = omega (arith, lt, how_many groups levels) in
    let there = place_of a.are b.are k below in
    let level : level_at levels k ≡ level_at marks there.place = one_level a b k there.place below there.within there.same in
    let same : line_at others marks there.place ≡ z = sym (λ i. (there.same i, level i)) ∙ (sym (line_is groups levels k z below) ∙ at) in
    subst (Contains (all_lines others marks)) same (has_line others marks (places others) there.place (range_has (length others) there.place there.within))

line_sums : {calls : ℕ → ℕ → Type 0} {starts : List ℕ} {groups others : List (List ℕ)} {levels marks : List Level} (f : List ℕ × Level → ℕ)
    → AreLeveled calls starts groups levels → AreLeveled calls starts others marks → sum_by f (all_lines groups levels) ≡ sum_by f (all_lines others marks)
line_sums {calls} {starts} {groups} {others} {levels} {marks} f a b =
    let up = sum_le f (all_lines groups levels) (all_lines others marks) (lines_apart levels a.are) (lines_across a b) in
    let down = sum_le f (all_lines others marks) (all_lines groups levels) (lines_apart marks b.are) (lines_across b a) in
    omega (arith, up, down)

-- the numbers of the head line, by the lines

abbrev line_size : List ℕ × Level → ℕ
line_size line = length line.0

abbrev line_mark : List ℕ × Level → ℕ
line_mark line = cond line.1.recursive 1 0

abbrev line_one : List ℕ × Level → ℕ
line_one line = 1

sizes : (groups : List (List ℕ)) (levels : List Level) → sum_by length groups ≡ sum_by line_size (all_lines groups levels)
sizes groups levels =
    sum_by_places length [] groups (places groups) (IsPermutation-refl (places groups)) ∙ sym (sum_by-map line_size (line_at groups levels) (places groups))

marked : (groups : List (List ℕ)) (levels : List Level) → length levels ≡ length groups
    → count_by (λ (level : Level). level.recursive) levels ≡ sum_by line_mark (all_lines groups levels)
marked groups levels long =
    let all = range_with_len 0 (length levels) in
    sum_by_places (λ (level : Level). cond level.recursive 1 0) (record { height = 0; recursive = false }) levels all (IsPermutation-refl all)
    ∙ (ap (λ n. sum_by (λ i. cond (level_at levels i).recursive 1 0) (range_with_len 0 n)) long
    ∙ sym (sum_by-map line_mark (line_at groups levels) (places groups)))

counts_le : {calls : ℕ → ℕ → Type 0} {starts : List ℕ} {groups others : List (List ℕ)} {levels marks : List Level}
    → AreLeveled calls starts groups levels → AreLeveled calls starts others marks → height_count levels ≤ height_count marks
counts_le {calls} {starts} {groups} {others} {levels} {marks} a b =
    let none : Level = record { height = 0; recursive = false } in
    most_upto (height_count marks) 0 (map (λ (level : Level). level.height + 1) levels) (omega arith)
    (λ x has.
    let within : has.0 < length levels = omega (arith, has.1, length-map levels (λ (level : Level). level.height + 1)) in
    let here : get_or (map (λ (level : Level). level.height + 1) levels) has.0 x ≡ (level_at levels has.0).height + 1 =
    get_or-map (λ (level : Level). level.height + 1) levels has.0 none x within in
    let below : has.0 < length groups = omega (arith, within, one_each a.leveled) in
    let there = place_of a.are b.are has.0 below in
    let inside : there.place < length marks = omega (arith, there.within, one_each b.leveled) in
    let level : level_at levels has.0 ≡ level_at marks there.place = one_level a b has.0 there.place below there.within there.same in
    let also : get_or (map (λ (level : Level). level.height + 1) marks) there.place x ≡ (level_at marks there.place).height + 1 =
    get_or-map (λ (level : Level). level.height + 1) marks there.place none x inside in
    let long : there.place < length (map (λ (level : Level). level.height + 1) marks) =
    omega (arith, inside, length-map marks (λ (level : Level). level.height + 1)) in
    most_each 0 (map (λ (level : Level). level.height + 1) marks) x
    (there.place, long, also ∙ (sym (ap (λ (l : Level). l.height + 1) level) ∙ (sym here ∙ has.2))))

-- the four numbers are the same
pub record AreAlike (groups others : List (List ℕ)) (levels marks : List Level) : Type 0 where
  pub size : sum_by length groups ≡ sum_by length others
  pub many : length groups ≡ length others
  pub recursive : count_by (λ (level : Level). level.recursive) levels ≡ count_by (λ (level : Level). level.recursive) marks
  pub heights : height_count levels ≡ height_count marks

pub are_alike : {calls : ℕ → ℕ → Type 0} {starts : List ℕ} {groups others : List (List ℕ)} {levels marks : List Level} → AreLeveled calls starts groups levels
    → AreLeveled calls starts others marks → AreAlike groups others levels marks
are_alike {calls} {starts} {groups} {others} {levels} {marks} a b =
    let size : sum_by length groups ≡ sum_by length others = sizes groups levels ∙ (line_sums line_size a b ∙ sym (sizes others marks)) in
    let many : length groups ≡ length others =
    omega (arith, line_sums line_one a b, sum_ones (all_lines groups levels), sum_ones (all_lines others marks), how_many groups levels, how_many others marks) in
    let recursive : count_by (λ (level : Level). level.recursive) levels ≡ count_by (λ (level : Level). level.recursive) marks =
    marked groups levels (one_each a.leveled) ∙ (line_sums line_mark a b ∙ sym (marked others marks (one_each b.leveled))) in
    let heights : height_count levels ≡ height_count marks = omega (arith, counts_le a b, counts_le b a) in
    record { size = size; many = many; recursive = recursive; heights = heights }

pub same_head : (word : List ℕ) {calls : ℕ → ℕ → Type 0} {starts : List ℕ} {groups others : List (List ℕ)} {levels marks : List Level}
    → AreLeveled calls starts groups levels → AreLeveled calls starts others marks → head_of word groups levels ≡ head_of word others marks
same_head word {calls} {starts} {groups} {others} {levels} {marks} a b =
    let alike = are_alike a b in λ i. counted word (alike.size i) (alike.many i) (alike.recursive i) (alike.heights i)
