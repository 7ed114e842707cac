-- Marks on the nodes that are in groups.
use Rattle.std.proofs.Common.{◌≡◌, ℕ, ◌+◌, ◌<◌, Bool, true, false, not, ◌||◌, cond, inl, inr, List, [], ◌∷◌, ◌++◌, length, take, map, get_or, nat_eq, refl, sym, ◌∙◌, ap, arith}
use Rattle.std.specs.List.{range_with_len, filter, list_any, flat_map}
use Rattle.std.proofs.lemmas.Bool.Decides.{Decides-eqb}
use Rattle.std.proofs.lemmas.Cmp.{nat_eq_equiv}
use Rattle.std.proofs.lemmas.List.{append-nil, ext_get_or, flat_map_more}
use Rattle.std.proofs.lemmas.List.Folds.{list_any_more}
use Rattle.std.proofs.lemmas.List.Elements.{filter-append}
use Rattle.std.proofs.lemmas.List.FromFn.{length-map-range_with_len, get_or-map-range_with_len}
use Rattle.std.proofs.lemmas.Map.Views.{list_any-from_Contains, Contains-from_any}
use Rattle.import_rules.proofs.Ranges.{range_more}
use Rattle.graph_law.specs.Stamp.{IsStamped}
use Rattle.loop_report.specs.Report.{is_grouped, ungrouped}

-- the nodes below the count that are in one of the groups are marked, and no others
pub record AreMarks (count : ℕ) (groups : List (List ℕ)) (marks : List Bool) : Type 0 where
  pub each : length marks ≡ count
  pub marked : (p : ℕ) → p < count → get_or marks p false ≡ is_grouped groups p

abbrev in_group : ℕ → List ℕ → Bool
in_group p group = list_any (nat_eq p) group

-- one group more is stamped
pub marked_more : (count : ℕ) (groups : List (List ℕ)) (i : ℕ) (group : List ℕ) (old new : List Bool) → i < length groups → group ≡ get_or groups i []
    → AreMarks count (take i groups) old → IsStamped group true old new → AreMarks count (take (i + 1) groups) new
marked_more count groups i group old new lt is are stamped = record {
  each = stamped.each ∙ are.each;
  marked = λ p below. by_test p below (in_group p group) refl ∙ sym (more p);
}
  where
    more : (p : ℕ) → is_grouped (take (i + 1) groups) p ≡ (is_grouped (take i groups) p || in_group p group)
    more p = list_any_more (in_group p) groups i [] lt ∙ ap (λ g. is_grouped (take i groups) p || in_group p g) (sym is)

    or_true : (a : Bool) → true ≡ (a || true)
    or_true true = refl
    or_true false = refl

    or_false : (a : Bool) → a ≡ (a || false)
    or_false true = refl
    or_false false = refl

    by_test : (p : ℕ) → p < count → (b : Bool) → in_group p group ≡ b → get_or new p false ≡ (is_grouped (take i groups) p || in_group p group)
    by_test p below true holds =
        stamped.stamped p false (Contains-from_any (λ x y e. (Decides-eqb x y).0 e) p group holds)
        ∙ (or_true (is_grouped (take i groups) p) ∙ ap (λ b. is_grouped (take i groups) p || b) (sym holds))
    by_test p below false fails =
        elim (stamped.kept p false) [
          | inl member ↦
              let there : in_group p group ≡ true = list_any-from_Contains nat_eq_equiv p group member in
              let both : true ≡ false = sym there ∙ fails in
              absurd (cc)
          | inr same ↦ same ∙ (are.marked p below ∙ (or_false (is_grouped (take i groups) p) ∙ ap (λ b. is_grouped (take i groups) p || b) (sym fails)))
        ]

pub marks_made : (count : ℕ) (groups : List (List ℕ)) (marks : List Bool) → AreMarks count groups marks
    → marks ≡ map (is_grouped groups) (range_with_len 0 count)
marks_made count groups marks are =
    ext_get_or false marks (map (is_grouped groups) (range_with_len 0 count)) (are.each ∙ sym (length-map-range_with_len (is_grouped groups) 0 count))
    (λ i lt.
    let below : i < count = omega (arith, lt, are.each) in
    are.marked i below ∙ sym (get_or-map-range_with_len (is_grouped groups) 0 count i i false below (omega arith)))

-- one node more
pub ungrouped_more : (groups : List (List ℕ)) (n : ℕ) → ungrouped groups (n + 1) ≡ ungrouped groups n ++ cond (not (is_grouped groups n)) (n ∷ []) []
ungrouped_more groups n =
    let none : ℕ → Bool = λ p. not (is_grouped groups p) in
    ap (filter none) (range_more n) ∙ filter-append none (range_with_len 0 n) (n ∷ [])

-- a node that is in a group has no line
pub line_none : (f : ℕ → List ℕ) (groups : List (List ℕ)) (n : ℕ) (mark : Bool) → mark ≡ is_grouped groups n → mark ≡ true
    → flat_map f (ungrouped groups n) ≡ flat_map f (ungrouped groups (n + 1))
line_none f groups n mark is marked =
    sym (ap (flat_map f) (ungrouped_more groups n ∙ (ap (λ b. ungrouped groups n ++ cond (not b) (n ∷ []) []) (sym is ∙ marked) ∙ append-nil (ungrouped groups n))))

-- and one that is in none has one
pub line_more : (f : ℕ → List ℕ) (groups : List (List ℕ)) (n : ℕ) (mark : Bool) (head before after : List ℕ) → mark ≡ is_grouped groups n → mark ≡ false
    → before ≡ head ++ flat_map f (ungrouped groups n) → after ≡ before ++ f n → after ≡ head ++ flat_map f (ungrouped groups (n + 1))
line_more f groups n mark head before after is unmarked so_far more =
    let next : ungrouped groups (n + 1) ≡ ungrouped groups n ++ n ∷ [] =
    ungrouped_more groups n ∙ ap (λ b. ungrouped groups n ++ cond (not b) (n ∷ []) []) (sym is ∙ unmarked) in
    more ∙ (ap (λ bytes. bytes ++ f n) so_far ∙ (flat_map_more f head (ungrouped groups n) n ∙ ap (λ xs. head ++ flat_map f xs) (sym next)))
