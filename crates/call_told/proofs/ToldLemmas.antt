-- What is told of a program has its places.
use Rattle.std.proofs.Common.{◌≡◌, ◌<◌, ◌≤◌, ℕ, zero, suc, ◌+◌, ◌==◌, ◌||◌, Bool, true, false, not, cond, List, [], ◌∷◌, ◌++◌, Option, Some, None, length, filter, slice_index, ap, sym, subst, refl, ◌∙◌, append-nil, arith}
use Rattle.std.specs.Prelude.{is_some}
use Rattle.std.specs.List.{range_with_len}
use Rattle.std.specs.Option.{option_map}
use Rattle.std.proofs.lemmas.List.Elements.{filter-append}
use Rattle.import_rules.specs.Program.{Seen}
use Rattle.call_edges.specs.Successors.{successor_lists}
use Rattle.call_edges.proofs.SuccessorLemmas.{lists_count}
use Rattle.call_table.specs.Marks.{AreEach, AreMarked, ProgramMarks}
use Rattle.call_table.specs.Memberships.{AreGroupsOf, IsGroupOf}
use Rattle.import_rules.proofs.Ranges.{range_more}
use Rattle.call_told.specs.Told.{told_nodes}

within_groups : (groups : List (List ℕ)) (p place : ℕ) → IsGroupOf groups p place → place ≤ length groups
within_groups groups p zero is = omega arith
within_groups groups p (suc place) is = omega (arith, is.0)

-- the place of a predicate's group is one of a group, or 0
pub place_within : (count : ℕ) (groups : List (List ℕ)) (places : List ℕ) (p : ℕ) → AreGroupsOf count groups places → p < count
    → slice_index places p ≤ length groups
place_within count groups places p are lt = within_groups groups p (slice_index places p) (are.is p lt)

-- a predicate of the program is a node of the graph of its calls
pub node_listed : (own seen : Seen) (p : ℕ) → own ≡ seen → p < length seen.predicates → p < length (successor_lists own)
node_listed own seen p same lt = subst (λ (s : Seen). p < length (successor_lists s)) (sym same) (omega (arith, lt, lists_count seen))

-- the predicates that are told, with one more behind them

told_step : (n : ℕ) (places : List ℕ) (all : Bool) → told_nodes (n + 1) places all ≡ told_nodes n places all ++ cond (all || not (slice_index places n == 0)) (n ∷ []) []
told_step n places all =
    let tells : ℕ → Bool = λ p. all || not (slice_index places p == 0) in
    ap (filter tells) (range_more n) ∙ filter-append tells (range_with_len 0 n) (n ∷ [])

pub told_skip : (n : ℕ) (places : List ℕ) (all : Bool) → (all || not (slice_index places n == 0)) ≡ false → told_nodes (n + 1) places all ≡ told_nodes n places all
told_skip n places all none =
    told_step n places all ∙ (ap (λ b. told_nodes n places all ++ cond b (n ∷ []) []) none ∙ append-nil (told_nodes n places all))

pub told_more : (n : ℕ) (places : List ℕ) (all : Bool) → (all || not (slice_index places n == 0)) ≡ true → told_nodes (n + 1) places all ≡ told_nodes n places all ++ n ∷ []
told_more n places all is = told_step n places all ∙ ap (λ b. told_nodes n places all ++ cond b (n ∷ []) []) is

-- whether there is a list of roots, whatever it is seen as
pub map_some : {X Y : Type 0} (f : X → Y) (o : Option X) → is_some o ≡ is_some (option_map f o)
map_some f None = refl
map_some f (Some x) = refl

-- marks of each predicate

pub each_marked : (listed : Bool) (seen : Seen) (roots : List ℕ) (marks : ProgramMarks) → AreMarked listed seen roots marks
    → AreEach (length seen.predicates) marks
each_marked listed seen roots marks are = record {
  roots = are.roots_are.each;
  exported = are.exported_are.each;
  by_export = are.by_export_are.each;
  by_directive = are.by_directive_are.each;
  by_file = are.by_file_are.each;
  dynamic = are.dynamic_are.each;
  multifile = are.multifile_are.each;
}

pub each_as : (count : ℕ) (marks : ProgramMarks) → AreEach count marks → AreEach (length marks.roots) marks
each_as count marks each = subst (λ (n : ℕ). AreEach n marks) (sym each.roots) each
