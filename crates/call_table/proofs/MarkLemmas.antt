-- Marks of predicates that are listed.
use Rattle.std.proofs.Common.{◌≡◌, ◌↔◌, ◌<◌, ℕ, Bool, true, false, List, All, length, sym, subst}
use Rattle.std.specs.Prelude.{Contains, slice_index_or}
use Rattle.import_rules.specs.Program.{Seen}
use Rattle.call_table.specs.Marks.{AreMarks}

pub all_below : (nodes shown : List ℕ) (count : ℕ) (seen : Seen) → shown ≡ nodes → count ≡ length seen.predicates → All (λ q. q < length seen.predicates) nodes
    → All (λ q. q < count) shown
all_below nodes shown count seen same is all =
    subst (λ (n : ℕ). All (λ q. q < n) shown) (sym is) (subst (All (λ q. q < length seen.predicates)) (sym same) all)

pub marks_as : (seen : Seen) (P : ℕ → Type 0) (nodes shown : List ℕ) (count : ℕ) (marks : List Bool) → shown ≡ nodes → count ≡ length seen.predicates
    → ((q : ℕ) → Contains nodes q ↔ P q) → AreMarks count (Contains shown) marks → AreMarks (length seen.predicates) P marks
marks_as seen P nodes shown count marks same is are marked =
    let here : AreMarks (length seen.predicates) (Contains nodes) marks =
    subst (λ (n : ℕ). AreMarks n (Contains nodes) marks) is (subst (λ (ns : List ℕ). AreMarks count (Contains ns) marks) same marked) in
    record {
      each = here.each;
      is = λ q below. (λ set. (are q).0 ((here.is q below).0 set), λ holds. (here.is q below).1 ((are q).1 holds));
    }
