-- The first line of its four numbers.
use Rattle.std.proofs.Common.{◌≡◌, ℕ, List, length, ◌++◌, sum_by, count_by, codes}
use Rattle.std.specs.Fmt.{decimal}
use Rattle.group_release.specs.declared.level.Level.{Level}
use Rattle.report_lines.specs.Head.{head_of, height_count}

abbrev pub counted : List ℕ → ℕ → ℕ → ℕ → ℕ → List ℕ
counted word members groups recursive heights =
    (word ++ decimal members) ++ (codes " groups " ++ decimal groups) ++ (codes " recursive " ++ decimal recursive)
    ++ (codes " levels " ++ decimal heights) ++ codes "\n"

pub counted_head : (word : List ℕ) (groups : List (List ℕ)) (levels : List Level) (m g r h : ℕ) → m ≡ sum_by length groups → g ≡ length groups
    → r ≡ count_by (λ (level : Level). level.recursive) levels → h ≡ height_count levels → counted word m g r h ≡ head_of word groups levels
counted_head word groups levels m g r h p q s t = λ i. counted word (p i) (q i) (s i) (t i)
