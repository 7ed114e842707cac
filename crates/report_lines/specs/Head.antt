-- The first line of a report, and the word for a group's kind.
use Rattle.std.specs.Prelude.{ℕ, ◌+◌, Bool, List, ◌++◌, length, max, map, sum_by, count_by, fold}
use Rattle.std.specs.Prelude.{if◌then◌else◌, codes}
use Rattle.std.specs.Fmt.{decimal}
use Rattle.group_release.specs.declared.level.Level.{Level}

-- `recursive` or `plain`
abbrev pub kind_of : Bool → List ℕ
kind_of recursive = if recursive then codes " recursive" else codes " plain"

-- one more than the greatest height, or 0 where there is no level
abbrev pub height_count : List Level → ℕ
height_count levels = fold max 0 (map (λ (level : Level). level.height + 1) levels)

-- the first line, which begins with the word for nodes: `WORD N groups G recursive R levels L`
abbrev pub head_of : List ℕ → List (List ℕ) → List Level → List ℕ
head_of word groups levels =
    (word ++ decimal (sum_by length groups)) ++ (codes " groups " ++ decimal (length groups))
    ++ (codes " recursive " ++ decimal (count_by (λ (level : Level). level.recursive) levels))
    ++ (codes " levels " ++ decimal (height_count levels)) ++ codes "\n"
