use Rattle.std.proofs.Common.{◌≡◌, ℕ, List, All, map, take}
use Rattle.std.specs.List.{list_any}
use Rattle.std.specs.Ordering.{nat_cmp}
use Rattle.std.specs.Cmp.Lexicographic.{slice_cmp}
use Rattle.std.specs.BTreeSet.{contains}
use Rattle.module_table.specs.Facts.{see_facts}
use Rattle.import_rules.specs.KnownFiles.{IsKnownIn, declares, see_known}
use Rattle.import_rules.proofs.known_file.known_files.Given as goal

-- the files so far are known, and their modules are declared
abbrev pub invariant-loop-file : goal.invariant-loop-file
invariant-loop-file l =
    (map see_known l.known.items ≡ take l.file-index (map see_facts l.files)) × All (IsKnownIn (map see_facts l.files)) l.known.items
    × ((own : List ℕ) → contains (slice_cmp nat_cmp) l.declared own ≡ list_any (declares own) (take l.file-index (map see_facts l.files)))
