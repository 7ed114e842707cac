use Rattle.std.proofs.Common.{◌≡◌, ℕ, List, [], Bor, Some, map, take}
use Rattle.module_table.specs.FileName.{resolved}
use Rattle.group_words.specs.RootList.{all_there}
use Rattle.group_words.specs.Settings.{IsKept}
use Rattle.group_words.proofs.settings.names_of.Given as goal

abbrev pub invariant-loop-file : goal.invariant-loop-file
invariant-loop-file l =
    (names : List (List ℕ)) × ((all_there (map (λ (word : Bor (List ℕ)). resolved [] word.now) (take l.file-index l.files)) ≡ Some names) × IsKept names l.seen l.kept.items)
