use Rattle.std.proofs.Common.{◌↔◌, drop}
use Rattle.component_words.specs.Continue.{Continues}
use Rattle.component_words.specs.Settings.{AreLawful, IsOnce, Settings}
use Rattle.component_words.proofs.parse.parse_words.Given as goal

-- the words are lawful just if the reader goes on by those that are left
abbrev pub invariant-loop-word : goal.invariant-loop-word
invariant-loop-word l =
    IsOnce l.reader.flags.items × ((settings : Settings) → AreLawful l.words settings ↔ Continues l.reader (drop l.word-index l.words) settings)
