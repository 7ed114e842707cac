use Rattle.std.proofs.Common.{◌≡◌, ◌++◌, take}
use Rattle.call_told.proofs.wanted.push_words.Given as goal

-- the words so far
abbrev pub invariant-loop-word : goal.invariant-loop-word
invariant-loop-word l = l.others.items ≡ l.fn.others.items ++ take l.word-index l.words
