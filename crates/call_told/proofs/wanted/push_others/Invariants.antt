use Rattle.std.proofs.Common.{◌≡◌, ◌++◌, filter, take}
use Rattle.call_told.specs.Wanted.{is_other}
use Rattle.call_told.proofs.wanted.push_others.Given as goal

-- those of the words so far
abbrev pub invariant-loop-word : goal.invariant-loop-word
invariant-loop-word l = l.others.items ≡ l.fn.others.items ++ filter is_other (take l.word-index l.words)
