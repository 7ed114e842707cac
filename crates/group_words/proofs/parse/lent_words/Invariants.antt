use Rattle.std.proofs.Common.{◌≡◌, map, take, All}
use Rattle.std.specs.Str.{IsUtf8}
use Rattle.group_words.proofs.parse.lent_words.Given as goal

abbrev pub invariant-loop-word : goal.invariant-loop-word
invariant-loop-word l = record {
  same : map (λ word. word.now) l.lent.items ≡ take l.word-index l.words;
  text : All IsUtf8 (map (λ word. word.now) l.lent.items);
}
