use Rattle.std.proofs.Common.{◌++◌, ◌∷◌, [], ap, ◌∙◌}
use Rattle.call_told.proofs.WordLemmas.{word_more}
use Rattle.call_told.proofs.wanted.push_words.Goals as goal

pub loop-word-preserved : goal.loop-word-preserved
loop-word-preserved c =
    word_more c.args.words.now c.loop-word.word-index c.word-item.result c.args.others.now.items c.loop-word.others.items c.push.new.self.items c.loop-word-test.true
    c.word-item.is c.loop-word.invariant (c.in_ok-push.ensures.items ∙ ap (λ word. c.loop-word.others.items ++ word ∷ []) (c.in_ok-new.ensures ∙ c.as_str.ensures))
