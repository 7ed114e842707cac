use Rattle.std.proofs.Common.{◌++◌, ◌∷◌, [], ap, sym, ◌∙◌}
use Rattle.call_told.proofs.WordLemmas.{other_skip, other_more}
use Rattle.call_told.proofs.wanted.push_others.Goals as goal

pub loop-word-preserved-then-is_form : goal.loop-word-preserved-then-is_form
loop-word-preserved-then-is_form c =
    other_skip c.args.words.now c.loop-word.word-index c.word-item.result c.args.others.now.items c.loop-word.others.items c.loop-word-test.true c.word-item.is
    (sym c.is_form.ensures ∙ c.if-is_form.true) c.loop-word.invariant

pub loop-word-preserved : goal.loop-word-preserved
loop-word-preserved c =
    other_more c.args.words.now c.loop-word.word-index c.word-item.result c.args.others.now.items c.loop-word.others.items c.push.new.self.items c.loop-word-test.true
    c.word-item.is (sym c.is_form.ensures ∙ c.if-is_form.false) c.loop-word.invariant
    (c.in_ok-push.ensures.items ∙ ap (λ word. c.loop-word.others.items ++ word ∷ []) (c.in_ok-new.ensures ∙ c.as_str.ensures))
