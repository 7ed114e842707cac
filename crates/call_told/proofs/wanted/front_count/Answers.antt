use Rattle.std.proofs.Common.{◌∙◌, length, arith}
use Rattle.call_told.proofs.WordLemmas.{front_at, at_end, ends_more}
use Rattle.call_told.proofs.wanted.front_count.Goals as goal

pub loop-at-preserved : goal.loop-at-preserved
loop-at-preserved c =
    ends_more c.args.words.now c.loop-at.at c.loop-at.invariant
    (at_end c.args.words.now c.loop-at.at c.index-words-at.result _ c.loop-at-test.true c.index-words-at.is c.is_end.ensures ∙ c.if-is_end.false)

pub returns-then-is_end-clause-is : goal.returns-then-is_end-clause-is
returns-then-is_end-clause-is c =
    front_at c.args.words.now c.loop-at.at (omega (arith, c.loop-at-test.true)) c.loop-at.invariant
    (λ less. at_end c.args.words.now c.loop-at.at c.index-words-at.result _ c.loop-at-test.true c.index-words-at.is c.is_end.ensures ∙ c.if-is_end.true)

pub returns-clause-is : goal.returns-clause-is
returns-clause-is c =
    front_at c.args.words.now (length c.args.words.now) (omega arith) (λ k less. c.loop-at.invariant k (omega (arith, less, c.loop-at-test.false)))
    (λ less. let none : ⊥ = omega (arith, less) in absurd none)
