use Rattle.std.proofs.Common.{◌+◌, drop, subst, drop_of_length-le, arith}
use Rattle.component_words.specs.Continue.{Takes}
use Rattle.component_words.proofs.Taken.{all_taken, from_start, next_word, none_taken, one_taken}
use Rattle.component_words.proofs.parse.parse_words.Goals as goal

pub loop-word-init : goal.loop-word-init
loop-word-init c = (
  c.new-reader.ensures.once,
  λ settings. from_start c.new-reader.result c.args.words.now settings c.new-reader.ensures.new.any c.new-reader.ensures.new.nothing,
)

pub returns-then-not-fits : goal.returns-then-not-fits
returns-then-not-fits c settings lawful =
    let at = c.loop-word.word-index in
    let words = c.args.words.now in
    none_taken words c.loop-word.reader c.take.new.self c.as_str.result.now (drop at words) (drop (at + 1) words) settings (c.loop-word.invariant.1 settings)
    (next_word words at c.word-item.result c.as_str.result.now c.loop-word-test.true c.word-item.is c.as_str.ensures)
    (subst (Takes c.loop-word.reader c.as_str.result.now c.take.new.self) c.if-not-fits.true c.in_ok-fits.ensures.takes) lawful

pub loop-word-preserved : goal.loop-word-preserved
loop-word-preserved c = (
  c.in_ok-fits.ensures.once,
  λ settings.
      let at = c.loop-word.word-index in
      let words = c.args.words.now in
      one_taken words c.loop-word.reader c.take.new.self c.as_str.result.now (drop at words) (drop (at + 1) words) settings (c.loop-word.invariant.1 settings)
      (next_word words at c.word-item.result c.as_str.result.now c.loop-word-test.true c.word-item.is c.as_str.ensures)
      (subst (Takes c.loop-word.reader c.as_str.result.now c.take.new.self) c.if-not-fits.false c.in_ok-fits.ensures.takes),
)

pub returns : goal.returns
returns c =
    all_taken c.settings.result c.args.words.now c.loop-word.reader (drop c.loop-word.word-index c.args.words.now)
    (drop_of_length-le c.args.words.now (omega (arith, c.loop-word-test.false))) c.loop-word.invariant.1 c.settings.ensures
