use Rattle.std.proofs.Common.{◌≡◌, ◌+◌, refl, arith}
use Rattle.prolog_tokens.specs.declared.chars.Class.TheVariants.{Inner}
use Rattle.prolog_tokens.specs.Chars.{class_at}
use Rattle.prolog_tokens.proofs.Classes.{places_more}
use Rattle.prolog_tokens.proofs.chars.char_end.Goals as goal

pub loop-end-preserved : goal.loop-end-preserved
loop-end-preserved c = record {
  some = omega arith;
  within = omega arith;
  inner = λ k from below. places_more (λ j. class_at c.args.bytes.now j ≡ Inner) (c.args.at + 1) c.loop-end.end (λ j more less. c.loop-end.invariant.inner j (omega arith) less)
      (c.if-not-is_inner.ensures.0 refl) k (omega arith) below;
}
