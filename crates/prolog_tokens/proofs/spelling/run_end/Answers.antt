use Rattle.std.proofs.Common.{rules, ◌≡◌, true, arith}
use Rattle.prolog_tokens.specs.Chars.{class_at, is_graphic}
use Rattle.prolog_tokens.proofs.Classes.{places_more}
use Rattle.prolog_tokens.proofs.spelling.run_end.Goals as goal

pub loop-end-init : goal.loop-end-init
loop-end-init c = record {
  some = omega arith;
  within = omega arith;
  graphic = places_more (λ k. is_graphic (class_at c.args.text.now k) ≡ true) c.args.start c.args.start (λ k from below. absurd (omega arith)) c.requires.graphic;
}

pub loop-end-preserved : goal.loop-end-preserved
loop-end-preserved c =
    let is : is_graphic (class_at c.args.text.now c.loop-end.end) ≡ true = search rules in
    record {
      some = omega arith;
      within = omega arith;
      graphic = places_more (λ k. is_graphic (class_at c.args.text.now k) ≡ true) c.args.start c.loop-end.end c.loop-end.invariant.graphic is;
    }
