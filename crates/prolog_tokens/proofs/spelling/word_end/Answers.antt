use Rattle.std.proofs.Common.{rules, ◌≡◌, true, arith}
use Rattle.prolog_tokens.specs.Chars.{class_at, continues}
use Rattle.prolog_tokens.proofs.Classes.{places_more}
use Rattle.prolog_tokens.proofs.spelling.word_end.Goals as goal

pub loop-end-preserved : goal.loop-end-preserved
loop-end-preserved c =
    let is : continues (class_at c.args.text.now c.loop-end.end) ≡ true = search rules in
    record {
      from = omega arith;
      within = omega arith;
      goes_on = places_more (λ k. continues (class_at c.args.text.now k) ≡ true) c.args.from c.loop-end.end c.loop-end.invariant.goes_on is;
    }
