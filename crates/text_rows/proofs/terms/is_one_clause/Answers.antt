use Rattle.std.proofs.Common.{Some, ap, ◌∙◌, arith}
use Rattle.std.specs.Prelude.{option_map}
use Rattle.text_rows.proofs.terms.is_one_clause.Goals as goal

pub returns : goal.returns
returns c = λ whole.
    record {
      some = omega arith;
      one_end = λ k token below stands is. c.loop-k.invariant k (omega arith) (ap (option_map (λ t. t.kind)) stands ∙ ap (λ x. Some x) is);
    }
