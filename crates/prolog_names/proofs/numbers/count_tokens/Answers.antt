use Rattle.std.proofs.Common.{Vec, Global, length, ap, arith}
use Rattle.std.proofs.lemmas.List.Folds.{length-flat_map-take}
use Rattle.prolog_tokens.specs.declared.token.Token.{Token}
use Rattle.prolog_names.proofs.numbers.count_tokens.Goals as goal

pub overflow_add-count : goal.overflow_add-count
overflow_add-count c =
    let rows = c.args.rows.now in
    let k = c.loop-row.row-index in
    omega (
      arith,
      c.loop-row.invariant,
      c.requires,
      c.len-count.ensures,
      ap (λ (row : Vec Token Global). length row.items) c.row-item.is,
      length-flat_map-take (λ (row : Vec Token Global). row.items) rows k c.row-item.result c.loop-row-test.true,
    )
