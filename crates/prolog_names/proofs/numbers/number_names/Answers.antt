use Rattle.std.proofs.Common.{◌∙◌, length, [], sym, ap, arith}
use Rattle.std.proofs.lemmas.List.{append-nil}
use Rattle.prolog_tokens.proofs.Pieces.{layout_from}
use Rattle.prolog_names.specs.Names.{known_names}
use Rattle.prolog_names.specs.Table.{bytes_of}
use Rattle.prolog_names.proofs.numbers.number_names.Goals as goal

pub known_table-requires : goal.known_table-requires
known_table-requires c = omega (arith, c.requires.small, c.cut_fewer.ensures c.args.text.now c.args.tokens.now c.requires.cut)

pub number_each-requires-clause-stand : goal.number_each-requires-clause-stand
number_each-requires-clause-stand c =
    let text = c.args.text.now in
    let cut = c.requires.cut in
    (0, cut.last, cut.stand, layout_from text cut.last (length text) cut.layout, omega (arith, ap bytes_of c.in_ok-table.ensures))

pub number_each-requires-clause-opened : goal.number_each-requires-clause-opened
number_each-requires-clause-opened c = ([], c.in_ok-table.ensures ∙ sym (append-nil known_names))

pub number_each-requires-clause-room : goal.number_each-requires-clause-room
number_each-requires-clause-room c = omega (arith, ap length c.in_ok-table.ensures, c.requires.small, c.cut_fewer.ensures c.args.text.now c.args.tokens.now c.requires.cut)
