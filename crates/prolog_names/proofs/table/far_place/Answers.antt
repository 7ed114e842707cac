use Rattle.std.proofs.Common.{◌≡◌, [], sym, ap}
use Rattle.std.specs.Cmp.Lexicographic.{slice_cmp}
use Rattle.std.specs.Map.{lookup}
use Rattle.std.specs.Ordering.{is_eq, nat_cmp}
use Rattle.std.specs.String.{string_bytes}
use Rattle.std.proofs.lemmas.List.{nil_from_length}
use Rattle.prolog_names.proofs.table.far_place.Goals as goal

pub returns-then-is_empty : goal.returns-then-is_empty
returns-then-is_empty c =
    let none : c.args.far.now.entries ≡ [] = nil_from_length c.args.far.now.entries (c.is_empty.ensures.0 c.if-is_empty.true) in
    sym (ap (lookup (λ key. is_eq (slice_cmp nat_cmp c.args.name.now (string_bytes key)))) none)

pub returns : goal.returns
returns c = c.get.ensures.value
