use Rattle.std.proofs.Common.{◌≡◌, ◌<◌, ◌-◌, length, sym, ap, ◌∙◌, arith}
use Rattle.std.specs.Cmp.Lexicographic.{bytes_decides}
use Rattle.byte_names.specs.Names.{name_at, names_of}
use Rattle.byte_names.proofs.NameLists.{as_many, name_read}
use Rattle.byte_names.proofs.ranked.is_last.Goals as goal

pub returns-in-Some : goal.returns-in-Some
returns-in-Some c =
    let names = c.args.names.now in
    let name = c.in-Some.last.now in
    let some : 0 < length names = c.in-Some.ensures.item.3.0 in
    let end : length names - 1 < length names = omega (arith, some) in
    let at : name_at (names_of names) (length (names_of names) - 1) ≡ name.now =
    ap (λ n. name_at (names_of names) (n - 1)) (as_many names) ∙ name_read names (length names - 1) name end (c.in-Some.ensures.item.3.1 name) in
    let same = bytes_decides name.now c.args.name.now in (
      λ is. record { some = omega (arith, some, as_many names); is = at ∙ same.0 (sym c.eq.ensures ∙ is) },
      λ has. c.eq.ensures ∙ same.1 (sym at ∙ has.is),
    )
