use Rattle.std.proofs.Common.{◌≡◌, ◌<◌, length, get_or, sym, ap, subst, ◌∙◌, arith}
use Rattle.std.specs.Cmp.Lexicographic.{bytes_decides}
use Rattle.byte_names.specs.Seats.{IsNameAt}
use Rattle.byte_names.proofs.NameLists.{as_many, name_read}
use Rattle.byte_names.proofs.name_table.NameTable.is_at.Goals as goal

pub returns-in-Some : goal.returns-in-Some
returns-in-Some c is =
    let names = c.self.inside.names.items in
    let name = c.in-Some.other.now in
    let within : c.args.place < length names = subst (λ ns. c.args.place < length ns) c.deref.ensures.value c.in-Some.ensures.lookup.3.0 in
    let read : name ≡ get_or names c.args.place name = c.in-Some.ensures.lookup.1 ∙ ap (λ ns. get_or ns c.args.place name) c.deref.ensures.value in
    let same : name.now ≡ c.args.name.now = (bytes_decides name.now c.args.name.now).0 (sym c.eq.ensures ∙ is) in
    subst (λ ns. IsNameAt ns c.args.place c.args.name.now) c.self.view_is
    (record { within = omega (arith, within, as_many names); named = name_read names c.args.place name within read ∙ same })
