use Rattle.std.proofs.Common.{rules, Err}
use Rattle.std.specs.Cmp.Lexicographic.{slice_cmp}
use Rattle.std.specs.Ordering.{nat_cmp}
use Rattle.std.proofs.lemmas.Cmp.{nat_list_cmp_total}
use Rattle.std.proofs.lemmas.Fn.{always_returns_same}
use Rattle.list_laws.proofs.Members.{map_from}
use Rattle.import_rules.proofs.FlawSpots.{texts_sorted, text_missing, text_found}
use Rattle.import_rules.proofs.Searches.{searched}
use Rattle.import_rules.proofs.placed.text_place.Goals as goal

pub unreachable-requires : goal.unreachable-requires
unreachable-requires c =
    let found = c.in_default.ensures.position (λ text. slice_cmp nat_cmp text.0 c.args.file.now) (always_returns_same _ _ _ (λ a r g called. search rules)) in
    text_missing c.args.texts.now c.args.file.now c.requires.there.0 c.requires.there.1
    (searched (slice_cmp nat_cmp) nat_list_cmp_total (λ text. text.0) c.args.file.now c.args.texts.now (Err c.in_default.field-0)
    (texts_sorted c.args.texts.now c.requires.texts.ordered) c.in_default.ensures.bound found)

pub returns : goal.returns
returns c text has =
    let found = c.in-Ok.ensures.position (λ text. slice_cmp nat_cmp text.0 c.args.file.now) (always_returns_same _ _ _ (λ a r g called. search rules)) in
    let d = (map_from _ c.args.texts.now (c.args.file.now, text) has).0 in
    text_found c.args.texts.now c.args.file.now text c.in-Ok.place d c.requires.texts.ordered c.in-Ok.ensures.bound (found d) has
