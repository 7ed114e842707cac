use Rattle.std.proofs.Common.{◌≡◌, Some, sym, ap, ◌∙◌}
use Rattle.std.specs.Prelude.{slice_get}
use Rattle.std.proofs.lemmas.Option.{slice_get-get_or}
use Rattle.prolog_names.specs.Names.{name_at}
use Rattle.import_rules.proofs.OwnSteps.{place_kept, same_from_not}
use Rattle.import_rules.proofs.own_names.keep_place.Goals as goal

pub returns-clause-kept : goal.returns-clause-kept
returns-clause-kept c = λ predicates numbered so_far.
    let files = c.args.files.now in
    let place = c.args.place.0 in
    let part = c.args.place.1 in
    let file = c.in-Some.file.now in
    let d = c.in-Some-get.defined.now in
    let parts = c.deref.result.now in
    let at_place : slice_get files place ≡ Some file =
    slice_get-get_or files place file c.in-Some.ensures.lookup.3.0 ∙ ap (λ f. Some f) (sym c.in-Some.ensures.lookup.1) in
    let at_part : slice_get file.defined.items part ≡ Some d =
    ap (λ ds. slice_get ds part) (sym c.deref.ensures.value)
    ∙ (slice_get-get_or parts part d c.in-Some-get.ensures.lookup.3.0 ∙ ap (λ e. Some e) (sym c.in-Some-get.ensures.lookup.1)) in
    let home : name_at file.names d.module ≡ file.module =
    sym c.text.ensures ∙ same_from_not c.text.result.now c.as_str.result.now c.if-ne.ensures ∙ c.as_str.ensures in
    place_kept files predicates c.args.lists.now c.keep_in.new.lists place part c.args.node file d at_place at_part home c.keep_in.ensures.kept numbered so_far
