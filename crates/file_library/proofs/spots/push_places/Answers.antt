use Rattle.std.proofs.Common.{◌++◌, ap, ◌∙◌}
use Rattle.file_library.proofs.spots.push_places.Goals as goal

pub returns : goal.returns
returns c =
    (c.in_ok-places.places.items, c.in_ok-places.ensures, c.in_ok-extend_from_slice.ensures.items ∙ ap (λ more. c.args.out.now.items ++ more) c.deref.ensures.value)
