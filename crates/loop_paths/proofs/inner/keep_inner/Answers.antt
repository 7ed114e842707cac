use Rattle.std.proofs.Common.{◌≡◌, ◌==◌, ◌∙◌, ap, get_or, rules}
use Rattle.std.specs.List.{filter}
use Rattle.std.proofs.lemmas.Fn.{filter_same}
use Rattle.loop_paths.proofs.inner.keep_inner.Goals as goal

pub returns : goal.returns
returns c =
    let places = c.args.places.now in
    let callees = c.args.callees.now.items in
    let kept : c.retain.new.self.items ≡ filter (λ q. get_or places q 0 == c.place_of-own.result) callees =
    filter_same _ _ _ (λ x b f' k. search rules) _ _ c.retain.ensures.filtered in
    kept ∙ ap (λ own. filter (λ q. get_or places q 0 == own) callees) c.place_of-own.ensures
