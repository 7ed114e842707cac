use Rattle.std.proofs.Common.{List, ℕ, [], ◌∷◌, ◌++◌, ap, ◌∙◌}
use Rattle.group_release.specs.Coding.{lists_from}
use Rattle.group_release.proofs.Coding.{back_again}
use Rattle.group_feed.proofs.trail.Trail.add.Goals as goal

pub returns : goal.returns
returns c =
    ap lists_from c.of-groups.ensures ∙ back_again (lists_from c.self.inside.groups.numbers ++ c.args.group.now ∷ [])
    ∙ ap (λ (t : List (List ℕ)). t ++ c.args.group.now ∷ []) c.self.view_is
