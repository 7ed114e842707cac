use Rattle.std.proofs.Common.{ap, ◌∙◌}
use Rattle.prolog_terms.specs.Terms.{tree_of}
use Rattle.clause_text.specs.Items.{has_some, items_by, item_of}
use Rattle.clause_text.proofs.HasItems.{some_alone}
use Rattle.clause_text.proofs.items.goal_has_items.Goals as goal

pub returns-in-None : goal.returns-in-None
returns-in-None c =
    c.is_item.ensures
    ∙ (some_alone (item_of (tree_of c.args.goal.now)) ∙ ap (λ sides. has_some (items_by sides (item_of (tree_of c.args.goal.now)))) c.in-None.ensures.trees)
