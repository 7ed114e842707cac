use Rattle.std.proofs.Common.{◌∙◌}
use Rattle.std.proofs.lemmas.Result.{on_ok_weaker}
use Rattle.search_stack.proofs.plain_search.open_node.Goals as goal

pub returns-clause-good : goal.returns-clause-good
returns-clause-good g c =
    on_ok_weaker c.push.result
    (λ pushed roots done good root.
    pushed (g.O.Opener.lists c.args.opener.now) roots done good (c.deref.ensures.value ∙ c.in_ok-expand.ensures.ok) root)
    c.push.ensures.good
