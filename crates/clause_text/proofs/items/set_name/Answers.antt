use Rattle.prolog_ops.specs.Table.{ops_of}
use Rattle.clause_text.specs.Items.{name_of}
use Rattle.prolog_terms.specs.Terms.{tree_of}
use Rattle.clause_text.proofs.SetNames.{name_set}
use Rattle.clause_text.proofs.items.set_name.Goals as goal

pub returns-in-Ok-clause-done : goal.returns-in-Ok-clause-done
returns-in-Ok-clause-done c =
    name_set c.args.kind c.args.priority (record { text = c.in-Some.text.now; at = c.in-Some.at }) (ops_of c.args.table.now) (ops_of c.set.new.self) (name_of (tree_of c.args.name.now))
    c.in-Some.ensures c.in-Ok.ensures.lawful c.in-Ok.ensures.done
