use Rattle.std.proofs.Common.{map, ap, sym, ◌∙◌}
use Rattle.prolog_terms.specs.Tree.{Tree}
use Rattle.prolog_terms.specs.Views.{joined}
use Rattle.group_words.specs.RootList.{list_tree, named_predicate, all_there}
use Rattle.group_words.proofs.RootLists.{not_all_there}
use Rattle.group_words.proofs.root_list.read_roots.Goals as goal

pub returns-in_default : goal.returns-in_default
returns-in_default c roots is = (rw c.in_default.is at c.in_ok-read.ensures) is.tree is.list

pub returns : goal.returns
returns c roots is =
    let none = rw c.if-branch.false at c.in_ok-push_joined.ensures in
    let tree : Tree = list_tree c.in-Some.read in
    not_all_there c.args.list.now tree (rw c.in-Some.is at c.in_ok-read.ensures)
    (ap (λ t. all_there (map named_predicate (joined t))) (sym c.root-term.ensures.tree) ∙ none) roots is
