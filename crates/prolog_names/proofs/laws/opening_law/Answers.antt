use Rattle.std.proofs.Common.{◌≡◌, [], ◌∙◌, arith}
use Rattle.std.proofs.lemmas.List.{get_or_append_left}
use Rattle.prolog_names.specs.Names.{name_at, goal_names, opening_names}
use Rattle.prolog_names.proofs.OneNumber.{known_at}
use Rattle.prolog_names.proofs.laws.opening_law.Goals as goal

pub returns-clause-named : goal.returns-clause-named
returns-clause-named c = λ k below.
    known_at c.args.names.now c.names_law.ensures.opened k (omega (arith, below)) ∙ get_or_append_left opening_names goal_names [] k below

pub returns-clause-others : goal.returns-clause-others
returns-clause-others c = λ number k from some below same.
    let here : name_at c.args.names.now k ≡ name_at opening_names k =
    known_at c.args.names.now c.names_law.ensures.opened k (omega (arith, below)) ∙ get_or_append_left opening_names goal_names [] k below in
    let one : k ≡ number = c.names_law.ensures.only k number (here ∙ same) some in omega (arith, one, from, below)
