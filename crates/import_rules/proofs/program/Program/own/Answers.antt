use Rattle.std.proofs.Common.{◌≡◌, Some, subst}
use Rattle.std.specs.Prelude.{Contains, MatchOption, slice_get}
use Rattle.import_rules.specs.Program.{Seen}
use Rattle.import_rules.proofs.program.Program.own.Goals as goal

pub returns : goal.returns
returns c =
    subst (λ (s : Seen). MatchOption c.own.result (Contains s.predicates c.args.name.now → ⊥) (λ node. slice_get s.predicates node ≡ Some c.args.name.now))
    c.self.view_is c.own.ensures
