-- From a program to the end of a run.
use Rattle.std.proofs.Common.{◌≡◌, Result, Ok, Err, IsErrAnd, sym, subst}
use Rattle.import_rules.specs.declared.program.Program.{Program}
use Rattle.tool_run.specs.declared.stop.Stop.{Stop}
use Rattle.tool_run.specs.Carrying.{CarriesOn}
use Rattle.tool_run.specs.End.{End}
use Rattle.tool_run.specs.Stop.{end_of_stop}
use Rattle.tool_run.specs.Tool.{Tool}

module _ {A : Type 0} (tool : Tool A) (asked : A) where
  -- the stop is of this kind
  pub stopped : (ends : End → Type 0) (r : Result Program Stop) (stop : Stop) → IsErrAnd r (λ found. found ≡ stop) → ends (end_of_stop stop)
      → CarriesOn tool asked ends r
  stopped ends (Ok program) stop is cause = absurd is
  stopped ends (Err found) stop is cause = subst (λ s. ends (end_of_stop s)) (sym is) cause

  -- ends of one kind are of another
  pub carried : (ends others : End → Type 0) (r : Result Program Stop) → ((end : End) → ends end → others end) → CarriesOn tool asked ends r
      → CarriesOn tool asked others r
  carried ends others (Ok program) to is = λ end comes. to end (is end comes)
  carried ends others (Err stop) to is = to (end_of_stop stop) is
