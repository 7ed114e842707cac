-- One text is told of a program by `calls`, where no graph of all predicates is asked for.
use Rattle.std.proofs.Common.{◌≡◌, ◌≢◌, subst}
use Rattle.call_told.specs.declared.wanted.Form.TheVariants.{Dot}
use Rattle.call_told.specs.Told.{TellsFrom}
use Rattle.call_told.specs.Wanted.{Asked}
use Rattle.calls_tool.specs.Calls.{calls_tool}
use Rattle.tool_run.proofs.OneLoaded.{IsToldOnce, one_root_list}
use Rattle.laws.proofs.OneTold.{one_told}

pub told_once : (asked : Asked) → asked.form ≢ Dot → IsToldOnce calls_tool asked
told_once asked lines seen bytes other rising is also =
    let roots : also.roots ≡ is.roots = one_root_list asked.settings.roots seen also.roots is.roots also.are is.are in
    one_told seen is.roots asked lines bytes other is.tells (subst (λ rs. TellsFrom asked seen rs other) roots also.tells)
