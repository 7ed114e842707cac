use Rattle.std.proofs.Common.{refl}
use Rattle.call_told.specs.Wanted.{AreAsked, see_wanted}
use Rattle.call_told.proofs.OneAsked.{one_asked}
use Rattle.calls_tool.specs.Calls.{calls_tool}
use Rattle.tool_run.proofs.KeepLemmas.{asked_keeps, refused_keeps}
use Rattle.calls_tool.proofs.run.run_calls.Goals as goal

pub returns-in-Ok-clause-run : goal.returns-in-Ok-clause-run
returns-in-Ok-clause-run g c =
    asked_keeps calls_tool (AreAsked c.args.words.now) (one_asked c.args.words.now) _ _ _ _ (see_wanted c.in-Ok.wanted) c.in-Ok.ensures.ok
    (λ other also. one_asked c.args.words.now other (see_wanted c.in-Ok.wanted) also c.in-Ok.ensures.ok) c.run_wanted.ensures.run

pub returns-in-Err-clause-run : goal.returns-in-Err-clause-run
returns-in-Err-clause-run g c =
    refused_keeps calls_tool (AreAsked c.args.words.now) (one_asked c.args.words.now) _ _ _ _ c.in-Err.fault c.from.result c.from.ensures refl c.in-Err.ensures.usage
    c.put_end.ensures.put
