use Rattle.call_told.specs.Wanted.{see_wanted}
use Rattle.calls_tool.specs.Calls.{calls_tool}
use Rattle.tool_run.specs.Stop.{end_of}
use Rattle.tool_run.specs.Wanted.{IsJust}
use Rattle.tool_run.proofs.KeepLemmas.{just_one, put_keeps}
use Rattle.calls_tool.proofs.run.run_wanted.Goals as goal

pub returns-clause-run : goal.returns-clause-run
returns-clause-run g c =
    let asked = see_wanted c.args.wanted.now in
    put_keeps calls_tool (IsJust asked) (just_one asked) _ _ _ _ (end_of c.tell-told.result) c.tell-told.ensures c.put_end.ensures.put
