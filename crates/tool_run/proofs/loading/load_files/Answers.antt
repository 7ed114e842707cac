use Rattle.file_library.specs.SortedOut.{see_loaded}
use Rattle.tool_run.specs.Stop.{of_loading}
use Rattle.tool_run.proofs.EndLemmas.{load_stopped, loaded_so, stopped_loading}
use Rattle.tool_run.proofs.loading.load_files.Goals as goal

pub returns-in_err-loaded : goal.returns-in_err-loaded
returns-in_err-loaded g c =
    stopped_loading c.args.names.now _ c.from_residual.result (of_loading c.in_err-loaded.field-0.0) c.from_residual.ensures.1
    (load_stopped c.args.names.now _ c.in_err-loaded.field-0.0 c.in_err-loaded.ensures.ended c.in_err-loaded.ensures.failed)

pub returns : goal.returns
returns g c = loaded_so c.args.names.now _ (see_loaded c.in_ok-loaded.loaded) c.load_loaded.result c.in_ok-loaded.ensures.ended c.load_loaded.ensures
