use Rattle.std.proofs.Common.{◌∙◌, Some, arith, inl, inr}
use Rattle.group_words.specs.Settings.{see_options}
use Rattle.group_tool.specs.Groups.{groups_tool}
use Rattle.tool_run.specs.Run.{IsReadEnd}
use Rattle.tool_run.specs.Wanted.{IsJust, one_file}
use Rattle.tool_run.specs.declared.stop.Stop.TheVariants.{NoMemory}
use Rattle.tool_run.proofs.CarryingLemmas.{carried, stopped}
use Rattle.tool_run.proofs.EndLemmas.{carries, made_end, nothing_read}
use Rattle.group_tool.proofs.loading.load_made.Goals as goal

pub returns-in_err-names : goal.returns-in_err-names
returns-in_err-names g c =
    let settings = see_options c.args.options.now in
    stopped groups_tool settings _ c.from_residual.result NoMemory c.from_residual.ensures.1 (λ library left. nothing_read groups_tool (IsJust settings) library left)

pub returns-in_err-made : goal.returns-in_err-made
returns-in_err-made g c =
    let settings = see_options c.args.options.now in
    stopped groups_tool settings _ c.from_residual-in_err-made.result NoMemory c.from_residual-in_err-made.ensures.1 (λ library left. nothing_read groups_tool (IsJust settings) library left)

pub returns : goal.returns
returns g c =
    let settings = see_options c.args.options.now in
    let made = c.in_ok-made.ensures in
    carried groups_tool settings (IsReadEnd groups_tool settings c.deref.result.now _) _ c.load_files.result
    (λ end read library left. made_end groups_tool settings c.args.count _ library c.deref.result.now end c.requires.made (c.deref.ensures.value ∙ c.in_ok-names.ensures) read
    (λ i. Some (one_file (made.named i) (made.holds i))) (λ rose. elim rose [ inl up ↦ omega (arith, up) | inr end ↦ omega (arith, end) ]) left)
    (carries groups_tool settings c.deref.result.now _ c.load_files.result c.load_files.ensures)
