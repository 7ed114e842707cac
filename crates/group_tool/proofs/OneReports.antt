-- A program has one report, in whatever legal order its groups are.
use Rattle.std.proofs.Common.{◌≡◌, ℕ, ◌++◌, codes, List, Bool, true, false, Option, Some, None, ap₂, sym, ◌∙◌, subst}
use Rattle.group_release.specs.declared.level.Level.{Level}
use Rattle.import_rules.specs.Program.{Seen}
use Rattle.call_edges.specs.Calls.{NodeCalls}
use Rattle.report_lines.specs.Reportable.{AreLeveled}
use Rattle.group_words.specs.Settings.{Settings}
use Rattle.report_lines.proofs.OneHead.{same_head}
use Rattle.loop_report.proofs.OneReport.{same_report}
use Rattle.tool_run.proofs.OneLoaded.{IsToldOnce, one_root_list}
use Rattle.tool_run.proofs.RootLemmas.{AreRising}
use Rattle.group_tool.specs.Groups.{IsOutput, ReportsProgram, groups_tool}
use Rattle.group_tool.proofs.OneParts.{same_parts}

same_output : (make : Option ℕ) (order unreached : Bool) (seen : Seen) (roots : List ℕ) (groups others : List (List ℕ)) (levels marks : List Level) (bytes other : List ℕ)
    → order ≡ false → AreLeveled (NodeCalls seen) roots groups levels → AreLeveled (NodeCalls seen) roots others marks → IsOutput make order unreached seen groups levels bytes
    → IsOutput make order unreached seen others marks other → bytes ≡ other
same_output (Some count) order unreached seen roots groups others levels marks bytes other unordered a b is also = is ∙ (same_head (codes "predicates ") a b ∙ sym also)
same_output None true unreached seen roots groups others levels marks bytes other unordered a b is also = cc
same_output None false unreached seen roots groups others levels marks bytes other unordered a b is also =
    same_report seen.predicates seen.loaded.files unreached bytes other a b is also

one_report_of : (settings : Settings) (seen : Seen) (bytes other : List ℕ) → AreRising seen.predicates → settings.order ≡ false → ReportsProgram settings seen bytes → ReportsProgram settings seen other → bytes ≡ other
one_report_of settings seen bytes other rising unordered is also =
    let roots : also.roots ≡ is.roots = one_root_list settings.roots seen also.roots is.roots also.are_roots is.are_roots in
    let leveled : AreLeveled (NodeCalls seen) is.roots also.groups also.levels = subst (λ rs. AreLeveled (NodeCalls seen) rs also.groups also.levels) roots also.leveled in
    is.is
    ∙ (ap₂ (λ a b. a ++ b)
    (same_output settings.make settings.order settings.unreached seen is.roots is.groups also.groups is.levels also.levels is.report also.report unordered is.leveled leveled is.output also.output)
    (same_parts settings seen is.roots is.groups also.groups is.levels also.levels is.parts also.parts rising is.leveled leveled is.are_parts also.are_parts)
    ∙ sym also.is)

-- and so `groups` tells one text of it, where the order of the groups is not asked for
pub reported_once : (settings : Settings) → settings.order ≡ false → IsToldOnce groups_tool settings
reported_once settings unordered seen bytes other rising is also = one_report_of settings seen bytes other rising unordered is also
