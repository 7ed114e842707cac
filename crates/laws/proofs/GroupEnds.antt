-- What `groups` tells of a program.
use Rattle.std.proofs.Common.{◌≡◌, ℕ, ◌<◌, ◌≤◌, ◌^◌, Option, Some, None, arith}
use Rattle.std.specs.Option.{IfSome}
use Rattle.group_words.specs.Settings.{Settings}
use Rattle.group_tool.specs.Groups.{groups_tool}
use Rattle.laws.specs.AnswerLayers.{ReportsExist, OrderReportsExist}
use Rattle.laws.proofs.LoadedEnds.{CanTell, ProgramLaws}
use Rattle.laws.proofs.NamedRoots.{some_roots, all_below}
use Rattle.laws.proofs.PartBytes.{PartLaws, roots_there}
use Rattle.laws.proofs.ReportBytes.{GraphLaws, SomeSearch, some_report}

-- searches that are wanted are one at least
pub some_search : (searches : Option (ℕ × ℕ)) (jobs : ℕ) → IfSome searches (λ (both : ℕ × ℕ). (1 ≤ both.0) × (both.0 ≤ 64) × (both.1 < 2 ^ 64) × (jobs ≡ 1)) → SomeSearch searches
some_search None jobs within = tt
some_search (Some both) jobs within = omega (arith, within.0)

module _ (laws : ProgramLaws) (graphs : GraphLaws) (reported : ReportsExist) (in_order : OrderReportsExist) (parted : PartLaws) where
  pub can_report : (settings : Settings) → SomeSearch settings.searches → CanTell groups_tool settings
  can_report settings some found seen was program has =
      let roots = some_roots laws.roots settings.roots seen program.numbered.in_order (roots_there settings.path settings.roots seen has) in
      let below = all_below laws.below settings.roots seen roots.0 roots.1 in
      some_report graphs reported in_order parted settings seen roots.0 some roots.1 has below
