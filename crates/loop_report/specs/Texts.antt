-- The report in texts, one after another.
use Rattle.std.specs.Prelude.{◌≡◌, ℕ, List, [], ◌++◌, Bool, Vec, if◌then◌else◌}
use Rattle.std.specs.List.{flat_map}
use Rattle.std.specs.declared.alloc.Global.{Global}
use Rattle.module_table.specs.Facts.{Facts}
use Rattle.import_rules.specs.declared.names.PredName.{PredName}
use Rattle.loop_report.specs.ImportLoops.{AreImportLoops}
use Rattle.loop_report.specs.Report.{loop_line, unreached_lines}

-- the bytes of texts, one after another
abbrev pub concatenated : List (Vec ℕ Global) → List ℕ
concatenated texts = flat_map (λ (text : Vec ℕ Global). text.items) texts

-- what follows the lines of the groups was added to a text
pub record HasRest (predicates : List PredName) (files : List Facts) (groups : List (List ℕ)) (unreached : Bool) (before after : List ℕ) : Type 0 where
  pub loops : List (List (List ℕ))
  pub are_loops : AreImportLoops files loops
  pub is : after ≡ before ++ (flat_map loop_line loops ++ (if unreached then unreached_lines predicates groups else []))
