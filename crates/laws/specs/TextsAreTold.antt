-- That no text is without an answer.
use Rattle.std.specs.Prelude.{ℕ, List, ◌⊎◌}
use Rattle.module_table.specs.Facts.{Facts}
use Rattle.module_table.specs.FileText.{HasFacts, HasFault}
use Rattle.module_table.specs.Said.{Refusal}

-- each text has its facts in a file of each name, or its fault
abbrev pub TextsAreTold : Type 0
TextsAreTold = (name text : List ℕ) → ((facts : Facts) × HasFacts name text facts) ⊎ ((refusal : Refusal) × HasFault name text refusal)
