-- Where the facts of a file stand.
use Rattle.std.specs.Prelude.{ℕ, ◌≡◌, List, All, true}
use Rattle.prolog_tokens.specs.Places.{IsOffset}
use Rattle.clause_text.specs.Offsets.{HasOffsets}
use Rattle.module_table.specs.declared.indicator.Indicator.{Indicator}
use Rattle.module_table.specs.Defined.{Predicate}
use Rattle.module_table.specs.Metas.{Declaration}
use Rattle.module_table.specs.Said.{Loads}
use Rattle.module_table.specs.Facts.{Facts}

-- all that the facts keep stands at offsets of the text: a declared module, exports, loads and what they import, clauses, declarations of goal arguments, goals
pub record ArePlacedIn (text : List ℕ) (facts : Facts) : Type 0 where
  pub of_module : facts.is_module ≡ true → IsOffset text facts.module_from
  pub of_exports : All (λ (i : Indicator). IsOffset text i.from) facts.exports
  pub of_loads : All (λ (load : Loads). IsOffset text load.from) facts.loads
  pub of_items : All (λ (load : Loads). All (λ (i : Indicator). IsOffset text i.from) load.items) facts.loads
  pub of_clauses : All (λ (p : Predicate). All (HasOffsets text) p.clauses) facts.defined
  pub of_metas : All (λ (d : Declaration). IsOffset text d.from) facts.metas
  pub of_goals : All (HasOffsets text) facts.goals
