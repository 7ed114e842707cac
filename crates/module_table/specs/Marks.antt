-- Properties of predicates that directives declare.
use Rattle.std.specs.Prelude.{ℕ, List, None}
use Rattle.prolog_names.specs.Names.{name_at}
use Rattle.module_table.specs.declared.mark.Mark.{Mark}
use Rattle.module_table.specs.declared.mark.Property.{Property}
use Rattle.module_table.specs.Defined.{Defines}

-- a predicate of a module is declared to have the property
pub record Marked : Type 0 where
  pub property : Property
  pub module_ : List ℕ
  pub name : List ℕ
  pub arity : ℕ

-- and so it is defined, with no clause
abbrev pub defined_bare : Marked → Defines
defined_bare own = record { module_ = own.module_; name = own.name; arity = own.arity; clause = None }

-- a mark that is kept; its names are numbers in these names
abbrev pub see_mark : List (List ℕ) → Mark → Marked
see_mark names mark = record { property = mark.property; module_ = name_at names mark.module; name = name_at names mark.name; arity = mark.arity }
