-- Which predicates directives declare dynamic or multifile.
use Rattle.std.specs.Prelude.{ℕ, ◌≡◌, Some}
use Rattle.module_table.specs.declared.mark.Property.{Property}
use Rattle.module_table.specs.declared.mark.Property.TheVariants.{Dynamic, Multifile}
use Rattle.module_table.specs.Marks.{Marked}
use Rattle.module_table.specs.Facts.{Facts}
use Rattle.import_rules.specs.Program.{Seen, found}
use Rattle.call_edges.specs.Calls.{IsAmong}

-- the property is declared of a name that means the predicate
pub record IsDeclaredBy (seen : Seen) (property : Property) (mark : Marked) (q : ℕ) : Type 0 where
  pub is : mark.property ≡ property
  pub means : found seen mark.module_ mark.name mark.arity ≡ Some q

-- by a directive of the file
abbrev pub IsDeclaredIn : Seen → Property → Facts → ℕ → Type 0
IsDeclaredIn seen property file q = IsAmong (IsDeclaredBy seen property) file.marks q

-- by a directive of any file
abbrev pub IsDeclared : Seen → Property → ℕ → Type 0
IsDeclared seen property q = IsAmong (IsDeclaredIn seen property) seen.loaded.files q

abbrev pub IsDynamic : Seen → ℕ → Type 0
IsDynamic seen q = IsDeclared seen Dynamic q

abbrev pub IsMultifile : Seen → ℕ → Type 0
IsMultifile seen q = IsDeclared seen Multifile q
