-- What is kept of what the names of calls mean.
use Rattle.std.specs.Prelude.{ℕ, ◌≡◌, List, Option, Some, None, All}
use Rattle.import_rules.specs.Program.{Seen, found}
use Rattle.call_edges.specs.declared.role.Meant.{Meant}
use Rattle.call_edges.specs.declared.role.Meant.TheVariants.{Unasked, Predicate, Nothing}
use Rattle.call_edges.specs.declared.role.Met.{Met}
use Rattle.call_edges.specs.declared.role.Met.TheVariants.{Call, Fault}

-- it is right, where it was looked up
abbrev pub IsMeaning : Option ℕ → Meant → Type 0
IsMeaning target Unasked = Unit {0}
IsMeaning target (Predicate node) = target ≡ Some node
IsMeaning target Nothing = target ≡ None

abbrev pub IsMeant : Seen → Met → Type 0
IsMeant seen (Call at owner name number arity more negated meant) = IsMeaning (found seen owner.now name.now arity) meant
IsMeant seen (Fault at) = Unit {0}

abbrev pub AreMeant : Seen → List Met → Type 0
AreMeant seen mets = All (IsMeant seen) mets
