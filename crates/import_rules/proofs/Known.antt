-- What is known of each program.
use Rattle.std.proofs.Common.{◌≡◌, List, true, All, Contains, sym, subst, arith}
use Rattle.std.specs.List.{list_any}
use Rattle.std.proofs.Math.Logic.{∥∥₁_elim}
use Rattle.std.proofs.Props.{props}
use Rattle.std.proofs.lemmas.List.Elements.{All-weaker}
use Rattle.module_table.specs.Facts.{Facts}
use Rattle.file_library.specs.SortedOut.{see_loaded}
use Rattle.import_rules.specs.declared.names.PredName.{PredName}
use Rattle.import_rules.specs.declared.program_tables.ProgramTables.{ProgramTables}
use Rattle.import_rules.specs.ClauseEnds.{StandApart, AllStandApart}
use Rattle.import_rules.specs.Files.{AreNumbered, all_defined}
use Rattle.import_rules.specs.Names.{is_same}
use Rattle.import_rules.specs.Parts.{names_at}
use Rattle.import_rules.specs.Program.{see_program, IsKnown, IsReadFrom}
use Rattle.import_rules.proofs.Lists.{any_there, any_from}
use Rattle.import_rules.proofs.Loaded.{few_files, was_read, were_apart}
use Rattle.import_rules.proofs.NameOrder.{same_parts, same_itself}
use Rattle.import_rules.proofs.Props.{apart_prop, read_prop, zip_prop}
use Rattle.import_rules.proofs.Seen.{count_is}

-- names that all stand in a list, by a test and by their places

tested : (names all : List PredName) → All (Contains all) names → All (λ p. list_any (is_same p) all ≡ true) names
tested names all there = All-weaker (Contains all) (λ p. list_any (is_same p) all ≡ true) (λ p has. any_there (is_same p) all p has (same_itself p)) names there

there_from : (names all : List PredName) → All (λ p. list_any (is_same p) all ≡ true) names → All (Contains all) names
there_from names all passes =
    All-weaker (λ p. list_any (is_same p) all ≡ true) (Contains all)
    (λ p is. let found = any_from (is_same p) all is in subst (Contains all) (sym (same_parts p found.0 found.2)) found.1) names passes

-- a numbering that is known to be there
pub numbered_from : (files : List Facts) (predicates : List PredName) → ∥ AreNumbered files predicates ∥₁ → AreNumbered files predicates
numbered_from files predicates some = record {
  in_order = ∥∥₁_elim some (hlevel props) (λ are. are.in_order);
  defined = there_from predicates (all_defined files)
      (∥∥₁_elim some (hlevel props) (λ are. tested predicates (all_defined files) are.defined));
  all = there_from (all_defined files) predicates (∥∥₁_elim some (hlevel props) (λ are. tested (all_defined files) predicates are.all));
}

pub known : (p : ProgramTables) → IsKnown (see_program p)
unfolding see_program
known p =
    let loaded = see_loaded p.loaded in record {
      numbered = numbered_from loaded.files (names_at p.loaded.files.items p.places.items) p.numbered;
      few = omega (arith, p.few, count_is p);
      few_files = ∥∥₁_elim p.was_loaded (hlevel props) (λ was. few_files loaded was);
      roots = ∥∥₁_elim p.was_loaded (hlevel props) (λ was. was.is.root_names.ordered);
      ordered = ∥∥₁_elim p.was_loaded (hlevel props) (λ was. was.is.ordered);
      read = ∥∥₁_elim p.was_loaded (zip_prop IsReadFrom read_prop loaded.texts loaded.files) (λ was. was_read loaded was);
    }

pub apart : (p : ProgramTables) → AllStandApart (see_program p)
unfolding see_program
apart p =
    let loaded = see_loaded p.loaded in
    ∥∥₁_elim p.was_loaded (zip_prop StandApart apart_prop loaded.texts loaded.files) (λ was. were_apart loaded was)
