-- What is marked at predicates.
use Rattle.std.specs.Prelude.{ℕ, ◌≡◌, ◌<◌, ◌↔◌, List, Bool, true, false, Contains, length, slice_index_or}
use Rattle.import_rules.specs.Program.{Seen}
use Rattle.call_edges.specs.Properties.{IsDynamic, IsMultifile}
use Rattle.call_edges.specs.RootReasons.{IsExported, IsRootByDirective, IsRootByExport, IsRootByFile}
use Rattle.call_table.specs.declared.marks.Marks.{Marks}
use Rattle.call_table.specs.declared.marks.NodeMarks.{NodeMarks}

-- of the numbers below the count just those are marked of which it is true
pub record AreMarks (count : ℕ) (P : ℕ → Type 0) (marks : List Bool) : Type 0 where
  pub each : length marks ≡ count
  pub is : (q : ℕ) → q < count → (slice_index_or marks q false ≡ true) ↔ P q

-- marks of the predicates of a program, by their numbers; and whether a list names where reach begins
pub record ProgramMarks : Type 0 where
  pub listed : Bool
  pub roots : List Bool
  pub exported : List Bool
  pub by_export : List Bool
  pub by_directive : List Bool
  pub by_file : List Bool
  pub dynamic : List Bool
  pub multifile : List Bool

abbrev pub see_marks : Marks → ProgramMarks
see_marks m = record {
  listed = m.listed;
  roots = m.roots.items;
  exported = m.exported.items;
  by_export = m.by_export.items;
  by_directive = m.by_directive.items;
  by_file = m.by_file.items;
  dynamic = m.dynamic.items;
  multifile = m.multifile.items;
}

-- which predicates reach begins at, which of them modules export, at which it would begin without a list, by the reason,
-- and which of them directives declare dynamic and multifile
pub record AreMarked (listed : Bool) (seen : Seen) (roots : List ℕ) (marks : ProgramMarks) : Type 0 where
  pub listed_is : marks.listed ≡ listed
  pub roots_are : AreMarks (length seen.predicates) (Contains roots) marks.roots
  pub exported_are : AreMarks (length seen.predicates) (IsExported seen) marks.exported
  pub by_export_are : AreMarks (length seen.predicates) (IsRootByExport seen) marks.by_export
  pub by_directive_are : AreMarks (length seen.predicates) (IsRootByDirective seen) marks.by_directive
  pub by_file_are : AreMarks (length seen.predicates) (IsRootByFile seen) marks.by_file
  pub dynamic_are : AreMarks (length seen.predicates) (IsDynamic seen) marks.dynamic
  pub multifile_are : AreMarks (length seen.predicates) (IsMultifile seen) marks.multifile

-- those of one predicate
abbrev pub marks_at : ProgramMarks → ℕ → NodeMarks
marks_at marks q = record {
  listed = marks.listed;
  root = slice_index_or marks.roots q false;
  exported = slice_index_or marks.exported q false;
  by_export = slice_index_or marks.by_export q false;
  by_directive = slice_index_or marks.by_directive q false;
  by_file = slice_index_or marks.by_file q false;
  dynamic = slice_index_or marks.dynamic q false;
  multifile = slice_index_or marks.multifile q false;
}

-- there is a mark for each of so many predicates
pub record AreEach (count : ℕ) (marks : ProgramMarks) : Type 0 where
  pub roots : length marks.roots ≡ count
  pub exported : length marks.exported ≡ count
  pub by_export : length marks.by_export ≡ count
  pub by_directive : length marks.by_directive ≡ count
  pub by_file : length marks.by_file ≡ count
  pub dynamic : length marks.dynamic ≡ count
  pub multifile : length marks.multifile ≡ count
