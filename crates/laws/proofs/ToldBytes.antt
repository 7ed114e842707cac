-- What is told of a program.
use Rattle.std.proofs.Common.{◌≤◌, ◌<◌, ◌++◌, ◌==◌, ◌||◌, not, ℕ, Bool, false, true, List, All, get_or, length, refl, arith}
use Rattle.std.specs.Prelude.{is_some}
use Rattle.std.specs.List.{range_with_len}
use Rattle.std.proofs.lemmas.List.Sums.{count_by-le-length, length-filter}
use Rattle.std.proofs.lemmas.List.FromFn.{length-range_with_len}
use Rattle.graph_law.specs.Graph.{Calls, IsClosed}
use Rattle.graph_law.specs.Classes.{HasMember}
use Rattle.graph_law.specs.LegalOrder.{IsComplete, IsLegalOrder}
use Rattle.graph_law.specs.Reach.{IsReached}
use Rattle.group_release.specs.Level.{AreLevels}
use Rattle.group_release.specs.declared.level.Level.{Level}
use Rattle.import_rules.specs.Program.{Seen}
use Rattle.call_edges.specs.Successors.{successor_lists}
use Rattle.call_edges.proofs.SuccessorLemmas.{lists_closed}
use Rattle.call_table.specs.Marks.{ProgramMarks}
use Rattle.call_table.specs.Memberships.{AreGroupsOf}
use Rattle.call_table.specs.Table.{IsTable}
use Rattle.call_table.specs.declared.table.CallTable.{CallTable}
use Rattle.call_table.proofs.ReachedLemmas.{roots_listed}
use Rattle.call_told.specs.declared.wanted.Form.{Form}
use Rattle.call_told.specs.declared.wanted.Form.TheVariants.{Lines, Undefined, Dot, Condensed}
use Rattle.call_told.specs.Condensed.{condensed_graph}
use Rattle.call_told.specs.Told.{TellsForm, TellsFrom, all_lines, call_lines, directive_lines, dot_graph, told_nodes}
use Rattle.call_told.specs.Wanted.{Asked}
use Rattle.laws.proofs.CondensedEdges.{has_edges}
use Rattle.laws.proofs.NodeMarks.{marks_exist}
use Rattle.laws.proofs.PlacedDirectives.{SomeDirectives}

-- what there is for each graph, as the laws say it
pub record GroupLaws : Type 0 where
  pub ordered : (lists : List (List ℕ)) (roots : List ℕ) → IsClosed lists → All (λ root. root < length lists) roots
      → (groups : List (List ℕ))
      × (IsLegalOrder (Calls lists) groups × IsComplete roots groups × ((v : ℕ) → HasMember groups v → IsReached (Calls lists) roots v))
  pub leveled : (lists : List (List ℕ)) (groups : List (List ℕ)) → IsLegalOrder (Calls lists) groups
      → (levels : List Level) × AreLevels (Calls lists) groups levels
  pub placed : (count : ℕ) (groups : List (List ℕ)) → (places : List ℕ) × AreGroupsOf count groups places

-- these predicates have a table
abbrev SomeTable : Seen → List ℕ → List (List ℕ) → Type 0
SomeTable seen nodes groups = (table : CallTable) × IsTable seen nodes groups table

form_told : (form : Form) (seen : Seen) (groups : List (List ℕ)) (levels : List Level) (places : List ℕ) (marks : ProgramMarks) (nodes : List ℕ)
    → SomeTable seen nodes groups → SomeDirectives seen → (bytes : List ℕ) × TellsForm form seen groups levels places marks nodes bytes
form_told Lines seen groups levels places marks nodes table directives =
    let front = all_lines seen groups levels places marks nodes table.0 in
    let rest = directive_lines false seen directives.calls directives.places in (
      front ++ rest,
      record {
        front = front;
        rest = rest;
        table = record { table = table.0; is_table = table.1; is = refl };
        directives = record { calls = directives.calls; places = directives.places; are = directives.are; is = refl };
        is = refl;
      },
    )
form_told Undefined seen groups levels places marks nodes table directives =
    let front = call_lines true seen table.0 in
    let rest = directive_lines true seen directives.calls directives.places in (
      front ++ rest,
      record {
        front = front;
        rest = rest;
        table = record { table = table.0; is_table = table.1; is = refl };
        directives = record { calls = directives.calls; places = directives.places; are = directives.are; is = refl };
        is = refl;
      },
    )
form_told Dot seen groups levels places marks nodes table directives = (dot_graph seen groups levels places nodes, refl)
form_told Condensed seen groups levels places marks nodes table directives =
    let edges = has_edges (successor_lists seen) groups places nodes in
    (condensed_graph seen groups places nodes edges.0, record { edges = edges.0; are = edges.1; is = refl })

-- no more predicates are told than there are
told_few : (count : ℕ) (places : List ℕ) (all : Bool) → length (told_nodes count places all) ≤ count
told_few count places all =
    let is_told : ℕ → Bool = λ p. all || not (get_or places p 0 == 0) in
    omega (arith, length-filter is_told (range_with_len 0 count), count_by-le-length is_told (range_with_len 0 count), length-range_with_len 0 count)

module _ (laws : GroupLaws) (seen : Seen)
    (tables : (nodes : List ℕ) (groups : List (List ℕ)) → length nodes ≤ length seen.predicates → SomeTable seen nodes groups) (directives : SomeDirectives seen)
  where
    pub some_told : (asked : Asked) (roots : List ℕ) → All (λ q. q < length seen.predicates) roots → (bytes : List ℕ) × TellsFrom asked seen roots bytes
    some_told asked roots below =
        let count = length seen.predicates in
        let groups = laws.ordered (successor_lists seen) roots (lists_closed seen) (roots_listed seen roots below) in
        let levels = laws.leveled (successor_lists seen) groups.0 groups.1.0 in
        let places = laws.placed count groups.0 in
        let nodes = told_nodes count places.0 asked.settings.unreached in
        let marks = marks_exist (is_some asked.settings.roots) seen roots in
        let told = form_told asked.form seen groups.0 levels.0 places.0 marks.0 nodes (tables nodes groups.0 (told_few count places.0 asked.settings.unreached)) directives in (
          told.0,
          record {
            groups = groups.0;
            levels = levels.0;
            places = places.0;
            marks = marks.0;
            nodes = nodes;
            reach = record {
              leveled = record { are = record { legal = groups.1.0; complete = groups.1.1; reached = groups.1.2 }; leveled = levels.1 };
              placed = places.1;
              nodes_are = refl;
            };
            marked = marks.1;
            tells = told.1;
          },
        )
