-- What is told of a program is one list of bytes, where it isn't the graph of all predicates.
use Rattle.std.proofs.Common.{◌≡◌, ◌≢◌, ◌++◌, ℕ, Bool, true, false, List, [], Some, None, codes, flat_map, length, slice_get, zip, refl, sym}
use Rattle.std.proofs.Common.{ap, ◌∙◌, subst}
use Rattle.std.specs.Prelude.{if◌then◌else◌, is_some}
use Rattle.std.specs.Fmt.{decimal}
use Rattle.graph_law.specs.Graph.{Calls}
use Rattle.group_release.specs.declared.level.Level.{Level}
use Rattle.import_rules.specs.Program.{Seen, meta_in}
use Rattle.call_edges.specs.Successors.{successor_lists}
use Rattle.report_lines.specs.Reportable.{AreLeveled}
use Rattle.call_table.specs.Marks.{ProgramMarks, marks_at}
use Rattle.call_table.specs.Memberships.{AreGroupsOf}
use Rattle.call_table.specs.Table.{IsTable}
use Rattle.call_table.specs.declared.table.CallTable.{CallTable}
use Rattle.call_told.specs.declared.node_lines.NodeLines.TheVariants.{Predicates, Groups}
use Rattle.call_told.specs.declared.wanted.Form.{Form}
use Rattle.call_told.specs.declared.wanted.Form.TheVariants.{Lines, Undefined, Dot, Condensed}
use Rattle.call_told.specs.Condensed.{TellsCondensed, edge_lines, node_lines_of}
use Rattle.call_told.specs.declared.condensed.Edge.{Edge}
use Rattle.call_told.specs.Told.{TellsForm, TellsFrom, call_lines, clause_lines, node_line, told_lines}
use Rattle.call_told.specs.Wanted.{Asked}
use Rattle.call_writer.specs.Lines.{call_line_if, clause_line, predicate_head}
use Rattle.call_writer.specs.Marks.{mark_fields}
use Rattle.laws.proofs.CondensedEdges.{same_edges}
use Rattle.laws.proofs.NodeMarks.{one_marked}
use Rattle.laws.proofs.PlacedDirectives.{one_of_directives}
use Rattle.laws.proofs.OneTable.{one_call_places, one_calls, one_clause_extents, one_clauses}
use Rattle.laws.proofs.SameGroups.{each_same, same_nodes}

-- the line of a predicate with what is told of its group
abbrev line_with : Seen → ProgramMarks → ℕ → List ℕ → List ℕ
line_with seen flags node fields =
    elim (slice_get seen.predicates node) [
      | Some name ↦ predicate_head node name ++ (codes "," ++ (fields ++ (mark_fields (marks_at flags node) (meta_in seen node) ++ codes "}\n")))
      | None ↦ []
    ]

module _ (seen : Seen) (nodes : List ℕ) (groups others : List (List ℕ)) (a b : CallTable)
    (is : IsTable seen nodes groups a) (also : IsTable seen nodes others b)
  where
    same_clause_lines : clause_lines seen a ≡ clause_lines seen b
    same_clause_lines =
        let clauses = one_clauses seen nodes groups others a b is also in
        let places = one_clause_extents seen nodes groups others a b is also in
        λ i. flat_map (λ pair. clause_line seen pair.0 pair.1) (zip (clauses i) (places i))

    same_call_lines : (undefined : Bool) → call_lines undefined seen a ≡ call_lines undefined seen b
    same_call_lines undefined =
        let calls = one_calls seen nodes groups others a b is also in
        let places = one_call_places seen nodes groups others a b is also in
        λ i. flat_map (λ pair. call_line_if undefined seen pair.0 pair.1) (zip (calls i) (places i))

module _ (seen : Seen) (roots : List ℕ) where
  abbrev IsLeveled : List (List ℕ) → List Level → Type 0
  IsLeveled groups levels = AreLeveled (Calls (successor_lists seen)) roots groups levels

  abbrev ArePlaced : List (List ℕ) → List ℕ → Type 0
  ArePlaced groups places = AreGroupsOf (length seen.predicates) groups places

  module _ (groups others : List (List ℕ)) (levels marks : List Level) (places other_places nodes : List ℕ)
      (leveled : IsLeveled groups levels) (marked : IsLeveled others marks) (placed : ArePlaced groups places) (placed_too : ArePlaced others other_places)
    where
      same_told_lines : (flags : ProgramMarks) → told_lines seen groups levels places flags nodes ≡ told_lines seen others marks other_places flags nodes
      same_told_lines flags =
          let same = each_same leveled marked (length seen.predicates) places other_places placed placed_too in
          let own : node_line Predicates seen groups levels places flags ≡ node_line Predicates seen others marks other_places flags =
          λ i p. line_with seen flags p ((same p).fields i) in
          let grouped : node_line Groups seen groups levels places flags ≡ node_line Groups seen others marks other_places flags = λ i p. (same p).line p i in
          λ i. flat_map (own i) nodes ++ flat_map (grouped i) nodes

      same_condensed : (bytes other : List ℕ) → TellsCondensed seen groups places nodes bytes → TellsCondensed seen others other_places nodes other
          → bytes ≡ other
      same_condensed bytes other is also =
          let same = each_same leveled marked (length seen.predicates) places other_places placed placed_too in
          let drawn : node_lines_of seen groups places nodes ≡ node_lines_of seen others other_places nodes =
          λ i. flat_map (λ p. (same p).drawn seen.predicates p i) nodes in
          let edges : is.edges ≡ also.edges =
          same_edges (successor_lists seen) groups others places other_places nodes (λ p. (same p).node p) is.edges also.edges is.are also.are in
          let named : edge_lines places also.edges ≡ edge_lines other_places also.edges =
          λ i. flat_map
          (λ (edge : Edge).
          ((if (same edge.from).none i then codes "n" else codes "g") ++ decimal edge.from)
          ++ (codes " -> " ++ (((if (same edge.to).none i then codes "n" else codes "g") ++ decimal edge.to) ++ codes ";\n"))) also.edges in
          let lines : edge_lines places is.edges ≡ edge_lines other_places also.edges = ap (edge_lines places) edges ∙ named in
          is.is ∙ ((λ i. codes "digraph calls {\n" ++ (drawn i ++ (lines i ++ codes "}\n"))) ∙ sym also.is)

      same_form : (form : Form) → form ≢ Dot → (flags : ProgramMarks) (bytes other : List ℕ) → TellsForm form seen groups levels places flags nodes bytes
          → TellsForm form seen others marks other_places flags nodes other → bytes ≡ other
      same_form Lines lines flags bytes other is also =
          let clauses = same_clause_lines seen nodes groups others is.table.table also.table.table is.table.is_table also.table.is_table in
          let calls = same_call_lines seen nodes groups others is.table.table also.table.table is.table.is_table also.table.is_table false in
          let front : is.front ≡ also.front = is.table.is ∙ ((λ i. same_told_lines flags i ++ (clauses i ++ calls i)) ∙ sym also.table.is) in
          let rest = one_of_directives false seen is.rest also.rest is.directives also.directives in
          is.is ∙ ((λ i. front i ++ rest i) ∙ sym also.is)
      same_form Undefined lines flags bytes other is also =
          let calls = same_call_lines seen nodes groups others is.table.table also.table.table is.table.is_table also.table.is_table true in
          let front : is.front ≡ also.front = is.table.is ∙ (calls ∙ sym also.table.is) in
          let rest = one_of_directives true seen is.rest also.rest is.directives also.directives in
          is.is ∙ ((λ i. front i ++ rest i) ∙ sym also.is)
      same_form Dot lines flags bytes other is also = absurd (lines refl)
      same_form Condensed lines flags bytes other is also = same_condensed bytes other is also

  pub one_told : (asked : Asked) → asked.form ≢ Dot → (bytes other : List ℕ) → TellsFrom asked seen roots bytes → TellsFrom asked seen roots other
      → bytes ≡ other
  one_told asked lines bytes other is also =
      let a = is.reach in
      let b = also.reach in
      let same = same_nodes a.leveled b.leveled (length seen.predicates) is.places also.places a.placed b.placed asked.settings.unreached in
      let nodes : also.nodes ≡ is.nodes = b.nodes_are ∙ (sym same ∙ sym a.nodes_are) in
      let marks : also.marks ≡ is.marks = one_marked (is_some asked.settings.roots) seen roots also.marks is.marks also.marked is.marked in
      let marked = subst (λ flags. TellsForm asked.form seen also.groups also.levels also.places flags also.nodes other) marks also.tells in
      let tells = subst (λ ns. TellsForm asked.form seen also.groups also.levels also.places is.marks ns other) nodes marked in
      same_form is.groups also.groups is.levels also.levels is.places also.places is.nodes a.leveled b.leveled a.placed b.placed asked.form lines
      is.marks bytes other is.tells tells
