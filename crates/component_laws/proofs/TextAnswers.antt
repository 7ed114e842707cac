-- Each text has a right answer.
use Rattle.std.proofs.Common.{◌≡◌, ◌⊎◌, inl, inr, ℕ, ◌<◌, ◌≤◌, ◌^◌, Bool, List, [], All, length, refl, sym, subst, arith}
use Rattle.std.specs.Prelude.{Contains, Vec}
use Rattle.std.specs.declared.alloc.Global.{Global}
use Rattle.std.proofs.Handle.{handle}
use Rattle.std.proofs.lemmas.Bool.{cases_lt}
use Rattle.std.proofs.lemmas.List.{get_or_past}
use Rattle.list_laws.proofs.OneOrder.{nothing_in}
use Rattle.edge_text.specs.declared.limits.TheConstants.{MOST_EDGES, MOST_NAME, MOST_NODES}
use Rattle.edge_text.specs.EdgeGraph.{AreCallees, AreNames, IsEdgeGraph, Said}
use Rattle.graph_law.specs.Graph.{IsClosed}
use Rattle.component_answer.specs.declared.answer.Answer.{Answer}
use Rattle.component_answer.specs.declared.answer.Answer.TheVariants.{Report, Fault, TooManyEdges, TooManyNodes, NoNode}
use Rattle.component_answer.specs.declared.answer.TextFault.{TextFault}
use Rattle.component_answer.specs.declared.answer.Wanted.{Wanted}
use Rattle.component_answer.specs.Answers.{IsAnswer, IsReachReport, IsSaidAnswer}
use Rattle.component_answer.specs.Inputs.{IsFaultless, IsFirstFaultIn, said_by}
use Rattle.component_answer.specs.Starts.{AreStarts, IsFirstMissing}
use Rattle.component_answer.proofs.NamedNodes.{starts_below}
use denote.RawPtr.{null_ptr}

-- a list that isn't too long is that of a `Vec`
abbrev vec_of : {X : Type 0} (xs : List X) → length xs < 2 ^ 63 → Vec X Global
vec_of xs short = record { ptr = null_ptr; len = length xs; cap = length xs; alloc = handle; items = xs; ok = (refl, omega arith); small = short }

-- the successors of nodes are nodes
closed_graph : (said : Said) (names lists : List (List ℕ)) → AreCallees said names lists → IsClosed lists
closed_graph said names lists are p q calls = elim (cases_lt p (length lists)) [
  | inl within ↦ (let each = are.each in let below = are.below p q (omega (arith, within, each)) calls in omega (arith, below, each))
  | inr past ↦ absurd (nothing_in q (subst (λ callees. Contains callees q) (get_or_past lists p [] past) calls))
]

-- what there is for each graph and each text, as the laws say it
pub record TextLaws : Type 0 where
  pub graphs : (said : Said) → (names : List (List ℕ)) × (lists : List (List ℕ)) × IsEdgeGraph said names lists
  pub names : (from_json : Bool) (text : List ℕ) (names : List (List ℕ)) → IsFaultless from_json text → AreNames (said_by from_json text) names
      → All (λ name. length name ≤ MOST_NAME) names
  pub starts : (names roots : List (List ℕ)) → ((starts : List ℕ) × AreStarts names roots starts) ⊎ ((place : ℕ) × IsFirstMissing names roots place)
  pub reports : (names lists : List (List ℕ)) (starts : List ℕ) (wanted : Wanted) → IsClosed lists → All (λ start. start < length lists) starts
      → (bytes : List ℕ) × IsReachReport names lists starts wanted bytes
  pub short : (names lists : List (List ℕ)) (starts : List ℕ) (wanted : Wanted) (bytes : List ℕ) → All (λ name. length name ≤ MOST_NAME) names
      → IsClosed lists → length lists ≤ MOST_NODES → All (λ start. start < length lists) starts → IsReachReport names lists starts wanted bytes
      → length bytes < 2 ^ 63

module _ (laws : TextLaws) (text : List ℕ) (roots : List (List ℕ)) (wanted : Wanted) where
  abbrev said : Said
  said = said_by wanted.from_json text

  abbrev Found : Type 0
  Found = (answer : Answer) × IsSaidAnswer said roots wanted answer

  module _ (none : IsFaultless wanted.from_json text) (few : length said.calls ≤ MOST_EDGES) (names lists : List (List ℕ))
      (graph : IsEdgeGraph said names lists) (small : length names ≤ MOST_NODES) where
    report_found : (starts : List ℕ) → AreStarts names roots starts → Found
    report_found starts are =
        let each : length lists ≡ length names = graph.callees.each in
        let closed : IsClosed lists = closed_graph said names lists graph.callees in
        let within : All (λ start. start < length lists) starts =
        subst (λ n. All (λ start. start < n) starts) (sym each) (starts_below names roots starts are) in
        let report : (bytes : List ℕ) × IsReachReport names lists starts wanted bytes = laws.reports names lists starts wanted closed within in
        let short : length report.0 < 2 ^ 63 =
        laws.short names lists starts wanted report.0 (laws.names wanted.from_json text names none graph.nodes) closed (omega (arith, each, small)) within
        report.1 in (
          Report (vec_of report.0 short),
          (few, record { names = names; lists = lists; graph = graph; few = small; starts = starts; are_starts = are; report = report.1 }),
        )

    roots_found : (((starts : List ℕ) × AreStarts names roots starts) ⊎ ((place : ℕ) × IsFirstMissing names roots place)) → Found
    roots_found (inl starts) = report_found starts.0 starts.1
    roots_found (inr missing) = (NoNode missing.0, (few, record { names = names; are = graph.nodes; few = small; first = missing.1 }))

  graph_found : IsFaultless wanted.from_json text → length said.calls ≤ MOST_EDGES
      → ((names : List (List ℕ)) × (lists : List (List ℕ)) × IsEdgeGraph said names lists) → Found
  graph_found none few graph = elim (cases_lt MOST_NODES (length graph.0)) [
    | inl many ↦ (TooManyNodes, (few, record { names = graph.0; are = graph.2.nodes; many = many }))
    | inr small ↦ roots_found none few graph.0 graph.1 graph.2 small (laws.starts graph.0 roots)
  ]

  said_found : IsFaultless wanted.from_json text → Found
  said_found none = elim (cases_lt MOST_EDGES (length said.calls)) [
    | inl many ↦ (TooManyEdges, many)
    | inr few ↦ graph_found none few (laws.graphs said)
  ]

  faultless_answer : (answer : Answer) → IsFaultless wanted.from_json text → IsSaidAnswer said roots wanted answer → IsAnswer text roots wanted answer
  faultless_answer (Fault fault) none right = absurd right
  faultless_answer TooManyEdges none right = (none, right)
  faultless_answer TooManyNodes none right = (none, right)
  faultless_answer (NoNode place) none right = (none, right)
  faultless_answer (Report bytes) none right = (none, right)

  pub answer_of : ((fault : TextFault) × IsFirstFaultIn wanted.from_json text fault) ⊎ IsFaultless wanted.from_json text
      → (answer : Answer) × IsAnswer text roots wanted answer
  answer_of (inl found) = (Fault found.0, found.1)
  answer_of (inr none) = let found : Found = said_found none in (found.0, faultless_answer found.0 none found.1)
