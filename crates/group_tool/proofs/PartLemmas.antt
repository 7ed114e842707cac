-- What the parts behind the report are made of.
use Rattle.std.proofs.Common.{◌≡◌, Bool, true, ◌<◌, ◌++◌, ◌∷◌, [], ℕ, List, Vec, Global, Option, Some, None, All, length, get_or, append_assoc, append-nil, refl, ap, ◌∙◌, sym, subst, arith}
use Rattle.std.proofs.lemmas.Grind.{flat_map-append}
use Rattle.std.proofs.lemmas.List.{get_or_default}
use Rattle.std.proofs.lemmas.Option.{slice_get_within}
use Rattle.graph_law.specs.Classes.{IsClass, group_at, least_member}
use Rattle.graph_law.specs.Graph.{Calls, IsClosed}
use Rattle.graph_law.proofs.ClassLaws.{least_is_member}
use Rattle.group_release.specs.declared.level.Level.{Level}
use Rattle.effect_flow.specs.declared.kinds.TheConstants.{KINDS}
use Rattle.effect_flow.specs.Carriers.{AreFlows, first_at, flow_at}
use Rattle.effect_flow.proofs.Moved.{AreFlows-agree, carriers_below}
use Rattle.loop_paths.specs.Circuits.{AreCircuits, IsCircuit, IsShortest}
use Rattle.loop_paths.specs.Paths.{IsPath}
use Rattle.loop_paths.proofs.PathNodes.{circuit_below, path_below}
use Rattle.loop_paths.proofs.Transport.{circuits_along, shortest_along}
use Rattle.import_rules.specs.declared.names.PredName.{PredName}
use Rattle.import_rules.specs.Program.{Seen}
use Rattle.call_edges.specs.Calls.{NodeCalls}
use Rattle.call_edges.specs.Successors.{successor_lists}
use Rattle.call_edges.proofs.SuccessorLemmas.{lists_closed, lists_count}
use Rattle.loop_report.specs.Effects.{AreEffectLines}
use Rattle.report_lines.specs.Reportable.{AreLeveled}
use Rattle.loop_report.specs.Walks.{AreCircuitLines, IsCircuitWithin}
use Rattle.group_tool.specs.Parts.{AreOwnKinds, IsPart, IsPathPart, TellEffects, TellLoops, path_line}
use Rattle.tool_run.specs.Roots.{AreEnds}
use Rattle.tool_run.specs.Say.{concatenated}
use Rattle.group_tool.proofs.GroupLemmas.{lists_agree, members_listed}

-- the nodes of a circuit are nodes of the graph

circuit_within : (lists : List (List ℕ)) → IsClosed lists → (p : ℕ) → p < length lists → (found : Option (List ℕ)) → IsCircuit (Calls lists) p found
    → IsCircuitWithin (length lists) found
circuit_within lists closed p low None is = tt
circuit_within lists closed p low (Some circuit) is = circuit_below lists closed p low circuit is

-- the nodes of circuits are predicates
pub circuits_within : (seen : Seen) (roots : List ℕ) (groups : List (List ℕ)) (levels : List Level) (circuits : List (Option (List ℕ))) → All (λ q. q < length seen.predicates) roots
    → AreLeveled (Calls (successor_lists seen)) roots groups levels → AreCircuits (Calls (successor_lists seen)) groups circuits
    → All (IsCircuitWithin (length seen.predicates)) circuits
circuits_within seen roots groups levels circuits below leveled are = λ k d lt.
    let lists = successor_lists seen in
    let each = are.each in
    let inside : k < length groups = omega (arith, lt, each) in
    let class : IsClass (Calls lists) (group_at groups k) = leveled.are.legal.each k [] inside in
    let node : least_member (group_at groups k) < length lists =
    members_listed seen roots groups below leveled.are (least_member (group_at groups k)) (record { place = k; within = inside; member = least_is_member class }) in
    let within : IsCircuitWithin (length lists) (get_or circuits k None) =
    circuit_within lists (lists_closed seen) (least_member (group_at groups k)) node (get_or circuits k None) (are.at k inside) in
    subst (λ n. IsCircuitWithin n (get_or circuits k d)) (lists_count seen) (subst (IsCircuitWithin (length lists)) (get_or_default circuits k None d lt) within)

-- and so are those of a path
pub path_within : (seen : Seen) (p q : ℕ) (path : List ℕ) → p < length seen.predicates → IsPath (Calls (successor_lists seen)) p q path
    → All (λ n. n < length seen.predicates) path
path_within seen p q path low is =
    subst (λ count. All (λ n. n < count) path) (lists_count seen) (path_below (successor_lists seen) (lists_closed seen) p q (subst (λ count. p < count) (sym (lists_count seen)) low) path is)

-- and carriers
pub carriers_within : (seen : Seen) (roots : List ℕ) (groups : List (List ℕ)) (levels : List Level) (own : List ℕ) (flows : List (List (Option ℕ)))
    → All (λ q. q < length seen.predicates) roots → AreLeveled (Calls (successor_lists seen)) roots groups levels
    → AreFlows (Calls (successor_lists seen)) own groups flows
    → (place kind q : ℕ) → place < length groups → kind < KINDS → first_at (flow_at flows place) kind ≡ Some q → q < length seen.predicates
carriers_within seen roots groups levels own flows below leveled are place kind q lt low at =
    let there = carriers_below (successor_lists seen) (lists_closed seen) (members_listed seen roots groups below leveled.are) are place kind q lt low at in
    omega (arith, there, lists_count seen)

-- a part that is wanted
pub part_told : (wanted : Bool) (Tells : List ℕ → Type 0) (bytes : List ℕ) → wanted ≡ true → Tells bytes → IsPart wanted Tells bytes
part_told wanted Tells bytes is told = subst (λ b. IsPart b Tells bytes) (sym is) told

-- what is found over the lists of successors is told of what the predicates call

pub told_effects : (seen : Seen) (groups : List (List ℕ)) (levels : List Level) (own : List ℕ) (flows : List (List (Option ℕ))) (bytes : List ℕ) → AreOwnKinds seen own
    → AreFlows (Calls (successor_lists seen)) own groups flows → AreEffectLines seen.predicates groups levels flows bytes → TellEffects seen groups levels bytes
told_effects seen groups levels own flows bytes kinds are lines = record {
  own = own;
  own_kinds = kinds;
  flows = flows;
  are_flows = AreFlows-agree (lists_agree seen) are;
  lines = lines;
}

pub told_loops : (seen : Seen) (groups : List (List ℕ)) (levels : List Level) (circuits : List (Option (List ℕ))) (bytes : List ℕ)
    → AreCircuits (Calls (successor_lists seen)) groups circuits → AreCircuitLines seen.predicates groups levels circuits bytes → TellLoops seen groups levels bytes
told_loops seen groups levels circuits bytes are lines = record {
  circuits = circuits;
  are_circuits = circuits_along (Calls (successor_lists seen)) (NodeCalls seen) (lists_agree seen) groups circuits are;
  lines = lines;
}

pub no_ends : (path : Option (PredName × PredName)) (seen : Seen) → AreEnds path seen None → IsPathPart path seen []
no_ends None seen are = refl
no_ends (Some both) seen are = absurd are

pub told_path : (path : Option (PredName × PredName)) (seen : Seen) (from to : ℕ) (found : Option (List ℕ)) (bytes : List ℕ) → AreEnds path seen (Some (from, to))
    → IsShortest (Calls (successor_lists seen)) from to found → bytes ≡ path_line seen.predicates from to found → IsPathPart path seen bytes
told_path None seen from to found bytes are shortest is = absurd are
told_path (Some both) seen from to found bytes are shortest is = record {
  from = from;
  to = to;
  from_is = are.0;
  to_is = are.1;
  found = found;
  shortest = shortest_along (Calls (successor_lists seen)) (NodeCalls seen) (lists_agree seen) from to found shortest;
  is = is;
}

pub ends_below : (path : Option (PredName × PredName)) (seen : Seen) (from to : ℕ) → AreEnds path seen (Some (from, to)) → (from < length seen.predicates) × (to < length seen.predicates)
ends_below None seen from to are = absurd are
ends_below (Some both) seen from to are = (slice_get_within seen.predicates from both.0 are.0, slice_get_within seen.predicates to both.1 are.1)

-- one text more
one_more : (texts : List (Vec ℕ Global)) (text : Vec ℕ Global) → concatenated (texts ++ text ∷ []) ≡ concatenated texts ++ text.items
one_more texts text =
    flat_map-append (λ (one : Vec ℕ Global). one.items) texts (text ∷ []) ∙ ap (λ l. concatenated texts ++ l) (append-nil text.items)

-- three texts more
pub three_more : (lines one two three : List (Vec ℕ Global)) (a b c : Vec ℕ Global) → one ≡ lines ++ a ∷ [] → two ≡ one ++ b ∷ []
    → three ≡ two ++ c ∷ [] → concatenated three ≡ concatenated lines ++ (a.items ++ b.items ++ c.items)
three_more lines one two three a b c is_one is_two is_three =
    let first : concatenated one ≡ concatenated lines ++ a.items = ap concatenated is_one ∙ one_more lines a in
    let second : concatenated two ≡ concatenated lines ++ (a.items ++ b.items) =
    ap concatenated is_two ∙ (one_more one b ∙ (ap (λ l. l ++ b.items) first ∙ append_assoc (concatenated lines) a.items b.items)) in
    ap concatenated is_three
    ∙ (one_more two c ∙ (ap (λ l. l ++ c.items) second ∙ append_assoc (concatenated lines) (a.items ++ b.items) c.items))
