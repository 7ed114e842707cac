-- The parts behind the report are one, in whatever legal order the groups are.
use Rattle.std.proofs.Common.{◌≡◌, inl, inr, ℕ, ◌<◌, ◌++◌, List, Bool, true, false, Option, Some, None, length, refl, ap₂, sym, ◌∙◌, subst, arith}
use Rattle.std.specs.Int.{IsBitSet}
use Rattle.std.proofs.lemmas.Bool.{cases_lt}
use Rattle.std.proofs.lemmas.List.{get_or_past}
use Rattle.group_release.specs.declared.level.Level.{Level}
use Rattle.effect_flow.specs.declared.kinds.TheConstants.{KINDS}
use Rattle.effect_flow.specs.Carriers.{HasKind}
use Rattle.loop_paths.specs.Circuits.{IsShortest}
use Rattle.loop_paths.proofs.OneLeast.{one_shortest}
use Rattle.import_rules.specs.declared.names.PredName.{PredName}
use Rattle.import_rules.specs.Program.{Seen}
use Rattle.call_edges.specs.Calls.{NodeCalls}
use Rattle.group_words.specs.Settings.{Settings}
use Rattle.report_lines.specs.Reportable.{AreLeveled}
use Rattle.loop_report.proofs.OneEffects.{same_effects}
use Rattle.group_tool.specs.Parts.{AreOwnKinds, AreParts, IsPart, IsPathPart, TellEffects, TellLoops, path_line}
use Rattle.group_tool.proofs.OneCircuits.{same_circuit_lines}
use Rattle.tool_run.proofs.RootLemmas.{AreRising, one_named}

same_part : (wanted : Bool) (Tells Told : List ℕ → Type 0) (bytes other : List ℕ) → (Tells bytes → Told other → bytes ≡ other) → IsPart wanted Tells bytes → IsPart wanted Told other
    → bytes ≡ other
same_part false Tells Told bytes other same is also = is ∙ sym also
same_part true Tells Told bytes other same is also = same is also

-- what is no predicate has no kind
none_past : (kind : ℕ) → IsBitSet 0 kind → ⊥
none_past kind set = set refl

same_kinds : (seen : Seen) (own more : List ℕ) → AreOwnKinds seen own → AreOwnKinds seen more → (kind q : ℕ) → kind < KINDS → HasKind own kind q → HasKind more kind q
same_kinds seen own more are also kind q low has = elim (cases_lt q (length seen.predicates)) [
  | inl below ↦ (also.are kind q low below).1 ((are.are kind q low below).0 has)
  | inr past ↦
      let each = are.each in
      absurd (none_past kind (subst (λ k. IsBitSet k kind) (get_or_past own q 0 (omega (arith, past, each))) has))
]

same_path : (path : Option (PredName × PredName)) (seen : Seen) (bytes other : List ℕ) → AreRising seen.predicates → IsPathPart path seen bytes → IsPathPart path seen other → bytes ≡ other
same_path None seen bytes other rising is also = is ∙ sym also
same_path (Some both) seen bytes other rising is also =
    let from : also.from ≡ is.from = one_named seen.predicates both.0 also.from is.from rising also.from_is is.from_is in
    let to : also.to ≡ is.to = one_named seen.predicates both.1 also.to is.to rising also.to_is is.to_is in
    let moved : IsShortest (NodeCalls seen) is.from is.to also.found =
    subst (λ p. IsShortest (NodeCalls seen) p is.to also.found) from (subst (λ q. IsShortest (NodeCalls seen) also.from q also.found) to also.shortest) in
    let found : is.found ≡ also.found = one_shortest (NodeCalls seen) is.from is.to is.found also.found is.shortest moved in
    is.is ∙ ((λ i. path_line seen.predicates (sym from i) (sym to i) (found i)) ∙ sym also.is)

pub same_parts : (settings : Settings) (seen : Seen) (roots : List ℕ) (groups others : List (List ℕ)) (levels marks : List Level) (bytes other : List ℕ) → AreRising seen.predicates
    → AreLeveled (NodeCalls seen) roots groups levels → AreLeveled (NodeCalls seen) roots others marks → AreParts settings seen groups levels bytes → AreParts settings seen others marks other
    → bytes ≡ other
same_parts settings seen roots groups others levels marks bytes other rising a b is also =
    is.is
    ∙ (ap₂ (λ xs ys. xs ++ ys)
    (ap₂ (λ xs ys. xs ++ ys)
    (same_part settings.effects (TellEffects seen groups levels) (TellEffects seen others marks) is.effects also.effects
    (λ one two.
    same_effects seen.predicates one.own two.own one.flows two.flows is.effects also.effects a b (same_kinds seen one.own two.own one.own_kinds two.own_kinds)
    (same_kinds seen two.own one.own two.own_kinds one.own_kinds) one.are_flows two.are_flows one.lines two.lines) is.are_effects also.are_effects)
    (same_part settings.loops (TellLoops seen groups levels) (TellLoops seen others marks) is.loops also.loops
    (λ one two. same_circuit_lines seen.predicates one.circuits two.circuits is.loops also.loops a b one.are_circuits two.are_circuits one.lines two.lines) is.are_loops also.are_loops))
    (same_path settings.path seen is.path also.path rising is.are_path also.are_path)
    ∙ sym also.is)
