-- The parts behind the report: effects, circuits and a path.
use Rattle.std.specs.Prelude.{◌≡◌, ℕ, ◌<◌, ◌↔◌, ◌++◌, Bool, true, false, List, [], ◌∷◌, Option, Some, None, Contains, length, codes, IsBitSet}
use Rattle.group_release.specs.declared.level.Level.{Level}
use Rattle.effect_flow.specs.declared.kinds.TheConstants.{KINDS}
use Rattle.effect_flow.specs.Carriers.{AreFlows, HasKind}
use Rattle.effect_flow.specs.Kinds.{kinds}
use Rattle.loop_paths.specs.Circuits.{AreCircuits, IsShortest}
use Rattle.import_rules.specs.declared.names.PredName.{PredName}
use Rattle.import_rules.specs.Program.{Seen}
use Rattle.call_edges.specs.Calls.{NodeCalls}
use Rattle.call_edges.specs.Unresolved.{IsUnresolved}
use Rattle.group_words.specs.Settings.{Settings}
use Rattle.loop_report.specs.Effects.{AreEffectLines}
use Rattle.loop_report.specs.Walks.{AreCircuitLines, walk_line}
use Rattle.tool_run.specs.Roots.{IsNamed}

-- a part where it is wanted, and no bytes where it isn't
abbrev pub IsPart : Bool → (List ℕ → Type 0) → List ℕ → Type 0
IsPart false Tells bytes = bytes ≡ []
IsPart true Tells bytes = Tells bytes

-- the predicate calls a name that means none and has the kind
pub record HasEffect (seen : Seen) (kind node : ℕ) : Type 0 where
  pub name : PredName
  pub unresolved : IsUnresolved seen node name
  pub of_kind : IsBitSet (kinds name.name name.arity) kind

-- one of the names has the kind
pub record SomeHasKind (names : List PredName) (kind : ℕ) : Type 0 where
  pub name : PredName
  pub is_name : Contains names name
  pub of_kind : IsBitSet (kinds name.name name.arity) kind

-- the kinds of the name, where there is one
abbrev pub kinds_given : Option PredName → ℕ
kinds_given (Some name) = kinds name.name name.arity
kinds_given None = 0

-- the kinds that the predicate has itself
abbrev pub IsOwnKinds : Seen → ℕ → ℕ → Type 0
IsOwnKinds seen node own = (kind : ℕ) → kind < KINDS → IsBitSet own kind ↔ HasEffect seen kind node

-- the kinds that each predicate has itself
pub record AreOwnKinds (seen : Seen) (own : List ℕ) : Type 0 where
  pub each : length own ≡ length seen.predicates
  pub are : (kind node : ℕ) → kind < KINDS → node < length seen.predicates → HasKind own kind node ↔ HasEffect seen kind node

-- the lines of the carriers of all groups
pub record TellEffects (seen : Seen) (groups : List (List ℕ)) (levels : List Level) (bytes : List ℕ) : Type 0 where
  pub own : List ℕ
  pub own_kinds : AreOwnKinds seen own
  pub flows : List (List (Option ℕ))
  pub are_flows : AreFlows (NodeCalls seen) own groups flows
  pub lines : AreEffectLines seen.predicates groups levels flows bytes

-- the lines of the circuits of all groups
pub record TellLoops (seen : Seen) (groups : List (List ℕ)) (levels : List Level) (bytes : List ℕ) : Type 0 where
  pub circuits : List (Option (List ℕ))
  pub are_circuits : AreCircuits (NodeCalls seen) groups circuits
  pub lines : AreCircuitLines seen.predicates groups levels circuits bytes

-- the line of a least path, or of its ends where there is none
abbrev pub path_line : List PredName → ℕ → ℕ → Option (List ℕ) → List ℕ
path_line predicates from to None = walk_line predicates (codes "no-path") (from ∷ to ∷ [])
path_line predicates from to (Some path) = walk_line predicates (codes "path") path

-- the line of the least path between the predicates of these two names
pub record TellPath (seen : Seen) (both : PredName × PredName) (bytes : List ℕ) : Type 0 where
  pub from : ℕ
  pub to : ℕ
  pub from_is : IsNamed seen.predicates both.0 from
  pub to_is : IsNamed seen.predicates both.1 to
  pub found : Option (List ℕ)
  pub shortest : IsShortest (NodeCalls seen) from to found
  pub is : bytes ≡ path_line seen.predicates from to found

abbrev pub IsPathPart : Option (PredName × PredName) → Seen → List ℕ → Type 0
IsPathPart None seen bytes = bytes ≡ []
IsPathPart (Some both) seen bytes = TellPath seen both bytes

-- the parts behind the report, in their order
pub record AreParts (settings : Settings) (seen : Seen) (groups : List (List ℕ)) (levels : List Level) (bytes : List ℕ) : Type 0 where
  pub effects : List ℕ
  pub are_effects : IsPart settings.effects (TellEffects seen groups levels) effects
  pub loops : List ℕ
  pub are_loops : IsPart settings.loops (TellLoops seen groups levels) loops
  pub path : List ℕ
  pub are_path : IsPathPart settings.path seen path
  pub is : bytes ≡ effects ++ loops ++ path
