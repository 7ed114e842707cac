-- How a walk along what suspended searches wait for goes on, and why it ends.
use Rattle.std.proofs.Common.{◌≡◌, ◌⊎◌, inl, inr, ℕ, ◌<◌, ◌≤◌, ◌+◌, ◌-◌, List, [], ◌∷◌, ◌++◌, length, get_or, Option, None, Some, refl, ap, ◌∙◌, sym, subst, arith}
use Rattle.std.proofs.lemmas.List.{length_push}
use Rattle.search_stack.specs.Stack.{Stack, size}
use Rattle.search_stack.specs.Search.{SearchValue, IsOn}
use Rattle.blocked_table.specs.Blocked.{BlockedValue, IsTable}
use Rattle.blocked_table.specs.Kept.{kept_at, Holds, IsFree, IsAtReady, Ends, ComesTo}
use Rattle.blocked_table.specs.Paths.{StepsAt, IsWaitPath}
use Rattle.blocked_table.specs.Suspending.{entries_at, entries_of, entries_on}
use Rattle.blocked_table.proofs.Chain.{held_or_free, place_within, some_is}
use Rattle.blocked_table.proofs.FieldSteps.{read_kept}
use Rattle.blocked_table.proofs.Listed.{few_once}
use Rattle.blocked_table.proofs.Paths.{path_push, path_once, path_within, never_comes}

-- the path so far, and how many entries the searches on it have
pub record IsWalking (kept : List (Option SearchValue)) (on : ℕ) (places : List ℕ) (node entries : ℕ) : Type 0 where
  pub path : IsWaitPath kept on places node
  pub entries_is : entries ≡ entries_of kept places

pub walking_start : (kept : List (Option SearchValue)) (on : ℕ) (places : List ℕ) → places ≡ [] → IsWalking kept on places on 0
walking_start kept on places none = record {
  path = subst (λ ps. IsWaitPath kept on ps on) (sym none) refl;
  entries_is = sym (ap (entries_of kept) none);
}

entries_push : (kept : List (Option SearchValue)) (places : List ℕ) (place : ℕ)
    → entries_of kept (places ++ place ∷ []) ≡ entries_of kept places + entries_at kept place
entries_push kept [] place = omega arith
entries_push kept (p ∷ ps) place = omega (arith, entries_push kept ps place)

pub entries_read : (kept : List (Option SearchValue)) (place : ℕ) (search : SearchValue) → kept_at kept place ≡ Some search
    → entries_at kept place ≡ size search.stack
entries_read kept place search at = ap entries_on at

pub walking_more : {kept : List (Option SearchValue)} {on : ℕ} {places : List ℕ} {node entries : ℕ} (place wanted more : ℕ)
    → IsWalking kept on places node entries → (step : StepsAt kept node place wanted) → more ≡ entries + size step.holds.search.stack
    → IsWalking kept on (places ++ place ∷ []) wanted more
walking_more {kept} {on} {places} {node} {entries} place wanted more was step is = record {
  path = path_push kept on places node place wanted was.path step;
  entries_is =
      omega (arith, is, was.entries_is, entries_push kept places place, entries_read kept place step.holds.search step.holds.at);
}

-- a path has no more slots than the list
pub path_short : {value : BlockedValue} → IsTable value → (v : ℕ) (places : List ℕ) (w : ℕ) → IsWaitPath value.kept v places w
    → length places ≤ length value.kept
path_short {value} table v places w path =
    few_once places (length value.kept) (λ i j before lt. path_once value.kept table.apart table.ends v places w path i j 0 before lt)
    (λ p member.
    let lt : member.0 < length places = member.1 in
    let within = path_within value.kept table.apart table.ends v places w path member.0 p lt in
    omega (arith, within, member.2))

-- so the walk is nearer to its end with each step
pub nearer : {value : BlockedValue} {on : ℕ} {node entries : ℕ} (places : List ℕ) (place : ℕ) → IsTable value
    → IsWalking value.kept on (places ++ place ∷ []) node entries
    → length value.kept - length (places ++ place ∷ []) < length value.kept - length places
nearer {value} {on} {node} {entries} places place table was =
    omega (arith, path_short table on (places ++ place ∷ []) node was.path, length_push places place)

-- following what searches wait for ends, from any node
ends_held : {value : BlockedValue} → IsTable value → (v place : ℕ) → (holds : Holds value.kept place v) → (wanted : Option ℕ)
    → holds.search.wanted ≡ wanted → Ends value.kept v
ends_held {value} table v place holds None is = record {
  end = v;
  steps = [];
  chain = refl;
  is = inr (record { place = place; holds = holds; ready = is });
}
ends_held {value} table v place holds (Some w) is =
    let then : Ends value.kept w = table.ends place w holds.search holds.at is in
    record {
      end = then.end;
      steps = w ∷ then.steps;
      chain = (record { place = place; holds = holds; wants = is }, then.chain);
      is = then.is;
    }

pub ends_any : {value : BlockedValue} → IsTable value → (v : ℕ) → Ends value.kept v
ends_any {value} table v =
    elim (held_or_free value.kept v) as (λ _. Ends value.kept v) [
      | inr free ↦ record { end = v; steps = []; chain = refl; is = inl free }
      | inl held ↦ ends_held table v held.place held.holds held.holds.search.wanted refl
    ]

-- the search that is read in the slot is the one that holds the node
held_read : (kept : List (Option SearchValue)) (node place : ℕ) (keeper : SearchValue) (read : Option SearchValue) → (holds : Holds kept place node)
    → read ≡ get_or kept place read → read ≡ Some keeper → holds.search ≡ keeper
held_read kept node place keeper read holds here is =
    some_is holds.search keeper (sym holds.at ∙ read_kept kept place read (place_within kept place holds.search holds.at) here ∙ is)

pub walk_on : {kept : List (Option SearchValue)} {on : ℕ} {places : List ℕ} {node entries : ℕ} (place wanted more : ℕ) (keeper : SearchValue)
    (read : Option SearchValue) → IsWalking kept on places node entries → Holds kept place node → read ≡ get_or kept place read
    → read ≡ Some keeper → Some wanted ≡ keeper.wanted → more ≡ entries + size keeper.stack
    → IsWalking kept on (places ++ place ∷ []) wanted more
walk_on {kept} {on} {places} {node} {entries} place wanted more keeper read was holds here is wants sum =
    let same : holds.search ≡ keeper = held_read kept node place keeper read holds here is in
    walking_more place wanted more was
    (record { holds = holds; wants = ap (λ (search : SearchValue). search.wanted) same ∙ sym wants })
    (omega (arith, sum, ap (λ (search : SearchValue). size search.stack) same))

pub walk_ready : {kept : List (Option SearchValue)} {node : ℕ} (place : ℕ) (keeper : SearchValue) (read : Option SearchValue)
    → Holds kept place node → read ≡ get_or kept place read → read ≡ Some keeper → None ≡ keeper.wanted → IsAtReady kept node
walk_ready {kept} {node} place keeper read holds here is none = record {
  place = place;
  holds = holds;
  ready =
      ap (λ (search : SearchValue). search.wanted) (held_read kept node place keeper read holds here is) ∙ sym none;
}

-- if the walk stops off the stack, no walk comes to the stack
pub walk_never : {value : BlockedValue} {on : ℕ} {places : List ℕ} {node entries : ℕ} (s : Stack) → IsTable value
    → IsWalking value.kept on places node entries → IsFree value.kept node ⊎ IsAtReady value.kept node → (IsOn s node → ⊥)
    → ((place u : ℕ) → Holds value.kept place u → IsOn s u → ⊥) → ComesTo value.kept s on → ⊥
walk_never {value} {on} {places} {node} {entries} s table was is off free =
    never_comes value.kept table.apart table.ends on places node s was.path is off free
