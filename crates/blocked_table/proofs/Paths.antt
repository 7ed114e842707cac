-- The slots on the way when what searches wait for is followed.
use Rattle.std.proofs.Common.{◌≡◌, ◌⊎◌, ℕ, zero, suc, ◌<◌, List, [], ◌∷◌, ◌++◌, length, get_or, Option, refl, ap, ◌∙◌, sym, subst, arith}
use Rattle.search_stack.specs.Search.{SearchValue, IsOn}
use Rattle.search_stack.specs.Stack.{Stack}
use Rattle.blocked_table.specs.Kept.{Holds, IsApart, Follows, IsChain, IsFree, IsAtReady, AllEnd, ComesTo}
use Rattle.blocked_table.specs.Paths.{StepsAt, IsWaitPath}
use Rattle.blocked_table.proofs.Chain.{IsRing, chain_on, end_stops, follows_one, no_ring, place_within, same_search}

pub step_follows : {kept : List (Option SearchValue)} {v place x : ℕ} → StepsAt kept v place x → Follows kept v x
step_follows {kept} {v} {place} {x} step = record { place = place; holds = step.holds; wants = step.wants }

-- a path and one step more
pub path_push : (kept : List (Option SearchValue)) (v : ℕ) (places : List ℕ) (w place x : ℕ) → IsWaitPath kept v places w → StepsAt kept w place x
    → IsWaitPath kept v (places ++ place ∷ []) x
path_push kept v [] w place x path step = (x, subst (λ k. StepsAt kept k place x) (sym path) step, refl)
path_push kept v (p ∷ ps) w place x path step = (path.0, path.1, path_push kept path.0 ps w place x path.2 step)

pub path_chain : (kept : List (Option SearchValue)) (v : ℕ) (places : List ℕ) (w : ℕ) → IsWaitPath kept v places w → (xs : List ℕ) × IsChain kept v xs w
path_chain kept v [] w path = ([], path)
path_chain kept v (p ∷ ps) w path =
    let rest : (xs : List ℕ) × IsChain kept path.0 xs w = path_chain kept path.0 ps w path.2 in
    (path.0 ∷ rest.0, (step_follows path.1, rest.1))

-- a slot on a path, reached over a chain
record IsPassed (kept : List (Option SearchValue)) (v place : ℕ) : Type 0 where
  node : ℕ
  steps : List ℕ
  chain : IsChain kept v steps node
  next : ℕ
  step : StepsAt kept node place next

passed : (kept : List (Option SearchValue)) (v : ℕ) (places : List ℕ) (w i d : ℕ) → IsWaitPath kept v places w → i < length places
    → IsPassed kept v (get_or places i d)
passed kept v [] w i d path lt = absurd (omega (arith, lt))
passed kept v (p ∷ ps) w zero d path lt = record { node = v; steps = []; chain = refl; next = path.0; step = path.1 }
passed kept v (p ∷ ps) w (suc i) d path lt =
    let rest : IsPassed kept path.0 (get_or ps i d) = passed kept path.0 ps w i d path.2 (omega (arith, lt)) in
    record {
      node = rest.node;
      steps = path.0 ∷ rest.steps;
      chain = (step_follows path.1, rest.chain);
      next = rest.next;
      step = rest.step;
    }

-- a chain from x to a node that leads back to x is a cycle
ring_of : (kept : List (Option SearchValue)) (x : ℕ) (steps : List ℕ) (u : ℕ) → IsChain kept x steps u → Follows kept u x → IsRing kept x
ring_of kept x [] u chain follows =
    record { next = x; steps = []; chain = (subst (λ k. Follows kept k x) (sym chain) follows, refl) }
ring_of kept x (y ∷ ys) u chain follows =
    record { next = y; steps = ys ++ x ∷ []; chain = (chain.0, chain_on kept y ys u (x ∷ []) x chain.1 (follows, refl)) }

module _ (kept : List (Option SearchValue)) (apart : IsApart kept) (all : AllEnd kept) where
  -- a slot that was passed doesn't come again
  never_again : (v p x : ℕ) (places : List ℕ) (w i d : ℕ) → StepsAt kept v p x → IsWaitPath kept x places w → i < length places
      → get_or places i d ≡ p → ⊥
  never_again v p x places w i d step path lt is =
      let there : IsPassed kept x p = subst (λ q. IsPassed kept x q) is (passed kept x places w i d path lt) in
      let same : step.holds.search ≡ there.step.holds.search =
      same_search kept p step.holds.search there.step.holds.search step.holds.at there.step.holds.at in
      let follows : Follows kept there.node x =
      record {
        place = p;
        holds = there.step.holds;
        wants = sym (ap (λ (search : SearchValue). search.wanted) same) ∙ step.wants;
      } in
      no_ring kept apart x (all p x step.holds.search step.holds.at step.wants) (ring_of kept x there.steps there.node there.chain follows)

  pub path_once : (v : ℕ) (places : List ℕ) (w : ℕ) → IsWaitPath kept v places w → (i j d : ℕ) → i < j → j < length places
      → get_or places i d ≡ get_or places j d → ⊥
  path_once v [] w path i j d before lt same = omega (arith, lt)
  path_once v (p ∷ ps) w path zero zero d before lt same = omega (arith, before)
  path_once v (p ∷ ps) w path zero (suc j) d before lt same =
      never_again v p path.0 ps w j d path.1 path.2 (omega (arith, lt)) (sym same)
  path_once v (p ∷ ps) w path (suc i) zero d before lt same = omega (arith, before)
  path_once v (p ∷ ps) w path (suc i) (suc j) d before lt same =
      path_once path.0 ps w path.2 i j d (omega (arith, before)) (omega (arith, lt)) same

  pub path_within : (v : ℕ) (places : List ℕ) (w : ℕ) → IsWaitPath kept v places w → (i d : ℕ) → i < length places → get_or places i d < length kept
  path_within v places w path i d lt =
      let there : IsPassed kept v (get_or places i d) = passed kept v places w i d path lt in
      place_within kept (get_or places i d) there.step.holds.search there.step.holds.at

  -- two walks that stop come to one node
  chains_meet : (v : ℕ) (xs : List ℕ) (u : ℕ) (ys : List ℕ) (w : ℕ) → IsChain kept v xs u → IsChain kept v ys w
      → ((x : ℕ) → Follows kept u x → ⊥) → (zs : List ℕ) × IsChain kept w zs u
  chains_meet v xs u [] w first second stops = (xs, subst (λ k. IsChain kept k xs u) second first)
  chains_meet v [] u (y ∷ ys) w first second stops = absurd (stops y (subst (λ k. Follows kept k y) first second.0))
  chains_meet v (x ∷ xs) u (y ∷ ys) w first second stops =
      let same : y ≡ x = follows_one kept apart v y x second.0 first.0 in
      chains_meet x xs u ys w first.1 (subst (λ k. IsChain kept k ys w) same second.1) stops

  -- if a walk stops off the stack, and no suspended search holds a node of the stack, no walk comes
  -- to the stack
  pub never_comes : (v : ℕ) (places : List ℕ) (w : ℕ) (s : Stack) → IsWaitPath kept v places w → IsFree kept w ⊎ IsAtReady kept w
      → (IsOn s w → ⊥) → ((place u : ℕ) → Holds kept place u → IsOn s u → ⊥) → ComesTo kept s v → ⊥
  never_comes v places w s path is off free comes =
      let walk : (xs : List ℕ) × IsChain kept v xs w = path_chain kept v places w path in
      let on : (zs : List ℕ) × IsChain kept comes.end zs w =
      chains_meet v walk.0 w comes.steps comes.end walk.1 comes.chain (λ x follows. end_stops kept apart w x is follows) in
      stays on.0 comes.end comes.on on.1
    where
      stays : (zs : List ℕ) (end : ℕ) → IsOn s end → IsChain kept end zs w → ⊥
      stays [] end there chain = off (subst (λ k. IsOn s k) chain there)
      stays (z ∷ zs) end there chain = free chain.0.place end chain.0.holds there
