-- A closed walk stays in its class, so the least one is found by the calls inside.
use Rattle.std.proofs.Common.{ℕ, List, [], ◌∷◌, Option, None, Some, refl, sym, subst}
use Rattle.std.specs.Prelude.{Contains}
use Rattle.graph_law.specs.Classes.{IsClass}
use Rattle.graph_law.specs.Reach.{IsWalk, Reaches}
use Rattle.graph_law.proofs.ReachLaws.{reaches_first, reaches_last, reaches_trans, walk_along}
use Rattle.loop_paths.specs.Paths.{IsLead}
use Rattle.loop_paths.specs.Circuits.{IsCircuit, IsReturn}
use Rattle.loop_paths.proofs.Leads.{circuit_least, circuit_none}

-- the inner calls are calls, and a call from a member of the class to a member is one of them
pub record AreInside (calls inner : ℕ → ℕ → Type 0) (class : List ℕ) : Type 0 where
  pub out : (p q : ℕ) → inner p q → calls p q
  pub into : (p q : ℕ) → Contains class p → Contains class q → calls p q → inner p q

-- a walk from a member to a node that calls back to the class goes by inner calls
walk_inside : (calls inner : ℕ → ℕ → Type 0) (class : List ℕ) → IsClass calls class → AreInside calls inner class
    → (home a : ℕ) (rest : List ℕ) (s : ℕ) → Contains class home → Contains class a → IsWalk calls a rest s → Reaches calls s home
    → IsWalk inner a rest s × Contains class s
walk_inside calls inner class is inside home a [] s at_home member walk back = (walk, subst (Contains class) walk member)
walk_inside calls inner class is inside home a (n ∷ rest) s at_home member walk back =
    let there : Reaches calls home n = reaches_last calls home a n (is.mutual_reach home a at_home member).there walk.0 in
    let again : Reaches calls n home = reaches_trans (record { path = rest; walk = walk.1 }) back in
    let next : Contains class n = is.whole home n at_home (record { there = there; back = again }) in
    let on = walk_inside calls inner class is inside home n rest s at_home next walk.1 back in
    ((inside.into a n member next walk.0, on.0), on.1)

-- so does a lead of a member back to itself
pub lead_inside : (calls inner : ℕ → ℕ → Type 0) (class : List ℕ) → IsClass calls class → AreInside calls inner class
    → (p : ℕ) (path : List ℕ) → Contains class p → IsLead calls p p path → IsLead inner p p path
lead_inside calls inner class is inside p [] member lead = absurd lead.is_path
lead_inside calls inner class is inside p (n ∷ rest) member lead =
    let back : Reaches calls lead.last p = reaches_first calls lead.last p p lead.call (record { path = []; walk = refl }) in
    let begins : Contains class n = subst (Contains class) (sym lead.is_path.0) member in
    let on = walk_inside calls inner class is inside p n rest lead.last member begins lead.is_path.1 back in
    record { last = lead.last; is_path = (lead.is_path.0, on.0); call = inside.into lead.last p on.1 member lead.call }

pub lead_outside : (calls inner : ℕ → ℕ → Type 0) → ((a b : ℕ) → inner a b → calls a b) → (p q : ℕ) (path : List ℕ)
    → IsLead inner p q path → IsLead calls p q path
lead_outside calls inner out p q [] lead = absurd lead.is_path
lead_outside calls inner out p q (n ∷ rest) lead =
    record { last = lead.last; is_path = (lead.is_path.0, walk_along inner calls out n rest lead.last lead.is_path.1); call = out lead.last q lead.call }

-- what is found by the inner calls is the circuit
pub circuit_inside : (calls inner : ℕ → ℕ → Type 0) (class : List ℕ) → IsClass calls class → AreInside calls inner class
    → (p : ℕ) → Contains class p → (found : Option (List ℕ)) → IsReturn inner p found → IsCircuit calls p found
circuit_inside calls inner class is inside p member None none =
    circuit_none calls p (λ lead led. none lead (lead_inside calls inner class is inside p lead member led))
circuit_inside calls inner class is inside p member (Some path) least =
    circuit_least calls p path (record {
      is = lead_outside calls inner inside.out p p path least.is;
      least = λ ys lead less. least.least ys (lead_inside calls inner class is inside p ys member lead) less;
    })
