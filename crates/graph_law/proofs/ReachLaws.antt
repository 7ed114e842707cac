-- Laws of reach, over any relation of calls.
use Rattle.std.proofs.Common.{ℕ, List, [], ◌∷◌, ◌++◌, refl, subst, sym}
use Rattle.std.specs.Prelude.{Contains}
use Rattle.graph_law.specs.Reach.{IsWalk, Reaches, IsReached, ReachEachOther}

-- two walks, one after the other
pub walk_append : (calls : ℕ → ℕ → Type 0) (p : ℕ) (first : List ℕ) (q : ℕ) (second : List ℕ) (r : ℕ)
    → IsWalk calls p first q → IsWalk calls q second r → IsWalk calls p (first ++ second) r
walk_append calls p [] q second r is walk = let P : ℕ → Type 0 = λ n. IsWalk calls n second r in subst P (sym is) walk
walk_append calls p (n ∷ path) q second r walk more = (walk.0, walk_append calls n path q second r walk.1 more)

-- each node reaches itself
pub reaches_self : (calls : ℕ → ℕ → Type 0) (p : ℕ) → Reaches calls p p
reaches_self calls p = record { path = []; walk = refl }

-- a call is reach
pub reaches_call : (calls : ℕ → ℕ → Type 0) (p q : ℕ) → calls p q → Reaches calls p q
reaches_call calls p q call = record { path = q ∷ []; walk = (call, refl) }

pub reaches_trans : {calls : ℕ → ℕ → Type 0} {p q r : ℕ} → Reaches calls p q → Reaches calls q r → Reaches calls p r
reaches_trans {calls} {p} {q} {r} there on =
    record { path = there.path ++ on.path; walk = walk_append calls p there.path q on.path r there.walk on.walk }

-- a call, and then reach
pub reaches_first : (calls : ℕ → ℕ → Type 0) (p n q : ℕ) → calls p n → Reaches calls n q → Reaches calls p q
reaches_first calls p n q call on = record { path = n ∷ on.path; walk = (call, on.walk) }

-- reach, and then a call
pub reaches_last : (calls : ℕ → ℕ → Type 0) (p n q : ℕ) → Reaches calls p n → calls n q → Reaches calls p q
reaches_last calls p n q on call = reaches_trans on (reaches_call calls n q call)

-- a property that each call hands on holds of what is reached
pub along_walk : (calls : ℕ → ℕ → Type 0) (P : ℕ → Type 0) (step : (p q : ℕ) → P p → calls p q → P q)
    (p : ℕ) (path : List ℕ) (q : ℕ) → IsWalk calls p path q → P p → P q
along_walk calls P step p [] q is holds = subst P is holds
along_walk calls P step p (n ∷ path) q walk holds = along_walk calls P step n path q walk.1 (step p n holds walk.0)

-- each start is reached, and what a reached node reaches
pub is_reached_start : (calls : ℕ → ℕ → Type 0) (starts : List ℕ) (p : ℕ) → Contains starts p → IsReached calls starts p
is_reached_start calls starts p is_start = record { start = p; is_start = is_start; reaches = reaches_self calls p }

pub is_reached_on : (calls : ℕ → ℕ → Type 0) (starts : List ℕ) (p q : ℕ) → IsReached calls starts p → Reaches calls p q
    → IsReached calls starts q
is_reached_on calls starts p q reached on =
    record { start = reached.start; is_start = reached.is_start; reaches = reaches_trans reached.reaches on }

-- mutual reach is an equivalence
pub each_other_self : (calls : ℕ → ℕ → Type 0) (p : ℕ) → ReachEachOther calls p p
each_other_self calls p = record { there = reaches_self calls p; back = reaches_self calls p }

pub each_other_sym : {calls : ℕ → ℕ → Type 0} {p q : ℕ} → ReachEachOther calls p q → ReachEachOther calls q p
each_other_sym both = record { there = both.back; back = both.there }

pub each_other_trans : {calls : ℕ → ℕ → Type 0} {p q r : ℕ} → ReachEachOther calls p q → ReachEachOther calls q r → ReachEachOther calls p r
each_other_trans first second =
    record { there = reaches_trans first.there second.there; back = reaches_trans second.back first.back }

-- the same walks under a relation that has these calls
pub walk_along : (c d : ℕ → ℕ → Type 0) (to : (p q : ℕ) → c p q → d p q) (p : ℕ) (path : List ℕ) (q : ℕ)
    → IsWalk c p path q → IsWalk d p path q
walk_along c d to p [] q walk = walk
walk_along c d to p (n ∷ path) q walk = (to p n walk.0, walk_along c d to n path q walk.1)

pub reaches_along : (c d : ℕ → ℕ → Type 0) (to : (p q : ℕ) → c p q → d p q) (p q : ℕ) → Reaches c p q → Reaches d p q
reaches_along c d to p q on = record { path = on.path; walk = walk_along c d to p on.path q on.walk }

pub is_reached_along : (c d : ℕ → ℕ → Type 0) (to : (p q : ℕ) → c p q → d p q) (starts : List ℕ) (q : ℕ)
    → IsReached c starts q → IsReached d starts q
is_reached_along c d to starts q reached =
    record { start = reached.start; is_start = reached.is_start; reaches = reaches_along c d to reached.start q reached.reaches }

pub each_other_along : (c d : ℕ → ℕ → Type 0) (to : (p q : ℕ) → c p q → d p q) (p q : ℕ)
    → ReachEachOther c p q → ReachEachOther d p q
each_other_along c d to p q both =
    record { there = reaches_along c d to p q both.there; back = reaches_along c d to q p both.back }
