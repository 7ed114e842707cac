-- Laws of paths.
use Rattle.std.proofs.Common.{◌≡◌, ℕ, suc, ◌<◌, ◌≤◌, List, [], ◌∷◌, ◌++◌, length, refl, sym, ap, ◌∙◌, arith, subst}
use Rattle.graph_law.specs.Reach.{IsWalk}
use Rattle.graph_law.proofs.ReachLaws.{walk_append}
use Rattle.loop_paths.specs.Paths.{IsPath, IsLead}

pub path_one : (calls : ℕ → ℕ → Type 0) (p : ℕ) → IsPath calls p p (p ∷ [])
path_one calls p = (refl, refl)

pub path_some : (calls : ℕ → ℕ → Type 0) (p q : ℕ) (path : List ℕ) → IsPath calls p q path → 0 < length path
path_some calls p q [] is = absurd is
path_some calls p q (n ∷ rest) is = let long : length (n ∷ rest) ≡ suc (length rest) = refl in omega (arith, long)

pub path_push : (calls : ℕ → ℕ → Type 0) (p q r : ℕ) (path : List ℕ) → IsPath calls p q path → calls q r → IsPath calls p r (path ++ r ∷ [])
path_push calls p q r [] is call = absurd is
path_push calls p q r (n ∷ rest) is call = (is.0, walk_append calls n rest q (r ∷ []) r is.1 (call, refl))

-- the last step of a walk that is not empty
walk_back : (calls : ℕ → ℕ → Type 0) (p n : ℕ) (rest : List ℕ) (q : ℕ) → calls p n → IsWalk calls n rest q
    → (before : List ℕ) × (last : ℕ) × (n ∷ rest ≡ before ++ q ∷ []) × IsWalk calls p before last × calls last q
walk_back calls p n [] q call is = ([], p, ap (λ each. each ∷ []) is, refl, subst (calls p) is call)
walk_back calls p n (m ∷ rest) q call walk =
    let on = walk_back calls n m rest q walk.0 walk.1 in
    (n ∷ on.0, on.1, ap (λ each. n ∷ each) on.2, (call, on.3), on.4)

-- a path of two nodes or more is a lead and its last node
pub path_split : (calls : ℕ → ℕ → Type 0) (p q : ℕ) (path : List ℕ) → IsPath calls p q path → 2 ≤ length path
    → (lead : List ℕ) × (path ≡ lead ++ q ∷ []) × IsLead calls p q lead
path_split calls p q [] is two = absurd is
path_split calls p q (n ∷ []) is two = absurd (let one : length (n ∷ []) ≡ 1 = refl in omega (arith, two, one))
path_split calls p q (n ∷ (m ∷ rest)) is two =
    let walk = is.1 in
    let on = walk_back calls n m rest q walk.0 walk.1 in
    (n ∷ on.0, ap (λ each. n ∷ each) on.2, record { last = on.1; is_path = (is.0, on.3); call = on.4 })

-- a path of one node comes to itself
pub path_short : (calls : ℕ → ℕ → Type 0) (p q : ℕ) (path : List ℕ) → IsPath calls p q path → length path < 2 → p ≡ q
path_short calls p q [] is short = absurd is
path_short calls p q (n ∷ []) is short = sym is.0 ∙ is.1
path_short calls p q (n ∷ (m ∷ rest)) is short =
    absurd (let long : length (n ∷ (m ∷ rest)) ≡ suc (suc (length rest)) = refl in omega (arith, short, long))
