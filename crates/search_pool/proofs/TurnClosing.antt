-- The nodes of the group that was released last are closed one after another.
use Rattle.std.proofs.Common.{◌≡◌, ℕ, zero, suc, ◌<◌, ◌≤◌, ◌+◌, ◌-◌, List, [], ◌∷◌, ◌++◌, length, take, get_or, Some, ap, ◌∙◌, sym, subst, arith, append_assoc}
use Rattle.std.proofs.lemmas.List.{get_or_default, take_more}
use Rattle.std.proofs.lemmas.Option.{get_or_from_slice_get}
use Rattle.std.specs.Prelude.{Contains, slice_get}
use Rattle.list_laws.specs.Counts.{times}
use Rattle.list_laws.proofs.Counting.{times-append, times_here}
use Rattle.graph_law.specs.Classes.{HasMember}
use Rattle.node_claims.specs.Claims.{TurnValue}
use Rattle.node_claims.specs.Steps.{MayClose}
use Rattle.search_pool.specs.Working.{MayCloseAll, last_group, with_closed}

-- as many as are taken
taken_less : (x n : ℕ) (xs : List ℕ) → times x (take n xs) ≤ times x xs
taken_less x zero xs = omega arith
taken_less x (suc n) [] = omega arith
taken_less x (suc n) (y ∷ xs) = let rest = taken_less x n xs in omega (arith, rest)

-- so many of the group's nodes are closed
module _ {turn : TurnValue} (may : MayCloseAll turn) {now : TurnValue} (index : ℕ) (is : now ≡ with_closed turn (take index (last_group turn.book))) where
  abbrev group : List ℕ
  group = last_group turn.book

  pub some_group : 0 < length now.book.groups
  some_group = subst (λ (t : TurnValue). 0 < length t.book.groups) (sym is) may.some

  pub same_group : last_group now.book ≡ group
  same_group = ap (λ (t : TurnValue). last_group t.book) is

  pub within_group : index < length group → index < length (last_group now.book)
  within_group lt = subst (λ g. index < length g) (sym same_group) lt

  module _ (lt : index < length group) {node : ℕ} (member : slice_get (last_group now.book) index ≡ Some node) where
    here : get_or group index 0 ≡ node
    here = ap (λ g. get_or g index 0) (sym same_group) ∙ get_or_from_slice_get (last_group now.book) index node 0 member

    contained : Contains group node
    contained = (index, lt, get_or_default group index node 0 lt ∙ here)

    pub node_below : node < length now.view.lists
    node_below = subst (λ (t : TurnValue). node < length t.view.lists) (sym is) (may.below node contained)

    pub is_member : HasMember now.book.groups node
    is_member =
        subst (λ (t : TurnValue). HasMember t.book.groups node) (sym is)
        (record { place = length turn.book.groups - 1; within = omega (arith, may.some); member = contained })

    -- one more is closed
    pub closed_more : take (index + 1) group ≡ take index group ++ node ∷ []
    closed_more = take_more group index 0 lt ∙ ap (λ v. take index group ++ v ∷ []) here

    pub may_close : MayClose now.view now.taken node
    may_close =
        subst (λ (t : TurnValue). MayClose t.view t.taken node) (sym is)
        (record {
          stands = may.stood node contained;
          open_yet =
              let more : times node (take (index + 1) group) ≡ times node (take index group) + times node (node ∷ []) =
              ap (times node) closed_more ∙ times-append node (take index group) (node ∷ []) in
              omega (
                arith,
                more,
                taken_less node (index + 1) group,
                may.once node,
                times_here node,
                may.none_closed node contained,
                times-append node turn.taken.closed (take index group),
              );
        })

    pub closes_more : (after : TurnValue)
        → after ≡ record now { taken = record now.taken { closed = now.taken.closed ++ node ∷ [] } } → after ≡ with_closed turn (take (index + 1) group)
    closes_more after closed =
        closed ∙ ap (λ (t : TurnValue). record t { taken = record t.taken { closed = t.taken.closed ++ node ∷ [] } }) is
        ∙ ap (λ nodes. record turn { taken = record turn.taken { closed = nodes } }) (append_assoc turn.taken.closed (take index group) (node ∷ []))
        ∙ ap (with_closed turn) (sym closed_more)
