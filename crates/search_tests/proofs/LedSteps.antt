-- What each step makes of a search that is led by hand beside a book.
use Rattle.std.proofs.Common.{◌≡◌, ◌⊎◌, inl, inr, ℕ, zero, suc, ◌<◌, ◌+◌, ◌-◌, true, false, List, [], ◌∷◌, length, get_or, map, drop, None, Some, nat_eq, ne_eqb, refl, ap, ◌∙◌, sym, subst, arith}
use Rattle.std.proofs.lemmas.Bool.{cases_lt}
use Rattle.std.proofs.lemmas.List.{get_or-map, get_or-drop, get_or_default, length-drop, length-map}
use Rattle.std.proofs.lemmas.List.Elements.{All-from_get_or}
use Rattle.std.proofs.lemmas.Map.Keys.{IsDistinct-from_apart}
use Rattle.std.specs.List.{IsDistinct as AreDistinct}
use Rattle.std.specs.Prelude.{All, Contains}
use Rattle.list_laws.specs.Counts.{flat, times}
use Rattle.list_laws.proofs.Counting.{counted, standing}
use Rattle.graph_law.specs.Classes.{HasMember}
use Rattle.graph_law.specs.Graph.{Calls}
use Rattle.graph_law.specs.Reach.{IsReached}
use Rattle.search_stack.specs.GoodSearch.{IsGood}
use Rattle.search_stack.specs.Search.{IsDistinct, IsDone, IsLastBegun, IsOn, IsReleasable, IsRipe, SearchValue, empty_stack, lowered, next_successor, nodes_from, one_more_begun, pushed, retreated}
use Rattle.search_stack.specs.Stack.{Entry, Stack, low, node, position, size, top}
use Rattle.search_stack.proofs.Shapes.{empty_size}
use Rattle.blocked_table.specs.Kept.{Holds}
use Rattle.group_release.specs.Book.{BookValue, IsGoodBook, RunsBeside, released_of}
use Rattle.group_release.specs.Outline.{nodes_on}
use Rattle.group_release.specs.Released.{IsNewGroup}
use Rattle.group_release.proofs.Beside.{reached_within}
use Rattle.group_release.proofs.Nodes.{below_counted, lowered_on, on_counted, on_listed}
use Rattle.search_machine.proofs.Counts.{pushed_counted}
use Rattle.search_machine.proofs.Stacks.{back_good, back_some, begun_counted, begun_good, begun_last, begun_some, first_good, leaves, push_good, push_some, retreat_counted, retreat_good, retreat_some}
use Rattle.search_tests.specs.Led.{IsFreeIn, LeadsTo}

-- stacks that count their nodes the same hold the same
same_on : (s t : Stack) → ((x : ℕ) → times x (nodes_on t) ≡ times x (nodes_on s)) → (v : ℕ) → IsOn t v → IsOn s v
same_on s t same v on = on_listed s v (standing v (nodes_on s) (omega (arith, same v, on_counted t v on)))

-- the one element of a list of one
only : (v u : ℕ) → Contains (v ∷ []) u → v ≡ u
only v u (zero, lt, at) = at
only v u (suc k, lt, at) = absurd (omega (arith, lt))

-- an edge begins
pub led_to : {book : BookValue} {old now : SearchValue} {v : ℕ} → RunsBeside book old → next_successor old.stack ≡ Some v
    → now.stack ≡ one_more_begun old.stack (position old.stack (top old.stack)) → now.wanted ≡ None → LeadsTo book now v
led_to {book} {old} {now} {v} runs next is none =
    let same = begun_counted runs.good runs.some next in
    let stands : (u : ℕ) → IsOn now.stack u → IsOn old.stack u = λ u on. same_on old.stack _ same u (subst (λ s. IsOn s u) is on) in
    record {
      some = subst (λ s. 0 < size s) (sym is) (begun_some runs.good runs.some next);
      wants_nothing = none;
      good = subst (IsGood book.lists book.roots (flat book.groups) true) (sym is) (begun_good runs.good runs.some next);
      apart = λ place u holds on. runs.apart place u holds (stands u on);
      unreleased = λ u on. runs.unreleased u (stands u on);
      last = subst (λ s. IsLastBegun s v) (sym is) (begun_last runs.good runs.some next);
    }

-- it leads back
pub led_back : {book : BookValue} {old now : SearchValue} {v : ℕ} → LeadsTo book old v → (on : IsOn old.stack v)
    → now ≡ record old { stack = lowered old.stack on.place } → RunsBeside book now
led_back {book} {old} {now} {v} leads on is =
    let stack_is : now.stack ≡ lowered old.stack on.place = ap (λ (value : SearchValue). value.stack) is in
    let stands : (u : ℕ) → IsOn now.stack u → IsOn old.stack u = λ u at. lowered_on old.stack on.place u (subst (λ s. IsOn s u) stack_is at) in
    record {
      some = subst (λ s. 0 < size s) (sym stack_is) (back_some leads.good leads.last on.place on.within on.is);
      wants_nothing = ap (λ (value : SearchValue). value.wanted) is ∙ leads.wants_nothing;
      good = subst (IsGood book.lists book.roots (flat book.groups) false) (sym stack_is) (back_good leads.good leads.last on.place on.within on.is);
      apart = λ place u holds at. leads.apart place u holds (stands u at);
      unreleased = λ u at. leads.unreleased u (stands u at);
    }

-- what a push puts on the stack
pushed_on : (s : Stack) (v : ℕ) (list : List ℕ) (u : ℕ) → IsOn (pushed s v list) u → IsOn s u ⊎ Contains (v ∷ []) u
pushed_on s v list u on =
    let some = on_counted (pushed s v list) u on in
    let sum = pushed_counted s v list u in
    elim (cases_lt 0 (times u (nodes_on s))) as (λ _. IsOn s u ⊎ Contains (v ∷ []) u) [
      | inl old ↦ inl (on_listed s u (standing u (nodes_on s) old))
      | inr none ↦ inr (standing u (v ∷ []) (omega (arith, some, sum, none)))
    ]

-- the node to which the edge leads is pushed
pub entered : {book : BookValue} {old now : SearchValue} {v : ℕ} → LeadsTo book old v → IsFreeIn book v
    → now.stack ≡ pushed old.stack v (get_or book.lists v []) → now.wanted ≡ None → RunsBeside book now
entered {book} {old} {now} {v} leads free is none =
    let list : List ℕ = get_or book.lists v [] in
    let stands : (u : ℕ) → IsOn now.stack u → IsOn old.stack u ⊎ Contains (v ∷ []) u = λ u on.
    pushed_on old.stack v list u (subst (λ s. IsOn s u) is on) in
    record {
      some = subst (λ s. 0 < size s) (sym is) (push_some old.stack v list);
      wants_nothing = none;
      good = subst (IsGood book.lists book.roots (flat book.groups) false) (sym is) (push_good leads.good leads.last);
      apart = λ place u holds on.
          elim (stands u on) as (λ _. ⊥) [
            | inl old_on ↦ leads.apart place u holds old_on
            | inr here ↦ free.unkept place (subst (Holds book.kept place) (sym (only v u here)) holds)
          ];
      unreleased = λ u on member.
          elim (stands u on) as (λ _. ⊥) [
            | inl old_on ↦ leads.unreleased u old_on member
            | inr here ↦ free.unreleased (subst (HasMember book.groups) (sym (only v u here)) member)
          ];
    }

-- nothing is on an empty stack
pub none_on : (v : ℕ) → IsOn empty_stack v → ⊥
none_on v on = let within = on.within in omega (arith, within, empty_size)

-- a root is the first node of a search
pub started : {book : BookValue} {now : SearchValue} {v : ℕ} → Contains book.roots v → IsFreeIn book v
    → now.stack ≡ pushed empty_stack v (get_or book.lists v []) → now.wanted ≡ None → RunsBeside book now
started {book} {now} {v} root free is none =
    let list : List ℕ = get_or book.lists v [] in
    let reached : IsReached (Calls book.lists) book.roots v = record { start = v; is_start = root; reaches = record { path = []; walk = refl } } in
    let stands : (u : ℕ) → IsOn now.stack u → v ≡ u = λ u on.
    elim (pushed_on empty_stack v list u (subst (λ s. IsOn s u) is on)) as (λ _. v ≡ u) [
      | inl before ↦ absurd (none_on u before)
      | inr here ↦ only v u here
    ] in
    record {
      some = subst (λ s. 0 < size s) (sym is) (push_some empty_stack v list);
      wants_nothing = none;
      good = subst (IsGood book.lists book.roots (flat book.groups) false) (sym is) (first_good book.lists book.roots (flat book.groups) v reached);
      apart = λ place u holds on. free.unkept place (subst (Holds book.kept place) (sym (stands u on)) holds);
      unreleased = λ u on member. free.unreleased (subst (HasMember book.groups) (sym (stands u on)) member);
    }

-- the top segment joins the one below
pub joins : {book : BookValue} {old now : SearchValue} → RunsBeside book old → (done : IsDone old.stack)
    → (below : low old.stack (top old.stack) < position old.stack (top old.stack)) → now ≡ record old { stack = retreated old.stack }
    → RunsBeside book now
joins {book} {old} {now} runs done below is =
    let stack_is : now.stack ≡ retreated old.stack = ap (λ (value : SearchValue). value.stack) is in
    let same = retreat_counted runs.good done below in
    let stands : (u : ℕ) → IsOn now.stack u → IsOn old.stack u = λ u on. same_on old.stack _ same u (subst (λ s. IsOn s u) stack_is on) in
    record {
      some = subst (λ s. 0 < size s) (sym stack_is) (retreat_some runs.good done below);
      wants_nothing = ap (λ (value : SearchValue). value.wanted) is ∙ runs.wants_nothing;
      good = subst (IsGood book.lists book.roots (flat book.groups) false) (sym stack_is) (retreat_good runs.good done below);
      apart = λ place u holds on. runs.apart place u holds (stands u on);
      unreleased = λ u on. runs.unreleased u (stands u on);
    }

-- the nodes from a frame on are on the stack, and distinct
pub from_on : (s : Stack) (frame v : ℕ) → Contains (nodes_from s frame) v → IsOn s v
from_on s frame v has =
    on_listed s v (standing v (nodes_on s) (omega (arith, counted v (nodes_from s frame) has, below_counted s frame v)))

from_distinct : (s : Stack) (frame : ℕ) → IsDistinct s → AreDistinct nat_eq (nodes_from s frame)
unfolding nodes_from size node
from_distinct s frame once =
    let nodes : List ℕ = map (λ entry. entry.node) s.entries in
    let p : ℕ = position s frame in
    let no_entry : Entry = record { node = 0; succs = []; begun = 0 } in
    let long : length nodes ≡ length s.entries = length-map s.entries (λ entry. entry.node) in
    let rest : length (drop p nodes) ≡ length nodes - p = length-drop p nodes in
    let read : (i d : ℕ) → p + i < length s.entries → get_or (drop p nodes) i d ≡ node s (p + i) = λ i d lt.
    get_or-drop p nodes i d ∙ get_or-map (λ entry. entry.node) s.entries (p + i) no_entry d lt in
    IsDistinct-from_apart nat_eq (drop p nodes)
    (λ i j d below lt.
    let j_within : p + j < length s.entries = omega (arith, lt, rest, long) in
    let i_within : p + i < length s.entries = omega (arith, below, j_within) in
    ne_eqb (get_or (drop p nodes) i d) (get_or (drop p nodes) j d)
    (λ is.
    let same : p + i ≡ p + j = once (p + i) (p + j) i_within j_within (sym (read i d i_within) ∙ is ∙ read j d j_within) in
    omega (arith, same, below)))

-- the ripe top segment is a new group
pub new_group : {book : BookValue} {search : SearchValue} → RunsBeside book search → IsGoodBook book → IsRipe search.stack → IsDistinct search.stack
    → IsNewGroup (released_of book) (nodes_from search.stack (top search.stack))
new_group {book} {search} runs good ripe once =
    let group : List ℕ = nodes_from search.stack (top search.stack) in
    let releasable : IsReleasable book.lists book.roots (flat book.groups) group = leaves runs.good ripe in
    record {
      inhabited = releasable.inhabited;
      distinct = from_distinct search.stack (top search.stack) once;
      below =
          All-from_get_or (λ v. v < length book.lists) group 0
          (λ k lt.
          reached_within book.lists book.roots good.closed good.rooted (get_or group k 0)
          (releasable.reached (get_or group k 0) (k, lt, get_or_default group k (get_or group k 0) 0 lt)));
      fresh = λ v has member. runs.unreleased v (from_on search.stack (top search.stack) v has) member;
    }
