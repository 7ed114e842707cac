-- All of a search is released under the turn, and its nodes are closed one by one.
use Rattle.std.proofs.Common.{◌≡◌, inl, ℕ, ◌<◌, ◌≤◌, ◌+◌, false, List, [], ◌∷◌, ◌++◌, length, get_or, map, None, refl, ap, ◌∙◌, sym, subst, arith}
use Rattle.std.proofs.lemmas.List.{append-nil, get_or_default}
use Rattle.std.proofs.lemmas.List.Elements.{All-from_get_or}
use Rattle.std.specs.Prelude.{Contains}
use Rattle.list_laws.specs.Counts.{times, flat}
use Rattle.list_laws.proofs.Counting.{counted, standing}
use Rattle.graph_law.specs.Classes.{HasMember}
use Rattle.search_stack.specs.GoodSearch.{IsGood}
use Rattle.search_stack.specs.Search.{SearchValue, IsReleasable, below_frame, nodes_from}
use Rattle.search_stack.specs.Stack.{Entry, Stack, size, top}
use Rattle.search_stack.proofs.Edges.{good_more}
use Rattle.blocked_table.specs.Kept.{Holds}
use Rattle.group_release.specs.Book.{BookValue, released_of}
use Rattle.group_release.specs.Outline.{kept_nodes, nodes_on, wanted_nodes}
use Rattle.group_release.specs.Released.{IsAppended, IsNewGroup}
use Rattle.group_release.proofs.KeptCounts.{held_counted}
use Rattle.group_release.proofs.Nodes.{below_counted, from_flat, in_flat}
use Rattle.group_release.proofs.OnceCounts.{distinct_listed}
use Rattle.node_claims.specs.Claims.{ClaimsValue, PassValue, TurnValue, nodes_with}
use Rattle.node_claims.specs.Steps.{IsLent, MayClose, MayGive}
use Rattle.node_claims.specs.Views.{outline_of}
use Rattle.node_claims.specs.declared.view.Taken.{Taken}
use Rattle.node_claims.specs.declared.view.View.{View}
use Rattle.search_pool.specs.Driving.{IsIdlePass}
use Rattle.search_pool.specs.Worker.{IsSearching}
use Rattle.search_pool.proofs.EdgesKept.{has_alone}

-- the pass of a search has the turn, and the group that was taken off the search is all of it
pub record TookAll (claims : ClaimsValue) (pass : PassValue) (search : SearchValue) (group : List ℕ) (rest : SearchValue) (turn : TurnValue) : Type 0 where
  pub runs : IsSearching claims pass search false
  pub group_is : group ≡ nodes_from search.stack (top search.stack)
  pub rest_is : rest ≡ record search { stack = below_frame search.stack (top search.stack) }
  pub empty : size rest.stack ≡ 0
  pub table : turn.table ≡ pass.table
  pub view : turn.view ≡ pass.view
  pub taken : turn.taken ≡ record { book = outline_of turn.book; closed = [] }
  pub lent : IsLent pass.view (outline_of turn.book)

-- what the release of the group promises
pub record IsReleased (book : BookValue) (group : List ℕ) (now : BookValue) : Type 0 where
  pub only : now ≡ record book { kept = now.kept; groups = now.groups }
  pub appended : IsAppended (released_of book) group (released_of now)
  pub count : (x : ℕ) → times x (flat now.groups) ≡ times x (flat book.groups) + times x group
  pub kept : kept_nodes now.kept ≡ kept_nodes book.kept
  pub wanted : (x : ℕ) → times x (wanted_nodes now.kept) ≤ times x (wanted_nodes book.kept)

-- the turn with one node more closed
abbrev pub with_one : TurnValue → ℕ → TurnValue
with_one turn v = record turn { taken = record turn.taken { closed = turn.taken.closed ++ v ∷ [] } }

-- the turn of the pass, with this book now, and these nodes closed
pub record HasClosed (pass : PassValue) (book now : BookValue) (turn : TurnValue) (closed : List ℕ) : Type 0 where
  pub table : turn.table ≡ pass.table
  pub view : turn.view ≡ pass.view
  pub taken : turn.taken ≡ record { book = outline_of book; closed = closed }
  pub book_is : turn.book ≡ now

pub one_more : {pass : PassValue} {book now : BookValue} {turn after : TurnValue} {closed : List ℕ} (v : ℕ) → HasClosed pass book now turn closed
    → after ≡ with_one turn v → HasClosed pass book now after (closed ++ v ∷ [])
one_more v has is = record {
  table = ap (λ (t : TurnValue). t.table) is ∙ has.table;
  view = ap (λ (t : TurnValue). t.view) is ∙ has.view;
  taken = ap (λ (t : TurnValue). t.taken) is ∙ ap (λ (t : Taken). record t { closed = t.closed ++ v ∷ [] }) has.taken;
  book_is = ap (λ (t : TurnValue). t.book) is ∙ has.book_is;
}

-- an empty search has no node
no_entries : (entries : List Entry) → length entries ≡ 0 → map (λ entry. entry.node) entries ≡ []
no_entries [] none = refl
no_entries (entry ∷ entries) none = absurd (omega (arith, none))

no_nodes : (s : Stack) → size s ≡ 0 → nodes_on s ≡ []
unfolding size
no_nodes s none = no_entries s.entries none

-- each node of the ring is in the group that is the ring
pub zero_in : {group : List ℕ} → group ≡ 0 ∷ 1 ∷ 2 ∷ [] → 0 < times 0 group
zero_in is = let one : times 0 (0 ∷ 1 ∷ 2 ∷ []) ≡ 1 = refl in omega (arith, ap (times 0) is, one)

pub one_in : {group : List ℕ} → group ≡ 0 ∷ 1 ∷ 2 ∷ [] → 0 < times 1 group
one_in is = let one : times 1 (0 ∷ 1 ∷ 2 ∷ []) ≡ 1 = refl in omega (arith, ap (times 1) is, one)

pub two_in : {group : List ℕ} → group ≡ 0 ∷ 1 ∷ 2 ∷ [] → 0 < times 2 group
two_in is = let one : times 2 (0 ∷ 1 ∷ 2 ∷ []) ≡ 1 = refl in omega (arith, ap (times 2) is, one)

module _ {claims : ClaimsValue} {pass : PassValue} {search : SearchValue} {group : List ℕ} {rest : SearchValue} {turn : TurnValue}
    (took : TookAll claims pass search group rest turn) where
  abbrev book : BookValue
  book = turn.book

  nothing : nodes_with rest None ≡ []
  nothing = append-nil (nodes_on rest.stack) ∙ no_nodes rest.stack took.empty

  -- the pass has the nodes of the group
  own : (x : ℕ) → times x pass.view.nodes ≡ times x group
  own x =
      let this : times x group ≡ times x (nodes_from search.stack (top search.stack)) = ap (times x) took.group_is in
      let left : times x (nodes_on rest.stack) ≡ times x (nodes_on (below_frame search.stack (top search.stack))) =
      ap (λ (s : SearchValue). times x (nodes_on s.stack)) took.rest_is in
      let none : times x (nodes_on rest.stack) ≡ 0 = ap (times x) (no_nodes rest.stack took.empty) in
      let all : times x pass.view.nodes ≡ times x (nodes_on search.stack) = ap (times x) (has_alone took.runs.working.has) in
      omega (arith, this, left, none, all, below_counted search.stack (top search.stack) x)

  once : (x : ℕ) → times x group + (times x (kept_nodes book.kept) + times x (flat book.groups)) ≤ 1
  once x = omega (arith, own x, took.lent.apart x)

  below : (x : ℕ) → Contains group x → x < length book.lists
  below x has = took.lent.below x (omega (arith, own x, counted x group has))

  good_in : IsGood book.lists book.roots (flat book.groups) false search.stack
  good_in =
      subst (λ lists. IsGood lists book.roots (flat book.groups) false search.stack) (sym took.runs.working.has.pass_of.1.0 ∙ took.lent.lists)
      (subst (λ roots. IsGood claims.lists roots (flat book.groups) false search.stack) (sym took.runs.working.has.pass_of.1.1 ∙ took.lent.roots)
      (good_more (flat book.groups) took.runs.working.good
      (λ v has. standing v (flat book.groups) (took.lent.seen v (counted v pass.view.seen has)))))

  pub may_release : ((lists : List (List ℕ)) (roots done : List ℕ) → IsGood lists roots done false search.stack → IsReleasable lists roots done group)
      → IsReleasable book.lists book.roots (flat book.groups) group
  may_release releasable = releasable book.lists book.roots (flat book.groups) good_in

  pub is_new : IsReleasable book.lists book.roots (flat book.groups) group → IsNewGroup (released_of book) group
  is_new releasable = record {
    inhabited = releasable.inhabited;
    distinct = distinct_listed group (λ x. omega (arith, once x));
    below =
        All-from_get_or (λ node. node < length book.lists) group 0
        (λ k lt. below (get_or group k 0) (k, lt, get_or_default group k (get_or group k 0) 0 lt));
    fresh = λ v has member. omega (arith, once v, counted v group has, counted v (flat book.groups) (in_flat book.groups v member));
  }

  pub is_apart : (place v : ℕ) → Holds book.kept place v → Contains group v → ⊥
  is_apart place v holds has = omega (arith, once v, held_counted book.kept place v holds, counted v group has)

  pub none_closed : (now : BookValue) → HasClosed pass book now (record turn { book = now }) []
  none_closed now = record { table = took.table; view = took.view; taken = took.taken; book_is = refl }

  module _ {now : BookValue} (released : IsReleased book group now) {after : TurnValue} {closed : List ℕ} (has : HasClosed pass book now after closed) where
    -- a node of the group that isn't closed yet may be closed
    pub is_node : (x : ℕ) → 0 < times x group → x < length after.view.lists
    is_node x some =
        subst (λ (lists : List (List ℕ)). x < length lists) (sym (ap (λ (v : View). v.lists) has.view ∙ took.lent.lists))
        (below x (standing x group some))

    pub is_member : (x : ℕ) → 0 < times x group → HasMember after.book.groups x
    is_member x some =
        subst (λ (b : BookValue). HasMember b.groups x) (sym has.book_is)
        (from_flat now.groups x (standing x (flat now.groups) (omega (arith, some, released.count x))))

    pub may_close : (x : ℕ) → 0 < times x group → times x closed ≡ 0 → MayClose after.view after.taken x
    may_close x some open_yet =
        subst (λ (v : View). MayClose v after.taken x) (sym has.view)
        (subst (λ (t : Taken). MayClose pass.view t x) (sym has.taken) (record { stands = omega (arith, own x, some); open_yet = open_yet }))

    -- and once all are closed the turn may be given back
    may_give_it : ((x : ℕ) → times x closed ≡ times x group)
        → MayGive pass.view (record { book = outline_of book; closed = closed }) (outline_of now) (nodes_with rest None)
    may_give_it all = record {
      lists = ap (λ (b : BookValue). b.lists) released.only;
      roots = ap (λ (b : BookValue). b.roots) released.only;
      failed = λ had. ap (λ (b : BookValue). b.failed) released.only ∙ had;
      released = record { more = released.appended.last ∷ []; is = released.appended.groups };
      closed = λ x. omega (arith, released.count x, all x);
      same = λ x.
          let kept : times x (kept_nodes now.kept) ≡ times x (kept_nodes book.kept) = ap (times x) released.kept in
          let none : times x (nodes_with rest None) ≡ 0 = ap (times x) nothing in
          omega (arith, kept, none, released.count x, own x);
      wants = λ x some. inl (omega (arith, some, released.wanted x));
    }

    pub may_give : ((x : ℕ) → times x closed ≡ times x group) → MayGive after.view after.taken (outline_of after.book) (nodes_with rest None)
    may_give all =
        subst (λ (v : View). MayGive v after.taken (outline_of after.book) (nodes_with rest None)) (sym has.view)
        (subst (λ (t : Taken). MayGive pass.view t (outline_of after.book) (nodes_with rest None)) (sym has.taken)
        (subst (λ (b : BookValue). MayGive pass.view (record { book = outline_of turn.book; closed = closed }) (outline_of b) (nodes_with rest None))
        (sym has.book_is) (may_give_it all)))

    -- the pass has nothing then
    pub gives_idle : (given : PassValue) → given.table ≡ after.table
        → given.view
        ≡ record after.view { nodes = nodes_with rest None; seen = after.view.seen ++ flat after.book.groups; told = after.book.failed }
        → IsIdlePass claims given
    gives_idle given table view =
        let of = took.runs.working.has.pass_of in (
          (
            table ∙ has.table ∙ of.0,
            (
              ap (λ (v : View). v.lists) view ∙ ap (λ (v : View). v.lists) has.view ∙ of.1.0,
              ap (λ (v : View). v.roots) view ∙ ap (λ (v : View). v.roots) has.view ∙ of.1.1,
            ),
          ),
          ap (λ (v : View). v.nodes) view ∙ nothing,
        )
