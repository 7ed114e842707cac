-- A worker that has the turn: its search is good for what is released, and shares no node with the kept searches.
use Rattle.std.proofs.Common.{◌≡◌, ◌⊎◌, inl, inr, ℕ, ◌<◌, ◌≤◌, ◌+◌, Bool, true, List, [], ◌++◌, length, take, get_or, None, refl, ap, ◌∙◌, sym, subst, arith}
use Rattle.std.proofs.lemmas.List.{append-nil}
use Rattle.std.specs.Prelude.{All, Contains}
use Rattle.list_laws.specs.Counts.{times, flat}
use Rattle.list_laws.proofs.Counting.{counted, standing, times-append}
use Rattle.graph_law.specs.Classes.{HasMember}
use Rattle.search_stack.specs.GoodSearch.{IsGood}
use Rattle.search_stack.specs.Search.{SearchValue, IsOn}
use Rattle.search_stack.proofs.Edges.{good_more}
use Rattle.blocked_table.specs.Kept.{Holds}
use Rattle.group_release.specs.Book.{BookValue}
use Rattle.group_release.specs.Outline.{kept_nodes, nodes_on, wanted_nodes}
use Rattle.group_release.proofs.KeptCounts.{held_counted}
use Rattle.group_release.proofs.Nodes.{from_flat, on_counted}
use Rattle.node_claims.specs.Claims.{ClaimsValue, PassValue, TurnValue, IsPassOf, nodes_with}
use Rattle.node_claims.specs.Steps.{IsLent, MayGive}
use Rattle.node_claims.specs.Views.{Noted, outline_of}
use Rattle.node_claims.specs.declared.view.Outline.{Outline}
use Rattle.node_claims.specs.declared.view.Taken.{Taken}
use Rattle.node_claims.specs.declared.view.View.{View}
use Rattle.search_pool.specs.Worker.{IsWorking}
use Rattle.search_pool.specs.Working.{ContinuesWith, IsTurnOf}

-- the nodes of a search with nothing unopened
pub plain_counted : (search : SearchValue) (x : ℕ) → times x (nodes_with search None) ≡ times x (nodes_on search.stack)
plain_counted search x = let sum = times-append x (nodes_on search.stack) [] in omega (arith, sum)

-- what a pass knows of the turn that it took, and of the book that came with it
pub record TookTurn (pass : PassValue) (turn : TurnValue) (book : BookValue) : Type 0 where
  pub table : turn.table ≡ pass.table
  pub view : turn.view ≡ pass.view
  pub taken : turn.taken ≡ record { book = outline_of book; closed = [] }
  pub lent : IsLent pass.view (outline_of book)

pub took_turn : {pass : PassValue} (turn : TurnValue) {book : BookValue} → book ≡ turn.book → turn.table ≡ pass.table → turn.view ≡ pass.view
    → turn.taken ≡ record { book = outline_of turn.book; closed = [] } → IsLent pass.view (outline_of turn.book) → TookTurn pass turn book
took_turn {pass} turn {book} is table view taken lent = record {
  table = table;
  view = view;
  taken = subst (λ (b : BookValue). turn.taken ≡ record { book = outline_of b; closed = [] }) (sym is) taken;
  lent = subst (λ (b : BookValue). IsLent pass.view (outline_of b)) (sym is) lent;
}

-- roots that were given out since change nothing of it
pub took_given : {pass : PassValue} {turn : TurnValue} {book : BookValue} (now : BookValue) → now ≡ record book { given = now.given }
    → TookTurn pass turn book → TookTurn pass turn now
took_given {pass} {turn} {book} now only took =
    let same : outline_of book ≡ outline_of now = sym (ap outline_of only) in
    record {
      table = took.table;
      view = took.view;
      taken = took.taken ∙ ap (λ o. record { book = o; closed = [] }) same;
      lent = subst (IsLent pass.view) same took.lent;
    }

pub turn_of : {claims : ClaimsValue} {pass : PassValue} (turn : TurnValue) → IsPassOf claims pass → turn.table ≡ pass.table → turn.view ≡ pass.view
    → IsTurnOf claims turn
turn_of turn of table view =
    (table ∙ of.0, (ap (λ (v : View). v.lists) view ∙ of.1.0, ap (λ (v : View). v.roots) view ∙ of.1.1))

-- a book may come back where it might before, whatever became of its mark, if it has failed where it had
pub may_still : {v : View} {t : Taken} {nodes : List ℕ} {old now : Outline} → MayGive v t old nodes → now ≡ record old { failed = now.failed }
    → (old.failed ≡ true → now.failed ≡ true) → MayGive v t now nodes
may_still {v} {t} {nodes} {old} {now} may same failed =
    subst (λ o. MayGive v t o nodes) (sym same)
    (record {
      lists = may.lists;
      roots = may.roots;
      failed = λ had. failed (may.failed had);
      released = may.released;
      closed = may.closed;
      same = may.same;
      wants = may.wants;
    })

-- roots that were seen are so among more that were seen
pub seen_more : (roots seen groups : List ℕ) → All (λ root. 0 < times root seen) roots → All (λ root. 0 < times root (seen ++ groups)) roots
seen_more roots seen groups each k d lt =
    let root : ℕ = get_or roots k d in
    let before : 0 < times root seen = each k d lt in
    omega (arith, before, times-append root seen groups)

pub released_more : (roots seen : List ℕ) (groups : List (List ℕ)) → All (HasMember groups) roots
    → ((v : ℕ) → HasMember groups v → 0 < times v (flat groups)) → All (λ root. 0 < times root (seen ++ flat groups)) roots
released_more roots seen groups each in_groups k d lt =
    let root : ℕ = get_or roots k d in
    let here : 0 < times root (flat groups) = in_groups root (each k d lt) in
    omega (arith, here, times-append root seen (flat groups))

module _ {claims : ClaimsValue} {pass : PassValue} {search : SearchValue} {opened : Bool} (work : IsWorking claims pass search None opened)
    {turn : TurnValue} {book : BookValue} (took : TookTurn pass turn book) where
  pub is_turn_of : IsTurnOf claims turn
  is_turn_of = turn_of turn work.has.pass_of took.table took.view

  pub lists_are : book.lists ≡ claims.lists
  lists_are = sym took.lent.lists ∙ work.has.pass_of.1.0

  pub roots_are : book.roots ≡ claims.roots
  roots_are = sym took.lent.roots ∙ work.has.pass_of.1.1

  -- the pass has the nodes of the search
  pub own_counted : (x : ℕ) → times x pass.view.nodes ≡ times x (nodes_on search.stack)
  own_counted x = ap (times x) work.has.nodes ∙ plain_counted search x

  pub once : (x : ℕ) → times x (nodes_on search.stack) + (times x (kept_nodes book.kept) + times x (flat book.groups)) ≤ 1
  once x = omega (arith, own_counted x, took.lent.apart x)

  -- what it saw finished is released
  pub released_seen : (v : ℕ) → Contains pass.view.seen v → Contains (flat book.groups) v
  released_seen v has = standing v (flat book.groups) (took.lent.seen v (counted v pass.view.seen has))

  pub good_released : IsGood claims.lists claims.roots (flat book.groups) opened search.stack
  good_released = good_more (flat book.groups) work.good released_seen

  pub good_in : IsGood book.lists book.roots (flat book.groups) opened search.stack
  good_in =
      subst (λ lists. IsGood lists book.roots (flat book.groups) opened search.stack) (sym lists_are)
      (subst (λ roots. IsGood claims.lists roots (flat book.groups) opened search.stack) (sym roots_are) good_released)

  pub apart_kept : (place v : ℕ) → Holds book.kept place v → IsOn search.stack v → ⊥
  apart_kept place v holds on = omega (arith, once v, held_counted book.kept place v holds, on_counted search.stack v on)

  -- roots that were seen finished
  pub roots_seen : (n : ℕ) (groups : List ℕ) → All (λ root. 0 < times root pass.view.seen) (take n claims.roots)
      → All (λ root. 0 < times root (turn.view.seen ++ groups)) (take n claims.roots)
  roots_seen n groups each =
      subst (λ (v : View). All (λ root. 0 < times root (v.seen ++ groups)) (take n claims.roots)) (sym took.view)
      (seen_more (take n claims.roots) pass.view.seen groups each)

  pub goes_on : {now : BookValue} {after : SearchValue} {still : Bool} (n : ℕ) → n ≤ length claims.roots
      → All (λ root. 0 < times root pass.view.seen) (take n claims.roots) → after.wanted ≡ None
      → IsGood claims.lists claims.roots (flat now.groups) still after.stack → ContinuesWith claims (record turn { book = now }) after n still
  goes_on {now} {after} {still} n within each wants good = record {
    of = is_turn_of;
    wants_nothing = wants;
    within = within;
    roots = roots_seen n (flat now.groups) each;
    good = good;
  }

  -- and where no group is new, with the search that it has
  pub stays_on : {now : BookValue} (n : ℕ) → n ≤ length claims.roots → All (λ root. 0 < times root pass.view.seen) (take n claims.roots)
      → now.groups ≡ book.groups → ContinuesWith claims (record turn { book = now }) search n opened
  stays_on {now} n within each same =
      goes_on n within each work.wants_nothing
      (subst (λ groups. IsGood claims.lists claims.roots (flat groups) opened search.stack) (sym same) good_released)

  pub roots_released : (n : ℕ) → All (λ root. 0 < times root pass.view.seen) (take n claims.roots)
      → All (HasMember book.groups) (take n book.roots)
  roots_released n each =
      subst (λ roots. All (HasMember book.groups) (take n roots)) (sym roots_are)
      (λ k d lt.
      let root : ℕ = get_or (take n claims.roots) k d in
      from_flat book.groups root (standing root (flat book.groups) (took.lent.seen root (each k d lt))))

  -- a condition of the turn, where it is of what the pass knew and took
  as_taken : (now : BookValue) (nodes : List ℕ) → MayGive pass.view (record { book = outline_of book; closed = [] }) (outline_of now) nodes
      → MayGive turn.view turn.taken (outline_of now) nodes
  as_taken now nodes may =
      subst (λ v. MayGive v turn.taken (outline_of now) nodes) (sym took.view)
      (subst (λ (t : Taken). MayGive pass.view t (outline_of now) nodes) (sym took.taken) may)

  -- nothing is released, and nodes go from the search to kept ones or from these to the search
  pub may_shift : (now : BookValue) (after : SearchValue) → now.lists ≡ book.lists → now.roots ≡ book.roots → now.failed ≡ book.failed → now.groups ≡ book.groups
      → ((x : ℕ)
      → times x (kept_nodes now.kept) + times x (nodes_on after.stack) ≡ times x (kept_nodes book.kept) + times x (nodes_on search.stack))
      → ((x : ℕ) → 0 < times x (wanted_nodes now.kept)
      → (0 < times x (wanted_nodes book.kept)) ⊎ ((0 < times x (nodes_on after.stack)) ⊎ Noted x 1 pass.view.looks))
      → MayGive turn.view turn.taken (outline_of now) (nodes_with after None)
  may_shift now after lists roots failed groups counts wants =
      as_taken now (nodes_with after None)
      (record {
        lists = lists;
        roots = roots;
        failed = λ had. failed ∙ had;
        released = record { more = []; is = groups ∙ sym (append-nil book.groups) };
        closed = λ x. let same : times x (flat now.groups) ≡ times x (flat book.groups) = ap (λ g. times x (flat g)) groups in omega (arith, same);
        same = λ x.
            let same : times x (flat now.groups) ≡ times x (flat book.groups) = ap (λ g. times x (flat g)) groups in
            omega (arith, same, counts x, own_counted x, plain_counted after x);
        wants = λ x some.
            elim (wants x some) [
              | inl before ↦ inl before
              | inr now ↦
                  inr
                  (elim now [
                    | inl here ↦ inl (omega (arith, here, plain_counted after x))
                    | inr noted ↦ inr noted
                  ])
            ];
      })

  -- and where all stays
  pub may_stay : (now : BookValue) → outline_of now ≡ outline_of book → MayGive turn.view turn.taken (outline_of now) (nodes_with search None)
  may_stay now same =
      subst (λ o. MayGive turn.view turn.taken o (nodes_with search None)) (sym same)
      (may_shift book search refl refl refl refl (λ x. refl) (λ x some. inl some))
