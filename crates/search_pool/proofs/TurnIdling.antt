-- An idle worker takes a ready search or a root, or has seen each root finished.
use Rattle.std.proofs.Common.{◌≡◌, inl, ℕ, ◌<◌, ◌≤◌, ◌+◌, ◌-◌, false, List, [], ◌∷◌, ◌++◌, length, map, take, drop, get_or, None, refl, ap, ◌∙◌, sym, subst, arith, Some}
use Rattle.std.proofs.lemmas.List.{append-nil, get_or-drop, length-drop, take_all, take_more}
use Rattle.std.proofs.lemmas.List.Elements.{All-contains, All-drop, All-push, All-take, Contains-get_or}
use Rattle.std.proofs.lemmas.Option.{get_or_from_slice_get, slice_get_within}
use Rattle.std.specs.Prelude.{All, Contains, slice_get, slice_range}
use Rattle.list_laws.specs.Counts.{times, flat}
use Rattle.list_laws.proofs.Counting.{counted}
use Rattle.graph_law.specs.Classes.{HasMember}
use Rattle.search_stack.specs.Search.{SearchValue}
use Rattle.search_stack.specs.Stack.{Entry, Stack, size}
use Rattle.group_release.specs.Book.{BookValue, IsGoodBook}
use Rattle.group_release.specs.Outline.{kept_nodes, nodes_on, wanted_nodes}
use Rattle.group_release.proofs.Nodes.{in_flat}
use Rattle.node_claims.specs.Claims.{ClaimsValue, PassValue, TurnValue, nodes_with}
use Rattle.node_claims.specs.Steps.{MayGive}
use Rattle.node_claims.specs.Views.{outline_of}
use Rattle.search_pool.specs.declared.ended.Ended.TheVariants.{Finished}
use Rattle.search_pool.specs.declared.worker.outcome.Worker.{Worker}
use Rattle.search_pool.specs.Worker.{EndsWell, IsWorking}
use Rattle.search_pool.specs.Working.{AreRootsOf, ContinuesWith, IsAtWork}
use Rattle.search_pool.proofs.TurnLaws.{TookTurn, good_released, is_turn_of, lists_are, may_shift, released_more, roots_are}

no_nodes : (es : List Entry) → length es ≡ 0 → map (λ entry. entry.node) es ≡ []
no_nodes [] none = refl
no_nodes (e ∷ es) none = absurd (omega (arith, none))

-- an empty search has no nodes
pub idle_nodes : (s : Stack) → size s ≡ 0 → nodes_on s ≡ []
unfolding size
idle_nodes s none = no_nodes s.entries none

pub idle_has : (search : SearchValue) → size search.stack ≡ 0 → nodes_with search None ≡ []
idle_has search none = append-nil (nodes_on search.stack) ∙ idle_nodes search.stack none

-- the place is one of a root
index_within : (roots : List ℕ) (i root : ℕ) → Some root ≡ slice_get roots i → i < length roots
index_within roots i root read = slice_get_within roots i root (sym read)

-- so many of the roots were handed out: just those from one place up to another, and nothing else of the book has changed
pub record HandsOut (old now : BookValue) (roots : List ℕ) : Type 0 where
  pub only : now ≡ record old { given = now.given }
  pub on : old.given ≤ now.given
  pub handed : roots ≡ slice_range old.roots old.given now.given

pub hands_none : (old now : BookValue) (roots : List ℕ) → now ≡ old → roots ≡ [] → HandsOut old now roots
hands_none old now roots same none =
    subst (λ (b : BookValue). HandsOut old b roots) (sym same)
    (record {
      only = refl;
      on = omega arith;
      handed =
          let zero_is : old.given - old.given ≡ 0 = omega arith in
          none ∙ ap (λ n. take n (drop old.given old.roots)) (sym zero_is);
    })

-- one more is handed out
module _ (old book now : BookValue) (roots : List ℕ) (root : ℕ) (before : HandsOut old book roots) (read : Some root ≡ slice_get book.roots book.given)
    (is : now ≡ record book { given = book.given + 1 }) where
  one_given : now.given ≡ book.given + 1
  one_given = ap (λ (b : BookValue). b.given) is

  pub hands_more : (more : List ℕ) → more ≡ roots ++ root ∷ [] → HandsOut old now more
  hands_more more pushed =
      let same : book.roots ≡ old.roots = ap (λ (b : BookValue). b.roots) before.only in
      let lt : book.given < length book.roots = index_within book.roots book.given root read in
      let place : old.given + (book.given - old.given) ≡ book.given = omega (arith, before.on) in
      let count : book.given - old.given + 1 ≡ now.given - old.given = omega (arith, before.on, one_given) in
      let within : book.given - old.given < length (drop old.given old.roots) =
      omega (arith, before.on, length-drop old.given old.roots, lt, ap (λ (r : List ℕ). length r) same) in
      let at : get_or (drop old.given old.roots) (book.given - old.given) 0 ≡ root =
      get_or-drop old.given old.roots (book.given - old.given) 0 ∙ ap (λ i. get_or old.roots i 0) place
      ∙ ap (λ r. get_or r book.given 0) (sym same) ∙ get_or_from_slice_get book.roots book.given root 0 (sym read) in
      record {
        only =
            is ∙ ap (λ (b : BookValue). record b { given = book.given + 1 }) before.only
            ∙ ap (λ (n : ℕ). record old { given = n }) (sym one_given);
        on = omega (arith, before.on, one_given);
        handed =
            pushed ∙ ap (λ (l : List ℕ). l ++ root ∷ []) before.handed
            ∙ ap (λ (r : ℕ). slice_range old.roots old.given book.given ++ r ∷ []) (sym at)
            ∙ sym (take_more (drop old.given old.roots) (book.given - old.given) 0 within)
            ∙ ap (λ n. take n (drop old.given old.roots)) count;
      }

-- roots that are given out release no group
pub given_groups : (book now : BookValue) → now ≡ record book { given = now.given } → now.groups ≡ book.groups
given_groups book now only = ap (λ (b : BookValue). b.groups) only

-- one more root is released
pub one_more_root : (groups : List (List ℕ)) (roots : List ℕ) (n : ℕ) → n < length roots → HasMember groups (get_or roots n 0)
    → All (HasMember groups) (take n roots) → All (HasMember groups) (take (n + 1) roots)
one_more_root groups roots n lt here before =
    subst (All (HasMember groups)) (sym (take_more roots n 0 lt)) (All-push (HasMember groups) (take n roots) (get_or roots n 0) before here)

module _ {claims : ClaimsValue} {pass : PassValue} {search : SearchValue} (work : IsWorking claims pass search None false)
    {turn : TurnValue} {book : BookValue} (took : TookTurn pass turn book) where
  -- a ready search is taken
  pub may_take : (now : BookValue) (ready : SearchValue) → size search.stack ≡ 0 → now ≡ record book { kept = now.kept }
      → ((x : ℕ) → times x (kept_nodes now.kept) + times x (nodes_on ready.stack) ≡ times x (kept_nodes book.kept))
      → ((x : ℕ) → times x (wanted_nodes now.kept) ≡ times x (wanted_nodes book.kept))
      → MayGive turn.view turn.taken (outline_of now) (nodes_with ready None)
  may_take now ready idle only counts wants =
      may_shift work took now ready (ap (λ (b : BookValue). b.lists) only) (ap (λ (b : BookValue). b.roots) only)
      (ap (λ (b : BookValue). b.failed) only) (ap (λ (b : BookValue). b.groups) only)
      (λ x. let none : times x (nodes_on search.stack) ≡ 0 = ap (times x) (idle_nodes search.stack idle) in omega (arith, none, counts x))
      (λ x some. inl (omega (arith, some, wants x)))

  -- each root is a node
  pub root_below : (root : ℕ) → IsGoodBook book → Contains book.roots root → root < length claims.lists
  root_below root good has =
      let lt : root < length book.lists = All-contains (λ root. root < length book.lists) book.roots root good.rooted has in
      subst (λ (lists : List (List ℕ)). root < length lists) (lists_are work took) lt

  -- and so are those that are handed out
  pub are_roots : (from to : ℕ) (handed : List ℕ) → IsGoodBook book → handed ≡ slice_range book.roots from to → AreRootsOf claims handed
  are_roots from to handed good is =
      let P : ℕ → Type 0 = λ root. (root < length claims.lists) × Contains claims.roots root in
      let each : All P book.roots = λ k d lt.
      let here : Contains book.roots (get_or book.roots k d) = Contains-get_or book.roots k d lt in
      (root_below (get_or book.roots k d) good here, subst (λ roots. Contains roots (get_or book.roots k d)) (roots_are work took) here) in
      subst (All P) (sym is) (All-take P (to - from) (drop from book.roots) (All-drop P from book.roots each))

  -- so many roots are released
  pub counted_on : (n : ℕ) → n ≤ length book.roots → All (HasMember book.groups) (take n book.roots)
      → ContinuesWith claims (record turn { book = book }) search n false
  counted_on n within each = record {
    of = is_turn_of work took;
    wants_nothing = work.wants_nothing;
    within = subst (λ (roots : List ℕ). n ≤ length roots) (roots_are work took) within;
    roots =
        subst (λ roots. All (λ root. 0 < times root (turn.view.seen ++ flat book.groups)) (take n roots)) (roots_are work took)
        (released_more (take n book.roots) turn.view.seen book.groups each (λ v has. counted v (flat book.groups) (in_flat book.groups v has)));
    good = good_released work took;
  }

-- with each root seen and nothing on its search it has finished
pub finished : {claims : ClaimsValue} {worker : Worker} (search : SearchValue) (seen : List ℕ) (n : ℕ) → IsAtWork claims worker false
    → worker.search ≡ search → size search.stack ≡ 0 → worker.pass.view.seen ≡ seen → length claims.roots ≤ n
    → All (λ root. 0 < times root seen) (take n claims.roots) → EndsWell claims (Finished worker.pass)
finished {claims} {worker} search seen n work is idle seen_is all each = (
  work.working.has.pass_of,
  (
    work.working.has.nodes ∙ ap (λ s. nodes_with s None) is ∙ idle_has search idle,
    subst (λ roots. All (λ root. 0 < times root worker.pass.view.seen) roots) (take_all n claims.roots all)
        (subst (λ seen. All (λ root. 0 < times root seen) (take n claims.roots)) (sym seen_is) each),
  ),
)
