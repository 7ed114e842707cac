-- A worker suspends its search, or settles the edge that it would wait for.
use Rattle.std.proofs.Common.{◌≡◌, ◌⊎◌, inl, inr, ℕ, ◌<◌, ◌+◌, Bool, true, false, List, [], ◌∷◌, ◌++◌, None, refl, ap, ◌∙◌, sym, subst, arith}
use Rattle.std.specs.Bool.{OnFalse}
use Rattle.std.proofs.lemmas.List.Elements.{Contains-append_right}
use Rattle.std.specs.Prelude.{Contains, IsTrue}
use Rattle.graph_law.specs.Classes.{HasMember}
use Rattle.list_laws.proofs.OneOrder.{first_or_rest, nothing_in}
use Rattle.list_laws.specs.Counts.{times, flat}
use Rattle.list_laws.proofs.Counting.{standing}
use Rattle.search_stack.specs.GoodSearch.{IsGood}
use Rattle.search_stack.specs.Search.{SearchValue, IsOn}
use Rattle.blocked_table.specs.declared.suspended.Suspended.{Suspended}
use Rattle.blocked_table.specs.declared.suspended.Suspended.TheVariants.{Kept, Moved}
use Rattle.group_release.specs.Book.{BookValue, RunsBeside}
use Rattle.group_release.specs.Outline.{kept_nodes, newly_wanted, nodes_going, nodes_on, wanted_nodes}
use Rattle.group_release.proofs.Nodes.{in_flat}
use Rattle.node_claims.specs.Claims.{ClaimsValue, PassValue, TurnValue, nodes_with}
use Rattle.node_claims.specs.Steps.{MayGive}
use Rattle.node_claims.specs.Views.{Noted, outline_of}
use Rattle.search_pool.specs.declared.worker.outcome.Worker.{Worker}
use Rattle.search_pool.specs.Worker.{IsWorking}
use Rattle.search_pool.specs.Working.{IsAtWork}
use Rattle.search_pool.proofs.TurnLaws.{TookTurn, lists_are, may_shift, roots_are}

module _ {claims : ClaimsValue} {pass : PassValue} {search : SearchValue} {opened : Bool} (work : IsWorking claims pass search None opened)
    {turn : TurnValue} {book : BookValue} (took : TookTurn pass turn book) where
  -- the search is kept, and the pass has nothing: what is wanted anew was found held
  pub may_keep : (now : BookValue) (on : ℕ) (empty : SearchValue) (suspended : Suspended) → suspended ≡ Kept
      → now ≡ record book { kept = now.kept } → nodes_on empty.stack ≡ [] → Noted on 1 pass.view.looks
      → ((x : ℕ)
      → times x (kept_nodes now.kept) + times x (nodes_going suspended) ≡ times x (kept_nodes book.kept) + times x (nodes_on search.stack))
      → ((x : ℕ) → 0 < times x (wanted_nodes now.kept) → (0 < times x (wanted_nodes book.kept)) ⊎ (0 < times x (newly_wanted on suspended)))
      → MayGive turn.view turn.taken (outline_of now) (nodes_with empty None)
  may_keep now on empty suspended is only none held counts wants =
      may_shift work took now empty (ap (λ (b : BookValue). b.lists) only) (ap (λ (b : BookValue). b.roots) only) (ap (λ (b : BookValue). b.failed) only)
      (ap (λ (b : BookValue). b.groups) only)
      (λ x.
      let nothing : times x (nodes_on empty.stack) ≡ 0 = ap (times x) none in
      let idle : times x (nodes_going suspended) ≡ 0 = ap (λ s. times x (nodes_going s)) is in
      omega (arith, nothing, idle, counts x))
      (λ x some.
      elim (wants x some) [
        | inl before ↦ inl before
        | inr now ↦
            elim (first_or_rest on x [] (standing x (on ∷ []) (subst (λ s. 0 < times x (newly_wanted on s)) is now))) [
              | inl same ↦ inr (inr (subst (λ u. Noted u 1 pass.view.looks) same held))
              | inr later ↦ absurd (nothing_in x later)
            ]
      ])

  -- what it waited for came on top of it: what is wanted anew stands there
  pub may_move : (now : BookValue) (on : ℕ) (after : SearchValue) (suspended : Suspended) → suspended ≡ Moved after
      → now ≡ record book { kept = now.kept }
      → ((x : ℕ)
      → times x (kept_nodes now.kept) + times x (nodes_going suspended) ≡ times x (kept_nodes book.kept) + times x (nodes_on search.stack))
      → ((x : ℕ) → 0 < times x (wanted_nodes now.kept) → (0 < times x (wanted_nodes book.kept)) ⊎ (0 < times x (newly_wanted on suspended)))
      → MayGive turn.view turn.taken (outline_of now) (nodes_with after None)
  may_move now on after suspended is only counts wants =
      may_shift work took now after (ap (λ (b : BookValue). b.lists) only) (ap (λ (b : BookValue). b.roots) only) (ap (λ (b : BookValue). b.failed) only)
      (ap (λ (b : BookValue). b.groups) only)
      (λ x. let going : times x (nodes_going suspended) ≡ times x (nodes_on after.stack) = ap (λ s. times x (nodes_going s)) is in omega (arith, going, counts x))
      (λ x some.
      elim (wants x some) [ inl before ↦ inl before | inr now ↦ inr (inl (subst (λ s. 0 < times x (newly_wanted on s)) is now)) ])

  -- a search that runs beside the book is good
  pub beside_good : (now : BookValue) (after : SearchValue) → now ≡ record book { kept = now.kept } → RunsBeside now after
      → IsGood claims.lists claims.roots (flat now.groups) false after.stack
  beside_good now after only beside =
      subst (λ lists. IsGood lists claims.roots (flat now.groups) false after.stack) (ap (λ (b : BookValue). b.lists) only ∙ lists_are work took)
      (subst (λ roots. IsGood now.lists roots (flat now.groups) false after.stack) (ap (λ (b : BookValue). b.roots) only ∙ roots_are work took) beside.good)

false_one : (b : Bool) {P : Type 0} → (IsTrue b → ⊥) → OnFalse b P → P
false_one true not holds = absurd (not refl)
false_one false not holds = holds

-- the last edge is settled, and leads to no node of the search
pub settled : {claims : ClaimsValue} {worker : Worker} (after : SearchValue) (on : Bool) → IsAtWork claims worker true → (IsTrue on → ⊥)
    → OnFalse on (after ≡ worker.search) → IsGood claims.lists claims.roots worker.pass.view.seen false after.stack
    → IsAtWork claims (record worker { search = after }) false
settled {claims} {worker} after on work away same good =
    let is : after ≡ worker.search = false_one on away same in
    record {
      working = record {
        has = record {
          pass_of = work.working.has.pass_of;
          nodes = work.working.has.nodes ∙ ap (λ s. nodes_with s None) (sym is);
        };
        wants_nothing = ap (λ (s : SearchValue). s.wanted) is ∙ work.working.wants_nothing;
        good = good;
      };
      handed = work.handed;
      within = work.within;
      seen = work.seen;
    }

-- where the node is released by now, which the pass has seen, the edge is settled
pub released_settled : {claims : ClaimsValue} {worker : Worker} (old after : SearchValue) (on : Bool) (node : ℕ) (seen : List ℕ) (groups : List (List ℕ))
    → IsAtWork claims worker true → worker.search ≡ old → worker.pass.view.seen ≡ seen ++ flat groups → (IsOn old.stack node → ⊥)
    → HasMember groups node → (IsTrue on → IsOn worker.search.stack node) → OnFalse on (after ≡ worker.search)
    → ((lists : List (List ℕ)) (roots done : List ℕ) (opened : Bool)
    → IsGood lists roots done opened worker.search.stack → IsTrue on ⊎ Contains done node → IsGood lists roots done false after.stack)
    → IsAtWork claims (record worker { search = after }) false
released_settled {claims} {worker} old after on node seen groups work is seen_is away has stands same good =
    settled after on work (λ holds. away (subst (λ (s : SearchValue). IsOn s.stack node) is (stands holds))) same
    (good claims.lists claims.roots worker.pass.view.seen true work.working.good
    (inr (subst (λ them. Contains them node) (sym seen_is) (Contains-append_right seen (flat groups) node (in_flat groups node has)))))
