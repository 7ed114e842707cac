-- A worker has claimed a root.
use Rattle.std.proofs.Common.{◌≡◌, inl, inr, ℕ, zero, suc, ◌<◌, ◌+◌, true, false, List, [], ◌∷◌, ◌++◌, length, take, get_or, Some, ap, ◌∙◌, sym, subst, arith}
use Rattle.std.proofs.lemmas.Bool.{cases_lt}
use Rattle.std.proofs.lemmas.List.{append-nil, get_or_default}
use Rattle.std.proofs.lemmas.List.Elements.{Contains-append_left}
use Rattle.std.specs.Prelude.{All, Contains, slice_index}
use Rattle.list_laws.specs.Counts.{times}
use Rattle.search_stack.specs.GoodSearch.{IsGood}
use Rattle.search_stack.specs.Search.{SearchValue}
use Rattle.search_stack.proofs.Edges.{good_more, good_open}
use Rattle.group_release.specs.Outline.{nodes_on}
use Rattle.node_claims.specs.Claims.{ClaimsValue, PassValue, IsPassOf}
use Rattle.node_claims.specs.Views.{Noted, claimed}
use Rattle.node_claims.specs.declared.view.View.{View}
use Rattle.search_pool.specs.declared.worker.outcome.Worker.{Worker}
use Rattle.search_pool.specs.Worker.{IsSearching, IsWorking}
use Rattle.search_pool.specs.declared.worker.stretch.Stretch.{Stretch}
use Rattle.search_pool.specs.declared.worker.outcome.Outcome.{Outcome}
use Rattle.search_pool.specs.declared.worker.outcome.Outcome.TheVariants.{On, Ended as ended_as}
use Rattle.search_pool.specs.Working.{ClaimsOn, HasClaimedOn, HasWon, IsAtWork, StaysWith}
use Rattle.search_pool.proofs.EdgesKept.{noted_last}
use Rattle.search_pool.proofs.TurnLaws.{seen_more}

module _ {claims : ClaimsValue} {worker : Worker} (work : IsAtWork claims worker false) {pass : PassValue} (of : IsPassOf claims pass) (root : ℕ) where
  -- it is finished already
  pub done_at_work : pass.view ≡ claimed root 2 worker.pass.view → IsAtWork claims (record worker { pass = pass }) false
  done_at_work view =
      let seen : pass.view.seen ≡ worker.pass.view.seen ++ root ∷ [] = ap (λ (v : View). v.seen) view in
      record {
        working = record {
          has = record { pass_of = of; nodes = ap (λ (v : View). v.nodes) view ∙ work.working.has.nodes };
          wants_nothing = work.working.wants_nothing;
          good =
              good_more pass.view.seen work.working.good
              (λ v has. subst (λ seen. Contains seen v) (sym seen) (Contains-append_left worker.pass.view.seen (root ∷ []) v has));
        };
        handed = work.handed;
        within = work.within;
        seen =
            subst (λ seen. All (λ root. 0 < times root seen) (take worker.seen_roots claims.roots)) (sym seen)
            (seen_more (take worker.seen_roots claims.roots) worker.pass.view.seen (root ∷ []) work.seen);
      }

  -- it is won, and not opened yet
  module _ (view : pass.view ≡ claimed root 0 worker.pass.view) {search : SearchValue} where
    pub won_working : search.stack ≡ worker.search.stack → search.wanted ≡ worker.search.wanted → IsWorking claims pass search (Some root) true
    won_working stack wanted = record {
      has = record {
        pass_of = of;
        nodes =
            ap (λ (v : View). v.nodes) view ∙ ap (λ nodes. nodes ++ root ∷ []) work.working.has.nodes
            ∙ ap (λ nodes. nodes ++ root ∷ []) (append-nil (nodes_on worker.search.stack))
            ∙ ap (λ s. nodes_on s ++ root ∷ []) (sym stack);
      };
      wants_nothing = wanted ∙ work.working.wants_nothing;
      good =
          subst (λ s. IsGood claims.lists claims.roots pass.view.seen true s) (sym stack)
          (subst (λ seen. IsGood claims.lists claims.roots seen true worker.search.stack) (sym (ap (λ (v : View). v.seen) view)) (good_open work.working.good));
    }

-- a root that was won is opened
pub opened_at_work : {claims : ClaimsValue} {worker : Worker} {root : ℕ} → HasWon claims worker root → {search : SearchValue}
    → IsSearching claims worker.pass search false → IsAtWork claims (record worker { search = search }) false
opened_at_work won running = record { working = running.working; handed = won.handed; within = won.within; seen = won.seen }

-- and there is room for it
pub room_working : {claims : ClaimsValue} {worker : Worker} {root : ℕ} → HasWon claims worker root → {search : SearchValue}
    → search.stack ≡ worker.search.stack → search.wanted ≡ worker.search.wanted → IsWorking claims worker.pass search (Some root) true
room_working {claims} {worker} {root} won {search} stack wanted = record {
  has = record { pass_of = won.working.has.pass_of; nodes = won.working.has.nodes ∙ ap (λ s. nodes_on s ++ root ∷ []) (sym stack) };
  wants_nothing = wanted ∙ won.working.wants_nothing;
  good = subst (λ s. IsGood claims.lists claims.roots worker.pass.view.seen true s) (sym stack) won.working.good;
}

-- the root at a place of the stretch was claimed
pub read_noted : (roots : List ℕ) (next root : ℕ) (looks : List (ℕ × ℕ)) → next < length roots → root ≡ get_or roots next root
    → (found : ℕ) × Noted root found looks → (found : ℕ) × Noted (slice_index roots next) found looks
read_noted roots next root looks lt is noted =
    subst (λ v. (found : ℕ) × Noted v found looks) (is ∙ get_or_default roots next root 0 lt) noted

-- a note that was made before is there still
pub noted_still : (x n : ℕ) (looks more : List (ℕ × ℕ)) → Noted x n looks → Noted x n (looks ++ more)
noted_still x n [] more none = absurd none
noted_still x n (p ∷ looks) more (inl here) = inl here
noted_still x n (p ∷ looks) more (inr later) = inr (noted_still x n looks more later)

pub notes_stay : (root found : ℕ) (before after : View) → after ≡ claimed root found before → (x n : ℕ) → Noted x n before.looks → Noted x n after.looks
notes_stay root zero before after view x n noted =
    subst (Noted x n) (sym (ap (λ (v : View). v.looks) view)) (noted_still x n before.looks ((root, 0) ∷ []) noted)
notes_stay root (suc zero) before after view x n noted =
    subst (Noted x n) (sym (ap (λ (v : View). v.looks) view)) (noted_still x n before.looks ((root, 1) ∷ []) noted)
notes_stay root (suc (suc k)) before after view x n noted =
    subst (Noted x n) (sym (ap (λ (v : View). v.looks) view)) (noted_still x n before.looks ((root, 2) ∷ []) noted)

-- one root more of the stretch is claimed
pub claims_more : {before stretch after : Stretch} {pass now : PassValue} → ClaimsOn before stretch pass → after ≡ record stretch { next = stretch.next + 1 }
    → (found : ℕ) × Noted (slice_index stretch.roots.items stretch.next) found now.view.looks
    → ((x n : ℕ) → Noted x n pass.view.looks → Noted x n now.view.looks) → ClaimsOn before after now
claims_more {before} {stretch} {after} {pass} {now} on is noted stay =
    let next : after.next ≡ stretch.next + 1 = ap (λ (s : Stretch). s.next) is in
    record {
      roots = ap (λ (s : Stretch). s.roots) is ∙ on.roots;
      onward = omega (arith, on.onward, next);
      claimed = λ k from below. elim (cases_lt k stretch.next) [
        | inl lt ↦ let had = on.claimed k from lt in (had.0, stay (slice_index before.roots.items k) had.0 had.1)
        | inr ge ↦
            let at : stretch.next ≡ k = omega (arith, ge, below, next) in (
              noted.0,
              subst (λ j. Noted (slice_index before.roots.items j) noted.0 now.view.looks) at
                  (subst (λ (s : Stretch). Noted (slice_index s.roots.items stretch.next) noted.0 now.view.looks)
                  (let same : stretch ≡ record stretch { roots = before.roots } = ap (λ roots. record stretch { roots = roots }) on.roots in same) noted.1),
            )
      ];
    }

-- a worker that goes on so has claimed one root more
pub stays_claimed : {stretch now : Stretch} {pass : PassValue} (went : Outcome) → ClaimsOn stretch now pass → stretch.next < now.next → StaysWith pass now went
    → HasClaimedOn stretch went
stays_claimed {stretch} {now} {pass} (On worker) on further stays = (
  subst (λ (p : PassValue). ClaimsOn stretch worker.stretch p) (sym stays.0) (subst (λ (s : Stretch). ClaimsOn stretch s pass) (sym stays.1) on),
  subst (λ (s : Stretch). stretch.next < s.next) (sym stays.1) further,
)
stays_claimed {stretch} {now} {pass} (ended_as ended) on further stays = tt

-- the pass has claimed the root, whatever it found
pub has_noted : (root n : ℕ) (before after : View) → after ≡ claimed root n before → (found : ℕ) × Noted root found after.looks
has_noted root zero before after view =
    (0, subst (Noted root 0) (sym (ap (λ (v : View). v.looks) view)) (noted_last root 0 before.looks))
has_noted root (suc zero) before after view =
    (1, subst (Noted root 1) (sym (ap (λ (v : View). v.looks) view)) (noted_last root 1 before.looks))
has_noted root (suc (suc n)) before after view =
    (2, subst (Noted root 2) (sym (ap (λ (v : View). v.looks) view)) (noted_last root 2 before.looks))
