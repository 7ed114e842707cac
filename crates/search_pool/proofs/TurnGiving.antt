-- A worker that has given the turn back.
use Rattle.std.proofs.Common.{◌≡◌, ℕ, ◌<◌, Bool, ◌++◌, take, None, ap, ◌∙◌, sym, subst}
use Rattle.std.proofs.lemmas.List.Elements.{Contains-append_right}
use Rattle.std.specs.Prelude.{All, Contains}
use Rattle.list_laws.specs.Counts.{times, flat}
use Rattle.search_stack.specs.Search.{SearchValue}
use Rattle.search_stack.proofs.Edges.{good_more}
use Rattle.node_claims.specs.Claims.{ClaimsValue, PassValue, TurnValue, nodes_with}
use Rattle.node_claims.specs.declared.view.View.{View}
use Rattle.search_pool.specs.Working.{AreRootsOf, ContinuesWith, IsAtWork}
use Rattle.search_pool.specs.declared.worker.stretch.Stretch.{Stretch}

pub is_at_work : (turn : TurnValue) (pass : PassValue) (search : SearchValue) (stretch : Stretch) (n : ℕ) → pass.table ≡ turn.table
    → pass.view ≡ record turn.view { nodes = nodes_with search None; seen = turn.view.seen ++ flat turn.book.groups; told = turn.book.failed }
    → (claims : ClaimsValue) (opened : Bool) → ContinuesWith claims turn search n opened → AreRootsOf claims stretch.roots.items
    → IsAtWork claims (record { pass = pass; search = search; stretch = stretch; seen_roots = n; waits = 0; vain = 0; awaited = 0 }) opened
is_at_work turn pass search stretch n table view claims opened on handed =
    let seen : pass.view.seen ≡ turn.view.seen ++ flat turn.book.groups = ap (λ (v : View). v.seen) view in
    record {
      working = record {
        has = record {
          pass_of = (table ∙ on.of.0, (ap (λ (v : View). v.lists) view ∙ on.of.1.0, ap (λ (v : View). v.roots) view ∙ on.of.1.1));
          nodes = ap (λ (v : View). v.nodes) view;
        };
        wants_nothing = on.wants_nothing;
        good =
            good_more pass.view.seen on.good
            (λ v has. subst (λ seen. Contains seen v) (sym seen) (Contains-append_right turn.view.seen (flat turn.book.groups) v has));
      };
      handed = handed;
      within = on.within;
      seen = subst (λ seen. All (λ root. 0 < times root seen) (take n claims.roots)) (sym seen) on.roots;
    }
