use Rattle.std.proofs.Common.{get_or}
use Rattle.std.proofs.lemmas.List.Elements.{Contains-get_or}
use Rattle.list_laws.proofs.SortedOnce.{sorted_rises, sorted_has}
use Rattle.tool_run.proofs.RootLemmas.{listed_are, named_below, zip_there}
use Rattle.tool_run.proofs.roots.listed_roots.Goals as goal

pub returns-clause-roots : goal.returns-clause-roots
returns-clause-roots c =
    let predicates = c.args.program.now.predicates in
    let all = c.in_ok-roots.roots.items in
    let sorted = c.sort_unstable.new.self.items in
    let kept = c.dedup.new.self.items in
    record {
      ascending = sorted_rises sorted kept c.sort_unstable.ensures.sorted c.dedup.ensures.filtered;
      are = λ q.
          let has = sorted_has all sorted kept q c.sort_unstable.ensures.permutation c.dedup.ensures.filtered in
          let are = listed_are predicates c.args.list.now all c.is_known.ensures.numbered.in_order c.in_ok-roots.ensures.ok q in
          ((λ there. are.0 (has.0 there)), (λ is. has.1 (are.1 is)));
    }

pub returns-clause-below : goal.returns-clause-below
returns-clause-below c = λ k d lt.
    let predicates = c.args.program.now.predicates in
    let all = c.in_ok-roots.roots.items in
    let kept = c.dedup.new.self.items in
    let q = get_or kept k d in
    let has = sorted_has all c.sort_unstable.new.self.items kept q c.sort_unstable.ensures.permutation c.dedup.ensures.filtered in
    let are = listed_are predicates c.args.list.now all c.is_known.ensures.numbered.in_order c.in_ok-roots.ensures.ok q in
    named_below predicates c.args.list.now q (are.0 (has.0 (Contains-get_or kept k d lt)))

pub returns-clause-rooted : goal.returns-clause-rooted
returns-clause-rooted c =
    zip_there c.args.program.now.predicates c.args.list.now c.in_ok-roots.roots.items c.in_ok-roots.ensures.ok
