-- The ripe segment may be released and closed, and the worker has the turn with the rest.
use Rattle.std.proofs.Common.{subst}
use Rattle.group_release.specs.Book.{BookValue}
use Rattle.search_pool.proofs.worker.release.release_top.Goals as goal
use Rattle.search_pool.proofs.TurnReleasing.{IsTakenOff, IsReleasedIn, closed_has, group_apart, group_new, group_releasable, may_close_all}

pub release-requires : goal.release-requires
release-requires c =
    let off : IsTakenOff c.args.search.now c.in-Ok.group.items c.take_ripe.new.self = record {
      group_is = c.in-Ok.ensures.group;
      rest_is = c.in-Ok.ensures.taken;
      releasable = c.in-Ok.ensures.releasable;
      good = c.in-Ok.ensures.good;
    } in
    rw c.book.ensures.value (record {
      new = group_new c.requires.under.2 off;
      releasable = group_releasable c.requires.under.2 off;
      apart = group_apart c.requires.under.2 off;
    })

pub close_group-requires : goal.close_group-requires
close_group-requires c =
    let off : IsTakenOff c.args.search.now c.in-Ok.group.items c.take_ripe.new.self = record {
      group_is = c.in-Ok.ensures.group;
      rest_is = c.in-Ok.ensures.taken;
      releasable = c.in-Ok.ensures.releasable;
      good = c.in-Ok.ensures.good;
    } in
    let released : IsReleasedIn c.args.turn.now.book c.in-Ok.group.items c.release.new.self =
    subst (λ (b : BookValue). IsReleasedIn b c.in-Ok.group.items c.release.new.self) c.book.ensures.value
    (record {
      only = c.release.ensures.only;
      appended = c.release.ensures.appended;
      released_count = c.release.ensures.released_count;
      kept_nodes_are = c.release.ensures.kept_nodes;
      wanted_count = c.release.ensures.wanted_count;
    }) in
    may_close_all c.requires.under.2 off released

pub returns : goal.returns
returns c =
    let off : IsTakenOff c.args.search.now c.in-Ok.group.items c.take_ripe.new.self = record {
      group_is = c.in-Ok.ensures.group;
      rest_is = c.in-Ok.ensures.taken;
      releasable = c.in-Ok.ensures.releasable;
      good = c.in-Ok.ensures.good;
    } in
    let released : IsReleasedIn c.args.turn.now.book c.in-Ok.group.items c.release.new.self =
    subst (λ (b : BookValue). IsReleasedIn b c.in-Ok.group.items c.release.new.self) c.book.ensures.value
    (record {
      only = c.release.ensures.only;
      appended = c.release.ensures.appended;
      released_count = c.release.ensures.released_count;
      kept_nodes_are = c.release.ensures.kept_nodes;
      wanted_count = c.release.ensures.wanted_count;
    }) in
    λ claims n has. closed_has has off released c.close_group.ensures
