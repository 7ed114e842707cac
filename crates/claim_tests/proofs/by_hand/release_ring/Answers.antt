-- The ring may be released and closed under the turn, and the pass has nothing then.
use Rattle.std.proofs.Common.{◌∙◌, ap, refl, sym, subst}
use Rattle.list_laws.specs.Counts.{times}
use Rattle.group_release.specs.Book.{BookValue}
use Rattle.claim_tests.proofs.Released.{IsReleased, TookAll, gives_idle, is_apart, is_member, is_new, is_node, may_close, may_give, may_release, none_closed, one_in, one_more, two_in, zero_in}
use Rattle.claim_tests.proofs.by_hand.release_ring.Goals as goal

pub release-requires : goal.release-requires
release-requires g c =
    let took : TookAll c.args.claims.now c.args.pass c.args.search c.in_ok-group.group.items c.take_ripe.new.self c.turn-turn.result = record {
      runs = c.requires;
      group_is = c.in_ok-group.ensures.group;
      rest_is = c.in_ok-group.ensures.taken;
      empty = c.is_empty.ensures.0 c.if-not-is_empty.false;
      table = c.turn-turn.ensures.table;
      view = c.turn-turn.ensures.view;
      taken = c.turn-turn.ensures.taken;
      lent = c.turn-turn.ensures.lent;
    } in
    let releasable = may_release took c.in_ok-group.ensures.releasable in
    rw c.book.ensures.value (record { new = is_new took releasable; releasable = releasable; apart = is_apart took })

pub close-requires : goal.close-requires
close-requires g c =
    let took : TookAll c.args.claims.now c.args.pass c.args.search c.in_ok-group.group.items c.take_ripe.new.self c.turn-turn.result = record {
      runs = c.requires;
      group_is = c.in_ok-group.ensures.group;
      rest_is = c.in_ok-group.ensures.taken;
      empty = c.is_empty.ensures.0 c.if-not-is_empty.false;
      table = c.turn-turn.ensures.table;
      view = c.turn-turn.ensures.view;
      taken = c.turn-turn.ensures.taken;
      lent = c.turn-turn.ensures.lent;
    } in
    let released : IsReleased c.turn-turn.result.book c.in_ok-group.group.items c.release.new.self =
    subst (λ (b : BookValue). IsReleased b c.in_ok-group.group.items c.release.new.self) c.book.ensures.value
    (record {
      only = c.release.ensures.only;
      appended = c.release.ensures.appended;
      count = c.release.ensures.released_count;
      kept = c.release.ensures.kept_nodes;
      wanted = c.release.ensures.wanted_count;
    }) in
    let none = none_closed took c.release.new.self in
    let in_it = zero_in (sym c.deref.ensures.value ∙ c.if-not-is_ring.ensures) in
    record {
      node = is_node took released none 0 in_it;
      released = is_member took released none 0 in_it;
      may = may_close took released none 0 in_it refl;
    }

pub close-requires-2 : goal.close-requires-2
close-requires-2 g c =
    let took : TookAll c.args.claims.now c.args.pass c.args.search c.in_ok-group.group.items c.take_ripe.new.self c.turn-turn.result = record {
      runs = c.requires;
      group_is = c.in_ok-group.ensures.group;
      rest_is = c.in_ok-group.ensures.taken;
      empty = c.is_empty.ensures.0 c.if-not-is_empty.false;
      table = c.turn-turn.ensures.table;
      view = c.turn-turn.ensures.view;
      taken = c.turn-turn.ensures.taken;
      lent = c.turn-turn.ensures.lent;
    } in
    let released : IsReleased c.turn-turn.result.book c.in_ok-group.group.items c.release.new.self =
    subst (λ (b : BookValue). IsReleased b c.in_ok-group.group.items c.release.new.self) c.book.ensures.value
    (record {
      only = c.release.ensures.only;
      appended = c.release.ensures.appended;
      count = c.release.ensures.released_count;
      kept = c.release.ensures.kept_nodes;
      wanted = c.release.ensures.wanted_count;
    }) in
    let none = none_closed took c.release.new.self in
    let first = one_more 0 none c.close.ensures in
    let in_it = one_in (sym c.deref.ensures.value ∙ c.if-not-is_ring.ensures) in
    record {
      node = is_node took released first 1 in_it;
      released = is_member took released first 1 in_it;
      may = may_close took released first 1 in_it refl;
    }

pub close-requires-3 : goal.close-requires-3
close-requires-3 g c =
    let took : TookAll c.args.claims.now c.args.pass c.args.search c.in_ok-group.group.items c.take_ripe.new.self c.turn-turn.result = record {
      runs = c.requires;
      group_is = c.in_ok-group.ensures.group;
      rest_is = c.in_ok-group.ensures.taken;
      empty = c.is_empty.ensures.0 c.if-not-is_empty.false;
      table = c.turn-turn.ensures.table;
      view = c.turn-turn.ensures.view;
      taken = c.turn-turn.ensures.taken;
      lent = c.turn-turn.ensures.lent;
    } in
    let released : IsReleased c.turn-turn.result.book c.in_ok-group.group.items c.release.new.self =
    subst (λ (b : BookValue). IsReleased b c.in_ok-group.group.items c.release.new.self) c.book.ensures.value
    (record {
      only = c.release.ensures.only;
      appended = c.release.ensures.appended;
      count = c.release.ensures.released_count;
      kept = c.release.ensures.kept_nodes;
      wanted = c.release.ensures.wanted_count;
    }) in
    let none = none_closed took c.release.new.self in
    let first = one_more 0 none c.close.ensures in
    let second = one_more 1 first c.close-2.ensures in
    let in_it = two_in (sym c.deref.ensures.value ∙ c.if-not-is_ring.ensures) in
    record {
      node = is_node took released second 2 in_it;
      released = is_member took released second 2 in_it;
      may = may_close took released second 2 in_it refl;
    }

pub give-requires : goal.give-requires
give-requires g c =
    let took : TookAll c.args.claims.now c.args.pass c.args.search c.in_ok-group.group.items c.take_ripe.new.self c.turn-turn.result = record {
      runs = c.requires;
      group_is = c.in_ok-group.ensures.group;
      rest_is = c.in_ok-group.ensures.taken;
      empty = c.is_empty.ensures.0 c.if-not-is_empty.false;
      table = c.turn-turn.ensures.table;
      view = c.turn-turn.ensures.view;
      taken = c.turn-turn.ensures.taken;
      lent = c.turn-turn.ensures.lent;
    } in
    let released : IsReleased c.turn-turn.result.book c.in_ok-group.group.items c.release.new.self =
    subst (λ (b : BookValue). IsReleased b c.in_ok-group.group.items c.release.new.self) c.book.ensures.value
    (record {
      only = c.release.ensures.only;
      appended = c.release.ensures.appended;
      count = c.release.ensures.released_count;
      kept = c.release.ensures.kept_nodes;
      wanted = c.release.ensures.wanted_count;
    }) in
    let none = none_closed took c.release.new.self in
    let first = one_more 0 none c.close.ensures in
    let second = one_more 1 first c.close-2.ensures in
    let third = one_more 2 second c.close-3.ensures in
    may_give took released third (λ x. ap (times x) (sym c.if-not-is_ring.ensures ∙ c.deref.ensures.value))

pub returns : goal.returns
returns g c =
    let took : TookAll c.args.claims.now c.args.pass c.args.search c.in_ok-group.group.items c.take_ripe.new.self c.turn-turn.result = record {
      runs = c.requires;
      group_is = c.in_ok-group.ensures.group;
      rest_is = c.in_ok-group.ensures.taken;
      empty = c.is_empty.ensures.0 c.if-not-is_empty.false;
      table = c.turn-turn.ensures.table;
      view = c.turn-turn.ensures.view;
      taken = c.turn-turn.ensures.taken;
      lent = c.turn-turn.ensures.lent;
    } in
    let released : IsReleased c.turn-turn.result.book c.in_ok-group.group.items c.release.new.self =
    subst (λ (b : BookValue). IsReleased b c.in_ok-group.group.items c.release.new.self) c.book.ensures.value
    (record {
      only = c.release.ensures.only;
      appended = c.release.ensures.appended;
      count = c.release.ensures.released_count;
      kept = c.release.ensures.kept_nodes;
      wanted = c.release.ensures.wanted_count;
    }) in
    let none = none_closed took c.release.new.self in
    let first = one_more 0 none c.close.ensures in
    let second = one_more 1 first c.close-2.ensures in
    let third = one_more 2 second c.close-3.ensures in
    gives_idle took released third c.give.result c.give.ensures.table c.give.ensures.view
