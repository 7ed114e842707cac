use Rattle.std.proofs.Common.{[], length, get_or, sym, ap, subst, arith}
use Rattle.std.specs.List.Sorted.{IsSortedBy}
use Rattle.std.proofs.lemmas.List.{get_or_default}
use Rattle.byte_names.specs.declared.ranked.Keyed.{Keyed}
use Rattle.byte_names.specs.Keys.{AreKeys, IsKey}
use Rattle.byte_names.specs.Names.{names_of}
use Rattle.byte_names.proofs.KeyLists.{keys_moved}
use Rattle.byte_names.proofs.NameLists.{as_many}
use Rattle.byte_names.proofs.Ranking.{AreRanked, all_ranked, comes_before, none_ranked, one_ranked}
use Rattle.byte_names.proofs.ranked.rank.Goals as goal

pub loop-key-init : goal.loop-key-init
loop-key-init c =
    let names = names_of c.args.names.now in
    let keys = c.deref-key-items.result.now in
    let ranks = c.in_ok-ranks.ranks.items in
    subst (λ ds. AreRanked names keys 0 (names_of ds) ranks) (sym c.new-different.ensures.items)
    (none_ranked names keys ranks (omega (arith, c.in_ok-ranks.ensures.len, c.in_ok-ranks.ranks.ok.0, as_many c.args.names.now)))

pub append-requires : goal.append-requires
append-requires c =
    let moved =
    keys_moved (names_of c.args.names.now) (length c.args.names.now) c.in_ok-keys.keys.items c.sort.new.self.items c.in_ok-keys.ensures
    c.in_ok-sort.ensures.permutation in
    omega (
      arith,
      c.loop-key.invariant.fewer,
      c.loop-key-test.true,
      as_many c.loop-key.different.items,
      ap length c.deref-key-items.ensures.value,
      moved.long,
      c.requires,
    )

pub index_mut-requires : goal.index_mut-requires
index_mut-requires c =
    let names = names_of c.args.names.now in
    let keys = c.deref-key-items.result.now in
    let none : Keyed = record { lead = 0; name = record { ref_ptr = (0, 0); now = [] }; place = 0 } in
    let moved : AreKeys names (length c.args.names.now) keys =
    subst (AreKeys names (length c.args.names.now)) (sym c.deref-key-items.ensures.value)
    (keys_moved names (length c.args.names.now) c.in_ok-keys.keys.items c.sort.new.self.items c.in_ok-keys.ensures c.in_ok-sort.ensures.permutation) in
    let own : IsKey names (get_or keys c.loop-key.key-index none) = moved.each c.loop-key.key-index none c.loop-key-test.true in
    omega (arith, own.within, c.loop-key.invariant.each, c.loop-key.ranks.ok.0)

pub loop-key-preserved : goal.loop-key-preserved
loop-key-preserved c =
    let names = names_of c.args.names.now in
    let keys = c.deref-key-items.result.now in
    let n = c.loop-key.key-index in
    let none : Keyed = record { lead = 0; name = record { ref_ptr = (0, 0); now = [] }; place = 0 } in
    let key = get_or keys n none in
    let moved : AreKeys names (length names) keys =
    subst (λ k. AreKeys names k keys) (sym (as_many c.args.names.now))
    (subst (AreKeys names (length c.args.names.now)) (sym c.deref-key-items.ensures.value)
    (keys_moved names (length c.args.names.now) c.in_ok-keys.keys.items c.sort.new.self.items c.in_ok-keys.ensures c.in_ok-sort.ensures.permutation)) in
    let sorted : IsSortedBy comes_before keys = subst (IsSortedBy comes_before) (sym c.deref-key-items.ensures.value) c.in_ok-sort.ensures.sorted in
    one_ranked names keys n (names_of c.loop-key.different.items) (names_of c.append.new.names.items) c.loop-key.ranks.items key c.in_ok-rank.rank
    c.loop-key.invariant moved sorted c.loop-key-test.true (get_or_default keys n none key c.loop-key-test.true) c.in_ok-rank.ensures

pub returns : goal.returns
returns c =
    let names = names_of c.args.names.now in
    let keys = c.deref-key-items.result.now in
    let moved : AreKeys names (length names) keys =
    subst (λ k. AreKeys names k keys) (sym (as_many c.args.names.now))
    (subst (AreKeys names (length c.args.names.now)) (sym c.deref-key-items.ensures.value)
    (keys_moved names (length c.args.names.now) c.in_ok-keys.keys.items c.sort.new.self.items c.in_ok-keys.ensures c.in_ok-sort.ensures.permutation)) in
    all_ranked names keys c.loop-key.key-index (names_of c.loop-key.different.items) c.loop-key.ranks.items c.loop-key.invariant moved c.loop-key-test.false
