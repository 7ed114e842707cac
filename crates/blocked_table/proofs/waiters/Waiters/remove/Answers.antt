use Rattle.std.proofs.Common.{◌≡◌, ◌<◌, ◌+◌, ◌-◌, length, ◌∙◌, sym, arith, length-set}
use Rattle.blocked_table.specs.WaitersFields.{word_at}
use Rattle.blocked_table.proofs.WaiterSteps.{first_left, last_in, later_left, next_in, node_in, word_read}
use Rattle.blocked_table.proofs.waiters.Waiters.remove.Goals as goal

pub write_for-requires : goal.write_for-requires
write_for-requires c =
    let lt : c.args.place < length c.self.inside.nodes.items = rw (← c.self.view_is) at c.requires.place in
    let some : 0 < word_at c.self.inside.nodes.items c.args.place = rw (← c.self.view_is) at c.requires.waits in
    let word = word_read c.self.inside.nodes.items c.args.place c.index.result.now lt c.index.ensures in
    let waits : word_at c.self.inside.nodes.items c.args.place ≡ (c.index.result.now - 1) + 1 = omega (arith, word, some) in
    let next =
    word_read c.self.inside.after.items c.args.place c.index-next.result.now (omega (arith, lt, c.self.invariant.afters)) c.index-next.ensures in
    omega (arith, next, next_in c.self.invariant.linked c.args.place (c.index.result.now - 1) waits)

pub write_for-requires-2 : goal.write_for-requires-2
write_for-requires-2 c =
    let lt : c.args.place < length c.self.inside.nodes.items = rw (← c.self.view_is) at c.requires.place in
    let some : 0 < word_at c.self.inside.nodes.items c.args.place = rw (← c.self.view_is) at c.requires.waits in
    let word = word_read c.self.inside.nodes.items c.args.place c.index.result.now lt c.index.ensures in
    let waits : word_at c.self.inside.nodes.items c.args.place ≡ (c.index.result.now - 1) + 1 = omega (arith, word, some) in
    let last =
    word_read c.self.inside.before.items c.args.place c.index-last.result.now (omega (arith, lt, c.self.invariant.befores)) c.index-last.ensures in
    omega (arith, last, last_in c.self.invariant.linked c.args.place (c.index.result.now - 1) waits)

pub index_mut-requires-then-last-eq0 : goal.index_mut-requires-then-last-eq0
index_mut-requires-then-last-eq0 c =
    let lt : c.args.place < length c.self.inside.nodes.items = rw (← c.self.view_is) at c.requires.place in
    let some : 0 < word_at c.self.inside.nodes.items c.args.place = rw (← c.self.view_is) at c.requires.waits in
    let word = word_read c.self.inside.nodes.items c.args.place c.index.result.now lt c.index.ensures in
    let waits : word_at c.self.inside.nodes.items c.args.place ≡ (c.index.result.now - 1) + 1 = omega (arith, word, some) in
    let last =
    word_read c.self.inside.before.items c.args.place c.index-last.result.now (omega (arith, lt, c.self.invariant.befores)) c.index-last.ensures in
    omega (
      arith,
      node_in c.self.invariant.linked c.args.place (c.index.result.now - 1) waits (sym last ∙ c.if-last-eq0.true),
      c.self.inside.heads.ok.0,
    )

pub invariant_of-self : goal.invariant_of-self
invariant_of-self c =
    let lt : c.args.place < length c.self.inside.nodes.items = rw (← c.self.view_is) at c.requires.place in
    let some : 0 < word_at c.self.inside.nodes.items c.args.place = rw (← c.self.view_is) at c.requires.waits in
    let word = word_read c.self.inside.nodes.items c.args.place c.index.result.now lt c.index.ensures in
    let waits : word_at c.self.inside.nodes.items c.args.place ≡ (c.index.result.now - 1) + 1 = omega (arith, word, some) in
    let next =
    word_read c.self.inside.after.items c.args.place c.index-next.result.now (omega (arith, lt, c.self.invariant.afters)) c.index-next.ensures in
    let last =
    word_read c.self.inside.before.items c.args.place c.index-last.result.now (omega (arith, lt, c.self.invariant.befores)) c.index-last.ensures in
    let nodes_long = length-set c.self.inside.nodes.items c.args.place 0 in
    record {
      linked =
          first_left c.self.invariant.linked c.args.place (c.index.result.now - 1) lt next last waits c.write_for.ensures c.write_for-2.ensures
          c.if-last-eq0.true;
      afters = omega (arith, c.self.invariant.afters, nodes_long, c.write_for-2.ensures.each);
      befores = omega (arith, c.self.invariant.befores, nodes_long, c.write_for.ensures.each);
      few_nodes =
          omega (arith, c.self.invariant.few_nodes, length-set c.self.inside.heads.items (c.index.result.now - 1) c.index-next.result.now);
      few_places = omega (arith, c.self.invariant.few_places, nodes_long);
    }

pub invariant_of-self-else-last-eq0 : goal.invariant_of-self-else-last-eq0
invariant_of-self-else-last-eq0 c =
    let lt : c.args.place < length c.self.inside.nodes.items = rw (← c.self.view_is) at c.requires.place in
    let some : 0 < word_at c.self.inside.nodes.items c.args.place = rw (← c.self.view_is) at c.requires.waits in
    let word = word_read c.self.inside.nodes.items c.args.place c.index.result.now lt c.index.ensures in
    let waits : word_at c.self.inside.nodes.items c.args.place ≡ (c.index.result.now - 1) + 1 = omega (arith, word, some) in
    let next =
    word_read c.self.inside.after.items c.args.place c.index-next.result.now (omega (arith, lt, c.self.invariant.afters)) c.index-next.ensures in
    let last =
    word_read c.self.inside.before.items c.args.place c.index-last.result.now (omega (arith, lt, c.self.invariant.befores)) c.index-last.ensures in
    let nodes_long = length-set c.self.inside.nodes.items c.args.place 0 in
    record {
      linked =
          later_left c.self.invariant.linked c.args.place (c.index.result.now - 1) lt next last waits c.write_for.ensures c.write_for-2.ensures
          c.if-last-eq0.false;
      afters = omega (arith, c.self.invariant.afters, nodes_long, c.write_for-2.ensures.each);
      befores = omega (arith, c.self.invariant.befores, nodes_long, c.write_for.ensures.each);
      few_nodes = c.self.invariant.few_nodes;
      few_places = omega (arith, c.self.invariant.few_places, nodes_long);
    }
