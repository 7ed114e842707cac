use Rattle.std.proofs.Common.{◌≡◌, ◌<◌, ◌+◌, length, arith, length-set}
use Rattle.blocked_table.specs.WaitersFields.{word_at}
use Rattle.blocked_table.proofs.WaiterSteps.{come, head_in, word_read}
use Rattle.blocked_table.proofs.waiters.Waiters.add.Goals as goal

pub write_for-requires : goal.write_for-requires
write_for-requires c =
    let node_lt : c.args.node < length c.self.inside.heads.items = rw (← c.self.view_is) at c.requires.node in
    let next = word_read c.self.inside.heads.items c.args.node c.index-next.result.now node_lt c.index-next.ensures in
    omega (arith, next, head_in c.self.invariant.linked c.args.place c.args.node c.self.invariant.befores)

pub invariant_of-self : goal.invariant_of-self
invariant_of-self c =
    let node_lt : c.args.node < length c.self.inside.heads.items = rw (← c.self.view_is) at c.requires.node in
    let lt : c.args.place < length c.self.inside.nodes.items = rw (← c.self.view_is) at c.requires.place in
    let free : word_at c.self.inside.nodes.items c.args.place ≡ 0 = rw (← c.self.view_is) at c.requires.none in
    let next = word_read c.self.inside.heads.items c.args.node c.index-next.result.now node_lt c.index-next.ensures in
    let nodes_long = length-set c.self.inside.nodes.items c.args.place (c.args.node + 1) in
    record {
      linked =
          come c.self.invariant.linked c.args.place c.args.node lt c.self.invariant.afters c.self.invariant.befores node_lt free next
          c.write_for.ensures;
      afters = omega (
        arith,
        c.self.invariant.afters,
        nodes_long,
        length-set c.self.inside.after.items c.args.place c.index-next.result.now,
      );
      befores = omega (arith, c.self.invariant.befores, nodes_long, c.write_for.ensures.each, length-set c.write_for.new.words.items c.args.place 0);
      few_nodes = omega (arith, c.self.invariant.few_nodes, length-set c.self.inside.heads.items c.args.node (c.args.place + 1));
      few_places = omega (arith, c.self.invariant.few_places, nodes_long);
    }
