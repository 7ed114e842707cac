use Rattle.std.proofs.Common.{◌<◌, length, sym, ap, ◌∙◌, arith}
use Rattle.loop_paths.specs.Inner.{inner_nodes}
use Rattle.loop_paths.proofs.InnerCalls.{inner_list_at, length-inner_lists}
use Rattle.loop_paths.proofs.inner.InnerOpener.expand.Goals as goal

pub expand-requires-clause-below : goal.expand-requires-clause-below
expand-requires-clause-below g c =
    let long = length-inner_lists (g.O.Opener.lists c.args.self.now.opener.now) c.args.self.now.places.now in
    omega (arith, long, c.requires.below)

pub returns-clause-ok : goal.returns-clause-ok
returns-clause-ok g c =
    let lists = g.O.Opener.lists c.args.self.now.opener.now in
    let places = c.args.self.now.places.now in
    let long = length-inner_lists lists places in
    let below : c.args.node < length lists = omega (arith, long, c.requires.below) in
    c.keep_inner.ensures ∙ (ap (inner_nodes places c.args.node) c.in_ok-expand.ensures.ok ∙ sym (inner_list_at lists places c.args.node below))
