use Rattle.std.proofs.Common.{◌≡◌, ℕ, None, List, refl, arith, rules}
use Rattle.std.specs.Prelude.{replicate}
use Rattle.search_machine.proofs.Acting.{made_machine}
use Rattle.search_machine.proofs.machine.Machine.make.Goals as goal

pub invariant_of-result : goal.invariant_of-result
invariant_of-result g c =
    let lists : List (List ℕ) = g.O.Opener.lists c.args.opener.now in
    let waiting : c.in_ok-vec.field-0.items ≡ replicate c.args.places None = search rules in
    made_machine (record {
      book = c.in_ok-make.field-0;
      given = 0;
      running = c.in_ok-no_searches.field-0;
      waiting = c.in_ok-vec.field-0;
      claimed = c.in_ok-vec-2.field-0;
    }) lists c.args.roots.now c.count-count.result c.args.places c.in_ok-make.ensures refl c.in_ok-no_searches.ensures waiting
    (c.in_ok-vec-2.ensures.items_if_clones_equal (λ y is. is)) c.count-count.ensures.count c.count-count.ensures.closed c.requires
    (omega (arith, c.ranges.places.fits))
