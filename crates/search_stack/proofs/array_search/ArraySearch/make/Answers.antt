use Rattle.std.proofs.Common.{◌≡◌, ◌∙◌, replicate, ap}
use Rattle.search_stack.specs.ArrayFields.{met_in, stack_in}
use Rattle.search_stack.proofs.ArraySteps.{no_arrays, none_met}
use Rattle.search_stack.proofs.array_search.ArraySearch.make.Goals as goal

pub invariant_of-result : goal.invariant_of-result
invariant_of-result c =
    let marks : c.in_ok-vec.field-0.items ≡ replicate c.args.count 0 = c.in_ok-vec.ensures.items_if_clones_equal (λ y is. is) in
    no_arrays c.ranges.count.fits marks c.in_ok-with_capacity.ensures.items c.in_ok-with_capacity-2.ensures.items c.new.ensures.items

pub returns : goal.returns
returns c =
    let marks : c.in_ok-vec.field-0.items ≡ replicate c.args.count 0 = c.in_ok-vec.ensures.items_if_clones_equal (λ y is. is) in
    (λ k.
    record {
      stack = stack_in (c.new.ensures.items k) (c.in_ok-with_capacity.ensures.items k) (c.in_ok-with_capacity-2.ensures.items k);
      seen = (ap met_in marks ∙ none_met c.args.count) k;
    })
