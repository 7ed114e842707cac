use Rattle.std.proofs.Common.{◌≡◌, ℕ, ◌++◌, List, ap, ◌∙◌}
use Rattle.call_edges.proofs.CheckLemmas.{all_places}
use Rattle.call_edges.proofs.check.fault_places.Goals as goal

joined_is : (all lists more others : List (ℕ × ℕ)) → all ≡ lists ++ more → more ≡ others → all ≡ lists ++ others
joined_is all lists more others is same = is ∙ ap (λ xs. lists ++ xs) same

pub returns : goal.returns
returns c =
    let seen = c.args.program.now in
    let lists = c.in_ok-faults.faults.items in
    let others = c.in_ok-others.others.items in
    let joins : c.extend_from_slice.new.self.items ≡ lists ++ others =
    joined_is c.extend_from_slice.new.self.items lists c.deref.result.now others c.in_ok-extend_from_slice.ensures.items c.deref.ensures.value in
    all_places seen c.args.pieces.now lists others c.extend_from_slice.new.self.items c.sort_unstable.new.self.items c.dedup.new.self.items
    c.is_known.ensures c.requires c.in_ok-faults.ensures c.in_ok-others.ensures
    joins c.sort_unstable.ensures.permutation c.sort_unstable.ensures.sorted c.dedup.ensures.filtered
