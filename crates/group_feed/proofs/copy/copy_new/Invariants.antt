use Rattle.std.proofs.Common.{◌≡◌}
use Rattle.group_feed.specs.Copying.{IsCopied}
use Rattle.group_feed.proofs.copy.copy_new.Given as goal

abbrev pub invariant-loop-at : goal.invariant-loop-at
invariant-loop-at l = record {
  count : l.copies.count ≡ l.initial.copies.count;
  copied : IsCopied l.book.lists l.book.groups l.initial.copies.groups l.copies.groups l.at;
}
