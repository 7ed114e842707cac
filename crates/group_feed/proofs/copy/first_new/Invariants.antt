use Rattle.group_feed.proofs.CopyPlaces.{AreNew}
use Rattle.group_feed.proofs.copy.first_new.Given as goal

abbrev pub invariant-loop-at : goal.invariant-loop-at
invariant-loop-at l = AreNew l.copied l.at l.book.groups l.copies.groups
