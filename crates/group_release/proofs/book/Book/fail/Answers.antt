use Rattle.group_release.proofs.Books.{failed_good}
use Rattle.group_release.proofs.book.Book.fail.Goals as goal

pub invariant_of-self : goal.invariant_of-self
invariant_of-self c = record { table = c.self.invariant.table; groups = c.self.invariant.groups; good = failed_good _ c.self.invariant.good }
