-- The turn ends with the book as its borrower left it.
use Rattle.std.specs.Prelude.{[]}
use Rattle.std.specs.Borrow.{Lends, MutBor, Fml}
use mir.Syntax.{named}
use Rattle.group_release.specs.Book.{BookValue}
use Rattle.group_release.specs.contracts.book.Book as book_row
use Rattle.node_claims.specs.contracts.turn.Turn.{the_row}
use Rattle.node_claims.specs.Claims.{TurnValue}

abbrev pub LendsBook : MutBor TurnValue → MutBor BookValue → Fml
LendsBook turn lent = Lends (the_row (record { mir = named 0; lft = [] })) book_row.the_row turn lent (λ book. record turn.now { book = book })
