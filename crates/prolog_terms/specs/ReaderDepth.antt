-- How deep a clause is at least, once some of its words are read.
use Rattle.std.specs.Prelude.{ℕ, ◌+◌, max, min, Bool, cond, [], ◌∷◌, length, Option, Some, None, nat_le}
use Rattle.prolog_terms.specs.Words.{Table, sides_of}
use Rattle.prolog_terms.specs.Grammar.{square, bare, parse_depth, parts_depth}
use Rattle.prolog_terms.specs.ReaderSteps.{Pending, prefix_open, infix_open, first_open, next_open, tail_open, wrap_open, Stack, Mode, want, minus}
use Rattle.prolog_terms.specs.ReaderSteps.{functor, have, done, State, bound, name_step, is_curly}
use Rattle.prolog_terms.specs.ReaderWaiting.{Waiting, ready, named, doubt}

-- the depth of the deepest part that stands in an operator or bracket
abbrev pub pending_depth : Pending → ℕ
pending_depth (prefix_open w) = 0
pending_depth (infix_open l w) = parse_depth l
pending_depth (first_open g) = 0
pending_depth (next_open g xs c) = parts_depth xs
pending_depth (tail_open o xs b) = parts_depth xs
pending_depth (wrap_open o) = 0

-- the depth that the parts on a stack give their clause: each operator or bracket adds one to what stands in it and on it
abbrev pub reach : Stack → ℕ
reach [] = 0
reach (pending ∷ S) = max (reach S) (pending_depth pending + (1 + length S))

-- the depth of the clause where an operand of this depth stands on the stack, at least
abbrev pub floor_of : Stack → ℕ → ℕ
floor_of S d = max (reach S) (d + length S)

-- the same where an operand is wanted: one of depth 1, or the closing bracket of a pair
abbrev pub want_floor : Stack → ℕ
want_floor (first_open (square o) ∷ S) = floor_of S 1
want_floor (wrap_open o ∷ S) = cond (is_curly o.kind) (floor_of S 1) (floor_of (wrap_open o ∷ S) 1)
want_floor S = floor_of S 1

abbrev pub floor : Stack → Mode → ℕ
floor S want = want_floor S
floor S (minus d) = floor_of S 1
floor S (functor n) = floor_of S 2
floor S (have t) = floor_of S (parse_depth t)
floor S (done t) = parse_depth t

-- the lesser floor of the readings that are open: an atom and its infix operator, a prefix operator and a functor
abbrev pub least_floor : Option State → Bool → ℕ → ℕ
least_floor None allowed n = n
least_floor (Some st) allowed n = cond allowed (min (floor st.stack st.mode) n) (floor st.stack st.mode)

abbrev pub waiting_floor : Table → Waiting → ℕ
waiting_floor T (ready S m) = floor S m
waiting_floor T (named S w) = floor_of S 1
waiting_floor T (doubt S p n) = least_floor (name_step T S (bare p) n) (nat_le (sides_of (T.prefix p)).priority (bound T S)) (floor_of S 3)
