-- Reading a clause as its words come: a name whose part hangs on the words after it waits for them.
use Rattle.std.specs.Prelude.{Bool, true, false, cond, not, ◌&&◌, ◌||◌, [], ◌∷◌, Option, Some, None, is_some, nat_le}
use Rattle.prolog_terms.specs.Words.{Word, Table, sides_of, is_name}
use Rattle.prolog_terms.specs.Grammar.{bare}
use Rattle.prolog_terms.specs.ReaderSteps.{Stack, Mode, want, State, at, bound, name_step, act}

pub data Waiting : Type 0 where
  -- nothing waits
  ready : Stack → Mode → Waiting
  -- a name where an operand is wanted waits for the next word
  named : Stack → Word → Waiting
  -- a prefix operator, and a name behind it that is an infix operator and no prefix operator, wait for the next word
  doubt : Stack → Word → Word → Waiting

abbrev pub settled : Option State → Option Waiting
settled None = None
settled (Some st) = Some (ready st.stack st.mode)

abbrev pub is_want : Mode → Bool
is_want want = true
is_want _ = false

-- a word where nothing waits
abbrev pub enter : Table → State → Word → Option Waiting
enter T st x = cond (is_want st.mode && is_name x.kind) (Some (named st.stack x)) (settled (act T st.stack st.mode x []))

abbrev pub then_enter : Table → Option State → Word → Option Waiting
then_enter T None x = None
then_enter T (Some st) x = enter T st x

-- the second of two words that waited, as it stands before the word
abbrev pub then_second : Table → Option State → Word → Word → Option Waiting
then_second T None n x = None
then_second T (Some st) n x = then_enter T (act T st.stack st.mode n (x ∷ [])) x

-- a name that is an infix operator and no prefix operator
abbrev pub is_infix_only : Table → Word → Bool
is_infix_only T n = is_name n.kind && is_some (T.infix_ n) && not (is_some (T.prefix n))

-- two words that one more has to decide
abbrev pub leaves_doubt : Table → Word → Word → Bool
leaves_doubt T p n = is_some (T.prefix p) && is_infix_only T n

-- the words may go on: as an atom and its infix operator, or as a prefix operator and a functor
abbrev pub can_go_on : Table → Stack → Word → Word → Bool
can_go_on T S p n = is_some (name_step T S (bare p) n) || nat_le (sides_of (T.prefix p)).priority (bound T S)

-- one word more, which is refused where no clause goes on with it
abbrev pub feed : Table → Waiting → Word → Option Waiting
feed T (ready S m) x = enter T (at S m) x
feed T (named S w) x =
    cond (leaves_doubt T w x) (cond (can_go_on T S w x) (Some (doubt S w x)) None) (then_enter T (act T S want w (x ∷ [])) x)
feed T (doubt S p n) x = then_second T (act T S want p (n ∷ x ∷ [])) n x
