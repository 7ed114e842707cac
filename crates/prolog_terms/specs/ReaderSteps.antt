-- Reading a clause word by word with a stack of open operators and brackets, where each step sees the words after its own.
use Rattle.std.specs.Prelude.{ℕ, Bool, true, false, cond, List, [], ◌∷◌, Option, Some, None, is_some, ◌&&◌, nat_lt, nat_le}
use Rattle.prolog_tokens.specs.declared.token.Kind.{Kind}
use Rattle.prolog_tokens.specs.declared.token.Kind.TheVariants.{Name, Quoted, Variable, Integer, Float, Str, BackStr, OpenRound, CloseRound}
use Rattle.prolog_tokens.specs.declared.token.Kind.TheVariants.{OpenSquare, CloseSquare, OpenCurly, CloseCurly, Comma, Bar, End}
use Rattle.prolog_terms.specs.Words.{Word, Table, sides_of, is_functor, is_negative, is_atom, is_prefix}
use Rattle.prolog_terms.specs.Grammar.{Parse, Parts, GroupStart, call, square, leaf, negative, bare, pair, group, tailed, wrapped, prefixed, infixed}
use Rattle.prolog_terms.specs.Grammar.{postfixed, one, more, priority}

-- what is open: an operator or a bracket, with what stands before it
pub data Pending : Type 0 where
  -- a prefix operator that wants its operand
  prefix_open : Word → Pending
  -- an infix operator that wants its right side
  infix_open : Parse → Word → Pending
  -- a bracket that wants its first part
  first_open : GroupStart → Pending
  -- the same, after a comma
  next_open : GroupStart → Parts → Word → Pending
  -- a list after its bar
  tail_open : Word → Parts → Word → Pending
  -- a bracket round one term
  wrap_open : Word → Pending

-- the innermost first
abbrev pub Stack : Type 0
Stack = List Pending

pub data Mode : Type 0 where
  -- an operand is wanted
  want : Mode
  -- the number of this minus is wanted
  minus : Word → Mode
  -- the bracket of this functor is wanted
  functor : Word → Mode
  -- an operand is complete
  have : Parse → Mode
  -- the clause and its End are read
  done : Parse → Mode

pub record State : Type 0 where
  pub stack : Stack
  pub mode : Mode

abbrev pub at : Stack → Mode → State
at stack mode = record { stack = stack; mode = mode }

abbrev pub goes : Stack → Mode → Option State
goes stack mode = Some (record { stack = stack; mode = mode })

-- the greatest priority of what stands on the stack
abbrev pub bound : Table → Stack → ℕ
bound T [] = 1200
bound T (prefix_open w ∷ S) = (sides_of (T.prefix w)).right
bound T (infix_open l w ∷ S) = (sides_of (T.infix_ w)).right
bound T (first_open g ∷ S) = 999
bound T (next_open g xs c ∷ S) = 999
bound T (tail_open o xs b ∷ S) = 999
bound T (wrap_open o ∷ S) = 1200

-- closes the open operators whose right bound is below the priority
abbrev pub reduced : Table → ℕ → Stack → Parse → State
reduced T p (prefix_open w ∷ S) t = cond (nat_lt (sides_of (T.prefix w)).right p) (reduced T p S (prefixed w t)) (at (prefix_open w ∷ S) (have t))
reduced T p (infix_open l w ∷ S) t = cond (nat_lt (sides_of (T.infix_ w)).right p) (reduced T p S (infixed l w t)) (at (infix_open l w ∷ S) (have t))
reduced T p S t = at S (have t)

-- closes all open operators down to the innermost bracket
abbrev pub closed : Stack → Parse → State
closed (prefix_open w ∷ S) t = closed S (prefixed w t)
closed (infix_open l w ∷ S) t = closed S (infixed l w t)
closed S t = at S (have t)

abbrev pub is_curly : Kind → Bool
is_curly OpenCurly = true
is_curly _ = false

-- `]` and `}` where an operand is wanted

abbrev pub square_pair : Stack → Word → Option State
square_pair (first_open (square o) ∷ S) c = goes S (have (pair o c))
square_pair _ c = None

abbrev pub curly_pair : Stack → Word → Option State
curly_pair (wrap_open o ∷ S) c = cond (is_curly o.kind) (goes S (have (pair o c))) None
curly_pair _ c = None

-- a word that is no name where an operand is wanted
abbrev pub want_other : Stack → Word → Kind → Option State
want_other S w Variable = goes S (have (leaf w))
want_other S w Integer = goes S (have (leaf w))
want_other S w Float = goes S (have (leaf w))
want_other S w Str = goes S (have (leaf w))
want_other S w BackStr = goes S (have (leaf w))
want_other S w OpenRound = goes (wrap_open w ∷ S) want
want_other S w OpenCurly = goes (wrap_open w ∷ S) want
want_other S w OpenSquare = goes (first_open (square w) ∷ S) want
want_other S w CloseSquare = square_pair S w
want_other S w CloseCurly = curly_pair S w
want_other S w _ = None

abbrev pub want_step : Table → Stack → Word → List Word → Option State
want_step T S w after =
    cond (is_functor w after) (goes S (functor w))
    (cond (is_negative w after) (goes S (minus w))
    (cond (is_atom T w after) (goes S (have (bare w)))
    (cond (is_prefix T w after) (cond (nat_le (sides_of (T.prefix w)).priority (bound T S)) (goes (prefix_open w ∷ S) want) None)
    (want_other S w w.kind))))

-- an infix operator once the operators before it are closed
abbrev pub infix_on : Table → Stack → Parse → Word → Option State
infix_on T S t w =
    cond (nat_le (sides_of (T.infix_ w)).priority (bound T S) && nat_le (priority T t) (sides_of (T.infix_ w)).left) (goes (infix_open t w ∷ S) want) None

abbrev pub postfix_on : Table → Stack → Parse → Word → Option State
postfix_on T S t w =
    cond (nat_le (sides_of (T.postfix w)).priority (bound T S) && nat_le (priority T t) (sides_of (T.postfix w)).left) (goes S (have (postfixed t w))) None

abbrev pub with_tree : State → (Stack → Parse → Option State) → Option State
with_tree st go = elim (st.mode) [ have t ↦ go st.stack t | _ ↦ None ]

abbrev pub infix_step : Table → Stack → Parse → Word → Option State
infix_step T S t w = cond (is_some (T.infix_ w)) (with_tree (reduced T (sides_of (T.infix_ w)).priority S t) (λ S' t'. infix_on T S' t' w)) None

-- a name behind an operand
abbrev pub name_step : Table → Stack → Parse → Word → Option State
name_step T S t w =
    cond (is_some (T.infix_ w)) (infix_step T S t w)
    (cond (is_some (T.postfix w)) (with_tree (reduced T (sides_of (T.postfix w)).priority S t) (λ S' t'. postfix_on T S' t' w)) None)

-- a comma separates where the innermost bracket has arguments, and is an operator elsewhere
abbrev pub comma_on : Table → Stack → Parse → Word → Stack → Parse → Option State
comma_on T S t w (first_open g ∷ S') t' = goes (next_open g (one t') w ∷ S') want
comma_on T S t w (next_open g xs c ∷ S') t' = goes (next_open g (more xs c t') w ∷ S') want
comma_on T S t w (tail_open o xs b ∷ S') t' = None
comma_on T S t w _ t' = infix_step T S t w

abbrev pub bar_on : Table → Stack → Parse → Word → Stack → Parse → Option State
bar_on T S t w (first_open (square o) ∷ S') t' = goes (tail_open o (one t') w ∷ S') want
bar_on T S t w (next_open (square o) xs c ∷ S') t' = goes (tail_open o (more xs c t') w ∷ S') want
bar_on T S t w (first_open (call f o) ∷ S') t' = None
bar_on T S t w (next_open (call f o) xs c ∷ S') t' = None
bar_on T S t w (tail_open o xs b ∷ S') t' = None
bar_on T S t w _ t' = infix_step T S t w

abbrev pub round_on : Word → Stack → Parse → Option State
round_on w (first_open (call f o) ∷ S) t = goes S (have (group (call f o) (one t) w))
round_on w (next_open (call f o) xs c ∷ S) t = goes S (have (group (call f o) (more xs c t) w))
round_on w (wrap_open o ∷ S) t = cond (is_curly o.kind) None (goes S (have (wrapped o t w)))
round_on w _ t = None

abbrev pub square_on : Word → Stack → Parse → Option State
square_on w (first_open (square o) ∷ S) t = goes S (have (group (square o) (one t) w))
square_on w (next_open (square o) xs c ∷ S) t = goes S (have (group (square o) (more xs c t) w))
square_on w (tail_open o xs b ∷ S) t = goes S (have (tailed o xs b t w))
square_on w _ t = None

abbrev pub curly_on : Word → Stack → Parse → Option State
curly_on w (wrap_open o ∷ S) t = cond (is_curly o.kind) (goes S (have (wrapped o t w))) None
curly_on w _ t = None

abbrev pub end_on : Stack → Parse → Option State
end_on [] t = goes [] (done t)
end_on _ t = None

-- a word of this kind behind an operand
abbrev pub have_step : Table → Stack → Parse → Word → Kind → Option State
have_step T S t w Name = name_step T S t w
have_step T S t w Quoted = name_step T S t w
have_step T S t w Comma = with_tree (closed S t) (comma_on T S t w)
have_step T S t w Bar = with_tree (closed S t) (bar_on T S t w)
have_step T S t w CloseRound = with_tree (closed S t) (round_on w)
have_step T S t w CloseSquare = with_tree (closed S t) (square_on w)
have_step T S t w CloseCurly = with_tree (closed S t) (curly_on w)
have_step T S t w End = with_tree (closed S t) end_on
have_step T S t w _ = None

-- one word, before these words
abbrev pub act : Table → Stack → Mode → Word → List Word → Option State
act T S want w after = want_step T S w after
act T S (minus d) w after = goes S (have (negative d w))
act T S (functor n) w after = goes (first_open (call n w) ∷ S) want
act T S (have t) w after = have_step T S t w w.kind
act T S (done t) w after = None

abbrev pub next : Option State → (State → Option State) → Option State
next None go = None
next (Some st) go = go st

abbrev pub run : Table → List Word → State → Option State
run T [] st = Some st
run T (w ∷ after) st = next (act T st.stack st.mode w after) (λ st'. run T after st')
