-- Reading as the words come, over what the reader keeps of them: terms with their priorities and depths, and operators with their sides.
use Rattle.std.specs.Prelude.{ℕ, ◌+◌, ◌-◌, ◌^◌, max, min, Bool, true, false, cond, not, ◌&&◌, ◌||◌, List, [], ◌∷◌, Option, Some, None, is_some}
use Rattle.std.specs.Prelude.{nat_lt, nat_le, length}
use Rattle.prolog_tokens.specs.declared.token.Kind.{Kind}
use Rattle.prolog_tokens.specs.declared.token.Kind.TheVariants as kind
use Rattle.prolog_terms.specs.declared.term.Form.TheVariants.{Prefix, Infix, Postfix, Functional}
pub use Rattle.prolog_terms.specs.declared.measure.Measure.{Measure}
use Rattle.prolog_terms.specs.declared.term.Span.{Span}
use Rattle.prolog_terms.specs.Tree.{Tree, Trees, atom, compound, listed, tailed as with_tail, none, more as with_more, count}
use Rattle.prolog_terms.specs.Words.{Word, Table, Sides, sides_of, is_name, is_minus, begins_term, opens, number_next}
use Rattle.prolog_terms.specs.Clause.{joined_span, infix_text, pair_text, leaf_tree, negative_tree, wrapped_tree, trees_more}
use Rattle.prolog_terms.specs.ReaderSteps.{is_curly}
use Rattle.prolog_terms.specs.ReaderWaiting.{is_infix_only}

-- depths are told apart up to the greatest number
abbrev pub plus : ℕ → ℕ → ℕ
plus a b = min (a + b) (2 ^ 64 - 1)

-- what stands before arguments or items: a functor and its bracket, or a `[`
pub data OpenedSeen : Type 0 where
  Call : Word → OpenedSeen
  Square : Word → OpenedSeen

-- a term with its priority and depth, and where it stands
pub record OperandSeen : Type 0 where
  pub tree : Tree
  pub priority : ℕ
  pub depth : ℕ
  pub span : Span

-- terms with the depth of the deepest
pub record PartsSeen : Type 0 where
  pub trees : Trees
  pub depth : ℕ

abbrev pub operand : Tree → ℕ → ℕ → Span → OperandSeen
operand tree priority depth span = record { tree = tree; priority = priority; depth = depth; span = span }

abbrev pub parts : Trees → ℕ → PartsSeen
parts trees depth = record { trees = trees; depth = depth }

abbrev pub parts_one : OperandSeen → PartsSeen
parts_one t = parts (with_more t.tree none) t.depth

abbrev pub parts_more : PartsSeen → OperandSeen → PartsSeen
parts_more xs t = parts (trees_more xs.trees t.tree) (max xs.depth t.depth)

-- the operands of each form

abbrev pub leaf_operand : Word → OperandSeen
leaf_operand w = operand (leaf_tree w.kind w.value w.span) 0 1 w.span

abbrev pub negative_operand : Word → Word → OperandSeen
negative_operand w n = operand (negative_tree n.kind n.value (joined_span w.span n.span)) 0 1 (joined_span w.span n.span)

abbrev pub atom_operand : Word → OperandSeen
atom_operand w = operand (atom w.text w.span) 0 1 w.span

abbrev pub pair_operand : Word → Word → OperandSeen
pair_operand o c = operand (atom (pair_text o.kind) (joined_span o.span c.span)) 0 1 (joined_span o.span c.span)

abbrev pub group_operand : OpenedSeen → PartsSeen → Word → OperandSeen
group_operand (Call f) xs c = operand (compound f.text xs.trees Functional (joined_span f.span c.span)) 0 (plus xs.depth 1) (joined_span f.span c.span)
group_operand (Square o) xs c = operand (listed xs.trees (joined_span o.span c.span)) 0 (plus xs.depth 1) (joined_span o.span c.span)

abbrev pub tailed_operand : Word → PartsSeen → OperandSeen → Word → OperandSeen
tailed_operand o xs t c =
    operand (with_tail xs.trees t.tree (joined_span o.span c.span)) 0 (plus (max xs.depth t.depth) 1) (joined_span o.span c.span)

abbrev pub wrapped_operand : Word → OperandSeen → Word → OperandSeen
wrapped_operand o t c = operand (wrapped_tree o.kind t.tree (joined_span o.span c.span)) 0 (plus t.depth 1) (joined_span o.span c.span)

abbrev pub prefixed_operand : Word → Sides → OperandSeen → OperandSeen
prefixed_operand w s r =
    operand (compound w.text (with_more r.tree none) Prefix (joined_span w.span r.span)) s.priority (plus r.depth 1) (joined_span w.span r.span)

abbrev pub infixed_operand : OperandSeen → Word → Sides → OperandSeen → OperandSeen
infixed_operand l w s r =
    operand (compound (infix_text w.kind w.text) (with_more l.tree (with_more r.tree none)) Infix (joined_span l.span r.span))
    s.priority (plus (max l.depth r.depth) 1) (joined_span l.span r.span)

abbrev pub postfixed_operand : OperandSeen → Word → Sides → OperandSeen
postfixed_operand l w s =
    operand (compound w.text (with_more l.tree none) Postfix (joined_span l.span w.span)) s.priority (plus l.depth 1) (joined_span l.span w.span)

-- what is open

pub data OperatorSeen : Type 0 where
  prefix_on : Word → Sides → OperatorSeen
  infix_on : OperandSeen → Word → Sides → OperatorSeen

pub data BracketSeen : Type 0 where
  first_in : OpenedSeen → BracketSeen
  next_in : OpenedSeen → PartsSeen → BracketSeen
  tail_in : Word → PartsSeen → BracketSeen
  wrap_in : Word → BracketSeen

pub data PendingSeen : Type 0 where
  pending_operator : OperatorSeen → PendingSeen
  pending_bracket : BracketSeen → PendingSeen

-- an operator or bracket, the least depth that the parts in it and below it give their clause,
-- and whether the innermost bracket of it and those below has parts
pub data EntrySeen : Type 0 where
  entry : PendingSeen → ℕ → Bool → EntrySeen

-- the innermost first
abbrev pub StackSeen : Type 0
StackSeen = List EntrySeen

-- the operator with its right side
abbrev pub built : OperatorSeen → OperandSeen → OperandSeen
built (prefix_on w s) r = prefixed_operand w s r
built (infix_on l w s) r = infixed_operand l w s r

abbrev pub right_of : OperatorSeen → ℕ
right_of (prefix_on w s) = s.right
right_of (infix_on l w s) = s.right

abbrev pub bracket_bound : BracketSeen → ℕ
bracket_bound (wrap_in o) = 1200
bracket_bound _ = 999

abbrev pub pending_bound : PendingSeen → ℕ
pending_bound (pending_operator o) = right_of o
pending_bound (pending_bracket k) = bracket_bound k

-- the greatest priority of what stands on the stack
abbrev pub bound_seen : StackSeen → ℕ
bound_seen [] = 1200
bound_seen (entry f r b ∷ S) = pending_bound f

abbrev pub is_operator_top : StackSeen → Bool
is_operator_top (entry (pending_operator o) r b ∷ S) = true
is_operator_top _ = false

abbrev pub is_bracket_top : StackSeen → Bool
is_bracket_top (entry (pending_bracket k) r b ∷ S) = true
is_bracket_top _ = false

-- the top is an operator whose right bound is below the priority
abbrev pub is_operator_below : ℕ → StackSeen → Bool
is_operator_below p (entry (pending_operator o) r b ∷ S) = nat_lt (right_of o) p
is_operator_below p _ = false

abbrev pub reach_seen : StackSeen → ℕ
reach_seen [] = 0
reach_seen (entry f r b ∷ S) = r

abbrev pub separates_seen : StackSeen → Bool
separates_seen [] = false
separates_seen (entry f r b ∷ S) = b

abbrev pub has_parts : BracketSeen → Bool
has_parts (wrap_in o) = false
has_parts _ = true

abbrev pub pending_has_parts : PendingSeen → Bool → Bool
pending_has_parts (pending_operator o) below = below
pending_has_parts (pending_bracket k) below = has_parts k

-- the depth of the deepest part that stands in an operator or bracket
abbrev pub inner_depth : PendingSeen → ℕ
inner_depth (pending_operator (prefix_on w s)) = 0
inner_depth (pending_operator (infix_on l w s)) = l.depth
inner_depth (pending_bracket (first_in g)) = 0
inner_depth (pending_bracket (next_in g xs)) = xs.depth
inner_depth (pending_bracket (tail_in o xs)) = xs.depth
inner_depth (pending_bracket (wrap_in o)) = 0

-- the depth of the clause where an operand of this depth stands on the stack, at least
abbrev pub floor_seen : StackSeen → ℕ → ℕ
floor_seen S d = max (reach_seen S) (plus d (length S))

abbrev pub pushed : StackSeen → PendingSeen → StackSeen
pushed S f = entry f (max (reach_seen S) (plus (plus (inner_depth f) (length S)) 1)) (pending_has_parts f (separates_seen S)) ∷ S

pub data ModeSeen : Type 0 where
  wants : ModeSeen
  minus_of : Word → ModeSeen
  functor_of : Word → ModeSeen
  has : OperandSeen → ModeSeen
  finished : OperandSeen → ModeSeen

pub record StateSeen : Type 0 where
  pub stack : StackSeen
  pub mode : ModeSeen

abbrev pub goes_seen : StackSeen → ModeSeen → Option StateSeen
goes_seen stack mode = Some (record { stack = stack; mode = mode })

-- a stack and the operand on it
pub record Held : Type 0 where
  pub stack : StackSeen
  pub operand : OperandSeen

abbrev pub held : StackSeen → OperandSeen → Held
held stack operand = record { stack = stack; operand = operand }

-- closes the open operators whose right bound is below the priority
abbrev pub reduced_seen : ℕ → StackSeen → OperandSeen → Held
reduced_seen p (entry (pending_operator o) r b ∷ S) t =
    cond (nat_lt (right_of o) p) (reduced_seen p S (built o t)) (held (entry (pending_operator o) r b ∷ S) t)
reduced_seen p S t = held S t

-- closes all open operators down to the innermost bracket
abbrev pub closed_seen : StackSeen → OperandSeen → Held
closed_seen (entry (pending_operator o) r b ∷ S) t = closed_seen S (built o t)
closed_seen S t = held S t

-- where an operand is wanted

abbrev pub square_pair_seen : StackSeen → Word → Option StateSeen
square_pair_seen (entry (pending_bracket (first_in (Square o))) r b ∷ S) c = goes_seen S (has (pair_operand o c))
square_pair_seen _ c = None

abbrev pub curly_pair_seen : StackSeen → Word → Option StateSeen
curly_pair_seen (entry (pending_bracket (wrap_in o)) r b ∷ S) c = cond (is_curly o.kind) (goes_seen S (has (pair_operand o c))) None
curly_pair_seen _ c = None

abbrev pub want_other_seen : StackSeen → Word → Kind → Option StateSeen
want_other_seen S w kind.Variable = goes_seen S (has (leaf_operand w))
want_other_seen S w kind.Integer = goes_seen S (has (leaf_operand w))
want_other_seen S w kind.Float = goes_seen S (has (leaf_operand w))
want_other_seen S w kind.Str = goes_seen S (has (leaf_operand w))
want_other_seen S w kind.BackStr = goes_seen S (has (leaf_operand w))
want_other_seen S w kind.OpenRound = goes_seen (pushed S (pending_bracket (wrap_in w))) wants
want_other_seen S w kind.OpenCurly = goes_seen (pushed S (pending_bracket (wrap_in w))) wants
want_other_seen S w kind.OpenSquare = goes_seen (pushed S (pending_bracket (first_in (Square w)))) wants
want_other_seen S w kind.CloseSquare = square_pair_seen S w
want_other_seen S w kind.CloseCurly = curly_pair_seen S w
want_other_seen S w _ = None

abbrev pub prefix_step_seen : StackSeen → Word → Sides → Option StateSeen
prefix_step_seen S w s = cond (nat_le s.priority (bound_seen S)) (goes_seen (pushed S (pending_operator (prefix_on w s))) wants) None

-- a name before `(`, before a number, or before a word that is neither, which ends the name's term or not
abbrev pub want_name_seen : StackSeen → Word → Option Sides → Bool → Bool → Bool → Option StateSeen
want_name_seen S w prefix bracket number ends =
    cond bracket (goes_seen S (functor_of w))
    (cond (is_minus w && number) (goes_seen S (minus_of w))
    (cond (not (is_some prefix) || ends) (goes_seen S (has (atom_operand w)))
    (prefix_step_seen S w (sides_of prefix))))

-- behind an operand

abbrev pub infix_held : Held → Word → Sides → Option StateSeen
infix_held h w s =
    cond (nat_le s.priority (bound_seen h.stack) && nat_le h.operand.priority s.left)
    (goes_seen (pushed h.stack (pending_operator (infix_on h.operand w s))) wants) None

abbrev pub postfix_held : Held → Word → Sides → Option StateSeen
postfix_held h w s =
    cond (nat_le s.priority (bound_seen h.stack) && nat_le h.operand.priority s.left)
    (goes_seen h.stack (has (postfixed_operand h.operand w s))) None

abbrev pub infix_step_seen : StackSeen → OperandSeen → Word → Option Sides → Option StateSeen
infix_step_seen S t w None = None
infix_step_seen S t w (Some s) = infix_held (reduced_seen s.priority S t) w s

abbrev pub postfix_step_seen : StackSeen → OperandSeen → Word → Option Sides → Option StateSeen
postfix_step_seen S t w None = None
postfix_step_seen S t w (Some s) = postfix_held (reduced_seen s.priority S t) w s

abbrev pub name_step_seen : StackSeen → OperandSeen → Word → Option Sides → Option Sides → Option StateSeen
name_step_seen S t w None postfix = postfix_step_seen S t w postfix
name_step_seen S t w (Some s) postfix = infix_held (reduced_seen s.priority S t) w s

abbrev pub comma_in : StackSeen → OperandSeen → Option StateSeen
comma_in (entry (pending_bracket (first_in g)) r b ∷ S) t = goes_seen (pushed S (pending_bracket (next_in g (parts_one t)))) wants
comma_in (entry (pending_bracket (next_in g xs)) r b ∷ S) t = goes_seen (pushed S (pending_bracket (next_in g (parts_more xs t)))) wants
comma_in _ t = None

abbrev pub bar_in : StackSeen → OperandSeen → Option StateSeen
bar_in (entry (pending_bracket (first_in (Square o))) r b ∷ S) t = goes_seen (pushed S (pending_bracket (tail_in o (parts_one t)))) wants
bar_in (entry (pending_bracket (next_in (Square o) xs)) r b ∷ S) t = goes_seen (pushed S (pending_bracket (tail_in o (parts_more xs t)))) wants
bar_in _ t = None

abbrev pub round_in : Word → StackSeen → OperandSeen → Option StateSeen
round_in w (entry (pending_bracket (first_in (Call f))) r b ∷ S) t = goes_seen S (has (group_operand (Call f) (parts_one t) w))
round_in w (entry (pending_bracket (next_in (Call f) xs)) r b ∷ S) t = goes_seen S (has (group_operand (Call f) (parts_more xs t) w))
round_in w (entry (pending_bracket (wrap_in o)) r b ∷ S) t = cond (is_curly o.kind) None (goes_seen S (has (wrapped_operand o t w)))
round_in w _ t = None

abbrev pub square_in : Word → StackSeen → OperandSeen → Option StateSeen
square_in w (entry (pending_bracket (first_in (Square o))) r b ∷ S) t = goes_seen S (has (group_operand (Square o) (parts_one t) w))
square_in w (entry (pending_bracket (next_in (Square o) xs)) r b ∷ S) t = goes_seen S (has (group_operand (Square o) (parts_more xs t) w))
square_in w (entry (pending_bracket (tail_in o xs)) r b ∷ S) t = goes_seen S (has (tailed_operand o xs t w))
square_in w _ t = None

abbrev pub curly_in : Word → StackSeen → OperandSeen → Option StateSeen
curly_in w (entry (pending_bracket (wrap_in o)) r b ∷ S) t = cond (is_curly o.kind) (goes_seen S (has (wrapped_operand o t w))) None
curly_in w _ t = None

abbrev pub end_in : StackSeen → OperandSeen → Option StateSeen
end_in [] t = goes_seen [] (finished t)
end_in _ t = None

abbrev pub with_held : Held → (StackSeen → OperandSeen → Option StateSeen) → Option StateSeen
with_held h go = go h.stack h.operand

-- the operators of a Comma and a Bar can't be changed

abbrev pub comma_sides : Sides
comma_sides = record { priority = 1000; left = 999; right = 1000 }

abbrev pub bar_sides : Sides
bar_sides = record { priority = 1100; left = 1099; right = 1100 }

-- a comma or bar separates where the innermost bracket has parts, and is an operator elsewhere
abbrev pub separator_seen : StackSeen → OperandSeen → Word → Option Sides → (StackSeen → OperandSeen → Option StateSeen) → Option StateSeen
separator_seen S t w infix_ go = cond (separates_seen S) (with_held (closed_seen S t) go) (infix_step_seen S t w infix_)

abbrev pub have_step_seen : Table → StackSeen → OperandSeen → Word → Kind → Option StateSeen
have_step_seen T S t w kind.Name = name_step_seen S t w (T.infix_ w) (T.postfix w)
have_step_seen T S t w kind.Quoted = name_step_seen S t w (T.infix_ w) (T.postfix w)
have_step_seen T S t w kind.Comma = separator_seen S t w (T.infix_ w) comma_in
have_step_seen T S t w kind.Bar = separator_seen S t w (T.infix_ w) bar_in
have_step_seen T S t w kind.CloseRound = with_held (closed_seen S t) (round_in w)
have_step_seen T S t w kind.CloseSquare = with_held (closed_seen S t) (square_in w)
have_step_seen T S t w kind.CloseCurly = with_held (closed_seen S t) (curly_in w)
have_step_seen T S t w kind.End = with_held (closed_seen S t) end_in
have_step_seen T S t w _ = None

-- one word, which is no name where an operand is wanted
abbrev pub act_seen : Table → StackSeen → ModeSeen → Word → Option StateSeen
act_seen T S wants w = want_other_seen S w w.kind
act_seen T S (minus_of d) w = goes_seen S (has (negative_operand d w))
act_seen T S (functor_of n) w = goes_seen (pushed S (pending_bracket (first_in (Call n)))) wants
act_seen T S (has t) w = have_step_seen T S t w w.kind
act_seen T S (finished t) w = None

pub data WaitingSeen : Type 0 where
  ready_seen : StackSeen → ModeSeen → WaitingSeen
  named_seen : StackSeen → Word → Option Sides → WaitingSeen
  -- the two words with their sides, and the least depth of the clause
  doubt_seen : StackSeen → Word → Sides → Word → Sides → ℕ → WaitingSeen

-- the clause and its End are read
abbrev pub is_finished : WaitingSeen → Bool
is_finished (ready_seen S (finished t)) = true
is_finished _ = false

abbrev pub settled_seen : Option StateSeen → Option WaitingSeen
settled_seen None = None
settled_seen (Some st) = Some (ready_seen st.stack st.mode)

abbrev pub wants_seen : ModeSeen → Bool
wants_seen wants = true
wants_seen _ = false

abbrev pub enter_seen : Table → StackSeen → ModeSeen → Word → Option WaitingSeen
enter_seen T S m w = cond (wants_seen m && is_name w.kind) (Some (named_seen S w (T.prefix w))) (settled_seen (act_seen T S m w))

abbrev pub then_enter_seen : Table → Option StateSeen → Word → Option WaitingSeen
then_enter_seen T None w = None
then_enter_seen T (Some st) w = enter_seen T st.stack st.mode w

abbrev pub measure : StackSeen → ℕ → ℕ → Measure
measure S priority depth =
    record { height = length S; bound = bound_seen S; reach = reach_seen S; priority = priority; depth = depth }

abbrev pub priority_of : OperatorSeen → ℕ
priority_of (prefix_on w s) = s.priority
priority_of (infix_on l w s) = s.priority

-- the measure once the operators whose right bound is below the priority are closed
abbrev pub reduced_measure : ℕ → StackSeen → ℕ → ℕ → Measure
reduced_measure p (entry (pending_operator o) r b ∷ S) priority depth =
    cond (nat_lt (right_of o) p) (reduced_measure p S (priority_of o) (plus (max (inner_depth (pending_operator o)) depth) 1))
    (measure (entry (pending_operator o) r b ∷ S) priority depth)
reduced_measure p S priority depth = measure S priority depth

abbrev pub infix_fits : Measure → Sides → Bool
infix_fits m s = nat_le s.priority m.bound && nat_le m.priority s.left

-- the least depth with an infix operator behind the operand
abbrev pub infix_floor : Measure → ℕ
infix_floor m = max m.reach (plus (plus (max m.depth 1) m.height) 1)

-- two words in doubt: an atom and its infix operator, or a prefix operator and a functor
abbrev pub doubt_step : StackSeen → Word → Sides → Word → Sides → Measure → Option WaitingSeen
doubt_step S p s n i m =
    cond (infix_fits m i)
    (Some (doubt_seen S p s n i (cond (nat_le s.priority (bound_seen S)) (min (infix_floor m) (floor_seen S 3)) (infix_floor m))))
    (cond (nat_le s.priority (bound_seen S)) (Some (doubt_seen S p s n i (floor_seen S 3))) None)

-- a prefix operator and a functor with its `(`
abbrev pub call_step : StackSeen → Word → Sides → Word → Option WaitingSeen
call_step S p s n =
    cond (nat_le s.priority (bound_seen S))
    (Some (ready_seen (pushed (pushed S (pending_operator (prefix_on p s))) (pending_bracket (first_in (Call n)))) wants)) None

abbrev pub feed_named_seen : Table → StackSeen → Word → Option Sides → Word → Option WaitingSeen
feed_named_seen T S n prefix w =
    cond (is_some prefix && is_infix_only T w)
    (doubt_step S n (sides_of prefix) w (sides_of (T.infix_ w)) (reduced_measure (sides_of (T.infix_ w)).priority S 0 1))
    (then_enter_seen T (want_name_seen S n prefix (opens (w ∷ [])) (number_next (w ∷ [])) (not (begins_term w.kind))) w)

abbrev pub feed_doubt_seen : Table → StackSeen → Word → Sides → Word → Sides → Word → Option WaitingSeen
feed_doubt_seen T S p s n i w =
    cond (opens (w ∷ [])) (call_step S p s n) (then_enter_seen T (infix_held (reduced_seen i.priority S (atom_operand p)) n i) w)

abbrev pub feed_seen : Table → WaitingSeen → Word → Option WaitingSeen
feed_seen T (ready_seen S m) w = enter_seen T S m w
feed_seen T (named_seen S n prefix) w = feed_named_seen T S n prefix w
feed_seen T (doubt_seen S p s n i floor) w = feed_doubt_seen T S p s n i w

-- directly behind `[` and `{` a closing bracket may follow
abbrev pub want_floor_seen : StackSeen → ℕ
want_floor_seen (entry (pending_bracket (first_in (Square o))) r b ∷ S) = r
want_floor_seen (entry (pending_bracket (wrap_in o)) r b ∷ S) = cond (is_curly o.kind) r (floor_seen (entry (pending_bracket (wrap_in o)) r b ∷ S) 1)
want_floor_seen S = floor_seen S 1

abbrev pub mode_floor_seen : StackSeen → ModeSeen → ℕ
mode_floor_seen S wants = want_floor_seen S
mode_floor_seen S (minus_of d) = floor_seen S 1
mode_floor_seen S (functor_of n) = floor_seen S 2
mode_floor_seen S (has t) = floor_seen S t.depth
mode_floor_seen S (finished t) = t.depth

-- the least depth of the clause
abbrev pub waiting_floor_seen : WaitingSeen → ℕ
waiting_floor_seen (ready_seen S m) = mode_floor_seen S m
waiting_floor_seen (named_seen S w prefix) = floor_seen S 1
waiting_floor_seen (doubt_seen S p s n i floor) = floor

-- how many parts stand in the open brackets

abbrev pub parts_held : StackSeen → ℕ
parts_held [] = 0
parts_held (entry (pending_bracket (next_in g xs)) r b ∷ S) = count xs.trees + parts_held S
parts_held (entry (pending_bracket (tail_in o xs)) r b ∷ S) = count xs.trees + parts_held S
parts_held (entry f r b ∷ S) = parts_held S

abbrev pub waiting_parts : WaitingSeen → ℕ
waiting_parts (ready_seen S m) = parts_held S
waiting_parts (named_seen S w prefix) = parts_held S
waiting_parts (doubt_seen S p s n i floor) = parts_held S
