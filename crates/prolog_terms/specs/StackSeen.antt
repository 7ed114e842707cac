-- What the reader keeps, seen: the terms that entries hold are those of the nodes, in their order.
use Rattle.std.specs.Prelude.{ℕ, List, [], ◌∷◌, Bool, Option, Some, None, cond, reverse}
use Rattle.prolog_names.specs.Names.{name_at}
use Rattle.prolog_terms.specs.declared.word.Word.{Word as WordKept}
use Rattle.prolog_terms.specs.declared.operand.Operand.{Operand}
use Rattle.prolog_terms.specs.declared.pending.Operator.{Operator}
use Rattle.prolog_terms.specs.declared.pending.Operator.TheVariants as operator
use Rattle.prolog_terms.specs.declared.pending.Opened.{Opened}
use Rattle.prolog_terms.specs.declared.pending.Opened.TheVariants as opened
use Rattle.prolog_terms.specs.declared.pending.Bracket.{Bracket}
use Rattle.prolog_terms.specs.declared.pending.Bracket.TheVariants as bracket
use Rattle.prolog_terms.specs.declared.pending.Pending.{Pending}
use Rattle.prolog_terms.specs.declared.pending.Pending.TheVariants as pending
use Rattle.prolog_terms.specs.declared.stack.Entry.{Entry}
use Rattle.prolog_terms.specs.declared.stack.Stack.{Stack}
use Rattle.prolog_terms.specs.declared.state.Mode.{Mode}
use Rattle.prolog_terms.specs.declared.state.Mode.TheVariants as mode
use Rattle.prolog_terms.specs.declared.state.State.{State}
use Rattle.prolog_terms.specs.declared.waiting.Waiting.{Waiting}
use Rattle.prolog_terms.specs.declared.waiting.Waiting.TheVariants as waiting
use Rattle.prolog_terms.specs.declared.waiting.Waited.{Waited}
use Rattle.prolog_terms.specs.declared.waiting.Reader.{Reader}
use Rattle.prolog_terms.specs.Words.{Word}
use Rattle.prolog_terms.specs.Tree.{Tree, none}
use Rattle.prolog_terms.specs.Forest.{last_of, before_last, parts_of, without, forest}
use Rattle.prolog_terms.specs.ReaderSeen.{OperandSeen, operand, parts, OpenedSeen, Call, Square, OperatorSeen, prefix_on, infix_on, BracketSeen}
use Rattle.prolog_terms.specs.ReaderSeen.{first_in, next_in, tail_in, wrap_in, PendingSeen, pending_operator, pending_bracket, entry, StackSeen}
use Rattle.prolog_terms.specs.ReaderSeen.{wants, has, finished, StateSeen, Held, held, WaitingSeen, ready_seen, named_seen}
use Rattle.prolog_terms.specs.ReaderSeen.{doubt_seen}

abbrev pub Names : Type 0
Names = List (List ℕ)

abbrev pub see_word : Names → WordKept → Word
see_word names w = record { kind = w.kind; after_layout = w.after_layout; span = w.span; value = w.value; text = name_at names w.name }

abbrev pub see_opened : Names → Opened → OpenedSeen
see_opened names (opened.Call word) = Call (see_word names word)
see_opened names (opened.Square word) = Square (see_word names word)

abbrev pub see_operand : Tree → Operand → OperandSeen
see_operand tree o = operand tree o.priority o.depth o.span

-- an operand and the trees before its tree
pub record Made : Type 0 where
  pub before : List Tree
  pub operand : OperandSeen

abbrev pub made : List Tree → OperandSeen → Made
made before operand = record { before = before; operand = operand }

-- the last of the trees as an operand
abbrev pub see_made : List Tree → Operand → Made
see_made trees o = made (before_last trees) (see_operand (last_of trees) o)

-- an operator or bracket, whose terms are the last of these

abbrev pub see_operator : Names → Operator → List Tree → OperatorSeen
see_operator names (operator.Prefix word sides) trees = prefix_on (see_word names word) sides
see_operator names (operator.Infix left word sides) trees = infix_on (see_operand (last_of trees) left) (see_word names word) sides

abbrev pub see_bracket : Names → Bracket → List Tree → BracketSeen
see_bracket names (bracket.First o) trees = first_in (see_opened names o)
see_bracket names (bracket.Next o count depth) trees = next_in (see_opened names o) (parts (parts_of count trees none) depth)
see_bracket names (bracket.Tail square count depth) trees = tail_in (see_word names square) (parts (parts_of count trees none) depth)
see_bracket names (bracket.Wrap word) trees = wrap_in (see_word names word)

abbrev pub see_pending : Names → Pending → List Tree → PendingSeen
see_pending names (pending.Operator o) trees = pending_operator (see_operator names o trees)
see_pending names (pending.Bracket k) trees = pending_bracket (see_bracket names k trees)

-- how many terms it holds

abbrev pub operator_holds : Operator → ℕ
operator_holds (operator.Prefix word sides) = 0
operator_holds (operator.Infix left word sides) = 1

abbrev pub bracket_holds : Bracket → ℕ
bracket_holds (bracket.First o) = 0
bracket_holds (bracket.Next o count depth) = count
bracket_holds (bracket.Tail square count depth) = count
bracket_holds (bracket.Wrap word) = 0

abbrev pub holds : Pending → ℕ
holds (pending.Operator o) = operator_holds o
holds (pending.Bracket k) = bracket_holds k

-- the innermost first: each takes its terms from the trees, the last first, and leaves the rest to those below
abbrev pub see_entries : Names → List Entry → List Tree → StackSeen
see_entries names [] trees = []
see_entries names (e ∷ es) trees = entry (see_pending names e.pending trees) e.reach e.separates ∷ see_entries names es (without (holds e.pending) trees)

abbrev pub innermost : Stack → List Entry
innermost stack = reverse stack.entries.items

-- an operand, the last of the trees, on the entries
abbrev pub held_in : Names → List Entry → List Tree → Operand → Held
held_in names es trees o = held (see_entries names es (before_last trees)) (see_operand (last_of trees) o)

abbrev pub trees_in : Names → State → List Tree
trees_in names state = forest names state.nodes

-- the stack, where no operand stands on it
abbrev pub see_stack : Names → State → StackSeen
see_stack names state = see_entries names (innermost state.stack) (trees_in names state)

-- the stack and the operand on it
abbrev pub see_held : Names → State → Operand → Held
see_held names state o = held_in names (innermost state.stack) (trees_in names state) o

abbrev pub in_mode : Names → List Entry → List Tree → Mode → Operand → StateSeen
in_mode names es trees mode.Want o = record { stack = see_entries names es trees; mode = wants }
in_mode names es trees mode.Have o = record { stack = see_entries names es (before_last trees); mode = has (see_operand (last_of trees) o) }
in_mode names es trees mode.Done o = record { stack = see_entries names es (before_last trees); mode = finished (see_operand (last_of trees) o) }

abbrev pub see_state : Names → State → StateSeen
see_state names state = in_mode names (innermost state.stack) (trees_in names state) state.mode state.operand

-- a step that may be refused, with the state behind it
abbrev pub see_step : Names → State → Bool → Option StateSeen
see_step names state goes = cond goes (Some (see_state names state)) None

abbrev pub in_wait : Names → List Entry → List Tree → Mode → Operand → Waiting → Waited → WaitingSeen
in_wait names es trees m o waiting.Nothing w = ready_seen (in_mode names es trees m o).stack (in_mode names es trees m o).mode
in_wait names es trees m o waiting.Name w = named_seen (see_entries names es trees) (see_word names w.name) None
in_wait names es trees m o waiting.Operator w = named_seen (see_entries names es trees) (see_word names w.name) (Some w.prefix)
in_wait names es trees m o waiting.Doubt w =
    doubt_seen (see_entries names es trees) (see_word names w.name) w.prefix (see_word names w.second) w.between w.floor

abbrev pub see_reader : Names → Reader → WaitingSeen
see_reader names reader =
    in_wait names (innermost reader.state.stack) (trees_in names reader.state) reader.state.mode reader.state.operand reader.waiting reader.waited

abbrev pub see_fed : Names → Reader → Bool → Option WaitingSeen
see_fed names reader goes = cond goes (Some (see_reader names reader)) None
