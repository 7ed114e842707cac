-- The operator items of a clause, and the table of operators that they leave.
use Rattle.std.specs.Prelude.{ℕ, ◌||◌, List, [], ◌∷◌, Option, Some, None, Bool, true, false, is_some, Result, Ok, Err, nat_le, if◌then◌else◌, codes}
use Rattle.std.specs.Prelude.{flat_map, option_map, option_and_then}
use Rattle.std.specs.Option.{option_to_list}
use Rattle.std.specs.List.{filter_map, list_all}
use Rattle.std.specs.Str.{bytes_eq}
use Rattle.prolog_ops.specs.Table.{Ops, with_set, set_fault}
use Rattle.prolog_ops.specs.declared.op.OpKind.{OpKind}
use Rattle.prolog_ops.specs.declared.op.OpKind.TheVariants.{Xfx, Xfy, Yfx, Fy, Fx, Xf, Yf}
use Rattle.prolog_ops.specs.declared.table.OpFault.{OpFault}
use Rattle.prolog_ops.specs.declared.table.OpFault.TheVariants as of_ops
use Rattle.prolog_terms.specs.declared.term.ConstKind.{ConstKind}
use Rattle.prolog_terms.specs.declared.term.ConstKind.TheVariants.{Integer}
use Rattle.prolog_terms.specs.Tree.{Tree, constant, compound, more, none}
use Rattle.prolog_terms.specs.Views.{inside, start_of, sides_of, joined, atom_name}
use Rattle.clause_text.specs.declared.cause.Cause.TheVariants.{BadPriority, BadKind, BadName, FixedOp, InfixAndPostfix}
use Rattle.clause_text.specs.declared.fault.TextFault.{TextFault}
use Rattle.clause_text.specs.declared.fault.TextFault.TheVariants.{At, NoMemory}
use Rattle.clause_text.specs.Lists.{listed_items, written_items}

-- an operator item, `op(priority, kind, names)`
pub record Item : Type 0 where
  pub priority : Tree
  pub kind : Tree
  pub names : Tree

abbrev pub item_at : Tree → Option Item
item_at (compound name (more priority (more kind (more names none))) form span) =
    if bytes_eq name (codes "op") then Some (record { priority = priority; kind = kind; names = names }) else None
item_at _ = None

abbrev pub item_of : Tree → Option Item
item_of tree = item_at (inside tree)

-- the items of a list that a module exports
abbrev pub exported_items : Tree → List Item
exported_items exports = filter_map item_of (listed_items exports)

-- the items of a goal of a directive: those that `module(name, exports)` exports, or itself
abbrev pub items_by : Option (Tree × Tree) → Option Item → List Item
items_by (Some sides) item = exported_items sides.1
items_by None item = option_to_list item

abbrev pub goal_items : Tree → List Item
goal_items goal = items_by (sides_of (codes "module") goal) (item_of goal)

abbrev pub directive_items : Tree → List Item
directive_items directive = flat_map goal_items (joined directive)

-- what a clause `:- directive` or `?- directive` has behind its operator
abbrev pub directive_at : Tree → Option Tree
directive_at (compound name (more directive none) form span) =
    if bytes_eq name (codes ":-") || bytes_eq name (codes "?-") then Some directive else None
directive_at _ = None

abbrev pub directive_of : Tree → Option Tree
directive_of clause = directive_at (inside clause)

-- the operator items of a clause, in order; one that is no directive has none
abbrev pub items_under : Option Tree → List Item
items_under (Some directive) = directive_items directive
items_under None = []

abbrev pub items_of : Tree → List Item
items_of clause = items_under (directive_of clause)

abbrev pub has_some : List Item → Bool
has_some [] = false
has_some (item ∷ items) = true

-- a priority is an integer without a minus of at most 1200
abbrev pub priority_when : ConstKind → Bool → Option ℕ → Option ℕ
priority_when Integer false (Some value) = if nat_le value 1200 then Some value else None
priority_when _ _ _ = None

abbrev pub priority_at : Tree → Option ℕ
priority_at (constant kind minus value span) = priority_when kind minus value
priority_at _ = None

abbrev pub priority_of : Tree → Option ℕ
priority_of tree = priority_at (inside tree)

abbrev pub kind_named : List ℕ → Option OpKind
kind_named name =
    if bytes_eq name (codes "xfx") then Some Xfx
    else if bytes_eq name (codes "xfy") then Some Xfy
    else if bytes_eq name (codes "yfx") then Some Yfx
    else if bytes_eq name (codes "fy") then Some Fy
    else if bytes_eq name (codes "fx") then Some Fx
    else if bytes_eq name (codes "xf") then Some Xf
    else if bytes_eq name (codes "yf") then Some Yf
    else None

abbrev pub kind_of : Tree → Option OpKind
kind_of tree = option_and_then kind_named (atom_name tree)

-- a name that an item sets, and where it stands
pub record Name : Type 0 where
  pub text : List ℕ
  pub at : ℕ

abbrev pub name_of : Tree → Option Name
name_of tree = option_map (λ text. record { text = text; at = start_of tree }) (atom_name tree)

abbrev pub is_name : Tree → Bool
is_name tree = is_some (atom_name tree)

-- the names of an item: an atom, or a list without a tail of nothing but atoms
abbrev pub all_names : List Tree → Option (List Tree)
all_names trees = if list_all is_name trees then Some trees else None

abbrev pub listed_names : Tree → Option (List Tree)
listed_names tree = option_and_then all_names (written_items tree)

abbrev pub names_by : Option Name → Option (List Tree) → Option (List Name)
names_by (Some name) list = Some (name ∷ [])
names_by None list = option_map (λ trees. filter_map name_of trees) list

abbrev pub names_of : Tree → Option (List Name)
names_of tree = names_by (name_of tree) (listed_names tree)

-- the table that something leaves, or why it is refused
abbrev pub Answer : Type 0
Answer = Result Ops TextFault

abbrev pub then_on : Answer → (Ops → Answer) → Answer
then_on (Ok left) next = next left
then_on (Err fault) next = Err fault

-- one after another, up to the first refusal
abbrev pub each_on : {A : Type 0} → (A → Ops → Answer) → List A → Ops → Answer
each_on on [] table = Ok table
each_on on (x ∷ xs) table = then_on (on x table) (λ left. each_on on xs left)

-- why an operator can't be set at a name, as a fault of the text
abbrev pub fault_of_ops : OpFault → ℕ → TextFault
fault_of_ops of_ops.BadPriority at = At BadPriority at
fault_of_ops of_ops.FixedOp at = At FixedOp at
fault_of_ops of_ops.InfixAndPostfix at = At InfixAndPostfix at
fault_of_ops of_ops.NoMemory at = NoMemory

-- an operator is set at a name
abbrev pub set_or : Option OpFault → ℕ → Ops → Answer
set_or None at left = Ok left
set_or (Some fault) at left = Err (fault_of_ops fault at)

abbrev pub name_on : OpKind → ℕ → Name → Ops → Answer
name_on kind priority name table = set_or (set_fault table name.text kind priority) name.at (with_set table name.text kind priority)

-- what an item does with a table: its priority, its kind and its names are looked at in this order, and then each name is set
abbrev pub with_names : OpKind → ℕ → Tree → Option (List Name) → Ops → Answer
with_names kind priority tree None table = Err (At BadName (start_of tree))
with_names kind priority tree (Some names) table = each_on (name_on kind priority) names table

abbrev pub with_kind : Option OpKind → ℕ → Item → Ops → Answer
with_kind None priority item table = Err (At BadKind (start_of item.kind))
with_kind (Some kind) priority item table = with_names kind priority item.names (names_of item.names) table

abbrev pub with_priority : Option ℕ → Item → Ops → Answer
with_priority None item table = Err (At BadPriority (start_of item.priority))
with_priority (Some priority) item table = with_kind (kind_of item.kind) priority item table

abbrev pub item_on : Item → Ops → Answer
item_on item table = with_priority (priority_of item.priority) item table

abbrev pub items_on : List Item → Ops → Answer
items_on items table = each_on item_on items table
