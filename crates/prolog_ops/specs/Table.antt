-- The table of operators: a map from a place and a name to an operator.
use Rattle.std.specs.Prelude.{ℕ, ◌≡◌, ◌≤◌, ◌<◌, ◌==◌, List, [], ◌∷◌, Option, Some, None, Bool, true, false, is_some, not, ◌&&◌, ◌||◌, nat_lt, if◌then◌else◌}
use Rattle.std.specs.Prelude.{codes, fold}
use Rattle.std.specs.Str.{bytes_eq}
use Rattle.prolog_ops.specs.ByName.{Entries, ByName, op_at, no_op, with_op, with_each}
use Rattle.prolog_ops.specs.declared.op.Op.{Op}
use Rattle.prolog_ops.specs.declared.op.OpKind.{OpKind}
use Rattle.prolog_ops.specs.declared.op.OpKind.TheVariants.{Xfx, Xfy, Yfx, Fy, Fx, Xf, Yf}
use Rattle.prolog_ops.specs.declared.table.OpFault.{OpFault}
use Rattle.prolog_ops.specs.declared.table.OpFault.TheVariants.{BadPriority, FixedOp, InfixAndPostfix}

-- where an operator stands: before its operand, between two, or after it
pub data Place : Type 0 where
  Prefix Infix Postfix : Place

abbrev pub place_of : OpKind → Place
place_of Xfx = Infix
place_of Xfy = Infix
place_of Yfx = Infix
place_of Fy = Prefix
place_of Fx = Prefix
place_of Xf = Postfix
place_of Yf = Postfix

-- a table: at each place, the operator of each name, where it is one there
abbrev pub Ops : Type 0
Ops = Place → ByName

-- the table, with this at the pair
abbrev pub with_pair : Ops → Place → List ℕ → Option Op → Ops
with_pair table Prefix name op Prefix = with_op (table Prefix) name op
with_pair table Infix name op Infix = with_op (table Infix) name op
with_pair table Postfix name op Postfix = with_op (table Postfix) name op
with_pair table place name op other = table other

-- the table once an operator is set: the pair of its kind's place is replaced, or removed where the priority is 0
abbrev pub with_set : Ops → List ℕ → OpKind → ℕ → Ops
with_set table name kind priority =
    with_pair table (place_of kind) name (if priority == 0 then None else Some (record { priority = priority; kind = kind }))

-- the names whose operators can't be changed
abbrev pub is_fixed : List ℕ → Bool
is_fixed name = bytes_eq name (codes ",") || bytes_eq name (codes "|") || bytes_eq name (codes "[]") || bytes_eq name (codes "{}")

-- the name is an operator at the other of infix and postfix
abbrev pub has_rival : Ops → Place → List ℕ → Bool
has_rival table Prefix name = false
has_rival table Infix name = is_some (table Postfix name)
has_rival table Postfix name = is_some (table Infix name)

-- why an operator can't be set
abbrev pub set_fault : Ops → List ℕ → OpKind → ℕ → Option OpFault
set_fault table name kind priority =
    if nat_lt 1200 priority then Some BadPriority
    else if is_fixed name then Some FixedOp
    else if not (priority == 0) && has_rival table (place_of kind) name then Some InfixAndPostfix
    else None

-- the names that have one operator
pub record Row : Type 0 where
  pub op : Op
  pub names : List (List ℕ)

abbrev pub row : ℕ → OpKind → List (List ℕ) → Row
row priority kind names = record { op = record { priority = priority; kind = kind }; names = names }

abbrev pub with_rows : ByName → List Row → ByName
with_rows ops rows = fold (λ before r. with_each before r.names r.op) ops rows

abbrev pub opening_rows : Place → List Row
opening_rows Prefix =
    row 1200 Fx (codes ":-" ∷ codes "?-" ∷ [])
    ∷ row 1150 Fx (codes "dynamic" ∷ codes "discontiguous" ∷ codes "multifile" ∷ codes "meta_predicate" ∷ codes "mode" ∷ codes "public"
    ∷ codes "initialization" ∷ codes "table" ∷ [])
    ∷ row 900 Fy (codes "\\+" ∷ [])
    ∷ row 200 Fy (codes "-" ∷ codes "+" ∷ codes "\\" ∷ [])
    ∷ []
opening_rows Infix =
    row 1200 Xfx (codes ":-" ∷ codes "-->" ∷ [])
    ∷ row 1100 Xfy (codes ";" ∷ codes "|" ∷ [])
    ∷ row 1050 Xfy (codes "->" ∷ [])
    ∷ row 1000 Xfy (codes "," ∷ [])
    ∷ row 700 Xfx (codes "=" ∷ codes "\\=" ∷ codes "==" ∷ codes "\\==" ∷ codes "@<" ∷ codes "@=<" ∷ codes "@>" ∷ codes "@>="
    ∷ codes "=.." ∷ codes "is" ∷ codes "=:=" ∷ codes "=\\=" ∷ codes "<" ∷ codes "=<" ∷ codes ">" ∷ codes ">=" ∷ [])
    ∷ row 500 Yfx (codes "+" ∷ codes "-" ∷ codes "/\\" ∷ codes "\\/" ∷ [])
    ∷ row 400 Yfx (codes "*" ∷ codes "/" ∷ codes "//" ∷ codes "rem" ∷ codes "mod" ∷ codes "div" ∷ codes "<<" ∷ codes ">>" ∷ [])
    ∷ row 200 Xfx (codes "**" ∷ [])
    ∷ row 200 Xfy (codes "^" ∷ codes ":" ∷ [])
    ∷ []
opening_rows Postfix = []

-- the table that each text begins with
abbrev pub opening : Ops
opening place = with_rows no_op (opening_rows place)

-- an operator that can stand at a place
pub record Fits (place : Place) (op : Op) : Type 0 where
  pub there : place_of op.kind ≡ place
  pub some : 0 < op.priority
  pub most : op.priority ≤ 1200

-- what is true of each table
pub record IsOps (table : Ops) : Type 0 where
  -- the names that can't be changed have what they have in the opening table
  pub fixed : (place : Place) (name : List ℕ) → is_fixed name ≡ true → table place name ≡ opening place name
  -- no name is both infix and postfix
  pub apart : (name : List ℕ) → is_some (table Infix name) ≡ true → is_some (table Postfix name) ≡ true → ⊥
  pub fits : (place : Place) (name : List ℕ) (op : Op) → table place name ≡ Some op → Fits place op

-- the names of each place with their operators
pub record Lists : Type 0 where
  pub prefixes : Entries
  pub infixes : Entries
  pub postfixes : Entries

-- the table that they are
abbrev pub ops_of : Lists → Ops
ops_of lists Prefix = op_at lists.prefixes
ops_of lists Infix = op_at lists.infixes
ops_of lists Postfix = op_at lists.postfixes

-- what is true of a kept table: it is one, and where nothing was changed in it the opening one
pub record IsKept (lists : Lists) (was_changed : Bool) : Type 0 where
  pub is : IsOps (ops_of lists)
  pub begun : was_changed ≡ false → ops_of lists ≡ opening
