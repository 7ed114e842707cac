-- What some tables of operators are, and what they aren't.
use Rattle.std.proofs.Common.{◌≡◌, ℕ, Some, None, Option, refl, ap, codes, arith}
use Rattle.std.specs.Prelude.{is_some}
use Rattle.prolog_ops.specs.ByName.{no_op}
use Rattle.prolog_ops.specs.Table.{Ops, Prefix, Infix, Postfix, IsOps, Fits, opening, set_fault, with_set}
use Rattle.prolog_ops.specs.declared.op.Op.{Op}
use Rattle.prolog_ops.specs.declared.op.OpKind.TheVariants.{Xfx, Fy, Xf}
use Rattle.prolog_ops.specs.declared.table.OpFault.TheVariants.{BadPriority, FixedOp, InfixAndPostfix}

abbrev priority : Option Op → ℕ
priority (Some op) = op.priority
priority None = 0

-- the opening table

first_row : opening Infix (codes "-->") ≡ Some (record { priority = 1200; kind = Xfx })
first_row = refl

one_place : opening Prefix (codes "-->") ≡ None
one_place = refl

no_name : opening Infix (codes "foo") ≡ None
no_name = refl

-- what can't be set: the first reason of several

too_great : set_fault opening (codes ",") Xf 1201 ≡ Some BadPriority
too_great = refl

fixed : set_fault opening (codes ",") Xf 1200 ≡ Some FixedOp
fixed = refl

both_places : set_fault opening (codes "is") Xf 700 ≡ Some InfixAndPostfix
both_places = refl

removed_from_no_place : set_fault opening (codes "is") Xf 0 ≡ None
removed_from_no_place = refl

before_and_between : set_fault opening (codes "is") Fy 700 ≡ None
before_and_between = refl

-- a pair is replaced or removed, and the others stay

replaced : with_set opening (codes "is") Xfx 699 Infix (codes "is") ≡ Some (record { priority = 699; kind = Xfx })
replaced = refl

removed : with_set opening (codes "is") Xfx 0 Infix (codes "is") ≡ None
removed = refl

other_name : with_set opening (codes "is") Xfx 0 Infix (codes "=") ≡ Some (record { priority = 700; kind = Xfx })
other_name = refl

other_place : with_set opening (codes "-") Xfx 0 Prefix (codes "-") ≡ Some (record { priority = 200; kind = Fy })
other_place = refl

-- a table without the comma is none, nor one with a name that is infix and postfix, nor one with a kind at another place

abbrev empty : Ops
empty place = no_op

no_comma : IsOps empty → ⊥
no_comma ops = omega (arith, ap priority (ops.fixed Infix (codes ",") refl))

infix_and_postfix : (table : Ops) → IsOps table → (a b : Op) → table Infix (codes "x") ≡ Some a → table Postfix (codes "x") ≡ Some b → ⊥
infix_and_postfix table ops a b infix_ postfix = ops.apart (codes "x") (ap is_some infix_) (ap is_some postfix)

no_priority : Fits Infix (record { priority = 0; kind = Xfx }) → ⊥
no_priority fits = omega (arith, fits.some)
