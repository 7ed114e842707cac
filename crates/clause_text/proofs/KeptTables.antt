-- A table stays one whatever operator items do with it.
use Rattle.std.proofs.Common.{ℕ, ◌≡◌, List, [], ◌∷◌, Option, Some, None, Ok, Err, refl, subst}
use Rattle.prolog_ops.specs.declared.op.OpKind.{OpKind}
use Rattle.prolog_ops.specs.declared.table.OpFault.{OpFault}
use Rattle.prolog_ops.specs.Table.{Ops, with_set, set_fault, IsOps}
use Rattle.prolog_ops.proofs.Changes.{with_set_is}
use Rattle.prolog_terms.specs.Tree.{Tree}
use Rattle.clause_text.specs.Items.{Item, Name, Answer, then_on, each_on, set_or, name_on, with_names, with_kind, with_priority, item_on, items_on, priority_of, kind_of, names_of}

pub set_keeps : (table : Ops) → IsOps table → (name : List ℕ) (kind : OpKind) (priority : ℕ) → set_fault table name kind priority ≡ None → IsOps (with_set table name kind priority)
set_keeps table is name kind priority h = with_set_is table is name (record { priority = priority; kind = kind }) h

-- what keeps tables tables
abbrev pub Keeps : {A : Type 0} → (A → Ops → Answer) → Type 0
Keeps {A = A} on = (x : A) (table left : Ops) → IsOps table → on x table ≡ Ok left → IsOps left

ok_once : (table left : Ops) → ◌≡◌ {A = Answer} (Ok table) (Ok left) → table ≡ left
ok_once table left is = cc

each_keeps : {A : Type 0} (on : A → Ops → Answer) → Keeps on → Keeps (λ (xs : List A) table. each_on on xs table)
each_keeps on keeps [] table left is h = subst IsOps (ok_once table left h) is
each_keeps {A = A} on keeps (x ∷ xs) table left is h = behind (on x table) refl h (λ next ok more. each_keeps on keeps xs next left ok more)
  where
    behind : (first : Answer) → on x table ≡ first → then_on first (λ next. each_on on xs next) ≡ Ok left → ((next : Ops) → IsOps next → each_on on xs next ≡ Ok left → IsOps left)
        → IsOps left
    behind (Ok next) done more rest = rest next (keeps x table next is done) more
    behind (Err fault) done more rest = cc

name_keeps : (kind : OpKind) (priority : ℕ) → Keeps (name_on kind priority)
name_keeps kind priority name table left is h = set (set_fault table name.text kind priority) refl h
  where
    set : (fault : Option OpFault) → set_fault table name.text kind priority ≡ fault → set_or fault name.at (with_set table name.text kind priority) ≡ Ok left → IsOps left
    set None none done = subst IsOps (ok_once (with_set table name.text kind priority) left done) (set_keeps table is name.text kind priority none)
    set (Some fault) some done = cc

names_keep : (kind : OpKind) (priority : ℕ) (tree : Tree) (names : Option (List Name)) (table left : Ops) → IsOps table → with_names kind priority tree names table ≡ Ok left → IsOps left
names_keep kind priority tree None table left is h = cc
names_keep kind priority tree (Some names) table left is h = each_keeps (name_on kind priority) (name_keeps kind priority) names table left is h

kind_keeps : (kind : Option OpKind) (priority : ℕ) (item : Item) (table left : Ops) → IsOps table → with_kind kind priority item table ≡ Ok left → IsOps left
kind_keeps None priority item table left is h = cc
kind_keeps (Some kind) priority item table left is h = names_keep kind priority item.names (names_of item.names) table left is h

priority_keeps : (priority : Option ℕ) (item : Item) (table left : Ops) → IsOps table → with_priority priority item table ≡ Ok left → IsOps left
priority_keeps None item table left is h = cc
priority_keeps (Some priority) item table left is h = kind_keeps (kind_of item.kind) priority item table left is h

item_keeps : Keeps item_on
item_keeps item table left is h = priority_keeps (priority_of item.priority) item table left is h

pub items_keep : (items : List Item) (table left : Ops) → IsOps table → items_on items table ≡ Ok left → IsOps left
items_keep items table left is h = each_keeps item_on item_keeps items table left is h
