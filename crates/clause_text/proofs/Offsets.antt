-- A fault of the clauses of a text stands at an offset of it.
use Rattle.std.proofs.Common.{◌≡◌, ℕ, List, [], ◌∷◌, ◌++◌, Option, Some, None, Ok, Err, true, false, option_to_list, option_map, option_and_then, refl, sym, subst, inl, inr, arith, codes, ◌||◌, if◌then◌else◌}
use Rattle.std.specs.Option.{IfSome}
use Rattle.std.specs.Prelude.{All}
use Rattle.std.proofs.lemmas.List.Elements.{All-cons}
use Rattle.std.specs.List.{filter_map, flat_map, list_all}
use Rattle.std.specs.Str.{IsUtf8, bytes_eq}
use Rattle.prolog_tokens.specs.declared.token.Token.{Token}
use Rattle.prolog_tokens.specs.Places.{IsOffset}
use Rattle.prolog_ops.specs.Table.{Ops, set_fault, with_set}
use Rattle.prolog_ops.specs.declared.op.OpKind.{OpKind}
use Rattle.prolog_ops.specs.declared.table.OpFault.{OpFault}
use Rattle.prolog_ops.specs.declared.table.OpFault.TheVariants as of_ops
use Rattle.prolog_terms.specs.declared.read_fault.ReadFault.{ReadFault}
use Rattle.prolog_terms.specs.declared.read_fault.ReadFault.TheVariants as of_clauses
use Rattle.prolog_terms.specs.Tree.{Tree, Trees, compound, listed, tailed as with_tail, paren, none, more as with_more}
use Rattle.prolog_terms.specs.Views.{inside, start_of, trees_in, sides_at, joined, atom_name}
use Rattle.prolog_terms.specs.Words.{table_of}
use Rattle.prolog_terms.proofs.TokenWords.{AreSpelled, spelled_front, spelled_behind, cut_spelled}
use Rattle.prolog_terms.proofs.FaultOffsets.{TellsOffset, read_offset}
use Rattle.clause_text.specs.declared.fault.TextFault.{TextFault}
use Rattle.clause_text.specs.Lists.{listed_at, written_at, written_items}
use Rattle.clause_text.specs.Offsets.{HasOffsets, HaveOffsets}
use Rattle.clause_text.specs.Items.{Item, Name, Answer, then_on, each_on, set_or, name_on, with_names, with_kind, with_priority, item_on, items_on, item_at, item_of, items_by, exported_items, goal_items, directive_items, directive_at, items_under, items_of, priority_of, kind_of, name_of, is_name, all_names, listed_names, names_by, names_of, fault_of_ops}
use Rattle.clause_text.specs.Clauses.{AreClauses, ReadsAs, IsPartFault, FaultStandsBehind, fault_of_clauses, opening_ops}
use Rattle.clause_text.specs.TextFault.{ClausesHave, offset_of}
use Rattle.clause_text.proofs.TermOffsets.{inside_stands, start_stands, clause_stands}

-- the offset that a fault tells is one of the text
abbrev pub IsPlaced : List ℕ → TextFault → Type 0
IsPlaced text fault = IfSome (offset_of fault) (λ at. IsOffset text at)

-- of each in a list
abbrev Each : {A : Type 0} → (A → Type 0) → List A → Type 0
Each P [] = Unit {0}
Each P (x ∷ xs) = P x × Each P xs

each_join : {A : Type 0} (P : A → Type 0) (xs ys : List A) → Each P xs → Each P ys → Each P (xs ++ ys)
each_join P [] ys all also = also
each_join P (x ∷ xs) ys all also = (all.0, each_join P xs ys all.1 also)

each_in : (text : List ℕ) (trees : Trees) → HaveOffsets text trees → Each (HasOffsets text) (trees_in trees)
each_in text none all = tt
each_in text (with_more tree trees) all = (all.0, each_in text trees all.1)

-- where a term is one, it stands
abbrev Where : {A : Type 0} → (A → Type 0) → Option A → Type 0
Where P None = Unit {0}
Where P (Some x) = P x

where_listed : {A : Type 0} (P : A → Type 0) (o : Option A) → Where P o → Each P (option_to_list o)
where_listed P None is = tt
where_listed P (Some x) is = (is, tt)

each_kept : {A B : Type 0} (P : A → Type 0) (Q : B → Type 0) (f : A → Option B) → ((x : A) → P x → Where Q (f x)) → (xs : List A) → Each P xs → Each Q (filter_map f xs)
each_kept P Q f gives [] all = tt
each_kept {A = A} {B = B} P Q f gives (x ∷ xs) all = kept (f x) refl (gives x all.0) (each_kept P Q f gives xs all.1)
  where
    kept : (o : Option B) → f x ≡ o → Where Q o → Each Q (filter_map f xs) → Each Q (filter_map f (x ∷ xs))
    kept None says is rest = rw says rest
    kept (Some y) says is rest = rw says (is, rest)

each_flat : {A B : Type 0} (P : A → Type 0) (Q : B → Type 0) (f : A → List B) → ((x : A) → P x → Each Q (f x)) → (xs : List A) → Each P xs → Each Q (flat_map f xs)
each_flat P Q f gives [] all = tt
each_flat P Q f gives (x ∷ xs) all = each_join Q (f x) (flat_map f xs) (gives x all.0) (each_flat P Q f gives xs all.1)

goals_stand : (text : List ℕ) (tree : Tree) → HasOffsets text tree → Each (HasOffsets text) (joined tree)
goals_stand text (compound name (with_more left (with_more right none)) form span) stands =
    elim (bytes_eq name (codes ",")) as (λ b. Each (HasOffsets text) (if b then joined left ++ joined right else compound name (with_more left (with_more right none)) form span ∷ [])) [
      | true ↦ each_join (HasOffsets text) (joined left) (joined right) (goals_stand text left stands.1.0) (goals_stand text right stands.1.1.0)
      | false ↦ (stands, tt)
    ]
goals_stand text (paren inner span) stands = goals_stand text inner stands.1
goals_stand text tree stands = (stands, tt)

-- and the parts of an operator item do
record ItemStands (text : List ℕ) (item : Item) : Type 0 where
  priority : HasOffsets text item.priority
  kind : HasOffsets text item.kind
  names : HasOffsets text item.names

item_at_stands : (text : List ℕ) (tree : Tree) → HasOffsets text tree → Where (ItemStands text) (item_at tree)
item_at_stands text (compound name (with_more priority (with_more kind (with_more names none))) form span) stands =
    elim (bytes_eq name (codes "op")) as (λ b. Where (ItemStands text) (if b then Some (record { priority = priority; kind = kind; names = names }) else None)) [
      | true ↦ record { priority = stands.1.0; kind = stands.1.1.0; names = stands.1.1.1.0 }
      | false ↦ tt
    ]
item_at_stands text tree stands = tt

item_stands : (text : List ℕ) (tree : Tree) → HasOffsets text tree → Where (ItemStands text) (item_of tree)
item_stands text tree stands = item_at_stands text (inside tree) (inside_stands text tree stands)

listed_stand : (text : List ℕ) (tree : Tree) → HasOffsets text tree → Each (HasOffsets text) (listed_at tree)
listed_stand text (listed items span) stands = each_in text items stands.1
listed_stand text (with_tail items tail span) stands = each_in text items stands.1
listed_stand text tree stands = tt

exported_stand : (text : List ℕ) (tree : Tree) → HasOffsets text tree → Each (ItemStands text) (exported_items tree)
exported_stand text tree stands =
    each_kept (HasOffsets text) (ItemStands text) item_of (item_stands text) (listed_at (inside tree)) (listed_stand text (inside tree) (inside_stands text tree stands))

sides_stand : (text operator : List ℕ) (tree : Tree) → HasOffsets text tree → Where (λ (sides : Tree × Tree). HasOffsets text sides.1) (sides_at operator tree)
sides_stand text operator (compound name (with_more left (with_more right none)) form span) stands =
    elim (bytes_eq name operator) as (λ b. Where (λ (sides : Tree × Tree). HasOffsets text sides.1) (if b then Some (left, right) else None)) [
      | true ↦ stands.1.1.0
      | false ↦ tt
    ]
sides_stand text operator tree stands = tt

by_stand : (text : List ℕ) (sides : Option (Tree × Tree)) (item : Option Item) → Where (λ (pair : Tree × Tree). HasOffsets text pair.1) sides → Where (ItemStands text) item
    → Each (ItemStands text) (items_by sides item)
by_stand text (Some sides) item stands also = exported_stand text sides.1 stands
by_stand text None item stands also = where_listed (ItemStands text) item also

goal_stands : (text : List ℕ) (goal : Tree) → HasOffsets text goal → Each (ItemStands text) (goal_items goal)
goal_stands text goal stands =
    by_stand text (sides_at (codes "module") (inside goal)) (item_of goal) (sides_stand text (codes "module") (inside goal) (inside_stands text goal stands)) (item_stands text goal stands)

directive_stands : (text : List ℕ) (directive : Tree) → HasOffsets text directive → Each (ItemStands text) (directive_items directive)
directive_stands text directive stands =
    each_flat (HasOffsets text) (ItemStands text) goal_items (goal_stands text) (joined directive) (goals_stand text directive stands)

at_stands : (text : List ℕ) (clause : Tree) → HasOffsets text clause → Where (HasOffsets text) (directive_at clause)
at_stands text (compound name (with_more directive none) form span) stands =
    elim (bytes_eq name (codes ":-") || bytes_eq name (codes "?-")) as (λ b. Where (HasOffsets text) (if b then Some directive else None)) [ true ↦ stands.1.0 | false ↦ tt ]
at_stands text clause stands = tt

under_stand : (text : List ℕ) (directive : Option Tree) → Where (HasOffsets text) directive → Each (ItemStands text) (items_under directive)
under_stand text None stands = tt
under_stand text (Some directive) stands = directive_stands text directive stands

items_stand : (text : List ℕ) (clause : Tree) → HasOffsets text clause → Each (ItemStands text) (items_of clause)
items_stand text clause stands = under_stand text (directive_at (inside clause)) (at_stands text (inside clause) (inside_stands text clause stands))

-- names stand at offsets

name_stands : (text : List ℕ) (tree : Tree) → HasOffsets text tree → Where (λ (name : Name). IsOffset text name.at) (name_of tree)
name_stands text tree stands = of_atom (atom_name tree)
  where
    of_atom : (found : Option (List ℕ)) → Where (λ (name : Name). IsOffset text name.at) (option_map (λ (name : List ℕ). record { text = name; at = start_of tree }) found)
    of_atom (Some name) = start_stands text tree stands
    of_atom None = tt

written_at_stand : (text : List ℕ) (tree : Tree) → HasOffsets text tree → Where (Each (HasOffsets text)) (written_at tree)
written_at_stand text (listed items span) stands = each_in text items stands.1
written_at_stand text tree stands = tt

all_names_stand : (text : List ℕ) (list : Option (List Tree)) → Where (Each (HasOffsets text)) list → Where (Each (HasOffsets text)) (option_and_then all_names list)
all_names_stand text (Some trees) stand =
    elim (list_all is_name trees) as (λ b. Where (Each (HasOffsets text)) (if b then Some trees else None)) [ true ↦ stand | false ↦ tt ]
all_names_stand text None stand = tt

listed_names_stand : (text : List ℕ) (tree : Tree) → HasOffsets text tree → Where (Each (HasOffsets text)) (listed_names tree)
listed_names_stand text tree stands = all_names_stand text (written_items tree) (written_at_stand text (inside tree) (inside_stands text tree stands))

names_by_stand : (text : List ℕ) (name : Option Name) (list : Option (List Tree)) → Where (λ (n : Name). IsOffset text n.at) name → Where (Each (HasOffsets text)) list
    → Where (Each (λ (n : Name). IsOffset text n.at)) (names_by name list)
names_by_stand text (Some name) list stands also = (stands, tt)
names_by_stand text None None stands also = tt
names_by_stand text None (Some trees) stands also = each_kept (HasOffsets text) (λ (n : Name). IsOffset text n.at) name_of (name_stands text) trees also

names_stand : (text : List ℕ) (tree : Tree) → HasOffsets text tree → Where (Each (λ (n : Name). IsOffset text n.at)) (names_of tree)
names_stand text tree stands =
    names_by_stand text (name_of tree) (listed_names tree) (name_stands text tree stands) (listed_names_stand text tree stands)

-- what is refused, is refused at an offset

abbrev Places : {A : Type 0} → List ℕ → (A → Type 0) → (A → Ops → Answer) → Type 0
Places {A = A} text P on = (x : A) (table : Ops) (fault : TextFault) → P x → on x table ≡ Err fault → IsPlaced text fault

err_once : (text : List ℕ) (known fault : TextFault) → ◌≡◌ {A = Answer} (Err known) (Err fault) → IsPlaced text known → IsPlaced text fault
err_once text known fault is placed = let same : known ≡ fault = (let both : ◌≡◌ {A = Answer} (Err known) (Err fault) = is in cc) in subst (IsPlaced text) same placed

each_placed : {A : Type 0} (text : List ℕ) (P : A → Type 0) (on : A → Ops → Answer) → Places text P on → (xs : List A) (table : Ops) (fault : TextFault) → Each P xs
    → each_on on xs table ≡ Err fault → IsPlaced text fault
each_placed text P on places [] table fault all is = absurd (cc)
each_placed {A = A} text P on places (x ∷ xs) table fault all is = next (on x table) refl is (λ left more. each_placed text P on places xs left fault all.1 more)
  where
    next : (first : Answer) → on x table ≡ first → then_on first (λ left. each_on on xs left) ≡ Err fault
        → ((left : Ops) → each_on on xs left ≡ Err fault → IsPlaced text fault) → IsPlaced text fault
    next (Ok left) done is rest = rest left is
    next (Err known) done is rest = err_once text known fault is (places x table known all.0 done)

ops_placed : (text : List ℕ) (fault : OpFault) (at : ℕ) → IsOffset text at → IsPlaced text (fault_of_ops fault at)
ops_placed text of_ops.BadPriority at stands = stands
ops_placed text of_ops.FixedOp at stands = stands
ops_placed text of_ops.InfixAndPostfix at stands = stands
ops_placed text of_ops.NoMemory at stands = tt

name_placed : (text : List ℕ) (kind : OpKind) (priority : ℕ) → Places text (λ (name : Name). IsOffset text name.at) (name_on kind priority)
name_placed text kind priority name table fault stands is = set (set_fault table name.text kind priority) is
  where
    set : (o : Option OpFault) → set_or o name.at (with_set table name.text kind priority) ≡ Err fault → IsPlaced text fault
    set None done = absurd (cc)
    set (Some known) done = err_once text (fault_of_ops known name.at) fault done (ops_placed text known name.at stands)

names_placed : (text : List ℕ) (kind : OpKind) (priority : ℕ) (tree : Tree) (names : Option (List Name)) (table : Ops) (fault : TextFault) → HasOffsets text tree
    → Where (Each (λ (n : Name). IsOffset text n.at)) names → with_names kind priority tree names table ≡ Err fault → IsPlaced text fault
names_placed text kind priority tree None table fault stands all is = err_once text _ fault is (start_stands text tree stands)
names_placed text kind priority tree (Some names) table fault stands all is =
    each_placed text (λ (n : Name). IsOffset text n.at) (name_on kind priority) (name_placed text kind priority) names table fault all is

kind_placed : (text : List ℕ) (kind : Option OpKind) (priority : ℕ) (item : Item) (table : Ops) (fault : TextFault) → ItemStands text item
    → with_kind kind priority item table ≡ Err fault → IsPlaced text fault
kind_placed text None priority item table fault stands is = err_once text _ fault is (start_stands text item.kind stands.kind)
kind_placed text (Some kind) priority item table fault stands is =
    names_placed text kind priority item.names (names_of item.names) table fault stands.names (names_stand text item.names stands.names) is

priority_placed : (text : List ℕ) (priority : Option ℕ) (item : Item) (table : Ops) (fault : TextFault) → ItemStands text item
    → with_priority priority item table ≡ Err fault → IsPlaced text fault
priority_placed text None item table fault stands is = err_once text _ fault is (start_stands text item.priority stands.priority)
priority_placed text (Some priority) item table fault stands is = kind_placed text (kind_of item.kind) priority item table fault stands is

item_placed : (text : List ℕ) → Places text (ItemStands text) item_on
item_placed text item table fault stands is = priority_placed text (priority_of item.priority) item table fault stands is

items_placed : (text : List ℕ) (items : List Item) (table : Ops) (fault : TextFault) → Each (ItemStands text) items → items_on items table ≡ Err fault → IsPlaced text fault
items_placed text items table fault stands is = each_placed text (ItemStands text) item_on (item_placed text) items table fault stands is

-- a fault of a part stands at an offset, and so does one behind clauses

read_placed : (text : List ℕ) (of : ReadFault) → TellsOffset text of → IsPlaced text (fault_of_clauses of)
read_placed text (of_clauses.Stuck at) tells = tells
read_placed text (of_clauses.TooDeep at) tells = tells
read_placed text (of_clauses.NoEnd at) tells = tells
read_placed text of_clauses.NoMemory tells = tt

part_placed : (table : Ops) (text : List ℕ) (part : List Token) (fault : TextFault) → IsUtf8 text → AreSpelled text part → IsPartFault table text part fault → IsPlaced text fault
part_placed table text part fault utf8 spelled (inl unread) =
    subst (IsPlaced text) (sym unread.1) (read_placed text unread.0 (read_offset (table_of table) text part unread.0 utf8 spelled unread.2))
part_placed table text part fault utf8 spelled (inr unset) =
    items_placed text (items_of unset.0) table fault (items_stand text unset.0 (clause_stands table text part unset.0 utf8 spelled unset.1)) unset.2

behind_placed : (table : Ops) (text : List ℕ) (ts : List Token) (before : List Tree) (fault : TextFault) → IsUtf8 text → AreSpelled text ts → FaultStandsBehind table text ts before fault
    → IsPlaced text fault
behind_placed table text ts [] fault utf8 spelled (part, rest, is, first, wrong) =
    part_placed table text part fault utf8 (spelled_front text part rest (subst (AreSpelled text) is spelled)) wrong
behind_placed table text ts (tree ∷ before) fault utf8 spelled (part, rest, left, is, leaves, stands) =
    behind_placed left text rest before fault utf8 (spelled_behind text part rest (subst (AreSpelled text) is spelled)) stands

pub clauses_placed : (text : List ℕ) (fault : TextFault) → ClausesHave text fault → IsPlaced text fault
clauses_placed text fault have = behind_placed opening_ops text have.tokens have.has.before fault have.utf8 (cut_spelled text have.tokens have.cut) have.has.stands

-- each term of the clauses of a text starts at an offset of it

trees_placed : (table : Ops) (text : List ℕ) (ts : List Token) (trees : List Tree) → IsUtf8 text → AreSpelled text ts → AreClauses table text ts trees → All (HasOffsets text) trees
trees_placed table text ts [] utf8 spelled are = λ i x below. absurd (omega (arith, below))
trees_placed table text ts (tree ∷ trees) utf8 spelled (part, rest, left, is, leaves, are) =
    let all = subst (AreSpelled text) is spelled in
    All-cons (HasOffsets text) tree trees (clause_stands table text part tree utf8 (spelled_front text part rest all) leaves.clause)
    (trees_placed left text rest trees utf8 (spelled_behind text part rest all) are)

pub reading_placed : (text : List ℕ) (trees : List Tree) → ReadsAs text trees → All (HasOffsets text) trees
reading_placed text trees reads = trees_placed opening_ops text reads.tokens trees reads.utf8 (cut_spelled text reads.tokens reads.cut) reads.clauses
