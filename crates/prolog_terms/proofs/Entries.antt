-- What the reader's entries hold, and the terms that they take.
use Rattle.std.proofs.Common.{◌≡◌, ℕ, zero, suc, ◌+◌, ◌<◌, ◌≤◌, max, Bool, true, false, cond, Some, None, List, [], ◌∷◌, ◌++◌, length, take, get_or, Option, Result, Ok, Err, IfOk, reverse, refl, ap, sym, ◌∙◌, arith}
use Rattle.std.proofs.lemmas.List.{length-reverse, reverse-append, take_more, length-take-le}
use Rattle.prolog_terms.specs.declared.stack.Entry.{Entry}
use Rattle.prolog_terms.specs.declared.operand.Operand.{Operand}
use Rattle.prolog_terms.specs.declared.pending.Opened.{Opened}
use Rattle.prolog_terms.specs.declared.pending.Bracket.TheVariants.{Next}
use Rattle.prolog_terms.specs.declared.pending.Pending.TheVariants as pending
use Rattle.prolog_terms.specs.Tree.{Tree, Trees, more, none, count}
use Rattle.prolog_terms.specs.Clause.{trees_more}
use Rattle.prolog_terms.specs.Forest.{last_of, before_last, parts_of, without}
use Rattle.prolog_terms.specs.ReaderSeen.{PartsSeen, parts, parts_more, StackSeen, StateSeen, parts_held, measure}
use Rattle.prolog_terms.specs.StackSeen.{Names, see_operand, see_entries, holds}

pub ok_then : {T E : Type 0} (r : Result T E) (P Q : T → Type 0) → IfOk r P → ((x : T) → P x → Q x) → IfOk r Q
ok_then (Ok x) P Q h go = go x h
ok_then (Err e) P Q h go = tt

pub some_of : {A : Type 0} (b : Bool) (x : A) (o : Option A) → cond b (Some x) None ≡ o → b ≡ true → Some x ≡ o
some_of true x o is goes = is
some_of false x o is goes = let both : false ≡ true = goes in cc

pub none_of : {A : Type 0} (b : Bool) (x : A) (o : Option A) → cond b (Some x) None ≡ o → b ≡ false → None ≡ o
none_of false x o is goes = is
none_of true x o is goes = let both : true ≡ false = goes in cc

pub entries_length : (names : Names) (es : List Entry) (trees : List Tree) → length (see_entries names es trees) ≡ length es
entries_length names [] trees = refl
entries_length names (e ∷ es) trees = ap suc (entries_length names es (without (holds e.pending) trees))

pub popped : (old new : List Entry) (top : Entry) → old ≡ new ++ top ∷ [] → reverse old ≡ top ∷ reverse new
popped old new top is = ap reverse is ∙ reverse-append new (top ∷ [])

pub top_taken : (items : List Entry) (at : ℕ) (d : Entry) → at < length items → reverse (take (at + 1) items) ≡ get_or items at d ∷ reverse (take at items)
top_taken items at d below = popped (take (at + 1) items) (take at items) (get_or items at d) (take_more items at d below)

-- one argument or item more

parts_behind : (n : ℕ) (trees : List Tree) (behind : Trees) (last : Tree) → parts_of n trees (trees_more behind last) ≡ trees_more (parts_of n trees behind) last
parts_behind zero trees behind last = refl
parts_behind (suc n) trees behind last = parts_behind n (before_last trees) (more (last_of trees) behind) last

pub next_is : (go : StackSeen → PartsSeen → Option StateSeen) (names : Names) (below : List Entry) (trees : List Tree) (n m d most : ℕ) (last : Operand) → m ≡ n + 1 → most ≡ max d last.depth
    → go (see_entries names below (without m trees)) (parts (parts_of m trees none) most)
    ≡ go (see_entries names below (without n (before_last trees))) (parts_more (parts (parts_of n (before_last trees) none) d) (see_operand (last_of trees) last))
next_is go names below trees n m d most last more_is most_is =
    let one : m ≡ suc n = omega (arith, more_is) in
    ap (λ k. go (see_entries names below (without k trees)) (parts (parts_of k trees none) most)) one
    ∙ (ap (λ xs. go (see_entries names below (without n (before_last trees))) (parts xs most)) (parts_behind n (before_last trees) none (last_of trees))
    ∙ ap (λ k. go (see_entries names below (without n (before_last trees))) (parts (trees_more (parts_of n (before_last trees) none) (last_of trees)) k)) most_is)

pub parts_count : (n : ℕ) (trees : List Tree) (behind : Trees) → count (parts_of n trees behind) ≡ n + count behind
parts_count zero trees behind = omega arith
parts_count (suc n) trees behind = let rest = parts_count n (before_last trees) (more (last_of trees) behind) in omega (arith, rest)

-- the parts of an open bracket are among those of the stack
pub next_room : (names : Names) (es below : List Entry) (opened : Opened) (n d r : ℕ) (b : Bool) (trees : List Tree)
    → es ≡ record { pending = pending.Bracket (Next opened n d); reach = r; separates = b } ∷ below → parts_held (see_entries names es trees) < 4294967295 → n < 4294967295
next_room names es below opened n d r b trees is room =
    let held : parts_held (see_entries names es trees) ≡ count (parts_of n trees none) + parts_held (see_entries names below (without n trees)) = ap (λ xs. parts_held (see_entries names xs trees)) is in
    let counted = parts_count n trees none in
    omega (arith, held, counted, room)

-- the measure of the lowest entries
pub measure_top : (names : Names) (items : List Entry) (height : ℕ) (top : Entry) (below : List Entry) (bound priority depth : ℕ) (trees : List Tree) → height ≤ length items
    → reverse (take height items) ≡ top ∷ below → bound ≡ (measure (see_entries names (top ∷ below) trees) priority depth).bound
    → record { height = height; bound = bound; reach = top.reach; priority = priority; depth = depth } ≡ measure (see_entries names (reverse (take height items)) trees) priority depth
measure_top names items height top below bound priority depth trees low is bound_is =
    let tall : height ≡ length (see_entries names (top ∷ below) trees) =
    sym (length-take-le height items low) ∙ (sym (length-reverse (take height items)) ∙ (ap length is ∙ sym (entries_length names (top ∷ below) trees))) in
    let same : record { height = height; bound = bound; reach = top.reach; priority = priority; depth = depth } ≡ measure (see_entries names (top ∷ below) trees) priority depth =
    λ i. record { height = tall i; bound = bound_is i; reach = top.reach; priority = priority; depth = depth } in
    same ∙ ap (λ es. measure (see_entries names es trees) priority depth) (sym is)
