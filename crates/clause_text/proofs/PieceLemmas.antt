-- Stretches of tokens, and the pieces that they are read as.
use Rattle.std.proofs.Common.{◌≡◌, ℕ, ◌+◌, ◌-◌, ◌<◌, ◌≤◌, List, [], ◌∷◌, ◌++◌, Result, Ok, Err, IfOk, false, sym, subst, refl, inl, inr, arith, ap, ◌∙◌, length, length-append, map}
use Rattle.std.specs.Prelude.{Contains, MatchResult}
use Rattle.std.specs.declared.alloc.AllocError.{AllocError}
use Rattle.std.specs.List.{All, AllZip}
use Rattle.std.proofs.lemmas.List.{map-append, take-append-le, take_all}
use Rattle.std.proofs.lemmas.List.Elements.{All-nil, All-cons, All-head, All-tail, All-push, All-weaker}
use Rattle.std.proofs.lemmas.Bool.{cases_lt}
use Rattle.prolog_tokens.specs.declared.token.Token.{Token}
use Rattle.prolog_ops.specs.Table.{Ops}
use Rattle.prolog_terms.specs.declared.node.Node.{Node}
use Rattle.prolog_terms.specs.Forest.{forest, last_of}
use Rattle.prolog_terms.specs.Terms.{root_tree, tree_in}
use Rattle.clause_text.specs.declared.piece.Stretch.{Stretch}
use Rattle.clause_text.specs.declared.piece.Piece.{Piece}
use Rattle.clause_text.specs.Items.{Item, has_some, items_on}
use Rattle.clause_text.specs.Clauses.{EndsFirst}
use Rattle.clause_text.specs.Pieces.{IsBehindClause, IsStretch, AreStretches, IsPiece, ArePieces}

-- no items leave a table as it is
pub none_on : (items : List Item) (table : Ops) → has_some items ≡ false → items_on items table ≡ Ok table
none_on [] table none = refl
none_on (item ∷ items) table none = cc

-- the first End from before the end of a stretch isn't behind it
pub not_past : (ts : List Token) (at next to : ℕ) → EndsFirst ts at next → at < to → IsBehindClause ts to → next ≤ to
not_past ts at next to first before behind = elim (cases_lt to next) [
  | inl past ↦ elim behind.stops [
    | inl stops ↦ absurd (first.none (to - 1) (omega (arith, before)) (omega (arith, before, past)) stops)
    | inr last ↦ omega (arith, last, first.within)
  ]
  | inr within ↦ within
]

abbrev stretch_of : ℕ → ℕ → Stretch
stretch_of from to = record { from = from; to = to }

stretches_more : (ts : List Token) (from : ℕ) (stretches : List Stretch) (at to : ℕ) → AreStretches ts from stretches at → IsStretch ts (stretch_of at to)
    → AreStretches ts from (stretches ++ stretch_of at to ∷ []) to
stretches_more ts from [] at to are is = (sym are, is, refl)
stretches_more ts from (first ∷ stretches) at to are is = (are.0, are.1, stretches_more ts first.to stretches at to are.2 is)

-- a stretch more behind others
pub stretch_behind : (ts : List Token) (from : ℕ) (stretches all : List Stretch) (at to : ℕ) → AreStretches ts from stretches at → all ≡ stretches ++ stretch_of at to ∷ [] → at < to
    → IsBehindClause ts to → AreStretches ts from all to
stretch_behind ts from stretches all at to are is some ends =
    subst (λ list. AreStretches ts from list to) (sym is) (stretches_more ts from stretches at to are (record { some = some; ends = ends }))

-- what stretches are read as stands side by side as they do
pub pieces_of : (names : List (List ℕ)) (table : Ops) (text : List ℕ) (ts : List Token) (stretches : List Stretch) (pieces : List Piece)
    → AllZip (λ (stretch : Stretch) piece. IsPiece names table text ts stretch.from stretch.to piece) stretches pieces → (from to : ℕ) → AreStretches ts from stretches to → ArePieces names table text ts from pieces to
pieces_of names table text ts [] [] read from to are = are
pieces_of names table text ts [] (piece ∷ pieces) read from to are = absurd read
pieces_of names table text ts (stretch ∷ stretches) [] read from to are = absurd read
pieces_of names table text ts (stretch ∷ stretches) (piece ∷ pieces) read from to are =
    (stretch.to, subst (λ n. IsPiece names table text ts n stretch.to piece) are.0 read.0, pieces_of names table text ts stretches pieces read.1 stretch.to to are.2)

-- what holds of each result of a list holds of all of them
pub all_behind : {X Y : Type 0} (P : Y → Type 0) (xs : List X) (ys : List Y) → AllZip (λ x y. P y) xs ys → All P ys
all_behind P [] [] each = All-nil P
all_behind P [] (y ∷ ys) each = absurd each
all_behind P (x ∷ xs) [] each = absurd each
all_behind P (x ∷ xs) (y ∷ ys) each = All-cons P y ys each.0 (all_behind P xs ys each.1)

oks : {Y : Type 0} (P : Y → Type 0) (ys : List Y) → All (λ (one : Result Y AllocError). IfOk one P) (map (λ y. Ok y) ys) → All P ys
oks P [] all = All-nil P
oks P (y ∷ ys) all =
    All-cons P y ys (All-head (λ (one : Result _ AllocError). IfOk one P) (Ok y) (map (λ z. Ok z) ys) all)
    (oks P ys (All-tail (λ (one : Result _ AllocError). IfOk one P) (Ok y) (map (λ z. Ok z) ys) all))

-- what holds of each result holds of all values, where memory was wanting for none
pub all_of_ok : {Y V : Type 0} (items : V → List Y) (P : Y → Type 0) (each : List (Result Y AllocError)) (result : Result V AllocError) → All (λ one. IfOk one P) each
    → MatchResult result (λ v. (ys : List Y) × (each ≡ map (λ y. Ok y) ys) × (items v ≡ ys)) (λ e. Contains each (Err e)) → IfOk result (λ v. All P (items v))
all_of_ok items P each (Ok v) all is = subst (All P) (sym is.2) (oks P is.0 (subst (All (λ one. IfOk one P)) is.1 all))
all_of_ok items P each (Err e) all is = tt

-- nodes behind others change no clause that ends within these

trees_kept : (names : List (List ℕ)) (nodes more : List Node) (ends : List ℕ) → All (λ end. end ≤ length nodes) ends → map (tree_in names (nodes ++ more)) ends ≡ map (tree_in names nodes) ends
trees_kept names nodes more [] all = refl
trees_kept names nodes more (end ∷ ends) all =
    let one : tree_in names (nodes ++ more) end ≡ tree_in names nodes end =
    ap (λ ns. last_of (forest names ns)) (take-append-le end nodes more (All-head (λ e. e ≤ length nodes) end ends all)) in
    let others = trees_kept names nodes more ends (All-tail (λ e. e ≤ length nodes) end ends all) in
    λ i. one i ∷ others i

pub trees_kept_in : (names : List (List ℕ)) (nodes new more : List Node) → new ≡ nodes ++ more → (ends : List ℕ) → All (λ end. end ≤ length nodes) ends
    → map (tree_in names new) ends ≡ map (tree_in names nodes) ends
trees_kept_in names nodes new more is ends all = ap (λ ns. map (tree_in names ns) ends) is ∙ trees_kept names nodes more ends all

-- the last of all nodes is one clause more
pub root_end : (names : List (List ℕ)) (nodes : List Node) (end : ℕ) → end ≡ length nodes → tree_in names nodes end ≡ root_tree names nodes
root_end names nodes end is = ap (λ ns. last_of (forest names ns)) (take_all end nodes (omega (arith, is)))

pub trees_more : (names : List (List ℕ)) (nodes new more : List Node) → new ≡ nodes ++ more → (ends all : List ℕ) (end : ℕ) → end ≡ length new → all ≡ ends ++ end ∷ []
    → All (λ e. e ≤ length nodes) ends → map (tree_in names new) all ≡ map (tree_in names nodes) ends ++ root_tree names new ∷ []
trees_more names nodes new more is ends all end last are within =
    ap (map (tree_in names new)) are
    ∙ (map-append (tree_in names new) ends (end ∷ [])
    ∙ (λ i. trees_kept_in names nodes new more is ends within i ++ root_end names new end last i ∷ []))

pub ends_more : (nodes new more : List Node) → new ≡ nodes ++ more → (ends all : List ℕ) (end : ℕ) → end ≡ length new → all ≡ ends ++ end ∷ []
    → All (λ e. e ≤ length nodes) ends → All (λ e. e ≤ length new) all
ends_more nodes new more is ends all end last are within =
    let longer : length new ≡ length nodes + length more = ap length is ∙ length-append nodes more in
    subst (All (λ e. e ≤ length new)) (sym are)
    (All-push (λ e. e ≤ length new) ends end (All-weaker (λ e. e ≤ length nodes) (λ e. e ≤ length new) (λ e small. omega (arith, small, longer)) ends within) (omega (arith, last)))
