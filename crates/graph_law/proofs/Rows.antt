-- Rows of marks, and what they say of mutual reach.
use Rattle.std.proofs.Common.{◌≡◌, inl, inr, ℕ, ◌<◌, ◌+◌, Bool, true, false, List, [], ◌∷◌, ◌++◌, length, get_or, refl, subst, sym, ap, ◌∙◌, arith, Vec}
use Rattle.std.proofs.lemmas.Bool.{cases_eq, cases_lt, false≢true}
use Rattle.std.proofs.lemmas.List.{get_or_past, get_or_append_left, get_or_push, length_push}
use Rattle.std.proofs.lemmas.List.Elements.{All-weaker, All-push, Contains-append_left, Contains-push}
use Rattle.std.specs.Prelude.{Contains}
use Rattle.graph_law.specs.Reach.{Reaches, IsReached, ReachEachOther}
use Rattle.graph_law.proofs.Increasing.{increasing_push}
use Rattle.graph_law.proofs.GraphLaws.{length-lists_of, get_or-lists_of}
use Rattle.graph_law.specs.Graph.{lists_of}
use Rattle.graph_law.specs.Reached.{AreReached, AreRows, IsSquare, Marks, MarkEachOther, AreMarkedWith}

-- a mark past the end is none
pub marked_below : (marks : List Bool) (p : ℕ) → get_or marks p false ≡ true → p < length marks
marked_below marks p marked =
    elim (cases_lt p (length marks))
    [ inl lt ↦ lt | inr le ↦ absurd (false≢true (sym (get_or_past marks p false le) ∙ marked)) ]

pub rows_more : (calls : ℕ → ℕ → Type 0) (count n : ℕ) (rows : List (List Bool)) (row : List Bool)
    → AreRows calls count n rows → AreReached calls count (n ∷ []) row → AreRows calls count (n + 1) (rows ++ row ∷ [])
rows_more calls count n rows row are marks = record {
  each = length_push rows row ∙ ap (λ k. k + 1) are.each;
  row = λ p lt.
      elim (cases_eq p n) [
        | inl is ↦
            let at : get_or (rows ++ row ∷ []) p [] ≡ row = get_or_push rows row [] p (are.each ∙ sym is) in
            let P : ℕ → Type 0 = λ k. AreReached calls count (k ∷ []) row in
            subst (AreReached calls count (p ∷ [])) (sym at) (subst P (sym is) marks)
        | inr ne ↦
            let below : p < n = omega (arith, lt, ne) in
            let at : get_or (rows ++ row ∷ []) p [] ≡ get_or rows p [] =
            get_or_append_left rows (row ∷ []) [] p (omega (arith, are.each)) in
            subst (AreReached calls count (p ∷ [])) (sym at) (are.row p below)
      ];
}

one_start : (calls : ℕ → ℕ → Type 0) (p q : ℕ) → IsReached calls (p ∷ []) q → Reaches calls p q
one_start calls p q reached =
    let at : ℕ = reached.is_start.0 in
    let lt : at < 1 = reached.is_start.1 in
    let first : at ≡ 0 = omega (arith, lt) in
    let P : ℕ → Type 0 = λ k. Reaches calls k q in
    let is : get_or (p ∷ []) at reached.start ≡ reached.start = reached.is_start.2 in
    subst P (sym (rw first at is)) reached.reaches

marks_from_reaches : (calls : ℕ → ℕ → Type 0) (count : ℕ) (rows : List (List Bool)) (p q : ℕ)
    → AreRows calls count count rows → p < count → Reaches calls p q → Marks rows p q
marks_from_reaches calls count rows p q are lt on =
    (are.row p lt).all q (record { start = p; is_start = (0, omega arith, refl); reaches = on })

reaches_from_marks : (calls : ℕ → ℕ → Type 0) (count : ℕ) (rows : List (List Bool)) (p q : ℕ)
    → AreRows calls count count rows → Marks rows p q → Reaches calls p q
reaches_from_marks calls count rows p q are marked =
    elim (cases_lt p count) [
      | inl lt ↦ one_start calls p q ((are.row p lt).sound q marked)
      | inr le ↦
          let past : get_or rows p [] ≡ [] = get_or_past rows p [] (omega (arith, are.each, le)) in
          let none : get_or {A = Bool} [] q false ≡ true = rw past at marked in
          absurd (false≢true none)
    ]

-- marks stand for mutual reach, both ways
pub mark_each_other : (calls : ℕ → ℕ → Type 0) (count : ℕ) (rows : List (List Bool)) (p q : ℕ)
    → AreRows calls count count rows → p < count → q < count → ReachEachOther calls p q → MarkEachOther rows p q
mark_each_other calls count rows p q are below within both =
    (marks_from_reaches calls count rows p q are below both.there, marks_from_reaches calls count rows q p are within both.back)

pub reach_from_marks : (calls : ℕ → ℕ → Type 0) (count : ℕ) (rows : List (List Bool)) (p q : ℕ)
    → AreRows calls count count rows → MarkEachOther rows p q → ReachEachOther calls p q
reach_from_marks calls count rows p q are both =
    record { there = reaches_from_marks calls count rows p q are both.0; back = reaches_from_marks calls count rows q p are both.1 }

-- what a node reaches is a node
pub reached_below : (calls : ℕ → ℕ → Type 0) (count : ℕ) (rows : List (List Bool)) (p q : ℕ)
    → AreRows calls count count rows → p < count → Reaches calls p q → q < count
reached_below calls count rows p q are lt on =
    let within : q < length (get_or rows p []) = marked_below (get_or rows p []) q (marks_from_reaches calls count rows p q are lt on) in
    omega (arith, within, (are.row p lt).each)

-- a node that is marked with this one goes to the end
pub marked_more : (rows : List (List Bool)) (node n : ℕ) (class : List ℕ)
    → AreMarkedWith rows node n class → MarkEachOther rows node n → AreMarkedWith rows node (n + 1) (class ++ n ∷ [])
marked_more rows node n class are marked = record {
  ascending = increasing_push class n are.ascending are.below;
  below = All-push (λ q. q < n + 1) class n (All-weaker (λ q. q < n) (λ q. q < n + 1) (λ q lt. omega (arith, lt)) class are.below) (omega arith);
  marked = All-push (MarkEachOther rows node) class n are.marked marked;
  all = λ q lt marks.
      elim (cases_eq q n) [
        | inl is ↦ subst (Contains (class ++ n ∷ [])) (sym is) (Contains-push class n)
        | inr ne ↦ Contains-append_left class (n ∷ []) q (are.all q (omega (arith, lt, ne)) marks)
      ];
}

-- how many marks `rows[p]` has
pub row_length : {A : Type 0} (rows : List (Vec Bool A)) (p : ℕ) (row : Vec Bool A)
    → IsSquare (lists_of rows) → p < length rows → row ≡ get_or rows p row → row.len ≡ length rows
row_length rows p row square lt read =
    let long : length (lists_of rows) ≡ length rows = length-lists_of rows in
    let each : length (get_or (lists_of rows) p []) ≡ length (lists_of rows) = square.each p [] (omega (arith, long, lt)) in
    row.ok.0 ∙ (rw (get_or-lists_of rows p row lt read) at each) ∙ long
