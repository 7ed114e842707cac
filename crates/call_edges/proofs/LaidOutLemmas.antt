-- Lists that are laid out one behind the other.
use Rattle.std.proofs.Common.{◌≡◌, ℕ, ◌+◌, ◌-◌, ◌*◌, ◌/◌, ◌%◌, ◌<◌, min, inl, inr, List, [], ◌∷◌, ◌++◌, length, get_or, take, drop, ap, sym, ◌∙◌, subst, refl, arith}
use Rattle.std.proofs.lemmas.Bool.{cases_lt}
use Rattle.std.proofs.lemmas.List.{drop-append-le, take-append-le, length-append, length-drop, length-take, get_or-take, get_or-drop, take_all, get_or_append_left, get_or_push, get_or_read, length_push}
use Rattle.std.proofs.lemmas.Option.{slice_get_read}
use Rattle.std.proofs.Math.Seq.{drop-append_seam}
use Rattle.call_edges.specs.declared.piece.Piece.{Piece}
use Rattle.call_edges.specs.CallLists.{StandsBetween, AreLaidOut, piece_lists, AreListed}

-- the first of the lists are laid out, and nothing else
pub record AreFirst (lists : List (List ℕ)) (count : ℕ) (starts all : List ℕ) : Type 0 where
  pub as_many : length starts ≡ count + 1
  pub last : get_or starts count 0 ≡ length all
  pub each : (p : ℕ) → p < count → StandsBetween all (get_or starts p 0) (get_or starts (p + 1) 0) (get_or lists p [])

pub none_first : (lists : List (List ℕ)) (starts : List ℕ) → starts ≡ 0 ∷ [] → AreFirst lists 0 starts []
none_first lists starts is = subst (λ xs. AreFirst lists 0 xs []) (sym is) (record { as_many = refl; last = refl; each = λ p lt. absurd (omega (arith, lt)) })

-- more behind it
still_stands : (all more list : List ℕ) (from to : ℕ) → StandsBetween all from to list → StandsBetween (all ++ more) from to list
still_stands all more list from to stands = record {
  ordered = stands.ordered;
  within = omega (arith, stands.within, length-append all more);
  is =
      ap (take (to - from)) (drop-append-le from all more (omega (arith, stands.ordered, stands.within)))
      ∙ take-append-le (to - from) (drop from all) more (omega (arith, stands.ordered, stands.within, length-drop from all))
      ∙ stands.is;
}

last_stands : (all list : List ℕ) → StandsBetween (all ++ list) (length all) (length (all ++ list)) list
last_stands all list = record {
  ordered = omega (arith, length-append all list);
  within = omega arith;
  is =
      ap (take (length (all ++ list) - length all)) (drop-append_seam all list)
      ∙ take_all (length (all ++ list) - length all) list (omega (arith, length-append all list));
}

pub one_more : (lists : List (List ℕ)) (k end : ℕ) (list starts all : List ℕ) → AreFirst lists k starts all → list ≡ get_or lists k [] → end ≡ length (all ++ list)
    → AreFirst lists (k + 1) (starts ++ end ∷ []) (all ++ list)
one_more lists k end list starts all first is ends = record {
  as_many = length_push starts end ∙ ap (λ n. n + 1) first.as_many;
  last = get_or_push starts end 0 (k + 1) first.as_many ∙ ends;
  each = λ p within.
      elim (cases_lt p k) [
        | inl before ↦
            let left = get_or_append_left starts (end ∷ []) 0 p (omega (arith, before, first.as_many)) in
            let right = get_or_append_left starts (end ∷ []) 0 (p + 1) (omega (arith, before, first.as_many)) in
            rw (left, right) (still_stands all list (get_or lists p []) (get_or starts p 0) (get_or starts (p + 1) 0) (first.each p before))
        | inr from ↦
            let here : p ≡ k = omega (arith, within, from) in
            subst (λ q. StandsBetween (all ++ list) (get_or (starts ++ end ∷ []) q 0) (get_or (starts ++ end ∷ []) (q + 1) 0) (get_or lists q [])) (sym here) newest
      ];
}
  where
    left : get_or (starts ++ end ∷ []) k 0 ≡ length all
    left = get_or_append_left starts (end ∷ []) 0 k (omega (arith, first.as_many)) ∙ first.last

    right : get_or (starts ++ end ∷ []) (k + 1) 0 ≡ length (all ++ list)
    right = get_or_push starts end 0 (k + 1) first.as_many ∙ ends

    newest : StandsBetween (all ++ list) (get_or (starts ++ end ∷ []) k 0) (get_or (starts ++ end ∷ []) (k + 1) 0) (get_or lists k [])
    newest =
        subst (λ (from : ℕ). StandsBetween (all ++ list) from (get_or (starts ++ end ∷ []) (k + 1) 0) (get_or lists k [])) (sym left)
        (subst (λ (to : ℕ). StandsBetween (all ++ list) (length all) to (get_or lists k [])) (sym right)
        (subst (λ (xs : List ℕ). StandsBetween (all ++ list) (length all) (length (all ++ list)) xs) is (last_stands all list)))

pub all_first : (lists : List (List ℕ)) (k : ℕ) (starts all : List ℕ) → AreFirst lists k starts all → k ≡ length lists → AreLaidOut lists starts all
all_first lists k starts all first end = record {
  as_many = first.as_many ∙ ap (λ n. n + 1) end;
  each = λ p within. first.each p (omega (arith, within, end));
}

-- a list by its two places, as they are read
pub stands_read : (lists : List (List ℕ)) (starts all : List ℕ) (p from to : ℕ) → AreLaidOut lists starts all → p < length lists → from ≡ get_or starts p from
    → to ≡ get_or starts (p + 1) to → StandsBetween all from to (get_or lists p [])
stands_read lists starts all p from to laid below left right =
    let first : get_or starts p 0 ≡ from = sym (get_or_read starts p from (omega (arith, below, laid.as_many)) left 0) in
    let second : get_or starts (p + 1) 0 ≡ to = sym (get_or_read starts (p + 1) to (omega (arith, below, laid.as_many)) right 0) in
    subst (λ (x : ℕ). StandsBetween all x to (get_or lists p [])) first
    (subst (λ (y : ℕ). StandsBetween all (get_or starts p 0) y (get_or lists p [])) second (laid.each p below))

-- the lists of a piece

pub piece_count : (lists : List (List ℕ)) (number : ℕ) → length (piece_lists lists number) ≡ min 512 (length lists - number * 512)
piece_count lists number = length-take 512 (drop (number * 512) lists) ∙ ap (min 512) (length-drop (number * 512) lists)

pub piece_list : (lists : List (List ℕ)) (number k : ℕ) → k < 512 → get_or (piece_lists lists number) k [] ≡ get_or lists (number * 512 + k) []
piece_list lists number k lt = get_or-take 512 (drop (number * 512) lists) k [] lt ∙ get_or-drop (number * 512) lists k []

-- where a node stands in its piece
pub in_its_piece : (node : ℕ) → ((node / 512) * 512 + node % 512 ≡ node) × (node % 512 < 512)
in_its_piece node = (omega arith, omega arith)

pub piece_has : (lists : List (List ℕ)) (node : ℕ) → node < length lists → node % 512 < length (piece_lists lists (node / 512))
piece_has lists node lt = omega (arith, lt, piece_count lists (node / 512), in_its_piece node)

pub piece_list_is : (lists : List (List ℕ)) (node : ℕ) → get_or (piece_lists lists (node / 512)) (node % 512) [] ≡ get_or lists node []
piece_list_is lists node =
    let at = in_its_piece node in
    piece_list lists (node / 512) (node % 512) at.1 ∙ ap (λ n. get_or lists n []) at.0

-- the list of a node, in the piece of the node

pub piece_there : (lists : List (List ℕ)) (pieces : List Piece) (node : ℕ) → AreListed lists pieces → node < length lists → node / 512 < length pieces
piece_there lists pieces node listed lt = listed.as_many (node / 512) (omega (arith, lt, in_its_piece node))

pub piece_laid : (lists : List (List ℕ)) (pieces : List Piece) (node : ℕ) (piece : Piece) → AreListed lists pieces → node < length lists → piece ≡ get_or pieces (node / 512) piece
    → AreLaidOut (piece_lists lists (node / 512)) piece.starts.items piece.callees.items
piece_laid lists pieces node piece listed lt is =
    listed.each (node / 512) piece (slice_get_read pieces (length pieces) (node / 512) piece refl (piece_there lists pieces node listed lt) is)

pub starts_there : (lists : List (List ℕ)) (pieces : List Piece) (node : ℕ) (piece : Piece) → AreListed lists pieces → node < length lists → piece ≡ get_or pieces (node / 512) piece
    → node % 512 + 1 < length piece.starts.items
starts_there lists pieces node piece listed lt is =
    omega (arith, (piece_laid lists pieces node piece listed lt is).as_many, piece_has lists node lt)

pub node_read : (lists : List (List ℕ)) (pieces : List Piece) (node from to : ℕ) (piece : Piece) → AreListed lists pieces → node < length lists → piece ≡ get_or pieces (node / 512) piece
    → from ≡ get_or piece.starts.items (node % 512) from → to ≡ get_or piece.starts.items (node % 512 + 1) to → StandsBetween piece.callees.items from to (get_or lists node [])
node_read lists pieces node from to piece listed lt is left right =
    subst (λ (list : List ℕ). StandsBetween piece.callees.items from to list) (piece_list_is lists node)
    (stands_read (piece_lists lists (node / 512)) piece.starts.items piece.callees.items (node % 512) from to (piece_laid lists pieces node piece listed lt is)
    (piece_has lists node lt) left right)
