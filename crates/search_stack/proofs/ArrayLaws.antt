-- What the arrays of a search of a whole graph say of its stack, and what its calls write into them.
use Rattle.std.proofs.Common.{◌≡◌, inl, inr, ℕ, zero, suc, ◌<◌, ◌≤◌, ◌+◌, ◌-◌, List, [], ◌∷◌, ◌++◌, length, get_or, take, drop, set, map, refl, ap, ◌∙◌, sym, subst, arith, get_or-set_same, get_or-set_other, length-set}
use Rattle.std.proofs.lemmas.Bool.{cases_eq, cases_lt}
use Rattle.std.proofs.lemmas.List.{length-map, length-drop, length_push, get_or-map, get_or-take, get_or_default, get_or_append_left, get_or_push, take-map, take_all, take-append-drop, take-append-le, drop-append-le, length-take-le, map_push, map-set}
use Rattle.std.proofs.lemmas.List.Elements.{All-tail, All-from_get_or}
use Rattle.std.proofs.Math.Seq.{drop-append_seam}
use Rattle.std.specs.Prelude.{All}
use Rattle.search_stack.specs.declared.array_search.OpenNode.{OpenNode}
use Rattle.search_stack.specs.declared.frame.Frame.{Frame}
use Rattle.search_stack.specs.ArrayFields.{AreRanges, entry_in, stack_in}
use Rattle.search_stack.specs.Search.{pushed, one_more_begun, below_frame, nodes_from}
use Rattle.search_stack.specs.Stack.{Entry, Stack, size, height, top, node, succs, begun, position}
use Rattle.search_stack.proofs.FrameSteps.{Tops}

-- how long the stack is
pub long_as : (list : List ℕ) (nodes : List OpenNode) (fs : List Frame) → size (stack_in list nodes fs) ≡ length nodes
unfolding size
long_as list nodes fs = length-map nodes (entry_in list)

-- what is read of the node at i
pub record HoldsNode (s : Stack) (list : List ℕ) (i : ℕ) (it : OpenNode) : Type 0 where
  pub within : i < size s
  pub node_is : node s i ≡ it.node
  pub succs_is : succs s i ≡ take it.count (drop it.start list)
  pub begun_is : begun s i ≡ it.begun

pub node_read : (list : List ℕ) (nodes : List OpenNode) (fs : List Frame) (i : ℕ) (it d : OpenNode) → i < length nodes → it ≡ get_or nodes i d
    → HoldsNode (stack_in list nodes fs) list i it
unfolding node succs begun
node_read list nodes fs i it d lt read =
    let no_entry : Entry = record { node = 0; succs = []; begun = 0 } in
    let is : get_or (map (entry_in list) nodes) i no_entry ≡ entry_in list it =
    get_or-map (entry_in list) nodes i d no_entry lt ∙ ap (entry_in list) (sym read) in
    record {
      within = omega (arith, lt, long_as list nodes fs);
      node_is = ap (λ e. e.node) is;
      succs_is = ap (λ e. e.succs) is;
      begun_is = ap (λ e. e.begun) is;
    }

-- a range of a list is that of a longer one
pub range_kept : (list more : List ℕ) (start count : ℕ) → start + count ≤ length list
    → take count (drop start (list ++ more)) ≡ take count (drop start list)
range_kept list more start count le =
    ap (take count) (drop-append-le start list more (omega (arith, le)))
    ∙ take-append-le count (drop start list) more (omega (arith, le, length-drop start list))

-- and what comes behind it is the next range
pub range_new : (list more : List ℕ) (start count : ℕ) → start ≡ length list → count ≡ length more
    → take count (drop start (list ++ more)) ≡ more
range_new list more start count at long =
    ap (λ k. take count (drop k (list ++ more))) at ∙ ap (take count) (drop-append_seam list more)
    ∙ take_all count more (omega (arith, long))

-- and it stays where what is behind it is cut
pub range_cut : (list : List ℕ) (k start count : ℕ) → start + count ≤ k → k ≤ length list
    → take count (drop start (take k list)) ≡ take count (drop start list)
range_cut list k start count le within =
    sym (range_kept (take k list) (drop k list) start count (omega (arith, le, length-take-le k list within)))
    ∙ ap (λ xs. take count (drop start xs)) (take-append-drop k list)

-- the entries are the same where their ranges are
pub same_entries : (list more : List ℕ) (nodes : List OpenNode)
    → All (λ it. take it.count (drop it.start more) ≡ take it.count (drop it.start list)) nodes
    → map (entry_in more) nodes ≡ map (entry_in list) nodes
same_entries list more [] all = refl
same_entries list more (it ∷ rest) all =
    let P : OpenNode → Type 0 = λ it. take it.count (drop it.start more) ≡ take it.count (drop it.start list) in
    let here : P it = all 0 it (omega arith) in
    (λ k. (record { node = it.node; succs = here k; begun = it.begun }) ∷ same_entries list more rest (All-tail P it rest all) k)

pub pushed_is : (list more : List ℕ) (nodes : List OpenNode) (fs : List Frame) (v place start count : ℕ) → AreRanges nodes (length list)
    → place ≡ length nodes → start ≡ length list → count ≡ length more
    → stack_in (list ++ more) (nodes ++ (record { start = start; count = count; begun = 0; node = v }) ∷ [])
    (fs ++ (record { position = place; low = place }) ∷ [])
    ≡ pushed (stack_in list nodes fs) v more
unfolding pushed
pushed_is list more nodes fs v place start count ranges at first long =
    let it : OpenNode = record { start = start; count = count; begun = 0; node = v } in
    let kept : map (entry_in (list ++ more)) nodes ≡ map (entry_in list) nodes =
    same_entries list (list ++ more) nodes
    (λ k d lt. range_kept list more (get_or nodes k d).start (get_or nodes k d).count (ranges.within k d lt)) in
    let new : take count (drop start (list ++ more)) ≡ more = range_new list more start count first long in
    let height_at : place ≡ size (stack_in list nodes fs) = at ∙ sym (long_as list nodes fs) in
    ap (λ xs. record { entries = xs; frames = fs ++ (record { position = place; low = place }) ∷ [] }) (map_push (entry_in (list ++ more)) nodes it)
    ∙ (λ k.
    record {
      entries = kept k ++ (record { node = v; succs = new k; begun = 0 }) ∷ [];
      frames = fs ++ (record { position = height_at k; low = height_at k }) ∷ [];
    })

-- the node at i has begun one more
pub begun_is : (list : List ℕ) (nodes : List OpenNode) (fs : List Frame) (i more : ℕ) (it : OpenNode) → HoldsNode (stack_in list nodes fs) list i it
    → more ≡ it.begun + 1
    → stack_in list (set nodes i (record { start = it.start; count = it.count; begun = more; node = it.node })) fs
    ≡ one_more_begun (stack_in list nodes fs) i
unfolding one_more_begun
begun_is list nodes fs i more it holds next =
    let node_at : it.node ≡ node (stack_in list nodes fs) i = sym holds.node_is in
    let succs_at : take it.count (drop it.start list) ≡ succs (stack_in list nodes fs) i = sym holds.succs_is in
    let begun_at : more ≡ begun (stack_in list nodes fs) i + 1 = next ∙ ap (λ b. b + 1) (sym holds.begun_is) in
    let it_more : OpenNode = record { start = it.start; count = it.count; begun = more; node = it.node } in
    ap (λ xs. record { entries = xs; frames = fs }) (map-set (entry_in list) nodes i it_more)
    ∙ (λ k.
    record {
      entries = set (map (entry_in list) nodes) i (record { node = node_at k; succs = succs_at k; begun = begun_at k });
      frames = fs;
    })

-- what is left of the arrays
pub taken_is : (list : List ℕ) (nodes : List OpenNode) (fs : List Frame) (k start : ℕ) (frame : Frame) (d : OpenNode)
    → AreRanges nodes (length list) → Tops (stack_in list nodes fs) frame → k ≡ length fs - 1
    → start ≡ (get_or nodes frame.position d).start
    → stack_in (take start list) (take frame.position nodes) (take k fs) ≡ below_frame (stack_in list nodes fs) (top (stack_in list nodes fs))
unfolding below_frame height
taken_is list nodes fs k start frame d ranges tops last first =
    let s : Stack = stack_in list nodes fs in
    let p : ℕ = frame.position in
    let lt : p < length nodes = omega (arith, tops.within, long_as list nodes fs) in
    let within : start ≤ length list = omega (arith, first, ranges.within p d lt) in
    let cut_length : length (take p nodes) ≡ p = length-take-le p nodes (omega (arith, lt)) in
    let P : OpenNode → Type 0 = λ it. take it.count (drop it.start (take start list)) ≡ take it.count (drop it.start list) in
    let each : All P (take p nodes) =
    All-from_get_or P (take p nodes) d
    (λ i i_lt.
    let below : i < p = omega (arith, i_lt, cut_length) in
    let before : (get_or nodes i d).start + (get_or nodes i d).count ≤ start = omega (arith, ranges.rise i p d below lt, first) in
    subst P (sym (get_or-take p nodes i d below)) (range_cut list start (get_or nodes i d).start (get_or nodes i d).count before within)) in
    let at : k ≡ top s = last in
    let position_at : p ≡ position s (top s) = sym tops.position_is in
    let cut : map (entry_in (take start list)) (take p nodes) ≡ take p (map (entry_in list) nodes) =
    same_entries list (take start list) (take p nodes) each ∙ sym (take-map (entry_in list) p nodes) in
    (λ j. record { entries = cut j; frames = take k fs })
    ∙ (λ j. record { entries = take (position_at j) (map (entry_in list) nodes); frames = take (at j) fs })

nodes_are : (list : List ℕ) (nodes : List OpenNode) → map (λ it. it.node) nodes ≡ map (λ entry. entry.node) (map (entry_in list) nodes)
nodes_are list [] = refl
nodes_are list (it ∷ rest) = ap (λ xs. it.node ∷ xs) (nodes_are list rest)

drop-map : (f : OpenNode → ℕ) (n : ℕ) (xs : List OpenNode) → map f (drop n xs) ≡ drop n (map f xs)
drop-map f zero xs = refl
drop-map f (suc n) [] = refl
drop-map f (suc n) (x ∷ xs) = drop-map f n xs

-- the nodes that leave the stack
pub nodes_is : (list : List ℕ) (nodes : List OpenNode) (fs : List Frame) (frame : Frame) → Tops (stack_in list nodes fs) frame
    → map (λ it. it.node) (drop frame.position nodes) ≡ nodes_from (stack_in list nodes fs) (top (stack_in list nodes fs))
unfolding nodes_from
nodes_is list nodes fs frame tops =
    let position_at : frame.position ≡ position (stack_in list nodes fs) (top (stack_in list nodes fs)) = sym tops.position_is in
    drop-map (λ it. it.node) frame.position nodes ∙ (λ j. drop (position_at j) (nodes_are list nodes j))

-- the ranges with one behind them
pub ranges_push : (nodes : List OpenNode) (count more : ℕ) (it : OpenNode) → AreRanges nodes count → it.start ≡ count → it.count ≡ more
    → AreRanges (nodes ++ it ∷ []) (count + more)
ranges_push nodes count more it ranges first long =
    let all : List OpenNode = nodes ++ it ∷ [] in
    let longer : length all ≡ length nodes + 1 = length_push nodes it in
    let old : (k : ℕ) (d : OpenNode) → k < length nodes → get_or all k d ≡ get_or nodes k d = λ k d lt. get_or_append_left nodes (it ∷ []) d k lt in
    let new : (k : ℕ) (d : OpenNode) → k ≡ length nodes → get_or all k d ≡ it = λ k d at. get_or_push nodes it d k (sym at) in
    let P : OpenNode → Type 0 = λ each. each.start + each.count ≤ count + more in
    record {
      within = λ k d lt.
          elim (cases_lt k (length nodes)) as (λ _. P (get_or all k d)) [
            | inl below ↦ subst P (sym (old k d below)) (omega (arith, ranges.within k d below))
            | inr le ↦ subst P (sym (new k d (omega (arith, le, lt, longer)))) (omega (arith, first, long))
          ];
      rise = λ i j d below lt.
          elim (cases_lt j (length nodes)) as (λ _. (get_or all i d).start + (get_or all i d).count ≤ (get_or all j d).start) [
            | inl j_old ↦
                let i_old : i < length nodes = omega (arith, below, j_old) in
                omega (
                  arith,
                  ranges.rise i j d below j_old,
                  ap (λ (each : OpenNode). each.start) (old i d i_old),
                  ap (λ (each : OpenNode). each.count) (old i d i_old),
                  ap (λ (each : OpenNode). each.start) (old j d j_old),
                )
            | inr le ↦
                let at : j ≡ length nodes = omega (arith, le, lt, longer) in
                let i_old : i < length nodes = omega (arith, below, at) in
                omega (
                  arith,
                  ranges.within i d i_old,
                  first,
                  ap (λ (each : OpenNode). each.start) (old i d i_old),
                  ap (λ (each : OpenNode). each.count) (old i d i_old),
                  ap (λ (each : OpenNode). each.start) (new j d at),
                )
          ];
    }

-- a node with the same range is written over
pub ranges_set : (nodes : List OpenNode) (count i : ℕ) (it new : OpenNode) → AreRanges nodes count → i < length nodes → it ≡ get_or nodes i it
    → new.start ≡ it.start → new.count ≡ it.count → AreRanges (set nodes i new) count
ranges_set nodes count i it new ranges lt read start_is count_is =
    let all : List OpenNode = set nodes i new in
    let long : length all ≡ length nodes = length-set nodes i new in
    let start_at : (k : ℕ) (d : OpenNode) → (get_or all k d).start ≡ (get_or nodes k d).start = λ k d.
    elim (cases_eq k i) as (λ _. (get_or all k d).start ≡ (get_or nodes k d).start) [
      | inl is ↦
          ap (λ j. (get_or all j d).start) is ∙ ap (λ (each : OpenNode). each.start) (get_or-set_same nodes i new d lt) ∙ start_is
          ∙ ap (λ (each : OpenNode). each.start) (read ∙ get_or_default nodes i it d lt)
          ∙ ap (λ j. (get_or nodes j d).start) (sym is)
      | inr ne ↦ ap (λ (each : OpenNode). each.start) (get_or-set_other nodes i k new d ne)
    ] in
    let count_at : (k : ℕ) (d : OpenNode) → (get_or all k d).count ≡ (get_or nodes k d).count = λ k d.
    elim (cases_eq k i) as (λ _. (get_or all k d).count ≡ (get_or nodes k d).count) [
      | inl is ↦
          ap (λ j. (get_or all j d).count) is ∙ ap (λ (each : OpenNode). each.count) (get_or-set_same nodes i new d lt) ∙ count_is
          ∙ ap (λ (each : OpenNode). each.count) (read ∙ get_or_default nodes i it d lt)
          ∙ ap (λ j. (get_or nodes j d).count) (sym is)
      | inr ne ↦ ap (λ (each : OpenNode). each.count) (get_or-set_other nodes i k new d ne)
    ] in
    record {
      within = λ k d k_lt. omega (arith, ranges.within k d (omega (arith, k_lt, long)), start_at k d, count_at k d);
      rise = λ a b d below b_lt. omega (arith, ranges.rise a b d below (omega (arith, b_lt, long)), start_at a d, count_at a d, start_at b d);
    }

-- the ranges before one
pub ranges_take : (nodes : List OpenNode) (count p start : ℕ) (d : OpenNode) → AreRanges nodes count → p < length nodes
    → start ≡ (get_or nodes p d).start → AreRanges (take p nodes) start
ranges_take nodes count p start d ranges lt first =
    let short : length (take p nodes) ≡ p = length-take-le p nodes (omega (arith, lt)) in
    let old : (k : ℕ) (e : OpenNode) → k < p → get_or (take p nodes) k e ≡ get_or nodes k e = λ k e below. get_or-take p nodes k e below in
    let P : OpenNode → Type 0 = λ each. each.start + each.count ≤ start in
    record {
      within = λ k e k_lt.
          let below : k < p = omega (arith, k_lt, short) in
          subst P (sym (old k e below))
          (omega
          (arith, ranges.rise k p e below lt, first, ap (λ (each : OpenNode). each.start) (get_or_default nodes p e d lt)));
      rise = λ i j e below j_lt.
          let j_old : j < p = omega (arith, j_lt, short) in
          let i_old : i < p = omega (arith, below, j_old) in
          omega (
            arith,
            ranges.rise i j e below (omega (arith, j_old, lt)),
            ap (λ (each : OpenNode). each.start) (old i e i_old),
            ap (λ (each : OpenNode). each.count) (old i e i_old),
            ap (λ (each : OpenNode). each.start) (old j e j_old),
          );
    }
