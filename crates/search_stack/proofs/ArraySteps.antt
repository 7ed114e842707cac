-- What each call of a search of a whole graph reads of its arrays and writes into them.
use Rattle.std.proofs.Common.{◌≡◌, ◌⊎◌, inl, inr, ℕ, ◌<◌, ◌≤◌, ◌+◌, ◌-◌, ◌^◌, min, true, false, not, nat_eq, Bool, List, [], ◌∷◌, ◌++◌, length, get_or, take, drop, set, map, replicate, None, Some, refl, ap, ◌∙◌, sym, subst, arith}
use Rattle.std.proofs.lemmas.List.{length-map, length-append, length-drop, length-take-le, length-replicate, get_or-take, get_or-drop, get_or-replicate, get_or_default, get_or_past, ext_get_or}
use Rattle.std.proofs.lemmas.Bool.{cases_lt}
use Rattle.std.proofs.lemmas.List.Sums.{count_by-le-length}
use Rattle.std.proofs.lemmas.List.Elements.{Contains-get_or}
use Rattle.std.specs.Prelude.{All, Contains}
use Rattle.std.proofs.lemmas.Option.{slice_get_past, slice_get_read}
use Rattle.graph_law.specs.Stamp.{IsStamped}
use Rattle.search_stack.specs.declared.array_search.ArraySearch.TheInside.{Inside}
use Rattle.search_stack.specs.declared.array_search.OpenNode.{OpenNode}
use Rattle.search_stack.specs.declared.array_search.TheConstants.{FOUND}
use Rattle.search_stack.specs.declared.frame.Frame.{Frame}
use Rattle.search_stack.specs.ArrayFields.{AreArrays, AreRanges, ArePlaces, entry_in, met_in, stack_in}
use Rattle.search_stack.specs.GoodSearch.{IsGood, StandsIn}
use Rattle.search_stack.specs.PlainSearch.{IsSeen}
use Rattle.search_stack.specs.Search.{IsDone, IsLastBegun, IsOn, lowered, next_successor, nodes_from, one_more_begun, pushed, retreated, below_frame}
use Rattle.search_stack.specs.Stack.{Stack, IsShaped, begun, height, node, position, size, succs, target, top}
use Rattle.search_stack.proofs.ArrayLaws.{HoldsNode, begun_is, long_as, node_read, nodes_is, pushed_is, ranges_push, ranges_set, ranges_take, taken_is}
use Rattle.search_stack.proofs.Back.{good_back}
use Rattle.search_stack.proofs.Changes.{Begins, Keeps}
use Rattle.search_stack.proofs.Edges.{good_finished}
use Rattle.search_stack.proofs.Frames.{position_within}
use Rattle.search_stack.proofs.FrameSteps.{Tops, has_frames, lowered_same, lowered_with, retreated_with, tall_as, tops_sliced, tops_with}
use Rattle.search_stack.proofs.Shapes.{empty_size, no_frames, shaped_back, shaped_begin, shaped_below, shaped_empty, shaped_push, shaped_retreat}
use Rattle.search_stack.proofs.ArrayPlaces.{has_room, met_place, met_read, met_take, off_is_found, places_push, places_same, places_take, stands_at, unmet_place}
use Rattle.search_stack.proofs.Steps.{begins, holds_from, keeps, lowers, pushes, retreats}
use Rattle.search_stack.proofs.Taken.{HoldsFrom}
use Rattle.search_stack.proofs.UnderWay.{same_begins, same_lowers, same_retreats}

-- the stack of the arrays
abbrev pub arrayed : Inside → Stack
arrayed fields = stack_in fields.succs.items fields.nodes.items fields.frames.items

-- the node of the top frame
pub record TopNode (s : Stack) (list : List ℕ) (frame : Frame) (it : OpenNode) : Type 0 where
  pub tops : Tops s frame
  pub holds : HoldsNode s list frame.position it
  pub fits : it.start + it.count ≤ length list
  pub long : length (take it.count (drop it.start list)) ≡ it.count
  pub begun_le : it.begun ≤ it.count
  pub succs_is : succs s (position s (top s)) ≡ take it.count (drop it.start list)
  pub begun_is : begun s (position s (top s)) ≡ it.begun

module _ {places : List ℕ} {nodes : List OpenNode} {frames : List Frame} {list : List ℕ} (are : AreArrays places nodes frames list) where
  pub tall : height (stack_in list nodes frames) ≡ length frames
  tall = tall_as (map (entry_in list) nodes) frames

  -- there is room for one node more, whose number a `u32` counts
  pub room_for_one : {v place : ℕ} → v < length (met_in places) → get_or (met_in places) v false ≡ false → place ≡ length nodes
      → place + 1 < 2 ^ 32
  room_for_one {v} {place} lt unmet at =
      let within : v < length places = omega (arith, lt, length-map places (λ each. not (nat_eq each 0))) in
      omega
      (arith, has_room are.are_places within (unmet_place places v unmet), are.are_places.small, at, long_as list nodes frames)

  pub some_frames : 0 < size (stack_in list nodes frames) → 0 < length frames
  some_frames some = has_frames (map (entry_in list) nodes) frames are.shaped some

  -- the top frame, as it is read from a slice
  pub top_sliced : {now : List Frame} {frame : Frame} → 0 < length frames → now ≡ frames
      → frame ≡ get_or now (length now - 1) (record { position = 0; low = 0 }) → Tops (stack_in list nodes frames) frame
  top_sliced {now} {frame} some slice read =
      tops_sliced (map (entry_in list) nodes) frames now frame (record { position = 0; low = 0 }) are.shaped some slice read

  -- and as it is read at the last place
  pub top_counted : {frame : Frame} {count : ℕ} → 0 < length frames → count ≡ length frames → frame ≡ get_or frames (count - 1) frame
      → Tops (stack_in list nodes frames) frame
  top_counted {frame} {count} some counted read =
      tops_with (map (entry_in list) nodes) frames (count - 1) frame frame are.shaped some (omega (arith, counted)) read

  pub node_within : {frame : Frame} → Tops (stack_in list nodes frames) frame → frame.position < length nodes
  node_within {frame} tops = omega (arith, tops.within, long_as list nodes frames)

  pub top_node : {frame : Frame} {it : OpenNode} → Tops (stack_in list nodes frames) frame → it ≡ get_or nodes frame.position it
      → TopNode (stack_in list nodes frames) list frame it
  top_node {frame} {it} tops read =
      let s : Stack = stack_in list nodes frames in
      let lt : frame.position < length nodes = node_within tops in
      let holds : HoldsNode s list frame.position it = node_read list nodes frames frame.position it it lt read in
      let fits : it.start + it.count ≤ length list =
      omega (
        arith,
        are.ranges.within frame.position it lt,
        ap (λ (each : OpenNode). each.start) read,
        ap (λ (each : OpenNode). each.count) read,
      ) in
      let long : length (take it.count (drop it.start list)) ≡ it.count =
      length-take-le it.count (drop it.start list) (omega (arith, fits, length-drop it.start list)) in
      record {
        tops = tops;
        holds = holds;
        fits = fits;
        long = long;
        begun_le =
            omega
            (arith, are.shaped.begun_le frame.position tops.within, ap length holds.succs_is, holds.begun_is, long);
        succs_is = ap (succs s) tops.position_is ∙ holds.succs_is;
        begun_is = ap (begun s) tops.position_is ∙ holds.begun_is;
      }

  -- what leads to a pushed node, where nothing is said of the frames
  pub led_frame : {v : ℕ} → (size (stack_in list nodes frames) ≡ 0) ⊎ IsLastBegun (stack_in list nodes frames) v
      → (height (stack_in list nodes frames) ≡ 0) ⊎ IsLastBegun (stack_in list nodes frames) v
  led_frame {v} led =
      elim led as (λ _. (height (stack_in list nodes frames) ≡ 0) ⊎ IsLastBegun (stack_in list nodes frames) v)
      [ inl none ↦ inl (no_frames are.shaped none) | inr last ↦ inr last ]

  -- a node that wasn't met is pushed
  pub pushed_arrays : (v place : ℕ) (more : List ℕ) {start count : ℕ} {new_nodes : List OpenNode} {new_frames : List Frame} {new_list : List ℕ}
      → v < length (met_in places) → get_or (met_in places) v false ≡ false
      → (size (stack_in list nodes frames) ≡ 0) ⊎ IsLastBegun (stack_in list nodes frames) v
      → place ≡ length nodes → start ≡ length list → count ≡ length more
      → new_nodes ≡ nodes ++ (record { start = start; count = count; begun = 0; node = v }) ∷ []
      → new_frames ≡ frames ++ (record { position = place; low = place }) ∷ [] → new_list ≡ list ++ more
      → (stack_in new_list new_nodes new_frames ≡ pushed (stack_in list nodes frames) v more)
      × AreArrays (set places v (place + 1)) new_nodes new_frames new_list
  pushed_arrays v place more {start} {count} {new_nodes} {new_frames} {new_list} lt unmet led at first long nodes_are frames_are list_is =
      let s : Stack = stack_in list nodes frames in
      let it : OpenNode = record { start = start; count = count; begun = 0; node = v } in
      let is : stack_in new_list new_nodes new_frames ≡ pushed s v more =
      (λ k. stack_in (list_is k) (nodes_are k) (frames_are k)) ∙ pushed_is list more nodes frames v place start count are.ranges at first long in
      let new = pushes s v more in
      let within : v < length places = omega (arith, lt, length-map places (λ each. not (nat_eq each 0))) in
      let ranges : AreRanges (nodes ++ it ∷ []) (length list + length more) = ranges_push nodes (length list) (length more) it are.ranges first long in
      let longer : length list + length more ≡ length new_list = sym (ap length list_is ∙ length-append list more) in
      let R : List OpenNode → Type 0 = λ each. AreRanges each (length new_list) in (
        is,
        record {
          shaped = subst IsShaped (sym is) (shaped_push are.shaped new (led_frame led));
          ranges = subst R (sym nodes_are) (subst (AreRanges (nodes ++ it ∷ [])) longer ranges);
          are_places =
              subst (ArePlaces (set places v (place + 1))) (sym is)
              (places_push place are.are_places new within (unmet_place places v unmet) (at ∙ sym (long_as list nodes frames)));
        },
      )

  -- all have begun
  pub all_begun : {frame : Frame} {it : OpenNode} → TopNode (stack_in list nodes frames) list frame it → it.begun ≡ it.count
      → IsDone (stack_in list nodes frames) × (next_successor (stack_in list nodes frames) ≡ None)
  unfolding next_successor
  all_begun {frame} {it} read all =
      let s : Stack = stack_in list nodes frames in
      let every : begun s (position s (top s)) ≡ length (succs s (position s (top s))) =
      omega (arith, read.begun_is, all, read.long, ap length read.succs_is) in (
        record { some = read.tops.some; all = every },
        slice_get_past (succs s (position s (top s))) (begun s (position s (top s))) (omega (arith, every)),
      )

  -- there is one more to begin
  pub more_within : {frame : Frame} {it : OpenNode} → TopNode (stack_in list nodes frames) list frame it → (it.begun ≡ it.count → ⊥)
      → it.begun < it.count
  more_within {frame} {it} read some = omega (arith, some, read.begun_le)

  -- what begins
  pub next_read : {frame : Frame} {it : OpenNode} {v : ℕ} → TopNode (stack_in list nodes frames) list frame it → it.begun < it.count
      → v ≡ get_or list (it.start + it.begun) v
      → (next_successor (stack_in list nodes frames) ≡ Some v)
      × (v ≡ target (stack_in list nodes frames) (position (stack_in list nodes frames) (top (stack_in list nodes frames)))
      (begun (stack_in list nodes frames) (position (stack_in list nodes frames) (top (stack_in list nodes frames)))))
  unfolding next_successor
  next_read {frame} {it} {v} read more at =
      let s : Stack = stack_in list nodes frames in
      let range : List ℕ = take it.count (drop it.start list) in
      let here : (d : ℕ) → get_or range it.begun d ≡ get_or list (it.start + it.begun) d = λ d.
      get_or-take it.count (drop it.start list) it.begun d more ∙ get_or-drop it.start list it.begun d in
      let there : (d : ℕ) → get_or (succs s (position s (top s))) (begun s (position s (top s))) d ≡ get_or list (it.start + it.begun) d = λ d.
      ap (λ xs. get_or xs (begun s (position s (top s))) d) read.succs_is ∙ ap (λ k. get_or range k d) read.begun_is ∙ here d in
      let lt : begun s (position s (top s)) < length (succs s (position s (top s))) =
      omega (arith, more, read.begun_is, read.long, ap length read.succs_is) in
      let within : it.start + it.begun < length list = omega (arith, more, read.fits) in (
        slice_get_read (succs s (position s (top s))) (length (succs s (position s (top s)))) (begun s (position s (top s))) v refl lt
            (at ∙ sym (there v)),
        at ∙ get_or_default list (it.start + it.begun) v 0 within ∙ sym (there 0),
      )

  -- the node of the top frame, as it is read and as it is lent, begins one more
  pub begun_arrays : {frame : Frame} {it lent : OpenNode} → TopNode (stack_in list nodes frames) list frame it → it.begun < it.count
      → it ≡ get_or nodes frame.position it → lent ≡ get_or nodes frame.position lent
      → (stack_in list (set nodes frame.position (record { start = lent.start; count = lent.count; begun = it.begun + 1; node = lent.node })) frames
      ≡ one_more_begun (stack_in list nodes frames) (position (stack_in list nodes frames) (top (stack_in list nodes frames))))
      × AreArrays places (set nodes frame.position (record { start = lent.start; count = lent.count; begun = it.begun + 1; node = lent.node })) frames list
  begun_arrays {frame} {it} {lent} read more at lent_at =
      let s : Stack = stack_in list nodes frames in
      let lt : frame.position < length nodes = node_within read.tops in
      let same : it ≡ lent = at ∙ get_or_default nodes frame.position it lent lt ∙ sym lent_at in
      let new : OpenNode = record { start = lent.start; count = lent.count; begun = it.begun + 1; node = lent.node } in
      let holds : HoldsNode s list frame.position lent = subst (HoldsNode s list frame.position) same read.holds in
      let is : stack_in list (set nodes frame.position new) frames ≡ one_more_begun s (position s (top s)) =
      begun_is list nodes frames frame.position (it.begun + 1) lent holds (ap (λ (each : OpenNode). each.begun + 1) same)
      ∙ ap (one_more_begun s) (sym read.tops.position_is) in
      let step : Begins s (one_more_begun s (position s (top s))) (position s (top s)) =
      begins s (position s (top s)) (omega (arith, read.tops.within, read.tops.position_is)) in
      let to_begin : begun s (position s (top s)) < length (succs s (position s (top s))) =
      omega (arith, more, read.begun_is, read.long, ap length read.succs_is) in (
        is,
        record {
          shaped = subst IsShaped (sym is) (shaped_begin are.shaped step to_begin);
          ranges = ranges_set nodes (length list) frame.position lent new are.ranges lt lent_at refl refl;
          are_places = subst (ArePlaces places) (sym is) (places_same (same_begins step) are.are_places);
        },
      )

  -- the edge that begins
  pub top_begins : {frame : Frame} {it : OpenNode} → TopNode (stack_in list nodes frames) list frame it
      → Begins (stack_in list nodes frames)
      (one_more_begun (stack_in list nodes frames) (position (stack_in list nodes frames) (top (stack_in list nodes frames))))
      (position (stack_in list nodes frames) (top (stack_in list nodes frames)))
  top_begins {frame} {it} read =
      begins (stack_in list nodes frames) (position (stack_in list nodes frames) (top (stack_in list nodes frames)))
      (omega (arith, read.tops.within, read.tops.position_is))

  pub to_begin : {frame : Frame} {it : OpenNode} → TopNode (stack_in list nodes frames) list frame it → it.begun < it.count
      → begun (stack_in list nodes frames) (position (stack_in list nodes frames) (top (stack_in list nodes frames)))
      < length (succs (stack_in list nodes frames) (position (stack_in list nodes frames) (top (stack_in list nodes frames))))
  to_begin {frame} {it} read more = omega (arith, more, read.begun_is, read.long, ap length read.succs_is)

  -- the top frame is lowered by the place of a node that was met
  pub lowered_arrays : (place : ℕ) {frame : Frame} {count least : ℕ} → Tops (stack_in list nodes frames) frame → count ≡ length frames
      → least ≡ min frame.low place
      → (stack_in list nodes (set frames (count - 1) (record { position = frame.position; low = least })) ≡ lowered (stack_in list nodes frames) place)
      × AreArrays places nodes (set frames (count - 1) (record { position = frame.position; low = least })) list
  lowered_arrays place {frame} {count} {least} tops counted lesser =
      let s : Stack = stack_in list nodes frames in
      let is : stack_in list nodes (set frames (count - 1) (record { position = frame.position; low = least })) ≡ lowered s place =
      lowered_with (map (entry_in list) nodes) frames (count - 1) place least frame tops (omega (arith, counted)) lesser in
      let step = lowers s place tops.some in (
        is,
        record {
          shaped = subst IsShaped (sym is) (shaped_back are.shaped step);
          ranges = are.ranges;
          are_places = subst (ArePlaces places) (sym is) (places_same (same_lowers step) are.are_places);
        },
      )

  -- the place of a node on the stack
  pub place_on : {v slot place : ℕ} → slot ≡ get_or places v 0 → place < size (stack_in list nodes frames)
      → node (stack_in list nodes frames) place ≡ v → slot - 1 ≡ place
  place_on {v} {slot} {place} read lt is =
      let on : IsOn (stack_in list nodes frames) v = record { place = place; within = lt; is = is } in
      omega (arith, read, stands_at are.are_places on)

  -- the mark of a node in a group changes nothing
  pub lowered_by_mark : (v : ℕ) {slot : ℕ} → slot ≡ get_or places v 0 → get_or places v 0 ≡ FOUND
      → 0 < height (stack_in list nodes frames) → lowered (stack_in list nodes frames) (slot - 1) ≡ stack_in list nodes frames
  lowered_by_mark v {slot} read found some =
      let s : Stack = stack_in list nodes frames in
      let lt : top s < height s = omega (arith, some) in
      lowered_same s (slot - 1) some
      (omega (
        arith,
        read,
        found,
        are.shaped.low_le (top s) lt,
        position_within are.shaped (top s) lt,
        are.are_places.room,
        are.are_places.small,
      ))

  -- and so does that of a node that was met and isn't on the stack
  pub lowered_by_found : {v slot : ℕ} → slot ≡ get_or places v 0 → IsSeen (met_in places) v → (IsOn (stack_in list nodes frames) v → ⊥)
      → 0 < height (stack_in list nodes frames) → lowered (stack_in list nodes frames) (slot - 1) ≡ stack_in list nodes frames
  lowered_by_found {v} {slot} read met off some = lowered_by_mark v read (off_is_found are.are_places met off) some

  -- the place of a node that was met, as it is read
  pub slot_read : (v : ℕ) {slot : ℕ} → IsSeen (met_in places) v → slot ≡ get_or places v slot → slot ≡ get_or places v 0
  slot_read v {slot} met read =
      elim (cases_lt v (length places)) as (λ _. slot ≡ get_or places v 0) [
        | inl lt ↦ read ∙ get_or_default places v slot 0 lt
        | inr past ↦ absurd (met_place places v met (get_or_past places v 0 past))
      ]

  -- the edge to a node that was met is settled, wherever it leads
  pub good_settled : {lists : List (List ℕ)} {roots done : List ℕ} {v slot : ℕ} → slot ≡ get_or places v 0 → IsSeen (met_in places) v
      → IsLastBegun (stack_in list nodes frames) v → IsGood lists roots done true (stack_in list nodes frames)
      → IsOn (stack_in list nodes frames) v ⊎ Contains done v
      → IsGood lists roots done false (lowered (stack_in list nodes frames) (slot - 1))
  good_settled {lists} {roots} {done} {v} {slot} read met last good either =
      let s : Stack = stack_in list nodes frames in
      let P : Stack → Type 0 = λ t. IsGood lists roots done false t in
      let on_stack : IsOn s v → P (lowered s (slot - 1)) = λ on.
      let at : slot - 1 ≡ on.place = place_on read on.within on.is in
      let Q : ℕ → Type 0 = λ k. P (lowered s k) in
      subst Q (sym at) (good_back good (lowers s on.place last.some) on.within (subst (IsLastBegun s) (sym on.is) last)) in
      elim (are.are_places.others v) as (λ _. P (lowered s (slot - 1))) [
        | inl none ↦ absurd (met_place places v met none)
        | inr there ↦
            elim there as (λ _. P (lowered s (slot - 1))) [
              | inl found ↦
                  elim either as (λ _. P (lowered s (slot - 1))) [
                    | inl on ↦ on_stack on
                    | inr finished ↦ subst P (sym (lowered_by_mark v read found last.some)) (good_finished good last finished)
                  ]
              | inr on ↦ on_stack on
            ]
      ]

  -- the top segment is joined to the one below
  pub retreated_arrays : {joined frame : Frame} {count least : ℕ} {left : List Frame} → 2 ≤ length frames → count ≡ length frames
      → joined ≡ get_or frames (count - 1) joined → left ≡ take (count - 1) frames → frame ≡ get_or left (count - 1 - 1) frame
      → least ≡ min frame.low joined.low
      → (stack_in list nodes (set left (count - 1 - 1) (record { position = frame.position; low = least })) ≡ retreated (stack_in list nodes frames))
      × AreArrays places nodes (set left (count - 1 - 1) (record { position = frame.position; low = least })) list
  retreated_arrays {joined} {frame} {count} {least} {left} two counted read left_is below lesser =
      let s : Stack = stack_in list nodes frames in
      let is : stack_in list nodes (set left (count - 1 - 1) (record { position = frame.position; low = least })) ≡ retreated s =
      (λ k. stack_in list nodes (set (left_is k) (count - 1 - 1) (record { position = frame.position; low = least })))
      ∙ retreated_with (map (entry_in list) nodes) frames (count - 1) least joined frame joined frame two (omega (arith, counted)) read
      (below ∙ ap (λ fs. get_or fs (count - 1 - 1) frame) left_is) lesser in
      let step = retreats s (omega (arith, two, tall_as (map (entry_in list) nodes) frames)) in (
        is,
        record {
          shaped = subst IsShaped (sym is) (shaped_retreat are.shaped step);
          ranges = are.ranges;
          are_places = subst (ArePlaces places) (sym is) (places_same (same_retreats step) are.are_places);
        },
      )

  -- the nodes of the top segment, as they are collected
  pub group_is : {frame : Frame} {group : List ℕ} {rest : List OpenNode} → Tops (stack_in list nodes frames) frame
      → group ≡ map (λ it. it.node) rest → rest ≡ drop frame.position nodes
      → group ≡ nodes_from (stack_in list nodes frames) (top (stack_in list nodes frames))
  group_is {frame} {group} {rest} tops collected rest_is =
      collected ∙ ap (map (λ (it : OpenNode). it.node)) rest_is ∙ nodes_is list nodes frames frame tops

  -- they are nodes of the graph
  pub group_within : {group : List ℕ} → group ≡ nodes_from (stack_in list nodes frames) (top (stack_in list nodes frames))
      → All (λ v. v < length places) group
  group_within {group} group_are k d lt =
      let s : Stack = stack_in list nodes frames in
      let holds : HoldsFrom s (position s (top s)) group = subst (HoldsFrom s (position s (top s))) (sym group_are) (holds_from s (top s)) in
      let v : ℕ = get_or group k d in
      let stands : StandsIn s (position s (top s)) (size s) v = holds.to v (Contains-get_or group k d lt) in
      let on : IsOn s v = record { place = stands.place; within = stands.below; is = stands.is } in
      elim (cases_lt v (length places)) as (λ _. v < length places) [
        | inl within ↦ within
        | inr past ↦ absurd (omega (arith, stands_at are.are_places on, get_or_past places v 0 past))
      ]

  -- the top segment is gone, and its nodes are found
  pub taken_arrays : {frame : Frame} {it : OpenNode} {count : ℕ} {group new_places : List ℕ} {new_nodes : List OpenNode} {new_frames : List Frame}
      {new_list : List ℕ} → TopNode (stack_in list nodes frames) list frame it → it ≡ get_or nodes frame.position it → count ≡ length frames
      → group ≡ nodes_from (stack_in list nodes frames) (top (stack_in list nodes frames))
      → IsStamped group FOUND places new_places
      → new_nodes ≡ take frame.position nodes → new_frames ≡ take (count - 1) frames → new_list ≡ take it.start list
      → (stack_in new_list new_nodes new_frames ≡ below_frame (stack_in list nodes frames) (top (stack_in list nodes frames)))
      × ((met_in new_places ≡ met_in places) × AreArrays new_places new_nodes new_frames new_list)
  taken_arrays {frame} {it} {count} {group} {new_places} {new_nodes} {new_frames} {new_list} read at counted group_are stamped nodes_are frames_are list_is =
      let s : Stack = stack_in list nodes frames in
      let lt : frame.position < length nodes = node_within read.tops in
      let first : it.start ≡ (get_or nodes frame.position it).start = ap (λ (each : OpenNode). each.start) at in
      let is : stack_in new_list new_nodes new_frames ≡ below_frame s (top s) =
      (λ k. stack_in (list_is k) (nodes_are k) (frames_are k))
      ∙ taken_is list nodes frames (count - 1) it.start frame it are.ranges read.tops (omega (arith, counted)) first in
      let kept : Keeps s (below_frame s (top s)) (top s) = keeps s (top s) are.shaped (omega (arith, read.tops.some)) in
      let holds : HoldsFrom s (position s (top s)) group = subst (HoldsFrom s (position s (top s))) (sym group_are) (holds_from s (top s)) in
      let ranges : AreRanges (take frame.position nodes) it.start = ranges_take nodes (length list) frame.position it.start it are.ranges lt first in
      let shorter : it.start ≡ length new_list = sym (ap length list_is ∙ length-take-le it.start list (omega (arith, read.fits))) in
      let R : List OpenNode → Type 0 = λ each. AreRanges each (length new_list) in (
        is,
        (
          met_take are.are_places are.shaped kept holds stamped,
          record {
            shaped = subst IsShaped (sym is) (shaped_below are.shaped kept);
            ranges = subst R (sym nodes_are) (subst (AreRanges (take frame.position nodes)) shorter ranges);
            are_places = subst (ArePlaces new_places) (sym is) (places_take are.are_places are.shaped kept holds stamped);
          },
        ),
      )

-- no node was met
pub none_met : (count : ℕ) → met_in (replicate count 0) ≡ replicate count false
none_met count =
    let f : ℕ → Bool = λ each. not (nat_eq each 0) in
    let long : length (met_in (replicate count 0)) ≡ count = length-map (replicate count 0) f ∙ length-replicate count 0 in
    ext_get_or false (met_in (replicate count 0)) (replicate count false) (long ∙ sym (length-replicate count false))
    (λ v lt.
    let below : v < count = omega (arith, lt, long) in
    met_read (replicate count 0) v ∙ ap (λ k. not (nat_eq k 0)) (get_or-replicate count v 0 0 below)
    ∙ sym (get_or-replicate count v false false below))

zero_at : (count v : ℕ) → ◌≡◌ {A = ℕ} (get_or (replicate count 0) v 0) 0
zero_at count v =
    elim (cases_lt v count) as (λ _. ◌≡◌ {A = ℕ} (get_or (replicate count 0) v 0) 0) [
      | inl lt ↦ get_or-replicate count v 0 0 lt
      | inr past ↦ get_or_past (replicate count 0) v 0 (omega (arith, past, length-replicate {A = ℕ} count 0))
    ]

-- before the first node
pub no_arrays : {count : ℕ} {places : List ℕ} {nodes : List OpenNode} {frames : List Frame} {list : List ℕ} → count < 2 ^ 32
    → places ≡ replicate count 0 → nodes ≡ [] → frames ≡ [] → list ≡ [] → AreArrays places nodes frames list
no_arrays {count} {places} {nodes} {frames} {list} few places_are no_nodes no_frame no_list =
    let P : List ℕ → List OpenNode → List Frame → List ℕ → Type 0 = λ ps ns fs xs. AreArrays ps ns fs xs in
    let empty : AreArrays (replicate count 0) [] [] [] = record {
      shaped = shaped_empty;
      ranges = record { within = λ k d lt. absurd (omega (arith, lt)); rise = λ i j d below lt. absurd (omega (arith, lt)) };
      are_places = record {
        standing = λ i lt. absurd (omega (arith, lt, empty_size));
        others = λ v. inl (zero_at count v);
        room =
            omega (
              arith,
              empty_size,
              count_by-le-length not (met_in (replicate count 0)),
              ap length (none_met count),
              length-replicate count false,
              length-replicate {A = ℕ} count 0,
            );
        small = omega (arith, few, length-replicate {A = ℕ} count 0);
      };
    } in
    subst (λ ps. AreArrays ps nodes frames list) (sym places_are)
    (subst (λ ns. AreArrays (replicate count 0) ns frames list) (sym no_nodes)
    (subst (λ fs. AreArrays (replicate count 0) [] fs list) (sym no_frame)
    (subst (λ xs. AreArrays (replicate count 0) [] [] xs) (sym no_list) empty)))
