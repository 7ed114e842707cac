-- What the calls of a search make of its lists, place by place.
use Rattle.std.proofs.Common.{◌≡◌, inl, inr, ℕ, ◌<◌, ◌≤◌, ◌+◌, ◌-◌, min, List, [], ◌∷◌, ◌++◌, length, get_or, take, drop, set, map, refl, ap, ◌∙◌, sym, arith}
use Rattle.std.proofs.lemmas.Bool.{cases_lt, cases_eq}
use Rattle.std.proofs.lemmas.List.{get_or_append_left, get_or_push, length_push, get_or_past, get_or_default, get_or-set_same, get_or-set_other, length-set, get_or-take, length-take-le, get_or-map, length-map, get_or-drop, length-drop}
use Rattle.search_stack.specs.declared.frame.Frame.{Frame}
use Rattle.search_stack.specs.Stack.{Entry, Stack, IsShaped, size, height, top, node, succs, begun, position, low}
use Rattle.search_stack.specs.Search.{pushed, one_more_begun, lowered, retreated, below_frame, nodes_from}
use Rattle.search_stack.proofs.Changes.{Pushes, Begins, Lowers, Retreats, Keeps}
use Rattle.search_stack.proofs.Frames.{position_end, position_past, position_within}
use Rattle.search_stack.proofs.Taken.{HoldsFrom}

-- what is read of a frame that is there
pub position_of : (s : Stack) (j : ℕ) (frame d : Frame) → j < height s → get_or s.frames j d ≡ frame → position s j ≡ frame.position
unfolding position height
position_of s j frame d lt is =
    ap (λ f. f.position) (get_or_default s.frames j (record { position = length s.entries; low = 0 }) d lt ∙ is)

pub low_of : (s : Stack) (j : ℕ) (frame d : Frame) → j < height s → get_or s.frames j d ≡ frame → low s j ≡ frame.low
unfolding low height
low_of s j frame d lt is = ap (λ f. f.low) (get_or_default s.frames j (record { position = 0; low = 0 }) d lt ∙ is)

-- a frame that stands in both
pub same_position : (s t : Stack) (j k : ℕ) (d : Frame) → j < height s → k < height t → get_or t.frames k d ≡ get_or s.frames j d
    → position t k ≡ position s j
same_position s t j k d lt within is =
    position_of t k (get_or t.frames k d) d within refl ∙ ap (λ f. f.position) is ∙ sym (position_of s j (get_or s.frames j d) d lt refl)

pub same_low : (s t : Stack) (j k : ℕ) (d : Frame) → j < height s → k < height t → get_or t.frames k d ≡ get_or s.frames j d
    → low t k ≡ low s j
same_low s t j k d lt within is =
    low_of t k (get_or t.frames k d) d within refl ∙ ap (λ f. f.low) is ∙ sym (low_of s j (get_or s.frames j d) d lt refl)

frame_low : (s t : Stack) (j : ℕ) → t.frames ≡ s.frames → low t j ≡ low s j
unfolding low
frame_low s t j is = ap (λ (frames : List Frame). (get_or frames j (record { position = 0; low = 0 })).low) is

-- the same entry, read from two lists
pub same_node : (s t : Stack) (i : ℕ) → ((d : Entry) → get_or t.entries i d ≡ get_or s.entries i d) → node t i ≡ node s i
unfolding node
same_node s t i is = ap (λ e. e.node) (is (record { node = 0; succs = []; begun = 0 }))

pub same_succs : (s t : Stack) (i : ℕ) → ((d : Entry) → get_or t.entries i d ≡ get_or s.entries i d) → succs t i ≡ succs s i
unfolding succs
same_succs s t i is = ap (λ e. e.succs) (is (record { node = 0; succs = []; begun = 0 }))

pub same_begun : (s t : Stack) (i : ℕ) → ((d : Entry) → get_or t.entries i d ≡ get_or s.entries i d) → begun t i ≡ begun s i
unfolding begun
same_begun s t i is = ap (λ e. e.begun) (is (record { node = 0; succs = []; begun = 0 }))

pub pushes : (s : Stack) (v : ℕ) (list : List ℕ) → Pushes s (pushed s v list) v list
unfolding size height node succs begun pushed
pushes s v list =
    let old : (i : ℕ) → i < length s.entries → (d : Entry) → get_or (pushed s v list).entries i d ≡ get_or s.entries i d = λ i lt d.
    get_or_append_left s.entries ((record { node = v; succs = list; begun = 0 }) ∷ []) d i lt in
    let new : (d : Entry) → get_or (pushed s v list).entries (length s.entries) d ≡ record { node = v; succs = list; begun = 0 } = λ d.
    get_or_push s.entries (record { node = v; succs = list; begun = 0 }) d (length s.entries) refl in
    let no_entry : Entry = record { node = 0; succs = []; begun = 0 } in
    let frame : Frame = record { position = length s.entries; low = length s.entries } in
    let taller : length (s.frames ++ frame ∷ []) ≡ length s.frames + 1 = length_push s.frames frame in
    record {
      size_is = length_push s.entries (record { node = v; succs = list; begun = 0 });
      height_is = taller;
      position_is = λ j le.
          elim (cases_lt j (length s.frames)) as (λ _. position (pushed s v list) j ≡ position s j) [
            | inl lt ↦
                same_position s (pushed s v list) j j frame lt (omega (arith, lt, taller)) (get_or_append_left s.frames (frame ∷ []) frame j lt)
            | inr past ↦
                let is : j ≡ length s.frames = omega (arith, past, le) in
                position_of (pushed s v list) j frame frame (omega (arith, is, taller)) (get_or_push s.frames frame frame j (sym is))
                ∙ sym (ap (position s) is ∙ position_end s)
          ];
      low_is = λ j lt.
          same_low s (pushed s v list) j j frame lt (omega (arith, lt, taller)) (get_or_append_left s.frames (frame ∷ []) frame j lt);
      low_new =
          low_of (pushed s v list) (length s.frames) frame frame (omega (arith, taller)) (get_or_push s.frames frame frame (length s.frames) refl);
      node_is = λ i lt. same_node s (pushed s v list) i (old i lt);
      node_new = ap (λ e. e.node) (new no_entry);
      succs_is = λ i lt. same_succs s (pushed s v list) i (old i lt);
      succs_new = ap (λ e. e.succs) (new no_entry);
      begun_is = λ i lt. same_begun s (pushed s v list) i (old i lt);
      begun_new = ap (λ e. e.begun) (new no_entry);
    }

-- a frame is written over, at its position
module _ (s t : Stack) (k : ℕ) (frame : Frame) (within : k < height s) (frames_are : t.frames ≡ set s.frames k frame)
    (entries_are : t.entries ≡ s.entries) where
  written_height : height t ≡ height s
  unfolding height
  written_height = ap length frames_are ∙ length-set s.frames k frame

  written_read : get_or t.frames k frame ≡ frame
  unfolding height
  written_read = ap (λ xs. get_or xs k frame) frames_are ∙ get_or-set_same s.frames k frame frame within

  unwritten_read : (j : ℕ) → (j ≡ k → ⊥) → get_or t.frames j frame ≡ get_or s.frames j frame
  unwritten_read j ne = ap (λ xs. get_or xs j frame) frames_are ∙ get_or-set_other s.frames k j frame frame ne

  written_size : size t ≡ size s
  unfolding size
  written_size = ap length entries_are

  written_position : frame.position ≡ position s k → (j : ℕ) → position t j ≡ position s j
  written_position at j =
      elim (cases_lt j (height s)) as (λ _. position t j ≡ position s j) [
        | inl lt ↦
            elim (cases_eq j k) as (λ _. position t j ≡ position s j) [
              | inl is ↦
                  ap (position t) is ∙ position_of t k frame frame (omega (arith, within, written_height)) written_read ∙ at
                  ∙ sym (ap (position s) is)
              | inr ne ↦ same_position s t j j frame lt (omega (arith, lt, written_height)) (unwritten_read j ne)
            ]
        | inr past ↦ position_past t j (omega (arith, past, written_height)) ∙ written_size ∙ sym (position_past s j past)
      ]

  low_past : (u : Stack) (j : ℕ) → height u ≤ j → low u j ≡ 0
  unfolding low height
  low_past u j past = ap (λ f. f.low) (get_or_past u.frames j (record { position = 0; low = 0 }) past)

  written_low : low t k ≡ frame.low
  written_low = low_of t k frame frame (omega (arith, within, written_height)) written_read

  unwritten_low : (j : ℕ) → (j ≡ k → ⊥) → low t j ≡ low s j
  unwritten_low j ne =
      elim (cases_lt j (height s)) as (λ _. low t j ≡ low s j) [
        | inl lt ↦ same_low s t j j frame lt (omega (arith, lt, written_height)) (unwritten_read j ne)
        | inr past ↦ low_past t j (omega (arith, past, written_height)) ∙ sym (low_past s j past)
      ]

  read_entry : (i : ℕ) (d : Entry) → get_or t.entries i d ≡ get_or s.entries i d
  read_entry i d = ap (λ xs. get_or xs i d) entries_are

pub lowers : (s : Stack) (place : ℕ) → 0 < height s → Lowers s (lowered s place) (top s) place
unfolding lowered
lowers s place some =
    let t : Stack = lowered s place in
    let frame : Frame = record { position = position s (top s); low = min (low s (top s)) place } in
    let within : top s < height s = omega (arith, some) in
    record {
      size_is = written_size s t (top s) frame within refl refl;
      height_is = written_height s t (top s) frame within refl refl;
      position_is = written_position s t (top s) frame within refl refl refl;
      low_is = unwritten_low s t (top s) frame within refl refl;
      low_new = written_low s t (top s) frame within refl refl;
      node_is = λ i. same_node s t i (read_entry s t (top s) frame within refl refl i);
      succs_is = λ i. same_succs s t i (read_entry s t (top s) frame within refl refl i);
      begun_is = λ i. same_begun s t i (read_entry s t (top s) frame within refl refl i);
    }

-- an entry is written over
pub begins : (s : Stack) (place : ℕ) → place < size s → Begins s (one_more_begun s place) place
unfolding one_more_begun size height node succs begun
begins s place within =
    let t : Stack = one_more_begun s place in
    let entry : Entry = record { node = node s place; succs = succs s place; begun = begun s place + 1 } in
    let no_entry : Entry = record { node = 0; succs = []; begun = 0 } in
    let written : get_or t.entries place no_entry ≡ entry = get_or-set_same s.entries place entry no_entry within in
    let others : (i : ℕ) → (i ≡ place → ⊥) → (d : Entry) → get_or t.entries i d ≡ get_or s.entries i d = λ i ne d.
    get_or-set_other s.entries place i entry d ne in
    let long : length t.entries ≡ length s.entries = length-set s.entries place entry in
    record {
      size_is = long;
      height_is = refl;
      position_is = λ j.
          elim (cases_lt j (length s.frames)) as (λ _. position t j ≡ position s j) [
            | inl lt ↦ same_position s t j j (record { position = 0; low = 0 }) lt lt refl
            | inr past ↦ position_past t j past ∙ long ∙ sym (position_past s j past)
          ];
      low_is = λ j. frame_low s t j refl;
      node_is = λ i.
          elim (cases_eq i place) as (λ _. node t i ≡ node s i) [
            | inl is ↦ ap (node t) is ∙ ap (λ e. e.node) written ∙ sym (ap (node s) is)
            | inr ne ↦ same_node s t i (others i ne)
          ];
      succs_is = λ i.
          elim (cases_eq i place) as (λ _. succs t i ≡ succs s i) [
            | inl is ↦ ap (succs t) is ∙ ap (λ e. e.succs) written ∙ sym (ap (succs s) is)
            | inr ne ↦ same_succs s t i (others i ne)
          ];
      begun_is = λ i ne. same_begun s t i (others i ne);
      begun_one_more = ap (λ e. e.begun) written;
    }

pub retreats : (s : Stack) → 2 ≤ height s → Retreats s (retreated s) (top s - 1)
unfolding retreated height size
retreats s two =
    let t : Stack = retreated s in
    let cut : Stack = record { entries = s.entries; frames = take (top s) s.frames } in
    let k : ℕ = top s - 1 in
    let frame : Frame = record { position = position s k; low = min (low s k) (low s (top s)) } in
    let cut_height : height cut ≡ top s = length-take-le (top s) s.frames (omega arith) in
    let within : k < height cut = omega (arith, two, cut_height) in
    let next : k + 1 ≡ top s = omega (arith, two) in
    let kept : (j : ℕ) → j < top s → get_or cut.frames j frame ≡ get_or s.frames j frame = λ j lt. get_or-take (top s) s.frames j frame lt in
    let kept_position : (j : ℕ) → j < top s → position cut j ≡ position s j = λ j lt.
    same_position s cut j j frame (omega (arith, lt)) (omega (arith, lt, cut_height)) (kept j lt) in
    let kept_low : (j : ℕ) → j < top s → low cut j ≡ low s j = λ j lt.
    same_low s cut j j frame (omega (arith, lt)) (omega (arith, lt, cut_height)) (kept j lt) in
    let lt_k : k < top s = omega (arith, next) in
    record {
      is_second = omega (arith, two);
      size_is = written_size cut t k frame within refl refl;
      height_is = omega (arith, written_height cut t k frame within refl refl, cut_height, next);
      position_is = λ j le.
          written_position cut t k frame within refl refl (sym (kept_position k lt_k)) j ∙ kept_position j (omega (arith, le, next));
      low_is = λ j lt.
          unwritten_low cut t k frame within refl refl j (λ is. omega (arith, is, lt)) ∙ kept_low j (omega (arith, lt, next));
      low_new = written_low cut t k frame within refl refl ∙ ap (λ b. min (low s k) (low s b)) (sym next);
      node_is = λ i. same_node s t i (λ d. refl);
      succs_is = λ i. same_succs s t i (λ d. refl);
      begun_is = λ i. same_begun s t i (λ d. refl);
    }

pub keeps : (s : Stack) (frame : ℕ) → IsShaped s → frame < height s → Keeps s (below_frame s frame) frame
unfolding below_frame height size
keeps s frame shaped lt =
    let t : Stack = below_frame s frame in
    let no_frame : Frame = record { position = 0; low = 0 } in
    let short : length t.frames ≡ frame = length-take-le frame s.frames (omega (arith, lt)) in
    let few : length t.entries ≡ position s frame =
    length-take-le (position s frame) s.entries (omega (arith, position_within shaped frame lt)) in
    let kept : (j : ℕ) → j < frame → get_or t.frames j no_frame ≡ get_or s.frames j no_frame = λ j below.
    get_or-take frame s.frames j no_frame below in
    let entry : (i : ℕ) → i < position s frame → (d : Entry) → get_or t.entries i d ≡ get_or s.entries i d = λ i below d.
    get_or-take (position s frame) s.entries i d below in
    record {
      within = lt;
      size_is = few;
      height_is = short;
      position_is = λ j le.
          elim (cases_lt j frame) as (λ _. position t j ≡ position s j) [
            | inl below ↦
                same_position s t j j no_frame (omega (arith, below, lt)) (omega (arith, below, short)) (kept j below)
            | inr past ↦
                let is : frame ≡ j = omega (arith, past, le) in
                position_past t j (omega (arith, past, short)) ∙ few ∙ ap (position s) is
          ];
      low_is = λ j below. same_low s t j j no_frame (omega (arith, below, lt)) (omega (arith, below, short)) (kept j below);
      node_is = λ i below. same_node s t i (entry i below);
      succs_is = λ i below. same_succs s t i (entry i below);
      begun_is = λ i below. same_begun s t i (entry i below);
    }

-- the nodes from a frame on are those that stand there
pub holds_from : (s : Stack) (frame : ℕ) → HoldsFrom s (position s frame) (nodes_from s frame)
unfolding nodes_from size node
holds_from s frame =
    let nodes : List ℕ = map (λ entry. entry.node) s.entries in
    let p : ℕ = position s frame in
    let no_entry : Entry = record { node = 0; succs = []; begun = 0 } in
    let long : length nodes ≡ length s.entries = length-map s.entries (λ entry. entry.node) in
    let rest : length (drop p nodes) ≡ length nodes - p = length-drop p nodes in
    let read : (i d : ℕ) → i < length s.entries → get_or nodes i d ≡ node s i = λ i d lt.
    get_or-map (λ entry. entry.node) s.entries i no_entry d lt in
    record {
      inhabited = λ lt. omega (arith, lt, rest, long);
      to = λ v (k, lt, at).
          let within : p + k < length s.entries = omega (arith, lt, rest, long) in
          record {
            place = p + k;
            from = omega arith;
            below = within;
            is = sym (read (p + k) v within) ∙ sym (get_or-drop p nodes k v) ∙ at;
          };
      from = λ i le lt.
          let back : p + (i - p) ≡ i = omega (arith, le) in (
            i - p,
            omega (arith, le, lt, rest, long),
            get_or-drop p nodes (i - p) (node s i) ∙ ap (λ b. get_or nodes b (node s i)) back ∙ read i (node s i) lt,
          );
    }
