-- The stack that has the upper part of another on top of it, place by place.
use Rattle.std.proofs.Common.{◌≡◌, inl, inr, ℕ, ◌<◌, ◌≤◌, ◌+◌, ◌-◌, [], length, get_or, drop, map, refl, ap, ◌∙◌, arith}
use Rattle.std.proofs.lemmas.Bool.{cases_lt}
use Rattle.std.proofs.lemmas.List.{get_or_append_left, get_or-append_right, get_or-drop, get_or-map, length-append, length-drop, length-map}
use Rattle.search_stack.specs.declared.frame.Frame.{Frame}
use Rattle.search_stack.specs.Stack.{Entry, Stack, IsShaped, size, height, node, succs, begun, position, low}
use Rattle.search_stack.specs.Search.{joined, moved}
use Rattle.search_stack.proofs.Changes.{Joins}
use Rattle.search_stack.proofs.Frames.{position_end, position_past, position_le}
use Rattle.search_stack.proofs.Steps.{position_of, low_of, same_position, same_low, same_node, same_succs, same_begun}

module _ (s d : Stack) (a : ℕ) (upper : IsShaped d) (within : a < height d) where
  joined_size : size (joined s d a) + position d a ≡ size s + size d
  unfolding joined size
  joined_size =
      let end : position d a ≤ length d.entries = omega (arith, position_le upper a (height d) (omega (arith, within)) (omega arith), position_end d) in
      omega (arith, end, length-append s.entries (drop (position d a) d.entries), length-drop (position d a) d.entries)

  joined_height : height (joined s d a) + a ≡ height s + height d
  unfolding joined height
  joined_height =
      omega (
        arith,
        within,
        length-append s.frames (map (moved (size s) (position d a)) (drop a d.frames)),
        length-map (drop a d.frames) (moved (size s) (position d a)),
        length-drop a d.frames,
      )

  entry_low : (i : ℕ) → i < size s → (e : Entry) → get_or (joined s d a).entries i e ≡ get_or s.entries i e
  unfolding joined size
  entry_low i lt e = get_or_append_left s.entries (drop (position d a) d.entries) e i lt

  entry_up : (i p : ℕ) → i + position d a ≡ size s + p → position d a ≤ p → (e : Entry)
      → get_or (joined s d a).entries i e ≡ get_or d.entries p e
  unfolding joined size
  entry_up i p at from e =
      let past : length s.entries ≤ i = omega (arith, at, from) in
      let is : position d a + (i - length s.entries) ≡ p = omega (arith, at, from) in
      get_or-append_right s.entries (drop (position d a) d.entries) (length s.entries) i e refl past
      ∙ get_or-drop (position d a) d.entries (i - length s.entries) e ∙ ap (λ k. get_or d.entries k e) is

  frame_low : (j : ℕ) → j < height s → (f : Frame) → get_or (joined s d a).frames j f ≡ get_or s.frames j f
  unfolding joined height
  frame_low j lt f = get_or_append_left s.frames (map (moved (size s) (position d a)) (drop a d.frames)) f j lt

  frame_up : (j b : ℕ) → j + a ≡ height s + b → a ≤ b → b < height d → (f : Frame)
      → get_or (joined s d a).frames j f ≡ moved (size s) (position d a) (get_or d.frames b f)
  unfolding joined height
  frame_up j b at from below f =
      let past : length s.frames ≤ j = omega (arith, at, from) in
      let is : a + (j - length s.frames) ≡ b = omega (arith, at, from) in
      let inside : j - length s.frames < length (drop a d.frames) = omega (arith, at, from, below, length-drop a d.frames) in
      get_or-append_right s.frames (map (moved (size s) (position d a)) (drop a d.frames)) (length s.frames) j f refl past
      ∙ get_or-map (moved (size s) (position d a)) (drop a d.frames) (j - length s.frames) f f inside
      ∙ ap (moved (size s) (position d a)) (get_or-drop a d.frames (j - length s.frames) f ∙ ap (λ k. get_or d.frames k f) is)

  moved_node : (i p : ℕ) → i + position d a ≡ size s + p → position d a ≤ p → node (joined s d a) i ≡ node d p
  unfolding node
  moved_node i p at from = ap (λ e. e.node) (entry_up i p at from (record { node = 0; succs = []; begun = 0 }))

  moved_succs : (i p : ℕ) → i + position d a ≡ size s + p → position d a ≤ p → succs (joined s d a) i ≡ succs d p
  unfolding succs
  moved_succs i p at from = ap (λ e. e.succs) (entry_up i p at from (record { node = 0; succs = []; begun = 0 }))

  moved_begun : (i p : ℕ) → i + position d a ≡ size s + p → position d a ≤ p → begun (joined s d a) i ≡ begun d p
  unfolding begun
  moved_begun i p at from = ap (λ e. e.begun) (entry_up i p at from (record { node = 0; succs = []; begun = 0 }))

  pub joins : Joins s d (joined s d a) a
  joins =
      let t : Stack = joined s d a in
      let f : Frame = record { position = 0; low = 0 } in
      record {
        within = within;
        size_is = joined_size;
        height_is = joined_height;
        position_is = λ j lt. same_position s t j j f lt (omega (arith, lt, joined_height, within)) (frame_low j lt f);
        position_new = λ j b at from le.
            elim (cases_lt b (height d)) [
              | inl below ↦
                  let read : position t j ≡ size s + ((get_or d.frames b f).position - position d a) =
                  position_of t j (moved (size s) (position d a) (get_or d.frames b f)) f (omega (arith, at, from, below, joined_height))
                  (frame_up j b at from below f) in
                  let was : position d b ≡ (get_or d.frames b f).position = position_of d b (get_or d.frames b f) f below refl in
                  omega (arith, read, was, position_le upper a b from le)
              | inr past ↦
                  let is : b ≡ height d = omega (arith, past, le) in
                  omega (
                    arith,
                    position_past t j (omega (arith, at, is, joined_height)),
                    joined_size,
                    ap (position d) is,
                    position_end d,
                  )
            ];
        low_is = λ j lt. same_low s t j j f lt (omega (arith, lt, joined_height, within)) (frame_low j lt f);
        low_new = λ j b at from below high.
            let read : low t j ≡ size s + ((get_or d.frames b f).low - position d a) =
            low_of t j (moved (size s) (position d a) (get_or d.frames b f)) f (omega (arith, at, from, below, joined_height))
            (frame_up j b at from below f) in
            let was : low d b ≡ (get_or d.frames b f).low = low_of d b (get_or d.frames b f) f below refl in
            omega (arith, read, was, high);
        node_is = λ i lt. same_node s t i (entry_low i lt);
        node_new = λ i p at from below. moved_node i p at from;
        succs_is = λ i lt. same_succs s t i (entry_low i lt);
        succs_new = λ i p at from below. moved_succs i p at from;
        begun_is = λ i lt. same_begun s t i (entry_low i lt);
        begun_new = λ i p at from below. moved_begun i p at from;
      }
