-- How entries move from one map behind those of another, one by one.
use Rattle.std.proofs.Common.{◌≡◌, inl, inr, ℕ, ◌<◌, ◌≤◌, ◌+◌, ◌-◌, ◌++◌, List, [], ◌∷◌, length, get_or, drop, nat_eq, refl, ap, ◌∙◌, sym, arith, true≢false}
use Rattle.std.proofs.Math.Seq.{get_or-append_seam}
use Rattle.std.proofs.lemmas.Bool.{cases_lt, eq-eqb}
use Rattle.std.proofs.lemmas.List.{append-nil, append_assoc, get_or_append_left, get_or-append_right, get_or-drop, get_or-map, length-append, length-drop, length-map}
use Rattle.std.proofs.lemmas.Map.Keys.{apart_from_distinct}
use Rattle.std.specs.Prelude.{Contains}
use Rattle.std.specs.List.{IsDistinct as AreDistinct}
use Rattle.std.specs.Map.{keys_of}
use Rattle.indexmap.specs.IndexMap.{insert_entry}
use Rattle.search_stack.specs.declared.search.Opened.{Opened}
use Rattle.search_stack.proofs.FieldLaws.{inserted}

abbrev key_of : ℕ × Opened → ℕ
key_of e = e.0

key_read : (es : List (ℕ × Opened)) (i d : ℕ) (e : ℕ × Opened) → i < length es → get_or (keys_of es) i d ≡ key_of (get_or es i e)
key_read es i d e lt = get_or-map key_of es i e d lt

module _ (old from : List (ℕ × Opened)) (at : ℕ) (yielded rest : List (ℕ × Opened)) (x : ℕ × Opened)
    (distinct : AreDistinct nat_eq (keys_of from)) (apart : (v : ℕ) → Contains (keys_of old) v → Contains (keys_of from) v → ⊥)
    (is : yielded ++ x ∷ rest ≡ drop at from) where
  pub enough : at + length yielded < length from
  enough =
      let long : length (yielded ++ x ∷ rest) ≡ length from - at = ap length is ∙ length-drop at from in
      omega (arith, long, length-append yielded (x ∷ rest))

  -- entries of the other map, from the place on
  from_read : (k : ℕ) → get_or from (at + k) x ≡ get_or (yielded ++ x ∷ rest) k x
  from_read k = sym (get_or-drop at from k x) ∙ ap (λ xs. get_or xs k x) (sym is)

  here : get_or from (at + length yielded) x ≡ x
  here = from_read (length yielded) ∙ get_or-append_seam yielded x rest x

  fresh : (i : ℕ) → i < length (old ++ yielded) → get_or (keys_of (old ++ yielded)) i x.0 ≡ x.0 → ⊥
  fresh i lt same =
      let read : key_of (get_or (old ++ yielded) i x) ≡ x.0 = sym (key_read (old ++ yielded) i x.0 x lt) ∙ same in
      elim (cases_lt i (length old)) as (λ _. ⊥) [
        | inl before ↦
            apart x.0 (
              i,
              omega (arith, before, length-map old key_of),
              key_read old i x.0 x before ∙ ap key_of (sym (get_or_append_left old yielded x i before)) ∙ read,
            ) (
              at + length yielded,
              omega (arith, enough, length-map from key_of),
              key_read from (at + length yielded) x.0 x enough ∙ ap key_of here,
            )
        | inr past ↦
            let k : ℕ = i - length old in
            let inside : k < length yielded = omega (arith, lt, past, length-append old yielded) in
            let first : get_or (old ++ yielded) i x ≡ get_or from (at + k) x =
            get_or-append_right old yielded (length old) i x refl past ∙ sym (get_or_append_left yielded (x ∷ rest) x k inside) ∙ sym (from_read k) in
            let low : at + k < length from = omega (arith, inside, enough) in
            let keys : get_or (keys_of from) (at + k) 0 ≡ get_or (keys_of from) (at + length yielded) 0 =
            key_read from (at + k) 0 x low ∙ ap key_of (sym first) ∙ read ∙ sym (ap key_of here)
            ∙ sym (key_read from (at + length yielded) 0 x enough) in
            true≢false
            (sym (eq-eqb (get_or (keys_of from) (at + k) 0) (get_or (keys_of from) (at + length yielded) 0) keys)
            ∙ apart_from_distinct nat_eq (keys_of from) (at + k) (at + length yielded) 0 distinct (omega (arith, inside))
            (omega (arith, enough, length-map from key_of)))
      ]

  pub moved_one : insert_entry nat_eq (old ++ yielded) x.0 x.1 ≡ old ++ (yielded ++ x ∷ [])
  moved_one = inserted (old ++ yielded) x.0 x.1 fresh ∙ append_assoc old yielded (x ∷ [])

-- the entries that were yielded stand behind the old ones, and each took one place of the room
pub record IsMoving (old from now yielded rest : List (ℕ × Opened)) (at room left : ℕ) : Type 0 where
  pub entries : now ≡ old ++ yielded
  pub whole : yielded ++ rest ≡ drop at from
  pub room_is : room ≤ left + length yielded

pub moving_start : (old from rest : List (ℕ × Opened)) (at room : ℕ) → rest ≡ drop at from → IsMoving old from old [] rest at room room
moving_start old from rest at room is = record { entries = sym (append-nil old); whole = is; room_is = omega arith }

pub moving_more : {old from now yielded rest : List (ℕ × Opened)} {at room left : ℕ} (x : ℕ × Opened) (then after : List (ℕ × Opened))
    (less : ℕ) → AreDistinct nat_eq (keys_of from) → ((v : ℕ) → Contains (keys_of old) v → Contains (keys_of from) v → ⊥)
    → IsMoving old from now yielded rest at room left → rest ≡ x ∷ then → after ≡ insert_entry nat_eq now x.0 x.1 → left ≤ less + 1
    → IsMoving old from after (yielded ++ x ∷ []) then at room less
moving_more {old} {from} {now} {yielded} {rest} {at} {room} {left} x then after less distinct apart was is put used =
    let whole : yielded ++ x ∷ then ≡ drop at from = ap (λ xs. yielded ++ xs) (sym is) ∙ was.whole in
    record {
      entries =
          put ∙ ap (λ es. insert_entry nat_eq es x.0 x.1) was.entries ∙ moved_one old from at yielded then x distinct apart whole;
      whole = append_assoc yielded (x ∷ []) then ∙ whole;
      room_is = omega (arith, was.room_is, used, length-append yielded (x ∷ []));
    }

-- there is room for one more
pub moving_room : {old from now yielded rest : List (ℕ × Opened)} {at room left : ℕ} (x : ℕ × Opened) (then : List (ℕ × Opened))
    → AreDistinct nat_eq (keys_of from) → ((v : ℕ) → Contains (keys_of old) v → Contains (keys_of from) v → ⊥)
    → IsMoving old from now yielded rest at room left → rest ≡ x ∷ then → length from ≤ room + at → 0 < left
moving_room {old} {from} {now} {yielded} {rest} {at} {room} {left} x then distinct apart was is wide =
    let whole : yielded ++ x ∷ then ≡ drop at from = ap (λ xs. yielded ++ xs) (sym is) ∙ was.whole in
    omega (arith, enough old from at yielded then x distinct apart whole, was.room_is, wide)

pub moving_end : {old from now yielded rest : List (ℕ × Opened)} {at room left : ℕ} → IsMoving old from now yielded rest at room left → rest ≡ []
    → yielded ≡ drop at from
moving_end {old} {from} {now} {yielded} {rest} {at} {room} {left} was none =
    sym (append-nil yielded) ∙ ap (λ xs. yielded ++ xs) (sym none) ∙ was.whole
