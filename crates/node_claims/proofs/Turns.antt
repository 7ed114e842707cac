-- The table after a step, and who has the turn then.
use Rattle.std.proofs.Common.{inl, inr, ◌⊎◌, ◌≡◌, ◌≢◌, ℕ, zero, suc, List, [], ◌∷◌, get_or, set, Option, None, Some, refl, ap, ◌∙◌, sym, subst, ⊎_elim}
use mathlib.Core.Option.{some, some-injective, some-ne-none}
use native.Mathlib.Decide.{ℕ_discrete}
use lib.ListN.{get_elem?}
use Rattle.atomic_table.specs.Table.{State}
use Rattle.atomic_table.proofs.Lists.{at_set, set_else}
use Rattle.node_claims.specs.declared.view.Outline.{Outline}
use Rattle.node_claims.specs.declared.view.Taken.{Taken}
use Rattle.node_claims.specs.declared.view.View.{View}
use Rattle.node_claims.specs.Rule.{AtHome, IsOut, Slot}

abbrev pub Tab : Type 0
Tab = State Slot View

abbrev pub after : Tab → List ℕ → ℕ → View → Tab
after s ws id w = record { words = ws; homes = s.homes; views = set s.views id w }

abbrev pub Turn : Tab → Outline → List ℕ → Type 0
Turn s o closed = AtHome s o closed ⊎ IsOut s o closed

pub set_at : {A : Type 0} (l : List A) (i : ℕ) (a b : A) → get_elem? l i ≡ some a → get_elem? (set l i b) i ≡ some b
set_at [] i a b e = absurd (some-ne-none a (sym e))
set_at (x ∷ xs) zero a b e = refl
set_at (x ∷ xs) (suc i) a b e = set_at xs i a b e

-- what holds of each view at its place, after one of them changed
pub each_set : (G : ℕ → View → Type 0) (views : List View) (id : ℕ) (w : View) → ((k : ℕ) (u : View) → k ≢ id → get_elem? views k ≡ some u → G k u) → G id w
    → (k : ℕ) (u : View) → get_elem? (set views id w) k ≡ some u → G k u
each_set G views id w others mine k u e =
    ⊎_elim
    (λ (x : (k ≡ id) × (w ≡ u)). subst (λ (y : ℕ × View). G y.0 y.1) (λ i. (sym x.0 i, x.1 i)) mine)
    (λ (x : (k ≢ id) × (get_elem? views k ≡ some u)). others k u x.0 x.1)
    (at_set views id k w u e)

pub same_view : (views : List View) (i j : ℕ) (v w : View) → get_elem? views i ≡ some v → get_elem? views j ≡ some w → i ≡ j → v ≡ w
same_view views i j v w at_i at_j is = some-injective v w (sym at_i ∙ ap (get_elem? views) is ∙ at_j)

none_or_some : (t : Option Taken) (u : Taken) → t ≡ None → t ≡ Some u → ⊥
none_or_some t u nothing has = let both : None ≡ Some u = sym nothing ∙ has in cc

-- a pass that has something of the turn is the one that has it
pub is_seat : (s : Tab) (o : Outline) (closed : List ℕ) (h : IsOut s o closed) (id : ℕ) (v : View) (t : Taken) → get_elem? s.views id ≡ some v → v.turn ≡ Some t → id ≡ h.seat
is_seat s o closed h id v t at has =
    elim (ℕ_discrete id h.seat) as (λ _. id ≡ h.seat) [ yes is ↦ is | no other ↦ absurd (none_or_some v.turn t (h.no_other id v at other) has) ]

some_taken : (t u : Taken) → Some t ≡ Some u → t ≡ u
some_taken t u e = cc

-- what it took is the known book, with the nodes closed since
pub is_taken : (s : Tab) (o : Outline) (closed : List ℕ) (h : IsOut s o closed) (id : ℕ) (v : View) (t : Taken) → get_elem? s.views id ≡ some v → v.turn ≡ Some t
    → t ≡ record { book = o; closed = closed }
is_taken s o closed h id v t at has =
    let same : v ≡ h.holder = same_view s.views id h.seat v h.holder at h.at (is_seat s o closed h id v t at has) in
    some_taken t (record { book = o; closed = closed }) (sym has ∙ ap (λ (u : View). u.turn) same ∙ h.has)

-- and at home no pass has it
pub not_home : (s : Tab) (o : Outline) (closed : List ℕ) (h : AtHome s o closed) (id : ℕ) (v : View) (t : Taken) → get_elem? s.views id ≡ some v → v.turn ≡ Some t → ⊥
not_home s o closed h id v t at has = none_or_some v.turn t (h.none_has id v at) has

-- one view is another, with a turn of its own
pub seat_set : (s : Tab) (o : Outline) (closed now : List ℕ) (h : IsOut s o closed) (ws : List ℕ) (v w : View) → get_elem? s.views h.seat ≡ some v
    → w.turn ≡ Some (record { book = o; closed = now }) → get_or ws 0 0 ≡ get_or s.words 0 0 → IsOut (after s ws h.seat w) o now
seat_set s o closed now h ws v w at has word = record {
  seat = h.seat;
  holder = w;
  word = word ∙ h.word;
  homes = h.homes;
  at = set_at s.views h.seat v w at;
  has = has;
  no_other = each_set (λ k u. k ≢ h.seat → u.turn ≡ None) s.views h.seat w (λ k u ne e other. h.no_other k u e other) (λ other. absurd (other refl));
}

out_stays : (s : Tab) (o : Outline) (closed : List ℕ) (ws : List ℕ) (id : ℕ) (v w : View) → get_elem? s.views id ≡ some v → w.turn ≡ v.turn
    → get_or ws 0 0 ≡ get_or s.words 0 0 → (h : IsOut s o closed) → Dec (id ≡ h.seat) → IsOut (after s ws id w) o closed
out_stays s o closed ws id v w at same word h (yes is) =
    let at' : get_elem? s.views h.seat ≡ some v = ap (get_elem? s.views) (sym is) ∙ at in
    let seen : v ≡ h.holder = same_view s.views h.seat h.seat v h.holder at' h.at refl in
    let has : w.turn ≡ Some (record { book = o; closed = closed }) = same ∙ ap (λ (u : View). u.turn) seen ∙ h.has in
    subst (λ (i : ℕ). IsOut (after s ws i w) o closed) (sym is) (seat_set s o closed closed h ws v w at' has word)
out_stays s o closed ws id v w at same word h (no other) = record {
  seat = h.seat;
  holder = h.holder;
  word = word ∙ h.word;
  homes = h.homes;
  at = set_else s.views id h.seat w (λ is. other (sym is)) ∙ h.at;
  has = h.has;
  no_other =
      each_set (λ k u. k ≢ h.seat → u.turn ≡ None) s.views id w (λ k u ne e elsewhere. h.no_other k u e elsewhere)
      (λ elsewhere. same ∙ h.no_other id v at elsewhere);
}

-- a step on a node's word leaves the turn as it is, where the view's turn stays
pub turn_stays : (s : Tab) (o : Outline) (closed : List ℕ) (ws : List ℕ) (id : ℕ) (v w : View) → get_elem? s.views id ≡ some v → w.turn ≡ v.turn
    → get_or ws 0 0 ≡ get_or s.words 0 0 → Turn s o closed → Turn (after s ws id w) o closed
turn_stays s o closed ws id v w at same word (inl h) = inl (record {
  book = h.book;
  word = word ∙ h.word;
  homes = h.homes;
  outline = h.outline;
  none_closed = h.none_closed;
  none_has = each_set (λ k u. u.turn ≡ None) s.views id w (λ k u ne e. h.none_has k u e) (same ∙ h.none_has id v at);
})
turn_stays s o closed ws id v w at same word (inr h) = inr (out_stays s o closed ws id v w at same word h (ℕ_discrete id h.seat))
