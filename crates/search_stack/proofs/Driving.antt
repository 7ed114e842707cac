-- What the loops of one search after another keep.
use Rattle.std.proofs.Common.{◌≡◌, ◌⊎◌, inl, inr, ℕ, ◌<◌, ◌≤◌, ◌+◌, ◌-◌, ◌*◌, Bool, true, false, not, List, [], length, get_or, set, replicate, Some, refl, ap, ◌∙◌, sym, subst, arith, get_or-set_same, get_or-set_other}
use Rattle.std.proofs.lemmas.Bool.{cases_lt, cases_eq, cases_Bool}
use Rattle.std.proofs.lemmas.List.{get_or_past, get_or_default, get_or-replicate, length-replicate}
use Rattle.std.proofs.lemmas.List.Elements.{All-from_get_or}
use Rattle.std.proofs.lemmas.Option.{slice_get_within, get_or_from_slice_get}
use Rattle.std.specs.Prelude.{All, Contains, IsTrue, count_by}
use Rattle.graph_law.specs.Classes.{HasMember}
use Rattle.search_stack.specs.ArrayFields.{ArrayValue}
use Rattle.search_stack.specs.Stack.{Stack, IsShaped, size, height, top, node, succs, begun, position, low}
use Rattle.search_stack.specs.Search.{SearchValue, IsOn, IsLastBegun, IsDone, IsRipe, empty_stack, next_successor, pushed, one_more_begun, lowered, retreated}
use Rattle.search_stack.specs.GoodSearch.{IsGood}
use Rattle.search_stack.specs.PlainSearch.{IsUnderWay, IsSeen, IsSettledBy, top_succs, top_begun}
use Rattle.search_stack.proofs.Changes.{Pushes, Begins, Lowers, Retreats}
use Rattle.search_stack.proofs.Shapes.{no_entries, empty_size}
use Rattle.search_stack.proofs.Steps.{pushes, begins, lowers, retreats}
use Rattle.search_stack.proofs.UnderWay.{SameNodes, same_begins, same_lowers, same_retreats, way_start, way_push, fewer_unseen}

-- what the top frame begins stays, and so do the nodes
pub record KeepsTop (s t : Stack) : Type 0 where
  pub nodes : SameNodes s t
  pub height_is : height t ≡ height s
  pub succs_are : top_succs t ≡ top_succs s

-- edges of the top have begun, and were settled
pub record IsBeginning (old now : ArrayValue) : Type 0 where
  pub some : 0 < size now.stack
  pub seen_is : now.seen ≡ old.seen
  pub size_is : size now.stack ≡ size old.stack
  pub height_is : height now.stack ≡ height old.stack
  pub within : All (λ v. v < length now.seen) (top_succs now.stack)
  pub under_way : (lists : List (List ℕ)) (roots : List ℕ) (groups : List (List ℕ)) → IsUnderWay lists roots old.seen groups false old.stack
      → IsUnderWay lists roots now.seen groups false now.stack

-- the search runs
pub record IsRunning (lists before groups : List (List ℕ)) (old now : ArrayValue) : Type 0 where
  pub some_way : (roots : List ℕ) × IsUnderWay lists roots now.seen groups false now.stack
  pub stays : (v : ℕ) → IsSeen old.seen v → IsSeen now.seen v
  pub every_way : (roots : List ℕ) → IsUnderWay lists roots old.seen before false old.stack → IsUnderWay lists roots now.seen groups false now.stack

-- the first roots are seen, and no search runs
pub record IsThrough (lists : List (List ℕ)) (roots : List ℕ) (count : ℕ) (groups : List (List ℕ)) (now : ArrayValue) : Type 0 where
  pub ended : size now.stack ≡ 0
  pub under_way : IsUnderWay lists roots now.seen groups false now.stack
  pub through : (k : ℕ) → k < count → IsSeen now.seen (get_or roots k 0)

-- the next successor is one of the top's
pub next_is : (s : Stack) (v : ℕ) → next_successor s ≡ Some v → (top_begun s < length (top_succs s)) × (get_or (top_succs s) (top_begun s) v ≡ v)
unfolding next_successor
next_is s v is = (slice_get_within (top_succs s) (top_begun s) v is, get_or_from_slice_get (top_succs s) (top_begun s) v v is)

-- an entry with successors is there
some_succs : (s : Stack) (i : ℕ) → 0 < length (succs s i) → i < size s
unfolding succs size
some_succs s i some =
    elim (cases_lt i (length s.entries)) as (λ _. i < length s.entries) [
      | inl lt ↦ lt
      | inr past ↦
          let none : succs s i ≡ [] = ap (λ e. e.succs) (get_or_past s.entries i (record { node = 0; succs = []; begun = 0 }) past) in
          absurd (omega (arith, some, ap length none))
    ]

-- the top has begun one more
pub begins_top : (s : Stack) (v : ℕ) → next_successor s ≡ Some v → Begins s (one_more_begun s (position s (top s))) (position s (top s))
begins_top s v is =
    let more = (next_is s v is).0 in
    begins s (position s (top s)) (some_succs s (position s (top s)) (omega (arith, more)))

same_top : (s t : Stack) → height t ≡ height s → ((j : ℕ) → position t j ≡ position s j) → position t (top t) ≡ position s (top s)
same_top s t tall at = ap (λ h. position t (h - 1)) tall ∙ at (top s)

pub keeps_begins : {s t : Stack} {place : ℕ} → Begins s t place → KeepsTop s t
keeps_begins {s} {t} {place} new = record {
  nodes = same_begins new;
  height_is = new.height_is;
  succs_are = ap (succs t) (same_top s t new.height_is new.position_is) ∙ new.succs_is (position s (top s));
}

pub more_begun : {s t : Stack} → Begins s t (position s (top s)) → top_begun t ≡ top_begun s + 1
more_begun {s} {t} new = ap (begun t) (same_top s t new.height_is new.position_is) ∙ new.begun_one_more

-- what `back` leaves
pub record Settles (s t : Stack) : Type 0 where
  pub keeps : KeepsTop s t
  pub begun_is : top_begun t ≡ top_begun s

settles_lowers : {s t : Stack} {frame place : ℕ} → Lowers s t frame place → Settles s t
settles_lowers {s} {t} {frame} {place} new = record {
  keeps = record {
    nodes = same_lowers new;
    height_is = new.height_is;
    succs_are = ap (succs t) (same_top s t new.height_is new.position_is) ∙ new.succs_is (position s (top s));
  };
  begun_is = ap (begun t) (same_top s t new.height_is new.position_is) ∙ new.begun_is (position s (top s));
}

settles_same : (s : Stack) → Settles s s
settles_same s = record {
  keeps = record { nodes = record { size_is = refl; node_is = λ i. refl }; height_is = refl; succs_are = refl };
  begun_is = refl;
}

-- `back` settles the edge, wherever it leads
pub settles : (old now : SearchValue) (v : ℕ) (on : Bool) → IsLastBegun old.stack v → (IsTrue on → IsOn old.stack v)
    → (IsTrue on → (place : ℕ) → place < size old.stack → node old.stack place ≡ v → now ≡ record old { stack = lowered old.stack place })
    → (on ≡ false → now ≡ old) → Settles old.stack now.stack × (now.wanted ≡ old.wanted)
settles old now v on last found falls stays =
    elim (cases_Bool on) as (λ _. Settles old.stack now.stack × (now.wanted ≡ old.wanted)) [
      | inl is ↦
          let at : IsOn old.stack v = found is in
          let new : now ≡ record old { stack = lowered old.stack at.place } = falls is at.place at.within at.is in
          let P : Stack → Type 0 = λ t. Settles old.stack t in (
            subst P (sym (ap (λ (value : SearchValue). value.stack) new)) (settles_lowers (lowers old.stack at.place last.some)),
            ap (λ (value : SearchValue). value.wanted) new,
          )
      | inr isnt ↦
          let same : now ≡ old = stays isnt in
          let P : Stack → Type 0 = λ t. Settles old.stack t in (
            subst P (sym (ap (λ (value : SearchValue). value.stack) same)) (settles_same old.stack),
            ap (λ (value : SearchValue). value.wanted) same,
          )
    ]

-- what `begin` leaves where it gives a node
pub record Begun (old now : SearchValue) : Type 0 where
  pub keeps : KeepsTop old.stack now.stack
  pub one_more : top_begun now.stack ≡ top_begun old.stack + 1
  pub wanted_is : now.wanted ≡ old.wanted
  pub some_left : top_begun old.stack < length (top_succs old.stack)

pub begun_from : (old now : SearchValue) (v : ℕ) → next_successor old.stack ≡ Some v
    → now ≡ record old { stack = one_more_begun old.stack (position old.stack (top old.stack)) } → Begun old now
begun_from old now v next new =
    let s : Stack = old.stack in
    let step : Begins s (one_more_begun s (position s (top s))) (position s (top s)) = begins_top s v next in
    let is : now.stack ≡ one_more_begun s (position s (top s)) = ap (λ (value : SearchValue). value.stack) new in
    let P : Stack → Type 0 = λ t. KeepsTop s t in
    let Q : Stack → Type 0 = λ t. top_begun t ≡ top_begun s + 1 in
    record {
      keeps = subst P (sym is) (keeps_begins step);
      one_more = subst Q (sym is) (more_begun step);
      wanted_is = ap (λ (value : SearchValue). value.wanted) new;
      some_left = (next_is s v next).0;
    }

-- a done top that isn't ripe has a frame below it
pub two_frames : {s : Stack} → IsShaped s → IsDone s → (IsRipe s → ⊥) → 2 ≤ height s
two_frames {s} shaped done unripe =
    elim (cases_lt (height s) 2) as (λ _. 2 ≤ height s) [
      | inl one ↦
          let first : top s ≡ 0 = omega (arith, one, done.some) in
          let low_top : low s (top s) ≤ position s (top s) = shaped.low_le (top s) (omega (arith, done.some)) in
          absurd
          (unripe
          (record { done = done; low_is = omega (arith, low_top, ap (position s) first, shaped.first) }))
      | inr two ↦ two
    ]

-- what `retreat` leaves
pub record Retreated (old now : SearchValue) : Type 0 where
  pub nodes : SameNodes old.stack now.stack
  pub height_is : height now.stack + 1 ≡ height old.stack

pub retreated_from : (old now : SearchValue) → 2 ≤ height old.stack → now ≡ record old { stack = retreated old.stack } → Retreated old now
retreated_from old now two new =
    let step : Retreats old.stack (retreated old.stack) (top old.stack - 1) = retreats old.stack two in
    let is : now.stack ≡ retreated old.stack = ap (λ (value : SearchValue). value.stack) new in
    let P : Stack → Type 0 = λ t. SameNodes old.stack t in
    record {
      nodes = subst P (sym is) (same_retreats step);
      height_is = omega (arith, ap height is, step.height_is, two);
    }

-- a stack with entries has frames
pub tall_from_long : {s : Stack} → IsShaped s → (size s ≡ 0 → ⊥) → 0 < height s
tall_from_long {s} shaped long =
    elim (cases_lt 0 (height s)) as (λ _. 0 < height s) [
      | inl tall ↦ tall
      | inr flat ↦ absurd (long (no_entries shaped (omega (arith, flat))))
    ]

-- a node is opened
pub way_open : {lists : List (List ℕ)} {roots : List ℕ} {seen : List Bool} {groups : List (List ℕ)} {s : Stack}
    (way : IsUnderWay lists roots seen groups true s) (v : ℕ) (list : List ℕ) (t : Stack) (marks : List Bool) → v < length seen
    → get_or seen v false ≡ false → t ≡ pushed s v list → marks ≡ set seen v true → IsGood lists roots way.finished false t
    → IsUnderWay lists roots marks groups false t
way_open {lists} {roots} {seen} {groups} {s} way v list t marks lt no_mark is marked good =
    let P : List Bool → Type 0 = λ all. IsUnderWay lists roots all groups false t in
    let Q : Stack → Type 0 = λ u. Pushes s u v list in
    subst P (sym marked) (way_push way v lt no_mark (subst Q (sym is) (pushes s v list)) good)

-- the measure of the run falls where a node is opened
pub opened_falls : (seen marks : List Bool) (v : ℕ) (list : List ℕ) (s t u : Stack) → v < length seen → get_or seen v false ≡ false
    → marks ≡ set seen v true → height t ≡ height s → u ≡ pushed t v list
    → 2 * count_by not marks + height u < 2 * count_by not seen + height s
opened_falls seen marks v list s t u lt no_mark is tall new =
    let fewer : count_by not marks ≡ count_by not (set seen v true) = ap (λ (all : List Bool). count_by not all) is in
    omega (arith, fewer_unseen seen v lt no_mark, fewer, ap height new, (pushes t v list).height_is, tall)

pub stays_seen : (seen marks : List Bool) (v u : ℕ) → v < length seen → marks ≡ set seen v true → IsSeen seen u → IsSeen marks u
stays_seen seen marks v u lt is mark =
    ap (λ all. get_or all u false) is
    ∙ (elim (cases_eq u v) as (λ _. get_or (set seen v true) u false ≡ true) [
      | inl same ↦ ap (λ b. get_or (set seen v true) b false) same ∙ get_or-set_same seen v true false lt
      | inr ne ↦ get_or-set_other seen v u true false ne ∙ mark
    ])

-- what is read of the marks
pub mark_read : (seen : List Bool) (v : ℕ) (mark value : Bool) → v < length seen → mark ≡ get_or seen v mark → mark ≡ value
    → get_or seen v false ≡ value
mark_read seen v mark value lt read is = get_or_default seen v false mark lt ∙ sym read ∙ is

-- nothing is marked at first
pub unmarked : (n v : ℕ) → get_or (replicate n false) v false ≡ false
unmarked n v =
    elim (cases_lt v n) as (λ _. get_or (replicate n false) v false ≡ false) [
      | inl lt ↦ get_or-replicate n v false false lt
      | inr past ↦ get_or_past (replicate n false) v false (omega (arith, past, length-replicate n false))
    ]

pub through_more : (seen : List Bool) (roots : List ℕ) (count : ℕ) → ((k : ℕ) → k < count → IsSeen seen (get_or roots k 0))
    → IsSeen seen (get_or roots count 0) → (k : ℕ) → k < count + 1 → IsSeen seen (get_or roots k 0)
through_more seen roots count before here k lt =
    elim (cases_lt k count) as (λ _. IsSeen seen (get_or roots k 0)) [
      | inl old ↦ before k old
      | inr le ↦
          let is : count ≡ k = omega (arith, le, lt) in
          let P : ℕ → Type 0 = λ j. IsSeen seen (get_or roots j 0) in
          subst P is here
    ]

-- at the end every root is in a group
pub all_complete : {lists : List (List ℕ)} {roots : List ℕ} {count : ℕ} {groups : List (List ℕ)} {now : ArrayValue}
    → IsThrough lists roots count groups now → length roots ≤ count → All (HasMember groups) roots
all_complete {lists} {roots} {count} {groups} {now} through le =
    All-from_get_or (HasMember groups) roots 0
    (λ k lt.
    elim (through.under_way.only (get_or roots k 0) (through.through k (omega (arith, lt, le)))) as (λ _. HasMember groups (get_or roots k 0))
    [ inl on ↦ absurd (omega (arith, on.within, through.ended)) | inr member ↦ member ])

-- before the first root
pub IsThrough-start : (lists : List (List ℕ)) (roots : List ℕ) (count : ℕ) (groups : List (List ℕ)) (now : ArrayValue)
    → count ≡ length lists → groups ≡ [] → now ≡ record { stack = empty_stack; seen = replicate count false }
    → IsThrough lists roots 0 groups now
IsThrough-start lists roots count groups now counted none made =
    let start : ArrayValue = record { stack = empty_stack; seen = replicate count false } in
    let P : List (List ℕ) → Type 0 = λ gs. IsThrough lists roots 0 gs now in
    let Q : ArrayValue → Type 0 = λ value. IsThrough lists roots 0 [] value in
    subst P (sym none)
    (subst Q (sym made)
    (record {
      ended = empty_size;
      under_way = way_start lists roots start.seen (length-replicate count false ∙ counted) (unmarked count);
      through = λ k lt. absurd (omega (arith, lt));
    }))

-- what `begin` leaves where it gives a node
pub record BegunBy (old now : ArrayValue) : Type 0 where
  pub keeps : KeepsTop old.stack now.stack
  pub one_more : top_begun now.stack ≡ top_begun old.stack + 1
  pub seen_is : now.seen ≡ old.seen
  pub some_left : top_begun old.stack < length (top_succs old.stack)

pub begun_by : (old now : ArrayValue) (v : ℕ) → next_successor old.stack ≡ Some v
    → now ≡ record old { stack = one_more_begun old.stack (position old.stack (top old.stack)) } → BegunBy old now
begun_by old now v next new =
    let s : Stack = old.stack in
    let step : Begins s (one_more_begun s (position s (top s))) (position s (top s)) = begins_top s v next in
    let is : now.stack ≡ one_more_begun s (position s (top s)) = ap (λ (value : ArrayValue). value.stack) new in
    let P : Stack → Type 0 = λ t. KeepsTop s t in
    let Q : Stack → Type 0 = λ t. top_begun t ≡ top_begun s + 1 in
    record {
      keeps = subst P (sym is) (keeps_begins step);
      one_more = subst Q (sym is) (more_begun step);
      seen_is = ap (λ (value : ArrayValue). value.seen) new;
      some_left = (next_is s v next).0;
    }

-- `back` settles the edge, wherever it leads
pub settled_by : {s t : Stack} {v : ℕ} → IsLastBegun s v → IsSettledBy s v t → Settles s t
settled_by {s} {t} {v} last settled =
    let P : Stack → Type 0 = λ u. Settles s u in
    subst P (sym settled.is) (settles_lowers (lowers s settled.place last.some))

-- what the next edge leads to is a node
pub next_within : (seen : List Bool) (s : Stack) (v : ℕ) → All (λ u. u < length seen) (top_succs s) → next_successor s ≡ Some v → v < length seen
next_within seen s v within is =
    let next = next_is s v is in
    omega (arith, next.1, within (top_begun s) v next.0)

-- a seen node is on the stack or finished
pub seen_cases : {lists : List (List ℕ)} {roots : List ℕ} {seen : List Bool} {groups : List (List ℕ)} {opened : Bool} {s : Stack}
    (way : IsUnderWay lists roots seen groups opened s) (v : ℕ) → IsSeen seen v → IsOn s v ⊎ Contains way.finished v
seen_cases {lists} {roots} {seen} {groups} {opened} {s} way v is =
    elim (way.only v is) as (λ _. IsOn s v ⊎ Contains way.finished v) [ inl on ↦ inl on | inr member ↦ inr (way.are_finished v member) ]
