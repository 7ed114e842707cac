-- Each step keeps the rule of the line.
use Rattle.std.proofs.Common.{◌≡◌, ◌≢◌, ℕ, zero, suc, ◌<◌, ◌≤◌, ◌+◌, Bool, true, false, true≢false, List, [], ◌∷◌}
use Rattle.std.proofs.Common.{◌++◌, length, set, Option, Some, None, sym, refl, ap, ap₂, ◌∙◌, subst, ⊎_elim, append_assoc, arith}
use Rattle.std.specs.Prelude.{Contains}
use Rattle.std.proofs.lemmas.List.{length-append, get_or_append_left}
use mathlib.Core.Option.{some, some-ne-none}
use lib.ListN.{get_elem?}
use Rattle.crossbeam_queue.specs.Fifo.{Pushes, Pops, Forks, Merges, Learns}
use Rattle.crossbeam_queue.proofs.Lists.{at_set, at_snoc}
use Rattle.graph_law.specs.CallOrder.{AreApart}
use Rattle.graph_law.specs.Classes.{group_at, IsClass}
use Rattle.graph_law.specs.Graph.{Calls}
use Rattle.group_release.proofs.FewGroups.{few_groups}
use Rattle.group_feed.specs.declared.line.Hand.{Hand}
use Rattle.group_feed.specs.Ordered.{AreOrdered}
use Rattle.group_feed.specs.Line.{Fits, LineHolds, MayPush, Takes, after_pop, after_push, both, feeding, newcomer, parcels, spent, taking}

at_end : (l : List Hand) (a b : Hand) (j : ℕ) → get_elem? l j ≢ some b → get_elem? (l ++ a ∷ []) j ≡ some b → j ≡ length l
at_end [] a b zero n e = refl
at_end [] a b (suc j) n e = absurd (some-ne-none b (sym e))
at_end (x ∷ xs) a b zero n e = absurd (n e)
at_end (x ∷ xs) a b (suc j) n e = ap suc (at_end xs a b j n e)

abbrev Each : (ℕ → Hand → Type 0) → List Hand → Type 0
Each F views = (port : ℕ) (v : Hand) → get_elem? views port ≡ some v → F port v

each_set : (F : ℕ → Hand → Type 0) (views : List Hand) (port : ℕ) (w : Hand) → F port w → ((j : ℕ) (u : Hand) → j ≢ port → get_elem? views j ≡ some u → F j u)
    → Each F (set views port w)
each_set F views port w mine others j u e =
    ⊎_elim (λ (x : (j ≡ port) × (w ≡ u)). subst (λ (y : ℕ × Hand). F y.0 y.1) (λ i. (sym x.0 i, x.1 i)) mine)
    (λ (x : (j ≢ port) × (get_elem? views j ≡ some u)). others j u x.0 x.1) (at_set views port j w u e)

-- no group is on an empty line, in any order
pub none_ordered : (lists : List (List ℕ)) → AreOrdered lists []
none_ordered lists = record {
  legal = record {
    each = λ k d lt. absurd (omega (arith, lt));
    once = λ i j p lt _ _ _. absurd (omega (arith, lt));
    callees_first = λ i p q lt _ _. absurd (omega (arith, lt));
  };
  nodes = λ p has. let within = has.within in absurd (omega (arith, within));
}

pub begins : (lists : List (List ℕ)) → LineHolds lists [] (newcomer ∷ [])
begins lists = record {
  feeder = 0;
  taker = 0;
  known = newcomer;
  ordered = none_ordered lists;
  held = refl;
  each = each_set (Fits 0 0 newcomer) (newcomer ∷ []) 0 newcomer
      (record { feeder_is = λ _. refl; pushed = λ _. refl; ended = λ _. refl; taker_is = λ _. refl; taken = λ _. refl; through = λ _. refl })
      (λ j u other e. absurd (other (at_end [] newcomer u j (λ x. some-ne-none u (sym x)) e)));
}

-- the groups and then one more
parcels_more : (groups : List (List ℕ)) (group : List ℕ) → parcels (groups ++ group ∷ []) false ≡ parcels groups false ++ Some group ∷ []
parcels_more [] group = refl
parcels_more (g ∷ groups) group = ap (λ l. Some g ∷ l) (parcels_more groups group)

parcels_end : (groups : List (List ℕ)) → parcels groups true ≡ parcels groups false ++ None ∷ []
parcels_end [] = refl
parcels_end (g ∷ groups) = ap (λ l. Some g ∷ l) (parcels_end groups)

-- what comes behind what was taken: nothing once the end mark was taken, and else the groups that are left, with the end mark where it was pushed
abbrev Behind : List (List ℕ) → Bool → List (List ℕ) → Bool → List (Option (List ℕ)) → Type 0
Behind pushed ended taken true items = (pushed ≡ taken) × (ended ≡ true) × (items ≡ [])
Behind pushed ended taken false items = (left : List (List ℕ)) × (pushed ≡ taken ++ left) × (items ≡ parcels left ended)

behind_more : (g h : List ℕ) (pushed taken : List (List ℕ)) (ended through : Bool) (items : List (Option (List ℕ))) → g ≡ h
    → Behind pushed ended taken through items
    → Behind (g ∷ pushed) ended (h ∷ taken) through items
behind_more g h pushed taken ended true items same b = (ap₂ (λ x xs. x ∷ xs) same b.0, b.1, b.2)
behind_more g h pushed taken ended false items same b = (b.0, ap₂ (λ x xs. x ∷ xs) same b.1, b.2)

abbrev head_of : Option (List ℕ) → List (Option (List ℕ)) → Option (List ℕ)
head_of d [] = d
head_of d (x ∷ xs) = x

abbrev tail_of : List (Option (List ℕ)) → List (Option (List ℕ))
tail_of [] = []
tail_of (x ∷ xs) = xs

abbrev group_of : Option (List ℕ) → List ℕ
group_of None = []
group_of (Some group) = group

pub behind : (pushed : List (List ℕ)) (ended : Bool) (taken : List (List ℕ)) (through : Bool) (items : List (Option (List ℕ)))
    → parcels pushed ended ≡ parcels taken through ++ items → Behind pushed ended taken through items
behind pushed ended [] false items is = (pushed, refl, sym is)
behind [] true [] true items is = (refl, refl, sym (ap tail_of is))
behind [] false [] true items is = absurd cc
behind (g ∷ pushed) ended [] true items is = absurd cc
behind [] true (h ∷ taken) through items is = absurd cc
behind [] false (h ∷ taken) through items is = absurd cc
behind (g ∷ pushed) ended (h ∷ taken) through items is =
    behind_more g h pushed taken ended through items (ap (λ l. group_of (head_of None l)) is) (behind pushed ended taken through items (ap tail_of is))

-- the first groups of a legal order are in one too
pub first_ordered : (lists : List (List ℕ)) (taken left : List (List ℕ)) → AreOrdered lists (taken ++ left) → AreOrdered lists taken
first_ordered lists taken left all =
    let long : length (taken ++ left) ≡ length taken + length left = length-append taken left in
    let same : (i : ℕ) → i < length taken → group_at (taken ++ left) i ≡ group_at taken i = λ i lt. get_or_append_left taken left [] i lt in
    let within : (i : ℕ) → i < length taken → i < length (taken ++ left) = λ i lt. omega (arith, long, lt) in
    record {
      legal = record {
        each = λ k d lt. subst (IsClass (Calls lists)) (get_or_append_left taken left d k lt) (all.legal.each k d (within k lt));
        once = λ i j p i_lt j_lt in_i in_j.
            all.legal.once i j p (within i i_lt) (within j j_lt) (subst (λ g. Contains g p) (sym (same i i_lt)) in_i)
            (subst (λ g. Contains g p) (sym (same j j_lt)) in_j);
        callees_first = λ i p q i_lt in_i call.
            let stands = all.legal.callees_first i p q (within i i_lt) (subst (λ g. Contains g p) (sym (same i i_lt)) in_i) call in
            let upto = stands.upto in
            record {
              place = stands.place;
              upto = upto;
              member = subst (λ g. Contains g q) (same stands.place (omega (arith, upto, i_lt))) stands.member;
            };
      };
      nodes = λ p has.
          all.nodes p
          (record {
            place = has.place;
            within = within has.place has.within;
            member = subst (λ g. Contains g p) (sym (same has.place has.within)) has.member;
          });
    }

-- the groups that were taken are in a legal order
pub taken_ordered : (lists : List (List ℕ)) (items : List (Option (List ℕ))) (known : Hand) → AreOrdered lists known.pushed
    → parcels known.pushed known.ended ≡ parcels known.taken known.through ++ items → AreOrdered lists known.taken
taken_ordered lists items known ordered held = taken_by known.through (behind known.pushed known.ended known.taken known.through items held)
  where
    taken_by : (through : Bool) → Behind known.pushed known.ended known.taken through items → AreOrdered lists known.taken
    taken_by true b = subst (AreOrdered lists) b.0 ordered
    taken_by false b = first_ordered lists known.taken b.0 (subst (AreOrdered lists) b.1 ordered)

-- the parcels after a push
parcels_push : (v : Hand) (x : Option (List ℕ)) → v.ended ≡ false
    → parcels (after_push v x).pushed (after_push v x).ended ≡ parcels v.pushed v.ended ++ x ∷ []
parcels_push v (Some group) open_yet =
    ap (parcels (v.pushed ++ group ∷ [])) open_yet ∙ parcels_more v.pushed group ∙ ap (λ e. parcels v.pushed e ++ Some group ∷ []) (sym open_yet)
parcels_push v None open_yet = parcels_end v.pushed ∙ ap (λ e. parcels v.pushed e ++ None ∷ []) (sym open_yet)

push_ordered : (lists : List (List ℕ)) (v : Hand) (x : Option (List ℕ)) → AreOrdered lists v.pushed → MayPush lists v x
    → AreOrdered lists (after_push v x).pushed
push_ordered lists v (Some group) ordered may = may
push_ordered lists v None ordered may = ordered

push_keeps : (v : Hand) (x : Option (List ℕ))
    → ((after_push v x).feeds ≡ v.feeds) × ((after_push v x).takes ≡ v.takes) × ((after_push v x).taken ≡ v.taken) × ((after_push v x).through ≡ v.through)
push_keeps v (Some group) = (refl, refl, refl, refl)
push_keeps v None = (refl, refl, refl, refl)

pub pushes : (lists : List (List ℕ)) (n port : ℕ) (v : Hand) (x : Option (List ℕ)) → v.feeds ≡ true → v.ended ≡ false → MayPush lists v x
    → Pushes (LineHolds lists) n port v x (λ w. w ≡ after_push v x)
pushes lists n port v x feeds open_yet may items views _ h at =
    let w : Hand = after_push v x in
    let mine = h.each port v at in
    let keeps = push_keeps v x in
    let known : Hand = record h.known { pushed = w.pushed; ended = w.ended } in
    let ordered : AreOrdered lists v.pushed = subst (AreOrdered lists) (sym (mine.pushed feeds)) h.ordered in
    let was : parcels v.pushed v.ended ≡ parcels h.known.taken h.known.through ++ items = ap₂ parcels (mine.pushed feeds) (mine.ended feeds) ∙ h.held in (
      w,
      record {
        feeder = h.feeder;
        taker = h.taker;
        known = known;
        ordered = push_ordered lists v x ordered may;
        held = parcels_push v x open_yet ∙ ap (λ l. l ++ x ∷ []) was ∙ append_assoc (parcels h.known.taken h.known.through) items (x ∷ []);
        each = each_set (Fits h.feeder h.taker known) views port w
            (record {
              feeder_is = λ _. mine.feeder_is feeds;
              pushed = λ _. refl;
              ended = λ _. refl;
              taker_is = λ t. mine.taker_is (sym keeps.1 ∙ t);
              taken = λ t. keeps.2 ∙ mine.taken (sym keeps.1 ∙ t);
              through = λ t. keeps.3 ∙ mine.through (sym keeps.1 ∙ t);
            })
            (λ j u other e.
            let theirs = h.each j u e in
            let no_feeder : u.feeds ≢ true = λ f. other (theirs.feeder_is f ∙ sym (mine.feeder_is feeds)) in
            record {
              feeder_is = theirs.feeder_is;
              pushed = λ f. absurd (no_feeder f);
              ended = λ f. absurd (no_feeder f);
              taker_is = theirs.taker_is;
              taken = theirs.taken;
              through = theirs.through;
            });
      },
      refl,
    )

pop_keeps : (v : Hand) (x : Option (List ℕ))
    → ((after_pop v x).feeds ≡ v.feeds) × ((after_pop v x).takes ≡ v.takes) × ((after_pop v x).pushed ≡ v.pushed) × ((after_pop v x).ended ≡ v.ended)
pop_keeps v (Some group) = (refl, refl, refl, refl)
pop_keeps v None = (refl, refl, refl, refl)

-- where a parcel is left, the end mark wasn't taken
not_through : (pushed taken : List (List ℕ)) (ended through : Bool) (x : Option (List ℕ)) (items : List (Option (List ℕ)))
    → Behind pushed ended taken through (x ∷ items) → through ≡ false
not_through pushed taken ended true x items b = absurd cc
not_through pushed taken ended false x items b = refl

parcels_pop : (v : Hand) (x : Option (List ℕ)) → v.through ≡ false
    → parcels (after_pop v x).taken (after_pop v x).through ≡ parcels v.taken v.through ++ x ∷ []
parcels_pop v (Some group) open_yet =
    ap (parcels (v.taken ++ group ∷ [])) open_yet ∙ parcels_more v.taken group ∙ ap (λ e. parcels v.taken e ++ Some group ∷ []) (sym open_yet)
parcels_pop v None open_yet = parcels_end v.taken ∙ ap (λ e. parcels v.taken e ++ None ∷ []) (sym open_yet)

pub pops : (lists : List (List ℕ)) (port : ℕ) (v : Hand) → v.takes ≡ true → Pops (LineHolds lists) port v (Takes lists v)
pops lists port v takes x items views h at =
    let w : Hand = after_pop v x in
    let mine = h.each port v at in
    let keeps = pop_keeps v x in
    let known : Hand = record h.known { taken = w.taken; through = w.through } in
    let was : parcels h.known.pushed h.known.ended ≡ parcels v.taken v.through ++ x ∷ items =
    h.held ∙ ap₂ (λ t e. parcels t e ++ x ∷ items) (sym (mine.taken takes)) (sym (mine.through takes)) in
    let open_yet : v.through ≡ false =
    not_through h.known.pushed v.taken h.known.ended v.through x items (behind h.known.pushed h.known.ended v.taken v.through (x ∷ items) was) in
    let held : parcels h.known.pushed h.known.ended ≡ parcels w.taken w.through ++ items =
    was ∙ sym (append_assoc (parcels v.taken v.through) (x ∷ []) items) ∙ ap (λ l. l ++ items) (sym (parcels_pop v x open_yet)) in (
      w,
      record {
        feeder = h.feeder;
        taker = h.taker;
        known = known;
        ordered = h.ordered;
        held = held;
        each = each_set (Fits h.feeder h.taker known) views port w
            (record {
              feeder_is = λ f. mine.feeder_is (sym keeps.0 ∙ f);
              pushed = λ f. keeps.2 ∙ mine.pushed (sym keeps.0 ∙ f);
              ended = λ f. keeps.3 ∙ mine.ended (sym keeps.0 ∙ f);
              taker_is = λ _. mine.taker_is takes;
              taken = λ _. refl;
              through = λ _. refl;
            })
            (λ j u other e.
            let theirs = h.each j u e in
            let no_taker : u.takes ≢ true = λ t. other (theirs.taker_is t ∙ sym (mine.taker_is takes)) in
            record {
              feeder_is = theirs.feeder_is;
              pushed = theirs.pushed;
              ended = theirs.ended;
              taker_is = theirs.taker_is;
              taken = λ t. absurd (no_taker t);
              through = λ t. absurd (no_taker t);
            });
      },
      record { after = refl; ordered = taken_ordered lists items known h.ordered held },
    )

pub forks : (lists : List (List ℕ)) (port : ℕ) (v : Hand) → v.feeds ≡ true → v.takes ≡ true → Forks (LineHolds lists) port v (feeding v) (taking v)
forks lists port v feeds takes items views h at =
    let l : Hand = feeding v in
    let r : Hand = taking v in
    let mine = h.each port v at in
    let vs : List Hand = set views port l in
    let old : Each (λ j u. (u.takes ≢ true) × Fits h.feeder (length vs) h.known j u) vs =
    each_set (λ j u. (u.takes ≢ true) × Fits h.feeder (length vs) h.known j u) views port l (
      (λ t. true≢false (sym t)),
      record {
        feeder_is = λ _. mine.feeder_is feeds;
        pushed = λ _. mine.pushed feeds;
        ended = λ _. mine.ended feeds;
        taker_is = λ t. absurd (true≢false (sym t));
        taken = λ t. absurd (true≢false (sym t));
        through = λ t. absurd (true≢false (sym t));
      },
    )
    (λ j u other e.
    let theirs = h.each j u e in
    let no_taker : u.takes ≢ true = λ t. other (theirs.taker_is t ∙ sym (mine.taker_is takes)) in (
      no_taker,
      record {
        feeder_is = theirs.feeder_is;
        pushed = theirs.pushed;
        ended = theirs.ended;
        taker_is = λ t. absurd (no_taker t);
        taken = λ t. absurd (no_taker t);
        through = λ t. absurd (no_taker t);
      },
    )) in
    record {
      feeder = h.feeder;
      taker = length vs;
      known = h.known;
      ordered = h.ordered;
      held = h.held;
      each = λ j u e.
          ⊎_elim (λ x. (old j u x).1)
          (λ (is : r ≡ u).
          let no_feeder : u.feeds ≢ true = λ f. true≢false (sym (ap (λ (y : Hand). y.feeds) is ∙ f)) in
          let last : u.takes ≡ true → j ≡ length vs = λ t. at_end vs r u j (λ x. (old j u x).0 t) e in
          record {
            feeder_is = λ f. absurd (no_feeder f);
            pushed = λ f. absurd (no_feeder f);
            ended = λ f. absurd (no_feeder f);
            taker_is = last;
            taken = λ _. ap (λ (y : Hand). y.taken) (sym is) ∙ mine.taken takes;
            through = λ _. ap (λ (y : Hand). y.through) (sym is) ∙ mine.through takes;
          }) (at_snoc vs r u j e);
    }

pub merges : (lists : List (List ℕ)) (port : ℕ) (v : Hand) (other : ℕ) (u : Hand) → v.feeds ≡ true → u.takes ≡ true
    → Merges (LineHolds lists) port v other u (both v u) spent
merges lists port v other u feeds takes items views h at two at' =
    let whole : Hand = both v u in
    let mine = h.each port v at in
    let vs : List Hand = set views port whole in
    let was : get_elem? views other ≡ some u = ⊎_elim (λ x. absurd (two x.0)) (λ x. x.1) (at_set views port other whole u at') in
    let theirs = h.each other u was in
    let Now : ℕ → Hand → Type 0 = λ j y. j ≢ other → Fits h.feeder port h.known j y in
    let now : Each Now vs =
    each_set Now views port whole
    (λ _. record {
      feeder_is = λ _. mine.feeder_is feeds;
      pushed = λ _. mine.pushed feeds;
      ended = λ _. mine.ended feeds;
      taker_is = λ _. refl;
      taken = λ _. theirs.taken takes;
      through = λ _. theirs.through takes;
    })
    (λ j y _ e apart.
    let its = h.each j y e in
    let no_taker : y.takes ≢ true = λ t. apart (its.taker_is t ∙ sym (theirs.taker_is takes)) in
    record {
      feeder_is = its.feeder_is;
      pushed = its.pushed;
      ended = its.ended;
      taker_is = λ t. absurd (no_taker t);
      taken = λ t. absurd (no_taker t);
      through = λ t. absurd (no_taker t);
    }) in
    record {
      feeder = h.feeder;
      taker = port;
      known = h.known;
      ordered = h.ordered;
      held = h.held;
      each = each_set (Fits h.feeder port h.known) vs other spent
          (record {
            feeder_is = λ f. absurd (true≢false (sym f));
            pushed = λ f. absurd (true≢false (sym f));
            ended = λ f. absurd (true≢false (sym f));
            taker_is = λ f. absurd (true≢false (sym f));
            taken = λ f. absurd (true≢false (sym f));
            through = λ f. absurd (true≢false (sym f));
          })
          (λ j y apart e. now j y e apart);
    }

-- a pass that may push and take knows what the line holds
pub totals : (lists : List (List ℕ)) (port : ℕ) (v : Hand) → v.feeds ≡ true → v.takes ≡ true
    → Learns (LineHolds lists) port v (λ items. parcels v.pushed v.ended ≡ parcels v.taken v.through ++ items)
totals lists port v feeds takes items views h at =
    let mine = h.each port v at in
    ap₂ parcels (mine.pushed feeds) (mine.ended feeds) ∙ h.held ∙ ap₂ (λ t e. parcels t e ++ items) (sym (mine.taken takes)) (sym (mine.through takes))

-- groups in a legal order are at most as many as the nodes
pub few_ordered : (lists groups : List (List ℕ)) → AreOrdered lists groups → length groups ≤ length lists
few_ordered lists groups ordered =
    let apart : AreApart (length lists) groups =
    record { below = λ i p lt member. ordered.nodes p (record { place = i; within = lt; member = member }); once = ordered.legal.once } in
    few_groups (length lists) groups (λ k d lt. (ordered.legal.each k d lt).inhabited) apart

-- while the end mark wasn't pushed, the line holds at most as many parcels as there are nodes
pub fit : (lists : List (List ℕ)) (port : ℕ) (v : Hand) → v.feeds ≡ true → v.ended ≡ false
    → Learns (LineHolds lists) port v (λ items. length items ≤ length lists)
fit lists port v feeds open_yet items views h at =
    let mine = h.each port v at in
    let few : length h.known.pushed ≤ length lists = few_ordered lists h.known.pushed h.ordered in
    let plain : parcels h.known.pushed h.known.ended ≡ parcels h.known.pushed false = ap (parcels h.known.pushed) (sym (mine.ended feeds) ∙ open_yet) in
    let all : length (parcels h.known.pushed h.known.ended) ≡ length h.known.pushed = ap length plain ∙ parcels_long h.known.pushed in
    let parts : length (parcels h.known.pushed h.known.ended) ≡ length (parcels h.known.taken h.known.through) + length items =
    ap length h.held ∙ length-append (parcels h.known.taken h.known.through) items in
    omega (arith, few, all, parts)
  where
    parcels_long : (groups : List (List ℕ)) → length (parcels groups false) ≡ length groups
    parcels_long [] = refl
    parcels_long (g ∷ groups) = ap suc (parcels_long groups)

-- once the end mark was taken, all that was pushed was taken
pub all_taken : (v : Hand) (items : List (Option (List ℕ))) → v.through ≡ true → parcels v.pushed v.ended ≡ parcels v.taken v.through ++ items
    → v.pushed ≡ v.taken
all_taken v items through is =
    (behind v.pushed v.ended v.taken true items (is ∙ ap (λ e. parcels v.taken e ++ items) through)).0
