-- Taking the turn, closing nodes under it and giving it back keep the rule.
use Rattle.std.proofs.Common.{inl, inr, ◌≡◌, ◌≢◌, ℕ, suc, ◌<◌, ◌≤◌, ◌+◌, List, [], ◌∷◌, ◌++◌, length, get_or, set, true, None, Some, refl, ap, ◌∙◌, sym, subst, ⊎_elim, arith, eqb}
use Rattle.std.proofs.lemmas.Bool.{cases_lt}
use Rattle.std.proofs.lemmas.List.{get_or-set_same, get_or-set_other, set-get_or, length-set}
use mathlib.Core.Option.{Option, some, none}
use native.Mathlib.Decide.{ℕ_discrete}
use lib.ListN.{get_elem?}
use prog.Atomic.{either}
use Rattle.atomic_table.specs.Table.{Act, Me, Valid, Allows, carried_after, gives, keeps, stepped, step, takes}
use Rattle.atomic_table.proofs.Lists.{set_again}
use Rattle.list_laws.specs.Counts.{times, flat}
use Rattle.list_laws.proofs.Counting.{times-append, times_here, times_other}
use Rattle.group_release.specs.Book.{BookValue}
use Rattle.node_claims.specs.declared.view.Outline.{Outline}
use Rattle.node_claims.specs.declared.view.Taken.{Taken}
use Rattle.node_claims.specs.declared.view.View.{View}
use Rattle.node_claims.specs.Views.{Noted, outline_of}
use Rattle.node_claims.specs.Rule.{Agrees, AtHome, IsOut, RuleHolds, Slot, WordIs, finished, standing}
use Rattle.node_claims.specs.Steps.{IsLent, MayClose, MayGive, Took, closes, gives_turn, one_more_closed, takes_turn}
use Rattle.node_claims.proofs.Turns.{Tab, after, each_set, is_seat, is_taken, not_home, seat_set, set_at}
use Rattle.node_claims.proofs.Words.{agrees_more, own_stands, standing_set}
use Rattle.node_claims.proofs.Claiming.{keeps_counts}

-- what the step that tries to take the turn owes
abbrev Takes : ℕ → Tab → ℕ → Me Slot View → Type 0
Takes slots s id me =
    (w : View) × (a : Act Slot) × Valid s.homes me.1 a × RuleHolds (stepped s 0 (either (eqb (get_or s.words 0 0) 0) 1 (get_or s.words 0 0)) id me.1 w a)
    × takes_turn (step slots 0 0 1 none) me (get_or s.words 0 0) (w, carried_after me.1 a)

lent : (s : Tab) (r : RuleHolds s) (id : ℕ) (v : View) → get_elem? s.views id ≡ some v → v.live ≡ true → r.closed ≡ [] → IsLent v r.known
lent s r id v at live none_closed =
    let a = r.agrees id v at live in
    let closed_not : (x : ℕ) → times x r.closed ≡ 0 = λ x. ap (times x) none_closed in record {
      lists = a.lists;
      roots = a.roots;
      seen = λ x some_seen. let done = a.seen x some_seen in let t = closed_not x in omega (arith, done, t);
      apart = λ x. let own = own_stands s.views r.known id v x at in let once = r.once x in omega (arith, own, once);
      below = λ x stands. r.below x (let own = own_stands s.views r.known id v x at in omega (arith, own, stands));
      told = a.told;
    }

taken_at_home : (slots id : ℕ) (me : Me Slot View) → me.1 ≡ [] → me.0.live ≡ true → (s : Tab) (r : RuleHolds s) → get_elem? s.views id ≡ some me.0
    → AtHome s r.known r.closed → Takes slots s id me
taken_at_home slots id me empty live s r at h =
    let v : View = me.0 in
    let w : View = record v { turn = Some (record { book = outline_of h.book; closed = [] }) } in
    let n : ℕ = get_or s.words 0 0 in
    let f : ℕ → ℕ = λ m. either (eqb m 0) 1 m in
    let one : f n ≡ 1 = ap f h.word in
    let ws : List ℕ = set s.words 0 (f n) in
    let hs : List (Option Slot) = set s.homes 0 none in
    let wide : 0 < length s.words = let c = r.count in omega (arith, c) in
    let has : w.turn ≡ Some (record { book = r.known; closed = r.closed }) = λ i. Some (record { book = h.outline i; closed = sym h.none_closed i }) in
    let out : IsOut (record { words = ws; homes = hs; views = set s.views id w }) r.known r.closed = record {
      seat = id;
      holder = w;
      word = get_or-set_same s.words 0 (f n) 0 wide ∙ one;
      homes = ap (λ (l : List (Option Slot)). set l 0 none) h.homes;
      at = set_at s.views id v w at;
      has = has;
      no_other = each_set (λ k u. k ≢ id → u.turn ≡ None) s.views id w (λ k u ne e other. h.none_has k u e) (λ other. absurd (other refl));
    } in
    let a = r.agrees id v at live in
    let holds =
    keeps_counts s r id v w ws hs at refl (length-set s.words 0 (f n)) (λ y. get_or-set_other s.words 0 (suc y) (f n) 0 (λ e. omega (arith, e))) (inr out)
    (λ _. record { lists = a.lists; roots = a.roots; seen = a.seen; held = a.held; finished = a.finished; told = a.told }) in
    let took : Took me (w, (0, Some h.book) ∷ me.1) = record {
      book = h.book;
      view = refl;
      slots = refl;
      lent = subst (IsLent v) (sym h.outline) (lent s r id v at live h.none_closed);
    } in
    (w, takes 0 (Some h.book), ap (λ (l : List (Option Slot)). get_elem? l 0) h.homes, holds, ((λ _. took), (λ other. absurd (other h.word))))

found_out : (slots id : ℕ) (me : Me Slot View) → me.0.live ≡ true → (s : Tab) (r : RuleHolds s) → get_elem? s.views id ≡ some me.0
    → IsOut s r.known r.closed → Takes slots s id me
found_out slots id me live s r at h =
    let n : ℕ = get_or s.words 0 0 in
    let f : ℕ → ℕ = λ m. either (eqb m 0) 1 m in
    let same : f n ≡ n = ap f h.word ∙ sym h.word in
    let words : set s.words 0 (f n) ≡ s.words = ap (set s.words 0) same ∙ set-get_or s.words 0 0 in
    let state : stepped s 0 (f n) id me.1 me.0 keeps ≡ s = λ i. record { words = words i; homes = s.homes; views = set_again s.views id me.0 at i } in
    (me.0, keeps, tt, subst RuleHolds (sym state) r, ((λ z. absurd (let one : n ≡ 1 = h.word in omega (arith, z, one))), (λ _. refl)))

pub takes_it : (slots id : ℕ) (me : Me Slot View) → me.1 ≡ [] → me.0.live ≡ true
    → Allows RuleHolds slots id me 0 (λ n. either (eqb n 0) 1 n) (takes_turn (step slots 0 0 1 none) me)
takes_it slots id me empty live s r wide at fits =
    ⊎_elim (λ (h : AtHome s r.known r.closed). taken_at_home slots id me empty live s r at h) (λ (h : IsOut s r.known r.closed). found_out slots id me live s r at h) r.turn

-- a pass with the turn closes a node
abbrev Closes : ℕ → ℕ → Tab → ℕ → Me Slot View → Type 0
Closes slots x s id me =
    (w : View) × (a : Act Slot) × Valid s.homes me.1 a × RuleHolds (stepped s (suc x) 2 id me.1 w a)
    × closes (step slots (suc x) 2 0 none) me 2 (w, carried_after me.1 a)

closed_more : (s : Tab) (r : RuleHolds s) (v : View) (t : Taken) (x : ℕ) (h : IsOut s r.known r.closed) → get_elem? s.views h.seat ≡ some v
    → v.live ≡ true → v.turn ≡ Some t → t ≡ record { book = r.known; closed = r.closed } → MayClose v t x
    → RuleHolds (after s (set s.words (suc x) 2) h.seat (record v { turn = one_more_closed x v.turn }))
closed_more s r v t x h at live has is may =
    let w : View = record v { turn = one_more_closed x v.turn } in
    let ws : List ℕ = set s.words (suc x) 2 in
    let now : List ℕ = r.closed ++ x ∷ [] in
    let D : ℕ → ℕ = finished r.known r.closed in
    let E : ℕ → ℕ = finished r.known now in
    let P : ℕ → ℕ = standing s.views r.known in
    let Q : ℕ → ℕ = standing (set s.views h.seat w) r.known in
    let e : (y : ℕ) → P y ≡ Q y = λ y. let g = standing_set s.views r.known h.seat v w y at in omega (arith, g) in
    let d : (y : ℕ) → E y ≡ D y + times y (x ∷ []) = λ y. let g = times-append y r.closed (x ∷ []) in omega (arith, g) in
    let more : (y : ℕ) → P y ≤ Q y = λ y. let g = e y in omega (arith, g) in
    let rises : (y : ℕ) → D y ≤ E y = λ y. let g = d y in omega (arith, g) in
    let kept : times x t.book.kept ≡ times x r.known.kept = ap (λ (u : Taken). times x u.book.kept) is in
    let here : 0 < P x = let own = own_stands s.views r.known h.seat v x at in let m = may.stands in omega (arith, own, m, kept) in
    let x_lt : x < length r.known.lists = r.below x here in
    let wide : suc x < length s.words = let c = r.count in omega (arith, c, x_lt) in
    let says : w.turn ≡ Some (record { book = r.known; closed = now }) =
    ap (one_more_closed x) has ∙ ap (λ (u : Taken). Some (record { book = u.book; closed = u.closed ++ x ∷ [] })) is in
    let a = r.agrees h.seat v at live in record {
      known = r.known;
      closed = now;
      turn = inr (seat_set s r.known r.closed now h ws v w at says (get_or-set_other s.words (suc x) 0 2 0 (λ z. omega (arith, z))));
      count = length-set s.words (suc x) 2 ∙ r.count;
      once = λ y. let g = e y in let o = r.once y in omega (arith, g, o);
      below = λ y stands. r.below y (let g = e y in omega (arith, g, stands));
      words = λ y y_lt.
          elim (ℕ_discrete x y) as (λ _. WordIs (Q y) (E y) (get_or ws (suc y) 0)) [
            | yes same ↦
                subst (λ (u : ℕ). WordIs (Q u) (E u) (get_or ws (suc u) 0)) same
                (record {
                  unseen = λ nowhere. let g = e x in absurd (omega (arith, g, here, nowhere));
                  held = λ _ not_done. let g = d x in let one = times_here x in absurd (omega (arith, g, one, not_done));
                  closed = λ _. get_or-set_same s.words (suc x) 2 0 wide;
                })
            | no other ↦
                let same_done : D y ≡ E y = let g = d y in let z = times_other y x other in omega (arith, g, z) in
                subst (λ (p : ℕ). WordIs p (E y) (get_or ws (suc y) 0)) (e y)
                (subst (λ (q : ℕ). WordIs (P y) q (get_or ws (suc y) 0)) same_done
                (subst (λ (n : ℕ). WordIs (P y) (D y) n)
                (sym (get_or-set_other s.words (suc x) (suc y) 2 0 (λ same. other (let q : suc y ≡ suc x = same in omega (arith, q)))))
                (r.words y y_lt)))
          ];
      agrees =
          each_set (λ k u. u.live ≡ true → Agrees r.known Q E u) s.views h.seat w
          (λ k u ne at_k is_live. agrees_more r.known P Q D E u more rises (r.agrees k u at_k is_live))
          (λ _. agrees_more r.known P Q D E w more rises (record { lists = a.lists; roots = a.roots; seen = a.seen; held = a.held; finished = a.finished; told = a.told }));
      wants = λ y wanted. let g = more y in let q = r.wants y wanted in omega (arith, g, q);
    }

closed_out : (slots id x : ℕ) (me : Me Slot View) (t : Taken) → me.0.live ≡ true → me.0.turn ≡ Some t → MayClose me.0 t x → (s : Tab) (r : RuleHolds s)
    → get_elem? s.views id ≡ some me.0 → IsOut s r.known r.closed → Closes slots x s id me
closed_out slots id x me t live has may s r at h =
    let v : View = me.0 in
    let w : View = record v { turn = one_more_closed x v.turn } in
    let seat : id ≡ h.seat = is_seat s r.known r.closed h id v t at has in
    let is = is_taken s r.known r.closed h id v t at has in
    let at' : get_elem? s.views h.seat ≡ some v = ap (get_elem? s.views) (sym seat) ∙ at in
    let holds : RuleHolds (after s (set s.words (suc x) 2) h.seat w) = closed_more s r v t x h at' live has is may in
    (w, keeps, tt, subst (λ (i : ℕ). RuleHolds (after s (set s.words (suc x) 2) i w)) (sym seat) holds, refl)

pub closes_it : (slots id x : ℕ) (me : Me Slot View) (t : Taken) → me.0.live ≡ true → me.0.turn ≡ Some t → MayClose me.0 t x
    → Allows RuleHolds slots id me (suc x) (λ _. 2) (λ _. closes (step slots (suc x) 2 0 none) me 2)
closes_it slots id x me t live has may s r wide at fits =
    ⊎_elim
    (λ (h : AtHome s r.known r.closed). absurd (not_home s r.known r.closed h id me.0 t at has))
    (λ (h : IsOut s r.known r.closed). closed_out slots id x me t live has may s r at h)
    r.turn

-- a pass gives the turn back
given : (s : Tab) (r : RuleHolds s) (v : View) (t : Taken) (b : BookValue) (nodes : List ℕ) (id : ℕ) (h : IsOut s r.known r.closed) → get_elem? s.views id ≡ some v
    → id ≡ h.seat → v.live ≡ true → t ≡ record { book = r.known; closed = r.closed } → MayGive v t (outline_of b) nodes
    → RuleHolds (record {
      words = set s.words 0 0;
      homes = set s.homes 0 (some (Some b));
      views = set s.views id (record v { nodes = nodes; seen = v.seen ++ flat b.groups; told = b.failed; turn = None });
    })
given s r v t b nodes id h at seat live is may =
    let w : View = record v { nodes = nodes; seen = v.seen ++ flat b.groups; told = b.failed; turn = None } in
    let ws : List ℕ = set s.words 0 0 in
    let now : Outline = outline_of b in
    let D : ℕ → ℕ = finished r.known r.closed in
    let E : ℕ → ℕ = finished now [] in
    let P : ℕ → ℕ = standing s.views r.known in
    let Q : ℕ → ℕ = standing (set s.views id w) now in
    let book : t.book ≡ r.known = ap (λ (u : Taken). u.book) is in
    let lists : r.known.lists ≡ now.lists = ap (λ (o : Outline). o.lists) (sym book) ∙ sym may.lists in
    let roots : r.known.roots ≡ now.roots = ap (λ (o : Outline). o.roots) (sym book) ∙ sym may.roots in
    let failed : r.known.failed ≡ true → now.failed ≡ true = λ has. may.failed (ap (λ (o : Outline). o.failed) book ∙ has) in
    let kept : (y : ℕ) → times y t.book.kept ≡ times y r.known.kept = λ y. ap (λ (o : Outline). times y o.kept) book in
    let released : (y : ℕ) → times y (flat t.book.released) ≡ times y (flat r.known.released) = λ y. ap (λ (o : Outline). times y (flat o.released)) book in
    let closed : (y : ℕ) → times y t.closed ≡ times y r.closed = λ y. ap (λ (u : Taken). times y u.closed) is in
    let e : (y : ℕ) → P y ≡ Q y =
    λ y.
    let g = standing_set s.views r.known id v w y at in
    let m = may.same y in
    let k = kept y in
    let l = released y in
    omega (arith, g, m, k, l) in
    let d : (y : ℕ) → D y ≡ E y = λ y. let m = may.closed y in let l = released y in let c = closed y in omega (arith, m, l, c) in
    let more : (y : ℕ) → P y ≤ Q y = λ y. let g = e y in omega (arith, g) in
    let rises : (y : ℕ) → D y ≤ E y = λ y. let g = d y in omega (arith, g) in
    let a = r.agrees id v at live in
    let wide : 0 < length s.words = let c = r.count in omega (arith, c) in
    let moved : (u : View) → Agrees r.known Q E u → Agrees now Q E u =
    λ u old. record { lists = old.lists ∙ lists; roots = old.roots ∙ roots; seen = old.seen; held = old.held; finished = old.finished; told = λ is_told. failed (old.told is_told) } in record {
      known = now;
      closed = [];
      turn =
          inl
          (record {
            book = b;
            word = get_or-set_same s.words 0 0 0 wide;
            homes = ap (λ (l : List (Option Slot)). set l 0 (some (Some b))) h.homes;
            outline = refl;
            none_closed = refl;
            none_has =
                each_set (λ k u. u.turn ≡ None) s.views id w
                (λ k u ne at_k. h.no_other k u at_k (λ same. ne (same ∙ sym seat)))
                refl;
          });
      count = length-set s.words 0 0 ∙ r.count ∙ ap (λ (l : List (List ℕ)). suc (length l)) lists;
      once = λ y. let g = e y in let o = r.once y in omega (arith, g, o);
      below = λ y stands. subst (λ (l : List (List ℕ)). y < length l) lists (r.below y (let g = e y in omega (arith, g, stands)));
      words = λ y y_lt.
          subst (λ (p : ℕ). WordIs p (E y) (get_or ws (suc y) 0)) (e y)
          (subst (λ (q : ℕ). WordIs (P y) q (get_or ws (suc y) 0)) (d y)
          (subst (λ (n : ℕ). WordIs (P y) (D y) n)
          (sym (get_or-set_other s.words 0 (suc y) 0 0 (λ same. omega (arith, same))))
          (r.words y (subst (λ (l : List (List ℕ)). y < length l) (sym lists) y_lt))));
      agrees =
          each_set (λ k u. u.live ≡ true → Agrees now Q E u) s.views id w
          (λ k u ne at_k is_live. moved u (agrees_more r.known P Q D E u more rises (r.agrees k u at_k is_live)))
          (λ _. record {
            lists = a.lists ∙ lists;
            roots = a.roots ∙ roots;
            seen = λ y some_seen.
                let sum = times-append y v.seen (flat b.groups) in
                elim (cases_lt 0 (times y v.seen)) as (λ _. 0 < E y) [
                  | inl old ↦ let g = a.seen y old in let q = d y in omega (arith, g, q)
                  | inr none_old ↦ omega (arith, sum, none_old, some_seen)
                ];
            held = λ y noted. let g = a.held y noted in let q = e y in omega (arith, g, q);
            finished = λ y noted. let g = a.finished y noted in let sum = times-append y v.seen (flat b.groups) in omega (arith, g, sum);
            told = λ is_told. is_told;
          });
      wants = λ y wanted.
          ⊎_elim
          (λ (old : 0 < times y t.book.wants).
          let known_wants : times y t.book.wants ≡ times y r.known.wants = ap (λ (o : Outline). times y o.wants) book in
          let g = r.wants y (omega (arith, old, known_wants)) in
          let q = e y in
          omega (arith, g, q))
          (λ new.
          ⊎_elim
          (λ (stands : 0 < times y nodes + (times y now.kept + times y (flat now.released))).
          let own : times y nodes + (times y now.kept + times y (flat now.released)) ≤ Q y =
          own_stands (set s.views id w) now id w y (set_at s.views id v w at) in
          omega (arith, own, stands))
          (λ (noted : Noted y 1 v.looks). let g = a.held y noted in let q = e y in omega (arith, g, q))
          new)
          (may.wants y wanted);
    }

abbrev Gives : ℕ → List ℕ → Tab → ℕ → Me Slot View → Type 0
Gives slots nodes s id me =
    (w : View) × (a : Act Slot) × Valid s.homes me.1 a × RuleHolds (stepped s 0 0 id me.1 w a)
    × gives_turn nodes (step slots 0 0 0 none) me 0 (w, carried_after me.1 a)

given_out : (slots id : ℕ) (v : View) (b : BookValue) (t : Taken) (nodes : List ℕ) → v.live ≡ true → v.turn ≡ Some t → MayGive v t (outline_of b) nodes
    → (s : Tab) (r : RuleHolds s) → get_elem? s.views id ≡ some v → IsOut s r.known r.closed → Gives slots nodes s id (v, (0, Some b) ∷ [])
given_out slots id v b t nodes live has may s r at h =
    let w : View = record v { nodes = nodes; seen = v.seen ++ flat b.groups; told = b.failed; turn = None } in
    let seat : id ≡ h.seat = is_seat s r.known r.closed h id v t at has in
    let is = is_taken s r.known r.closed h id v t at has in
    (w, gives, tt, given s r v t b nodes id h at seat live is may, refl)

pub gives_one : (slots id : ℕ) (v : View) (b : BookValue) (t : Taken) (nodes : List ℕ) → v.live ≡ true → v.turn ≡ Some t → MayGive v t (outline_of b) nodes
    → Allows RuleHolds slots id (v, (0, Some b) ∷ []) 0 (λ _. 0) (λ _. gives_turn nodes (step slots 0 0 0 none) (v, (0, Some b) ∷ []) 0)
gives_one slots id v b t nodes live has may s r wide at fits =
    ⊎_elim
    (λ (h : AtHome s r.known r.closed). absurd (not_home s r.known r.closed h id v t at has))
    (λ (h : IsOut s r.known r.closed). given_out slots id v b t nodes live has may s r at h)
    r.turn
