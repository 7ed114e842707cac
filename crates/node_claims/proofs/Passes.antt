-- The table as it begins, and two passes from one and one from two.
use Rattle.std.proofs.Common.{inl, inr, ◌≡◌, ℕ, zero, suc, ◌<◌, ◌≤◌, List, [], ◌∷◌, ◌++◌, length, get_or, set, replicate, true, true≢false, None, Some, refl, ap, ◌∙◌, sym, subst, ⊎_elim, arith}
use Rattle.std.proofs.lemmas.Bool.{cases_lt, or_cases}
use Rattle.std.proofs.lemmas.List.{get_or-replicate, length-replicate}
use mathlib.Core.Option.{some, some-injective, some-ne-none}
use lib.ListN.{get_elem?}
use Rattle.atomic_table.specs.Table.{Joins, Splits, opening}
use Rattle.atomic_table.proofs.Lists.{at_longer, at_snoc, set_again}
use Rattle.list_laws.specs.Counts.{times, flat}
use Rattle.list_laws.proofs.Counting.{times-append}
use Rattle.list_laws.proofs.Standing.{total_snoc}
use Rattle.group_release.specs.Book.{BookValue}
use Rattle.node_claims.specs.declared.view.Outline.{Outline}
use Rattle.node_claims.specs.declared.view.View.{View}
use Rattle.node_claims.specs.Views.{both, fresh, outline_of, spent}
use Rattle.node_claims.specs.Rule.{Agrees, AtHome, IsOut, RuleHolds, WordIs, finished, standing}
use Rattle.node_claims.proofs.Turns.{Tab, Turn, after, each_set, turn_stays}
use Rattle.node_claims.proofs.Words.{agrees_more, noted_append, standing_set}

-- the same words and slots, with other views that keep the counts, the turn and what each pass knows
other_views : (s : Tab) (r : RuleHolds s) (views : List View) → ((x : ℕ) → standing views r.known x ≡ standing s.views r.known x)
    → Turn (record { words = s.words; homes = s.homes; views = views }) r.known r.closed
    → ((k : ℕ) (u : View) → get_elem? views k ≡ some u → u.live ≡ true → Agrees r.known (standing s.views r.known) (finished r.known r.closed) u)
    → RuleHolds (record { words = s.words; homes = s.homes; views = views })
other_views s r views e turn each =
    let D : ℕ → ℕ = finished r.known r.closed in
    let P : ℕ → ℕ = standing s.views r.known in
    let Q : ℕ → ℕ = standing views r.known in
    let more : (y : ℕ) → P y ≤ Q y = λ y. let g = e y in omega (arith, g) in
    let all : (y : ℕ) → D y ≤ D y = λ y. omega arith in record {
      known = r.known;
      closed = r.closed;
      turn = turn;
      count = r.count;
      once = λ y. let g = e y in let o = r.once y in omega (arith, g, o);
      below = λ y stands. r.below y (let g = e y in omega (arith, g, stands));
      words = λ y y_lt. subst (λ (p : ℕ). WordIs p (D y) (get_or s.words (suc y) 0)) (sym (e y)) (r.words y y_lt);
      agrees = λ k u at live. agrees_more r.known P Q D D u more all (each k u at live);
      wants = λ y wanted. let g = e y in let q = r.wants y wanted in omega (arith, g, q);
    }

-- a pass that is split off has done nothing
one_more : (s : Tab) (r : RuleHolds s) (id : ℕ) (v : View) → get_elem? s.views id ≡ some v → v.live ≡ true
    → RuleHolds (record { words = s.words; homes = s.homes; views = s.views ++ fresh v.lists v.roots ∷ [] })
one_more s r id v at live =
    let w : View = fresh v.lists v.roots in
    let views : List View = s.views ++ w ∷ [] in
    let a = r.agrees id v at live in
    let e : (x : ℕ) → standing views r.known x ≡ standing s.views r.known x =
    λ x. let t = total_snoc (λ (u : View). times x u.nodes) s.views w in omega (arith, t) in
    let no_turn : (k : ℕ) (u : View) → get_elem? views k ≡ some u → (get_elem? s.views k ≡ some u → u.turn ≡ None) → u.turn ≡ None =
    λ k u at_k old. ⊎_elim (λ here. old here) (λ (is : w ≡ u). ap (λ (z : View). z.turn) (sym is)) (at_snoc s.views w u k at_k) in
    let turn : Turn (record { words = s.words; homes = s.homes; views = views }) r.known r.closed =
    ⊎_elim
    (λ (h : AtHome s r.known r.closed). inl
    (record {
      book = h.book;
      word = h.word;
      homes = h.homes;
      outline = h.outline;
      none_closed = h.none_closed;
      none_has = λ k u at_k. no_turn k u at_k (h.none_has k u);
    }))
    (λ (h : IsOut s r.known r.closed). inr
    (record {
      seat = h.seat;
      holder = h.holder;
      word = h.word;
      homes = h.homes;
      at = at_longer s.views (w ∷ []) h.seat h.holder h.at;
      has = h.has;
      no_other = λ k u at_k other. no_turn k u at_k (λ here. h.no_other k u here other);
    }))
    r.turn in
    let P : ℕ → ℕ = standing s.views r.known in
    let D : ℕ → ℕ = finished r.known r.closed in
    let first : Agrees r.known P D w = record {
      lists = a.lists;
      roots = a.roots;
      seen = λ x some_seen. absurd (omega (arith, some_seen));
      held = λ x noted. absurd noted;
      finished = λ x noted. absurd noted;
      told = λ is_told. absurd (true≢false (sym is_told));
    } in
    other_views s r views e turn
    (λ k u at_k is_live.
    ⊎_elim (λ (here : get_elem? s.views k ≡ some u). r.agrees k u here is_live) (λ (is : w ≡ u). subst (Agrees r.known P D) is first) (at_snoc s.views w u k at_k))

pub splits_it : (id : ℕ) (v : View) → v.live ≡ true → Splits RuleHolds id v v (fresh v.lists v.roots)
splits_it id v live s r at =
    subst (λ (views : List View). RuleHolds (record { words = s.words; homes = s.homes; views = views ++ fresh v.lists v.roots ∷ [] })) (sym (set_again s.views id v at))
    (one_more s r id v at live)

-- what both knew
both_agrees : (o : Outline) (p d : ℕ → ℕ) (v w : View) → Agrees o p d v → Agrees o p d w → Agrees o p d (both v w)
both_agrees o p d v w a b = record {
  lists = a.lists;
  roots = a.roots;
  seen = λ x some_seen.
      let sum = times-append x v.seen w.seen in
      elim (cases_lt 0 (times x v.seen)) as (λ _. 0 < d x) [ inl left ↦ a.seen x left | inr none_left ↦ b.seen x (omega (arith, sum, none_left, some_seen)) ];
  held = λ x noted. ⊎_elim (λ left. a.held x left) (λ right. b.held x right) (noted_append x 1 v.looks w.looks noted);
  finished = λ x noted.
      let sum = times-append x v.seen w.seen in
      ⊎_elim (λ left. let g = a.finished x left in omega (arith, g, sum)) (λ right. let g = b.finished x right in omega (arith, g, sum)) (noted_append x 2 v.looks w.looks noted);
  told = λ is_told. ⊎_elim (λ left. a.told left) (λ right. b.told right) (or_cases v.told w.told is_told);
}

pub joins_it : (id : ℕ) (v : View) (other : ℕ) (w : View) → v.live ≡ true → w.live ≡ true → w.turn ≡ None
    → Joins RuleHolds id v other w (both v w) spent
joins_it id v other w live_v live_w free s r at apart at_other =
    let B : View = both v w in
    let one : List View = set s.views id B in
    let two : List View = set one other spent in
    let P : ℕ → ℕ = standing s.views r.known in
    let D : ℕ → ℕ = finished r.known r.closed in
    let at_w : get_elem? s.views other ≡ some w = sym (Rattle.atomic_table.proofs.Lists.set_else s.views id other B apart) ∙ at_other in
    let e : (x : ℕ) → standing two r.known x ≡ P x =
    λ x.
    let f = standing_set s.views r.known id v B x at in
    let g = standing_set one r.known other w spent x at_other in
    let sum = times-append x v.nodes w.nodes in
    omega (arith, f, g, sum) in
    let mid : Turn (after s s.words id B) r.known r.closed = turn_stays s r.known r.closed s.words id v B at refl refl r.turn in
    let end : Turn (after (after s s.words id B) s.words other spent) r.known r.closed =
    turn_stays (after s s.words id B) r.known r.closed s.words other w spent at_other (sym free) refl mid in
    let F : ℕ → View → Type 0 = λ k u. u.live ≡ true → Agrees r.known P D u in
    let mine : Agrees r.known P D B = both_agrees r.known P D v w (r.agrees id v at live_v) (r.agrees other w at_w live_w) in
    other_views s r two e end
    (each_set F one other spent
    (λ k u ne at_k. each_set F s.views id B (λ j z ne_j at_j. r.agrees j z at_j) (λ _. mine) k u at_k)
    (λ live. absurd (true≢false (sym live))))

-- all words are 0, and nothing is kept or released
pub begins_it : (b : BookValue) → b.kept ≡ [] → b.groups ≡ [] → RuleHolds (opening (replicate (suc (length b.lists)) 0) (Some b ∷ []) (fresh b.lists b.roots))
begins_it b no_kept no_groups =
    let views : List View = fresh b.lists b.roots ∷ [] in
    let o : Outline = outline_of b in
    let none_kept : (x : ℕ) → times x o.kept ≡ 0 = λ x. ap (λ l. times x (Rattle.group_release.specs.Outline.kept_nodes l)) no_kept in
    let none_wanted : (x : ℕ) → times x o.wants ≡ 0 = λ x. ap (λ l. times x (Rattle.group_release.specs.Outline.wanted_nodes l)) no_kept in
    let none_released : (x : ℕ) → times x (flat o.released) ≡ 0 = λ x. ap (λ l. times x (flat l)) no_groups in
    let none_stands : (x : ℕ) → standing views o x ≡ 0 = λ x. let k = none_kept x in let l = none_released x in omega (arith, k, l) in
    let none_done : (x : ℕ) → finished o [] x ≡ 0 = λ x. let l = none_released x in omega (arith, l) in
    let is_fresh : (k : ℕ) (u : View) → get_elem? views k ≡ some u → fresh b.lists b.roots ≡ u = only (fresh b.lists b.roots) in record {
      known = o;
      closed = [];
      turn =
          inl
          (record {
            book = b;
            word = refl;
            homes = refl;
            outline = refl;
            none_closed = refl;
            none_has = λ k u at. ap (λ (z : View). z.turn) (sym (is_fresh k u at));
          });
      count = length-replicate (suc (length b.lists)) 0;
      once = λ x. let z = none_stands x in omega (arith, z);
      below = λ x stands. absurd (let z = none_stands x in omega (arith, z, stands));
      words = λ x lt. record {
        unseen = λ _. get_or-replicate (suc (length b.lists)) (suc x) 0 0 (omega (arith, lt));
        held = λ stands. absurd (let z = none_stands x in omega (arith, z, stands));
        closed = λ done. absurd (let z = none_done x in omega (arith, z, done));
      };
      agrees = λ k u at live.
          subst (Agrees o (standing views o) (finished o [])) (is_fresh k u at)
          (record {
            lists = refl;
            roots = refl;
            seen = λ x some_seen. absurd (omega (arith, some_seen));
            held = λ x noted. absurd noted;
            finished = λ x noted. absurd noted;
            told = λ is_told. absurd (true≢false (sym is_told));
          });
      wants = λ x wanted. absurd (let z = none_wanted x in omega (arith, z, wanted));
    }
  where
    only : (v : View) (k : ℕ) (u : View) → get_elem? (v ∷ []) k ≡ some u → v ≡ u
    only v zero u at = some-injective v u at
    only v (suc k) u at = absurd (some-ne-none u (sym at))
