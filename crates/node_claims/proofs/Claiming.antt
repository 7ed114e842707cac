-- Claims and looks keep the rule.
use Rattle.std.proofs.Common.{◌≡◌, ◌≢◌, ℕ, zero, suc, ◌<◌, ◌≤◌, ◌+◌, List, [], ◌∷◌, length, get_or, set, true, refl, ap, ◌∙◌, sym, subst, arith, eqb, ne_eqb}
use Rattle.std.proofs.lemmas.List.{get_or-set_same, get_or-set_other, set-get_or, length-set}
use mathlib.Core.Option.{Option, some, none}
use native.Mathlib.Decide.{ℕ_discrete}
use lib.ListN.{get_elem?}
use prog.Atomic.{either}
use Rattle.atomic_table.specs.Table.{Me, Allows, keeps, step}
use Rattle.list_laws.specs.Counts.{times}
use Rattle.list_laws.proofs.Counting.{times-append, times_here, times_other}
use Rattle.node_claims.specs.declared.view.View.{View}
use Rattle.node_claims.specs.Views.{claimed, looked}
use Rattle.node_claims.specs.Rule.{Agrees, RuleHolds, Slot, WordIs, finished, standing}
use Rattle.node_claims.specs.Steps.{IsLater, claims, looks_at}
use Rattle.node_claims.proofs.Turns.{Tab, Turn, after, each_set, turn_stays}
use Rattle.node_claims.proofs.Words.{agrees_more, is_later, look_agrees, standing_set, word_zero}

-- a step that changes no count, with the words of the nodes as they were
pub keeps_counts : (s : Tab) (r : RuleHolds s) (id : ℕ) (v w : View) (ws : List ℕ) (hs : List (Option Slot)) → get_elem? s.views id ≡ some v → w.nodes ≡ v.nodes
    → length ws ≡ length s.words → ((y : ℕ) → get_or ws (suc y) 0 ≡ get_or s.words (suc y) 0)
    → Turn (record { words = ws; homes = hs; views = set s.views id w }) r.known r.closed
    → (w.live ≡ true → Agrees r.known (standing s.views r.known) (finished r.known r.closed) w)
    → RuleHolds (record { words = ws; homes = hs; views = set s.views id w })
keeps_counts s r id v w ws hs at nodes wide same turn mine =
    let D : ℕ → ℕ = finished r.known r.closed in
    let P : ℕ → ℕ = standing s.views r.known in
    let Q : ℕ → ℕ = standing (set s.views id w) r.known in
    let e : (y : ℕ) → P y ≡ Q y = λ y. let h = standing_set s.views r.known id v w y at in let t : times y w.nodes ≡ times y v.nodes = ap (times y) nodes in omega (arith, h, t) in
    let more : (y : ℕ) → P y ≤ Q y = λ y. let h = e y in omega (arith, h) in
    let all : (y : ℕ) → D y ≤ D y = λ y. omega arith in record {
      known = r.known;
      closed = r.closed;
      turn = turn;
      count = wide ∙ r.count;
      once = λ y. let h = e y in let g = r.once y in omega (arith, h, g);
      below = λ y stands. r.below y (let h = e y in omega (arith, h, stands));
      words = λ y lt. subst (λ (p : ℕ). WordIs p (D y) (get_or ws (suc y) 0)) (e y) (subst (λ (n : ℕ). WordIs (P y) (D y) n) (sym (same y)) (r.words y lt));
      agrees =
          each_set (λ k u. u.live ≡ true → Agrees r.known Q D u) s.views id w
          (λ k u ne at_k live. agrees_more r.known P Q D D u more all (r.agrees k u at_k live))
          (λ live. agrees_more r.known P Q D D w more all (mine live));
      wants = λ y wanted. let h = e y in let g = r.wants y wanted in omega (arith, h, g);
    }

-- the node's word, where the pass knows that it is one
pub at_word : (s : Tab) (r : RuleHolds s) (x : ℕ) → x < length r.known.lists → WordIs (standing s.views r.known x) (finished r.known r.closed x) (get_or s.words (suc x) 0)
at_word s r x lt = r.words x lt

pub is_node : (s : Tab) (r : RuleHolds s) (id : ℕ) (v : View) (x : ℕ) → get_elem? s.views id ≡ some v → v.live ≡ true → x < length v.lists → x < length r.known.lists
is_node s r id v x at live lt = subst (λ (l : List (List ℕ)). x < length l) (r.agrees id v at live).lists lt

-- what a look leaves of nodes and the turn
looked_nodes : (x n : ℕ) (v : View) → (looked x n v).nodes ≡ v.nodes
looked_nodes x zero v = refl
looked_nodes x (suc zero) v = refl
looked_nodes x (suc (suc n)) v = refl

looked_turn : (x n : ℕ) (v : View) → (looked x n v).turn ≡ v.turn
looked_turn x zero v = refl
looked_turn x (suc zero) v = refl
looked_turn x (suc (suc n)) v = refl

-- a look
pub looks : (s : Tab) (r : RuleHolds s) (id : ℕ) (v : View) (x n : ℕ) → get_elem? s.views id ≡ some v → v.live ≡ true → x < length v.lists → get_or s.words (suc x) 0 ≡ n
    → RuleHolds (after s (set s.words (suc x) n) id (looked x n v))
looks s r id v x n at live lt is =
    let w : View = looked x n v in
    let a = r.agrees id v at live in
    let word : WordIs (standing s.views r.known x) (finished r.known r.closed x) n =
    subst (λ (m : ℕ). WordIs (standing s.views r.known x) (finished r.known r.closed x) m) is (at_word s r x (is_node s r id v x at live lt)) in
    let same : set s.words (suc x) n ≡ s.words = ap (set s.words (suc x)) (sym is) ∙ set-get_or s.words (suc x) 0 in
    let ws : List ℕ = set s.words (suc x) n in
    keeps_counts s r id v w ws s.homes at (looked_nodes x n v) (ap length same) (λ y. ap (λ (l : List ℕ). get_or l (suc y) 0) same)
    (turn_stays s r.known r.closed ws id v w at (looked_turn x n v) (ap (λ (l : List ℕ). get_or l 0 0) same) r.turn)
    (λ _. look_agrees r.known (standing s.views r.known) (finished r.known r.closed) v x n word a)

-- a claim that wins
pub won : (s : Tab) (r : RuleHolds s) (id : ℕ) (v : View) (x : ℕ) → get_elem? s.views id ≡ some v → v.live ≡ true → x < length v.lists → get_or s.words (suc x) 0 ≡ 0
    → RuleHolds (after s (set s.words (suc x) 1) id (claimed x 0 v))
won s r id v x at live lt z =
    let w : View = claimed x 0 v in
    let ws : List ℕ = set s.words (suc x) 1 in
    let a = r.agrees id v at live in
    let lt' : x < length r.known.lists = is_node s r id v x at live lt in
    let D : ℕ → ℕ = finished r.known r.closed in
    let P : ℕ → ℕ = standing s.views r.known in
    let Q : ℕ → ℕ = standing (set s.views id w) r.known in
    let free : (P x ≡ 0) × (D x ≡ 0) = word_zero (P x) (D x) (get_or s.words (suc x) 0) (at_word s r x lt') z in
    let e : (y : ℕ) → Q y ≡ P y + times y (x ∷ []) =
    λ y. let h = standing_set s.views r.known id v w y at in let t = times-append y v.nodes (x ∷ []) in omega (arith, h, t) in
    let more : (y : ℕ) → P y ≤ Q y = λ y. let h = e y in omega (arith, h) in
    let all : (y : ℕ) → D y ≤ D y = λ y. omega arith in
    let here : Q x ≡ 1 = let h = e x in let g = times_here x in let f = free.0 in omega (arith, h, g, f) in
    let there : (y : ℕ) → x ≢ y → Q y ≡ P y = λ y other. let h = e y in let t = times_other y x other in omega (arith, h, t) in
    let word : WordIs (P x) (D x) 0 = subst (WordIs (P x) (D x)) z (at_word s r x lt') in
    let as_looked : Agrees r.known Q D (looked x 0 v) = agrees_more r.known P Q D D (looked x 0 v) more all (look_agrees r.known P D v x 0 word a) in
    let wide : suc x < length s.words = let c = r.count in omega (arith, c, lt') in record {
      known = r.known;
      closed = r.closed;
      turn = turn_stays s r.known r.closed ws id v w at refl (get_or-set_other s.words (suc x) 0 1 0 (λ f. omega (arith, f))) r.turn;
      count = length-set s.words (suc x) 1 ∙ r.count;
      once = λ y.
          elim (ℕ_discrete x y) as (λ _. Q y ≤ 1) [
            | yes same ↦ subst (λ (u : ℕ). Q u ≤ 1) same (omega (arith, here))
            | no other ↦ let h = there y other in let g = r.once y in omega (arith, h, g)
          ];
      below = λ y stands.
          elim (ℕ_discrete x y) as (λ _. y < length r.known.lists) [
            | yes same ↦ subst (λ (u : ℕ). u < length r.known.lists) same lt'
            | no other ↦ r.below y (let h = there y other in omega (arith, h, stands))
          ];
      words = λ y y_lt.
          elim (ℕ_discrete x y) as (λ _. WordIs (Q y) (D y) (get_or ws (suc y) 0)) [
            | yes same ↦
                subst (λ (u : ℕ). WordIs (Q u) (D u) (get_or ws (suc u) 0)) same
                (record {
                  unseen = λ nowhere. absurd (omega (arith, here, nowhere));
                  held = λ _ _. get_or-set_same s.words (suc x) 1 0 wide;
                  closed = λ done. let f = free.1 in absurd (omega (arith, done, f));
                })
            | no other ↦
                subst (λ (p : ℕ). WordIs p (D y) (get_or ws (suc y) 0)) (sym (there y other))
                (subst (λ (n : ℕ). WordIs (P y) (D y) n)
                (sym (get_or-set_other s.words (suc x) (suc y) 1 0 (λ same. other (let t : suc y ≡ suc x = same in omega (arith, t)))))
                (r.words y y_lt))
          ];
      agrees =
          each_set (λ k u. u.live ≡ true → Agrees r.known Q D u) s.views id w
          (λ k u ne at_k is_live. agrees_more r.known P Q D D u more all (r.agrees k u at_k is_live))
          (λ _. record { lists = as_looked.lists; roots = as_looked.roots; seen = as_looked.seen; held = as_looked.held; finished = as_looked.finished; told = as_looked.told });
      wants = λ y wanted. let h = more y in let g = r.wants y wanted in omega (arith, h, g);
    }

-- a claim, whatever it finds
claim_keeps : (s : Tab) (r : RuleHolds s) (id : ℕ) (v : View) (x n : ℕ) → get_elem? s.views id ≡ some v → v.live ≡ true → x < length v.lists → get_or s.words (suc x) 0 ≡ n
    → RuleHolds (after s (set s.words (suc x) (either (eqb n 0) 1 n)) id (claimed x n v))
claim_keeps s r id v x zero at live lt is = won s r id v x at live lt is
claim_keeps s r id v x (suc n) at live lt is =
    let stays : either (eqb (suc n) 0) 1 (suc n) ≡ suc n = ap (λ b. either b 1 (suc n)) (ne_eqb (suc n) 0 (λ z. omega (arith, z))) in
    subst (λ (m : ℕ). RuleHolds (after s (set s.words (suc x) m) id (looked x (suc n) v))) (sym stays) (looks s r id v x (suc n) at live lt is)

later : (s : Tab) (r : RuleHolds s) (id : ℕ) (v : View) (x : ℕ) → get_elem? s.views id ≡ some v → v.live ≡ true → x < length v.lists → IsLater x v (get_or s.words (suc x) 0)
later s r id v x at live lt =
    is_later r.known s.views (finished r.known r.closed) id v x (get_or s.words (suc x) 0) at (at_word s r x (is_node s r id v x at live lt)) (r.agrees id v at live)

pub claims_it : (slots id x : ℕ) (me : Me Slot View) → me.0.live ≡ true → x < length me.0.lists
    → Allows RuleHolds slots id me (suc x) (λ n. either (eqb n 0) 1 n) (claims (step slots (suc x) 0 1 none) me)
claims_it slots id x me live lt s r wide at fits =
    let n : ℕ = get_or s.words (suc x) 0 in (claimed x n me.0, keeps, tt, claim_keeps s r id me.0 x n at live lt refl, (later s r id me.0 x at live lt, refl))

pub looks_it : (slots id x : ℕ) (me : Me Slot View) → me.0.live ≡ true → x < length me.0.lists
    → Allows RuleHolds slots id me (suc x) (λ n. n) (looks_at (step slots (suc x) 0 0 none) me)
looks_it slots id x me live lt s r wide at fits =
    let n : ℕ = get_or s.words (suc x) 0 in (looked x n me.0, keeps, tt, looks s r id me.0 x n at live lt refl, (later s r id me.0 x at live lt, refl))
