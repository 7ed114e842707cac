-- Whoever finds the groups of a graph and their levels finds the same lines, in one order.
use Rattle.std.proofs.Common.{◌≡◌, ℕ, zero, suc, ◌<◌, ◌≤◌, ◌⊎◌, Bool, true, false, IsTrue, List, [], length, map, get_or, AllPairs, Contains, refl, sym, subst, ◌∙◌, ap, inl, inr, arith}
use Rattle.std.proofs.lemmas.List.{ext_get_or, get_or-map, length-map}
use Rattle.std.proofs.lemmas.List.Elements.{Contains-get_or}
use Rattle.graph_law.specs.Reach.{IsReached}
use Rattle.graph_law.specs.Classes.{HasMember, GroupCalls, IsRecursive, group_at, least_member}
use Rattle.graph_law.proofs.ReachLaws.{along_walk}
use Rattle.graph_law.proofs.ClassLaws.{least_is_member}
use Rattle.graph_law.proofs.Unique.{class_unique}
use Rattle.group_release.specs.declared.level.Level.{Level}
use Rattle.group_release.specs.Level.{level_at}
use Rattle.report_lines.specs.Reportable.{AreGroups, AreLeveled}
use Rattle.report_lines.specs.LineOrder.{IsLineOrder}
use Rattle.report_lines.proofs.LineOrder.{places_within}
use Rattle.report_lines.proofs.Printable.{one_each}
use Rattle.list_laws.proofs.OneOrder.{IsStrict, same_order, holds_of, order_has, order_below}

-- all that is reached stands in a group
pub reached_has : {calls : ℕ → ℕ → Type 0} {starts : List ℕ} {groups : List (List ℕ)} → AreGroups calls starts groups → (p : ℕ) → IsReached calls starts p → HasMember groups p
reached_has {calls} {starts} {groups} are p reached =
    along_walk calls (HasMember groups)
    (λ from to has call.
    let stands = are.legal.callees_first has.place from to has.within has.member call in
    record { place = stands.place; within = omega (arith, stands.upto, has.within); member = stands.member })
    reached.start reached.reaches.path p reached.reaches.walk (holds_of (HasMember groups) starts reached.start are.complete reached.is_start)

-- each group of the first stands in the second
pub record HasPlace (group : List ℕ) (others : List (List ℕ)) : Type 0 where
  pub place : ℕ
  pub within : place < length others
  pub same : group ≡ group_at others place

pub place_of : {calls : ℕ → ℕ → Type 0} {starts : List ℕ} {groups others : List (List ℕ)} → AreGroups calls starts groups → AreGroups calls starts others
    → (i : ℕ) → i < length groups → HasPlace (group_at groups i) others
place_of {calls} {starts} {groups} {others} are also i lt =
    let class = are.legal.each i [] lt in
    let p : ℕ = least_member (group_at groups i) in
    let has : HasMember others p = reached_has also p (are.reached p (record { place = i; within = lt; member = least_is_member class })) in
    record {
      place = has.place;
      within = has.within;
      same = class_unique class (also.legal.each has.place [] has.within) p (least_is_member class) has.member;
    }

-- a group stands once
pub once : {calls : ℕ → ℕ → Type 0} {starts : List ℕ} {groups : List (List ℕ)} → AreGroups calls starts groups
    → (i j : ℕ) → i < length groups → j < length groups → group_at groups i ≡ group_at groups j → i ≡ j
once {calls} {starts} {groups} are i j within inside same =
    let p : ℕ = least_member (group_at groups i) in
    let here : Contains (group_at groups i) p = least_is_member (are.legal.each i [] within) in
    are.legal.once i j p within inside here (subst (λ xs. Contains xs p) same here)

-- by the bound n on the first height
heights_le : {calls : ℕ → ℕ → Type 0} {starts : List ℕ} {groups others : List (List ℕ)} {levels marks : List Level}
    → AreLeveled calls starts groups levels → AreLeveled calls starts others marks → (n i j : ℕ) → i < length groups → j < length others
    → group_at groups i ≡ group_at others j → get_or (map (λ (level : Level). level.height) levels) i 0 ≤ n
    → get_or (map (λ (level : Level). level.height) levels) i 0 ≤ get_or (map (λ (level : Level). level.height) marks) j 0
heights_le {calls} {starts} {groups} {others} {levels} {marks} a b zero i j within inside same low = omega (arith, low)
heights_le {calls} {starts} {groups} {others} {levels} {marks} a b (suc n) i j within inside same low =
    elim (a.leveled.heights.least i within) [
      | inl none ↦ omega (arith, none)
      | inr (k, led, at) ↦
          let there = place_of a.are b.are k led.callee_within in
          let callee : get_or (map (λ (level : Level). level.height) levels) k 0 ≤ get_or (map (λ (level : Level). level.height) marks) there.place 0 =
          heights_le a b n k there.place led.callee_within there.within there.same (omega (arith, low, at)) in
          let apart : j ≡ there.place → ⊥ = λ is.
          led.other (once a.are i k within led.callee_within (same ∙ (ap (group_at others) is ∙ sym there.same))) in
          let calls_too : GroupCalls calls others j there.place = record {
            caller = led.caller;
            callee = led.callee;
            caller_within = inside;
            callee_within = there.within;
            other = apart;
            is_caller = subst (λ xs. Contains xs led.caller) same led.is_caller;
            is_callee = subst (λ xs. Contains xs led.callee) there.same led.is_callee;
            call = led.call;
          } in
          omega (arith, at, callee, b.leveled.heights.above j there.place calls_too)
    ]

same_mark : (a b : Bool) → (IsTrue a → IsTrue b) → (IsTrue b → IsTrue a) → a ≡ b
same_mark true true to from = refl
same_mark true false to from = let no : IsTrue false = to refl in cc
same_mark false true to from = let no : IsTrue false = from refl in cc
same_mark false false to from = refl

height_is : (levels : List Level) (i : ℕ) → i < length levels → get_or (map (λ (level : Level). level.height) levels) i 0 ≡ (level_at levels i).height
height_is levels i lt = get_or-map (λ (level : Level). level.height) levels i (record { height = 0; recursive = false }) 0 lt

-- one group has one level
pub one_level : {calls : ℕ → ℕ → Type 0} {starts : List ℕ} {groups others : List (List ℕ)} {levels marks : List Level}
    → AreLeveled calls starts groups levels → AreLeveled calls starts others marks → (i j : ℕ) → i < length groups → j < length others
    → group_at groups i ≡ group_at others j → level_at levels i ≡ level_at marks j
one_level {calls} {starts} {groups} {others} {levels} {marks} a b i j within inside same =
    let first = height_is levels i (omega (arith, within, one_each a.leveled)) in
    let second = height_is marks j (omega (arith, inside, one_each b.leveled)) in
    let low = heights_le a b (get_or (map (λ (level : Level). level.height) levels) i 0) i j within inside same (omega arith) in
    let high = heights_le b a (get_or (map (λ (level : Level). level.height) marks) j 0) j i inside within (sym same) (omega arith) in
    let heights : (level_at levels i).height ≡ (level_at marks j).height = omega (arith, first, second, low, high) in
    let recursive : (level_at levels i).recursive ≡ (level_at marks j).recursive =
    same_mark (level_at levels i).recursive (level_at marks j).recursive
    (λ yes. (b.leveled.marks j inside).1 (subst (IsRecursive calls) same ((a.leveled.marks i within).0 yes)))
    (λ yes. (a.leveled.marks i within).1 (subst (IsRecursive calls) (sym same) ((b.leveled.marks j inside).0 yes))) in
    λ k. record { height = heights k; recursive = recursive k }

-- a group and its level
abbrev pub line_at : List (List ℕ) → List Level → ℕ → List ℕ × Level
line_at groups levels place = (group_at groups place, level_at levels place)

abbrev pub lines : List (List ℕ) → List Level → List ℕ → List (List ℕ × Level)
lines groups levels order = map (line_at groups levels) order

abbrev IsBefore : List ℕ × Level → List ℕ × Level → Type 0
IsBefore a b = (a.1.height < b.1.height) ⊎ ((a.1.height ≡ b.1.height) × (least_member a.0 < least_member b.0))

before_strict : IsStrict IsBefore
before_strict = record {
  one_way = λ a b there back.
      elim there [
        | inl lower ↦ elim back [ inl higher ↦ omega (arith, lower, higher) | inr as_high ↦ omega (arith, lower, as_high.0) ]
        | inr as_high ↦ elim back [ inl higher ↦ omega (arith, as_high.0, higher) | inr as_low ↦ omega (arith, as_high.1, as_low.1) ]
      ];
}

lines_rise : (groups : List (List ℕ)) (levels : List Level) (order : List ℕ) → IsLineOrder groups levels order → AllPairs IsBefore (lines groups levels order)
lines_rise groups levels order is i j d lt within =
    let long = length-map order (line_at groups levels) in
    let first : get_or (lines groups levels order) i d ≡ line_at groups levels (get_or order i 0) =
    get_or-map (line_at groups levels) order i 0 d (omega (arith, lt, within, long)) in
    let second : get_or (lines groups levels order) j d ≡ line_at groups levels (get_or order j 0) =
    get_or-map (line_at groups levels) order j 0 d (omega (arith, within, long)) in
    subst (λ x. IsBefore x (get_or (lines groups levels order) j d)) (sym first)
    (subst (λ x. IsBefore (line_at groups levels (get_or order i 0)) x) (sym second) (is.rising i j 0 lt (omega (arith, within, long))))

pub has_line : (groups : List (List ℕ)) (levels : List Level) (order : List ℕ) (p : ℕ) → Contains order p → Contains (lines groups levels order) (line_at groups levels p)
has_line groups levels order p (k, lt, is) =
    (k, omega (arith, lt, length-map order (line_at groups levels)), get_or-map (line_at groups levels) order k p (line_at groups levels p) lt ∙ ap (line_at groups levels) is)

-- each line of the first is one of the second
across : {calls : ℕ → ℕ → Type 0} {starts : List ℕ} {groups others : List (List ℕ)} {levels marks : List Level}
    → AreLeveled calls starts groups levels → AreLeveled calls starts others marks → (order rows : List ℕ) → IsLineOrder groups levels order → IsLineOrder others marks rows
    → (z : List ℕ × Level) → Contains (lines groups levels order) z → Contains (lines others marks rows) z
across {calls} {starts} {groups} {others} {levels} {marks} a b order rows is also z (k, lt, at) =
    let short : k < length order = omega (arith, lt, length-map order (line_at groups levels)) in
    let p : ℕ = get_or order k 0 in
    let below : p < length groups = order_below (length groups) p order is.each_once (Contains-get_or order k 0 short) in
    let there = place_of a.are b.are p below in
    let level : level_at levels p ≡ level_at marks there.place = one_level a b p there.place below there.within there.same in
    let same : line_at others marks there.place ≡ z =
    sym (λ i. (there.same i, level i)) ∙ (sym (get_or-map (line_at groups levels) order k 0 z short) ∙ at) in
    subst (Contains (lines others marks rows)) same
    (has_line others marks rows there.place (order_has (length others) there.place rows also.each_once there.within))

pub same_lines : {calls : ℕ → ℕ → Type 0} {starts : List ℕ} {groups others : List (List ℕ)} {levels marks : List Level}
    → AreLeveled calls starts groups levels → AreLeveled calls starts others marks → (order rows : List ℕ) → IsLineOrder groups levels order → IsLineOrder others marks rows
    → lines groups levels order ≡ lines others marks rows
same_lines {calls} {starts} {groups} {others} {levels} {marks} a b order rows is also =
    same_order IsBefore before_strict (lines groups levels order) (lines others marks rows) (lines_rise groups levels order is) (lines_rise others marks rows also)
    (across a b order rows is also) (across b a rows order also is)

-- what each group has just one of, line by line

module _ (groups others : List (List ℕ)) (levels marks : List Level) (order rows : List ℕ) (in_order : IsLineOrder groups levels order)
    (in_rows : IsLineOrder others marks rows) (same : lines groups levels order ≡ lines others marks rows) where
  as_long : length order ≡ length rows
  as_long = sym (length-map order (line_at groups levels)) ∙ (ap length same ∙ length-map rows (line_at others marks))

  same_group : (i : ℕ) → i < length order → group_at groups (get_or order i 0) ≡ group_at others (get_or rows i 0)
  same_group i lt =
      let d = line_at groups levels 0 in
      let inside : i < length rows = omega (arith, lt, as_long) in
      ap (λ (line : List ℕ × Level). line.0)
      (sym (get_or-map (line_at groups levels) order i 0 d lt) ∙ (ap (λ all. get_or all i d) same ∙ get_or-map (line_at others marks) rows i 0 d inside))

  pub same_values : {A : Type 0} (none : A) (Has : List ℕ → A → Type 0) → ((group : List ℕ) (a b : A) → Has group a → Has group b → a ≡ b)
      → (values found : List A) → ((i : ℕ) → i < length groups → Has (group_at groups i) (get_or values i none))
      → ((i : ℕ) → i < length others → Has (group_at others i) (get_or found i none))
      → map (λ place. get_or values place none) order ≡ map (λ place. get_or found place none) rows
  same_values {A} none Has one values found are also =
      let here : ℕ → A = λ place. get_or values place none in
      let there : ℕ → A = λ place. get_or found place none in
      ext_get_or none (map here order) (map there rows) (length-map order here ∙ (as_long ∙ sym (length-map rows there)))
      (λ i lt.
      let within : i < length order = omega (arith, lt, length-map order here) in
      let inside : i < length rows = omega (arith, within, as_long) in
      let p : ℕ = get_or order i 0 in
      let r : ℕ = get_or rows i 0 in
      get_or-map here order i 0 none within
      ∙ (one (group_at groups p) (here p) (there r) (are p (places_within groups levels order in_order i 0 within))
      (subst (λ group. Has group (there r)) (sym (same_group i within)) (also r (places_within others marks rows in_rows i 0 inside)))
      ∙ sym (get_or-map there rows i 0 none inside)))
