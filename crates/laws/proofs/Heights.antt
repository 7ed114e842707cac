-- The levels of groups in a legal order, one group after another.
use Rattle.std.proofs.Common.{◌≡◌, ◌↔◌, ◌⊎◌, inl, inr, ℕ, zero, suc, ◌<◌, ◌+◌, true, false, IsTrue, List, [], ◌∷◌, ◌++◌, length, refl, sym, ap, subst, arith}
use Rattle.std.proofs.lemmas.Bool.{cases_eq, cases_lt}
use Rattle.std.proofs.lemmas.List.{length_push}
use Rattle.std.specs.Prelude.{Contains, slice_index_or}
use Rattle.graph_law.specs.Classes.{GroupCalls, IsRecursive, group_at, least_member}
use Rattle.graph_law.specs.Graph.{Calls}
use Rattle.graph_law.specs.LegalOrder.{IsLegalOrder}
use Rattle.group_release.specs.declared.level.Level.{Level}
use Rattle.group_release.specs.Level.{AreLevels, level_at}
use Rattle.group_release.specs.Levels.{AreRaised, IsRaised}
use Rattle.group_release.proofs.LevelSteps.{calls_before, levels_done, raised_more}
use Rattle.laws.proofs.Choices.{Decided, found_in_or, in_or_out}

-- one group calls another or not

calls_or : (lists : List (List ℕ)) (group : List ℕ) (p : ℕ) → Decided ((q : ℕ) × Contains group q × Calls lists p q)
calls_or lists group p = elim (found_in_or (Calls lists p) (λ q. in_or_out (slice_index_or lists p []) q) group) [
  | inl found ↦ inl (found.element, found.is_in, found.holds)
  | inr none ↦ inr (λ calls. none calls.0 calls.1 calls.2)
]

apart_or : (lists : List (List ℕ)) (groups : List (List ℕ)) (i j : ℕ) → i < length groups → j < length groups → (i ≡ j → ⊥)
    → Decided (GroupCalls (Calls lists) groups i j)
apart_or lists groups i j within inside other =
    elim (found_in_or (λ p. (q : ℕ) × Contains (group_at groups j) q × Calls lists p q) (calls_or lists (group_at groups j)) (group_at groups i)) [
      | inl found ↦ inl (record {
        caller = found.element;
        callee = found.holds.0;
        caller_within = within;
        callee_within = inside;
        other = other;
        is_caller = found.is_in;
        is_callee = found.holds.1;
        call = found.holds.2;
      })
      | inr none ↦ inr (λ led. none led.caller led.is_caller (led.callee, led.is_callee, led.call))
    ]

leads_or : (lists : List (List ℕ)) (groups : List (List ℕ)) (i j : ℕ) → Decided (GroupCalls (Calls lists) groups i j)
leads_or lists groups i j = elim (cases_lt i (length groups)) [
  | inr past ↦ inr (λ led. (let lt = led.caller_within in omega (arith, past, lt)))
  | inl within ↦ elim (cases_lt j (length groups)) [
    | inr past ↦ inr (λ led. (let lt = led.callee_within in omega (arith, past, lt)))
    | inl inside ↦ elim (cases_eq i j) [
      | inl same ↦ inr (λ led. led.other same)
      | inr other ↦ apart_or lists groups i j within inside other
    ]
  ]
]

-- a group is recursive or not

recursive_or : (lists : List (List ℕ)) (group : List ℕ) → Decided (IsRecursive (Calls lists) group)
recursive_or lists group = elim (cases_lt 1 (length group)) [
  | inl long ↦ inl (inl (omega (arith, long)))
  | inr short ↦ elim (cases_eq (length group) 1) [
    | inr ne ↦ inr (λ recursive. elim recursive [
      | inl long ↦ omega (arith, long, short)
      | inr one ↦ ne one.0
    ])
    | inl one ↦ elim (in_or_out (slice_index_or lists (least_member group) []) (least_member group)) [
      | inl calls ↦ inl (inr (one, calls))
      | inr none ↦ inr (λ recursive. elim recursive [
        | inl long ↦ omega (arith, long, short)
        | inr own ↦ none own.1
      ])
    ]
  ]
]

-- a height above those that have the property, below a bound

record IsHighBelow (P : ℕ → Type 0) (levels : List Level) (bound height : ℕ) : Type 0 where
  above : (j : ℕ) → j < bound → P j → (level_at levels j).height < height
  least : (height ≡ 0) ⊎ ((j : ℕ) × P j × (height ≡ (level_at levels j).height + 1))

high_more : (P : ℕ → Type 0) (levels : List Level) (n height : ℕ) → Decided (P n) → IsHighBelow P levels n height
    → (higher : ℕ) × IsHighBelow P levels (suc n) higher
high_more P levels n height (inr fails) is = (
  height,
  record {
    above = λ j lt holds. elim (cases_eq j n) [
      | inl here ↦ absurd (fails (subst P here holds))
      | inr ne ↦ is.above j (omega (arith, lt, ne)) holds
    ];
    least = is.least;
  },
)
high_more P levels n height (inl holds) is = elim (cases_lt (level_at levels n).height height) [
  | inl low ↦ (
    height,
    record {
      above = λ j lt has. elim (cases_eq j n) [
        | inl here ↦ (let same : (level_at levels j).height ≡ (level_at levels n).height = ap (λ k. (level_at levels k).height) here in omega (arith, same, low))
        | inr ne ↦ is.above j (omega (arith, lt, ne)) has
      ];
      least = is.least;
    },
  )
  | inr high ↦ (
    (level_at levels n).height + 1,
    record {
      above = λ j lt has. elim (cases_eq j n) [
        | inl here ↦ (let same : (level_at levels j).height ≡ (level_at levels n).height = ap (λ k. (level_at levels k).height) here in omega (arith, same))
        | inr ne ↦ (let before = is.above j (omega (arith, lt, ne)) has in omega (arith, before, high))
      ];
      least = inr (n, holds, refl);
    },
  )
]

high_below : (P : ℕ → Type 0) → ((j : ℕ) → Decided (P j)) → (levels : List Level) (n : ℕ) → (height : ℕ) × IsHighBelow P levels n height
high_below P each levels zero = (0, record { above = λ j lt holds. absurd (omega (arith, lt)); least = inl refl })
high_below P each levels (suc n) =
    let before : (height : ℕ) × IsHighBelow P levels n height = high_below P each levels n in
    high_more P levels n before.0 (each n) before.1

-- the level of a group

mark_of : (lists : List (List ℕ)) (group : List ℕ) (height : ℕ) → Decided (IsRecursive (Calls lists) group)
    → (level : Level) × (level.height ≡ height) × (IsTrue level.recursive ↔ IsRecursive (Calls lists) group)
mark_of lists group height (inl is) = (record { height = height; recursive = true }, refl, (λ told. is, λ recursive. refl))
mark_of lists group height (inr isnt) =
    (record { height = height; recursive = false }, refl, (λ told. (let both : true ≡ false = sym told in cc), λ recursive. absurd (isnt recursive)))

module _ (lists : List (List ℕ)) (groups : List (List ℕ)) (legal : IsLegalOrder (Calls lists) groups) where
  abbrev Leads : ℕ → ℕ → Type 0
  Leads = GroupCalls (Calls lists) groups

  next_height : (levels : List Level) → (height : ℕ) × IsRaised (Leads (length levels)) levels 0 height
  next_height levels =
      let n : ℕ = length levels in
      let high : (height : ℕ) × IsHighBelow (Leads n) levels n height = high_below (Leads n) (leads_or lists groups n) levels n in
      (high.0, record { kept = omega arith; above = λ j led. high.1.above j (calls_before legal led) led; least = high.1.least })

  first_levels : (n : ℕ) → (levels : List Level) × (length levels ≡ n) × AreRaised (Calls lists) groups levels
  first_levels zero =
      ([], refl, record { low = λ i lt. absurd (omega (arith, lt)); heights = λ i lt. absurd (omega (arith, lt)); marks = λ i lt. absurd (omega (arith, lt)) })
  first_levels (suc n) =
      let before : (levels : List Level) × (length levels ≡ n) × AreRaised (Calls lists) groups levels = first_levels n in
      let levels : List Level = before.0 in
      let high : (height : ℕ) × IsRaised (Leads (length levels)) levels 0 height = next_height levels in
      let group : List ℕ = group_at groups (length levels) in
      let level : (level : Level) × (level.height ≡ high.0) × (IsTrue level.recursive ↔ IsRecursive (Calls lists) group) =
      mark_of lists group high.0 (recursive_or lists group) in
      let each : length levels ≡ n = before.1 in (
        levels ++ level.0 ∷ [],
        omega (arith, length_push levels level.0, each),
        raised_more level.0 legal before.2 (subst (IsRaised (Leads (length levels)) levels 0) (sym level.1) high.1) level.2,
      )

  pub levels_of : (levels : List Level) × AreLevels (Calls lists) groups levels
  levels_of =
      let all : (levels : List Level) × (length levels ≡ length groups) × AreRaised (Calls lists) groups levels = first_levels (length groups) in
      (all.0, levels_done legal all.1 all.2)
