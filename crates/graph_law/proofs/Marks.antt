-- How marks spread from the starts to all that they reach.
use Rattle.std.proofs.Common.{◌≡◌, ◌⊎◌, inl, inr, ℕ, ◌<◌, Bool, true, false, List, [], ◌∷◌, ◌++◌, length, get_or, set, subst, sym, ◌∙◌, arith, get_or-set_same, get_or-set_other}
use Rattle.std.proofs.lemmas.Bool.{cases_eq, cases_lt, false≢true}
use Rattle.std.proofs.lemmas.List.{get_or-replicate, get_or_past, get_or_read, length-replicate, length-set}
use Rattle.std.proofs.Math.ListN.{replicate}
use Rattle.std.proofs.lemmas.List.Elements.{All-contains, All-append, All-contains_itself, All-weaker, Contains-append_left, Contains-append_right, Contains-push, Contains-push_cases}
use Rattle.std.specs.Prelude.{All, Contains}
use Rattle.graph_law.specs.Reach.{IsReached}
use Rattle.graph_law.specs.Reached.{AreReached}
use Rattle.graph_law.proofs.ReachLaws.{reaches_call, is_reached_on, is_reached_start, along_walk}

abbrev pub IsMarked : List Bool → ℕ → Type 0
IsMarked marks p = get_or marks p false ≡ true

-- marked already, or still to be opened
abbrev pub IsHeld : List Bool → List ℕ → ℕ → Type 0
IsHeld marks pending p = IsMarked marks p ⊎ Contains pending p

-- the starts and the successors of each marked node are held, and nothing is held that is not reached
pub record IsSpreading (calls : ℕ → ℕ → Type 0) (count : ℕ) (starts : List ℕ) (marks : List Bool) (pending : List ℕ) : Type 0 where
  pub each : length marks ≡ count
  pub nodes : All (λ p. p < count) pending
  pub marks_sound : (p : ℕ) → IsMarked marks p → IsReached calls starts p
  pub pending_sound : All (IsReached calls starts) pending
  pub starts_held : (p : ℕ) → Contains starts p → IsHeld marks pending p
  pub calls_held : (p q : ℕ) → IsMarked marks p → calls p q → IsHeld marks pending q

none_marked : (count p : ℕ) → IsMarked (replicate count false) p → ⊥
none_marked count p marked =
    elim (cases_lt p count) [
      | inl lt ↦ false≢true (sym (get_or-replicate count p false false lt) ∙ marked)
      | inr le ↦ false≢true (sym (get_or_past (replicate count false) p false (let same = length-replicate count false in omega (arith, same))) ∙ marked)
    ]

none_held : (q : ℕ) → Contains {X = ℕ} [] q → ⊥
none_held q held = let lt = held.1 in absurd (omega (arith, lt))

pub spreading_start : (calls : ℕ → ℕ → Type 0) (count : ℕ) (starts : List ℕ) → All (λ p. p < count) starts
    → IsSpreading calls count starts (replicate count false) starts
spreading_start calls count starts nodes = record {
  each = length-replicate count false;
  nodes = nodes;
  marks_sound = λ p marked. absurd (none_marked count p marked);
  pending_sound = All-weaker (Contains starts) (IsReached calls starts) (is_reached_start calls starts) starts (All-contains_itself starts);
  starts_held = λ p is_start. inr is_start;
  calls_held = λ p q marked call. absurd (none_marked count p marked);
}

All-front : (P : ℕ → Type 0) (rest : List ℕ) (p : ℕ) → All P (rest ++ p ∷ []) → All P rest
All-front P rest p all =
    All-weaker (Contains rest) P (λ q within. All-contains P (rest ++ p ∷ []) q all (Contains-append_left rest (p ∷ []) q within)) rest
    (All-contains_itself rest)

held_without : (marks : List Bool) (rest : List ℕ) (p q : ℕ) → IsMarked marks p → IsHeld marks (rest ++ p ∷ []) q → IsHeld marks rest q
held_without marks rest p q marked held =
    elim held [
      | inl already ↦ inl already
      | inr within ↦
          elim (Contains-push_cases rest p q within) [ inl before ↦ inr before | inr is ↦ inl (subst (IsMarked marks) is marked) ]
    ]

-- a node that is marked already is left out
pub spreading_skip : (calls : ℕ → ℕ → Type 0) (count : ℕ) (starts : List ℕ) (marks : List Bool) (rest : List ℕ) (p : ℕ)
    → IsSpreading calls count starts marks (rest ++ p ∷ []) → IsMarked marks p → IsSpreading calls count starts marks rest
spreading_skip calls count starts marks rest p spreading marked = record {
  each = spreading.each;
  nodes = All-front (λ q. q < count) rest p spreading.nodes;
  marks_sound = spreading.marks_sound;
  pending_sound = All-front (IsReached calls starts) rest p spreading.pending_sound;
  starts_held = λ q is_start. held_without marks rest p q marked (spreading.starts_held q is_start);
  calls_held = λ q r from call. held_without marks rest p r marked (spreading.calls_held q r from call);
}

marked_more : (marks : List Bool) (p q : ℕ) → p < length marks → IsMarked marks q → IsMarked (set marks p true) q
marked_more marks p q lt marked =
    elim (cases_eq q p) [
      | inl is ↦ subst (IsMarked (set marks p true)) (sym is) (get_or-set_same marks p true false lt)
      | inr ne ↦ get_or-set_other marks p q true false ne ∙ marked
    ]

marked_cases : (marks : List Bool) (p q : ℕ) → IsMarked (set marks p true) q → (q ≡ p) ⊎ IsMarked marks q
marked_cases marks p q marked =
    elim (cases_eq q p) [ inl is ↦ inl is | inr ne ↦ inr (sym (get_or-set_other marks p q true false ne) ∙ marked) ]

held_more : (marks : List Bool) (rest successors : List ℕ) (p q : ℕ) → p < length marks → IsHeld marks (rest ++ p ∷ []) q
    → IsHeld (set marks p true) (rest ++ successors) q
held_more marks rest successors p q lt held =
    elim held [
      | inl already ↦ inl (marked_more marks p q lt already)
      | inr within ↦
          elim (Contains-push_cases rest p q within) [
            | inl before ↦ inr (Contains-append_left rest successors q before)
            | inr is ↦ inl (subst (IsMarked (set marks p true)) is (get_or-set_same marks p true false lt))
          ]
    ]

-- a node is marked, and its successors are held
pub spreading_step : (calls : ℕ → ℕ → Type 0) (count : ℕ) (starts : List ℕ) (marks : List Bool) (rest : List ℕ) (p : ℕ) (successors : List ℕ)
    → ((q : ℕ) → calls p q → Contains successors q) → ((q : ℕ) → Contains successors q → calls p q)
    → ((q : ℕ) → Contains successors q → q < count)
    → IsSpreading calls count starts marks (rest ++ p ∷ [])
    → IsSpreading calls count starts (set marks p true) (rest ++ successors)
spreading_step calls count starts marks rest p successors into from nodes spreading =
    let last : Contains (rest ++ p ∷ []) p = Contains-push rest p in
    let below : p < count = All-contains (λ q. q < count) (rest ++ p ∷ []) p spreading.nodes last in
    let lt : p < length marks = omega (arith, spreading.each) in
    let reached : IsReached calls starts p = All-contains (IsReached calls starts) (rest ++ p ∷ []) p spreading.pending_sound last in
    record {
      each = length-set marks p true ∙ spreading.each;
      nodes = All-append (λ q. q < count) rest successors (All-front (λ q. q < count) rest p spreading.nodes)
          (All-weaker (Contains successors) (λ q. q < count) nodes successors (All-contains_itself successors));
      marks_sound = λ q marked. elim (marked_cases marks p q marked)
          [ inl is ↦ subst (IsReached calls starts) (sym is) reached | inr already ↦ spreading.marks_sound q already ];
      pending_sound = All-append (IsReached calls starts) rest successors (All-front (IsReached calls starts) rest p spreading.pending_sound)
          (All-weaker (Contains successors) (IsReached calls starts)
          (λ q within. is_reached_on calls starts p q reached (reaches_call calls p q (from q within))) successors (All-contains_itself successors));
      starts_held = λ q is_start. held_more marks rest successors p q lt (spreading.starts_held q is_start);
      calls_held = λ q r marked call. elim (marked_cases marks p q marked) [
        | inl is ↦ inr (Contains-append_right rest successors r (into r (let P : ℕ → Type 0 = λ n. calls n r in subst P is call)))
        | inr already ↦ held_more marks rest successors p r lt (spreading.calls_held q r already call)
      ];
    }

marked_of_held : (marks : List Bool) (q : ℕ) → IsHeld marks [] q → IsMarked marks q
marked_of_held marks q held = elim held [ inl already ↦ already | inr within ↦ absurd (none_held q within) ]

-- nothing is left to be opened
pub spreading_done : (calls : ℕ → ℕ → Type 0) (count : ℕ) (starts : List ℕ) (marks : List Bool)
    → IsSpreading calls count starts marks [] → AreReached calls count starts marks
spreading_done calls count starts marks spreading = record {
  each = spreading.each;
  sound = spreading.marks_sound;
  all = λ q reached.
      along_walk calls (IsMarked marks) (λ p r marked call. marked_of_held marks r (spreading.calls_held p r marked call))
      reached.start reached.reaches.path q reached.reaches.walk
      (marked_of_held marks reached.start (spreading.starts_held reached.start reached.is_start));
}

-- the last node that is pending can be read in the marks
last_below : (calls : ℕ → ℕ → Type 0) (count : ℕ) (starts : List ℕ) (marks : List Bool) (rest : List ℕ) (p : ℕ)
    → IsSpreading calls count starts marks (rest ++ p ∷ []) → p < length marks
last_below calls count starts marks rest p spreading =
    let below : p < count = All-contains (λ q. q < count) (rest ++ p ∷ []) p spreading.nodes (Contains-push rest p) in
    omega (arith, spreading.each)

-- a node is popped whose mark reads true
pub spreading_read : (calls : ℕ → ℕ → Type 0) (count : ℕ) (starts : List ℕ) (marks : List Bool) (rest : List ℕ) (p : ℕ) (mark : Bool)
    → mark ≡ get_or marks p mark → mark ≡ true
    → IsSpreading calls count starts marks (rest ++ p ∷ []) → IsSpreading calls count starts marks rest
spreading_read calls count starts marks rest p mark read is spreading =
    spreading_skip calls count starts marks rest p spreading
    (sym (get_or_read marks p mark (last_below calls count starts marks rest p spreading) read false) ∙ is)
