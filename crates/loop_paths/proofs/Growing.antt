-- How a search in breadth goes on: the callees of the node at a place are met, one after another.
use Rattle.std.proofs.Common.{◌≡◌, ◌⊎◌, ◌↔◌, inl, inr, ℕ, ◌<◌, ◌≤◌, ◌+◌, Bool, true, false, List, [], ◌∷◌, ◌++◌, length, get_or, set, refl, sym, ap, ◌∙◌, arith, subst, get_or-set_same, get_or-set_other}
use Rattle.std.specs.Prelude.{Contains}
use Rattle.std.specs.List.Sorted.{IsStrictlyIncreasing}
use Rattle.std.proofs.lemmas.Bool.{cases_eq}
use Rattle.std.proofs.lemmas.List.{length_push, get_or_append_left, get_or_default, get_or_push}
use Rattle.std.proofs.lemmas.List.Elements.{Contains-append_left, Contains-push, Contains-push_cases, Contains-get_or}
use Rattle.graph_law.proofs.Increasing.{increasing_far}
use Rattle.loop_paths.specs.Lists.{IsLess}
use Rattle.loop_paths.specs.Paths.{IsPath}
use Rattle.loop_paths.specs.Grown.{path_at, IsAtMost, IsMet, IsTree, AreSeen, IsGrown}
use Rattle.loop_paths.proofs.ListLaws.{less_more, less_last, most_self}
use Rattle.loop_paths.proofs.PathLaws.{path_push, path_some}

-- the first j callees of the node at the place are met
pub record IsOpening (calls : ℕ → ℕ → Type 0) (from to : ℕ) (nodes callers : List ℕ) (seen : List Bool) (place : ℕ) (callees : List ℕ) (j : ℕ) : Type 0 where
  pub paths : List (List ℕ)
  pub tree : IsTree calls from nodes callers paths
  pub within : place < length nodes
  pub callers_upto : (i : ℕ) → 0 < i → i < length nodes → get_or callers i 0 ≤ place
  pub before_rest : (i m : ℕ) → 0 < i → i < length nodes → get_or callers i 0 ≡ place → j ≤ m → m < length callees → get_or nodes i 0 < get_or callees m 0
  pub seen_are : AreSeen nodes seen
  pub callees_are : (q : ℕ) → Contains callees q ↔ calls (get_or nodes place 0) q
  pub opened : (k q : ℕ) → k < place → calls (get_or nodes k 0) q → IsMet nodes paths q (path_at paths k ++ q ∷ [])
  pub not_yet : (k : ℕ) → k < place → calls (get_or nodes k 0) to → ⊥
  pub met : (m : ℕ) → m < j → IsMet nodes paths (get_or callees m 0) (path_at paths place ++ get_or callees m 0 ∷ [])

pub opening_start : (calls : ℕ → ℕ → Type 0) (from to : ℕ) (nodes callers : List ℕ) (seen : List Bool) (place : ℕ) (callees : List ℕ)
    → IsGrown calls from to nodes callers seen place → place < length nodes → ((q : ℕ) → Contains callees q ↔ calls (get_or nodes place 0) q)
    → IsOpening calls from to nodes callers seen place callees 0
opening_start calls from to nodes callers seen place callees grown within callees_are = record {
  paths = grown.paths;
  tree = grown.tree;
  within = within;
  callers_upto = λ i some lt. let before = grown.callers_before i some lt in omega (arith, before);
  before_rest = λ i m some lt is. let before = grown.callers_before i some lt in absurd (omega (arith, before, is));
  seen_are = grown.seen_are;
  callees_are = callees_are;
  opened = grown.opened;
  not_yet = grown.not_yet;
  met = λ m lt. absurd (omega (arith, lt));
}

-- the first path is less than one that goes on from a path
first_less : (calls : ℕ → ℕ → Type 0) (from : ℕ) (nodes callers : List ℕ) (paths : List (List ℕ)) (place c : ℕ)
    → IsTree calls from nodes callers paths → place < length nodes → IsLess (path_at paths 0) (path_at paths place ++ c ∷ [])
first_less calls from nodes callers paths place c tree within =
    let one : length (path_at paths 0) ≡ 1 = ap length tree.first in
    let some : 0 < length (path_at paths place) = path_some calls from (get_or nodes place 0) (path_at paths place) (tree.walks place within) in
    let long : length (path_at paths place ++ c ∷ []) ≡ length (path_at paths place) + 1 = length_push (path_at paths place) c in
    inl (omega (arith, one, some, long))

-- a node that was met already has a path that is no more than the one over this place
met_already : (calls : ℕ → ℕ → Type 0) (from : ℕ) (nodes callers : List ℕ) (paths : List (List ℕ)) (place c i : ℕ)
    → IsTree calls from nodes callers paths → place < length nodes
    → ((k : ℕ) → 0 < k → k < length nodes → get_or callers k 0 ≤ place)
    → i < length nodes → get_or nodes i 0 ≡ c → IsMet nodes paths c (path_at paths place ++ c ∷ [])
met_already calls from nodes callers paths place c i tree within upto lt is =
    record {
      place = i;
      within = lt;
      is = is;
      at_most =
          elim (cases_eq i 0) as (λ _. IsAtMost (path_at paths i) (path_at paths place ++ c ∷ [])) [
            | inl none ↦ rw none (inl (first_less calls from nodes callers paths place c tree within))
            | inr not ↦
                let some : 0 < i = omega (arith, not) in
                let at : get_or callers i 0 ≤ place = upto i some lt in
                let step : path_at paths i ≡ path_at paths (get_or callers i 0) ++ c ∷ [] =
                tree.on i some lt ∙ ap (λ each. path_at paths (get_or callers i 0) ++ each ∷ []) is in
                elim (cases_eq (get_or callers i 0) place) as (λ _. IsAtMost (path_at paths i) (path_at paths place ++ c ∷ [])) [
                  | inl same ↦ inr (step ∙ ap (λ each. path_at paths each ++ c ∷ []) same)
                  | inr other ↦
                      inl (rw step (less_more (path_at paths (get_or callers i 0)) (path_at paths place) c c
                      (tree.ordered (get_or callers i 0) place (omega (arith, at, other)) within)))
                ]
          ];
    }

pub opening_skip : (calls : ℕ → ℕ → Type 0) (from to : ℕ) (nodes callers : List ℕ) (seen : List Bool) (place : ℕ) (callees : List ℕ) (j : ℕ)
    → IsOpening calls from to nodes callers seen place callees j → j < length callees → get_or seen (get_or callees j 0) false ≡ true
    → IsOpening calls from to nodes callers seen place callees (j + 1)
opening_skip calls from to nodes callers seen place callees j opening inside marked =
    let has : Contains nodes (get_or callees j 0) = opening.seen_are.met (get_or callees j 0) marked in
    record {
      paths = opening.paths;
      tree = opening.tree;
      within = opening.within;
      callers_upto = opening.callers_upto;
      seen_are = opening.seen_are;
      callees_are = opening.callees_are;
      opened = opening.opened;
      not_yet = opening.not_yet;
      before_rest = λ i m some lt is le within. opening.before_rest i m some lt is (omega (arith, le)) within;
      met = λ m lt.
          elim (cases_eq m j) as (λ _. IsMet nodes opening.paths (get_or callees m 0) (path_at opening.paths place ++ get_or callees m 0 ∷ [])) [
            | inl is ↦
                rw is (met_already calls from nodes callers opening.paths place (get_or callees j 0) has.0 opening.tree opening.within
                opening.callers_upto has.1 (sym (get_or_default nodes has.0 (get_or callees j 0) 0 has.1) ∙ has.2))
            | inr other ↦ opening.met m (omega (arith, lt, other))
          ];
    }

-- a list with one more at its end
old_read : {X : Type 0} (xs : List X) (x d : X) (i : ℕ) → i < length xs → get_or (xs ++ x ∷ []) i d ≡ get_or xs i d
old_read xs x d i lt = get_or_append_left xs (x ∷ []) d i lt

push_cases : {X : Type 0} (xs : List X) (x : X) (i : ℕ) → i < length (xs ++ x ∷ []) → (i < length xs) ⊎ (i ≡ length xs)
push_cases xs x i lt =
    let long : length (xs ++ x ∷ []) ≡ length xs + 1 = length_push xs x in
    elim (cases_eq i (length xs)) [ inl is ↦ inr is | inr other ↦ inl (omega (arith, lt, long, other)) ]

met_more : (nodes : List ℕ) (paths : List (List ℕ)) (q : ℕ) (bound : List ℕ) (c : ℕ) (path : List ℕ) → length paths ≡ length nodes
    → IsMet nodes paths q bound → IsMet (nodes ++ c ∷ []) (paths ++ path ∷ []) q bound
met_more nodes paths q bound c path each met =
    let lt : met.place < length nodes = met.within in
    record {
      place = met.place;
      within = let long = length_push nodes c in omega (arith, lt, long);
      is = old_read nodes c 0 met.place lt ∙ met.is;
      at_most = rw (old_read paths path [] met.place (omega (arith, lt, each))) met.at_most;
    }

-- every path that there is is less than that of the next callee
all_less : (calls : ℕ → ℕ → Type 0) (from : ℕ) (nodes callers : List ℕ) (paths : List (List ℕ)) (place c i : ℕ)
    → IsTree calls from nodes callers paths → place < length nodes
    → ((k : ℕ) → 0 < k → k < length nodes → get_or callers k 0 ≤ place)
    → ((k : ℕ) → 0 < k → k < length nodes → get_or callers k 0 ≡ place → get_or nodes k 0 < c)
    → i < length nodes → IsLess (path_at paths i) (path_at paths place ++ c ∷ [])
all_less calls from nodes callers paths place c i tree within upto less lt =
    elim (cases_eq i 0) as (λ _. IsLess (path_at paths i) (path_at paths place ++ c ∷ [])) [
      | inl none ↦ rw none (first_less calls from nodes callers paths place c tree within)
      | inr not ↦
          let some : 0 < i = omega (arith, not) in
          let at : get_or callers i 0 ≤ place = upto i some lt in
          elim (cases_eq (get_or callers i 0) place) as (λ _. IsLess (path_at paths i) (path_at paths place ++ c ∷ [])) [
            | inl same ↦
                rw (tree.on i some lt, same) (less_last (path_at paths place) (get_or nodes i 0) c (less i some lt same))
            | inr other ↦
                rw (tree.on i some lt) (less_more (path_at paths (get_or callers i 0)) (path_at paths place) (get_or nodes i 0) c
                (tree.ordered (get_or callers i 0) place (omega (arith, at, other)) within))
          ]
    ]

tree_push : (calls : ℕ → ℕ → Type 0) (from : ℕ) (nodes callers : List ℕ) (paths : List (List ℕ)) (place c : ℕ)
    → IsTree calls from nodes callers paths → place < length nodes → calls (get_or nodes place 0) c
    → ((i : ℕ) → i < length nodes → IsLess (path_at paths i) (path_at paths place ++ c ∷ []))
    → IsTree calls from (nodes ++ c ∷ []) (callers ++ place ∷ []) (paths ++ (path_at paths place ++ c ∷ []) ∷ [])
tree_push calls from nodes callers paths place c tree within call less =
    let path : List ℕ = path_at paths place ++ c ∷ [] in
    let long : length (nodes ++ c ∷ []) ≡ length nodes + 1 = length_push nodes c in
    let node_old : (i : ℕ) → i < length nodes → get_or (nodes ++ c ∷ []) i 0 ≡ get_or nodes i 0 = old_read nodes c 0 in
    let caller_old : (i : ℕ) → i < length nodes → get_or (callers ++ place ∷ []) i 0 ≡ get_or callers i 0 =
    λ i lt. old_read callers place 0 i (let each = tree.a_caller_each in omega (arith, lt, each)) in
    let path_old : (i : ℕ) → i < length nodes → path_at (paths ++ path ∷ []) i ≡ path_at paths i =
    λ i lt. old_read paths path [] i (let each = tree.a_path_each in omega (arith, lt, each)) in
    let node_new : (i : ℕ) → i ≡ length nodes → get_or (nodes ++ c ∷ []) i 0 ≡ c = λ i is. get_or_push nodes c 0 i (sym is) in
    let caller_new : (i : ℕ) → i ≡ length nodes → get_or (callers ++ place ∷ []) i 0 ≡ place =
    λ i is. get_or_push callers place 0 i (tree.a_caller_each ∙ sym is) in
    let path_new : (i : ℕ) → i ≡ length nodes → path_at (paths ++ path ∷ []) i ≡ path =
    λ i is. get_or_push paths path [] i (tree.a_path_each ∙ sym is) in
    let there : 0 < length nodes = tree.some in
    record {
      some = omega (arith, long, there);
      a_caller_each = let one = length_push callers place in let each = tree.a_caller_each in omega (arith, one, each, long);
      a_path_each = let one = length_push paths path in let each = tree.a_path_each in omega (arith, one, each, long);
      begins = node_old 0 there ∙ tree.begins;
      first = path_old 0 there ∙ tree.first;
      before = λ i some lt. elim (push_cases nodes c i lt) as (λ _. get_or (callers ++ place ∷ []) i 0 < i) [
        | inl old ↦ let now = caller_old i old in let was = tree.before i some old in omega (arith, now, was)
        | inr is ↦ let now = caller_new i is in omega (arith, now, is, within)
      ];
      on = λ i some lt.
          elim (push_cases nodes c i lt) as
          (λ _. path_at (paths ++ path ∷ []) i ≡ path_at (paths ++ path ∷ []) (get_or (callers ++ place ∷ []) i 0) ++ get_or (nodes ++ c ∷ []) i 0 ∷ []) [
            | inl old ↦
                let was = tree.before i some old in
                rw (path_old i old, caller_old i old, node_old i old, path_old (get_or callers i 0) (omega (arith, was, old))) (tree.on i some old)
            | inr is ↦ rw (path_new i is, caller_new i is, node_new i is, path_old place within) refl
          ];
      walks = λ i lt.
          elim (push_cases nodes c i lt) as (λ _. IsPath calls from (get_or (nodes ++ c ∷ []) i 0) (path_at (paths ++ path ∷ []) i)) [
            | inl old ↦ rw (path_old i old, node_old i old) (tree.walks i old)
            | inr is ↦ rw (path_new i is, node_new i is) (path_push calls from (get_or nodes place 0) c (path_at paths place) (tree.walks place within) call)
          ];
      ordered = λ i j before lt.
          elim (push_cases nodes c j lt) as (λ _. IsLess (path_at (paths ++ path ∷ []) i) (path_at (paths ++ path ∷ []) j)) [
            | inl old ↦ rw (path_old i (omega (arith, before, old)), path_old j old) (tree.ordered i j before old)
            | inr is ↦ rw (path_new j is, path_old i (omega (arith, before, is))) (less i (omega (arith, before, is)))
          ];
    }

seen_push : (nodes : List ℕ) (seen : List Bool) (c : ℕ) → AreSeen nodes seen → c < length seen → AreSeen (nodes ++ c ∷ []) (set seen c true)
seen_push nodes seen c are lt = record {
  marked = λ q has.
      elim (cases_eq q c) as (λ _. get_or (set seen c true) q false ≡ true) [
        | inl is ↦ rw is (get_or-set_same seen c true false lt)
        | inr other ↦
            get_or-set_other seen c q true false other
            ∙ are.marked q (elim (Contains-push_cases nodes c q has) [ inl before ↦ before | inr is ↦ absurd (other (sym is)) ])
      ];
  met = λ q marked.
      elim (cases_eq q c) as (λ _. Contains (nodes ++ c ∷ []) q) [
        | inl is ↦ rw is (Contains-push nodes c)
        | inr other ↦
            Contains-append_left nodes (c ∷ []) q (are.met q (sym (get_or-set_other seen c q true false other) ∙ marked))
      ];
}

pub opening_push : (calls : ℕ → ℕ → Type 0) (from to : ℕ) (nodes callers : List ℕ) (seen : List Bool) (place : ℕ) (callees : List ℕ) (j : ℕ)
    → IsOpening calls from to nodes callers seen place callees j → IsStrictlyIncreasing callees → j < length callees
    → get_or callees j 0 < length seen
    → IsOpening calls from to (nodes ++ get_or callees j 0 ∷ []) (callers ++ place ∷ []) (set seen (get_or callees j 0) true) place callees (j + 1)
opening_push calls from to nodes callers seen place callees j opening up inside small =
    let c : ℕ = get_or callees j 0 in
    let tree : IsTree calls from nodes callers opening.paths = opening.tree in
    let call : calls (get_or nodes place 0) c = (opening.callees_are c).0 (Contains-get_or callees j 0 inside) in
    let within : place < length nodes = opening.within in
    let long : length (nodes ++ c ∷ []) ≡ length nodes + 1 = length_push nodes c in
    let path : List ℕ = path_at opening.paths place ++ c ∷ [] in
    let next : IsTree calls from (nodes ++ c ∷ []) (callers ++ place ∷ []) (opening.paths ++ path ∷ []) =
    tree_push calls from nodes callers opening.paths place c tree within call
    (λ i lt. all_less calls from nodes callers opening.paths place c i tree within opening.callers_upto
    (λ k some below is. opening.before_rest k j some below is (omega arith) inside) lt) in
    let node_old : (i : ℕ) → i < length nodes → get_or (nodes ++ c ∷ []) i 0 ≡ get_or nodes i 0 = old_read nodes c 0 in
    let caller_old : (i : ℕ) → i < length nodes → get_or (callers ++ place ∷ []) i 0 ≡ get_or callers i 0 =
    λ i lt. old_read callers place 0 i (let each = tree.a_caller_each in omega (arith, lt, each)) in
    let caller_new : (i : ℕ) → i ≡ length nodes → get_or (callers ++ place ∷ []) i 0 ≡ place =
    λ i is. get_or_push callers place 0 i (tree.a_caller_each ∙ sym is) in
    let path_old : (i : ℕ) → i < length nodes → path_at (opening.paths ++ path ∷ []) i ≡ path_at opening.paths i =
    λ i lt. old_read opening.paths path [] i (let each = tree.a_path_each in omega (arith, lt, each)) in
    record {
      paths = opening.paths ++ path ∷ [];
      tree = next;
      within = omega (arith, within, long);
      callers_upto = λ i some lt. elim (push_cases nodes c i lt) as (λ _. get_or (callers ++ place ∷ []) i 0 ≤ place) [
        | inl old ↦ let now = caller_old i old in let was = opening.callers_upto i some old in omega (arith, now, was)
        | inr is ↦ let now = caller_new i is in omega (arith, now)
      ];
      before_rest = λ i m some lt is le below.
          elim (push_cases nodes c i lt) as (λ _. get_or (nodes ++ c ∷ []) i 0 < get_or callees m 0) [
            | inl old ↦
                let now = node_old i old in
                let was = opening.before_rest i m some old (sym (caller_old i old) ∙ is) (omega (arith, le)) below in
                omega (arith, now, was)
            | inr new ↦
                let now = get_or_push nodes c 0 i (sym new) in
                let far = increasing_far callees up j m (omega (arith, le)) below in
                omega (arith, now, far)
          ];
      seen_are = seen_push nodes seen c opening.seen_are small;
      callees_are = rw (node_old place within) opening.callees_are;
      opened = λ k q before call_k.
          let lt : k < length nodes = omega (arith, before, within) in
          let P : ℕ → Type 0 = λ each. calls each q in
          rw (path_old k lt)
          (met_more nodes opening.paths q (path_at opening.paths k ++ q ∷ []) c path tree.a_path_each
          (opening.opened k q before (subst P (node_old k lt) call_k)));
      not_yet = λ k before call_k.
          let P : ℕ → Type 0 = λ each. calls each to in
          opening.not_yet k before (subst P (node_old k (omega (arith, before, within))) call_k);
      met = λ m lt.
          rw (path_old place within)
          (elim (cases_eq m j) as (λ _. IsMet (nodes ++ c ∷ []) (opening.paths ++ path ∷ []) (get_or callees m 0) (path_at opening.paths place ++ get_or callees m 0 ∷ [])) [
            | inl is ↦
                rw is (record {
                  place = length nodes;
                  within = omega (arith, long);
                  is = get_or_push nodes c 0 (length nodes) refl;
                  at_most = rw (get_or_push opening.paths path [] (length nodes) tree.a_path_each) (most_self path);
                })
            | inr other ↦
                met_more nodes opening.paths (get_or callees m 0) (path_at opening.paths place ++ get_or callees m 0 ∷ []) c path tree.a_path_each
                (opening.met m (omega (arith, lt, other)))
          ]);
    }

pub opening_done : (calls : ℕ → ℕ → Type 0) (from to : ℕ) (nodes callers : List ℕ) (seen : List Bool) (place : ℕ) (callees : List ℕ) (j : ℕ)
    → IsOpening calls from to nodes callers seen place callees j → length callees ≤ j → (Contains callees to → ⊥)
    → IsGrown calls from to nodes callers seen (place + 1)
opening_done calls from to nodes callers seen place callees j opening all none =
    let within : place < length nodes = opening.within in
    record {
      paths = opening.paths;
      tree = opening.tree;
      upto = omega (arith, within);
      callers_before = λ i some lt. let at = opening.callers_upto i some lt in omega (arith, at);
      seen_are = opening.seen_are;
      opened = λ k q before call.
          elim (cases_eq k place) as (λ _. IsMet nodes opening.paths q (path_at opening.paths k ++ q ∷ [])) [
            | inl is ↦
                let P : ℕ → Type 0 = λ each. calls (get_or nodes each 0) q in
                let has : Contains callees q = (opening.callees_are q).1 (subst P is call) in
                let m : ℕ = has.0 in
                let read : get_or callees m 0 ≡ q = sym (get_or_default callees m q 0 has.1) ∙ has.2 in
                let Q : ℕ → Type 0 = λ each. IsMet nodes opening.paths each (path_at opening.paths place ++ each ∷ []) in
                rw is (subst Q read (opening.met m (let lt = has.1 in omega (arith, lt, all))))
            | inr other ↦ opening.opened k q (omega (arith, before, other)) call
          ];
      not_yet = λ k before call.
          elim (cases_eq k place) as (λ _. ⊥) [
            | inl is ↦
                let P : ℕ → Type 0 = λ each. calls (get_or nodes each 0) to in
                none ((opening.callees_are to).1 (subst P is call))
            | inr other ↦ opening.not_yet k (omega (arith, before, other)) call
          ];
    }
