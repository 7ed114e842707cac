-- Names put to a set of names.
use Rattle.std.proofs.Common.{◌≡◌, ℕ, ◌+◌, ◌<◌, ◌≤◌, ◌⊎◌, true, false, List, [], ◌∷◌, ◌++◌, length, map, take, get_or, Contains, refl, sym, subst, ◌∙◌, ap, inl, inr, arith}
use Rattle.std.specs.List.{flat_map}
use Rattle.std.specs.Ordering.{nat_cmp, match_ordering}
use Rattle.std.specs.Cmp.Lexicographic.{slice_cmp}
use Rattle.std.specs.declared.cmp.Ordering.{Ordering}
use Rattle.std.specs.declared.cmp.Ordering.TheVariants.{Less, Equal, Greater}
use Rattle.std.specs.BTreeSet.{BTreeSet, insert_key, contains}
use Rattle.std.proofs.lemmas.Cmp.{nat_list_cmp_total}
use Rattle.std.proofs.lemmas.Map.Lookups.{exact_bytes}
use Rattle.std.proofs.lemmas.Map.Views.{btree_set_contains_iff}
use Rattle.std.proofs.lemmas.List.{flat_map_more, take_more, take_all}
use Rattle.std.proofs.lemmas.List.Concat.{flat_map-cons}
use Rattle.std.proofs.lemmas.List.Elements.{Contains-append_left, Contains-append_right, Contains-append_cases}
use Rattle.list_laws.proofs.OneOrder.{nothing_in, first_or_rest, in_rest, in_first}
use Rattle.file_library.specs.NextWave.{AddsFiles}

-- a set has a name where it is among its keys
pub has_key : (set : BTreeSet (List ℕ)) (name : List ℕ) → contains (slice_cmp nat_cmp) set name ≡ true → Contains set.keys name
has_key set name has = (btree_set_contains_iff nat_list_cmp_total exact_bytes set name).0 has

pub has_no_key : (set : BTreeSet (List ℕ)) (name : List ℕ) → contains (slice_cmp nat_cmp) set name ≡ false → Contains set.keys name → ⊥
has_no_key set name missing has = let both : false ≡ true = sym missing ∙ (btree_set_contains_iff nat_list_cmp_total exact_bytes set name).1 has in cc

-- a key that is put among others

abbrev Keys : Type 0
Keys = List (List ℕ)

put_there : (keys : Keys) (key : List ℕ) → Contains (insert_key (slice_cmp nat_cmp) keys key) key
put_there [] key = in_first key []
put_there (x ∷ xs) key = at (slice_cmp nat_cmp key x) (exact_bytes key x) (put_there xs key)
  where
    at : (order : Ordering) → (order ≡ Equal → key ≡ x) → Contains (insert_key (slice_cmp nat_cmp) xs key) key
        → Contains (match_ordering order (key ∷ x ∷ xs) (x ∷ xs) (x ∷ insert_key (slice_cmp nat_cmp) xs key)) key
    at Less same rest = in_first key (x ∷ xs)
    at Equal same rest = subst (Contains (x ∷ xs)) (sym (same refl)) (in_first x xs)
    at Greater same rest = in_rest x key (insert_key (slice_cmp nat_cmp) xs key) rest

put_kept : (keys : Keys) (key name : List ℕ) → Contains keys name → Contains (insert_key (slice_cmp nat_cmp) keys key) name
put_kept [] key name has = absurd (nothing_in name has)
put_kept (x ∷ xs) key name has = at (slice_cmp nat_cmp key x) (put_kept xs key name)
  where
    at : (order : Ordering) → (Contains xs name → Contains (insert_key (slice_cmp nat_cmp) xs key) name)
        → Contains (match_ordering order (key ∷ x ∷ xs) (x ∷ xs) (x ∷ insert_key (slice_cmp nat_cmp) xs key)) name
    at Less rest = in_rest key name (x ∷ xs) has
    at Equal rest = has
    at Greater rest =
        elim (first_or_rest x name xs has) [
          | inl is ↦ subst (Contains (x ∷ insert_key (slice_cmp nat_cmp) xs key)) is (in_first x (insert_key (slice_cmp nat_cmp) xs key))
          | inr later ↦ in_rest x name (insert_key (slice_cmp nat_cmp) xs key) (rest later)
        ]

put_only : (keys : Keys) (key name : List ℕ) → Contains (insert_key (slice_cmp nat_cmp) keys key) name → Contains keys name ⊎ (key ≡ name)
put_only [] key name has = elim (first_or_rest key name [] has) [ inl is ↦ inr is | inr none ↦ absurd (nothing_in name none) ]
put_only (x ∷ xs) key name has = at (slice_cmp nat_cmp key x) (put_only xs key name) has
  where
    at : (order : Ordering) → (Contains (insert_key (slice_cmp nat_cmp) xs key) name → Contains xs name ⊎ (key ≡ name))
        → Contains (match_ordering order (key ∷ x ∷ xs) (x ∷ xs) (x ∷ insert_key (slice_cmp nat_cmp) xs key)) name
        → Contains (x ∷ xs) name ⊎ (key ≡ name)
    at Less rest in_all = elim (first_or_rest key name (x ∷ xs) in_all) [ inl is ↦ inr is | inr old ↦ inl old ]
    at Equal rest in_all = inl in_all
    at Greater rest in_all =
        elim (first_or_rest x name (insert_key (slice_cmp nat_cmp) xs key) in_all) [
          | inl is ↦ inl (subst (Contains (x ∷ xs)) is (in_first x xs))
          | inr later ↦ elim (rest later) [ inl old ↦ inl (in_rest x name xs old) | inr is ↦ inr is ]
        ]

put_grows : (keys : Keys) (key : List ℕ) → length keys ≤ length (insert_key (slice_cmp nat_cmp) keys key)
put_grows [] key = omega arith
put_grows (x ∷ xs) key = at (slice_cmp nat_cmp key x) (put_grows xs key)
  where
    at : (order : Ordering) → length xs ≤ length (insert_key (slice_cmp nat_cmp) xs key)
        → length (x ∷ xs) ≤ length (match_ordering order (key ∷ x ∷ xs) (x ∷ xs) (x ∷ insert_key (slice_cmp nat_cmp) xs key))
    at Less rest = omega arith
    at Equal rest = omega arith
    at Greater rest = omega (arith, rest)

module _ (asked : Keys) (room : ℕ) where
  pub none_added : (keys : Keys) → AddsFiles asked room keys [] keys
  none_added keys = record {
    kept = λ name has. has;
    sound = λ name has. inl has;
    all = λ name none. absurd (nothing_in name none);
    grows = omega arith;
  }

  -- a file that was asked for, is there, or has no room
  pub nothing_added : (keys : Keys) (file : List ℕ) → Contains asked file ⊎ (Contains keys file ⊎ (room < length keys)) → AddsFiles asked room keys (file ∷ []) keys
  nothing_added keys file known = record {
    kept = λ name has. has;
    sound = λ name has. inl has;
    all = λ name has.
        elim (first_or_rest file name [] has) [
          | inl is ↦ subst (λ n. Contains asked n ⊎ (Contains keys n ⊎ (room < length keys))) is known
          | inr none ↦ absurd (nothing_in name none)
        ];
    grows = omega arith;
  }

  pub one_added : (old new : Keys) (file : List ℕ) → (Contains asked file → ⊥) → new ≡ insert_key (slice_cmp nat_cmp) old file → AddsFiles asked room old (file ∷ []) new
  one_added old new file fresh is =
      subst (AddsFiles asked room old (file ∷ [])) (sym is) (record {
        kept = put_kept old file;
        sound = λ name has.
            elim (put_only old file name has) [
              | inl before ↦ inl before
              | inr same ↦ inr (subst (λ n. Contains (file ∷ []) n × (Contains asked n → ⊥)) same (in_first file [], fresh))
            ];
        all = λ name has.
            elim (first_or_rest file name [] has) [
              | inl same ↦ inr (inl (subst (Contains (insert_key (slice_cmp nat_cmp) old file)) same (put_there old file)))
              | inr none ↦ absurd (nothing_in name none)
            ];
        grows = put_grows old file;
      })

  pub adds_joined : (old mid new files more : Keys) → AddsFiles asked room old files mid → AddsFiles asked room mid more new → AddsFiles asked room old (files ++ more) new
  adds_joined old mid new files more first then = record {
    kept = λ name has. then.kept name (first.kept name has);
    sound = λ name has.
        elim (then.sound name has) [
          | inl before ↦
              elim (first.sound name before) [
                | inl at_first ↦ inl at_first
                | inr added ↦ inr (Contains-append_left files more name added.0, added.1)
              ]
          | inr added ↦ inr (Contains-append_right files more name added.0, added.1)
        ];
    all = λ name has.
        elim (Contains-append_cases files more name has) [
          | inl early ↦
              elim (first.all name early) [
                | inl known ↦ inl known
                | inr there ↦
                    elim there [
                      | inl in_mid ↦ inr (inl (then.kept name in_mid))
                      | inr full ↦ let over : room < length new = omega (arith, full, then.grows) in inr (inr over)
                    ]
              ]
          | inr late ↦ then.all name late
        ];
    grows = omega (arith, first.grows, then.grows);
  }

  -- one more of a list, of which each has names
  pub adds_more : {X : Type 0} (names : X → Keys) (xs : List X) (index : ℕ) (x : X) (old mid new : Keys) → index < length xs → x ≡ get_or xs index x
      → AddsFiles asked room old (flat_map names (take index xs)) mid → AddsFiles asked room mid (names x) new
      → AddsFiles asked room old (flat_map names (take (index + 1) xs)) new
  adds_more {X} names xs index x old mid new less at first then =
      let gained : flat_map names (take (index + 1) xs) ≡ flat_map names (take index xs) ++ names x =
      ap (flat_map names) (take_more xs index x less)
      ∙ (sym (flat_map_more names [] (take index xs) (get_or xs index x)) ∙ ap (λ y. flat_map names (take index xs) ++ names y) (sym at)) in
      subst (λ files. AddsFiles asked room old files new) (sym gained) (adds_joined old mid new (flat_map names (take index xs)) (names x) first then)

-- all of a list has been gone through
pub whole_list : {X : Type 0} (names : X → List (List ℕ)) (xs : List X) (index : ℕ) → length xs ≤ index → flat_map names (take index xs) ≡ flat_map names xs
whole_list {X} names xs index over = ap (flat_map names) (take_all index xs over)

pub single_names : (names : List (List ℕ)) → flat_map (λ name. name ∷ []) names ≡ names
single_names [] = refl
single_names (name ∷ names) = flat_map-cons (λ n. n ∷ []) name names ∙ ap (λ rest. name ∷ rest) (single_names names)

pub seen_names : {X Y : Type 0} (see : X → Y) (names : Y → List (List ℕ)) (xs : List X) → flat_map (λ x. names (see x)) xs ≡ flat_map names (map see xs)
seen_names {X} {Y} see names [] = refl
seen_names {X} {Y} see names (x ∷ xs) =
    flat_map-cons (λ y. names (see y)) x xs ∙ (ap (λ rest. names (see x) ++ rest) (seen_names see names xs) ∙ sym (flat_map-cons names (see x) (map see xs)))
