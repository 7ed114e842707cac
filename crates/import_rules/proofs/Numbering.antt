-- What runs of parts give: one predicate for each name, with its places.
use Rattle.std.proofs.Common.{◌≡◌, ℕ, ◌+◌, ◌-◌, ◌<◌, Bool, true, List, [], ◌∷◌, ◌++◌, Some, All, Contains, IsPermutation, length, map, filter, get_or, option_map, option_to_list, refl, sym, ap, ◌∙◌, subst}
use Rattle.std.specs.Borrow.{Bor}
use Rattle.std.specs.List.{filter_map, IsChunkByPrefix}
use Rattle.std.specs.List.Sorted.{IsStableBy, IsSortedBy, ties}
use Rattle.std.specs.declared.cmp.Ordering.TheVariants.{Less}
use Rattle.std.proofs.lemmas.List.Elements.{All-map, All-weaker, filter_agree}
use Rattle.std.proofs.lemmas.List.Sorted.{All-permutation, Contains-permutation, IsPermutation-sym}
use Rattle.std.proofs.lemmas.List.{map-append}
use Rattle.std.proofs.lemmas.Simd.{map-map}
use Rattle.module_table.specs.Kinds.{first_of}
use Rattle.module_table.specs.declared.file_facts.FileFacts.{FileFacts}
use Rattle.import_rules.specs.declared.names.PredName.{PredName}
use Rattle.import_rules.specs.declared.part.Part.{Part}
use Rattle.import_rules.specs.Names.{pred_cmp, is_same}
use Rattle.import_rules.specs.Numbers.{DefinedAt, AreNumbers, places_for}
use Rattle.import_rules.specs.Parts.{first_name, name_of_part, see_part, places_of_parts}
use Rattle.import_rules.proofs.Lists.{filter-map, filter_map_push, all_pairs_map, map_has, map_agrees}
use Rattle.import_rules.proofs.NameOrder.{pred_cmp_total, same_ties, same_parts, tied_is_same}
use Rattle.import_rules.proofs.Runs.{comes_before, same, AreRuns, IsCut, cut_more, heads_there}

-- the predicate of each run, and its places
abbrev pub names_in : List FileFacts → List (List Part) → List PredName
names_in files runs = filter_map (λ run. option_map (name_of_part files) (first_of run)) runs

abbrev pub places_in_runs : List (List Part) → List (List (ℕ × ℕ))
places_in_runs runs = filter_map (λ run. option_map (λ first. places_of_parts run) (first_of run)) runs

-- the name at the first place of each run
pub names_read : (files : List FileFacts) (runs : List (List Part)) → map (first_name files) (places_in_runs runs) ≡ names_in files runs
names_read files [] = refl
names_read files ([] ∷ runs) = names_read files runs
names_read files ((x ∷ run) ∷ runs) = ap (λ ps. name_of_part files x ∷ ps) (names_read files runs)

module _ (files : List FileFacts) (parts sorted : List Part) (runs : List (List Part)) (moved : IsPermutation parts sorted) (are : AreRuns pred_cmp pred_cmp_total (name_of_part files) sorted runs) where
  has_head : All (λ (x : Part). (h : Part) × Contains are.heads h × (name_of_part files h ≡ name_of_part files x)) parts
  has_head =
      All-permutation (λ (x : Part). (h : Part) × Contains are.heads h × (name_of_part files h ≡ name_of_part files x)) sorted parts (IsPermutation-sym parts sorted moved)
      (All-weaker (λ (x : Part). (h : Part) × Contains are.heads h × (same pred_cmp pred_cmp_total (name_of_part files) h x ≡ true)) (λ (x : Part). (h : Part) × Contains are.heads h × (name_of_part files h ≡ name_of_part files x))
      (λ x at. (at.0, at.1, same_parts (name_of_part files at.0) (name_of_part files x) (same_ties (name_of_part files at.0) (name_of_part files x) ∙ at.2))) sorted are.all)

  heads_in : All (Contains parts) are.heads
  heads_in =
      All-weaker (Contains sorted) (Contains parts) (λ h has. Contains-permutation sorted parts h (IsPermutation-sym parts sorted moved) has) are.heads
      (heads_there pred_cmp pred_cmp_total (name_of_part files) sorted runs are)

  -- the places for the name of a head are those of its run
  places_run : IsStableBy (comes_before pred_cmp (name_of_part files)) parts sorted → (h : Part)
      → places_for (map (see_part files) parts) (name_of_part files h) ≡ places_of_parts (filter (same pred_cmp pred_cmp_total (name_of_part files) h) sorted)
  places_run stable h =
      ap (map (λ (d : DefinedAt). d.at))
      (filter-map (λ (d : DefinedAt). is_same (name_of_part files h) d.name) (see_part files) parts
      ∙ ap (map (see_part files))
      (filter_agree (λ x. is_same (name_of_part files h) (name_of_part files x)) (ties (comes_before pred_cmp (name_of_part files)) h)
      (λ x. same_ties (name_of_part files h) (name_of_part files x) ∙ sym (tied x)) parts
      ∙ (sym (stable h) ∙ filter_agree (ties (comes_before pred_cmp (name_of_part files)) h) (same pred_cmp pred_cmp_total (name_of_part files) h) tied sorted)))
      ∙ map-map (λ (d : DefinedAt). d.at) (see_part files) (filter (same pred_cmp pred_cmp_total (name_of_part files) h) sorted)
    where
      tied : (x : Part) → ties (comes_before pred_cmp (name_of_part files)) h x ≡ same pred_cmp pred_cmp_total (name_of_part files) h x
      tied x = tied_is_same pred_cmp pred_cmp_total (name_of_part files h) (name_of_part files x)

  names_of_heads : (rs : List (List Part)) (hs : List Part) → map first_of rs ≡ map (λ h. Some h) hs → names_in files rs ≡ map (name_of_part files) hs
  names_of_heads [] [] led = refl
  names_of_heads [] (h ∷ hs) led = cc
  names_of_heads (r ∷ rs) [] led = cc
  names_of_heads ([] ∷ rs) (h ∷ hs) led = cc
  names_of_heads ((x ∷ r) ∷ rs) (h ∷ hs) led =
      let first : x ≡ h = cc in
      let rest : map first_of rs ≡ map (λ k. Some k) hs = cc in
      λ i. name_of_part files (first i) ∷ names_of_heads rs hs rest i

  places_of_runs : (rs : List (List Part)) (hs : List Part) → map first_of rs ≡ map (λ h. Some h) hs → places_in_runs rs ≡ map places_of_parts rs
  places_of_runs [] [] led = refl
  places_of_runs [] (h ∷ hs) led = cc
  places_of_runs (r ∷ rs) [] led = cc
  places_of_runs ([] ∷ rs) (h ∷ hs) led = cc
  places_of_runs ((x ∷ r) ∷ rs) (h ∷ hs) led =
      let rest : map first_of rs ≡ map (λ k. Some k) hs = cc in
      ap (λ ps. places_of_parts (x ∷ r) ∷ ps) (places_of_runs rs hs rest)

  pub numbers_found : IsStableBy (comes_before pred_cmp (name_of_part files)) parts sorted → (predicates : List PredName) (places : List (List (ℕ × ℕ)))
      → predicates ≡ names_in files runs → places ≡ places_in_runs runs → AreNumbers (map (see_part files) parts) predicates places
  numbers_found stable predicates places names_are places_are =
      let names : predicates ≡ map (name_of_part files) are.heads = names_are ∙ names_of_heads runs are.heads are.led in
      subst (λ ps. AreNumbers (map (see_part files) parts) ps places) (sym names) (record {
        in_order = all_pairs_map (λ p q. pred_cmp p q ≡ Less) (name_of_part files) are.heads are.rising;
        defined = All-map (Contains (map (λ (d : DefinedAt). d.name) (map (see_part files) parts))) (name_of_part files) are.heads
            (All-weaker (Contains parts) (λ h. Contains (map (λ (d : DefinedAt). d.name) (map (see_part files) parts)) (name_of_part files h))
            (λ h has. map_has (λ (d : DefinedAt). d.name) (map (see_part files) parts) (see_part files h) (map_has (see_part files) parts h has)) are.heads heads_in);
        all = All-map (λ (d : DefinedAt). Contains (map (name_of_part files) are.heads) d.name) (see_part files) parts
            (All-weaker (λ (x : Part). (h : Part) × Contains are.heads h × (name_of_part files h ≡ name_of_part files x)) (λ x. Contains (map (name_of_part files) are.heads) (name_of_part files x))
            (λ x at. subst (Contains (map (name_of_part files) are.heads)) at.2 (map_has (name_of_part files) are.heads at.0 at.1)) parts has_head);
        placed =
            places_are
            ∙ places_of_runs runs are.heads are.led
            ∙ ap (map places_of_parts) are.are
            ∙ map-map places_of_parts (λ h. filter (same pred_cmp pred_cmp_total (name_of_part files) h) sorted) are.heads
            ∙ map_agrees (λ h. places_of_parts (filter (same pred_cmp pred_cmp_total (name_of_part files) h) sorted)) (λ h. places_for (map (see_part files) parts) (name_of_part files h)) are.heads
            (λ k d within. sym (places_run stable (get_or are.heads k d)))
            ∙ sym (map-map (places_for (map (see_part files) parts)) (name_of_part files) are.heads);
      })

-- the runs that were lent
abbrev pub now_of : List (Bor (List Part)) → List (List Part)
now_of runs = map (λ run. run.now) runs

-- whether two parts are of one predicate
abbrev pub alike : List FileFacts → Part → Part → Bool
alike files a b = is_same (name_of_part files a) (name_of_part files b)

-- the next run of parts that were sorted, where the iterator lends it
pub next_run : (files : List FileFacts) (whole before rest : List Part) (lent : List (Bor (List Part))) (run : Bor (List Part)) → IsSortedBy (comes_before pred_cmp (name_of_part files)) whole
    → before ≡ run.now ++ rest → 0 < length run.now → IsChunkByPrefix (alike files) before (length run.now)
    → IsCut pred_cmp pred_cmp_total (name_of_part files) whole (now_of lent) before → IsCut pred_cmp pred_cmp_total (name_of_part files) whole (now_of (lent ++ run ∷ [])) rest
next_run files whole before rest lent run sorted is some chunk cut =
    subst (λ runs. IsCut pred_cmp pred_cmp_total (name_of_part files) whole runs rest) (sym (map-append (λ (r : Bor (List Part)). r.now) lent (run ∷ [])))
    (cut_more pred_cmp pred_cmp_total (name_of_part files) whole (now_of lent) run.now rest sorted (subst (IsCut pred_cmp pred_cmp_total (name_of_part files) whole (now_of lent)) is cut) some
    (subst (λ parts. IsChunkByPrefix (same pred_cmp pred_cmp_total (name_of_part files)) parts (length run.now)) is (
      λ k d below. sym (same_ties (name_of_part files (get_or before k d)) (name_of_part files (get_or before (k + 1) d))) ∙ chunk.0 k d below,
      λ below d. sym (same_ties (name_of_part files (get_or before (length run.now - 1) d)) (name_of_part files (get_or before (length run.now) d))) ∙ chunk.1 below d,
    )))

pub next_places : (lent : List (Bor (List Part))) (run : Bor (List Part)) (old new : List (List (ℕ × ℕ)))
    → new ≡ old ++ option_to_list (option_map (λ first. places_of_parts run.now) (first_of run.now)) → old ≡ places_in_runs (now_of lent)
    → new ≡ places_in_runs (now_of (lent ++ run ∷ []))
next_places lent run old new more is =
    more
    ∙ ap (λ xs. xs ++ option_to_list (option_map (λ first. places_of_parts run.now) (first_of run.now))) is
    ∙ sym (filter_map_push (λ r. option_map (λ first. places_of_parts r) (first_of r)) (now_of lent) run.now)
    ∙ ap places_in_runs (sym (map-append (λ (r : Bor (List Part)). r.now) lent (run ∷ [])))
