-- The modules of files in order, and for each module the list of those that it loads.
use Rattle.std.proofs.Common.{◌≡◌, inl, inr, ℕ, ◌<◌, List, length, map, get_or, sym, ◌∙◌, subst, arith}
use Rattle.std.specs.Ordering.{nat_cmp}
use Rattle.std.specs.Cmp.Lexicographic.{slice_cmp}
use Rattle.std.proofs.lemmas.Bool.{cases_lt}
use Rattle.std.proofs.lemmas.Cmp.{nat_list_cmp_total}
use Rattle.std.proofs.lemmas.List.Elements.{Contains-get_or}
use Rattle.std.proofs.lemmas.Option.{same_Some, slice_get_within}
use Rattle.list_laws.proofs.Members.{map_from, map_has}
use Rattle.graph_law.specs.Graph.{IsClosed}
use Rattle.laws.proofs.Choices.{Decided}
use Rattle.module_table.specs.Said.{Loads}
use Rattle.module_table.specs.Facts.{Facts}
use Rattle.laws.proofs.Orders.{HasOnce, has_once}
use Rattle.loop_report.specs.ImportLoops.{LoadsModule, AreModules, PlaceLoads}
use Rattle.loop_report.specs.ModuleGraph.{AreLoadLists}
use Rattle.import_rules.proofs.PartsSoFar.{element_at}
use Rattle.import_rules.proofs.NameOrder.{same_text}
use Rattle.laws.proofs.Decisions.{HasOne, both_or, same_or, one_or_none, AreRows, rows_of}

abbrev module_of : Facts → List ℕ
module_of file = file.module_

pub modules_of : (files : List Facts) → (modules : List (List ℕ)) × AreModules files modules
modules_of files =
    let ordered : HasOnce (slice_cmp nat_cmp) nat_list_cmp_total (map module_of files) =
    has_once (slice_cmp nat_cmp) nat_list_cmp_total same_text (map module_of files) in (
      ordered.once,
      record {
        in_order = ordered.rising;
        each = λ k d lt.
            let name : List ℕ = get_or ordered.once k d in
            map_from module_of files name ((ordered.each name).0 (Contains-get_or ordered.once k d lt));
        all = λ k d lt.
            let file : Facts = get_or files k d in
            (ordered.each file.module_).1 (map_has module_of files file (Contains-get_or files k d lt));
      },
    )

-- one module loads another or not

abbrev IsTarget : List ℕ → Loads → Facts → Type 0
IsTarget other load file = (file.file ≡ load.file) × (file.module_ ≡ other)

abbrev HasTarget : List Facts → List ℕ → Loads → Type 0
HasTarget files other load = HasOne (IsTarget other load) files

abbrev IsUser : List Facts → List ℕ → List ℕ → Facts → Type 0
IsUser files own other user = (user.module_ ≡ own) × HasOne (HasTarget files other) user.loads

user_or : (files : List Facts) (own other : List ℕ) (user : Facts) → Decided (IsUser files own other user)
user_or files own other user =
    both_or (same_or user.module_ own)
    (one_or_none (HasTarget files other) (λ load.
    one_or_none (IsTarget other load) (λ file. both_or (same_or file.file load.file) (same_or file.module_ other)) files) user.loads)

module_loads_or : (files : List Facts) (own other : List ℕ) → Decided (LoadsModule files own other)
module_loads_or files own other = elim (one_or_none (IsUser files own other) (user_or files own other) files) [
  | inl user ↦
      let load : HasOne (HasTarget files other) user.element.loads = user.holds.1 in
      let file : HasOne (IsTarget other load.element) files = load.holds in
      inl (record {
        user = user.element;
        load = load.element;
        file = file.element;
        is_reached = user.is_in;
        has_load = load.is_in;
        is_loaded = file.is_in;
        named = file.holds.0;
        of_own = user.holds.0;
        of_other = file.holds.1;
      })
  | inr none ↦ inr (λ loads.
      let file : HasTarget files other loads.load = record { element = loads.file; is_in = loads.is_loaded; holds = (loads.named, loads.of_other) } in
      let load : HasOne (HasTarget files other) loads.user.loads = record { element = loads.load; is_in = loads.has_load; holds = file } in
      none (record { element = loads.user; is_in = loads.is_reached; holds = (loads.of_own, load) }))
]

-- and so of modules at places

within_modules : (files : List Facts) (modules : List (List ℕ)) (i j : ℕ) → PlaceLoads files modules i j → (i < length modules) × (j < length modules)
within_modules files modules i j loads = (slice_get_within modules i loads.own loads.at, slice_get_within modules j loads.other loads.at_other)

place_loads_or : (files : List Facts) (modules : List (List ℕ)) (i j : ℕ) → Decided (PlaceLoads files modules i j)
place_loads_or files modules i j = elim (cases_lt i (length modules)) [
  | inr past ↦ inr (λ loads. (let lt = (within_modules files modules i j loads).0 in omega (arith, past, lt)))
  | inl within ↦ elim (cases_lt j (length modules)) [
    | inr past ↦ inr (λ loads. (let lt = (within_modules files modules i j loads).1 in omega (arith, past, lt)))
    | inl inside ↦
        let own = element_at modules i within in
        let other = element_at modules j inside in
        elim (module_loads_or files own.0 other.0) [
          | inl loads ↦ inl (record { own = own.0; other = other.0; at = own.1; at_other = other.1; loads = loads })
          | inr none ↦ inr (λ loads.
              let first : loads.own ≡ own.0 = same_Some loads.own own.0 (sym loads.at ∙ own.1) in
              let second : loads.other ≡ other.0 = same_Some loads.other other.0 (sym loads.at_other ∙ other.1) in
              none (subst (λ name. LoadsModule files name other.0) first (subst (LoadsModule files loads.own) second loads.loads)))
        ]
  ]
]

pub load_lists : (files : List Facts) (modules : List (List ℕ)) → (lists : List (List ℕ)) × AreLoadLists files modules lists
load_lists files modules =
    let rows : (lists : List (List ℕ)) × AreRows (PlaceLoads files modules) (length modules) lists =
    rows_of (PlaceLoads files modules) (length modules) (place_loads_or files modules) (within_modules files modules) in
    (rows.0, record { each = rows.1.each; calls = rows.1.calls })

-- each module that is loaded has a list
pub lists_closed : (files : List Facts) (modules lists : List (List ℕ)) → AreLoadLists files modules lists → IsClosed lists
lists_closed files modules lists are p q call =
    let inside : q < length modules = (within_modules files modules p q ((are.calls p q).0 call)).1 in omega (arith, inside, are.each)
