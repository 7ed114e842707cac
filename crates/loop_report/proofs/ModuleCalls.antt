-- The loops that gather which modules load which.
use Rattle.std.proofs.Common.{◌≡◌, ℕ, ◌+◌, ◌<◌, ◌≤◌, ◌⊎◌, List, [], ◌∷◌, ◌++◌, length, take, map, get_or, set, replicate, All, Contains, Some, slice_get, refl, sym, subst, ◌∙◌, ap, inl, inr, arith}
use Rattle.std.specs.List.{range_with_len}
use Rattle.std.proofs.lemmas.Bool.{cases_eq, cases_lt}
use Rattle.std.proofs.lemmas.List.{get_or-map, get_or_append_left, get_or_push, length_push, get_or-set_same, get_or-set_other, length-set, length-map, length-replicate, get_or-replicate, get_or_past}
use Rattle.std.proofs.lemmas.List.Elements.{Contains-push, Contains-push_cases, Contains-append_left}
use Rattle.std.proofs.lemmas.List.FromFn.{length-range_with_len, get_or-range_with_len}
use Rattle.std.proofs.lemmas.Option.{slice_get_within, slice_get-get_or, get_or_from_slice_get}
use Rattle.list_laws.proofs.Members.{map_from, map_has, stands_in}
use Rattle.graph_law.specs.Graph.{IsGraph}
use Rattle.import_rules.specs.declared.resolve.TheConstants.{MOST_PREDICATES}
use Rattle.module_table.specs.declared.load.Load.{Load}
use Rattle.module_table.specs.Said.{Loads}
use Rattle.module_table.specs.Facts.{Facts}
use Rattle.list_laws.proofs.OneOrder.{nothing_in}
use Rattle.import_rules.proofs.PartsSoFar.{element_at}
use Rattle.loop_report.specs.ModuleGraph.{AreRising, AreModulePlaces, HasLoad, AddsLoads, AreLoadLists, file_names}
use Rattle.loop_report.proofs.Lists.{place_there, more_cases, more_old, more_new, one_place}

-- the name of the file of a load
abbrev pub file_of : Load → List ℕ
file_of load = load.file

-- the number at a place
pub number_at : (xs : List ℕ) (k x : ℕ) → slice_get xs k ≡ Some x → get_or xs k 0 ≡ x
number_at xs k x is = get_or_from_slice_get xs k x 0 is

-- one more load, of a file that is there
pub loads_more : (names : List (List ℕ)) (places : List ℕ) (loads : List (List ℕ)) (old new : List ℕ) (i file place : ℕ) (name : List ℕ) → AreRising names
    → i < length loads → name ≡ get_or loads i name → slice_get names file ≡ Some name → slice_get places file ≡ Some place
    → AddsLoads names places (take i loads) old new → AddsLoads names places (take (i + 1) loads) old (new ++ place ∷ [])
loads_more names places loads old new i file place name up lt is at number adds q = (
  (λ has.
      elim (Contains-push_cases new place q has) [
        | inl before ↦
            elim ((adds q).0 before) [
              | inl of_old ↦ inl of_old
              | inr h ↦ inr (record { file = h.file; name = h.name; is_load = more_old loads i name h.name lt h.is_load; at = h.at; place = h.place })
            ]
        | inr same ↦
            inr (record { file = file; name = name; is_load = more_new loads i name lt is; at = at; place = number ∙ ap (λ n. Some n) same })
      ]),
  (λ from.
      elim from [
        | inl of_old ↦ Contains-append_left new (place ∷ []) q ((adds q).1 (inl of_old))
        | inr h ↦
            elim (more_cases loads i name h.name lt is h.is_load) [
              | inl before ↦
                  Contains-append_left new (place ∷ []) q
                  ((adds q).1 (inr (record { file = h.file; name = h.name; is_load = before; at = h.at; place = h.place })))
              | inr same ↦
                  let one : file ≡ h.file = one_place names name file h.file up at (h.at ∙ ap (λ x. Some x) (sym same)) in
                  let both : place ≡ q = sym (number_at places file place number) ∙ (ap (λ f. get_or places f 0) one ∙ number_at places h.file q h.place) in
                  subst (λ n. Contains (new ++ place ∷ []) n) both (Contains-push new place)
            ]
      ]),
)

-- one more load, of a file that isn't there
pub loads_skip : (names : List (List ℕ)) (places : List ℕ) (loads : List (List ℕ)) (old new : List ℕ) (i : ℕ) (name : List ℕ) → i < length loads
    → name ≡ get_or loads i name → (Contains names name → ⊥) → AddsLoads names places (take i loads) old new → AddsLoads names places (take (i + 1) loads) old new
loads_skip names places loads old new i name lt is none adds q = (
  (λ has.
      elim ((adds q).0 has) [
        | inl of_old ↦ inl of_old
        | inr h ↦ inr (record { file = h.file; name = h.name; is_load = more_old loads i name h.name lt h.is_load; at = h.at; place = h.place })
      ]),
  (λ from.
      elim from [
        | inl of_old ↦ (adds q).1 (inl of_old)
        | inr h ↦
            elim (more_cases loads i name h.name lt is h.is_load) [
              | inl before ↦ (adds q).1 (inr (record { file = h.file; name = h.name; is_load = before; at = h.at; place = h.place }))
              | inr same ↦ absurd (none (stands_in names h.file name (h.at ∙ ap (λ x. Some x) (sym same))))
            ]
      ]),
)

-- before the first load nothing is added
pub loads_start : (names : List (List ℕ)) (places : List ℕ) (loads : List (List ℕ)) (old : List ℕ) → AddsLoads names places (take 0 loads) old old
loads_start names places loads old q =
    ((λ has. inl has), (λ from. elim from [ inl of_old ↦ of_old | inr h ↦ absurd (nothing_in h.name h.is_load) ]))

-- one more file has a module at that place
pub places_more : (files : List Facts) (modules : List (List ℕ)) (places : List ℕ) (f : Facts) (place : ℕ) → slice_get modules place ≡ Some f.module_
    → AreModulePlaces files modules places → AreModulePlaces (files ++ f ∷ []) modules (places ++ place ∷ [])
places_more files modules places f place at are = record {
  each = omega (arith, length_push places place, length_push files f, are.each);
  at = λ k g is.
      let within : k < length (files ++ f ∷ []) = slice_get_within (files ++ f ∷ []) k g is in
      let read : get_or (files ++ f ∷ []) k g ≡ g = get_or_from_slice_get (files ++ f ∷ []) k g g is in
      elim (cases_lt k (length files)) [
        | inl lt ↦
            let here : slice_get files k ≡ Some g = slice_get-get_or files k g lt ∙ ap (λ x. Some x) (sym (get_or_append_left files (f ∷ []) g k lt) ∙ read) in
            ap (slice_get modules) (get_or_append_left places (place ∷ []) 0 k (omega (arith, lt, are.each))) ∙ are.at k g here
        | inr past ↦
            let last : length files ≡ k = omega (arith, past, within, length_push files f) in
            let same : f ≡ g = sym (get_or_push files f g k last) ∙ read in
            ap (slice_get modules) (get_or_push places place 0 k (are.each ∙ last)) ∙ (at ∙ ap (λ (x : Facts). Some x.module_) same)
      ];
}

-- the place of a file's module is one of a module
pub place_within : (files : List Facts) (modules : List (List ℕ)) (places : List ℕ) (k : ℕ) → k < length files → AreModulePlaces files modules places
    → get_or places k 0 < length modules
place_within files modules places k lt are =
    let f = element_at files k lt in slice_get_within modules (get_or places k 0) f.0.module_ (are.at k f.0 f.1)

-- a load of these leads to a file of the module at a place
pub record LeadsTo (files : List Facts) (modules : List (List ℕ)) (loads : List Loads) (q : ℕ) : Type 0 where
  pub load : Loads
  pub has_load : Contains loads load
  pub file : Facts
  pub is_loaded : Contains files file
  pub named : file.file ≡ load.file
  pub other : slice_get modules q ≡ Some file.module_

abbrev loaded_names : List Loads → List (List ℕ)
loaded_names loads = map (λ (load : Loads). load.file) loads

leads_to : (files : List Facts) (modules : List (List ℕ)) (places : List ℕ) (loads : List Loads) (q : ℕ) → AreModulePlaces files modules places
    → HasLoad (file_names files) places (loaded_names loads) q → LeadsTo files modules loads q
leads_to files modules places loads q are h =
    let load = map_from (λ (load : Loads). load.file) loads h.name h.is_load in
    let within : h.file < length files = omega (arith, slice_get_within (file_names files) h.file h.name h.at, length-map files (λ (f : Facts). f.file)) in
    let file = element_at files h.file within in
    let named : file.0.file ≡ h.name =
    ap (λ (f : Facts). f.file) (sym (get_or_from_slice_get files h.file file.0 file.0 file.1))
    ∙ (sym (get_or-map (λ (f : Facts). f.file) files h.file file.0 h.name within) ∙ get_or_from_slice_get (file_names files) h.file h.name h.name h.at) in
    record {
      load = load.0;
      has_load = load.1;
      file = file.0;
      is_loaded = stands_in files h.file file.0 file.1;
      named = named ∙ sym load.2;
      other = ap (slice_get modules) (sym (number_at places h.file q h.place)) ∙ are.at h.file file.0 file.1;
    }

has_load : (files : List Facts) (modules : List (List ℕ)) (places : List ℕ) (loads : List Loads) (q : ℕ) → AreRising modules → AreModulePlaces files modules places
    → LeadsTo files modules loads q → HasLoad (file_names files) places (loaded_names loads) q
has_load files modules places loads q up are h =
    let k : ℕ = h.is_loaded.0 in
    let at : slice_get files k ≡ Some h.file = place_there files h.file h.is_loaded in
    let within : k < length files = slice_get_within files k h.file at in
    let one : get_or places k 0 ≡ q = one_place modules h.file.module_ (get_or places k 0) q up (are.at k h.file at) h.other in
    record {
      file = k;
      name = h.load.file;
      is_load = map_has (λ (load : Loads). load.file) loads h.load h.has_load;
      at =
          slice_get-get_or (file_names files) k h.load.file (omega (arith, within, length-map files (λ (f : Facts). f.file)))
          ∙ ap (λ x. Some x)
          (get_or-map (λ (f : Facts). f.file) files k h.file h.load.file within
          ∙ (ap (λ (f : Facts). f.file) (get_or_from_slice_get files k h.file h.file at) ∙ h.named));
      place = slice_get-get_or places k 0 (omega (arith, within, are.each)) ∙ ap (λ n. Some n) one;
    }

-- one of these files is of the module at p, and loads a file of the module at q
pub record UserLoads (users files : List Facts) (modules : List (List ℕ)) (p q : ℕ) : Type 0 where
  pub user : Facts
  pub is_user : Contains users user
  pub own : slice_get modules p ≡ Some user.module_
  pub leads : LeadsTo files modules user.loads q

-- there is a list for each module, and it holds what these files of the module load
pub record AreListsOf (users files : List Facts) (modules : List (List ℕ)) (lists : List (List ℕ)) : Type 0 where
  pub each : length lists ≡ length modules
  pub calls : (p q : ℕ) → (Contains (get_or lists p []) q → UserLoads users files modules p q) × (UserLoads users files modules p q → Contains (get_or lists p []) q)

lift_user : (users files : List Facts) (modules : List (List ℕ)) (i p q : ℕ) (user : Facts) → i < length users
    → UserLoads (take i users) files modules p q → UserLoads (take (i + 1) users) files modules p q
lift_user users files modules i p q user lt call =
    record { user = call.user; is_user = more_old users i user call.user lt call.is_user; own = call.own; leads = call.leads }

user_cases : (users files : List Facts) (modules : List (List ℕ)) (i p q : ℕ) (user : Facts) → i < length users → user ≡ get_or users i user
    → UserLoads (take (i + 1) users) files modules p q
    → UserLoads (take i users) files modules p q ⊎ ((slice_get modules p ≡ Some user.module_) × LeadsTo files modules user.loads q)
user_cases users files modules i p q user lt is call =
    elim (more_cases users i user call.user lt is call.is_user) [
      | inl before ↦ inl (record { user = call.user; is_user = before; own = call.own; leads = call.leads })
      | inr same ↦
          inr (
            call.own ∙ ap (λ (u : Facts). Some u.module_) (sym same),
            subst (λ (u : Facts). LeadsTo files modules u.loads q) (sym same) call.leads,
          )
    ]

pub files_more : (files : List Facts) (modules : List (List ℕ)) (places : List ℕ) (lists : List (List ℕ)) (new : List ℕ) (i own : ℕ) (user : Facts)
    → AreRising modules → AreModulePlaces files modules places → i < length files → user ≡ get_or files i user → own ≡ get_or places i 0
    → AddsLoads (file_names files) places (loaded_names user.loads) (get_or lists own []) new → AreListsOf (take i files) files modules lists
    → AreListsOf (take (i + 1) files) files modules (set lists own new)
files_more files modules places lists new i own user up are lt is own_is adds so_far =
    let at : slice_get modules own ≡ Some user.module_ =
    ap (slice_get modules) own_is ∙ are.at i user (slice_get-get_or files i user lt ∙ ap (λ u. Some u) (sym is)) in
    let within : own < length lists = omega (arith, slice_get_within modules own user.module_ at, so_far.each) in
    record {
      each = length-set lists own new ∙ so_far.each;
      calls = λ p q.
          let P : List ℕ → Type 0 = λ list. Contains list q in
          elim (cases_eq p own) [
            | inl same ↦
                let here : get_or (set lists own new) p [] ≡ new = ap (λ n. get_or (set lists own new) n []) same ∙ get_or-set_same lists own new [] within in
                let at_p : slice_get modules p ≡ Some user.module_ = ap (slice_get modules) same ∙ at in
                let was : get_or lists p [] ≡ get_or lists own [] = ap (λ n. get_or lists n []) same in (
                  (λ has.
                      elim ((adds q).0 (subst P here has)) [
                        | inl of_old ↦ lift_user files files modules i p q user lt ((so_far.calls p q).0 (subst P (sym was) of_old))
                        | inr h ↦
                            record { user = user; is_user = more_new files i user lt is; own = at_p; leads = leads_to files modules places user.loads q are h }
                      ]),
                  (λ call.
                      subst P (sym here)
                      (elim (user_cases files files modules i p q user lt is call) [
                        | inl before ↦ (adds q).1 (inl (subst P was ((so_far.calls p q).1 before)))
                        | inr h ↦ (adds q).1 (inr (has_load files modules places user.loads q up are h.1))
                      ])),
                )
            | inr differ ↦
                let here : get_or (set lists own new) p [] ≡ get_or lists p [] = get_or-set_other lists own p new [] differ in (
                  (λ has. lift_user files files modules i p q user lt ((so_far.calls p q).0 (subst P here has))),
                  (λ call.
                      subst P (sym here)
                      (elim (user_cases files files modules i p q user lt is call) [
                        | inl before ↦ (so_far.calls p q).1 before
                        | inr h ↦ absurd (differ (one_place modules user.module_ p own up h.0 at))
                      ])),
                )
          ];
    }

get_or-replicate_nil : (n p : ℕ) → get_or {A = List ℕ} (replicate n []) p [] ≡ []
get_or-replicate_nil n p =
    let none : List ℕ = [] in
    elim (cases_lt p n) [
      | inl lt ↦ get_or-replicate n p none none lt
      | inr past ↦ get_or_past (replicate n none) p none (omega (arith, length-replicate n none))
    ]

-- before the first file nothing is loaded
pub files_start : (files : List Facts) (modules : List (List ℕ)) (lists : List (List ℕ)) (count : ℕ) → count ≡ length modules → lists ≡ replicate count []
    → AreListsOf (take 0 files) files modules lists
files_start files modules lists count many empty = record {
  each = ap length empty ∙ (length-replicate {A = List ℕ} count [] ∙ many);
  calls = λ p q.
      let P : List ℕ → Type 0 = λ list. Contains list q in
      let none : get_or lists p [] ≡ [] = ap (λ ls. get_or ls p []) empty ∙ get_or-replicate_nil count p in
      ((λ has. absurd (nothing_in q (subst P none has))), (λ call. absurd (nothing_in call.user call.is_user)));
}

pub files_done : (files : List Facts) (modules : List (List ℕ)) (lists : List (List ℕ)) → AreListsOf files files modules lists → AreLoadLists files modules lists
files_done files modules lists are = record {
  each = are.each;
  calls = λ p q. (
    (λ has.
        let call = (are.calls p q).0 has in
        record {
          own = call.user.module_;
          other = call.leads.file.module_;
          at = call.own;
          at_other = call.leads.other;
          loads = record {
            user = call.user;
            load = call.leads.load;
            file = call.leads.file;
            is_reached = call.is_user;
            has_load = call.leads.has_load;
            is_loaded = call.leads.is_loaded;
            named = call.leads.named;
            of_own = refl;
            of_other = refl;
          };
        }),
    (λ pl.
        (are.calls p q).1
        (record {
          user = pl.loads.user;
          is_user = pl.loads.is_reached;
          own = pl.at ∙ ap (λ x. Some x) (sym pl.loads.of_own);
          leads = record {
            load = pl.loads.load;
            has_load = pl.loads.has_load;
            file = pl.loads.file;
            is_loaded = pl.loads.is_loaded;
            named = pl.loads.named;
            other = pl.at_other ∙ ap (λ x. Some x) (sym pl.loads.of_other);
          };
        })),
  );
}

-- the lists are those of a graph
pub is_graph : (files : List Facts) (modules : List (List ℕ)) (lists : List (List ℕ)) (roots : List ℕ) → AreLoadLists files modules lists
    → roots ≡ range_with_len 0 (length modules) → length modules ≤ MOST_PREDICATES → IsGraph (record { lists = lists; roots = roots })
is_graph files modules lists roots are all few = record {
  closed = λ p q call.
      let pl = (are.calls p q).0 call in
      omega (arith, slice_get_within modules q pl.other pl.at_other, are.each);
  rooted = subst (All (λ root. root < length lists)) (sym all)
      (λ k d lt.
      let below : k < length modules = omega (arith, lt, length-range_with_len 0 (length modules)) in
      omega (arith, below, are.each, get_or-range_with_len 0 (length modules) k d below));
  small = omega (arith, few, are.each);
}
