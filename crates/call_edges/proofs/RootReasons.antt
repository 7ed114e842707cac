-- Predicates by why reach begins there.
use Rattle.std.proofs.Common.{◌≡◌, ◌↔◌, ℕ, ◌<◌, false, true, List, [], All, length, get_or, map, subst}
use Rattle.std.specs.Prelude.{Contains}
use Rattle.std.proofs.lemmas.List.Elements.{Contains-get_or}
use Rattle.module_table.specs.declared.file_facts.FileFacts.{FileFacts}
use Rattle.module_table.specs.Facts.{Facts, see_facts}
use Rattle.import_rules.specs.Program.{Seen}
use Rattle.call_edges.specs.Bodies.{Body, goals_in, IsMetInBody}
use Rattle.call_edges.specs.Calls.{IsAmong, IsMetInGoals, GoesTo}
use Rattle.call_edges.specs.Goals.{Adds}
use Rattle.call_edges.specs.ProgramRows.{rows_of}
use Rattle.call_edges.specs.RootReasons.{IsExported, IsExportedByModule, IsRootByDirective, IsRootByExport, IsRootByFile}
use Rattle.call_edges.proofs.AddsLemmas.{adds_as}
use Rattle.call_edges.proofs.AmongLemmas.{among_map}
use Rattle.call_edges.proofs.CallLemmas.{adds_from_none}
use Rattle.call_edges.proofs.RootLemmas.{given_below, goals_go}
use Rattle.call_edges.proofs.SuccessorLemmas.{goes_below}

-- each is below the count

pub exported_below : (seen : Seen) (q : ℕ) → IsExported seen q → q < length seen.predicates
exported_below seen q among = given_below seen among.one true q among.is.gives

pub export_below : (seen : Seen) (q : ℕ) → IsRootByExport seen q → q < length seen.predicates
export_below seen q among = given_below seen among.one true q among.is.gives

pub directive_below : (seen : Seen) (q : ℕ) → IsRootByDirective seen q → q < length seen.predicates
directive_below seen q among = goes_below seen (IsMetInGoals (rows_of seen) among.one) q among.is

pub file_below : (seen : Seen) (q : ℕ) → IsRootByFile seen q → q < length seen.predicates
file_below seen q among = given_below seen among.one false q among.is.1

-- and so are all of a list
pub all_below : (seen : Seen) (P : ℕ → Type 0) (nodes : List ℕ) → ((q : ℕ) → P q → q < length seen.predicates) → ((q : ℕ) → Contains nodes q ↔ P q)
    → All (λ q. q < length seen.predicates) nodes
all_below seen P nodes below are = λ k d lt. below (get_or nodes k d) ((are (get_or nodes k d)).0 (Contains-get_or nodes k d lt))

-- what goals of directives call
pub called_are : (seen : Seen) (bodies : List Body) (none new : List ℕ) → none ≡ [] → bodies ≡ goals_in seen.loaded.files
    → Adds (GoesTo seen (IsAmong (IsMetInBody (rows_of seen)) bodies)) none new → (q : ℕ) → Contains new q ↔ IsRootByDirective seen q
called_are seen bodies none new empty are adds q =
    let P : List Body → Type 0 = λ bs. Adds (GoesTo seen (IsAmong (IsMetInBody (rows_of seen)) bs)) none new in
    let has = adds_from_none (GoesTo seen (IsAmong (IsMetInBody (rows_of seen)) (goals_in seen.loaded.files))) none new empty (subst P are adds) q in
    let goes = goals_go seen q in
    (λ there. goes.0 (has.0 there), λ is. has.1 (goes.1 is))

-- facts as they are kept

abbrev pub IsModuleExport : Seen → FileFacts → ℕ → Type 0
IsModuleExport seen file n = IsExportedByModule seen (see_facts file) n

pub exported_go : (seen : Seen) (files : List FileFacts) (all : List Facts) (old new : List ℕ) → map see_facts files ≡ all → Adds (IsAmong (IsModuleExport seen) files) old new
    → Adds (IsAmong (IsExportedByModule seen) all) old new
exported_go seen files all old new are adds =
    let P : List Facts → Type 0 = λ fs. Adds (IsAmong (IsExportedByModule seen) fs) old new in
    subst P are
    (adds_as (IsAmong (IsModuleExport seen) files) (IsAmong (IsExportedByModule seen) (map see_facts files)) old new
    (λ q. (among_map (IsExportedByModule seen) see_facts files q).1) (λ q. (among_map (IsExportedByModule seen) see_facts files q).0) adds)
