-- Calls of goals of directives.
use Rattle.std.proofs.Common.{◌≡◌, List, [], All, slice_get, ap, sym, ◌∙◌, subst}
use Rattle.std.specs.List.{enumerate_from}
use Rattle.std.specs.List.Retain.{IsFiltered, DiffersFromLast}
use Rattle.std.specs.List.Sorted.{IsSorted, IsPermutation}
use Rattle.std.proofs.lemmas.List.Elements.{All-contains}
use Rattle.list_laws.proofs.Members.{all_by}
use Rattle.clause_text.specs.Offsets.{HasOffsets}
use Rattle.file_library.specs.Spots.{StandsInText}
use Rattle.import_rules.specs.Program.{Seen, IsKnown}
use Rattle.call_edges.specs.declared.placed_calls.PlacedCall.{PlacedCall}
use Rattle.call_edges.specs.Bodies.{Body, goal_body, goals_in, goals_of_file}
use Rattle.call_edges.specs.CallPlaces.{CallAt, IsCalledIn, met_of}
use Rattle.call_edges.specs.Calls.{IsAmong}
use Rattle.call_edges.specs.DirectiveCalls.{AreDirectiveCalls, IsDirectiveCall, no_caller}
use Rattle.call_edges.specs.Goals.{Adds}
use Rattle.call_edges.specs.PlacedSeen.{see_calls}
use Rattle.call_edges.specs.ProgramRows.{rows_of}
use Rattle.call_edges.proofs.AmongLemmas.{flat_has, map_has}
use Rattle.call_edges.proofs.CallLemmas.{adds_from_none}
use Rattle.call_edges.proofs.CallOffsets.{zip_text}
use Rattle.call_edges.proofs.OffsetLemmas.{goal_stands}
use Rattle.call_edges.proofs.PlaceLemmas.{enumerated}
use Rattle.call_edges.proofs.PlacedCallLemmas.{all_once, kept_cmp, kept_eq}

-- sorted, and each once
pub all_directive_calls : (seen : Seen) (bodies : List Body) (none : List CallAt) (calls sorted kept : List PlacedCall) → none ≡ [] → bodies ≡ goals_in seen.loaded.files
    → Adds (IsAmong (IsCalledIn seen no_caller) bodies) none (see_calls calls) → IsPermutation calls sorted → IsSorted kept_cmp sorted
    → IsFiltered (DiffersFromLast kept_eq) [] sorted kept → AreDirectiveCalls seen (see_calls kept)
all_directive_calls seen bodies none calls sorted kept empty are adds moved in_order filtered =
    let P : List Body → Type 0 = λ bs. Adds (IsAmong (IsCalledIn seen no_caller) bs) none (see_calls calls) in
    let told = adds_from_none (IsDirectiveCall seen) none (see_calls calls) empty (subst P are adds) in
    let once = all_once seen (IsDirectiveCall seen) calls sorted kept (λ c among. among.is.means_is) told moved in_order filtered in
    record { ordered = once.ordered; each = once.each }

-- each stands in its text

call_stands : (seen : Seen) (c : CallAt) → IsKnown seen → IsDirectiveCall seen c → StandsInText seen.loaded.texts c.file c.offset
call_stands seen c known among =
    let files = seen.loaded.files in
    let of_file = (flat_has goals_of_file (enumerate_from 0 files) among.one).0 among.has in
    let at = of_file.one in
    let text = zip_text seen.loaded.texts files at.0 at.1 known.read (enumerated files at of_file.has) in
    let goal = (map_has (goal_body at.0 at.1.module_) at.1.goals among.one).0 of_file.is in
    let stands : HasOffsets text.0.1 goal.one = All-contains (HasOffsets text.0.1) at.1.goals goal.one text.2.placed.of_goals goal.has in
    let here : HasOffsets text.0.1 among.one.at.tree = subst (λ (b : Body). HasOffsets text.0.1 b.at.tree) goal.is stands in
    let file : at.0 ≡ among.one.file = ap (λ (b : Body). b.file) goal.is in
    let called = among.is in
    record {
      text = text.0;
      is = ap (slice_get seen.loaded.texts) (called.in_file ∙ sym file) ∙ text.1;
      stands = goal_stands text.0.1 (rows_of seen) among.one.at (met_of c) here called.met;
    }

pub directive_calls_stand : (seen : Seen) (calls : List CallAt) → IsKnown seen → AreDirectiveCalls seen calls
    → All (λ (c : CallAt). StandsInText seen.loaded.texts c.file c.offset) calls
directive_calls_stand seen calls known are =
    all_by (λ (c : CallAt). StandsInText seen.loaded.texts c.file c.offset) calls (λ c has. call_stands seen c known ((are.each c).0 has))
