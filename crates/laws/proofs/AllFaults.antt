-- The load faults of the files that are asked for, each with its place.
use Rattle.std.proofs.Common.{◌≡◌, ℕ, ◌⊎◌, List, Option, Some, None, Contains, refl, sym, subst, ap, ◌∙◌, inl, inr}
use Rattle.std.specs.List.{filter_map}
use Rattle.list_laws.proofs.Members.{all_by}
use Rattle.prolog_tokens.specs.Places.{IsPlace}
use Rattle.prolog_tokens.proofs.PlaceSteps.{place_once}
use Rattle.clause_text.specs.declared.cause.Cause.TheVariants.{NoRoot}
use Rattle.module_table.specs.FileText.{HasFault}
use Rattle.module_table.specs.Said.{Refusal}
use Rattle.module_table.proofs.OneText.{same_fault, faulty_no_facts}
use Rattle.file_library.specs.Library.{Files}
use Rattle.file_library.specs.Loaded.{IsAskedIn, IsLoadFault, AreLoadFaults}
use Rattle.file_library.specs.AskedFile.{Found, absent, sound, faulty, text_of, IsTold}
use Rattle.file_library.specs.SortedOut.{AreJustAsked}
use Rattle.file_library.specs.declared.fault.Fault.{Fault}
use Rattle.file_library.proofs.WaveLaws.{Names, has_name}
use Rattle.laws.proofs.FaultPlaces.{place_there}
use Rattle.laws.proofs.FoundAt.{IsAt}
use Rattle.file_library.proofs.LoadedFiles.{some_once}
use Rattle.laws.proofs.Given.{given_in, given_from, given_rise}
use Rattle.laws.proofs.NextNames.{AreOrderedOf}

-- the fault of a root that isn't there
abbrev no_root : List ℕ → Fault
no_root name = record { file = name; offset = 0; place = record { line = 0; column = 0 }; cause = NoRoot }

abbrev if_root : (roots : Names) (name : List ℕ) → Contains roots name ⊎ (Contains roots name → ⊥) → Option Fault
if_root roots name (inl has) = Some (no_root name)
if_root roots name (inr none) = None

-- the fault of a file by what it is, if it has one
abbrev pub fault_of : (roots : Names) (name : List ℕ) → Found → Option Fault
fault_of roots name absent = if_root roots name (has_name roots name)
fault_of roots name (sound text facts) = None
fault_of roots name (faulty text refusal) = Some (record { file = name; offset = refusal.offset; place = (place_there text refusal.offset).0; cause = refusal.cause })

root_named : (roots : Names) (name : List ℕ) (fault : Fault) (root : Contains roots name ⊎ (Contains roots name → ⊥)) → if_root roots name root ≡ Some fault → no_root name ≡ fault
root_named roots name fault (inl has) is = some_once is
root_named roots name fault (inr none) is = let both : None ≡ Some fault = is in absurd (cc)

root_has : (roots : Names) (name : List ℕ) (fault : Fault) (root : Contains roots name ⊎ (Contains roots name → ⊥)) → if_root roots name root ≡ Some fault → Contains roots name
root_has roots name fault (inl has) is = has
root_has roots name fault (inr none) is = let both : None ≡ Some fault = is in absurd (cc)

root_given : (roots : Names) (name : List ℕ) (root : Contains roots name ⊎ (Contains roots name → ⊥)) → Contains roots name → if_root roots name root ≡ Some (no_root name)
root_given roots name (inl there) has = refl
root_given roots name (inr none) has = absurd (none has)

fault_named : (roots : Names) (name : List ℕ) (found : Found) (fault : Fault) → fault_of roots name found ≡ Some fault → fault.file ≡ name
fault_named roots name absent fault is = ap (λ (f : Fault). f.file) (sym (root_named roots name fault (has_name roots name) is))
fault_named roots name (sound text facts) fault is = let both : None ≡ Some fault = is in absurd (cc)
fault_named roots name (faulty text refusal) fault is = ap (λ (f : Fault). f.file) (sym (some_once is))

-- a file without a fault is no root that isn't there, and its text has none

pub root_absent : (roots : Names) (name : List ℕ) → fault_of roots name absent ≡ None → Contains roots name → ⊥
root_absent roots name none has = let both : Some (no_root name) ≡ None = sym (root_given roots name (has_name roots name) has) ∙ none in cc

pub faultless : (roots : Names) (name text : List ℕ) (refusal : Refusal) → fault_of roots name (faulty text refusal) ≡ None → ⊥
faultless roots name text refusal none = cc

module _ (files : Files) (roots : Names) where
  -- the fault of an asked file is a load fault
  fault_loads : (name : List ℕ) (found : Found) (fault : Fault) → IsAskedIn files roots name → files name ≡ text_of found → IsTold name found → fault_of roots name found ≡ Some fault
      → IsLoadFault files roots fault
  fault_loads name absent fault asked there told is =
      subst (IsLoadFault files roots) (root_named roots name fault (has_name roots name) is)
      (inl (record { root = root_has roots name fault (has_name roots name) is; none = there; cause = refl; offset = refl; place = refl }))
  fault_loads name (sound text facts) fault asked there told is = let both : None ≡ Some fault = is in absurd (cc)
  fault_loads name (faulty text refusal) fault asked there told is =
      subst (IsLoadFault files roots) (some_once is)
      (inr (record { asked = asked; text = text; there = there; has = told.0; stands = (place_there text refusal.offset).1 }))

  -- a load fault is that of its file
  loads_fault : (fault : Fault) (found : Found) → files fault.file ≡ text_of found → IsTold fault.file found → IsLoadFault files roots fault → fault_of roots fault.file found ≡ Some fault
  loads_fault fault absent there told (inl is) =
      let offset = sym is.offset in
      let place = sym is.place in
      let cause = sym is.cause in
      let whole : no_root fault.file ≡ fault = λ i. record { file = fault.file; offset = offset i; place = place i; cause = cause i } in
      root_given roots fault.file (has_name roots fault.file) is.root ∙ ap (λ f. Some f) whole
  loads_fault fault absent there told (inr of) = let both : Some of.text ≡ None = sym of.there ∙ there in absurd (cc)
  loads_fault fault (sound text facts) there told (inl is) = let both : None ≡ Some text = sym is.none ∙ there in absurd (cc)
  loads_fault fault (sound text facts) there told (inr of) =
      let one : of.text ≡ text = some_once (sym of.there ∙ there) in
      let own : Refusal = record { cause = fault.cause; offset = fault.offset } in
      absurd (faulty_no_facts fault.file text own facts (subst (λ t. HasFault fault.file t own) one of.has) told)
  loads_fault fault (faulty text refusal) there told (inl is) = let both : None ≡ Some text = sym is.none ∙ there in absurd (cc)
  loads_fault fault (faulty text refusal) there told (inr of) =
      let one : of.text ≡ text = some_once (sym of.there ∙ there) in
      let own : Refusal = record { cause = fault.cause; offset = fault.offset } in
      let refused : refusal ≡ own = same_fault fault.file text refusal own told.0 (subst (λ t. HasFault fault.file t own) one of.has) in
      let cause : refusal.cause ≡ fault.cause = ap (λ (r : Refusal). r.cause) refused in
      let offset : refusal.offset ≡ fault.offset = ap (λ (r : Refusal). r.offset) refused in
      let placed = place_there text refusal.offset in
      let place : placed.0 ≡ fault.place = place_once text refusal.offset placed.0 fault.place placed.1
      (subst (λ o. IsPlace text o fault.place) (sym offset) (subst (λ t. IsPlace t fault.offset fault.place) one of.stands)) in
      λ i. Some (record { file = fault.file; offset = offset i; place = place i; cause = cause i })

  fault_asked : (fault : Fault) → IsLoadFault files roots fault → IsAskedIn files roots fault.file
  fault_asked fault (inl is) = (0, is.root)
  fault_asked fault (inr of) = of.asked

  module _ (find : (name : List ℕ) → IsAt files name) where
    -- the fault at a name, if there is one
    abbrev pub fault_at : List ℕ → Option Fault
    fault_at name = fault_of roots name (find name).found

    abbrev pub faults_at : Names → List Fault
    faults_at names = filter_map fault_at names

    -- the faults at all that is asked for are the load faults
    pub all_faults : (names ordered : Names) → AreJustAsked files roots names → AreOrderedOf names ordered → AreLoadFaults files roots (faults_at ordered)
    all_faults names ordered asked are = record {
      ordered = given_rise fault_at (λ (fault : Fault). fault.file) (λ name fault is. fault_named roots name (find name).found fault is) ordered are.up;
      sound = all_by (IsLoadFault files roots) (faults_at ordered) (λ fault has.
          let from = given_from fault_at ordered fault has in
          fault_loads from.0 (find from.0).found fault (asked.sound from.0 (are.sound from.0 from.1)) (find from.0).there (find from.0).told from.2);
      all = λ fault is.
          given_in fault_at ordered fault.file fault (are.all fault.file (asked.all fault.file (fault_asked fault is)))
          (loads_fault fault (find fault.file).found (find fault.file).there (find fault.file).told is);
    }
