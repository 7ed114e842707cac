-- What the files that were found load, over every map that agrees with them.
use Rattle.std.proofs.Common.{◌≡◌, ℕ, List, [], ◌∷◌, Some, None, Contains, map, sym, subst, ◌∙◌, inl, inr}
use Rattle.std.proofs.lemmas.List.Concat.{flat_map-cons}
use Rattle.std.proofs.lemmas.List.Elements.{Contains-append_left, Contains-append_right, Contains-append_cases}
use Rattle.list_laws.proofs.OneOrder.{nothing_in, first_or_rest, in_rest, in_first}
use Rattle.prolog_terms.proofs.ViewLemmas.{some_once}
use Rattle.module_table.specs.Facts.{Facts}
use Rattle.module_table.specs.FileText.{HasFacts}
use Rattle.module_table.specs.Said.{Loads}
use Rattle.module_table.proofs.OneText.{same_facts, faulty_no_facts}
use Rattle.file_library.specs.Library.{Files, names_of}
use Rattle.file_library.specs.FileLoads.{FileLoads}
use Rattle.file_library.specs.AskedFile.{Found, absent, sound, faulty, FileFound, text_of, answered_of, loads_of, loads_in, IsTold}
use Rattle.file_library.specs.AskAll.{answers_of}

pub loads_from : (files : List FileFound) (name : List ℕ) → Contains (loads_in files) name → (file : FileFound) × Contains files file × Contains (loads_of file.found) name
loads_from [] name has = absurd (nothing_in name has)
loads_from (file ∷ files) name has =
    elim (Contains-append_cases (loads_of file.found) (loads_in files) name (subst (λ names. Contains names name) (flat_map-cons (λ (f : FileFound). loads_of f.found) file files) has)) [
      | inl own ↦ (file, in_first file files, own)
      | inr later ↦ let from = loads_from files name later in (from.0, in_rest file from.0 files from.1, from.2)
    ]

pub loads_into : (files : List FileFound) (file : FileFound) (name : List ℕ) → Contains files file → Contains (loads_of file.found) name → Contains (loads_in files) name
loads_into [] file name has loads = absurd (nothing_in file has)
loads_into (first ∷ files) file name has loads =
    subst (λ names. Contains names name) (sym (flat_map-cons (λ (f : FileFound). loads_of f.found) first files))
    (elim (first_or_rest first file files has) [
      | inl is ↦ Contains-append_left (loads_of first.found) (loads_in files) name (subst (λ (f : FileFound). Contains (loads_of f.found) name) (sym is) loads)
      | inr later ↦ Contains-append_right (loads_of first.found) (loads_in files) name (loads_into files file name later loads)
    ])

-- the file of an answer

pub answer_in : (files : List FileFound) (file : FileFound) → Contains files file → Contains (answers_of files) (answered_of file)
answer_in [] file has = absurd (nothing_in file has)
answer_in (first ∷ files) file has =
    elim (first_or_rest first file files has) [
      | inl is ↦ subst (λ (f : FileFound). Contains (answers_of (first ∷ files)) (answered_of f)) is (in_first (answered_of first) (answers_of files))
      | inr later ↦ in_rest (answered_of first) (answered_of file) (answers_of files) (answer_in files file later)
    ]

pub named_file : (files : List FileFound) (name : List ℕ) → Contains (names_of (answers_of files)) name → (file : FileFound) × Contains files file × (file.name ≡ name)
named_file [] name has = absurd (nothing_in name has)
named_file (first ∷ files) name has =
    elim (first_or_rest first.name name (names_of (answers_of files)) has) [
      | inl is ↦ (first, in_first first files, is)
      | inr later ↦ let from = named_file files name later in (from.0, in_rest first from.0 files from.1, from.2)
    ]

-- what a file that was found loads is what it loads in the map

pub file_loads : (files : Files) (own : List ℕ) (found : Found) (name : List ℕ) → files own ≡ text_of found → IsTold own found → Contains (loads_of found) name → FileLoads files own name
file_loads files own absent name there told has = absurd (nothing_in name has)
file_loads files own (sound text facts) name there told has = record { text = text; there = there; facts = facts; has = told; loads = has }
file_loads files own (faulty text fault) name there told has = absurd (nothing_in name has)

pub loads_file : (files : Files) (own : List ℕ) (found : Found) (name : List ℕ) → files own ≡ text_of found → IsTold own found → FileLoads files own name → Contains (loads_of found) name
loads_file files own absent name there told loads = let both : Some loads.text ≡ None = sym loads.there ∙ there in absurd (cc)
loads_file files own (sound text facts) name there told loads =
    let same : loads.text ≡ text = some_once (sym loads.there ∙ there) in
    let one : loads.facts ≡ facts = same_facts own text loads.facts facts (subst (λ t. HasFacts own t loads.facts) same loads.has) told in
    subst (λ (f : Facts). Contains (map (λ (load : Loads). load.file) f.loads) name) one loads.loads
loads_file files own (faulty text fault) name there told loads =
    let same : loads.text ≡ text = some_once (sym loads.there ∙ there) in
    absurd (faulty_no_facts own text fault loads.facts told.0 (subst (λ t. HasFacts own t loads.facts) same loads.has))
