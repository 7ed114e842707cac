-- What is known of files that were loaded together.
use Rattle.std.proofs.Common.{◌≡◌, ℕ, ◌≤◌, List, [], ◌∷◌, All, length, map, option_map, ap, arith}
use Rattle.std.specs.Prelude.{unwrap_or}
use Rattle.std.specs.List.{AllZip}
use Rattle.std.proofs.lemmas.List.Elements.{All-head, All-tail, All-nil, All-cons, All-weaker}
use Rattle.list_laws.proofs.Zips.{zip_count}
use Rattle.prolog_terms.specs.Tree.{Tree}
use Rattle.prolog_terms.specs.Weight.{weight}
use Rattle.prolog_tokens.proofs.Lookups.{cut_fewer}
use Rattle.clause_text.specs.Clauses.{ReadsAs, total_weight, opening_ops}
use Rattle.kept_clauses.specs.Plain.{plain}
use Rattle.clause_text.proofs.Offsets.{reading_placed}
use Rattle.clause_text.proofs.PlainOffsets.{all_plain_stand}
use Rattle.clause_text.proofs.TextLemmas.{clauses_weigh, plain_weigh, each_light}
use Rattle.module_table.specs.Facts.{Facts}
use Rattle.module_table.specs.Metas.{Declaration}
use Rattle.module_table.specs.FileText.{HasFacts}
use Rattle.module_table.proofs.FactOffsets.{facts_placed}
use Rattle.module_table.proofs.ClausesOf.{metas_small}
use Rattle.module_table.proofs.FactWeights.{clauses_light, goals_light, metas_light}
use Rattle.module_table.proofs.FewDefined.{few_defined, few_metas}
use Rattle.file_library.specs.Library.{Files}
use Rattle.prolog_tokens.specs.declared.limits.TheConstants.{MOST_BYTES}
use Rattle.file_library.specs.declared.limits.TheConstants.{MOST_FILES}
use Rattle.file_library.specs.Loaded.{LoadedFiles, NamedText, IsTextOf, size_of, WasLoaded}
use Rattle.import_rules.specs.ClauseEnds.{StandApart}
use Rattle.import_rules.specs.Metas.{HasFewMetas}
use Rattle.import_rules.specs.Program.{IsReadFrom}
use Rattle.import_rules.proofs.ClauseEnds.{clauses_apart}

-- the plain trees of the clauses of a text weigh no more than it is long
text_light : (text : List ℕ) (trees : List Tree) → ReadsAs text trees → total_weight (map plain trees) ≤ length text
text_light text trees reads =
    omega (arith, plain_weigh trees, clauses_weigh opening_ops text reads.tokens trees reads.clauses, cut_fewer text reads.tokens reads.cut)

-- no more predicates than the text is long
few_in : (text : NamedText) (facts : Facts) → HasFacts text.0 text.1 facts → length facts.defined ≤ length text.1
few_in text facts has = omega (arith, few_defined text.0 (map plain has.trees) facts has.are, text_light text.1 has.trees has.reads)

read_from : (text : NamedText) (facts : Facts) → HasFacts text.0 text.1 facts → length text.1 ≤ MOST_BYTES → IsReadFrom text facts
read_from text facts has small =
    let kept = map plain has.trees in
    let light : All (λ tree. weight tree ≤ MOST_BYTES) kept = each_light kept MOST_BYTES (omega (arith, text_light text.1 has.trees has.reads, small)) in record {
      named = has.are.are.file;
      small = small;
      placed = facts_placed text.1 text.0 kept facts (all_plain_stand text.1 has.trees (reading_placed text.1 has.trees has.reads)) has.are;
      light_clauses = clauses_light MOST_BYTES text.0 kept facts light has.are;
      light_goals = goals_light MOST_BYTES text.0 kept facts light has.are;
      small_metas = metas_small text.0 kept facts has.are;
    }

size_of_text : (files : Files) (roots : List (List ℕ)) (text : NamedText) → IsTextOf files roots text → size_of files text.0 ≡ length text.1
size_of_text files roots text is = ap (λ found. unwrap_or (option_map (λ (bytes : List ℕ). length bytes) found) 0) is.there

-- what is said of each text and its facts, by what is known of texts that were loaded
each_read : (P : NamedText → Facts → Type 0) (files : Files) (roots : List (List ℕ))
    → ((text : NamedText) (facts : Facts) → HasFacts text.0 text.1 facts → length text.1 ≤ MOST_BYTES → P text facts)
    → (texts : List NamedText) (all : List Facts) → All (IsTextOf files roots) texts
    → All (λ name. size_of files name ≤ MOST_BYTES) (map (λ (text : NamedText). text.0) texts)
    → AllZip (λ (text : NamedText) (facts : Facts). HasFacts text.0 text.1 facts) texts all → AllZip P texts all
each_read P files roots holds [] [] are small has = tt
each_read P files roots holds [] (f ∷ all) are small has = has
each_read P files roots holds (t ∷ texts) [] are small has = has
each_read P files roots holds (t ∷ texts) (f ∷ all) are small has =
    let first : size_of files t.0 ≤ MOST_BYTES = All-head (λ name. size_of files name ≤ MOST_BYTES) t.0 (map (λ (text : NamedText). text.0) texts) small in
    let long : size_of files t.0 ≡ length t.1 = size_of_text files roots t (All-head (IsTextOf files roots) t texts are) in (
      holds t f has.0 (omega (arith, first, long)),
      each_read P files roots holds texts all (All-tail (IsTextOf files roots) t texts are)
          (All-tail (λ name. size_of files name ≤ MOST_BYTES) t.0 (map (λ (text : NamedText). text.0) texts) small) has.1,
    )

pub was_read : (loaded : LoadedFiles) → WasLoaded loaded → AllZip IsReadFrom loaded.texts loaded.files
was_read loaded was = each_read IsReadFrom was.files was.roots read_from loaded.texts loaded.files was.is.texts was.is.within.each was.is.facts

pub were_apart : (loaded : LoadedFiles) → WasLoaded loaded → AllZip StandApart loaded.texts loaded.files
were_apart loaded was =
    each_read StandApart was.files was.roots (λ text facts has small. clauses_apart text facts has) loaded.texts loaded.files was.is.texts was.is.within.each was.is.facts

pub few_files : (loaded : LoadedFiles) → WasLoaded loaded → length loaded.files ≤ MOST_FILES
few_files loaded was =
    omega (arith, was.is.few, zip_count (λ (text : NamedText) (facts : Facts). HasFacts text.0 text.1 facts) loaded.texts loaded.files was.is.facts)

-- what holds of each second one
zip_right : {A B : Type 0} (P : B → Type 0) (xs : List A) (ys : List B) → AllZip (λ x y. P y) xs ys → All P ys
zip_right {A} {B} P [] [] all = All-nil P
zip_right {A} {B} P [] (y ∷ ys) all = absurd all
zip_right {A} {B} P (x ∷ xs) [] all = absurd all
zip_right {A} {B} P (x ∷ xs) (y ∷ ys) all = All-cons P y ys all.0 (zip_right P xs ys all.1)

pub few_in_each : (loaded : LoadedFiles) → WasLoaded loaded → All (λ (file : Facts). length file.defined ≤ MOST_BYTES) loaded.files
few_in_each loaded was =
    zip_right (λ (file : Facts). length file.defined ≤ MOST_BYTES) loaded.texts loaded.files
    (each_read (λ text file. length file.defined ≤ MOST_BYTES) was.files was.roots
    (λ text facts has small. omega (arith, few_in text facts has, small)) loaded.texts loaded.files was.is.texts was.is.within.each was.is.facts)

-- few declarations of goal arguments, with few arguments

few_declared : (text : NamedText) (facts : Facts) → HasFacts text.0 text.1 facts → length text.1 ≤ MOST_BYTES → HasFewMetas facts
few_declared text facts has small =
    let kept = map plain has.trees in
    let heavy : total_weight kept ≤ MOST_BYTES = omega (arith, text_light text.1 has.trees has.reads, small) in
    let args = metas_light MOST_BYTES text.0 kept facts (each_light kept MOST_BYTES heavy) has.are in record {
      few = omega (arith, few_metas text.0 kept facts has.are, heavy);
      small = All-weaker (λ (d : Declaration). length d.args ≤ MOST_BYTES) (λ (d : Declaration). length d.args ≤ 4294967295) (λ d le. omega (arith, le)) facts.metas args;
    }

pub few_metas_in_each : (loaded : LoadedFiles) → WasLoaded loaded → All HasFewMetas loaded.files
few_metas_in_each loaded was =
    zip_right HasFewMetas loaded.texts loaded.files
    (each_read (λ text file. HasFewMetas file) was.files was.roots few_declared loaded.texts loaded.files was.is.texts was.is.within.each was.is.facts)
