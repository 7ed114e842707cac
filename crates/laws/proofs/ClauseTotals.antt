-- The clauses of a predicate weigh no more together than the text of their file may be long.
use Rattle.std.proofs.Common.{◌≡◌, ◌≤◌, ◌+◌, inl, inr, ℕ, Bool, not, List, [], ◌∷◌, Contains, filter, length, refl, sym, subst, arith, map}
use Rattle.std.specs.List.{AllZip}
use Rattle.std.specs.List.Sorted.{IsStrictlySortedBy}
use Rattle.std.proofs.lemmas.List.Filters.{sum_by-filter_both}
use Rattle.list_laws.proofs.OneOrder.{first_or_rest, nothing_in}
use Rattle.prolog_tokens.specs.declared.limits.TheConstants.{MOST_BYTES}
use Rattle.prolog_tokens.proofs.Lookups.{cut_fewer}
use Rattle.prolog_terms.specs.Tree.{Tree}
use Rattle.prolog_terms.specs.Weight.{weight}
use Rattle.kept_clauses.specs.Plain.{plain}
use Rattle.clause_text.specs.Clauses.{ReadsAs, opening_ops, total_weight}
use Rattle.clause_text.proofs.TextLemmas.{clauses_weigh, plain_weigh}
use Rattle.module_table.specs.Defined.{Predicate, predicate_cmp}
use Rattle.module_table.specs.Facts.{Facts, is_clause_of, module_of}
use Rattle.module_table.specs.FileText.{HasFacts}
use Rattle.module_table.proofs.ClausesOf.{clauses_are}
use Rattle.file_library.specs.Loaded.{LoadedFiles, NamedText, WasLoaded}
use Rattle.import_rules.specs.Program.{IsReadFrom}
use Rattle.import_rules.proofs.Loaded.{was_read}

-- some of the trees weigh no more than all of them
kept_weigh : (keep : Tree → Bool) (trees : List Tree) → total_weight (filter keep trees) ≤ total_weight trees
kept_weigh keep trees = omega (arith, sum_by-filter_both keep (λ tree. not (keep tree)) (λ tree. refl) (λ tree. weight tree + 2) trees)

read_light : (text : List ℕ) (trees : List Tree) → ReadsAs text trees → total_weight (map plain trees) ≤ length text
read_light text trees reads = omega (arith, plain_weigh trees, clauses_weigh opening_ops text reads.tokens trees reads.clauses, cut_fewer text reads.tokens reads.cut)

-- the predicates of a file are in order, and the clauses of each are light together
pub record IsLightFile (file : Facts) : Type 0 where
  pub in_order : IsStrictlySortedBy predicate_cmp file.defined
  pub light : (p : Predicate) → Contains file.defined p → total_weight p.clauses ≤ MOST_BYTES

light_file : (text : NamedText) (file : Facts) → HasFacts text.0 text.1 file → length text.1 ≤ MOST_BYTES → IsLightFile file
light_file text file has small = record {
  in_order = has.are.are.defined.in_order;
  light = λ p there.
      let of_it : Tree → Bool = is_clause_of (module_of (map plain has.trees)) p.module_ p.name p.arity in
      let are : p.clauses ≡ filter of_it (map plain has.trees) = clauses_are text.0 (map plain has.trees) file has.are p there in
      subst (λ (trees : List Tree). total_weight trees ≤ MOST_BYTES) (sym are)
      (omega (arith, kept_weigh of_it (map plain has.trees), read_light text.1 has.trees has.reads, small));
}

-- each file that was read from a text is so
light_each : (texts : List NamedText) (files : List Facts) → AllZip IsReadFrom texts files
    → AllZip (λ (text : NamedText) (file : Facts). HasFacts text.0 text.1 file) texts files → (file : Facts) → Contains files file → IsLightFile file
light_each [] [] read told file has = absurd (nothing_in file has)
light_each [] (f ∷ files) read told file has = absurd read
light_each (t ∷ texts) [] read told file has = absurd read
light_each (t ∷ texts) (f ∷ files) read told file has =
    elim (first_or_rest f file files has) [
      | inl same ↦ subst IsLightFile same (light_file t f told.0 read.0.small)
      | inr later ↦ light_each texts files read.1 told.1 file later
    ]

-- all files that were loaded are so
pub light_files : (loaded : LoadedFiles) → WasLoaded loaded → (file : Facts) → Contains loaded.files file → IsLightFile file
light_files loaded was = light_each loaded.texts loaded.files (was_read loaded was) was.is.facts
