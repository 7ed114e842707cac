-- What is known of each program is known of its program of plain trees.
use Rattle.std.proofs.Common.{ℕ, ◌≤◌, List, [], ◌∷◌, All, map, slice_index_or, arith}
use Rattle.std.specs.List.{AllZip}
use Rattle.std.proofs.lemmas.List.{length-map}
use Rattle.std.proofs.lemmas.List.Elements.{All-map}
use Rattle.prolog_tokens.specs.declared.limits.TheConstants.{MOST_BYTES}
use Rattle.prolog_terms.specs.Tree.{Tree}
use Rattle.prolog_terms.specs.Weight.{weight}
use Rattle.clause_text.specs.Offsets.{HasOffsets}
use Rattle.module_table.specs.Defined.{Predicate}
use Rattle.module_table.specs.Facts.{Facts}
use Rattle.module_table.specs.Placed.{ArePlacedIn}
use Rattle.file_library.specs.Loaded.{NamedText}
use Rattle.import_rules.specs.Program.{Seen, IsReadFrom, IsKnown}
use Rattle.kept_clauses.specs.Plain.{plain}
use Rattle.plain_clauses.specs.PlainFacts.{plain_predicate, plain_facts}
use Rattle.plain_clauses.specs.PlainProgram.{plain_seen}
use Rattle.plain_clauses.proofs.PlainImports.{numbers_same}
use Rattle.clause_text.proofs.PlainOffsets.{plain_stands}
use Rattle.clause_text.proofs.PlainWeights.{plain_light}

-- what a plain tree keeps of its tree holds of the clauses of all plain predicates
clauses_keep : (P : Tree → Type 0) → ((tree : Tree) → P tree → P (plain tree)) → (predicates : List Predicate) → All (λ (p : Predicate). All P p.clauses) predicates
    → All (λ (p : Predicate). All P p.clauses) (map plain_predicate predicates)
clauses_keep P kept predicates all =
    All-map (λ (p : Predicate). All P p.clauses) plain_predicate predicates
    (λ k d lt.
    let own : Predicate = slice_index_or predicates k d in
    All-map P plain own.clauses (λ j tree below. kept (slice_index_or own.clauses j tree) (all k d lt j tree below)))

pub plain_placed : (text : List ℕ) (facts : Facts) → ArePlacedIn text facts → ArePlacedIn text (plain_facts facts)
plain_placed text facts placed = record {
  of_module = placed.of_module;
  of_exports = placed.of_exports;
  of_loads = placed.of_loads;
  of_items = placed.of_items;
  of_clauses = clauses_keep (HasOffsets text) (plain_stands text) facts.defined placed.of_clauses;
  of_metas = placed.of_metas;
  of_goals = placed.of_goals;
}

plain_read : (text : NamedText) (facts : Facts) → IsReadFrom text facts → IsReadFrom text (plain_facts facts)
plain_read text facts read = record {
  named = read.named;
  small = read.small;
  placed = plain_placed text.1 facts read.placed;
  light_clauses =
      clauses_keep (λ tree. weight tree ≤ MOST_BYTES) (λ tree (light : weight tree ≤ MOST_BYTES). omega (arith, plain_light tree, light)) facts.defined read.light_clauses;
  light_goals = read.light_goals;
  small_metas = read.small_metas;
}

all_read : (texts : List NamedText) (files : List Facts) → AllZip IsReadFrom texts files → AllZip IsReadFrom texts (map plain_facts files)
all_read [] [] read = tt
all_read [] (file ∷ files) read = absurd read
all_read (text ∷ texts) [] read = absurd read
all_read (text ∷ texts) (file ∷ files) read = (plain_read text file read.0, all_read texts files read.1)

pub plain_known : (seen : Seen) → IsKnown seen → IsKnown (plain_seen seen)
plain_known seen known = record {
  numbered = (numbers_same seen.loaded.files seen.predicates).1 known.numbered;
  few = known.few;
  few_files = omega (arith, known.few_files, length-map seen.loaded.files plain_facts);
  roots = known.roots;
  ordered = known.ordered;
  read = all_read seen.loaded.texts seen.loaded.files known.read;
}
