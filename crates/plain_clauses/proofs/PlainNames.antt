-- What names mean in a program is the same with plain trees: it hangs on no clause.
use Rattle.std.proofs.Common.{◌≡◌, ℕ, ◌+◌, Bool, true, false, ◌&&◌, not, List, [], ◌∷◌, ◌++◌, Option, Some, None, cond, map, flat_map, filter, option_map, slice_get, refl, ap, ◌∙◌, if◌then◌else◌}
use Rattle.std.specs.List.{list_all, enumerate_from}
use Rattle.std.specs.Str.{bytes_eq}
use Rattle.module_table.specs.declared.load.LoadKind.{LoadKind}
use Rattle.module_table.specs.declared.load.LoadKind.TheVariants.{UseAll, UseSome, Ensure}
use Rattle.module_table.specs.Defined.{Predicate}
use Rattle.module_table.specs.Facts.{Facts}
use Rattle.module_table.specs.Kinds.{first_of}
use Rattle.module_table.specs.Said.{Loads}
use Rattle.import_rules.specs.declared.names.PredName.{PredName}
use Rattle.import_rules.specs.Clashes.{Imports, items_for}
use Rattle.import_rules.specs.Files.{name_in, defined_in, all_defined, file_named, is_before, is_first}
use Rattle.import_rules.specs.Find.{first_source, or_found, number_of, source}
use Rattle.import_rules.specs.Items.{taken, given, items_of_load, items}
use Rattle.import_rules.specs.Names.{pred_name}
use Rattle.import_rules.specs.Metas.{metas_of_file, metas_in, args_of, first_for}
use Rattle.import_rules.specs.Numbers.{DefinedAt, parts_of_file, parts_in, places_for}
use Rattle.import_rules.specs.Program.{Seen, places_at, places_in, found, args_at, meta_in, meta_of_found, meta_meant}
use Rattle.plain_clauses.specs.PlainFacts.{plain_predicate, plain_facts}
use Rattle.plain_clauses.specs.PlainProgram.{plain_seen}

abbrev pub all_plain : List Facts → List Facts
all_plain files = map plain_facts files

-- lists of what is said of each file, which is the same of its plain facts

pub flat_same : {X : Type 0} (f g : Facts → List X) → ((file : Facts) → f (plain_facts file) ≡ g file) → (files : List Facts) → flat_map f (all_plain files) ≡ flat_map g files
flat_same f g same [] = refl
flat_same f g same (file ∷ files) = λ i. same file i ++ flat_same f g same files i

numbered_same : {X : Type 0} (f : ℕ × Facts → List X) → ((n : ℕ) (file : Facts) → f (n, plain_facts file) ≡ f (n, file)) → (n : ℕ) (files : List Facts)
    → flat_map f (enumerate_from n (all_plain files)) ≡ flat_map f (enumerate_from n files)
numbered_same f same n [] = refl
numbered_same f same n (file ∷ files) = λ i. same n file i ++ numbered_same f same (n + 1) files i

all_same : (f g : Facts → Bool) → ((file : Facts) → f (plain_facts file) ≡ g file) → (files : List Facts) → list_all f (all_plain files) ≡ list_all g files
all_same f g same [] = refl
all_same f g same (file ∷ files) = λ i. same file i && all_same f g same files i

-- the first file of which a test holds
first_same : (test : Facts → Bool) → ((file : Facts) → test (plain_facts file) ≡ test file) → (files : List Facts)
    → first_of (filter test (all_plain files)) ≡ option_map plain_facts (first_of (filter test files))
first_same test same [] = refl
first_same test same (file ∷ files) =
    ap (λ b. first_of (cond b (plain_facts file ∷ filter test (all_plain files)) (filter test (all_plain files)))) (same file)
    ∙ by_test (test file) (first_same test same files)
  where
    by_test : (b : Bool) → first_of (filter test (all_plain files)) ≡ option_map plain_facts (first_of (filter test files))
        → first_of (cond b (plain_facts file ∷ filter test (all_plain files)) (filter test (all_plain files)))
        ≡ option_map plain_facts (first_of (cond b (file ∷ filter test files) (filter test files)))
    by_test true later = refl
    by_test false later = later

-- what files define

names_same : (predicates : List Predicate) → map name_in (map plain_predicate predicates) ≡ map name_in predicates
names_same [] = refl
names_same (p ∷ predicates) = ap (λ names. name_in p ∷ names) (names_same predicates)

pub defined_same : (files : List Facts) → all_defined (all_plain files) ≡ all_defined files
defined_same files = flat_same defined_in defined_in (λ file. names_same file.defined) files

abbrev defined_at : ℕ → ℕ × Predicate → DefinedAt
defined_at place part = record { name = name_in part.1; at = (place, part.0) }

parts_same : (place n : ℕ) (predicates : List Predicate)
    → map (defined_at place) (enumerate_from n (map plain_predicate predicates)) ≡ map (defined_at place) (enumerate_from n predicates)
parts_same place n [] = refl
parts_same place n (p ∷ predicates) = ap (λ parts. defined_at place (n, p) ∷ parts) (parts_same place (n + 1) predicates)

all_parts_same : (files : List Facts) → parts_in (all_plain files) ≡ parts_in files
all_parts_same files = numbered_same (λ (at : ℕ × Facts). parts_of_file at.0 at.1) (λ n file. parts_same n 0 file.defined) 0 files

metas_same : (files : List Facts) → metas_in (all_plain files) ≡ metas_in files
metas_same files = numbered_same (λ (at : ℕ × Facts). metas_of_file at.0 at.1) (λ n file. refl) 0 files

-- what modules import

pub named_same : (files : List Facts) (name : List ℕ) → file_named (all_plain files) name ≡ option_map plain_facts (file_named files name)
named_same files name = first_same (λ (f : Facts). bytes_eq name f.file) (λ file. refl) files

pub first_file_same : (files : List Facts) (file : Facts) → is_first (all_plain files) (plain_facts file) ≡ is_first files file
first_file_same files file = all_same (λ other. not (is_before (plain_facts file) other)) (λ other. not (is_before file other)) (λ other. refl) files

taken_same : (user file : Facts) (load : Loads) (kind : LoadKind) → taken (plain_facts user) (plain_facts file) load kind ≡ taken user file load kind
taken_same user file load UseAll = refl
taken_same user file load UseSome = refl
taken_same user file load Ensure = refl

given_same : (files : List Facts) (user : Facts) (load : Loads) (file : Facts)
    → given (all_plain files) (plain_facts user) load (plain_facts file) ≡ given files user load file
given_same files user load file =
    λ i. if file.is_module && (first_file_same files file i && not (bytes_eq file.module_ user.module_)) then taken_same user file load load.kind i else []

abbrev given_by : List Facts → Facts → Loads → Option Facts → List Imports
given_by files user load o = elim o [ Some file ↦ given files user load file | None ↦ [] ]

by_file : (files : List Facts) (user : Facts) (load : Loads) (o : Option Facts)
    → given_by (all_plain files) (plain_facts user) load (option_map plain_facts o) ≡ given_by files user load o
by_file files user load (Some file) = given_same files user load file
by_file files user load None = refl

load_same : (files : List Facts) (user : Facts) (load : Loads) → items_of_load (all_plain files) (plain_facts user) load ≡ items_of_load files user load
load_same files user load =
    ap (given_by (all_plain files) (plain_facts user) load) (named_same files load.file) ∙ by_file files user load (file_named files load.file)

loads_same : (files : List Facts) (user : Facts) (loads : List Loads)
    → flat_map (items_of_load (all_plain files) (plain_facts user)) loads ≡ flat_map (items_of_load files user) loads
loads_same files user [] = refl
loads_same files user (load ∷ loads) = λ i. load_same files user load i ++ loads_same files user loads i

pub items_same : (files : List Facts) → items (all_plain files) ≡ items files
items_same files =
    flat_same (λ (user : Facts). flat_map (items_of_load (all_plain files) user) user.loads) (λ (user : Facts). flat_map (items_of_load files user) user.loads)
    (λ user. loads_same files user user.loads) files

-- what names mean

source_same : (files : List Facts) (p : PredName) → first_source (all_plain files) p ≡ first_source files p
source_same files p = ap (λ all. option_map source (first_of (items_for p all))) (items_same files)

args_same : (files : List Facts) (o : Option PredName) → args_at (all_plain files) o ≡ args_at files o
args_same files (Some p) = ap (λ metas. args_of (first_for metas p)) (metas_same files)
args_same files None = refl

place_list_same : (files : List Facts) (o : Option PredName) → places_at (all_plain files) o ≡ places_at files o
place_list_same files (Some p) = ap (λ parts. places_for parts p) (all_parts_same files)
place_list_same files None = refl

module _ (seen : Seen) where
  pub found_same : (owner name : List ℕ) (arity : ℕ) → found (plain_seen seen) owner name arity ≡ found seen owner name arity
  unfolding found
  found_same owner name arity =
      let p = pred_name owner name arity in ap (or_found seen.predicates (number_of seen.predicates p)) (source_same seen.loaded.files p)

  pub places_same : (node : ℕ) → places_in (plain_seen seen) node ≡ places_in seen node
  unfolding places_in
  places_same node = place_list_same seen.loaded.files (slice_get seen.predicates node)

  node_meta_same : (o : Option ℕ) → meta_of_found (plain_seen seen) o ≡ meta_of_found seen o
  unfolding meta_in
  node_meta_same (Some node) = args_same seen.loaded.files (slice_get seen.predicates node)
  node_meta_same None = refl

  pub meta_same : (owner name : List ℕ) (arity : ℕ) → meta_meant (plain_seen seen) owner name arity ≡ meta_meant seen owner name arity
  meta_same owner name arity = ap (meta_of_found (plain_seen seen)) (found_same owner name arity) ∙ node_meta_same (found seen owner name arity)
