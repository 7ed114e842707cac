-- What directives say.
use Rattle.std.specs.Prelude.{ℕ, List, [], ◌∷◌, Option, Some, None, Result, Ok, Err, Bool, false, if◌then◌else◌, codes, is_some, map}
use Rattle.std.specs.Str.{bytes_eq}
use Rattle.prolog_terms.specs.Tree.{Tree, atom, compound, listed, tailed, paren, more as with_more, none}
use Rattle.prolog_terms.specs.Views.{start_of, trees_in, atom_name}
use Rattle.clause_text.specs.Items.{item_of}
use Rattle.clause_text.specs.declared.cause.Cause.TheVariants.{LateModule, BadIndicator, BadSpec, NotInProfile}
use Rattle.module_table.specs.declared.indicator.Indicator.{Indicator}
use Rattle.module_table.specs.declared.load.LoadKind.TheVariants.{UseSome, Ensure}
use Rattle.module_table.specs.declared.mark.Property.TheVariants.{Dynamic, Multifile}
use Rattle.module_table.specs.Metas.{takes_of}
use Rattle.module_table.specs.Said.{Said, nothing, only, goal, declares, refused, Refusal, in_turn, each_said, takes}
use Rattle.module_table.specs.Heads.{is_among}
use Rattle.module_table.specs.Indicators.{list_of, one_indicator, listed_indicators}
use Rattle.module_table.specs.Dynamic.{dynamic_said}
use Rattle.module_table.specs.Loading.{load_said, loads_said, use_all_said}

-- a file that says something: its name, and its module
pub record Home : Type 0 where
  pub file : List ℕ
  pub module_ : List ℕ

abbrev pub home : List ℕ → List ℕ → Home
home file owner = record { file = file; module_ = owner }

-- the indicators that are imported, with their load before a refusal of theirs
abbrev pub some_said : List ℕ → Tree → Result (List Indicator) Refusal → Said
some_said user file (Ok items) = load_said user UseSome items file
some_said user file (Err refusal) = in_turn (load_said user UseSome [] file) (Err refusal)

-- what `use_module/2` says
abbrev pub use_some_said : List ℕ → Tree → Tree → Said
use_some_said user file list = some_said user file (listed_indicators list)

-- an operator of an export list
abbrev pub is_operator : Tree → Bool
is_operator item = is_some (item_of item)

-- what an item of an export list exports: an operator nothing
abbrev pub item_exports : Tree → Result (List Indicator) Refusal
item_exports item = if is_operator item then Ok [] else one_indicator item

abbrev pub exports_of : Tree → Option (List Tree) → Result (List Indicator) Refusal
exports_of list (Some items) = each_said item_exports items
exports_of list None = refused BadIndicator list

-- the exports of a list
abbrev pub exports : Tree → Result (List Indicator) Refusal
exports list = exports_of list (list_of list)

abbrev pub declared_said : List ℕ → ℕ → Result (List Indicator) Refusal → Said
declared_said name from (Ok exports) = only (declares (record { name = name; from = from; exports = exports }))
declared_said name from (Err refusal) = Err refusal

abbrev pub module_name : Tree → Option (List ℕ)
module_name tree = elim (atom_name tree) [ Some name ↦ if bytes_eq name (codes "user") then None else Some name | None ↦ None ]

-- what `module/2` says where it is the first clause
abbrev pub module_said : Tree → Tree → ℕ → Said
module_said name list from = elim (module_name name) [ Some own ↦ declared_said own from (exports list) | None ↦ refused BadIndicator name ]

-- what `meta_predicate` says in a file of the module
abbrev pub meta_said : List ℕ → Tree → Said
meta_said owner tree = Ok (map takes (takes_of owner tree))

-- directives that say nothing here
abbrev pub silent_names : List (List ℕ)
silent_names = codes "discontiguous" ∷ codes "mode" ∷ codes "public" ∷ codes "table" ∷ []

-- directives of one argument that are outside the profile
abbrev pub outside_names : List (List ℕ)
outside_names = codes "if" ∷ codes "elif" ∷ codes "include" ∷ codes "reexport" ∷ []

abbrev pub one_said : Home → List ℕ → Tree → Tree → Said
one_said user name argument tree =
    if bytes_eq name (codes "use_module") then use_all_said user.file argument
    else if is_among (codes "ensure_loaded" ∷ codes "consult" ∷ []) name then load_said user.file Ensure [] argument
    else if bytes_eq name (codes "dynamic") then dynamic_said Dynamic user.module_ argument
    else if bytes_eq name (codes "multifile") then dynamic_said Multifile user.module_ argument
    else if bytes_eq name (codes "meta_predicate") then meta_said user.module_ argument
    else if is_among silent_names name then nothing
    else if is_among outside_names name then refused NotInProfile tree
    else only (goal tree)

abbrev pub two_said : Home → Bool → List ℕ → Tree → Tree → Tree → Said
two_said user first name left right tree =
    if bytes_eq name (codes "module") then (if first then module_said left right (start_of tree) else refused LateModule tree)
    else if bytes_eq name (codes "use_module") then use_some_said user.file left right
    else if bytes_eq name (codes "set_prolog_flag") then nothing
    else if bytes_eq name (codes "reexport") then refused NotInProfile tree
    else only (goal tree)

abbrev pub three_said : List ℕ → Tree → Said
three_said name tree =
    if bytes_eq name (codes "op") then nothing
    else if bytes_eq name (codes "use_module") then refused NotInProfile tree
    else only (goal tree)

-- what a directive says that is no comma and has no brackets round it
abbrev pub shallow_said : Home → Bool → Tree → Said
shallow_said user first (compound name (with_more argument none) form span) =
    one_said user name argument (compound name (with_more argument none) form span)
shallow_said user first (compound name (with_more left (with_more right none)) form span) =
    two_said user first name left right (compound name (with_more left (with_more right none)) form span)
shallow_said user first (compound name (with_more a (with_more b (with_more c none))) form span) =
    three_said name (compound name (with_more a (with_more b (with_more c none))) form span)
shallow_said user first (atom name span) =
    if is_among (codes "else" ∷ codes "endif" ∷ []) name then refused NotInProfile (atom name span) else only (goal (atom name span))
shallow_said user first (listed items span) = loads_said user.file Ensure (trees_in items)
shallow_said user first (tailed items tail span) = refused BadSpec (tailed items tail span)
shallow_said user first tree = only (goal tree)

-- what a directive says; first tells whether it is the whole of the first clause
abbrev pub directive_said : Home → Bool → Tree → Said
directive_said user first (compound name (with_more left (with_more right none)) form span) =
    if bytes_eq name (codes ",") then in_turn (directive_said user false left) (directive_said user false right)
    else shallow_said user first (compound name (with_more left (with_more right none)) form span)
directive_said user first (paren inner span) = directive_said user first inner
directive_said user first tree = shallow_said user first tree
