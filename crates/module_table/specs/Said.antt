-- What a file says, part by part, or why it is refused.
use Rattle.std.specs.Prelude.{ℕ, ◌≡◌, List, [], ◌∷◌, ◌++◌, Result, Ok, Err}
use Rattle.prolog_terms.specs.Tree.{Tree}
use Rattle.prolog_terms.specs.Views.{start_of}
use Rattle.clause_text.specs.declared.cause.Cause.{Cause}
use Rattle.module_table.specs.declared.indicator.Indicator.{Indicator}
use Rattle.module_table.specs.declared.load.LoadKind.{LoadKind}
use Rattle.module_table.specs.declared.said.FactFault.{FactFault}
use Rattle.module_table.specs.declared.said.FactFault.TheVariants.{At, NoMemory}
use Rattle.module_table.specs.declared.said.Part.{Part as PartKept}
use Rattle.module_table.specs.declared.said.Part.TheVariants as kept
use Rattle.module_table.specs.declared.said.Module.{Module}
use Rattle.module_table.specs.declared.load.Load.{Load}
use Rattle.module_table.specs.Defined.{Defines}
use Rattle.module_table.specs.Metas.{Declaration}
use Rattle.module_table.specs.Marks.{Marked}

-- the module of a file, and what it exports
pub record Declares : Type 0 where
  pub name : List ℕ
  pub from : ℕ
  pub exports : List Indicator

-- a file to load
pub record Loads : Type 0 where
  pub file : List ℕ
  pub kind : LoadKind
  pub items : List Indicator
  pub from : ℕ

-- one thing that a file says
pub data Part : Type 0 where
  declares : Declares → Part
  loads : Loads → Part
  defines : Defines → Part
  takes : Declaration → Part
  marks : Marked → Part
  goal : Tree → Part

-- why a file is refused, and where
pub record Refusal : Type 0 where
  pub cause : Cause
  pub offset : ℕ

-- the parts in order, or the first refusal
abbrev pub Said : Type 0
Said = Result (List Part) Refusal

abbrev pub nothing : Said
nothing = Ok []

abbrev pub only : Part → Said
only part = Ok (part ∷ [])

abbrev pub refused : {A : Type 0} → Cause → Tree → Result A Refusal
refused cause tree = Err (record { cause = cause; offset = start_of tree })

-- these, and what is said behind them
abbrev pub more : {A : Type 0} → List A → Result (List A) Refusal → Result (List A) Refusal
more xs (Ok ys) = Ok (xs ++ ys)
more xs (Err refusal) = Err refusal

-- what is said first, and then the other
abbrev pub in_turn : {A : Type 0} → Result (List A) Refusal → Result (List A) Refusal → Result (List A) Refusal
in_turn (Ok xs) said = more xs said
in_turn (Err refusal) said = Err refusal

-- what each of the trees says, in order
abbrev pub each_said : {A : Type 0} → (Tree → Result (List A) Refusal) → List Tree → Result (List A) Refusal
each_said says [] = Ok []
each_said says (tree ∷ trees) = in_turn (says tree) (each_said says trees)

-- the fault is the refusal; want of memory is none
abbrev pub IsWhy : {A : Type 0} → Result A Refusal → FactFault → Type 0
IsWhy said (At cause offset) = said ≡ Err (record { cause = cause; offset = offset })
IsWhy said NoMemory = Unit {0}

-- the parts that are kept, as what is said

abbrev pub see_module : Module → Declares
see_module m = record { name = m.name; from = m.from; exports = m.exports.items }

abbrev pub see_load : Load → Loads
see_load l = record { file = l.file; kind = l.kind; items = l.items.items; from = l.from }

abbrev pub see_part : PartKept → Part
see_part (kept.Module own) = declares (see_module own)
see_part (kept.Load own) = loads (see_load own)
