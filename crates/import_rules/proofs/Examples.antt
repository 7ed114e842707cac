-- What small sets of files mean, by the definitions.
use Rattle.std.proofs.Common.{◌≡◌, ℕ, List, [], ◌∷◌, Some, None, true, false, codes, flat_map, refl, map}
use Rattle.module_table.specs.declared.indicator.Indicator.{Indicator}
use Rattle.module_table.specs.declared.load.LoadKind.{LoadKind}
use Rattle.module_table.specs.declared.load.LoadKind.TheVariants.{UseAll, UseSome, Ensure}
use Rattle.module_table.specs.Defined.{Predicate}
use Rattle.module_table.specs.Facts.{Facts}
use Rattle.module_table.specs.Said.{Loads}
use Rattle.module_table.specs.declared.goal_arg.GoalArg.{GoalArg}
use Rattle.module_table.specs.declared.goal_arg.GoalArg.TheVariants.{Plain, Goal, Caret}
use Rattle.module_table.specs.Metas.{Declaration}
use Rattle.clause_text.specs.declared.cause.Cause.TheVariants.{TwoModules, NoFile, NotModule, NotExported, NotDefined, TwoImports}
use Rattle.import_rules.specs.declared.names.PredName.{PredName}
use Rattle.import_rules.specs.Items.{items, foreign_items}
use Rattle.import_rules.specs.Clashes.{Imports, clash}
use Rattle.import_rules.specs.Flaws.{Flaw, file_flaws, clash_flaw}
use Rattle.import_rules.specs.Find.{found_in}
use Rattle.import_rules.specs.Numbers.{parts_in, places_for}
use Rattle.import_rules.specs.Metas.{args_for}

abbrev indicator : List ℕ → ℕ → ℕ → Indicator
indicator name arity from = record { name = name; arity = arity; from = from }

-- a predicate without clauses, which gets its module from its file
abbrev bare : List ℕ → ℕ → Predicate
bare name arity = record { module_ = []; name = name; arity = arity; clauses = [] }

abbrev of_module : List ℕ → List Predicate → List Predicate
of_module owner defined = map (λ (p : Predicate). record p { module_ = owner }) defined

abbrev pred : List ℕ → List ℕ → ℕ → PredName
pred owner name arity = record { «module» = owner; name = name; arity = arity }

abbrev load : List ℕ → LoadKind → List Indicator → ℕ → Loads
load file kind taken from = record { file = file; kind = kind; items = taken; from = from }

-- a file of that name and module, with its exports, loads and predicates
abbrev file_of : List ℕ → List ℕ → List Indicator → List Loads → List Predicate → Facts
file_of name owner exports loads defined = record {
  file = name;
  module_ = owner;
  is_module = true;
  module_from = 3;
  exports = exports;
  loads = loads;
  defined = of_module owner defined;
  metas = [];
  marks = [];
  goals = [];
}

abbrev of_user : List ℕ → List Loads → List Predicate → Facts
of_user name loads defined = record {
  file = name;
  module_ = codes "user";
  is_module = false;
  module_from = 0;
  exports = [];
  loads = loads;
  defined = of_module (codes "user") defined;
  metas = [];
  marks = [];
  goals = [];
}

abbrev x : Predicate
x = bare (codes "x") 0

-- `:- module(a, [x/0]).` and `x.`
abbrev a : Facts
a = file_of (codes "a.pl") (codes "a") (indicator (codes "x") 0 14 ∷ []) [] (x ∷ [])

-- `:- module(b, [x/0, y/1]).` and `x.`
abbrev b : Facts
b = file_of (codes "b.pl") (codes "b") (indicator (codes "x") 0 14 ∷ indicator (codes "y") 1 19 ∷ []) [] (x ∷ [])

-- `:- module(m, []).`, `:- use_module(a).`, `:- use_module(b).` and what it defines
abbrev m : List Predicate → Facts
m defined = file_of (codes "m.pl") (codes "m") [] (load (codes "a.pl") UseAll [] 33 ∷ load (codes "b.pl") UseAll [] 51 ∷ []) defined

abbrev flaws_in : List Facts → List Flaw
flaws_in files = flat_map (file_flaws files (codes "gone.pl" ∷ [])) files

-- m gets x/0 from a and from b, which is told at the second; b exports what it doesn't define

abbrev clashing : List Facts
clashing = a ∷ b ∷ m [] ∷ []

abbrev from_b : Imports
from_b = record { into = pred (codes "m") (codes "x") 0; from_module = codes "b"; file = codes "m.pl"; offset = 51 }

second_is_told : clash (foreign_items clashing) (pred (codes "m") (codes "x") 0) ≡ Some from_b
second_is_told = refl

flaw_of_clash : clash_flaw from_b ≡ record { file = codes "m.pl"; offset = 51; cause = TwoImports }
flaw_of_clash = refl

one_module_is_no_clash : clash (foreign_items clashing) (pred (codes "m") (codes "y") 1) ≡ None
one_module_is_no_clash = refl

not_defined : flaws_in clashing ≡ record { file = codes "b.pl"; offset = 19; cause = NotDefined } ∷ []
not_defined = refl

-- where m defines x/0 itself there is no clash, and the name means its own predicate

abbrev winning : List Facts
winning = a ∷ b ∷ m (x ∷ []) ∷ []

abbrev in_order : List PredName
in_order = pred (codes "a") (codes "x") 0 ∷ pred (codes "b") (codes "x") 0 ∷ pred (codes "m") (codes "x") 0 ∷ []

no_clash : clash (foreign_items winning) (pred (codes "m") (codes "x") 0) ≡ None
no_clash = refl

own_is_found : found_in winning in_order (pred (codes "m") (codes "x") 0) ≡ Some 2
own_is_found = refl

-- one import is found under the name of the module that imports it

abbrev importing : List Facts
importing = a ∷ of_user (codes "f.pl") (load (codes "a.pl") Ensure [] 17 ∷ []) (bare (codes "p") 2 ∷ x ∷ []) ∷ m [] ∷ []

import_is_found : found_in importing (pred (codes "a") (codes "x") 0 ∷ []) (pred (codes "m") (codes "x") 0) ≡ Some 0
import_is_found = refl

other_arity_is_none : found_in importing (pred (codes "a") (codes "x") 0 ∷ []) (pred (codes "m") (codes "x") 1) ≡ None
other_arity_is_none = refl

-- predicates stand at the places of their files and of their parts

second_of_user : places_for (parts_in importing) (pred (codes "user") (codes "x") 0) ≡ (1, 1) ∷ []
second_of_user = refl

of_two_files : places_for (parts_in (of_user (codes "f.pl") [] (x ∷ []) ∷ of_user (codes "g.pl") [] (bare (codes "p") 2 ∷ x ∷ []) ∷ []))
    (pred (codes "user") (codes "x") 0) ≡ (0, 0) ∷ (1, 1) ∷ []
of_two_files = refl

-- an absent file, an indicator that isn't exported, a file that declares no module

missing : flaws_in (of_user (codes "f.pl") (load (codes "gone.pl") Ensure [] 17 ∷ []) [] ∷ [])
    ≡ record { file = codes "f.pl"; offset = 17; cause = NoFile } ∷ []
missing = refl

not_exported : flaws_in (a ∷ of_user (codes "f.pl") (load (codes "a.pl") UseSome (indicator (codes "z") 9 19 ∷ []) 15 ∷ []) [] ∷ [])
    ≡ record { file = codes "f.pl"; offset = 19; cause = NotExported } ∷ []
not_exported = refl

not_module : flaws_in (of_user (codes "f.pl") [] [] ∷ of_user (codes "g.pl") (load (codes "f.pl") UseAll [] 15 ∷ []) [] ∷ [])
    ≡ record { file = codes "g.pl"; offset = 15; cause = NotModule } ∷ []
not_module = refl

-- of two files of one module the one of greater name is told, and gives no items

abbrev twice : List Facts
twice =
    a ∷ file_of (codes "c.pl") (codes "a") (indicator (codes "x") 0 14 ∷ []) [] [] ∷ of_user (codes "f.pl") (load (codes "c.pl") UseAll [] 15 ∷ []) [] ∷ []

second_module : flaws_in twice ≡ record { file = codes "c.pl"; offset = 3; cause = TwoModules } ∷ []
second_module = refl

nothing_from_the_second : items twice ≡ []
nothing_from_the_second = refl

-- a file that imports from itself gets nothing, but what it names has to be exported

abbrev itself : List Facts
itself = file_of (codes "a.pl") (codes "a") (indicator (codes "x") 0 14 ∷ []) (load (codes "a.pl") UseSome (indicator (codes "x") 0 40 ∷ indicator (codes "z") 0 45 ∷ []) 36 ∷ []) (x ∷ []) ∷ []

nothing_from_itself : items itself ≡ []
nothing_from_itself = refl

not_exported_by_itself : flaws_in itself ≡ record { file = codes "a.pl"; offset = 45; cause = NotExported } ∷ []
not_exported_by_itself = refl

-- an export that only another file of the module defines is defined, and is imported from the first file

abbrev shared : List Facts
shared =
    file_of (codes "a.pl") (codes "a") (indicator (codes "y") 0 14 ∷ []) [] [] ∷ file_of (codes "c.pl") (codes "a") [] [] (bare (codes "y") 0 ∷ []) ∷ of_user (codes "f.pl") (load (codes "a.pl") UseAll [] 15 ∷ []) [] ∷ []

defined_by_the_second : flaws_in shared ≡ record { file = codes "c.pl"; offset = 3; cause = TwoModules } ∷ []
defined_by_the_second = refl

imported_from_the_first : items shared ≡ record { into = pred (codes "user") (codes "y") 0; from_module = codes "a"; file = codes "f.pl"; offset = 15 } ∷ []
imported_from_the_first = refl

-- what isn't exported is told beside a file that isn't there

beside : flaws_in (a ∷ of_user (codes "f.pl") (load (codes "a.pl") UseSome (indicator (codes "z") 9 19 ∷ []) 15 ∷ load (codes "gone.pl") UseAll [] 50 ∷ []) [] ∷ [])
    ≡ record { file = codes "f.pl"; offset = 19; cause = NotExported } ∷ record { file = codes "f.pl"; offset = 50; cause = NoFile } ∷ []
beside = refl

-- an arity that differs is another predicate: neither exported nor a clash

abbrev by_arity : List Facts
by_arity =
    a ∷ file_of (codes "b.pl") (codes "b") (indicator (codes "x") 1 14 ∷ []) [] (bare (codes "x") 1 ∷ []) ∷ m [] ∷ []

no_clash_of_arities : clash (foreign_items by_arity) (pred (codes "m") (codes "x") 0) ≡ None
no_clash_of_arities = refl

-- a file may define for another module, which no file need declare

abbrev elsewhere : List Facts
elsewhere = record (m []) { defined = of_module (codes "hooks") (x ∷ []) } ∷ record (of_user (codes "n.pl") [] []) { defined = of_module (codes "hooks") (bare (codes "a") 0 ∷ x ∷ []) } ∷ []

of_other_files : places_for (parts_in elsewhere) (pred (codes "hooks") (codes "x") 0) ≡ (0, 0) ∷ (1, 1) ∷ []
of_other_files = refl

not_of_their_module : places_for (parts_in elsewhere) (pred (codes "m") (codes "x") 0) ≡ []
not_of_their_module = refl

-- the first declaration for a predicate counts, in order of file and place: one of another arity or another module is for another predicate

abbrev declaration : List ℕ → List ℕ → List GoalArg → Declaration
declaration owner name args = record { module_ = owner; name = name; args = args; from = 0 }

abbrev declaring : List ℕ → List Declaration → Facts
declaring name metas = record (of_user name [] []) { metas = metas }

abbrev declared : List Facts
declared =
    declaring (codes "a.pl") (declaration (codes "m") (codes "t") (Goal 1 ∷ []) ∷ declaration (codes "user") (codes "t") (Goal 2 ∷ Plain ∷ []) ∷ [])
    ∷ declaring (codes "b.pl") (declaration (codes "user") (codes "t") (Goal 3 ∷ []) ∷ declaration (codes "user") (codes "t") (Caret ∷ []) ∷ []) ∷ []

first_declared : args_for declared (pred (codes "user") (codes "t") 1) ≡ Goal 3 ∷ []
first_declared = refl

declared_for_a_module : args_for declared (pred (codes "m") (codes "t") 1) ≡ Goal 1 ∷ []
declared_for_a_module = refl

other_arity_is_declared : args_for declared (pred (codes "user") (codes "t") 2) ≡ Goal 2 ∷ Plain ∷ []
other_arity_is_declared = refl

none_declared : args_for declared (pred (codes "user") (codes "t") 3) ≡ []
none_declared = refl
