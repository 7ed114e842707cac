-- Predicate indicators, and lists of them.
use Rattle.std.specs.Prelude.{ℕ, ◌+◌, List, [], ◌∷◌, Option, Some, None, Result, Ok, false, nat_le, if◌then◌else◌, codes}
use Rattle.std.specs.Str.{bytes_eq}
use Rattle.prolog_terms.specs.declared.term.ConstKind.TheVariants.{Integer}
use Rattle.prolog_terms.specs.Tree.{Tree, constant}
use Rattle.prolog_terms.specs.Views.{inside, start_of, Binary, binary, atom_name}
use Rattle.clause_text.specs.Lists.{written_items}
use Rattle.clause_text.specs.declared.cause.Cause.TheVariants.{BadIndicator}
use Rattle.module_table.specs.declared.indicator.Indicator.{Indicator}
use Rattle.module_table.specs.Said.{Refusal, refused, each_said}

-- the value of an integer without minus, and so many more, where that is an arity
abbrev pub arity_at : Tree → ℕ → Option ℕ
arity_at (constant Integer false (Some n) span) added = if nat_le (n + added) 4294967295 then Some (n + added) else None
arity_at tree added = None

abbrev pub arity_of : Tree → ℕ → Option ℕ
arity_of tree added = arity_at (inside tree) added

-- an indicator with `//` is that of a grammar rule, whose predicate has two arguments more
abbrev pub arguments_added : List ℕ → Option ℕ
arguments_added name = if bytes_eq name (codes "/") then Some 0 else if bytes_eq name (codes "//") then Some 2 else None

abbrev pub indicator_of : Option (List ℕ) → Option ℕ → ℕ → Option Indicator
indicator_of (Some name) (Some arity) from = Some (record { name = name; arity = arity; from = from })
indicator_of name arity from = None

abbrev pub indicator_with : Option ℕ → Tree → Tree → ℕ → Option Indicator
indicator_with (Some added) name arity from = indicator_of (atom_name name) (arity_of arity added) from
indicator_with None name arity from = None

abbrev pub indicator_from : Option Binary → ℕ → Option Indicator
indicator_from (Some pair) from = indicator_with (arguments_added pair.name) pair.left pair.right from
indicator_from None from = None

-- `N/A` or `N//A`
abbrev pub indicator : Tree → Option Indicator
indicator tree = indicator_from (binary tree) (start_of tree)

abbrev pub one_indicator : Tree → Result (List Indicator) Refusal
one_indicator tree = elim (indicator tree) [ Some i ↦ Ok (i ∷ []) | None ↦ refused BadIndicator tree ]

-- the indicators that the terms are, or the first that is none
abbrev pub indicators : List Tree → Result (List Indicator) Refusal
indicators trees = each_said one_indicator trees

-- the items of a list without a tail
abbrev pub list_of : Tree → Option (List Tree)
list_of tree = elim (atom_name tree) [ Some name ↦ if bytes_eq name (codes "[]") then Some [] else None | None ↦ written_items tree ]

-- the indicators of what must be a list
abbrev pub listed_indicators : Tree → Result (List Indicator) Refusal
listed_indicators tree = elim (list_of tree) [ Some items ↦ indicators items | None ↦ refused BadIndicator tree ]
