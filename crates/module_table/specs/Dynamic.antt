-- What `dynamic` and `multifile` declare, and so define: predicates of the module of the file, or of a module that is named.
use Rattle.std.specs.Prelude.{ℕ, List, Option, Some, None, Bool, true, false, ◌&&◌, if◌then◌else◌, codes}
use Rattle.std.specs.Str.{bytes_eq}
use Rattle.prolog_terms.specs.Tree.{Tree, Trees, atom, compound, listed, paren, more, none}
use Rattle.prolog_terms.specs.Views.{Binary, binary, sides_of, atom_name}
use Rattle.clause_text.specs.declared.cause.Cause.TheVariants.{BadIndicator}
use Rattle.module_table.specs.declared.dynamic.Standing.{Standing}
use Rattle.module_table.specs.declared.dynamic.Standing.TheVariants.{Whole, Joint, Item}
use Rattle.module_table.specs.declared.mark.Property.{Property}
use Rattle.module_table.specs.Heads.{Owned}
use Rattle.module_table.specs.Said.{Said, Part, nothing, only, marks, refused, in_turn}
use Rattle.module_table.specs.Indicators.{arity_of, arguments_added, list_of}

-- a name in a module
pub record NameIn : Type 0 where
  pub module_ : List ℕ
  pub name : List ℕ

abbrev pub both_named : Option (List ℕ) → Option (List ℕ) → Option NameIn
both_named (Some owner) (Some name) = Some (record { module_ = owner; name = name })
both_named owner name = None

abbrev pub name_by : List ℕ → Tree → Option (Tree × Tree) → Option NameIn
name_by owner tree (Some sides) = both_named (atom_name sides.0) (atom_name sides.1)
name_by owner tree None = both_named (Some owner) (atom_name tree)

-- `N`, a name in the module, or `M:N`
abbrev pub name_in : List ℕ → Tree → Option NameIn
name_in owner tree = name_by owner tree (sides_of (codes ":") tree)

abbrev pub owned_of : Option NameIn → Option ℕ → Option Owned
owned_of (Some own) (Some arity) = Some (record { module_ = own.module_; name = own.name; arity = arity })
owned_of own arity = None

abbrev pub owned_with : List ℕ → Option ℕ → Tree → Tree → Option Owned
owned_with owner (Some added) name arity = owned_of (name_in owner name) (arity_of arity added)
owned_with owner None name arity = None

abbrev pub owned_from : List ℕ → Option Binary → Option Owned
owned_from owner (Some pair) = owned_with owner (arguments_added pair.name) pair.left pair.right
owned_from owner None = None

-- `N/A`, `N//A`, `(M:N)/A` or `(M:N)//A`
abbrev pub owned : List ℕ → Tree → Option Owned
owned owner tree = owned_from owner (binary tree)

-- the predicate is declared to have the property
abbrev pub marked : Property → Owned → Part
marked property own = marks (record { property = property; module_ = own.module_; name = own.name; arity = own.arity })

abbrev pub bare_said : Property → List ℕ → Tree → Said
bare_said property owner tree = elim (owned owner tree) [ Some own ↦ only (marked property own) | None ↦ refused BadIndicator tree ]

-- all that a directive or a module declares may be a list
abbrev pub is_whole : Standing → Bool
is_whole Whole = true
is_whole Joint = false
is_whole Item = false

-- commas join all that is declared, and the parts of such a term, but not within one item of a list
abbrev pub is_joint : Standing → Bool
is_joint Whole = true
is_joint Joint = true
is_joint Item = false

-- the sides of a comma, and the items of a list, where these may stand there
abbrev pub joint_sides : Standing → Tree → Option (Tree × Tree)
joint_sides at tree = if is_joint at then sides_of (codes ",") tree else None

abbrev pub whole_items : Standing → Tree → Option (List Tree)
whole_items at tree = if is_whole at then list_of tree else None

-- what a term declares that stands so in a module: items that commas join, a list of items, `M:I` with an item or such a list, or an indicator
abbrev mutual
  pub dynamic_at : Property → Standing → List ℕ → Tree → Said
  dynamic_at property at owner (compound name (more left (more right none)) form span) =
      if is_joint at && bytes_eq name (codes ",") then in_turn (dynamic_at property Joint owner left) (dynamic_at property Joint owner right)
      else if bytes_eq name (codes ":") then
      elim (atom_name left) [
        | Some own ↦ dynamic_at property Whole own right
        | None ↦ refused BadIndicator (compound name (more left (more right none)) form span)
      ]
      else bare_said property owner (compound name (more left (more right none)) form span)
  dynamic_at property at owner (listed items span) = if is_whole at then each_dynamic property owner items else refused BadIndicator (listed items span)
  dynamic_at property at owner (atom name span) = if is_whole at && bytes_eq name (codes "[]") then nothing else refused BadIndicator (atom name span)
  dynamic_at property at owner (paren inner span) = dynamic_at property at owner inner
  dynamic_at property at owner tree = refused BadIndicator tree

  -- the items of a list, in order
  pub each_dynamic : Property → List ℕ → Trees → Said
  each_dynamic property owner none = nothing
  each_dynamic property owner (more tree trees) = in_turn (dynamic_at property Item owner tree) (each_dynamic property owner trees)

-- what the directive of the property says in a file of the module
abbrev pub dynamic_said : Property → List ℕ → Tree → Said
dynamic_said property owner tree = dynamic_at property Whole owner tree
