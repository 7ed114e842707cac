-- Facts of which there is one proof at most.
use Rattle.std.proofs.Common.{ℕ, List, [], ◌∷◌}
use Rattle.std.specs.List.{AllZip}
use Rattle.std.specs.Coded.{×_prop, Unit-prop}
use Rattle.std.proofs.Props.{props}
use Rattle.prolog_tokens.specs.Places.{IsOffset}
use Rattle.prolog_terms.specs.Tree.{Tree, Trees, variable, constant, atom, compound, listed, tailed, curly, paren, none, more}
use Rattle.clause_text.specs.Offsets.{HasOffsets, HaveOffsets}
use Rattle.module_table.specs.Facts.{Facts}
use Rattle.module_table.specs.Placed.{ArePlacedIn}
use Rattle.file_library.specs.Loaded.{NamedText}
use Rattle.import_rules.specs.ClauseEnds.{StandApart}
use Rattle.import_rules.specs.Program.{IsReadFrom}

offset_prop : (text : List ℕ) (at : ℕ) → IsProp (IsOffset text at)
offset_prop text at = hlevel props

mutual
  offsets_prop : (text : List ℕ) (tree : Tree) → IsProp (HasOffsets text tree)
  offsets_prop text (variable span) = offset_prop text span.from
  offsets_prop text (constant kind minus value span) = offset_prop text span.from
  offsets_prop text (atom name span) = offset_prop text span.from
  offsets_prop text (compound name args form span) = hlevel (props, offset_prop text span.from, all_offsets_prop text args)
  offsets_prop text (listed items span) = hlevel (props, offset_prop text span.from, all_offsets_prop text items)
  offsets_prop text (tailed items tail span) = hlevel (props, offset_prop text span.from, all_offsets_prop text items, offsets_prop text tail)
  offsets_prop text (curly inner span) = hlevel (props, offset_prop text span.from, offsets_prop text inner)
  offsets_prop text (paren inner span) = hlevel (props, offset_prop text span.from, offsets_prop text inner)

  all_offsets_prop : (text : List ℕ) (trees : Trees) → IsProp (HaveOffsets text trees)
  all_offsets_prop text none = Unit-prop
  all_offsets_prop text (more tree trees) = hlevel (props, offsets_prop text tree, all_offsets_prop text trees)

placed_prop : (text : List ℕ) (facts : Facts) → IsProp (ArePlacedIn text facts)
placed_prop text facts = hlevel (props, offset_prop, offsets_prop)

pub read_prop : (text : NamedText) (facts : Facts) → IsProp (IsReadFrom text facts)
read_prop text facts = hlevel (props, placed_prop)

pub apart_prop : (text : NamedText) (facts : Facts) → IsProp (StandApart text facts)
apart_prop text facts = hlevel (props, offset_prop)

pub zip_prop : {A B : Type 0} (R : A → B → Type 0) → ((x : A) (y : B) → IsProp (R x y)) → (xs : List A) (ys : List B) → IsProp (AllZip R xs ys)
zip_prop {A} {B} R one [] [] = Unit-prop
zip_prop {A} {B} R one [] (y ∷ ys) = λ a b. absurd a
zip_prop {A} {B} R one (x ∷ xs) [] = λ a b. absurd a
zip_prop {A} {B} R one (x ∷ xs) (y ∷ ys) = ×_prop (one x y) (zip_prop R one xs ys)
