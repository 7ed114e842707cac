-- A free name is none of the known names: it is no control construct, and the table has no row for it.
use Rattle.std.proofs.Common.{◌≡◌, ◌≢◌, ℕ, ◌<◌, ◌==◌, Bool, true, false, not, ◌&&◌, ◌||◌, List, [], ◌∷◌, Some, None, if◌then◌else◌, codes, refl, sym, ap, ◌∙◌, arith}
use Rattle.std.specs.Str.{bytes_eq}
use Rattle.std.proofs.lemmas.Bool.{false_from_ne_true}
use Rattle.std.proofs.lemmas.Slice.Eq.{bytes_eq-Decides}
use Rattle.std.proofs.Math.Bool.{and-false}
use Rattle.prolog_names.specs.Names.{name_at, known_names}
use Rattle.module_table.specs.Heads.{is_among}
use Rattle.module_table.specs.declared.goal_arg.GoalArg.{GoalArg}
use Rattle.module_table.specs.declared.goal_arg.GoalArg.TheVariants.{Plain, Goal, Caret, Grammar}
use Rattle.call_edges.specs.declared.role.Way.TheVariants.{Calling}
use Rattle.module_table.specs.Metas.{added}
use Rattle.call_edges.specs.declared.role.Role.{Role}
use Rattle.call_edges.specs.Goals.{call, adding_row, atom_met, calls_atom, one_row, two_row, three_row, four_row, row, is_control, is_negation, goal_way, way}

-- it is none of the known names, unless it is the empty one, which has a number of its own too
abbrev pub IsFree : List ℕ → Type 0
IsFree name = name ≢ [] → (k : ℕ) → k < 64 → name_at known_names k ≢ name

if_false : {X : Type 0} (test : Bool) (x y : X) → test ≡ false → (if test then x else y) ≡ y
if_false test x y is = ap (λ t. if t then x else y) is

if_same : {X : Type 0} (test : Bool) (x y z : X) → x ≡ z → y ≡ z → (if test then x else y) ≡ z
if_same true x y z first second = first
if_same false x y z first second = second

module _ (name : List ℕ) (free : IsFree name) where
  -- it is no known name of a byte or more
  apart : (k : ℕ) (word : List ℕ) → k < 64 → name_at known_names k ≡ word → word ≢ [] → word ≢ name
  apart k word below is some same = free (λ empty. some (same ∙ empty)) k below (is ∙ same)

  not_word : (k : ℕ) (word : List ℕ) → k < 64 → name_at known_names k ≡ word → word ≢ [] → bytes_eq word name ≡ false
  not_word k word below is some =
      false_from_ne_true (bytes_eq word name) (λ same. apart k word below is some ((bytes_eq-Decides word name).0 same))

  no_word : (k : ℕ) (word : List ℕ) → k < 64 → name_at known_names k ≡ word → word ≢ [] → bytes_eq name word ≡ false
  no_word k word below is some =
      false_from_ne_true (bytes_eq name word) (λ same. apart k word below is some (sym ((bytes_eq-Decides name word).0 same)))

  none_in : (word : List ℕ) (words : List (List ℕ)) → bytes_eq word name ≡ false → is_among words name ≡ false → is_among (word ∷ words) name ≡ false
  none_in word words first others = (λ i. first i || is_among words name) ∙ others

  -- the table

  adding_none : (arity : ℕ) → adding_row name arity ≡ None
  adding_none arity =
      if_false (is_among (codes "call" ∷ codes "maplist" ∷ []) name) _ _
      (none_in (codes "call") (codes "maplist" ∷ []) (not_word 52 (codes "call") (omega arith) refl (λ e. cc))
      (none_in (codes "maplist") [] (not_word 53 (codes "maplist") (omega arith) refl (λ e. cc)) refl))

  one_none : one_row name ≡ None
  one_none =
      if_false (is_among (codes "call" ∷ codes "once" ∷ codes "ignore" ∷ codes "not" ∷ codes "initialization" ∷ []) name) _ _
      (none_in (codes "call") (codes "once" ∷ codes "ignore" ∷ codes "not" ∷ codes "initialization" ∷ []) (not_word 52 (codes "call") (omega arith) refl (λ e. cc))
      (none_in (codes "once") (codes "ignore" ∷ codes "not" ∷ codes "initialization" ∷ []) (not_word 54 (codes "once") (omega arith) refl (λ e. cc))
      (none_in (codes "ignore") (codes "not" ∷ codes "initialization" ∷ []) (not_word 55 (codes "ignore") (omega arith) refl (λ e. cc))
      (none_in (codes "not") (codes "initialization" ∷ []) (not_word 56 (codes "not") (omega arith) refl (λ e. cc))
      (none_in (codes "initialization") [] (not_word 13 (codes "initialization") (omega arith) refl (λ e. cc)) refl)))))

  two_none : two_row name ≡ None
  two_none =
      if_false (bytes_eq name (codes "forall")) _ _ (no_word 57 (codes "forall") (omega arith) refl (λ e. cc))
      ∙ if_false (bytes_eq name (codes "initialization")) _ _ (no_word 13 (codes "initialization") (omega arith) refl (λ e. cc))
      ∙ if_false (bytes_eq name (codes "phrase")) _ _ (no_word 58 (codes "phrase") (omega arith) refl (λ e. cc)) ∙ adding_none 2

  three_none : three_row name ≡ None
  three_none =
      if_false (bytes_eq name (codes "findall")) _ _ (no_word 59 (codes "findall") (omega arith) refl (λ e. cc))
      ∙ if_false (is_among (codes "bagof" ∷ codes "setof" ∷ []) name) _ _
      (none_in (codes "bagof") (codes "setof" ∷ []) (not_word 60 (codes "bagof") (omega arith) refl (λ e. cc))
      (none_in (codes "setof") [] (not_word 61 (codes "setof") (omega arith) refl (λ e. cc)) refl))
      ∙ if_false (bytes_eq name (codes "catch")) _ _ (no_word 62 (codes "catch") (omega arith) refl (λ e. cc))
      ∙ if_false (bytes_eq name (codes "phrase")) _ _ (no_word 58 (codes "phrase") (omega arith) refl (λ e. cc)) ∙ adding_none 3

  four_none : four_row name ≡ None
  four_none = if_false (bytes_eq name (codes "findall")) _ _ (no_word 59 (codes "findall") (omega arith) refl (λ e. cc)) ∙ adding_none 4

  pub row_none : (arity : ℕ) → row name arity ≡ None
  row_none arity =
      if_same (arity == 0) None _ None refl
      (if_same (arity == 1) (one_row name) _ None one_none
      (if_same (arity == 2) (two_row name) _ None two_none
      (if_same (arity == 3) (three_row name) _ None three_none
      (if_same (arity == 4) (four_row name) (adding_row name arity) None four_none (adding_none arity)))))

  -- control constructs

  control_none : (count : ℕ) → is_control name count ≡ false
  control_none count =
      (λ i. count == 2
      && none_in (codes ",") (codes ";" ∷ codes "|" ∷ codes "->" ∷ []) (not_word 1 (codes ",") (omega arith) refl (λ e. cc))
      (none_in (codes ";") (codes "|" ∷ codes "->" ∷ []) (not_word 20 (codes ";") (omega arith) refl (λ e. cc))
      (none_in (codes "|") (codes "->" ∷ []) (not_word 2 (codes "|") (omega arith) refl (λ e. cc))
      (none_in (codes "->") [] (not_word 21 (codes "->") (omega arith) refl (λ e. cc)) refl))) i)
      ∙ and-false (count == 2)

  negation_none : (count : ℕ) → is_negation name count ≡ false
  negation_none count = (λ i. count == 1 && no_word 15 (codes "\\+") (omega arith) refl (λ e. cc) i) ∙ and-false (count == 1)

  goal_calls : (controls : Bool) (count : ℕ) → goal_way controls name count ≡ Calling
  goal_calls controls count =
      if_false (controls && is_control name count) _ _ ((λ i. controls && control_none count i) ∙ and-false controls)
      ∙ if_false (controls && is_negation name count) _ _ ((λ i. controls && negation_none count i) ∙ and-false controls)
      ∙ if_false (count == 2 && bytes_eq name (codes ":")) _ _
      ((λ i. count == 2 && no_word 50 (codes ":") (omega arith) refl (λ e. cc) i) ∙ and-false (count == 2))

  pub way_calls : (arg : GoalArg) (count : ℕ) → arg ≢ Plain → way arg name count ≡ Calling
  way_calls Plain count goal = absurd (goal refl)
  way_calls (Goal e) count goal = goal_calls (e == 0) count
  way_calls Caret count goal =
      if_false (count == 2 && bytes_eq name (codes "^")) _ _
      ((λ i. count == 2 && no_word 49 (codes "^") (omega arith) refl (λ e. cc) i) ∙ and-false (count == 2))
      ∙ goal_calls true count
  way_calls Grammar count goal = goal_calls true count

  -- an atom is called too

  atom_called : (arg : GoalArg) → arg ≢ Plain → calls_atom arg name ≡ true
  atom_called Plain goal = absurd (goal refl)
  atom_called (Goal e) goal = refl
  atom_called Caret goal = refl
  atom_called Grammar goal =
      ap not
      (none_in (codes "[]") (codes "{}" ∷ codes "!" ∷ []) (not_word 3 (codes "[]") (omega arith) refl (λ e. cc))
      (none_in (codes "{}") (codes "!" ∷ []) (not_word 4 (codes "{}") (omega arith) refl (λ e. cc))
      (none_in (codes "!") [] (not_word 63 (codes "!") (omega arith) refl (λ e. cc)) refl)))

  pub atom_calls : (at : ℕ) (owner : List ℕ) (role : Role) → role.arg ≢ Plain
      → atom_met at owner role name ≡ Some (call at owner name (added role.arg) (added role.arg) role.negated)
  atom_calls at owner role goal =
      ap (λ (b : Bool). if b then Some (call at owner name (added role.arg) (added role.arg) role.negated) else None) (atom_called role.arg goal)
