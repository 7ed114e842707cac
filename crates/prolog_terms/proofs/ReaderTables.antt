-- What the reader uses of a table of operators.
use Rattle.std.proofs.Common.{ℕ, ◌≡◌, ◌≤◌, ◌<◌, Bool, true, false, cond, ◌||◌, List, Option, Some, None, is_some, codes, arith, refl, ap, sym, subst, ◌∙◌, lit<}
use Rattle.std.specs.Option.{option_map}
use Rattle.std.specs.Str.{bytes_eq}
use Rattle.prolog_tokens.specs.declared.token.Kind.{Kind}
use Rattle.prolog_tokens.specs.declared.token.Kind.TheVariants.{Name, Quoted, Variable, Integer, Float, Str, BackStr, OpenRound, CloseRound, OpenSquare, CloseSquare, OpenCurly, CloseCurly, Comma, Bar, End}
use Rattle.prolog_ops.specs.declared.op.Op.{Op}
use Rattle.prolog_ops.specs.declared.op.OpKind.{OpKind}
use Rattle.prolog_ops.specs.declared.op.OpKind.TheVariants.{Xfx, Xfy, Yfx, Fy, Fx, Xf, Yf}
use Rattle.prolog_ops.specs.Table.{Ops, Prefix, Infix, Postfix, IsOps}
use Rattle.prolog_terms.specs.ReaderSeen.{comma_sides, bar_sides}
use Rattle.prolog_terms.specs.Words.{Word, Table, sides, sides_of, left_side, right_side, kind_operator, table_of, is_name}

-- a name, a comma or a bar
abbrev pub can_be_infix : Kind → Bool
can_be_infix Name = true
can_be_infix Quoted = true
can_be_infix Comma = true
can_be_infix Bar = true
can_be_infix _ = false

pub record IsTable (T : Table) : Type 0 where
  pub prefix_name : (w : Word) → is_some (T.prefix w) ≡ true → is_name w.kind ≡ true
  pub infix_kind : (w : Word) → is_some (T.infix_ w) ≡ true → can_be_infix w.kind ≡ true
  pub postfix_name : (w : Word) → is_some (T.postfix w) ≡ true → is_name w.kind ≡ true
  pub one_place : (w : Word) → is_some (T.postfix w) ≡ true → is_some (T.infix_ w) ≡ false
  pub comma : (w : Word) → w.kind ≡ Comma → 999 < (sides_of (T.infix_ w)).priority
  pub bar : (w : Word) → w.kind ≡ Bar → 999 < (sides_of (T.infix_ w)).priority
  pub prefix_right : (w : Word) → (sides_of (T.prefix w)).right ≤ (sides_of (T.prefix w)).priority
  pub infix_right : (w : Word) → (sides_of (T.infix_ w)).right ≤ (sides_of (T.infix_ w)).priority
  pub infix_left : (w : Word) → (sides_of (T.infix_ w)).left ≤ (sides_of (T.infix_ w)).priority
  pub postfix_left : (w : Word) → (sides_of (T.postfix w)).left ≤ (sides_of (T.postfix w)).priority

right_within : (k : OpKind) (p : ℕ) → right_side k p ≤ p
right_within Xfx p = omega arith
right_within Xfy p = omega arith
right_within Yfx p = omega arith
right_within Fy p = omega arith
right_within Fx p = omega arith
right_within Xf p = omega arith
right_within Yf p = omega arith

left_within : (k : OpKind) (p : ℕ) → left_side k p ≤ p
left_within Xfx p = omega arith
left_within Xfy p = omega arith
left_within Yfx p = omega arith
left_within Fy p = omega arith
left_within Fx p = omega arith
left_within Xf p = omega arith
left_within Yf p = omega arith

rights : (o : Option Op) → (sides_of (option_map sides o)).right ≤ (sides_of (option_map sides o)).priority
rights None = omega arith
rights (Some op) = right_within op.kind op.priority

lefts : (o : Option Op) → (sides_of (option_map sides o)).left ≤ (sides_of (option_map sides o)).priority
lefts None = omega arith
lefts (Some op) = left_within op.kind op.priority

some_sides : (o : Option Op) → is_some (option_map sides o) ≡ is_some o
some_sides None = refl
some_sides (Some op) = refl

-- only a name is an operator where the comma and the bar are none
name_at : (ops : List ℕ → Option Op) → ops (codes ",") ≡ None → ops (codes "|") ≡ None → (k : Kind) (text : List ℕ) → is_some (kind_operator ops k text) ≡ true → is_name k ≡ true
name_at ops comma bar Name text h = refl
name_at ops comma bar Quoted text h = refl
name_at ops comma bar Comma text h = let both : true ≡ false = sym h ∙ ap is_some comma in cc
name_at ops comma bar Bar text h = let both : true ≡ false = sym h ∙ ap is_some bar in cc
name_at ops comma bar Variable text h = cc
name_at ops comma bar Integer text h = cc
name_at ops comma bar Float text h = cc
name_at ops comma bar Str text h = cc
name_at ops comma bar BackStr text h = cc
name_at ops comma bar OpenRound text h = cc
name_at ops comma bar CloseRound text h = cc
name_at ops comma bar OpenSquare text h = cc
name_at ops comma bar CloseSquare text h = cc
name_at ops comma bar OpenCurly text h = cc
name_at ops comma bar CloseCurly text h = cc
name_at ops comma bar End text h = cc

infix_at : (ops : List ℕ → Option Op) (k : Kind) (text : List ℕ) → is_some (kind_operator ops k text) ≡ true → can_be_infix k ≡ true
infix_at ops Name text h = refl
infix_at ops Quoted text h = refl
infix_at ops Comma text h = refl
infix_at ops Bar text h = refl
infix_at ops Variable text h = cc
infix_at ops Integer text h = cc
infix_at ops Float text h = cc
infix_at ops Str text h = cc
infix_at ops BackStr text h = cc
infix_at ops OpenRound text h = cc
infix_at ops CloseRound text h = cc
infix_at ops OpenSquare text h = cc
infix_at ops CloseSquare text h = cc
infix_at ops OpenCurly text h = cc
infix_at ops CloseCurly text h = cc
infix_at ops End text h = cc

-- a name is no operator at one of two places where no name is one at both
named_apart : (here there : List ℕ → Option Op) (mark : Bool) (text : List ℕ) → (is_some (there text) ≡ true → is_some (here text) ≡ true → ⊥)
    → is_some (cond mark None (here text)) ≡ true → is_some (cond mark None (there text)) ≡ false
named_apart here there true text apart h = refl
named_apart here there false text apart h = other (is_some (there text)) refl
  where
    other : (b : Bool) → is_some (there text) ≡ b → is_some (there text) ≡ false
    other true is = absurd (apart is h)
    other false is = is

module _ (ops : Ops) (is : IsOps ops) where
  no_prefix_comma : ops Prefix (codes ",") ≡ None
  no_prefix_comma = is.fixed Prefix (codes ",") refl

  no_prefix_bar : ops Prefix (codes "|") ≡ None
  no_prefix_bar = is.fixed Prefix (codes "|") refl

  no_postfix_comma : ops Postfix (codes ",") ≡ None
  no_postfix_comma = is.fixed Postfix (codes ",") refl

  no_postfix_bar : ops Postfix (codes "|") ≡ None
  no_postfix_bar = is.fixed Postfix (codes "|") refl

  apart_at : (k : Kind) (text : List ℕ) → is_some (kind_operator (ops Postfix) k text) ≡ true → is_some (kind_operator (ops Infix) k text) ≡ false
  apart_at Name text h = named_apart (ops Postfix) (ops Infix) (bytes_eq text (codes ",") || bytes_eq text (codes "|")) text (is.apart text) h
  apart_at Quoted text h = named_apart (ops Postfix) (ops Infix) (bytes_eq text (codes ",") || bytes_eq text (codes "|")) text (is.apart text) h
  apart_at Comma text h = let both : true ≡ false = sym h ∙ ap is_some no_postfix_comma in cc
  apart_at Bar text h = let both : true ≡ false = sym h ∙ ap is_some no_postfix_bar in cc
  apart_at Variable text h = refl
  apart_at Integer text h = refl
  apart_at Float text h = refl
  apart_at Str text h = refl
  apart_at BackStr text h = refl
  apart_at OpenRound text h = refl
  apart_at CloseRound text h = refl
  apart_at OpenSquare text h = refl
  apart_at CloseSquare text h = refl
  apart_at OpenCurly text h = refl
  apart_at CloseCurly text h = refl
  apart_at End text h = refl

  -- the priority of an operator that a kind alone decides
  abbrev priority_at : Kind → List ℕ → ℕ
  priority_at k text = (sides_of (option_map sides (kind_operator (ops Infix) k text))).priority

  comma_over : (text : List ℕ) → 999 < priority_at Comma text
  comma_over text = subst (λ o. 999 < (sides_of (option_map sides o)).priority) (sym (is.fixed Infix (codes ",") refl)) (lit< tt)

  bar_over : (text : List ℕ) → 999 < priority_at Bar text
  bar_over text = subst (λ o. 999 < (sides_of (option_map sides o)).priority) (sym (is.fixed Infix (codes "|") refl)) (lit< tt)

  pub table_is : IsTable (table_of ops)
  table_is = record {
    prefix_name = λ w h. name_at (ops Prefix) no_prefix_comma no_prefix_bar w.kind w.text (sym (some_sides (kind_operator (ops Prefix) w.kind w.text)) ∙ h);
    infix_kind = λ w h. infix_at (ops Infix) w.kind w.text (sym (some_sides (kind_operator (ops Infix) w.kind w.text)) ∙ h);
    postfix_name = λ w h. name_at (ops Postfix) no_postfix_comma no_postfix_bar w.kind w.text (sym (some_sides (kind_operator (ops Postfix) w.kind w.text)) ∙ h);
    one_place = λ w h. some_sides (kind_operator (ops Infix) w.kind w.text) ∙ apart_at w.kind w.text (sym (some_sides (kind_operator (ops Postfix) w.kind w.text)) ∙ h);
    comma = λ w h. subst (λ k. 999 < priority_at k w.text) (sym h) (comma_over w.text);
    bar = λ w h. subst (λ k. 999 < priority_at k w.text) (sym h) (bar_over w.text);
    prefix_right = λ w. rights (kind_operator (ops Prefix) w.kind w.text);
    infix_right = λ w. rights (kind_operator (ops Infix) w.kind w.text);
    infix_left = λ w. lefts (kind_operator (ops Infix) w.kind w.text);
    postfix_left = λ w. lefts (kind_operator (ops Postfix) w.kind w.text);
  }

  -- the sides of a Comma and of a Bar

  pub comma_is : (w : Word) → w.kind ≡ Comma → (table_of ops).infix_ w ≡ Some comma_sides
  comma_is w kind_is = ap (λ k. option_map sides (kind_operator (ops Infix) k w.text)) kind_is ∙ ap (option_map sides) (is.fixed Infix (codes ",") refl)

  pub bar_is : (w : Word) → w.kind ≡ Bar → (table_of ops).infix_ w ≡ Some bar_sides
  bar_is w kind_is = ap (λ k. option_map sides (kind_operator (ops Infix) k w.text)) kind_is ∙ ap (option_map sides) (is.fixed Infix (codes "|") refl)
