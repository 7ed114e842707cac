-- How the logic stores a term, so that programs may be compared.
use Rattle.std.specs.Prelude.{◌≡◌, ℕ, ◌==◌, List, [], ◌∷◌, Option, Some, None, Bool, true, false, cond, refl}
use Rattle.std.specs.Coded.{Coded, code_by}
use base.Stored.{Gv, gnil, gnum, gcons}
use denote.Struct.Codes.{itself}
use mathlib.Core.Path.{ap}
use Rattle.prolog_terms.specs.declared.term.Span.{Span}
use Rattle.prolog_terms.specs.declared.term.Form.{Form}
use Rattle.prolog_terms.specs.declared.term.Form.TheVariants.{Functional, Prefix, Infix, Postfix}
use Rattle.prolog_terms.specs.declared.term.ConstKind.{ConstKind}
use Rattle.prolog_terms.specs.declared.term.ConstKind.TheVariants.{Integer, Float, Str, BackStr}
use Rattle.prolog_terms.specs.Tree.{Tree, Trees, variable, constant, atom, compound, listed, tailed, curly, paren, none, more}

abbrev left : Gv → Gv
left (gcons a b) = a
left gnil = gnil
left (gnum n) = gnil

abbrev right : Gv → Gv
right (gcons a b) = b
right gnil = gnil
right (gnum n) = gnil

abbrev number : Gv → ℕ
number (gnum n) = n
number gnil = 0
number (gcons a b) = 0

abbrev bytes : List ℕ → Gv
bytes [] = gnil
bytes (x ∷ xs) = gcons (gnum x) (bytes xs)

abbrev unbytes : Gv → List ℕ
unbytes (gcons a b) = number a ∷ unbytes b
unbytes gnil = []
unbytes (gnum n) = []

pub unbytes-bytes : (xs : List ℕ) → unbytes (bytes xs) ≡ xs
unbytes-bytes [] = refl
unbytes-bytes (x ∷ xs) = ap (λ ys. x ∷ ys) (unbytes-bytes xs)

abbrev span : Span → Gv
span s = gcons (gnum s.from) (gnum s.to)

abbrev unspan : Gv → Span
unspan g = record { from = number (left g); to = number (right g) }

abbrev form : Form → ℕ
form Functional = 0
form Prefix = 1
form Infix = 2
form Postfix = 3

abbrev unform : ℕ → Form
unform n = cond (n == 0) Functional (cond (n == 1) Prefix (cond (n == 2) Infix Postfix))

pub unform-form : (f : Form) → unform (form f) ≡ f
unform-form Functional = refl
unform-form Prefix = refl
unform-form Infix = refl
unform-form Postfix = refl

abbrev kind : ConstKind → ℕ
kind Integer = 0
kind Float = 1
kind Str = 2
kind BackStr = 3

abbrev unkind : ℕ → ConstKind
unkind n = cond (n == 0) Integer (cond (n == 1) Float (cond (n == 2) Str BackStr))

pub unkind-kind : (k : ConstKind) → unkind (kind k) ≡ k
unkind-kind Integer = refl
unkind-kind Float = refl
unkind-kind Str = refl
unkind-kind BackStr = refl

abbrev sign : Bool → ℕ
sign true = 1
sign false = 0

abbrev unsign : ℕ → Bool
unsign n = n == 1

pub unsign-sign : (b : Bool) → unsign (sign b) ≡ b
unsign-sign true = refl
unsign-sign false = refl

abbrev value : Option ℕ → Gv
value None = gnil
value (Some n) = gcons (gnum n) gnil

abbrev unvalue : Gv → Option ℕ
unvalue (gcons a b) = Some (number a)
unvalue gnil = None
unvalue (gnum n) = None

pub unvalue-value : (v : Option ℕ) → unvalue (value v) ≡ v
unvalue-value None = refl
unvalue-value (Some n) = refl

-- the number of the form, what stands in it beside terms, and these
abbrev cell : ℕ → Gv → Gv → Gv
cell tag d kids = gcons (gnum tag) (gcons d kids)

abbrev mutual
  to : Tree → Gv
  to (variable s) = cell 0 (span s) gnil
  to (constant k minus v s) = cell 1 (gcons (gcons (gnum (kind k)) (gnum (sign minus))) (gcons (value v) (span s))) gnil
  to (atom name s) = cell 2 (gcons (bytes name) (span s)) gnil
  to (compound name args f s) = cell 3 (gcons (bytes name) (gcons (gnum (form f)) (span s))) (tos args)
  to (listed items s) = cell 4 (span s) (tos items)
  to (tailed items tail s) = cell 5 (span s) (gcons (to tail) (tos items))
  to (curly inner s) = cell 6 (span s) (gcons (to inner) gnil)
  to (paren inner s) = cell 7 (span s) (gcons (to inner) gnil)

  tos : Trees → Gv
  tos none = gnil
  tos (more t ts) = gcons (to t) (tos ts)

abbrev first : Trees → Tree
first none = variable (record { from = 0; to = 0 })
first (more t ts) = t

abbrev rest : Trees → Trees
rest none = none
rest (more t ts) = ts

abbrev built : ℕ → Gv → Trees → Tree
built tag d kids =
    cond (tag == 0) (variable (unspan d))
    (cond (tag == 1) (constant (unkind (number (left (left d)))) (unsign (number (right (left d)))) (unvalue (left (right d))) (unspan (right (right d))))
    (cond (tag == 2) (atom (unbytes (left d)) (unspan (right d)))
    (cond (tag == 3) (compound (unbytes (left d)) kids (unform (number (left (right d)))) (unspan (right (right d))))
    (cond (tag == 4) (listed kids (unspan d))
    (cond (tag == 5) (tailed (rest kids) (first kids) (unspan d))
    (cond (tag == 6) (curly (first kids) (unspan d))
    (paren (first kids) (unspan d))))))))

abbrev mutual
  from : Gv → Tree
  from (gcons tag (gcons d kids)) = built (number tag) d (froms kids)
  from (gcons tag gnil) = variable (record { from = 0; to = 0 })
  from (gcons tag (gnum n)) = variable (record { from = 0; to = 0 })
  from gnil = variable (record { from = 0; to = 0 })
  from (gnum n) = variable (record { from = 0; to = 0 })

  froms : Gv → Trees
  froms (gcons a b) = more (from a) (froms b)
  froms gnil = none
  froms (gnum n) = none

mutual
  pub from-to : (t : Tree) → from (to t) ≡ t
  from-to (variable s) = refl
  from-to (constant k minus v s) = λ i. constant (unkind-kind k i) (unsign-sign minus i) (unvalue-value v i) s
  from-to (atom name s) = λ i. atom (unbytes-bytes name i) s
  from-to (compound name args f s) = λ i. compound (unbytes-bytes name i) (froms-tos args i) (unform-form f i) s
  from-to (listed items s) = λ i. listed (froms-tos items i) s
  from-to (tailed items tail s) = λ i. tailed (froms-tos items i) (from-to tail i) s
  from-to (curly inner s) = λ i. curly (from-to inner i) s
  from-to (paren inner s) = λ i. paren (from-to inner i) s

  pub froms-tos : (ts : Trees) → froms (tos ts) ≡ ts
  froms-tos none = refl
  froms-tos (more t ts) = λ i. more (from-to t i) (froms-tos ts i)

abbrev pub tree_code : Coded Tree
tree_code = code_by Gv itself to from from-to
