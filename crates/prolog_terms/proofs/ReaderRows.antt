-- Readings, and places where no clause goes on, under the table that each text begins with.
use Rattle.std.proofs.Common.{ℕ, ◌≡◌, true, false, List, [], ◌∷◌, Option, Some, None, is_some, refl, codes}
use Rattle.prolog_tokens.specs.declared.token.Kind.{Kind}
use Rattle.prolog_tokens.specs.declared.token.Kind.TheVariants.{Name, Quoted, Variable, Integer, OpenRound, CloseRound, OpenSquare, CloseSquare, Comma, Bar, End}
use Rattle.prolog_ops.specs.Table.{opening}
use Rattle.prolog_terms.specs.Words.{Word, Table, table_of}
use Rattle.prolog_terms.specs.Grammar.{Parse, call, leaf, negative, bare, group, tailed, wrapped, prefixed, infixed, one, more}
use Rattle.prolog_terms.specs.ReaderSteps.{want, done, at, run}
use Rattle.prolog_terms.specs.ReaderWaiting.{Waiting, ready, feed}

abbrev table : Table
table = table_of opening

-- a word with layout before it, and one with none
abbrev word : Kind → List ℕ → Word
word kind text = record { kind = kind; text = text; value = None; after_layout = true; span = record { from = 0; to = 0 } }

abbrev glued : Kind → List ℕ → Word
glued kind text = record { kind = kind; text = text; value = None; after_layout = false; span = record { from = 0; to = 0 } }

abbrev name : List ℕ → Word
name text = word Name text

abbrev a : Word
a = name (codes "a")

abbrev b : Word
b = name (codes "b")

abbrev c : Word
c = name (codes "c")

abbrev x : Word
x = name (codes "x")

abbrev var : Word
var = word Variable (codes "X")

abbrev number : Word
number = word Integer (codes "1")

abbrev comma : Word
comma = glued Comma (codes ",")

abbrev end : Word
end = glued End (codes ".")

abbrev op : List ℕ → Word
op text = word Name text

abbrev Reads : List Word → Parse → Type 0
Reads words tree = run table words (at [] want) ≡ Some (at [] (done tree))

-- the words are taken one by one
abbrev fed : List Word → Option Waiting → Option Waiting
fed [] waiting = waiting
fed (w ∷ ws) None = None
fed (w ∷ ws) (Some waiting) = fed ws (feed table waiting w)

-- the first of these words that is refused stands last
abbrev IsStuckAtLast : List Word → Word → Type 0
IsStuckAtLast before last = (is_some (fed before (Some (ready [] want))) ≡ true) × (is_some (fed (last ∷ []) (fed before (Some (ready [] want)))) ≡ false)

abbrev minus_op : Word
minus_op = op (codes "-")

prefix_binds_tighter : Reads (minus_op ∷ a ∷ op (codes "+") ∷ b ∷ end ∷ []) (infixed (prefixed minus_op (bare a)) (op (codes "+")) (bare b))
prefix_binds_tighter = refl

minus_apart : Reads (minus_op ∷ number ∷ end ∷ []) (prefixed minus_op (leaf number))
minus_apart = refl

minus_glued : Reads (minus_op ∷ glued Integer (codes "1") ∷ end ∷ []) (negative minus_op (glued Integer (codes "1")))
minus_glued = refl

not_before_comma : Reads (op (codes "\\+") ∷ a ∷ comma ∷ b ∷ end ∷ []) (infixed (prefixed (op (codes "\\+")) (bare a)) comma (bare b))
not_before_comma = refl

minus_is_an_atom : Reads (minus_op ∷ op (codes "=") ∷ x ∷ end ∷ []) (infixed (bare minus_op) (op (codes "=")) (bare x))
minus_is_an_atom = refl

colon_to_the_right : Reads (a ∷ op (codes ":") ∷ b ∷ op (codes ":") ∷ c ∷ end ∷ []) (infixed (bare a) (op (codes ":")) (infixed (bare b) (op (codes ":")) (bare c)))
colon_to_the_right = refl

minus_to_the_left : Reads (var ∷ op (codes "is") ∷ number ∷ minus_op ∷ number ∷ minus_op ∷ number ∷ end ∷ [])
    (infixed (leaf var) (op (codes "is")) (infixed (infixed (leaf number) minus_op (leaf number)) minus_op (leaf number)))
minus_to_the_left = refl

not_of_brackets : Reads (op (codes "\\+") ∷ word OpenRound (codes "(") ∷ a ∷ comma ∷ b ∷ glued CloseRound (codes ")") ∷ end ∷ [])
    (prefixed (op (codes "\\+")) (wrapped (word OpenRound (codes "(")) (infixed (bare a) comma (bare b)) (glued CloseRound (codes ")"))))
not_of_brackets = refl

not_of_two : Reads (op (codes "\\+") ∷ glued OpenRound (codes "(") ∷ a ∷ comma ∷ b ∷ glued CloseRound (codes ")") ∷ end ∷ [])
    (group (call (op (codes "\\+")) (glued OpenRound (codes "("))) (more (one (bare a)) comma (bare b)) (glued CloseRound (codes ")")))
not_of_two = refl

two_atoms : Reads (name (codes "f") ∷ glued OpenRound (codes "(") ∷ op (codes "+") ∷ comma ∷ minus_op ∷ glued CloseRound (codes ")") ∷ end ∷ [])
    (group (call (name (codes "f")) (glued OpenRound (codes "("))) (more (one (bare (op (codes "+")))) comma (bare minus_op)) (glued CloseRound (codes ")")))
two_atoms = refl

or_to_the_right : Reads (a ∷ op (codes ";") ∷ b ∷ op (codes ";") ∷ c ∷ end ∷ []) (infixed (bare a) (op (codes ";")) (infixed (bare b) (op (codes ";")) (bare c)))
or_to_the_right = refl

list_with_a_tail : Reads (var ∷ op (codes "=") ∷ word OpenSquare (codes "[") ∷ number ∷ comma ∷ number ∷ glued Bar (codes "|") ∷ var ∷ glued CloseSquare (codes "]") ∷ end ∷ [])
    (infixed (leaf var) (op (codes "="))
    (tailed (word OpenSquare (codes "[")) (more (one (leaf number)) comma (leaf number)) (glued Bar (codes "|")) (leaf var) (glued CloseSquare (codes "]"))))
list_with_a_tail = refl

quoted_comma_is_no_operator : IsStuckAtLast (a ∷ []) (word Quoted (codes ","))
quoted_comma_is_no_operator = (refl, refl)

power_has_no_side : IsStuckAtLast (a ∷ op (codes "**") ∷ b ∷ []) (op (codes "**"))
power_has_no_side = (refl, refl)

body_is_missing : IsStuckAtLast (name (codes "p") ∷ op (codes ":-") ∷ []) end
body_is_missing = (refl, refl)

two_terms : IsStuckAtLast (name (codes "f") ∷ glued OpenRound (codes "(") ∷ a ∷ []) b
two_terms = (refl, refl)

neck_in_an_argument : IsStuckAtLast (name (codes "f") ∷ glued OpenRound (codes "(") ∷ a ∷ comma ∷ b ∷ []) (op (codes ":-"))
neck_in_an_argument = (refl, refl)

two_bars : IsStuckAtLast (word OpenSquare (codes "[") ∷ a ∷ glued Bar (codes "|") ∷ b ∷ []) (glued Bar (codes "|"))
two_bars = (refl, refl)

functor_alone_goes_on : IsStuckAtLast (name (codes "f") ∷ glued OpenRound (codes "(") ∷ minus_op ∷ op (codes "-->") ∷ []) a
functor_alone_goes_on = (refl, refl)

atom_alone_goes_on : IsStuckAtLast (name (codes "f") ∷ glued OpenRound (codes "(") ∷ op (codes ":-") ∷ op (codes "=") ∷ []) (glued OpenRound (codes "("))
atom_alone_goes_on = (refl, refl)
