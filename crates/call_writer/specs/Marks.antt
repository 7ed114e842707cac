-- What is marked at predicates, in their lines.
use Rattle.std.specs.Prelude.{ℕ, List, [], ◌∷◌, ◌++◌, Bool, true, false, if◌then◌else◌, codes}
use Rattle.std.specs.Fmt.{decimal}
use Rattle.std.specs.List.{flat_map}
use Rattle.module_table.specs.declared.goal_arg.GoalArg.{GoalArg}
use Rattle.module_table.specs.declared.goal_arg.GoalArg.TheVariants.{Plain, Goal, Caret, Grammar}
use Rattle.call_table.specs.declared.marks.NodeMarks.{NodeMarks}
use Rattle.call_writer.specs.Json.{truth}

-- `2`, where two arguments are added to the goal; `"^"`, `"//"`; `null` where the argument is no goal
abbrev pub goal_arg : GoalArg → List ℕ
goal_arg Plain = codes "null"
goal_arg (Goal n) = decimal n
goal_arg Caret = codes "\"^\""
goal_arg Grammar = codes "\"//\""

abbrev pub next_goal_arg : GoalArg → List ℕ
next_goal_arg arg = codes "," ++ goal_arg arg

-- `[0,null]`, or `null` where there are none
abbrev pub goal_args : List GoalArg → List ℕ
goal_args [] = codes "null"
goal_args (arg ∷ args) = codes "[" ++ (goal_arg arg ++ (flat_map next_goal_arg args ++ codes "]"))

-- the word, where it holds
abbrev pub word_if : Bool → List ℕ → List (List ℕ)
word_if true word = word ∷ []
word_if false word = []

-- why reach begins at a predicate
abbrev pub root_words : NodeMarks → List (List ℕ)
root_words marks =
    if marks.listed then word_if marks.root (codes "\"roots\"")
    else word_if marks.by_export (codes "\"export\"") ++ (word_if marks.by_directive (codes "\"directive\"") ++ word_if marks.by_file (codes "\"file\""))

abbrev pub next_word : List ℕ → List ℕ
next_word word = codes "," ++ word

-- words with commas between them
abbrev pub words_text : List (List ℕ) → List ℕ
words_text [] = []
words_text (word ∷ words) = word ++ flat_map next_word words

-- `,"dynamic":true,"multifile":false`
abbrev pub declared_fields : Bool → Bool → List ℕ
declared_fields dynamic multifile = codes ",\"dynamic\":" ++ (truth dynamic ++ (codes ",\"multifile\":" ++ truth multifile))

-- `,"exported":true,"meta":[0,null],"root":["export"],"dynamic":false,"multifile":false`
abbrev pub mark_fields : NodeMarks → List GoalArg → List ℕ
mark_fields marks args =
    codes ",\"exported\":"
    ++ (truth marks.exported
    ++ (codes ",\"meta\":"
    ++ (goal_args args
    ++ (codes ",\"root\":[" ++ (words_text (root_words marks) ++ (codes "]" ++ declared_fields marks.dynamic marks.multifile))))))
