-- Clauses as words of 64 bits: the head of a clause, its goals in order, and where it ends.
use Rattle.std.specs.Prelude.{◌≡◌, ℕ, ◌/◌, ◌%◌, nat_eq, ◌||◌, not, List, [], ◌∷◌, ◌++◌, Option, Some, None, Bool, true, if◌then◌else◌, drop, length, map}
use Rattle.std.specs.List.{list_any}
use Rattle.prolog_names.specs.Names.{name_at}
use Rattle.prolog_terms.specs.declared.node.Node.{Node}
use Rattle.prolog_terms.specs.Tree.{Tree, variable}
use Rattle.prolog_terms.specs.Terms.{tree_in}
use Rattle.kept_clauses.specs.declared.words.Kind.{Kind}
use Rattle.kept_clauses.specs.declared.words.Kind.TheVariants.{Fact, Rule, Call, End}
use Rattle.kept_clauses.specs.declared.words.Kind.TheVariants as kind
use Rattle.kept_clauses.specs.Plain.{PlainCall, PlainGoal, called, whole, PlainClause, written, span_at}

-- odd words are terms; the others tell it in their second and third bit
abbrev pub kind_of : ℕ → Kind
kind_of word =
    if nat_eq (word % 2) 1 then kind.Term
    else if nat_eq (word % 8) 0 then Call
    else if nat_eq (word % 8) 2 then Fact
    else if nat_eq (word % 8) 4 then Rule
    else End

-- what a head or a call tells: 32 bits of the number of a name, 23 of an offset and 6 of a number of arguments
abbrev pub arity_in : ℕ → ℕ
arity_in word = word / 8 % 64

abbrev pub offset_in : ℕ → ℕ
offset_in word = word / 8 / 64 % 8388608

abbrev pub number_in : ℕ → ℕ
number_in word = word / 8 / 64 / 8388608

-- the names with a meaning of their own have these numbers in each table
abbrev pub reserved_numbers : List ℕ
reserved_numbers = 1 ∷ 20 ∷ 2 ∷ 21 ∷ 15 ∷ 63 ∷ 50 ∷ 17 ∷ 6 ∷ 19 ∷ 3 ∷ 4 ∷ []

abbrev pub is_reserved : ℕ → Bool
is_reserved number = list_any (λ it. nat_eq it number) reserved_numbers

-- the name of a head is free, and so is that of a call with arguments
abbrev pub is_sound_as : Kind → ℕ → Bool
is_sound_as Fact word = not (is_reserved (number_in word))
is_sound_as Rule word = not (is_reserved (number_in word))
is_sound_as Call word = nat_eq (arity_in word) 0 || not (is_reserved (number_in word))
is_sound_as kind.Term word = true
is_sound_as End word = true

abbrev pub is_sound : ℕ → Bool
is_sound word = is_sound_as (kind_of word) word

-- the words of clauses as trees, with names and nodes

abbrev pub call_in : List (List ℕ) → ℕ → PlainCall
call_in names word = record { at = offset_in word; name = name_at names (number_in word); arity = arity_in word }

abbrev pub term_in : List (List ℕ) → List Node → ℕ → Tree
term_in names nodes word = tree_in names nodes (word / 2)

-- the goals up to the end of a clause

abbrev pub goals_by : List (List ℕ) → List Node → Kind → ℕ → List PlainGoal → List PlainGoal
goals_by names nodes Call word goals = called (call_in names word) ∷ goals
goals_by names nodes kind.Term word goals = whole (term_in names nodes word) ∷ goals
goals_by names nodes other word goals = []

abbrev pub goals_in : List (List ℕ) → List Node → List ℕ → List PlainGoal
goals_in names nodes [] = []
goals_in names nodes (word ∷ words) = goals_by names nodes (kind_of word) word (goals_in names nodes words)

-- and the offset of that end

abbrev pub end_by : Kind → ℕ → ℕ → ℕ
end_by Call word last = last
end_by kind.Term word last = last
end_by End word last = word / 8 % 4294967296
end_by other word last = 0

abbrev pub end_in : List ℕ → ℕ
end_in [] = 0
end_in (word ∷ words) = end_by (kind_of word) word (end_in words)

-- a clause by its head and the words after it

abbrev pub clause_with : List (List ℕ) → ℕ → List ℕ → Option (List PlainGoal) → PlainClause
clause_with names head words body =
    record {
      span = record { from = offset_in head; to = end_in words };
      name = name_at names (number_in head);
      arity = arity_in head;
      body = body;
    }

abbrev pub tree_by : List (List ℕ) → List Node → Kind → ℕ → List ℕ → Tree
tree_by names nodes Fact word words = written (clause_with names word words None)
tree_by names nodes Rule word words = written (clause_with names word words (Some (goals_in names nodes words)))
tree_by names nodes kind.Term word words = term_in names nodes word
tree_by names nodes other word words = variable (span_at 0)

-- the clause that begins with the first of the words
abbrev pub first_tree : List (List ℕ) → List Node → List ℕ → Tree
first_tree names nodes [] = variable (span_at 0)
first_tree names nodes (word ∷ words) = tree_by names nodes (kind_of word) word words

-- a list of clauses is words and the nodes of the terms that are kept whole
abbrev pub Kept : Type 0
Kept = List ℕ × List Node

-- the clause that begins at that word
abbrev pub kept_tree : List (List ℕ) → Kept → ℕ → Tree
kept_tree names kept at = first_tree names kept.1 (drop at kept.0)

-- the new list has more words, which are those goals, whatever follows them
pub record AddsGoals (names : List (List ℕ)) (old new : Kept) (goals : List PlainGoal) : Type 0 where
  pub words : List ℕ
  pub nodes : List Node
  pub words_are : new.0 ≡ old.0 ++ words
  pub nodes_are : new.1 ≡ old.1 ++ nodes
  pub goals_are : (later : List ℕ) (behind : List Node) → goals_in names (new.1 ++ behind) (words ++ later) ≡ goals ++ goals_in names (new.1 ++ behind) later
  pub end_is : (later : List ℕ) → end_in (words ++ later) ≡ end_in later

-- the new list has more words, which are that clause, whatever follows them
pub record AddsClause (names : List (List ℕ)) (old new : Kept) (at : ℕ) (tree : Tree) : Type 0 where
  pub words : List ℕ
  pub nodes : List Node
  pub words_are : new.0 ≡ old.0 ++ words
  pub nodes_are : new.1 ≡ old.1 ++ nodes
  pub at_is : at ≡ length old.0
  pub tree_is : (later : List ℕ) (behind : List Node) → first_tree names (new.1 ++ behind) (words ++ later) ≡ tree

-- the clauses that begin at these words are those trees, whatever follows them
abbrev pub AreKept : List (List ℕ) → Kept → List ℕ → List Tree → Type 0
AreKept names kept begins trees = (later : List ℕ) (behind : List Node) → map (kept_tree names (kept.0 ++ later, kept.1 ++ behind)) begins ≡ trees
