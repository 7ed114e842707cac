-- What some words ask for, and which predicates are told.
use Rattle.std.proofs.Common.{◌≡◌, ℕ, true, false, List, [], ◌∷◌, codes, flat_map, refl}
use Rattle.std.specs.List.{list_all}
use Rattle.call_told.specs.declared.condensed.Edge.{Edge}
use Rattle.call_told.specs.declared.wanted.Form.TheVariants.{Dot, Condensed}
use Rattle.call_told.specs.Condensed.{node_of}
use Rattle.call_told.specs.EdgeLists.{edges_from}
use Rattle.call_told.specs.Told.{told_nodes}
use Rattle.call_told.specs.Wanted.{count_forms, form_words, front_words, is_known, other_words}

-- of `--dot f.pl -- --undefined` the first word names the form, and the last one is a file
pub one_form : count_forms (front_words (codes "--dot" ∷ codes "f.pl" ∷ codes "--" ∷ codes "--undefined" ∷ [])) ≡ form_words Dot
one_form = refl

-- the condensed graph takes both words, in any order, and one alone names no form
pub both_words : count_forms (front_words (codes "--condensed" ∷ codes "f.pl" ∷ codes "--dot" ∷ [])) ≡ form_words Condensed
both_words = refl

pub condensed_alone : count_forms (codes "--condensed" ∷ codes "f.pl" ∷ []) ≡ record { undefined = 0; dot = 0; condensed = 1 }
condensed_alone = refl

pub others_left : other_words (codes "--dot" ∷ codes "f.pl" ∷ codes "--" ∷ codes "--undefined" ∷ []) ≡ codes "f.pl" ∷ codes "--" ∷ codes "--undefined" ∷ []
others_left = refl

pub known_words : list_all is_known (codes "--roots=p/0" ∷ codes "--unreached" ∷ codes "-" ∷ codes "f.pl" ∷ []) ≡ true
known_words = refl

pub unknown_word : is_known (codes "--effects") ≡ false
unknown_word = refl

-- of three predicates of which the second is in no group, the first and the last are told, or all
pub grouped_told : told_nodes 3 (2 ∷ 0 ∷ 1 ∷ []) false ≡ 0 ∷ 2 ∷ []
grouped_told = refl

pub all_told : told_nodes 3 (2 ∷ 0 ∷ 1 ∷ []) true ≡ 0 ∷ 1 ∷ 2 ∷ []
all_told = refl

-- predicates 0 and 2 call each other and 1, and 3 is in no group, and calls itself and 2
abbrev groups : List (List ℕ)
groups = (1 ∷ []) ∷ (0 ∷ 2 ∷ []) ∷ []

abbrev places : List ℕ
places = 2 ∷ 1 ∷ 2 ∷ 0 ∷ []

abbrev lists : List (List ℕ)
lists = (1 ∷ 2 ∷ []) ∷ [] ∷ (0 ∷ 1 ∷ []) ∷ (2 ∷ 3 ∷ []) ∷ []

abbrev edge : ℕ → ℕ → Edge
edge from to = record { from = from; to = to }

pub node_of_group : node_of groups places 2 ≡ 0
node_of_group = refl

pub node_of_its_own : node_of groups places 3 ≡ 3
node_of_its_own = refl

-- no edge leads from a node to itself
pub edges_collected : flat_map (edges_from lists groups places) (0 ∷ 1 ∷ 2 ∷ 3 ∷ []) ≡ edge 0 1 ∷ edge 0 1 ∷ edge 3 0 ∷ []
edges_collected = refl
