-- What passes know, and how a claim, a look and a join change it.
use Rattle.std.specs.Prelude.{◌≡◌, ◌⊎◌, ℕ, zero, suc, true, false, ◌||◌, List, [], ◌∷◌, ◌++◌, None}
use Rattle.node_claims.specs.declared.view.Outline.{Outline}
use Rattle.node_claims.specs.declared.view.View.{View}
use Rattle.group_release.specs.Book.{BookValue}
use Rattle.group_release.specs.Outline.{kept_nodes, wanted_nodes}

-- a book, as numbers and lists of them
abbrev pub outline_of : BookValue → Outline
outline_of book = record {
  lists = book.lists;
  roots = book.roots;
  failed = book.failed;
  kept = kept_nodes book.kept;
  wants = wanted_nodes book.kept;
  released = book.groups;
}

-- the word of a node that no pass has claimed yet, of one that stands on the list of a pass or a kept search, and of one that is closed or released
abbrev pub unseen_word : ℕ
unseen_word = 0

abbrev pub held_word : ℕ
held_word = 1

abbrev pub finished_word : ℕ
finished_word = 2

-- the pair of the node and the word is among these
abbrev pub Noted : ℕ → ℕ → List (ℕ × ℕ) → Type 0
Noted x n [] = ⊥
Noted x n (p ∷ ps) = ((p.0 ≡ x) × (p.1 ≡ n)) ⊎ Noted x n ps

-- of a pass that has done nothing yet
abbrev pub fresh : List (List ℕ) → List ℕ → View
fresh lists roots = record { live = true; lists = lists; roots = roots; nodes = []; seen = []; looks = []; told = false; turn = None }

-- of a pass that was joined into another
abbrev pub spent : View
spent = record { live = false; lists = []; roots = []; nodes = []; seen = []; looks = []; told = false; turn = None }

-- of two passes that became one
abbrev pub both : View → View → View
both v w = record v { nodes = v.nodes ++ w.nodes; seen = v.seen ++ w.seen; looks = v.looks ++ w.looks; told = v.told || w.told }

-- after a look that found the word, or more than the last of the three, which then counts as that one
abbrev pub looked : ℕ → ℕ → View → View
looked x zero v = record v { looks = v.looks ++ (x, unseen_word) ∷ [] }
looked x (suc zero) v = record v { looks = v.looks ++ (x, held_word) ∷ [] }
looked x (suc (suc n)) v = record v { looks = v.looks ++ (x, finished_word) ∷ []; seen = v.seen ++ x ∷ [] }

-- after a claim that found the word: it is won where no pass had claimed the node
abbrev pub claimed : ℕ → ℕ → View → View
claimed x zero v = record v { looks = v.looks ++ (x, unseen_word) ∷ []; nodes = v.nodes ++ x ∷ [] }
claimed x (suc n) v = looked x (suc n) v
