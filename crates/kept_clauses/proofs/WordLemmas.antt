-- Words of a list, and what words say that are added to it.
use Rattle.std.proofs.Common.{◌≡◌, ◌⊎◌, inl, inr, ℕ, ◌+◌, ◌/◌, ◌%◌, Bool, true, false, not, nat_eq, ◌||◌, List, [], ◌∷◌, ◌++◌, Option, Some, None, Result, Ok, Err, OnOk, drop, length, get_or, slice_get, refl, sym, ap, ◌∙◌, append_assoc, append-nil, arith}
use Rattle.std.proofs.lemmas.Bool.{cases_lt, eqb-true, eq-eqb, ne_eqb}
use Rattle.std.proofs.lemmas.List.{drop_more, drop_all}
use Rattle.std.proofs.lemmas.Option.{slice_get_within, get_or_from_slice_get, slice_get-get_or}
use Rattle.prolog_names.specs.Names.{name_at}
use Rattle.prolog_terms.specs.declared.node.Node.{Node}
use Rattle.std.proofs.Math.Seq.{take-append_seam}
use Rattle.prolog_terms.specs.Terms.{root_tree, tree_in}
use Rattle.prolog_terms.specs.Tree.{Tree}
use Rattle.prolog_terms.proofs.ViewLemmas.{some_none}
use Rattle.kept_clauses.proofs.Bodies.{if_true, if_false}
use Rattle.kept_clauses.specs.declared.words.Kind.{Kind}
use Rattle.kept_clauses.specs.declared.words.Kind.TheVariants.{Fact, Rule, Call, End}
use Rattle.kept_clauses.specs.declared.words.Kind.TheVariants as kind
use Rattle.kept_clauses.specs.Plain.{is_free, PlainCall, PlainGoal, called, whole, written}
use Rattle.kept_clauses.specs.Views.{IsSoundCall}
use Rattle.kept_clauses.specs.Words.{kind_of, arity_in, offset_in, number_in, is_reserved, is_sound, is_sound_as, call_in, term_in, goals_by, goals_in, end_by, end_in, tree_by, first_tree, Kept, AddsGoals, AddsClause}

-- the words from a place on

pub drop_word : (words : List ℕ) (at word : ℕ) → slice_get words at ≡ Some word → drop at words ≡ word ∷ drop (at + 1) words
drop_word words at word is =
    drop_more words at word (slice_get_within words at word is) ∙ ap (λ w. w ∷ drop (at + 1) words) (get_or_from_slice_get words at word word is)

pub no_word : (words : List ℕ) (at : ℕ) → slice_get words at ≡ None → drop at words ≡ []
no_word words at none = elim (cases_lt at (length words)) [
  | inl lt ↦ absurd (some_none (get_or words at 0) (sym (slice_get-get_or words at 0 lt) ∙ none))
  | inr past ↦ drop_all at words past
]

-- what the word at a place says

pub end_at : (words : List ℕ) (at word : ℕ) (kind : Kind) → slice_get words at ≡ Some word → kind_of word ≡ kind
    → end_in (drop at words) ≡ end_by kind word (end_in (drop (at + 1) words))
end_at words at word kind there is = ap end_in (drop_word words at word there) ∙ ap (λ k. end_by k word (end_in (drop (at + 1) words))) is

module _ (names : List (List ℕ)) (nodes : List Node) (words : List ℕ) (at word : ℕ) (kind : Kind) (there : slice_get words at ≡ Some word) (is : kind_of word ≡ kind) where
  pub goals_at : goals_in names nodes (drop at words) ≡ goals_by names nodes kind word (goals_in names nodes (drop (at + 1) words))
  goals_at =
      ap (goals_in names nodes) (drop_word words at word there) ∙ ap (λ k. goals_by names nodes k word (goals_in names nodes (drop (at + 1) words))) is

  pub tree_at : first_tree names nodes (drop at words) ≡ tree_by names nodes kind word (drop (at + 1) words)
  tree_at = ap (first_tree names nodes) (drop_word words at word there) ∙ ap (λ k. tree_by names nodes k word (drop (at + 1) words)) is

-- a sound call has no arguments or a free name

sound_test : (arity : ℕ) (free : Bool) → nat_eq arity 0 || free ≡ true → (arity ≡ 0) ⊎ (free ≡ true)
sound_test arity free is = by_test (nat_eq arity 0) refl is
  where
    by_test : (test : Bool) → nat_eq arity 0 ≡ test → test || free ≡ true → (arity ≡ 0) ⊎ (free ≡ true)
    by_test true none all = inl (eqb-true arity 0 none)
    by_test false some all = inr all

pub call_sound : (names : List (List ℕ)) (word : ℕ) → ((number : ℕ) → is_free (name_at names number) ≡ not (is_reserved number)) → kind_of word ≡ Call
    → is_sound word ≡ true → IsSoundCall (call_in names word)
call_sound names word free call sound =
    elim (sound_test (arity_in word) (not (is_reserved (number_in word))) (sym (ap (λ kind. is_sound_as kind word) call) ∙ sound)) [
      | inl none ↦ inl none
      | inr test ↦ inr (free (number_in word) ∙ test)
    ]

pub head_sound : (names : List (List ℕ)) (word : ℕ) (kind : Kind) → ((number : ℕ) → is_free (name_at names number) ≡ not (is_reserved number)) → kind_of word ≡ kind
    → is_sound_as kind word ≡ not (is_reserved (number_in word)) → is_sound word ≡ true → is_free (name_at names (number_in word)) ≡ true
head_sound names word kind free is tests sound = free (number_in word) ∙ (sym tests ∙ (sym (ap (λ k. is_sound_as k word) is) ∙ sound))

-- goals that are added

module _ (names : List (List ℕ)) where
  pub no_goals : (kept : Kept) → AddsGoals names kept kept []
  no_goals kept = record {
    words = [];
    nodes = [];
    words_are = sym (append-nil kept.0);
    nodes_are = sym (append-nil kept.1);
    goals_are = λ later behind. refl;
    end_is = λ later. refl;
  }

  pub goals_then : (a b c : Kept) (xs ys : List PlainGoal) → AddsGoals names a b xs → AddsGoals names b c ys → AddsGoals names a c (xs ++ ys)
  goals_then a b c xs ys first second = record {
    words = first.words ++ second.words;
    nodes = first.nodes ++ second.nodes;
    words_are = second.words_are ∙ (ap (λ ws. ws ++ second.words) first.words_are ∙ append_assoc a.0 first.words second.words);
    nodes_are = second.nodes_are ∙ (ap (λ ns. ns ++ second.nodes) first.nodes_are ∙ append_assoc a.1 first.nodes second.nodes);
    goals_are = λ later behind.
        let words = second.words ++ later in
        let nodes : c.1 ++ behind ≡ b.1 ++ (second.nodes ++ behind) = ap (λ ns. ns ++ behind) second.nodes_are ∙ append_assoc b.1 second.nodes behind in
        ap (goals_in names (c.1 ++ behind)) (append_assoc first.words second.words later)
        ∙ (ap (λ ns. goals_in names ns (first.words ++ words)) nodes
        ∙ (first.goals_are words (second.nodes ++ behind)
        ∙ (sym (ap (λ ns. xs ++ goals_in names ns words) nodes)
        ∙ (ap (λ gs. xs ++ gs) (second.goals_are later behind) ∙ sym (append_assoc xs ys (goals_in names (c.1 ++ behind) later))))));
    end_is = λ later. ap end_in (append_assoc first.words second.words later) ∙ (first.end_is (second.words ++ later) ∙ second.end_is later);
  }

  -- one goal, by its word
  pub one_goal : (old new : Kept) (word : ℕ) (nodes : List Node) (goal : PlainGoal) → new.0 ≡ old.0 ++ word ∷ [] → new.1 ≡ old.1 ++ nodes
      → ((behind : List Node) (goals : List PlainGoal) → goals_by names (new.1 ++ behind) (kind_of word) word goals ≡ goal ∷ goals)
      → ((last : ℕ) → end_by (kind_of word) word last ≡ last) → AddsGoals names old new (goal ∷ [])
  one_goal old new word nodes goal words_are nodes_are goals_are end_is = record {
    words = word ∷ [];
    nodes = nodes;
    words_are = words_are;
    nodes_are = nodes_are;
    goals_are = λ later behind. goals_are behind (goals_in names (new.1 ++ behind) later);
    end_is = λ later. end_is (end_in later);
  }

  -- one call, by its word
  pub call_goal : (old new : Kept) (word : ℕ) (one : PlainCall) → new ≡ (old.0 ++ word ∷ [], old.1) → kind_of word ≡ Call → call_in names word ≡ one
      → AddsGoals names old new (called one ∷ [])
  call_goal old new word one is call one_is =
      one_goal old new word [] (called one) (ap (λ (k : Kept). k.0) is) (ap (λ (k : Kept). k.1) is ∙ sym (append-nil old.1))
      (λ behind goals. ap (λ k. goals_by names (new.1 ++ behind) k word goals) call ∙ ap (λ (c : PlainCall). called c ∷ goals) one_is)
      (λ last. ap (λ k. end_by k word last) call)

  -- one term, by its word
  module _ (old new : Kept) (word : ℕ) (nodes : List Node) (tree : Tree) (words_are : new.0 ≡ old.0 ++ word ∷ []) (nodes_are : new.1 ≡ old.1 ++ nodes)
      (is : kind_of word ≡ kind.Term) (end : word / 2 ≡ length new.1) (root : root_tree names new.1 ≡ tree) where
    stays : (behind : List Node) → term_in names (new.1 ++ behind) word ≡ tree
    stays behind =
        ap (tree_in names (new.1 ++ behind)) end ∙ (ap (root_tree names) (take-append_seam new.1 behind) ∙ root)

    pub term_goal : AddsGoals names old new (whole tree ∷ [])
    term_goal =
        one_goal old new word nodes (whole tree) words_are nodes_are
        (λ behind goals. ap (λ k. goals_by names (new.1 ++ behind) k word goals) is ∙ ap (λ t. whole t ∷ goals) (stays behind))
        (λ last. ap (λ k. end_by k word last) is)

    pub term_clause : AddsClause names old new (length old.0) tree
    term_clause = record {
      words = word ∷ [];
      nodes = nodes;
      words_are = words_are;
      nodes_are = nodes_are;
      at_is = refl;
      tree_is = λ later behind. ap (λ k. tree_by names (new.1 ++ behind) k word later) is ∙ stays behind;
    }

  -- a clause by the words of its head, its goals and its end

  abbrev pub made : ℕ → ℕ → Option (List PlainGoal) → Tree
  made head end body =
      written (record {
        span = record { from = offset_in head; to = end / 8 % 4294967296 };
        name = name_at names (number_in head);
        arity = arity_in head;
        body = body;
      })

  module _ (old first second new : Kept) (head end : ℕ) (goals : List PlainGoal) (first_is : first ≡ (old.0 ++ head ∷ [], old.1))
      (adds : AddsGoals names first second goals) (new_is : new ≡ (second.0 ++ end ∷ [], second.1)) (ends : kind_of end ≡ End) where
    abbrev all_words : List ℕ
    all_words = head ∷ (adds.words ++ end ∷ [])

    words_are : new.0 ≡ old.0 ++ all_words
    words_are =
        ap (λ (k : Kept). k.0) new_is ∙ (ap (λ ws. ws ++ end ∷ []) (adds.words_are ∙ ap (λ (k : Kept). k.0 ++ adds.words) first_is)
        ∙ (append_assoc (old.0 ++ head ∷ []) adds.words (end ∷ []) ∙ append_assoc old.0 (head ∷ []) (adds.words ++ end ∷ [])))

    nodes_are : new.1 ≡ old.1 ++ adds.nodes
    nodes_are = ap (λ (k : Kept). k.1) new_is ∙ (adds.nodes_are ∙ ap (λ (k : Kept). k.1 ++ adds.nodes) first_is)

    abbrev after : List ℕ → List ℕ
    after later = (adds.words ++ end ∷ []) ++ later

    after_is : (later : List ℕ) → after later ≡ adds.words ++ (end ∷ later)
    after_is later = append_assoc adds.words (end ∷ []) later

    goals_after : (later : List ℕ) (behind : List Node) → goals_in names (new.1 ++ behind) (after later) ≡ goals
    goals_after later behind =
        ap (goals_in names (new.1 ++ behind)) (after_is later)
        ∙ (ap (λ (k : Kept). goals_in names (k.1 ++ behind) (adds.words ++ (end ∷ later))) new_is
        ∙ (adds.goals_are (end ∷ later) behind
        ∙ (ap (λ k. goals ++ goals_by names (second.1 ++ behind) k end (goals_in names (second.1 ++ behind) later)) ends ∙ append-nil goals)))

    end_after : (later : List ℕ) → end_in (after later) ≡ end / 8 % 4294967296
    end_after later = ap end_in (after_is later) ∙ (adds.end_is (end ∷ later) ∙ ap (λ k. end_by k end (end_in later)) ends)

    pub adds_rule : kind_of head ≡ Rule → AddsClause names old new (length old.0) (made head end (Some goals))
    adds_rule rule = record {
      words = all_words;
      nodes = adds.nodes;
      words_are = words_are;
      nodes_are = nodes_are;
      at_is = refl;
      tree_is = λ later behind.
          ap (λ k. tree_by names (new.1 ++ behind) k head (after later)) rule
          ∙ (λ i. written (record {
            span = record { from = offset_in head; to = end_after later i };
            name = name_at names (number_in head);
            arity = arity_in head;
            body = Some (goals_after later behind i);
          }));
    }

    pub adds_fact : kind_of head ≡ Fact → AddsClause names old new (length old.0) (made head end None)
    adds_fact fact = record {
      words = all_words;
      nodes = adds.nodes;
      words_are = words_are;
      nodes_are = nodes_are;
      at_is = refl;
      tree_is = λ later behind.
          ap (λ k. tree_by names (new.1 ++ behind) k head (after later)) fact
          ∙ (λ i. written (record {
            span = record { from = offset_in head; to = end_after later i };
            name = name_at names (number_in head);
            arity = arity_in head;
            body = None;
          }));
    }

-- the kinds of words by their lowest bits

pub kind_call : (word : ℕ) → word % 8 ≡ 0 → kind_of word ≡ Call
kind_call word low =
    if_false (nat_eq (word % 2) 1) _ _ (ne_eqb (word % 2) 1 (λ odd. omega (arith, low, odd))) ∙ if_true (nat_eq (word % 8) 0) _ _ (eq-eqb (word % 8) 0 low)

pub kind_fact : (word : ℕ) → word % 8 ≡ 2 → kind_of word ≡ Fact
kind_fact word low =
    if_false (nat_eq (word % 2) 1) _ _ (ne_eqb (word % 2) 1 (λ odd. omega (arith, low, odd)))
    ∙ (if_false (nat_eq (word % 8) 0) _ _ (ne_eqb (word % 8) 0 (λ none. omega (arith, low, none))) ∙ if_true (nat_eq (word % 8) 2) _ _ (eq-eqb (word % 8) 2 low))

pub kind_rule : (word : ℕ) → word % 8 ≡ 4 → kind_of word ≡ Rule
kind_rule word low =
    if_false (nat_eq (word % 2) 1) _ _ (ne_eqb (word % 2) 1 (λ odd. omega (arith, low, odd)))
    ∙ (if_false (nat_eq (word % 8) 0) _ _ (ne_eqb (word % 8) 0 (λ none. omega (arith, low, none)))
    ∙ (if_false (nat_eq (word % 8) 2) _ _ (ne_eqb (word % 8) 2 (λ two. omega (arith, low, two))) ∙ if_true (nat_eq (word % 8) 4) _ _ (eq-eqb (word % 8) 4 low)))

pub sound_by : (word : ℕ) (kind : Kind) → kind_of word ≡ kind → is_sound_as kind word ≡ true → is_sound word ≡ true
sound_by word kind is sound = ap (λ k. is_sound_as k word) is ∙ sound

-- a step that may fail goes on from what it ensures
pub on_ok : {A E : Type 0} {P Q : Type 0} (result : Result A E) → OnOk result P → (P → Q) → OnOk result Q
on_ok (Ok value) is go = go is
on_ok (Err error) is go = tt
