-- Clauses of a list stay what they are as others are added to it.
use Rattle.std.proofs.Common.{◌≡◌, ℕ, List, [], ◌∷◌, ◌++◌, drop, length, map, refl, sym, ap, ◌∙◌, append_assoc, append-nil}
use Rattle.std.proofs.Math.Seq.{drop-append_seam}
use Rattle.std.proofs.lemmas.List.{map-append}
use Rattle.prolog_terms.specs.declared.node.Node.{Node}
use Rattle.prolog_terms.specs.Tree.{Tree}
use Rattle.kept_clauses.specs.Words.{first_tree, kept_tree, Kept, AddsClause, AreKept}

module _ (names : List (List ℕ)) where
  pub none_kept : (kept : Kept) → AreKept names kept [] []
  none_kept kept = λ later behind. refl

  -- the clauses of a list as it is
  pub kept_now : (kept : Kept) (begins : List ℕ) (trees : List Tree) → AreKept names kept begins trees → map (kept_tree names kept) begins ≡ trees
  kept_now kept begins trees are = (λ i. map (kept_tree names (sym (append-nil kept.0) i, sym (append-nil kept.1) i)) begins) ∙ are [] []

  module _ (old new : Kept) (at : ℕ) (tree : Tree) (adds : AddsClause names old new at tree) where
    behind_old : (later : List ℕ) (behind : List Node) → ◌≡◌ {A = Kept} (new.0 ++ later, new.1 ++ behind) (old.0 ++ (adds.words ++ later), old.1 ++ (adds.nodes ++ behind))
    behind_old later behind = λ i. (
      (ap (λ ws. ws ++ later) adds.words_are ∙ append_assoc old.0 adds.words later) i,
      (ap (λ ns. ns ++ behind) adds.nodes_are ∙ append_assoc old.1 adds.nodes behind) i,
    )

    pub kept_still : (begins : List ℕ) (trees : List Tree) → AreKept names old begins trees → AreKept names new begins trees
    kept_still begins trees are = λ later behind.
        ap (λ (k : Kept). map (kept_tree names k) begins) (behind_old later behind) ∙ are (adds.words ++ later) (adds.nodes ++ behind)

    kept_here : (later : List ℕ) (behind : List Node) → kept_tree names (new.0 ++ later, new.1 ++ behind) at ≡ tree
    kept_here later behind =
        let words : drop at (new.0 ++ later) ≡ adds.words ++ later =
        (λ i. drop (adds.at_is i) ((ap (λ ws. ws ++ later) adds.words_are ∙ append_assoc old.0 adds.words later) i)) ∙ drop-append_seam old.0 (adds.words ++ later) in
        ap (first_tree names (new.1 ++ behind)) words ∙ adds.tree_is later behind

    pub kept_one : kept_tree names new at ≡ tree
    kept_one = (λ i. kept_tree names (sym (append-nil new.0) i, sym (append-nil new.1) i) at) ∙ kept_here [] []

    pub kept_more : (begins : List ℕ) (trees : List Tree) → AreKept names old begins trees → AreKept names new (begins ++ at ∷ []) (trees ++ tree ∷ [])
    kept_more begins trees are = λ later behind.
        map-append (kept_tree names (new.0 ++ later, new.1 ++ behind)) begins (at ∷ [])
        ∙ (λ i. kept_still begins trees are later behind i ++ kept_here later behind i ∷ [])
