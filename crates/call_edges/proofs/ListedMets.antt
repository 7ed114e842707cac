-- The lists of what is met have just what is met.
use Rattle.std.proofs.Common.{◌≡◌, ◌↔◌, inl, inr, ℕ, suc, ◌+◌, List, [], ◌∷◌, ◌++◌, Some, length, slice_get, ap, sym, ◌∙◌, subst, refl, arith, append_assoc, append-nil}
use Rattle.std.specs.Prelude.{Contains}
use Rattle.std.specs.Option.{option_to_list}
use Rattle.prolog_terms.specs.Tree.{Tree, Trees, variable, constant, atom, compound, listed, tailed, curly, paren, more, none}
use Rattle.prolog_terms.specs.Views.{trees_in}
use Rattle.call_edges.specs.declared.role.Role.{Role}
use Rattle.call_edges.specs.Goals.{Met, place, Rows, Taken, taken, met_at, argument_role, curly_role, IsMet, AddsMet}
use Rattle.call_edges.specs.Listed.{mets_in, mets_among}
use Rattle.list_laws.proofs.OneOrder.{nothing_in}
use Rattle.call_edges.proofs.MetLemmas.{adds_own, adds_part, compound_adds, AddsBelow, below_none, below_more, below_all}

-- the trees are those of the list from a place on
record AreFrom (all : List Tree) (k : ℕ) (trees : List Tree) : Type 0 where
  each : (i : ℕ) → slice_get all (k + i) ≡ slice_get trees i

module _ (T : Rows) where
  mutual
    pub mets_add : (owner : List ℕ) (role : Role) (tree : Tree) (old : List Met) → AddsMet T (place owner role tree) old (old ++ mets_in T owner role tree)
    mets_add owner role (variable span) old = adds_own T (place owner role (variable span)) old (old ++ []) (λ q is. is) refl
    mets_add owner role (constant kind minus value span) old =
        let tree = constant kind minus value span in
        adds_own T (place owner role tree) old (old ++ option_to_list (met_at T owner role tree)) (λ q is. is) refl
    mets_add owner role (atom name span) old =
        let tree = atom name span in
        adds_own T (place owner role tree) old (old ++ option_to_list (met_at T owner role tree)) (λ q is. is) refl
    mets_add owner role (compound name args form span) old =
        let apart = taken T span.from owner role name (trees_in args) in
        let own = old ++ option_to_list apart.met in
        let new = own ++ mets_among T apart 0 args in
        let all =
        among_add apart (trees_in args) 0 args own own (record { each = λ i. ap (slice_get (trees_in args)) (omega arith) })
        (below_none T apart (trees_in args) own) in
        let adds = below_all T apart (trees_in args) (0 + length (trees_in args)) own new (omega arith) all in
        let whole = compound_adds T owner role name args form span old own new refl adds in
        let Q : List Met → Type 0 = λ xs. AddsMet T (place owner role (compound name args form span)) old xs in
        subst Q (append_assoc old (option_to_list apart.met) (mets_among T apart 0 args)) whole
    mets_add owner role (listed items span) old = adds_own T (place owner role (listed items span)) old (old ++ []) (λ q is. is) refl
    mets_add owner role (tailed items tail span) old = adds_own T (place owner role (tailed items tail span)) old (old ++ []) (λ q is. is) refl
    mets_add owner role (curly inner span) old =
        adds_part T (place owner role (curly inner span)) (place owner (curly_role role) inner) old (old ++ mets_in T owner (curly_role role) inner) refl (λ x same. same) refl
        (mets_add owner (curly_role role) inner old)
    mets_add owner role (paren inner span) old =
        adds_part T (place owner role (paren inner span)) (place owner role inner) old (old ++ mets_in T owner role inner) refl (λ x same. same) refl
        (mets_add owner role inner old)

    among_add : (apart : Taken) (all : List Tree) (k : ℕ) (trees : Trees) (old mid : List Met) → AreFrom all k (trees_in trees) → AddsBelow T apart all k old mid
        → AddsBelow T apart all (k + length (trees_in trees)) old (mid ++ mets_among T apart k trees)
    among_add apart all k none old mid are first =
        let P : ℕ → Type 0 = λ n. AddsBelow T apart all n old (mid ++ []) in
        let Q : List Met → Type 0 = λ xs. AddsBelow T apart all k old xs in
        let here : k ≡ k + 0 = omega arith in
        subst P here (subst Q (sym (append-nil mid)) first)
    among_add apart all k (more tree trees) old mid are first =
        let read : slice_get all k ≡ Some tree = ap (slice_get all) (omega arith) ∙ are.each 0 in
        let own = mets_in T apart.module_ (argument_role apart k) tree in
        let next = below_more T apart all k tree old mid (mid ++ own) read first (mets_add apart.module_ (argument_role apart k) tree mid) in
        let rest : AreFrom all (k + 1) (trees_in trees) = record { each = λ i. ap (slice_get all) (omega arith) ∙ are.each (suc i) } in
        let later = among_add apart all (k + 1) trees old (mid ++ own) rest next in
        let count : (k + 1) + length (trees_in trees) ≡ k + length (tree ∷ trees_in trees) = omega arith in
        let more_mets = mets_among T apart (k + 1) trees in
        let P : ℕ → Type 0 = λ n. AddsBelow T apart all n old ((mid ++ own) ++ more_mets) in
        let Q : List Met → Type 0 = λ xs. AddsBelow T apart all (k + length (tree ∷ trees_in trees)) old xs in
        subst Q (append_assoc mid own more_mets) (subst P count later)

  -- the list has just what is met
  pub mets_are : (owner : List ℕ) (role : Role) (tree : Tree) (m : Met) → Contains (mets_in T owner role tree) m ↔ IsMet T (place owner role tree) m
  mets_are owner role tree m =
      let adds = mets_add owner role tree [] in (
        λ has. elim ((adds.each m).0 has) [ inl before ↦ absurd (nothing_in m before) | inr met ↦ met ],
        λ met. (adds.each m).1 (inr met),
      )
