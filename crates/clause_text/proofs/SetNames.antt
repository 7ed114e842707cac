-- What an operator item does at the names that it has.
use Rattle.std.proofs.Common.{◌≡◌, ℕ, ◌+◌, ◌<◌, List, [], ◌∷◌, ◌++◌, Option, Some, None, Ok, Err, length, get_or, take, drop, map, filter_map, option_to_list, ap, sym, ◌∙◌, refl}
use Rattle.std.proofs.lemmas.List.{map_more, map-append, take-append-drop}
use Rattle.std.proofs.lemmas.List.Elements.{filter_map-append}
use Rattle.prolog_ops.specs.Table.{Ops, set_fault, with_set}
use Rattle.prolog_ops.specs.declared.op.OpKind.{OpKind}
use Rattle.clause_text.specs.declared.fault.TextFault.{TextFault}
use Rattle.clause_text.specs.Items.{Answer, Name, each_on, name_on, set_or}
use Rattle.clause_text.proofs.EachOn.{each_one, each_then, each_stops}
use Rattle.prolog_terms.specs.Tree.{Tree}
use Rattle.prolog_terms.specs.Terms.{tree_of}
use Rattle.prolog_terms.specs.declared.term.Term.{Term}

-- where a term is a name, the operator is set at it
pub name_set : (kind : OpKind) (priority : ℕ) (name : Name) (table left : Ops) (named : Option Name) → Some name ≡ named → set_fault table name.text kind priority ≡ None
    → left ≡ with_set table name.text kind priority → each_on (name_on kind priority) (option_to_list named) table ≡ Ok left
name_set kind priority name table left named is none done =
    ap (λ found. each_on (name_on kind priority) (option_to_list found) table) (sym is)
    ∙ (each_one (name_on kind priority) name table
    ∙ (ap (λ fault. set_or fault name.at (with_set table name.text kind priority)) none ∙ ap (λ T. Ok T) (sym done)))

-- in a loop over terms, one that says something, or nothing, is one thing more to do

alone : {A : Type 0} (of : Tree → Option A) (tree : Tree) (said : Option A) → of tree ≡ said → filter_map of (tree ∷ []) ≡ option_to_list (of tree)
alone of tree None says = rw says refl
alone of tree (Some x) says = rw says refl

more_listed : {A : Type 0} (of : Tree → Option A) (terms : List Term) (at : ℕ) (term : Term) → at < length terms → term ≡ get_or terms at term
    → filter_map of (map tree_of (take (at + 1) terms)) ≡ filter_map of (map tree_of (take at terms)) ++ option_to_list (of (tree_of term))
more_listed of terms at term below is =
    ap (filter_map of) (map_more tree_of terms at term below)
    ∙ (ap (λ x. filter_map of (map tree_of (take at terms) ++ tree_of x ∷ [])) (sym is)
    ∙ (filter_map-append of (map tree_of (take at terms)) (tree_of term ∷ []) ∙ ap (λ xs. filter_map of (map tree_of (take at terms)) ++ xs) (alone of (tree_of term) (of (tree_of term)) refl)))

pub more_done : {A : Type 0} (on : A → Ops → Answer) (of : Tree → Option A) (terms : List Term) (at : ℕ) (term : Term) (table before left : Ops) → at < length terms
    → term ≡ get_or terms at term → each_on on (filter_map of (map tree_of (take at terms))) table ≡ Ok before → each_on on (option_to_list (of (tree_of term))) before ≡ Ok left
    → each_on on (filter_map of (map tree_of (take (at + 1) terms))) table ≡ Ok left
more_done on of terms at term table before left below is done more =
    ap (λ xs. each_on on xs table) (more_listed of terms at term below is)
    ∙ (each_then on (filter_map of (map tree_of (take at terms))) (option_to_list (of (tree_of term))) table before done ∙ more)

-- and a refusal of it is one of all
pub more_refused : {A : Type 0} (on : A → Ops → Answer) (of : Tree → Option A) (terms : List Term) (at : ℕ) (term : Term) (table before : Ops) (fault : TextFault) → at < length terms
    → term ≡ get_or terms at term → each_on on (filter_map of (map tree_of (take at terms))) table ≡ Ok before → each_on on (option_to_list (of (tree_of term))) before ≡ Err fault
    → each_on on (filter_map of (map tree_of terms)) table ≡ Err fault
more_refused on of terms at term table before fault below is done more =
    let front = filter_map of (map tree_of (take (at + 1) terms)) in
    let rest = filter_map of (map tree_of (drop (at + 1) terms)) in
    let both : filter_map of (map tree_of terms) ≡ front ++ rest =
    ap (λ xs. filter_map of (map tree_of xs)) (sym (take-append-drop (at + 1) terms))
    ∙ (ap (filter_map of) (map-append tree_of (take (at + 1) terms) (drop (at + 1) terms))
    ∙ filter_map-append of (map tree_of (take (at + 1) terms)) (map tree_of (drop (at + 1) terms))) in
    let stops : each_on on front table ≡ Err fault =
    ap (λ xs. each_on on xs table) (more_listed of terms at term below is)
    ∙ (each_then on (filter_map of (map tree_of (take at terms))) (option_to_list (of (tree_of term))) table before done ∙ more) in
    ap (λ xs. each_on on xs table) both ∙ each_stops on front rest table fault stops
