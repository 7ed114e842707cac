-- What is said, by kind.
use Rattle.std.proofs.Common.{◌≡◌, ℕ, map, flat_map, List, [], ◌∷◌, ◌++◌, Option, Some, None, Result, Ok, Err, refl, ap, sym, ◌∙◌, append_assoc, append-nil, subst}
use Rattle.std.specs.List.{filter_map}
use Rattle.std.proofs.lemmas.List.Elements.{filter_map-append}
use Rattle.module_table.specs.declared.kinds.Kinds.{Kinds}
use Rattle.prolog_terms.specs.declared.node.Node.{Node}
use Rattle.prolog_terms.specs.Tree.{Tree}
use Rattle.prolog_terms.specs.declared.term.Term.{Term}
use Rattle.prolog_terms.specs.Terms.{tree_in, IsOf}
use Rattle.module_table.specs.Metas.{Declaration}
use Rattle.module_table.specs.Marks.{defined_bare}
use Rattle.module_table.specs.Said.{Said, Part, Refusal, Declares, declares, loads, defines, takes, marks, goal, more, in_turn}
use Rattle.module_table.specs.Kinds.{declared_part, load_part, defined_part, takes_part, marks_part, goal_part, first_of, first_module_seen, ByKind, none_said, with_part, with_parts, with_said}
use Rattle.module_table.specs.Facts.{goal_trees}
use Rattle.module_table.specs.Kept.{see_kinds, AreSaid, IsAdded}

module _ {B : Type 0} (f : Part → Option B) (parts : List Part) (part : Part) where
  only_none : (found : Option B) → f part ≡ found → found ≡ None → filter_map f (part ∷ []) ≡ []
  only_none found is none = rw (is ∙ none) refl

  only_some : (x : B) → f part ≡ Some x → filter_map f (part ∷ []) ≡ x ∷ []
  only_some x is = rw is refl

  kept : f part ≡ None → filter_map f (parts ++ part ∷ []) ≡ filter_map f parts
  kept is = filter_map-append f parts (part ∷ []) ∙ (ap (λ l. filter_map f parts ++ l) (only_none (f part) refl is) ∙ append-nil (filter_map f parts))

  added : (x : B) → f part ≡ Some x → filter_map f (parts ++ part ∷ []) ≡ filter_map f parts ++ x ∷ []
  added x is = filter_map-append f parts (part ∷ []) ∙ ap (λ l. filter_map f parts ++ l) (only_some x is)

first_more : (all : List Declares) (own : Declares) → first_module_seen (first_of all) own ≡ first_of (all ++ own ∷ [])
first_more [] own = refl
first_more (first ∷ all) own = refl

-- the parts of each kind

abbrev by_kind : List Part → ByKind
by_kind parts = record {
  declared = first_of (filter_map declared_part parts);
  loads = filter_map load_part parts;
  definitions = filter_map defined_part parts;
  takes = filter_map takes_part parts;
  marks = filter_map marks_part parts;
  goals = filter_map goal_part parts;
}

one_more : (before : List Part) (part : Part) → with_part (by_kind before) part ≡ by_kind (before ++ part ∷ [])
one_more before (declares own) =
    let part = declares own in
    let declared = first_more (filter_map declared_part before) own ∙ ap first_of (sym (added declared_part before part own refl)) in
    let loads_kept = sym (kept load_part before part refl) in
    let definitions = sym (kept defined_part before part refl) in
    let takes_kept = sym (kept takes_part before part refl) in
    let marks_kept = sym (kept marks_part before part refl) in
    let goals = sym (kept goal_part before part refl) in
    λ i. record { declared = declared i; loads = loads_kept i; definitions = definitions i; takes = takes_kept i; marks = marks_kept i; goals = goals i }
one_more before (loads own) =
    let part = loads own in
    let declared = ap first_of (sym (kept declared_part before part refl)) in
    let loads_more = sym (added load_part before part own refl) in
    let definitions = sym (kept defined_part before part refl) in
    let takes_kept = sym (kept takes_part before part refl) in
    let marks_kept = sym (kept marks_part before part refl) in
    let goals = sym (kept goal_part before part refl) in
    λ i. record { declared = declared i; loads = loads_more i; definitions = definitions i; takes = takes_kept i; marks = marks_kept i; goals = goals i }
one_more before (defines own) =
    let part = defines own in
    let declared = ap first_of (sym (kept declared_part before part refl)) in
    let loads_kept = sym (kept load_part before part refl) in
    let definitions = sym (added defined_part before part own refl) in
    let takes_kept = sym (kept takes_part before part refl) in
    let marks_kept = sym (kept marks_part before part refl) in
    let goals = sym (kept goal_part before part refl) in
    λ i. record { declared = declared i; loads = loads_kept i; definitions = definitions i; takes = takes_kept i; marks = marks_kept i; goals = goals i }
one_more before (takes own) =
    let part = takes own in
    let declared = ap first_of (sym (kept declared_part before part refl)) in
    let loads_kept = sym (kept load_part before part refl) in
    let definitions = sym (kept defined_part before part refl) in
    let takes_more = sym (added takes_part before part own refl) in
    let marks_kept = sym (kept marks_part before part refl) in
    let goals = sym (kept goal_part before part refl) in
    λ i. record { declared = declared i; loads = loads_kept i; definitions = definitions i; takes = takes_more i; marks = marks_kept i; goals = goals i }
one_more before (marks own) =
    let part = marks own in
    let declared = ap first_of (sym (kept declared_part before part refl)) in
    let loads_kept = sym (kept load_part before part refl) in
    let definitions = sym (added defined_part before part (defined_bare own) refl) in
    let takes_kept = sym (kept takes_part before part refl) in
    let marks_more = sym (added marks_part before part own refl) in
    let goals = sym (kept goal_part before part refl) in
    λ i. record { declared = declared i; loads = loads_kept i; definitions = definitions i; takes = takes_kept i; marks = marks_more i; goals = goals i }
one_more before (goal own) =
    let part = goal own in
    let declared = ap first_of (sym (kept declared_part before part refl)) in
    let loads_kept = sym (kept load_part before part refl) in
    let definitions = sym (kept defined_part before part refl) in
    let takes_kept = sym (kept takes_part before part refl) in
    let marks_kept = sym (kept marks_part before part refl) in
    let goals = sym (added goal_part before part own refl) in
    λ i. record { declared = declared i; loads = loads_kept i; definitions = definitions i; takes = takes_kept i; marks = marks_kept i; goals = goals i }

some_more : (before parts : List Part) → with_parts (by_kind before) parts ≡ by_kind (before ++ parts)
some_more before [] = ap by_kind (sym (append-nil before))
some_more before (part ∷ parts) =
    ap (λ k. with_parts k parts) (one_more before part) ∙ (some_more (before ++ part ∷ []) parts ∙ ap by_kind (append_assoc before (part ∷ []) parts))

abbrev told : ByKind → Result ByKind Refusal
told k = Ok k

told_once : (j k : ByKind) → told j ≡ told k → j ≡ k
told_once j k is = cc

-- kinds that begin with none are of all that is said, where no directive is under way
pub are_said : (names : List (List ℕ)) (said : Said) (kinds : Kinds) → kinds.ends.items ≡ [] → with_said none_said said ≡ Ok (see_kinds names [] kinds) → AreSaid names said kinds
are_said names (Ok parts) kinds closed is =
    let same : see_kinds names [] kinds ≡ by_kind parts = sym (told_once (with_parts none_said parts) (see_kinds names [] kinds) is) ∙ some_more [] parts in
    let kept : List Tree = flat_map (goal_trees names) kinds.goals.items in
    let goals : kept ≡ kept ++ map (tree_in names []) kinds.ends.items = sym (ap (λ ends. kept ++ map (tree_in names []) ends) closed ∙ append-nil kept) in
    record {
      parts = parts;
      is = refl;
      are = record {
        declared = ap (λ k. k.declared) same;
        loads = ap (λ k. k.loads) same;
        definitions = ap (λ k. k.definitions) same;
        takes = ap (λ k. k.takes) same;
        marks = ap (λ k. k.marks) same;
        goals = goals ∙ ap (λ k. k.goals) same;
      };
    }
are_said names (Err refusal) kinds closed is = let both : Err refusal ≡ told (see_kinds names [] kinds) = is in absurd (cc)

-- what is said in turn

pub parts_append : (k : ByKind) (parts others : List Part) → with_parts k (parts ++ others) ≡ with_parts (with_parts k parts) others
parts_append k [] others = refl
parts_append k (part ∷ parts) others = parts_append (with_part k part) parts others

with_more : (k : ByKind) (parts : List Part) (said : Said) → with_said k (more parts said) ≡ with_said (with_parts k parts) said
with_more k parts (Ok others) = ap (λ j. Ok j) (parts_append k parts others)
with_more k parts (Err refusal) = refl

pub kinds_go_on : (old mid new : ByKind) (a b : Said) → with_said old a ≡ Ok mid → with_said mid b ≡ Ok new → with_said old (in_turn a b) ≡ Ok new
kinds_go_on old mid new (Ok parts) b is also = with_more old parts b ∙ (ap (λ k. with_said k b) (told_once (with_parts old parts) mid is) ∙ also)
kinds_go_on old mid new (Err refusal) b is also = let both : Err refusal ≡ told mid = is in absurd (cc)

-- declarations behind what was said
pub takes_on : (k : ByKind) (more : List Declaration) → with_parts k (map takes more) ≡ record k { takes = k.takes ++ more }
takes_on k [] = λ i. record k { takes = sym (append-nil k.takes) i }
takes_on k (one ∷ more) = takes_on (with_part k (takes one)) more ∙ (λ i. record k { takes = append_assoc k.takes (one ∷ []) more i })

-- the parts that were added
pub added_parts : (old new : ByKind) (said : Said) → with_said old said ≡ Ok new → (parts : List Part) × (said ≡ Ok parts)
added_parts old new (Ok parts) is = (parts, refl)
added_parts old new (Err refusal) is = let both : Err refusal ≡ told new = is in absurd (cc)

-- what is added in turn

pub adds_on : (names : List (List ℕ)) (old mid new : Kinds) (a b : Said) → IsAdded names old a mid → IsAdded names mid b new → IsAdded names old (in_turn a b) new
adds_on names old mid new a b is also nodes = kinds_go_on (see_kinds names nodes old) (see_kinds names nodes mid) (see_kinds names nodes new) a b (is nodes) (also nodes)

pub parts_of_added : (names : List (List ℕ)) (old new : Kinds) (said : Said) → IsAdded names old said new → (parts : List Part) × (said ≡ Ok parts)
parts_of_added names old new said is = added_parts (see_kinds names [] old) (see_kinds names [] new) said (is [])

-- where no directive is under way, no nodes are asked for
pub none_open : (names : List (List ℕ)) (nodes others : List Node) (kinds : Kinds) → kinds.ends.items ≡ [] → see_kinds names nodes kinds ≡ see_kinds names others kinds
none_open names nodes others kinds closed =
    let ends : map (tree_in names nodes) kinds.ends.items ≡ map (tree_in names others) kinds.ends.items =
    ap (map (tree_in names nodes)) closed ∙ sym (ap (map (tree_in names others)) closed) in
    λ i. record (see_kinds names nodes kinds) { goals = flat_map (goal_trees names) kinds.goals.items ++ ends i }

-- what is added while a directive of these nodes is under way

abbrev pub IsAddedAt : List (List ℕ) → List Node → Kinds → Said → Kinds → Type 0
IsAddedAt names nodes old said new = with_said (see_kinds names nodes old) said ≡ Ok (see_kinds names nodes new)

pub added_by : (names : List (List ℕ)) (nodes : List Node) (term : Term) (old new : Kinds) (says : List (List ℕ) → Said) → IsOf names nodes term
    → IsAddedAt term.names.now term.nodes.now old (says term.names.now) new → IsAddedAt names nodes old (says names) new
added_by names nodes term old new says of is =
    subst (λ n. IsAddedAt names n old (says names) new) of.1 (subst (λ n. IsAddedAt n term.nodes.now old (says n) new) of.0 is)
