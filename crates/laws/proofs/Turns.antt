-- What is said in turn, list by list, and the first that is refused.
use Rattle.std.proofs.Common.{◌≡◌, ◌↔◌, ℕ, true, false, List, [], ◌∷◌, ◌++◌, Option, Ok, Err, refl, ap, sym, ◌∙◌, subst, map, flat_map}
use Rattle.std.specs.List.{filter_map}
use Rattle.std.proofs.lemmas.List.Elements.{filter_map-append}
use Rattle.prolog_terms.specs.Tree.{Tree}
use Rattle.module_table.specs.Defined.{AreDefined}
use Rattle.module_table.specs.Said.{Said, Part, Refusal, more, in_turn, each_said}
use Rattle.module_table.specs.Kinds.{declared_part, load_part, defined_part, goal_part, first_of, IsModule, takes_part, marks_part}
use Rattle.module_table.specs.Directives.{Home, home}
use Rattle.module_table.specs.Facts.{Facts, AreFacts, module_of, clause_said, trees_said}
use Rattle.module_table.proofs.SaidLemmas.{ok_once}
use Rattle.laws.specs.Turns.{clauses_said, said_behind, told, AreTold, all_of, IsFirstRefusal, AreFactsOfEach}

-- each says the parts of its list
pub record AreAll (says : List Said) (parts : List Part) : Type 0 where
  pub lists : List (List Part)
  pub told_all : says ≡ map told lists
  pub join : parts ≡ all_of lists

-- each of those before it says the parts of its list, and this one is refused
pub record IsRefused (says : Tree → Said) (trees : List Tree) (refusal : Refusal) : Type 0 where
  pub before : List Tree
  pub tree : Tree
  pub after : List Tree
  pub are : trees ≡ before ++ tree ∷ after
  pub lists : List (List Part)
  pub told_before : map says before ≡ map told lists
  pub refused : says tree ≡ Err refusal

-- two in turn

pub record BothSay (a b : Said) (parts : List Part) : Type 0 where
  pub first : List Part
  pub behind : List Part
  pub says : a ≡ Ok first
  pub then_says : b ≡ Ok behind
  pub join : parts ≡ first ++ behind

pub both_say : (a b : Said) (parts : List Part) → in_turn a b ≡ Ok parts → BothSay a b parts
both_say (Ok xs) (Ok ys) parts is = record { first = xs; behind = ys; says = refl; then_says = refl; join = sym (ok_once (xs ++ ys) parts is) }
both_say (Ok xs) (Err refusal) parts is = let both : Err refusal ≡ Ok parts = is in absurd (cc)
both_say (Err refusal) b parts is = let both : Err refusal ≡ Ok parts = is in absurd (cc)

say_both : (a b : Said) (xs ys : List Part) → a ≡ Ok xs → b ≡ Ok ys → in_turn a b ≡ Ok (xs ++ ys)
say_both a b xs ys first behind = ap (λ s. in_turn s b) first ∙ ap (more xs) behind

module _ (says : Tree → Said) where
  pub each_told : (trees : List Tree) (parts : List Part) → each_said says trees ≡ Ok parts → AreAll (map says trees) parts
  each_told [] parts is = record { lists = []; told_all = refl; join = sym (ok_once [] parts is) }
  each_told (tree ∷ trees) parts is =
      let both = both_say (says tree) (each_said says trees) parts is in
      let rest = each_told trees both.behind both.then_says in
      record {
        lists = both.first ∷ rest.lists;
        told_all = λ i. both.says i ∷ rest.told_all i;
        join = both.join ∙ ap (λ ps. both.first ++ ps) rest.join;
      }

  pub told_each : (trees : List Tree) (lists : List (List Part)) → map says trees ≡ map told lists → each_said says trees ≡ Ok (all_of lists)
  told_each [] [] is = refl
  told_each [] (list ∷ lists) is = absurd (cc)
  told_each (tree ∷ trees) [] is = absurd (cc)
  told_each (tree ∷ trees) (list ∷ lists) is =
      let first : says tree ≡ Ok list = cc in
      let rest : map says trees ≡ map told lists = cc in
      say_both (says tree) (each_said says trees) list (all_of lists) first (told_each trees lists rest)

  pub each_refused : (trees : List Tree) (refusal : Refusal) → each_said says trees ≡ Err refusal → IsRefused says trees refusal
  each_refused [] refusal is = let both : Ok [] ≡ Err refusal = is in absurd (cc)
  each_refused (tree ∷ trees) refusal is = by_first (says tree) (each_said says trees) refl refl is (each_refused trees refusal)
    where
      later : (list : List Part) → says tree ≡ Ok list → IsRefused says trees refusal → IsRefused says (tree ∷ trees) refusal
      later list first found = record {
        before = tree ∷ found.before;
        tree = found.tree;
        after = found.after;
        are = ap (λ ts. tree ∷ ts) found.are;
        lists = list ∷ found.lists;
        told_before = λ i. first i ∷ found.told_before i;
        refused = found.refused;
      }

      by_first : (first rest : Said) → says tree ≡ first → each_said says trees ≡ rest → in_turn first rest ≡ Err refusal
          → (each_said says trees ≡ Err refusal → IsRefused says trees refusal) → IsRefused says (tree ∷ trees) refusal
      by_first (Ok list) (Ok parts) first same said refused_there = let both : Ok (list ++ parts) ≡ Err refusal = said in absurd (cc)
      by_first (Ok list) (Err own) first same said refused_there = later list first (refused_there (same ∙ said))
      by_first (Err own) rest first same said refused_there =
          record { before = []; tree = tree; after = trees; are = refl; lists = []; told_before = refl; refused = first ∙ said }

  pub refused_each : (before after : List Tree) (tree : Tree) (lists : List (List Part)) (refusal : Refusal) → map says before ≡ map told lists → says tree ≡ Err refusal
      → each_said says (before ++ tree ∷ after) ≡ Err refusal
  refused_each [] after tree lists refusal are is = ap (λ s. in_turn s (each_said says after)) is
  refused_each (first ∷ before) after tree [] refusal are is = absurd (cc)
  refused_each (first ∷ before) after tree (list ∷ lists) refusal are is =
      let here : says first ≡ Ok list = cc in
      let rest : map says before ≡ map told lists = cc in
      ap (λ s. in_turn s (each_said says (before ++ tree ∷ after))) here ∙ ap (more list) (refused_each before after tree lists refusal rest is)

-- of a file

pub file_told : (user : Home) (trees : List Tree) (parts : List Part) → trees_said user trees ≡ Ok parts → AreAll (clauses_said user trees) parts
file_told user [] parts is = record { lists = []; told_all = refl; join = sym (ok_once [] parts is) }
file_told user (tree ∷ trees) parts is =
    let both = both_say (clause_said user true tree) (each_said (clause_said user false) trees) parts is in
    let rest = each_told (clause_said user false) trees both.behind both.then_says in
    record {
      lists = both.first ∷ rest.lists;
      told_all = λ i. both.says i ∷ rest.told_all i;
      join = both.join ∙ ap (λ ps. both.first ++ ps) rest.join;
    }

told_file : (user : Home) (trees : List Tree) (lists : List (List Part)) → AreTold user trees lists → trees_said user trees ≡ Ok (all_of lists)
told_file user [] [] is = refl
told_file user [] (list ∷ lists) is = absurd (cc)
told_file user (tree ∷ trees) [] is = absurd (cc)
told_file user (tree ∷ trees) (list ∷ lists) is =
    let first : clause_said user true tree ≡ Ok list = cc in
    let rest : map (clause_said user false) trees ≡ map told lists = cc in
    say_both (clause_said user true tree) (each_said (clause_said user false) trees) list (all_of lists) first (told_each (clause_said user false) trees lists rest)

pub parts_told : (user : Home) (trees : List Tree) (parts : List Part)
    → (trees_said user trees ≡ Ok parts) ↔ ((lists : List (List Part)) × AreTold user trees lists × (parts ≡ all_of lists))
parts_told user trees parts = (
  λ is. let all = file_told user trees parts is in (all.lists, all.told_all, all.join),
  λ all. told_file user trees all.0 all.1 ∙ ap (λ ps. Ok ps) (sym all.2),
)

refused_file : (user : Home) (before after : List Tree) (tree : Tree) (lists : List (List Part)) (refusal : Refusal) → AreTold user before lists
    → said_behind user before tree ≡ Err refusal → trees_said user (before ++ tree ∷ after) ≡ Err refusal
refused_file user [] after tree lists refusal are is = ap (λ s. in_turn s (each_said (clause_said user false) after)) is
refused_file user (first ∷ before) after tree [] refusal are is = absurd (cc)
refused_file user (first ∷ before) after tree (list ∷ lists) refusal are is =
    let here : clause_said user true first ≡ Ok list = cc in
    let rest : map (clause_said user false) before ≡ map told lists = cc in
    ap (λ s. in_turn s (each_said (clause_said user false) (before ++ tree ∷ after))) here
    ∙ ap (more list) (refused_each (clause_said user false) before after tree lists refusal rest is)

file_refused : (user : Home) (trees : List Tree) (refusal : Refusal) → trees_said user trees ≡ Err refusal → IsFirstRefusal user trees refusal
file_refused user [] refusal is = let both : Ok [] ≡ Err refusal = is in absurd (cc)
file_refused user (tree ∷ trees) refusal is = by_first (clause_said user true tree) (each_said (clause_said user false) trees) refl refl is
  where
    later : (list : List Part) → clause_said user true tree ≡ Ok list → IsRefused (clause_said user false) trees refusal → IsFirstRefusal user (tree ∷ trees) refusal
    later list first found = record {
      before = tree ∷ found.before;
      tree = found.tree;
      after = found.after;
      are = ap (λ ts. tree ∷ ts) found.are;
      lists = list ∷ found.lists;
      told_before = λ i. first i ∷ found.told_before i;
      refused = found.refused;
    }

    by_first : (first rest : Said) → clause_said user true tree ≡ first → each_said (clause_said user false) trees ≡ rest → in_turn first rest ≡ Err refusal
        → IsFirstRefusal user (tree ∷ trees) refusal
    by_first (Ok list) (Ok parts) first same said = let both : Ok (list ++ parts) ≡ Err refusal = said in absurd (cc)
    by_first (Ok list) (Err own) first same said = later list first (each_refused (clause_said user false) trees refusal (same ∙ said))
    by_first (Err own) rest first same said =
        record { before = []; tree = tree; after = trees; are = refl; lists = []; told_before = refl; refused = first ∙ said }

pub first_refusal : (user : Home) (trees : List Tree) (refusal : Refusal) → (trees_said user trees ≡ Err refusal) ↔ IsFirstRefusal user trees refusal
first_refusal user trees refusal = (
  file_refused user trees refusal,
  λ found. ap (trees_said user) found.are ∙ refused_file user found.before found.after found.tree found.lists refusal found.told_before found.refused,
)

-- the parts of one kind are those of each list
kind_of_each : {A : Type 0} (kind : Part → Option A) (lists : List (List Part)) → filter_map kind (all_of lists) ≡ flat_map (filter_map kind) lists
kind_of_each kind [] = refl
kind_of_each kind (list ∷ lists) = filter_map-append kind list (all_of lists) ∙ ap (λ xs. filter_map kind list ++ xs) (kind_of_each kind lists)

pub facts_of_each : (user : List ℕ) (trees : List Tree) (facts : Facts) → AreFacts user trees facts → AreFactsOfEach user trees facts
facts_of_each user trees facts are =
    let all = file_told (home user (module_of trees)) trees are.parts are.said in
    let declared = ap (filter_map declared_part) all.join ∙ kind_of_each declared_part all.lists in
    let defined = ap (filter_map defined_part) all.join ∙ kind_of_each defined_part all.lists in
    record {
      lists = all.lists;
      are = all.told_all;
      of_module = subst (λ ds. IsModule (first_of ds) facts.module_ facts.is_module facts.module_from facts.exports) declared are.are.of_module;
      loads = are.are.loads ∙ (ap (filter_map load_part) all.join ∙ kind_of_each load_part all.lists);
      defined = subst (λ ds. AreDefined ds facts.defined) defined are.are.defined;
      metas = are.are.metas ∙ (ap (filter_map takes_part) all.join ∙ kind_of_each takes_part all.lists);
      marks = are.are.marks ∙ (ap (filter_map marks_part) all.join ∙ kind_of_each marks_part all.lists);
      goals = are.are.goals ∙ (ap (filter_map goal_part) all.join ∙ kind_of_each goal_part all.lists);
    }
