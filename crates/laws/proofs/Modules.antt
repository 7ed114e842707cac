-- The first clause alone declares a module, and then it says nothing else.
use Rattle.std.proofs.Common.{◌≡◌, ◌⊎◌, inl, inr, ℕ, true, false, List, [], ◌∷◌, ◌++◌, Ok, Err, refl, ap, sym, ◌∙◌, subst, append-nil}
use Rattle.std.specs.Prelude.{All, Contains}
use Rattle.std.specs.List.{filter_map}
use Rattle.std.proofs.lemmas.List.Elements.{All-cons, All-append, All-head, All-tail, All-weaker, All-contains, filter_map-append}
use Rattle.prolog_terms.specs.Tree.{Tree}
use Rattle.module_table.specs.Said.{Said, Part, Declares, declares, loads, defines, takes, marks, goal, Refusal, in_turn, each_said}
use Rattle.module_table.specs.Kinds.{declared_part, first_of, IsModule}
use Rattle.module_table.specs.Directives.{Home, home}
use Rattle.module_table.specs.Facts.{Facts, AreFacts, module_by, module_of, clause_said, trees_said, file_said}
use Rattle.laws.specs.Turns.{module_in, first_module}
use Rattle.laws.specs.Causes.{is_fact_cause}
use Rattle.laws.proofs.Turns.{both_say}
use Rattle.laws.proofs.Causes.{Plain, IsPlain, AtMostOne, One, clause_one, later_plain, later_all_plain}

pub none_later : (user : Home) (tree : Tree) (parts : List Part) (own : Declares) → clause_said user false tree ≡ Ok parts → Contains parts (declares own) → ⊥
none_later user tree parts own is has = All-contains IsPlain parts (declares own) (subst Plain is (later_plain user tree)) has

-- it declares no module, or this one
abbrev IsNoneBut : Declares → Part → Type 0
IsNoneBut one part = IsPlain part ⊎ (part ≡ declares one)

same_module : (one own : Declares) → IsNoneBut one (declares own) → one ≡ own
same_module one own (inl plain) = absurd plain
same_module one own (inr is) = cc

only_first : (first behind parts : List Part) (own : Declares) → AtMostOne true first → All IsPlain behind → parts ≡ first ++ behind → Contains parts (declares own)
    → first ≡ declares own ∷ []
only_first first behind parts own (inl plain) later is has =
    absurd (All-contains IsPlain parts (declares own) (subst (All IsPlain) (sym is) (All-append IsPlain first behind plain later)) has)
only_first first behind parts own (inr (yes_, (one, alone))) later is has =
    let rest : All (IsNoneBut one) behind = All-weaker IsPlain (IsNoneBut one) (λ part plain. inl plain) behind later in
    let all : All (IsNoneBut one) (declares one ∷ behind) = All-cons (IsNoneBut one) (declares one) behind (inr (λ i. declares one)) rest in
    let whole : declares one ∷ behind ≡ parts = sym (is ∙ ap (λ ps. ps ++ behind) alone) in
    alone ∙ ap (λ m. declares m ∷ []) (same_module one own (All-contains (IsNoneBut one) parts (declares own) (subst (All (IsNoneBut one)) whole all) has))

pub module_first : (user : List ℕ) (tree : Tree) (trees : List Tree) (parts : List Part) (own : Declares) → file_said user (tree ∷ trees) ≡ Ok parts → Contains parts (declares own)
    → clause_said (home user (module_by tree)) true tree ≡ Ok (declares own ∷ [])
module_first file tree trees parts own is has =
    let user = home file (module_by tree) in
    let both = both_say (clause_said user true tree) (each_said (clause_said user false) trees) parts is in
    let one : AtMostOne true both.first = subst (One true) both.says (clause_one user true tree) in
    let later : All IsPlain both.behind = subst Plain both.then_says (later_all_plain user trees) in
    both.says ∙ ap (λ ps. Ok ps) (only_first both.first both.behind parts own one later both.join has)

-- the cause of a refusal

abbrev IsCaused : Said → Type 0
IsCaused (Ok parts) = Unit {0}
IsCaused (Err refusal) = is_fact_cause refusal.cause ≡ true

of_one : (said : Said) → One true said → IsCaused said
of_one (Ok parts) one = tt
of_one (Err refusal) one = one

of_plain : (said : Said) → Plain said → IsCaused said
of_plain (Ok parts) plain = tt
of_plain (Err refusal) plain = plain

of_both : (a b : Said) → IsCaused a → IsCaused b → IsCaused (in_turn a b)
of_both (Ok xs) (Ok ys) one other = tt
of_both (Ok xs) (Err refusal) one other = other
of_both (Err refusal) b one other = one

file_caused : (user : Home) (trees : List Tree) → IsCaused (trees_said user trees)
file_caused user [] = tt
file_caused user (tree ∷ trees) =
    of_both (clause_said user true tree) (each_said (clause_said user false) trees) (of_one (clause_said user true tree) (clause_one user true tree))
    (of_plain (each_said (clause_said user false) trees) (later_all_plain user trees))

pub fact_cause : (user : List ℕ) (trees : List Tree) (refusal : Refusal) → file_said user trees ≡ Err refusal → is_fact_cause refusal.cause ≡ true
fact_cause user trees refusal is = subst IsCaused is (file_caused (home user (module_of trees)) trees)

-- the module of the facts

pub none_declared : (parts : List Part) → All IsPlain parts → filter_map declared_part parts ≡ []
none_declared [] all = refl
none_declared (declares own ∷ parts) all = absurd (All-head IsPlain (declares own) parts all)
none_declared (loads own ∷ parts) all = none_declared parts (All-tail IsPlain (loads own) parts all)
none_declared (defines own ∷ parts) all = none_declared parts (All-tail IsPlain (defines own) parts all)
none_declared (takes own ∷ parts) all = none_declared parts (All-tail IsPlain (takes own) parts all)
none_declared (marks own ∷ parts) all = none_declared parts (All-tail IsPlain (marks own) parts all)
none_declared (goal own ∷ parts) all = none_declared parts (All-tail IsPlain (goal own) parts all)

module_told : (user : List ℕ) (trees : List Tree) (parts : List Part) → file_said user trees ≡ Ok parts → first_of (filter_map declared_part parts) ≡ first_module user trees
module_told user [] parts is = let none : [] ≡ parts = cc in ap (λ ps. first_of (filter_map declared_part ps)) (sym none)
module_told file (tree ∷ trees) parts is =
    let user = home file (module_by tree) in
    let both = both_say (clause_said user true tree) (each_said (clause_said user false) trees) parts is in
    let later : All IsPlain both.behind = subst Plain both.then_says (later_all_plain user trees) in
    let declared : filter_map declared_part parts ≡ filter_map declared_part both.first =
    ap (filter_map declared_part) both.join
    ∙ (filter_map-append declared_part both.first both.behind
    ∙ (ap (λ ds. filter_map declared_part both.first ++ ds) (none_declared both.behind later) ∙ append-nil (filter_map declared_part both.first))) in
    ap first_of declared ∙ ap module_in (sym both.says)

pub module_kept : (user : List ℕ) (trees : List Tree) (facts : Facts) → AreFacts user trees facts
    → IsModule (first_module user trees) facts.module_ facts.is_module facts.module_from facts.exports
module_kept user trees facts are =
    subst (λ own. IsModule own facts.module_ facts.is_module facts.module_from facts.exports) (module_told user trees are.parts are.said) are.are.of_module
