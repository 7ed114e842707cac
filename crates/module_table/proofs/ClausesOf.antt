-- The clauses of a predicate are those of the file that are of it, in order.
use Rattle.std.proofs.Common.{◌≡◌, ℕ, Bool, true, false, ◌&&◌, List, [], ◌∷◌, ◌++◌, Option, Some, None, Result, Ok, Err, All, Contains, arith, filter, nat_eq, refl, sym, ap, subst, ◌∙◌, inl, inr, if◌then◌else◌, append-nil}
use Rattle.std.specs.List.{filter_map, AllByRecursion}
use Rattle.std.specs.Str.{bytes_eq}
use Rattle.std.proofs.lemmas.List.Concat.{flat_map-append}
use Rattle.std.proofs.lemmas.List.Elements.{All-nil, All-cons, All-contains, All-from_recursion, Contains-append_cases, Contains-append_left, Contains-append_right, Contains-push, filter_map-append, filter-append}
use Rattle.std.proofs.lemmas.Slice.Eq.{bytes_eq-Decides}
use Rattle.std.proofs.lemmas.Bool.Decides.{Decides-eqb}
use Rattle.list_laws.proofs.Members.{kept_in}
use Rattle.prolog_terms.specs.Tree.{Tree}
use Rattle.clause_text.specs.Items.{directive_of}
use Rattle.module_table.specs.Defined.{Defines, Predicate, clause_for, clauses_for}
use Rattle.module_table.specs.Said.{Said, Part, Loads, declares, loads, defines, goal, Refusal, in_turn, each_said, takes, marks}
use Rattle.module_table.specs.Metas.{Declaration, IsSmall}
use Rattle.module_table.specs.Kinds.{defined_part, load_part, takes_part}
use Rattle.module_table.specs.Heads.{Owned}
use Rattle.module_table.specs.Directives.{Home, home, directive_said}
use Rattle.module_table.specs.Facts.{Facts, AreFacts, clause_head, headed, clause_said, module_of, trees_said, file_said, is_headed, is_clause_of}
use Rattle.module_table.specs.Paths.{IsFileName}
use Rattle.module_table.proofs.PathNames as of_paths
use Rattle.module_table.proofs.DirectiveParts.{AllFit, fit_in_turn, IsOfDirective, OfDirective, directive_of as directive_parts}

module _ (user : Home) (owner name : List ℕ) (arity : ℕ) where
  -- the clauses that parts have of the predicate
  abbrev clauses_in : List Part → List Tree
  clauses_in parts = clauses_for owner name arity (filter_map defined_part parts)

  abbrev HasClauses : Said → List Tree → Type 0
  HasClauses (Ok parts) clauses = clauses_in parts ≡ clauses
  HasClauses (Err refusal) clauses = Unit {0}

  clauses_join : (xs ys : List Part) → clauses_in (xs ++ ys) ≡ clauses_in xs ++ clauses_in ys
  clauses_join xs ys = ap (clauses_for owner name arity) (filter_map-append defined_part xs ys) ∙ flat_map-append (clause_for owner name arity) (filter_map defined_part xs) (filter_map defined_part ys)

  turns : (a b : Said) (xs ys : List Tree) → HasClauses a xs → HasClauses b ys → HasClauses (in_turn a b) (xs ++ ys)
  turns (Ok ps) (Ok qs) xs ys first second = clauses_join ps qs ∙ (λ i. first i ++ second i)
  turns (Ok ps) (Err refusal) xs ys first second = tt
  turns (Err refusal) b xs ys first second = tt

  -- directives have none

  bare : (parts : List Part) → AllByRecursion (IsOfDirective user) parts → clauses_in parts ≡ []
  bare [] all = refl
  bare (declares own ∷ parts) all = bare parts all.1
  bare (loads own ∷ parts) all = bare parts all.1
  bare (defines own ∷ parts) all = (λ i. clause_for owner name arity (record own { clause = all.0 i }) ++ clauses_in parts) ∙ bare parts all.1
  bare (takes own ∷ parts) all = bare parts all.1
  bare (marks own ∷ parts) all = bare parts all.1
  bare (goal own ∷ parts) all = bare parts all.1

  directive_none : (said : Said) → OfDirective user said → HasClauses said []
  directive_none (Ok parts) all = bare parts all
  directive_none (Err refusal) all = tt

  -- a clause that is none has itself, where it is of the predicate

  abbrev of_them : List Tree → List Tree
  of_them trees = filter (is_clause_of user.module_ owner name arity) trees

  headed_one : (told : Result Owned Refusal) (tree : Tree) → HasClauses (headed told tree) (if is_headed owner name arity told then tree ∷ [] else [])
  headed_one (Ok own) tree = append-nil (if bytes_eq owner own.module_ && (bytes_eq name own.name && nat_eq arity own.arity) then tree ∷ [] else [])
  headed_one (Err refusal) tree = tt

  clause_one : (first : Bool) (tree : Tree) → HasClauses (clause_said user first tree) (of_them (tree ∷ []))
  clause_one first tree = by_directive (directive_of tree) refl
    where
      by_directive : (term : Option Tree) → directive_of tree ≡ term → HasClauses (clause_said user first tree) (of_them (tree ∷ []))
      by_directive (Some term) is = rw (is, clause_said, is_clause_of) (directive_none (directive_said user first term) (directive_parts user first term))
      by_directive None is = rw (is, clause_said, is_clause_of) (headed_one (clause_head user.module_ tree) tree)

  clauses_each : (trees : List Tree) → HasClauses (each_said (clause_said user false) trees) (of_them trees)
  clauses_each [] = refl
  clauses_each (tree ∷ trees) =
      subst (HasClauses (in_turn (clause_said user false tree) (each_said (clause_said user false) trees))) (sym (filter-append (is_clause_of user.module_ owner name arity) (tree ∷ []) trees))
      (turns (clause_said user false tree) (each_said (clause_said user false) trees) (of_them (tree ∷ [])) (of_them trees) (clause_one false tree) (clauses_each trees))

  trees_clauses : (trees : List Tree) → HasClauses (trees_said user trees) (of_them trees)
  trees_clauses [] = refl
  trees_clauses (tree ∷ trees) =
      subst (HasClauses (in_turn (clause_said user true tree) (each_said (clause_said user false) trees))) (sym (filter-append (is_clause_of user.module_ owner name arity) (tree ∷ []) trees))
      (turns (clause_said user true tree) (each_said (clause_said user false) trees) (of_them (tree ∷ [])) (of_them trees) (clause_one true tree) (clauses_each trees))

pub said_clauses : (owner name : List ℕ) (arity : ℕ) (user : List ℕ) (trees : List Tree) (parts : List Part) → file_said user trees ≡ Ok parts
    → clauses_for owner name arity (filter_map defined_part parts) ≡ filter (is_clause_of (module_of trees) owner name arity) trees
said_clauses owner name arity user trees parts said =
    let own = home user (module_of trees) in
    subst (λ told. HasClauses own owner name arity told (filter (is_clause_of own.module_ owner name arity) trees)) said (trees_clauses own owner name arity trees)

pub clauses_are : (user : List ℕ) (trees : List Tree) (facts : Facts) → AreFacts user trees facts → (p : Predicate) → Contains facts.defined p
    → p.clauses ≡ filter (is_clause_of (module_of trees) p.module_ p.name p.arity) trees
clauses_are user trees facts are p has = (are.are.defined.each p has).1 ∙ said_clauses p.module_ p.name p.arity user trees are.parts are.said

-- and no clause is left out

abbrev by_clause : Owned → Tree → Defines
by_clause named tree = record { module_ = named.module_; name = named.name; arity = named.arity; clause = Some tree }

-- parts say that the clause defines
record SayIt (owner : List ℕ) (tree : Tree) (parts : List Part) : Type 0 where
  named : Owned
  heads : clause_head owner tree ≡ Ok named
  has : Contains (filter_map defined_part parts) (by_clause named tree)

said_before : (owner : List ℕ) (tree : Tree) (xs ys : List Part) → SayIt owner tree xs → SayIt owner tree (xs ++ ys)
said_before owner tree xs ys it = record {
  named = it.named;
  heads = it.heads;
  has =
      subst (λ ds. Contains ds (by_clause it.named tree)) (sym (filter_map-append defined_part xs ys))
      (Contains-append_left (filter_map defined_part xs) (filter_map defined_part ys) (by_clause it.named tree) it.has);
}

said_behind : (owner : List ℕ) (tree : Tree) (xs ys : List Part) → SayIt owner tree ys → SayIt owner tree (xs ++ ys)
said_behind owner tree xs ys it = record {
  named = it.named;
  heads = it.heads;
  has =
      subst (λ ds. Contains ds (by_clause it.named tree)) (sym (filter_map-append defined_part xs ys))
      (Contains-append_right (filter_map defined_part xs) (filter_map defined_part ys) (by_clause it.named tree) it.has);
}

abbrev SaysIt : List ℕ → Tree → Said → Type 0
SaysIt owner tree (Ok parts) = SayIt owner tree parts
SaysIt owner tree (Err refusal) = Unit {0}

says_before : (owner : List ℕ) (tree : Tree) (a b : Said) → SaysIt owner tree a → SaysIt owner tree (in_turn a b)
says_before owner tree (Ok xs) (Ok ys) it = said_before owner tree xs ys it
says_before owner tree (Ok xs) (Err refusal) it = tt
says_before owner tree (Err refusal) b it = tt

says_behind : (owner : List ℕ) (tree : Tree) (a b : Said) → SaysIt owner tree b → SaysIt owner tree (in_turn a b)
says_behind owner tree (Ok xs) (Ok ys) it = said_behind owner tree xs ys it
says_behind owner tree (Ok xs) (Err refusal) it = tt
says_behind owner tree (Err refusal) b it = tt

headed_says : (owner : List ℕ) (told : Result Owned Refusal) (tree : Tree) → clause_head owner tree ≡ told → SaysIt owner tree (headed told tree)
headed_says owner (Ok named) tree is = record { named = named; heads = is; has = Contains-push [] (by_clause named tree) }
headed_says owner (Err refusal) tree is = tt

clause_says : (user : Home) (first : Bool) (tree : Tree) → directive_of tree ≡ None → SaysIt user.module_ tree (clause_said user first tree)
clause_says user first tree none = rw (none, clause_said) (headed_says user.module_ (clause_head user.module_ tree) tree refl)

same_tree : (tree other : Tree) → Contains (other ∷ []) tree → tree ≡ other
same_tree tree other has = All-contains (λ z. z ≡ other) (other ∷ []) tree (All-cons (λ z. z ≡ other) other [] refl (All-nil (λ z. z ≡ other))) has

each_says : (user : Home) (trees : List Tree) (tree : Tree) → Contains trees tree → directive_of tree ≡ None → SaysIt user.module_ tree (each_said (clause_said user false) trees)
each_says user [] tree has none = absurd (omega (arith, has.1))
each_says user (other ∷ trees) tree has none =
    elim (Contains-append_cases (other ∷ []) trees tree has) [
      | inl first ↦
          says_before user.module_ tree (clause_said user false other) (each_said (clause_said user false) trees)
          (subst (λ t. SaysIt user.module_ tree (clause_said user false t)) (same_tree tree other first) (clause_says user false tree none))
      | inr later ↦ says_behind user.module_ tree (clause_said user false other) (each_said (clause_said user false) trees) (each_says user trees tree later none)
    ]

trees_say : (user : Home) (trees : List Tree) (tree : Tree) → Contains trees tree → directive_of tree ≡ None → SaysIt user.module_ tree (trees_said user trees)
trees_say user [] tree has none = absurd (omega (arith, has.1))
trees_say user (other ∷ trees) tree has none =
    elim (Contains-append_cases (other ∷ []) trees tree has) [
      | inl first ↦
          says_before user.module_ tree (clause_said user true other) (each_said (clause_said user false) trees)
          (subst (λ t. SaysIt user.module_ tree (clause_said user true t)) (same_tree tree other first) (clause_says user true tree none))
      | inr later ↦ says_behind user.module_ tree (clause_said user true other) (each_said (clause_said user false) trees) (each_says user trees tree later none)
    ]

is_its_own : (owner : List ℕ) (named : Owned) (tree : Tree) → directive_of tree ≡ None → clause_head owner tree ≡ Ok named
    → is_clause_of owner named.module_ named.name named.arity tree ≡ true
is_its_own owner named tree none heads =
    rw (none, heads, is_clause_of)
    (λ i. (bytes_eq-Decides named.module_ named.module_).1 refl i && ((bytes_eq-Decides named.name named.name).1 refl i && (Decides-eqb named.arity named.arity).1 refl i))

pub clauses_stay : (user : List ℕ) (trees : List Tree) (facts : Facts) → AreFacts user trees facts → (tree : Tree) → Contains trees tree → directive_of tree ≡ None
    → (p : Predicate) × Contains facts.defined p × Contains p.clauses tree
clauses_stay user trees facts are tree has none =
    let own = home user (module_of trees) in
    let it : SayIt own.module_ tree are.parts = subst (SaysIt own.module_ tree) are.said (trees_say own trees tree has none) in
    let ds = filter_map defined_part are.parts in
    let clauses = clauses_for it.named.module_ it.named.name it.named.arity ds in (
      record { module_ = it.named.module_; name = it.named.name; arity = it.named.arity; clauses = clauses },
      are.are.defined.all it.named.module_ it.named.name it.named.arity (record { clause = Some tree; stands = it.has }),
      subst (λ l. Contains l tree) (sym (said_clauses it.named.module_ it.named.name it.named.arity user trees are.parts are.said))
          (kept_in (is_clause_of own.module_ it.named.module_ it.named.name it.named.arity) trees tree has (is_its_own own.module_ it.named tree none it.heads)),
    )

-- the files that are loaded have tidy names

abbrev IsNamed : Part → Type 0
IsNamed (declares own) = Unit {0}
IsNamed (loads own) = IsFileName own.file
IsNamed (defines own) = Unit {0}
IsNamed (takes own) = Unit {0}
IsNamed (marks own) = Unit {0}
IsNamed (goal own) = Unit {0}

module _ (user : Home) where
  named_parts : (parts : List Part) → AllByRecursion (IsOfDirective user) parts → AllByRecursion IsNamed parts
  named_parts [] all = tt
  named_parts (declares own ∷ parts) all = (tt, named_parts parts all.1)
  named_parts (loads own ∷ parts) all = (of_paths.names_resolved user.file all.0.0 own.file all.0.1, named_parts parts all.1)
  named_parts (defines own ∷ parts) all = (tt, named_parts parts all.1)
  named_parts (takes own ∷ parts) all = (tt, named_parts parts all.1)
  named_parts (marks own ∷ parts) all = (tt, named_parts parts all.1)
  named_parts (goal own ∷ parts) all = (tt, named_parts parts all.1)

  named_said : (said : Said) → OfDirective user said → AllFit IsNamed said
  named_said (Ok parts) all = named_parts parts all
  named_said (Err refusal) all = tt

  headed_named : (told : Result Owned Refusal) (tree : Tree) → AllFit IsNamed (headed told tree)
  headed_named (Ok named) tree = (tt, tt)
  headed_named (Err refusal) tree = tt

  clause_named : (first : Bool) (tree : Tree) → AllFit IsNamed (clause_said user first tree)
  clause_named first tree = by_directive (directive_of tree) refl
    where
      by_directive : (term : Option Tree) → directive_of tree ≡ term → AllFit IsNamed (clause_said user first tree)
      by_directive (Some term) is = rw (is, clause_said) (named_said (directive_said user first term) (directive_parts user first term))
      by_directive None is = rw (is, clause_said) (headed_named (clause_head user.module_ tree) tree)

  each_named : (trees : List Tree) → AllFit IsNamed (each_said (clause_said user false) trees)
  each_named [] = tt
  each_named (tree ∷ trees) = fit_in_turn IsNamed (clause_said user false tree) (each_said (clause_said user false) trees) (clause_named false tree) (each_named trees)

  trees_named : (trees : List Tree) → AllFit IsNamed (trees_said user trees)
  trees_named [] = tt
  trees_named (tree ∷ trees) = fit_in_turn IsNamed (clause_said user true tree) (each_said (clause_said user false) trees) (clause_named true tree) (each_named trees)

loads_in : (parts : List Part) → AllByRecursion IsNamed parts → AllByRecursion (λ (load : Loads). IsFileName load.file) (filter_map load_part parts)
loads_in [] all = tt
loads_in (declares own ∷ parts) all = loads_in parts all.1
loads_in (loads own ∷ parts) all = (all.0, loads_in parts all.1)
loads_in (defines own ∷ parts) all = loads_in parts all.1
loads_in (takes own ∷ parts) all = loads_in parts all.1
loads_in (marks own ∷ parts) all = loads_in parts all.1
loads_in (goal own ∷ parts) all = loads_in parts all.1

pub loads_named : (user : List ℕ) (trees : List Tree) (facts : Facts) → AreFacts user trees facts → All (λ (load : Loads). IsFileName load.file) facts.loads
loads_named user trees facts are =
    let named = loads_in are.parts (subst (AllFit IsNamed) are.said (trees_named (home user (module_of trees)) trees)) in
    All-from_recursion (λ (load : Loads). IsFileName load.file) facts.loads
    (subst (AllByRecursion (λ (load : Loads). IsFileName load.file)) (sym are.are.loads) named)

-- declared arguments add no more than a digit

abbrev AddsFew : Part → Type 0
AddsFew (declares own) = Unit {0}
AddsFew (loads own) = Unit {0}
AddsFew (defines own) = Unit {0}
AddsFew (takes own) = AllByRecursion IsSmall own.args
AddsFew (marks own) = Unit {0}
AddsFew (goal own) = Unit {0}

module _ (user : Home) where
  few_parts : (parts : List Part) → AllByRecursion (IsOfDirective user) parts → AllByRecursion AddsFew parts
  few_parts [] all = tt
  few_parts (declares own ∷ parts) all = (tt, few_parts parts all.1)
  few_parts (loads own ∷ parts) all = (tt, few_parts parts all.1)
  few_parts (defines own ∷ parts) all = (tt, few_parts parts all.1)
  few_parts (takes own ∷ parts) all = (all.0, few_parts parts all.1)
  few_parts (marks own ∷ parts) all = (tt, few_parts parts all.1)
  few_parts (goal own ∷ parts) all = (tt, few_parts parts all.1)

  few_said : (said : Said) → OfDirective user said → AllFit AddsFew said
  few_said (Ok parts) all = few_parts parts all
  few_said (Err refusal) all = tt

  headed_few : (told : Result Owned Refusal) (tree : Tree) → AllFit AddsFew (headed told tree)
  headed_few (Ok named) tree = (tt, tt)
  headed_few (Err refusal) tree = tt

  clause_few : (first : Bool) (tree : Tree) → AllFit AddsFew (clause_said user first tree)
  clause_few first tree = by_directive (directive_of tree) refl
    where
      by_directive : (term : Option Tree) → directive_of tree ≡ term → AllFit AddsFew (clause_said user first tree)
      by_directive (Some term) is = rw (is, clause_said) (few_said (directive_said user first term) (directive_parts user first term))
      by_directive None is = rw (is, clause_said) (headed_few (clause_head user.module_ tree) tree)

  each_few : (trees : List Tree) → AllFit AddsFew (each_said (clause_said user false) trees)
  each_few [] = tt
  each_few (tree ∷ trees) = fit_in_turn AddsFew (clause_said user false tree) (each_said (clause_said user false) trees) (clause_few false tree) (each_few trees)

  trees_few : (trees : List Tree) → AllFit AddsFew (trees_said user trees)
  trees_few [] = tt
  trees_few (tree ∷ trees) = fit_in_turn AddsFew (clause_said user true tree) (each_said (clause_said user false) trees) (clause_few true tree) (each_few trees)

abbrev AreSmall : Declaration → Type 0
AreSmall d = All IsSmall d.args

small_in : (parts : List Part) → AllByRecursion AddsFew parts → AllByRecursion AreSmall (filter_map takes_part parts)
small_in [] all = tt
small_in (declares d ∷ parts) all = small_in parts all.1
small_in (loads d ∷ parts) all = small_in parts all.1
small_in (defines d ∷ parts) all = small_in parts all.1
small_in (takes d ∷ parts) all = (All-from_recursion IsSmall d.args all.0, small_in parts all.1)
small_in (marks d ∷ parts) all = small_in parts all.1
small_in (goal d ∷ parts) all = small_in parts all.1

pub metas_small : (user : List ℕ) (trees : List Tree) (facts : Facts) → AreFacts user trees facts → All (λ (d : Declaration). All IsSmall d.args) facts.metas
metas_small user trees facts are =
    let small = small_in are.parts (subst (AllFit AddsFew) are.said (trees_few (home user (module_of trees)) trees)) in
    All-from_recursion AreSmall facts.metas (subst (AllByRecursion AreSmall) (sym are.are.metas) small)
