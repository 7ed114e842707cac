-- Plain trees say what their trees say, and the facts of plain trees are the plain facts.
use Rattle.std.proofs.Common.{◌≡◌, ◌↔◌, ℕ, Bool, true, false, ◌&&◌, List, [], ◌∷◌, ◌++◌, Option, Some, None, Result, Ok, Err, Contains, map, option_map, nat_eq, codes, refl, sym, ap, ◌∙◌, subst, if◌then◌else◌}
use Rattle.std.specs.List.{cons_option, filter_map, AllByRecursion}
use Rattle.std.specs.List.Sorted.{IsStrictlySortedBy}
use Rattle.std.specs.declared.cmp.Ordering.TheVariants.{Less}
use Rattle.std.specs.Str.{bytes_eq}
use Rattle.std.proofs.lemmas.List.{map-append}
use Rattle.list_laws.proofs.Members.{map_has, map_from}
use Rattle.prolog_terms.specs.Tree.{Tree}
use Rattle.prolog_terms.specs.Views.{sides_of, start_of}
use Rattle.prolog_terms.specs.declared.term.Span.{Span}
use Rattle.clause_text.specs.Items.{directive_of}
use Rattle.module_table.specs.Defined.{Defines, Predicate, clause_for, clauses_for, predicate_cmp, IsDefined, AreDefined}
use Rattle.module_table.specs.Directives.{Home, home, directive_said}
use Rattle.module_table.specs.Facts.{Facts, AreFacts, clause_head, headed, clause_said, module_of, trees_said, file_said, named_module}
use Rattle.module_table.specs.Heads.{Owned}
use Rattle.module_table.specs.Kinds.{declared_part, load_part, defined_part, takes_part, marks_part, goal_part, first_of, IsModule}
use Rattle.module_table.specs.Marks.{defined_bare}
use Rattle.module_table.specs.Said.{Said, Part, Refusal, declares, loads, defines, takes, marks, goal, in_turn, each_said}
use Rattle.module_table.proofs.DirectiveParts.{IsOfDirective, OfDirective, directive_of as directive_parts}
use Rattle.kept_clauses.specs.Plain.{PlainClause, clause_span, plain}
use Rattle.plain_clauses.specs.PlainFacts.{plain_predicate, plain_facts, plain_defines, plain_part, plain_said}
use Rattle.clause_text.proofs.PlainForms.{directive_none}
use Rattle.plain_clauses.proofs.FormHeads.{head_is, span_is}
use Rattle.plain_clauses.proofs.WrittenForms.{same_by_form}

pub directive_same : (tree : Tree) → directive_of (plain tree) ≡ directive_of tree
directive_same tree = same_by_form directive_of (λ clause. None) directive_none tree

pub head_same : (owner : List ℕ) (tree : Tree) → clause_head owner (plain tree) ≡ clause_head owner tree
head_same owner tree =
    same_by_form (clause_head owner) (λ (clause : PlainClause). Ok (record { module_ = owner; name = clause.name; arity = clause.arity })) (head_is owner) tree

pub span_same : (tree : Tree) → clause_span (plain tree) ≡ clause_span tree
span_same tree = same_by_form clause_span (λ (clause : PlainClause). clause.span) span_is tree

pub start_same : (tree : Tree) → start_of (plain tree) ≡ start_of tree
start_same tree = ap (λ (span : Span). span.from) (span_same tree)

-- what a clause says

parts_append : (xs ys : List Part) → map plain_part (xs ++ ys) ≡ map plain_part xs ++ map plain_part ys
parts_append [] ys = refl
parts_append (x ∷ xs) ys = ap (λ parts. plain_part x ∷ parts) (parts_append xs ys)

turns : (a b : Said) → plain_said (in_turn a b) ≡ in_turn (plain_said a) (plain_said b)
turns (Ok xs) (Ok ys) = ap (λ parts. Ok parts) (parts_append xs ys)
turns (Ok xs) (Err refusal) = refl
turns (Err refusal) b = refl

module _ (user : Home) where
  -- directives define without clauses

  parts_same : (parts : List Part) → AllByRecursion (IsOfDirective user) parts → map plain_part parts ≡ parts
  parts_same [] all = refl
  parts_same (declares own ∷ parts) all = ap (λ rest. declares own ∷ rest) (parts_same parts all.1)
  parts_same (loads own ∷ parts) all = ap (λ rest. loads own ∷ rest) (parts_same parts all.1)
  parts_same (defines own ∷ parts) all =
      let bare : Option Tree → Part = λ clause. defines (record own { clause = clause }) in
      let same : plain_part (defines own) ≡ defines own = ap (λ clause. bare (option_map plain clause)) all.0 ∙ sym (ap bare all.0) in
      λ i. same i ∷ parts_same parts all.1 i
  parts_same (takes own ∷ parts) all = ap (λ rest. takes own ∷ rest) (parts_same parts all.1)
  parts_same (marks own ∷ parts) all = ap (λ rest. marks own ∷ rest) (parts_same parts all.1)
  parts_same (goal own ∷ parts) all = ap (λ rest. goal own ∷ rest) (parts_same parts all.1)

  directive_plain : (said : Said) → OfDirective user said → plain_said said ≡ said
  directive_plain (Ok parts) all = ap (λ xs. Ok xs) (parts_same parts all)
  directive_plain (Err refusal) all = refl

  headed_plain : (told : Result Owned Refusal) (tree : Tree) → headed told (plain tree) ≡ plain_said (headed told tree)
  headed_plain (Ok own) tree = refl
  headed_plain (Err refusal) tree = refl

  -- what a clause says, by the directive that it is and by its head
  abbrev said_by : Bool → Tree → Option Tree → Result Owned Refusal → Said
  said_by first tree directive told = elim directive [ Some term ↦ directive_said user first term | None ↦ headed told tree ]

  said_plain : (first : Bool) (tree : Tree) (directive : Option Tree) (told : Result Owned Refusal)
      → said_by first (plain tree) directive told ≡ plain_said (said_by first tree directive told)
  said_plain first tree (Some term) told = sym (directive_plain (directive_said user first term) (directive_parts user first term))
  said_plain first tree None told = headed_plain told tree

  clause_plain : (first : Bool) (tree : Tree) → clause_said user first (plain tree) ≡ plain_said (clause_said user first tree)
  clause_plain first tree =
      (λ i. said_by first (plain tree) (directive_same tree i) (head_same user.module_ tree i)) ∙ said_plain first tree (directive_of tree) (clause_head user.module_ tree)

  each_plain : (trees : List Tree) → each_said (clause_said user false) (map plain trees) ≡ plain_said (each_said (clause_said user false) trees)
  each_plain [] = refl
  each_plain (tree ∷ trees) =
      (λ i. in_turn (clause_plain false tree i) (each_plain trees i)) ∙ sym (turns (clause_said user false tree) (each_said (clause_said user false) trees))

  trees_plain : (trees : List Tree) → trees_said user (map plain trees) ≡ plain_said (trees_said user trees)
  trees_plain [] = refl
  trees_plain (tree ∷ trees) =
      (λ i. in_turn (clause_plain true tree i) (each_plain trees i)) ∙ sym (turns (clause_said user true tree) (each_said (clause_said user false) trees))

abbrev module_with : Option Tree → List ℕ
module_with directive = elim directive [ Some term ↦ named_module (sides_of (codes "module") term) | None ↦ codes "user" ]

module_same : (trees : List Tree) → module_of (map plain trees) ≡ module_of trees
module_same [] = refl
module_same (tree ∷ trees) = ap module_with (directive_same tree)

pub file_plain : (user : List ℕ) (trees : List Tree) → file_said user (map plain trees) ≡ plain_said (file_said user trees)
file_plain user trees = ap (λ owner. trees_said (home user owner) (map plain trees)) (module_same trees) ∙ trees_plain (home user (module_of trees)) trees

refused_plain : (said : Said) (refusal : Refusal) → (plain_said said ≡ Err refusal) ↔ (said ≡ Err refusal)
refused_plain (Ok parts) refusal = (λ is. let both : Ok (map plain_part parts) ≡ Err refusal = is in absurd (cc), λ is. let both : Ok parts ≡ Err refusal = is in absurd (cc))
refused_plain (Err other) refusal = (λ is. is, λ is. is)

pub refused_same : (user : List ℕ) (trees : List Tree) (refusal : Refusal) → (file_said user (map plain trees) ≡ Err refusal) ↔ (file_said user trees ≡ Err refusal)
refused_same user trees refusal =
    let same = file_plain user trees in
    let refused = refused_plain (file_said user trees) refusal in
    (λ is. refused.0 (sym same ∙ is), λ is. same ∙ refused.1 is)

-- parts by kind

pub kinds_same : {X : Type 0} (kind : Part → Option X) → ((own : Defines) → kind (defines own) ≡ None) → (parts : List Part)
    → filter_map kind (map plain_part parts) ≡ filter_map kind parts
kinds_same kind none [] = refl
kinds_same kind none (declares own ∷ parts) = ap (cons_option (kind (declares own))) (kinds_same kind none parts)
kinds_same kind none (loads own ∷ parts) = ap (cons_option (kind (loads own))) (kinds_same kind none parts)
kinds_same kind none (defines own ∷ parts) =
    λ i. cons_option ((none (plain_defines own) ∙ sym (none own)) i) (kinds_same kind none parts i)
kinds_same kind none (takes own ∷ parts) = ap (cons_option (kind (takes own))) (kinds_same kind none parts)
kinds_same kind none (marks own ∷ parts) = ap (cons_option (kind (marks own))) (kinds_same kind none parts)
kinds_same kind none (goal own ∷ parts) = ap (cons_option (kind (goal own))) (kinds_same kind none parts)

pub defined_plain : (parts : List Part) → filter_map defined_part (map plain_part parts) ≡ map plain_defines (filter_map defined_part parts)
defined_plain [] = refl
defined_plain (declares own ∷ parts) = defined_plain parts
defined_plain (loads own ∷ parts) = defined_plain parts
defined_plain (defines own ∷ parts) = ap (λ rest. plain_defines own ∷ rest) (defined_plain parts)
defined_plain (takes own ∷ parts) = defined_plain parts
defined_plain (marks own ∷ parts) = ap (λ rest. defined_bare own ∷ rest) (defined_plain parts)
defined_plain (goal own ∷ parts) = defined_plain parts

-- the clauses of a predicate

module _ (owner name : List ℕ) (arity : ℕ) where
  kept_if : (test : Bool) (tree : Tree) → map plain (if test then tree ∷ [] else []) ≡ (if test then plain tree ∷ [] else [])
  kept_if true tree = refl
  kept_if false tree = refl

  clause_kept : (own : Defines) → map plain (clause_for owner name arity own) ≡ clause_for owner name arity (plain_defines own)
  clause_kept own = by_clause own.clause
    where
      by_clause : (clause : Option Tree) → map plain (clause_for owner name arity (record own { clause = clause }))
          ≡ clause_for owner name arity (record own { clause = option_map plain clause })
      by_clause (Some tree) = kept_if (bytes_eq owner own.module_ && (bytes_eq name own.name && nat_eq arity own.arity)) tree
      by_clause None = refl

  clauses_kept : (ds : List Defines) → map plain (clauses_for owner name arity ds) ≡ clauses_for owner name arity (map plain_defines ds)
  clauses_kept [] = refl
  clauses_kept (own ∷ ds) =
      map-append plain (clause_for owner name arity own) (clauses_for owner name arity ds) ∙ (λ i. clause_kept own i ++ clauses_kept ds i)

sorted_one : (p : Predicate) (ps : List Predicate) → AllByRecursion (λ q. predicate_cmp p q ≡ Less) ps
    → AllByRecursion (λ q. predicate_cmp (plain_predicate p) q ≡ Less) (map plain_predicate ps)
sorted_one p [] all = all
sorted_one p (q ∷ ps) all = (all.0, sorted_one p ps all.1)

sorted_plain : (ps : List Predicate) → IsStrictlySortedBy predicate_cmp ps → IsStrictlySortedBy predicate_cmp (map plain_predicate ps)
unfolding IsStrictlySortedBy
sorted_plain [] sorted = sorted
sorted_plain (p ∷ ps) sorted = (sorted_one p ps sorted.0, sorted_plain ps sorted.1)

pub defined_there : (ds : List Defines) (owner name : List ℕ) (arity : ℕ) → IsDefined owner name arity ds → IsDefined owner name arity (map plain_defines ds)
defined_there ds owner name arity is = record {
  clause = option_map plain is.clause;
  stands = map_has plain_defines ds (record { module_ = owner; name = name; arity = arity; clause = is.clause }) is.stands;
}

pub defined_from : (ds : List Defines) (owner name : List ℕ) (arity : ℕ) → IsDefined owner name arity (map plain_defines ds) → IsDefined owner name arity ds
defined_from ds owner name arity is =
    let from = map_from plain_defines ds (record { module_ = owner; name = name; arity = arity; clause = is.clause }) is.stands in
    let own : Defines = from.0 in
    let P : Defines → Type 0 = λ d. Contains ds (record { module_ = d.module_; name = d.name; arity = d.arity; clause = own.clause }) in
    record { clause = own.clause; stands = subst P from.2 from.1 }

-- the predicate is defined, with all its clauses
abbrev pub IsGathered : List Defines → Predicate → Type 0
IsGathered ds p = IsDefined p.module_ p.name p.arity ds × (p.clauses ≡ clauses_for p.module_ p.name p.arity ds)

defined_are : (ds : List Defines) (ps : List Predicate) → AreDefined ds ps → AreDefined (map plain_defines ds) (map plain_predicate ps)
defined_are ds ps are = record {
  in_order = sorted_plain ps are.in_order;
  each = each;
  all = λ owner name arity is.
      let own : Predicate = record { module_ = owner; name = name; arity = arity; clauses = clauses_for owner name arity ds } in
      let has = map_has plain_predicate ps own (are.all owner name arity (defined_from ds owner name arity is)) in
      subst (λ clauses. Contains (map plain_predicate ps) (record { module_ = owner; name = name; arity = arity; clauses = clauses }))
      (clauses_kept owner name arity ds) has;
}
  where
    each : (p : Predicate) → Contains (map plain_predicate ps) p → IsGathered (map plain_defines ds) p
    each p has =
        let from = map_from plain_predicate ps p has in
        let own : Predicate = from.0 in
        let told = are.each own from.1 in
        subst (IsGathered (map plain_defines ds)) from.2
        (defined_there ds own.module_ own.name own.arity told.0, ap (map plain) told.1 ∙ clauses_kept own.module_ own.name own.arity ds)

pub facts_are : (user : List ℕ) (trees : List Tree) (facts : Facts) → AreFacts user trees facts → AreFacts user (map plain trees) (plain_facts facts)
facts_are user trees facts are = record {
  parts = map plain_part are.parts;
  said = file_plain user trees ∙ ap plain_said are.said;
  are = record {
    file = are.are.file;
    of_module =
        subst (λ ds. IsModule (first_of ds) facts.module_ facts.is_module facts.module_from facts.exports) (sym (kinds_same declared_part (λ own. refl) are.parts))
        are.are.of_module;
    loads = are.are.loads ∙ sym (kinds_same load_part (λ own. refl) are.parts);
    defined =
        subst (λ ds. AreDefined ds (map plain_predicate facts.defined)) (sym (defined_plain are.parts))
        (defined_are (filter_map defined_part are.parts) facts.defined are.are.defined);
    metas = are.are.metas ∙ sym (kinds_same takes_part (λ own. refl) are.parts);
    marks = are.are.marks ∙ sym (kinds_same marks_part (λ own. refl) are.parts);
    goals = are.are.goals ∙ sym (kinds_same goal_part (λ own. refl) are.parts);
  };
}
