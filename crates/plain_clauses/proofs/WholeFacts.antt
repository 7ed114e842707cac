-- Facts of plain trees are the plain facts of a file.
use Rattle.std.proofs.Common.{◌≡◌, ℕ, List, [], ◌∷◌, Ok, Err, Contains, map, refl, sym, ap, ◌∙◌, subst}
use Rattle.std.specs.List.{filter_map, AllByRecursion}
use Rattle.std.specs.List.Sorted.{IsStrictlySortedBy}
use Rattle.std.specs.declared.cmp.Ordering.TheVariants.{Less}
use Rattle.list_laws.proofs.Members.{map_has, map_from}
use Rattle.prolog_terms.specs.Tree.{Tree}
use Rattle.module_table.specs.Defined.{Defines, Predicate, clauses_for, predicate_cmp, AreDefined}
use Rattle.module_table.specs.Facts.{Facts, AreFacts, AreFactsOf, file_said}
use Rattle.module_table.specs.Kinds.{declared_part, load_part, defined_part, takes_part, marks_part, goal_part, first_of, IsModule}
use Rattle.module_table.specs.Said.{Said, Part}
use Rattle.module_table.proofs.OneFacts.{one_facts}
use Rattle.module_table.proofs.SaidLemmas.{ok_once}
use Rattle.kept_clauses.specs.Plain.{plain}
use Rattle.plain_clauses.specs.PlainFacts.{plain_facts, plain_defines, plain_part, plain_said}
use Rattle.plain_clauses.proofs.PlainSaid.{IsGathered, kinds_same, defined_plain, defined_there, defined_from, file_plain, facts_are}

-- the clauses that were said, in place of their plain trees

module _ (ds : List Defines) where
  abbrev restored : Predicate → Predicate
  restored p = record p { clauses = clauses_for p.module_ p.name p.arity ds }

  sorted_one : (p : Predicate) (ps : List Predicate) → AllByRecursion (λ q. predicate_cmp p q ≡ Less) ps
      → AllByRecursion (λ q. predicate_cmp (restored p) q ≡ Less) (map restored ps)
  sorted_one p [] all = all
  sorted_one p (q ∷ ps) all = (all.0, sorted_one p ps all.1)

  sorted_restored : (ps : List Predicate) → IsStrictlySortedBy predicate_cmp ps → IsStrictlySortedBy predicate_cmp (map restored ps)
  unfolding IsStrictlySortedBy
  sorted_restored [] sorted = sorted
  sorted_restored (p ∷ ps) sorted = (sorted_one p ps sorted.0, sorted_restored ps sorted.1)

  restored_are : (ps : List Predicate) → AreDefined (map plain_defines ds) ps → AreDefined ds (map restored ps)
  restored_are ps are = record {
    in_order = sorted_restored ps are.in_order;
    each = each;
    all = λ owner name arity is.
        let own : Predicate = record { module_ = owner; name = name; arity = arity; clauses = clauses_for owner name arity (map plain_defines ds) } in
        map_has restored ps own (are.all owner name arity (defined_there ds owner name arity is));
  }
    where
      each : (p : Predicate) → Contains (map restored ps) p → IsGathered ds p
      each p has =
          let from = map_from restored ps p has in
          let own : Predicate = from.0 in
          subst (IsGathered ds) from.2 (defined_from ds own.module_ own.name own.arity (are.each own from.1).0, refl)

module _ (user : List ℕ) (trees : List Tree) (facts : Facts) (are : AreFacts user (map plain trees) facts) where
  abbrev IsWhole : Type 0
  IsWhole = (whole : Facts) × AreFacts user trees whole × (facts ≡ plain_facts whole)

  whole_of : (parts : List Part) → file_said user trees ≡ Ok parts → map plain_part parts ≡ are.parts → IsWhole
  whole_of parts said same =
      let ds = filter_map defined_part parts in
      let whole : Facts = record facts { defined = map (restored ds) facts.defined } in
      let of : AreFactsOf user (map plain_part parts) facts = subst (λ ps. AreFactsOf user ps facts) (sym same) are.are in
      let whole_are : AreFacts user trees whole = record {
        parts = parts;
        said = said;
        are = record {
          file = of.file;
          of_module =
              subst (λ ps. IsModule (first_of ps) facts.module_ facts.is_module facts.module_from facts.exports) (kinds_same declared_part (λ own. refl) parts)
              of.of_module;
          loads = of.loads ∙ kinds_same load_part (λ own. refl) parts;
          defined = restored_are ds facts.defined (subst (λ own. AreDefined own facts.defined) (defined_plain parts) of.defined);
          metas = of.metas ∙ kinds_same takes_part (λ own. refl) parts;
          marks = of.marks ∙ kinds_same marks_part (λ own. refl) parts;
          goals = of.goals ∙ kinds_same goal_part (λ own. refl) parts;
        };
      } in
      (whole, whole_are, one_facts user (map plain trees) facts (plain_facts whole) are (facts_are user trees whole whole_are))

  pub whole_facts : IsWhole
  whole_facts = by_said (file_said user trees) refl
    where
      by_said : (said : Said) → file_said user trees ≡ said → IsWhole
      by_said (Ok parts) is =
          let same : Ok (map plain_part parts) ≡ Ok are.parts = sym (ap plain_said is) ∙ sym (file_plain user trees) ∙ are.said in
          whole_of parts is (ok_once (map plain_part parts) are.parts same)
      by_said (Err refusal) is =
          let both : Err refusal ≡ Ok are.parts = sym (ap plain_said is) ∙ sym (file_plain user trees) ∙ are.said in
          absurd (cc)
