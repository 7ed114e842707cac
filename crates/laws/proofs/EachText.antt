-- Each text is a reading or has a fault, and each file has facts or a fault.
use Rattle.std.proofs.Common.{◌≡◌, ◌⊎◌, inl, inr, ℕ, zero, suc, ◌≤◌, true, false, List, [], ◌∷◌, ◌++◌, Option, Some, None, Ok, Err, codes, length, refl, ap, sym, subst, arith, append_assoc, length-append, map}
use Rattle.std.specs.Str.{IsUtf8}
use Rattle.std.specs.List.{filter_map}
use Rattle.prolog_tokens.specs.declared.token.Token.{Token}
use Rattle.prolog_tokens.specs.declared.token.TokenFault.{TokenFault}
use Rattle.prolog_tokens.specs.Cut.{IsCut, HasFault as HasTokenFault}
use Rattle.prolog_ops.specs.Table.{Ops, IsOps}
use Rattle.prolog_terms.specs.declared.read_fault.ReadFault.{ReadFault}
use Rattle.prolog_terms.specs.Tree.{Tree}
use Rattle.prolog_terms.specs.Words.{table_of}
use Rattle.prolog_terms.specs.Clause.{IsClauseOf, IsReadFault, ArePart}
use Rattle.kept_clauses.specs.Plain.{plain}
use Rattle.clause_text.specs.declared.cause.Cause.TheVariants.{NotUtf8}
use Rattle.clause_text.specs.declared.fault.TextFault.{TextFault}
use Rattle.clause_text.specs.declared.fault.TextFault.TheVariants.{At}
use Rattle.clause_text.specs.Items.{Answer, items_of, items_on}
use Rattle.clause_text.specs.Clauses.{AreClauses, ReadsAs, IsPartFault, HasClauseFault, fault_of_clauses, opening_ops}
use Rattle.clause_text.specs.TextFault.{fault_of_tokens, HasTextFault, bytes, tokens, clauses}
use Rattle.clause_text.proofs.KeptTables.{items_keep}
use Rattle.clause_text.proofs.OneReading.{opening_ops_are}
use Rattle.module_table.specs.Said.{Said, Part, Declares, Refusal}
use Rattle.module_table.specs.Kinds.{declared_part, load_part, defined_part, takes_part, marks_part, goal_part, first_of, IsModule}
use Rattle.module_table.specs.Facts.{Facts, AreFacts, AreFactsOf, file_said}
use Rattle.module_table.specs.FileText.{HasFacts, HasFault}
use Rattle.laws.specs.FileLayers.{IsCutOrFaulty, IsReadOrFaulty}
use Rattle.laws.proofs.FirstPart.{HasPart, first_part}
use Rattle.laws.proofs.Grouped.{defined_some}
use Rattle.laws.proofs.TextCauses.{text_cause}
use Rattle.laws.proofs.Utf8Cases.{utf8_or_not}

-- facts, or a refusal

facts_of_parts : (name : List ℕ) (parts : List Part) → (facts : Facts) × AreFactsOf name parts facts
facts_of_parts name parts = by_module (first_of (filter_map declared_part parts)) refl
  where
    by_module : (own : Option Declares) → first_of (filter_map declared_part parts) ≡ own → (facts : Facts) × AreFactsOf name parts facts
    by_module (Some own) is =
        let defined = defined_some (filter_map defined_part parts) in (
          record {
            file = name;
            module_ = own.name;
            is_module = true;
            module_from = own.from;
            exports = own.exports;
            loads = filter_map load_part parts;
            defined = defined.0;
            metas = filter_map takes_part parts;
            marks = filter_map marks_part parts;
            goals = filter_map goal_part parts;
          },
          record {
            file = refl;
            of_module = subst (λ found. IsModule found own.name true own.from own.exports) (sym is) (refl, refl, refl, refl);
            loads = refl;
            defined = defined.1;
            metas = refl;
            marks = refl;
            goals = refl;
          },
        )
    by_module None is =
        let defined = defined_some (filter_map defined_part parts) in (
          record {
            file = name;
            module_ = codes "user";
            is_module = false;
            module_from = 0;
            exports = [];
            loads = filter_map load_part parts;
            defined = defined.0;
            metas = filter_map takes_part parts;
            marks = filter_map marks_part parts;
            goals = filter_map goal_part parts;
          },
          record {
            file = refl;
            of_module = subst (λ found. IsModule found (codes "user") false 0 []) (sym is) (refl, refl, refl, refl);
            loads = refl;
            defined = defined.1;
            metas = refl;
            marks = refl;
            goals = refl;
          },
        )

pub facts_or_refusal : (name : List ℕ) (trees : List Tree) → ((facts : Facts) × AreFacts name trees facts) ⊎ ((refusal : Refusal) × (file_said name trees ≡ Err refusal))
facts_or_refusal name trees = by_said (file_said name trees) refl
  where
    by_said : (said : Said) → file_said name trees ≡ said → ((facts : Facts) × AreFacts name trees facts) ⊎ ((refusal : Refusal) × (file_said name trees ≡ Err refusal))
    by_said (Ok parts) is = let found = facts_of_parts name parts in inl (found.0, record { parts = parts; said = is; are = found.1 })
    by_said (Err refusal) is = inr (refusal, is)

-- clauses, or the fault of the first that is refused

abbrev Clauses : Ops → List ℕ → List Token → Type 0
Clauses table text ts = (trees : List Tree) × AreClauses table text ts trees

abbrev Faulty : Ops → List ℕ → List Token → Type 0
Faulty table text ts = (fault : TextFault) × HasClauseFault table text ts fault

refused_first : (table : Ops) (text : List ℕ) (ts : List Token) (fault : TextFault) (found : HasPart ts) → IsPartFault table text found.part fault → Faulty table text ts
refused_first table text ts fault found wrong = (fault, record { before = []; stands = (found.part, found.rest, found.are, found.first, wrong) })

read_first : (table : Ops) (text : List ℕ) (ts : List Token) (found : HasPart ts) (tree : Tree) (left : Ops) → IsClauseOf (table_of table) text found.part tree
    → items_on (items_of tree) table ≡ Ok left → Clauses left text found.rest ⊎ Faulty left text found.rest → Clauses table text ts ⊎ Faulty table text ts
read_first table text ts found tree left clause items (inl rest) =
    inl (tree ∷ rest.0, (found.part, found.rest, left, found.are, record { clause = clause; items = items }, rest.1))
read_first table text ts found tree left clause items (inr rest) =
    inr (rest.0, record { before = tree ∷ rest.1.before; stands = (found.part, found.rest, left, found.are, record { clause = clause; items = items }, rest.1.stands) })

-- the first part, and then what is behind it
module _ (text : List ℕ) (reads : IsReadOrFaulty text) where
  one_part : (table : Ops) → IsOps table → (before ts : List Token) → IsCut text (before ++ ts) → (found : HasPart ts)
      → ((left : Ops) → IsOps left → IsCut text ((before ++ found.part) ++ found.rest) → Clauses left text found.rest ⊎ Faulty left text found.rest)
      → Clauses table text ts ⊎ Faulty table text ts
  one_part table ok before ts cut found behind = by_reading (reads table ok found.part part)
    where
      whole : IsCut text (before ++ (found.part ++ found.rest))
      whole = subst (λ us. IsCut text (before ++ us)) found.are cut

      part : ArePart text found.part
      part = record { before = before; after = found.rest; cut = whole }

      by_items : (tree : Tree) → IsClauseOf (table_of table) text found.part tree → (answer : Answer) → items_on (items_of tree) table ≡ answer
          → Clauses table text ts ⊎ Faulty table text ts
      by_items tree clause (Ok left) is =
          read_first table text ts found tree left clause is
          (behind left (items_keep (items_of tree) table left ok is) (subst (IsCut text) (sym (append_assoc before found.part found.rest)) whole))
      by_items tree clause (Err fault) is = inr (refused_first table text ts fault found (inr (tree, clause, is)))

      by_reading : ((tree : Tree) × IsClauseOf (table_of table) text found.part tree) ⊎ ((fault : ReadFault) × IsReadFault (table_of table) text found.part fault)
          → Clauses table text ts ⊎ Faulty table text ts
      by_reading (inl (tree, clause)) = by_items tree clause (items_on (items_of tree) table) refl
      by_reading (inr (of, has)) = inr (refused_first table text ts (fault_of_clauses of) found (inl (of, refl, has)))

  fewer : (n : ℕ) (t : Token) (ts : List Token) (found : HasPart (t ∷ ts)) → length (t ∷ ts) ≤ suc n → length found.rest ≤ n
  fewer n t ts found few = omega (arith, few, ap length found.are, length-append found.part found.rest, found.first.one.some)

  all_parts : (n : ℕ) (table : Ops) → IsOps table → (before ts : List Token) → IsCut text (before ++ ts) → length ts ≤ n → Clauses table text ts ⊎ Faulty table text ts
  all_parts n table ok before [] cut few = inl ([], refl)
  all_parts zero table ok before (t ∷ ts) cut few = absurd (omega (arith, few))
  all_parts (suc n) table ok before (t ∷ ts) cut few =
      let found = first_part t ts in
      one_part table ok before (t ∷ ts) cut found (λ left lawful rest. all_parts n left lawful (before ++ found.part) found.rest rest (fewer n t ts found few))

  -- the text in UTF-8
  of_tokens : IsUtf8 text → ((ts : List Token) × IsCut text ts) ⊎ ((fault : TokenFault) × HasTokenFault text fault)
      → ((trees : List Tree) × ReadsAs text trees) ⊎ ((fault : TextFault) × HasTextFault text fault)
  of_tokens utf8 (inl (ts, cut)) = elim (all_parts (length ts) opening_ops opening_ops_are [] ts cut (omega arith)) [
    | inl read ↦ inl (read.0, record { utf8 = utf8; tokens = ts; cut = cut; clauses = read.1 })
    | inr wrong ↦ inr (wrong.0, clauses (record { utf8 = utf8; tokens = ts; cut = cut; has = wrong.1 }))
  ]
  of_tokens utf8 (inr (of, has)) = inr (fault_of_tokens of, tokens (record { utf8 = utf8; of = of; is = refl; has = has }))

pub reading_or_fault : (text : List ℕ) → IsCutOrFaulty text → IsReadOrFaulty text → ((trees : List Tree) × ReadsAs text trees) ⊎ ((fault : TextFault) × HasTextFault text fault)
reading_or_fault text cuts reads = elim (utf8_or_not text) [
  | inl utf8 ↦ of_tokens text reads utf8 (cuts utf8)
  | inr wrong ↦ inr (At NotUtf8 wrong.0, bytes (wrong.0, refl, wrong.1))
]

-- a file, by its name and its text

pub file_or_fault : (name text : List ℕ) → IsCutOrFaulty text → IsReadOrFaulty text → ((facts : Facts) × HasFacts name text facts) ⊎ ((refusal : Refusal) × HasFault name text refusal)
file_or_fault name text cuts reads = by_text (reading_or_fault text cuts reads)
  where
    by_trees : (trees : List Tree) → ReadsAs text trees → ((facts : Facts) × AreFacts name (map plain trees) facts) ⊎ ((refusal : Refusal) × (file_said name (map plain trees) ≡ Err refusal))
        → ((facts : Facts) × HasFacts name text facts) ⊎ ((refusal : Refusal) × HasFault name text refusal)
    by_trees trees read (inl (facts, are)) = inl (facts, record { trees = trees; reads = read; are = are })
    by_trees trees read (inr (refusal, said)) = inr (refusal, inr (record { trees = trees; reads = read; said = said }))

    by_text : ((trees : List Tree) × ReadsAs text trees) ⊎ ((fault : TextFault) × HasTextFault text fault)
        → ((facts : Facts) × HasFacts name text facts) ⊎ ((refusal : Refusal) × HasFault name text refusal)
    by_text (inl (trees, read)) = by_trees trees read (facts_or_refusal name (map plain trees))
    by_text (inr (fault, has)) =
        let of = text_cause text fault has in
        inr (record { cause = of.0; offset = of.1 }, inl (subst (HasTextFault text) of.2 has))
