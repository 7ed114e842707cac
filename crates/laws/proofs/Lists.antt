-- Lists of roots and of files that options are given.
use Rattle.std.proofs.Common.{◌≡◌, ◌⊎◌, inl, inr, ℕ, zero, suc, ◌<◌, ◌≤◌, List, [], ◌∷◌, Option, Some, None, append-nil, codes, length, map, refl, subst, sym, ◌∙◌, arith}
use Rattle.std.specs.Str.{IsAscii, IsUtf8}
use Rattle.std.proofs.lemmas.Bool.{cases_lt}
use Rattle.std.proofs.lemmas.Str.{IsUtf8-append, IsUtf8-from_ascii}
use Rattle.prolog_tokens.specs.declared.token.Token.{Token}
use Rattle.prolog_tokens.specs.declared.token.TokenFault.{TokenFault}
use Rattle.prolog_tokens.specs.Cut.{HasFault, IsCut}
use Rattle.prolog_tokens.proofs.Between.{one_cut}
use Rattle.prolog_tokens.proofs.Faults.{fault_no_cut}
use Rattle.prolog_ops.specs.Table.{IsOps, Ops}
use Rattle.prolog_terms.specs.declared.read_fault.ReadFault.{ReadFault}
use Rattle.prolog_terms.specs.Clause.{ArePart, IsClauseOf, IsReadFault}
use Rattle.prolog_terms.specs.Tree.{Tree}
use Rattle.prolog_terms.specs.Views.{joined}
use Rattle.prolog_terms.specs.Words.{Table, table_of}
use Rattle.prolog_terms.proofs.ClausesOf.{clause_no_fault}
use Rattle.prolog_terms.proofs.ReaderTables.{IsTable, table_is}
use Rattle.prolog_terms.proofs.TokenWords.{cut_spelled}
use Rattle.clause_text.specs.Clauses.{opening_ops}
use Rattle.clause_text.proofs.OneReading.{opening_ops_are}
use Rattle.module_table.specs.FileName.{resolved}
use Rattle.import_rules.specs.declared.names.PredName.{PredName}
use Rattle.group_words.specs.RootList.{IsList, IsRootList, all_there, list_text, named_predicate}
use Rattle.group_words.specs.Settings.{FilesAre, PathIs, RootsAre, each_once}
use Rattle.group_words.proofs.RootLists.{not_all_there, one_root_list}
use Rattle.laws.proofs.Known.{IsFound}

-- each text in UTF-8 is tokens or has a fault
abbrev pub AreTokens : Type 0
AreTokens = (text : List ℕ) → IsUtf8 text → ((ts : List Token) × IsCut text ts) ⊎ ((fault : TokenFault) × HasFault text fault)

-- a part of a text's tokens is a clause or has a fault
abbrev pub AreClauses : Type 0
AreClauses = (ops : Ops) → IsOps ops → (text : List ℕ) (ts : List Token) → ArePart text ts
    → ((tree : Tree) × IsClauseOf (table_of ops) text ts tree) ⊎ ((fault : ReadFault) × IsReadFault (table_of ops) text ts fault)

-- the table that lists are read by
abbrev opening_table : Table
opening_table = table_of opening_ops

opening_table_is : IsTable opening_table
opening_table_is = table_is opening_ops opening_ops_are

whole_part : (text : List ℕ) (ts : List Token) → IsCut text ts → ArePart text ts
whole_part text ts cut = record { before = []; after = []; cut = subst (λ us. IsCut text us) (sym (append-nil ts)) cut }

-- the tokens of a whole text are one clause, or aren't
clause_found : AreClauses → (text : List ℕ) (ts : List Token) → IsCut text ts → IsFound (IsClauseOf opening_table text ts)
clause_found clauses text ts cut = by_clause (clauses opening_ops opening_ops_are text ts (whole_part text ts cut))
  where
    by_clause : ((tree : Tree) × IsClauseOf opening_table text ts tree) ⊎ ((fault : ReadFault) × IsReadFault opening_table text ts fault) → IsFound (IsClauseOf opening_table text ts)
    by_clause (inl found) = inl found
    by_clause (inr fault) = inr (λ tree clause. clause_no_fault opening_table text ts tree fault.0 (cut_spelled text ts cut) clause fault.1)

ascii_end : IsAscii (codes " .")
ascii_end zero = omega arith
ascii_end (suc zero) = omega arith
ascii_end (suc (suc i)) = omega arith

list_found : AreTokens → AreClauses → (text : List ℕ) → IsUtf8 text → IsFound (IsList text)
list_found tokens clauses text utf8 = by_cut (tokens (list_text text) (IsUtf8-append text (codes " .") utf8 (IsUtf8-from_ascii (codes " .") ascii_end)))
  where
    by_clause : (ts : List Token) → IsCut (list_text text) ts → IsFound (IsClauseOf opening_table (list_text text) ts) → IsFound (IsList text)
    by_clause ts cut (inl found) = inl (found.0, record { tokens = ts; cut = cut; clause = found.1 })
    by_clause ts cut (inr never) =
        inr (λ tree list.
        never tree (subst (λ us. IsClauseOf opening_table (list_text text) us tree) (one_cut (list_text text) list.tokens ts list.cut cut) list.clause))

    by_cut : ((ts : List Token) × IsCut (list_text text) ts) ⊎ ((fault : TokenFault) × HasFault (list_text text) fault) → IsFound (IsList text)
    by_cut (inl found) = by_clause found.0 found.1 (clause_found clauses (list_text text) found.0 found.1)
    by_cut (inr fault) = inr (λ tree list. fault_no_cut (list_text text) fault.0 list.tokens fault.1 list.cut)

root_list_found : AreTokens → AreClauses → (text : List ℕ) → IsUtf8 text → IsFound (IsRootList text)
root_list_found tokens clauses text utf8 = by_size (cases_lt 65536 (length text))
  where
    by_names : length text ≤ 65536 → (tree : Tree) → IsList text tree → (found : Option (List PredName)) → all_there (map named_predicate (joined tree)) ≡ found
        → IsFound (IsRootList text)
    by_names small tree list (Some roots) is = inl (roots, record { small = small; tree = tree; list = list; are = is })
    by_names small tree list None is = inr (not_all_there text tree list is)

    by_list : length text ≤ 65536 → IsFound (IsList text) → IsFound (IsRootList text)
    by_list small (inl found) = by_names small found.0 found.1 (all_there (map named_predicate (joined found.0))) refl
    by_list small (inr never) = inr (λ roots is. never is.tree is.list)

    by_size : (65536 < length text) ⊎ (length text ≤ 65536) → IsFound (IsRootList text)
    by_size (inl large) = inr (λ roots is. omega (arith, large, is.small))
    by_size (inr small) = by_list small (list_found tokens clauses text utf8)

pub roots_found : AreTokens → AreClauses → (given : Option (List ℕ)) → ((text : List ℕ) → given ≡ Some text → IsUtf8 text) → IsFound (RootsAre given)
roots_found tokens clauses None utf8 = inl (None, tt)
roots_found tokens clauses (Some text) utf8 = go (root_list_found tokens clauses text (utf8 text refl))
  where
    none : ((roots : List PredName) → IsRootList text roots → ⊥) → (roots : Option (List PredName)) → RootsAre (Some text) roots → ⊥
    none never None are = are
    none never (Some roots) are = never roots are

    go : IsFound (IsRootList text) → IsFound (RootsAre (Some text))
    go (inl found) = inl (Some found.0, found.1)
    go (inr never) = inr (none never)

-- the two of a list that has just two
two_of : (text : List ℕ) (roots : List PredName) → IsRootList text roots → IsFound (PathIs (Some text))
two_of text roots are = go roots are
  where
    other : (found : List PredName) → IsRootList text found → ((m n : PredName) → found ≡ m ∷ n ∷ [] → ⊥) → (both : Option (PredName × PredName)) → PathIs (Some text) both → ⊥
    other found is never None are = are
    other found is never (Some both) are = never both.0 both.1 (one_root_list text found (both.0 ∷ both.1 ∷ []) is are)

    go : (found : List PredName) → IsRootList text found → IsFound (PathIs (Some text))
    go [] is = inr (other [] is (λ m n e. let both : [] ≡ m ∷ n ∷ [] = e in cc))
    go (x ∷ []) is = inr (other (x ∷ []) is (λ m n e. let both : x ∷ [] ≡ m ∷ n ∷ [] = e in cc))
    go (x ∷ y ∷ []) is = inl (Some (x, y), is)
    go (x ∷ y ∷ z ∷ zs) is = inr (other (x ∷ y ∷ z ∷ zs) is (λ m n e. let both : x ∷ y ∷ z ∷ zs ≡ m ∷ n ∷ [] = e in cc))

pub path_found : AreTokens → AreClauses → (given : Option (List ℕ)) → ((text : List ℕ) → given ≡ Some text → IsUtf8 text) → IsFound (PathIs given)
path_found tokens clauses None utf8 = inl (None, tt)
path_found tokens clauses (Some text) utf8 = go (root_list_found tokens clauses text (utf8 text refl))
  where
    none : ((roots : List PredName) → IsRootList text roots → ⊥) → (both : Option (PredName × PredName)) → PathIs (Some text) both → ⊥
    none never None are = are
    none never (Some both) are = never (both.0 ∷ both.1 ∷ []) are

    go : IsFound (IsRootList text) → IsFound (PathIs (Some text))
    go (inl found) = two_of text found.0 found.1
    go (inr never) = inr (none never)

pub files_found : (words : List (List ℕ)) → IsFound (FilesAre words)
files_found words = go (all_there (map (resolved []) words)) refl
  where
    go : (found : Option (List (List ℕ))) → all_there (map (resolved []) words) ≡ found → IsFound (FilesAre words)
    go (Some names) is = inl (each_once names, record { names = names; resolve = is; each = refl })
    go None is = inr (λ named are. let both : None ≡ Some are.names = sym is ∙ are.resolve in cc)
