-- From what was read of the tokens of a text to what the text is.
use Rattle.std.proofs.Common.{◌≡◌, ◌≢◌, ℕ, ◌+◌, ◌≤◌, List, [], ◌∷◌, length, map, All, ap, refl, sym, subst, ◌∙◌, arith, length-append}
use Rattle.std.specs.Str.{IsUtf8}
use Rattle.std.proofs.lemmas.List.Elements.{All-nil, All-cons}
use Rattle.std.proofs.lemmas.List.Sums.{sum_by-cons}
use Rattle.prolog_tokens.specs.declared.token.Token.{Token}
use Rattle.prolog_tokens.specs.declared.token.TokenFault.{TokenFault}
use Rattle.prolog_tokens.specs.declared.token.TokenFault.TheVariants as of_tokens
use Rattle.prolog_tokens.specs.Cut.{IsCut, HasFault}
use Rattle.prolog_ops.specs.Table.{Ops}
use Rattle.prolog_terms.specs.Tree.{Tree}
use Rattle.prolog_terms.specs.Words.{table_of}
use Rattle.prolog_terms.specs.Weight.{weight}
use Rattle.prolog_terms.proofs.ClauseWeights.{clause_weight}
use Rattle.clause_text.specs.declared.fault.TextFault.{TextFault}
use Rattle.clause_text.specs.declared.fault.TextFault.TheVariants.{At, NoMemory}
use Rattle.clause_text.specs.Clauses.{AreClauses, ReadsAs, HasClauseFault, opening_ops, total_weight}
use Rattle.clause_text.specs.TextFault.{TokensHave, ClausesHave, fault_of_tokens}
use Rattle.kept_clauses.specs.Plain.{plain}
use Rattle.clause_text.specs.Kept.{ArePlainClauses, ReadsPlainly}
use Rattle.clause_text.proofs.OneReading.{one_reading}
use Rattle.clause_text.proofs.Offsets.{IsPlaced, clauses_placed}
use Rattle.clause_text.proofs.PlainWeights.{plain_light}

-- what was read of the tokens of the text is read of the bytes
pub reads_as : (bytes text : List ℕ) (ts us : List Token) (trees : List Tree) → text ≡ bytes → us ≡ ts → IsUtf8 bytes → IsCut text ts → AreClauses opening_ops text us trees
    → ReadsAs bytes trees
reads_as bytes text ts us trees same listed utf8 cut are = record {
  utf8 = utf8;
  tokens = ts;
  cut = subst (λ t. IsCut t ts) same cut;
  clauses = subst (λ t. AreClauses opening_ops t ts trees) same (subst (λ all. AreClauses opening_ops text all trees) listed are);
}

-- clauses that are told by their plain trees are clauses
whole_clauses : (table : Ops) (text : List ℕ) (ts : List Token) (kept : List Tree) → ArePlainClauses table text ts kept
    → (trees : List Tree) × AreClauses table text ts trees × (kept ≡ map plain trees)
whole_clauses table text ts [] none = ([], none, refl)
whole_clauses table text ts (one ∷ kept) (part, rest, left, is, leaves, are) =
    let others = whole_clauses left text rest kept are in
    (leaves.tree ∷ others.0, (part, rest, left, is, leaves.leaves, others.1), λ i. leaves.kept_is i ∷ others.2 i)

pub reads_plainly : (bytes text : List ℕ) (ts us : List Token) (kept : List Tree) → text ≡ bytes → us ≡ ts → IsUtf8 bytes → IsCut text ts
    → ArePlainClauses opening_ops text us kept → ReadsPlainly bytes kept
reads_plainly bytes text ts us kept same listed utf8 cut are =
    let whole = whole_clauses opening_ops text us kept are in
    record { trees = whole.0; reads = reads_as bytes text ts us whole.0 same listed utf8 cut whole.1; kept_are = whole.2 }

-- a text is told by one list of plain trees
pub one_plainly : (bytes : List ℕ) (kept others : List Tree) → ReadsPlainly bytes kept → ReadsPlainly bytes others → others ≡ kept
one_plainly bytes kept others one two =
    two.kept_are ∙ (ap (map plain) (one_reading bytes two.trees one.trees two.reads one.reads) ∙ sym one.kept_are)

pub clauses_have : (bytes text : List ℕ) (ts us : List Token) (fault : TextFault) → text ≡ bytes → us ≡ ts → IsUtf8 bytes → IsCut text ts
    → HasClauseFault opening_ops text us fault → ClausesHave bytes fault
clauses_have bytes text ts us fault same listed utf8 cut has = record {
  utf8 = utf8;
  tokens = ts;
  cut = subst (λ t. IsCut t ts) same cut;
  has = subst (λ t. HasClauseFault opening_ops t ts fault) same (subst (λ all. HasClauseFault opening_ops text all fault) listed has);
}

pub tokens_have : (bytes text : List ℕ) (of : TokenFault) (fault : TextFault) → text ≡ bytes → IsUtf8 bytes → fault ≡ fault_of_tokens of
    → (of ≢ of_tokens.NoMemory → HasFault text of) → fault ≢ NoMemory → TokensHave bytes fault
tokens_have bytes text of fault same utf8 is has some = record {
  utf8 = utf8;
  of = of;
  is = is;
  has = subst (λ t. HasFault t of) same (has (λ none. some (is ∙ ap fault_of_tokens none)));
}

-- a fault of the clauses is placed, or memory was wanting
pub placed_or_none : (text : List ℕ) (fault : TextFault) → (fault ≢ NoMemory → ClausesHave text fault) → IsPlaced text fault
placed_or_none text (At cause at) have = clauses_placed text (At cause at) (have (λ e. cc))
placed_or_none text NoMemory have = tt

-- what stands within the clauses has a token each, and so have their Ends
pub clauses_weigh : (table : Ops) (text : List ℕ) (ts : List Token) (trees : List Tree) → AreClauses table text ts trees → total_weight trees ≤ length ts
clauses_weigh table text ts [] are = omega arith
clauses_weigh table text ts (tree ∷ trees) (part, rest, left, is, leaves, are) =
    let count : length ts ≡ length part + length rest = ap length is ∙ length-append part rest in
    omega (
      arith,
      count,
      sum_by-cons (λ t. weight t + 2) tree trees,
      clause_weight (table_of table) text part tree leaves.clause,
      clauses_weigh left text rest trees are,
    )

pub plain_weigh : (trees : List Tree) → total_weight (map plain trees) ≤ total_weight trees
plain_weigh [] = omega arith
plain_weigh (tree ∷ trees) =
    omega (
      arith,
      sum_by-cons (λ t. weight t + 2) tree trees,
      sum_by-cons (λ t. weight t + 2) (plain tree) (map plain trees),
      plain_light tree,
      plain_weigh trees,
    )

-- and so it is for plain trees
pub plain_clauses_weigh : (table : Ops) (text : List ℕ) (ts : List Token) (kept : List Tree) → ArePlainClauses table text ts kept → total_weight kept ≤ length ts
plain_clauses_weigh table text ts kept are =
    let whole = whole_clauses table text ts kept are in
    omega (arith, ap total_weight whole.2, plain_weigh whole.0, clauses_weigh table text ts whole.0 whole.1)

-- so each weighs no more than all do
pub each_light : (trees : List Tree) (n : ℕ) → total_weight trees ≤ n → All (λ tree. weight tree ≤ n) trees
each_light [] n light = All-nil (λ tree. weight tree ≤ n)
each_light (tree ∷ trees) n light =
    let both = sum_by-cons (λ t. weight t + 2) tree trees in
    All-cons (λ t. weight t ≤ n) tree trees (omega (arith, light, both)) (each_light trees n (omega (arith, light, both)))
