-- A text has one fault, or a reading, and never both.
use Rattle.std.proofs.Common.{◌≡◌, ℕ, ◌<◌, List, length, ap, sym, ◌∙◌, subst, inl, inr, arith}
use Rattle.std.specs.Str.{IsUtf8, IsValidUpTo}
use Rattle.std.proofs.lemmas.Bool.{cases_lt}
use Rattle.std.proofs.Math.Seq.{take-length}
use Rattle.prolog_tokens.proofs.Between.{one_cut}
use Rattle.prolog_tokens.proofs.Faults as of_tokens
use Rattle.prolog_terms.specs.Tree.{Tree}
use Rattle.prolog_terms.proofs.TokenWords.{cut_spelled}
use Rattle.clause_text.specs.declared.cause.Cause.TheVariants.{NotUtf8}
use Rattle.clause_text.specs.declared.fault.TextFault.{TextFault}
use Rattle.clause_text.specs.declared.fault.TextFault.TheVariants.{At}
use Rattle.clause_text.specs.Clauses.{HasClauseFault, ReadsAs, opening_ops}
use Rattle.clause_text.specs.TextFault.{fault_of_tokens, BytesHave, ClausesHave, HasTextFault, bytes, tokens, clauses}
use Rattle.clause_text.proofs.OneReading.{opening_ops_are, one_clause_fault, list_no_fault}

valid_not_later : (text : List ℕ) (a b : ℕ) → a < b → IsValidUpTo text a → IsValidUpTo text b → ⊥
valid_not_later text a b lt p q = p.longest b lt q.front

valid_once : (text : List ℕ) (a b : ℕ) → IsValidUpTo text a → IsValidUpTo text b → a ≡ b
valid_once text a b p q = elim (cases_lt a b) [
  | inl lt ↦ absurd (valid_not_later text a b lt p q)
  | inr le ↦ elim (cases_lt b a) [
    | inl lt ↦ absurd (valid_not_later text b a lt q p)
    | inr ge ↦ omega arith
  ]
]

not_utf8 : (text : List ℕ) (fault : TextFault) → BytesHave text fault → IsUtf8 text → ⊥
not_utf8 text fault (at, is, valid) utf8 = valid.longest (length text) valid.short (subst IsUtf8 (sym (take-length text)) utf8)

-- the clauses of a text have one fault
one_of_clauses : (text : List ℕ) (fault second : TextFault) → ClausesHave text fault → ClausesHave text second → fault ≡ second
one_of_clauses text fault second have also =
    let same : also.tokens ≡ have.tokens = one_cut text also.tokens have.tokens also.cut have.cut in
    one_clause_fault text opening_ops opening_ops_are have.tokens fault second (cut_spelled text have.tokens have.cut) have.has
    (subst (λ ts. HasClauseFault opening_ops text ts second) same also.has)

pub one_fault : (text : List ℕ) (f g : TextFault) → HasTextFault text f → HasTextFault text g → f ≡ g
one_fault text f g (bytes have) (bytes also) = have.1 ∙ (ap (λ at. At NotUtf8 at) (valid_once text have.0 also.0 have.2 also.2) ∙ sym also.1)
one_fault text f g (bytes have) (tokens also) = absurd (not_utf8 text f have also.utf8)
one_fault text f g (bytes have) (clauses also) = absurd (not_utf8 text f have also.utf8)
one_fault text f g (tokens have) (bytes also) = absurd (not_utf8 text g also have.utf8)
one_fault text f g (tokens have) (tokens also) = have.is ∙ (ap fault_of_tokens (of_tokens.one_fault text have.of also.of have.has also.has) ∙ sym also.is)
one_fault text f g (tokens have) (clauses also) = absurd (of_tokens.fault_no_cut text have.of also.tokens have.has also.cut)
one_fault text f g (clauses have) (bytes also) = absurd (not_utf8 text g also have.utf8)
one_fault text f g (clauses have) (tokens also) = absurd (of_tokens.fault_no_cut text also.of have.tokens also.has have.cut)
one_fault text f g (clauses have) (clauses also) = one_of_clauses text f g have also

-- a text with a fault is no list of clauses
pub fault_no_reading : (text : List ℕ) (fault : TextFault) (trees : List Tree) → HasTextFault text fault → ReadsAs text trees → ⊥
fault_no_reading text fault trees (bytes have) reads = not_utf8 text fault have reads.utf8
fault_no_reading text fault trees (tokens have) reads = of_tokens.fault_no_cut text have.of reads.tokens have.has reads.cut
fault_no_reading text fault trees (clauses have) reads =
    let same : have.tokens ≡ reads.tokens = one_cut text have.tokens reads.tokens have.cut reads.cut in
    let has = subst (λ ts. HasClauseFault opening_ops text ts fault) same have.has in
    list_no_fault text opening_ops opening_ops_are reads.tokens trees has.before fault (cut_spelled text reads.tokens reads.cut) reads.clauses has.stands
