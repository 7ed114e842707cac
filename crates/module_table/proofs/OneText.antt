-- A file has one record of facts by its text, or one fault, and never both.
use Rattle.std.proofs.Common.{◌≡◌, ℕ, List, Ok, Err, map, ap, sym, ◌∙◌, subst, inl, inr}
use Rattle.kept_clauses.specs.Plain.{plain}
use Rattle.clause_text.specs.declared.fault.TextFault.TheVariants.{At}
use Rattle.clause_text.proofs.OneFault as of_text
use Rattle.clause_text.proofs.OneReading.{one_reading}
use Rattle.module_table.specs.Said.{Refusal}
use Rattle.module_table.specs.Facts.{Facts, AreFacts, file_said}
use Rattle.module_table.specs.FileText.{HasFacts, HasRefusal, HasFault}
use Rattle.module_table.proofs.OneFacts.{one_facts}

pub same_facts : (name text : List ℕ) (facts other : Facts) → HasFacts name text facts → HasFacts name text other → facts ≡ other
same_facts name text facts other is also =
    let same : also.trees ≡ is.trees = one_reading text also.trees is.trees also.reads is.reads in
    one_facts name (map plain is.trees) facts other is.are (subst (λ trees. AreFacts name (map plain trees) other) same also.are)

one_refusal : (name text : List ℕ) (f g : Refusal) → HasRefusal name text f → HasRefusal name text g → f ≡ g
one_refusal name text f g is also =
    let same : also.trees ≡ is.trees = one_reading text also.trees is.trees also.reads is.reads in
    let both : Err f ≡ Err g = sym is.said ∙ (ap (λ trees. file_said name (map plain trees)) (sym same) ∙ also.said) in
    cc

pub same_fault : (name text : List ℕ) (f g : Refusal) → HasFault name text f → HasFault name text g → f ≡ g
same_fault name text f g (inl one) (inl two) =
    let both : At f.cause f.offset ≡ At g.cause g.offset = of_text.one_fault text (At f.cause f.offset) (At g.cause g.offset) one two in
    let cause : f.cause ≡ g.cause = cc in
    let offset : f.offset ≡ g.offset = cc in
    λ i. record { cause = cause i; offset = offset i }
same_fault name text f g (inl one) (inr two) = absurd (of_text.fault_no_reading text (At f.cause f.offset) two.trees one two.reads)
same_fault name text f g (inr one) (inl two) = absurd (of_text.fault_no_reading text (At g.cause g.offset) one.trees two one.reads)
same_fault name text f g (inr one) (inr two) = one_refusal name text f g one two

refusal_no_facts : (name text : List ℕ) (fault : Refusal) (facts : Facts) → HasRefusal name text fault → HasFacts name text facts → ⊥
refusal_no_facts name text fault facts is has =
    let same : has.trees ≡ is.trees = one_reading text has.trees is.trees has.reads is.reads in
    let both : Err fault ≡ Ok has.are.parts = sym is.said ∙ (ap (λ trees. file_said name (map plain trees)) (sym same) ∙ has.are.said) in
    cc

pub faulty_no_facts : (name text : List ℕ) (fault : Refusal) (facts : Facts) → HasFault name text fault → HasFacts name text facts → ⊥
faulty_no_facts name text fault facts (inl of) has = of_text.fault_no_reading text (At fault.cause fault.offset) has.trees of has.reads
faulty_no_facts name text fault facts (inr of) has = refusal_no_facts name text fault facts of has
