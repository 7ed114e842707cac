-- For each cause of facts some clauses that are refused for it.
use Rattle.std.proofs.Common.{◌≡◌, ℕ, true, List, [], ◌∷◌, Err, codes, refl}
use Rattle.prolog_terms.specs.declared.term.Span.{Span}
use Rattle.prolog_terms.specs.declared.term.Form.TheVariants.{Functional, Prefix}
use Rattle.prolog_terms.specs.Tree.{Tree, variable, atom, compound, more as with_more, none}
use Rattle.clause_text.specs.declared.cause.Cause.{Cause}
use Rattle.clause_text.specs.declared.cause.Cause.TheVariants.{LateModule, BadIndicator, BadSpec, ControlHead, BadHead, NotInProfile}
use Rattle.module_table.specs.Said.{Refusal}
use Rattle.module_table.specs.Facts.{file_said}
use Rattle.laws.specs.Causes.{is_fact_cause}

abbrev here : Span
here = record { from = 0; to = 0 }

abbrev named : List ℕ → Tree
named name = atom name here

abbrev directive : Tree → Tree
directive term = compound (codes ":-") (with_more term none) Prefix here

abbrev of_one : List ℕ → Tree → Tree
of_one name argument = compound name (with_more argument none) Functional here

abbrev of_two : List ℕ → Tree → Tree → Tree
of_two name left right = compound name (with_more left (with_more right none)) Functional here

abbrev at_start : Cause → Refusal
at_start cause = record { cause = cause; offset = 0 }

abbrev IsRefused : List ℕ → Cause → Type 0
IsRefused user cause = (trees : List Tree) × (refusal : Refusal) × (file_said user trees ≡ Err refusal) × (refusal.cause ≡ cause)

-- a fact, and then `:- module(m, []).`; `:- dynamic p.`; `:- consult(X).`; `!.`; `X.`; `:- include(a).`
pub each_cause : (user : List ℕ) (cause : Cause) → is_fact_cause cause ≡ true → IsRefused user cause
each_cause user LateModule is =
    (named (codes "a") ∷ directive (of_two (codes "module") (named (codes "m")) (named (codes "[]"))) ∷ [], at_start LateModule, refl, refl)
each_cause user BadIndicator is = (directive (of_one (codes "dynamic") (named (codes "p"))) ∷ [], at_start BadIndicator, refl, refl)
each_cause user BadSpec is = (directive (of_one (codes "consult") (variable here)) ∷ [], at_start BadSpec, refl, refl)
each_cause user ControlHead is = (named (codes "!") ∷ [], at_start ControlHead, refl, refl)
each_cause user BadHead is = (variable here ∷ [], at_start BadHead, refl, refl)
each_cause user NotInProfile is = (directive (of_one (codes "include") (named (codes "a"))) ∷ [], at_start NotInProfile, refl, refl)
each_cause user cause is = cc
