use Rattle.std.proofs.Common.{◌≡◌, ◌≢◌, List, arith}
use Rattle.std.specs.Prelude.{IfSome}
use Rattle.prolog_tokens.specs.declared.token.Token.{Token}
use Rattle.prolog_tokens.specs.declared.token.TokenFault.{TokenFault}
use Rattle.prolog_tokens.specs.declared.token.TokenFault.TheVariants.{NoMemory}
use Rattle.prolog_tokens.specs.Places.{IsOffset, fault_offset}
use Rattle.prolog_tokens.specs.Cut.{IsCut, HasFault}
use Rattle.prolog_tokens.proofs.Classes.{begins_first}
use Rattle.prolog_tokens.proofs.Between.{one_cut}
use Rattle.prolog_tokens.proofs.Faults.{one_fault, fault_no_cut}
use Rattle.prolog_tokens.proofs.RowLemmas.{on_fault, fault_placed, row_fault, row_cut, starts_row}
use Rattle.prolog_tokens.proofs.cut.tokens.Goals as goal

pub go_on-requires-clause-begins : goal.go_on-requires-clause-begins
go_on-requires-clause-begins c = record { within = omega arith; begins = begins_first c.args.text.now c.utf8.text }

pub returns-in_err-go_on-clause-fault : goal.returns-in_err-go_on-clause-fault
returns-in_err-go_on-clause-fault c =
    on_fault c.from_residual-in_err-go_on.result c.in_err-go_on.field-0.0 (λ fault. fault ≢ NoMemory → HasFault c.args.text.now fault) c.from_residual-in_err-go_on.ensures.1
    (λ some. row_fault c.args.text.now c.go_on.new.row c.in_err-go_on.field-0.0 (c.go_on.ensures.row 0 (starts_row c.args.text.now 0 _ c.in_ok-with_capacity.ensures.items)) (c.in_err-go_on.ensures.fault some))

pub returns-in_err-go_on-clause-only_fault : goal.returns-in_err-go_on-clause-only_fault
returns-in_err-go_on-clause-only_fault c =
    on_fault c.from_residual-in_err-go_on.result c.in_err-go_on.field-0.0
    (λ fault. fault ≢ NoMemory → (other : TokenFault) → HasFault c.args.text.now other → other ≡ fault) c.from_residual-in_err-go_on.ensures.1
    (λ some other also. one_fault c.args.text.now other c.in_err-go_on.field-0.0 also
    (row_fault c.args.text.now c.go_on.new.row c.in_err-go_on.field-0.0 (c.go_on.ensures.row 0 (starts_row c.args.text.now 0 _ c.in_ok-with_capacity.ensures.items)) (c.in_err-go_on.ensures.fault some)))

pub returns-in_err-go_on-clause-no_cut : goal.returns-in_err-go_on-clause-no_cut
returns-in_err-go_on-clause-no_cut c =
    on_fault c.from_residual-in_err-go_on.result c.in_err-go_on.field-0.0 (λ fault. fault ≢ NoMemory → (others : List Token) → IsCut c.args.text.now others → ⊥)
    c.from_residual-in_err-go_on.ensures.1
    (λ some others cut. fault_no_cut c.args.text.now c.in_err-go_on.field-0.0 others
    (row_fault c.args.text.now c.go_on.new.row c.in_err-go_on.field-0.0 (c.go_on.ensures.row 0 (starts_row c.args.text.now 0 _ c.in_ok-with_capacity.ensures.items)) (c.in_err-go_on.ensures.fault some)) cut)

pub returns-in_err-go_on-clause-place : goal.returns-in_err-go_on-clause-place
returns-in_err-go_on-clause-place c =
    on_fault c.from_residual-in_err-go_on.result c.in_err-go_on.field-0.0 (λ fault. IfSome (fault_offset fault) (λ at. IsOffset c.args.text.now at))
    c.from_residual-in_err-go_on.ensures.1
    (fault_placed c.args.text.now c.in_err-go_on.field-0.0 c.utf8.text
    (λ some. row_fault c.args.text.now c.go_on.new.row c.in_err-go_on.field-0.0 (c.go_on.ensures.row 0 (starts_row c.args.text.now 0 _ c.in_ok-with_capacity.ensures.items)) (c.in_err-go_on.ensures.fault some)))

pub returns-clause-ok : goal.returns-clause-ok
returns-clause-ok c = row_cut c.args.text.now c.go_on.new.row c.in_ok-go_on.field-0 (c.go_on.ensures.row 0 (starts_row c.args.text.now 0 _ c.in_ok-with_capacity.ensures.items)) c.in_ok-go_on.ensures.next

pub returns-clause-only : goal.returns-clause-only
returns-clause-only c = λ others cut.
    one_cut c.args.text.now others c.go_on.new.row.tokens.items cut
    (row_cut c.args.text.now c.go_on.new.row c.in_ok-go_on.field-0 (c.go_on.ensures.row 0 (starts_row c.args.text.now 0 _ c.in_ok-with_capacity.ensures.items)) c.in_ok-go_on.ensures.next)

pub returns-clause-no_fault : goal.returns-clause-no_fault
returns-clause-no_fault c = λ fault has.
    fault_no_cut c.args.text.now fault c.go_on.new.row.tokens.items has
    (row_cut c.args.text.now c.go_on.new.row c.in_ok-go_on.field-0 (c.go_on.ensures.row 0 (starts_row c.args.text.now 0 _ c.in_ok-with_capacity.ensures.items)) c.in_ok-go_on.ensures.next)
