use Rattle.std.proofs.Common.{◌≡◌, ◌≢◌, true, nat_lt, length, get_or, subst}
use Rattle.std.specs.Cmp.{booleans_Decides}
use Rattle.std.proofs.lemmas.Bool.{not-false}
use Rattle.prolog_tokens.specs.declared.token.TokenFault.TheVariants.{NoMemory}
use Rattle.prolog_tokens.specs.Cut.{IsNext, IsWrongNext}
use Rattle.prolog_tokens.proofs.RowLemmas.{on_fault, row_joined}
use Rattle.prolog_tokens.proofs.rows.meets.Goals as goal

pub returns-in_err-token-clause-fault : goal.returns-in_err-token-clause-fault
returns-in_err-token-clause-fault c =
    on_fault c.from_residual.result c.in_err-token.field-0.0 (λ fault. fault ≢ NoMemory → IsWrongNext c.args.text.now c.go_on.new.row.end fault) c.from_residual.ensures.1
    (λ some. c.in_err-token.ensures.fault some)

pub returns-clause-next : goal.returns-clause-next
returns-clause-next c = λ is.
    let text = c.args.text.now in
    let other = c.args.next.now in
    let end = c.go_on.new.row.end in
    let token = c.in-Some-2.token in
    let next : IsNext text end token = (rw c.in-Some-2.is at c.in_ok-token.ensures.next).0 in
    let told : token.after_layout ≡ c.in-Some.first.now.after_layout =
    (booleans_Decides token.after_layout c.in-Some.first.now.after_layout).0 (not-false _ c.if-token-after_layout.false) in
    row_joined text end c.requires.next.0 other.end other.tokens.items token c.in-Some.first.now c.requires.next.1 (subst (λ ts. true ≡ nat_lt 0 (length ts)) c.deref.ensures.value c.in-Some.ensures.item.0)
    (subst (λ ts. c.in-Some.first.now ≡ get_or ts 0 c.in-Some.first.now) c.deref.ensures.value c.in-Some.ensures.item.1) next c.if-token-start.false told
