use Rattle.std.proofs.Common.{rules, ◌≡◌, ◌<◌, length, slice_get, Some, get_or, sym, subst, arith}
use Rattle.std.proofs.lemmas.Option.{slice_get-get_or}
use Rattle.prolog_tokens.specs.Cut.{IsTokenOf}
use Rattle.text_rows.proofs.tokens.token_at.Goals as goal

pub returns : goal.returns
returns c =
    let found = c.in_ok-found.found.items in
    let lt : c.args.index < length found = search (rules, arith) in
    let read = get_or found c.args.index c.index.result.now in
    let there : slice_get found c.args.index ≡ Some read = slice_get-get_or found c.args.index c.index.result.now lt in
    let token : IsTokenOf c.args.text.now read = c.cut_tokens.ensures.spelled c.args.text.now found c.in_ok-found.ensures.ok c.args.index read there in
    subst (IsTokenOf c.args.text.now) (sym c.index.ensures) token
