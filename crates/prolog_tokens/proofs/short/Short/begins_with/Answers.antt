use Rattle.std.proofs.Common.{◌≡◌, ◌<◌, get_or, length, take, sym, ap, ◌∙◌, arith}
use Rattle.std.proofs.lemmas.List.{get_or-take, length-take}
use Rattle.prolog_tokens.proofs.Padded.{other_byte, same_bytes}
use Rattle.prolog_tokens.proofs.short.Short.begins_with.Goals as goal

pub returns-then-self-at : goal.returns-then-self-at
returns-then-self-at c =
    let own = c.args.self.now in
    let text = c.args.text.now in
    let at = c.loop-at.at in
    let size : length own ≡ length (take c.self.inside.len c.self.inside.bytes) = ap length (sym c.self.view_is) in
    let below : at < c.self.inside.len =
    omega (arith, c.loop-at-test.true, c.requires, size, length-take c.self.inside.len c.self.inside.bytes, ap length c.as_bytes-bytes.ensures.value) in
    let read : get_or own at 0 ≡ get_or c.self.inside.bytes at 0 =
    ap (λ bytes. get_or bytes at 0) (sym c.self.view_is) ∙ get_or-take c.self.inside.len c.self.inside.bytes at 0 below in
    sym (other_byte own text at (λ same. c.if-self-at.true (sym read ∙ (same ∙ ap (λ bytes. get_or bytes at 0) (sym c.as_bytes-bytes.ensures.value)))))

pub returns : goal.returns
returns c =
    let own = c.args.self.now in
    let text = c.args.text.now in
    let size : length own ≡ length (take c.self.inside.len c.self.inside.bytes) = ap length (sym c.self.view_is) in
    sym
    (same_bytes own text c.requires
    (λ at below.
    let within : at < c.self.inside.len = omega (arith, below, size, length-take c.self.inside.len c.self.inside.bytes) in
    let read : get_or own at 0 ≡ get_or c.self.inside.bytes at 0 =
    ap (λ bytes. get_or bytes at 0) (sym c.self.view_is) ∙ get_or-take c.self.inside.len c.self.inside.bytes at 0 within in
    read ∙ c.loop-at.invariant at (omega (arith, below, c.loop-at-test.false, c.requires, ap length c.as_bytes-bytes.ensures.value))))
