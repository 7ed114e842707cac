use Rattle.std.proofs.Common.{ap, sym, ◌∙◌, None}
use Rattle.std.specs.Prelude.{if◌then◌else◌}
use Rattle.std.specs.Str.{is_utf8}
use Rattle.std.proofs.lemmas.Bool.{false_from_ne_true}
use Rattle.std.proofs.lemmas.Str.{IsUtf8-from_is_utf8, is_utf8-from_IsUtf8}
use Rattle.serde_json.specs.Read.{read}
use Rattle.edge_json.proofs.line.line_value.Goals as goal

pub returns-in_ok-value-in-Ok : goal.returns-in_ok-value-in-Ok
returns-in_ok-value-in-Ok c =
    let line = c.args.line.now in
    c.in_ok-value-in-Ok.ensures ∙ ap read c.in-Ok.ensures.cases.0
    ∙ ap (λ b. if b then read line else None) (sym (is_utf8-from_IsUtf8 line c.in-Ok.ensures.cases.1))

pub returns-in-Err : goal.returns-in-Err
returns-in-Err c =
    let line = c.args.line.now in
    ap (λ b. if b then read line else None)
    (sym (false_from_ne_true (is_utf8 line) (λ is. c.in-Err.ensures.cases.0 (IsUtf8-from_is_utf8 line is))))
