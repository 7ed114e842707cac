use Rattle.std.proofs.Common.{◌≡◌, ◌++◌, sym, ◌∙◌, subst, rules, OnOk}
use Rattle.std.specs.String.{string_bytes}
use Rattle.loop_report.proofs.SpelledLemmas.{spelled_bare, spelled_quoted}
use Rattle.loop_report.proofs.spelled.push_atom.Goals as goal

pub returns : goal.returns
returns c =
    let is = spelled_quoted c.args.name.now (sym c.is_bare_name.ensures ∙ c.if-is_bare_name.false) in
    subst (λ bytes. OnOk c.push_quoted.result (string_bytes c.push_quoted.new.text ≡ string_bytes c.args.text.now ++ bytes)) (sym is) c.push_quoted.ensures

pub returns-then-is_bare_name : goal.returns-then-is_bare_name
returns-then-is_bare_name c =
    let is = spelled_bare c.args.name.now (sym c.is_bare_name.ensures ∙ c.if-is_bare_name.true) in
    let pushed : OnOk c.push_str.result (string_bytes c.push_str.new.self ≡ string_bytes c.args.text.now ++ c.args.name.now) = search rules in
    subst (λ bytes. OnOk c.push_str.result (string_bytes c.push_str.new.self ≡ string_bytes c.args.text.now ++ bytes)) (sym is) pushed
