use Rattle.std.proofs.Common.{rules, ◌≡◌, ◌∷◌, ◌++◌, [], ap, sym, ◌∙◌, append-nil}
use Rattle.std.proofs.lemmas.List.{nil_from_length}
use Rattle.std.specs.Fmt.{decimal}
use Rattle.std.specs.List.{flat_map}
use Rattle.std.specs.String.{string_bytes}
use Rattle.call_writer.specs.Lines.{after_comma, listed}
use Rattle.call_writer.proofs.Appended.{two}
use Rattle.call_writer.proofs.group_line.push_listed.Goals as goal

pub returns-in_default : goal.returns-in_default
returns-in_default c =
    let none : c.args.members.now ≡ [] = nil_from_length c.args.members.now c.in_default.ensures.cases in
    sym (append-nil (string_bytes c.args.text.now)) ∙ ap (λ ms. string_bytes c.args.text.now ++ listed ms) (sym none)

pub returns : goal.returns
returns c =
    let are : c.args.members.now ≡ c.in-Some.first.now ∷ c.in-Some.others.now = search rules in
    two (string_bytes c.args.text.now) (string_bytes c.push_number.new.text) (string_bytes c.push_others.new.text) (decimal c.in-Some.first.now)
    (flat_map after_comma c.in-Some.others.now)
    (c.in_ok-push_number.ensures ∙ ap (λ n. string_bytes c.args.text.now ++ decimal n) c.from.ensures) c.in_ok-push_others.ensures
    ∙ ap (λ ms. string_bytes c.args.text.now ++ listed ms) (sym are)
