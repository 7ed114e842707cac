use Rattle.std.proofs.Common.{rules, ◌≡◌, ◌∷◌, ◌++◌, [], ap, sym, ◌∙◌, codes}
use Rattle.std.proofs.lemmas.List.{nil_from_length}
use Rattle.std.specs.List.{flat_map}
use Rattle.std.specs.String.{string_bytes}
use Rattle.call_writer.specs.Marks.{goal_arg, goal_args, next_goal_arg}
use Rattle.call_writer.proofs.Appended.{four}
use Rattle.call_writer.proofs.marks.push_goal_args.Goals as goal

pub returns-in_default : goal.returns-in_default
returns-in_default c =
    let none : c.args.args.now ≡ [] = nil_from_length c.args.args.now c.in_default.ensures.cases in
    c.in_ok-push_str.ensures.bytes ∙ ap (λ args. string_bytes c.args.text.now ++ goal_args args) (sym none)

pub returns : goal.returns
returns c =
    let are : c.args.args.now ≡ c.in-Some.first.now ∷ c.in-Some.others.now = search rules in
    four (string_bytes c.args.text.now) (string_bytes c.push_str-2.new.self) (string_bytes c.push_goal_arg.new.text)
    (string_bytes c.push_next_goal_args.new.text) (string_bytes c.push_str-3.new.self) (codes "[") (goal_arg c.in-Some.first.now)
    (flat_map next_goal_arg c.in-Some.others.now) (codes "]")
    c.in_ok-push_str-2.ensures.bytes c.in_ok-push_goal_arg.ensures c.in_ok-push_next_goal_args.ensures c.in_ok-push_str-3.ensures.bytes
    ∙ ap (λ args. string_bytes c.args.text.now ++ goal_args args) (sym are)
