use Rattle.std.proofs.Common.{rules, ◌≡◌, ℕ, ◌<◌, ◌∷◌, ◌++◌, [], All, length, ap, sym, ◌∙◌, subst, append-nil}
use Rattle.std.proofs.lemmas.List.{nil_from_length}
use Rattle.std.proofs.lemmas.List.Elements.{All-head, All-tail}
use Rattle.std.specs.List.{flat_map}
use Rattle.std.specs.String.{string_bytes}
use Rattle.call_writer.specs.Dot.{label_of, labels, next_label}
use Rattle.call_writer.proofs.Appended.{two}
use Rattle.call_writer.proofs.condensed.push_labels.Goals as goal

pub returns-in_default : goal.returns-in_default
returns-in_default c =
    let none : c.args.nodes.now ≡ [] = nil_from_length c.args.nodes.now c.in_default.ensures.cases in
    sym (append-nil (string_bytes c.args.text.now)) ∙ ap (λ ns. string_bytes c.args.text.now ++ labels c.args.program.now.predicates ns) (sym none)

pub push_label_of-requires : goal.push_label_of-requires
push_label_of-requires c =
    let are : c.args.nodes.now ≡ c.in-Some.first.now ∷ c.in-Some.others.now = search rules in
    let P : ℕ → Type 0 = λ node. node < length c.args.program.now.predicates in
    All-head P c.in-Some.first.now c.in-Some.others.now (subst (All P) are c.requires)

pub push_next_labels-requires : goal.push_next_labels-requires
push_next_labels-requires c =
    let are : c.args.nodes.now ≡ c.in-Some.first.now ∷ c.in-Some.others.now = search rules in
    let P : ℕ → Type 0 = λ node. node < length c.args.program.now.predicates in
    All-tail P c.in-Some.first.now c.in-Some.others.now (subst (All P) are c.requires)

pub returns : goal.returns
returns c =
    let are : c.args.nodes.now ≡ c.in-Some.first.now ∷ c.in-Some.others.now = search rules in
    let predicates = c.args.program.now.predicates in
    two (string_bytes c.args.text.now) (string_bytes c.push_label_of.new.text) (string_bytes c.push_next_labels.new.text)
    (label_of predicates c.in-Some.first.now) (flat_map (next_label predicates) c.in-Some.others.now) c.in_ok-push_label_of.ensures
    c.in_ok-push_next_labels.ensures
    ∙ ap (λ ns. string_bytes c.args.text.now ++ labels predicates ns) (sym are)
