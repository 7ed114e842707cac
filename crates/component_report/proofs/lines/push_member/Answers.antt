use Rattle.std.proofs.Common.{◌≡◌, ℕ, ◌++◌, List, [], get_or, append_assoc, codes, sym, ap, ◌∙◌}
use Rattle.std.proofs.lemmas.List.{get_or-map}
use Rattle.byte_names.specs.Names.{name_at, names_of}
use Rattle.component_report.proofs.lines.push_member.Goals as goal
use denote.Ref.{Bor}

pub returns : goal.returns
returns c =
    let names = c.args.names.now in
    let old = c.args.text.now.items in
    let none : Bor (List ℕ) = record { ref_ptr = (0, 0); now = [] } in
    let name = get_or names c.args.member none in
    let read : name_at (names_of names) c.args.member ≡ name.now =
    get_or-map (λ (n : Bor (List ℕ)). n.now) names c.args.member none [] c.requires in
    c.in_ok-extend_from_slice.ensures.items ∙ ap (λ text. text ++ name.now) c.in_ok-push_text.ensures ∙ append_assoc old (codes " ") name.now
    ∙ ap (λ bytes. old ++ (codes " " ++ bytes)) (sym read)
