use Rattle.std.proofs.Common.{◌≡◌, ℕ, ◌++◌, List, [], OnOk, get_or, sym, subst}
use Rattle.std.proofs.lemmas.List.{get_or-map}
use Rattle.byte_names.specs.Names.{name_at, names_of}
use Rattle.component_report.specs.Json.{json_name}
use Rattle.component_report.proofs.json_lines.push_member.Goals as goal
use denote.Ref.{Bor}

pub returns : goal.returns
returns c =
    let names = c.args.names.now in
    let none : Bor (List ℕ) = record { ref_ptr = (0, 0); now = [] } in
    let name = get_or names c.args.member none in
    let read : name_at (names_of names) c.args.member ≡ name.now =
    get_or-map (λ (n : Bor (List ℕ)). n.now) names c.args.member none [] c.requires in
    subst (λ bytes. OnOk c.push_json_name.result (c.push_json_name.new.text.items ≡ c.args.text.now.items ++ json_name bytes)) (sym read)
    c.push_json_name.ensures
