use Rattle.std.proofs.Common.{◌≡◌, ℕ, ◌++◌, List, codes, append_assoc, ap, ◌∙◌}
use Rattle.std.specs.Fmt.{decimal}
use Rattle.byte_names.specs.Names.{names_of}
use Rattle.component_report.specs.Json.{with_commas}
use Rattle.component_report.specs.JsonLines.{json_member, truth_of}
use Rattle.component_report.proofs.json_lines.push_json_group.Goals as goal

-- seven texts, put one after another
put_seven : (old one two three four five six last a b c d e f g : List ℕ) → one ≡ old ++ a → two ≡ one ++ b → three ≡ two ++ c → four ≡ three ++ d
    → five ≡ four ++ e → six ≡ five ++ f → last ≡ six ++ g → last ≡ old ++ (a ++ b ++ (c ++ d) ++ (e ++ f) ++ g)
put_seven old one two three four five six last a b c d e f g p q r s t u v = rw (v, u, t, s, r, q, p) (simp append_assoc)

pub returns : goal.returns
returns c =
    put_seven (c.args.text.now.items) (c.push_count.new.text.items) (c.push_count-2.new.text.items) (c.push_text.new.text.items)
    (c.push_text-2.new.text.items) (c.push_text-3.new.text.items) (c.push_members.new.text.items) (c.push_text-4.new.text.items)
    (codes "{\"id\":" ++ decimal c.args.id) (codes ",\"height\":" ++ decimal c.args.level.height) (codes ",\"recursive\":")
    (truth_of c.args.level.recursive) (codes ",\"members\":[") (with_commas (json_member (names_of c.args.names.now)) c.args.members.now) (codes "]}\n")
    c.in_ok-push_count.ensures
    (c.in_ok-push_count-2.ensures ∙ ap (λ n. c.push_count.new.text.items ++ (codes ",\"height\":" ++ decimal n)) c.from.ensures) c.in_ok-push_text.ensures
    (c.in_ok-push_text-2.ensures ∙ ap (λ bytes. c.push_text.new.text.items ++ bytes) c.truth_name.ensures) c.in_ok-push_text-3.ensures
    c.in_ok-push_members.ensures c.in_ok-push_text-4.ensures
