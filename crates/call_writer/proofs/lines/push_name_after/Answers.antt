use Rattle.std.proofs.Common.{List, ℕ, ◌≡◌, ◌++◌, ap, ◌∙◌, chars, codes, sym, append_assoc}
use Rattle.std.specs.Fmt.{decimal}
use Rattle.std.specs.List.{flat_map}
use Rattle.std.specs.String.{string_bytes}
use Rattle.call_writer.specs.Json.{json_char, json_string}
use Rattle.call_writer.proofs.Appended.{three_parts}
use Rattle.call_writer.proofs.lines.push_name_after.Goals as goal

-- the quotes of a name stand in what is before it and behind it
quoted : (t owner inner arity : List ℕ)
    → t ++ (codes ",\"module\":" ++ (owner ++ (codes ",\"name\":\"" ++ (inner ++ (codes "\",\"arity\":" ++ arity)))))
    ≡ t ++ (codes ",\"module\":" ++ (owner ++ (codes ",\"name\":" ++ ((codes "\"" ++ (inner ++ codes "\"")) ++ (codes ",\"arity\":" ++ arity)))))
quoted t owner inner arity =
    ap (λ bytes. t ++ (codes ",\"module\":" ++ (owner ++ (codes ",\"name\":\"" ++ bytes)))) (sym (append_assoc inner (codes "\"") (codes ",\"arity\":" ++ arity)))

pub returns : goal.returns
returns c =
    three_parts (string_bytes c.args.text.now) (string_bytes c.push_str.new.self) (string_bytes c.push_inner.new.text) (string_bytes c.push_arity.new.text)
    (codes ",\"module\":") (json_string c.args.owner.now) (codes ",\"name\":\"") (flat_map json_char (chars c.args.name.now))
    (codes "\",\"arity\":" ++ decimal c.args.arity)
    (c.in_ok-push_str.ensures.bytes ∙ ap (λ bytes. string_bytes c.args.text.now ++ bytes) (c.as_str.ensures.value ∙ c.in_ok-take.ensures))
    c.in_ok-push_inner.ensures c.in_ok-push_arity.ensures
    ∙ quoted (string_bytes c.args.text.now) (json_string c.args.owner.now) (flat_map json_char (chars c.args.name.now)) (decimal c.args.arity)
