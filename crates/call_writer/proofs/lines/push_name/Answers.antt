use Rattle.std.proofs.Common.{List, ℕ, ◌≡◌, ◌++◌, ap, sym, ◌∙◌, chars, codes, append_assoc}
use Rattle.std.specs.Fmt.{decimal}
use Rattle.std.specs.List.{flat_map}
use Rattle.std.specs.String.{string_bytes}
use Rattle.call_writer.specs.Json.{json_char}
use Rattle.call_writer.proofs.Appended.{five}
use Rattle.call_writer.proofs.lines.push_name.Goals as goal

-- the quotes of both names stand in what is before them and behind them
quoted : (t owner inner arity : List ℕ)
    → t ++ (codes ",\"module\":\"" ++ (owner ++ (codes "\",\"name\":\"" ++ (inner ++ (codes "\",\"arity\":" ++ arity)))))
    ≡ t ++ (codes "," ++ (codes "\"module\":" ++ ((codes "\"" ++ (owner ++ codes "\"")) ++ (codes ",\"name\":" ++ ((codes "\"" ++ (inner ++ codes "\"")) ++ (codes ",\"arity\":" ++ arity))))))
quoted t owner inner arity =
    ap (λ bytes. t ++ (codes ",\"module\":\"" ++ (owner ++ (codes "\",\"name\":\"" ++ bytes)))) (sym (append_assoc inner (codes "\"") (codes ",\"arity\":" ++ arity)))
    ∙ ap (λ bytes. t ++ (codes ",\"module\":\"" ++ bytes)) (sym (append_assoc owner (codes "\"") (codes ",\"name\":\"" ++ ((inner ++ codes "\"") ++ (codes ",\"arity\":" ++ arity)))))

pub returns : goal.returns
returns c =
    five (string_bytes c.args.text.now) (string_bytes c.push_str.new.self) (string_bytes c.push_inner.new.text) (string_bytes c.push_str-2.new.self)
    (string_bytes c.push_inner-2.new.text) (string_bytes c.push_arity.new.text)
    (codes ",\"module\":\"") (flat_map json_char (chars c.args.owner.now)) (codes "\",\"name\":\"") (flat_map json_char (chars c.args.name.now))
    (codes "\",\"arity\":" ++ decimal c.args.arity)
    c.in_ok-push_str.ensures.bytes c.in_ok-push_inner.ensures c.in_ok-push_str-2.ensures.bytes c.in_ok-push_inner-2.ensures c.in_ok-push_arity.ensures
    ∙ quoted (string_bytes c.args.text.now) (flat_map json_char (chars c.args.owner.now)) (flat_map json_char (chars c.args.name.now)) (decimal c.args.arity)
