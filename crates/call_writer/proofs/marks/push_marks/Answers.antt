use Rattle.std.proofs.Common.{List, ℕ, ◌≡◌, ◌++◌, ap, ◌∙◌, codes, append_assoc}
use Rattle.std.specs.String.{string_bytes}
use Rattle.call_writer.specs.Json.{truth}
use Rattle.call_writer.specs.Marks.{declared_fields, goal_args, root_words, words_text}
use Rattle.call_writer.proofs.Appended.{five}
use Rattle.call_writer.proofs.marks.push_marks.Goals as goal

-- what ends the line stands behind all fields
ended : (t exported args words declared : List ℕ)
    → t ++ ((codes ",\"exported\":" ++ (exported ++ codes ",\"meta\":")) ++ (args ++ (codes ",\"root\":[" ++ (words ++ (codes "]" ++ (declared ++ codes "}\n"))))))
    ≡ t ++ ((codes ",\"exported\":" ++ (exported ++ (codes ",\"meta\":" ++ (args ++ (codes ",\"root\":[" ++ (words ++ (codes "]" ++ declared))))))) ++ codes "}\n")
ended t exported args words declared = simp append_assoc

pub returns : goal.returns
returns c =
    five (string_bytes c.args.text.now) (string_bytes c.push_str.new.self) (string_bytes c.push_goal_args.new.text) (string_bytes c.push_str-2.new.self)
    (string_bytes c.push_str-3.new.self) (string_bytes c.push_str-4.new.self)
    (codes ",\"exported\":" ++ (truth c.args.marks.exported ++ codes ",\"meta\":")) (goal_args c.args.args.now) (codes ",\"root\":[")
    (words_text (root_words c.args.marks)) (codes "]" ++ (declared_fields c.args.marks.dynamic c.args.marks.multifile ++ codes "}\n"))
    (c.in_ok-push_str.ensures.bytes ∙ ap (λ field. string_bytes c.args.text.now ++ field) c.exported_field.ensures) c.in_ok-push_goal_args.ensures
    c.in_ok-push_str-2.ensures.bytes
    (c.in_ok-push_str-3.ensures.bytes ∙ ap (λ words. string_bytes c.push_str-2.new.self ++ words) c.root_text.ensures)
    (c.in_ok-push_str-4.ensures.bytes ∙ ap (λ fields. string_bytes c.push_str-3.new.self ++ fields) c.last_fields.ensures)
    ∙ ended (string_bytes c.args.text.now) (truth c.args.marks.exported) (goal_args c.args.args.now) (words_text (root_words c.args.marks))
    (declared_fields c.args.marks.dynamic c.args.marks.multifile)
