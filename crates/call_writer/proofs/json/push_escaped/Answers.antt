use Rattle.std.proofs.Common.{◌++◌, sym, ap, ◌∙◌}
use Rattle.std.specs.List.{flat_map}
use Rattle.std.specs.String.{string_bytes}
use Rattle.std.proofs.lemmas.List.{flat_map_more, map-id}
use Rattle.std.proofs.lemmas.Iterator.{YieldsList-from_chars}
use Rattle.std.proofs.lemmas.Iterator.Consumers.{YieldsList-end}
use Rattle.call_writer.specs.Json.{json_char}
use Rattle.call_writer.proofs.json.push_escaped.Goals as goal

pub loop-character-preserved : goal.loop-character-preserved
loop-character-preserved c =
    c.in_ok-push_json_char.ensures
    ∙ (ap (λ bytes. bytes ++ json_char c.in-Some.character) c.loop-character.invariant
    ∙ flat_map_more json_char (string_bytes c.args.text.now) c.loop-character.yielded c.in-Some.character)

pub returns : goal.returns
returns c =
    let t = YieldsList-end (YieldsList-from_chars c.args.name.now c.utf8.name cc) c.loop-character.yielded _ c.loop-character.yielded_by _ _ c.in-None.is c.next.ensures.steps in
    c.loop-character.invariant ∙ ap (λ cs. string_bytes c.args.text.now ++ flat_map json_char cs) (sym (map-id c.loop-character.yielded) ∙ t.0)
