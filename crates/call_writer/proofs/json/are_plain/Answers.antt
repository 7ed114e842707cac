use Rattle.std.proofs.Common.{◌≡◌, ◌++◌, List, [], ◌∷◌, ℕ, chars, encode_utf8_all, refl, sym, ap, ◌∙◌}
use Rattle.std.specs.Char.{encode_utf8}
use Rattle.std.specs.List.{flat_map}
use Rattle.std.proofs.lemmas.List.{flat_map_more, map-id}
use Rattle.std.proofs.lemmas.List.Concat.{flat_map-cons}
use Rattle.std.proofs.lemmas.Iterator.{YieldsList-from_chars}
use Rattle.std.proofs.lemmas.Iterator.Consumers.{YieldsList-end}
use Rattle.std.proofs.lemmas.Str.{encodes-chars}
use Rattle.call_writer.specs.Json.{json_char}
use Rattle.call_writer.proofs.json.are_plain.Goals as goal

-- one more that stands as it is
more : (seen : List ℕ) (c : ℕ) → json_char c ≡ encode_utf8 c → flat_map json_char seen ≡ flat_map encode_utf8 seen
    → flat_map json_char (seen ++ c ∷ []) ≡ flat_map encode_utf8 (seen ++ c ∷ [])
more seen c plain same =
    sym (flat_map_more json_char [] seen c) ∙ ((λ i. same i ++ plain i) ∙ flat_map_more encode_utf8 [] seen c)

encoded : (cs : List ℕ) → flat_map encode_utf8 cs ≡ encode_utf8_all cs
encoded [] = refl
encoded (c ∷ cs) = flat_map-cons encode_utf8 c cs ∙ ap (λ bytes. encode_utf8 c ++ bytes) (encoded cs)

pub loop-character-preserved : goal.loop-character-preserved
loop-character-preserved c = more c.loop-character.yielded c.in-Some.character (c.if-not-is_plain.ensures refl) c.loop-character.invariant

pub returns : goal.returns
returns c true =
    let t = YieldsList-end (YieldsList-from_chars c.args.name.now c.utf8.name cc) c.loop-character.yielded _ c.loop-character.yielded_by _ _ c.in-None.is c.next.ensures.steps in
    let all : c.loop-character.yielded ≡ chars c.args.name.now = sym (map-id c.loop-character.yielded) ∙ t.0 in
    ap (flat_map json_char) (sym all)
    ∙ (c.loop-character.invariant ∙ (ap (flat_map encode_utf8) all ∙ (encoded (chars c.args.name.now) ∙ encodes-chars c.args.name.now c.utf8.name)))
