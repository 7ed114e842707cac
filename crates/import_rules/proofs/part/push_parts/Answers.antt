use Rattle.std.proofs.Common.{◌∷◌, ◌++◌, [], map, sym, ap, ◌∙◌, append_assoc}
use Rattle.std.specs.List.{range_with_len}
use Rattle.std.proofs.lemmas.List.{map-append}
use Rattle.import_rules.specs.Parts.{part_at, parts_to}
use Rattle.import_rules.proofs.Ranges.{range_more}
use Rattle.import_rules.proofs.part.push_parts.Goals as goal

pub loop-part-preserved : goal.loop-part-preserved
loop-part-preserved c =
    let file = c.args.file in
    let n = c.loop-part.part in
    let before = c.args.parts.now.items in
    c.in_ok-push.ensures.items
    ∙ ap (λ ps. ps ++ part_at file n ∷ []) c.loop-part.invariant
    ∙ append_assoc before (parts_to file n) (part_at file n ∷ [])
    ∙ ap (λ ps. before ++ ps) (sym (ap (λ ks. map (part_at file) ks) (range_more n) ∙ map-append (part_at file) (range_with_len 0 n) (n ∷ [])))
