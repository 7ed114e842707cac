use Rattle.std.proofs.Common.{◌≡◌, ◌++◌, ◌+◌, [], ◌∷◌, zero, suc, ℕ, ap, sym, ◌∙◌, arith}
use Rattle.std.specs.List.{flat_map, range_with_len}
use Rattle.std.proofs.lemmas.Grind.{flat_map-append}
use Rattle.std.proofs.lemmas.List.{append-nil}
use Rattle.import_rules.proofs.Ranges.{range_more}
use Rattle.group_words.specs.Made.{line}
use Rattle.group_words.proofs.made.make_text.Goals as goal

pub loop-number-preserved : goal.loop-number-preserved
loop-number-preserved c =
    let number = c.loop-number.number in
    let one = line c.args.count in
    c.in_ok-push_line.ensures
    ∙ (ap (λ text. text ++ one number) c.loop-number.invariant
    ∙ sym (ap (flat_map one) (range_more number) ∙ (flat_map-append one (range_with_len 0 number) (number ∷ []) ∙ ap (λ x. flat_map one (range_with_len 0 number) ++ x) (append-nil (one number)))))
