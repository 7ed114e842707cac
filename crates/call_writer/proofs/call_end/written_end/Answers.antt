use Rattle.std.proofs.Common.{◌≡◌, ◌++◌, ◌∷◌, [], Bool, true, false, ap, sym, ◌∙◌, codes, arith}
use Rattle.std.proofs.lemmas.Fmt.{decimal_digit}
use Rattle.call_writer.specs.Json.{truth}
use Rattle.call_writer.specs.Lines.{call_end}
use Rattle.call_writer.proofs.call_end.written_end.Goals as goal

-- 0 has one digit
none_added : (negated : Bool) → codes ",\"added\":" ++ ((48 ∷ []) ++ (codes ",\"negated\":" ++ (truth negated ++ codes "}\n"))) ≡ call_end 0 negated
none_added negated =
    ap (λ digits. codes ",\"added\":" ++ (digits ++ (codes ",\"negated\":" ++ (truth negated ++ codes "}\n")))) (sym (decimal_digit 0 (omega arith)))

pub returns-then-negated : goal.returns-then-negated
returns-then-negated c = none_added true ∙ ap (call_end 0) (sym c.if-negated.true)

pub returns-else-negated : goal.returns-else-negated
returns-else-negated c = none_added false ∙ ap (call_end 0) (sym c.if-negated.false)
