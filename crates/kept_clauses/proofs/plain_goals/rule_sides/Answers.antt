use Rattle.std.proofs.Common.{codes, refl, sym, ap, ◌∙◌, arith}
use Rattle.std.proofs.lemmas.Bool.{ne_eqb}
use Rattle.prolog_terms.specs.Views.{sides_named}
use Rattle.kept_clauses.proofs.Bodies.{if_false}
use Rattle.kept_clauses.proofs.NameNumbers.{is_word}
use Rattle.kept_clauses.proofs.plain_goals.rule_sides.Goals as goal

pub returns-then-number-ne-NECK-clause-sides : goal.returns-then-number-ne-NECK-clause-sides
returns-then-number-ne-NECK-clause-sides c =
    let number = c.in_ok-number.number in
    sym (ap (sides_named (codes ":-")) (sym c.in_ok-number.ensures.trees)
    ∙ if_false _ _ _
    (is_word c.args.clause.now.names.now c.known_law.ensures.named c.names_law.ensures.only (codes ":-") 17 number (omega arith) refl (λ e. cc)
    ∙ ne_eqb 17 number (λ same. c.if-number-ne-NECK.true (sym same))))
