use Rattle.std.proofs.Common.{◌≡◌, ◌+◌, true, length, ap, sym, ◌∙◌, arith}
use Rattle.prolog_terms.specs.Terms.{trees_of}
use Rattle.prolog_terms.specs.Views.{trees_in}
use Rattle.call_edges.specs.declared.role.Row.{Row}
use Rattle.call_edges.specs.declared.role.Way.TheVariants.{Behind, Control, Negation, Qualified, Calling}
use Rattle.call_edges.specs.Goals.{by_row, first_only, first_two, row, taken_by, unmet, way}
use Rattle.call_edges.specs.ProgramRows.{rows_of, standing_by}
use Rattle.call_edges.proofs.PartLemmas.{length_count}
use Rattle.call_edges.proofs.TakenLemmas.{calling_is}
use Rattle.call_edges.proofs.take_apart.take_apart.Goals as goal

pub returns-in-Behind-clause-taken : goal.returns-in-Behind-clause-taken
returns-in-Behind-clause-taken c =
    let parts = trees_in (trees_of c.args.args.now) in
    let count : length parts ≡ c.len.result = length_count (trees_of c.args.args.now) ∙ sym c.len.ensures in
    let is : way c.args.role.arg c.args.name.now (length parts) ≡ Behind =
    ap (way c.args.role.arg c.args.name.now) count ∙ (sym c.way_of.ensures ∙ c.in-Behind.is) in
    c.unmet-in-Behind.ensures.taken
    ∙ ap (λ (r : Row). unmet c.args.owner.now (by_row r) c.args.role.negated) c.second_only.ensures
    ∙ sym (ap (λ w. taken_by (rows_of c.args.program.now) w c.args.at c.args.owner.now c.args.role c.args.name.now parts) is)

pub returns-in-Control-clause-taken : goal.returns-in-Control-clause-taken
returns-in-Control-clause-taken c =
    let parts = trees_in (trees_of c.args.args.now) in
    let count : length parts ≡ c.len.result = length_count (trees_of c.args.args.now) ∙ sym c.len.ensures in
    let is : way c.args.role.arg c.args.name.now (length parts) ≡ Control =
    ap (way c.args.role.arg c.args.name.now) count ∙ (sym c.way_of.ensures ∙ c.in-Control.is) in
    c.unmet-in-Control.ensures.taken
    ∙ ap (λ (r : Row). unmet c.args.owner.now (by_row r) c.args.role.negated) (c.first_two.ensures ∙ ap first_two c.settle.ensures)
    ∙ sym (ap (λ w. taken_by (rows_of c.args.program.now) w c.args.at c.args.owner.now c.args.role c.args.name.now parts) is)

pub returns-in-Negation-clause-taken : goal.returns-in-Negation-clause-taken
returns-in-Negation-clause-taken c =
    let parts = trees_in (trees_of c.args.args.now) in
    let count : length parts ≡ c.len.result = length_count (trees_of c.args.args.now) ∙ sym c.len.ensures in
    let is : way c.args.role.arg c.args.name.now (length parts) ≡ Negation =
    ap (way c.args.role.arg c.args.name.now) count ∙ (sym c.way_of.ensures ∙ c.in-Negation.is) in
    c.unmet-in-Negation.ensures.taken
    ∙ ap (λ (r : Row). unmet c.args.owner.now (by_row r) true) (c.first_only.ensures ∙ ap first_only c.settle-in-Negation.ensures)
    ∙ sym (ap (λ w. taken_by (rows_of c.args.program.now) w c.args.at c.args.owner.now c.args.role c.args.name.now parts) is)

pub returns-in-Qualified-clause-taken : goal.returns-in-Qualified-clause-taken
returns-in-Qualified-clause-taken c =
    let parts = trees_in (trees_of c.args.args.now) in
    let count : length parts ≡ c.len.result = length_count (trees_of c.args.args.now) ∙ sym c.len.ensures in
    let is : way c.args.role.arg c.args.name.now (length parts) ≡ Qualified =
    ap (way c.args.role.arg c.args.name.now) count ∙ (sym c.way_of.ensures ∙ c.in-Qualified.is) in
    c.take_qualified.ensures.taken
    ∙ sym (ap (λ w. taken_by (rows_of c.args.program.now) w c.args.at c.args.owner.now c.args.role c.args.name.now parts) is)

pub returns-in-Calling-clause-taken : goal.returns-in-Calling-clause-taken
returns-in-Calling-clause-taken c =
    let seen = c.args.program.now in
    let parts = trees_in (trees_of c.args.args.now) in
    let more = c.added_count-more.result in
    let arity = c.len-in-Calling.result + more in
    let count : length parts ≡ c.len.result = length_count (trees_of c.args.args.now) ∙ sym c.len.ensures in
    let is : way c.args.role.arg c.args.name.now (length parts) ≡ Calling =
    ap (way c.args.role.arg c.args.name.now) count ∙ (sym c.way_of.ensures ∙ c.in-Calling.is) in
    calling_is (rows_of seen) c.args.at c.args.owner.now c.args.role c.args.name.now parts arity more _ is
    (omega (arith, length_count (trees_of c.args.args.now), c.len-in-Calling.ensures, c.added_count-more.ensures)) c.added_count-more.ensures
    (c.standing_by.ensures ∙ ap (standing_by (row c.args.name.now arity)) c.meaning_of-meaning.ensures.declared)
