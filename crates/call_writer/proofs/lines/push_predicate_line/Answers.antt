use Rattle.std.proofs.Common.{◌++◌, Option, Some, None, List, [], ℕ, ap, sym, ◌∙◌, append_assoc, codes}
use Rattle.std.specs.String.{string_bytes}
use Rattle.graph_law.specs.Graph.{lists_of}
use Rattle.import_rules.specs.Parts.{see_name}
use Rattle.import_rules.specs.declared.names.PredName.{PredName}
use Rattle.module_table.specs.declared.goal_arg.GoalArg.{GoalArg}
use Rattle.call_writer.specs.Lines.{group_fields, predicate_head, predicate_line}
use Rattle.call_writer.specs.Marks.{mark_fields}
use Rattle.call_writer.proofs.Appended.{two}
use Rattle.call_writer.proofs.lines.push_predicate_line.Goals as goal

pub returns : goal.returns
returns c =
    let text = string_bytes c.args.text.now in
    let groups : List (List ℕ) = lists_of c.args.groups.now in
    let head : List ℕ = predicate_head c.args.node (see_name c.name_of.result) in
    let fields : List ℕ = codes "," ++ group_fields groups c.args.levels.now c.args.place in
    let marked : List ℕ = mark_fields c.args.marks c.meta_of.result.now ++ codes "}\n" in
    let line : Option PredName → List GoalArg → List ℕ =
    λ found args.
    elim found [ Some name ↦ predicate_line groups c.args.levels.now c.args.node name c.args.place c.args.marks args | None ↦ [] ] in
    two text (string_bytes c.push_named.new.text) (string_bytes c.push_marks.new.text) (head ++ fields) marked c.in_ok-push_named.ensures
    c.in_ok-push_marks.ensures
    ∙ (ap (λ bytes. text ++ bytes) (append_assoc head fields marked)
    ∙ (λ i. text ++ line (sym c.name_of.ensures i) (c.meta_of.ensures i)))
