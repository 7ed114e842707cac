use Rattle.std.proofs.Common.{◌≡◌, IfOk, List, ℕ, subst}
use Rattle.graph_law.specs.Graph.{lists_of}
use Rattle.call_table.specs.Marks.{see_marks}
use Rattle.call_told.specs.Told.{joined, told_lines}
use Rattle.call_told.proofs.text.told_predicates.Goals as goal

pub returns : goal.returns
returns g c =
    let told = c.args.told.now in
    let lines : List ℕ → List ℕ = told_lines told.program.now (lists_of told.groups.items) told.levels.items told.places.items (see_marks told.marks) in
    subst (λ nodes. IfOk c.node_texts.result (λ texts. joined texts.items ≡ lines nodes)) c.deref.ensures.value c.node_texts.ensures
