use Rattle.std.proofs.Common.{map, sym, ap, ◌∙◌, arith}
use Rattle.std.specs.List.{range_with_len}
use Rattle.graph_law.specs.Graph.{CallGraph, lists_of}
use Rattle.module_table.specs.Facts.{see_facts}
use Rattle.std.proofs.lemmas.List.{length-map}
use Rattle.loop_report.specs.ModuleGraph.{texts_of}
use Rattle.loop_report.proofs.ModuleCalls.{is_graph}
use Rattle.loop_report.proofs.module_graph.module_graph.Goals as goal

pub unreachable-requires : goal.unreachable-requires
unreachable-requires c =
    let long = length-map c.args.modules.now (λ text. text.now) in
    c.in_default.ensures
    (is_graph (map see_facts c.args.files.now) (texts_of c.args.modules.now) (lists_of c.in_ok-lists.lists.items) c.in_ok-roots.roots.items c.in_ok-lists.ensures
    (c.in_ok-roots.ensures ∙ ap (range_with_len 0) (sym long)) (omega (arith, long, c.requires.few_modules)))

pub returns-clause-roots : goal.returns-clause-roots
returns-clause-roots c = ap (λ (graph : CallGraph). graph.roots) c.in-Some.ensures.1 ∙ c.in_ok-roots.ensures
