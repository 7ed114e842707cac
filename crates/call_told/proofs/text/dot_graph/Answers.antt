use Rattle.std.proofs.Common.{[], ◌++◌, ap, ◌∙◌, codes, slice_index_or}
use Rattle.std.specs.List.{flat_map}
use Rattle.std.specs.String.{string_bytes}
use Rattle.graph_law.specs.Graph.{lists_of}
use Rattle.call_edges.specs.Successors.{successor_lists}
use Rattle.call_writer.specs.Dot.{edge_line}
use Rattle.call_writer.proofs.Appended.{four}
use Rattle.call_told.specs.Told.{grouped_nodes, ungrouped_line}
use Rattle.call_told.proofs.text.dot_graph.Goals as goal

pub returns : goal.returns
returns c =
    let told = c.args.told.now in
    let seen = told.program.now in
    let groups = grouped_nodes seen (lists_of told.groups.items) told.levels.items in
    let others = flat_map (ungrouped_line seen told.places.items) told.nodes.items in
    let edges = flat_map (λ p. flat_map (edge_line p) (slice_index_or (successor_lists seen) p [])) told.nodes.items in
    four (string_bytes c.in_ok-text.text) (string_bytes c.push_groups.new.text) (string_bytes c.push_all_ungrouped.new.text) (string_bytes c.push_all_callees.new.text)
    (string_bytes c.push_str.new.self) groups others edges (codes "}\n") c.in_ok-push_groups.ensures c.in_ok-push_all_ungrouped.ensures
    c.in_ok-push_all_callees.ensures c.in_ok-push_str.ensures.bytes
    ∙ ap (λ text. text ++ (groups ++ (others ++ (edges ++ codes "}\n")))) c.in_ok-text.ensures.ok
