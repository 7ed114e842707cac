use Rattle.std.proofs.Common.{ap, ◌++◌, ◌∙◌, codes}
use Rattle.std.specs.String.{string_bytes}
use Rattle.graph_law.specs.Graph.{lists_of}
use Rattle.call_writer.proofs.Appended.{three}
use Rattle.call_told.specs.Condensed.{edge_lines, node_lines_of}
use Rattle.call_told.proofs.condensed.condensed_text.Goals as goal

pub returns : goal.returns
returns c =
    let told = c.args.told.now in
    let nodes = node_lines_of told.program.now (lists_of told.groups.items) told.places.items told.nodes.items in
    let edges = edge_lines told.places.items c.in_ok-edges.edges.items in
    let also =
    c.in_ok-push_edge_lines.ensures
    ∙ (λ i. string_bytes c.push_all_nodes.new.text ++ edge_lines (c.deref.ensures.value i) (c.deref-2.ensures.value i)) in
    record {
      edges = c.in_ok-edges.edges.items;
      are = c.in_ok-edges.ensures.are;
      is =
          three (string_bytes c.in_ok-text.text) (string_bytes c.push_all_nodes.new.text) (string_bytes c.push_edge_lines.new.text) (string_bytes c.push_str.new.self)
          nodes edges (codes "}\n") c.in_ok-push_all_nodes.ensures also c.in_ok-push_str.ensures.bytes
          ∙ ap (λ text. text ++ (nodes ++ (edges ++ codes "}\n"))) c.in_ok-text.ensures.ok;
    }
