use Rattle.component_laws.proofs.TextAnswers.{TextLaws, answer_of}
use Rattle.component_laws.proofs.text.some_text_answer.Goals as goal

pub returns : goal.returns
returns c =
    let laws : TextLaws = record {
      graphs = c.some_edge_graph.ensures;
      names = c.names_are_short.ensures;
      starts = c.starts_or_missing.ensures;
      reports = c.reports_exist.ensures;
      short = c.reports_are_short.ensures;
    } in
    λ text roots wanted. answer_of laws text roots wanted (c.fault_or_none.ensures wanted.from_json text)
