use Rattle.std.proofs.Common.{◌++◌, ◌∙◌}
use Rattle.graph_law.specs.Graph.{lists_of}
use Rattle.call_told.proofs.StretchLemmas.{calls_even, clauses_even, lines_joined}
use Rattle.call_told.proofs.text.table_texts.Goals as goal

pub clause_texts-requires-clause-even : goal.clause_texts-requires-clause-even
clause_texts-requires-clause-even g c κs within =
    let told = c.args.told.now in
    clauses_even told.program.now told.nodes.items (lists_of told.groups.items) c.in_ok-table.table c.in_ok-table.ensures.table

pub call_texts-requires-clause-even : goal.call_texts-requires-clause-even
call_texts-requires-clause-even g c κs within =
    let told = c.args.told.now in
    calls_even told.program.now told.nodes.items (lists_of told.groups.items) c.in_ok-table.table c.in_ok-table.ensures.table

pub returns : goal.returns
returns g c =
    let told = c.args.told.now in
    let table = c.in_ok-table.table in
    let seen = told.program.now in
    let predicates = c.in_ok-table.ensures.lines in
    record {
      table = table;
      is_table = c.in_ok-table.ensures.table;
      is =
          lines_joined c.in_ok-table.texts.items c.in_ok-clauses.clauses.items c.in_ok-lines.lines.items c.append.new.self.items c.append-2.new.self.items
          c.in_ok-append.ensures.items c.in_ok-append-2.ensures.items
          ∙ (λ i. predicates i ++ (c.in_ok-clauses.ensures i ++ c.in_ok-lines.ensures i));
    }
