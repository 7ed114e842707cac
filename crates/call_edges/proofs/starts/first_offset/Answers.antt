use Rattle.std.proofs.Common.{sym, ◌∙◌}
use Rattle.call_edges.proofs.FileOrderLemmas.{no_first, offset_of_first}
use Rattle.call_edges.proofs.starts.first_offset.Goals as goal

pub returns-in-Some : goal.returns-in-Some
returns-in-Some c =
    c.start.ensures ∙ offset_of_first c.args.names.now c.args.clauses.now c.in-Some.clause.now (sym c.in-Some.ensures.value)

pub returns-in-None : goal.returns-in-None
returns-in-None c = no_first c.args.names.now c.args.clauses.now (sym c.in-None.ensures.value)
