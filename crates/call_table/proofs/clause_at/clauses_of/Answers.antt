use Rattle.call_table.proofs.ClauseLemmas.{all_clauses, clauses_stand}
use Rattle.call_table.proofs.EndOrder.{ends_are_spots}
use Rattle.call_table.proofs.SpotOrder.{clauses_are_spots}
use Rattle.call_table.proofs.clause_at.clauses_of.Goals as goal

pub returns-clause-clauses : goal.returns-clause-clauses
returns-clause-clauses c =
    all_clauses c.args.program.now c.args.nodes.now c.in_ok-clauses.clauses.items c.sort_unstable.new.self.items c.dedup.new.self.items c.in_ok-clauses.ensures
    c.sort_unstable.ensures.permutation c.sort_unstable.ensures.sorted c.dedup.ensures.filtered

pub returns-clause-starts : goal.returns-clause-starts
returns-clause-starts c =
    let seen = c.args.program.now in
    let nodes = c.args.nodes.now in
    let clauses = c.dedup.new.self.items in
    let are =
    all_clauses seen nodes c.in_ok-clauses.clauses.items c.sort_unstable.new.self.items clauses c.in_ok-clauses.ensures c.sort_unstable.ensures.permutation
    c.sort_unstable.ensures.sorted c.dedup.ensures.filtered in
    clauses_are_spots seen nodes clauses are (clauses_stand seen nodes clauses c.is_known.ensures are)

pub returns-clause-ends : goal.returns-clause-ends
returns-clause-ends c =
    let seen = c.args.program.now in
    let nodes = c.args.nodes.now in
    let clauses = c.dedup.new.self.items in
    ends_are_spots seen c.clauses_apart.ensures nodes clauses
    (all_clauses seen nodes c.in_ok-clauses.clauses.items c.sort_unstable.new.self.items clauses c.in_ok-clauses.ensures c.sort_unstable.ensures.permutation
    c.sort_unstable.ensures.sorted c.dedup.ensures.filtered)
