use Rattle.list_laws.proofs.SortedOnce.{sorted_rises, sorted_has}
use Rattle.call_edges.proofs.calls.callees.Goals as goal

pub returns-in-Ok-clause-ascending : goal.returns-in-Ok-clause-ascending
returns-in-Ok-clause-ascending c = sorted_rises c.sort_unstable.new.self.items c.dedup.new.self.items c.sort_unstable.ensures.sorted c.dedup.ensures.filtered

pub returns-in-Ok-clause-calls : goal.returns-in-Ok-clause-calls
returns-in-Ok-clause-calls c = λ q.
    let has = sorted_has c.push_callees.new.out.items c.sort_unstable.new.self.items c.dedup.new.self.items q c.sort_unstable.ensures.permutation c.dedup.ensures.filtered in
    let calls = c.in-Ok.ensures q in
    (λ kept. calls.0 (has.0 kept), λ called. has.1 (calls.1 called))
