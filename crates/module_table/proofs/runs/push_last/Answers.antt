use Rattle.std.proofs.Common.{take, refl, ◌-◌}
use Rattle.std.specs.Prelude.{slice_set}
use Rattle.module_table.specs.declared.defined.Defined.{Defined}
use Rattle.module_table.proofs.RunLemmas.{last_there, last_changed, push_to_last}
use Rattle.module_table.proofs.runs.push_last.Goals as goal

pub returns : goal.returns
returns c names owner name arity end =
    let old = c.args.runs.now in
    let last = c.in-Some.last.now in
    let longer : Defined = record { «module» = last.module; name = last.name; arity = last.arity; clauses = c.push.new.self } in
    let some = c.in-Some.ensures.item.3.0 in
    push_to_last names owner name arity old.items (take (old.len - 1) old.items) (slice_set old.items (old.len - 1) longer) last longer c.args.clause end
    (last_there old.items old.len last old.ok.0 some c.in-Some.ensures.value) (last_changed old.items old.len longer old.ok.0 some)
    refl refl refl c.in_ok-push.ensures
