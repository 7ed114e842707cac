use Rattle.std.proofs.Common.{length, take, sym, ap, ◌∙◌, ◌-◌, refl}
use Rattle.module_table.specs.Defined.{kept_clauses}
use Rattle.module_table.proofs.RunLemmas.{last_there, some_there, ends_here}
use Rattle.module_table.proofs.runs.end_in.Goals as goal

pub returns : goal.returns
returns c =
    let runs = c.args.runs.now in
    let last = c.in-Some.last.now in
    ends_here c.is_named.result c.args.owner c.args.name c.args.arity runs (take (length runs - 1) runs) last
    (last_there runs (length runs) last refl c.in-Some.ensures.item.3.0 c.in-Some.ensures.item.1)
    (some_there (kept_clauses last.clauses) (length c.as_slice.result.now) (ap length c.as_slice.ensures) (sym c.is_empty.ensures ∙ c.if-is_empty.false)) c.is_named.ensures
