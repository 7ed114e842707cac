use Rattle.std.proofs.Common.{sym, ap, ◌∙◌}
use Rattle.import_rules.specs.Program.{found}
use Rattle.call_edges.specs.Called.{unresolved}
use Rattle.call_edges.specs.Seen.{see_met}
use Rattle.group_tool.specs.Parts.{kinds_given}
use Rattle.group_tool.proofs.KindLemmas.{none_given}
use Rattle.group_tool.proofs.own_kinds.kinds_met.Goals as goal

pub returns-then-kinds-eq0 : goal.returns-then-kinds-eq0
returns-then-kinds-eq0 c =
    let seen = c.args.program.now in
    let v = c.in-Call in
    none_given v.module.now v.name.now v.arity (found seen v.module.now v.name.now v.arity) (sym c.kinds_of-kinds.ensures ∙ c.if-kinds-eq0.true)
    ∙ ap (λ m. kinds_given (unresolved seen (see_met m))) (sym v.is)
