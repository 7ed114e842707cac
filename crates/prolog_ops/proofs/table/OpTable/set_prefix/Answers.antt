use Rattle.std.proofs.Common.{◌≡◌, true, false, None, ap, sym, subst, ◌∙◌}
use Rattle.prolog_ops.specs.Table.{Lists, IsKept, ops_of, set_fault}
use Rattle.prolog_ops.proofs.Changes.{prefixes_are}
use Rattle.prolog_ops.proofs.table.OpTable.set_prefix.Goals as goal

pub invariant_of-self : goal.invariant_of-self
invariant_of-self c =
    subst (λ x. IsKept (record { prefixes = x; infixes = c.self.inside.infixes; postfixes = c.self.inside.postfixes }) c.self.inside.was_changed)
    (sym c.in_default.ensures.kept) c.self.invariant

pub invariant_of-self-2 : goal.invariant_of-self-2
invariant_of-self-2 c =
    let lists : Lists = record { prefixes = c.self.inside.prefixes; infixes = c.self.inside.infixes; postfixes = c.self.inside.postfixes } in
    let may : set_fault (ops_of lists) c.args.name.now c.args.op.kind c.args.op.priority ≡ None =
    ap (λ l. set_fault (ops_of l) c.args.name.now c.args.op.kind c.args.op.priority) c.self.view_is ∙ c.requires.lawful in
    record {
      is = prefixes_are lists c.self.invariant.is c.args.name.now c.args.op may c.set.new.self c.requires.place c.in-Ok.ensures.set;
      begun = λ unchanged. let both : true ≡ false = unchanged in cc;
    }
