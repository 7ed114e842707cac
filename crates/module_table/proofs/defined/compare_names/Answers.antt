use Rattle.std.proofs.Common.{◌≡◌, arith, ap, sym, ◌∙◌}
use Rattle.std.specs.Cmp.Lexicographic.{slice_cmp}
use Rattle.std.specs.Ordering.{nat_cmp}
use Rattle.std.proofs.lemmas.Cmp.{nat_list_cmp_total, tied_itself}
use Rattle.prolog_names.specs.Names.{name_at}
use Rattle.module_table.proofs.defined.compare_names.Goals as goal

pub returns-then-a-b : goal.returns-then-a-b
returns-then-a-b c =
    let names = c.args.names.now in
    let same : c.args.a ≡ c.args.b = omega (arith, c.if-a-b.true) in
    sym (ap (λ b. slice_cmp nat_cmp (name_at names c.args.a) (name_at names b)) (sym same) ∙ tied_itself nat_list_cmp_total (name_at names c.args.a))
