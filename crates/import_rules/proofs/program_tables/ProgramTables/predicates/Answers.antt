use Rattle.std.proofs.Common.{◌≡◌, sym, subst, ◌∙◌}
use Rattle.import_rules.specs.Chained.{AreChained}
use Rattle.import_rules.specs.Parts.{names_at}
use Rattle.import_rules.proofs.Seen.{predicates_are}
use Rattle.import_rules.proofs.program_tables.ProgramTables.predicates.Goals as goal

pub invariant_of-result : goal.invariant_of-result
invariant_of-result c =
    let p = c.args.self.now in
    let same : names_at c.deref.result.now c.deref-2.result.now ≡ names_at p.loaded.files.items p.places.items =
    λ i. names_at (c.deref.ensures.value i) (c.deref-2.ensures.value i) in
    subst (λ names. AreChained names p.chains) (sym same) p.chained

pub returns : goal.returns
returns c = (λ i. names_at (c.deref.ensures.value i) (c.deref-2.ensures.value i)) ∙ sym (predicates_are c.args.self.now)
