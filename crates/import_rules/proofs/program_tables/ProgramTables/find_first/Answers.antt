use Rattle.std.proofs.Common.{◌≡◌, ◌<◌, true, false, Some, get_or, length, sym, ap, subst, ◌∙◌, arith}
use Rattle.std.specs.Prelude.{slice_get}
use Rattle.std.proofs.lemmas.List.{get_or_read}
use Rattle.import_rules.specs.Names.{pred_name}
use Rattle.import_rules.specs.Parts.{see_name}
use Rattle.import_rules.specs.Program.{see_program}
use Rattle.import_rules.proofs.Seen.{not_offered, not_taken, source_below, taken_at}
use Rattle.import_rules.proofs.program_tables.ProgramTables.find_first.Goals as goal

pub returns-in_default : goal.returns-in_default
returns-in_default c = not_offered c.args.self.now (pred_name c.args.module.now c.args.name.now c.args.arity) c.in_default.ensures.is

pub name_of-offering-requires : goal.name_of-offering-requires
name_of-offering-requires c =
    let p = c.args.self.now in
    let read : c.index-source.result.now ≡ get_or p.imports.sources.items c.in-Some.at 0 =
    get_or_read p.imports.sources.items c.in-Some.at c.index-source.result.now (omega (arith, c.in-Some.ensures.below, p.meant.sources)) c.index-source.ensures 0 in
    subst (λ n. n < length (see_program p).predicates) (sym read) (source_below p c.in-Some.at c.in-Some.ensures.below)

pub returns-then-has : goal.returns-then-has
returns-then-has c =
    let p = c.args.self.now in
    let read : c.index-source.result.now ≡ get_or p.imports.sources.items c.in-Some.at 0 =
    get_or_read p.imports.sources.items c.in-Some.at c.index-source.result.now (omega (arith, c.in-Some.ensures.below, p.meant.sources)) c.index-source.ensures 0 in
    let q = see_name c.name_of-offering.result in
    taken_at p c.args.module.now c.args.name.now c.args.arity c.in-Some.at q c.requires.absent c.in-Some.ensures.is
    (subst (λ n. slice_get (see_program p).predicates n ≡ Some q) read c.name_of-offering.ensures) (c.has.ensures.0 c.if-has.true)
    ∙ ap (λ n. Some n) (sym read)

pub returns : goal.returns
returns c =
    let p = c.args.self.now in
    let read : c.index-source.result.now ≡ get_or p.imports.sources.items c.in-Some.at 0 =
    get_or_read p.imports.sources.items c.in-Some.at c.index-source.result.now (omega (arith, c.in-Some.ensures.below, p.meant.sources)) c.index-source.ensures 0 in
    let q = see_name c.name_of-offering.result in
    not_taken p (pred_name c.args.module.now c.args.name.now c.args.arity) c.in-Some.at q c.in-Some.ensures.is
    (subst (λ n. slice_get (see_program p).predicates n ≡ Some q) read c.name_of-offering.ensures)
    (λ taken. let both : true ≡ false = sym (c.has.ensures.1 taken) ∙ c.if-has.false in cc)
