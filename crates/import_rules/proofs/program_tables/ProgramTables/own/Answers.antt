use Rattle.std.proofs.Common.{◌≡◌, Some, None, IsTrue, false, sym, ap, subst, ◌∙◌}
use Rattle.std.specs.Prelude.{slice_get}
use Rattle.import_rules.specs.declared.names.PredName.{PredName}
use Rattle.import_rules.specs.Parts.{see_name}
use Rattle.import_rules.specs.Program.{see_program, found}
use Rattle.import_rules.proofs.OwnLemmas.{found_own}
use Rattle.import_rules.proofs.program_tables.ProgramTables.own.Goals as goal

pub returns-in_default : goal.returns-in_default
returns-in_default c has =
    let seen = see_program c.args.self.now in
    let own = found_own seen c.args.name.now c.is_known.ensures.numbered.in_order has in
    let both : None ≡ Some own.0 =
    sym c.in_default.is ∙ (c.find.ensures ∙ (ap (λ (p : PredName). found seen p.module p.name p.arity) c.view-wanted.ensures ∙ own.1)) in cc

pub name_of-requires : goal.name_of-requires
name_of-requires c =
    let wanted = see_name c.view-wanted.result in
    c.found_means.ensures.below (see_program c.args.self.now) wanted.module wanted.name wanted.arity c.in-Some.node (sym c.find.ensures ∙ c.in-Some.is)

pub returns : goal.returns
returns c has =
    let seen = see_program c.args.self.now in
    let name = see_name c.name_of.result in
    let own = found_own seen c.args.name.now c.is_known.ensures.numbered.in_order has in
    let both : Some c.in-Some.node ≡ Some own.0 =
    sym c.in-Some.is ∙ (c.find.ensures ∙ (ap (λ (p : PredName). found seen p.module p.name p.arity) c.view-wanted.ensures ∙ own.1)) in
    let node : c.in-Some.node ≡ own.0 = cc in
    let here : slice_get seen.predicates own.0 ≡ Some name = subst (λ n. slice_get seen.predicates n ≡ Some name) node c.name_of.ensures in
    let names : Some name ≡ Some c.args.name.now = sym here ∙ own.2 in
    let same : name ≡ c.args.name.now = cc in
    let no : IsTrue false = subst IsTrue c.if-is_same.false (c.is_same.ensures.1 (same ∙ sym c.view-wanted.ensures)) in cc
