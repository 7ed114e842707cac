use Rattle.std.proofs.Common.{◌≡◌, ◌+◌, ◌-◌, Some, sym, ap, ◌∙◌, arith}
use Rattle.std.specs.Prelude.{slice_get}
use Rattle.std.proofs.lemmas.Option.{slice_get-get_or}
use Rattle.prolog_names.specs.Names.{name_at}
use Rattle.import_rules.specs.OwnNames.{kept_at}
use Rattle.import_rules.proofs.OwnSteps.{same_bytes, same_from_not}
use Rattle.import_rules.proofs.Seen.{kept_found}
use Rattle.import_rules.proofs.program_tables.ProgramTables.find_kept.Goals as goal

pub returns : goal.returns
returns c =
    let p = c.args.self.now in
    let files = c.deref.result.now in
    let kept = c.get-kept.result in
    let file = c.in_ok-facts.facts.now in
    let at_place : slice_get p.loaded.files.items c.args.file ≡ Some file =
    ap (λ fs. slice_get fs c.args.file) (sym c.deref.ensures.value)
    ∙ (slice_get-get_or files c.args.file file c.in_ok-facts.ensures.lookup.3.0 ∙ ap (λ f. Some f) (sym c.in_ok-facts.ensures.lookup.1)) in
    let count : kept.after ≡ (kept.after - 1) + 1 = omega (arith, c.if-kept-eq0.false) in
    let after : (kept_at p.own_names.lists.items c.args.file c.args.number).after ≡ (kept.after - 1) + 1 = ap (λ own. own.after) (sym c.get-kept.ensures) ∙ count in
    let many : (kept_at p.own_names.lists.items c.args.file c.args.number).arity ≡ c.args.arity = ap (λ own. own.arity) (sym c.get-kept.ensures) ∙ c.if-kept-arity.false in
    let spelled : name_at file.names c.args.number ≡ c.args.name.now = same_bytes (name_at file.names c.args.number) c.args.name.now (sym c.if-not-is.ensures) in
    kept_found p c.args.file c.args.number (kept.after - 1) c.args.arity file c.args.module.now c.args.name.now at_place after many spelled
    (same_from_not c.args.module.now c.as_str.result.now c.if-ne.ensures ∙ c.as_str.ensures)
