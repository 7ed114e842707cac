use Rattle.std.proofs.Common.{◌≡◌, ◌∙◌, true, false, sym}
use Rattle.import_rules.specs.TakenModules.{marked_at, module_name}
use Rattle.import_rules.proofs.Marks.{no_index, one_index}
use Rattle.import_rules.proofs.taken_modules.TakenModules.has.Goals as goal

pub returns-in_default : goal.returns-in_default
returns-in_default c = (
  λ is. let both : false ≡ true = is in cc,
  λ taken. absurd (no_index c.args.self.now.modules (module_name c.args.module.now) taken.user c.in_default.ensures taken.is_user),
)

pub returns-in_default-place : goal.returns-in_default-place
returns-in_default-place c = (
  λ is. let both : false ≡ true = is in cc,
  λ taken. absurd (no_index c.args.self.now.modules (module_name c.args.other.now) taken.from c.in_default-place.ensures taken.is_from),
)

pub returns : goal.returns
returns c =
    let modules = c.args.self.now.modules in (
      λ is. record {
        user = c.in-Some.user;
        from = c.in-Some-place.from;
        is_user = c.in-Some.ensures;
        is_from = c.in-Some-place.ensures;
        is_marked = sym c.has_at.ensures ∙ is;
      },
      λ taken.
          let user = one_index modules (module_name c.args.module.now) c.in-Some.user taken.user c.requires c.in-Some.ensures taken.is_user in
          let from = one_index modules (module_name c.args.other.now) c.in-Some-place.from taken.from c.requires c.in-Some-place.ensures taken.is_from in
          c.has_at.ensures ∙ (λ j. marked_at c.args.self.now.rows.items (user j) (from j)) ∙ taken.is_marked,
    )
