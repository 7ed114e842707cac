use Rattle.std.proofs.Common.{◌≡◌, ◌⊎◌, ℕ, length, List, get_or, refl, ap, subst, ◌∙◌}
use Rattle.import_rules.specs.declared.own_names.OwnName.{OwnName}
use Rattle.import_rules.specs.OwnNames.{kept_in}
use Rattle.import_rules.proofs.OwnSteps.{one_kept}
use Rattle.import_rules.proofs.own_names.keep_in.Goals as goal

pub returns-then-file-lists-clause-kept : goal.returns-then-file-lists-clause-kept
returns-then-file-lists-clause-kept c =
    let lists = c.args.lists.now in
    let file = c.args.file in
    let list = get_or lists file c.index-lists-file.result in
    let new = c.keep.new.list in
    let own = c.args.own in
    let is = c.deref_mut.ensures.value in
    one_kept lists file c.args.number own list c.index-lists-file.result new c.if-file-lists.true (c.keep.ensures.long ∙ ap (λ (l : List OwnName). length l) is) refl
    (subst (λ (l : List OwnName). (n : ℕ) → (kept_in new n ≡ kept_in l n) ⊎ ((n ≡ c.args.number) × (kept_in new n ≡ own))) is c.keep.ensures.kept)
