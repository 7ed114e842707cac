use Rattle.std.proofs.Common.{◌≡◌, ◌≢◌, ◌<◌, ◌∙◌, ℕ, List, Bool, length, sym, ap, subst, get_or, refl}
use Rattle.import_rules.specs.TakenModules.{marked_in}
use Rattle.import_rules.proofs.Marks.{mark_here, mark_others, row_long, size_kept}
use Rattle.import_rules.proofs.taken_modules.mark.Goals as goal

pub set-requires : goal.set-requires
set-requires c =
    subst (λ (row : List Bool). c.args.from < length row) (sym c.deref_mut.ensures.value)
    (row_long c.args.rows.now c.args.size c.args.user c.args.from c.index-rows-user.result c.requires.size c.requires.user c.requires.from)

pub returns-clause-size : goal.returns-clause-size
returns-clause-size c =
    size_kept c.args.rows.now c.args.size c.args.user c.args.from (get_or c.args.rows.now c.args.user c.index-rows-user.result) c.index-rows-user.result c.set.new.row c.requires.size
    c.requires.user (c.set.ensures.long ∙ ap (λ (row : List Bool). length row) c.deref_mut.ensures.value) refl

pub returns-clause-here : goal.returns-clause-here
returns-clause-here c =
    mark_here c.args.rows.now c.args.size c.args.user c.args.from (get_or c.args.rows.now c.args.user c.index-rows-user.result) c.index-rows-user.result c.set.new.row c.requires.size
    c.requires.user (c.set.ensures.long ∙ ap (λ (row : List Bool). length row) c.deref_mut.ensures.value) refl c.set.ensures.here

pub returns-clause-others : goal.returns-clause-others
returns-clause-others c =
    mark_others c.args.rows.now c.args.size c.args.user c.args.from (get_or c.args.rows.now c.args.user c.index-rows-user.result) c.index-rows-user.result c.set.new.row c.requires.size
    c.requires.user (c.set.ensures.long ∙ ap (λ (row : List Bool). length row) c.deref_mut.ensures.value) refl
    (subst (λ (row : List Bool). (n : ℕ) → n ≢ c.args.from → marked_in c.set.new.row n ≡ marked_in row n) c.deref_mut.ensures.value c.set.ensures.others)
