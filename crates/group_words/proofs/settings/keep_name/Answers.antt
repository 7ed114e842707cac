use Rattle.std.proofs.Common.{◌∙◌, true, false, sym, refl}
use Rattle.group_words.proofs.KeptNames.{keeps}
use Rattle.group_words.proofs.settings.keep_name.Goals as goal

pub returns-in_ok-push : goal.returns-in_ok-push
returns-in_ok-push c names before =
    keeps names c.args.seen.now c.insert.new.self c.args.kept.now.items c.push.new.self.items c.args.name c.in_ok-new.field-0 true (c.in_ok-new.ensures ∙ c.as_str.ensures)
    (sym c.if-branch.true ∙ c.in_ok-insert.ensures.added) c.in_ok-insert.ensures.updates.0 c.in_ok-push.ensures.items before

pub returns-else-branch : goal.returns-else-branch
returns-else-branch c names before =
    keeps names c.args.seen.now c.insert.new.self c.args.kept.now.items c.args.kept.now.items c.args.name c.in_ok-new.field-0 false (c.in_ok-new.ensures ∙ c.as_str.ensures)
    (sym c.if-branch.false ∙ c.in_ok-insert.ensures.added) c.in_ok-insert.ensures.updates.0 refl before
