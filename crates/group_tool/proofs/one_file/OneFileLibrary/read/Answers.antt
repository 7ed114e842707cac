use Rattle.std.proofs.Common.{sym, ◌∙◌, ap, ◌+◌, take}
use Rattle.group_tool.proofs.OneFileLemmas.{found_one}
use Rattle.group_tool.proofs.one_file.OneFileLibrary.read.Goals as goal

pub returns-clause-answer : goal.returns-clause-answer
returns-clause-answer c =
    let bytes = ap (take (c.args.limit + 1)) c.deref.ensures.value in
    found_one c.args.self.now.name c.args.self.now.text.items c.args.name.now c.copy_start.new.room.items c.args.limit (rw c.as_str.ensures at (sym c.ne.ensures ∙ c.if-ne.false))
    (c.in-Ok-copy_start.ensures.ok ∙ bytes)
