use Rattle.tool_run.proofs.lines.unread_line.Goals as goal

pub returns : goal.returns
returns c = rw c.as_str.ensures at c.named_line.ensures
