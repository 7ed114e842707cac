use Rattle.tool_run.proofs.lines.missing_line.Goals as goal

pub returns : goal.returns
returns c = rw (c.as_str.ensures.value, c.in_ok-name.ensures) at c.named_line.ensures
