use Rattle.component_tool.proofs.ending.say_line.Goals as goal

pub returns-in-Err : goal.returns-in-Err
returns-in-Err g c = rw c.in-Err.is (rw c.as_bytes-in-Err.ensures.value at c.say_with-in-Err.ensures)
