use Rattle.std.proofs.Common.{sym, ◌∙◌, ap, ◌+◌, take}
use Rattle.edge_text.specs.declared.limits.TheConstants.{MOST_BYTES}
use Rattle.component_tool.proofs.SourceLemmas.{found_one}
use Rattle.component_tool.proofs.memory_source.MemorySourceSource.read.Goals as goal

pub returns-clause-answer : goal.returns-clause-answer
returns-clause-answer c =
    let bytes = ap (take (MOST_BYTES + 1)) c.deref.ensures.value in
    found_one c.args.self.now.name c.args.self.now.text.items c.args.name.now c.copy_start.new.room.items MOST_BYTES
    (rw c.as_str.ensures at (sym c.ne.ensures ∙ c.if-ne.false)) (c.in-Ok-copy_start.ensures ∙ bytes)
