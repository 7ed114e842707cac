use Rattle.std.proofs.Common.{◌∙◌}
use Rattle.group_tool.proofs.parts.first_line.Goals as goal

pub head_line-requires : goal.head_line-requires
head_line-requires c = c.requires

pub returns : goal.returns
returns c = c.in_ok-texts.ensures ∙ c.in_ok-line.ensures
