use Rattle.group_tool.proofs.PartLemmas.{three_more}
use Rattle.group_tool.proofs.parts.with_parts.Goals as goal

pub returns : goal.returns
returns c =
    three_more c.args.lines.items c.push.new.self.items c.push-2.new.self.items c.push-3.new.self.items c.args.second c.args.third c.args.fourth
    c.in_ok-push.ensures.items c.in_ok-push-2.ensures.items c.in_ok-push-3.ensures.items
