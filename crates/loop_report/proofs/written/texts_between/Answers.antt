use Rattle.loop_report.proofs.Pieces.{texts_joined_between}
use Rattle.loop_report.proofs.written.texts_between.Goals as goal

pub returns : goal.returns
returns c =
    texts_joined_between c.new-texts.result.items c.push.new.self.items c.append.new.self.items c.push-2.new.self.items c.args.between.items c.args.first
    c.args.last c.new-texts.ensures.items c.in_ok-push.ensures.items c.in_ok-append.ensures.items c.in_ok-push-2.ensures.items
