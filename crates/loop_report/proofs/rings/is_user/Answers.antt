use Rattle.loop_report.proofs.UserAlone.{user_alone}
use Rattle.loop_report.proofs.rings.is_user.Goals as goal

pub returns : goal.returns
returns c = user_alone c.args.modules.now c.args.class.now _ c.eq.result c.requires c.if-class-ne1.false c.eq.ensures
