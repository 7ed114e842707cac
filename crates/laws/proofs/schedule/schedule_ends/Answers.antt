use Rattle.laws.proofs.Endings.{schedule_of}
use Rattle.laws.proofs.schedule.schedule_ends.Goals as goal

pub returns : goal.returns
returns c = λ lists roots searches seed closed rooted. schedule_of lists roots searches seed closed rooted
