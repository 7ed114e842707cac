use Rattle.std.proofs.Common.{◌≡◌, true, zero, suc}
use Rattle.file_library.specs.FileLoads.{FileLoads}
use Rattle.file_library.proofs.WaveLaws.{asked_least}
use Rattle.file_library.proofs.laws.asked_least.Goals as goal

pub returns-clause-roots : goal.returns-clause-roots
returns-clause-roots c = λ files roots name has. (zero, has)

pub returns-clause-loads : goal.returns-clause-loads
returns-clause-loads c = λ files roots user name asked loads. (suc asked.0, (user, asked.1, loads))

pub returns-clause-least : goal.returns-clause-least
returns-clause-least c = λ files roots set base step. asked_least (FileLoads files) roots (λ name. set name ≡ true) base step
