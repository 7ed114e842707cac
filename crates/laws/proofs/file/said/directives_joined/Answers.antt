use Rattle.module_table.proofs.Parts.{directive_sides}
use Rattle.laws.proofs.Joined as of_directives
use Rattle.laws.proofs.file.said.directives_joined.Goals as goal

pub returns-clause-brackets : goal.returns-clause-brackets
returns-clause-brackets c = λ user first tree. of_directives.said_inside user first tree

pub returns-clause-comma : goal.returns-clause-comma
returns-clause-comma c = λ user first tree left right is. directive_sides user first tree left right is

pub returns-clause-all : goal.returns-clause-all
returns-clause-all c = λ user tree. of_directives.said_joined user tree
