use Rattle.laws.proofs.Modules as of_files
use Rattle.laws.proofs.OwnModules as of_heads
use Rattle.laws.proofs.file.said.module_first.Goals as goal

pub returns-clause-others : goal.returns-clause-others
returns-clause-others c = λ user tree parts own is has. of_files.none_later user tree parts own is has

pub returns-clause-first : goal.returns-clause-first
returns-clause-first c = λ user tree trees parts own is has. of_files.module_first user tree trees parts own is has

pub returns-clause-exports : goal.returns-clause-exports
returns-clause-exports c = λ user trees facts are. of_files.module_kept user trees facts are

pub returns-clause-heads : goal.returns-clause-heads
returns-clause-heads c = λ user trees facts are. of_heads.own_module user trees facts are
