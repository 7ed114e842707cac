use Rattle.prolog_tokens.specs.declared.chars.Class.TheVariants.{Small}
use Rattle.prolog_tokens.proofs.ClassTable.{class_there}
use Rattle.prolog_tokens.proofs.chars.ascii_class.Goals as goal

pub returns : goal.returns
returns c = class_there c.args.byte Small c.requires
