use Rattle.component_words.proofs.Taken.{last_result}
use Rattle.component_words.proofs.reader.Reader.take.Goals as goal

pub returns-in-Operand-clause-takes : goal.returns-in-Operand-clause-takes
returns-in-Operand-clause-takes c =
    last_result c.take_operand.result c.args.self.now c.take_operand.new.self c.args.word.now c.in-Operand.is c.take_operand.ensures.takes
