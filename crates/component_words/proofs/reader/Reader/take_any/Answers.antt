use Rattle.std.proofs.Common.{sym, ◌∙◌}
use Rattle.component_words.proofs.Taken.{operand_result}
use Rattle.component_words.proofs.reader.Reader.take_any.Goals as goal

pub returns-then-is_operand-clause-takes : goal.returns-then-is_operand-clause-takes
returns-then-is_operand-clause-takes c =
    operand_result c.take_operand.result c.args.self.now c.take_operand.new.self c.args.word.now c.requires.any (sym c.is_operand.ensures ∙ c.if-is_operand.true)
    c.take_operand.ensures.takes
