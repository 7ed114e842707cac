use Rattle.component_words.proofs.Taken.{last_end, whole_end}
use Rattle.component_words.proofs.reader.Reader.settings.Goals as goal

pub returns-in-Any : goal.returns-in-Any
returns-in-Any c = whole_end c.into_settings.result c.args.self c.in-Any.is c.into_settings.ensures

pub returns-in-Operand : goal.returns-in-Operand
returns-in-Operand c = last_end c.into_settings-in-Operand.result c.args.self c.in-Operand.is c.into_settings-in-Operand.ensures
