use Rattle.std.proofs.Common.{codes}
use Rattle.std.proofs.lemmas.Str.Pattern.{ends_text}
use Rattle.module_table.proofs.file_name.ends_as_prolog.Goals as goal

pub returns : goal.returns
returns c = ends_text c.ends_with.result (codes ".pl") c.args.segment.now c.ends_with.ensures.cases
