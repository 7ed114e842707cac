use Rattle.prolog_terms.proofs.Entries.{top_taken}
use Rattle.prolog_terms.proofs.stack.entry_at.Goals as goal

pub returns : goal.returns
returns c = top_taken c.args.entries.now c.args.at _ c.requires
