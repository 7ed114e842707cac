use Rattle.component_laws.proofs.NamedStarts as of_roots
use Rattle.component_laws.proofs.starts.starts_or_missing.Goals as goal

pub returns : goal.returns
returns c = of_roots.starts_or_missing
