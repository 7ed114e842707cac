use Rattle.prolog_names.proofs.Buckets.{masked}
use Rattle.prolog_names.proofs.table.bucket_of.Goals as goal

pub returns-clause-is : goal.returns-clause-is
returns-clause-is c = masked c.args.size c.args.hash c.requires
