use Rattle.std.proofs.Common.{◌∙◌, map, ap}
use Rattle.std.proofs.lemmas.List.{map-append}
use Rattle.import_rules.specs.Clashes.{see_item}
use Rattle.import_rules.specs.KnownFiles.{files_of, shared_of}
use Rattle.import_rules.specs.ModuleClashes.{kept_of_users, see_user}
use Rattle.import_rules.proofs.Enough.{enough_clashes}
use Rattle.import_rules.proofs.module_clashes.push_clashes.Goals as goal

pub returns : goal.returns
returns c = (
  map see_item c.in_ok-found.found.clashes.items,
  enough_clashes (kept_of_users (files_of c.args.lookups.now) (shared_of c.args.lookups.now) (map see_user c.args.users.now)) (map see_item c.in_ok-items.items.items)
      (map see_item c.in_ok-found.found.clashes.items) c.in_ok-items.ensures c.in_ok-found.ensures.clashes,
  ap (map see_item) c.in_ok-append.ensures.items ∙ map-append see_item c.args.clashes.now.items c.in_ok-found.found.clashes.items,
)
