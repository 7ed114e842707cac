use Rattle.std.proofs.Common.{◌∙◌}
use Rattle.std.specs.Cmp.Lexicographic.{slice_cmp}
use Rattle.std.specs.Ordering.{nat_cmp}
use Rattle.std.proofs.lemmas.Cmp.{nat_list_cmp_total}
use Rattle.import_rules.proofs.Searches.{searched}
use Rattle.import_rules.proofs.Lookup.{names_sorted, name_there}
use Rattle.import_rules.proofs.lookups.Lookups.is_absent.Goals as goal

pub returns : goal.returns
returns c =
    name_there c.args.self.now.absent.now c.args.name.now c.is_ok.result
    (c.is_ok.ensures.value
    ∙ searched (slice_cmp nat_cmp) nat_list_cmp_total (λ name. name) c.args.name.now c.args.self.now.absent.now c.binary_search.result
    (names_sorted c.args.self.now.absent.now c.requires.absent) c.binary_search.ensures.bound c.binary_search.ensures.position)
