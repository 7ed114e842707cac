use Rattle.std.proofs.Common.{rules, Err}
use Rattle.std.specs.Cmp.Lexicographic.{slice_cmp}
use Rattle.std.specs.Ordering.{nat_cmp}
use Rattle.std.proofs.lemmas.Cmp.{nat_list_cmp_total}
use Rattle.std.proofs.lemmas.Fn.{always_returns_same}
use Rattle.import_rules.proofs.Searches.{searched}
use Rattle.import_rules.proofs.Lookup.{file_of, files_sorted, no_file, one_file}
use Rattle.import_rules.proofs.known_file.file_at.Goals as goal

pub returns-in_default-clause-is : goal.returns-in_default-clause-is
returns-in_default-clause-is c =
    let found = c.in_default.ensures.position (λ k. slice_cmp nat_cmp (file_of k) c.args.name.now) (always_returns_same _ _ _ (λ a r g called. search rules)) in
    no_file c.args.known.now c.args.name.now
    (searched (slice_cmp nat_cmp) nat_list_cmp_total file_of c.args.name.now c.args.known.now (Err c.in_default.field-0) (files_sorted c.args.known.now c.requires)
    c.in_default.ensures.bound found)

pub returns-clause-is : goal.returns-clause-is
returns-clause-is c =
    let found = c.in-Ok.ensures.position (λ k. slice_cmp nat_cmp (file_of k) c.args.name.now) (always_returns_same _ _ _ (λ a r g called. search rules)) in
    one_file c.args.known.now c.args.name.now c.in-Ok.place c.index-known-place.result c.requires c.in-Ok.ensures.bound c.index-known-place.is (found c.index-known-place.result)
