use Rattle.std.proofs.Common.{rules, ◌≡◌, ◌∙◌, true, cond, ap}
use Rattle.std.specs.BTreeSet.{contains}
use Rattle.std.specs.Cmp.Lexicographic.{slice_cmp}
use Rattle.std.specs.Ordering.{nat_cmp, is_eq}
use Rattle.import_rules.proofs.Lookup.{declared_more}
use Rattle.import_rules.proofs.known_file.declare.Goals as goal

pub returns-clause-more : goal.returns-clause-more
returns-clause-more c own =
    let old = contains (slice_cmp nat_cmp) c.args.declared.now own in
    let is_module : c.args.file.now.is_module ≡ true = search rules in
    declared_more own c.args.file.now.module (contains (slice_cmp nat_cmp) c.insert.new.self own) old c.args.file.now.is_module
    (c.in_ok-insert.ensures.updates.0 own ∙ ap (λ key. cond (is_eq (slice_cmp nat_cmp key own)) true old) (c.in_ok-new.ensures ∙ c.as_str.ensures)) is_module
