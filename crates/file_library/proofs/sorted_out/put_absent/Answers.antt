-- A file that isn't there is a fault where it is a root.
use Rattle.std.proofs.Common.{rules, ◌≡◌, ◌∷◌, [], refl, sym, ap, append-nil, true, false}
use Rattle.std.specs.Ordering.{nat_cmp}
use Rattle.std.specs.Cmp.Lexicographic.{slice_cmp}
use Rattle.std.specs.BTreeSet.{contains}
use Rattle.clause_text.specs.declared.cause.Cause.TheVariants.{NoRoot}
use Rattle.file_library.proofs.OrderedFiles.{put_missing}
use Rattle.file_library.proofs.sorted_out.put_absent.Goals as goal

pub returns-then-not-contains : goal.returns-then-not-contains
returns-then-not-contains c files so_far =
    let is : contains (slice_cmp nat_cmp) c.args.roots.now c.args.name ≡ false = search rules in
    put_missing c.args.roots.now files c.args.out.now so_far c.args.name _ false [] is refl refl c.in_ok-push.ensures.items (sym (append-nil c.args.out.now.faults.items)) tt

pub returns : goal.returns
returns c files so_far =
    let is : contains (slice_cmp nat_cmp) c.args.roots.now c.args.name ≡ true = search rules in
    let named : c.in_ok-new.field-0 ≡ c.args.name = search rules in
    put_missing c.args.roots.now files c.args.out.now so_far c.args.name _ true
    ((record { file = c.in_ok-new.field-0; offset = 0; place = record { line = 0; column = 0 }; cause = NoRoot }) ∷ []) is refl refl c.in_ok-push-3.ensures.items c.in_ok-push-2.ensures.items
    (ap (λ name. record { file = name; offset = 0; place = record { line = 0; column = 0 }; cause = NoRoot }) named, tt)
