use Rattle.std.proofs.Common.{◌≡◌, ℕ, All, List, map, take}
use Rattle.std.specs.BTreeSet.{contains}
use Rattle.std.specs.Cmp.Lexicographic.{slice_cmp}
use Rattle.std.specs.Ordering.{nat_cmp}
use Rattle.import_rules.specs.declared.module_clashes.User.{User}
use Rattle.import_rules.specs.Clashes.{see_item}
use Rattle.import_rules.specs.Enough.{AreGathered}
use Rattle.import_rules.specs.KnownFiles.{files_of, shared_of}
use Rattle.import_rules.specs.ModuleClashes.{kept_of_users, module_of, see_user}
use Rattle.import_rules.proofs.module_clashes.items_of.Given as goal

-- what the users so far give
abbrev pub invariant-loop-user : goal.invariant-loop-user
invariant-loop-user l = (own : List ℕ) → All (λ (u : User). module_of u ≡ own) l.users
    → AreGathered (files_of l.lookups) (shared_of l.lookups) own (kept_of_users (files_of l.lookups) (shared_of l.lookups) (map see_user (take l.user-index l.users)))
    (map see_item l.items.items) (contains (slice_cmp nat_cmp) l.whole)
