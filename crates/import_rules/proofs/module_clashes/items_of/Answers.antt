use Rattle.std.proofs.Common.{◌≡◌, ◌∙◌, ◌+◌, List, ℕ, filter, flat_map, get_or, map, take, ap, sym, subst}
use Rattle.std.specs.BTreeSet.{contains}
use Rattle.std.specs.Cmp.Lexicographic.{slice_cmp}
use Rattle.std.specs.Ordering.{nat_cmp}
use Rattle.std.proofs.lemmas.List.{take_all}
use Rattle.import_rules.specs.declared.module_clashes.User.{User}
use Rattle.import_rules.specs.Clashes.{see_item}
use Rattle.import_rules.specs.Enough.{AreEnough, AreGathered}
use Rattle.import_rules.specs.KnownFiles.{files_of, shared_of}
use Rattle.import_rules.specs.ModuleClashes.{kept_of_users, module_of, see_user}
use Rattle.import_rules.proofs.ModuleClashes.{users_next}
use Rattle.import_rules.proofs.module_clashes.items_of.Goals as goal

pub loop-user-preserved : goal.loop-user-preserved
loop-user-preserved c = λ own one.
    let files = files_of c.args.lookups.now in
    let shared = shared_of c.args.lookups.now in
    let users = c.args.users.now in
    let i = c.loop-user.user-index in
    let user = c.user-item.result in
    let home : module_of user ≡ own = ap module_of c.user-item.is ∙ one i user c.loop-user-test.true in
    let before = kept_of_users files shared (map see_user (take i users)) in
    let given = c.in_ok-push_user.ensures before
    (subst (λ m. AreGathered files shared m before (map see_item c.loop-user.items.items) (contains (slice_cmp nat_cmp) c.loop-user.whole)) (sym home) (c.loop-user.invariant own one)) in
    subst
    (λ m. AreGathered files shared m (kept_of_users files shared (map see_user (take (i + 1) users))) (map see_item c.push_user.new.items.items)
    (contains (slice_cmp nat_cmp) c.push_user.new.whole)) home
    (subst (λ is. AreGathered files shared (module_of user) is (map see_item c.push_user.new.items.items) (contains (slice_cmp nat_cmp) c.push_user.new.whole))
    (users_next files shared users i user user c.loop-user-test.true c.user-item.is) given)

pub returns : goal.returns
returns c =
    subst (λ (us : List User). AreEnough (kept_of_users (files_of c.args.lookups.now) (shared_of c.args.lookups.now) (map see_user us)) (map see_item c.loop-user.items.items))
    (take_all c.loop-user.user-index c.args.users.now c.loop-user-test.false)
    (c.loop-user.invariant c.requires.one.0 c.requires.one.1).enough
