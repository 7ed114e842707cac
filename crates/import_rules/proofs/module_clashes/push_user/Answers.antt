use Rattle.std.proofs.Common.{rules, ◌≡◌, ◌<◌, ◌+◌, ◌++◌, ◌∙◌, true, cond, List, map, filter, subst, length, get_or, take, ap, refl, sym, arith}
use Rattle.std.specs.BTreeSet.{contains}
use Rattle.std.specs.Cmp.Lexicographic.{slice_cmp}
use Rattle.std.specs.List.{flat_map}
use Rattle.std.specs.Ordering.{nat_cmp, is_eq}
use Rattle.std.proofs.lemmas.List.{length-map, get_or-map, take_all}
use Rattle.module_table.specs.Facts.{see_facts}
use Rattle.module_table.specs.Said.{see_load}
use Rattle.import_rules.specs.Clashes.{Imports, see_item}
use Rattle.import_rules.specs.Enough.{AreGathered}
use Rattle.import_rules.specs.Items.{is_foreign}
use Rattle.import_rules.specs.KnownFiles.{files_of, shared_of}
use Rattle.import_rules.specs.Offers.{kept_of_load}
use Rattle.import_rules.proofs.Enough.{gathered_more, gathered_skip, gathered_take, grown}
use Rattle.import_rules.proofs.module_clashes.push_user.Goals as goal

pub loop-load-preserved-then-eq : goal.loop-load-preserved-then-eq
loop-load-preserved-then-eq c = λ before gathered.
    let files = files_of c.args.lookups.now in
    let shared = shared_of c.args.lookups.now in
    let user = see_facts c.args.user.now in
    let loads = c.deref-load-items.result.now in
    let i = c.loop-load.load-index in
    let load = see_load c.load-item.result in
    let within : i < length (map see_load loads) = omega (arith, c.loop-load-test.true, length-map loads see_load) in
    let here : load ≡ get_or (map see_load loads) i load = ap see_load c.load-item.is ∙ sym (get_or-map see_load loads i c.load-item.result load c.loop-load-test.true) in
    let so_far : List Imports = before ++ filter (is_foreign files) (flat_map (kept_of_load files shared user) (take i (map see_load loads))) in
    let all : so_far ++ filter (is_foreign files) (kept_of_load files shared user load)
    ≡ before ++ filter (is_foreign files) (flat_map (kept_of_load files shared user) (take (i + 1) (map see_load loads))) =
    grown files shared user (map see_load loads) i load before within here in
    let some = map see_item c.loop-load.items.items in
    let has = contains (slice_cmp nat_cmp) c.loop-load.whole in
    let are = c.loop-load.invariant before gathered in
    subst (λ is. AreGathered files shared user.module_ is (map see_item c.push_load_items.new.items.items) has) all
    (subst (λ is. AreGathered files shared user.module_ (so_far ++ filter (is_foreign files) (kept_of_load files shared user load)) is has) (sym c.in_ok-push_load_items.ensures)
    (gathered_more files shared user.module_ so_far some (filter (is_foreign files) (kept_of_load files shared user load)) has are))

pub loop-load-preserved-then-contains : goal.loop-load-preserved-then-contains
loop-load-preserved-then-contains c = λ before gathered.
    let files = files_of c.args.lookups.now in
    let shared = shared_of c.args.lookups.now in
    let user = see_facts c.args.user.now in
    let loads = c.deref-load-items.result.now in
    let i = c.loop-load.load-index in
    let load = see_load c.load-item.result in
    let within : i < length (map see_load loads) = omega (arith, c.loop-load-test.true, length-map loads see_load) in
    let here : load ≡ get_or (map see_load loads) i load = ap see_load c.load-item.is ∙ sym (get_or-map see_load loads i c.load-item.result load c.loop-load-test.true) in
    let so_far : List Imports = before ++ filter (is_foreign files) (flat_map (kept_of_load files shared user) (take i (map see_load loads))) in
    let all : so_far ++ filter (is_foreign files) (kept_of_load files shared user load)
    ≡ before ++ filter (is_foreign files) (flat_map (kept_of_load files shared user) (take (i + 1) (map see_load loads))) =
    grown files shared user (map see_load loads) i load before within here in
    let some = map see_item c.loop-load.items.items in
    let has = contains (slice_cmp nat_cmp) c.loop-load.whole in
    let are = c.loop-load.invariant before gathered in
    subst (λ is. AreGathered files shared user.module_ is some has) all
    (gathered_skip files shared user.module_ user load so_far some has refl (sym c.contains.ensures ∙ c.if-contains.true) (λ same. search rules) are)

pub loop-load-preserved : goal.loop-load-preserved
loop-load-preserved c = λ before gathered.
    let files = files_of c.args.lookups.now in
    let shared = shared_of c.args.lookups.now in
    let user = see_facts c.args.user.now in
    let loads = c.deref-load-items.result.now in
    let i = c.loop-load.load-index in
    let load = see_load c.load-item.result in
    let within : i < length (map see_load loads) = omega (arith, c.loop-load-test.true, length-map loads see_load) in
    let here : load ≡ get_or (map see_load loads) i load = ap see_load c.load-item.is ∙ sym (get_or-map see_load loads i c.load-item.result load c.loop-load-test.true) in
    let so_far : List Imports = before ++ filter (is_foreign files) (flat_map (kept_of_load files shared user) (take i (map see_load loads))) in
    let all : so_far ++ filter (is_foreign files) (kept_of_load files shared user load)
    ≡ before ++ filter (is_foreign files) (flat_map (kept_of_load files shared user) (take (i + 1) (map see_load loads))) =
    grown files shared user (map see_load loads) i load before within here in
    let some = map see_item c.loop-load.items.items in
    let has = contains (slice_cmp nat_cmp) c.loop-load.whole in
    let are = c.loop-load.invariant before gathered in
    let now = contains (slice_cmp nat_cmp) c.insert.new.self in
    subst (λ is. AreGathered files shared user.module_ is (map see_item c.push_load_items-in-loop-load.new.items.items) now) all
    (subst (λ is. AreGathered files shared user.module_ (so_far ++ filter (is_foreign files) (kept_of_load files shared user load)) is now) (sym c.in_ok-push_load_items-2.ensures)
    (gathered_take files shared user.module_ user load so_far some has now refl (λ same. search rules)
    (λ own.
    c.in_ok-insert.ensures.updates.0 own ∙ ap (λ key. cond (is_eq (slice_cmp nat_cmp key own)) true (contains (slice_cmp nat_cmp) c.loop-load.whole own)) (c.in_ok-new.ensures ∙ c.as_str.ensures))
    are))

pub returns : goal.returns
returns c = λ before gathered.
    let files = files_of c.args.lookups.now in
    let shared = shared_of c.args.lookups.now in
    let user = see_facts c.args.user.now in
    let loads = c.deref-load-items.result.now in
    subst
    (λ ls. AreGathered files shared user.module_ (before ++ filter (is_foreign files) (flat_map (kept_of_load files shared user) ls)) (map see_item c.loop-load.items.items)
    (contains (slice_cmp nat_cmp) c.loop-load.whole))
    (take_all c.loop-load.load-index (map see_load loads) (omega (arith, c.loop-load-test.false, length-map loads see_load)) ∙ ap (map see_load) c.deref-load-items.ensures.value)
    (c.loop-load.invariant before gathered)
