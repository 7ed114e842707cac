use Rattle.std.proofs.Common.{◌≡◌, List, All, map, get_or, ap, sym, ◌∙◌, subst}
use Rattle.std.proofs.lemmas.List.Elements.{Contains-get_or}
use Rattle.list_laws.proofs.SortedOnce.{sorted_rises, sorted_has}
use Rattle.call_edges.specs.Bodies.{Body, see_body, goals_in, IsLight}
use Rattle.call_edges.proofs.LightLemmas.{goals_light}
use Rattle.call_edges.proofs.RootLemmas.{root_below, roots_are}
use Rattle.call_edges.proofs.roots.roots_of.Goals as goal

pub push_called-requires : goal.push_called-requires
push_called-requires c =
    let seen = c.args.program.now in
    let are : map see_body c.deref.result.now ≡ goals_in seen.loaded.files = ap (map see_body) c.deref.ensures.value ∙ c.in_ok-goals.ensures in
    let P : List Body → Type 0 = λ bodies. All IsLight bodies in
    subst P (sym are) (goals_light seen c.is_known.ensures)

pub returns-clause-ascending : goal.returns-clause-ascending
returns-clause-ascending c = sorted_rises c.sort_unstable.new.self.items c.dedup.new.self.items c.sort_unstable.ensures.sorted c.dedup.ensures.filtered

pub returns-clause-roots : goal.returns-clause-roots
returns-clause-roots c = λ q.
    let seen = c.args.program.now in
    let all = c.push_called.new.out.items in
    let are : map see_body c.deref.result.now ≡ goals_in seen.loaded.files = ap (map see_body) c.deref.ensures.value ∙ c.in_ok-goals.ensures in
    let has = sorted_has all c.sort_unstable.new.self.items c.dedup.new.self.items q c.sort_unstable.ensures.permutation c.dedup.ensures.filtered in
    let root = roots_are seen (map see_body c.deref.result.now) c.new-roots.result.items c.push_all_given.new.roots.items all c.new-roots.ensures.items are
    c.in_ok-push_all_given.ensures c.in_ok-push_called.ensures q in
    (λ there. root.0 (has.0 there), λ is. has.1 (root.1 is))

pub returns-clause-below : goal.returns-clause-below
returns-clause-below c = λ k d lt.
    let seen = c.args.program.now in
    let all = c.push_called.new.out.items in
    let kept = c.dedup.new.self.items in
    let q = get_or kept k d in
    let are : map see_body c.deref.result.now ≡ goals_in seen.loaded.files = ap (map see_body) c.deref.ensures.value ∙ c.in_ok-goals.ensures in
    let has = sorted_has all c.sort_unstable.new.self.items kept q c.sort_unstable.ensures.permutation c.dedup.ensures.filtered in
    let root = roots_are seen (map see_body c.deref.result.now) c.new-roots.result.items c.push_all_given.new.roots.items all c.new-roots.ensures.items are
    c.in_ok-push_all_given.ensures c.in_ok-push_called.ensures q in
    root_below seen q (root.0 (has.0 (Contains-get_or kept k d lt)))
