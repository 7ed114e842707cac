use Rattle.std.proofs.Common.{◌≡◌, ◌<◌, Some, length, get_or, refl, sym, ap, ◌∙◌, subst, arith}
use Rattle.std.proofs.lemmas.Option.{slice_get_read}
use Rattle.std.specs.List.{HoldsAt}
use Rattle.std.specs.Prelude.{slice_get}
use Rattle.group_release.proofs.Books.{given_good}
use Rattle.group_release.proofs.Roots.{root_read, root_within}
use Rattle.group_release.proofs.book.Book.next_root.Goals as goal

pub invariant_of-self : goal.invariant_of-self
invariant_of-self c =
    let within : c.self.inside.given < length c.deref.result.now =
    root_within (λ root. HoldsAt (λ y. root.now ≡ y) c.deref.result.now c.self.inside.given) c.get.result c.deref.result.now c.self.inside.given
    c.in_ok-root.root c.get.ensures.lookup.3 (sym c.copied.ensures ∙ c.in_ok-root.was) in
    record {
      table = c.self.invariant.table;
      groups = c.self.invariant.groups;
      good =
          given_good _ c.self.invariant.good (omega (arith, within, c.self.invariant.good.given, ap length c.deref.ensures.value));
    }

pub returns-clause-next : goal.returns-clause-next
returns-clause-next c =
    let within : c.self.inside.given < length c.deref.result.now =
    root_within (λ root. HoldsAt (λ y. root.now ≡ y) c.deref.result.now c.self.inside.given) c.get.result c.deref.result.now c.self.inside.given
    c.in_ok-root.root c.get.ensures.lookup.3 (sym c.copied.ensures ∙ c.in_ok-root.was) in
    let read : c.in_ok-root.root ≡ get_or c.deref.result.now c.self.inside.given c.in_ok-root.root =
    root_read c.get.result c.deref.result.now c.self.inside.given c.in_ok-root.root c.get.ensures.lookup.1 (sym c.copied.ensures ∙ c.in_ok-root.was) in
    rw (← c.self.view_is)
    (sym
    (subst (λ roots. slice_get roots c.self.inside.given ≡ Some c.in_ok-root.root) c.deref.ensures.value
    (slice_get_read c.deref.result.now (length c.deref.result.now) c.self.inside.given c.in_ok-root.root refl within read)))
