use Rattle.std.proofs.Common.{true≢false, ◌∙◌, sym, ap, subst}
use Rattle.graph_law.specs.Classes.{HasMember}
use Rattle.blocked_table.specs.Blocked.{BlockedValue}
use Rattle.blocked_table.specs.Kept.{Holds}
use Rattle.group_release.specs.Released.{ReleasedGroups}
use Rattle.search_tests.proofs.lead.is_free.Goals as goal

pub returns-in-None : goal.returns-in-None
returns-in-None c = record {
  unkept = λ place holds.
      c.in-None.ensures.none place
      (subst (λ kept. Holds kept place c.args.node) (sym (ap (λ (table : BlockedValue). table.kept) c.blocked.ensures)) holds);
  unreleased = λ member.
      true≢false
      (sym (c.holds.ensures.1 (subst (λ groups. HasMember groups c.args.node) (sym (ap (λ (released : ReleasedGroups). released.groups) c.released.ensures)) member))
      ∙ c.if-holds.false);
}
