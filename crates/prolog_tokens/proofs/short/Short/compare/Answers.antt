use Rattle.std.proofs.Common.{sym, ◌∙◌}
use Rattle.std.specs.Ordering.{nat_cmp}
use Rattle.std.specs.Cmp.Lexicographic.{slice_cmp}
use Rattle.prolog_tokens.proofs.Padded.{rooms_tell, room_lengths_tell}
use Rattle.prolog_tokens.proofs.short.Short.compare.Goals as goal

pub returns-in-Equal : goal.returns-in-Equal
returns-in-Equal c =
    c.cmp-in-Equal.ensures
    ∙ room_lengths_tell 24 c.self.inside.bytes c.other.inside.bytes c.self.inside.len c.other.inside.len c.self.told c.other.told c.self.invariant.0 c.other.invariant.0
    c.self.invariant.1.0 c.other.invariant.1.0 (sym c.cmp.ensures ∙ c.in-Equal.is)
    ∙ (λ i. slice_cmp nat_cmp (c.self.view_is i) (c.other.view_is i))

pub returns-in_default : goal.returns-in_default
returns-in_default c =
    rooms_tell 24 c.self.inside.bytes c.other.inside.bytes c.self.inside.len c.other.inside.len c.self.told c.other.told c.self.invariant.0 c.other.invariant.0
    c.self.invariant.1.0 c.other.invariant.1.0 c.cmp.result c.cmp.ensures c.in_default.not-Equal
    ∙ (λ i. slice_cmp nat_cmp (c.self.view_is i) (c.other.view_is i))
