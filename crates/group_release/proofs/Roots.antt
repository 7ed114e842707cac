-- The root that is read.
use Rattle.std.proofs.Common.{◌≡◌, ℕ, ◌<◌, ◌≤◌, List, length, get_or, refl, Option, None, Some, Bor, subst}
use Rattle.std.specs.Option.{option_copied}
use Rattle.std.specs.Prelude.{IfSome, MatchOption}
use Rattle.blocked_table.proofs.Chain.{none_is_not, some_is}

pub root_read : (o : Option (Bor ℕ)) (roots : List ℕ) (i v : ℕ) → IfSome o (λ root. root.now ≡ get_or roots i root.now) → option_copied o ≡ Some v
    → v ≡ get_or roots i v
root_read None roots i v read is = absurd (none_is_not v (option_copied None) refl is)
root_read (Some root) roots i v read is = subst (λ u. u ≡ get_or roots i u) (some_is root.now v is) read

pub root_within : (F : Bor ℕ → Type 0) (o : Option (Bor ℕ)) (roots : List ℕ) (i v : ℕ)
    → MatchOption o (length roots ≤ i) (λ root. (i < length roots) × F root) → option_copied o ≡ Some v → i < length roots
root_within F None roots i v found is = absurd (none_is_not v (option_copied None) refl is)
root_within F (Some root) roots i v found is = found.0
