-- How a name is spelled, by whether it is bare.
use Rattle.std.proofs.Common.{◌≡◌, ℕ, true, false, List, if◌then◌else◌, ap}
use Rattle.prolog_tokens.specs.BareNames.{is_bare_name}
use Rattle.loop_report.specs.Spelled.{quoted_name, spelled_name}

pub spelled_bare : (name : List ℕ) → is_bare_name name ≡ true → spelled_name name ≡ name
unfolding spelled_name
spelled_bare name is = ap (λ b. if b then name else quoted_name name) is

pub spelled_quoted : (name : List ℕ) → is_bare_name name ≡ false → spelled_name name ≡ quoted_name name
unfolding spelled_name
spelled_quoted name is = ap (λ b. if b then name else quoted_name name) is
