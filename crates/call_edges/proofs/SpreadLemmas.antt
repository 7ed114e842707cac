-- Stretches of a list.
use Rattle.std.proofs.Common.{◌≡◌, List, All, subst}
use Rattle.std.specs.Prelude.{Contains}
use Rattle.std.specs.List.{flat_map}
use Rattle.std.proofs.lemmas.List.Elements.{All-contains}
use Rattle.list_laws.proofs.Members.{all_by}
use Rattle.call_edges.proofs.AmongLemmas.{flat_has}

-- what holds for all holds for all of each stretch
pub all_in_parts : {X : Type 0} (P : X → Type 0) (parts : List (List X)) (xs : List X) → flat_map (λ part. part) parts ≡ xs → All P xs → All (All P) parts
all_in_parts P parts xs whole all =
    all_by (All P) parts
    (λ part has.
    all_by P part
    (λ x within. All-contains P xs x all (subst (λ ys. Contains ys x) whole ((flat_has (λ ys. ys) parts x).1 (record { one = part; has = has; is = within })))))
