-- The known names are put into a table one by one.
use Rattle.std.proofs.Common.{◌≡◌, Bool, true, false, not, ◌&&◌, List, [], ◌∷◌, ◌++◌, ℕ, fold, refl, sym, ap, ◌∙◌}
use Rattle.std.specs.List.{list_any}
use Rattle.std.specs.Str.{bytes_eq}
use Rattle.std.proofs.lemmas.List.{append-nil, append_assoc}
use Rattle.prolog_names.specs.Names.{known_names}
use Rattle.prolog_names.specs.Table.{with_name}
use Rattle.prolog_names.proofs.GrownTable.{named_anew}

-- none of the names stands among those before it
abbrev are_new : List (List ℕ) → List (List ℕ) → Bool
are_new before [] = true
are_new before (name ∷ names) = not (list_any (bytes_eq name) before) && are_new (before ++ name ∷ []) names

both_new : (there later : Bool) → (not there && later) ≡ true → (there ≡ false) × (later ≡ true)
both_new true later new = cc
both_new false later new = (refl, new)

put_behind : (before names : List (List ℕ)) → are_new before names ≡ true → fold with_name before names ≡ before ++ names
put_behind before [] new = sym (append-nil before)
put_behind before (name ∷ names) new =
    let split = both_new (list_any (bytes_eq name) before) (are_new (before ++ name ∷ []) names) new in
    ap (λ table. fold with_name table names) (named_anew before name split.0)
    ∙ put_behind (before ++ name ∷ []) names split.1
    ∙ append_assoc before (name ∷ []) names

pub known_put : fold with_name [] known_names ≡ known_names
known_put = put_behind [] known_names refl
