-- Names that are ranges of a text, as lists of bytes.
use Rattle.std.proofs.Common.{◌≡◌, ℕ, ◌<◌, ◌++◌, List, [], ◌∷◌, length, get_or, sym, ap, ◌∙◌}
use Rattle.std.proofs.lemmas.List.{get_or-map, length-map, map_push}
use Rattle.byte_names.specs.Names.{names_of, name_at}
use denote.Ref.{Bor}

pub as_many : (names : List (Bor (List ℕ))) → length (names_of names) ≡ length names
as_many names = length-map names (λ (name : Bor (List ℕ)). name.now)

-- the name that is read at an index
pub name_read : (names : List (Bor (List ℕ))) (place : ℕ) (name : Bor (List ℕ)) → place < length names → name ≡ get_or names place name
    → name_at (names_of names) place ≡ name.now
name_read names place name within is =
    get_or-map (λ (n : Bor (List ℕ)). n.now) names place name [] within ∙ ap (λ (n : Bor (List ℕ)). n.now) (sym is)

pub one_more : (names : List (Bor (List ℕ))) (name : Bor (List ℕ)) → names_of (names ++ name ∷ []) ≡ names_of names ++ name.now ∷ []
one_more names name = map_push (λ (n : Bor (List ℕ)). n.now) names name
