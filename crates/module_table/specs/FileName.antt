-- The names of the files that specifications mean.
use Rattle.std.specs.Prelude.{ℕ, ◌≡◌, ◌==◌, map, List, [], ◌∷◌, ◌++◌, Option, Some, None, Bool, ◌||◌, nat_eq, if◌then◌else◌, codes, fold, reverse, flat_map}
use Rattle.std.specs.Prelude.{refl}
use Rattle.std.specs.Str.{bytes_eq}
use Rattle.std.specs.List.{slice_split, starts_with, ends_with}
use Rattle.std.specs.Borrow.{Bor}

abbrev pub slash : ℕ
slash = 47

abbrev pub begins_with_slash : List ℕ → Bool
begins_with_slash text = starts_with nat_eq text (codes "/")

-- what stands between slashes, with what stands before the first one and after the last one
abbrev pub segments : List ℕ → List (List ℕ)
segments text = slice_split (λ b. b == slash) text

abbrev pub all_but_last : List (List ℕ) → List (List ℕ)
all_but_last [] = []
all_but_last (segment ∷ []) = []
all_but_last (segment ∷ next ∷ more) = segment ∷ all_but_last (next ∷ more)

-- each segment with a slash after it
abbrev pub with_slashes : List (List ℕ) → List ℕ
with_slashes parts = flat_map (λ part. part ++ codes "/") parts

-- a file's folder: its name up to the last slash
abbrev pub folder : List ℕ → List ℕ
folder name = with_slashes (all_but_last (segments name))

-- the text that is read: a specification that begins with a slash alone, any other after the folder
abbrev pub whole_path : List ℕ → List ℕ → List ℕ
whole_path using spec = if begins_with_slash spec then spec else folder using ++ spec

-- what `..` makes of the segments kept so far, the last one first
abbrev pub gone_up : Bool → List (List ℕ) → List (List ℕ)
gone_up absolute [] = if absolute then [] else codes ".." ∷ []
gone_up absolute (last ∷ before) =
    if bytes_eq last (codes "..") then (if absolute then last ∷ before else codes ".." ∷ last ∷ before)
    else before

-- what one more segment makes of them
abbrev pub kept_with : Bool → List (List ℕ) → List ℕ → List (List ℕ)
kept_with absolute kept segment =
    if bytes_eq segment [] || bytes_eq segment (codes ".") then kept
    else if bytes_eq segment (codes "..") then gone_up absolute kept
    else segment ∷ kept

-- the segments of a path that are kept, the last one first
abbrev pub kept_segments : List ℕ → List (List ℕ)
kept_segments path = fold (kept_with (begins_with_slash path)) [] (segments path)

-- texts that are lent, the last one first
abbrev pub last_first : List (Bor (List ℕ)) → List (List ℕ)
last_first lent = reverse (map (λ part. part.now) lent)

abbrev pub with_ending : List ℕ → List ℕ
with_ending last = if ends_with nat_eq last (codes ".pl") then last else last ++ codes ".pl"

-- the name of kept segments, the last one first
abbrev pub name_of : Bool → List (List ℕ) → Option (List ℕ)
name_of absolute [] = None
name_of absolute (last ∷ before) =
    if bytes_eq last (codes "..") then None
    else Some ((if absolute then codes "/" else []) ++ with_slashes (reverse before) ++ with_ending last)

abbrev name_of_path : List ℕ → Option (List ℕ)
name_of_path path = name_of (begins_with_slash path) (kept_segments path)

-- the name that a specification means in the file named `using`
abbrev pub resolved : List ℕ → List ℕ → Option (List ℕ)
resolved using spec = name_of_path (whole_path using spec)

beside_the_file : resolved (codes "lib/a.pl") (codes "b") ≡ Some (codes "lib/b.pl")
beside_the_file = refl

out_of_the_folder : resolved (codes "lib/a.pl") (codes "../x/./b.pl") ≡ Some (codes "x/b.pl")
out_of_the_folder = refl

from_the_root : resolved (codes "lib/a.pl") (codes "/t/../b") ≡ Some (codes "/b.pl")
from_the_root = refl

no_segment_left : resolved (codes "lib/a.pl") (codes "..") ≡ None
no_segment_left = refl

from_the_empty_name : resolved [] (codes "./a") ≡ Some (codes "a.pl")
from_the_empty_name = refl

just_the_ending : resolved [] (codes ".pl") ≡ Some (codes ".pl")
just_the_ending = refl

above_a_relative_name : resolved [] (codes "../../a") ≡ Some (codes "../../a.pl")
above_a_relative_name = refl

above_an_absolute_name : resolved (codes "/a.pl") (codes "../../b") ≡ Some (codes "/b.pl")
above_an_absolute_name = refl

ends_above : resolved (codes "a.pl") (codes "x/../..") ≡ None
ends_above = refl
