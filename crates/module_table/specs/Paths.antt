-- Where paths lead, and what names of files look like.
use Rattle.std.specs.Prelude.{ℕ, ◌≡◌, ◌≢◌, ◌⊎◌, List, [], ◌∷◌, ◌++◌, All, true, ◌||◌, nat_eq, if◌then◌else◌, codes, fold, drop, refl}
use Rattle.std.specs.Str.{bytes_eq}
use Rattle.std.specs.List.{ends_with}
use Rattle.module_table.specs.FileName.{slash, begins_with_slash, segments, with_ending}

-- where one more segment leads from a place, whose folders stand the last one first: an empty one and `.` stay there, and `..` leads a level up, where there is
-- one
abbrev pub led_on : List (List ℕ) → List ℕ → List (List ℕ)
led_on place segment =
    if bytes_eq segment [] || bytes_eq segment (codes ".") then place
    else if bytes_eq segment (codes "..") then drop 1 place
    else segment ∷ place

-- where a path leads from a place; one that begins with a slash sets out from the root
abbrev pub led : List (List ℕ) → List ℕ → List (List ℕ)
led place path = fold led_on (if begins_with_slash path then [] else place) (segments path)

-- the file at a place, with the ending of a file of Prolog
abbrev pub as_prolog : List (List ℕ) → List (List ℕ)
as_prolog [] = []
as_prolog (last ∷ folders) = with_ending last ∷ folders

-- the folder of a name: the name up to its last slash
pub record IsFolder (name folder : List ℕ) : Type 0 where
  pub last : List ℕ
  pub is : name ≡ folder ++ last
  pub slashless : All (λ b. b ≢ slash) last
  pub ends : (folder ≡ []) ⊎ (ends_with nat_eq folder (codes "/") ≡ true)

-- a segment that is the name of a file or folder
pub record IsPlain (segment : List ℕ) : Type 0 where
  pub some : segment ≢ []
  pub not_here : segment ≢ codes "."
  pub not_up : segment ≢ codes ".."

-- a name of a file: it leads some levels up, but not from the root, and then through folders to a file, whose name ends with `.pl`
pub record IsFileName (name : List ℕ) : Type 0 where
  pub ups : List (List ℕ)
  pub folders : List (List ℕ)
  pub file : List ℕ
  pub is : segments name ≡ (if begins_with_slash name then [] ∷ [] else []) ++ (ups ++ folders) ++ file ∷ []
  pub up : All (λ segment. segment ≡ codes "..") ups
  pub rooted : begins_with_slash name ≡ true → ups ≡ []
  pub plain : All IsPlain (folders ++ file ∷ [])
  pub ending : ends_with nat_eq file (codes ".pl") ≡ true

-- a step up and the folder itself fall away, and from the root no step leads up
up_and_here : led [] (codes "a/../b/./c") ≡ codes "c" ∷ codes "b" ∷ []
up_and_here = refl

above_the_root : led (codes "a" ∷ []) (codes "/../b") ≡ codes "b" ∷ []
above_the_root = refl

out_of_a_folder : led (codes "b" ∷ codes "a" ∷ []) (codes "../c") ≡ codes "c" ∷ codes "a" ∷ []
out_of_a_folder = refl
