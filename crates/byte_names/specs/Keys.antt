-- Names with what they are sorted by.
use Rattle.std.specs.Prelude.{◌≡◌, ℕ, ◌+◌, ◌-◌, ◌<◌, ◌⊎◌, ◌++◌, List, [], ◌∷◌, length, map, All, Contains}
use Rattle.byte_names.specs.declared.ranked.Keyed.{Keyed}
use Rattle.byte_names.specs.Lead.{lead}
use Rattle.byte_names.specs.Names.{name_at}

-- the key of the name with its index
pub record IsKey (names : List (List ℕ)) (key : Keyed) : Type 0 where
  pub within : key.place < length names
  pub named : key.name.now ≡ name_at names key.place
  pub bytes : All (λ byte. byte < 256) key.name.now
  pub led : key.lead ≡ lead key.name.now

abbrev pub places : List Keyed → List ℕ
places keys = map (λ (key : Keyed). key.place) keys

-- as many keys of the names, among them that of each index below the count
pub record AreKeys (names : List (List ℕ)) (count : ℕ) (keys : List Keyed) : Type 0 where
  pub long : length keys ≡ count
  pub each : All (IsKey names) keys
  pub all : (place : ℕ) → place < count → Contains (places keys) place

-- the last of the names is this one
pub record IsLastName (names : List (List ℕ)) (name : List ℕ) : Type 0 where
  pub some : 0 < length names
  pub is : name_at names (length names - 1) ≡ name

-- the new names are the old ones if the last of these is the name, or else these and the name; the rank is that of the last new name
pub record IsAppended (old : List (List ℕ)) (name : List ℕ) (new : List (List ℕ)) (rank : ℕ) : Type 0 where
  pub last : IsLastName new name
  pub at : rank + 1 ≡ length new
  pub kept : (new ≡ old) ⊎ ((IsLastName old name → ⊥) × (new ≡ old ++ name ∷ []))
