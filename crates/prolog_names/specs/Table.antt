-- Names in chains, one for each bucket of a hash.
use Rattle.std.specs.Prelude.{ℕ, Option, Some, None, is_some, ◌⊎◌, ◌≡◌, ◌≢◌, ◌+◌, ◌-◌, ◌*◌, ◌%◌, ◌^◌, ◌<◌, ◌≤◌, ◌++◌, [], ◌∷◌, List}
use Rattle.std.specs.Prelude.{length, map, fold, All, slice_index_or, if◌then◌else◌}
use Rattle.std.specs.Int.{IsPowerOfTwo}
use Rattle.std.specs.List.{list_any, slice_range, sum_by}
use Rattle.std.specs.Str.{bytes_eq, IsCharBoundary}
use Rattle.prolog_names.specs.declared.table.Entry.{Entry}
use Rattle.prolog_names.specs.Names.{name_at, AreDistinct}

-- the names with one more, where it doesn't stand among them yet
abbrev pub with_name : List (List ℕ) → List ℕ → List (List ℕ)
with_name names name = if list_any (bytes_eq name) names then names else names ++ name ∷ []

abbrev pub text_hash : List ℕ → ℕ
text_hash text = fold (λ s b. (s * 16777619 % 2 ^ 32 + b) % 2 ^ 32) 0 text

-- the bucket of a hash, of so many
abbrev pub bucket_in : ℕ → ℕ → ℕ
bucket_in size hash = hash % size

-- the places of far names: those that came to a full chain
abbrev pub Far : Type 0
Far = List ℕ → Option ℕ

-- the chain of a name, where there are so many buckets: that of its bucket, or for a far name the one behind the buckets
abbrev pub chain_of : Far → ℕ → List ℕ → ℕ
chain_of far size name = if is_some (far name) then size else bucket_in size (text_hash name)

abbrev pub chains_of : Far → ℕ → List (List ℕ) → List ℕ
chains_of far size names = map (chain_of far size) names

-- the chain takes the name of that hash, which comes to that place
abbrev pub IsChainFor : Far → ℕ → List ℕ → ℕ → ℕ → ℕ → Type 0
IsChainFor far size name hash place chain = ((chain ≡ bucket_in size hash) × (far name ≡ None)) ⊎ ((chain ≡ size) × (far name ≡ Some place))

abbrev pub bucket_at : List ℕ → ℕ → ℕ
bucket_at buckets place = slice_index_or buckets place 0

-- of the places below one, the last that is in the bucket stands before x; x is 0 where there is none
pub record IsLast (buckets : List ℕ) (below bucket x : ℕ) : Type 0 where
  pub within : x ≤ below
  pub none_behind : (m : ℕ) → x ≤ m → m < below → bucket_at buckets m ≢ bucket
  pub is : 0 < x → bucket_at buckets (x - 1) ≡ bucket

-- for each bucket its last place, and for each place the last one before it in its bucket
pub record AreChains (buckets : List ℕ) (count : ℕ) (heads next : List ℕ) : Type 0 where
  pub as_many : length next ≡ count
  pub last : (b : ℕ) → b < length heads → IsLast buckets count b (slice_index_or heads b 0)
  pub earlier : (n : ℕ) → n < count → IsLast buckets n (bucket_at buckets n) (slice_index_or next n 0)

-- a far name that stands among the names does so at its place
abbrev pub AreTold : Far → List (List ℕ) → Type 0
AreTold far names = (place : ℕ) → place < length names → (n : ℕ) → far (name_at names place) ≡ Some n → n ≡ place

-- how many bytes the names have
abbrev pub bytes_of : List (List ℕ) → ℕ
bytes_of names = sum_by (λ (name : List ℕ). length name) names

-- the name of an entry, in the text of all names
abbrev pub name_in : List ℕ → Entry → List ℕ
name_in texts entry = slice_range texts entry.start entry.end

abbrev pub names_of : List ℕ → List Entry → List (List ℕ)
names_of texts entries = map (name_in texts) entries

abbrev pub next_of : List Entry → List ℕ
next_of entries = map (λ (entry : Entry). entry.next) entries

-- the entry's name stands in the text of all names, as whole characters
pub record IsSpan (texts : List ℕ) (entry : Entry) : Type 0 where
  pub order : entry.start ≤ entry.end
  pub starts : IsCharBoundary texts entry.start
  pub ends : IsCharBoundary texts entry.end

-- the hash that stands beside a name is its own
abbrev pub IsHashed : List ℕ → Entry → Type 0
IsHashed texts entry = entry.hash ≡ text_hash (name_in texts entry)

-- the names stand in the chains of as many buckets as a power of two, and in that of far names
pub record IsChained (far : Far) (names : List (List ℕ)) (heads next : List ℕ) : Type 0 where
  pub power : IsPowerOfTwo (length heads - 1)
  pub chains : AreChains (chains_of far (length heads - 1) names) (length names) heads next

-- each name stands once, in the chain of its bucket, with its hash beside it; no other byte stands in the text of all names
pub record IsTable (texts : List ℕ) (entries : List Entry) (heads : List ℕ) (far : Far) : Type 0 where
  pub chained : IsChained far (names_of texts entries) heads (next_of entries)
  pub told : AreTold far (names_of texts entries)
  pub spans : All (IsSpan texts) entries
  pub hashed : All (IsHashed texts) entries
  pub distinct : AreDistinct (names_of texts entries)
  pub bytes : length texts ≡ bytes_of (names_of texts entries)
