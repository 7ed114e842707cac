-- Names in order and in chains, one for each bucket.
use Rattle.std.specs.Prelude.{ℕ, ◌≡◌, ◌+◌, ◌*◌, ◌%◌, ◌^◌, ◌<◌, List, AllPairs, length, map}
use Rattle.std.specs.declared.cmp.Ordering.TheVariants.{Less}
use Rattle.prolog_names.specs.Table.{text_hash, bucket_in, AreChains}
use Rattle.import_rules.specs.declared.name_table.Link.{Link}
use Rattle.import_rules.specs.declared.names.PredName.{PredName}
use Rattle.import_rules.specs.Names.{pred_cmp}

-- the hash of a name by those of its module and of its own name
abbrev pub joint_hash : ℕ → ℕ → ℕ → ℕ
joint_hash owner name arity = ((owner * 16777619 % 2 ^ 32 + arity) % 2 ^ 32 * 16777619 % 2 ^ 32 + name) % 2 ^ 32

abbrev pub name_hash : PredName → ℕ
name_hash p = joint_hash (text_hash p.module) (text_hash p.name) p.arity

-- the bucket of a name, of so many
abbrev pub bucket_of : ℕ → PredName → ℕ
bucket_of size p = bucket_in size (name_hash p)

abbrev pub buckets_of : ℕ → List PredName → List ℕ
buckets_of size names = map (bucket_of size) names

-- the names stand in the chains of one bucket or more
pub record IsChained (names : List PredName) (heads next : List ℕ) : Type 0 where
  pub some : 0 < length heads
  pub chains : AreChains (buckets_of (length heads) names) (length names) heads next

abbrev pub next_of : List Link → List ℕ
next_of links = map (λ (link : Link). link.next) links

abbrev pub hashes_of : List Link → List ℕ
hashes_of links = map (λ (link : Link). link.hash) links

-- the links are those of the chains, with the hashes of the names; the names are in order
pub record IsLinked (names : List PredName) (heads : List ℕ) (links : List Link) : Type 0 where
  pub chained : IsChained names heads (next_of links)
  pub hashed : hashes_of links ≡ map name_hash names
  pub in_order : AllPairs (λ p q. pred_cmp p q ≡ Less) names
