-- Predicates in order and in chains, one for each bucket.
use Rattle.std.specs.Prelude.{ℕ, ◌≡◌, ◌≤◌, List, AllPairs, length, map}
use Rattle.std.specs.declared.cmp.Ordering.TheVariants.{Less}
use Rattle.import_rules.specs.declared.names.PredName.{PredName}
use Rattle.import_rules.specs.declared.predicates.Chains.{Chains}
use Rattle.import_rules.specs.declared.predicates.Link.{Link}
use Rattle.import_rules.specs.declared.resolve.TheConstants.{MOST_PREDICATES}
use Rattle.import_rules.specs.Names.{pred_cmp}
use Rattle.import_rules.specs.NameTable.{name_hash, IsChained}

abbrev pub next_in : List Link → List ℕ
next_in links = map (λ (link : Link). link.next) links

abbrev pub hashes_in : List Link → List ℕ
hashes_in links = map (λ (link : Link). link.hash) links

-- the chains are those of predicates with these names, with the hashes of the names; the names are few and in order
pub record AreChained (names : List PredName) (chains : Chains) : Type 0 where
  pub chained : IsChained names chains.heads.items (next_in chains.links.items)
  pub hashed : hashes_in chains.links.items ≡ map name_hash names
  pub few : length names ≤ MOST_PREDICATES
  pub in_order : AllPairs (λ p q. pred_cmp p q ≡ Less) names
