-- The bucket of a hash, where there are as many buckets as a power of two.
use Rattle.std.proofs.Common.{◌≡◌, ◌%◌, ◌-◌, ◌<◌, ℕ, sym, subst}
use lib.Bits.{bit_and}
use Rattle.std.specs.Int.{IsPowerOfTwo}
use Rattle.std.proofs.lemmas.Nat.{and_mask, pow_pos}
use Rattle.prolog_names.specs.Table.{bucket_in}

pub some_buckets : (size : ℕ) → IsPowerOfTwo size → 0 < size
some_buckets size power = subst (λ n. 0 < n) (sym power.1) (pow_pos power.0)

pub masked : (size hash : ℕ) → IsPowerOfTwo size → bit_and hash (size - 1) ≡ bucket_in size hash
masked size hash power = subst (λ n. bit_and hash (n - 1) ≡ hash % n) (sym power.1) (and_mask hash power.0)
