-- Pieces that a sink takes, one after another.
use Rattle.std.proofs.Common.{◌≡◌, ℕ, ◌+◌, ◌≤◌, List, ◌++◌, Option, Some, None, length, take, drop, ap, sym, ◌∙◌, refl, append_assoc, inl, inr, arith}
use Rattle.std.proofs.lemmas.Bool.{cases_lt}
use Rattle.file_library.specs.Counts.{Rose}
use Rattle.std.proofs.Math.Seq.{take-add}
use Rattle.std.proofs.lemmas.List.{take-append-drop, take-append-le, take_all}
use Rattle.tool_run.specs.Sink.{SinkSeen, more_taken}
use Rattle.tool_run.specs.Say.{TookPart}

-- the first bytes of a piece that begins at a place go on from there
pub take_piece : (xs : List ℕ) (at m n : ℕ) → n ≤ length (take m (drop at xs)) → take at xs ++ take n (take m (drop at xs)) ≡ take (at + n) xs
take_piece xs at m n within =
    let ys = drop at xs in
    let same : take n (take m ys) ≡ take n ys = sym (take-append-le n (take m ys) (drop m ys) within) ∙ ap (take n) (take-append-drop m ys) in
    ap (λ zs. take at xs ++ zs) same ∙ sym (take-add at n xs)

pub more_twice : (taken : Option (List ℕ)) (xs ys : List ℕ) → more_taken (more_taken taken xs) ys ≡ more_taken taken (xs ++ ys)
more_twice None xs ys = refl
more_twice (Some before) xs ys = ap Some (append_assoc before xs ys)

-- a count that rose later rose over all
pub rose_after : (a b c : ℕ) → a ≤ b → b ≤ c → Rose b c → Rose a c
rose_after a b c before after rose = elim rose [
  | inl up ↦ inl (omega arith)
  | inr end ↦ elim (cases_lt a 18446744073709551615) [ inl below ↦ inl (omega arith) | inr past ↦ inr past ]
]

-- and one that rose earlier
pub rose_before : (a b c : ℕ) → b ≤ c → Rose a b → Rose a c
rose_before a b c after rose = elim rose [ inl up ↦ inl (omega arith) | inr end ↦ inr end ]

-- a sink that took all of the bytes and failed to be flushed took the first of them, as many as there are
pub taken_unflushed : (bytes : List ℕ) (before mid after : SinkSeen) → mid.taken ≡ more_taken before.taken bytes → before.faults ≤ mid.faults → mid.faults ≤ after.faults
    → (after.taken ≡ mid.taken) × (Rose mid.faults after.faults) → TookPart bytes before after
taken_unflushed bytes before mid after all first second failed = record {
  count = length bytes;
  is = failed.0 ∙ (all ∙ ap (more_taken before.taken) (sym (take_all (length bytes) bytes (omega arith))));
  rose = rose_after before.faults mid.faults after.faults first second failed.1;
}
