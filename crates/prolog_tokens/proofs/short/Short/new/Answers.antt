use Rattle.std.proofs.Common.{◌≡◌, ◌≤◌, ℕ, List, ◌++◌, length, take, drop, replicate, ap, sym, subst, ◌∙◌, arith}
use Rattle.std.proofs.Math.Seq.{take-append_seam}
use Rattle.std.specs.Str.{IsUtf8}
use Rattle.prolog_tokens.specs.Padded.{padded}
use Rattle.prolog_tokens.proofs.Padded.{written_over}
use Rattle.prolog_tokens.proofs.short.Short.new.Goals as goal

pub invariant_of-result : goal.invariant_of-result
invariant_of-result c =
    let found : List ℕ = c.as_bytes-found.result.now in
    let n = length found in
    let copied : c.copy_from_slice.new.self ≡ found = c.copy_from_slice.ensures.after in
    let same : take n (c.copy_from_slice.new.self ++ drop n (replicate 24 0)) ≡ c.args.text.now =
    ap (λ xs. take n (xs ++ drop n (replicate 24 0))) copied ∙ take-append_seam found (drop n (replicate 24 0)) ∙ c.as_bytes-found.ensures.value in
    let within : n ≤ 24 = omega (arith, c.requires, ap length c.as_bytes-found.ensures.value) in (
      within,
      (subst (λ xs. xs ++ drop n (replicate 24 0) ≡ padded 24 (take n (xs ++ drop n (replicate 24 0)))) (sym copied) (written_over 24 found), ∣ subst IsUtf8 (sym same) c.utf8.text ∣₁),
    )
