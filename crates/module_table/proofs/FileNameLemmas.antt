-- What the first slash of a name says of its folder.
use Rattle.std.proofs.Common.{◌≡◌, ℕ, ◌<◌, ◌==◌, List, [], ◌∷◌, ◌++◌, length, codes, refl, sym, ap, ◌∙◌, arith, append_assoc}
use Rattle.std.specs.List.{position_or_len, before_first, after_first}
use Rattle.std.proofs.lemmas.List.Splits.{slice_split_first, slice_split_none, length-slice_split}
use Rattle.std.proofs.lemmas.List.Sums.{fails_before_first}
use Rattle.module_table.specs.FileName.{slash, segments, all_but_last, with_slashes, folder}

one_more : (part : List ℕ) (parts : List (List ℕ)) → 0 < length parts → all_but_last (part ∷ parts) ≡ part ∷ all_but_last parts
one_more part [] some = let none : ⊥ = omega (arith, some) in absurd none
one_more part (next ∷ more) some = refl

-- the folder begins with what stands before the first slash
pub folder_first : (name : List ℕ) → position_or_len (λ b. b == slash) name < length name
    → folder name ≡ (before_first (λ b. b == slash) name ++ codes "/") ++ folder (after_first (λ b. b == slash) name)
folder_first name within =
    let after = after_first (λ b. b == slash) name in
    let some : 0 < length (segments after) = omega (arith, length-slice_split (λ b. b == slash) after) in
    ap (λ parts. with_slashes (all_but_last parts)) (slice_split_first (λ b. b == slash) name 0 within)
    ∙ ap with_slashes (one_more (before_first (λ b. b == slash) name) (segments after) some)

-- a name without a slash has no folder
pub folder_none : (name : List ℕ) → position_or_len (λ b. b == slash) name ≡ length name → folder name ≡ []
folder_none name none =
    ap (λ parts. with_slashes (all_but_last parts))
    (slice_split_none (λ b. b == slash) name (λ k d below. fails_before_first (λ b. b == slash) name k d (omega arith)))

-- the first segment of a name goes over to a path, with its slash
pub folder_moved : (path name segment more : List ℕ) → segment ≡ before_first (λ b. b == slash) name → more ≡ after_first (λ b. b == slash) name
    → position_or_len (λ b. b == slash) name < length name
    → ((path ++ segment) ++ codes "/") ++ folder more ≡ path ++ folder name
folder_moved path name segment more first later within =
    append_assoc (path ++ segment) (codes "/") (folder more)
    ∙ append_assoc path segment (codes "/" ++ folder more)
    ∙ ap (λ x. path ++ x)
    (sym (append_assoc segment (codes "/") (folder more))
    ∙ (λ i. (first i ++ codes "/") ++ folder (later i))
    ∙ sym (folder_first name within))
