-- Two lists side by side.
use Rattle.std.proofs.Common.{◌≡◌, ℕ, zero, suc, ◌<◌, List, [], ◌∷◌, ◌++◌, length, get_or, map, ap, refl, arith}
use Rattle.std.specs.List.{AllZip}

pub zip_at : {X Y : Type 0} (R : X → Y → Type 0) (xs : List X) (ys : List Y) (k : ℕ) (d : X) (e : Y) → AllZip R xs ys → k < length xs → R (get_or xs k d) (get_or ys k e)
zip_at R [] ys k d e zip lt = absurd (omega (arith, lt))
zip_at R (x ∷ xs) [] k d e zip lt = absurd zip
zip_at R (x ∷ xs) (y ∷ ys) zero d e zip lt = zip.0
zip_at R (x ∷ xs) (y ∷ ys) (suc k) d e zip lt = zip_at R xs ys k d e zip.1 (omega (arith, lt))

pub zip_count : {X Y : Type 0} (R : X → Y → Type 0) (xs : List X) (ys : List Y) → AllZip R xs ys → length xs ≡ length ys
zip_count R [] [] zip = refl
zip_count R [] (y ∷ ys) zip = absurd zip
zip_count R (x ∷ xs) [] zip = absurd zip
zip_count R (x ∷ xs) (y ∷ ys) zip = ap suc (zip_count R xs ys zip.1)

pub zip_append : {X Y : Type 0} (R : X → Y → Type 0) (xs us : List X) (ys vs : List Y) → AllZip R xs ys → AllZip R us vs → AllZip R (xs ++ us) (ys ++ vs)
zip_append R [] us [] vs zip more = more
zip_append R [] us (y ∷ ys) vs zip more = absurd zip
zip_append R (x ∷ xs) us [] vs zip more = absurd zip
zip_append R (x ∷ xs) us (y ∷ ys) vs zip more = (zip.0, zip_append R xs us ys vs zip.1 more)

-- what holds of what a function gives
pub zip_map : {X Y Z : Type 0} (R : Z → Y → Type 0) (S : X → Y → Type 0) (f : X → Z) (xs : List X) (ys : List Y)
    → ((k : ℕ) (d : X) (y : Y) → k < length xs → R (f (get_or xs k d)) y → S (get_or xs k d) y) → AllZip R (map f xs) ys → AllZip S xs ys
zip_map R S f [] [] to zip = tt
zip_map R S f [] (y ∷ ys) to zip = absurd zip
zip_map R S f (x ∷ xs) [] to zip = absurd zip
zip_map R S f (x ∷ xs) (y ∷ ys) to zip =
    (to 0 x y (omega arith) zip.0, zip_map R S f xs ys (λ k d z lt r. to (suc k) d z (omega (arith, lt)) r) zip.1)

pub zip_one : {X Y : Type 0} (R : X → Y → Type 0) (xs : List X) (x : X) (ys : List Y) (y : Y) → AllZip R xs ys → R x y → AllZip R (xs ++ x ∷ []) (ys ++ y ∷ [])
zip_one R xs x ys y zip one = zip_append R xs (x ∷ []) ys (y ∷ []) zip (one, tt)
