-- The bytes of texts, and the same in texts of bytes.
use Rattle.std.proofs.Common.{◌≡◌, ◌++◌, [], ◌∷◌, ℕ, List, String, Vec, Global, ap, ap₂, sym, ◌∙◌}
use Rattle.std.specs.String.{string_bytes}
use Rattle.std.proofs.lemmas.Grind.{flat_map-append}
use Rattle.call_told.specs.Told.{joined}
use Rattle.tool_run.specs.Say.{concatenated}

-- one text more
pub bytes_more : (bytes : List (Vec ℕ Global)) (more : Vec ℕ Global) (before : List (String Global)) (text : String Global) → concatenated bytes ≡ joined before
    → more.items ≡ string_bytes text → concatenated (bytes ++ more ∷ []) ≡ joined (before ++ text ∷ [])
bytes_more bytes more before text so_far same =
    flat_map-append (λ (one : Vec ℕ Global). one.items) bytes (more ∷ [])
    ∙ (ap₂ (λ a b. a ++ b) so_far (ap (λ m. m ++ []) same) ∙ sym (flat_map-append (λ (one : String Global). string_bytes one) before (text ∷ [])))
