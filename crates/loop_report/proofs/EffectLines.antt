-- The lines of effects, kind by kind.
use Rattle.std.proofs.Common.{◌≡◌, ℕ, ◌+◌, List, [], ◌++◌, sym, ◌∙◌, ap}
use Rattle.std.specs.List.{range_with_len, flat_map}
use Rattle.std.proofs.lemmas.List.{append-nil, flat_map_more}
use Rattle.import_rules.proofs.Ranges.{range_more}

-- a kind with a line
pub kind_more : (line : ℕ → List ℕ) (head before after : List ℕ) (n : ℕ) → before ≡ head ++ flat_map line (range_with_len 0 n) → after ≡ before ++ line n
    → after ≡ head ++ flat_map line (range_with_len 0 (n + 1))
kind_more line head before after n so_far more =
    more ∙ (ap (λ bytes. bytes ++ line n) so_far ∙ (flat_map_more line head (range_with_len 0 n) n ∙ ap (λ ks. head ++ flat_map line ks) (sym (range_more n))))

-- and one without
pub kind_none : (line : ℕ → List ℕ) (head before : List ℕ) (n : ℕ) → before ≡ head ++ flat_map line (range_with_len 0 n) → line n ≡ []
    → before ≡ head ++ flat_map line (range_with_len 0 (n + 1))
kind_none line head before n so_far none =
    kind_more line head before before n so_far (sym (append-nil before) ∙ ap (λ bytes. before ++ bytes) (sym none))
