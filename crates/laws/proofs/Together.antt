-- Whether what is given may stand together.
use Rattle.std.proofs.Common.{◌≡◌, inl, inr, ℕ, true, List, [], Option, None, is_some}
use Rattle.group_words.specs.Words.{Key, Jobs, Searches, Roots, Path, Order, Unreached, Effects, Loops, Stream, Make}
use Rattle.group_words.specs.Settings.{GoTogether}
use Rattle.laws.proofs.Known.{IsKnown, known_bool, known_both, known_empty, known_if, known_none, known_not}

module _ (given : Key → Option (List ℕ)) (files : List (List ℕ)) where
  -- what a made program excludes
  abbrev StandsAlone : Type 0
  StandsAlone = (given Roots ≡ None) × (given Path ≡ None) × (given Order ≡ None) × (given Unreached ≡ None) × (given Effects ≡ None) × (given Loops ≡ None) × (files ≡ [])

  stands_alone : IsKnown StandsAlone
  stands_alone =
      go (known_none (given Roots)) (known_none (given Path)) (known_none (given Order)) (known_none (given Unreached)) (known_none (given Effects)) (known_none (given Loops)) (known_empty files)
    where
      go : IsKnown (given Roots ≡ None) → IsKnown (given Path ≡ None) → IsKnown (given Order ≡ None) → IsKnown (given Unreached ≡ None) → IsKnown (given Effects ≡ None) → IsKnown (given Loops ≡ None) → IsKnown (files ≡ []) → IsKnown StandsAlone
      go (inr never) path order unreached effects loops empty = inr (λ all. never all.0)
      go (inl roots) (inr never) order unreached effects loops empty = inr (λ all. never all.1)
      go (inl roots) (inl path) (inr never) unreached effects loops empty = inr (λ all. never all.2)
      go (inl roots) (inl path) (inl order) (inr never) effects loops empty = inr (λ all. never all.3)
      go (inl roots) (inl path) (inl order) (inl unreached) (inr never) loops empty = inr (λ all. never all.4)
      go (inl roots) (inl path) (inl order) (inl unreached) (inl effects) (inr never) empty = inr (λ all. never all.5)
      go (inl roots) (inl path) (inl order) (inl unreached) (inl effects) (inl loops) (inr never) = inr (λ all. never all.6)
      go (inl roots) (inl path) (inl order) (inl unreached) (inl effects) (inl loops) (inl empty) = inl (roots, path, order, unreached, effects, loops, empty)

  -- what the levels that are found as groups come ask for
  abbrev MayStream : Type 0
  MayStream = (is_some (given Order) ≡ true) × (given Searches ≡ None)

  may_stream : IsKnown MayStream
  may_stream = known_both (known_bool (is_some (given Order)) true) (known_none (given Searches))

  pub known_together : IsKnown (GoTogether given files)
  known_together =
      go (known_if (known_bool (is_some (given Searches)) true) (known_none (given Jobs))) (known_if (known_bool (is_some (given Stream)) true) may_stream)
      (known_if (known_bool (is_some (given Make)) true) stands_alone) (known_if (known_none (given Make)) (known_not (known_empty files)))
    where
      go : IsKnown (is_some (given Searches) ≡ true → given Jobs ≡ None) → IsKnown (is_some (given Stream) ≡ true → MayStream)
          → IsKnown (is_some (given Make) ≡ true → StandsAlone) → IsKnown (given Make ≡ None → files ≡ [] → ⊥) → IsKnown (GoTogether given files)
      go (inr never) streamed made read = inr (λ all. never all.one_way)
      go (inl one_way) (inr never) made read = inr (λ all. never all.streamed)
      go (inl one_way) (inl streamed) (inr never) read = inr (λ all. never all.made)
      go (inl one_way) (inl streamed) (inl made) (inr never) = inr (λ all. never all.read)
      go (inl one_way) (inl streamed) (inl made) (inl read) = inl (record { one_way = one_way; streamed = streamed; made = made; read = read })
