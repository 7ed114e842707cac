-- What a closure of chunks answers, it answers at each of them.
use Rattle.std.proofs.Common.{◌≡◌, Bool, List, [], ◌∷◌, sym, subst}
use Rattle.std.specs.Borrow.{Bor}
use Rattle.std.specs.Fn.{Mut, ComputesOnPairs}
use Rattle.std.specs.Iterator.{Yields}
use Rattle.std.specs.Slice.Iter.{chunk_by_callee, chunk_by_steps}
use Rattle.std.specs.declared.slice.ChunkBy.{ChunkBy}

still_answers : {A F : Type 0} (g : Mut F (Bor A × (Bor A × Unit {0})) Bool) (e : A → A → Bool) (s : ChunkBy A F) (lent : List (Bor (List A))) (t : ChunkBy A F)
    → Yields (chunk_by_steps g) s lent t → ComputesOnPairs g e (chunk_by_callee s) → ComputesOnPairs g e (chunk_by_callee t)
still_answers {A} {F} g e s [] t same answers = subst (λ (u : ChunkBy A F). ComputesOnPairs g e (chunk_by_callee u)) same answers
still_answers {A} {F} g e s (run ∷ lent) t (u, step, rest) answers = still_answers g e u lent t rest (step.2 e answers).0

pub answers_on : {A F : Type 0} (g : Mut F (Bor A × (Bor A × Unit {0})) Bool) (e : A → A → Bool) (s : ChunkBy A F) (lent : List (Bor (List A))) (t : ChunkBy A F) (callee : F)
    → Yields (chunk_by_steps g) s lent t → chunk_by_callee s ≡ callee → ComputesOnPairs g e callee → ComputesOnPairs g e (chunk_by_callee t)
answers_on {A} {F} g e s lent t callee led is answers = still_answers g e s lent t led (subst (ComputesOnPairs g e) (sym is) answers)
