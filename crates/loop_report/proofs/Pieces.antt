-- Texts of parts of a list, one after another.
use Rattle.std.proofs.Common.{◌≡◌, ℕ, List, [], ◌∷◌, ◌++◌, All, Vec, Global, Result, Ok, Err, IfOk, map, ap, sym, ◌∙◌, subst, refl, append-nil}
use Rattle.std.specs.Prelude.{Contains, MatchResult}
use Rattle.std.specs.List.{AllZip, flat_map}
use Rattle.std.specs.declared.alloc.AllocError.{AllocError}
use Rattle.std.proofs.lemmas.Grind.{flat_map-append}
use Rattle.std.proofs.lemmas.List.Elements.{All-cons, All-nil}
use Rattle.rayon.proofs.ListFacts.{All-parts}
use Rattle.loop_report.specs.Texts.{concatenated}

abbrev pub found_text : Vec ℕ Global → Result (Vec ℕ Global) AllocError
found_text text = Ok text

texts_joined : {S : Type 0} (f : S → List ℕ) (xs : List S) (texts : List (Vec ℕ Global)) → AllZip (λ x one. IfOk one (λ text. text.items ≡ f x)) xs (map found_text texts)
    → concatenated texts ≡ flat_map f xs
texts_joined f [] [] made = refl
texts_joined f [] (text ∷ texts) made = absurd made
texts_joined f (x ∷ xs) [] made = absurd made
texts_joined f (x ∷ xs) (text ∷ texts) made = λ i. made.0 i ++ texts_joined f xs texts made.1 i

-- the texts that were made, where memory was wanting for none
pub texts_found : {V S : Type 0} (items : V → List (Vec ℕ Global)) (f : S → List ℕ) (xs : List S) (each : List (Result (Vec ℕ Global) AllocError)) (found : Result V AllocError)
    → AllZip (λ x one. IfOk one (λ text. text.items ≡ f x)) xs each
    → MatchResult found (λ v. (texts : List (Vec ℕ Global)) × (each ≡ map found_text texts) × (items v ≡ texts)) (λ e. Contains each (Err e))
    → IfOk found (λ v. concatenated (items v) ≡ flat_map f xs)
texts_found {S = S} items f xs each (Ok v) made is =
    let R : S → Result (Vec ℕ Global) AllocError → Type 0 = λ x one. IfOk one (λ text. text.items ≡ f x) in
    ap concatenated is.2 ∙ texts_joined f xs is.0 (subst (AllZip R xs) is.1 made)
texts_found items f xs each (Err e) made is = tt

-- what is made of parts of a list, one after another
pub parts_lines : {X : Type 0} (f : X → List ℕ) (parts : List (List X)) → flat_map (flat_map f) parts ≡ flat_map f (flat_map (λ part. part) parts)
parts_lines f [] = refl
parts_lines f (part ∷ parts) =
    ap (λ l. flat_map f part ++ l) (parts_lines f parts) ∙ sym (flat_map-append f part (flat_map (λ one. one) parts))

-- what holds for all holds for all of each part
pub all_in_parts : {X : Type 0} (P : X → Type 0) (parts : List (List X)) → All P (flat_map (λ part. part) parts) → All (All P) parts
all_in_parts P [] all = All-nil (All P)
all_in_parts P (part ∷ parts) all =
    let rest = flat_map (λ one. one) parts in
    let both = All-parts P part rest all in
    All-cons (All P) part parts both.0 (all_in_parts P parts both.1)

-- texts between two others
pub texts_joined_between : (none one two three between : List (Vec ℕ Global)) (first last : Vec ℕ Global) → none ≡ [] → one ≡ none ++ first ∷ []
    → two ≡ one ++ between → three ≡ two ++ last ∷ [] → concatenated three ≡ first.items ++ (concatenated between ++ last.items)
texts_joined_between none one two three between first last empty is_one is_two is_three =
    let whole : three ≡ first ∷ (between ++ last ∷ []) =
    is_three ∙ ap (λ l. l ++ last ∷ []) (is_two ∙ ap (λ l. l ++ between) (is_one ∙ ap (λ l. l ++ first ∷ []) empty)) in
    ap concatenated whole
    ∙ ap (λ l. first.items ++ l)
    (flat_map-append (λ (text : Vec ℕ Global). text.items) between (last ∷ []) ∙ ap (λ l. concatenated between ++ l) (append-nil last.items))
