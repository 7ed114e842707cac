use Rattle.std.proofs.Common.{◌≡◌, ◌+◌, ℕ, All, List, Vec, Global, length, map, ap, sym, ◌∙◌, subst, arith}
use Rattle.std.proofs.lemmas.List.{length-map}
use Rattle.list_laws.proofs.Members.{seen_there}
use Rattle.prolog_tokens.specs.Places.{IsOffset, IsAscending, ArePlaces}
use Rattle.file_library.specs.Loaded.{NamedText}
use Rattle.file_library.specs.Spots.{texts_of}
use Rattle.file_library.proofs.SpotLemmas.{IsRun, IsPlacing, text_small, run_offsets, run_stands, run_ascends, placing_more, placing_all}
use Rattle.file_library.proofs.spots.places_of_spots.Goals as goal

abbrev see : List ℕ × Vec ℕ Global → NamedText
see text = (text.0, text.1.items)

pub overflow_cast-at : goal.overflow_cast-at
overflow_cast-at c = omega (arith, c.loop-at-test.true, c.requires.texts.few, length-map c.args.texts.now see)

pub push_places-requires-clause-small : goal.push_places-requires-clause-small
push_places-requires-clause-small c =
    let k = c.loop-at.at in
    let text = c.index-texts-at.result in
    let here = seen_there see c.args.texts.now k text c.loop-at-test.true c.index-texts-at.is in
    omega (arith, ap length c.deref.ensures.value, text_small (texts_of c.args.texts.now) k (see text) c.requires.texts here)

pub push_places-requires-clause-offsets : goal.push_places-requires-clause-offsets
push_places-requires-clause-offsets c =
    let texts = texts_of c.args.texts.now in
    let k = c.loop-at.at in
    let text = c.index-texts-at.result in
    let rest = c.loop-at.rest.now in
    let end = c.run_end.result in
    let here = seen_there see c.args.texts.now k text c.loop-at-test.true c.index-texts-at.is in
    let run : IsRun rest k end = record { bound = c.run_end.ensures.bound; same = c.run_end.ensures.same; other = c.run_end.ensures.other } in
    let offsets : c.deref-in-loop-at.result.now ≡ run_offsets texts c.args.spots.now c.requires.spots rest end =
    c.deref-in-loop-at.ensures.value ∙ (c.in_ok-offsets.ensures ∙ ap (map (λ (p : ℕ × ℕ). p.1)) c.split_at.ensures.front) in
    let P : List ℕ → List ℕ → Type 0 = λ bytes xs. All (IsOffset bytes) xs in
    subst (P c.deref.result.now) (sym offsets)
    (subst (λ bytes. P bytes (run_offsets texts c.args.spots.now c.requires.spots rest end)) (sym c.deref.ensures.value)
    (run_stands texts c.args.spots.now c.requires.spots rest k end (see text) c.loop-at.out.items here run c.loop-at.invariant))

pub push_places-requires-clause-ascending : goal.push_places-requires-clause-ascending
push_places-requires-clause-ascending c =
    let texts = texts_of c.args.texts.now in
    let k = c.loop-at.at in
    let rest = c.loop-at.rest.now in
    let end = c.run_end.result in
    let run : IsRun rest k end = record { bound = c.run_end.ensures.bound; same = c.run_end.ensures.same; other = c.run_end.ensures.other } in
    let offsets : c.deref-in-loop-at.result.now ≡ run_offsets texts c.args.spots.now c.requires.spots rest end =
    c.deref-in-loop-at.ensures.value ∙ (c.in_ok-offsets.ensures ∙ ap (map (λ (p : ℕ × ℕ). p.1)) c.split_at.ensures.front) in
    let P : List ℕ → Type 0 = λ xs. IsAscending xs in
    subst P (sym offsets) (run_ascends texts c.args.spots.now c.requires.spots rest k end c.loop-at.out.items run c.loop-at.invariant)

pub loop-at-preserved : goal.loop-at-preserved
loop-at-preserved c =
    let texts = texts_of c.args.texts.now in
    let k = c.loop-at.at in
    let text = c.index-texts-at.result in
    let rest = c.loop-at.rest.now in
    let end = c.run_end.result in
    let mid = c.loop-at.out.items in
    let new = c.push_places.new.out.items in
    let here = seen_there see c.args.texts.now k text c.loop-at-test.true c.index-texts-at.is in
    let run : IsRun rest k end = record { bound = c.run_end.ensures.bound; same = c.run_end.ensures.same; other = c.run_end.ensures.other } in
    let offsets : c.deref-in-loop-at.result.now ≡ run_offsets texts c.args.spots.now c.requires.spots rest end =
    c.deref-in-loop-at.ensures.value ∙ (c.in_ok-offsets.ensures ∙ ap (map (λ (p : ℕ × ℕ). p.1)) c.split_at.ensures.front) in
    let told = c.in_ok-push_places.ensures in
    let P : List ℕ → List ℕ → Type 0 = λ bytes xs. ArePlaces bytes xs told.0 in
    let are = subst (P text.1.items) offsets (subst (λ bytes. P bytes c.deref-in-loop-at.result.now) c.deref.ensures.value told.1) in
    let Q : List (ℕ × ℕ) → Type 0 = λ xs. IsPlacing texts c.args.spots.now xs (k + 1) new in
    subst Q (sym c.split_at.ensures.back)
    (placing_more texts c.args.spots.now c.requires.spots rest k end (see text) mid new told.0 here run are told.2 c.loop-at.invariant)

pub returns : goal.returns
returns c =
    let count = length-map c.args.texts.now see in
    placing_all (texts_of c.args.texts.now) c.args.spots.now c.requires.spots c.loop-at.rest.now c.loop-at.at c.loop-at.out.items
    (omega (arith, count, c.loop-at-test.false)) c.loop-at.invariant
