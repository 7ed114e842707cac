-- A text as it is decoded, line by line.
use Rattle.std.proofs.Common.{◌≡◌, ℕ, ◌+◌, ◌<◌, ◌≤◌, ◌++◌, List, [], ◌∷◌, length, map, get_or, All, refl, sym, ap, ◌∙◌, inl, inr, arith}
use Rattle.std.specs.Prelude.{slice_range}
use Rattle.std.specs.List.{flat_map}
use Rattle.std.proofs.lemmas.Bool.{cases_lt}
use Rattle.std.proofs.lemmas.Grind.{flat_map-append}
use Rattle.std.proofs.lemmas.List.{append-nil, append_assoc, get_or_append_left, get_or_at, get_or_past, length_push, map_push}
use Rattle.std.proofs.lemmas.List.Elements.{All-nil, All-push}
use Rattle.edge_text.specs.EdgeGraph.{calls_of}
use Rattle.edge_text.specs.Faults.{line_at}
use Rattle.edge_text.specs.Lines.{lines_of}
use Rattle.edge_text.proofs.Rests.{AreRest, IsNextRest}
use Rattle.edge_json.specs.declared.cause.Cause.{Cause}
use Rattle.edge_json.specs.declared.cause.LineFault.{LineFault}
use Rattle.edge_json.specs.Faults.{IsFaultless, IsFirstFault}
use Rattle.edge_json.specs.Meaning.{Meaning, bad, meaning_of, says}
use Rattle.edge_json.specs.Said.{IsHeard, heard, heard_in, json_said, said_of}

abbrev pub IsFine : List ℕ → Type 0
IsFine line = (cause : Cause) → meaning_of line ≡ bad cause → ⊥

-- no line before an offset is wrong, and the lists of names are what these lines say
pub record AreDecoded (text : List ℕ) (at number : ℕ) (lines : List (List (List ℕ))) : Type 0 where
  pub done : List (List ℕ)
  pub rest : List (List ℕ)
  pub are : AreRest text at rest
  pub whole : lines_of text ≡ done ++ rest
  pub count : length done ≡ number
  pub none : All IsFine done
  pub names : flat_map (λ line. line) lines ≡ flat_map (λ line. line) (map heard_in done)
  pub calls : flat_map calls_of lines ≡ flat_map calls_of (map heard_in done)
  pub upto : number ≤ at
  pub few : length lines ≤ number

pub none_decoded : (text : List ℕ) → AreDecoded text 0 0 []
none_decoded text = record {
  done = [];
  rest = lines_of text;
  are = inl (omega arith, refl);
  whole = refl;
  count = refl;
  none = All-nil IsFine;
  names = refl;
  calls = refl;
  upto = omega arith;
  few = omega arith;
}

-- what one more line says is added
one_more : {X : Type 0} (f : List (List ℕ) → List X) → f [] ≡ [] → (old new : List (List (List ℕ))) (done : List (List ℕ)) (line : List ℕ)
    → flat_map f old ≡ flat_map f (map heard_in done) → IsHeard (meaning_of line) old new
    → flat_map f new ≡ flat_map f (map heard_in (done ++ line ∷ []))
one_more {X} f empty old new done line same added =
    let before = flat_map f (map heard_in done) in
    let after : flat_map f (map heard_in (done ++ line ∷ [])) ≡ before ++ f (heard_in line) =
    ap (flat_map f) (map_push heard_in done line) ∙ flat_map-append f (map heard_in done) (heard_in line ∷ [])
    ∙ ap (λ xs. before ++ xs) (append-nil (f (heard_in line))) in
    with_meaning (meaning_of line) added ∙ sym after
  where
    with_meaning : (meaning : Meaning) → IsHeard meaning old new → flat_map f new ≡ flat_map f (map heard_in done) ++ f (heard meaning)
    with_meaning (says names) is = elim is [
      | inl more ↦
          ap (flat_map f) more ∙ flat_map-append f old (names ∷ [])
          ∙ (λ i. same i ++ append-nil (f names) i)
      | inr nothing ↦
          ap (flat_map f) nothing.1 ∙ same ∙ sym (append-nil (flat_map f (map heard_in done)))
          ∙ ap (λ xs. flat_map f (map heard_in done) ++ xs) (sym empty ∙ ap f (sym nothing.0))
    ]
    with_meaning (bad cause) is = absurd is

fine_of : (meaning : Meaning) (old new : List (List (List ℕ))) → IsHeard meaning old new → (cause : Cause) → meaning ≡ bad cause → ⊥
fine_of (says names) old new is cause e = let none : ⊥ = cc in none
fine_of (bad other) old new is cause e = is

few_more : (meaning : Meaning) (old new : List (List (List ℕ))) → IsHeard meaning old new → length new ≤ length old + 1
few_more (says names) old new is = elim is [
  | inl more ↦ omega (arith, ap length more, length_push old names)
  | inr nothing ↦ omega (arith, ap length nothing.1)
]
few_more (bad cause) old new is = absurd is

pub decoded_more : (text : List ℕ) (at end number : ℕ) (old new : List (List (List ℕ))) (done : AreDecoded text at number old)
    → IsNextRest text at end done.rest → at ≤ end → IsHeard (meaning_of (slice_range text at end)) old new
    → AreDecoded text (end + 1) (number + 1) new
decoded_more text at end number old new decoded next upto added =
    let line = slice_range text at end in
    record {
      done = decoded.done ++ line ∷ [];
      rest = next.next;
      are = next.are;
      whole = decoded.whole ∙ ap (λ ls. decoded.done ++ ls) next.is ∙ sym (append_assoc decoded.done (line ∷ []) next.next);
      count = omega (arith, length_push decoded.done line, decoded.count);
      none = All-push IsFine decoded.done line decoded.none (fine_of (meaning_of line) old new added);
      names = one_more (λ names. names) refl old new decoded.done line decoded.names added;
      calls = one_more calls_of refl old new decoded.done line decoded.calls added;
      upto = omega (arith, decoded.upto, upto);
      few = omega (arith, decoded.few, few_more (meaning_of line) old new added);
    }

-- a wrong line isn't among those before
before_none : (text : List ℕ) (at number : ℕ) (lines : List (List (List ℕ))) (decoded : AreDecoded text at number lines) (k : ℕ) (cause : Cause)
    → k < number → meaning_of (line_at text k) ≡ bad cause → ⊥
before_none text at number lines decoded k cause lt means =
    let within : k < length decoded.done = omega (arith, lt, decoded.count) in
    let read : line_at text k ≡ get_or decoded.done k [] =
    ap (λ ls. get_or ls k []) decoded.whole ∙ get_or_append_left decoded.done decoded.rest [] k within in
    decoded.none k [] within cause (ap meaning_of (sym read) ∙ means)

pub first_found : (text : List ℕ) (at end number : ℕ) (lines : List (List (List ℕ))) (decoded : AreDecoded text at number lines)
    → IsNextRest text at end decoded.rest → (fault : LineFault) → meaning_of (slice_range text at end) ≡ bad fault.cause → fault.line ≡ number + 1
    → IsFirstFault text fault
first_found text at end number lines decoded next fault means line_is =
    let line = slice_range text at end in
    let read : line_at text number ≡ line =
    ap (λ ls. get_or ls number []) (decoded.whole ∙ ap (λ ls. decoded.done ++ ls) next.is)
    ∙ get_or_at decoded.done line next.next [] number decoded.count in
    record {
      is = record { number = number; line_is = line_is; means = ap meaning_of read ∙ means };
      first = λ other is. elim (cases_lt is.number number) [
        | inl earlier ↦ absurd (before_none text at number lines decoded is.number other.cause earlier is.means)
        | inr later ↦ omega (arith, later, line_is, is.line_is)
      ];
    }

pub all_decoded : (text : List ℕ) (at number : ℕ) (lines : List (List (List ℕ))) → AreDecoded text at number lines → length text < at
    → (said_of lines ≡ json_said text) × IsFaultless text × (length lines ≤ length text + 1)
all_decoded text at number lines decoded past =
    let none : decoded.rest ≡ [] = elim decoded.are [
      | inl some ↦ absurd (let upto : at ≤ length text = some.0 in omega (arith, upto, past))
      | inr end ↦ end.1
    ] in
    let end : at ≡ length text + 1 = elim decoded.are [
      | inl some ↦ absurd (let upto : at ≤ length text = some.0 in omega (arith, upto, past))
      | inr e ↦ e.0
    ] in
    let all : decoded.done ≡ lines_of text = sym (decoded.whole ∙ ap (λ ls. decoded.done ++ ls) none ∙ append-nil decoded.done) in
    let names = decoded.names ∙ ap (λ ls. flat_map (λ line. line) (map heard_in ls)) all in
    let calls = decoded.calls ∙ ap (λ ls. flat_map calls_of (map heard_in ls)) all in (
      λ i. record { names = names i; calls = calls i },
      λ fault is. elim (cases_lt is.number number) [
        | inl lt ↦ before_none text at number lines decoded is.number fault.cause lt is.means
        | inr ge ↦
            let empty : line_at text is.number ≡ [] =
            get_or_past (lines_of text) is.number [] (omega (arith, ge, decoded.count, ap length all)) in
            let both : says [] ≡ bad fault.cause = ap meaning_of (sym empty) ∙ is.means in
            let clash : ⊥ = cc in
            clash
      ],
      omega (arith, decoded.few, decoded.upto, end),
    )
