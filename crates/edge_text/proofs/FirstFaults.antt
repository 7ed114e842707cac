-- The first fault of a text, line by line.
use Rattle.std.proofs.Common.{◌≡◌, ℕ, ◌+◌, ◌<◌, ◌≤◌, ◌++◌, List, [], ◌∷◌, length, get_or, All, refl, sym, ap, subst, ◌∙◌, inl, inr, arith}
use Rattle.std.specs.Prelude.{slice_range}
use Rattle.std.proofs.lemmas.Bool.{cases_lt, cases_order}
use Rattle.std.proofs.lemmas.List.{append-nil, append_assoc, get_or_append_left, get_or_at, get_or_past, length_push}
use Rattle.std.proofs.lemmas.List.Elements.{All-nil, All-push}
use Rattle.edge_text.specs.declared.fault.Fault.{Fault}
use Rattle.edge_text.specs.Faults.{IsFault, IsFirstFault, IsFirstLong, IsLongName, line_at}
use Rattle.edge_text.specs.Lines.{lines_of}
use Rattle.edge_text.proofs.Rests.{AreRest, IsNextRest}

abbrev pub IsFine : List ℕ → Type 0
IsFine line = (start : ℕ) → IsLongName line start → ⊥

-- no line before an offset has a name that is too long
pub record AreFine (text : List ℕ) (at number : ℕ) : Type 0 where
  pub done : List (List ℕ)
  pub rest : List (List ℕ)
  pub are : AreRest text at rest
  pub whole : lines_of text ≡ done ++ rest
  pub count : length done ≡ number
  pub none : All IsFine done
  pub upto : number ≤ at

pub none_fine : (text : List ℕ) → AreFine text 0 0
none_fine text = record {
  done = [];
  rest = lines_of text;
  are = inl (omega arith, refl);
  whole = refl;
  count = refl;
  none = All-nil IsFine;
  upto = omega arith;
}

pub fine_more : (text : List ℕ) (at end number : ℕ) (fine : AreFine text at number) → IsNextRest text at end fine.rest → at ≤ end
    → IsFine (slice_range text at end) → AreFine text (end + 1) (number + 1)
fine_more text at end number fine next upto line_fine =
    let line = slice_range text at end in
    record {
      done = fine.done ++ line ∷ [];
      rest = next.next;
      are = next.are;
      whole = fine.whole ∙ ap (λ ls. fine.done ++ ls) next.is ∙ sym (append_assoc fine.done (line ∷ []) next.next);
      count = omega (arith, length_push fine.done line, fine.count);
      none = All-push IsFine fine.done line fine.none line_fine;
      upto = omega (arith, fine.upto, upto);
    }

-- a fault isn't in the lines before
before_none : (text : List ℕ) (at number : ℕ) (fine : AreFine text at number) (k start : ℕ) → k < number → IsLongName (line_at text k) start → ⊥
before_none text at number fine k start lt long =
    let within : k < length fine.done = omega (arith, lt, fine.count) in
    let read : line_at text k ≡ get_or fine.done k [] =
    ap (λ ls. get_or ls k []) fine.whole ∙ get_or_append_left fine.done fine.rest [] k within in
    fine.none k [] within start (subst (λ line. IsLongName line start) read long)

pub first_found : (text : List ℕ) (at end number start : ℕ) (fine : AreFine text at number) → IsNextRest text at end fine.rest
    → IsFirstLong (slice_range text at end) start → (fault : Fault) → fault.line ≡ number + 1 → fault.column ≡ start + 1 → IsFirstFault text fault
first_found text at end number start fine next long fault line_is column_is =
    let line = slice_range text at end in
    let read : line_at text number ≡ line =
    ap (λ ls. get_or ls number []) (fine.whole ∙ ap (λ ls. fine.done ++ ls) next.is) ∙ get_or_at fine.done line next.next [] number fine.count in
    record {
      is = record {
        number = number;
        start = start;
        line_is = line_is;
        column_is = column_is;
        long = subst (λ l. IsLongName l start) (sym read) long.is;
      };
      first = λ other is before. elim before [
        | inl earlier ↦
            before_none text at number fine is.number is.start (omega (arith, earlier, line_is, is.line_is)) is.long
        | inr left ↦
            let here : is.number ≡ number = omega (arith, left.0, line_is, is.line_is) in
            let same : IsLongName line is.start = subst (λ l. IsLongName l is.start) (ap (line_at text) here ∙ read) is.long in
            omega (arith, long.first is.start same, left.1, column_is, is.column_is)
      ];
    }

pub no_fault : (text : List ℕ) (at number : ℕ) → AreFine text at number → length text < at → (fault : Fault) → IsFault text fault → ⊥
no_fault text at number fine past fault is =
    let none : fine.rest ≡ [] = elim fine.are [
      | inl some ↦ absurd (let upto : at ≤ length text = some.0 in omega (arith, upto, past))
      | inr end ↦ end.1
    ] in
    let all : lines_of text ≡ fine.done = fine.whole ∙ ap (λ ls. fine.done ++ ls) none ∙ append-nil fine.done in
    elim (cases_lt is.number number) [
      | inl lt ↦ before_none text at number fine is.number is.start lt is.long
      | inr ge ↦
          let empty : line_at text is.number ≡ [] =
          get_or_past (lines_of text) is.number [] (omega (arith, ge, fine.count, ap length all)) in
          let long : IsLongName [] is.start = subst (λ l. IsLongName l is.start) empty is.long in
          omega (arith, long.word.ordered, long.word.within)
    ]

pub one_fault : (text : List ℕ) (fault other : Fault) → IsFirstFault text fault → IsFirstFault text other → fault ≡ other
one_fault text fault other one two =
    let lines : fault.line ≡ other.line = elim (cases_order fault.line other.line) [
      | inl is ↦ is
      | inr apart ↦ elim apart [
        | inl before ↦ absurd (two.first fault one.is (inl before))
        | inr after ↦ absurd (one.first other two.is (inl after))
      ]
    ] in
    let columns : fault.column ≡ other.column = elim (cases_order fault.column other.column) [
      | inl is ↦ is
      | inr apart ↦ elim apart [
        | inl before ↦ absurd (two.first fault one.is (inr (lines, before)))
        | inr after ↦ absurd (one.first other two.is (inr (sym lines, after)))
      ]
    ] in
    λ i. record { line = lines i; column = columns i }
