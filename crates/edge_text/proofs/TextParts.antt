-- A text as it is read, line by line.
use Rattle.std.proofs.Common.{◌≡◌, true, ℕ, ◌+◌, ◌<◌, ◌≤◌, ◌++◌, List, [], ◌∷◌, length, refl, sym, ap, subst, ◌∙◌, inl, inr, arith}
use Rattle.std.specs.Prelude.{slice_range}
use Rattle.std.proofs.lemmas.List.{append-nil, append_assoc, length-append}
use Rattle.list_laws.specs.Counts.{IsLonger}
use Rattle.edge_text.specs.declared.limits.TheConstants.{MOST_EDGES}
use Rattle.edge_text.specs.EdgeGraph.{calls_in, calls_of, calls_said, names_in}
use Rattle.edge_text.specs.Lines.{lines_of, said_by}
use Rattle.edge_text.specs.Read.{AreAdded, IsLineRead, IsTextRead, Read}
use Rattle.edge_text.proofs.Added.{more_added, none_added}
use Rattle.edge_text.proofs.Rests.{AreRest, IsNextRest}

-- all that lines say, in two parts
names_append : (first second : List (List ℕ)) → names_in (first ++ second) ≡ names_in first ++ names_in second
names_append [] second = refl
names_append (line ∷ lines) second =
    ap (λ ns. said_by line ++ ns) (names_append lines second) ∙ sym (append_assoc (said_by line) (names_in lines) (names_in second))

calls_append : (first second : List (List ℕ)) → calls_in (first ++ second) ≡ calls_in first ++ calls_in second
calls_append [] second = refl
calls_append (line ∷ lines) second =
    ap (λ cs. calls_of (said_by line) ++ cs) (calls_append lines second)
    ∙ sym (append_assoc (calls_of (said_by line)) (calls_in lines) (calls_in second))

-- the lines before an offset are read
pub record AreLinesRead (text : List ℕ) (at : ℕ) (now : Read) : Type 0 where
  pub done : List (List ℕ)
  pub rest : List (List ℕ)
  pub are : AreRest text at rest
  pub whole : lines_of text ≡ done ++ rest
  pub names : AreAdded (names_in done) [] now.names
  pub calls : now.calls ≡ calls_in done
  pub few : length now.calls ≤ MOST_EDGES
  pub fewer : length now.names ≤ at

pub no_lines : (text : List ℕ) (now : Read) → now.names ≡ [] → now.calls ≡ [] → AreLinesRead text 0 now
no_lines text now names calls = record {
  done = [];
  rest = lines_of text;
  are = inl (omega arith, refl);
  whole = refl;
  names = subst (λ ns. AreAdded [] [] ns) (sym names) (none_added []);
  calls = calls;
  few = omega (arith, ap length calls);
  fewer = omega (arith, ap length names);
}

-- one more line, perhaps with too many edges
pub record IsOneMore (text : List ℕ) (at : ℕ) (now : Read) : Type 0 where
  pub done : List (List ℕ)
  pub rest : List (List ℕ)
  pub are : AreRest text at rest
  pub whole : lines_of text ≡ done ++ rest
  pub names : AreAdded (names_in done) [] now.names
  pub calls : now.calls ≡ calls_in done

pub one_line : (text : List ℕ) (at end : ℕ) (old new : Read) (read : AreLinesRead text at old) → IsNextRest text at end read.rest
    → IsLineRead (slice_range text at end) old new → IsOneMore text (end + 1) new
one_line text at end old new read next said =
    let line = slice_range text at end in
    let last : names_in (line ∷ []) ≡ said_by line = append-nil (said_by line) in
    let final : calls_in (line ∷ []) ≡ calls_of (said_by line) = append-nil (calls_of (said_by line)) in
    record {
      done = read.done ++ line ∷ [];
      rest = next.next;
      are = next.are;
      whole = read.whole ∙ ap (λ ls. read.done ++ ls) next.is ∙ sym (append_assoc read.done (line ∷ []) next.next);
      names =
          subst (λ ws. AreAdded ws [] new.names) (ap (λ ws. names_in read.done ++ ws) (sym last) ∙ sym (names_append read.done (line ∷ [])))
          (more_added (names_in read.done) (said_by line) [] old.names new.names read.names said.names);
      calls =
          said.calls ∙ (λ i. read.calls i ++ calls_of (said_by line))
          ∙ ap (λ cs. calls_in read.done ++ cs) (sym final) ∙ sym (calls_append read.done (line ∷ []));
    }

-- a line with too many edges
pub too_many : (text : List ℕ) (at end : ℕ) (old new : Read) (read : AreLinesRead text at old) → IsNextRest text at end read.rest
    → IsLonger new.calls (old.calls ++ calls_of (said_by (slice_range text at end))) → MOST_EDGES < length new.calls
    → MOST_EDGES < length (calls_said text)
too_many text at end old new read next cut many =
    let line = slice_range text at end in
    let says = calls_of (said_by line) in
    let all : calls_said text ≡ calls_in read.done ++ (says ++ calls_in next.next) =
    ap calls_in (read.whole ∙ ap (λ ls. read.done ++ ls) next.is) ∙ calls_append read.done (line ∷ next.next) in
    omega (
      arith,
      many,
      ap length cut.is,
      length-append new.calls cut.more,
      length-append old.calls says,
      ap length read.calls,
      ap length all,
      length-append (calls_in read.done) (says ++ calls_in next.next),
      length-append says (calls_in next.next),
    )

pub lines_more : (text : List ℕ) (at : ℕ) (now : Read) → IsOneMore text at now → length now.calls ≤ MOST_EDGES → length now.names ≤ at
    → AreLinesRead text at now
lines_more text at now more few fewer = record {
  done = more.done;
  rest = more.rest;
  are = more.are;
  whole = more.whole;
  names = more.names;
  calls = more.calls;
  few = few;
  fewer = fewer;
}

pub text_read : (text : List ℕ) (at : ℕ) (now : Read) → AreLinesRead text at now → length text < at → IsTextRead text now true
text_read text at now read past =
    let none : read.rest ≡ [] = elim read.are [
      | inl some ↦ absurd (let upto : at ≤ length text = some.0 in omega (arith, upto, past))
      | inr end ↦ end.1
    ] in
    let all : read.done ≡ lines_of text = sym (append-nil read.done) ∙ ap (λ ls. read.done ++ ls) (sym none) ∙ sym read.whole in
    let end : at ≡ length text + 1 = elim read.are [
      | inl some ↦ absurd (let upto : at ≤ length text = some.0 in omega (arith, upto, past))
      | inr e ↦ e.0
    ] in (
      record {
        names = subst (λ ls. AreAdded (names_in ls) [] now.names) all read.names;
        calls = read.calls ∙ ap calls_in all;
        few = read.few;
      },
      omega (arith, read.fewer, end),
    )
