use Rattle.std.proofs.Common.{◌≡◌, ◌<◌, true, false, sym, ap, ◌∙◌, inl, inr, arith}
use Rattle.std.specs.Prelude.{slice_index}
use Rattle.std.proofs.lemmas.Bool.{cases_lt}
use Rattle.edge_text.specs.Lines.{is_separator}
use Rattle.edge_text.proofs.WordParts.{no_word, word_found}
use Rattle.edge_text.proofs.words.next_word.Goals as goal

pub returns-then-start-line : goal.returns-then-start-line
returns-then-start-line c =
    let first = c.word_start-start.ensures in
    record {
      skipped = λ k from lt. first.skipped k from (omega (arith, lt, c.if-start-line.true));
      is = no_word c.args.line.now c.args.from c.word_start-start.result first.from first.within c.if-start-line.true first.skipped;
    }

pub returns : goal.returns
returns c =
    let line = c.args.line.now in
    let start = c.word_start-start.result in
    let end = c.word_end-end.result in
    let first = c.word_start-start.ensures in
    let last = c.word_end-end.ensures in
    let ordered : start < end = elim (cases_lt start end) [
      | inl lt ↦ lt
      | inr ge ↦
          let same : end ≡ start = omega (arith, ge, last.from) in
          let clash : true ≡ false =
          sym (last.end (omega (arith, same, c.if-start-line.false))) ∙ ap (λ k. is_separator (slice_index line k)) same
          ∙ first.start c.if-start-line.false in
          cc
    ] in
    record {
      after = first.from;
      ordered = ordered;
      within = last.within;
      skipped = first.skipped;
      inside = last.inside;
      closes = last.end;
      is = word_found line c.args.from start end first.from ordered last.within first.skipped last.inside last.end;
    }
