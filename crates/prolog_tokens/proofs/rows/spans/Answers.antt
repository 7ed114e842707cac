use Rattle.std.proofs.Common.{inl, inr, refl, sym, subst, rules, arith}
use Rattle.std.proofs.lemmas.List.Elements.{All-push}
use Rattle.prolog_tokens.specs.Rows.{IsSpan, BeginsWithNewline, HasBytes, StandSideBySide}
use Rattle.prolog_tokens.specs.declared.rows.TheConstants.{SPAN_BYTES}
use Rattle.prolog_tokens.proofs.RowLemmas.{one_more_span}
use Rattle.prolog_tokens.proofs.Classes.{begins_first}
use Rattle.prolog_tokens.proofs.rows.spans.Goals as goal

pub loop-from-init : goal.loop-from-init
loop-from-init c = record {
  spans = search rules;
  whole = subst (λ ss. StandSideBySide 0 ss 0) (sym c.new-spans.ensures.items) refl;
  within = omega arith;
  begins = record { within = omega arith; begins = begins_first c.args.text.now c.utf8.text };
  newlines = search rules;
  long = search rules;
  stops = inl refl;
}

pub loop-from-preserved : goal.loop-from-preserved
loop-from-preserved c = record {
  spans = rw (c.in_ok-push.ensures.items) (All-push (IsSpan c.args.text.now) c.loop-from.spans.items _ c.loop-from.invariant.spans c.loop-from.invariant.begins);
  whole = subst (λ ss. StandSideBySide 0 ss c.span_end-to.result) (sym c.in_ok-push.ensures.items)
      (one_more_span 0 c.loop-from.from c.loop-from.spans.items _ c.loop-from.invariant.whole refl c.span_end-to.ensures.some);
  within = c.span_end-to.ensures.begins.within;
  begins = c.span_end-to.ensures.begins;
  newlines = rw (c.in_ok-push.ensures.items) (All-push (BeginsWithNewline c.args.text.now) c.loop-from.spans.items _ c.loop-from.invariant.newlines
      (elim c.loop-from.invariant.stops [
        | inl first ↦ inl first
        | inr later ↦ elim later [ inl ended ↦ absurd (omega (arith, ended, c.loop-from-test.true)) | inr newline ↦ inr newline ]
      ]));
  long = rw (c.in_ok-push.ensures.items) (All-push (HasBytes SPAN_BYTES c.args.text.now) c.loop-from.spans.items _ c.loop-from.invariant.long c.span_end-to.ensures.long);
  stops = inr c.span_end-to.ensures.newline;
}

pub returns-clause-whole : goal.returns-clause-whole
returns-clause-whole c = subst (StandSideBySide 0 c.loop-from.spans.items) (omega (arith, c.loop-from-test.false, c.loop-from.invariant.within)) c.loop-from.invariant.whole
