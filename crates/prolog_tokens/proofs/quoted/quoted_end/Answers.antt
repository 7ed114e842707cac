use Rattle.std.proofs.Common.{◌+◌, ◌<◌, length, refl, arith}
use Rattle.prolog_tokens.specs.Quoted.{PartsLead, NoPart}
use Rattle.prolog_tokens.proofs.Parts.{ArePlain, lead_none, lead_more, lead_plain, quote_alone, backslash_there}
use Rattle.prolog_tokens.proofs.quoted.quoted_end.Goals as goal

pub loop-end-init : goal.loop-end-init
loop-end-init c =
    let bytes = c.args.bytes.now in
    let are : ArePlain bytes c.args.quote (c.args.start + 1) c.plain_end-at.result =
    record { from = c.plain_end-at.ensures.from; within = c.plain_end-at.ensures.within; no_quote = c.plain_end-at.ensures.no_quote; no_backslash = c.plain_end-at.ensures.no_backslash } in
    record {
      within = are.within;
      lead = lead_plain bytes c.args.quote (c.args.start + 1) (c.args.start + 1) c.plain_end-at.result (lead_none bytes c.args.quote (c.args.start + 1)) are;
    }

pub loop-end-preserved : goal.loop-end-preserved
loop-end-preserved c =
    let bytes = c.args.bytes.now in
    let end = c.in-Some.end in
    let are : ArePlain bytes c.args.quote end c.plain_end-at-in-Some.result =
    record {
      from = c.plain_end-at-in-Some.ensures.from;
      within = c.plain_end-at-in-Some.ensures.within;
      no_quote = c.plain_end-at-in-Some.ensures.no_quote;
      no_backslash = c.plain_end-at-in-Some.ensures.no_backslash;
    } in
    let more : PartsLead bytes c.args.quote (c.args.start + 1) end =
    lead_more bytes c.args.quote (c.args.start + 1) c.loop-end.at c.in-Some.ensures.0 end c.loop-end.invariant.lead c.in-Some.ensures.1 in
    record { within = are.within; lead = lead_plain bytes c.args.quote (c.args.start + 1) end c.plain_end-at-in-Some.result more are }

pub returns-then-bytes-at : goal.returns-then-bytes-at
returns-then-bytes-at c =
    let none : NoPart c.args.bytes.now c.args.quote c.loop-end.at = c.in_default.ensures in
    record {
      opens = c.requires.opens;
      close = c.loop-end.at;
      lead = c.loop-end.invariant.lead;
      closes = c.if-bytes-at.true;
      alone = quote_alone c.args.bytes.now c.args.quote c.loop-end.at c.requires.quote c.if-bytes-at.true none;
      ends = refl;
    }

pub returns : goal.returns
returns c =
    let none : NoPart c.args.bytes.now c.args.quote c.loop-end.at = c.in_default.ensures in
    let lt : c.loop-end.at < length c.args.bytes.now = omega (arith, c.loop-end.invariant.within, c.if-at-bytes.false) in
    record {
      opens = c.requires.opens;
      lead = c.loop-end.invariant.lead;
      backslash = backslash_there c.args.bytes.now c.args.quote c.loop-end.at lt c.if-bytes-at.false none;
      none = none;
    }
