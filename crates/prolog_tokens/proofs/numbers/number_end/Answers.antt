use Rattle.std.proofs.Common.{◌+◌, refl}
use Rattle.std.proofs.lemmas.Bool.{false≢true}
use Rattle.prolog_tokens.specs.Numbers.{IsBadCode}
use Rattle.prolog_tokens.proofs.Faults.{bad_code_no_start}
use Rattle.prolog_tokens.proofs.NumberEnds.{AreWhole, code_spelled, zero_spelled, based_spelled, float_spelled, plain_spelled}
use Rattle.prolog_tokens.proofs.numbers.number_end.Goals as goal

pub returns-in-Found : goal.returns-in-Found
returns-in-Found c =
    code_spelled c.args.bytes.now c.args.start c.in-Found.ensures.0 c.in-Found.end c.in-Found.ensures.1 (c.if-is_code_mark.ensures.0 refl) c.in-Found.ensures.2

pub returns-in-Wrong : goal.returns-in-Wrong
returns-in-Wrong c =
    let bad : IsBadCode c.args.bytes.now c.args.start (c.args.start + 2) =
    record { mark = c.if-is_code_mark.ensures.0 refl; place = refl; backslash = c.in-Wrong.ensures.0; none = c.in-Wrong.ensures.1 } in
    (bad, (bad_code_no_start c.args.bytes.now c.args.start (c.args.start + 2) bad).no_token)

pub returns-in-Absent : goal.returns-in-Absent
returns-in-Absent c = zero_spelled c.args.bytes.now c.args.start (c.if-is_code_mark.ensures.0 refl) c.in-Absent.ensures.0 c.in-Absent.ensures.1

pub returns-in-Some : goal.returns-in-Some
returns-in-Some c =
    let based = c.in-Some.ensures.based in
    based_spelled c.args.bytes.now c.args.start based.0 based.1 c.in-Some.end based.2 c.in-Some.ensures.longest

pub returns-in-Some-fraction_end : goal.returns-in-Some-fraction_end
returns-in-Some-fraction_end c =
    let whole : AreWhole c.args.bytes.now c.args.start c.digits_end-dot.result =
    record {
      digit = c.requires.digit;
      digits = record { from = c.digits_end-dot.ensures.from; within = c.digits_end-dot.ensures.within; digits = c.digits_end-dot.ensures.digits; stops = c.digits_end-dot.ensures.stops };
      no_mark = λ mark. false≢true (c.if-is_code_mark.ensures.1 mark);
      no_base = c.in_default.ensures.based;
    } in
    float_spelled c.args.bytes.now c.args.start c.digits_end-dot.result c.in-Some-fraction_end.end whole c.in-Some-fraction_end.ensures.fraction c.in-Some-fraction_end.ensures.longest

pub returns : goal.returns
returns c =
    let whole : AreWhole c.args.bytes.now c.args.start c.digits_end-dot.result =
    record {
      digit = c.requires.digit;
      digits = record { from = c.digits_end-dot.ensures.from; within = c.digits_end-dot.ensures.within; digits = c.digits_end-dot.ensures.digits; stops = c.digits_end-dot.ensures.stops };
      no_mark = λ mark. false≢true (c.if-is_code_mark.ensures.1 mark);
      no_base = c.in_default.ensures.based;
    } in
    plain_spelled c.args.bytes.now c.args.start c.digits_end-dot.result whole c.in_default-fraction_end.ensures.fraction
