use Rattle.std.proofs.Common.{sym, ◌∙◌}
use Rattle.edge_text.proofs.LongNames.{long_first, none_long, none_short, short_more}
use Rattle.edge_text.proofs.fault.long_name.Goals as goal

pub loop-word-init : goal.loop-word-init
loop-word-init c = none_short c.args.line.now

pub returns-then-word-gt-MOST_NAME : goal.returns-then-word-gt-MOST_NAME
returns-then-word-gt-MOST_NAME c =
    long_first c.args.line.now c.loop-word.at c.in-Some.word (sym c.is_comment.ensures ∙ c.if-is_comment.false) c.loop-word.invariant c.in-Some.ensures
    c.if-word-gt-MOST_NAME.true

pub loop-word-preserved : goal.loop-word-preserved
loop-word-preserved c =
    short_more c.args.line.now c.loop-word.at c.in-Some.word c.loop-word.invariant c.in-Some.ensures c.if-word-gt-MOST_NAME.false

pub returns : goal.returns
returns c = none_long c.args.line.now c.loop-word.at c.loop-word.invariant c.in_default.ensures
