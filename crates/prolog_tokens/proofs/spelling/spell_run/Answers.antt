use Rattle.std.proofs.Common.{refl}
use Rattle.std.proofs.lemmas.Bool.{false≢true}
use Rattle.prolog_tokens.proofs.Spelled.{end_spelled, graphic_spelled}
use Rattle.prolog_tokens.proofs.spelling.spell_run.Goals as goal

pub returns-then-is_end : goal.returns-then-is_end
returns-then-is_end c = end_spelled c.args.text.now c.args.start c.run_end-end.result (c.if-is_end.ensures.0 refl)

pub returns : goal.returns
returns c = graphic_spelled c.args.text.now c.args.start c.run_end-end.result (record {
  run = c.run_end-end.ensures;
  no_comment = c.requires.no_comment;
  no_end = λ end. false≢true (c.if-is_end.ensures.1 end);
  no_hash_bang = c.requires.no_hash_bang;
})
