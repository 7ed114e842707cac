use Rattle.prolog_tokens.proofs.Names.{token_from, token_until}
use Rattle.prolog_tokens.proofs.values.name_slice.Goals as goal

pub range-requires-clause-start_boundary : goal.range-requires-clause-start_boundary
range-requires-clause-start_boundary c = λ _. token_from c.args.text.now c.args.token.start c.args.token.end c.args.token.kind c.requires.spelled.spells

pub range-requires-clause-end_boundary : goal.range-requires-clause-end_boundary
range-requires-clause-end_boundary c = token_until c.args.text.now c.args.token.start c.args.token.end c.args.token.kind c.utf8.text c.requires.spelled.spells
