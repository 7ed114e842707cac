use Rattle.std.proofs.Common.{ap, sym, ◌∙◌, arith}
use Rattle.std.proofs.lemmas.Option.{slice_get_within}
use Rattle.kept_clauses.specs.Words.{end_in}
use Rattle.kept_clauses.proofs.WordLemmas.{end_at, no_word}
use Rattle.kept_clauses.proofs.kept_clause.KeptGoals.end.Goals as goal

pub loop-word-preserved-in-Call : goal.loop-word-preserved-in-Call
loop-word-preserved-in-Call c =
    sym (end_at c.args.self.now.list.now.0 c.loop-word.at c.in-Some.word _ c.in-Some.ensures.word (sym c.kind_of.ensures ∙ c.in-Call.is)) ∙ c.loop-word.invariant

pub loop-word-preserved : goal.loop-word-preserved
loop-word-preserved c =
    sym (end_at c.args.self.now.list.now.0 c.loop-word.at c.in-Some.word _ c.in-Some.ensures.word (sym c.kind_of.ensures ∙ c.in-Term.is)) ∙ c.loop-word.invariant

pub loop-word-smaller : goal.loop-word-smaller
loop-word-smaller c =
    let within = slice_get_within c.args.self.now.list.now.0 c.loop-word.at c.in-Some.word c.in-Some.ensures.word in
    omega (arith, within)

pub returns-in-End : goal.returns-in-End
returns-in-End c =
    sym (end_at c.args.self.now.list.now.0 c.loop-word.at c.in-Some.word _ c.in-Some.ensures.word (sym c.kind_of.ensures ∙ c.in-End.is)) ∙ c.loop-word.invariant

pub returns-in-Fact : goal.returns-in-Fact
returns-in-Fact c =
    sym (end_at c.args.self.now.list.now.0 c.loop-word.at c.in-Some.word _ c.in-Some.ensures.word (sym c.kind_of.ensures ∙ c.in-Fact.is)) ∙ c.loop-word.invariant

pub returns-in-Rule : goal.returns-in-Rule
returns-in-Rule c =
    sym (end_at c.args.self.now.list.now.0 c.loop-word.at c.in-Some.word _ c.in-Some.ensures.word (sym c.kind_of.ensures ∙ c.in-Rule.is)) ∙ c.loop-word.invariant

pub returns : goal.returns
returns c = sym (ap end_in (no_word c.args.self.now.list.now.0 c.loop-word.at c.in_default.ensures.word)) ∙ c.loop-word.invariant
