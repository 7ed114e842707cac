use Rattle.std.proofs.Common.{◌≡◌, ◌++◌}
use Rattle.std.specs.String.{string_bytes}
use Rattle.call_writer.specs.Lines.{clause_line}
use Rattle.call_writer.proofs.LineLemmas.{lines_of}
use Rattle.call_writer.proofs.lines.push_clause_lines.Given as goal

-- the lines so far, with those to come
abbrev pub invariant-loop-clause : goal.invariant-loop-clause
invariant-loop-clause l =
    (l.last.program.now ≡ l.program)
    × (string_bytes l.text
    ++ lines_of (λ pair. clause_line l.program pair.0 pair.1) l.clause-iterator.a.rest.now l.clause-iterator.b.rest.now
    ≡ string_bytes l.initial.text ++ lines_of (λ pair. clause_line l.program pair.0 pair.1) l.clauses l.extents)
