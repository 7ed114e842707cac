use Rattle.std.proofs.Common.{◌∷◌, [], sym, subst, ◌∙◌, refl}
use Rattle.std.specs.Prelude.{slice_range}
use Rattle.edge_text.specs.EdgeGraph.{calls_of}
use Rattle.edge_text.specs.Lines.{said_by}
use Rattle.edge_text.specs.Read.{AreAdded, IsNamed}
use Rattle.edge_text.proofs.LineParts.{comment_read, empty_read, line_cut, line_read}
use Rattle.edge_text.proofs.reader.Reader.read_line.Goals as goal

pub returns-then-is_comment-clause-read : goal.returns-then-is_comment-clause-read
returns-then-is_comment-clause-read c small =
    comment_read c.args.line.now c.args.self.now (sym c.is_comment.ensures ∙ c.if-is_comment.true)

pub returns-in_default-clause-read : goal.returns-in_default-clause-read
returns-in_default-clause-read c small =
    empty_read c.args.line.now c.args.self.now (sym c.is_comment.ensures ∙ c.if-is_comment.false) c.in_default.ensures.is

pub returns-clause-read : goal.returns-clause-read
returns-clause-read c small =
    let line = c.args.line.now in
    let old = c.args.self.now in
    let mid = c.node.new.self in
    let word = c.in-Some.first in
    let name = slice_range line word.start word.end in
    let named : IsNamed name mid.names c.in_ok-from.from = subst (λ n. IsNamed n mid.names c.in_ok-from.from) c.word_in.ensures c.in_ok-from.ensures.place in
    let added : AreAdded (name ∷ []) old.names mid.names = subst (λ n. AreAdded (n ∷ []) old.names mid.names) c.word_in.ensures c.in_ok-from.ensures.names in
    line_read line old mid c.read_callees.new.self word c.in_ok-from.from (sym c.is_comment.ensures ∙ c.if-is_comment.false) c.in-Some.ensures named added
    c.in_ok-from.ensures.calls (c.in_ok-read_callees.ensures.names small) (c.in_ok-read_callees.ensures.calls small)

pub returns-then-is_comment-clause-cut : goal.returns-then-is_comment-clause-cut
returns-then-is_comment-clause-cut c = record { more = calls_of (said_by c.args.line.now); is = refl }

pub returns-in_default-clause-cut : goal.returns-in_default-clause-cut
returns-in_default-clause-cut c = record { more = calls_of (said_by c.args.line.now); is = refl }

pub returns-clause-cut : goal.returns-clause-cut
returns-clause-cut c =
    let line = c.args.line.now in
    let mid = c.node.new.self in
    let word = c.in-Some.first in
    let name = slice_range line word.start word.end in
    let named : IsNamed name mid.names c.in_ok-from.from = subst (λ n. IsNamed n mid.names c.in_ok-from.from) c.word_in.ensures c.in_ok-from.ensures.place in
    line_cut line c.args.self.now mid c.read_callees.new.self word c.in_ok-from.from (sym c.is_comment.ensures ∙ c.if-is_comment.false) c.in-Some.ensures
    named c.in_ok-from.ensures.calls c.in_ok-read_callees.ensures.cut
