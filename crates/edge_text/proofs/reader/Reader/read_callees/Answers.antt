use Rattle.std.proofs.Common.{◌++◌, ◌∷◌, [], map, ap, subst, ◌∙◌, arith}
use Rattle.std.specs.Prelude.{slice_range}
use Rattle.edge_text.specs.EdgeGraph.{call_of}
use Rattle.byte_names.specs.Names.{name_at}
use Rattle.edge_text.specs.Read.{AreAdded, IsNamed}
use Rattle.edge_text.proofs.Added.{longer_length}
use Rattle.edge_text.proofs.CalleeSteps.{callees_cut, callees_done, no_callees, one_callee}
use Rattle.edge_text.proofs.reader.Reader.read_callees.Goals as goal

pub loop-word-init : goal.loop-word-init
loop-word-init c = no_callees c.args.line.now c.args.start c.args.from c.args.self.now c.requires.start

pub next_word-requires : goal.next_word-requires
next_word-requires c = c.loop-word.invariant.within

pub word_in-requires : goal.word_in-requires
word_in-requires c = record { ordered = omega (arith, c.in-Some.ensures.ordered); within = c.in-Some.ensures.within }

pub node-requires : goal.node-requires
node-requires c =
    omega (
      arith,
      c.loop-word.invariant.few,
      c.in-Some.ensures.after,
      c.in-Some.ensures.ordered,
      c.in-Some.ensures.within,
      c.requires.room,
    )

pub call-requires : goal.call-requires
call-requires c = record {
  from =
      omega (
        arith,
        c.requires.from,
        longer_length c.args.self.now.names c.loop-word.self.names c.loop-word.invariant.names.longer,
        longer_length c.loop-word.self.names c.node.new.self.names c.in_ok-to.ensures.names.longer,
      );
  to = c.in_ok-to.ensures.place.within;
}

pub loop-word-preserved : goal.loop-word-preserved
loop-word-preserved c =
    let line = c.args.line.now in
    let word = c.in-Some.word in
    let name = slice_range line word.start word.end in
    let added : AreAdded (name ∷ []) c.loop-word.self.names c.node.new.self.names =
    subst (λ n. AreAdded (n ∷ []) c.loop-word.self.names c.node.new.self.names) c.word_in.ensures c.in_ok-to.ensures.names in
    let named : IsNamed name c.node.new.self.names c.in_ok-to.to =
    subst (λ n. IsNamed n c.node.new.self.names c.in_ok-to.to) c.word_in.ensures c.in_ok-to.ensures.place in
    one_callee line c.args.start c.args.from c.loop-word.at c.args.self.now c.loop-word.self c.node.new.self c.call.new.self word c.in_ok-to.to
    c.loop-word.invariant c.requires.from c.in-Some.ensures added named c.in_ok-to.ensures.few c.in_ok-to.ensures.calls c.in_ok-call.ensures.names
    c.in_ok-call.ensures.calls

pub returns-then-call_count-gt-MOST_EDGES-clause-names : goal.returns-then-call_count-gt-MOST_EDGES-clause-names
returns-then-call_count-gt-MOST_EDGES-clause-names c small = absurd (omega (arith, small, c.call_count.ensures, c.if-call_count-gt-MOST_EDGES.true))

pub returns-then-call_count-gt-MOST_EDGES-clause-few : goal.returns-then-call_count-gt-MOST_EDGES-clause-few
returns-then-call_count-gt-MOST_EDGES-clause-few c =
    let line = c.args.line.now in
    let word = c.in-Some.word in
    let name = slice_range line word.start word.end in
    let added : AreAdded (name ∷ []) c.loop-word.self.names c.node.new.self.names =
    subst (λ n. AreAdded (n ∷ []) c.loop-word.self.names c.node.new.self.names) c.word_in.ensures c.in_ok-to.ensures.names in
    let named : IsNamed name c.node.new.self.names c.in_ok-to.to =
    subst (λ n. IsNamed n c.node.new.self.names c.in_ok-to.to) c.word_in.ensures c.in_ok-to.ensures.place in
    let read = one_callee line c.args.start c.args.from c.loop-word.at c.args.self.now c.loop-word.self c.node.new.self c.call.new.self word c.in_ok-to.to
    c.loop-word.invariant c.requires.from c.in-Some.ensures added named c.in_ok-to.ensures.few c.in_ok-to.ensures.calls c.in_ok-call.ensures.names
    c.in_ok-call.ensures.calls in
    omega (arith, read.few, c.in-Some.ensures.within)

pub returns-then-call_count-gt-MOST_EDGES-clause-calls : goal.returns-then-call_count-gt-MOST_EDGES-clause-calls
returns-then-call_count-gt-MOST_EDGES-clause-calls c small = absurd (omega (arith, small, c.call_count.ensures, c.if-call_count-gt-MOST_EDGES.true))

pub returns-then-call_count-gt-MOST_EDGES-clause-cut : goal.returns-then-call_count-gt-MOST_EDGES-clause-cut
returns-then-call_count-gt-MOST_EDGES-clause-cut c =
    let line = c.args.line.now in
    let word = c.in-Some.word in
    let name = slice_range line word.start word.end in
    let added : AreAdded (name ∷ []) c.loop-word.self.names c.node.new.self.names =
    subst (λ n. AreAdded (n ∷ []) c.loop-word.self.names c.node.new.self.names) c.word_in.ensures c.in_ok-to.ensures.names in
    let named : IsNamed name c.node.new.self.names c.in_ok-to.to =
    subst (λ n. IsNamed n c.node.new.self.names c.in_ok-to.to) c.word_in.ensures c.in_ok-to.ensures.place in
    callees_cut line c.args.start c.args.from word.end c.args.self.now c.call.new.self
    (one_callee line c.args.start c.args.from c.loop-word.at c.args.self.now c.loop-word.self c.node.new.self c.call.new.self word c.in_ok-to.to
    c.loop-word.invariant c.requires.from c.in-Some.ensures added named c.in_ok-to.ensures.few c.in_ok-to.ensures.calls c.in_ok-call.ensures.names
    c.in_ok-call.ensures.calls)

pub returns-clause-names : goal.returns-clause-names
returns-clause-names c small =
    let line = c.args.line.now in
    let read = c.loop-word.invariant in
    subst (λ ws. AreAdded ws c.args.self.now.names c.loop-word.self.names)
    (callees_done line c.args.start c.args.from c.loop-word.at c.args.self.now c.loop-word.self read c.in_default.ensures.is) read.names

pub returns-clause-few : goal.returns-clause-few
returns-clause-few c = omega (arith, c.loop-word.invariant.few, c.loop-word.invariant.within)

pub returns-clause-calls : goal.returns-clause-calls
returns-clause-calls c small =
    let line = c.args.line.now in
    let read = c.loop-word.invariant in
    let old = c.args.self.now in
    read.calls
    ∙ ap (λ ws. old.calls ++ map (call_of (name_at old.names c.args.from)) ws)
    (callees_done line c.args.start c.args.from c.loop-word.at old c.loop-word.self read c.in_default.ensures.is)

pub returns-clause-cut : goal.returns-clause-cut
returns-clause-cut c =
    callees_cut c.args.line.now c.args.start c.args.from c.loop-word.at c.args.self.now c.loop-word.self c.loop-word.invariant
