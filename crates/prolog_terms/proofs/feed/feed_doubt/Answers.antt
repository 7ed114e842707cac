use Rattle.std.proofs.Common.{sym, ◌∙◌, arith}
use Rattle.prolog_ops.specs.Table.{ops_of}
use Rattle.prolog_terms.specs.Words.{table_of}
use Rattle.prolog_terms.specs.ReaderSeen.{infix_held, reduced_seen, atom_operand}
use Rattle.prolog_terms.specs.StackSeen.{see_word, see_stack, see_state}
use Rattle.prolog_terms.proofs.Entries.{ok_then}
use Rattle.prolog_terms.proofs.ReaderRoom.{infix_reduced_room, went_on, stopped, went_within, doubt_calls, doubt_joins}
use Rattle.prolog_terms.proofs.feed.feed_doubt.Goals as goal

pub returns-then-is_opening : goal.returns-then-is_opening
returns-then-is_opening c =
    let names = c.args.names.now in
    ok_then c.call.result _ _ c.call.ensures
    (λ goes step.
    step names
    ∙ doubt_calls (table_of (ops_of c.args.table.now)) (see_stack names c.args.reader.now.state) (see_word names c.args.waited.name) c.args.waited.prefix (see_word names c.args.waited.second) c.args.waited.between
    (see_word names c.args.word) (sym (c.is_opening.ensures names) ∙ c.if-is_opening.true))

pub returns-then-not-branch : goal.returns-then-not-branch
returns-then-not-branch c =
    let names = c.args.names.now in
    let S = see_stack names c.args.reader.now.state in
    let p = see_word names c.args.waited.name in
    let n = see_word names c.args.waited.second in
    let x = see_word names c.args.word in
    stopped (table_of (ops_of c.args.table.now)) c.in_ok-join.field-0 (see_state names c.join.new.state)
    (infix_held (reduced_seen c.args.waited.between.priority S (atom_operand p)) n c.args.waited.between) x c.in_ok-join.ensures c.if-not-branch.true
    ∙ doubt_joins (table_of (ops_of c.args.table.now)) S p c.args.waited.prefix n c.args.waited.between x (sym (c.is_opening.ensures names) ∙ c.if-is_opening.false)

pub enter-requires-clause-room : goal.enter-requires-clause-room
enter-requires-clause-room c =
    let names = c.args.names.now in
    let S = see_stack names c.args.reader.now.state in
    let p = see_word names c.args.waited.name in
    let n = see_word names c.args.waited.second in
    omega (
      arith,
      c.requires.room,
      went_within _ c.in_ok-join.field-0 (see_state names c.join.new.state)
          (infix_held (reduced_seen c.args.waited.between.priority S (atom_operand p)) n c.args.waited.between) c.in_ok-join.ensures c.if-not-branch.false
          (infix_reduced_room S (atom_operand p) n c.args.waited.between),
    )

pub returns : goal.returns
returns c =
    let names = c.args.names.now in
    let S = see_stack names c.args.reader.now.state in
    let p = see_word names c.args.waited.name in
    let n = see_word names c.args.waited.second in
    let x = see_word names c.args.word in
    ok_then c.enter.result _ _ c.enter.ensures
    (λ goes fed.
    fed
    ∙ (went_on (table_of (ops_of c.args.table.now)) c.in_ok-join.field-0 (see_state names c.join.new.state)
    (infix_held (reduced_seen c.args.waited.between.priority S (atom_operand p)) n c.args.waited.between) x c.in_ok-join.ensures c.if-not-branch.false
    ∙ doubt_joins (table_of (ops_of c.args.table.now)) S p c.args.waited.prefix n c.args.waited.between x (sym (c.is_opening.ensures names) ∙ c.if-is_opening.false)))
