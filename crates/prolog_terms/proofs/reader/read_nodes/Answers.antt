use Rattle.std.proofs.Common.{false, get_or, take, sym, ◌∙◌, subst, arith}
use Rattle.std.proofs.lemmas.List.{length-take-le}
use Rattle.std.proofs.lemmas.Option.{slice_get-get_or}
use Rattle.prolog_ops.specs.Table.{ops_of}
use Rattle.prolog_tokens.specs.declared.token.Token.{Token}
use Rattle.prolog_tokens.specs.declared.token.Kind.TheVariants.{Name}
use Rattle.prolog_terms.specs.Words.{table_of}
use Rattle.prolog_terms.specs.Terms.{root_tree}
use Rattle.prolog_terms.specs.StackSeen.{innermost, trees_in, see_word, see_reader}
use Rattle.prolog_terms.proofs.Entries.{some_of, none_of}
use Rattle.prolog_terms.proofs.PartsMade.{part_spelled, part_few}
use Rattle.prolog_terms.proofs.ReaderFinished.{finished_with}
use Rattle.prolog_terms.proofs.ReaderTables.{table_is}
use Rattle.prolog_terms.proofs.ReadClause.{HasRead, read_nothing, read_more, front_is, stuck, deep, finished_read, unfinished_read}
use Rattle.prolog_terms.proofs.reader.read_nodes.Goals as goal

-- what stands for a token past the end of a list
abbrev blank : Token
blank = record { kind = Name; start = 0; end = 0; after_layout = false }

pub loop-at-init : goal.loop-at-init
loop-at-init c = read_nothing (table_of (ops_of c.args.table.now)) c.args.text.now (see_reader c.args.names.now c.begin.new.self) (c.begin.ensures c.args.names.now)

pub word_of-word-requires-clause-spelled : goal.word_of-word-requires-clause-spelled
word_of-word-requires-clause-spelled c =
    (part_spelled c.args.text.now c.args.tokens.now c.requires.part c.loop-at.at (get_or c.args.tokens.now c.loop-at.at blank)
    (slice_get-get_or c.args.tokens.now c.loop-at.at blank c.loop-at-test.true)).spelled

pub word_of-word-requires-clause-numbered : goal.word_of-word-requires-clause-numbered
word_of-word-requires-clause-numbered c =
    c.requires.numbered.each c.loop-at.at (get_or c.args.tokens.now c.loop-at.at blank) (slice_get-get_or c.args.tokens.now c.loop-at.at blank c.loop-at-test.true)

pub feed-requires-clause-room : goal.feed-requires-clause-room
feed-requires-clause-room c =
    let tokens = c.args.tokens.now in
    omega (arith, c.requires.small, c.loop-at.invariant.few, length-take-le c.loop-at.at tokens (omega (arith, c.loop-at-test.true)), part_few c.args.text.now tokens c.requires.part, c.loop-at-test.true)

pub loop-at-preserved : goal.loop-at-preserved
loop-at-preserved c =
    let i = c.loop-at.at in
    let t = get_or c.args.tokens.now i blank in
    let T = table_of (ops_of c.args.table.now) in
    let names = c.args.names.now in
    let later = see_reader names c.feed.new.reader in
    let stands = slice_get-get_or c.args.tokens.now i blank c.loop-at-test.true in
    subst (λ ts. HasRead T c.args.text.now ts later) (sym (front_is T (table_is (ops_of c.args.table.now) c.table_law.ensures) c.args.text.now c.args.tokens.now i t stands))
    (read_more T (table_is (ops_of c.args.table.now) c.table_law.ensures) c.args.text.now (take i c.args.tokens.now) t (see_reader names c.loop-at.reader) later (see_word names c.word_of-word.result)
    c.loop-at.invariant (record { is = c.word_of-word.ensures.is; only = c.word_of-word.ensures.only })
    (some_of c.in_ok-feed.field-0 later _ c.in_ok-feed.ensures c.if-not-branch.false)
    (omega (arith, c.waiting_floor.ensures names, c.if-waiting_floor-gt-DEEPEST.false)))

pub returns-then-not-branch-clause-fault : goal.returns-then-not-branch-clause-fault
returns-then-not-branch-clause-fault c = λ some.
    stuck (table_of (ops_of c.args.table.now)) (table_is (ops_of c.args.table.now) c.table_law.ensures) c.args.text.now c.args.tokens.now c.loop-at.at
    (get_or c.args.tokens.now c.loop-at.at blank) (see_reader c.args.names.now c.loop-at.reader) (see_word c.args.names.now c.word_of-word.result)
    (part_spelled c.args.text.now c.args.tokens.now c.requires.part)
    (slice_get-get_or c.args.tokens.now c.loop-at.at blank c.loop-at-test.true) c.loop-at.invariant
    (record { is = c.word_of-word.ensures.is; only = c.word_of-word.ensures.only })
    (none_of c.in_ok-feed.field-0 (see_reader c.args.names.now c.feed.new.reader) _ c.in_ok-feed.ensures c.if-not-branch.true)

pub returns-then-waiting_floor-gt-DEEPEST-clause-fault : goal.returns-then-waiting_floor-gt-DEEPEST-clause-fault
returns-then-waiting_floor-gt-DEEPEST-clause-fault c = λ some.
    deep (table_of (ops_of c.args.table.now)) (table_is (ops_of c.args.table.now) c.table_law.ensures) c.args.text.now c.args.tokens.now c.loop-at.at
    (get_or c.args.tokens.now c.loop-at.at blank) (see_reader c.args.names.now c.loop-at.reader) (see_reader c.args.names.now c.feed.new.reader) (see_word c.args.names.now c.word_of-word.result)
    (part_spelled c.args.text.now c.args.tokens.now c.requires.part)
    (slice_get-get_or c.args.tokens.now c.loop-at.at blank c.loop-at-test.true) c.loop-at.invariant
    (record { is = c.word_of-word.ensures.is; only = c.word_of-word.ensures.only })
    (some_of c.in_ok-feed.field-0 (see_reader c.args.names.now c.feed.new.reader) _ c.in_ok-feed.ensures c.if-not-branch.false)
    (omega (arith, c.waiting_floor.ensures c.args.names.now, c.if-waiting_floor-gt-DEEPEST.true))

pub returns-then-not-is_finished-clause-fault : goal.returns-then-not-is_finished-clause-fault
returns-then-not-is_finished-clause-fault c = λ some.
    unfinished_read (table_of (ops_of c.args.table.now)) (table_is (ops_of c.args.table.now) c.table_law.ensures) c.args.text.now c.args.tokens.now c.loop-at.at
    (see_reader c.args.names.now c.loop-at.reader) c.no_end.result c.loop-at-test.false c.loop-at.invariant
    (sym (c.is_finished.ensures c.args.names.now) ∙ c.if-not-is_finished.true) c.no_end.ensures

pub returns-clause-ok : goal.returns-clause-ok
returns-clause-ok c =
    let reader = c.loop-at.reader in
    let names = c.args.names.now in
    let done = finished_with names (innermost reader.state.stack) (trees_in names reader.state) reader.state.mode reader.state.operand reader.waiting reader.waited (sym (c.is_finished.ensures names) ∙ c.if-not-is_finished.false) in
    finished_read (table_of (ops_of c.args.table.now)) (table_is (ops_of c.args.table.now) c.table_law.ensures) c.args.text.now c.args.tokens.now c.loop-at.at
    (see_reader names reader) done.stack done.operand (root_tree names reader.state.nodes) c.loop-at-test.false c.loop-at.invariant done.is
    done.tree_is
