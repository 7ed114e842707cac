use Rattle.std.proofs.Common.{◌≡◌, ◌+◌, ◌∷◌, ◌++◌, ◌∙◌, [], ℕ, List, Vec, Global, All, length, sym, ap, subst, arith, length-append}
use Rattle.std.proofs.lemmas.List.{append-nil}
use Rattle.std.proofs.lemmas.List.Elements.{All-nil}
use Rattle.prolog_tokens.specs.declared.token.Token.{Token}
use Rattle.prolog_tokens.specs.Cut.{StandBetween}
use Rattle.prolog_tokens.specs.Rows.{tokens_of}
use Rattle.prolog_tokens.proofs.Pieces.{layout_from}
use Rattle.prolog_tokens.proofs.Lookups.{stand_from}
use Rattle.prolog_names.specs.Names.{known_names}
use Rattle.prolog_names.specs.Numbers.{AreNumbered, IsNumberedRow, token_rows}
use Rattle.prolog_names.specs.Table.{bytes_of}
use Rattle.prolog_names.proofs.RowNumbers.{stand_split, opened_more, rows_numbered, rows_on, rows_joined, count_more}
use Rattle.prolog_names.proofs.numbers.number_rows.Goals as goal

pub count_tokens-requires : goal.count_tokens-requires
count_tokens-requires c =
    omega (arith, ap (λ rows. length (tokens_of rows)) c.deref.ensures.value, c.requires.small, c.cut_fewer.ensures c.args.text.now (tokens_of c.args.rows.items) c.requires.cut)

pub known_table-requires : goal.known_table-requires
known_table-requires c =
    omega (
      arith,
      c.count_tokens.ensures,
      ap (λ rows. length (tokens_of rows)) c.deref.ensures.value,
      c.requires.small,
      c.cut_fewer.ensures c.args.text.now (tokens_of c.args.rows.items) c.requires.cut,
    )

pub loop-tokens-init : goal.loop-tokens-init
loop-tokens-init c =
    let text = c.args.text.now in
    let cut = c.requires.cut in
    let rest = c.into_iter-tokens-iterator.ensures.into_iter_gives.0 in
    let none = c.in_ok-done.ensures.items in
    record {
      rows = ap (λ done. token_rows done ++ c.into_iter-tokens-iterator.result.rest.items) none ∙ rest;
      numbered = subst (All (IsNumberedRow text c.in_ok-table.table)) (sym none) (All-nil (IsNumberedRow text c.in_ok-table.table));
      opened = ([], c.in_ok-table.ensures ∙ sym (append-nil known_names));
      room = omega (arith, ap length c.in_ok-table.ensures);
      stand = (
        0,
        cut.last,
        subst (λ rows. StandBetween text 0 (tokens_of rows) cut.last) (sym rest) cut.stand,
        layout_from text cut.last (length text) cut.layout,
        omega (arith, ap bytes_of c.in_ok-table.ensures),
      );
    }

-- the tokens of the next row stand before those of the others
next_stand : (text : List ℕ) (from to : ℕ) (row : Vec Token Global) (rest left : List (Vec Token Global)) → left ≡ row ∷ rest → StandBetween text from (tokens_of left) to
    → (mid : ℕ) × StandBetween text from row.items mid × StandBetween text mid (tokens_of rest) to
next_stand text from to row rest left is stand = stand_split text from to row.items (tokens_of rest) (subst (λ rows. StandBetween text from (tokens_of rows) to) is stand)

pub number_each-requires-clause-stand : goal.number_each-requires-clause-stand
number_each-requires-clause-stand c =
    let text = c.args.text.now in
    let stand = c.loop-tokens.invariant.stand in
    let parts = next_stand text stand.0 stand.1 c.in-Some.tokens c.next.new.self.rest.items c.loop-tokens.tokens-iterator.rest.items c.in-Some.ensures.steps.0 stand.2 in (
      stand.0,
      parts.0,
      subst (λ ts. StandBetween text stand.0 ts parts.0) (sym c.deref-in-loop-tokens.ensures.value) parts.1,
      omega (arith, stand.3, stand_from text parts.0 stand.1 (tokens_of c.next.new.self.rest.items) parts.2),
      stand.4,
    )

pub number_each-requires-clause-room : goal.number_each-requires-clause-room
number_each-requires-clause-room c =
    let done = c.loop-tokens.done.items in
    let left = c.loop-tokens.tokens-iterator.rest.items in
    let row = c.in-Some.tokens in
    let rest = c.next.new.self.rest.items in
    omega (
      arith,
      c.requires.small,
      c.cut_fewer.ensures c.args.text.now (tokens_of c.args.rows.items) c.requires.cut,
      c.loop-tokens.invariant.room,
      ap length c.deref-in-loop-tokens.ensures.value,
      ap (λ rows. length (tokens_of rows)) c.loop-tokens.invariant.rows,
      ap length (rows_joined (token_rows done) left),
      length-append (tokens_of (token_rows done)) (tokens_of left),
      ap (λ rows. length (tokens_of rows)) c.in-Some.ensures.steps.0,
      length-append row.items (tokens_of rest),
    )

pub loop-tokens-preserved : goal.loop-tokens-preserved
loop-tokens-preserved c =
    let text = c.args.text.now in
    let done = c.loop-tokens.done.items in
    let all = c.push.new.self.items in
    let row = c.in-Some.tokens in
    let rest = c.next.new.self.rest.items in
    let left = c.loop-tokens.tokens-iterator.rest.items in
    let names = c.loop-tokens.table in
    let new = c.number_each.new.table in
    let kept = c.in_ok-numbers.ensures.kept in
    let stand = c.loop-tokens.invariant.stand in
    let tokens = c.deref-in-loop-tokens.ensures.value in
    let parts = next_stand text stand.0 stand.1 row rest left c.in-Some.ensures.steps.0 stand.2 in
    record {
      rows = rows_on done all _ rest c.args.rows.items c.in_ok-push.ensures.items
          (ap (λ rows. token_rows done ++ rows) (sym c.in-Some.ensures.steps.0) ∙ c.loop-tokens.invariant.rows);
      numbered = rows_numbered text names kept.0 new done all _ kept.1 c.in_ok-push.ensures.items c.loop-tokens.invariant.numbered
          (subst (λ ts. AreNumbered text new ts c.in_ok-numbers.numbers.items) tokens c.in_ok-numbers.ensures.numbered);
      opened = opened_more names kept.0 new kept.1 c.loop-tokens.invariant.opened;
      room = omega (arith, c.loop-tokens.invariant.room, ap length kept.1, length-append names kept.0, kept.2, ap length tokens, count_more done all _ c.in_ok-push.ensures.items);
      stand = (
        parts.0,
        stand.1,
        parts.2,
        stand.3,
        c.in_ok-numbers.ensures.few stand.0 parts.0 (subst (λ ts. StandBetween text stand.0 ts parts.0) (sym tokens) parts.1) stand.4,
      );
    }
