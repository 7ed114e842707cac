use Rattle.std.proofs.Common.{◌≡◌, refl, sym}
use Rattle.std.specs.Result.{MatchResult}
use Rattle.prolog_tokens.specs.declared.chars.Class.TheVariants.{Solo, RoundOpen, RoundClose, SquareOpen, SquareClose, CurlyOpen, CurlyClose, CommaSign, BarSign}
use Rattle.prolog_tokens.specs.declared.token.Kind.TheVariants.{Name, Quoted, Str, BackStr, OpenRound, CloseRound, OpenSquare, CloseSquare, OpenCurly, CloseCurly, Comma, Bar}
use Rattle.prolog_tokens.specs.Quoted.{IsQuoted}
use Rattle.prolog_tokens.specs.Faults.{IsWrong}
use Rattle.prolog_tokens.proofs.Spelled.{single_here, double_here, back_here, digit_there, name_spelled, variable_spelled, quoted_spelled, string_spelled, back_spelled, one_spelled, item_spelled}
use Rattle.prolog_tokens.proofs.spelling.spell.Goals as goal

pub spell_number-requires-clause-digit : goal.spell_number-requires-clause-digit
spell_number-requires-clause-digit c = rw c.as_bytes-bytes.ensures.value (digit_there c.args.text.now c.args.start (sym c.in-Digit.ensures))

pub spell_quoted-requires-clause-opens : goal.spell_quoted-requires-clause-opens
spell_quoted-requires-clause-opens c = rw c.as_bytes-bytes.ensures.value (single_here c.args.text.now c.args.start (sym c.in-SingleQuote.ensures))

pub spell_quoted-requires-in-DoubleQuote-clause-opens : goal.spell_quoted-requires-in-DoubleQuote-clause-opens
spell_quoted-requires-in-DoubleQuote-clause-opens c = rw c.as_bytes-bytes.ensures.value (double_here c.args.text.now c.args.start (sym c.in-DoubleQuote.ensures))

pub spell_quoted-requires-in-BackQuote-clause-opens : goal.spell_quoted-requires-in-BackQuote-clause-opens
spell_quoted-requires-in-BackQuote-clause-opens c = rw c.as_bytes-bytes.ensures.value (back_here c.args.text.now c.args.start (sym c.in-BackQuote.ensures))

pub returns-in-Small : goal.returns-in-Small
returns-in-Small c = name_spelled c.args.text.now c.args.start c.word_end.result (sym c.in-Small.ensures)
    (record { from = c.word_end.ensures.from; within = c.word_end.ensures.within; goes_on = c.word_end.ensures.goes_on; stops = c.word_end.ensures.stops })

pub returns-in-Capital : goal.returns-in-Capital
returns-in-Capital c = variable_spelled c.args.text.now c.args.start c.word_end-in-Capital.result (sym c.in-Capital.ensures)
    (record {
      from = c.word_end-in-Capital.ensures.from;
      within = c.word_end-in-Capital.ensures.within;
      goes_on = c.word_end-in-Capital.ensures.goes_on;
      stops = c.word_end-in-Capital.ensures.stops;
    })

pub returns-in-SingleQuote : goal.returns-in-SingleQuote
returns-in-SingleQuote c =
    let text = c.args.text.now in
    let found : MatchResult c.spell_quoted.result (λ s. (s.kind ≡ Quoted) × IsQuoted text 39 c.args.start s.end) (λ fault. IsWrong text c.args.start fault) =
    rw c.as_bytes-bytes.ensures.value at c.spell_quoted.ensures in
    item_spelled text 39 c.args.start Quoted c.spell_quoted.result (λ b x. quoted_spelled text c.args.start b (sym c.in-SingleQuote.ensures) x) found

pub returns-in-DoubleQuote : goal.returns-in-DoubleQuote
returns-in-DoubleQuote c =
    let text = c.args.text.now in
    let found : MatchResult c.spell_quoted-in-DoubleQuote.result (λ s. (s.kind ≡ Str) × IsQuoted text 34 c.args.start s.end) (λ fault. IsWrong text c.args.start fault) =
    rw c.as_bytes-bytes.ensures.value at c.spell_quoted-in-DoubleQuote.ensures in
    item_spelled text 34 c.args.start Str c.spell_quoted-in-DoubleQuote.result (λ b x. string_spelled text c.args.start b (sym c.in-DoubleQuote.ensures) x) found

pub returns-in-BackQuote : goal.returns-in-BackQuote
returns-in-BackQuote c =
    let text = c.args.text.now in
    let found : MatchResult c.spell_quoted-in-BackQuote.result (λ s. (s.kind ≡ BackStr) × IsQuoted text 96 c.args.start s.end) (λ fault. IsWrong text c.args.start fault) =
    rw c.as_bytes-bytes.ensures.value at c.spell_quoted-in-BackQuote.ensures in
    item_spelled text 96 c.args.start BackStr c.spell_quoted-in-BackQuote.result (λ b x. back_spelled text c.args.start b (sym c.in-BackQuote.ensures) x) found

pub returns-in-Solo : goal.returns-in-Solo
returns-in-Solo c = one_spelled c.args.text.now c.args.start Name Solo c.spell_one.result refl c.in-Solo.ensures c.spell_one.ensures

pub returns-in-RoundOpen : goal.returns-in-RoundOpen
returns-in-RoundOpen c = one_spelled c.args.text.now c.args.start OpenRound RoundOpen c.spell_one-in-RoundOpen.result refl c.in-RoundOpen.ensures c.spell_one-in-RoundOpen.ensures

pub returns-in-RoundClose : goal.returns-in-RoundClose
returns-in-RoundClose c = one_spelled c.args.text.now c.args.start CloseRound RoundClose c.spell_one-in-RoundClose.result refl c.in-RoundClose.ensures c.spell_one-in-RoundClose.ensures

pub returns-in-SquareOpen : goal.returns-in-SquareOpen
returns-in-SquareOpen c = one_spelled c.args.text.now c.args.start OpenSquare SquareOpen c.spell_one-in-SquareOpen.result refl c.in-SquareOpen.ensures c.spell_one-in-SquareOpen.ensures

pub returns-in-SquareClose : goal.returns-in-SquareClose
returns-in-SquareClose c = one_spelled c.args.text.now c.args.start CloseSquare SquareClose c.spell_one-in-SquareClose.result refl c.in-SquareClose.ensures c.spell_one-in-SquareClose.ensures

pub returns-in-CurlyOpen : goal.returns-in-CurlyOpen
returns-in-CurlyOpen c = one_spelled c.args.text.now c.args.start OpenCurly CurlyOpen c.spell_one-in-CurlyOpen.result refl c.in-CurlyOpen.ensures c.spell_one-in-CurlyOpen.ensures

pub returns-in-CurlyClose : goal.returns-in-CurlyClose
returns-in-CurlyClose c = one_spelled c.args.text.now c.args.start CloseCurly CurlyClose c.spell_one-in-CurlyClose.result refl c.in-CurlyClose.ensures c.spell_one-in-CurlyClose.ensures

pub returns-in-CommaSign : goal.returns-in-CommaSign
returns-in-CommaSign c = one_spelled c.args.text.now c.args.start Comma CommaSign c.spell_one-in-CommaSign.result refl c.in-CommaSign.ensures c.spell_one-in-CommaSign.ensures

pub returns-in-BarSign : goal.returns-in-BarSign
returns-in-BarSign c = one_spelled c.args.text.now c.args.start Bar BarSign c.spell_one-in-BarSign.result refl c.in-BarSign.ensures c.spell_one-in-BarSign.ensures
