use Rattle.std.proofs.Common.{◌≡◌, ◌∙◌, ◌<◌, length, sym, ap, subst, arith}
use Rattle.std.proofs.lemmas.Result.{IfOk-weaker, on_ok_weaker}
use Rattle.prolog_tokens.specs.Quoted.{IsQuoted}
use Rattle.prolog_tokens.specs.Spelling.{Spells}
use Rattle.prolog_tokens.specs.Values.{NameTextBy}
use Rattle.prolog_tokens.proofs.Names.{quoted_text_once}
use Rattle.prolog_tokens.proofs.OneToken.{single_quote}
use Rattle.prolog_names.specs.Names.{name_at}
use Rattle.prolog_names.specs.Numbers.{has_name, IsNumberOf}
use Rattle.prolog_names.proofs.FewBytes.{quoted_few, slice_few}
use Rattle.prolog_names.proofs.GrownTable.{no_more, more_kept, bytes_grown}
use Rattle.prolog_names.proofs.NumberedParts.{number_is, no_number, unnamed_kind}
use Rattle.prolog_names.proofs.numbers.number_of.Goals as goal

pub returns-in-Name-clause-kept : goal.returns-in-Name-clause-kept
returns-in-Name-clause-kept c = on_ok_weaker c.place_of.result (more_kept c.args.table.now c.place_of.new.self c.name_slice.result.now) c.place_of.ensures.names

pub returns-in_ok-name-in-Quoted-clause-kept : goal.returns-in_ok-name-in-Quoted-clause-kept
returns-in_ok-name-in-Quoted-clause-kept c =
    on_ok_weaker c.place_of-in-Quoted.result (more_kept c.args.table.now c.place_of-in-Quoted.new.self c.as_str.result.now) c.place_of-in-Quoted.ensures.names

pub returns-in_ok-name-in-Quoted-clause-number : goal.returns-in_ok-name-in-Quoted-clause-number
returns-in_ok-name-in-Quoted-clause-number c =
    let names = c.place_of-in-Quoted.new.self in
    let text = c.args.text.now in
    IfOk-weaker c.place_of-in-Quoted.result (λ n. (n < length names) × (name_at names n ≡ c.as_str.result.now)) (λ n. IsNumberOf text names c.args.token n)
    (λ n placed.
    number_is text names c.args.token n c.in_ok-name-in-Quoted.name (ap has_name c.in-Quoted.is) placed.0 (placed.1 ∙ c.as_str.ensures)
    c.in_ok-name-in-Quoted.ensures.name c.in_ok-name-in-Quoted.ensures.only)
    c.place_of-in-Quoted.ensures.place

pub returns-in_default : goal.returns-in_default
returns-in_default c = record {
  number =
      no_number c.args.text.now c.args.table.now c.args.token (unnamed_kind c.args.token.kind c.in_default.not-Name c.in_default.not-Quoted) c.requires.some;
  kept = no_more c.args.table.now;
  few = omega arith;
}

pub returns-in-Some-clause-number : goal.returns-in-Some-clause-number
returns-in-Some-clause-number c =
    let names = c.place_of-in-Some.new.self in
    let text = c.args.text.now in
    let from = c.args.token.start in
    let to = c.args.token.end in
    let item : IsQuoted text 39 from to = subst (Spells text from to) c.in-Quoted.is c.requires.spelled.spells in
    IfOk-weaker c.place_of-in-Some.result (λ n. (n < length names) × (name_at names n ≡ c.in-Some.name.now)) (λ n. IsNumberOf text names c.args.token n)
    (λ n placed.
    number_is text names c.args.token n c.in-Some.name.now (ap has_name c.in-Quoted.is) placed.0 placed.1
    (subst (NameTextBy text from to c.in-Some.name.now) (sym c.in-Quoted.is) c.in-Some.ensures)
    (λ other stands.
    quoted_text_once text 39 from to other c.in-Some.name.now single_quote item (subst (NameTextBy text from to other) c.in-Quoted.is stands) c.in-Some.ensures))
    c.place_of-in-Some.ensures.place

pub place_of-requires-in-Some-clause-few : goal.place_of-requires-in-Some-clause-few
place_of-requires-in-Some-clause-few c =
    omega (arith, c.requires.few, quoted_few c.args.text.now 39 c.args.token.start c.args.token.end c.in-Some.name.now c.in-Some.ensures)

pub place_of-requires-in-Quoted-clause-few : goal.place_of-requires-in-Quoted-clause-few
place_of-requires-in-Quoted-clause-few c =
    let text = c.args.text.now in
    let from = c.args.token.start in
    let to = c.args.token.end in
    let name = c.in_ok-name-in-Quoted.name in
    omega (
      arith,
      c.requires.few,
      ap length c.as_str.ensures,
      quoted_few text 39 from to name (subst (NameTextBy text from to name) c.in-Quoted.is c.in_ok-name-in-Quoted.ensures.name),
    )

pub returns-in-Name-clause-few : goal.returns-in-Name-clause-few
returns-in-Name-clause-few c =
    on_ok_weaker c.place_of.result
    (λ names. bytes_grown c.args.table.now c.place_of.new.self c.name_slice.result.now names
    (slice_few c.args.text.now c.args.token.start c.args.token.end c.name_slice.result.now c.name_slice.ensures.slice))
    c.place_of.ensures.names

pub returns-in-Some-clause-few : goal.returns-in-Some-clause-few
returns-in-Some-clause-few c =
    on_ok_weaker c.place_of-in-Some.result
    (λ names. bytes_grown c.args.table.now c.place_of-in-Some.new.self c.in-Some.name.now names
    (quoted_few c.args.text.now 39 c.args.token.start c.args.token.end c.in-Some.name.now c.in-Some.ensures))
    c.place_of-in-Some.ensures.names

pub returns-in_ok-name-in-Quoted-clause-few : goal.returns-in_ok-name-in-Quoted-clause-few
returns-in_ok-name-in-Quoted-clause-few c =
    let text = c.args.text.now in
    let from = c.args.token.start in
    let to = c.args.token.end in
    let name = c.in_ok-name-in-Quoted.name in
    on_ok_weaker c.place_of-in-Quoted.result
    (λ names. bytes_grown c.args.table.now c.place_of-in-Quoted.new.self c.as_str.result.now names
    (omega (
      arith,
      ap length c.as_str.ensures,
      quoted_few text 39 from to name (subst (NameTextBy text from to name) c.in-Quoted.is c.in_ok-name-in-Quoted.ensures.name),
    )))
    c.place_of-in-Quoted.ensures.names
