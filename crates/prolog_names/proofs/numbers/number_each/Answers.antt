use Rattle.std.proofs.Common.{◌+◌, ◌++◌, ◌∙◌, [], length, get_or, take, false, sym, ap, refl, subst, arith, length-append, append_assoc}
use Rattle.std.proofs.lemmas.List.{append-nil, take_all}
use Rattle.std.proofs.lemmas.Option.{slice_get-get_or}
use Rattle.prolog_tokens.specs.declared.token.Kind.TheVariants.{Name}
use Rattle.prolog_tokens.specs.Cut.{IsTokenOf, IsNext, ended}
use Rattle.prolog_tokens.specs.declared.token.Token.{Token}
use Rattle.prolog_tokens.proofs.Lookups.{stand_next}
use Rattle.prolog_tokens.proofs.Pieces.{layout_from}
use Rattle.prolog_names.specs.Names.{known_names}
use Rattle.prolog_names.specs.Numbers.{AreNumbered}
use Rattle.prolog_names.specs.Table.{bytes_of}
use Rattle.prolog_names.proofs.FewBytes.{few_with}
use Rattle.prolog_names.proofs.NumberedParts.{numbered_more, part_holds}
use Rattle.prolog_names.proofs.RowNumbers.{few_on, stand_ended, opened_more}
use Rattle.prolog_names.proofs.numbers.number_each.Goals as goal

abbrev no_token : Token
no_token = record { kind = Name; after_layout = false; start = 0; end = 0 }

pub loop-at-init : goal.loop-at-init
loop-at-init c = record {
  numbered = subst (AreNumbered c.args.text.now c.args.table.now []) (sym c.in_ok-numbers.ensures.items) (record { as_many = refl; each = λ k token is. (let none : ⊥ = cc in absurd none) });
  opened = c.requires.opened;
  kept = ([], sym (append-nil c.args.table.now), omega arith);
  few = λ from to stand few. few;
}

pub number_near-requires-clause-spelled : goal.number_near-requires-clause-spelled
number_near-requires-clause-spelled c =
    let i = c.loop-at.at in
    let tokens = c.args.tokens.now in
    let stand = c.requires.stand in
    let next : IsNext c.args.text.now (ended stand.0 tokens i) (get_or tokens i no_token) =
    stand_next c.args.text.now stand.0 stand.1 tokens stand.2 i _ (slice_get-get_or tokens i no_token c.loop-at-test.true) in
    next.spelled

pub number_near-requires-clause-room : goal.number_near-requires-clause-room
number_near-requires-clause-room c =
    let kept = c.loop-at.invariant.kept in
    omega (arith, ap length kept.1, length-append c.args.table.now kept.0, kept.2, c.loop-at-test.true, c.requires.room)

pub number_near-requires-clause-few : goal.number_near-requires-clause-few
number_near-requires-clause-few c =
    let text = c.args.text.now in
    let tokens = c.args.tokens.now in
    let i = c.loop-at.at in
    let stand = c.requires.stand in
    let own = get_or tokens i no_token in
    let next : IsNext text (ended stand.0 tokens i) own = stand_next text stand.0 stand.1 tokens stand.2 i own (slice_get-get_or tokens i no_token c.loop-at-test.true) in
    let few = c.loop-at.invariant.few stand.0 stand.1 stand.2 stand.4 in
    omega (
      arith,
      c.requires.small,
      few_with (bytes_of c.loop-at.table) (bytes_of known_names) own.start own.end
          (omega (arith, few, layout_from text (ended stand.0 tokens i) own.start next.layout))
          (c.cut_tokens.ensures.some text own next.spelled) (c.cut_tokens.ensures.within text own next.spelled),
    )

pub loop-at-preserved : goal.loop-at-preserved
loop-at-preserved c =
    let text = c.args.text.now in
    let tokens = c.args.tokens.now in
    let i = c.loop-at.at in
    let names = c.loop-at.table in
    let number = c.in_ok-number.number in
    let kept = c.in_ok-number.ensures.kept in
    let so_far = c.loop-at.invariant.kept in
    let more = kept.0 in
    record {
      numbered =
          subst (AreNumbered text c.number_near.new.table (take (i + 1) tokens)) (sym c.in_ok-push.ensures.items)
          (numbered_more text names more c.number_near.new.table tokens c.loop-at.numbers.items i number _ kept.1 c.loop-at-test.true
          c.loop-at.invariant.numbered c.in_ok-number.ensures.number);
      opened = opened_more names more c.number_near.new.table kept.1 c.loop-at.invariant.opened;
      kept = (
        so_far.0 ++ more,
        kept.1 ∙ (ap (λ ns. ns ++ more) so_far.1 ∙ append_assoc c.args.table.now so_far.0 more),
        omega (arith, so_far.2, kept.2, length-append so_far.0 more),
      );
      few = λ from to stand few.
          few_on text from to tokens i (get_or tokens i no_token) stand (slice_get-get_or tokens i no_token c.loop-at-test.true)
          (bytes_of names) (bytes_of c.number_near.new.table) (bytes_of known_names) (c.loop-at.invariant.few from to stand few) c.in_ok-number.ensures.few;
    }

pub look_ahead-requires : goal.look_ahead-requires
look_ahead-requires c =
    let text = c.args.text.now in
    let tokens = c.args.tokens.now in
    let stand = c.requires.stand in
    part_holds (IsTokenOf text) tokens c.loop-at.at c.min-end.result (omega (arith, c.min-end.ensures))
    (λ k t is. let next : IsNext text (ended stand.0 tokens k) t = stand_next text stand.0 stand.1 tokens stand.2 k t is in next.spelled)

pub returns-clause-numbered : goal.returns-clause-numbered
returns-clause-numbered c =
    subst (λ ts. AreNumbered c.args.text.now c.loop-at.table ts c.loop-at.numbers.items) (take_all c.loop-at.at c.args.tokens.now c.loop-at-test.false) c.loop-at.invariant.numbered

pub returns-clause-kept : goal.returns-clause-kept
returns-clause-kept c = let kept = c.loop-at.invariant.kept in (kept.0, kept.1, omega (arith, kept.2, c.loop-at.auto.at-end))

pub returns-clause-few : goal.returns-clause-few
returns-clause-few c = λ from to stand few.
    omega (arith, c.loop-at.invariant.few from to stand few, stand_ended c.args.text.now from to c.args.tokens.now stand c.loop-at.at c.loop-at-test.false)
