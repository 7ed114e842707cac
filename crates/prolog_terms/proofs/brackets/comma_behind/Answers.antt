use Rattle.std.proofs.Common.{ap, sym, ◌∙◌, arith, ◌+◌, [], ◌∷◌, refl}
use Rattle.prolog_terms.specs.declared.pending.Pending.TheVariants.{Bracket as BracketKept}
use Rattle.prolog_terms.specs.Forest.{last_of, before_last}
use Rattle.prolog_terms.specs.ReaderSeen.{goes_seen, wants, pushed, pending_bracket, next_in, comma_in}
use Rattle.prolog_terms.specs.StackSeen.{innermost, trees_in, see_opened, see_operand, see_entries}
use Rattle.prolog_terms.proofs.Entries.{ok_then, next_is, next_room}
use Rattle.prolog_terms.proofs.brackets.comma_behind.Goals as goal

pub overflow_add-count : goal.overflow_add-count
overflow_add-count c =
    let state = c.args.state.now in
    let is = ap (λ k. record { pending = BracketKept k; reach = c.in-Some.ensures.0; separates = c.in-Some.ensures.1 } ∷ innermost c.pop_bracket.new.self) c.in-Next.is in
    omega (
      arith,
      next_room [] (innermost state.stack) (innermost c.pop_bracket.new.self) c.in-Next.opened c.in-Next.count c.in-Next.depth c.in-Some.ensures.0 c.in-Some.ensures.1 (before_last (trees_in [] state))
          (c.in-Some.ensures.2 ∙ is) (c.requires.room []),
    )

pub returns-in-Next : goal.returns-in-Next
returns-in-Next c =
    let state = c.args.state.now in
    let last = c.args.last in
    let below = innermost c.pop_bracket.new.self in
    let is = c.in-Some.ensures.2 ∙ ap (λ k. record { pending = BracketKept k; reach = c.in-Some.ensures.0; separates = c.in-Some.ensures.1 } ∷ below) c.in-Next.is in
    ok_then c.next_part-in-Next.result _ _ c.next_part-in-Next.ensures
    (λ goes step names.
    step names
    ∙ (next_is (λ S xs. goes_seen (pushed S (pending_bracket (next_in (see_opened names c.in-Next.opened) xs))) wants) names below (trees_in names state) c.in-Next.count (c.in-Next.count + 1)
    c.in-Next.depth c.max.result last refl c.max.ensures
    ∙ sym (ap (λ es. comma_in (see_entries names es (before_last (trees_in names state))) (see_operand (last_of (trees_in names state)) last)) is)))
