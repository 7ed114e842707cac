use Rattle.std.proofs.Common.{◌||◌, not, nat_eq, sym, ◌∙◌, subst}
use Rattle.prolog_names.specs.Names.{name_at}
use Rattle.prolog_terms.specs.Terms.{tree_of}
use Rattle.kept_clauses.specs.Plain.{body_goals}
use Rattle.kept_clauses.specs.Views.{see_call}
use Rattle.kept_clauses.specs.declared.words.Kind.TheVariants.{Call}
use Rattle.kept_clauses.specs.Words.{is_reserved, AddsGoals}
use Rattle.kept_clauses.proofs.WordLemmas.{no_goals, goals_then, call_goal, kind_call, sound_by, on_ok}
use Rattle.kept_clauses.proofs.kept_list.KeptList.+push_goals.Goals as goal

pub returns-in-Nothing : goal.returns-in-Nothing
returns-in-Nothing t c =
    let names = c.args.body.now.names.now in
    subst (AddsGoals names c.args.self.now c.args.self.now) (sym c.in-Nothing.ensures.goals) (no_goals names c.args.self.now)

pub push_word-requires : goal.push_word-requires
push_word-requires t c =
    let word = c.named_word.result in
    sound_by word Call (kind_call word c.named_word.ensures.bits)
    ((λ i. nat_eq (c.named_word.ensures.arity i) 0 || not (is_reserved (c.named_word.ensures.number i))) ∙ c.in-Call.ensures.goals.1.free)

pub returns-in-Call : goal.returns-in-Call
returns-in-Call t c =
    let names = c.args.body.now.names.now in
    let word = c.named_word.result in
    let one = c.in-Call.call in
    on_ok c.push_word.result c.push_word.ensures
    (λ pushed.
    subst (AddsGoals names c.args.self.now c.push_word.new.self) (sym c.in-Call.ensures.goals.0)
    (call_goal names c.args.self.now c.push_word.new.self word (see_call names one) pushed (kind_call word c.named_word.ensures.bits)
    (λ i. record { at = c.named_word.ensures.at i; name = name_at names (c.named_word.ensures.number i); arity = c.named_word.ensures.arity i })))

pub returns-in_ok-push_goals-in-OfBoth : goal.returns-in_ok-push_goals-in-OfBoth
returns-in_ok-push_goals-in-OfBoth t c =
    let names = c.args.body.now.names.now in
    let v = c.in-OfBoth in
    let old = c.args.self.now in
    let mid = c.push_goals-in-OfBoth.new.self in
    let new = c.push_goals-in-OfBoth-2.new.self in
    let first = subst (λ ns. AddsGoals ns old mid (body_goals (tree_of v.left))) v.ensures.names.0 c.in_ok-push_goals-in-OfBoth.ensures in
    on_ok c.push_goals-in-OfBoth-2.result c.push_goals-in-OfBoth-2.ensures
    (λ adds.
    subst (AddsGoals names old new) (sym v.ensures.goals)
    (goals_then names old mid new (body_goals (tree_of v.left)) (body_goals (tree_of v.right)) first
    (subst (λ ns. AddsGoals ns mid new (body_goals (tree_of v.right))) v.ensures.names.1 adds)))
