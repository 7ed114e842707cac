use Rattle.std.proofs.Common.{inl, ◌≡◌, [], get_or, ◌∙◌, ap, sym, subst}
use Rattle.std.specs.Prelude.{Contains}
use Rattle.search_stack.specs.Search.{IsOn, empty_stack, pushed}
use Rattle.search_stack.specs.Stack.{size}
use Rattle.search_stack.proofs.Shapes.{empty_size}
use Rattle.group_release.specs.Book.{BookValue}
use Rattle.search_machine.proofs.Driving.{picked_in}
use Rattle.search_tests.proofs.LedSteps.{none_on, started}
use Rattle.search_tests.proofs.lead.start.Goals as goal

pub push-requires-clause-fresh : goal.push-requires-clause-fresh
push-requires-clause-fresh c = λ on. none_on c.in-Some.root (subst (λ s. IsOn s c.in-Some.root) c.in_ok-search.ensures.empty on)

pub push-requires-clause-led : goal.push-requires-clause-led
push-requires-clause-led c = inl (ap size c.in_ok-search.ensures.empty ∙ empty_size)

pub returns-clause-runs : goal.returns-clause-runs
returns-clause-runs c =
    let lists_are : c.next_root.new.self.lists ≡ c.args.graph.now.lists = ap (λ (book : BookValue). book.lists) c.in-Some.ensures.given ∙ c.requires in
    let root : Contains c.args.book.now.roots c.in-Some.root =
    picked_in c.args.book.now.roots c.args.book.now.given c.in-Some.root (sym c.next_root.ensures.next ∙ c.in-Some.is) in
    started (subst (λ roots. Contains roots c.in-Some.root) (sym (ap (λ (book : BookValue). book.roots) c.in-Some.ensures.given)) root)
    c.if-not-is_free.ensures
    (c.in_ok-push.ensures.pushed
    ∙ ap (λ s. pushed s c.in-Some.root (get_or c.args.graph.now.lists c.in-Some.root [])) c.in_ok-search.ensures.empty
    ∙ ap (λ lists. pushed empty_stack c.in-Some.root (get_or lists c.in-Some.root [])) (sym lists_are))
    c.in_ok-push.ensures.wants_nothing
