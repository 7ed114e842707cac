use Rattle.std.proofs.Common.{◌≡◌, ◌≤◌, max, ◌+◌, ◌-◌, ℕ, List, ◌∷◌, length, take, reverse, ap, sym, ◌∙◌, refl, arith}
use Rattle.std.proofs.lemmas.List.{take_all}
use Rattle.std.proofs.lemmas.Bool.{le-ltb, lt-ltb}
use Rattle.prolog_terms.specs.declared.stack.Entry.{Entry}
use Rattle.prolog_terms.specs.declared.pending.Pending.TheVariants as pending
use Rattle.prolog_terms.specs.Forest.{without}
use Rattle.prolog_terms.specs.ReaderSeen.{plus, inner_depth, pending_operator, measure, reduced_measure, is_operator_below}
use Rattle.prolog_terms.specs.StackSeen.{see_pending, see_operator, see_entries, operator_holds}
use Rattle.prolog_terms.proofs.ReaderLoops.{measured_step, measured_stop, not_below}
use Rattle.prolog_terms.proofs.stack.Stack.reduced_measure.Goals as goal

-- so many entries, with the innermost of them
next_of : (items : List Entry) (height : ℕ) (same : List Entry) (e : Entry) → 0 ≤ height → (height ≡ height - 1 + 1) → same ≡ items → reverse (take (height - 1 + 1) same) ≡ e ∷ reverse (take (height - 1) same)
    → reverse (take height items) ≡ e ∷ reverse (take (height - 1) items)
next_of items height same e low more is taken =
    ap (λ n. reverse (take n items)) more ∙ (sym (ap (λ xs. reverse (take (height - 1 + 1) xs)) is) ∙ (taken ∙ ap (λ xs. e ∷ reverse (take (height - 1) xs)) is))

pub loop-height-init : goal.loop-height-init
loop-height-init c =
    let items = c.args.self.now.entries.items in
    let low : length items ≤ c.len-height.result = omega (arith, c.len-height.ensures, c.args.self.now.entries.ok) in (
      omega (arith, c.len-height.ensures, c.args.self.now.entries.ok),
      λ names trees. (trees, ap (λ xs. reduced_measure c.args.priority (see_entries names (reverse xs) trees) 0 1) (take_all c.len-height.result items low)),
    )

pub returns-in_default : goal.returns-in_default
returns-in_default c = λ names trees.
    let items = c.args.self.now.entries.items in
    let height = c.loop-height.height in
    let e = c.entry_at-entry.result in
    let rest = (c.loop-height.invariant.1 names trees).0 in
    let taken = next_of items height c.deref.result.now e (omega arith) (omega (arith, c.loop-height-test.true)) c.deref.ensures.value c.entry_at-entry.ensures in
    c.measure_at.ensures names rest
    ∙ (ap (λ xs. measure (see_entries names (reverse (take height xs)) rest) c.loop-height.above c.loop-height.depth) c.deref-in_default.ensures.value
    ∙ (measured_stop c.args.priority (see_entries names (reverse (take height items)) rest) c.loop-height.above c.loop-height.depth
    (not_below c.args.priority names (reverse (take height items)) (reverse (take (height - 1) items)) e (pending.Bracket c.in_default.field-0) rest taken c.in_default.is refl)
    ∙ (c.loop-height.invariant.1 names trees).1))

pub returns-then-right_bound-priority : goal.returns-then-right_bound-priority
returns-then-right_bound-priority c = λ names trees.
    let items = c.args.self.now.entries.items in
    let height = c.loop-height.height in
    let e = c.entry_at-entry.result in
    let rest = (c.loop-height.invariant.1 names trees).0 in
    let taken = next_of items height c.deref.result.now e (omega arith) (omega (arith, c.loop-height-test.true)) c.deref.ensures.value c.entry_at-entry.ensures in
    c.measure_at-then-right_bound-priority.ensures names rest
    ∙ (ap (λ xs. measure (see_entries names (reverse (take height xs)) rest) c.loop-height.above c.loop-height.depth) c.deref-then-right_bound-priority.ensures.value
    ∙ (measured_stop c.args.priority (see_entries names (reverse (take height items)) rest) c.loop-height.above c.loop-height.depth
    (not_below c.args.priority names (reverse (take height items)) (reverse (take (height - 1) items)) e (pending.Operator c.in-Operator.operator) rest taken c.in-Operator.is
    (le-ltb _ c.args.priority (omega (arith, c.right_bound.ensures names rest, c.if-right_bound-priority.true))))
    ∙ (c.loop-height.invariant.1 names trees).1))

pub loop-height-preserved : goal.loop-height-preserved
loop-height-preserved c =
    let items = c.args.self.now.entries.items in
    let height = c.loop-height.height in
    let e = c.entry_at-entry.result in
    let taken = next_of items height c.deref.result.now e (omega arith) (omega (arith, c.loop-height-test.true)) c.deref.ensures.value c.entry_at-entry.ensures in (
      omega (arith, c.loop-height.invariant.0),
      λ names trees.
          let rest = (c.loop-height.invariant.1 names trees).0 in
          let inner : c.inner_depth.result ≡ inner_depth (pending_operator (see_operator names c.in-Operator.operator rest)) =
          c.inner_depth.ensures names rest ∙ ap (λ q. inner_depth (see_pending names q rest)) c.in-Operator.is in (
            without (operator_holds c.in-Operator.operator) rest,
            measured_step c.args.priority names (reverse (take height items)) (reverse (take (height - 1) items)) e c.in-Operator.operator rest c.loop-height.above c.loop-height.depth
                c.priority_of-above.result c.saturating_add-depth.result taken c.in-Operator.is
                (lt-ltb _ c.args.priority (omega (arith, c.right_bound.ensures names rest, c.if-right_bound-priority.false)))
                (c.priority_of-above.ensures names rest)
                (c.saturating_add-depth.ensures ∙ ap (λ d. plus d 1) (c.max.ensures ∙ ap (λ d. max d c.loop-height.depth) inner))
                ∙ (c.loop-height.invariant.1 names trees).1,
          ),
    )

pub returns : goal.returns
returns c = λ names trees.
    let items = c.args.self.now.entries.items in
    let height = c.loop-height.height in
    let rest = (c.loop-height.invariant.1 names trees).0 in
    let none : height ≡ 0 = omega (arith, c.loop-height-test.false) in
    c.measure_at-2.ensures names rest
    ∙ (ap (λ xs. measure (see_entries names (reverse (take height xs)) rest) c.loop-height.above c.loop-height.depth) c.deref-2.ensures.value
    ∙ (measured_stop c.args.priority (see_entries names (reverse (take height items)) rest) c.loop-height.above c.loop-height.depth
    (ap (λ n. is_operator_below c.args.priority (see_entries names (reverse (take n items)) rest)) none)
    ∙ (c.loop-height.invariant.1 names trees).1))
