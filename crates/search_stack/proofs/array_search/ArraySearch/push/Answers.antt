use Rattle.std.proofs.Common.{◌≡◌, ◌∙◌, ◌++◌, ◌∷◌, [], length, refl, ap, sym, subst, arith}
use Rattle.std.specs.Prelude.{false}
use Rattle.search_stack.specs.GoodSearch.{IsGood}
use Rattle.search_stack.proofs.ArraySteps.{arrayed, pushed_arrays, room_for_one, led_frame}
use Rattle.search_stack.proofs.Push.{good_push}
use Rattle.search_stack.proofs.Shapes.{no_entries}
use Rattle.search_stack.proofs.ArrayPlaces.{met_push}
use Rattle.search_stack.proofs.Steps.{pushes}
use Rattle.search_stack.proofs.array_search.ArraySearch.push.Goals as goal

pub overflow_cast-position : goal.overflow_cast-position
overflow_cast-position c =
    let below = rw (← c.self.view_is) at c.requires.below in
    let unmet = rw (← c.self.view_is) at c.requires.unmet in
    let at : c.len-position.result ≡ length c.self.inside.nodes.items =
    omega (arith, c.len-position.ensures, c.in_ok-reserve.ensures.len, c.self.inside.nodes.ok.0) in
    omega (arith, room_for_one c.self.invariant below unmet at)

pub overflow_add-position : goal.overflow_add-position
overflow_add-position c =
    let below = rw (← c.self.view_is) at c.requires.below in
    let unmet = rw (← c.self.view_is) at c.requires.unmet in
    let at : c.len-position.result ≡ length c.self.inside.nodes.items =
    omega (arith, c.len-position.ensures, c.in_ok-reserve.ensures.len, c.self.inside.nodes.ok.0) in
    omega (arith, room_for_one c.self.invariant below unmet at)

pub invariant_of-self-2 : goal.invariant_of-self-2
invariant_of-self-2 c =
    let below = rw (← c.self.view_is) at c.requires.below in
    let unmet = rw (← c.self.view_is) at c.requires.unmet in
    let led = rw (← c.self.view_is) at c.requires.led in
    let at : c.len-position.result ≡ length c.self.inside.nodes.items =
    omega (arith, c.len-position.ensures, c.in_ok-reserve.ensures.len, c.self.inside.nodes.ok.0) in
    let start : c.len-start.result ≡ length c.self.inside.succs.items = omega (arith, c.len-start.ensures, c.self.inside.succs.ok.0) in
    let nodes = (rw c.unwrap.ensures at c.push.ensures.items) ∙ ap (λ xs. xs ++ (record { start = c.len-start.result; count = length c.args.list.now; begun = 0; node = c.args.node }) ∷ []) c.in_ok-reserve.ensures.items in
    let frames = (rw c.unwrap-2.ensures at c.push-2.ensures.items) ∙ ap (λ xs. xs ++ (record { position = c.len-position.result; low = c.len-position.result }) ∷ []) c.in_ok-reserve-2.ensures.items in
    let is = pushed_arrays c.self.invariant c.args.node c.len-position.result c.args.list.now below unmet led at start refl nodes frames c.in_ok-extend_from_slice.ensures.items in
    is.1

pub returns-clause-pushed : goal.returns-clause-pushed
returns-clause-pushed c =
    let below = rw (← c.self.view_is) at c.requires.below in
    let unmet = rw (← c.self.view_is) at c.requires.unmet in
    let led = rw (← c.self.view_is) at c.requires.led in
    let at : c.len-position.result ≡ length c.self.inside.nodes.items =
    omega (arith, c.len-position.ensures, c.in_ok-reserve.ensures.len, c.self.inside.nodes.ok.0) in
    let start : c.len-start.result ≡ length c.self.inside.succs.items = omega (arith, c.len-start.ensures, c.self.inside.succs.ok.0) in
    let nodes = (rw c.unwrap.ensures at c.push.ensures.items) ∙ ap (λ xs. xs ++ (record { start = c.len-start.result; count = length c.args.list.now; begun = 0; node = c.args.node }) ∷ []) c.in_ok-reserve.ensures.items in
    let frames = (rw c.unwrap-2.ensures at c.push-2.ensures.items) ∙ ap (λ xs. xs ++ (record { position = c.len-position.result; low = c.len-position.result }) ∷ []) c.in_ok-reserve-2.ensures.items in
    let is = pushed_arrays c.self.invariant c.args.node c.len-position.result c.args.list.now below unmet led at start refl nodes frames c.in_ok-extend_from_slice.ensures.items in
    rw (← c.self.view_is) is.0

pub returns-clause-met : goal.returns-clause-met
returns-clause-met c = rw (← c.self.view_is) (met_push c.self.inside.places.items c.args.node c.len-position.result)

pub returns-clause-good : goal.returns-clause-good
returns-clause-good c =
    let below = rw (← c.self.view_is) at c.requires.below in
    let unmet = rw (← c.self.view_is) at c.requires.unmet in
    let led = rw (← c.self.view_is) at c.requires.led in
    let at : c.len-position.result ≡ length c.self.inside.nodes.items =
    omega (arith, c.len-position.ensures, c.in_ok-reserve.ensures.len, c.self.inside.nodes.ok.0) in
    let start : c.len-start.result ≡ length c.self.inside.succs.items = omega (arith, c.len-start.ensures, c.self.inside.succs.ok.0) in
    let nodes = (rw c.unwrap.ensures at c.push.ensures.items) ∙ ap (λ xs. xs ++ (record { start = c.len-start.result; count = length c.args.list.now; begun = 0; node = c.args.node }) ∷ []) c.in_ok-reserve.ensures.items in
    let frames = (rw c.unwrap-2.ensures at c.push-2.ensures.items) ∙ ap (λ xs. xs ++ (record { position = c.len-position.result; low = c.len-position.result }) ∷ []) c.in_ok-reserve-2.ensures.items in
    let is = pushed_arrays c.self.invariant c.args.node c.len-position.result c.args.list.now below unmet led at start refl nodes frames c.in_ok-extend_from_slice.ensures.items in
    rw (← c.self.view_is)
    (λ lists roots done good true_list root.
    subst (IsGood lists roots done false) (sym is.0)
    (good_push good (pushes (arrayed c.self.inside) c.args.node c.args.list.now) (led_frame c.self.invariant led) true_list
    (λ none. root (no_entries c.self.invariant.shaped none))))
