-- Groups that are the same in any legal order have the same lines of effects.
use Rattle.std.proofs.Common.{◌≡◌, ℕ, ◌<◌, List, [], length, map, get_or, Option, sym, subst, ◌∙◌, ap, arith}
use Rattle.std.specs.List.{flat_map, range_with_len}
use Rattle.std.proofs.lemmas.List.{ext_get_or, get_or-map, length-map}
use Rattle.std.proofs.lemmas.List.Elements.{Contains-get_or}
use Rattle.std.proofs.lemmas.List.Folds.{flat_map-map}
use Rattle.std.proofs.lemmas.List.FromFn.{get_or-range_with_len, length-range_with_len}
use Rattle.graph_law.specs.Classes.{group_at, least_member}
use Rattle.group_release.specs.declared.level.Level.{Level}
use Rattle.effect_flow.specs.declared.kinds.TheConstants.{KINDS}
use Rattle.effect_flow.specs.Carriers.{AreFlows, HasKind, IsCarrier, first_at, flow_at}
use Rattle.effect_flow.proofs.Known.{one_carrier}
use Rattle.import_rules.specs.declared.names.PredName.{PredName}
use Rattle.loop_report.specs.Effects.{AreEffectLines, effect_line, group_effects, kind_word, place_effects}
use Rattle.report_lines.specs.LineOrder.{least_at}
use Rattle.report_lines.specs.Reportable.{AreLeveled}
use Rattle.report_lines.proofs.OneLine.{line_at, lines, same_lines}
use Rattle.list_laws.proofs.OneOrder.{order_below}

-- texts that are equal place by place
flat_same : (F G : ℕ → List ℕ) (xs ys : List ℕ) → length xs ≡ length ys → ((k : ℕ) → k < length xs → F (get_or xs k 0) ≡ G (get_or ys k 0)) → flat_map F xs ≡ flat_map G ys
flat_same F G xs ys long same =
    let all : map F xs ≡ map G ys =
    ext_get_or [] (map F xs) (map G ys) (length-map xs F ∙ long ∙ sym (length-map ys G))
    (λ k lt.
    let first : k < length xs = omega (arith, lt, length-map xs F) in
    get_or-map F xs k 0 [] first ∙ same k first ∙ sym (get_or-map G ys k 0 [] (omega (arith, first, long)))) in
    sym (flat_map-map (λ (t : List ℕ). t) F xs) ∙ (ap (flat_map (λ (t : List ℕ). t)) all ∙ flat_map-map (λ (t : List ℕ). t) G ys)

-- the lines of a group are those of its least member and its carriers
same_group : (predicates : List PredName) (least other : ℕ) (flow row : List (Option ℕ)) → least ≡ other → ((kind : ℕ) → kind < KINDS → first_at flow kind ≡ first_at row kind)
    → group_effects predicates least flow ≡ group_effects predicates other row
same_group predicates least other flow row is same =
    flat_same (λ kind. effect_line predicates least (kind_word kind) (first_at flow kind)) (λ kind. effect_line predicates other (kind_word kind) (first_at row kind))
    (range_with_len 0 KINDS) (range_with_len 0 KINDS) (λ i. length (range_with_len 0 KINDS))
    (λ k lt.
    let low : k < KINDS = omega (arith, lt, length-range_with_len 0 KINDS) in
    let at : get_or (range_with_len 0 KINDS) k 0 < KINDS = omega (arith, get_or-range_with_len 0 KINDS k 0 low, low) in
    let kind : ℕ = get_or (range_with_len 0 KINDS) k 0 in
    λ i. effect_line predicates (is i) (kind_word kind) (same kind at i))

pub same_effects : {calls : ℕ → ℕ → Type 0} {starts : List ℕ} {groups others : List (List ℕ)} {levels marks : List Level} (predicates : List PredName) (own more : List ℕ)
    (flows rows : List (List (Option ℕ))) (bytes other : List ℕ) → AreLeveled calls starts groups levels → AreLeveled calls starts others marks
    → ((kind q : ℕ) → kind < KINDS → HasKind own kind q → HasKind more kind q) → ((kind q : ℕ) → kind < KINDS → HasKind more kind q → HasKind own kind q)
    → AreFlows calls own groups flows → AreFlows calls more others rows
    → AreEffectLines predicates groups levels flows bytes → AreEffectLines predicates others marks rows other → bytes ≡ other
same_effects {calls} {starts} {groups} {others} {levels} {marks} predicates own more flows rows bytes other a b to from are also first second =
    let one : lines groups levels first.order ≡ lines others marks second.order = same_lines a b first.order second.order first.in_order second.in_order in
    let left = length-map first.order (line_at groups levels) in
    let right = length-map second.order (line_at others marks) in
    let long : length first.order ≡ length second.order = sym left ∙ (ap length one ∙ right) in
    first.is
    ∙ (flat_same (place_effects predicates groups flows) (place_effects predicates others rows) first.order second.order long
    (λ k lt.
    let p : ℕ = get_or first.order k 0 in
    let q : ℕ = get_or second.order k 0 in
    let lt_too : k < length second.order = omega (arith, lt, long) in
    let inside : p < length groups = order_below (length groups) p first.order first.in_order.each_once (Contains-get_or first.order k 0 lt) in
    let within : q < length others = order_below (length others) q second.order second.in_order.each_once (Contains-get_or second.order k 0 lt_too) in
    let line : line_at groups levels p ≡ line_at others marks q =
    sym (get_or-map (line_at groups levels) first.order k 0 (line_at groups levels p) lt)
    ∙ (ap (λ ls. get_or ls k (line_at groups levels p)) one ∙ get_or-map (line_at others marks) second.order k 0 (line_at groups levels p) lt_too) in
    let group : group_at groups p ≡ group_at others q = ap (λ (z : List ℕ × Level). z.0) line in
    same_group predicates (least_at groups p) (least_at others q) (flow_at flows p) (flow_at rows q) (ap least_member group)
    (λ kind low.
    one_carrier calls own more kind (group_at groups p) (first_at (flow_at flows p) kind) (first_at (flow_at rows q) kind) (λ n. to kind n low) (λ n. from kind n low)
    (are.carriers p inside kind low)
    (subst (λ g. IsCarrier calls more kind g (first_at (flow_at rows q) kind)) (sym group) (also.carriers q within kind low))))
    ∙ sym second.is)
