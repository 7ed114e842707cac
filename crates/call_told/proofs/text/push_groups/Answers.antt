use Rattle.std.proofs.Common.{◌≡◌, ◌<◌, ◌≤◌, ◌++◌, ℕ, false, List, [], flat_map, length, get_or, ap, sym, ◌∙◌, zip, arith}
use Rattle.std.specs.String.{string_bytes}
use Rattle.std.proofs.lemmas.List.{get_or_default, take_all}
use Rattle.std.proofs.lemmas.Slice.Zip.{get_or-zip, length-zip}
use Rattle.graph_law.specs.Classes.{group_at}
use Rattle.graph_law.specs.Graph.{lists_of}
use Rattle.graph_law.proofs.GraphLaws.{length-lists_of, within_lists}
use Rattle.group_release.specs.declared.level.Level.{Level}
use Rattle.group_release.specs.Level.{level_at}
use Rattle.call_told.specs.Told.{drawn_group}
use Rattle.call_told.proofs.TextLemmas.{piece_more}
use Rattle.call_told.proofs.text.push_groups.Goals as goal

-- a group with its level
group_there : (groups : List (List ℕ)) (levels : List Level) (place : ℕ) → place < length groups → place < length levels
    → (group_at groups place, level_at levels place) ≡ get_or (zip groups levels) place (group_at groups place, level_at levels place)
group_there groups levels place lt also =
    let group = group_at groups place in
    let level = level_at levels place in
    let first = get_or_default groups place [] group lt in
    let second = get_or_default levels place (record { height = 0; recursive = false }) level also in
    (λ i. (first i, second i)) ∙ sym (get_or-zip groups levels place (group, level) lt also)

pub loop-place-preserved : goal.loop-place-preserved
loop-place-preserved c =
    let told = c.args.told.now in
    let groups = lists_of told.groups.items in
    let levels = told.levels.items in
    let place = c.loop-place.place in
    let within : place < length groups = within_lists told.groups.items place (omega (arith, c.loop-place-test.true, c.len-place-end.ensures)) in
    let also : place < length levels = omega (arith, within, c.requires.levels_each) in
    let both : place < length (zip groups levels) = omega (arith, within, also, length-zip groups levels) in
    piece_more (drawn_group told.program.now) (zip groups levels) place (group_at groups place, level_at levels place) (string_bytes c.args.text.now)
    (string_bytes c.loop-place.text) (string_bytes c.push_group.new.text) both (group_there groups levels place within also) c.loop-place.invariant
    c.in_ok-push_group.ensures

pub returns : goal.returns
returns c =
    let told = c.args.told.now in
    let groups = lists_of told.groups.items in
    let levels = told.levels.items in
    let all : length (zip groups levels) ≤ c.loop-place.place =
    omega (arith, length-zip groups levels, length-lists_of told.groups.items, c.loop-place-test.false, c.len-place-end.ensures) in
    c.loop-place.invariant
    ∙ ap (λ pairs. string_bytes c.args.text.now ++ flat_map (drawn_group told.program.now) pairs) (take_all c.loop-place.place (zip groups levels) all)
