-- One numbered line more.
use Rattle.std.proofs.Common.{◌≡◌, ℕ, ◌+◌, ◌<◌, List, [], ◌∷◌, ◌++◌, length, get_or, take, suc, append_assoc, append-nil, length-take, sym, ap, ◌∙◌, arith}
use Rattle.std.proofs.Math.Seq.{take-suc}
use Rattle.graph_law.specs.Classes.{group_at}
use Rattle.group_release.specs.declared.level.Level.{Level}
use Rattle.group_release.specs.Level.{level_at}
use Rattle.component_report.specs.JsonLines.{json_group, json_lines}

line_behind : (names groups : List (List ℕ)) (levels : List Level) (id : ℕ) (order : List ℕ) (place : ℕ)
    → json_lines names groups levels id (order ++ place ∷ [])
    ≡ json_lines names groups levels id order ++ json_group names (id + length order) (group_at groups place) (level_at levels place)
line_behind names groups levels id [] place =
    let none : id ≡ id + 0 = omega arith in
    append-nil (json_group names id (group_at groups place) (level_at levels place))
    ∙ ap (λ n. json_group names n (group_at groups place) (level_at levels place)) none
line_behind names groups levels id (first ∷ order) place =
    let here = json_group names id (group_at groups first) (level_at levels first) in
    let number : (id + 1) + length order ≡ id + length (first ∷ order) = omega arith in
    ap (λ text. here ++ text) (line_behind names groups levels (id + 1) order place)
    ∙ sym
    (append_assoc here (json_lines names groups levels (id + 1) order)
    (json_group names ((id + 1) + length order) (group_at groups place) (level_at levels place)))
    ∙ ap
    (λ n. (here ++ json_lines names groups levels (id + 1) order) ++ json_group names n (group_at groups place) (level_at levels place))
    number

pub line_more : (names groups : List (List ℕ)) (levels : List Level) (order : List ℕ) (at : ℕ) → at < length order
    → json_lines names groups levels 0 (take (at + 1) order)
    ≡ json_lines names groups levels 0 (take at order) ++ json_group names at (group_at groups (get_or order at 0)) (level_at levels (get_or order at 0))
line_more names groups levels order at within =
    let next : suc at ≡ at + 1 = omega arith in
    let long : 0 + length (take at order) ≡ at = omega (arith, length-take at order, within) in
    ap (λ n. json_lines names groups levels 0 (take n order)) (sym next)
    ∙ ap (json_lines names groups levels 0) (take-suc order at 0 within)
    ∙ line_behind names groups levels 0 (take at order) (get_or order at 0)
    ∙ ap
    (λ n. json_lines names groups levels 0 (take at order) ++ json_group names n (group_at groups (get_or order at 0)) (level_at levels (get_or order at 0)))
    long
