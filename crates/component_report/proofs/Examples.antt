-- What reports of small graphs are.
use Rattle.std.proofs.Common.{◌≡◌, ℕ, true, false, List, [], ◌∷◌, ◌++◌, Some, None, codes, refl}
use Rattle.std.specs.Fmt.{digits}
use Rattle.std.specs.Str.{chars, is_utf8}
use lib.Utf8.{encode}
use Rattle.group_release.specs.declared.level.Level.{Level}
use Rattle.component_report.specs.declared.form.Form.TheVariants.{Lines, Json}
use Rattle.component_report.specs.Cycles.{cycle_line}
use Rattle.component_report.specs.JsonLines.{json_group}
use Rattle.report_lines.specs.Head.{height_count}
use Rattle.component_report.specs.Report.{group_line, head_line, order_report, report_in}

abbrev plain : ℕ → Level
plain height = record { height = height; recursive = false }

abbrev ring : ℕ → Level
ring height = record { height = height; recursive = true }

-- no group

empty : order_report Lines [] [] [] ≡ codes "nodes 0 groups 0 recursive 0 levels 0\n"
unfolding digits
empty = refl

-- a line of a group; names are printed as they are

line : group_line (codes "a" ∷ codes "b" ∷ codes "c" ∷ []) (0 ∷ 2 ∷ []) (ring 1) ≡ codes "1 recursive a c\n"
unfolding digits
line = refl

any_bytes : group_line ((0 ∷ 255 ∷ []) ∷ []) (0 ∷ []) (plain 0) ≡ codes "0 plain " ++ 0 ∷ 255 ∷ 10 ∷ []
unfolding digits
any_bytes = refl

-- the levels are one more than the greatest height

levels : height_count (plain 0 ∷ ring 2 ∷ plain 1 ∷ []) ≡ 3
levels = refl

head : head_line ((1 ∷ []) ∷ (0 ∷ 2 ∷ []) ∷ []) (plain 0 ∷ ring 1 ∷ []) ≡ codes "nodes 3 groups 2 recursive 1 levels 2\n"
unfolding digits
head = refl

-- the lines are in the order that is asked for

abbrev names : List (List ℕ)
names = codes "a" ∷ codes "b" ∷ []

turned_round : report_in Lines names ((1 ∷ []) ∷ (0 ∷ []) ∷ []) (plain 0 ∷ plain 1 ∷ []) (1 ∷ 0 ∷ [])
    ≡ codes "nodes 2 groups 2 recursive 0 levels 2\n1 plain a\n0 plain b\n"
unfolding digits
turned_round = refl

-- the same in JSON, where lines are numbered

json_turned_round : report_in Json names ((1 ∷ []) ∷ (0 ∷ []) ∷ []) (plain 0 ∷ plain 1 ∷ []) (1 ∷ 0 ∷ [])
    ≡ codes "{\"nodes\":2,\"groups\":2,\"recursive\":0,\"levels\":2}\n{\"id\":0,\"height\":1,\"recursive\":false,\"members\":[\"a\"]}\n{\"id\":1,\"height\":0,\"recursive\":false,\"members\":[\"b\"]}\n"
unfolding digits is_utf8 chars encode
json_turned_round = refl

-- quotes and control characters are escapes, and a name that isn't UTF-8 is a list

json_odd : json_group ((34 ∷ 10 ∷ []) ∷ (255 ∷ 7 ∷ []) ∷ []) 3 (0 ∷ 1 ∷ []) (ring 2)
    ≡ codes "{\"id\":3,\"height\":2,\"recursive\":true,\"members\":[\"\\\"\\u000a\",[255,7]]}\n"
unfolding digits is_utf8 chars encode
json_odd = refl

-- a cycle, in both forms, and no cycle

cycle : cycle_line Lines names (Some (0 ∷ 1 ∷ [])) ≡ codes "loop a b\n"
cycle = refl

json_cycle : cycle_line Json names (Some (0 ∷ [])) ≡ codes "{\"loop\":[\"a\"]}\n"
unfolding is_utf8 chars encode
json_cycle = refl

no_cycle : cycle_line Lines names None ≡ []
no_cycle = refl
