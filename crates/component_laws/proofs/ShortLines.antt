-- The lines of a report are short.
use Rattle.std.proofs.Common.{ℕ, ◌+◌, ◌*◌, ◌≤◌, Bool, List, ◌++◌, length, sum_by, count_by, length-append, arith}
use Rattle.std.specs.Prelude.{codes}
use Rattle.std.specs.Fmt.{decimal}
use Rattle.std.specs.List.{flat_map}
use Rattle.byte_names.specs.Names.{name_at}
use Rattle.edge_text.specs.declared.limits.TheConstants.{MOST_NAME}
use Rattle.group_release.specs.declared.level.Level.{Level}
use Rattle.component_report.specs.Cycles.{loop_line}
use Rattle.component_report.specs.Json.{with_commas}
use Rattle.component_report.specs.JsonLines.{json_group, json_head, json_member, truth_of}
use Rattle.report_lines.specs.Head.{height_count, kind_of}
use Rattle.component_report.specs.Report.{group_line, head_line, member_text}
use Rattle.component_report.specs.declared.form.Form.{Form}
use Rattle.component_report.specs.declared.form.Form.TheVariants.{Lines, Json}
use Rattle.component_laws.proofs.ShortTexts.{AreShort, by_test, commas_short, decimal_short, flat_short, joined, json_name_short}

-- a name in a line
abbrev pub most_shown : ℕ
most_shown = 2 + MOST_NAME * 65

-- with what stands before it
abbrev pub most_text : ℕ
most_text = most_shown + 1

-- a line with some names
abbrev pub most_line : ℕ → ℕ
most_line names = 400 + names * most_text

module _ (names : List (List ℕ)) (short : AreShort names) where
  member_short : (member : ℕ) → length (member_text names member) ≤ most_text
  member_short member =
      let whole : length (member_text names member) ≤ 1 + MOST_NAME = joined (codes " ") (name_at names member) 1 MOST_NAME (omega arith) (short member) in
      omega (arith, whole)

  members_short : (members : List ℕ) → length (flat_map (member_text names) members) ≤ length members * most_text
  members_short members = flat_short (member_text names) most_text members member_short

  json_member_short : (member : ℕ) → length (json_member names member) ≤ most_shown
  json_member_short member =
      let name = short member in
      let whole = json_name_short (name_at names member) in
      omega (arith, name, whole)

  json_members_short : (members : List ℕ) → length (with_commas (json_member names) members) ≤ length members * most_text
  json_members_short members = commas_short (json_member names) most_shown members json_member_short

  kind_short : (recursive : Bool) → length (kind_of recursive) ≤ 10
  kind_short recursive = by_test recursive (codes " recursive") (codes " plain") 10 (omega arith) (omega arith)

  truth_short : (truth : Bool) → length (truth_of truth) ≤ 5
  truth_short truth = by_test truth (codes "true") (codes "false") 5 (omega arith) (omega arith)

  pub group_short : (members : List ℕ) (level : Level) → length (group_line names members level) ≤ most_line (length members)
  group_short members level =
      let start : length (decimal level.height ++ kind_of level.recursive) ≤ 64 + 10 =
      joined (decimal level.height) (kind_of level.recursive) 64 10 (decimal_short level.height) (kind_short level.recursive) in
      let named : length (decimal level.height ++ kind_of level.recursive ++ flat_map (member_text names) members) ≤ 64 + 10 + length members * most_text =
      joined (decimal level.height ++ kind_of level.recursive) (flat_map (member_text names) members) (64 + 10) (length members * most_text) start
      (members_short members) in
      let whole : length (group_line names members level) ≤ 64 + 10 + length members * most_text + 1 =
      joined (decimal level.height ++ kind_of level.recursive ++ flat_map (member_text names) members) (codes "\n")
      (64 + 10 + length members * most_text) 1 named (omega arith) in
      omega (arith, whole)

  pub json_group_short : (id : ℕ) (members : List ℕ) (level : Level) → length (json_group names id members level) ≤ most_line (length members)
  json_group_short id members level =
      let first : List ℕ = codes "{\"id\":" ++ decimal id in
      let height : List ℕ = codes ",\"height\":" ++ decimal level.height in
      let recursive : List ℕ = codes ",\"recursive\":" ++ truth_of level.recursive in
      let named : List ℕ = codes ",\"members\":[" ++ with_commas (json_member names) members in
      let first_short : length first ≤ 6 + 64 = joined (codes "{\"id\":") (decimal id) 6 64 (omega arith) (decimal_short id) in
      let height_short : length height ≤ 10 + 64 =
      joined (codes ",\"height\":") (decimal level.height) 10 64 (omega arith) (decimal_short level.height) in
      let recursive_short : length recursive ≤ 13 + 5 =
      joined (codes ",\"recursive\":") (truth_of level.recursive) 13 5 (omega arith) (truth_short level.recursive) in
      let named_short : length named ≤ 12 + length members * most_text =
      joined (codes ",\"members\":[") (with_commas (json_member names) members) 12 (length members * most_text) (omega arith) (json_members_short members) in
      let whole : length (first ++ height ++ recursive ++ named ++ codes "]}\n") ≤ 400 + length members * most_text =
      omega (
        arith,
        length-append (first ++ height ++ recursive ++ named) (codes "]}\n"),
        length-append (first ++ height ++ recursive) named,
        length-append (first ++ height) recursive,
        length-append first height,
        first_short,
        height_short,
        recursive_short,
        named_short,
      ) in
      whole

  pub loop_short : (form : Form) (cycle : List ℕ) → length (loop_line form names cycle) ≤ most_line (length cycle)
  loop_short Lines cycle =
      let named : List ℕ = flat_map (member_text names) cycle in
      let start : length (codes "loop" ++ named) ≤ 4 + length cycle * most_text =
      joined (codes "loop") named 4 (length cycle * most_text) (omega arith) (members_short cycle) in
      let whole : length (codes "loop" ++ named ++ codes "\n") ≤ 4 + length cycle * most_text + 1 =
      joined (codes "loop" ++ named) (codes "\n") (4 + length cycle * most_text) 1 start (omega arith) in
      omega (arith, whole)
  loop_short Json cycle =
      let named : List ℕ = with_commas (json_member names) cycle in
      let start : length (codes "{\"loop\":[" ++ named) ≤ 9 + length cycle * most_text =
      joined (codes "{\"loop\":[") named 9 (length cycle * most_text) (omega arith) (json_members_short cycle) in
      let whole : length (codes "{\"loop\":[" ++ named ++ codes "]}\n") ≤ 9 + length cycle * most_text + 3 =
      joined (codes "{\"loop\":[" ++ named) (codes "]}\n") (9 + length cycle * most_text) 3 start (omega arith) in
      omega (arith, whole)

-- four numbers, each with a word before it, and an end
numbers_short : (a b c d end : List ℕ) (p q r s : ℕ) → length a ≤ 20 → length b ≤ 20 → length c ≤ 20 → length d ≤ 20 → length end ≤ 20
    → length ((a ++ decimal p) ++ (b ++ decimal q) ++ (c ++ decimal r) ++ (d ++ decimal s) ++ end) ≤ 400
numbers_short a b c d end p q r s a_short b_short c_short d_short end_short =
    let one : length (a ++ decimal p) ≤ 20 + 64 = joined a (decimal p) 20 64 a_short (decimal_short p) in
    let two : length (b ++ decimal q) ≤ 20 + 64 = joined b (decimal q) 20 64 b_short (decimal_short q) in
    let three : length (c ++ decimal r) ≤ 20 + 64 = joined c (decimal r) 20 64 c_short (decimal_short r) in
    let four : length (d ++ decimal s) ≤ 20 + 64 = joined d (decimal s) 20 64 d_short (decimal_short s) in
    omega (
      arith,
      one,
      two,
      three,
      four,
      end_short,
      length-append (a ++ decimal p) (b ++ decimal q),
      length-append ((a ++ decimal p) ++ (b ++ decimal q)) (c ++ decimal r),
      length-append ((a ++ decimal p) ++ (b ++ decimal q) ++ (c ++ decimal r)) (d ++ decimal s),
      length-append ((a ++ decimal p) ++ (b ++ decimal q) ++ (c ++ decimal r) ++ (d ++ decimal s)) end,
    )

pub head_short : (groups : List (List ℕ)) (levels : List Level) → length (head_line groups levels) ≤ 400
head_short groups levels =
    numbers_short (codes "nodes ") (codes " groups ") (codes " recursive ") (codes " levels ") (codes "\n") (sum_by length groups) (length groups)
    (count_by (λ (level : Level). level.recursive) levels) (height_count levels) (omega arith) (omega arith) (omega arith) (omega arith) (omega arith)

pub json_head_short : (groups : List (List ℕ)) (levels : List Level) → length (json_head groups levels) ≤ 400
json_head_short groups levels =
    numbers_short (codes "{\"nodes\":") (codes ",\"groups\":") (codes ",\"recursive\":") (codes ",\"levels\":") (codes "}\n") (sum_by length groups)
    (length groups) (count_by (λ (level : Level). level.recursive) levels) (height_count levels) (omega arith) (omega arith) (omega arith) (omega arith)
    (omega arith)
