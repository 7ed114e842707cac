-- Predicates have the same groups in any legal order.
use Rattle.std.proofs.Common.{◌≡◌, ◌-◌, inl, inr, ℕ, zero, suc, Bool, true, false, ◌==◌, ◌||◌, not, List, filter, get_or, refl}
use Rattle.std.proofs.Common.{sym, ap, ◌∙◌, subst, arith}
use Rattle.std.specs.Prelude.{if◌then◌else◌}
use Rattle.std.specs.List.{range_with_len}
use Rattle.std.proofs.lemmas.Bool.{cases_lt}
use Rattle.std.proofs.lemmas.Bool.Decides.{Decides-eqb}
use Rattle.std.proofs.lemmas.List.{get_or_past}
use Rattle.graph_law.specs.Classes.{group_at, least_member}
use Rattle.graph_law.proofs.Unique.{class_unique}
use Rattle.group_release.specs.declared.level.Level.{Level}
use Rattle.group_release.specs.Level.{level_at}
use Rattle.import_rules.specs.declared.names.PredName.{PredName}
use Rattle.report_lines.specs.Reportable.{AreLeveled}
use Rattle.report_lines.proofs.OneLine.{one_level, reached_has}
use Rattle.call_table.specs.Memberships.{AreGroupsOf, IsGroupOf}
use Rattle.call_told.specs.Told.{told_nodes}
use Rattle.call_writer.specs.Dot.{condensed_node, node_at_least}
use Rattle.call_writer.specs.Lines.{group_fields, group_line_at, level_fields, line_at_least}

not_zero : (n : ℕ) → (suc n == 0) ≡ false
not_zero n = at (suc n == 0) refl
  where
    at : (b : Bool) → (suc n == 0) ≡ b → (suc n == 0) ≡ false
    at true is = let same = (Decides-eqb (suc n) 0).0 is in absurd (omega (arith, same))
    at false is = is

-- what is told of the group at a place
fields_behind : (groups : List (List ℕ)) (levels : List Level) (place : ℕ)
    → group_fields groups levels (suc place) ≡ level_fields (least_member (group_at groups place)) (level_at levels place)
fields_behind groups levels place =
    let back : suc place - 1 ≡ place = omega arith in
    rw (not_zero place) (ap (λ n. level_fields (least_member (group_at groups n)) (level_at levels n)) back)

-- its line
line_behind : (groups : List (List ℕ)) (levels : List Level) (node place : ℕ)
    → group_line_at groups levels node (suc place) ≡ line_at_least node (group_at groups place) (level_at levels place)
line_behind groups levels node place =
    let back : suc place - 1 ≡ place = omega arith in
    rw (not_zero place) (ap (λ n. line_at_least node (group_at groups n) (level_at levels n)) back)

-- the node that a predicate with that place is in
abbrev node_at : List (List ℕ) → ℕ → ℕ → ℕ
node_at groups p place = if place == 0 then p else least_member (group_at groups (place - 1))

node_behind : (groups : List (List ℕ)) (p place : ℕ) → node_at groups p (suc place) ≡ least_member (group_at groups place)
node_behind groups p place =
    let back : suc place - 1 ≡ place = omega arith in
    rw (not_zero place) (ap (λ n. least_member (group_at groups n)) back)

-- the line of a node of the condensed graph
drawn_behind : (predicates : List PredName) (groups : List (List ℕ)) (p place : ℕ)
    → condensed_node predicates groups p (suc place) ≡ node_at_least predicates p (group_at groups place)
drawn_behind predicates groups p place =
    let back : suc place - 1 ≡ place = omega arith in
    rw (not_zero place) (ap (λ n. node_at_least predicates p (group_at groups n)) back)

module _ {calls : ℕ → ℕ → Type 0} {starts : List ℕ} {groups others : List (List ℕ)} {levels marks : List Level}
    (a : AreLeveled calls starts groups levels) (b : AreLeveled calls starts others marks)
  where
    -- both places are 0, or both are those of one group with one level
    pub record IsSamePlace (place other : ℕ) : Type 0 where
      pub none : (place == 0) ≡ (other == 0)
      pub fields : group_fields groups levels place ≡ group_fields others marks other
      pub line : (node : ℕ) → group_line_at groups levels node place ≡ group_line_at others marks node other
      pub node : (p : ℕ) → node_at groups p place ≡ node_at others p other
      pub drawn : (predicates : List PredName) (p : ℕ) → condensed_node predicates groups p place ≡ condensed_node predicates others p other

    same_place : (p place other : ℕ) → IsGroupOf groups p place → IsGroupOf others p other → IsSamePlace place other
    same_place p zero zero is also = record {
      none = refl;
      fields = refl;
      line = λ node. refl;
      node = λ p. refl;
      drawn = λ predicates p. refl;
    }
    same_place p zero (suc other) is also =
        absurd (is (reached_has a.are p (b.are.reached p (record { place = other; within = also.0; member = also.1 }))))
    same_place p (suc place) zero is also =
        absurd (also (reached_has b.are p (a.are.reached p (record { place = place; within = is.0; member = is.1 }))))
    same_place p (suc place) (suc other) is also =
        let same : group_at groups place ≡ group_at others other =
        class_unique (a.are.legal.each place _ is.0) (b.are.legal.each other _ also.0) p is.1 also.1 in
        let level : level_at levels place ≡ level_at marks other = one_level a b place other is.0 also.0 same in
        record {
          none = not_zero place ∙ sym (not_zero other);
          fields = fields_behind groups levels place
              ∙ ((λ i. level_fields (least_member (same i)) (level i)) ∙ sym (fields_behind others marks other));
          line = λ node.
              line_behind groups levels node place
              ∙ ((λ i. line_at_least node (same i) (level i)) ∙ sym (line_behind others marks node other));
          node = λ p. node_behind groups p place ∙ (ap least_member same ∙ sym (node_behind others p other));
          drawn = λ predicates p.
              drawn_behind predicates groups p place
              ∙ (ap (node_at_least predicates p) same ∙ sym (drawn_behind predicates others p other));
        }

    module _ (count : ℕ) (places other_places : List ℕ) (are : AreGroupsOf count groups places) (also : AreGroupsOf count others other_places) where
      pub each_same : (p : ℕ) → IsSamePlace (get_or places p 0) (get_or other_places p 0)
      each_same p =
          elim (cases_lt p count) [
            | inl below ↦ same_place p (get_or places p 0) (get_or other_places p 0) (are.is p below) (also.is p below)
            | inr past ↦
                let none : get_or places p 0 ≡ 0 = get_or_past places p 0 (omega (arith, are.each, past)) in
                let none_too : get_or other_places p 0 ≡ 0 = get_or_past other_places p 0 (omega (arith, also.each, past)) in
                let both : IsSamePlace 0 0 = record {
                  none = refl;
                  fields = refl;
                  line = λ node. refl;
                  node = λ p. refl;
                  drawn = λ predicates p. refl;
                } in
                subst (λ n. IsSamePlace n (get_or other_places p 0)) (sym none) (subst (λ n. IsSamePlace 0 n) (sym none_too) both)
          ]

      pub same_nodes : (all : Bool) → told_nodes count places all ≡ told_nodes count other_places all
      same_nodes all =
          let tests : (λ (p : ℕ). all || not (get_or places p 0 == 0)) ≡ (λ (p : ℕ). all || not (get_or other_places p 0 == 0)) =
          λ i p. all || not ((each_same p).none i) in
          ap (λ test. filter test (range_with_len 0 count)) tests
