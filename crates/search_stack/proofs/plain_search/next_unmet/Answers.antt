use Rattle.std.proofs.Common.{◌<◌, ◌∙◌, ℕ, Bool, List, length, sym, ap, subst, arith}
use Rattle.std.specs.Prelude.{All, true, false}
use Rattle.search_stack.specs.PlainSearch.{IsUnderWay, top_succs}
use Rattle.search_stack.proofs.Driving.{begun_by, next_within, seen_cases, settled_by}
use Rattle.search_stack.proofs.UnderWay.{way_same}
use Rattle.search_stack.proofs.plain_search.next_unmet.Goals as goal

pub has_met-requires : goal.has_met-requires
has_met-requires c =
    let begun = begun_by c.edges.search c.begin.new.self c.in-Some.node (sym c.in-Some.ensures.next) c.in-Some.ensures.begun in
    omega (arith, next_within c.edges.search.seen c.edges.search.stack c.in-Some.node c.edges.invariant.within (sym c.in-Some.ensures.next), ap length begun.seen_is)

pub returns-then-not-has_met-clause-seen : goal.returns-then-not-has_met-clause-seen
returns-then-not-has_met-clause-seen c =
    let begun = begun_by c.edges.search c.begin.new.self c.in-Some.node (sym c.in-Some.ensures.next) c.in-Some.ensures.begun in
    begun.seen_is ∙ c.edges.invariant.seen_is

pub returns-then-not-has_met-clause-size : goal.returns-then-not-has_met-clause-size
returns-then-not-has_met-clause-size c =
    let begun = begun_by c.edges.search c.begin.new.self c.in-Some.node (sym c.in-Some.ensures.next) c.in-Some.ensures.begun in
    begun.keeps.nodes.size_is ∙ c.edges.invariant.size_is

pub returns-then-not-has_met-clause-height : goal.returns-then-not-has_met-clause-height
returns-then-not-has_met-clause-height c =
    let begun = begun_by c.edges.search c.begin.new.self c.in-Some.node (sym c.in-Some.ensures.next) c.in-Some.ensures.begun in
    begun.keeps.height_is ∙ c.edges.invariant.height_is

pub returns-then-not-has_met-clause-unmet : goal.returns-then-not-has_met-clause-unmet
returns-then-not-has_met-clause-unmet c =
    let begun = begun_by c.edges.search c.begin.new.self c.in-Some.node (sym c.in-Some.ensures.next) c.in-Some.ensures.begun in (
      omega (arith, next_within c.edges.search.seen c.edges.search.stack c.in-Some.node c.edges.invariant.within (sym c.in-Some.ensures.next), ap length begun.seen_is),
      sym c.if-not-has_met.ensures,
    )

pub returns-then-not-has_met-clause-under_way : goal.returns-then-not-has_met-clause-under_way
returns-then-not-has_met-clause-under_way c = λ lists roots groups way.
    let begun = begun_by c.edges.search c.begin.new.self c.in-Some.node (sym c.in-Some.ensures.next) c.in-Some.ensures.begun in
    let now = c.edges.invariant.under_way lists roots groups way in
    let P : List Bool → Type 0 = λ seen. IsUnderWay lists roots seen groups true c.begin.new.self.stack in
    subst P (sym begun.seen_is) (way_same now true begun.keeps.nodes (c.in-Some.ensures.good lists roots now.finished now.good))

pub edges-smaller : goal.edges-smaller
edges-smaller c =
    let begun = begun_by c.edges.search c.begin.new.self c.in-Some.node (sym c.in-Some.ensures.next) c.in-Some.ensures.begun in
    let settled = settled_by c.in-Some.ensures.last c.back.ensures.settled in
    omega (arith, begun.some_left, begun.one_more, ap length begun.keeps.succs_are, settled.begun_is, ap length settled.keeps.succs_are)

pub edges-preserved : goal.edges-preserved
edges-preserved c =
    let begun = begun_by c.edges.search c.begin.new.self c.in-Some.node (sym c.in-Some.ensures.next) c.in-Some.ensures.begun in
    let settled = settled_by c.in-Some.ensures.last c.back.ensures.settled in
    let seen = c.back.ensures.seen ∙ begun.seen_is in
    let met = sym c.if-not-has_met.ensures in
    let P : List ℕ → Type 0 = λ xs. All (λ v. v < length c.back.new.self.seen) xs in
    let Q : List Bool → Type 0 = λ all. All (λ v. v < length all) (top_succs c.edges.search.stack) in
    record {
      some = omega (arith, c.edges.invariant.some, begun.keeps.nodes.size_is, settled.keeps.nodes.size_is);
      seen_is = seen ∙ c.edges.invariant.seen_is;
      size_is = settled.keeps.nodes.size_is ∙ begun.keeps.nodes.size_is ∙ c.edges.invariant.size_is;
      height_is = settled.keeps.height_is ∙ begun.keeps.height_is ∙ c.edges.invariant.height_is;
      within = subst P (sym (settled.keeps.succs_are ∙ begun.keeps.succs_are)) (subst Q (sym seen) c.edges.invariant.within);
      under_way = λ lists roots groups way.
          let before = c.edges.invariant.under_way lists roots groups way in
          let R : List Bool → Type 0 = λ all. IsUnderWay lists roots all groups true c.begin.new.self.stack in
          let open_way : IsUnderWay lists roots c.begin.new.self.seen groups true c.begin.new.self.stack =
          subst R (sym begun.seen_is) (way_same before true begun.keeps.nodes (c.in-Some.ensures.good lists roots before.finished before.good)) in
          let S : List Bool → Type 0 = λ all. IsUnderWay lists roots all groups false c.back.new.self.stack in
          subst S (sym c.back.ensures.seen)
          (way_same open_way false settled.keeps.nodes
          (c.back.ensures.good lists roots open_way.finished open_way.good (seen_cases open_way c.in-Some.node met)));
    }
