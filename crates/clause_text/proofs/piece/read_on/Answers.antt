use Rattle.std.proofs.Common.{◌≡◌, ◌++◌, ◌∷◌, [], ap, sym, ◌∙◌, subst, refl, inl, arith, slice_range, map}
use Rattle.prolog_names.specs.Numbers.{AreNumbered}
use Rattle.prolog_ops.specs.Table.{ops_of}
use Rattle.prolog_terms.specs.Terms.{root_tree, tree_in}
use Rattle.std.proofs.lemmas.List.{map-append}
use Rattle.kept_clauses.specs.Plain.{plain}
use Rattle.clause_text.specs.Items.{items_of}
use Rattle.clause_text.specs.Pieces.{LeadTo}
use Rattle.clause_text.proofs.ClauseSplits.{slice_part, part_one}
use Rattle.clause_text.proofs.Leads.{lead_more}
use Rattle.clause_text.proofs.PieceLemmas.{none_on, not_past, trees_kept_in, trees_more, ends_more}
use Rattle.clause_text.proofs.piece.read_on.Goals as goal

pub read_part-requires : goal.read_part-requires
read_part-requires c =
    let names = c.args.numbered.now.names in
    let at = c.loop-at.at in
    let next = c.part_end-next.result in
    record {
      small = c.requires.tokens.small;
      part = slice_part c.args.text.now c.args.tokens.now at next c.requires.tokens.part c.part_end-next.ensures.some;
      clause = part_one c.args.tokens.now at next c.part_end-next.ensures;
      numbered =
          subst (λ numbers. AreNumbered c.args.text.now names (slice_range c.args.tokens.now at next) (slice_range numbers at next)) (sym c.as_slice-numbers.ensures.value)
          (c.numbered_part.ensures c.args.text.now names c.args.tokens.now c.args.numbered.now.numbers.items at next c.requires.tokens.numbered
          (omega (arith, c.part_end-next.ensures.some)) (omega (arith, c.part_end-next.ensures.within)));
    }

pub loop-at-preserved : goal.loop-at-preserved
loop-at-preserved c =
    let table = ops_of c.args.table.now in
    let text = c.args.text.now in
    let ts = c.args.tokens.now in
    let stretch = c.args.stretch.now in
    let names = c.args.numbered.now.names in
    let old = c.loop-at.nodes in
    let new = c.read_part.new.nodes in
    let ends = c.loop-at.ends.items in
    let tree = root_tree names new in
    let clauses = map (tree_in names old) ends in
    let next = c.part_end-next.result in
    let items = rw c.if-is_err.ensures.negation at c.push.ensures.items in
    let more = c.in-Ok.ensures.more in
    let all : map (tree_in names new) c.push.new.self.items ≡ clauses ++ tree ∷ [] =
    trees_more names old new more.0 more.1 ends c.push.new.self.items c.len.result c.len.ensures.is items c.loop-at.invariant.2 in
    let kept = map plain clauses in
    let lead : LeadTo table text ts stretch.from (kept ++ plain tree ∷ []) table next =
    lead_more table text ts stretch.from kept table c.loop-at.at (plain tree) table next c.loop-at.invariant.0 c.part_end-next.ensures
    (record { tree = tree; kept_is = refl; leaves = record { clause = c.in-Ok.ensures.clause; items = none_on (items_of tree) table (sym c.in-Ok.ensures.sets ∙ c.if-sets.false) } }) in (
      subst (λ trees. LeadTo table text ts stretch.from trees table next) (sym (ap (map plain) all ∙ map-append plain clauses (tree ∷ []))) lead,
      not_past ts c.loop-at.at next stretch.to c.part_end-next.ensures c.loop-at-test.true c.requires.stretch.ends,
      ends_more old new more.0 more.1 ends c.push.new.self.items c.len.result c.len.ensures.is items c.loop-at.invariant.2,
    )

pub returns-in-Err : goal.returns-in-Err
returns-in-Err c =
    let more = c.in-Err.ensures.more in
    let names = c.args.numbered.now.names in
    record {
      some = c.requires.stretch.some;
      behind = c.requires.stretch.ends;
      at = c.loop-at.at;
      clauses =
          subst (λ trees. LeadTo (ops_of c.args.table.now) c.args.text.now c.args.tokens.now c.args.stretch.now.from trees (ops_of c.args.table.now) c.loop-at.at)
          (sym (ap (map plain) (trees_kept_in names c.loop-at.nodes c.read_part.new.nodes more.0 more.1 c.loop-at.ends.items c.loop-at.invariant.2))) c.loop-at.invariant.0;
      end = λ some. (
        c.part_end-next.result,
        c.part_end-next.ensures,
        inl (c.in-Err.ensures.fault some),
      );
    }

pub returns-then-sets : goal.returns-then-sets
returns-then-sets c =
    let more = c.in-Ok.ensures.more in
    let names = c.args.numbered.now.names in
    record {
      some = c.requires.stretch.some;
      behind = c.requires.stretch.ends;
      at = c.loop-at.at;
      clauses =
          subst (λ trees. LeadTo (ops_of c.args.table.now) c.args.text.now c.args.tokens.now c.args.stretch.now.from trees (ops_of c.args.table.now) c.loop-at.at)
          (sym (ap (map plain) (trees_kept_in names c.loop-at.nodes c.read_part.new.nodes more.0 more.1 c.loop-at.ends.items c.loop-at.invariant.2))) c.loop-at.invariant.0;
      end = (c.part_end-next.ensures, c.in-Ok.ensures.clause, sym c.in-Ok.ensures.sets ∙ c.if-sets.true);
    }

pub returns-then-is_err : goal.returns-then-is_err
returns-then-is_err c =
    let items = rw c.if-is_err.ensures.negation at c.push.ensures.items in
    let more = c.in-Ok.ensures.more in
    let names = c.args.numbered.now.names in
    record {
      some = c.requires.stretch.some;
      behind = c.requires.stretch.ends;
      at = c.loop-at.at;
      clauses =
          subst (λ trees. LeadTo (ops_of c.args.table.now) c.args.text.now c.args.tokens.now c.args.stretch.now.from trees (ops_of c.args.table.now) c.loop-at.at)
          (sym (ap (map plain) (ap (map (tree_in names c.read_part.new.nodes)) items ∙ trees_kept_in names c.loop-at.nodes c.read_part.new.nodes more.0 more.1 c.loop-at.ends.items c.loop-at.invariant.2)))
          c.loop-at.invariant.0;
      end = λ some. absurd (some refl);
    }
