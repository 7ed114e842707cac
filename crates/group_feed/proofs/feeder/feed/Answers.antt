use Rattle.std.proofs.Common.{rules, ◌≡◌, ℕ, true, List, take, sym, ap, ◌∙◌, subst, arith}
use Rattle.std.proofs.lemmas.List.{take_all}
use Rattle.std.specs.Prelude.{All}
use Rattle.crossbeam_queue.specs.Passes.{view}
use Rattle.graph_law.specs.Classes.{HasMember}
use Rattle.graph_law.specs.Graph.{lists_of}
use Rattle.graph_law.specs.LegalOrder.{IsComplete}
use Rattle.group_feed.specs.declared.line.Hand.{Hand}
use Rattle.group_feed.specs.Feeder.{AreFed}
use Rattle.group_feed.proofs.feeder.feed.Goals as goal

pub returns-then-fed_roots-roots-clause-found : goal.returns-then-fed_roots-roots-clause-found
returns-then-fed_roots-roots-clause-found g c =
    let copies : List (List ℕ) = c.copy_turn-after.new.copies.groups in
    let roots : List ℕ = c.args.roots.now in
    let n : ℕ = c.copied_roots-fed_roots.result in
    let pushed : (view c.push_from.new.hand).pushed ≡ copies = search rules in
    let feeds : (view c.push_from.new.hand).feeds ≡ true = search rules in
    let answer : lists_of c.into_groups.result.items ≡ copies = c.into_groups.ensures in
    let each = c.if-fed_roots-roots.true in
    let all : take n roots ≡ roots = take_all n roots (omega (arith, each)) in
    record {
      of_line = c.push-then-fed_roots-roots.ensures.queue;
      feeds = ap (λ (v : Hand). v.feeds) c.push-then-fed_roots-roots.ensures.pushed ∙ feeds;
      pushed = answer ∙ sym pushed ∙ sym (ap (λ (v : Hand). v.pushed) c.push-then-fed_roots-roots.ensures.pushed);
      are = subst (AreFed c.args.claims.now) (sym answer) c.copy_turn-after.ensures.are;
      complete = subst (λ (starts : List ℕ). IsComplete starts (lists_of c.into_groups.result.items)) (sym c.requires.roots)
          (subst (λ (groups : List (List ℕ)). IsComplete roots groups) (sym answer)
          (subst (All (HasMember copies)) all c.copied_roots-fed_roots.ensures.copied));
    }
