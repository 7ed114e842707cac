use Rattle.std.proofs.Common.{ℕ, ◌<◌, Vec, Global, sym, subst, arith}
use Rattle.clause_text.specs.declared.piece.Stretch.{Stretch}
use Rattle.clause_text.specs.Pieces.{AreStretches}
use Rattle.clause_text.proofs.PieceLemmas.{stretch_behind}
use Rattle.clause_text.proofs.piece.stretches_from.Goals as goal
use Rattle.clause_text.proofs.piece.stretches_from.Goals.{else-loop-at-test, then-loop-at-test+in_ok-push+then-len-most}

pub loop-at-preserved : goal.loop-at-preserved
loop-at-preserved c = (
  omega arith,
  stretch_behind c.args.tokens.now c.args.from c.loop-at.stretches.items c.push.new.self.items c.loop-at.at c.end_from-to.result c.loop-at.invariant.1
      c.in_ok-push.ensures.items c.end_from-to.ensures.some c.end_from-to.ensures.ends,
)

pub returns : goal.returns
returns c =
    let ts = c.args.tokens.now in
    let from = c.args.from in
    elim c.loop-at-test.branch [
      | else-loop-at-test w ↦
          subst (λ (found : Vec Stretch Global). (to : ℕ) × (from < to) × AreStretches ts from found.items to) (sym w.stretches-is) (c.loop-at.at, omega arith, c.loop-at.invariant.1)
      | then-loop-at-test+in_ok-push+then-len-most w ↦
          subst (λ (found : Vec Stretch Global). (to : ℕ) × (from < to) × AreStretches ts from found.items to) (sym w.stretches-is) (
            w.end_from-to.result,
            omega arith,
            stretch_behind ts from c.loop-at.stretches.items w.push.new.self.items c.loop-at.at w.end_from-to.result c.loop-at.invariant.1
                w.in_ok-push.ensures.items w.end_from-to.ensures.some w.end_from-to.ensures.ends,
          )
    ]
