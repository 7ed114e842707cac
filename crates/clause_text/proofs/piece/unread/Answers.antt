use Rattle.std.proofs.Common.{ap, refl, subst, sym}
use Rattle.clause_text.specs.Clauses.{clause_trees}
use Rattle.clause_text.specs.Pieces.{LeadTo}
use Rattle.clause_text.proofs.piece.unread.Goals as goal

pub returns : goal.returns
returns c = λ names table text ts from some behind.
    record {
      some = some;
      behind = behind;
      told = refl;
      at = from;
      clauses = subst (λ trees. LeadTo table text ts from trees table from) (sym (ap (clause_trees names) c.new.ensures.items)) (refl, refl);
      end = λ wanting. absurd (wanting refl);
    }
