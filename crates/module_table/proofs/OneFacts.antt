-- The clauses of a file have one record of facts.
use Rattle.std.proofs.Common.{◌≡◌, ℕ, List, Option, Some, None, sym, ◌∙◌, subst}
use Rattle.prolog_terms.specs.Tree.{Tree}
use Rattle.module_table.specs.Said.{Part, Declares}
use Rattle.module_table.specs.Kinds.{declared_part, first_of, IsModule}
use Rattle.module_table.specs.Facts.{Facts, AreFacts, AreFactsOf}
use Rattle.module_table.proofs.Grouping.{one_grouping}
use Rattle.module_table.proofs.SaidLemmas.{ok_once}
use Rattle.std.specs.List.{filter_map}

record AreSame (f g : Facts) : Type 0 where
  name : f.module_ ≡ g.module_
  is_module : f.is_module ≡ g.is_module
  from : f.module_from ≡ g.module_from
  exports : f.exports ≡ g.exports

same_module : (own : Option Declares) (f g : Facts) → IsModule own f.module_ f.is_module f.module_from f.exports → IsModule own g.module_ g.is_module g.module_from g.exports
    → AreSame f g
same_module (Some own) f g a b = record { name = a.0 ∙ sym b.0; is_module = a.1 ∙ sym b.1; from = a.2 ∙ sym b.2; exports = a.3 ∙ sym b.3 }
same_module None f g a b = record { name = a.0 ∙ sym b.0; is_module = a.1 ∙ sym b.1; from = a.2 ∙ sym b.2; exports = a.3 ∙ sym b.3 }

one_of : (user : List ℕ) (parts : List Part) (f g : Facts) → AreFactsOf user parts f → AreFactsOf user parts g → f ≡ g
one_of user parts f g a b =
    let file = a.file ∙ sym b.file in
    let same = same_module (first_of (filter_map declared_part parts)) f g a.of_module b.of_module in
    let loads = a.loads ∙ sym b.loads in
    let defined = one_grouping _ f.defined g.defined a.defined b.defined in
    let metas = a.metas ∙ sym b.metas in
    let marks = a.marks ∙ sym b.marks in
    let goals = a.goals ∙ sym b.goals in
    λ i. record {
      file = file i;
      module_ = same.name i;
      is_module = same.is_module i;
      module_from = same.from i;
      exports = same.exports i;
      loads = loads i;
      defined = defined i;
      metas = metas i;
      marks = marks i;
      goals = goals i;
    }

pub one_facts : (user : List ℕ) (trees : List Tree) (facts other : Facts) → AreFacts user trees facts → AreFacts user trees other → facts ≡ other
one_facts user trees facts other a b =
    let parts : b.parts ≡ a.parts = ok_once b.parts a.parts (sym b.said ∙ a.said) in
    one_of user a.parts facts other a.are (subst (λ ps. AreFactsOf user ps other) parts b.are)
