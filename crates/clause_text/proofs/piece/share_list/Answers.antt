use Rattle.std.proofs.Common.{◌≡◌, ℕ, ap, map, refl, subst, sym, ◌∙◌}
use Rattle.std.specs.Arc.{arc_value}
use Rattle.std.proofs.lemmas.Simd.{map-map}
use Rattle.prolog_terms.specs.Terms.{tree_in}
use Rattle.prolog_terms.specs.Tree.{Tree}
use Rattle.kept_clauses.specs.Plain.{plain}
use Rattle.kept_clauses.specs.Words.{Kept, kept_tree}
use Rattle.kept_clauses.proofs.KeptClauses.{kept_now}
use Rattle.clause_text.specs.Clauses.{clause_trees}
use Rattle.clause_text.specs.Pieces.{LeadTo, KeptEndIs, read_trees}
use Rattle.clause_text.proofs.piece.share_list.Goals as goal

pub returns : goal.returns
returns c = λ table text ts from is.
    let names = c.args.names.now in
    let read = c.args.read in
    let list : Kept = c.push_last.new.list in
    let same : arc_value c.in_ok-list-2.list ≡ list = c.in_ok-list-2.ensures.ok ∙ c.in_ok-exact_copy.ensures in
    let each : ℕ → Tree = λ end. plain (tree_in names read.nodes end) in
    let begins = c.in_ok-list.begins.items in
    let trees : clause_trees names c.in_ok-clauses.clauses.items ≡ map plain (read_trees names read) =
    c.in_ok-clauses.ensures names
    ∙ ((λ i. map (kept_tree names (same i)) (c.deref-2.ensures.value i))
    ∙ (kept_now names list begins (map each c.deref.result.now) (c.in_ok-last.ensures.same begins (map each c.deref.result.now) c.in_ok-list.ensures)
    ∙ (ap (map each) c.deref.ensures.value ∙ sym (map-map plain (tree_in names read.nodes) read.ends.items)))) in
    record {
      some = is.some;
      behind = is.behind;
      told = refl;
      at = is.at;
      clauses = subst (λ kept. LeadTo table text ts from kept table is.at) (sym trees) is.clauses;
      end = c.piece_end-end.ensures names table text ts is.at c.args.to
          (subst (λ kept. KeptEndIs names table text ts is.at c.args.to kept c.in_ok-last.last read.end) (sym same)
          (c.in_ok-last.ensures.last table text ts is.at c.args.to is.end));
    }
