-- The clauses and goals that the facts of a file keep weigh no more than the clauses of the file.
use Rattle.std.proofs.Common.{ℕ, ◌≤◌, List, length, arith}
use Rattle.std.specs.Prelude.{All}
use Rattle.std.proofs.lemmas.List.Elements.{All-nil, All-cons}
use Rattle.prolog_terms.specs.Tree.{Tree, Trees, more, none}
use Rattle.prolog_terms.specs.Views.{trees_in}
use Rattle.prolog_terms.specs.Weight.{weight, weights}
use Rattle.prolog_terms.proofs.ViewLemmas.{items_count}
use Rattle.module_table.specs.Defined.{Predicate}
use Rattle.module_table.specs.Metas.{Declaration}
use Rattle.module_table.specs.Facts.{Facts, AreFacts}
use Rattle.module_table.proofs.HandedDown.{HandsDown}
use Rattle.module_table.proofs.FactsKept.{facts_kept}

module _ (n : ℕ) where
  abbrev IsLight : Tree → Type 0
  IsLight tree = weight tree ≤ n

  all_light : (trees : Trees) → weights trees ≤ n → All IsLight (trees_in trees)
  all_light none light = All-nil IsLight
  all_light (more tree trees) light = All-cons IsLight tree (trees_in trees) (omega (arith, light)) (all_light trees (omega (arith, light)))

  weighing : HandsDown
  weighing = record {
    Good = IsLight;
    At = λ offset. Unit {0};
    Many = λ m. m ≤ n;
    start = λ tree light. tt;
    inner = λ inner span light. omega (arith, light);
    args = λ name args form span light. all_light args light;
    many = λ name args form span light. omega (arith, items_count args, light);
    items = λ items span light. all_light items light;
  }

pub clauses_light : (n : ℕ) (user : List ℕ) (trees : List Tree) (facts : Facts) → All (λ tree. weight tree ≤ n) trees → AreFacts user trees facts
    → All (λ (p : Predicate). All (λ tree. weight tree ≤ n) p.clauses) facts.defined
unfolding weighing
clauses_light n user trees facts all are = (facts_kept (weighing n) user trees facts all are).of_clauses

pub goals_light : (n : ℕ) (user : List ℕ) (trees : List Tree) (facts : Facts) → All (λ tree. weight tree ≤ n) trees → AreFacts user trees facts
    → All (λ tree. weight tree ≤ n) facts.goals
unfolding weighing
goals_light n user trees facts all are = (facts_kept (weighing n) user trees facts all are).of_goals

pub metas_light : (n : ℕ) (user : List ℕ) (trees : List Tree) (facts : Facts) → All (λ tree. weight tree ≤ n) trees → AreFacts user trees facts
    → All (λ (d : Declaration). length d.args ≤ n) facts.metas
unfolding weighing
metas_light n user trees facts all are = λ i d below. ((facts_kept (weighing n) user trees facts all are).of_metas i d below).1
