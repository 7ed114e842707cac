-- What is done one after another.
use Rattle.std.proofs.Common.{◌≡◌, List, [], ◌∷◌, ◌++◌, Ok, Err, refl, ap, ◌∙◌}
use Rattle.prolog_ops.specs.Table.{Ops}
use Rattle.clause_text.specs.declared.fault.TextFault.{TextFault}
use Rattle.clause_text.specs.Items.{Answer, then_on, each_on}

-- those before, and then those behind them
pub each_join : {A : Type 0} (on : A → Ops → Answer) (xs ys : List A) (table : Ops) → each_on on (xs ++ ys) table ≡ then_on (each_on on xs table) (λ left. each_on on ys left)
each_join on [] ys table = refl
each_join {A = A} on (x ∷ xs) ys table = behind (on x table) (λ next. each_join on xs ys next)
  where
    behind : (first : Answer) → ((next : Ops) → each_on on (xs ++ ys) next ≡ then_on (each_on on xs next) (λ left. each_on on ys left))
        → then_on first (λ next. each_on on (xs ++ ys) next) ≡ then_on (then_on first (λ next. each_on on xs next)) (λ left. each_on on ys left)
    behind (Ok next) joined = joined next
    behind (Err fault) joined = refl

pub each_then : {A : Type 0} (on : A → Ops → Answer) (xs ys : List A) (table left : Ops) → each_on on xs table ≡ Ok left → each_on on (xs ++ ys) table ≡ each_on on ys left
each_then on xs ys table left is = each_join on xs ys table ∙ ap (λ answer. then_on answer (λ next. each_on on ys next)) is

pub each_stops : {A : Type 0} (on : A → Ops → Answer) (xs ys : List A) (table : Ops) (fault : TextFault) → each_on on xs table ≡ Err fault → each_on on (xs ++ ys) table ≡ Err fault
each_stops on xs ys table fault is = each_join on xs ys table ∙ ap (λ answer. then_on answer (λ next. each_on on ys next)) is

pub each_one : {A : Type 0} (on : A → Ops → Answer) (x : A) (table : Ops) → each_on on (x ∷ []) table ≡ on x table
each_one on x table = alone (on x table)
  where
    alone : (first : Answer) → then_on first (λ next. Ok next) ≡ first
    alone (Ok next) = refl
    alone (Err fault) = refl
