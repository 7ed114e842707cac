-- The facts of a file, and their refusal, stand where terms of the text start.
use Rattle.std.proofs.Common.{◌≡◌, ℕ, List, Err, subst}
use Rattle.std.specs.Prelude.{All}
use Rattle.std.proofs.lemmas.List.Elements.{All-nil, All-cons}
use Rattle.prolog_tokens.specs.Places.{IsOffset}
use Rattle.prolog_terms.specs.Tree.{Tree, Trees, more as with_more, none}
use Rattle.prolog_terms.specs.Views.{trees_in}
use Rattle.clause_text.specs.Offsets.{HasOffsets, HaveOffsets}
use Rattle.clause_text.proofs.TermOffsets.{span_stands}
use Rattle.module_table.specs.Said.{Refusal}
use Rattle.module_table.specs.Facts.{Facts, AreFacts, file_said}
use Rattle.module_table.specs.Placed.{ArePlacedIn}
use Rattle.module_table.proofs.HandedDown.{HandsDown}
use Rattle.module_table.proofs.SaidKept.{Kept, file_kept}
use Rattle.module_table.proofs.FactsKept.{facts_kept}

module _ (text : List ℕ) where
  trees_placed : (trees : Trees) → HaveOffsets text trees → All (HasOffsets text) (trees_in trees)
  trees_placed none stand = All-nil (HasOffsets text)
  trees_placed (with_more tree trees) stand = All-cons (HasOffsets text) tree (trees_in trees) stand.0 (trees_placed trees stand.1)

  offsets : HandsDown
  offsets = record {
    Good = HasOffsets text;
    At = IsOffset text;
    Many = λ n. Unit {0};
    start = span_stands text;
    inner = λ inner span stands. stands.1;
    args = λ name args form span stands. trees_placed args stands.1;
    many = λ name args form span stands. tt;
    items = λ items span stands. trees_placed items stands.1;
  }

pub refusals_placed : (text user : List ℕ) (trees : List Tree) (refusal : Refusal) → All (HasOffsets text) trees → file_said user trees ≡ Err refusal → IsOffset text refusal.offset
unfolding offsets
refusals_placed text user trees refusal all is = subst (Kept (offsets text)) is (file_kept (offsets text) user trees all)

pub facts_placed : (text user : List ℕ) (trees : List Tree) (facts : Facts) → All (HasOffsets text) trees → AreFacts user trees facts → ArePlacedIn text facts
unfolding offsets
facts_placed text user trees facts all are =
    let kept = facts_kept (offsets text) user trees facts all are in
    record {
      of_module = kept.of_module;
      of_exports = kept.of_exports;
      of_loads = λ i load below. (kept.of_loads i load below).0;
      of_items = λ i load below. (kept.of_loads i load below).1;
      of_clauses = kept.of_clauses;
      of_metas = λ i d below. (kept.of_metas i d below).0;
      of_goals = kept.of_goals;
    }
