-- How the words of the nodes of a search are written, one by one.
use Rattle.std.proofs.Common.{◌≡◌, inl, inr, ℕ, ◌<◌, ◌≤◌, ◌+◌, List, length, get_or, set, refl, ap, ◌∙◌, sym, arith, get_or-set_same, get_or-set_other, length-set}
use Rattle.std.proofs.lemmas.Bool.{cases_eq}
use Rattle.search_stack.specs.Stack.{Stack, node}
use Rattle.blocked_table.specs.Words.{AreWritten}

pub written_none : (s : Stack) (from upto word : ℕ) (words : List ℕ) → upto ≤ from → AreWritten s from upto word words words
written_none s from upto word words none = record {
  each = refl;
  written = λ v stands. absurd (omega (arith, none, stands.from, stands.below));
  kept = λ v off. refl;
}

pub written_more : {s : Stack} {from upto word : ℕ} {old new : List ℕ} (v : ℕ) → AreWritten s from upto word old new → from ≤ upto → v ≡ node s upto
    → v < length old → AreWritten s from (upto + 1) word old (set new v word)
written_more {s} {from} {upto} {word} {old} {new} v was le is lt =
    let within : v < length new = omega (arith, lt, was.each) in
    record {
      each = length-set new v word ∙ was.each;
      written = λ u stands.
          elim (cases_eq u v) as (λ _. get_or (set new v word) u 0 ≡ word) [
            | inl same ↦ ap (λ k. get_or (set new v word) k 0) same ∙ get_or-set_same new v word 0 within
            | inr ne ↦
                get_or-set_other new v u word 0 ne
                ∙ was.written u
                (record {
                  place = stands.place;
                  from = stands.from;
                  below =
                      elim (cases_eq stands.place upto) as (λ _. stands.place < upto) [
                        | inl last ↦ absurd (ne (sym stands.is ∙ ap (node s) last ∙ sym is))
                        | inr before ↦ omega (arith, before, stands.below)
                      ];
                  is = stands.is;
                })
          ];
      kept = λ u off.
          let ne : u ≡ v → ⊥ = λ same.
          off (record { place = upto; from = le; below = omega arith; is = sym is ∙ sym same }) in
          get_or-set_other new v u word 0 ne
          ∙ was.kept u (λ stands. off (record { place = stands.place; from = stands.from; below = omega (arith, stands.below); is = stands.is }));
    }
