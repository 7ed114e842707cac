-- What is said in turn.
use Rattle.std.proofs.Common.{◌≡◌, ℕ, List, [], ◌∷◌, ◌++◌, Result, Ok, Err, ap, sym, ◌∙◌, subst, refl, append_assoc, append-nil}
use Rattle.std.specs.Prelude.{◌+◌, ◌<◌, suc, length, get_or, map, take, drop}
use Rattle.std.proofs.lemmas.List.{map_more, map-append, take-append-drop}
use Rattle.std.proofs.Math.Seq.{drop-cons}
use Rattle.prolog_terms.specs.declared.term.Term.{Term}
use Rattle.prolog_terms.specs.Tree.{Tree}
use Rattle.prolog_terms.specs.Terms.{tree_of}
use Rattle.module_table.specs.declared.said.FactFault.{FactFault}
use Rattle.module_table.specs.declared.said.FactFault.TheVariants.{At, NoMemory}
use Rattle.module_table.specs.Said.{Refusal, more, in_turn, each_said, IsWhy}

abbrev Told : Type 0 → Type 0
Told A = Result (List A) Refusal

abbrev told : {A : Type 0} → List A → Told A
told xs = Ok xs

module _ {A : Type 0} where
  pub ok_once : (xs ys : List A) → told xs ≡ told ys → xs ≡ ys
  ok_once xs ys is = cc

  pub more_more : (xs ys : List A) (said : Told A) → more xs (more ys said) ≡ more (xs ++ ys) said
  more_more xs ys (Ok zs) = ap (λ l. Ok l) (sym (append_assoc xs ys zs))
  more_more xs ys (Err refusal) = refl

  pub more_none : (said : Told A) → more [] said ≡ said
  more_none (Ok xs) = refl
  more_none (Err refusal) = refl

  pub in_turn_assoc : (a b c : Told A) → in_turn (in_turn a b) c ≡ in_turn a (in_turn b c)
  in_turn_assoc (Ok xs) (Ok ys) c = sym (more_more xs ys c)
  in_turn_assoc (Ok xs) (Err refusal) c = refl
  in_turn_assoc (Err refusal) b c = refl

  pub in_turn_none : (a : Told A) → in_turn a (Ok []) ≡ a
  in_turn_none (Ok xs) = ap (λ l. Ok l) (append-nil xs)
  in_turn_none (Err refusal) = refl

  -- one is said, and then the other
  pub goes_on : (old mid new : List A) (a b : Told A) → more old a ≡ Ok mid → more mid b ≡ Ok new → more old (in_turn a b) ≡ Ok new
  goes_on old mid new (Ok xs) b is also = more_more old xs b ∙ (ap (λ l. more l b) (ok_once (old ++ xs) mid is) ∙ also)
  goes_on old mid new (Err refusal) b is also = let both : Err refusal ≡ Ok mid = is in absurd (cc)

  -- the refusal of the first is that of both
  pub stops_first : (a b : Told A) (fault : FactFault) → IsWhy a fault → IsWhy (in_turn a b) fault
  stops_first a b (At cause offset) why = ap (λ s. in_turn s b) why
  stops_first a b NoMemory why = tt

  -- and that of the second, where the first is none
  pub stops_second : (old mid : List A) (a b : Told A) (fault : FactFault) → more old a ≡ Ok mid → IsWhy b fault → IsWhy (in_turn a b) fault
  stops_second old mid (Ok xs) b (At cause offset) is why = ap (more xs) why
  stops_second old mid (Ok xs) b NoMemory is why = tt
  stops_second old mid (Err refusal) b fault is why = let both : Err refusal ≡ Ok mid = is in absurd (cc)

  -- what each of some trees says

  module _ (says : Tree → Told A) where
    pub each_append : (trees others : List Tree) → each_said says (trees ++ others) ≡ in_turn (each_said says trees) (each_said says others)
    each_append [] others = sym (more_none (each_said says others))
    each_append (tree ∷ trees) others = ap (in_turn (says tree)) (each_append trees others) ∙ sym (in_turn_assoc (says tree) (each_said says trees) (each_said says others))

    pub each_more : (trees : List Tree) (tree : Tree) → each_said says (trees ++ tree ∷ []) ≡ in_turn (each_said says trees) (says tree)
    each_more trees tree = each_append trees (tree ∷ []) ∙ ap (in_turn (each_said says trees)) (in_turn_none (says tree))

    pub each_step : (terms : List Term) (at : ℕ) (term : Term) → at < length terms → term ≡ get_or terms at term
        → each_said says (map tree_of (take (at + 1) terms)) ≡ in_turn (each_said says (map tree_of (take at terms))) (says (tree_of term))
    each_step terms at term below is =
        ap (each_said says) (map_more tree_of terms at term below)
        ∙ (ap (λ x. each_said says (map tree_of (take at terms) ++ tree_of x ∷ [])) (sym is) ∙ each_more (map tree_of (take at terms)) (tree_of term))

    pub why_within : (before behind : List Tree) (tree : Tree) (fault : FactFault) (old mid : List A) → more old (each_said says before) ≡ Ok mid → IsWhy (says tree) fault
        → IsWhy (each_said says (before ++ tree ∷ behind)) fault
    why_within before behind tree fault old mid is why =
        subst (λ said. IsWhy said fault) (sym (each_append before (tree ∷ behind)))
        (stops_second old mid (each_said says before) (in_turn (says tree) (each_said says behind)) fault is
        (stops_first (says tree) (each_said says behind) fault why))

    pub each_stops : (terms : List Term) (at : ℕ) (term : Term) (fault : FactFault) (old mid : List A) → at < length terms → term ≡ get_or terms at term
        → more old (each_said says (map tree_of (take at terms))) ≡ Ok mid → IsWhy (says (tree_of term)) fault → IsWhy (each_said says (map tree_of terms)) fault
    each_stops terms at term fault old mid below is before why =
        let parts : take at terms ++ term ∷ drop (suc at) terms ≡ terms =
        ap (λ l. take at terms ++ l) (ap (λ x. x ∷ drop (suc at) terms) is ∙ sym (drop-cons terms at term below)) ∙ take-append-drop at terms in
        subst (λ all. IsWhy (each_said says all) fault) (sym (map-append tree_of (take at terms) (term ∷ drop (suc at) terms)) ∙ ap (map tree_of) parts)
        (why_within (map tree_of (take at terms)) (map tree_of (drop (suc at) terms)) (tree_of term) fault old mid before why)
