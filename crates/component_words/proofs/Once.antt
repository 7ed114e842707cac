-- Flags that are given once.
use Rattle.std.proofs.Common.{◌≡◌, List, [], ◌∷◌, ◌++◌, true, false, length, get_or, sym, ap, ◌∙◌, arith, length-append}
use Rattle.std.proofs.lemmas.Bool.{false_from_ne_true}
use Rattle.std.proofs.lemmas.List.{get_or_append_left}
use Rattle.std.proofs.Math.Seq.{get_or-append_seam}
use Rattle.std.proofs.lemmas.List.Folds.{Any-from_list_any, list_any_at}
use Rattle.std.proofs.lemmas.List.Quantifiers.{all_pairs_push}
use Rattle.component_words.specs.declared.flag.Flag.{Flag}
use Rattle.component_words.specs.Words.{is_given, same_flag}
use Rattle.component_words.specs.Settings.{IsOnce}

-- a flag that wasn't given is put behind the others
pub push_once : (flags : List Flag) (own : Flag) → IsOnce flags → is_given flags own ≡ false → IsOnce (flags ++ own ∷ [])
push_once flags own once new =
    all_pairs_push (λ a b. same_flag a b ≡ false) flags own once
    (λ k d within.
    false_from_ne_true (same_flag (get_or flags k d) own)
    (λ same. let both : true ≡ false = sym (list_any_at (λ other. same_flag other own) flags k d within same) ∙ new in cc))

-- one that was given is given twice
pub given_twice : (flags : List Flag) (own : Flag) (more : List Flag) → is_given flags own ≡ true → IsOnce (flags ++ own ∷ more) → ⊥
given_twice flags own more given once =
    let at = Any-from_list_any (λ other. same_flag other own) flags given in
    let first : get_or (flags ++ own ∷ more) at.0 at.1 ≡ at.1 = get_or_append_left flags (own ∷ more) at.1 at.0 at.2 ∙ at.3 in
    let second : get_or (flags ++ own ∷ more) (length flags) at.1 ≡ own = get_or-append_seam flags own more at.1 in
    let apart : same_flag (get_or (flags ++ own ∷ more) at.0 at.1) (get_or (flags ++ own ∷ more) (length flags) at.1) ≡ false =
    once at.0 (length flags) at.1 at.2 (omega (arith, length-append flags (own ∷ more))) in
    let both : true ≡ false = sym at.4 ∙ sym (ap (λ f. same_flag f own) first) ∙ sym (ap (same_flag (get_or (flags ++ own ∷ more) at.0 at.1)) second) ∙ apart in
    cc
