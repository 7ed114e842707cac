-- A bare name is one token as it stands, but for the two pairs of brackets.
use Rattle.std.proofs.Common.{◌≡◌, ◌≢◌, inl, inr, ℕ, ◌<◌, Bool, true, false, not, List, [], ◌∷◌, length, get_or, codes, refl, ap, sym, subst, ◌∙◌, arith, nat_eq}
use Rattle.std.proofs.lemmas.Bool.{or_cases, eqb-false, and_parts}
use Rattle.std.proofs.lemmas.List.Sums.{AllPass-from_list_all}
use Rattle.std.proofs.lemmas.Slice.Eq.{bytes_eq-Decides}
use Rattle.std.proofs.lemmas.List.FromFn.{length-range_with_len, get_or-range_with_len}
use Rattle.std.specs.Prelude.{◌&&◌, ◌||◌, ◌==◌}
use Rattle.std.specs.List.{list_any, range_with_len, starts_with}
use Rattle.std.specs.Str.{bytes_eq}
use Rattle.prolog_tokens.specs.declared.chars.Class.{Class}
use Rattle.prolog_tokens.specs.declared.chars.Class.TheVariants.{Small, Solo, Inner, Other}
use Rattle.prolog_tokens.specs.declared.token.Kind.TheVariants.{Name}
use Rattle.prolog_tokens.specs.Chars.{class_at, continues, is_graphic}
use Rattle.prolog_tokens.specs.BareNames.{is_small, all_are, is_letter_name, is_graphic_name, sign_names, is_bare_name}
use Rattle.prolog_tokens.specs.Layout.{IsOpener, IsHashBang}
use Rattle.prolog_tokens.specs.Spelling.{IsRun, IsEnd, Spells}
use Rattle.prolog_tokens.proofs.Classes.{byte_class, class_past, class_here, here}
use Rattle.loop_report.specs.ReadBack.{is_pair}

denied : (b : Bool) → not b ≡ true → b ≡ false
denied true is = absurd cc
denied false is = refl

-- the test holds of the class at each place
all_classes : (test : Class → Bool) (text : List ℕ) → all_are test text ≡ true → (k : ℕ) → k < length text → test (class_at text k) ≡ true
all_classes test text is k lt =
    let at : get_or (range_with_len 0 (length text)) k 0 ≡ k = omega (arith, get_or-range_with_len 0 (length text) k 0 lt) in
    subst (λ n. test (class_at text n) ≡ true) at
    (AllPass-from_list_all (λ n. test (class_at text n)) (range_with_len 0 (length text)) is k 0 (omega (arith, lt, length-range_with_len 0 (length text))))

small_is : (class : Class) → is_small class ≡ true → class ≡ Small
small_is Small is = refl
small_is _ is = absurd cc

past_end : (text : List ℕ) → class_at text (length text) ≢ Inner
past_end text is = let other : class_at text (length text) ≡ Other = class_past text (length text) (omega arith) in cc

letter_spells : (name : List ℕ) → is_letter_name name ≡ true → Spells name 0 (length name) Name
letter_spells name is =
    let parts : (is_small (class_at name 0) ≡ true) × (all_are continues name ≡ true) = and_parts (is_small (class_at name 0)) (all_are continues name) is in
    let first : class_at name 0 ≡ Small = small_is (class_at name 0) parts.0 in
    inl (record {
      begins = first;
      some = class_here name 0 (λ other. let two : Small ≡ Other = sym first ∙ other in cc);
      within = omega arith;
      goes_on = λ k from below. all_classes continues name parts.1 k below;
      ends = past_end name;
    })

no_opener : (name : List ℕ) → starts_with nat_eq name (codes "/*") ≡ false → IsOpener name 0 → ⊥
no_opener [] none opener = omega (arith, opener.slash)
no_opener (x ∷ []) none opener = omega (arith, opener.star)
no_opener (x ∷ y ∷ rest) none opener =
    let slash : x ≡ 47 = opener.slash in
    let star : y ≡ 42 = opener.star in
    let with_slash : starts_with nat_eq (47 ∷ y ∷ rest) (codes "/*") ≡ false = subst (λ n. starts_with nat_eq (n ∷ y ∷ rest) (codes "/*") ≡ false) slash none in
    let with_both : starts_with nat_eq (47 ∷ 42 ∷ rest) (codes "/*") ≡ false = subst (λ n. starts_with nat_eq (47 ∷ n ∷ rest) (codes "/*") ≡ false) star with_slash in
    let two : true ≡ false = with_both in
    cc

no_end : (name : List ℕ) → bytes_eq name (codes ".") ≡ false → IsEnd name 0 (length name) → ⊥
no_end [] none end = omega (arith, end.one)
no_end (x ∷ []) none end =
    let dot : x ≡ 46 = end.dot in
    let two : true ≡ false = subst (λ n. bytes_eq (n ∷ []) (codes ".") ≡ false) dot none in
    cc
no_end (x ∷ y ∷ rest) none end = omega (arith, end.one)

no_hash_bang : (name : List ℕ) → ((k : ℕ) → k < length name → is_graphic (class_at name k) ≡ true) → IsHashBang name 0 → ⊥
no_hash_bang name graphic line =
    let solo : class_at name 1 ≡ Solo = byte_class name 1 33 line.bang (omega arith) in
    let two : false ≡ true = sym (ap is_graphic solo) ∙ graphic 1 (here name 1 33 line.bang (omega arith)) in
    cc

graphic_run : (name : List ℕ) → (length name ≡ 0 → ⊥) → ((k : ℕ) → k < length name → is_graphic (class_at name k) ≡ true) → IsRun name 0 (length name)
graphic_run name some graphic = record {
  some = omega (arith, some);
  within = omega arith;
  graphic = λ k from below. graphic k below;
  longest = ap is_graphic (class_past name (length name) (omega arith));
}

graphic_spells : (name : List ℕ) → is_graphic_name name ≡ true → Spells name 0 (length name) Name
graphic_spells name is =
    let one = and_parts (not (length name == 0)) (not (starts_with nat_eq name (codes "/*")) && (not (bytes_eq name (codes ".")) && all_are is_graphic name)) is in
    let two = and_parts (not (starts_with nat_eq name (codes "/*"))) (not (bytes_eq name (codes ".")) && all_are is_graphic name) one.1 in
    let three = and_parts (not (bytes_eq name (codes "."))) (all_are is_graphic name) two.1 in
    let graphic : (k : ℕ) → k < length name → is_graphic (class_at name k) ≡ true = all_classes is_graphic name three.1 in
    inr (inl (record {
      run = graphic_run name (eqb-false (length name) 0 (denied (length name == 0) one.0)) graphic;
      no_comment = no_opener name (denied (starts_with nat_eq name (codes "/*")) two.0);
      no_end = no_end name (denied (bytes_eq name (codes ".")) three.0);
      no_hash_bang = no_hash_bang name graphic;
    }))

solo_spells : (name : List ℕ) → class_at name 0 ≡ Solo → length name ≡ 1 → Spells name 0 (length name) Name
solo_spells name solo one = inr (inr (record { is = solo; one = one }))

square_pair : (name : List ℕ) → codes "[]" ≡ name → is_pair name ≡ true
square_pair name is = subst (λ n. is_pair n ≡ true) is refl

curly_pair : (name : List ℕ) → codes "{}" ≡ name → is_pair name ≡ true
curly_pair name is = subst (λ n. is_pair n ≡ true) is refl

no_pair : (name : List ℕ) → is_pair name ≡ false → (bytes_eq (codes "[]") name || (bytes_eq (codes "{}") name || false)) ≡ true → ⊥
no_pair name single is = elim (or_cases (bytes_eq (codes "[]") name) (bytes_eq (codes "{}") name || false) is) [
  | inl square ↦ let two : true ≡ false = sym (square_pair name ((bytes_eq-Decides (codes "[]") name).0 square)) ∙ single in cc
  | inr rest ↦ elim (or_cases (bytes_eq (codes "{}") name) false rest) [
    | inl curly ↦ let two : true ≡ false = sym (curly_pair name ((bytes_eq-Decides (codes "{}") name).0 curly)) ∙ single in cc
    | inr none ↦ let two : true ≡ false = sym none in cc
  ]
]

-- the names that are signs, one by one
sign_spells : (name : List ℕ) → list_any (λ sign. bytes_eq sign name) sign_names ≡ true → is_pair name ≡ false → Spells name 0 (length name) Name
sign_spells name is single =
    elim (or_cases (bytes_eq (codes "!") name) (bytes_eq (codes ";") name || (bytes_eq (codes "[]") name || (bytes_eq (codes "{}") name || false))) is) [
      | inl cut ↦ subst (λ n. Spells n 0 (length n) Name) ((bytes_eq-Decides (codes "!") name).0 cut) (solo_spells (codes "!") refl refl)
      | inr rest ↦ elim (or_cases (bytes_eq (codes ";") name) (bytes_eq (codes "[]") name || (bytes_eq (codes "{}") name || false)) rest) [
        | inl semicolon ↦ subst (λ n. Spells n 0 (length n) Name) ((bytes_eq-Decides (codes ";") name).0 semicolon) (solo_spells (codes ";") refl refl)
        | inr pair ↦ absurd (no_pair name single pair)
      ]
    ]

-- a bare name spells a Name from its beginning to its end
pub bare_spells : (name : List ℕ) → is_bare_name name ≡ true → is_pair name ≡ false → Spells name 0 (length name) Name
bare_spells name is single = elim (or_cases (is_letter_name name) (is_graphic_name name || list_any (λ sign. bytes_eq sign name) sign_names) is) [
  | inl letters ↦ letter_spells name letters
  | inr rest ↦ elim (or_cases (is_graphic_name name) (list_any (λ sign. bytes_eq sign name) sign_names) rest) [
    | inl graphic ↦ graphic_spells name graphic
    | inr sign ↦ sign_spells name sign single
  ]
]
