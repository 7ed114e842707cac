-- A name in the report reads back as the name.
use Rattle.std.proofs.Common.{◌≡◌, inl, inr, ℕ, Bool, true, false, List, [], ◌∷◌, ◌++◌, codes, length, take, get_or, refl, ap, sym, subst, ◌∙◌, arith}
use Rattle.std.specs.Prelude.{IsUtf8, chars, if◌then◌else◌}
use Rattle.std.specs.List.{flat_map}
use Rattle.std.specs.Str.{bytes_eq}
use Rattle.std.proofs.lemmas.Bool.{or_cases}
use Rattle.std.proofs.Math.Seq.{take-length}
use Rattle.std.proofs.lemmas.Slice.Eq.{bytes_eq-Decides}
use Rattle.prolog_tokens.specs.declared.token.Kind.{Kind}
use Rattle.prolog_tokens.specs.declared.token.Kind.TheVariants.{Name, Quoted}
use Rattle.prolog_tokens.specs.declared.token.Token.{Token}
use Rattle.prolog_tokens.specs.BareNames.{is_bare_name}
use Rattle.prolog_tokens.specs.Cut.{IsCut}
use Rattle.prolog_tokens.specs.Layout.{IsLayout}
use Rattle.prolog_tokens.specs.Spelling.{Spells}
use Rattle.prolog_tokens.specs.Values.{IsNameText, IsQuotedText}
use Rattle.prolog_tokens.proofs.OneToken.{token_within, kind_once}
use Rattle.prolog_tokens.proofs.Names.{quoted_text_once}
use Rattle.loop_report.specs.Spelled.{quoted_char, quoted_name, spelled_name}
use Rattle.loop_report.specs.ReadBack.{ReadsBack, is_pair}
use Rattle.loop_report.proofs.QuotedNames.{is_quoted, is_quoted_text}
use Rattle.loop_report.proofs.BareSpells.{bare_spells}

-- the whole text as one token
abbrev whole : Kind → List ℕ → Token
whole kind text = record { kind = kind; after_layout = true; start = 0; end = length text }

no_layout : (text : List ℕ) (a : ℕ) → IsLayout text a a
no_layout text a = record { pieces = []; are = refl }

-- what is spelled from the beginning of a text to its end is its one token, since none can be longer
whole_cut : (kind : Kind) (text : List ℕ) → Spells text 0 (length text) kind → IsCut text (whole kind text ∷ [])
whole_cut kind text spells = record {
  last = length text;
  stand = (
    record {
      layout = no_layout text 0;
      spelled = record { spells = spells; longest = λ k e s. token_within text 0 e k s };
      told = (λ is. inl refl, λ is. refl);
    },
    refl,
  );
  layout = no_layout text (length text);
}

-- the text is one token of the name
record IsOneName (text name : List ℕ) : Type 0 where
  pub token : Token
  pub cut : IsCut text (token ∷ [])
  pub named : IsNameText text token name

bare_reads : (name : List ℕ) → is_bare_name name ≡ true → is_pair name ≡ false → IsOneName name name
bare_reads name bare single = record {
  token = whole Name name;
  cut = whole_cut Name name (bare_spells name bare single);
  named = sym (ap (λ n. take n name) (omega arith) ∙ take-length name);
}

quoted_reads : (name : List ℕ) → IsUtf8 name → IsOneName (quoted_name name) name
quoted_reads name utf8 = record {
  token = whole Quoted (quoted_name name);
  cut = whole_cut Quoted (quoted_name name) (is_quoted name);
  named = is_quoted_text name utf8;
}

either_reads : (name : List ℕ) (bare : Bool) → is_bare_name name ≡ bare → IsUtf8 name → is_pair name ≡ false → IsOneName (if bare then name else quoted_name name) name
either_reads name true is utf8 single = bare_reads name is single
either_reads name false is utf8 single = quoted_reads name utf8

pub reads_back : (name : List ℕ) → IsUtf8 name → is_pair name ≡ false → ReadsBack name
unfolding spelled_name
reads_back name utf8 single =
    let reads : IsOneName (if is_bare_name name then name else quoted_name name) name = either_reads name (is_bare_name name) refl utf8 single in
    record { token = reads.token; cut = reads.cut; named = reads.named }

-- names that are spelled alike are one name

first_byte : (name text : List ℕ) → name ≡ text → get_or name 0 0 ≡ get_or text 0 0
first_byte name text is = ap (λ bytes. get_or bytes 0 0) is

no_quoted_pair : (name text : List ℕ) → is_pair name ≡ true → name ≡ 39 ∷ text → ⊥
no_quoted_pair name text pair is = elim (or_cases (bytes_eq name (codes "[]")) (bytes_eq name (codes "{}")) pair) [
  | inl square ↦ omega (arith, first_byte name (39 ∷ text) is, first_byte name (codes "[]") ((bytes_eq-Decides name (codes "[]")).0 square))
  | inr curly ↦ omega (arith, first_byte name (39 ∷ text) is, first_byte name (codes "{}") ((bytes_eq-Decides name (codes "{}")).0 curly))
]

bare_unquoted : (name other : List ℕ) (pair : Bool) → is_pair name ≡ pair → is_bare_name name ≡ true → name ≡ quoted_name other → ⊥
bare_unquoted name other true pair bare is = no_quoted_pair name (flat_map quoted_char (chars other) ++ codes "'") pair is
bare_unquoted name other false single bare is =
    let word : Spells name 0 (length name) Name = bare_spells name bare single in
    let item : Spells name 0 (length name) Quoted = subst (λ text. Spells text 0 (length text) Quoted) (sym is) (is_quoted other) in
    let same : Name ≡ Quoted = kind_once name 0 (length name) Name Quoted word item in
    cc

quoted_once : (name other : List ℕ) → IsUtf8 name → IsUtf8 other → quoted_name name ≡ quoted_name other → name ≡ other
quoted_once name other utf8 utf8' is =
    quoted_text_once (quoted_name name) 39 0 (length (quoted_name name)) name other (inl refl) (is_quoted name) (is_quoted_text name utf8)
    (subst (λ text. IsQuotedText text 39 0 (length text) other) (sym is) (is_quoted_text other utf8'))

either_once : (name other : List ℕ) (bare bare' : Bool) → is_bare_name name ≡ bare → is_bare_name other ≡ bare' → IsUtf8 name → IsUtf8 other
    → (if bare then name else quoted_name name) ≡ (if bare' then other else quoted_name other) → name ≡ other
either_once name other true true one two utf8 utf8' is = is
either_once name other true false one two utf8 utf8' is = absurd (bare_unquoted name other (is_pair name) refl one is)
either_once name other false true one two utf8 utf8' is = absurd (bare_unquoted other name (is_pair other) refl two (sym is))
either_once name other false false one two utf8 utf8' is = quoted_once name other utf8 utf8' is

pub spelled_once : (name other : List ℕ) → IsUtf8 name → IsUtf8 other → spelled_name name ≡ spelled_name other → name ≡ other
unfolding spelled_name
spelled_once name other utf8 utf8' is = either_once name other (is_bare_name name) (is_bare_name other) refl refl utf8 utf8' is
