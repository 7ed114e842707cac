use Rattle.std.proofs.Common.{◌≡◌, ℕ, Bool, true, false, List, Option, ap, sym, ◌∙◌, refl}
use Rattle.prolog_tokens.specs.declared.token.Kind.{Kind}
use Rattle.prolog_names.specs.Names.{name_at}
use Rattle.prolog_terms.specs.declared.term.Span.{Span}
use Rattle.prolog_terms.specs.Words.{Word, is_name}
use Rattle.prolog_terms.proofs.word.word_of.Goals as goal

abbrev word : Kind → List ℕ → Option ℕ → Bool → Span → Word
word k text value layout span = record { kind = k; text = text; value = value; after_layout = layout; span = span }

same_word : (k j : Kind) (x y : List ℕ) (v u : Option ℕ) (a b : Bool) (s r : Span) → k ≡ j → x ≡ y → v ≡ u → a ≡ b → s ≡ r → word k x v a s ≡ word j y u b r
same_word k j x y v u a b s r e1 e2 e3 e4 e5 = cc

pub returns-clause-only : goal.returns-clause-only
returns-clause-only c =
    let t = c.args.token in
    let name = name_at c.args.names.now c.args.number in
    λ o is.
    let texts : (b : Bool) → is_name t.kind ≡ b → o.text ≡ name =
    λ b e. elim b as (λ b. is_name t.kind ≡ b → o.text ≡ name) [
      | true ↦ λ e. c.requires.numbered.only e o.text (is.named e)
      | false ↦ λ e. is.unnamed e ∙ sym (ap (name_at c.args.names.now) (c.requires.numbered.unnamed e) ∙ c.names_law.ensures.empty)
    ] e in
    same_word o.kind t.kind o.text name o.value c.integer_value.result o.after_layout t.after_layout o.span (record { from = t.start; to = t.end })
    is.kind (texts (is_name t.kind) refl) (c.integer_value.ensures.only o.value is.value) is.layout is.span
