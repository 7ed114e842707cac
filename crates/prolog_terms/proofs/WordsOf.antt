-- Each token has a word, and lists of words stand for lists of tokens.
use Rattle.std.proofs.Common.{◌≡◌, ℕ, zero, suc, ◌+◌, ◌-◌, Bool, true, false, List, [], ◌∷◌, ◌++◌, length, take, Option, Some, None, slice_get, slice_range, refl, ap, sym, ◌∙◌, subst, inl, inr, arith}
use Rattle.std.specs.List.{flat_map}
use Rattle.std.proofs.lemmas.Bool.{cases_lt}
use Rattle.prolog_tokens.specs.declared.token.Kind.{Kind}
use Rattle.prolog_tokens.specs.declared.token.Kind.TheVariants.{Name, Quoted, Variable, Integer, Float, Str, BackStr, OpenRound, CloseRound, OpenSquare, CloseSquare, OpenCurly, CloseCurly, Comma, Bar, End}
use Rattle.prolog_tokens.specs.declared.token.Token.{Token}
use Rattle.prolog_tokens.specs.Quoted.{AreParts}
use Rattle.prolog_tokens.specs.Spelling.{Spells}
use Rattle.prolog_tokens.specs.Values.{part_bytes, NameTextBy, IsIntegerValue, greatest_value}
use Rattle.prolog_terms.specs.Words.{Word, is_name}
use Rattle.prolog_terms.specs.Clause.{IsWordOf, AreWords}
use Rattle.prolog_terms.proofs.PartsMade.{IsToken}

-- a name that stands for a token
record HasName (text : List ℕ) (a b : ℕ) (k : Kind) : Type 0 where
  name : List ℕ
  is : NameTextBy text a b name k

has_name : (text : List ℕ) (a b : ℕ) (k : Kind) → Spells text a b k → is_name k ≡ true → HasName text a b k
has_name text a b Name s h = record { name = slice_range text a b; is = refl }
has_name text a b Quoted s h =
    let end : b - 1 ≡ s.close = omega (arith, s.ends) in
    record {
      name = flat_map (part_bytes 39) s.lead.parts;
      is = record { parts = s.lead.parts; are = subst (λ e. AreParts text 39 (a + 1) s.lead.parts e) (sym end) s.lead.are; is = refl };
    }
has_name text a b Variable s h = cc
has_name text a b Integer s h = cc
has_name text a b Float s h = cc
has_name text a b Str s h = cc
has_name text a b BackStr s h = cc
has_name text a b OpenRound s h = cc
has_name text a b CloseRound s h = cc
has_name text a b OpenSquare s h = cc
has_name text a b CloseSquare s h = cc
has_name text a b OpenCurly s h = cc
has_name text a b CloseCurly s h = cc
has_name text a b Comma s h = cc
has_name text a b Bar s h = cc
has_name text a b End s h = cc

record HasValue (text : List ℕ) (t : Token) : Type 0 where
  value : Option ℕ
  is : IsIntegerValue text t value

no_value : (text : List ℕ) (t : Token) (k : Kind) → t.kind ≡ k → (k ≡ Integer → ⊥) → HasValue text t
no_value text t k e differs = record { value = None; is = inl (λ f. differs (sym e ∙ f)) }

has_value : (text : List ℕ) (t : Token) (k : Kind) → t.kind ≡ k → Spells text t.start t.end k → HasValue text t
has_value text t Integer e s = elim (cases_lt greatest_value s.0) [
  | inl over ↦ record { value = None; is = inr (s.0, over, s.1) }
  | inr low ↦ record { value = Some s.0; is = (e, low, s.1) }
]
has_value text t Name e s = no_value text t Name e (λ f. cc)
has_value text t Quoted e s = no_value text t Quoted e (λ f. cc)
has_value text t Variable e s = no_value text t Variable e (λ f. cc)
has_value text t Float e s = no_value text t Float e (λ f. cc)
has_value text t Str e s = no_value text t Str e (λ f. cc)
has_value text t BackStr e s = no_value text t BackStr e (λ f. cc)
has_value text t OpenRound e s = no_value text t OpenRound e (λ f. cc)
has_value text t CloseRound e s = no_value text t CloseRound e (λ f. cc)
has_value text t OpenSquare e s = no_value text t OpenSquare e (λ f. cc)
has_value text t CloseSquare e s = no_value text t CloseSquare e (λ f. cc)
has_value text t OpenCurly e s = no_value text t OpenCurly e (λ f. cc)
has_value text t CloseCurly e s = no_value text t CloseCurly e (λ f. cc)
has_value text t Comma e s = no_value text t Comma e (λ f. cc)
has_value text t Bar e s = no_value text t Bar e (λ f. cc)
has_value text t End e s = no_value text t End e (λ f. cc)

pub record HasWord (text : List ℕ) (t : Token) : Type 0 where
  pub word : Word
  pub is : IsWordOf text t word

pub has_word : (text : List ℕ) (t : Token) → IsToken text t → HasWord text t
has_word text t token = by_name (is_name t.kind) refl
  where
    value : HasValue text t
    value = has_value text t t.kind refl token.spelled.spells

    by_name : (b : Bool) → is_name t.kind ≡ b → HasWord text t
    by_name true e =
        let found = has_name text t.start t.end t.kind token.spelled.spells e in
        record {
          word = record { kind = t.kind; text = found.name; value = (has_value text t t.kind refl token.spelled.spells).value; after_layout = t.after_layout; span = record { from = t.start; to = t.end } };
          is = record {
            kind = refl;
            named = λ h. found.is;
            unnamed = λ h. let both : true ≡ false = sym e ∙ h in cc;
            value = (has_value text t t.kind refl token.spelled.spells).is;
            layout = refl;
            span = refl;
          };
        }
    by_name false e =
        record {
          word = record { kind = t.kind; text = []; value = (has_value text t t.kind refl token.spelled.spells).value; after_layout = t.after_layout; span = record { from = t.start; to = t.end } };
          is = record {
            kind = refl;
            named = λ h. let both : true ≡ false = sym h ∙ e in cc;
            unnamed = λ h. refl;
            value = (has_value text t t.kind refl token.spelled.spells).is;
            layout = refl;
            span = refl;
          };
        }

pub record HaveWords (text : List ℕ) (ts : List Token) : Type 0 where
  pub words : List Word
  pub are : AreWords text ts words

pub have_words : (text : List ℕ) (ts : List Token) → ((k : ℕ) (t : Token) → slice_get ts k ≡ Some t → IsToken text t) → HaveWords text ts
have_words text [] each = record { words = []; are = tt }
have_words text (t ∷ ts) each =
    let first = has_word text t (each zero t refl) in
    let rest = have_words text ts (λ k u h. each (suc k) u h) in
    record { words = first.word ∷ rest.words; are = (first.is, rest.are) }

pub are_append : (text : List ℕ) (ts us : List Token) (ws vs : List Word) → AreWords text ts ws → AreWords text us vs → AreWords text (ts ++ us) (ws ++ vs)
are_append text [] us [] vs h k = k
are_append text [] us (w ∷ ws) vs h k = absurd h
are_append text (t ∷ ts) us [] vs h k = absurd h
are_append text (t ∷ ts) us (w ∷ ws) vs h k = (h.0, are_append text ts us ws vs h.1 k)

pub are_take : (text : List ℕ) (ts : List Token) (ws : List Word) (n : ℕ) → AreWords text ts ws → AreWords text (take n ts) (take n ws)
are_take text [] [] zero h = tt
are_take text [] [] (suc n) h = tt
are_take text [] (w ∷ ws) n h = absurd h
are_take text (t ∷ ts) [] n h = absurd h
are_take text (t ∷ ts) (w ∷ ws) zero h = tt
are_take text (t ∷ ts) (w ∷ ws) (suc n) h = (h.0, are_take text ts ws n h.1)

pub are_length : (text : List ℕ) (ts : List Token) (ws : List Word) → AreWords text ts ws → length ws ≡ length ts
are_length text [] [] h = refl
are_length text [] (w ∷ ws) h = absurd h
are_length text (t ∷ ts) [] h = absurd h
are_length text (t ∷ ts) (w ∷ ws) h = ap suc (are_length text ts ws h.1)

-- words for tokens with one more at their end
pub record AreAndLast (text : List ℕ) (ts : List Token) (t : Token) (ws : List Word) : Type 0 where
  pub front : List Word
  pub last : Word
  pub is : ws ≡ front ++ last ∷ []
  pub are : AreWords text ts front
  pub at_last : IsWordOf text t last

pub are_last : (text : List ℕ) (ts : List Token) (t : Token) (ws : List Word) → AreWords text (ts ++ t ∷ []) ws → AreAndLast text ts t ws
are_last text [] t [] h = absurd h
are_last text [] t (w ∷ []) h = record { front = []; last = w; is = refl; are = tt; at_last = h.0 }
are_last text [] t (w ∷ v ∷ ws) h = absurd h.1
are_last text (u ∷ ts) t [] h = absurd h
are_last text (u ∷ ts) t (w ∷ ws) h =
    let rest = are_last text ts t ws h.1 in
    record { front = w ∷ rest.front; last = rest.last; is = ap (λ xs. w ∷ xs) rest.is; are = (h.0, rest.are); at_last = rest.at_last }
