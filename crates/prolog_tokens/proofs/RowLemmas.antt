-- Rows of tokens that go on, are joined, and become the cut of a text.
use Rattle.std.proofs.Common.{◌≡◌, ◌≢◌, ℕ, ◌<◌, ◌⊎◌, ◌↔◌, List, All, Option, Some, None, [], ◌∷◌, ◌++◌, length, get_or, true, nat_lt, Result, Ok, Err, IsTrue, Vec, Global, inl, inr, ap, sym, ◌∙◌, subst, refl, rules, arith, append_assoc}
use Rattle.std.specs.Prelude.{IfErr, IfSome, IsErrAnd, IsUtf8}
use Rattle.std.proofs.lemmas.List.{append-nil}
use Rattle.std.proofs.lemmas.List.Elements.{All-head, All-tail}
use Rattle.prolog_tokens.specs.declared.token.Token.{Token}
use Rattle.prolog_tokens.specs.declared.token.TokenFault.{TokenFault}
use Rattle.prolog_tokens.specs.declared.token.TokenFault.TheVariants.{BadChar, OpenQuote, OpenComment, BadEscape, NoMemory}
use Rattle.prolog_tokens.specs.declared.rows.TokenRow.{TokenRow}
use Rattle.prolog_tokens.specs.Places.{IsOffset, fault_offset}
use Rattle.prolog_tokens.specs.Layout.{IsLayout}
use Rattle.prolog_tokens.specs.Cut.{IsNext, StandBetween, IsCut, IsWrongNext, HasFault}
use Rattle.prolog_tokens.specs.declared.rows.Span.{Span}
use Rattle.prolog_tokens.specs.Rows.{IsBegin, StandSideBySide, StandsFrom, GoesOn, StandsNext, EndsClause, EachEndsClause, tokens_of}
use Rattle.prolog_tokens.proofs.Families.{token_here}
use Rattle.prolog_tokens.proofs.OneToken.{token_within}
use Rattle.prolog_tokens.proofs.Boundaries.{token_boundary, wrong_offset}
use Rattle.prolog_tokens.proofs.Between.{stand_more}

-- what holds of the fault holds of the error that tells it
pub on_fault : {T : Type 0} (r : Result T TokenFault) (fault : TokenFault) (P : TokenFault → Type 0) → IsErrAnd r (λ told. told ≡ fault) → P fault → IfErr r P
on_fault (Ok x) fault P told holds = tt
on_fault (Err e) fault P told holds = subst P (sym told) holds

-- behind a token a character begins
pub begin_behind : (text : List ℕ) (at : ℕ) (t : Token) → IsUtf8 text → IsNext text at t → IsBegin text t.end
begin_behind text at t utf8 next = record {
  within = token_within text t.start t.end t.kind next.spelled.spells;
  begins = token_boundary text t.start t.end t.kind utf8 next.spelled.spells;
}

-- and behind tokens that stand from such a place on
pub begin_after : (text : List ℕ) (a b : ℕ) (ts : List Token) → IsUtf8 text → IsBegin text a → StandBetween text a ts b → IsBegin text b
begin_after text a b [] utf8 begin is = subst (IsBegin text) is begin
begin_after text a b (t ∷ ts) utf8 begin (next, rest) = begin_after text t.end b ts utf8 (begin_behind text a t utf8 next) rest

stand_joined : (text : List ℕ) (a b c : ℕ) (ts us : List Token) → StandBetween text a ts b → StandBetween text b us c → StandBetween text a (ts ++ us) c
stand_joined text a b c [] us is more = subst (λ n. StandBetween text n us c) (sym is) more
stand_joined text a b c (t ∷ ts) us (next, rest) more = (next, stand_joined text t.end b c ts us rest more)

-- a token that stands next where one starts that another row has is that one
same_next : (text : List ℕ) (at from : ℕ) (t u : Token) → IsNext text at t → IsNext text from u → t.start ≡ u.start → t.after_layout ≡ u.after_layout → IsNext text at u
same_next text at from t u here there start told = record {
  layout = subst (IsLayout text at) start here.layout;
  spelled = there.spelled;
  told = subst (λ n. IsTrue u.after_layout ↔ ((at ≡ 0) ⊎ (at < n))) start (subst (λ l. IsTrue l ↔ ((at ≡ 0) ⊎ (at < t.start))) told here.told);
}

-- the tokens of another row stand behind those of one, if the first of them does
pub row_joined : (text : List ℕ) (b from e : ℕ) (us : List Token) (t u : Token) → StandBetween text from us e → true ≡ nat_lt 0 (length us) → u ≡ get_or us 0 u
    → IsNext text b t → t.start ≡ u.start → t.after_layout ≡ u.after_layout → StandBetween text b us e
row_joined text b from e [] t u stand some first next start told = cc
row_joined text b from e (v ∷ us) t u (here, rest) some first next start told =
    (same_next text b from t v next here (start ∙ ap (λ (x : Token). x.start) first) (told ∙ ap (λ (x : Token). x.after_layout) first), rest)

pub goes_on_by : (text : List ℕ) (one two : TokenRow) (us all : List Token) (e : ℕ) → GoesOn text one two → StandBetween text two.end us e → all ≡ two.tokens.items ++ us
    → (a : ℕ) → StandsFrom text a one → StandBetween text a all e
goes_on_by text one two us all e on more is a stand =
    subst (λ ts. StandBetween text a ts e) (sym is) (stand_joined text a two.end e two.tokens.items us (on a stand) more)

pub goes_on_one : (text : List ℕ) (one two : TokenRow) (t : Token) (all : List Token) → GoesOn text one two → IsNext text two.end t → all ≡ two.tokens.items ++ t ∷ []
    → (a : ℕ) → StandsFrom text a one → StandBetween text a all t.end
goes_on_one text one two t all on next is a stand =
    subst (λ ts. StandBetween text a ts t.end) (sym is) (stand_more text a two.end two.tokens.items t (on a stand) next)

pub tokens_fault : (text : List ℕ) (ts : List Token) (last : ℕ) (fault : TokenFault) → StandBetween text 0 ts last → IsWrongNext text last fault → HasFault text fault
tokens_fault text ts last fault stand next = record { tokens = ts; last = last; stand = stand; next = next }

pub row_fault : (text : List ℕ) (row : TokenRow) (fault : TokenFault) → StandsFrom text 0 row → IsWrongNext text row.end fault → HasFault text fault
row_fault text row fault stand next = record { tokens = row.tokens.items; last = row.end; stand = stand; next = next }

-- behind which no token stands up to the end of the text
pub tokens_cut : (text : List ℕ) (ts : List Token) (last : ℕ) (next : Option Token) → StandBetween text 0 ts last → StandsNext text last (length text) next → IsCut text ts
tokens_cut text ts last next stand stands = record { last = last; stand = stand; layout = layout_of next stands }
  where
    layout_of : (found : Option Token) → StandsNext text last (length text) found → IsLayout text last (length text)
    layout_of None layout = layout
    layout_of (Some t) (is, behind) =
        absurd (let here : t.start < length text = token_here text t.start t.end t.kind is.spelled.spells in omega (arith, here, behind))

pub row_cut : (text : List ℕ) (row : TokenRow) (next : Option Token) → StandsFrom text 0 row → StandsNext text row.end (length text) next → IsCut text row.tokens.items
row_cut text row next stand stands = tokens_cut text row.tokens.items row.end next stand stands

-- whole characters stand before where a fault is told
pub fault_placed : (text : List ℕ) (fault : TokenFault) → IsUtf8 text → (fault ≢ NoMemory → HasFault text fault) → IfSome (fault_offset fault) (λ at. IsOffset text at)
fault_placed text fault utf8 has = by_fault fault (λ some. wrong_offset text (has some).next.place fault utf8 (has some).next.wrong)
  where
    by_fault : (told : TokenFault) → (told ≢ NoMemory → IfSome (fault_offset told) (λ at. IsOffset text at)) → IfSome (fault_offset told) (λ at. IsOffset text at)
    by_fault (BadChar at) placed = placed (λ e. cc)
    by_fault (OpenQuote at) placed = placed (λ e. cc)
    by_fault (OpenComment at) placed = placed (λ e. cc)
    by_fault (BadEscape at) placed = placed (λ e. cc)
    by_fault NoMemory placed = tt

-- one more span behind those that stand side by side
pub one_more_span : (a b : ℕ) (spans : List Span) (span : Span) → StandSideBySide a spans b → b ≡ span.from → span.from < span.to → StandSideBySide a (spans ++ span ∷ []) span.to
one_more_span a b [] span is from some = ((is ∙ from, some), refl)
one_more_span a b (first ∷ spans) span (here, rest) from some = (here, one_more_span first.to b spans span rest from some)

-- a row without tokens stands from where it ends, and each of its tokens starts before any place
pub starts_row : (text : List ℕ) (from : ℕ) (ts : List Token) → ts ≡ [] → StandBetween text from ts from
starts_row text from [] none = refl
starts_row text from (t ∷ ts) none = cc

pub starts_before : (to : ℕ) (ts : List Token) → ts ≡ [] → All (λ t. t.start < to) ts
starts_before to ts none = subst (All (λ t. t.start < to)) (sym none) (search rules)

-- the row and the tokens before it, from the start of the text on
pub stand_with : (text : List ℕ) (ts us : List Token) (e : ℕ) → ((place : ℕ) × StandBetween text 0 ts place × StandBetween text place us e) → StandBetween text 0 (ts ++ us) e
stand_with text ts us e (place, before, stand) = stand_joined text 0 place e ts us before stand

-- the tokens of one row more
pub rows_more : (rows : List (Vec Token Global)) (row : Vec Token Global) → tokens_of (rows ++ row ∷ []) ≡ tokens_of rows ++ row.items
rows_more [] row = append-nil row.items
rows_more (one ∷ rows) row = ap (λ ts. one.items ++ ts) (rows_more rows row) ∙ sym (append_assoc one.items (tokens_of rows) row.items)

-- the last row needn't end a clause
pub ends_with : (rows : List (Vec Token Global)) (row : Vec Token Global) → All (λ r. EndsClause r.items) rows → EachEndsClause (rows ++ row ∷ [])
ends_with [] row all = (inr refl, tt)
ends_with (one ∷ rows) row all =
    (inl (All-head (λ (r : Vec Token Global). EndsClause r.items) one rows all), ends_with rows row (All-tail (λ (r : Vec Token Global). EndsClause r.items) one rows all))
