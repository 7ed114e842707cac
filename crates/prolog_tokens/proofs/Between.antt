-- Tokens that stand one after another, and that a text has one cut.
use Rattle.std.proofs.Common.{◌≡◌, ℕ, ◌<◌, ◌⊎◌, ◌↔◌, List, [], ◌∷◌, ◌++◌, length, Bool, true, false, IsTrue, ap, sym, ◌∙◌, subst, refl, arith}
use Rattle.std.proofs.lemmas.List.{get_or_past}
use Rattle.prolog_tokens.specs.declared.token.Kind.{Kind}
use Rattle.prolog_tokens.specs.declared.token.Token.{Token}
use Rattle.prolog_tokens.specs.Layout.{IsLayout, NoPiece}
use Rattle.prolog_tokens.specs.Spelling.{Spells, IsSpelled, NoToken}
use Rattle.prolog_tokens.specs.Cut.{IsNext, StandBetween, IsCut}
use Rattle.prolog_tokens.proofs.Classes.{byte_class}
use Rattle.prolog_tokens.proofs.Families.{token_here}
use Rattle.prolog_tokens.proofs.Pieces.{class_sort, no_piece, token_no_piece, layout_once, layout_from}
use Rattle.prolog_tokens.proofs.OneToken.{SameToken, token_some, token_once}

-- no token and no layout begins at the place
pub record NoStart (text : List ℕ) (a : ℕ) : Type 0 where
  pub no_token : NoToken text a
  pub no_piece : NoPiece text a

-- at the end of the text nothing begins
pub at_length : (text : List ℕ) → NoStart text (length text)
at_length text = record {
  no_token = λ k b t. let here : length text < length text = token_here text (length text) b k t in omega arith;
  no_piece = no_piece text (length text) (ap class_sort (byte_class text (length text) 0 (get_or_past text (length text) 0 (omega arith)) (omega arith)));
}

same_told : (P : Type 0) (b c : Bool) → (IsTrue b ↔ P) → (IsTrue c ↔ P) → b ≡ c
same_told P true true f g = refl
same_told P false false f g = refl
same_told P true false f g = sym (g.1 (f.0 refl))
same_told P false true f g = f.1 (g.0 refl)

abbrev token_from : Kind → ℕ → ℕ → Bool → Token
token_from k a b l = record { kind = k; start = a; end = b; after_layout = l }

token_is : (t u : Token) → t.kind ≡ u.kind → t.start ≡ u.start → t.end ≡ u.end → t.after_layout ≡ u.after_layout → t ≡ u
token_is t u kind start ends told =
    ap (λ k. token_from k t.start t.end t.after_layout) kind
    ∙ ap (λ a. token_from u.kind a t.end t.after_layout) start
    ∙ ap (λ b. token_from u.kind u.start b t.after_layout) ends
    ∙ ap (λ l. token_from u.kind u.start u.end l) told

-- one token stands next after a place
pub next_once : (text : List ℕ) (at : ℕ) (t u : Token) → IsNext text at t → IsNext text at u → t ≡ u
next_once text at t u p q =
    let start : t.start ≡ u.start =
    layout_once text at t.start u.start p.layout (token_no_piece text t.start t.end t.kind p.spelled.spells) q.layout (token_no_piece text u.start u.end u.kind q.spelled.spells) in
    let moved : IsSpelled text u.kind t.start u.end = subst (λ n. IsSpelled text u.kind n u.end) (sym start) q.spelled in
    let same : SameToken t.kind u.kind t.end u.end = token_once text t.start t.end u.end t.kind u.kind p.spelled moved in
    let told : t.after_layout ≡ u.after_layout =
    same_told ((at ≡ 0) ⊎ (at < t.start)) t.after_layout u.after_layout p.told (subst (λ n. IsTrue u.after_layout ↔ ((at ≡ 0) ⊎ (at < n))) (sym start) q.told) in
    token_is t u same.kind start same.ends told

-- no token stands next where layout goes on to a place where nothing begins
pub none_next : (text : List ℕ) (at p : ℕ) (t : Token) → IsLayout text at p → NoStart text p → IsNext text at t → ⊥
none_next text at p t here none next =
    let is : p ≡ t.start = layout_once text at p t.start here none.no_piece next.layout (token_no_piece text t.start t.end t.kind next.spelled.spells) in
    none.no_token t.kind t.end (subst (λ n. Spells text n t.end t.kind) (sym is) next.spelled.spells)

-- two ways from one place to places where nothing begins
pub record SameWay (ts us : List Token) (p q : ℕ) : Type 0 where
  pub tokens : ts ≡ us
  pub place : p ≡ q

-- are the same
pub ways_once : (text : List ℕ) (p q : ℕ) → NoStart text p → NoStart text q → (a b c : ℕ) (ts us : List Token)
    → StandBetween text a ts b → IsLayout text b p → StandBetween text a us c → IsLayout text c q → SameWay ts us p q
ways_once text p q np nq a b c [] [] ab bp ac cq =
    record {
      tokens = refl;
      place = layout_once text a p q (subst (λ n. IsLayout text n p) (sym ab) bp) np.no_piece (subst (λ n. IsLayout text n q) (sym ac) cq) nq.no_piece;
    }
ways_once text p q np nq a b c [] (u ∷ us) ab bp (next, rest) cq = absurd (none_next text a p u (subst (λ n. IsLayout text n p) (sym ab) bp) np next)
ways_once text p q np nq a b c (t ∷ ts) [] (next, rest) bp ac cq = absurd (none_next text a q t (subst (λ n. IsLayout text n q) (sym ac) cq) nq next)
ways_once text p q np nq a b c (t ∷ ts) (u ∷ us) (next, rest) bp (next', rest') cq =
    let is : t ≡ u = next_once text a t u next next' in
    let same : SameWay ts us p q = ways_once text p q np nq t.end b c ts us rest bp (subst (λ (x : Token). StandBetween text x.end us c) (sym is) rest') cq in
    record { tokens = let heads : t ∷ ts ≡ u ∷ us = ap (λ x. x ∷ ts) is ∙ ap (λ xs. u ∷ xs) same.tokens in heads; place = same.place }

-- a text has at most one cut
pub one_cut : (text : List ℕ) (ts us : List Token) → IsCut text ts → IsCut text us → ts ≡ us
one_cut text ts us p q =
    (ways_once text (length text) (length text) (at_length text) (at_length text) 0 p.last q.last ts us p.stand p.layout q.stand q.layout).tokens

-- one token more
pub stand_more : (text : List ℕ) (a b : ℕ) (ts : List Token) (t : Token) → StandBetween text a ts b → IsNext text b t → StandBetween text a (ts ++ t ∷ []) t.end
stand_more text a b [] t is next = (subst (λ n. IsNext text n t) (sym is) next, refl)
stand_more text a b (u ∷ us) t (first, rest) next = (first, stand_more text u.end b us t rest next)

-- the token starts no earlier than the place, and ends after it
pub next_some : (text : List ℕ) (at : ℕ) (t : Token) → IsNext text at t → at < t.end
next_some text at t next = omega (arith, layout_from text at t.start next.layout, token_some text t.start t.end t.kind next.spelled.spells)
