-- Tokens are one clause at most, or have one fault, and never both.
use Rattle.std.proofs.Common.{◌≡◌, ◌≢◌, ℕ, ◌+◌, ◌-◌, ◌<◌, Bool, true, false, not, ◌&&◌, List, [], ◌∷◌, ◌++◌, Option, Some, is_some, option_map, length, take, drop, slice_get, ap, sym, ◌∙◌, subst, refl, inl, inr, arith, length-append, append_assoc, append-nil, zero, suc}
use Rattle.std.proofs.lemmas.Bool.{cases_lt}
use Rattle.std.proofs.lemmas.List.{take-append-drop}
use Rattle.prolog_tokens.specs.declared.token.Kind.{Kind}
use Rattle.prolog_tokens.specs.declared.token.Kind.TheVariants.{OpenRound, CloseRound, OpenSquare, CloseSquare, OpenCurly, CloseCurly, Comma, Bar, End}
use Rattle.prolog_tokens.specs.declared.token.Token.{Token}
use Rattle.prolog_terms.specs.declared.read_fault.ReadFault.{ReadFault}
use Rattle.prolog_terms.specs.declared.read_fault.ReadFault.TheVariants.{Stuck, TooDeep, NoEnd, NoMemory}
use Rattle.prolog_terms.specs.Tree.{Tree}
use Rattle.prolog_terms.specs.Words.{Word, Table, is_name, is_leaf, is_number, is_open_round, is_minus, is_unquoted, is_prefix, opens, number_next, atom_rule, is_negative}
use Rattle.prolog_terms.specs.Grammar.{Parse, Parts, call, square, leaf, negative, bare, pair, group, tailed, wrapped, prefixed, infixed, postfixed, one, more, yield, parts_yield, IsKept, AreKept, Begins, BeginsWithin}
use Rattle.prolog_terms.specs.StuckPlace.{IsRefusedAt, IsStuckAt, IsTooDeepAt}
use Rattle.prolog_terms.specs.Clause.{AreWords, IsWordsClause, IsClauseOf, StandsAt, IsReadFault, tree_from}
use Rattle.prolog_terms.proofs.ReaderTables.{IsTable, can_be_infix}
use Rattle.prolog_terms.proofs.ReaderComplete.{one_clause, and_left, and_right}
use Rattle.prolog_terms.proofs.TokenWords.{AreSpelled, one_words}

-- a clause under a table

-- the tokens are one clause
pub one_tree : (T : Table) → IsTable T → (text : List ℕ) (ts : List Token) (a b : Tree) → AreSpelled text ts → IsClauseOf T text ts a → IsClauseOf T text ts b → a ≡ b
one_tree T ok text ts a b spelled x y =
    let words : x.words ≡ y.words = one_words text ts x.words y.words spelled x.are y.are in
    let yields = sym x.reads.yields ∙ (words ∙ y.reads.yields) in
    let parses = one_clause T ok x.reads.parse y.reads.parse x.reads.end y.reads.end x.reads.clause y.reads.clause yields in
    x.reads.is ∙ (ap tree_from parses ∙ sym y.reads.is)

-- no word of a clause but its End is an End

abbrev NoEnds : List Word → Type 0
NoEnds [] = Unit {0}
NoEnds (w ∷ ws) = (w.kind ≢ End) × NoEnds ws

both_none : (us vs : List Word) → NoEnds us → NoEnds vs → NoEnds (us ++ vs)
both_none [] vs x y = y
both_none (u ∷ us) vs x y = (x.0, both_none us vs x.1 y)

tested : (test : Kind → Bool) (k : Kind) → test End ≡ false → test k ≡ true → k ≢ End
tested test k fails holds = λ is. let both : false ≡ true = sym fails ∙ (ap test (sym is) ∙ holds) in cc

differs : (k j : Kind) → k ≡ j → j ≢ End → k ≢ End
differs k j is other = λ end. other (sym is ∙ end)

module _ (T : Table) (ok : IsTable T) where
  prefix_some : (w : Word) (after : List Word) → is_prefix T w after ≡ true → is_some (T.prefix w) ≡ true
  prefix_some w after h =
      and_right (is_name w.kind) (is_some (T.prefix w))
      (and_left (is_name w.kind && is_some (T.prefix w)) (not (opens after))
      (and_left (is_name w.kind && is_some (T.prefix w) && not (opens after)) (not (is_negative w after))
      (and_left (is_name w.kind && is_some (T.prefix w) && not (opens after) && not (is_negative w after)) (not (atom_rule T after)) h)))

  mutual
    no_ends : (t : Parse) (after : List Word) → IsKept T t after → NoEnds (yield t)
    no_ends (leaf w) after kept = (tested is_leaf w.kind refl kept, tt)
    no_ends (negative w n) after kept = (
      tested is_unquoted w.kind refl (and_left (is_unquoted w.kind) _ (and_left (is_minus w) (number_next (n ∷ after)) kept)),
      (tested is_number n.kind refl (and_left (is_number n.kind) (not n.after_layout) (and_right (is_minus w) (number_next (n ∷ after)) kept)), tt),
    )
    no_ends (bare w) after kept = (
      tested is_name w.kind refl
          (and_left (is_name w.kind) _ (and_left (is_name w.kind && not (opens after)) _ (and_left (is_name w.kind && not (opens after) && not (is_negative w after)) _ kept))),
      tt,
    )
    no_ends (pair o c) after kept = elim kept [
      | inl is ↦ (differs o.kind OpenSquare is.0 (λ e. cc), (differs c.kind CloseSquare is.1 (λ e. cc), tt))
      | inr is ↦ (differs o.kind OpenCurly is.0 (λ e. cc), (differs c.kind CloseCurly is.1 (λ e. cc), tt))
    ]
    no_ends (group (call f o) xs c) after kept = (
      tested is_name f.kind refl (and_left (is_name f.kind) (opens (o ∷ (parts_yield xs ++ c ∷ after))) kept.0),
      (
        tested is_open_round o.kind refl (and_left (is_open_round o.kind) (not o.after_layout) (and_right (is_name f.kind) (opens (o ∷ (parts_yield xs ++ c ∷ after))) kept.0)),
        both_none (parts_yield xs) (c ∷ []) (parts_no_ends xs (c ∷ after) kept.1) (differs c.kind CloseRound kept.2 (λ e. cc), tt),
      ),
    )
    no_ends (group (square o) xs c) after kept = (
      differs o.kind OpenSquare kept.0 (λ e. cc),
      both_none (parts_yield xs) (c ∷ []) (parts_no_ends xs (c ∷ after) kept.1) (differs c.kind CloseSquare kept.2 (λ e. cc), tt),
    )
    no_ends (tailed o xs b t c) after kept = (
      differs o.kind OpenSquare kept.0 (λ e. cc),
      both_none (parts_yield xs) (b ∷ (yield t ++ c ∷ [])) (parts_no_ends xs (b ∷ (yield t ++ c ∷ after)) kept.1) (
        differs b.kind Bar kept.2 (λ e. cc),
        both_none (yield t) (c ∷ []) (no_ends t (c ∷ after) kept.3) (differs c.kind CloseSquare kept.5 (λ e. cc), tt),
      ),
    )
    no_ends (wrapped o t c) after kept =
        let inner = no_ends t (c ∷ after) kept.1 in
        elim kept.0 [
          | inl is ↦ (differs o.kind OpenRound is.0 (λ e. cc), both_none (yield t) (c ∷ []) inner (differs c.kind CloseRound is.1 (λ e. cc), tt))
          | inr is ↦ (differs o.kind OpenCurly is.0 (λ e. cc), both_none (yield t) (c ∷ []) inner (differs c.kind CloseCurly is.1 (λ e. cc), tt))
        ]
    no_ends (prefixed w r) after kept = (
      tested is_name w.kind refl (ok.prefix_name w (prefix_some w (yield r ++ after) kept.0)),
      no_ends r after kept.1,
    )
    no_ends (infixed l w r) after kept =
        both_none (yield l) (w ∷ yield r) (no_ends l (w ∷ (yield r ++ after)) kept.1) (tested can_be_infix w.kind refl (ok.infix_kind w kept.0), no_ends r after kept.2)
    no_ends (postfixed l w) after kept =
        both_none (yield l) (w ∷ []) (no_ends l (w ∷ after) kept.1) (tested is_name w.kind refl (ok.postfix_name w kept.0), tt)

    parts_no_ends : (xs : Parts) (after : List Word) → AreKept T xs after → NoEnds (parts_yield xs)
    parts_no_ends (one t) after kept = no_ends t after kept.0
    parts_no_ends (more xs w t) after kept =
        both_none (parts_yield xs) (w ∷ yield t) (parts_no_ends xs (w ∷ (yield t ++ after)) kept.0) (differs w.kind Comma kept.1 (λ e. cc), no_ends t after kept.2)

-- the kind of the token at a place
abbrev pub kind_there : List Token → ℕ → Option Kind
kind_there ts k = option_map (λ t. t.kind) (slice_get ts k)

-- the last token is an End, and no other is
pub record EndsOnce (ts : List Token) : Type 0 where
  pub some : 0 < length ts
  pub last : kind_there ts (length ts - 1) ≡ Some End
  pub no_other : (k : ℕ) → k + 1 < length ts → kind_there ts k ≢ Some End

once_more : (t : Token) (ts : List Token) → t.kind ≢ End → EndsOnce ts → EndsOnce (t ∷ ts)
once_more t ts first ends = record {
  some = omega arith;
  last = let place : length (t ∷ ts) - 1 ≡ suc (length ts - 1) = omega (arith, ends.some) in ap (kind_there (t ∷ ts)) place ∙ ends.last;
  no_other = no_other;
}
  where
    no_other : (k : ℕ) → k + 1 < length (t ∷ ts) → kind_there (t ∷ ts) k ≢ Some End
    no_other zero below = λ is. let both : Some t.kind ≡ Some End = is in let same : t.kind ≡ End = cc in first same
    no_other (suc k) below = ends.no_other k (omega (arith, below))

once_one : (t : Token) → t.kind ≡ End → EndsOnce (t ∷ [])
once_one t is = record {
  some = omega arith;
  last = let place : length (t ∷ []) - 1 ≡ 0 = omega arith in ap (kind_there (t ∷ [])) place ∙ ap (λ k. Some k) is;
  no_other = λ k below. absurd (omega (arith, below));
}

words_end : (text : List ℕ) (ts : List Token) (us : List Word) (e : Word) → AreWords text ts (us ++ e ∷ []) → NoEnds us → e.kind ≡ End → EndsOnce ts
words_end text [] [] e are none is = absurd are
words_end text [] (u ∷ us) e are none is = absurd are
words_end text (t ∷ []) [] e are none is = once_one t (sym are.0.kind ∙ is)
words_end text (t ∷ s ∷ ts) [] e are none is = absurd are.1
words_end text (t ∷ ts) (u ∷ us) e are none is = once_more t ts (λ end. none.0 (are.0.kind ∙ end)) (words_end text ts us e are.1 none.1 is)

pub clause_once : (T : Table) → IsTable T → (text : List ℕ) (ts : List Token) (tree : Tree) → IsClauseOf T text ts tree → EndsOnce ts
clause_once T ok text ts tree clause =
    let reads = clause.reads in
    words_end text ts (yield reads.parse) reads.end (subst (λ ws. AreWords text ts ws) reads.yields clause.are)
    (no_ends T ok reads.parse (reads.end ∷ []) reads.clause.kept) reads.clause.ends

-- what is read begins with each of its beginnings

whole_begins : (T : Table) (ws : List Word) (tree : Tree) → IsWordsClause T ws tree → BeginsWithin T 1000 ws
whole_begins T ws tree reads = record {
  begins = record { tree = reads.parse; end = reads.end; more = []; clause = reads.clause; is = sym reads.yields ∙ sym (append-nil ws) };
  shallow = reads.shallow;
}

begun : (T : Table) (ws : List Word) (k : ℕ) → Begins T ws → Begins T (take k ws)
begun T ws k b = record {
  tree = b.tree;
  end = b.end;
  more = drop k ws ++ b.more;
  clause = b.clause;
  is = b.is ∙ (ap (λ us. us ++ b.more) (sym (take-append-drop k ws)) ∙ append_assoc (take k ws) (drop k ws) b.more);
}

begun_within : (T : Table) (ws : List Word) (k : ℕ) → BeginsWithin T 1000 ws → BeginsWithin T 1000 (take k ws)
unfolding begun
begun_within T ws k b = record { begins = begun T ws k b.begins; shallow = b.shallow }

-- a place at which the words of the tokens are refused
record IsRefusedIn (T : Table) (text : List ℕ) (ts : List Token) (at : ℕ) : Type 0 where
  words : List Word
  are : AreWords text ts words
  place : ℕ
  token : Token
  stands : slice_get ts place ≡ Some token
  starts : at ≡ token.start
  refused : IsRefusedAt T words place

stuck_place : (T : Table) (text : List ℕ) (ts : List Token) (at : ℕ) → StandsAt text ts at (IsStuckAt T) → IsRefusedIn T text ts at
stuck_place T text ts at s =
    record { words = s.words; are = s.are; place = s.place; token = s.token; stands = s.stands; starts = s.starts; refused = s.is.place }

deep_place : (T : Table) (text : List ℕ) (ts : List Token) (at : ℕ) → StandsAt text ts at (IsTooDeepAt T) → IsRefusedIn T text ts at
deep_place T text ts at s =
    record { words = s.words; are = s.are; place = s.place; token = s.token; stands = s.stands; starts = s.starts; refused = s.is.place }

refused_once : (T : Table) (ws : List Word) (j k : ℕ) → IsRefusedAt T ws j → IsRefusedAt T ws k → j ≡ k
refused_once T ws j k x y = elim (cases_lt j k) [
  | inl lt ↦ absurd (x.refused (y.before j lt))
  | inr le ↦ elim (cases_lt k j) [ inl lt ↦ absurd (y.refused (x.before k lt)) | inr ge ↦ omega (arith, le, ge) ]
]

-- words that begin a clause are refused nowhere
not_refused : (T : Table) (text : List ℕ) (ts : List Token) (at : ℕ) (ws : List Word) → AreSpelled text ts → AreWords text ts ws → BeginsWithin T 1000 ws
    → IsRefusedIn T text ts at → ⊥
not_refused T text ts at ws spelled are begins r =
    let words : ws ≡ r.words = one_words text ts ws r.words spelled are r.are in
    r.refused.refused (subst (λ us. BeginsWithin T 1000 (take (r.place + 1) us)) words (begun_within T ws (r.place + 1) begins))

one_place : (T : Table) (text : List ℕ) (ts : List Token) (at second : ℕ) → AreSpelled text ts → IsRefusedIn T text ts at → IsRefusedIn T text ts second → at ≡ second
one_place T text ts at second spelled x y =
    let words : y.words ≡ x.words = one_words text ts y.words x.words spelled y.are x.are in
    let place : x.place ≡ y.place = refused_once T x.words x.place y.place x.refused (subst (λ ws. IsRefusedAt T ws y.place) words y.refused) in
    let tokens : x.token ≡ y.token = (let both : Some x.token ≡ Some y.token = sym x.stands ∙ (ap (λ k. slice_get ts k) place ∙ y.stands) in cc) in
    x.starts ∙ (ap (λ (t : Token). t.start) tokens ∙ sym y.starts)

-- what no clause goes on with, no deeper one does
not_both : (T : Table) (text : List ℕ) (ts : List Token) (at second : ℕ) → AreSpelled text ts → StandsAt text ts at (IsStuckAt T) → StandsAt text ts second (IsTooDeepAt T) → ⊥
not_both T text ts at second spelled x y =
    let words : y.words ≡ x.words = one_words text ts y.words x.words spelled y.are x.are in
    let place : y.place ≡ x.place = refused_once T x.words y.place x.place (subst (λ ws. IsRefusedAt T ws y.place) words y.is.place) x.is.place in
    x.is.none (subst (λ k. Begins T (take (k + 1) x.words)) place (subst (λ ws. Begins T (take (y.place + 1) ws)) words y.is.deeper))

-- tokens have one fault
pub one_read_fault : (T : Table) (text : List ℕ) (ts : List Token) (fault second : ReadFault) → AreSpelled text ts → IsReadFault T text ts fault → IsReadFault T text ts second → fault ≡ second
one_read_fault T text ts (Stuck a) (Stuck b) spelled x y =
    ap (λ n. Stuck n) (one_place T text ts a b spelled (stuck_place T text ts a x) (stuck_place T text ts b y))
one_read_fault T text ts (Stuck a) (TooDeep b) spelled x y = absurd (not_both T text ts a b spelled x y)
one_read_fault T text ts (Stuck a) (NoEnd b) spelled x y = absurd (not_refused T text ts a y.1.0 spelled y.1.1 y.1.2.begins (stuck_place T text ts a x))
one_read_fault T text ts (TooDeep a) (Stuck b) spelled x y = absurd (not_both T text ts b a spelled y x)
one_read_fault T text ts (TooDeep a) (TooDeep b) spelled x y =
    ap (λ n. TooDeep n) (one_place T text ts a b spelled (deep_place T text ts a x) (deep_place T text ts b y))
one_read_fault T text ts (TooDeep a) (NoEnd b) spelled x y = absurd (not_refused T text ts a y.1.0 spelled y.1.1 y.1.2.begins (deep_place T text ts a x))
one_read_fault T text ts (NoEnd a) (Stuck b) spelled x y = absurd (not_refused T text ts b x.1.0 spelled x.1.1 x.1.2.begins (stuck_place T text ts b y))
one_read_fault T text ts (NoEnd a) (TooDeep b) spelled x y = absurd (not_refused T text ts b x.1.0 spelled x.1.1 x.1.2.begins (deep_place T text ts b y))
one_read_fault T text ts (NoEnd a) (NoEnd b) spelled x y = ap (λ n. NoEnd n) (x.0 ∙ sym y.0)
one_read_fault T text ts fault NoMemory spelled x y = absurd y
one_read_fault T text ts NoMemory second spelled x y = absurd x

last_of : (us : List Word) (e : Word) → slice_get (us ++ e ∷ []) (length (us ++ e ∷ []) - 1) ≡ Some e
last_of us e =
    let place : length (us ++ e ∷ []) - 1 ≡ length us = omega (arith, length-append us (e ∷ [])) in ap (λ k. slice_get (us ++ e ∷ []) k) place ∙ at_seam us e
  where
    at_seam : (us : List Word) (e : Word) → slice_get (us ++ e ∷ []) (length us) ≡ Some e
    at_seam [] e = refl
    at_seam (u ∷ us) e = at_seam us e

-- and a clause has none
pub clause_no_fault : (T : Table) (text : List ℕ) (ts : List Token) (tree : Tree) (fault : ReadFault) → AreSpelled text ts → IsClauseOf T text ts tree → IsReadFault T text ts fault → ⊥
clause_no_fault T text ts tree (Stuck at) spelled clause x =
    not_refused T text ts at clause.words spelled clause.are (whole_begins T clause.words tree clause.reads) (stuck_place T text ts at x)
clause_no_fault T text ts tree (TooDeep at) spelled clause x =
    not_refused T text ts at clause.words spelled clause.are (whole_begins T clause.words tree clause.reads) (deep_place T text ts at x)
clause_no_fault T text ts tree (NoEnd at) spelled clause x =
    let reads = clause.reads in
    let words : x.1.0 ≡ yield reads.parse ++ reads.end ∷ [] = one_words text ts x.1.0 clause.words spelled x.1.1 clause.are ∙ reads.yields in
    x.1.2.open_ended reads.end (ap (λ ws. slice_get ws (length ws - 1)) words ∙ last_of (yield reads.parse) reads.end) reads.clause.ends
clause_no_fault T text ts tree NoMemory spelled clause x = x
