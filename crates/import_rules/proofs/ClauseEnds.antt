-- The clauses of a text stand one after another, each up to an offset of it.
use Rattle.std.proofs.Common.{◌≡◌, inl, inr, ℕ, ◌<◌, ◌≤◌, List, [], ◌∷◌, ◌++◌, Option, Some, None, Contains, map, refl, sym, ap, subst, ◌∙◌, append_assoc, arith}
use Rattle.std.specs.Str.{IsUtf8}
use Rattle.std.proofs.lemmas.Str.{IsUtf8-take}
use Rattle.list_laws.proofs.Members.{kept_there}
use Rattle.list_laws.proofs.OneOrder.{first_or_rest, nothing_in}
use Rattle.prolog_tokens.specs.declared.token.Kind.{Kind}
use Rattle.prolog_tokens.specs.declared.token.Kind.TheVariants.{Integer, Float, Str, BackStr, OpenCurly}
use Rattle.prolog_tokens.specs.declared.token.Token.{Token}
use Rattle.prolog_tokens.specs.Cut.{IsNext, StandBetween}
use Rattle.prolog_tokens.specs.Places.{IsOffset}
use Rattle.prolog_tokens.proofs.Names.{token_until}
use Rattle.prolog_tokens.proofs.OneToken.{token_some, token_within}
use Rattle.prolog_tokens.proofs.Pieces.{layout_from}
use Rattle.prolog_ops.specs.Table.{Ops}
use Rattle.prolog_terms.specs.declared.term.Span.{Span}
use Rattle.prolog_terms.specs.Tree.{Tree}
use Rattle.prolog_terms.specs.Views.{start_of}
use Rattle.prolog_terms.specs.Words.{Word, table_of}
use Rattle.prolog_terms.specs.Grammar.{Parse, call, square, leaf, negative, bare, pair, group, tailed, wrapped, prefixed, infixed, postfixed, yield, parts_yield}
use Rattle.prolog_terms.specs.Clause.{AreWords, IsClauseOf, leaf_tree, negative_tree, wrapped_tree, joined_span, span_between, tree_from, from_of, to_of}
use Rattle.kept_clauses.specs.Plain.{PlainClause, clause_span, plain, plain_clause, written}
use Rattle.clause_text.specs.Clauses.{AreClauses, opening_ops}
use Rattle.clause_text.proofs.PlainForms.{rule_or_fact}
use Rattle.module_table.specs.Facts.{Facts, AreFacts, module_of, is_clause_of}
use Rattle.module_table.specs.FileText.{HasFacts}
use Rattle.module_table.proofs.ClausesOf.{clauses_are}
use Rattle.module_table.proofs.PlainHeads.{written_span}
use Rattle.file_library.specs.Loaded.{NamedText}
use Rattle.import_rules.specs.ClauseEnds.{end_of, IsClauseIn, StandApart}

-- the plain tree of a clause stands where the clause does
plain_span : (tree : Tree) → clause_span (plain tree) ≡ clause_span tree
plain_span tree = by_form (plain_clause tree) refl
  where
    by_form : (form : Option PlainClause) → plain_clause tree ≡ form → clause_span (elim form [ Some clause ↦ written clause | None ↦ tree ]) ≡ clause_span tree
    by_form None is = refl
    by_form (Some clause) is =
        written_span clause
        ∙ elim (rule_or_fact tree clause is) [
          | inl rule ↦ ap (λ (c : PlainClause). c.span) (sym rule.named.clause_is)
          | inr fact ↦ ap (λ (c : PlainClause). c.span) (sym fact.named.clause_is)
        ]

module _ (text : List ℕ) where
  -- the words stand one after another from one offset up to another, and each ends at an offset of the text
  abbrev Between : ℕ → List Word → ℕ → Type 0
  Between a [] b = a ≤ b
  Between a (w ∷ ws) b = (a ≤ w.span.from) × (w.span.from ≤ w.span.to) × IsOffset text w.span.to × Between w.span.to ws b

  -- the span lies between the offsets, and ends at an offset of the text
  record Fits (a b : ℕ) (span : Span) : Type 0 where
    from : a ≤ span.from
    forward : span.from ≤ span.to
    to : span.to ≤ b
    stands : IsOffset text span.to

  wider : (a b c d : ℕ) (span : Span) → a ≤ c → d ≤ b → Fits c d span → Fits a b span
  wider a b c d span low high fits = record {
    from = omega (arith, low, fits.from);
    forward = fits.forward;
    to = omega (arith, high, fits.to);
    stands = fits.stands;
  }

  -- the words of tokens

  next_end : (a : ℕ) (t : Token) → IsUtf8 text → IsNext text a t → IsOffset text t.end
  next_end a t utf8 next =
      let spelled = next.spelled.spells in
      record { within = token_within text t.start t.end t.kind spelled; utf8 = IsUtf8-take text t.end utf8 (token_until text t.start t.end t.kind utf8 spelled) }

  words_between : (a b : ℕ) (ts : List Token) (ws : List Word) → IsUtf8 text → StandBetween text a ts b → AreWords text ts ws → Between a ws b
  words_between a b [] [] utf8 stand are = omega (arith, stand)
  words_between a b [] (w ∷ ws) utf8 stand are = absurd are
  words_between a b (t ∷ ts) [] utf8 stand are = absurd are
  words_between a b (t ∷ ts) (w ∷ ws) utf8 stand are =
      let next = stand.0 in
      let P : Span → Type 0 = λ span. (a ≤ span.from) × (span.from ≤ span.to) × IsOffset text span.to × Between span.to ws b in
      subst P (sym are.0.span) (
        layout_from text a t.start next.layout,
        omega (arith, token_some text t.start t.end t.kind next.spelled.spells),
        next_end a t utf8 next,
        words_between t.end b ts ws utf8 stand.1 are.1,
      )

  between_from : (a b : ℕ) (ws : List Word) → Between a ws b → a ≤ b
  between_from a b [] between = between
  between_from a b (w ∷ ws) (from, forward, stands, rest) = omega (arith, from, forward, between_from w.span.to b ws rest)

  split : (a b : ℕ) (us vs : List Word) → Between a (us ++ vs) b → (m : ℕ) × Between a us m × Between m vs b
  split a b [] vs between = (a, omega arith, between)
  split a b (u ∷ us) vs (from, forward, stands, rest) = let parts = split u.span.to b us vs rest in (parts.0, (from, forward, stands, parts.1), parts.2)

  -- from the first word to the last
  first_to_last : (a b : ℕ) (first last : Word) (ws : List Word) → Between a (first ∷ (ws ++ last ∷ [])) b → Fits a b (joined_span first.span last.span)
  first_to_last a b first last ws (from, forward, stands, rest) =
      let parts = split first.span.to b ws (last ∷ []) rest in
      let (low, more, ends, high) = parts.2 in
      record { from = from; forward = omega (arith, forward, between_from first.span.to parts.0 ws parts.1, low, more); to = high; stands = ends }

  -- the words of a term

  whole_fits : (a b : ℕ) (t : Parse) → Between a (yield t) b → Fits a b (span_between (from_of t) (to_of t))
  whole_fits a b (leaf w) (from, forward, stands, high) = record { from = from; forward = forward; to = high; stands = stands }
  whole_fits a b (negative w n) between = first_to_last a b w n [] between
  whole_fits a b (bare w) (from, forward, stands, high) = record { from = from; forward = forward; to = high; stands = stands }
  whole_fits a b (pair o c) between = first_to_last a b o c [] between
  whole_fits a b (group (call f o) xs c) between = first_to_last a b f c (o ∷ parts_yield xs) between
  whole_fits a b (group (square o) xs c) between = first_to_last a b o c (parts_yield xs) between
  whole_fits a b (tailed o xs bar t c) between =
      first_to_last a b o c (parts_yield xs ++ bar ∷ yield t) (subst (λ ws. Between a (o ∷ ws) b) (sym (append_assoc (parts_yield xs) (bar ∷ yield t) (c ∷ []))) between)
  whole_fits a b (wrapped o t c) between = first_to_last a b o c (yield t) between
  whole_fits a b (prefixed w r) (from, forward, stands, rest) =
      let right = whole_fits w.span.to b r rest in
      record { from = from; forward = omega (arith, forward, right.from, right.forward); to = right.to; stands = right.stands }
  whole_fits a b (infixed l w r) between =
      let parts = split a b (yield l) (w ∷ yield r) between in
      let left = whole_fits a parts.0 l parts.1 in
      let (low, more, stands, rest) = parts.2 in
      let right = whole_fits w.span.to b r rest in
      record { from = left.from; forward = omega (arith, left.forward, left.to, low, more, right.from, right.forward); to = right.to; stands = right.stands }
  whole_fits a b (postfixed l w) between =
      let parts = split a b (yield l) (w ∷ []) between in
      let left = whole_fits a parts.0 l parts.1 in
      let (low, more, stands, high) = parts.2 in
      record { from = left.from; forward = omega (arith, left.forward, left.to, low, more); to = high; stands = stands }

  leaf_fits : (a b : ℕ) (k : Kind) (value : Option ℕ) (span : Span) → Fits a b span → Fits a b (clause_span (leaf_tree k value span))
  leaf_fits a b Integer value span fits = fits
  leaf_fits a b Float value span fits = fits
  leaf_fits a b Str value span fits = fits
  leaf_fits a b BackStr value span fits = fits
  leaf_fits a b k value span fits = fits

  negative_fits : (a b : ℕ) (k : Kind) (value : Option ℕ) (span : Span) → Fits a b span → Fits a b (clause_span (negative_tree k value span))
  negative_fits a b Integer value span fits = fits
  negative_fits a b k value span fits = fits

  wrapped_fits : (a b : ℕ) (k : Kind) (inner : Tree) (span : Span) → Fits a b span → Fits a b (clause_span inner) → Fits a b (clause_span (wrapped_tree k inner span))
  wrapped_fits a b OpenCurly inner span fits within = fits
  wrapped_fits a b k inner span fits within = within

  -- a term inside its brackets
  inside_fits : (a b : ℕ) (t : Parse) → Between a (yield t) b → Fits a b (clause_span (tree_from t))
  inside_fits a b (leaf w) between = leaf_fits a b w.kind w.value w.span (whole_fits a b (leaf w) between)
  inside_fits a b (negative w n) between = negative_fits a b n.kind n.value (joined_span w.span n.span) (whole_fits a b (negative w n) between)
  inside_fits a b (wrapped o t c) between =
      let (from, forward, stands, rest) = between in
      let parts = split o.span.to b (yield t) (c ∷ []) rest in
      let (low, more, ends, high) = parts.2 in
      wrapped_fits a b o.kind (tree_from t) (joined_span o.span c.span) (whole_fits a b (wrapped o t c) between)
      (wider a b o.span.to parts.0 (clause_span (tree_from t)) (omega (arith, from, forward)) (omega (arith, low, more, high)) (inside_fits o.span.to parts.0 t parts.1))
  inside_fits a b (bare w) between = whole_fits a b (bare w) between
  inside_fits a b (pair o c) between = whole_fits a b (pair o c) between
  inside_fits a b (group (call f o) xs c) between = whole_fits a b (group (call f o) xs c) between
  inside_fits a b (group (square o) xs c) between = whole_fits a b (group (square o) xs c) between
  inside_fits a b (tailed o xs bar t c) between = whole_fits a b (tailed o xs bar t c) between
  inside_fits a b (prefixed w r) between = whole_fits a b (prefixed w r) between
  inside_fits a b (infixed l w r) between = whole_fits a b (infixed l w r) between
  inside_fits a b (postfixed l w) between = whole_fits a b (postfixed l w) between

  clause_fits : (table : Ops) (a b : ℕ) (ts : List Token) (tree : Tree) → IsUtf8 text → StandBetween text a ts b → IsClauseOf (table_of table) text ts tree
      → Fits a b (clause_span tree)
  clause_fits table a b ts tree utf8 stand clause =
      let reads = clause.reads in
      let between : Between a (yield reads.parse ++ reads.end ∷ []) b =
      subst (λ ws. Between a ws b) reads.yields (words_between a b ts clause.words utf8 stand clause.are) in
      let parts = split a b (yield reads.parse) (reads.end ∷ []) between in
      subst (λ t. Fits a b (clause_span t)) (sym reads.is)
      (wider a b a parts.0 (clause_span (tree_from reads.parse)) (omega arith) (between_from parts.0 b (reads.end ∷ []) parts.2) (inside_fits a parts.0 reads.parse parts.1))

  -- the trees stand one after another from an offset on
  abbrev InTurn : ℕ → List Tree → Type 0
  InTurn a [] = Unit {0}
  InTurn a (tree ∷ trees) = (m : ℕ) × Fits a m (clause_span tree) × InTurn m trees

  split_tokens : (a b : ℕ) (ts us : List Token) → StandBetween text a (ts ++ us) b → (m : ℕ) × StandBetween text a ts m × StandBetween text m us b
  split_tokens a b [] us stand = (a, refl, stand)
  split_tokens a b (t ∷ ts) us stand = let parts = split_tokens t.end b ts us stand.1 in (parts.0, (stand.0, parts.1), parts.2)

  clauses_in_turn : (table : Ops) (a b : ℕ) (ts : List Token) (trees : List Tree) → IsUtf8 text → StandBetween text a ts b → AreClauses table text ts trees
      → InTurn a (map plain trees)
  clauses_in_turn table a b ts [] utf8 stand are = tt
  clauses_in_turn table a b ts (tree ∷ trees) utf8 stand (part, rest, left, is, leaves, are) =
      let parts = split_tokens a b part rest (subst (λ us. StandBetween text a us b) is stand) in (
        parts.0,
        subst (Fits a parts.0) (sym (plain_span tree)) (clause_fits table a parts.0 part tree utf8 parts.1 leaves.clause),
        clauses_in_turn left parts.0 b rest trees utf8 parts.2 are,
      )

  fits_later : (a : ℕ) (trees : List Tree) (clause : Tree) → InTurn a trees → Contains trees clause → (b : ℕ) × Fits a b (clause_span clause)
  fits_later a [] clause turn has = absurd (nothing_in clause has)
  fits_later a (tree ∷ trees) clause (m, fits, turn) has =
      elim (first_or_rest tree clause trees has) [
        | inl same ↦ (m, subst (λ t. Fits a m (clause_span t)) same fits)
        | inr later ↦
            let found = fits_later m trees clause turn later in
            (found.0, wider a found.0 m found.0 (clause_span clause) (omega (arith, fits.from, fits.forward, fits.to)) (omega arith) found.1)
      ]

  apart_in : (a : ℕ) (trees : List Tree) (first second : Tree) → InTurn a trees → Contains trees first → Contains trees second → start_of first < start_of second
      → end_of first ≤ start_of second
  apart_in a [] first second turn has also before = absurd (nothing_in first has)
  apart_in a (tree ∷ trees) first second (m, fits, turn) has also before =
      elim (first_or_rest tree first trees has) [
        | inl is ↦
            let own : Fits a m (clause_span first) = subst (λ t. Fits a m (clause_span t)) is fits in
            elim (first_or_rest tree second trees also) [
              | inl same ↦ let both : start_of first ≡ start_of second = ap start_of (sym is ∙ same) in absurd (omega (arith, both, before))
              | inr later ↦ let other = fits_later m trees second turn later in omega (arith, own.to, other.1.from)
            ]
        | inr later ↦
            let own = fits_later m trees first turn later in
            elim (first_or_rest tree second trees also) [
              | inl is ↦
                  let other : Fits a m (clause_span second) = subst (λ t. Fits a m (clause_span t)) is fits in
                  absurd (omega (arith, before, other.forward, other.to, own.1.from))
              | inr after ↦ apart_in m trees first second turn later after before
            ]
      ]

-- the clauses of a file are among the trees that its facts are of
clause_from : (user : List ℕ) (trees : List Tree) (facts : Facts) (clause : Tree) → AreFacts user trees facts → IsClauseIn facts clause → Contains trees clause
clause_from user trees facts clause are own =
    let p = own.predicate in
    kept_there (is_clause_of (module_of trees) p.module_ p.name p.arity) trees clause
    (subst (λ (clauses : List Tree). Contains clauses clause) (clauses_are user trees facts are p own.defined) own.has)

pub clauses_apart : (text : NamedText) (facts : Facts) → HasFacts text.0 text.1 facts → StandApart text facts
clauses_apart text facts has =
    let kept = map plain has.trees in
    let reads = has.reads in
    let turn = clauses_in_turn text.1 opening_ops 0 reads.cut.last reads.tokens has.trees reads.utf8 reads.cut.stand reads.clauses in
    let from : (clause : Tree) → IsClauseIn facts clause → Contains kept clause = λ clause own. clause_from text.0 kept facts clause has.are own in record {
      forward = λ clause own. (fits_later text.1 0 kept clause turn (from clause own)).1.forward;
      stand = λ clause own. (fits_later text.1 0 kept clause turn (from clause own)).1.stands;
      apart = λ first second own also before. apart_in text.1 0 kept first second turn (from first own) (from second also) before;
    }
