-- What a word does hangs on the next word or two alone, so a word is refused where no clause goes on with it.
use Rattle.std.proofs.Common.{◌≡◌, inl, inr, Bool, true, false, cond, not, ◌&&◌, ◌||◌, List, [], ◌∷◌, ◌++◌, Option, Some, None, is_some, nat_le, refl, ap, sym, subst, ◌∙◌, append_assoc}
use Rattle.std.proofs.lemmas.Bool.{cases_Bool}
use Rattle.prolog_tokens.specs.declared.token.Kind.{Kind}
use Rattle.prolog_tokens.specs.declared.token.Kind.TheVariants.{Name, Quoted, Variable, Integer, Float, Str, BackStr, OpenRound, CloseRound, OpenSquare, CloseSquare, OpenCurly, CloseCurly, Comma, Bar, End}
use Rattle.prolog_terms.specs.Words.{Word, Table, sides_of, is_name, is_number, is_open_round, begins_term, is_minus, opens, number_next, term_next, infix_next}
use Rattle.prolog_terms.specs.Grammar.{bare, Begins}
use Rattle.prolog_terms.specs.ReaderSteps.{prefix_open, Stack, Mode, want, minus, functor, have, done, State, at, goes, bound, want_other, name_step, act, next, run}
use Rattle.prolog_terms.specs.ReaderWaiting.{Waiting, ready, named, doubt, settled, is_want, enter, then_enter, then_second, is_infix_only, leaves_doubt, can_go_on, feed}
use Rattle.prolog_terms.proofs.ReaderTables.{IsTable}
use Rattle.prolog_terms.proofs.ReaderComplete.{and_left, and_right, other_step, name_kind_goes, reads_clause}

-- the choice that a name makes, by the tests that it hangs on
abbrev pick : {A : Type 0} → Bool → Bool → Bool → Bool → Bool → Bool → Bool → A → A → A → A → A → A
pick name prefix opening negative apart first_minus rule x1 x2 x3 x4 x5 =
    cond (name && opening) x1
    (cond (first_minus && negative) x2
    (cond (name && not opening && not (first_minus && negative) && (not prefix || (apart || rule))) x3
    (cond (name && prefix && not opening && not (first_minus && negative) && not (apart || rule)) x4 x5)))

pick_same : {A : Type 0} (name prefix opening negative apart first_minus r r' : Bool) (x1 x2 x3 x4 x5 : A) → (prefix ≡ true → r ≡ r')
    → pick name prefix opening negative apart first_minus r x1 x2 x3 x4 x5 ≡ pick name prefix opening negative apart first_minus r' x1 x2 x3 x4 x5
pick_same name true opening negative apart first_minus r r' x1 x2 x3 x4 x5 same =
    ap (λ b. pick name true opening negative apart first_minus b x1 x2 x3 x4 x5) (same refl)
pick_same true false opening negative apart first_minus r r' x1 x2 x3 x4 x5 same = refl
pick_same false false opening negative apart first_minus r r' x1 x2 x3 x4 x5 same = refl

-- in doubt the word behind the two decides alone: an atom, or a prefix operator before a functor
pick_doubt : {A : Type 0} (name prefix opening negative apart first_minus infix_only r : Bool) (x1 x2 x3 x4 x5 : A)
    → name ≡ true → prefix ≡ true → opening ≡ false → negative ≡ false → apart ≡ false → infix_only ≡ true
    → pick name prefix opening negative apart first_minus (infix_only && not r) x1 x2 x3 x4 x5 ≡ cond r x4 x3
pick_doubt true true false false false true true true x1 x2 x3 x4 x5 h1 h2 h3 h4 h5 h6 = refl
pick_doubt true true false false false true true false x1 x2 x3 x4 x5 h1 h2 h3 h4 h5 h6 = refl
pick_doubt true true false false false false true true x1 x2 x3 x4 x5 h1 h2 h3 h4 h5 h6 = refl
pick_doubt true true false false false false true false x1 x2 x3 x4 x5 h1 h2 h3 h4 h5 h6 = refl
pick_doubt true true false false false first_minus false r x1 x2 x3 x4 x5 h1 h2 h3 h4 h5 h6 = cc
pick_doubt true true false false true first_minus infix_only r x1 x2 x3 x4 x5 h1 h2 h3 h4 h5 h6 = cc
pick_doubt true true false true apart first_minus infix_only r x1 x2 x3 x4 x5 h1 h2 h3 h4 h5 h6 = cc
pick_doubt true true true negative apart first_minus infix_only r x1 x2 x3 x4 x5 h1 h2 h3 h4 h5 h6 = cc
pick_doubt true false opening negative apart first_minus infix_only r x1 x2 x3 x4 x5 h1 h2 h3 h4 h5 h6 = cc
pick_doubt false prefix opening negative apart first_minus infix_only r x1 x2 x3 x4 x5 h1 h2 h3 h4 h5 h6 = cc

pub name_begins : (k : Kind) → is_name k ≡ true → (is_open_round k ≡ false) × (is_number k ≡ false) × (begins_term k ≡ true)
name_begins Name h = (refl, refl, refl)
name_begins Quoted h = (refl, refl, refl)
name_begins Variable h = cc
name_begins Integer h = cc
name_begins Float h = cc
name_begins Str h = cc
name_begins BackStr h = cc
name_begins OpenRound h = cc
name_begins CloseRound h = cc
name_begins OpenSquare h = cc
name_begins CloseSquare h = cc
name_begins OpenCurly h = cc
name_begins CloseCurly h = cc
name_begins Comma h = cc
name_begins Bar h = cc
name_begins End h = cc

none_is : {A : Type 0} (o : Option A) → is_some o ≡ false → o ≡ None
none_is None h = refl
none_is (Some x) h = cc

or_false : (a b : Bool) → (a || b) ≡ false → (a ≡ false) × (b ≡ false)
or_false true b h = cc
or_false false b h = (refl, h)

module _ (T : Table) where
  abbrev prefix_goes : Stack → Word → Option State
  prefix_goes S w = cond (nat_le (sides_of (T.prefix w)).priority (bound T S)) (goes (prefix_open w ∷ S) want) None

  -- a step hangs on the next word alone, but where two words are in doubt
  pub step_one : (S : Stack) (m : Mode) (w a : Word) (f f' : List Word) → leaves_doubt T w a ≡ false → act T S m w (a ∷ f) ≡ act T S m w (a ∷ f')
  step_one S want w a f f' h =
      pick_same (is_name w.kind) (is_some (T.prefix w)) (opens (a ∷ f)) (number_next (a ∷ f)) (not (term_next (a ∷ f))) (is_minus w)
      (infix_next T (a ∷ f)) (infix_next T (a ∷ f')) (goes S (functor w)) (goes S (minus w)) (goes S (have (bare w))) (prefix_goes S w) (want_other S w w.kind)
      (λ prefix. let none : is_infix_only T a ≡ false = sym (ap (λ b. b && is_infix_only T a) prefix) ∙ h in
      ap (λ b. b && not (opens f)) none ∙ sym (ap (λ b. b && not (opens f')) none))
  step_one S (minus d) w a f f' h = refl
  step_one S (functor n) w a f f' h = refl
  step_one S (have t) w a f f' h = refl
  step_one S (done t) w a f f' h = refl

  -- and on two words in any case
  pub step_two : (S : Stack) (m : Mode) (w a b : Word) (f f' : List Word) → act T S m w (a ∷ b ∷ f) ≡ act T S m w (a ∷ b ∷ f')
  step_two S want w a b f f' = refl
  step_two S (minus d) w a b f f' = refl
  step_two S (functor n) w a b f f' = refl
  step_two S (have t) w a b f f' = refl
  step_two S (done t) w a b f f' = refl

  -- a word where no name waits hangs on none
  pub step_none : (S : Stack) (m : Mode) (w : Word) (f f' : List Word) → (is_want m && is_name w.kind) ≡ false → act T S m w f ≡ act T S m w f'
  step_none S want w f f' h = other_step T S w f h ∙ sym (other_step T S w f' h)
  step_none S (minus d) w f f' h = refl
  step_none S (functor n) w f f' h = refl
  step_none S (have t) w f f' h = refl
  step_none S (done t) w f f' h = refl

  -- where two words are in doubt, the words behind them decide
  pub step_doubt : (S : Stack) (p n : Word) (f : List Word) → is_name p.kind ≡ true → leaves_doubt T p n ≡ true
      → act T S want p (n ∷ f) ≡ cond (opens f) (prefix_goes S p) (goes S (have (bare p)))
  step_doubt S p n f name h =
      let only : is_infix_only T n ≡ true = and_right (is_some (T.prefix p)) (is_infix_only T n) h in
      let kinds : (is_open_round n.kind ≡ false) × (is_number n.kind ≡ false) × (begins_term n.kind ≡ true) =
      name_begins n.kind (and_left (is_name n.kind) (is_some (T.infix_ n)) (and_left (is_name n.kind && is_some (T.infix_ n)) (not (is_some (T.prefix n))) only)) in
      pick_doubt (is_name p.kind) (is_some (T.prefix p)) (opens (n ∷ f)) (number_next (n ∷ f)) (not (term_next (n ∷ f))) (is_minus p) (is_infix_only T n) (opens f)
      (goes S (functor p)) (goes S (minus p)) (goes S (have (bare p))) (prefix_goes S p) (want_other S p p.kind)
      name (and_left (is_some (T.prefix p)) (is_infix_only T n) h)
      (ap (λ b. b && not n.after_layout) kinds.0) (ap (λ b. b && not n.after_layout) kinds.1) (ap not kinds.2) only

  -- the run from the start
  abbrev pub from_start : List Word → Option State
  from_start ws = run T ws (at [] want)

  -- after these words the reader goes on from what waits, whatever follows
  abbrev pub Fits : List Word → Waiting → Type 0
  Fits u (ready S m) = (f : List Word) → from_start (u ++ f) ≡ run T f (at S m)
  Fits u (named S w) = (is_name w.kind ≡ true) × ((f : List Word) → from_start (u ++ f) ≡ run T (w ∷ f) (at S want))
  Fits u (doubt S p n) =
      (is_name p.kind ≡ true) × (leaves_doubt T p n ≡ true) × (can_go_on T S p n ≡ true) × ((f : List Word) → from_start (u ++ f) ≡ run T (p ∷ n ∷ f) (at S want))

  -- and where it is refused, no words lead on
  abbrev pub Goes : List Word → Option Waiting → Type 0
  Goes u None = (f : List Word) → from_start (u ++ f) ≡ None
  Goes u (Some waiting) = Fits u waiting

  settled_goes : (u : List Word) (o : Option State) → ((f : List Word) → from_start (u ++ f) ≡ next o (λ st. run T f st)) → Goes u (settled o)
  settled_goes u None h = h
  settled_goes u (Some st) h = h

  -- the words u and then x
  then_word : (u : List Word) (x : Word) (f : List Word) (o : Option State) → from_start (u ++ x ∷ f) ≡ o → from_start ((u ++ x ∷ []) ++ f) ≡ o
  then_word u x f o h = ap from_start (append_assoc u (x ∷ []) f) ∙ h

  enter_goes : (u : List Word) (st : State) (x : Word) → ((f : List Word) → from_start (u ++ x ∷ f) ≡ run T (x ∷ f) st) → Goes (u ++ x ∷ []) (enter T st x)
  enter_goes u st x h = at_mode st.stack st.mode h
    where
      other : (S : Stack) (m : Mode) → (is_want m && is_name x.kind) ≡ false → ((f : List Word) → from_start (u ++ x ∷ f) ≡ run T (x ∷ f) (at S m))
          → Goes (u ++ x ∷ []) (cond (is_want m && is_name x.kind) (Some (named S x)) (settled (act T S m x [])))
      other S m plain g =
          subst (λ b. Goes (u ++ x ∷ []) (cond b (Some (named S x)) (settled (act T S m x [])))) (sym plain)
          (settled_goes (u ++ x ∷ []) (act T S m x [])
          (λ f. then_word u x f (next (act T S m x []) (λ st'. run T f st')) (g f ∙ ap (λ o. next o (λ st'. run T f st')) (step_none S m x f [] plain))))

      waits : (S : Stack) → is_name x.kind ≡ true → ((f : List Word) → from_start (u ++ x ∷ f) ≡ run T (x ∷ f) (at S want))
          → Goes (u ++ x ∷ []) (cond (is_name x.kind) (Some (named S x)) (settled (act T S want x [])))
      waits S name g =
          subst (λ b. Goes (u ++ x ∷ []) (cond b (Some (named S x)) (settled (act T S want x [])))) (sym name)
          (name, λ f. then_word u x f (run T (x ∷ f) (at S want)) (g f))

      at_mode : (S : Stack) (m : Mode) → ((f : List Word) → from_start (u ++ x ∷ f) ≡ run T (x ∷ f) (at S m)) → Goes (u ++ x ∷ []) (enter T (at S m) x)
      at_mode S want g = elim (cases_Bool (is_name x.kind)) [ inl name ↦ waits S name g | inr plain ↦ other S want plain g ]
      at_mode S (minus d) g = other S (minus d) refl g
      at_mode S (functor n) g = other S (functor n) refl g
      at_mode S (have t) g = other S (have t) refl g
      at_mode S (done t) g = other S (done t) refl g

  then_enter_goes : (u : List Word) (o : Option State) (x : Word) → ((f : List Word) → from_start (u ++ x ∷ f) ≡ next o (λ st. run T (x ∷ f) st))
      → Goes (u ++ x ∷ []) (then_enter T o x)
  then_enter_goes u None x h = λ f. then_word u x f None (h f)
  then_enter_goes u (Some st) x h = enter_goes u st x h

  then_second_goes : (u : List Word) (o : Option State) (n x : Word) → is_some (T.prefix n) ≡ false
      → ((f : List Word) → from_start (u ++ x ∷ f) ≡ next o (λ st. run T (n ∷ x ∷ f) st)) → Goes (u ++ x ∷ []) (then_second T o n x)
  then_second_goes u None n x plain h = λ f. then_word u x f None (h f)
  then_second_goes u (Some st) n x plain h =
      then_enter_goes u (act T st.stack st.mode n (x ∷ [])) x
      (λ f. h f ∙ ap (λ o. next o (λ st'. run T (x ∷ f) st')) (step_one st.stack st.mode n x f [] (ap (λ b. b && is_infix_only T x) plain)))

  -- two words in doubt with no way on
  no_way_on : (S : Stack) (p n : Word) (f : List Word) → is_name p.kind ≡ true → leaves_doubt T p n ≡ true → can_go_on T S p n ≡ false → run T (p ∷ n ∷ f) (at S want) ≡ None
  no_way_on S p n f name h shut_so =
      let shut : (is_some (name_step T S (bare p) n) ≡ false) × (nat_le (sides_of (T.prefix p)).priority (bound T S) ≡ false) =
      or_false (is_some (name_step T S (bare p) n)) (nat_le (sides_of (T.prefix p)).priority (bound T S)) shut_so in
      let is_infix : is_name n.kind ≡ true =
      and_left (is_name n.kind) (is_some (T.infix_ n))
      (and_left (is_name n.kind && is_some (T.infix_ n)) (not (is_some (T.prefix n))) (and_right (is_some (T.prefix p)) (is_infix_only T n) h)) in
      ap (λ o. next o (λ st. run T (n ∷ f) st)) (step_doubt S p n f name h) ∙ by_next (opens f) shut.1 (name_kind_goes T S (bare p) n n.kind is_infix ∙ none_is (name_step T S (bare p) n) shut.0)
    where
      by_next : (b : Bool) → nat_le (sides_of (T.prefix p)).priority (bound T S) ≡ false → act T S (have (bare p)) n f ≡ None
          → next (cond b (prefix_goes S p) (goes S (have (bare p)))) (λ st. run T (n ∷ f) st) ≡ None
      by_next true low none = ap (λ b. next (cond b (goes (prefix_open p ∷ S) want) None) (λ st. run T (n ∷ f) st)) low
      by_next false low none = ap (λ o. next o (λ st. run T f st)) none

  named_goes : (u : List Word) (S : Stack) (w x : Word) → Fits u (named S w) → Goes (u ++ x ∷ []) (feed T (named S w) x)
  named_goes u S w x fits =
      elim (cases_Bool (leaves_doubt T w x)) [
        | inr sure ↦
            subst (λ b. Goes (u ++ x ∷ []) (cond b (cond (can_go_on T S w x) (Some (doubt S w x)) None) (then_enter T (act T S want w (x ∷ [])) x))) (sym sure)
            (then_enter_goes u (act T S want w (x ∷ [])) x
            (λ f. fits.1 (x ∷ f) ∙ ap (λ o. next o (λ st. run T (x ∷ f) st)) (step_one S want w x f [] sure)))
        | inl unsure ↦
            subst (λ b. Goes (u ++ x ∷ []) (cond b (cond (can_go_on T S w x) (Some (doubt S w x)) None) (then_enter T (act T S want w (x ∷ [])) x))) (sym unsure)
            (elim (cases_Bool (can_go_on T S w x)) [
              | inl on ↦
                  subst (λ b. Goes (u ++ x ∷ []) (cond b (Some (doubt S w x)) None)) (sym on)
                  (fits.0, unsure, on, λ f. then_word u x f (run T (w ∷ x ∷ f) (at S want)) (fits.1 (x ∷ f)))
              | inr shut ↦
                  subst (λ b. Goes (u ++ x ∷ []) (cond b (Some (doubt S w x)) None)) (sym shut)
                  (λ f. then_word u x f None (fits.1 (x ∷ f) ∙ no_way_on S w x f fits.0 unsure shut))
            ])
      ]

  -- one word more keeps that, and where it is refused no words lead on
  pub feed_goes : (u : List Word) (waiting : Waiting) (x : Word) → Fits u waiting → Goes (u ++ x ∷ []) (feed T waiting x)
  feed_goes u (ready S m) x fits = enter_goes u (at S m) x (λ f. fits (x ∷ f))
  feed_goes u (named S w) x fits = named_goes u S w x fits
  feed_goes u (doubt S p n) x fits =
      then_second_goes u (act T S want p (n ∷ x ∷ [])) n x (not_true (is_some (T.prefix n)) (and_right (is_name n.kind && is_some (T.infix_ n)) (not (is_some (T.prefix n))) (and_right (is_some (T.prefix p)) (is_infix_only T n) fits.1)))
      (λ f. fits.3 (x ∷ f) ∙ ap (λ o. next o (λ st. run T (n ∷ x ∷ f) st)) (step_two S want p n x f []))
    where
      not_true : (b : Bool) → not b ≡ true → b ≡ false
      not_true true h = cc
      not_true false h = refl

  pub fits_none : Fits [] (ready [] want)
  fits_none f = refl

  -- where no words lead on, no clause begins so
  pub not_begun : IsTable T → (u : List Word) → ((f : List Word) → from_start (u ++ f) ≡ None) → Begins T u → ⊥
  not_begun ok u none b =
      let both : Some (at [] (done b.tree)) ≡ None = sym (reads_clause T ok b.tree b.end b.clause) ∙ ap from_start b.is ∙ none b.more in
      cc

  -- a word that is refused begins no clause with the words before it
  pub refused : IsTable T → (u : List Word) (waiting : Waiting) (x : Word) → Fits u waiting → feed T waiting x ≡ None → Begins T (u ++ x ∷ []) → ⊥
  refused ok u waiting x fits is = not_begun ok (u ++ x ∷ []) (subst (Goes (u ++ x ∷ [])) is (feed_goes u waiting x fits))
