-- What the reader has not refused begins a clause, the least deep of which is as deep as the reader says.
use Rattle.std.proofs.Common.{ℕ, ◌≡◌, ◌≤◌, ◌<◌, min, inl, inr, Bool, true, false, cond, not, ◌&&◌, ◌||◌, List, [], ◌∷◌, ◌++◌, Option, Some, None, is_some, nat_le, arith, refl, ap, sym, subst, ◌∙◌}
use Rattle.std.proofs.lemmas.Bool.{cases_lt}
use Rattle.std.proofs.lemmas.Bool.Decides.{nat_tests}
use Rattle.prolog_tokens.specs.declared.token.Kind.{Kind}
use Rattle.prolog_tokens.specs.declared.token.Kind.TheVariants.{Name, Quoted, Variable, Integer, Float, Str, BackStr, OpenRound, CloseRound, OpenSquare, CloseSquare, OpenCurly, CloseCurly, Comma, Bar, End}
use Rattle.prolog_terms.specs.Words.{Word, Table, sides_of, is_name, is_minus, opens, number_next, term_next, infix_next, is_functor, is_negative, is_atom, is_prefix}
use Rattle.prolog_terms.specs.Grammar.{Parse, GroupStart, call, square, leaf, negative, bare, pair, group, tailed, wrapped, prefixed, infixed, one, more, priority, parse_depth, BeginsWithin}
use Rattle.prolog_terms.specs.ReaderSteps.{Pending, prefix_open, infix_open, first_open, next_open, tail_open, wrap_open, Stack, Mode, want, minus, functor, have, done, State, at, goes, bound, closed, is_curly, want_other, want_step, reduced, infix_on, postfix_on, with_tree, name_step, round_on, square_on, curly_on, end_on, have_step, act, next, run}
use Rattle.prolog_terms.specs.ReaderWaiting.{Waiting, ready, named, doubt, is_infix_only, leaves_doubt}
use Rattle.prolog_terms.specs.ReaderDepth.{floor_of, want_floor, floor, least_floor, waiting_floor}
use Rattle.prolog_terms.proofs.ReaderTables.{IsTable}
use Rattle.prolog_terms.proofs.ReaderComplete.{and_left, and_right, and_both, step, kind_step, bare_step, functor_step, name_kind_goes, reads_clause}
use Rattle.prolog_terms.proofs.ReaderSound.{IsReadAs, read_sound, OnState, OnTree, with_tree_on, five_cases, guarded}
use Rattle.prolog_terms.proofs.ReaderPlaces.{Fits, from_start, step_doubt}
use Rattle.prolog_terms.proofs.ReaderFloors.{AtLeast, run_floor}

-- a word of this kind, with layout before it
abbrev filler : Kind → Word
filler kind = record { kind = kind; text = []; value = None; after_layout = true; span = record { from = 0; to = 0 } }

abbrev closing : GroupStart → Word
closing (call f o) = filler CloseRound
closing (square o) = filler CloseSquare

-- the words that close all that is open, and an End
abbrev closers : Stack → List Word
closers [] = filler End ∷ []
closers (prefix_open w ∷ S) = closers S
closers (infix_open l w ∷ S) = closers S
closers (first_open g ∷ S) = closing g ∷ closers S
closers (next_open g xs c ∷ S) = closing g ∷ closers S
closers (tail_open o xs b ∷ S) = filler CloseSquare ∷ closers S
closers (wrap_open o ∷ S) = filler (cond (is_curly o.kind) CloseCurly CloseRound) ∷ closers S

module _ (T : Table) where
  infix_name : (p n : Word) → leaves_doubt T p n ≡ true → is_name n.kind ≡ true
  infix_name p n h =
      and_left (is_name n.kind) (is_some (T.infix_ n))
      (and_left (is_name n.kind && is_some (T.infix_ n)) (not (is_some (T.prefix n))) (and_right (is_some (T.prefix p)) (is_infix_only T n) h))

  -- these words lead from the state to a clause of this depth
  pub record Ends (st : State) (n : ℕ) (f : List Word) : Type 0 where
    pub tree : Parse
    pub is : run T f st ≡ Some (at [] (done tree))
    pub depth_is : parse_depth tree ≡ n

  ends_same : (st : State) (n k : ℕ) (f : List Word) → n ≡ k → Ends st n f → Ends st k f
  ends_same st n k f e h = record { tree = h.tree; is = h.is; depth_is = h.depth_is ∙ e }

  ends_step : (w : Word) (f : List Word) (S : Stack) (m : Mode) (S' : Stack) (m' : Mode) (n : ℕ) → act T S m w f ≡ goes S' m'
      → Ends (at S' m') n f → Ends (at S m) n (w ∷ f)
  ends_step w f S m S' m' n e h = record { tree = h.tree; is = step T w f S m S' m' e ∙ h.is; depth_is = h.depth_is }

  wrap_closes : (o : Word) (S : Stack) (t : Parse) (S0 : Stack) (t0 : Parse) → closed S0 t0 ≡ at (wrap_open o ∷ S) (have t) → (b : Bool) → is_curly o.kind ≡ b
      → have_step T S0 t0 (filler (cond b CloseCurly CloseRound)) (cond b CloseCurly CloseRound) ≡ goes S (have (wrapped o t (filler (cond b CloseCurly CloseRound))))
  wrap_closes o S t S0 t0 e true is =
      ap (λ st. with_tree st (curly_on (filler CloseCurly))) e ∙ ap (λ b. cond b (goes S (have (wrapped o t (filler CloseCurly)))) None) is
  wrap_closes o S t S0 t0 e false is =
      ap (λ st. with_tree st (round_on (filler CloseRound))) e ∙ ap (λ b. cond b None (goes S (have (wrapped o t (filler CloseRound))))) is

  -- closing all that is open gives the least depth
  closers_end : (S : Stack) (t : Parse) (S0 : Stack) (t0 : Parse) → closed S0 t0 ≡ closed S t → Ends (at S0 (have t0)) (floor_of S (parse_depth t)) (closers S)
  closers_end [] t S0 t0 e = record { tree = t; is = step T (filler End) [] S0 (have t0) [] (done t) (ap (λ st. with_tree st end_on) e); depth_is = omega arith }
  closers_end (prefix_open w ∷ S) t S0 t0 e =
      ends_same (at S0 (have t0)) (floor_of S (parse_depth (prefixed w t))) (floor_of (prefix_open w ∷ S) (parse_depth t)) (closers S) (omega arith)
      (closers_end S (prefixed w t) S0 t0 e)
  closers_end (infix_open l w ∷ S) t S0 t0 e =
      ends_same (at S0 (have t0)) (floor_of S (parse_depth (infixed l w t))) (floor_of (infix_open l w ∷ S) (parse_depth t)) (closers S) (omega arith)
      (closers_end S (infixed l w t) S0 t0 e)
  closers_end (first_open (call f o) ∷ S) t S0 t0 e =
      let all : Parse = group (call f o) (one t) (filler CloseRound) in
      ends_same (at S0 (have t0)) (floor_of S (parse_depth all)) (floor_of (first_open (call f o) ∷ S) (parse_depth t)) (filler CloseRound ∷ closers S) (omega arith)
      (ends_step (filler CloseRound) (closers S) S0 (have t0) S (have all) (floor_of S (parse_depth all)) (ap (λ st. with_tree st (round_on (filler CloseRound))) e)
      (closers_end S all S all refl))
  closers_end (first_open (square o) ∷ S) t S0 t0 e =
      let all : Parse = group (square o) (one t) (filler CloseSquare) in
      ends_same (at S0 (have t0)) (floor_of S (parse_depth all)) (floor_of (first_open (square o) ∷ S) (parse_depth t)) (filler CloseSquare ∷ closers S) (omega arith)
      (ends_step (filler CloseSquare) (closers S) S0 (have t0) S (have all) (floor_of S (parse_depth all)) (ap (λ st. with_tree st (square_on (filler CloseSquare))) e)
      (closers_end S all S all refl))
  closers_end (next_open (call f o) xs c ∷ S) t S0 t0 e =
      let all : Parse = group (call f o) (more xs c t) (filler CloseRound) in
      ends_same (at S0 (have t0)) (floor_of S (parse_depth all)) (floor_of (next_open (call f o) xs c ∷ S) (parse_depth t)) (filler CloseRound ∷ closers S) (omega arith)
      (ends_step (filler CloseRound) (closers S) S0 (have t0) S (have all) (floor_of S (parse_depth all)) (ap (λ st. with_tree st (round_on (filler CloseRound))) e)
      (closers_end S all S all refl))
  closers_end (next_open (square o) xs c ∷ S) t S0 t0 e =
      let all : Parse = group (square o) (more xs c t) (filler CloseSquare) in
      ends_same (at S0 (have t0)) (floor_of S (parse_depth all)) (floor_of (next_open (square o) xs c ∷ S) (parse_depth t)) (filler CloseSquare ∷ closers S) (omega arith)
      (ends_step (filler CloseSquare) (closers S) S0 (have t0) S (have all) (floor_of S (parse_depth all)) (ap (λ st. with_tree st (square_on (filler CloseSquare))) e)
      (closers_end S all S all refl))
  closers_end (tail_open o xs b ∷ S) t S0 t0 e =
      let all : Parse = tailed o xs b t (filler CloseSquare) in
      ends_same (at S0 (have t0)) (floor_of S (parse_depth all)) (floor_of (tail_open o xs b ∷ S) (parse_depth t)) (filler CloseSquare ∷ closers S) (omega arith)
      (ends_step (filler CloseSquare) (closers S) S0 (have t0) S (have all) (floor_of S (parse_depth all)) (ap (λ st. with_tree st (square_on (filler CloseSquare))) e)
      (closers_end S all S all refl))
  closers_end (wrap_open o ∷ S) t S0 t0 e =
      let c : Word = filler (cond (is_curly o.kind) CloseCurly CloseRound) in
      let all : Parse = wrapped o t c in
      ends_same (at S0 (have t0)) (floor_of S (parse_depth all)) (floor_of (wrap_open o ∷ S) (parse_depth t)) (c ∷ closers S) (omega arith)
      (ends_step c (closers S) S0 (have t0) S (have all) (floor_of S (parse_depth all)) (wrap_closes o S t S0 t0 e (is_curly o.kind) refl)
      (closers_end S all S all refl))

  -- words that lead on from where an operand is wanted, the first of which opens no arguments
  pub record Leads (st : State) (n : ℕ) : Type 0 where
    pub words : List Word
    pub apart : opens words ≡ false
    pub ends : Ends st n words

  number_leads : (S : Stack) → Leads (at S want) (floor_of S 1)
  number_leads S = record {
    words = filler Integer ∷ closers S;
    apart = refl;
    ends = ends_step (filler Integer) (closers S) S want S (have (leaf (filler Integer))) (floor_of S 1)
        (kind_step T S (filler Integer) (closers S) Integer refl refl) (closers_end S (leaf (filler Integer)) S (leaf (filler Integer)) refl);
  }

  pair_leads : (S : Stack) (pending : Pending) (o c : Word) → opens (c ∷ closers S) ≡ false → want_step T (pending ∷ S) c (closers S) ≡ goes S (have (pair o c))
      → Leads (at (pending ∷ S) want) (floor_of S 1)
  pair_leads S pending o c apart e = record {
    words = c ∷ closers S;
    apart = apart;
    ends = ends_step c (closers S) (pending ∷ S) want S (have (pair o c)) (floor_of S 1) e (closers_end S (pair o c) S (pair o c) refl);
  }

  wrap_leads : (o : Word) (S : Stack) (b : Bool) → is_curly o.kind ≡ b → Leads (at (wrap_open o ∷ S) want) (cond b (floor_of S 1) (floor_of (wrap_open o ∷ S) 1))
  wrap_leads o S true is =
      pair_leads S (wrap_open o) o (filler CloseCurly) refl
      (kind_step T (wrap_open o ∷ S) (filler CloseCurly) (closers S) CloseCurly refl refl ∙ ap (λ b. cond b (goes S (have (pair o (filler CloseCurly)))) None) is)
  wrap_leads o S false is = number_leads (wrap_open o ∷ S)

  want_leads : (S : Stack) → Leads (at S want) (want_floor S)
  want_leads (first_open (square o) ∷ S) =
      pair_leads S (first_open (square o)) o (filler CloseSquare) refl (kind_step T (first_open (square o) ∷ S) (filler CloseSquare) (closers S) CloseSquare refl refl)
  want_leads (wrap_open o ∷ S) = wrap_leads o S (is_curly o.kind) refl
  want_leads (first_open (call f o) ∷ S) = number_leads (first_open (call f o) ∷ S)
  want_leads (next_open g xs c ∷ S) = number_leads (next_open g xs c ∷ S)
  want_leads (tail_open o xs b ∷ S) = number_leads (tail_open o xs b ∷ S)
  want_leads (prefix_open w ∷ S) = number_leads (prefix_open w ∷ S)
  want_leads (infix_open l w ∷ S) = number_leads (infix_open l w ∷ S)
  want_leads [] = number_leads []

  -- the words of a run are a clause of its depth
  within_of : (u f : List Word) (n : ℕ) (S : Stack) (t : Parse) → from_start T (u ++ f) ≡ Some (at S (done t)) → parse_depth t ≤ n → BeginsWithin T n u
  within_of u f n S t is low =
      let read : IsReadAs T (u ++ f) t = read_sound T (u ++ f) S t is in
      record {
        begins = record { tree = t; end = read.end; more = f; clause = read.clause; is = sym read.words };
        shallow = low;
      }

  ends_within : (u f g : List Word) (st : State) (n : ℕ) → from_start T (u ++ f) ≡ run T g st → Ends st n g → BeginsWithin T n u
  ends_within u f g st n fits ends = within_of u f n [] ends.tree (fits ∙ ends.is) (omega (arith, ends.depth_is))

  -- a name that waits can be an atom before a closing word

  record IsShut (f : List Word) : Type 0 where
    no_bracket : opens f ≡ false
    no_number : number_next f ≡ false
    no_term : term_next f ≡ false

  closers_shut : (S : Stack) → IsShut (closers S)
  closers_shut [] = record { no_bracket = refl; no_number = refl; no_term = refl }
  closers_shut (prefix_open w ∷ S) = closers_shut S
  closers_shut (infix_open l w ∷ S) = closers_shut S
  closers_shut (first_open (call f o) ∷ S) = record { no_bracket = refl; no_number = refl; no_term = refl }
  closers_shut (first_open (square o) ∷ S) = record { no_bracket = refl; no_number = refl; no_term = refl }
  closers_shut (next_open (call f o) xs c ∷ S) = record { no_bracket = refl; no_number = refl; no_term = refl }
  closers_shut (next_open (square o) xs c ∷ S) = record { no_bracket = refl; no_number = refl; no_term = refl }
  closers_shut (tail_open o xs b ∷ S) = record { no_bracket = refl; no_number = refl; no_term = refl }
  closers_shut (wrap_open o ∷ S) = by_kind (is_curly o.kind)
    where
      by_kind : (b : Bool) → IsShut (filler (cond b CloseCurly CloseRound) ∷ closers S)
      by_kind true = record { no_bracket = refl; no_number = refl; no_term = refl }
      by_kind false = record { no_bracket = refl; no_number = refl; no_term = refl }

  atom_of : (name minus_like prefix opening number term infix_like : Bool) → name ≡ true → opening ≡ false → number ≡ false → term ≡ false
      → (name && not opening && not (minus_like && number) && (not prefix || (not term || infix_like))) ≡ true
  atom_of true true true false false false infix_like h1 h2 h3 h4 = refl
  atom_of true true false false false false infix_like h1 h2 h3 h4 = refl
  atom_of true false true false false false infix_like h1 h2 h3 h4 = refl
  atom_of true false false false false false infix_like h1 h2 h3 h4 = refl
  atom_of true minus_like prefix false false true infix_like h1 h2 h3 h4 = cc
  atom_of true minus_like prefix false true term infix_like h1 h2 h3 h4 = cc
  atom_of true minus_like prefix true number term infix_like h1 h2 h3 h4 = cc
  atom_of false minus_like prefix opening number term infix_like h1 h2 h3 h4 = cc

  atom_before : (w : Word) (f : List Word) → is_name w.kind ≡ true → IsShut f → is_atom T w f ≡ true
  atom_before w f name shut =
      atom_of (is_name w.kind) (is_minus w) (is_some (T.prefix w)) (opens f) (number_next f) (term_next f) (infix_next T f) name shut.no_bracket shut.no_number shut.no_term

  named_ends : (S : Stack) (w : Word) → is_name w.kind ≡ true → Ends (at S want) (floor_of S 1) (w ∷ closers S)
  named_ends S w name =
      ends_step w (closers S) S want S (have (bare w)) (floor_of S 1) (bare_step T S w (closers S) (atom_before w (closers S) name (closers_shut S)))
      (closers_end S (bare w) S (bare w) refl)

  -- two words in doubt, as a prefix operator and a functor

  abbrev bracket : Word
  bracket = record { kind = OpenRound; text = []; value = None; after_layout = false; span = record { from = 0; to = 0 } }

  functor_ends : (S : Stack) (p n : Word) → is_name p.kind ≡ true → leaves_doubt T p n ≡ true → (sides_of (T.prefix p)).priority ≤ bound T S
      → Ends (at S want) (floor_of S 3) (p ∷ n ∷ bracket ∷ filler Integer ∷ filler CloseRound ∷ closers S)
  functor_ends S p n name h low =
      let f : List Word = bracket ∷ filler Integer ∷ filler CloseRound ∷ closers S in
      let S1 : Stack = prefix_open p ∷ S in
      let S2 : Stack = first_open (call n bracket) ∷ S1 in
      let is_name_n : is_name n.kind ≡ true = infix_name p n h in
      ends_step p (n ∷ f) S want S1 want (floor_of S 3)
      (step_doubt T S p n f name h ∙ ap (λ b. cond b (goes S1 want) None) (within (sides_of (T.prefix p)).priority (bound T S) low))
      (ends_step n f S1 want S1 (functor n) (floor_of S 3) (functor_step T S1 n f (and_both (is_name n.kind) true is_name_n refl))
      (ends_step bracket (filler Integer ∷ filler CloseRound ∷ closers S) S1 (functor n) S2 want (floor_of S 3) refl
      (ends_step (filler Integer) (filler CloseRound ∷ closers S) S2 want S2 (have (leaf (filler Integer))) (floor_of S 3)
      (kind_step T S2 (filler Integer) (filler CloseRound ∷ closers S) Integer refl refl)
      (ends_same (at S2 (have (leaf (filler Integer)))) (floor_of S2 1) (floor_of S 3) (filler CloseRound ∷ closers S) (omega arith)
      (closers_end S2 (leaf (filler Integer)) S2 (leaf (filler Integer)) refl)))))
    where
      within : (a b : ℕ) → a ≤ b → nat_le a b ≡ true
      within a b h = grind (arith, nat_tests)

  -- two words in doubt, as an atom and its infix operator
  name_leads : (S : Stack) (t : Parse) (n : Word) (st : State) → is_some (T.infix_ n) ≡ true → name_step T S t n ≡ Some st → Leads st (floor st.stack st.mode)
  name_leads S t n st some is = subst (λ o. OnState o (λ S' m. Leads (at S' m) (floor S' m))) is at_infix
    where
      on_infix : (S' : Stack) (t' : Parse) → OnState (infix_on T S' t' n) (λ S'' m. Leads (at S'' m) (floor S'' m))
      on_infix S' t' =
          guarded (nat_le (sides_of (T.infix_ n)).priority (bound T S') && nat_le (priority T t') (sides_of (T.infix_ n)).left) (at (infix_open t' n ∷ S') want)
          (λ S'' m. Leads (at S'' m) (floor S'' m)) (λ both. number_leads (infix_open t' n ∷ S'))

      any_tree : (st' : State) → OnTree st' (λ S' t'. Unit {0})
      any_tree st' = at_mode st'.mode
        where
          at_mode : (m : Mode) → OnTree (at st'.stack m) (λ S' t'. Unit {0})
          at_mode want = tt
          at_mode (minus d) = tt
          at_mode (functor f) = tt
          at_mode (have u) = tt
          at_mode (done u) = tt

      at_infix : OnState (name_step T S t n) (λ S' m. Leads (at S' m) (floor S' m))
      at_infix =
          subst (λ b. OnState (cond b (cond b (with_tree (reduced T (sides_of (T.infix_ n)).priority S t) (λ S' t'. infix_on T S' t' n)) None)
          (cond (is_some (T.postfix n)) (with_tree (reduced T (sides_of (T.postfix n)).priority S t) (λ S' t'. postfix_on T S' t' n)) None)) (λ S' m. Leads (at S' m) (floor S' m)))
          (sym some)
          (with_tree_on (reduced T (sides_of (T.infix_ n)).priority S t) (λ S' t'. Unit {0}) (λ S' m. Leads (at S' m) (floor S' m)) (λ S' t'. infix_on T S' t' n)
          (any_tree (reduced T (sides_of (T.infix_ n)).priority S t)) (λ S' t' any. on_infix S' t'))

  atom_ends : (S : Stack) (p n : Word) (st : State) → is_name p.kind ≡ true → leaves_doubt T p n ≡ true → name_step T S (bare p) n ≡ Some st
      → (leads : Leads st (floor st.stack st.mode)) → Ends (at S want) (floor st.stack st.mode) (p ∷ n ∷ leads.words)
  atom_ends S p n st name h is leads =
      ends_step p (n ∷ leads.words) S want S (have (bare p)) (floor st.stack st.mode)
      (step_doubt T S p n leads.words name h ∙ ap (λ b. cond b (cond (nat_le (sides_of (T.prefix p)).priority (bound T S)) (goes (prefix_open p ∷ S) want) None) (goes S (have (bare p)))) leads.apart)
      (ends_step n leads.words S (have (bare p)) st.stack st.mode (floor st.stack st.mode)
      (name_kind_goes T S (bare p) n n.kind (infix_name p n h) ∙ is) leads.ends)

  -- what the reader has not refused begins a clause of the depth that it says

  by_atom : (u : List Word) (S : Stack) (p n : Word) → Fits T u (doubt S p n) → (st : State) → name_step T S (bare p) n ≡ Some st → BeginsWithin T (floor st.stack st.mode) u
  by_atom u S p n fits st is =
      let some : is_some (T.infix_ n) ≡ true =
      and_right (is_name n.kind) (is_some (T.infix_ n)) (and_left (is_name n.kind && is_some (T.infix_ n)) (not (is_some (T.prefix n))) (and_right (is_some (T.prefix p)) (is_infix_only T n) fits.1)) in
      let leads : Leads st (floor st.stack st.mode) = name_leads S (bare p) n st some is in
      ends_within u leads.words (p ∷ n ∷ leads.words) (at S want) (floor st.stack st.mode) (fits.3 leads.words) (atom_ends S p n st fits.0 fits.1 is leads)

  min_left : (a b : ℕ) → a < b → a ≡ min a b
  min_left a b h = omega (arith, h)

  min_right : (a b : ℕ) → b ≤ a → b ≡ min a b
  min_right a b h = omega (arith, h)

  within_from : (a b : ℕ) → nat_le a b ≡ true → a ≤ b
  within_from a b h = grind (arith, nat_tests)

  doubt_ends : (u : List Word) (S : Stack) (p n : Word) → Fits T u (doubt S p n) → (o : Option State) (allowed : Bool) → name_step T S (bare p) n ≡ o
      → nat_le (sides_of (T.prefix p)).priority (bound T S) ≡ allowed → BeginsWithin T (least_floor o allowed (floor_of S 3)) u
  doubt_ends u S p n fits None true o_is allowed_is =
      ends_within u (bracket ∷ filler Integer ∷ filler CloseRound ∷ closers S) (p ∷ n ∷ bracket ∷ filler Integer ∷ filler CloseRound ∷ closers S) (at S want) (floor_of S 3) (fits.3 (bracket ∷ filler Integer ∷ filler CloseRound ∷ closers S))
      (functor_ends S p n fits.0 fits.1 (within_from (sides_of (T.prefix p)).priority (bound T S) allowed_is))
  doubt_ends u S p n fits None false o_is allowed_is =
      let both : false ≡ true =
      sym (ap (λ o. is_some o || nat_le (sides_of (T.prefix p)).priority (bound T S)) o_is ∙ allowed_is) ∙ fits.2 in
      cc
  doubt_ends u S p n fits (Some st) false o_is allowed_is = by_atom u S p n fits st o_is
  doubt_ends u S p n fits (Some st) true o_is allowed_is =
      elim (cases_lt (floor st.stack st.mode) (floor_of S 3)) [
        | inl low ↦ subst (λ k. BeginsWithin T k u) (min_left (floor st.stack st.mode) (floor_of S 3) low) (by_atom u S p n fits st o_is)
        | inr low ↦ subst (λ k. BeginsWithin T k u) (min_right (floor st.stack st.mode) (floor_of S 3) low)
            (ends_within u (bracket ∷ filler Integer ∷ filler CloseRound ∷ closers S) (p ∷ n ∷ bracket ∷ filler Integer ∷ filler CloseRound ∷ closers S) (at S want) (floor_of S 3) (fits.3 (bracket ∷ filler Integer ∷ filler CloseRound ∷ closers S))
            (functor_ends S p n fits.0 fits.1 (within_from (sides_of (T.prefix p)).priority (bound T S) allowed_is)))
      ]

  pub waiting_ends : (u : List Word) (waiting : Waiting) → Fits T u waiting → BeginsWithin T (waiting_floor T waiting) u
  waiting_ends u (ready S want) fits = ends_within u (want_leads S).words (want_leads S).words (at S want) (want_floor S) (fits (want_leads S).words) (want_leads S).ends
  waiting_ends u (ready S (minus d)) fits =
      let all : Parse = negative d (filler Integer) in
      ends_within u (filler Integer ∷ closers S) (filler Integer ∷ closers S) (at S (minus d)) (floor_of S 1) (fits (filler Integer ∷ closers S))
      (ends_step (filler Integer) (closers S) S (minus d) S (have all) (floor_of S 1) refl (closers_end S all S all refl))
  waiting_ends u (ready S (functor n)) fits =
      let S1 : Stack = first_open (call n bracket) ∷ S in
      let t : Parse = leaf (filler Integer) in
      ends_within u (bracket ∷ filler Integer ∷ closers S1) (bracket ∷ filler Integer ∷ closers S1) (at S (functor n)) (floor_of S 2) (fits (bracket ∷ filler Integer ∷ closers S1))
      (ends_step bracket (filler Integer ∷ closers S1) S (functor n) S1 want (floor_of S 2) refl
      (ends_step (filler Integer) (closers S1) S1 want S1 (have t) (floor_of S 2) (kind_step T S1 (filler Integer) (closers S1) Integer refl refl)
      (ends_same (at S1 (have t)) (floor_of S1 1) (floor_of S 2) (closers S1) (omega arith) (closers_end S1 t S1 t refl))))
  waiting_ends u (ready S (have t)) fits = ends_within u (closers S) (closers S) (at S (have t)) (floor_of S (parse_depth t)) (fits (closers S)) (closers_end S t S t refl)
  waiting_ends u (ready S (done t)) fits = within_of u [] (parse_depth t) S t (fits []) (omega arith)
  waiting_ends u (named S w) fits = ends_within u (closers S) (w ∷ closers S) (at S want) (floor_of S 1) (fits.1 (closers S)) (named_ends S w fits.0)
  waiting_ends u (doubt S p n) fits =
      doubt_ends u S p n fits (name_step T S (bare p) n) (nat_le (sides_of (T.prefix p)).priority (bound T S)) refl refl

  -- and no clause that begins so is less deep

  -- a run to a clause from a step
  run_low : (o : Option State) (f : List Word) (n : ℕ) (t : Parse) → AtLeast T n o → next o (λ st. run T f st) ≡ Some (at [] (done t)) → n ≤ parse_depth t
  run_low None f n t low is = cc
  run_low (Some st) f n t low is =
      let end : floor st.stack st.mode ≤ parse_depth t = subst (λ o. AtLeast T (floor st.stack st.mode) o) is (run_floor T f st) in
      omega (arith, low, end)

  name_other : (S : Stack) (w : Word) (n : ℕ) (k : Kind) → is_name k ≡ true → AtLeast T n (want_other S w k)
  name_other S w n Name h = tt
  name_other S w n Quoted h = tt
  name_other S w n Variable h = cc
  name_other S w n Integer h = cc
  name_other S w n Float h = cc
  name_other S w n Str h = cc
  name_other S w n BackStr h = cc
  name_other S w n OpenRound h = cc
  name_other S w n CloseRound h = cc
  name_other S w n OpenSquare h = cc
  name_other S w n CloseSquare h = cc
  name_other S w n OpenCurly h = cc
  name_other S w n CloseCurly h = cc
  name_other S w n Comma h = cc
  name_other S w n Bar h = cc
  name_other S w n End h = cc

  name_want_floor : (S : Stack) (w : Word) (f : List Word) → is_name w.kind ≡ true → AtLeast T (floor_of S 1) (want_step T S w f)
  name_want_floor S w f name =
      five_cases (λ o. AtLeast T (floor_of S 1) o) (is_functor w f) (is_negative w f) (is_atom T w f) (is_prefix T w f)
      (goes S (functor w)) (goes S (minus w)) (goes S (have (bare w)))
      (cond (nat_le (sides_of (T.prefix w)).priority (bound T S)) (goes (prefix_open w ∷ S) want) None) (want_other S w w.kind)
      (λ e. omega arith) (λ e. omega arith) (λ e. omega arith)
      (λ e. guarded (nat_le (sides_of (T.prefix w)).priority (bound T S)) (at (prefix_open w ∷ S) want) (λ S' m. floor_of S 1 ≤ floor S' m) (λ low. omega arith))
      (name_other S w (floor_of S 1) w.kind name)

  -- the prefix reading of two words in doubt
  functor_low : (S : Stack) (p n : Word) (f : List Word) (t : Parse) → is_name n.kind ≡ true → opens f ≡ true → (allowed : Bool)
      → next (cond allowed (goes (prefix_open p ∷ S) want) None) (λ st. run T (n ∷ f) st) ≡ Some (at [] (done t)) → (allowed ≡ true) × (floor_of S 3 ≤ parse_depth t)
  functor_low S p n f t name opened false is = let none : ⊥ = (let both : None ≡ Some (at [] (done t)) = is in cc) in absurd none
  functor_low S p n f t name opened true is =
      let low : floor_of (prefix_open p ∷ S) 2 ≤ parse_depth t =
      run_low (Some (at (prefix_open p ∷ S) (functor n))) f (floor_of (prefix_open p ∷ S) 2) t (omega arith)
      (ap (λ o. next o (λ st. run T f st)) (sym (functor_step T (prefix_open p ∷ S) n f (and_both (is_name n.kind) (opens f) name opened))) ∙ is) in
      (refl, omega (arith, low))

  least_of_functor : (o : Option State) (allowed : Bool) (n d : ℕ) → allowed ≡ true → n ≤ d → least_floor o allowed n ≤ d
  least_of_functor None allowed n d e low = low
  least_of_functor (Some st) true n d e low = omega (arith, low)
  least_of_functor (Some st) false n d e low = cc

  least_of_atom : (st : State) (allowed : Bool) (n d : ℕ) → floor st.stack st.mode ≤ d → least_floor (Some st) allowed n ≤ d
  least_of_atom st true n d low = omega (arith, low)
  least_of_atom st false n d low = low

  atom_low : (o : Option State) (f : List Word) (allowed : Bool) (n : ℕ) (t : Parse) → next o (λ st. run T f st) ≡ Some (at [] (done t)) → least_floor o allowed n ≤ parse_depth t
  atom_low None f allowed n t is = cc
  atom_low (Some st) f allowed n t is =
      least_of_atom st allowed n (parse_depth t) (subst (λ o. AtLeast T (floor st.stack st.mode) o) is (run_floor T f st))

  doubt_low : (S : Stack) (p n : Word) (f : List Word) (t : Parse) → is_name p.kind ≡ true → leaves_doubt T p n ≡ true
      → run T (p ∷ n ∷ f) (at S want) ≡ Some (at [] (done t)) → waiting_floor T (doubt S p n) ≤ parse_depth t
  doubt_low S p n f t name h is = by_next (opens f) refl
    where
      first : next (cond (opens f) (cond (nat_le (sides_of (T.prefix p)).priority (bound T S)) (goes (prefix_open p ∷ S) want) None) (goes S (have (bare p))))
          (λ st. run T (n ∷ f) st) ≡ Some (at [] (done t))
      first = ap (λ o. next o (λ st. run T (n ∷ f) st)) (sym (step_doubt T S p n f name h)) ∙ is

      by_next : (b : Bool) → opens f ≡ b → waiting_floor T (doubt S p n) ≤ parse_depth t
      by_next true opened =
          let both : (nat_le (sides_of (T.prefix p)).priority (bound T S) ≡ true) × (floor_of S 3 ≤ parse_depth t) =
          functor_low S p n f t (infix_name p n h) opened (nat_le (sides_of (T.prefix p)).priority (bound T S))
          (subst (λ b. next (cond b (cond (nat_le (sides_of (T.prefix p)).priority (bound T S)) (goes (prefix_open p ∷ S) want) None) (goes S (have (bare p)))) (λ st. run T (n ∷ f) st)
          ≡ Some (at [] (done t))) opened first) in
          least_of_functor (name_step T S (bare p) n) (nat_le (sides_of (T.prefix p)).priority (bound T S)) (floor_of S 3) (parse_depth t) both.0 both.1
      by_next false shut =
          atom_low (name_step T S (bare p) n) f (nat_le (sides_of (T.prefix p)).priority (bound T S)) (floor_of S 3) t
          (ap (λ o. next o (λ st. run T f st)) (sym (name_kind_goes T S (bare p) n n.kind (infix_name p n h)))
          ∙ subst (λ b. next (cond b (cond (nat_le (sides_of (T.prefix p)).priority (bound T S)) (goes (prefix_open p ∷ S) want) None) (goes S (have (bare p)))) (λ st. run T (n ∷ f) st)
          ≡ Some (at [] (done t))) shut first)

  -- a clause that begins with these words is at least as deep as what waits behind them says
  pub waiting_low : IsTable T → (u : List Word) (waiting : Waiting) (n : ℕ) → Fits T u waiting → BeginsWithin T n u → waiting_floor T waiting ≤ n
  waiting_low ok u waiting n fits within = omega (arith, by_waiting waiting fits, within.shallow)
    where
      tree : Parse
      tree = within.begins.tree

      read : from_start T (u ++ within.begins.more) ≡ Some (at [] (done within.begins.tree))
      read = ap (from_start T) (sym within.begins.is) ∙ reads_clause T ok within.begins.tree within.begins.end within.begins.clause

      by_waiting : (waiting : Waiting) → Fits T u waiting → waiting_floor T waiting ≤ parse_depth within.begins.tree
      by_waiting (ready S m) fits =
          subst (λ o. AtLeast T (floor S m) o) (sym (fits within.begins.more) ∙ read) (run_floor T within.begins.more (at S m))
      by_waiting (named S w) fits =
          run_low (want_step T S w within.begins.more) within.begins.more (floor_of S 1) within.begins.tree (name_want_floor S w within.begins.more fits.0)
          (sym (fits.1 within.begins.more) ∙ read)
      by_waiting (doubt S p n) fits =
          doubt_low S p n within.begins.more within.begins.tree fits.0 fits.1 (sym (fits.3 within.begins.more) ∙ read)
