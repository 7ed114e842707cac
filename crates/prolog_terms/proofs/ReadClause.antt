-- What the reader has read of a clause, and what it is where it stops.
use Rattle.std.proofs.Common.{◌≡◌, ℕ, zero, suc, ◌+◌, ◌-◌, ◌<◌, ◌≤◌, min, Bool, true, false, not, cond, ◌&&◌, ◌||◌, List, [], ◌∷◌, ◌++◌, length, take, drop, Option, Some, None, is_some, nat_le, slice_get, refl, ap, sym, ◌∙◌, subst, inl, inr, arith, append_assoc, append-nil, length-append, ◌^◌}
use Rattle.std.proofs.lemmas.List.{take-append-drop, take-append-le, length-take-le, take_more}
use Rattle.std.proofs.lemmas.Option.{slice_get_within, get_or_from_slice_get}
use Rattle.std.proofs.lemmas.Bool.{cases_order}
use Rattle.prolog_tokens.specs.declared.token.Kind.TheVariants.{End}
use Rattle.prolog_tokens.specs.declared.token.Token.{Token}
use Rattle.prolog_terms.specs.declared.read_fault.ReadFault.{ReadFault}
use Rattle.prolog_terms.specs.declared.read_fault.ReadFault.TheVariants.{Stuck, TooDeep, NoEnd, NoMemory}
use Rattle.prolog_terms.specs.Words.{Word, Table, sides_of, is_name, is_minus}
use Rattle.prolog_terms.specs.Grammar.{Parse, bare, yield, parse_depth, priority, Begins, BeginsWithin}
use Rattle.prolog_terms.specs.Tree.{Tree}
use Rattle.prolog_terms.specs.Clause.{IsWordOf, AreWords, tree_from, IsClauseOf, StandsAt, IsReadFault, IsOnlyClauseOf, IsOnlyReadFault}
use Rattle.prolog_terms.specs.StuckPlace.{IsRefusedAt, IsStuckAt, IsTooDeepAt, HasNoEnd}
use Rattle.prolog_terms.specs.ReaderSteps.{infix_open, Stack, Mode, want, minus, functor, have, done, State, at, goes, bound, reduced, infix_on, with_tree, want_step, act, next, run}
use Rattle.prolog_terms.specs.ReaderWaiting.{Waiting, ready, named, doubt, feed}
use Rattle.prolog_terms.specs.ReaderDepth.{waiting_floor}
use Rattle.prolog_terms.specs.ReaderSeen.{WaitingSeen, ready_seen, wants, finished, OperandSeen, StackSeen, feed_seen, waiting_floor_seen, waiting_parts, is_finished}
use Rattle.prolog_terms.proofs.PartsMade.{IsToken}
use Rattle.prolog_terms.proofs.WordsOf.{have_words, are_append, are_take, are_length, are_last}
use Rattle.prolog_terms.proofs.NoEndWithin.{kept_none, before_none, none_at}
use Rattle.prolog_terms.proofs.ReaderTables.{IsTable}
use Rattle.prolog_terms.proofs.ReaderComplete.{bare_step, name_kind_goes, reads_clause, one_clause}
use Rattle.prolog_terms.proofs.ReaderSound.{read_sound}
use Rattle.prolog_terms.proofs.ReaderPlaces.{from_start, Fits, Goes, feed_goes, fits_none, refused, step_doubt}
use Rattle.prolog_terms.proofs.ReaderEnds.{waiting_ends, waiting_low}
use Rattle.prolog_terms.proofs.ReaderRoom.{WaitsWithin, feed_room}
use Rattle.prolog_terms.proofs.ReaderJoin.{parse_seen}
use Rattle.prolog_terms.proofs.ReaderJoinWaiting.{waiting_seen, fed_seen, fits_names, feed_is, waiting_floor_is, infix_some, infix_name_step}

below_cap : (m n : ℕ) → 1000 < m → min n m ≤ 1000 → n ≤ 1000
below_cap m n big low = omega (arith, big, low)

over_cap : (m n : ℕ) → 1000 < min n m → 1000 < n
over_cap m n over = omega (arith, over)

-- words that others begin with

begins_front : (T : Table) (n : ℕ) (us ws : List Word) → BeginsWithin T n (us ++ ws) → BeginsWithin T n us
begins_front T n us ws h =
    record {
      begins = record {
        tree = h.begins.tree;
        end = h.begins.end;
        more = ws ++ h.begins.more;
        clause = h.begins.clause;
        is = h.begins.is ∙ append_assoc us ws h.begins.more;
      };
      shallow = h.shallow;
    }

any_front : (T : Table) (us ws : List Word) → Begins T (us ++ ws) → Begins T us
any_front T us ws h =
    record { tree = h.tree; end = h.end; more = ws ++ h.more; clause = h.clause; is = h.is ∙ append_assoc us ws h.more }

begins_take : (T : Table) (n k : ℕ) (ws : List Word) → BeginsWithin T n ws → BeginsWithin T n (take k ws)
begins_take T n k ws h = begins_front T n (take k ws) (drop k ws) (subst (BeginsWithin T n) (sym (take-append-drop k ws)) h)

any_take : (T : Table) (k : ℕ) (ws : List Word) → Begins T ws → Begins T (take k ws)
any_take T k ws h = any_front T (take k ws) (drop k ws) (subst (Begins T) (sym (take-append-drop k ws)) h)

take_take : (j k : ℕ) (ws : List Word) → j ≤ k → take j (take k ws) ≡ take j ws
take_take zero k ws low = refl
take_take (suc j) zero ws low = absurd (omega (arith, low))
take_take (suc j) (suc k) [] low = refl
take_take (suc j) (suc k) (w ∷ ws) low = ap (λ xs. w ∷ xs) (take_take j k ws (omega (arith, low)))

-- the tokens have been read as words, and this waits behind them
pub record HasRead (T : Table) (text : List ℕ) (ts : List Token) (seen : WaitingSeen) : Type 0 where
  pub words : List Word
  pub are : AreWords text ts words
  pub only : (others : List Word) → AreWords text ts others → others ≡ words
  pub waiting : Waiting
  pub fits : Fits T words waiting
  pub seen_is : seen ≡ waiting_seen T waiting
  pub low : waiting_floor T waiting ≤ 1000
  -- no more parts wait in brackets than tokens have been read
  pub few : waiting_parts seen ≤ length ts

no_others : (text : List ℕ) (others : List Word) → AreWords text [] others → others ≡ []
no_others text [] h = refl
no_others text (w ∷ ws) h = absurd h

pub read_nothing : (T : Table) (text : List ℕ) (seen : WaitingSeen) → seen ≡ ready_seen [] wants → HasRead T text [] seen
read_nothing T text seen empty = record {
  words = [];
  are = tt;
  only = no_others text;
  waiting = ready [] want;
  fits = fits_none T;
  seen_is = empty;
  low = omega arith;
  few = let none : waiting_parts seen ≡ 0 = ap waiting_parts empty in omega (arith, none);
}

few_more : (T : Table) (ts : List Token) (t : Token) (seen later : WaitingSeen) (w : Word) → Some later ≡ feed_seen T seen w → waiting_parts seen ≤ length ts
    → waiting_parts later ≤ length (ts ++ t ∷ [])
few_more T ts t seen later w step few =
    let more : waiting_parts later ≤ suc (waiting_parts seen) = subst (WaitsWithin (suc (waiting_parts seen))) (sym step) (feed_room T seen w) in
    omega (arith, more, few, length-append ts (t ∷ []))

-- one word more is fed

record Fed (T : Table) (o : Option Waiting) (seen : WaitingSeen) : Type 0 where
  waiting : Waiting
  is : o ≡ Some waiting
  seen_is : seen ≡ waiting_seen T waiting

fed_some : (T : Table) (o : Option Waiting) (seen : WaitingSeen) → Some seen ≡ fed_seen T o → Fed T o seen
fed_some T None seen e = cc
fed_some T (Some waiting) seen e = record { waiting = waiting; is = refl; seen_is = let same : seen ≡ waiting_seen T waiting = cc in same }

fed_none : (T : Table) (o : Option Waiting) → None ≡ fed_seen T o → o ≡ None
fed_none T None e = refl
fed_none T (Some waiting) e = cc

-- the word of the next token, and no other
pub record NextWord (text : List ℕ) (t : Token) (w : Word) : Type 0 where
  pub is : IsWordOf text t w
  pub only : (o : Word) → IsWordOf text t o → o ≡ w

only_more : (text : List ℕ) (ts : List Token) (t : Token) (words : List Word) (w : Word) → ((others : List Word) → AreWords text ts others → others ≡ words)
    → NextWord text t w → (others : List Word) → AreWords text (ts ++ t ∷ []) others → others ≡ words ++ w ∷ []
only_more text ts t words w only one others are =
    let split = are_last text ts t others are in
    split.is ∙ (ap (λ us. us ++ split.last ∷ []) (only split.front split.are) ∙ ap (λ v. words ++ v ∷ []) (one.only split.last split.at_last))

are_more : (text : List ℕ) (ts : List Token) (t : Token) (words : List Word) (w : Word) → AreWords text ts words → IsWordOf text t w → AreWords text (ts ++ t ∷ []) (words ++ w ∷ [])
are_more text ts t words w are is = are_append text ts (t ∷ []) words (w ∷ []) are (is, tt)

module _ (T : Table) (ok : IsTable T) (text : List ℕ) where
  fed_waiting : (ts : List Token) (seen : WaitingSeen) (read : HasRead T text ts seen) (w : Word) → feed_seen T seen w ≡ fed_seen T (feed T read.waiting w)
  fed_waiting ts seen read w =
      ap (λ s. feed_seen T s w) read.seen_is ∙ feed_is T read.waiting w (fits_names T read.words read.waiting read.fits)

  pub read_more : (ts : List Token) (t : Token) (seen next : WaitingSeen) (w : Word) → HasRead T text ts seen → NextWord text t w → Some next ≡ feed_seen T seen w
      → waiting_floor_seen next ≤ 1000 → HasRead T text (ts ++ t ∷ []) next
  read_more ts t seen later w read word step low =
      let fed = fed_some T (feed T read.waiting w) later (step ∙ fed_waiting ts seen read w) in
      record {
        words = read.words ++ w ∷ [];
        are = are_more text ts t read.words w read.are word.is;
        only = only_more text ts t read.words w read.only word;
        waiting = fed.waiting;
        fits = subst (Goes T (read.words ++ w ∷ [])) fed.is (feed_goes T read.words read.waiting w read.fits);
        seen_is = fed.seen_is;
        low = below_cap (2 ^ 64 - 1) (waiting_floor T fed.waiting) (omega arith)
            (subst (λ n. n ≤ 1000) (ap waiting_floor_seen fed.seen_is ∙ waiting_floor_is T fed.waiting) low);
        few = few_more T ts t seen later w step read.few;
      }

  -- the reader stops at a token
  record Stops (tokens : List Token) (k : ℕ) (t : Token) : Type 0 where
    words : List Word
    word : Word
    are : AreWords text (take k tokens ++ t ∷ []) (words ++ word ∷ [])
    only : (others : List Word) → AreWords text (take (k + 1) tokens) others → others ≡ words ++ word ∷ []
    count : length words ≡ k
    stands : slice_get tokens k ≡ Some t
    begins : BeginsWithin T 1000 words
    refuses : BeginsWithin T 1000 (words ++ word ∷ []) → ⊥

  pub front_is : (tokens : List Token) (k : ℕ) (t : Token) → slice_get tokens k ≡ Some t → take (k + 1) tokens ≡ take k tokens ++ t ∷ []
  front_is tokens k t stands =
      take_more tokens k t (slice_get_within tokens k t stands) ∙ ap (λ x. take k tokens ++ x ∷ []) (get_or_from_slice_get tokens k t t stands)

  begun : (ts : List Token) (seen : WaitingSeen) (read : HasRead T text ts seen) → BeginsWithin T 1000 read.words
  begun ts seen read =
      let ends = waiting_ends T read.words read.waiting read.fits in
      record { begins = ends.begins; shallow = omega (arith, ends.shallow, read.low) }

  stops : (tokens : List Token) (k : ℕ) (t : Token) (seen : WaitingSeen) (w : Word) → slice_get tokens k ≡ Some t → (read : HasRead T text (take k tokens) seen)
      → NextWord text t w → (BeginsWithin T 1000 (read.words ++ w ∷ []) → ⊥) → Stops tokens k t
  stops tokens k t seen w stands read word refuses = record {
    words = read.words;
    word = w;
    are = are_more text (take k tokens) t read.words w read.are word.is;
    only = λ others are.
        only_more text (take k tokens) t read.words w read.only word others (subst (λ ts. AreWords text ts others) (front_is tokens k t stands) are);
    count =
        let below = slice_get_within tokens k t stands in
        are_length text (take k tokens) read.words read.are ∙ length-take-le k tokens (omega (arith, below));
    stands = stands;
    begins = begun (take k tokens) seen read;
    refuses = refuses;
  }

  module _ (tokens : List Token) (k : ℕ) (t : Token) (stop : Stops tokens k t) where
    -- all words of the tokens begin with those that were read
    first_words : (all : List Word) → AreWords text tokens all → take (k + 1) all ≡ stop.words ++ stop.word ∷ []
    first_words all are = stop.only (take (k + 1) all) (are_take text tokens all (k + 1) are)

    before_words : (all : List Word) → AreWords text tokens all → (j : ℕ) → j ≤ k → take j all ≡ take j stop.words
    before_words all are j low =
        let under : j ≤ length stop.words = omega (arith, low, stop.count) in
        sym (take_take j (k + 1) all (omega (arith, low))) ∙ (ap (take j) (first_words all are) ∙ take-append-le j stop.words (stop.word ∷ []) under)

    refused_here : (all : List Word) → AreWords text tokens all → IsRefusedAt T all k
    refused_here all are = record {
      within = omega (arith, slice_get_within tokens k t stop.stands, are_length text tokens all are);
      before = λ j low. subst (BeginsWithin T 1000) (sym (before_words all are (j + 1) (omega (arith, low)))) (begins_take T 1000 (j + 1) stop.words stop.begins);
      refused = λ h. stop.refuses (subst (BeginsWithin T 1000) (first_words all are) h);
    }

    same_place : (all : List Word) → AreWords text tokens all → (place : ℕ) → IsRefusedAt T all place → place ≡ k
    same_place all are place there = elim (cases_order place k) [
      | inl same ↦ same
      | inr either ↦ elim either [
        | inl before ↦ absurd (there.refused ((refused_here all are).before place before))
        | inr past ↦ absurd ((refused_here all are).refused (there.before k past))
      ]
    ]

    stands_here : (spelled : (j : ℕ) (u : Token) → slice_get tokens j ≡ Some u → IsToken text u) (P : List Word → ℕ → Type 0) → ((all : List Word) → AreWords text tokens all → P all k)
        → StandsAt text tokens t.start P
    stands_here spelled P each =
        let all = have_words text tokens spelled in
        record { words = all.words; are = all.are; place = k; token = t; stands = stop.stands; starts = refl; is = each all.words all.are }

    no_clause : (other : Tree) → IsClauseOf T text tokens other → ⊥
    no_clause tree clause =
        let reads = clause.reads in
        let whole : BeginsWithin T 1000 clause.words =
        record {
          begins = record { tree = reads.parse; end = reads.end; more = []; clause = reads.clause; is = sym (append-nil clause.words ∙ reads.yields) };
          shallow = reads.shallow;
        } in
        stop.refuses (subst (BeginsWithin T 1000) (first_words clause.words clause.are) (begins_take T 1000 (k + 1) clause.words whole))

    same_start : (P : List Word → ℕ → Type 0) (start : ℕ) (there : StandsAt text tokens start P) → IsRefusedAt T there.words there.place → start ≡ t.start
    same_start P start there refused_there =
        let place = same_place there.words there.are there.place refused_there in
        let same : Some there.token ≡ Some t = sym there.stands ∙ (ap (slice_get tokens) place ∙ stop.stands) in
        let tokens_same : there.token ≡ t = cc in
        there.starts ∙ ap (λ u. u.start) tokens_same

    not_ended : (all : List Word) → AreWords text tokens all → HasNoEnd T all → ⊥
    not_ended all are open_ended =
        stop.refuses (subst (BeginsWithin T 1000) (first_words all are) (begins_take T 1000 (k + 1) all open_ended.begins))

    module _ (none : Begins T (stop.words ++ stop.word ∷ []) → ⊥) where
      stuck_only : (other : ReadFault) → IsReadFault T text tokens other → other ≡ Stuck t.start
      stuck_only (Stuck start) there = ap (λ n. Stuck n) (same_start (IsStuckAt T) start there there.is.place)
      stuck_only (TooDeep start) there =
          let place = same_place there.words there.are there.place there.is.place in
          let deeper : Begins T (take (k + 1) there.words) = subst (λ n. Begins T (take (n + 1) there.words)) place there.is.deeper in
          absurd (none (subst (Begins T) (first_words there.words there.are) deeper))
      stuck_only (NoEnd start) there = absurd (not_ended there.1.0 there.1.1 there.1.2)
      stuck_only NoMemory there = absurd there

      stuck_here : (spelled : (j : ℕ) (u : Token) → slice_get tokens j ≡ Some u → IsToken text u) → IsReadFault T text tokens (Stuck t.start)
      stuck_here spelled =
          stands_here spelled (IsStuckAt T)
          (λ all are. record { place = refused_here all are; none = λ h. none (subst (Begins T) (first_words all are) h) })

    module _ (deeper : Begins T (stop.words ++ stop.word ∷ [])) where
      deep_only : (other : ReadFault) → IsReadFault T text tokens other → other ≡ TooDeep t.start
      deep_only (TooDeep start) there = ap (λ n. TooDeep n) (same_start (IsTooDeepAt T) start there there.is.place)
      deep_only (Stuck start) there =
          let place = same_place there.words there.are there.place there.is.place in
          let none : Begins T (take (k + 1) there.words) → ⊥ = subst (λ n. Begins T (take (n + 1) there.words) → ⊥) place there.is.none in
          absurd (none (subst (Begins T) (sym (first_words there.words there.are)) deeper))
      deep_only (NoEnd start) there = absurd (not_ended there.1.0 there.1.1 there.1.2)
      deep_only NoMemory there = absurd there

      deep_here : (spelled : (j : ℕ) (u : Token) → slice_get tokens j ≡ Some u → IsToken text u) → IsReadFault T text tokens (TooDeep t.start)
      deep_here spelled =
          stands_here spelled (IsTooDeepAt T)
          (λ all are. record { place = refused_here all are; deeper = subst (Begins T) (sym (first_words all are)) deeper })

  pub stuck : (tokens : List Token) (k : ℕ) (t : Token) (seen : WaitingSeen) (w : Word) → ((j : ℕ) (u : Token) → slice_get tokens j ≡ Some u → IsToken text u)
      → slice_get tokens k ≡ Some t → HasRead T text (take k tokens) seen → NextWord text t w → None ≡ feed_seen T seen w → IsOnlyReadFault T text tokens (Stuck t.start)
  unfolding stops
  stuck tokens k t seen w spelled stands read word step =
      let nothing = fed_none T (feed T read.waiting w) (step ∙ fed_waiting (take k tokens) seen read w) in
      let none : Begins T (read.words ++ w ∷ []) → ⊥ = refused T ok read.words read.waiting w read.fits nothing in
      let stop = stops tokens k t seen w stands read word (λ h. none h.begins) in
      record { is = stuck_here tokens k t stop none spelled; only = stuck_only tokens k t stop none; none = no_clause tokens k t stop }

  pub deep : (tokens : List Token) (k : ℕ) (t : Token) (seen next : WaitingSeen) (w : Word) → ((j : ℕ) (u : Token) → slice_get tokens j ≡ Some u → IsToken text u)
      → slice_get tokens k ≡ Some t → HasRead T text (take k tokens) seen → NextWord text t w → Some next ≡ feed_seen T seen w → 1000 < waiting_floor_seen next
      → IsOnlyReadFault T text tokens (TooDeep t.start)
  unfolding stops
  deep tokens k t seen later w spelled stands read word step over =
      let fed = fed_some T (feed T read.waiting w) later (step ∙ fed_waiting (take k tokens) seen read w) in
      let fits : Fits T (read.words ++ w ∷ []) fed.waiting = subst (Goes T (read.words ++ w ∷ [])) fed.is (feed_goes T read.words read.waiting w read.fits) in
      let floor : 1000 < waiting_floor T fed.waiting =
      over_cap (2 ^ 64 - 1) (waiting_floor T fed.waiting) (subst (λ n. 1000 < n) (ap waiting_floor_seen fed.seen_is ∙ waiting_floor_is T fed.waiting) over) in
      let stop = stops tokens k t seen w stands read word (λ h. absurd (omega (arith, floor, waiting_low T ok (read.words ++ w ∷ []) fed.waiting 1000 fits h))) in
      let deeper : Begins T (read.words ++ w ∷ []) = (waiting_ends T (read.words ++ w ∷ []) fed.waiting fits).begins in
      record { is = deep_here tokens k t stop deeper spelled; only = deep_only tokens k t stop deeper; none = no_clause tokens k t stop }

  -- all tokens are read

  clause_read : (ts : List Token) (words : List Word) (S : Stack) (t : Parse) → AreWords text ts words → ((others : List Word) → AreWords text ts others → others ≡ words)
      → from_start T words ≡ Some (at S (done t)) → parse_depth t ≤ 1000 → IsOnlyClauseOf T text ts (tree_from t)
  clause_read ts words S t are only run_is shallow =
      let sound = read_sound T words S t run_is in
      record {
        is = record {
          words = words;
          are = are;
          reads = record { parse = t; end = sound.end; clause = sound.clause; yields = sound.words; shallow = shallow; is = refl };
        };
        only = λ other clause.
            clause.reads.is ∙ ap tree_from
            (one_clause T ok clause.reads.parse t clause.reads.end sound.end clause.reads.clause sound.clause
            (sym clause.reads.yields ∙ (only clause.words clause.are ∙ sound.words)));
      }

  run_all : (words : List Word) (S : Stack) (m : Mode) → Fits T words (ready S m) → from_start T words ≡ Some (at S m)
  run_all words S m fits = ap (from_start T) (sym (append-nil words)) ∙ fits []

  pub finish : (ts : List Token) (S : StackSeen) (operand : OperandSeen) → HasRead T text ts (ready_seen S (finished operand)) → IsOnlyClauseOf T text ts operand.tree
  finish ts S operand read = by_waiting read.waiting read.fits read.seen_is read.low
    where
      by_waiting : (waiting : Waiting) → Fits T read.words waiting → ready_seen S (finished operand) ≡ waiting_seen T waiting → waiting_floor T waiting ≤ 1000 → IsOnlyClauseOf T text ts operand.tree
      by_waiting (ready S' (done t)) fits e low =
          let same : tree_from t ≡ operand.tree = (let o : operand ≡ parse_seen T t = cc in ap (λ x. x.tree) (sym o)) in
          subst (IsOnlyClauseOf T text ts) same (clause_read ts read.words S' t read.are read.only (run_all read.words S' (done t) fits) low)
      by_waiting (ready S' want) fits e low = cc
      by_waiting (ready S' (minus d)) fits e low = cc
      by_waiting (ready S' (functor n)) fits e low = cc
      by_waiting (ready S' (have t)) fits e low = cc
      by_waiting (named S' w) fits e low = cc
      by_waiting (doubt S' p n) fits e low = cc

  atom_last : (name m prefix : Bool) → name ≡ true → (name && not false && not (m && false) && (not prefix || true)) ≡ true
  atom_last true true true h = refl
  atom_last true true false h = refl
  atom_last true false true h = refl
  atom_last true false false h = refl
  atom_last false m prefix h = cc

  mode_is : (S S' : Stack) (m : Mode) (t : Parse) → goes S m ≡ goes S' (done t) → m ≡ done t
  mode_is S S' m t h = let same : at S m ≡ at S' (done t) = cc in ap (λ st. st.mode) same

  infix_not_done : (b : Bool) (S S' : Stack) (l t : Parse) (n : Word) → cond b (goes (infix_open l n ∷ S) want) None ≡ Some (at S' (done t)) → ⊥
  infix_not_done true S S' l t n h = let both : want ≡ done t = mode_is (infix_open l n ∷ S) S' want t h in cc
  infix_not_done false S S' l t n h = cc

  with_not_done : (st : State) (n : Word) (S' : Stack) (t : Parse) → with_tree st (λ S'' t''. infix_on T S'' t'' n) ≡ Some (at S' (done t)) → ⊥
  with_not_done st n S' t h = by_mode st.stack st.mode h
    where
      by_mode : (S : Stack) (m : Mode) → with_tree (at S m) (λ S'' t''. infix_on T S'' t'' n) ≡ Some (at S' (done t)) → ⊥
      by_mode S want h = cc
      by_mode S (minus d) h = cc
      by_mode S (functor v) h = cc
      by_mode S (have u) h = infix_not_done (nat_le (sides_of (T.infix_ n)).priority (bound T S) && nat_le (priority T u) (sides_of (T.infix_ n)).left) S S' u t n h
      by_mode S (done u) h = cc

  not_done : (words : List Word) (waiting : Waiting) → Fits T words waiting → is_finished (waiting_seen T waiting) ≡ false → (S' : Stack) (t : Parse) → from_start T words ≡ Some (at S' (done t)) → ⊥
  not_done words (ready S want) fits open_ S' t h = let both : want ≡ done t = mode_is S S' (want) t (sym (run_all words S want fits) ∙ h) in cc
  not_done words (ready S (minus d)) fits open_ S' t h = let both : minus d ≡ done t = mode_is S S' (minus d) t (sym (run_all words S (minus d) fits) ∙ h) in cc
  not_done words (ready S (functor n)) fits open_ S' t h = let both : functor n ≡ done t = mode_is S S' (functor n) t (sym (run_all words S (functor n) fits) ∙ h) in cc
  not_done words (ready S (have u)) fits open_ S' t h = let both : have u ≡ done t = mode_is S S' (have u) t (sym (run_all words S (have u) fits) ∙ h) in cc
  not_done words (ready S (done u)) fits open_ S' t h = let both : true ≡ false = open_ in cc
  not_done words (named S w) fits open_ S' t h =
      let step : want_step T S w [] ≡ goes S (have (bare w)) = bare_step T S w [] (atom_last (is_name w.kind) (is_minus w) (is_some (T.prefix w)) fits.0) in
      let ran : from_start T words ≡ Some (at S (have (bare w))) =
      ap (from_start T) (sym (append-nil words)) ∙ (fits.1 [] ∙ ap (λ o. next o (λ st. run T [] st)) step) in
      let both : have (bare w) ≡ done t = mode_is S S' (have (bare w)) t (sym ran ∙ h) in
      cc
  not_done words (doubt S p n) fits open_ S' t h =
      let first : act T S want p (n ∷ []) ≡ goes S (have (bare p)) = step_doubt T S p n [] fits.0 fits.1 in
      let name = infix_some T p n fits.1 in
      let second : act T S (have (bare p)) n [] ≡ with_tree (reduced T (sides_of (T.infix_ n)).priority S (bare p)) (λ S'' t''. infix_on T S'' t'' n) =
      name_kind_goes T S (bare p) n n.kind name.0 ∙ infix_name_step T S (bare p) n name.1 in
      let ran : from_start T words ≡ next (act T S (have (bare p)) n []) (λ st. run T [] st) =
      ap (from_start T) (sym (append-nil words)) ∙ (fits.3 [] ∙ ap (λ o. next o (λ st. run T (n ∷ []) st)) first) in
      with_not_done (reduced T (sides_of (T.infix_ n)).priority S (bare p)) n S' t
      (sym (next_nothing (act T S (have (bare p)) n []) ∙ second) ∙ (sym ran ∙ h))
    where
      next_nothing : (o : Option State) → next o (λ st. run T [] st) ≡ o
      next_nothing None = refl
      next_nothing (Some st) = refl

  last_no_end : (words : List Word) (b : Begins T words) → ((S : Stack) (t : Parse) → from_start T words ≡ Some (at S (done t)) → ⊥) → (w : Word)
      → slice_get words (length words - 1) ≡ Some w → w.kind ≡ End → ⊥
  last_no_end words b never w stands = by_more b.more b.is
    where
      by_more : (more : List Word) → yield b.tree ++ b.end ∷ [] ≡ words ++ more → w.kind ≡ End → ⊥
      by_more [] e ends =
          never [] b.tree (ap (from_start T) (sym (append-nil words) ∙ sym e) ∙ reads_clause T ok b.tree b.end b.clause)
      by_more (v ∷ vs) e ends =
          none_at words (length words - 1) w (before_none (yield b.tree) words v vs b.end (kept_none T ok b.tree (b.end ∷ []) b.clause.kept) e) stands ends

  pub unfinished : (ts : List Token) (seen : WaitingSeen) → HasRead T text ts seen → is_finished seen ≡ false → IsOnlyReadFault T text ts (NoEnd (length text))
  unfinished ts seen read open_ = record {
    is = (refl, (read.words, read.are, no_end));
    only = only_no_end;
    none = λ other clause.
        let same = only_words clause.words clause.are in
        never [] clause.reads.parse
        (ap (from_start T) (sym same ∙ clause.reads.yields) ∙ reads_clause T ok clause.reads.parse clause.reads.end clause.reads.clause);
  }
    where
      only_words : (others : List Word) → AreWords text ts others → others ≡ read.words
      only_words = read.only

      never : (S : Stack) (t : Parse) → from_start T read.words ≡ Some (at S (done t)) → ⊥
      never = not_done read.words read.waiting read.fits (ap is_finished (sym read.seen_is) ∙ open_)

      begins_all : BeginsWithin T 1000 read.words
      begins_all = begun ts seen read

      no_end : HasNoEnd T read.words
      no_end = record { begins = begun ts seen read; open_ended = last_no_end read.words (begun ts seen read).begins (not_done read.words read.waiting read.fits (ap is_finished (sym read.seen_is) ∙ open_)) }

      not_refused : (others : List Word) → AreWords text ts others → (place : ℕ) → IsRefusedAt T others place → ⊥
      not_refused others are place there =
          there.refused (begins_take T 1000 (place + 1) others (subst (BeginsWithin T 1000) (sym (read.only others are)) (begun ts seen read)))

      only_no_end : (other : ReadFault) → IsReadFault T text ts other → other ≡ NoEnd (length text)
      only_no_end (Stuck start) there = absurd (not_refused there.words there.are there.place there.is.place)
      only_no_end (TooDeep start) there = absurd (not_refused there.words there.are there.place there.is.place)
      only_no_end (NoEnd start) there = ap (λ n. NoEnd n) there.0
      only_no_end NoMemory there = absurd there

  -- behind the last token

  take_over : (i : ℕ) (tokens : List Token) → length tokens ≤ i → take i tokens ≡ tokens
  take_over zero [] low = refl
  take_over (suc i) [] low = refl
  take_over zero (t ∷ ts) low = absurd (omega (arith, low))
  take_over (suc i) (t ∷ ts) low = ap (λ us. t ∷ us) (take_over i ts (omega (arith, low)))

  pub at_end : (tokens : List Token) (i : ℕ) (seen : WaitingSeen) → length tokens ≤ i → HasRead T text (take i tokens) seen → HasRead T text tokens seen
  at_end tokens i seen low read = subst (λ ts. HasRead T text ts seen) (take_over i tokens low) read

  pub finished_read : (tokens : List Token) (i : ℕ) (seen : WaitingSeen) (S : StackSeen) (operand : OperandSeen) (tree : Tree) → length tokens ≤ i
      → HasRead T text (take i tokens) seen → seen ≡ ready_seen S (finished operand) → operand.tree ≡ tree → IsOnlyClauseOf T text tokens tree
  finished_read tokens i seen S operand tree low read is tree_is =
      subst (IsOnlyClauseOf T text tokens) tree_is (finish tokens S operand (subst (HasRead T text tokens) is (at_end tokens i seen low read)))

  pub unfinished_read : (tokens : List Token) (i : ℕ) (seen : WaitingSeen) (fault : ReadFault) → length tokens ≤ i
      → HasRead T text (take i tokens) seen → is_finished seen ≡ false → fault ≡ NoEnd (length text) → IsOnlyReadFault T text tokens fault
  unfinished_read tokens i seen fault low read open_ is = subst (IsOnlyReadFault T text tokens) (sym is) (unfinished tokens seen (at_end tokens i seen low read) open_)
