-- The reader takes one word after another of the tokens, and so comes to a clause or to a fault.
use Rattle.std.proofs.Common.{◌≡◌, ℕ, zero, suc, ◌+◌, false, List, [], Option, Some, None, length, take, get_or, slice_get, refl, sym, subst, inl, inr, ◌⊎◌, arith}
use Rattle.std.proofs.lemmas.Bool.{cases_lt}
use Rattle.std.proofs.lemmas.Option.{slice_get-get_or}
use Rattle.prolog_tokens.specs.declared.token.Kind.TheVariants.{Name}
use Rattle.prolog_tokens.specs.declared.token.Token.{Token}
use Rattle.prolog_tokens.specs.Cut.{IsTokenOf}
use Rattle.prolog_terms.specs.declared.read_fault.ReadFault.{ReadFault}
use Rattle.prolog_terms.specs.declared.read_fault.ReadFault.TheVariants.{Stuck, TooDeep, NoEnd}
use Rattle.prolog_terms.specs.Tree.{Tree}
use Rattle.prolog_terms.specs.Words.{Word}
use Rattle.prolog_terms.specs.Words.{Table}
use Rattle.prolog_terms.specs.Clause.{IsClauseOf, IsReadFault}
use Rattle.prolog_terms.specs.ReaderSeen.{ModeSeen, WaitingSeen, ready_seen, named_seen, doubt_seen, wants, minus_of, functor_of, has, finished, feed_seen, waiting_floor_seen, is_finished}
use Rattle.prolog_terms.proofs.ReaderTables.{IsTable}
use Rattle.prolog_terms.proofs.ReadClause.{HasRead, NextWord, read_nothing, read_more, front_is, stuck, deep, finish, unfinished, at_end}
use Rattle.laws.proofs.NextWords.{has_next_word}

-- what stands for a token past the end of a list
abbrev blank : Token
blank = record { kind = Name; start = 0; end = 0; after_layout = false }

-- the tokens are a clause, or there is a fault of reading them
abbrev pub IsAnswered : Table → List ℕ → List Token → Type 0
IsAnswered T text ts = ((tree : Tree) × IsClauseOf T text ts tree) ⊎ ((fault : ReadFault) × IsReadFault T text ts fault)

module _ (T : Table) (ok : IsTable T) (text : List ℕ) (ts : List Token) (spelled : (k : ℕ) (t : Token) → slice_get ts k ≡ Some t → IsTokenOf text t) where
  -- all tokens are read, and the clause isn't finished
  no_end : (seen : WaitingSeen) → HasRead T text ts seen → is_finished seen ≡ false → IsAnswered T text ts
  no_end seen read open_ = inr (NoEnd (length text), (unfinished T ok text ts seen read open_).is)

  -- all tokens are read
  all_read : (seen : WaitingSeen) → HasRead T text ts seen → IsAnswered T text ts
  all_read (ready_seen S m) read = by_mode m read
    where
      by_mode : (m : ModeSeen) → HasRead T text ts (ready_seen S m) → IsAnswered T text ts
      by_mode (finished operand) read = inl (operand.tree, (finish T ok text ts S operand read).is)
      by_mode wants read = no_end (ready_seen S wants) read refl
      by_mode (minus_of w) read = no_end (ready_seen S (minus_of w)) read refl
      by_mode (functor_of w) read = no_end (ready_seen S (functor_of w)) read refl
      by_mode (has operand) read = no_end (ready_seen S (has operand)) read refl
  all_read (named_seen S w prefix) read = no_end (named_seen S w prefix) read refl
  all_read (doubt_seen S p s n i floor) read = no_end (doubt_seen S p s n i floor) read refl

  -- the word of the next token is taken, where the reader goes on with it as long as it may
  fed : (k : ℕ) (seen next : WaitingSeen) (t : Token) (w : Word) → slice_get ts k ≡ Some t → HasRead T text (take k ts) seen → NextWord text t w
      → Some next ≡ feed_seen T seen w → (HasRead T text (take (k + 1) ts) next → IsAnswered T text ts) → IsAnswered T text ts
  fed k seen later t w stands read word step goes_on = elim (cases_lt 1000 (waiting_floor_seen later)) [
    | inl over ↦ inr (TooDeep t.start, (deep T ok text ts k t seen later w (λ j u is. record { spelled = spelled j u is }) stands read word step over).is)
    | inr low ↦
        goes_on (subst (λ us. HasRead T text us later) (sym (front_is T ok text ts k t stands)) (read_more T ok text (take k ts) t seen later w read word step low))
  ]

  taken : (k : ℕ) (seen : WaitingSeen) (t : Token) (w : Word) → slice_get ts k ≡ Some t → HasRead T text (take k ts) seen → NextWord text t w
      → ((next : WaitingSeen) → HasRead T text (take (k + 1) ts) next → IsAnswered T text ts) → (o : Option WaitingSeen) → o ≡ feed_seen T seen w → IsAnswered T text ts
  taken k seen t w stands read word goes_on None step =
      inr (Stuck t.start, (stuck T ok text ts k t seen w (λ j u is. record { spelled = spelled j u is }) stands read word step).is)
  taken k seen t w stands read word goes_on (Some later) step = fed k seen later t w stands read word step (goes_on later)

  -- with this many tokens left
  run_on : (left k : ℕ) (seen : WaitingSeen) → length ts ≡ left + k → HasRead T text (take k ts) seen → IsAnswered T text ts
  run_on zero k seen count read = all_read seen (at_end T ok text ts k seen (omega (arith, count)) read)
  run_on (suc left) k seen count read =
      let t = get_or ts k blank in
      let stands : slice_get ts k ≡ Some t = slice_get-get_or ts k blank (omega (arith, count)) in
      let found = has_next_word text t (spelled k t stands) in
      taken k seen t found.word stands read found.next (λ later more. run_on left (k + 1) later (omega (arith, count)) more) (feed_seen T seen found.word) refl

  pub answered : IsAnswered T text ts
  answered = run_on (length ts) 0 (ready_seen [] wants) (omega arith) (read_nothing T text (ready_seen [] wants) refl)
