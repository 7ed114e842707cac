-- The rows that are done and the one at hand stand one after another from the start of the text.
use Rattle.std.proofs.Common.{◌≡◌, ◌≢◌, ℕ, List, [], ◌++◌, ◌∷◌, All, Option, Vec, Global, length, ap, refl, sym, ◌∙◌, subst, rules, arith}
use Rattle.std.specs.Prelude.{IfSome}
use Rattle.std.proofs.lemmas.List.Elements.{All-head, All-tail, All-nil, All-push}
use Rattle.prolog_tokens.specs.declared.token.Token.{Token}
use Rattle.prolog_tokens.specs.declared.token.TokenFault.{TokenFault}
use Rattle.prolog_tokens.specs.declared.token.TokenFault.TheVariants.{NoMemory}
use Rattle.prolog_tokens.specs.declared.rows.TokenRow.{TokenRow}
use Rattle.prolog_tokens.specs.Places.{IsOffset, fault_offset}
use Rattle.prolog_tokens.specs.Cut.{IsCut, IsWrongNext, HasFault, StandBetween}
use Rattle.prolog_tokens.specs.Rows.{IsRow, StandsFrom, StandsNext, GoesOn, EndsClause, EachEndsClause, tokens_of}
use Rattle.prolog_tokens.proofs.Classes.{begins_first}
use Rattle.prolog_tokens.proofs.Between.{one_cut}
use Rattle.prolog_tokens.proofs.Faults.{one_fault, fault_no_cut}
use Rattle.prolog_tokens.proofs.RowLemmas.{on_fault, fault_placed, tokens_fault, tokens_cut, stand_with, rows_more, ends_with, goes_on_by, begin_after}
use Rattle.prolog_tokens.proofs.rows.clause_rows.Goals as goal

-- tokens up to a row, which stands after them
abbrev Stand : List ℕ → List Token → TokenRow → Type 0
Stand text ts row = (place : ℕ) × StandBetween text 0 ts place × StandsFrom text place row

later : (text : List ℕ) (ts : List Token) (one two : TokenRow) → Stand text ts one → GoesOn text one two → Stand text ts two
later text ts one two (place, before, stand) on = (place, before, on place stand)

later_fault : (text : List ℕ) (ts : List Token) (one two : TokenRow) (fault : TokenFault) → Stand text ts one → GoesOn text one two → IsWrongNext text two.end fault → HasFault text fault
later_fault text ts one two fault stand on wrong =
    tokens_fault text (ts ++ two.tokens.items) two.end fault (stand_with text ts two.tokens.items two.end (later text ts one two stand on)) wrong

later_cut : (text : List ℕ) (rows : List (Vec Token Global)) (one two : TokenRow) (all : List (Vec Token Global)) (next : Option Token) → Stand text (tokens_of rows) one → GoesOn text one two
    → StandsNext text two.end (length text) next → all ≡ rows ++ two.tokens ∷ [] → IsCut text (tokens_of all)
later_cut text rows one two all next stand on stands is =
    subst (λ rs. IsCut text (tokens_of rs)) (sym is)
    (subst (IsCut text) (sym (rows_more rows two.tokens))
    (tokens_cut text (tokens_of rows ++ two.tokens.items) two.end next
    (stand_with text (tokens_of rows) two.tokens.items two.end (later text (tokens_of rows) one two stand on)) stands))

-- one row more is done, and the next one stands after it
pushed : (text : List ℕ) (rows : List (Vec Token Global)) (row next : TokenRow) (all : List (Vec Token Global)) → Stand text (tokens_of rows) row → StandsFrom text row.end next
    → all ≡ rows ++ row.tokens ∷ [] → Stand text (tokens_of all) next
pushed text rows row next all stand behind is =
    (row.end, subst (λ ts. StandBetween text 0 ts row.end) (sym (ap tokens_of is ∙ rows_more rows row.tokens)) (stand_with text (tokens_of rows) row.tokens.items row.end stand), behind)

pub loop-next-init : goal.loop-next-init
loop-next-init c = record {
  done = (
    0,
    subst (λ rows. StandBetween c.args.text.now 0 (tokens_of rows) 0) (sym c.in_ok-done.ensures.items) refl,
    subst (λ ts. StandBetween c.args.text.now 0 ts 0) (sym c.in_ok-with_capacity.ensures.items) refl,
  );
  ends = subst (All (λ (row : Vec Token Global). EndsClause row.items)) (sym c.in_ok-done.ensures.items) (All-nil (λ (row : Vec Token Global). EndsClause row.items));
  begins = record { within = omega arith; begins = begins_first c.args.text.now c.utf8.text };
  rest = subst (All (IsRow c.args.text.now)) (sym c.into_iter-next-iterator.ensures.into_iter_gives.0) c.requires.rows;
}

pub meets-requires-clause-next : goal.meets-requires-clause-next
meets-requires-clause-next c = All-head (IsRow c.args.text.now) c.in-Some.next c.next.new.self.rest.items (subst (All (IsRow c.args.text.now)) c.in-Some.ensures.steps.0 c.loop-next.invariant.rest)

pub loop-next-preserved-then-not-branch : goal.loop-next-preserved-then-not-branch
loop-next-preserved-then-not-branch c = record {
  done = later c.args.text.now (tokens_of c.loop-next.done.items) c.loop-next.row c.meets.new.row c.loop-next.invariant.done c.meets.ensures.row;
  ends = c.loop-next.invariant.ends;
  begins = c.meets.ensures.begins;
  rest = All-tail (IsRow c.args.text.now) c.in-Some.next c.next.new.self.rest.items (subst (All (IsRow c.args.text.now)) c.in-Some.ensures.steps.0 c.loop-next.invariant.rest);
}

pub loop-next-preserved-then-ends_clause : goal.loop-next-preserved-then-ends_clause
loop-next-preserved-then-ends_clause c =
    let text = c.args.text.now in
    let behind : StandsFrom text c.meets.new.row.end c.in-Some.next = c.in_ok-meets.ensures.next (search rules) in
    record {
      done = pushed text c.loop-next.done.items c.meets.new.row c.in-Some.next c.push.new.self.items
          (later text (tokens_of c.loop-next.done.items) c.loop-next.row c.meets.new.row c.loop-next.invariant.done c.meets.ensures.row) behind c.in_ok-push.ensures.items;
      ends = rw (c.in_ok-push.ensures.items) (All-push (λ (row : Vec Token Global). EndsClause row.items) c.loop-next.done.items c.meets.new.row.tokens c.loop-next.invariant.ends
          (subst EndsClause c.deref.ensures.value (c.ends_clause.ensures c.if-ends_clause.true)));
      begins = begin_after text c.meets.new.row.end c.in-Some.next.end c.in-Some.next.tokens.items c.utf8.text c.meets.ensures.begins behind;
      rest = All-tail (IsRow c.args.text.now) c.in-Some.next c.next.new.self.rest.items (subst (All (IsRow c.args.text.now)) c.in-Some.ensures.steps.0 c.loop-next.invariant.rest);
    }

pub loop-next-preserved : goal.loop-next-preserved
loop-next-preserved c =
    let text = c.args.text.now in
    let next = c.in-Some.next in
    let behind : StandsFrom text c.meets.new.row.end next = c.in_ok-meets.ensures.next (search rules) in
    let done = c.loop-next.invariant.done in
    record {
      done = (done.0, done.1, goes_on_by text c.loop-next.row c.meets.new.row next.tokens.items c.append.new.self.items next.end c.meets.ensures.row behind c.in_ok-append.ensures.items done.0 done.2);
      ends = c.loop-next.invariant.ends;
      begins = begin_after text c.meets.new.row.end next.end next.tokens.items c.utf8.text c.meets.ensures.begins behind;
      rest = All-tail (IsRow c.args.text.now) c.in-Some.next c.next.new.self.rest.items (subst (All (IsRow c.args.text.now)) c.in-Some.ensures.steps.0 c.loop-next.invariant.rest);
    }

pub returns-in_err-meets-clause-fault : goal.returns-in_err-meets-clause-fault
returns-in_err-meets-clause-fault c =
    on_fault c.from_residual-in_err-meets.result c.in_err-meets.field-0.0 (λ fault. fault ≢ NoMemory → HasFault c.args.text.now fault) c.from_residual-in_err-meets.ensures.1
    (λ some. later_fault c.args.text.now (tokens_of c.loop-next.done.items) c.loop-next.row c.meets.new.row c.in_err-meets.field-0.0 c.loop-next.invariant.done c.meets.ensures.row (c.in_err-meets.ensures.fault some))

pub returns-in_err-meets-clause-only_fault : goal.returns-in_err-meets-clause-only_fault
returns-in_err-meets-clause-only_fault c =
    on_fault c.from_residual-in_err-meets.result c.in_err-meets.field-0.0
    (λ fault. fault ≢ NoMemory → (other : TokenFault) → HasFault c.args.text.now other → other ≡ fault) c.from_residual-in_err-meets.ensures.1
    (λ some other also. one_fault c.args.text.now other c.in_err-meets.field-0.0 also
    (later_fault c.args.text.now (tokens_of c.loop-next.done.items) c.loop-next.row c.meets.new.row c.in_err-meets.field-0.0 c.loop-next.invariant.done c.meets.ensures.row (c.in_err-meets.ensures.fault some)))

pub returns-in_err-meets-clause-no_cut : goal.returns-in_err-meets-clause-no_cut
returns-in_err-meets-clause-no_cut c =
    on_fault c.from_residual-in_err-meets.result c.in_err-meets.field-0.0 (λ fault. fault ≢ NoMemory → (others : List Token) → IsCut c.args.text.now others → ⊥)
    c.from_residual-in_err-meets.ensures.1
    (λ some others cut. fault_no_cut c.args.text.now c.in_err-meets.field-0.0 others
    (later_fault c.args.text.now (tokens_of c.loop-next.done.items) c.loop-next.row c.meets.new.row c.in_err-meets.field-0.0 c.loop-next.invariant.done c.meets.ensures.row (c.in_err-meets.ensures.fault some)) cut)

pub returns-in_err-meets-clause-place : goal.returns-in_err-meets-clause-place
returns-in_err-meets-clause-place c =
    on_fault c.from_residual-in_err-meets.result c.in_err-meets.field-0.0 (λ fault. IfSome (fault_offset fault) (λ at. IsOffset c.args.text.now at))
    c.from_residual-in_err-meets.ensures.1
    (fault_placed c.args.text.now c.in_err-meets.field-0.0 c.utf8.text
    (λ some. later_fault c.args.text.now (tokens_of c.loop-next.done.items) c.loop-next.row c.meets.new.row c.in_err-meets.field-0.0 c.loop-next.invariant.done c.meets.ensures.row (c.in_err-meets.ensures.fault some)))

pub returns-in_err-go_on-clause-fault : goal.returns-in_err-go_on-clause-fault
returns-in_err-go_on-clause-fault c =
    on_fault c.from_residual-in_err-go_on.result c.in_err-go_on.field-0.0 (λ fault. fault ≢ NoMemory → HasFault c.args.text.now fault) c.from_residual-in_err-go_on.ensures.1
    (λ some. later_fault c.args.text.now (tokens_of c.loop-next.done.items) c.loop-next.row c.go_on.new.row c.in_err-go_on.field-0.0 c.loop-next.invariant.done c.go_on.ensures.row (c.in_err-go_on.ensures.fault some))

pub returns-in_err-go_on-clause-only_fault : goal.returns-in_err-go_on-clause-only_fault
returns-in_err-go_on-clause-only_fault c =
    on_fault c.from_residual-in_err-go_on.result c.in_err-go_on.field-0.0
    (λ fault. fault ≢ NoMemory → (other : TokenFault) → HasFault c.args.text.now other → other ≡ fault) c.from_residual-in_err-go_on.ensures.1
    (λ some other also. one_fault c.args.text.now other c.in_err-go_on.field-0.0 also
    (later_fault c.args.text.now (tokens_of c.loop-next.done.items) c.loop-next.row c.go_on.new.row c.in_err-go_on.field-0.0 c.loop-next.invariant.done c.go_on.ensures.row (c.in_err-go_on.ensures.fault some)))

pub returns-in_err-go_on-clause-no_cut : goal.returns-in_err-go_on-clause-no_cut
returns-in_err-go_on-clause-no_cut c =
    on_fault c.from_residual-in_err-go_on.result c.in_err-go_on.field-0.0 (λ fault. fault ≢ NoMemory → (others : List Token) → IsCut c.args.text.now others → ⊥)
    c.from_residual-in_err-go_on.ensures.1
    (λ some others cut. fault_no_cut c.args.text.now c.in_err-go_on.field-0.0 others
    (later_fault c.args.text.now (tokens_of c.loop-next.done.items) c.loop-next.row c.go_on.new.row c.in_err-go_on.field-0.0 c.loop-next.invariant.done c.go_on.ensures.row (c.in_err-go_on.ensures.fault some)) cut)

pub returns-in_err-go_on-clause-place : goal.returns-in_err-go_on-clause-place
returns-in_err-go_on-clause-place c =
    on_fault c.from_residual-in_err-go_on.result c.in_err-go_on.field-0.0 (λ fault. IfSome (fault_offset fault) (λ at. IsOffset c.args.text.now at))
    c.from_residual-in_err-go_on.ensures.1
    (fault_placed c.args.text.now c.in_err-go_on.field-0.0 c.utf8.text
    (λ some. later_fault c.args.text.now (tokens_of c.loop-next.done.items) c.loop-next.row c.go_on.new.row c.in_err-go_on.field-0.0 c.loop-next.invariant.done c.go_on.ensures.row (c.in_err-go_on.ensures.fault some)))

pub returns-clause-ok : goal.returns-clause-ok
returns-clause-ok c = (later_cut c.args.text.now c.loop-next.done.items c.loop-next.row c.go_on.new.row c.push-2.new.self.items c.in_ok-go_on.field-0 c.loop-next.invariant.done c.go_on.ensures.row c.in_ok-go_on.ensures.next
    c.in_ok-push-2.ensures.items)

pub returns-clause-only : goal.returns-clause-only
returns-clause-only c = λ others cut. one_cut c.args.text.now others (tokens_of c.push-2.new.self.items) cut
    (later_cut c.args.text.now c.loop-next.done.items c.loop-next.row c.go_on.new.row c.push-2.new.self.items c.in_ok-go_on.field-0 c.loop-next.invariant.done c.go_on.ensures.row c.in_ok-go_on.ensures.next
    c.in_ok-push-2.ensures.items)

pub returns-clause-no_fault : goal.returns-clause-no_fault
returns-clause-no_fault c = λ fault has. fault_no_cut c.args.text.now fault (tokens_of c.push-2.new.self.items) has
    (later_cut c.args.text.now c.loop-next.done.items c.loop-next.row c.go_on.new.row c.push-2.new.self.items c.in_ok-go_on.field-0 c.loop-next.invariant.done c.go_on.ensures.row c.in_ok-go_on.ensures.next
    c.in_ok-push-2.ensures.items)

pub returns-clause-ends : goal.returns-clause-ends
returns-clause-ends c = subst EachEndsClause (sym c.in_ok-push-2.ensures.items) (ends_with c.loop-next.done.items c.go_on.new.row.tokens c.loop-next.invariant.ends)
