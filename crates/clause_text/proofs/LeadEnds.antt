-- Where clauses side by side end: at the end of the tokens, or at a part that is refused.
use Rattle.std.proofs.Common.{◌≡◌, ◌≢◌, ℕ, ◌≤◌, ◌<◌, ◌⊎◌, List, [], ◌∷◌, ◌++◌, Ok, Err, length, drop, All, slice_range, subst, sym, ap, ◌∙◌, refl, inr, arith, append_assoc}
use Rattle.std.proofs.lemmas.List.{append-nil, map-append, nil_from_length}
use Rattle.std.proofs.lemmas.List.Elements.{All-nil, All-cons}
use Rattle.prolog_tokens.specs.declared.token.Token.{Token}
use Rattle.prolog_tokens.specs.Rows.{EndsClause}
use Rattle.prolog_ops.specs.Table.{Ops}
use Rattle.prolog_terms.specs.Tree.{Tree}
use Rattle.prolog_terms.specs.Words.{table_of}
use Rattle.prolog_terms.specs.Clause.{IsClauseOf}
use Rattle.clause_text.specs.declared.text_clauses.Clause.{Clause}
use Rattle.clause_text.specs.declared.fault.TextFault.{TextFault}
use Rattle.clause_text.specs.declared.fault.TextFault.TheVariants.{NoMemory}
use Rattle.clause_text.specs.declared.piece.Stretch.{Stretch}
use Rattle.clause_text.specs.declared.piece.Piece.{Piece}
use Rattle.clause_text.specs.declared.piece.PieceEnd.TheVariants.{Whole, AtOperators, Refused}
use Rattle.clause_text.specs.Items.{items_of, items_on}
use Rattle.kept_clauses.specs.Plain.{plain}
use Rattle.clause_text.specs.Kept.{ArePlainClauses}
use Rattle.clause_text.specs.Clauses.{IsPartFault, FaultStandsBehind, HasClauseFault, EndsFirst, clause_tree, clause_trees}
use Rattle.clause_text.specs.Pieces.{LeadTo, IsBehindClause, IsStretch, AreStretches, EndIs, IsPiece, ArePieces, AreAdded, IsFaultAhead}
use Rattle.clause_text.proofs.ClauseSplits.{back_with, part_of, part_first, nothing_behind}
use Rattle.clause_text.proofs.Leads.{lead_joined}

-- up to the end of a row they are the clauses before those of the tokens after it
pub lead_are : (table : Ops) (text : List ℕ) (ts rest : List Token) (from : ℕ) (trees more : List Tree) (left : Ops) (to : ℕ) → LeadTo table text ts from trees left to → length ts ≤ to
    → ArePlainClauses left text rest more → ArePlainClauses table text (drop from ts ++ rest) (trees ++ more)
lead_are table text ts rest from [] more left to (tables, places) all are =
    subst (λ us. ArePlainClauses table text (us ++ rest) more) (sym (nothing_behind ts from (omega (arith, places, all)))) (subst (λ T. ArePlainClauses T text rest more) (sym tables) are)
lead_are table text ts rest from (tree ∷ trees) more left to (next, set, stops, does, lead) all are =
    (part_of ts from next, drop next ts ++ rest, set, back_with ts rest from next stops, does, lead_are set text ts rest next trees more left to lead all are)

-- and a fault of those is one of all
pub lead_fault : (table : Ops) (text : List ℕ) (ts rest : List Token) (from : ℕ) (trees more : List Tree) (left : Ops) (to : ℕ) (fault : TextFault) → LeadTo table text ts from trees left to
    → length ts ≤ to → FaultStandsBehind left text rest more fault → (before : List Tree) × FaultStandsBehind table text (drop from ts ++ rest) before fault
lead_fault table text ts rest from [] more left to fault (tables, places) all stands = (
  more,
  subst (λ us. FaultStandsBehind table text (us ++ rest) more fault) (sym (nothing_behind ts from (omega (arith, places, all))))
      (subst (λ T. FaultStandsBehind T text rest more fault) (sym tables) stands),
)
lead_fault table text ts rest from (tree ∷ trees) more left to fault (next, set, stops, does, lead) all stands =
    let later = lead_fault set text ts rest next trees more left to fault lead all stands in
    (does.tree ∷ later.0, (part_of ts from next, drop next ts ++ rest, set, back_with ts rest from next stops, does.leaves, later.1))

-- they stay within the tokens
pub lead_within : (table : Ops) (text : List ℕ) (ts : List Token) (from : ℕ) (trees : List Tree) (left : Ops) (to : ℕ) → LeadTo table text ts from trees left to → from ≤ length ts
    → to ≤ length ts
lead_within table text ts from [] left to (tables, places) within = subst (λ place. place ≤ length ts) places within
lead_within table text ts from (tree ∷ trees) left to (next, set, stops, does, lead) within = lead_within set text ts next trees left to lead stops.within

-- and go no way back
lead_up : (table : Ops) (text : List ℕ) (ts : List Token) (from : ℕ) (trees : List Tree) (left : Ops) (to : ℕ) → LeadTo table text ts from trees left to → from ≤ to
lead_up table text ts from [] left to (tables, places) = omega (arith, places)
lead_up table text ts from (tree ∷ trees) left to (next, set, stops, does, lead) = omega (arith, stops.some, lead_up set text ts next trees left to lead)

-- the trees of clauses, joined
pub trees_joined : (names : List (List ℕ)) (clauses more : List Clause) → clause_trees names (clauses ++ more) ≡ clause_trees names clauses ++ clause_trees names more
trees_joined names clauses more = map-append (clause_tree names) clauses more

-- after them stands the fault of a part, whatever stands after the row
pub stands_behind : (table : Ops) (text : List ℕ) (ts rest : List Token) (from : ℕ) (trees : List Tree) (left : Ops) (at next : ℕ) (fault : TextFault) → LeadTo table text ts from trees left at
    → EndsFirst ts at next → EndsClause ts ⊎ (rest ≡ []) → IsPartFault left text (slice_range ts at next) fault
    → (before : List Tree) × FaultStandsBehind table text (drop from ts ++ rest) before fault
stands_behind table text ts rest from [] left at next fault (tables, places) ends last wrong = (
  [],
  subst (λ place. FaultStandsBehind table text (drop place ts ++ rest) [] fault) (sym places) (
    part_of ts at next,
    drop next ts ++ rest,
    back_with ts rest at next ends,
    part_first ts at next rest ends last,
    subst (λ T. IsPartFault T text (slice_range ts at next) fault) (sym tables) wrong,
  ),
)
stands_behind table text ts rest from (tree ∷ trees) left at next fault (mid, set, stops, does, lead) ends last wrong =
    let later = stands_behind set text ts rest mid trees left at next fault lead ends last wrong in
    (does.tree ∷ later.0, (part_of ts from mid, drop mid ts ++ rest, set, back_with ts rest from mid stops, does.leaves, later.1))

-- from the start of a row on, a fault ahead is that of the row and all that stands after it
pub fault_from_start : (table : Ops) (text : List ℕ) (ts rest : List Token) (fault : TextFault) → EndsClause ts ⊎ (rest ≡ []) → IsFaultAhead table text ts 0 fault
    → HasClauseFault table text (ts ++ rest) fault
fault_from_start table text ts rest fault last ahead =
    let behind = stands_behind table text ts rest 0 ahead.before ahead.left ahead.at ahead.next fault ahead.lead ahead.part last ahead.is in
    record { before = behind.0; stands = behind.1 }

-- a fault ahead of where clauses lead to is ahead of where they begin
pub fault_joined : (table : Ops) (text : List ℕ) (ts : List Token) (from : ℕ) (trees : List Tree) (left : Ops) (mid : ℕ) (fault : TextFault) → LeadTo table text ts from trees left mid
    → IsFaultAhead left text ts mid fault → IsFaultAhead table text ts from fault
fault_joined table text ts from trees left mid fault lead ahead = record {
  before = trees ++ ahead.before;
  left = ahead.left;
  at = ahead.at;
  lead = lead_joined table left ahead.left text ts from mid ahead.at trees ahead.before lead ahead.lead;
  next = ahead.next;
  part = ahead.part;
  is = ahead.is;
}

-- stretches side by side have tokens each and end with a clause
pub stretches_are : (ts : List Token) (from : ℕ) (stretches : List Stretch) (to : ℕ) → AreStretches ts from stretches to → All (IsStretch ts) stretches
stretches_are ts from [] to are = All-nil (IsStretch ts)
stretches_are ts from (stretch ∷ stretches) to (starts, is, are) = All-cons (IsStretch ts) stretch stretches is (stretches_are ts stretch.to stretches to are)

-- clauses more behind those that were added
added_on : (table : Ops) (text : List ℕ) (ts : List Token) (from : ℕ) (before after : List Tree) (mid : Ops) (at : ℕ) (more : List Tree) (left : Ops) (to : ℕ)
    → AreAdded table text ts from before after mid at → LeadTo mid text ts at more left to → AreAdded table text ts from before (after ++ more) left to
added_on table text ts from before after mid at more left to added lead = record {
  more = added.more ++ more;
  all = ap (λ trees. trees ++ more) added.all ∙ append_assoc before added.more more;
  lead = lead_joined table mid left text ts from at to added.more more added.lead lead;
}

-- what is added from where other clauses were added up to is added behind these
pub added_joined : (table : Ops) (text : List ℕ) (ts : List Token) (from : ℕ) (before mid after : List Tree) (then : Ops) (at : ℕ) (left : Ops) (to : ℕ)
    → AreAdded table text ts from before mid then at → AreAdded then text ts at mid after left to → AreAdded table text ts from before after left to
added_joined table text ts from before mid after then at left to one two =
    subst (λ trees. AreAdded table text ts from before trees left to) (sym two.all) (added_on table text ts from before mid then at two.more left to one two.lead)

-- of pieces up to a place those up to another are kept, where a clause ends if any are, and the others are left
pub record IsKept (names : List (List ℕ)) (table : Ops) (text : List ℕ) (ts : List Token) (from : ℕ) (before : List Tree) (rest : List Piece) (after : List Tree) (to end : ℕ) : Type 0 where
  pub added : AreAdded table text ts from before after table to
  pub others : ArePieces names table text ts to rest end
  pub up : from ≤ to
  pub behind : from < to → IsBehindClause ts to

abbrev pub AreKept : List (List ℕ) → Ops → ℕ → List Piece → List Tree → List Piece → List Tree → ℕ → Type 0
AreKept names table from all before rest after to = (text : List ℕ) (ts : List Token) (end : ℕ) → ArePieces names table text ts from all end → IsKept names table text ts from before rest after to end

pub none_kept : (names : List (List ℕ)) (table : Ops) (from : ℕ) (all : List Piece) (before : List Tree) → AreKept names table from all before all before from
none_kept names table from all before = λ text ts end are. record {
  added = record { more = []; all = sym (append-nil before); lead = (refl, refl) };
  others = are;
  up = omega arith;
  behind = λ some. (let never : ⊥ = omega (arith, some) in absurd never);
}

-- where none are left
module _ (names : List (List ℕ)) (table : Ops) (from : ℕ) (all : List Piece) (before : List Tree) (left : List Piece) (after : List Tree) (to : ℕ) (kept : AreKept names table from all before left after to)
    (none : length left ≡ 0) (text : List ℕ) (ts : List Token) (end : ℕ) (are : ArePieces names table text ts from all end) where
  pub all_added : AreAdded table text ts from before after table to
  all_added = (kept text ts end are).added

  pub all_forward : from < end → from < to
  all_forward some =
      let reached : to ≡ end = subst (λ pieces. ArePieces names table text ts to pieces end) (nil_from_length left none) (kept text ts end are).others in
      omega (arith, reached, some)

  pub all_until : from < end → IsBehindClause ts to
  all_until some = (kept text ts end are).behind (all_forward some)

-- the clauses of the next piece, too
record IsNext (names : List (List ℕ)) (table : Ops) (text : List ℕ) (ts : List Token) (from : ℕ) (before : List Tree) (piece : Piece) (rest : List Piece) (after : List Tree) (end : ℕ) : Type 0 where
  next : ℕ
  at : ℕ
  added : AreAdded table text ts from before (after ++ clause_trees names piece.clauses.items) table at
  ends : EndIs names table text ts at next piece.end
  others : ArePieces names table text ts next rest end
  up : from < next
  reached : from ≤ at
  behind : IsBehindClause ts next
  told : piece.to ≡ next

module _ (names : List (List ℕ)) (table : Ops) (from : ℕ) (all : List Piece) (before : List Tree) (piece : Piece) (rest left : List Piece) (after : List Tree) (to : ℕ)
    (kept : AreKept names table from all before left after to) (front : left ≡ piece ∷ rest) where
  next_of : (text : List ℕ) (ts : List Token) (end : ℕ) → ArePieces names table text ts from all end → IsNext names table text ts from before piece rest after end
  next_of text ts end are =
      let so_far = kept text ts end are in
      let others : ArePieces names table text ts to (piece ∷ rest) end = subst (λ pieces. ArePieces names table text ts to pieces end) front so_far.others in
      let next : ℕ = others.0 in
      let is : IsPiece names table text ts to next piece = others.1 in
      let reached : to ≤ is.at = lead_up table text ts to (clause_trees names piece.clauses.items) table is.at is.clauses in
      record {
        next = next;
        at = is.at;
        added = added_on table text ts from before after table to (clause_trees names piece.clauses.items) table is.at so_far.added is.clauses;
        ends = is.end;
        others = others.2;
        up = omega (arith, so_far.up, is.some);
        reached = omega (arith, so_far.up, reached);
        behind = is.behind;
        told = is.told;
      }

  -- a clause ends where its stretch does
  pub piece_until : (text : List ℕ) (ts : List Token) (end : ℕ) → ArePieces names table text ts from all end → IsBehindClause ts piece.to
  piece_until text ts end are = let next = next_of text ts end are in subst (IsBehindClause ts) (sym next.told) next.behind

  -- all of it
  pub whole_kept : piece.end ≡ Whole → AreKept names table from all before rest (after ++ clause_trees names piece.clauses.items) piece.to
  whole_kept is = λ text ts end are.
      let next = next_of text ts end are in
      let ends : next.at ≡ next.next = subst (EndIs names table text ts next.at next.next) is next.ends in
      record {
        added = subst (λ to. AreAdded table text ts from before (after ++ clause_trees names piece.clauses.items) table to) (ends ∙ sym next.told) next.added;
        others = subst (λ to. ArePieces names table text ts to rest end) (sym next.told) next.others;
        up = omega (arith, next.up, next.told);
        behind = λ some. piece_until text ts end are;
      }

  -- and the clause behind it that sets operators
  module _ (clause : Clause) (place : ℕ) (is : piece.end ≡ AtOperators clause place) (text : List ℕ) (ts : List Token) (end : ℕ) (are : ArePieces names table text ts from all end) where
    record IsAtOperators : Type 0 where
      next : IsNext names table text ts from before piece rest after end
      ends : EndsFirst ts next.at place
      reads : IsClauseOf (table_of table) text (slice_range ts next.at place) (clause_tree names clause)
      own : plain (clause_tree names clause) ≡ clause_tree names clause

    at_operators : IsAtOperators
    at_operators =
        let next = next_of text ts end are in
        let ends : EndIs names table text ts next.at next.next (AtOperators clause place) = subst (EndIs names table text ts next.at next.next) is next.ends in
        record { next = next; ends = ends.0; reads = ends.1; own = ends.2 }

    pub operators_added : (then : Ops) → items_on (items_of (clause_tree names clause)) table ≡ Ok then
        → AreAdded table text ts from before ((after ++ clause_trees names piece.clauses.items) ++ clause_tree names clause ∷ []) then place
    operators_added then set =
        let found = at_operators in
        added_on table text ts from before (after ++ clause_trees names piece.clauses.items) table found.next.at (clause_tree names clause ∷ []) then place found.next.added
        (place, then, found.ends, record { tree = clause_tree names clause; kept_is = sym found.own; leaves = record { clause = found.reads; items = set } }, (refl, refl))

    pub operators_forward : from < place
    operators_forward = let found = at_operators in omega (arith, found.next.reached, found.ends.some)

    pub operators_refused : (fault : TextFault) → items_on (items_of (clause_tree names clause)) table ≡ Err fault → IsFaultAhead table text ts from fault
    operators_refused fault refused =
        let found = at_operators in
        record {
          before = found.next.added.more;
          left = table;
          at = found.next.at;
          lead = found.next.added.lead;
          next = place;
          part = found.ends;
          is = inr (clause_tree names clause, found.reads, refused);
        }

  -- or the fault behind it
  pub part_refused : (fault : TextFault) → piece.end ≡ Refused fault → fault ≢ NoMemory → (text : List ℕ) (ts : List Token) (end : ℕ) → ArePieces names table text ts from all end
      → IsFaultAhead table text ts from fault
  part_refused fault is some text ts end are =
      let next = next_of text ts end are in
      let ends : (place : ℕ) × EndsFirst ts next.at place × IsPartFault table text (slice_range ts next.at place) fault = subst (EndIs names table text ts next.at next.next) is next.ends some in
      record { before = next.added.more; left = table; at = next.at; lead = next.added.lead; next = ends.0; part = ends.1; is = ends.2 }
