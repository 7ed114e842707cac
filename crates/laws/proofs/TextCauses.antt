-- What texts are refused for: a fault of a text is never want of memory, and its cause is none that facts have.
use Rattle.std.proofs.Common.{◌≡◌, ℕ, ◌==◌, ◌&&◌, not, nat_lt, Bool, true, false, cond, List, [], ◌∷◌, Option, Some, None, Ok, Err, inl, inr, refl, sym, ◌∙◌, subst}
use Rattle.prolog_tokens.specs.declared.token.TokenFault.{TokenFault}
use Rattle.prolog_tokens.specs.declared.token.TokenFault.TheVariants as of_tokens
use Rattle.prolog_tokens.specs.declared.token.Token.{Token}
use Rattle.prolog_tokens.specs.Cut.{HasFault}
use Rattle.prolog_ops.specs.declared.op.OpKind.{OpKind}
use Rattle.prolog_ops.specs.declared.table.OpFault.{OpFault}
use Rattle.prolog_ops.specs.declared.table.OpFault.TheVariants as of_ops
use Rattle.prolog_ops.specs.Table.{Ops, place_of, with_set, is_fixed, has_rival, set_fault}
use Rattle.prolog_terms.specs.Tree.{Tree}
use Rattle.prolog_terms.specs.Words.{table_of}
use Rattle.prolog_terms.specs.Clause.{IsReadFault}
use Rattle.prolog_terms.specs.declared.read_fault.ReadFault.{ReadFault}
use Rattle.prolog_terms.specs.declared.read_fault.ReadFault.TheVariants as of_clauses
use Rattle.clause_text.specs.declared.cause.Cause.{Cause}
use Rattle.clause_text.specs.declared.cause.Cause.TheVariants.{LateModule, BadIndicator, BadSpec, ControlHead, BadHead, NotInProfile}
use Rattle.clause_text.specs.declared.fault.TextFault.{TextFault}
use Rattle.clause_text.specs.declared.fault.TextFault.TheVariants.{At, NoMemory}
use Rattle.clause_text.specs.Items.{Item, Name, Answer, then_on, each_on, fault_of_ops, set_or, name_on, with_names, with_kind, with_priority, item_on, items_of, priority_of, kind_of, names_of}
use Rattle.clause_text.specs.Clauses.{fault_of_clauses, IsPartFault, FaultStandsBehind}
use Rattle.clause_text.specs.TextFault.{fault_of_tokens, HasTextFault, bytes, tokens, clauses}
use Rattle.laws.specs.Causes.{is_fact_cause, is_text_cause}

-- the fault has a cause that texts have
abbrev IsCaused : TextFault → Type 0
IsCaused (At cause at) = is_text_cause cause ≡ true
IsCaused NoMemory = ⊥

-- operator items

abbrev Caused : {A : Type 0} → (A → Ops → Answer) → Type 0
Caused {A = A} on = (x : A) (table : Ops) (fault : TextFault) → on x table ≡ Err fault → IsCaused fault

by_fault : (one fault : TextFault) → ◌≡◌ {A = Answer} (Err one) (Err fault) → IsCaused one → IsCaused fault
by_fault one fault same caused = let is : one ≡ fault = cc in subst IsCaused is caused

each_caused : {A : Type 0} (on : A → Ops → Answer) → Caused on → Caused (λ (xs : List A) table. each_on on xs table)
each_caused on one [] table fault is = let both : ◌≡◌ {A = Answer} (Ok table) (Err fault) = is in absurd (cc)
each_caused on one (x ∷ xs) table fault is = by_first (on x table) refl is (λ left. each_caused on one xs left fault)
  where
    by_first : (first : Answer) → on x table ≡ first → then_on first (λ left. each_on on xs left) ≡ Err fault
        → ((left : Ops) → each_on on xs left ≡ Err fault → IsCaused fault) → IsCaused fault
    by_first (Ok left) here behind rest = rest left behind
    by_first (Err own) here behind rest = one x table fault (here ∙ behind)

-- an operator is not set for one of three reasons
of_set : (over fixed rival : Bool) (own : OpFault) (at : ℕ)
    → cond over (Some of_ops.BadPriority) (cond fixed (Some of_ops.FixedOp) (cond rival (Some of_ops.InfixAndPostfix) None)) ≡ Some own → IsCaused (fault_of_ops own at)
of_set true fixed rival own at is = let same : of_ops.BadPriority ≡ own = cc in subst (λ f. IsCaused (fault_of_ops f at)) same refl
of_set false true rival own at is = let same : of_ops.FixedOp ≡ own = cc in subst (λ f. IsCaused (fault_of_ops f at)) same refl
of_set false false true own at is = let same : of_ops.InfixAndPostfix ≡ own = cc in subst (λ f. IsCaused (fault_of_ops f at)) same refl
of_set false false false own at is = let both : ◌≡◌ {A = Option OpFault} None (Some own) = is in absurd (cc)

name_caused : (kind : OpKind) (priority : ℕ) → Caused (name_on kind priority)
name_caused kind priority name table fault is = set (set_fault table name.text kind priority) refl is
  where
    set : (own : Option OpFault) → set_fault table name.text kind priority ≡ own → set_or own name.at (with_set table name.text kind priority) ≡ Err fault → IsCaused fault
    set None here behind = let both : ◌≡◌ {A = Answer} (Ok (with_set table name.text kind priority)) (Err fault) = behind in absurd (cc)
    set (Some own) here behind =
        by_fault (fault_of_ops own name.at) fault behind
        (of_set (nat_lt 1200 priority) (is_fixed name.text) (not (priority == 0) && has_rival table (place_of kind) name.text) own name.at here)

names_caused : (kind : OpKind) (priority : ℕ) (tree : Tree) (names : Option (List Name)) (table : Ops) (fault : TextFault) → with_names kind priority tree names table ≡ Err fault
    → IsCaused fault
names_caused kind priority tree None table fault is = by_fault _ fault is refl
names_caused kind priority tree (Some names) table fault is = each_caused (name_on kind priority) (name_caused kind priority) names table fault is

kind_caused : (kind : Option OpKind) (priority : ℕ) (item : Item) (table : Ops) (fault : TextFault) → with_kind kind priority item table ≡ Err fault → IsCaused fault
kind_caused None priority item table fault is = by_fault _ fault is refl
kind_caused (Some kind) priority item table fault is = names_caused kind priority item.names (names_of item.names) table fault is

priority_caused : (priority : Option ℕ) (item : Item) (table : Ops) (fault : TextFault) → with_priority priority item table ≡ Err fault → IsCaused fault
priority_caused None item table fault is = by_fault _ fault is refl
priority_caused (Some priority) item table fault is = kind_caused (kind_of item.kind) priority item table fault is

item_caused : Caused item_on
item_caused item table fault is = priority_caused (priority_of item.priority) item table fault is

-- clauses, one after another

of_reading : (T : Ops) (text : List ℕ) (part : List Token) (of : ReadFault) → IsReadFault (table_of T) text part of → IsCaused (fault_of_clauses of)
of_reading T text part (of_clauses.Stuck at) is = refl
of_reading T text part (of_clauses.TooDeep at) is = refl
of_reading T text part (of_clauses.NoEnd at) is = refl
of_reading T text part of_clauses.NoMemory is = absurd is

of_part : (table : Ops) (text : List ℕ) (part : List Token) (fault : TextFault) → IsPartFault table text part fault → IsCaused fault
of_part table text part fault (inl unread) = subst IsCaused (sym unread.1) (of_reading table text part unread.0 unread.2)
of_part table text part fault (inr unset) = each_caused item_on item_caused (items_of unset.0) table fault unset.2

behind_clauses : (table : Ops) (text : List ℕ) (ts : List Token) (before : List Tree) (fault : TextFault) → FaultStandsBehind table text ts before fault → IsCaused fault
behind_clauses table text ts [] fault (part, rest, is, first, wrong) = of_part table text part fault wrong
behind_clauses table text ts (tree ∷ before) fault (part, rest, left, is, leaves, stands) = behind_clauses left text rest before fault stands

-- tokens

of_token : (text : List ℕ) (of : TokenFault) → HasFault text of → IsCaused (fault_of_tokens of)
of_token text (of_tokens.BadChar at) has = refl
of_token text (of_tokens.OpenQuote at) has = refl
of_token text (of_tokens.OpenComment at) has = refl
of_token text (of_tokens.BadEscape at) has = refl
of_token text of_tokens.NoMemory has = absurd has.next.wrong

of_text : (text : List ℕ) (fault : TextFault) → HasTextFault text fault → IsCaused fault
of_text text fault (bytes have) = subst IsCaused (sym have.1) refl
of_text text fault (tokens have) = subst IsCaused (sym have.is) (of_token text have.of have.has)
of_text text fault (clauses have) = behind_clauses _ text have.tokens have.has.before fault have.has.stands

pub text_cause : (text : List ℕ) (fault : TextFault) → HasTextFault text fault → (cause : Cause) × (at : ℕ) × (fault ≡ At cause at) × (is_text_cause cause ≡ true)
text_cause text fault has = told fault (of_text text fault has)
  where
    told : (own : TextFault) → IsCaused own → (cause : Cause) × (at : ℕ) × (own ≡ At cause at) × (is_text_cause cause ≡ true)
    told (At cause at) caused = (cause, at, refl, caused)
    told NoMemory caused = absurd caused

-- no cause is one of both
pub apart : (cause : Cause) → is_fact_cause cause ≡ true → is_text_cause cause ≡ true → ⊥
apart LateModule fact of_text = cc
apart BadIndicator fact of_text = cc
apart BadSpec fact of_text = cc
apart ControlHead fact of_text = cc
apart BadHead fact of_text = cc
apart NotInProfile fact of_text = cc
apart cause fact of_text = cc
