-- Rows of tokens that are numbered one after another.
use Rattle.std.proofs.Common.{◌≡◌, ℕ, zero, suc, ◌+◌, ◌-◌, ◌*◌, ◌≤◌, List, [], ◌∷◌, ◌++◌, Some, Vec, Global, All, length, get_or, ap, sym, ◌∙◌, refl, subst, arith, length-append, append_assoc}
use Rattle.std.specs.Prelude.{slice_get}
use Rattle.std.proofs.lemmas.List.{map-append}
use Rattle.std.proofs.lemmas.List.Elements.{All-push, All-weaker}
use Rattle.prolog_tokens.specs.declared.token.Token.{Token}
use Rattle.prolog_tokens.specs.Cut.{IsNext, StandBetween, ended}
use Rattle.prolog_tokens.specs.Rows.{tokens_of}
use Rattle.prolog_tokens.proofs.Between.{next_some}
use Rattle.prolog_tokens.proofs.Lookups.{stand_next, ended_more}
use Rattle.prolog_tokens.proofs.Pieces.{layout_from}
use Rattle.prolog_tokens.proofs.RowLemmas.{rows_more}
use Rattle.prolog_names.specs.Names.{IsOpened, known_names}
use Rattle.prolog_names.specs.Numbers.{IsNumberedRow, token_rows}
use Rattle.prolog_names.specs.declared.numbers.NumberedRow.{NumberedRow}
use Rattle.prolog_names.proofs.NumberedParts.{number_kept}

-- the names so far have at most four bytes for each up to where the next token ends
pub few_on : (text : List ℕ) (from to : ℕ) (ts : List Token) (k : ℕ) (t : Token) → StandBetween text from ts to → slice_get ts k ≡ Some t → (old new base : ℕ)
    → old ≤ 4 * ended from ts k + base → new ≤ old + 4 * (t.end - t.start) → new ≤ 4 * ended from ts (k + 1) + base
few_on text from to ts k t stand is old new base few more =
    let next : IsNext text (ended from ts k) t = stand_next text from to ts stand k t is in
    omega (arith, few, more, next_some text (ended from ts k) t next, layout_from text (ended from ts k) t.start next.layout, ended_more from ts k t is)

-- all tokens have ended where they end
pub stand_ended : (text : List ℕ) (a b : ℕ) (ts : List Token) → StandBetween text a ts b → (k : ℕ) → length ts ≤ k → ended a ts k ≡ b
stand_ended text a b [] stand zero all = stand
stand_ended text a b [] stand (suc k) all = stand
stand_ended text a b (t ∷ ts) stand zero all = absurd (omega (arith, all))
stand_ended text a b (t ∷ ts) (next, rest) (suc k) all = stand_ended text t.end b ts rest k (omega (arith, all))

pub opened_more : (names more new : List (List ℕ)) → new ≡ names ++ more → IsOpened names → IsOpened new
opened_more names more new is opened = (opened.0 ++ more, is ∙ (ap (λ ns. ns ++ more) opened.1 ∙ append_assoc known_names opened.0 more))

-- tokens that stand between two places, in two parts
pub stand_split : (text : List ℕ) (a b : ℕ) (ts us : List Token) → StandBetween text a (ts ++ us) b → (m : ℕ) × StandBetween text a ts m × StandBetween text m us b
stand_split text a b [] us stand = (a, refl, stand)
stand_split text a b (t ∷ ts) us (next, rest) = let parts = stand_split text t.end b ts us rest in (parts.0, (next, parts.1), parts.2)

-- a row stays numbered in a table with more names
row_kept : (text : List ℕ) (names more : List (List ℕ)) (row : NumberedRow) → IsNumberedRow text names row → IsNumberedRow text (names ++ more) row
row_kept text names more row are = record {
  as_many = are.as_many;
  each = λ k token is. number_kept text names more token (get_or row.numbers.items k 0) (are.each k token is);
}

-- one row more
pub rows_numbered : (text : List ℕ) (names more new : List (List ℕ)) (rows all : List NumberedRow) (row : NumberedRow) → new ≡ names ++ more → all ≡ rows ++ row ∷ []
    → All (IsNumberedRow text names) rows → IsNumberedRow text new row → All (IsNumberedRow text new) all
rows_numbered text names more new rows all row is listed are one =
    subst (All (IsNumberedRow text new)) (sym listed)
    (All-push (IsNumberedRow text new) rows row
    (subst (λ ns. All (IsNumberedRow text ns) rows) (sym is) (All-weaker (IsNumberedRow text names) (IsNumberedRow text (names ++ more)) (row_kept text names more) rows are)) one)

-- the rows of tokens that are done and those that are left
pub rows_on : (rows all : List NumberedRow) (row : NumberedRow) (left whole : List (Vec Token Global)) → all ≡ rows ++ row ∷ [] → token_rows rows ++ row.tokens ∷ left ≡ whole
    → token_rows all ++ left ≡ whole
rows_on rows all row left whole listed is =
    ap (λ rs. token_rows rs ++ left) listed
    ∙ (ap (λ rs. rs ++ left) (map-append (λ (r : NumberedRow). r.tokens) rows (row ∷ [])) ∙ (append_assoc (token_rows rows) (row.tokens ∷ []) left ∙ is))

-- how many tokens stand in rows, and in those behind them
pub rows_joined : (rows left : List (Vec Token Global)) → tokens_of (rows ++ left) ≡ tokens_of rows ++ tokens_of left
rows_joined [] left = refl
rows_joined (row ∷ rows) left = ap (λ ts. row.items ++ ts) (rows_joined rows left) ∙ sym (append_assoc row.items (tokens_of rows) (tokens_of left))

pub count_more : (rows all : List NumberedRow) (row : NumberedRow) → all ≡ rows ++ row ∷ [] → length (tokens_of (token_rows all)) ≡ length (tokens_of (token_rows rows)) + length row.tokens.items
count_more rows all row listed =
    ap (λ rs. length (tokens_of (token_rows rs))) listed
    ∙ (ap (λ rs. length (tokens_of rs)) (map-append (λ (r : NumberedRow). r.tokens) rows (row ∷ []))
    ∙ (ap length (rows_more (token_rows rows) row.tokens) ∙ length-append (tokens_of (token_rows rows)) row.tokens.items))
