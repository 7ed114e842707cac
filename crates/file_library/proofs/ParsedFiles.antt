-- Files read side by side, in order.
use Rattle.std.proofs.Common.{◌≡◌, ℕ, zero, suc, ◌+◌, ◌<◌, List, [], ◌∷◌, ◌++◌, Result, Ok, Err, IfOk, IfErr, All, Contains, Vec, Global, length, take, drop, ◌*◌, map, get_or, refl, sym, subst, ◌∙◌, ap, inr, arith}
use Rattle.std.specs.List.{AllZip, flat_map}
use Rattle.std.specs.declared.alloc.AllocError.{AllocError}
use Rattle.std.proofs.lemmas.List.{flat_map_more, append_assoc, take-append-drop}
use Rattle.std.proofs.lemmas.List.Concat.{flat_map-cons}
use Rattle.std.proofs.lemmas.List.Elements.{Contains-append_left, Contains-append_right, Contains-get_or}
use Rattle.list_laws.proofs.Zips.{zip_append}
use Rattle.kept_clauses.specs.Plain.{plain}
use Rattle.clause_text.specs.Kept.{ReadsPlainly}
use Rattle.clause_text.proofs.PlainOffsets.{all_plain_stand}
use Rattle.clause_text.proofs.Offsets.{reading_placed}
use Rattle.module_table.specs.declared.file_facts.FileFacts.{FileFacts}
use Rattle.module_table.specs.declared.said.FactFault.{FactFault}
use Rattle.module_table.specs.declared.said.FactFault.TheVariants.{At, NoMemory}
use Rattle.module_table.specs.Said.{IsWhy}
use Rattle.module_table.specs.Facts.{file_said}
use Rattle.module_table.proofs.FactOffsets.{refusals_placed}
use Rattle.prolog_terms.specs.Tree.{Tree}
use Rattle.list_laws.proofs.OneOrder.{holds_of}
use Rattle.file_library.specs.AskedFile.{IsFaultOf, items_in}

-- what clauses say is refused, so the file has that fault
pub facts_fault : (name text : List ℕ) (kept : List Tree) (result : Result FileFacts FactFault) → ReadsPlainly text kept → IfErr result (λ fault. IsWhy (file_said name kept) fault)
    → IfErr result (IsFaultOf name text)
facts_fault name text kept (Ok facts) is why = tt
facts_fault name text kept (Err fault) is why = at fault (subst (λ trees. IsWhy (file_said name trees) fault) is.kept_are why)
  where
    at : (fault : FactFault) → IsWhy (file_said name (map plain is.trees)) fault → IsFaultOf name text fault
    at (At cause offset) said = (
      inr (record { trees = is.trees; reads = is.reads; said = said }),
      refusals_placed text name (map plain is.trees) (record { cause = cause; offset = offset })
          (all_plain_stand text is.trees (reading_placed text is.trees is.reads)) said,
    )
    at NoMemory said = tt

-- a list that is paired with another and one more element has one more itself
pub record Splits {X Y : Type 0} (R : X → Y → Type 0) (xs : List X) (ys : List Y) (y : Y) : Type 0 where
  pub before : List X
  pub last : X
  pub is : xs ≡ before ++ last ∷ []
  pub paired : AllZip R before ys
  pub one : R last y

pub zip_last : {X Y : Type 0} (R : X → Y → Type 0) (xs : List X) (ys : List Y) (y : Y) → AllZip R xs (ys ++ y ∷ []) → Splits R xs ys y
zip_last {X} {Y} R [] [] y zip = absurd zip
zip_last {X} {Y} R [] (z ∷ ys) y zip = absurd zip
zip_last {X} {Y} R (x ∷ []) [] y zip = record { before = []; last = x; is = refl; paired = tt; one = zip.0 }
zip_last {X} {Y} R (x ∷ w ∷ xs) [] y zip = absurd zip.1
zip_last {X} {Y} R (x ∷ xs) (z ∷ ys) y zip =
    let rest = zip_last R xs ys y zip.1 in
    record { before = x ∷ rest.before; last = rest.last; is = ap (λ l. x ∷ l) rest.is; paired = (zip.0, rest.paired); one = rest.one }

-- the items of lists

pub flat_lists : {X : Type 0} (lists : List (Vec X Global)) → flat_map (λ (list : List X). list) (map (λ (v : Vec X Global). v.items) lists) ≡ items_in lists
flat_lists {X} [] = refl
flat_lists {X} (list ∷ lists) =
    flat_map-cons (λ (l : List X). l) list.items (map (λ (v : Vec X Global). v.items) lists)
    ∙ (ap (λ rest. list.items ++ rest) (flat_lists lists) ∙ sym (flat_map-cons (λ (v : Vec X Global). v.items) list lists))

in_items : {X : Type 0} (lists : List (Vec X Global)) (i : ℕ) (x : Vec X Global) (y : X) → i < length lists → Contains (get_or lists i x).items y → Contains (items_in lists) y
in_items {X} [] i x y less has = let none : ⊥ = omega (arith, less) in absurd none
in_items {X} (list ∷ lists) zero x y less has =
    subst (λ items. Contains items y) (sym (flat_map-cons (λ (v : Vec X Global). v.items) list lists)) (Contains-append_left list.items (items_in lists) y has)
in_items {X} (list ∷ lists) (suc i) x y less has =
    let below : i < length lists = omega (arith, less) in
    subst (λ items. Contains items y) (sym (flat_map-cons (λ (v : Vec X Global). v.items) list lists))
    (Contains-append_right list.items (items_in lists) y (in_items lists i x y below has))

-- what holds of all items holds of those of each list
pub list_small : {X : Type 0} (P : X → Type 0) (lists : List (Vec X Global)) → All P (items_in lists) → (i : ℕ) (x : Vec X Global) → i < length lists → All P (get_or lists i x).items
list_small {X} P lists small i x less k d within =
    holds_of P (items_in lists) (get_or (get_or lists i x).items k d) small (in_items lists i x (get_or (get_or lists i x).items k d) less (Contains-get_or (get_or lists i x).items k d within))

-- what one more list of files adds
pub joined_more : {X Y : Type 0} (R : X → Y → Type 0) (answers : List (List X)) (before : List (Result (Vec Y Global) AllocError)) (list : Vec Y Global) (all : List Y)
    → ((parts : List (List X)) → AllZip (λ xs r. IfOk r (λ (v : Vec Y Global). AllZip R xs v.items)) parts before → AllZip R (flat_map (λ (l : List X). l) parts) all)
    → AllZip (λ xs r. IfOk r (λ (v : Vec Y Global). AllZip R xs v.items)) answers (before ++ Ok list ∷ [])
    → AllZip R (flat_map (λ (l : List X). l) answers) (all ++ list.items)
joined_more {X} {Y} R answers before list all so_far zip =
    let parts = zip_last (λ xs r. IfOk r (λ (v : Vec Y Global). AllZip R xs v.items)) answers before (Ok list) zip in
    subst (λ xs. AllZip R xs (all ++ list.items)) (flat_map_more (λ (l : List X). l) [] parts.before parts.last ∙ ap (flat_map (λ (l : List X). l)) (sym parts.is))
    (zip_append R (flat_map (λ (l : List X). l) parts.before) parts.last all list.items (so_far parts.before parts.paired) parts.one)

pub joined_none : {X Y : Type 0} (R : X → Y → Type 0) (answers : List (List X)) → AllZip (λ xs (r : Result (Vec Y Global) AllocError). IfOk r (λ (v : Vec Y Global). AllZip R xs v.items)) answers []
    → AllZip R (flat_map (λ (l : List X). l) answers) []
joined_none {X} {Y} R [] zip = tt
joined_none {X} {Y} R (answer ∷ answers) zip = absurd zip

-- one more list is cut off the rest

pub cut_on : {X : Type 0} (lists : List (Vec X Global)) (list : Vec X Global) (rest more whole : List X) (size : ℕ) → list.items ≡ take size rest → more ≡ drop size rest
    → items_in lists ++ rest ≡ whole → items_in (lists ++ list ∷ []) ++ more ≡ whole
cut_on {X} lists list rest more whole size front back is =
    ap (λ items. items ++ more) (sym (flat_map_more (λ (v : Vec X Global). v.items) [] lists list))
    ∙ (append_assoc (items_in lists) list.items more
    ∙ (ap (λ items. items_in lists ++ items) (ap (λ l. l ++ more) front ∙ (ap (λ l. take size rest ++ l) back ∙ take-append-drop size rest)) ∙ is))

pub cut_counts : (lists size rest more whole : ℕ) → lists * size + rest ≡ whole → more + size ≡ rest → (lists + 1) * size + more ≡ whole
cut_counts lists size rest more whole is cut = omega (arith, is, cut)

-- the results of lists, as the files of all answers
pub if_ok : {T E : Type 0} (P Q : T → Type 0) (r : Result T E) → ((x : T) → P x → Q x) → IfOk r P → IfOk r Q
if_ok {T} {E} P Q (Ok x) then is = then x is
if_ok {T} {E} P Q (Err e) then is = tt

pub zip_from_lists : {X Y : Type 0} (R : List X → Y → Type 0) (lists : List (Vec X Global)) (ys : List Y) → length ys ≡ length lists
    → ((i : ℕ) (d : Y) (e : Vec X Global) → i < length ys → R (get_or lists i e).items (get_or ys i d)) → AllZip R (map (λ (v : Vec X Global). v.items) lists) ys
zip_from_lists {X} {Y} R [] [] same each = tt
zip_from_lists {X} {Y} R [] (y ∷ ys) same each = let none : ⊥ = omega (arith, same) in absurd none
zip_from_lists {X} {Y} R (list ∷ lists) [] same each = let none : ⊥ = omega (arith, same) in absurd none
zip_from_lists {X} {Y} R (list ∷ lists) (y ∷ ys) same each =
    let first : 0 < length (y ∷ ys) = omega arith in
    let rest : length ys ≡ length lists = omega (arith, same) in
    (each 0 y list first, zip_from_lists R lists ys rest (λ i d e less. let more : suc i < length (y ∷ ys) = omega (arith, less) in each (suc i) d e more))
