-- The name that a path makes, and where both lead.
use Rattle.std.proofs.Common.{◌≡◌, ◌≢◌, ◌↔◌, ◌⊎◌, inl, inr, ℕ, ◌<◌, nat_eq, length, arith, Bool, true, false, List, [], ◌∷◌, ◌++◌, Some, None, codes, fold, reverse, refl, sym, ap, subst, ◌∙◌, append_assoc, if◌then◌else◌}
use Rattle.std.specs.List.{AllByRecursion, ends_with, join_with_byte}
use Rattle.std.specs.Cmp.Lexicographic.{pointwise}
use Rattle.std.proofs.lemmas.Bool.{false≢true}
use Rattle.std.proofs.lemmas.List.Prefix.{end_rest}
use Rattle.std.proofs.lemmas.List.Splits.{length-slice_split, join_with_byte-slice_split}
use Rattle.std.proofs.lemmas.List.{append-nil}
use Rattle.std.proofs.lemmas.List.Sums.{fold-append}
use Rattle.std.proofs.lemmas.List.Elements.{All-from_recursion}
use Rattle.module_table.specs.FileName.{slash, begins_with_slash, segments, all_but_last, with_slashes, folder, whole_path, kept_segments, with_ending, resolved}
use Rattle.module_table.specs.Paths.{led_on, led, as_prolog, IsPlain, IsFileName, IsFolder}
use Rattle.module_table.proofs.Segments.{join, turned, is_slash, joined, HasNoSlash, no_slash, but_last, parts_and_more, IsWord, plain_all, ended, ended_word, ending_slashless, IsPart, part_of_word, root_segments, Tells, tells}
use Rattle.module_table.proofs.KeptSegments.{kept_of, slashless_kept, parts_kept, stand, led_word, stand_all, stand_in_turn, parts, Found, found, not_found, nowhere}

-- what the name tells

-- what the name of a path tells
pub name_tells : (path name : List ℕ) (it : Found (begins_with_slash path) (kept_segments path) name)
    → Tells (begins_with_slash path) (reverse it.before) (with_ending it.last) name
name_tells path name it =
    let absolute = begins_with_slash path in
    let none : AllByRecursion HasNoSlash (it.last ∷ it.before) = subst (AllByRecursion HasNoSlash) it.is (slashless_kept path) in
    let before = turned IsPart it.before (parts_kept absolute it.before it.all none.1) in
    let last = part_of_word (with_ending it.last) (ended_word (with_ending it.last) (ended it.last)) (ending_slashless it.last none.0) in
    subst (Tells absolute (reverse it.before) (with_ending it.last)) it.name_is (tells absolute (reverse it.before) (with_ending it.last) before last)

pub names_resolved : (user spec name : List ℕ) → resolved user spec ≡ Some name → IsFileName name
names_resolved user spec name e =
    let path = whole_path user spec in
    let absolute = begins_with_slash path in
    let it = found absolute (kept_segments path) name (kept_of path) e in
    let told = name_tells path name it in
    let so = parts absolute it.before it.all in
    let last = ended_word (with_ending it.last) (ended it.last) in
    record {
      ups = so.ups;
      folders = so.folders;
      file = with_ending it.last;
      is = told.are ∙ (λ i. (root_segments (sym told.begins i) ++ so.is i) ++ with_ending it.last ∷ []);
      up = All-from_recursion (λ segment. segment ≡ codes "..") so.ups so.up;
      rooted = λ is. so.rooted (sym told.begins ∙ is);
      plain = All-from_recursion IsPlain (so.folders ++ with_ending it.last ∷ []) (plain_all (so.folders ++ with_ending it.last ∷ []) (join IsWord so.folders (with_ending it.last ∷ []) so.words (last, tt)));
      ending = ended it.last;
    }

-- where a path and its name lead

pub set_out : (absolute : Bool) (place : List (List ℕ)) → absolute ≡ true → (if absolute then [] else place) ≡ []
set_out absolute place e = ap (λ t. if t then [] else place) e

pub led_kept : (place : List (List ℕ)) (path : List ℕ) → led place path ≡ stand (if begins_with_slash path then [] else place) (kept_segments path)
led_kept place path =
    sym (stand_all (begins_with_slash path) (if begins_with_slash path then [] else place) [] (segments path) tt (set_out (begins_with_slash path) place))

pub root_stays : (absolute : Bool) (place more : List (List ℕ)) → fold led_on place (root_segments absolute ++ more) ≡ fold led_on place more
root_stays true place more = refl
root_stays false place more = refl

pub led_name : (absolute : Bool) (place before : List (List ℕ)) (file name : List ℕ) → Tells absolute (reverse before) file name → IsWord file
    → led place name ≡ file ∷ stand (if absolute then [] else place) before
led_name absolute place before file name told word =
    let there = if absolute then [] else place in
    (λ i. fold led_on (if told.begins i then [] else place) (told.are i))
    ∙ ap (fold led_on there) (append_assoc (root_segments absolute) (reverse before) (file ∷ []))
    ∙ root_stays absolute there (reverse before ++ file ∷ [])
    ∙ fold-append led_on there (reverse before) (file ∷ [])
    ∙ ap (λ from. led_on from file) (stand_in_turn there before)
    ∙ led_word (stand there before) file word

-- a path with its folder before it

pub begins_so : (front spec : List ℕ) → begins_with_slash spec ≡ false → begins_with_slash (front ++ spec) ≡ begins_with_slash front
begins_so [] spec e = e
begins_so (b ∷ bs) spec e = refl

pub led_joined : (place : List (List ℕ)) (user spec : List ℕ) → led place (whole_path user spec) ≡ led (led place (folder user)) spec
led_joined place user spec = by_test (begins_with_slash spec) refl
  where
    by_test : (test : Bool) → begins_with_slash spec ≡ test → led place (if test then spec else folder user ++ spec) ≡ led (led place (folder user)) spec
    by_test true e = (λ i. fold led_on (if e i then [] else place) (segments spec)) ∙ (λ i. fold led_on (if sym e i then [] else led place (folder user)) (segments spec))
    by_test false e =
        let front = all_but_last (segments user) in
        let none = but_last HasNoSlash (segments user) (no_slash user) in
        let there = if begins_with_slash (folder user) then [] else place in
        let after : led place (folder user) ≡ fold led_on there front =
        ap (fold led_on there) (ap segments (sym (append-nil (folder user))) ∙ parts_and_more front [] none) ∙ fold-append led_on there front ([] ∷ []) in
        (λ i. fold led_on (if begins_so (folder user) spec e i then [] else place) (parts_and_more front spec none i))
        ∙ fold-append led_on there front (segments spec)
        ∙ ap (λ x. fold led_on x (segments spec)) (sym after)
        ∙ (λ i. fold led_on (if sym e i then [] else led place (folder user)) (segments spec))

pub names_lead : (user spec name : List ℕ) → resolved user spec ≡ Some name → (place : List (List ℕ)) → led place name ≡ as_prolog (led (led place (folder user)) spec)
names_lead user spec name e place =
    let path = whole_path user spec in
    let absolute = begins_with_slash path in
    let it = found absolute (kept_segments path) name (kept_of path) e in
    let there = if absolute then [] else place in
    let file = led_name absolute place it.before (with_ending it.last) name (name_tells path name it) (ended_word (with_ending it.last) (ended it.last)) in
    let whole : led place path ≡ it.last ∷ stand there it.before =
    led_kept place path ∙ ap (stand there) it.is ∙ led_word (stand there it.before) it.last it.word in
    file ∙ ap as_prolog (sym whole) ∙ ap as_prolog (led_joined place user spec)

pub from_the_root : (absolute : Bool) (place : List (List ℕ)) → place ≡ [] → (if absolute then [] else place) ≡ []
from_the_root true place e = refl
from_the_root false place e = e

pub stands_there : (user spec : List ℕ) → led (led [] (folder user)) spec ≡ stand [] (kept_segments (whole_path user spec))
stands_there user spec =
    let path = whole_path user spec in
    sym (led_joined [] user spec) ∙ led_kept [] path ∙ ap (λ place. stand place (kept_segments path)) (from_the_root (begins_with_slash path) [] refl)

pub none_named : (user spec : List ℕ) → (resolved user spec ≡ None) ↔ (led (led [] (folder user)) spec ≡ [])
none_named user spec =
    let path = whole_path user spec in (
      λ e. stands_there user spec ∙ not_found (begins_with_slash path) (kept_segments path) (kept_of path) e,
      λ e. nowhere (begins_with_slash path) (kept_segments path) (kept_of path) (sym (stands_there user spec) ∙ e),
    )

-- the folder of a name

last_of : (pieces : List (List ℕ)) → 0 < length pieces → (last : List ℕ) × (pieces ≡ all_but_last pieces ++ last ∷ [])
last_of [] some = absurd (omega arith)
last_of (piece ∷ []) some = (piece, refl)
last_of (piece ∷ next ∷ more) some = let later = last_of (next ∷ more) (omega arith) in (later.0, ap (λ xs. piece ∷ xs) later.1)

slash_last : (piece : List ℕ) (more : List (List ℕ)) → (front : List ℕ) × (with_slashes (piece ∷ more) ≡ front ++ codes "/")
slash_last piece [] = (piece, append-nil (piece ++ codes "/"))
slash_last piece (next ∷ more) =
    let later = slash_last next more in
    ((piece ++ codes "/") ++ later.0, ap (λ x. (piece ++ codes "/") ++ x) later.1 ∙ sym (append_assoc (piece ++ codes "/") later.0 (codes "/")))

ends_so : (pieces : List (List ℕ)) → (with_slashes pieces ≡ []) ⊎ (ends_with nat_eq (with_slashes pieces) (codes "/") ≡ true)
ends_so [] = inl refl
ends_so (piece ∷ more) =
    let cut = slash_last piece more in
    inr (ap (pointwise nat_eq (codes "/")) (end_rest (with_slashes (piece ∷ more)) (codes "/") cut.0 cut.1))

no_slash_at : (b : ℕ) → is_slash b ≡ false → b ≢ slash
no_slash_at b e is = false≢true (sym e ∙ ap is_slash is)

slashless_bytes : (bytes : List ℕ) → HasNoSlash bytes → AllByRecursion (λ b. b ≢ slash) bytes
slashless_bytes [] none = tt
slashless_bytes (b ∷ bytes) none = (no_slash_at b none.0, slashless_bytes bytes none.1)

behind_all : {A : Type 0} (P : A → Type 0) (xs : List A) (x : A) → AllByRecursion P (xs ++ x ∷ []) → P x
behind_all P [] x all = all.0
behind_all P (y ∷ xs) x all = behind_all P xs x all.1

pub folders_cut : (name : List ℕ) → IsFolder name (folder name)
folders_cut name =
    let cut = last_of (segments name) (omega (arith, length-slice_split is_slash name)) in
    record {
      last = cut.0;
      is = sym (join_with_byte-slice_split slash name) ∙ ap (join_with_byte slash) cut.1 ∙ joined (all_but_last (segments name)) cut.0;
      slashless =
          All-from_recursion (λ b. b ≢ slash) cut.0
          (slashless_bytes cut.0 (behind_all HasNoSlash (all_but_last (segments name)) cut.0 (subst (AllByRecursion HasNoSlash) cut.1 (no_slash name))));
      ends = ends_so (all_but_last (segments name));
    }
