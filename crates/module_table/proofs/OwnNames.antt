-- Names of files mean themselves, and each leads to a place of its own.
use Rattle.std.proofs.Common.{◌≡◌, ℕ, suc, ◌+◌, Bool, true, false, List, [], ◌∷◌, ◌++◌, Some, nat_eq, codes, fold, reverse, drop, length, replicate, arith, length-drop, length-append, refl, sym, ap, ◌∙◌, append_assoc, if◌then◌else◌}
use Rattle.std.specs.List.{ends_with, join_with_byte, AllByRecursion}
use Rattle.std.proofs.lemmas.List.{append-nil, length-replicate, reverse-append, reverse-reverse}
use Rattle.std.proofs.lemmas.List.Sums.{fold-append}
use Rattle.std.proofs.lemmas.List.Elements.{recursion_from_All}
use Rattle.std.proofs.lemmas.List.Splits.{join_with_byte-slice_split}
use Rattle.std.proofs.Math.Seq.{drop-nil}
use Rattle.module_table.specs.FileName.{slash, begins_with_slash, segments, with_slashes, folder, gone_up, kept_with, kept_segments, name_of, resolved}
use Rattle.module_table.specs.Paths.{led_on, led, IsPlain, IsFileName}
use Rattle.module_table.proofs.Segments.{front_of, onto, is_up, IsWord, words_of, ended_word, root, root_segments, root_joined}
use Rattle.module_table.proofs.KeptSegments.{Ups, led_word, led_up, name_of_word}
use Rattle.module_table.proofs.PathNames.{root_stays}

-- all segments of a name are kept

pub keep_word : (absolute : Bool) (kept : List (List ℕ)) (segment : List ℕ) → IsWord segment → kept_with absolute kept segment ≡ segment ∷ kept
keep_word absolute kept segment word =
    ap (λ t. if t then kept else if is_up segment then gone_up absolute kept else segment ∷ kept) word.says
    ∙ ap (λ t. if t then gone_up absolute kept else segment ∷ kept) word.up

pub keep_words : (absolute : Bool) (kept folders : List (List ℕ)) → AllByRecursion IsWord folders → fold (kept_with absolute) kept folders ≡ reverse folders ++ kept
keep_words absolute kept [] words = refl
keep_words absolute kept (next ∷ folders) words =
    ap (λ k. fold (kept_with absolute) k folders) (keep_word absolute kept next words.0)
    ∙ keep_words absolute (next ∷ kept) folders words.1
    ∙ onto kept next folders

pub go_up : (kept : List (List ℕ)) → Ups kept → gone_up false kept ≡ codes ".." ∷ kept
go_up [] ups = refl
go_up (last ∷ before) ups = ap (λ t. if t then codes ".." ∷ last ∷ before else before) (ap is_up ups.0)

pub keep_ups : (kept ups : List (List ℕ)) → Ups kept → Ups ups → fold (kept_with false) kept ups ≡ reverse ups ++ kept
keep_ups kept [] held all = refl
keep_ups kept (segment ∷ more) held all =
    ap (λ k. fold (kept_with false) k more) (ap (kept_with false kept) all.0 ∙ go_up kept held ∙ ap (λ s. s ∷ kept) (sym all.0))
    ∙ keep_ups (segment ∷ kept) more (all.0, held) all.1
    ∙ onto kept segment more

-- the segments of a name are all kept
pub record AreTold (absolute : Bool) (ups folders : List (List ℕ)) (file : List ℕ) : Type 0 where
  pub up : Ups ups
  pub rooted : absolute ≡ true → ups ≡ []
  pub words : AllByRecursion IsWord folders
  pub ending : ends_with nat_eq file (codes ".pl") ≡ true

pub keep_front : (absolute : Bool) (ups folders : List (List ℕ)) (file : List ℕ) → AreTold absolute ups folders file
    → fold (kept_with absolute) [] ups ≡ reverse ups
keep_front true ups folders file told = ap (fold (kept_with true) []) (told.rooted refl) ∙ ap reverse (sym (told.rooted refl))
keep_front false ups folders file told = keep_ups [] ups tt told.up ∙ append-nil (reverse ups)

pub root_kept : (absolute : Bool) (more : List (List ℕ)) → fold (kept_with absolute) [] (root_segments absolute ++ more) ≡ fold (kept_with absolute) [] more
root_kept true more = refl
root_kept false more = refl

pub keep_told : (absolute : Bool) (ups folders : List (List ℕ)) (file : List ℕ) → AreTold absolute ups folders file
    → fold (kept_with absolute) [] ((root_segments absolute ++ (ups ++ folders)) ++ file ∷ []) ≡ file ∷ reverse (ups ++ folders)
keep_told absolute ups folders file told =
    ap (fold (kept_with absolute) []) (append_assoc (root_segments absolute) (ups ++ folders) (file ∷ []))
    ∙ root_kept absolute ((ups ++ folders) ++ file ∷ [])
    ∙ fold-append (kept_with absolute) [] (ups ++ folders) (file ∷ [])
    ∙ ap (λ kept. kept_with absolute kept file)
    (fold-append (kept_with absolute) [] ups folders
    ∙ ap (λ kept. fold (kept_with absolute) kept folders) (keep_front absolute ups folders file told)
    ∙ keep_words absolute (reverse ups) folders told.words
    ∙ sym (reverse-append ups folders))
    ∙ keep_word absolute (reverse (ups ++ folders)) file (ended_word file told.ending)

-- a name means itself

pub name_itself : (name : List ℕ) → IsFileName name → name_of (begins_with_slash name) (kept_segments name) ≡ Some name
name_itself name tidy =
    let absolute = begins_with_slash name in
    let all = tidy.ups ++ tidy.folders in
    let told : AreTold absolute tidy.ups tidy.folders tidy.file = record {
      up = recursion_from_All (λ segment. segment ≡ codes "..") tidy.ups tidy.up;
      rooted = tidy.rooted;
      words = words_of tidy.folders (front_of IsPlain tidy.folders (tidy.file ∷ []) (recursion_from_All IsPlain (tidy.folders ++ tidy.file ∷ []) tidy.plain));
      ending = tidy.ending;
    } in
    ap (name_of absolute) (ap (fold (kept_with absolute) []) tidy.is ∙ keep_told absolute tidy.ups tidy.folders tidy.file told)
    ∙ name_of_word absolute tidy.file (reverse all) (ended_word tidy.file tidy.ending)
    ∙ ap Some
    ((λ i. (root absolute ++ with_slashes (reverse-reverse all i)) ++ (if tidy.ending i then tidy.file else tidy.file ++ codes ".pl"))
    ∙ root_joined absolute all tidy.file
    ∙ ap (join_with_byte slash) (sym tidy.is)
    ∙ join_with_byte-slice_split slash name)

pub kept_alone : (name : List ℕ) → IsFileName name → resolved [] name ≡ Some name
kept_alone name tidy = ap (λ path. name_of (begins_with_slash path) (kept_segments path)) (by_test (begins_with_slash name)) ∙ name_itself name tidy
  where
    by_test : (test : Bool) → (if test then name else name) ≡ name
    by_test true = refl
    by_test false = refl

pub kept_rooted : (user name : List ℕ) → IsFileName name → begins_with_slash name ≡ true → resolved user name ≡ Some name
kept_rooted user name tidy e =
    ap (λ path. name_of (begins_with_slash path) (kept_segments path)) (ap (λ t. if t then name else folder user ++ name) e) ∙ name_itself name tidy

-- where a name leads

pub up_so_far : (place ups : List (List ℕ)) → Ups ups → fold led_on place ups ≡ drop (length ups) place
up_so_far place [] all = refl
up_so_far place (segment ∷ more) all = ap (λ there. fold led_on there more) (led_up place segment all.0) ∙ up_so_far (drop 1 place) more all.1 ∙ later (length more) place
  where
    later : (n : ℕ) (xs : List (List ℕ)) → drop n (drop 1 xs) ≡ drop (suc n) xs
    later n [] = drop-nil n
    later n (x ∷ xs) = refl

pub lead_words : (place folders : List (List ℕ)) → AllByRecursion IsWord folders → fold led_on place folders ≡ reverse folders ++ place
lead_words place [] words = refl
lead_words place (next ∷ folders) words =
    ap (λ there. fold led_on there folders) (led_word place next words.0) ∙ lead_words (next ∷ place) folders words.1 ∙ onto place next folders

pub told_leads : (name : List ℕ) (it : IsFileName name) (place : List (List ℕ))
    → led place name ≡ it.file ∷ (reverse it.folders ++ drop (length it.ups) (if begins_with_slash name then [] else place))
told_leads name it place =
    let absolute = begins_with_slash name in
    let there = if absolute then [] else place in
    let words = words_of it.folders (front_of IsPlain it.folders (it.file ∷ []) (recursion_from_All IsPlain (it.folders ++ it.file ∷ []) it.plain)) in
    ap (fold led_on there) (it.is ∙ append_assoc (root_segments absolute) (it.ups ++ it.folders) (it.file ∷ []))
    ∙ root_stays absolute there ((it.ups ++ it.folders) ++ it.file ∷ [])
    ∙ fold-append led_on there (it.ups ++ it.folders) (it.file ∷ [])
    ∙ ap (λ from. led_on from it.file)
    (fold-append led_on there it.ups it.folders
    ∙ ap (λ from. fold led_on from it.folders) (up_so_far there it.ups (recursion_from_All (λ segment. segment ≡ codes "..") it.ups it.up))
    ∙ lead_words (drop (length it.ups) there) it.folders words)
    ∙ led_word (reverse it.folders ++ drop (length it.ups) there) it.file (ended_word it.file it.ending)

-- one name leads there

pub none_there : (absolute : Bool) (n : ℕ) (place : List (List ℕ)) → place ≡ [] → drop n (if absolute then [] else place) ≡ []
none_there true n place e = drop-nil n
none_there false n place e = ap (drop n) e ∙ drop-nil n

pub same_levels : (b c : Bool) (n m : ℕ) (place : List (List ℕ)) → length place ≡ n + m + 1 → (b ≡ true → n ≡ 0) → (c ≡ true → m ≡ 0)
    → length (drop n (if b then [] else place)) ≡ length (drop m (if c then [] else place)) → (b ≡ c) × (n ≡ m)
same_levels true true n m place long first second e = (refl, first refl ∙ sym (second refl))
same_levels true false n m place long first second e = let none : List (List ℕ) = [] in absurd (let no : ⊥ = omega (arith, length-drop n none, length-drop m place) in no)
same_levels false true n m place long first second e = let none : List (List ℕ) = [] in absurd (let no : ⊥ = omega (arith, length-drop n place, length-drop m none) in no)
same_levels false false n m place long first second e = (refl, omega (arith, length-drop n place, length-drop m place))

pub same_ups : (ups others : List (List ℕ)) → Ups ups → Ups others → length ups ≡ length others → ups ≡ others
same_ups [] [] all also e = refl
same_ups [] (y ∷ ys) all also e = absurd (omega arith)
same_ups (x ∷ xs) [] all also e = absurd (omega arith)
same_ups (x ∷ xs) (y ∷ ys) all also e = λ i. (all.0 ∙ sym also.0) i ∷ same_ups xs ys all.1 also.1 (omega arith) i

pub one_name : (name other : List ℕ) → IsFileName name → IsFileName other → ((place : List (List ℕ)) → led place name ≡ led place other) → name ≡ other
one_name name other it also same =
    let b = begins_with_slash name in
    let c = begins_with_slash other in
    let n = length it.ups in
    let m = length also.ups in
    let place : List (List ℕ) = replicate (n + m + 1) [] in
    let at : (there : List (List ℕ)) → it.file ∷ (reverse it.folders ++ drop n (if b then [] else there)) ≡ also.file ∷ (reverse also.folders ++ drop m (if c then [] else there)) =
    λ there. sym (told_leads name it there) ∙ same there ∙ told_leads other also there in
    let root_here : it.file ∷ reverse it.folders ≡ also.file ∷ reverse also.folders =
    ap (λ x. it.file ∷ x) (sym (append-nil (reverse it.folders)) ∙ ap (λ x. reverse it.folders ++ x) (sym (none_there b n [] refl)))
    ∙ at []
    ∙ ap (λ x. also.file ∷ x) (ap (λ x. reverse also.folders ++ x) (none_there c m [] refl) ∙ append-nil (reverse also.folders)) in
    let file : it.file ≡ also.file = cc in
    let same_turned : reverse it.folders ≡ reverse also.folders = cc in
    let folders : it.folders ≡ also.folders = sym (reverse-reverse it.folders) ∙ ap reverse same_turned ∙ reverse-reverse also.folders in
    let long : length place ≡ n + m + 1 = length-replicate (n + m + 1) [] in
    let lengths : length (drop n (if b then [] else place)) ≡ length (drop m (if c then [] else place)) =
    omega (arith, ap length (at place), ap length same_turned, length-append (reverse it.folders) (drop n (if b then [] else place)), length-append (reverse also.folders) (drop m (if c then [] else place))) in
    let levels = same_levels b c n m place long (λ e. ap length (it.rooted e)) (λ e. ap length (also.rooted e)) lengths in
    let ups = same_ups it.ups also.ups (recursion_from_All (λ segment. segment ≡ codes "..") it.ups it.up) (recursion_from_All (λ segment. segment ≡ codes "..") also.ups also.up) levels.1 in
    let same_segments : segments name ≡ segments other = it.is ∙ (λ i. (root_segments (levels.0 i) ++ (ups i ++ folders i)) ++ file i ∷ []) ∙ sym also.is in
    sym (join_with_byte-slice_split slash name) ∙ ap (join_with_byte slash) same_segments ∙ join_with_byte-slice_split slash other
