-- Segments of paths: what they say, and the texts that they make.
use Rattle.std.proofs.Common.{◌≡◌, ◌≢◌, inl, inr, ℕ, ◌==◌, Bool, true, false, ◌||◌, ◌&&◌, List, [], ◌∷◌, ◌++◌, nat_eq, codes, reverse, refl, sym, ap, subst, ◌∙◌, append_assoc, eqb-true, if◌then◌else◌}
use Rattle.std.specs.Str.{bytes_eq}
use Rattle.std.specs.Cmp.Lexicographic.{pointwise}
use Rattle.std.specs.List.{onto_first, ends_with, join_with_byte, AllByRecursion}
use Rattle.std.proofs.lemmas.Bool.{cases_Bool, false≢true}
use Rattle.std.proofs.lemmas.List.{append-nil, reverse-append}
use Rattle.std.proofs.lemmas.List.Elements.{All-from_recursion}
use Rattle.std.proofs.lemmas.List.Prefix.{end_rest}
use Rattle.std.proofs.lemmas.List.Splits.{slice_split_none, slice_split_at}
use Rattle.std.proofs.lemmas.Slice.Eq.{bytes_eq-Decides}
use Rattle.module_table.specs.FileName.{slash, begins_with_slash, segments, all_but_last, with_slashes, folder, with_ending}
use Rattle.module_table.specs.Paths.{IsPlain}

-- lists by recursion

pub join : {A : Type 0} (P : A → Type 0) (xs ys : List A) → AllByRecursion P xs → AllByRecursion P ys → AllByRecursion P (xs ++ ys)
join P [] ys all also = also
join P (x ∷ xs) ys all also = (all.0, join P xs ys all.1 also)

pub front_of : {A : Type 0} (P : A → Type 0) (xs ys : List A) → AllByRecursion P (xs ++ ys) → AllByRecursion P xs
front_of P [] ys all = tt
front_of P (x ∷ xs) ys all = (all.0, front_of P xs ys all.1)

pub reverse-more : {A : Type 0} (x : A) (xs : List A) → reverse (x ∷ xs) ≡ reverse xs ++ x ∷ []
reverse-more x xs = reverse-append (x ∷ []) xs

pub turned : {A : Type 0} (P : A → Type 0) (xs : List A) → AllByRecursion P xs → AllByRecursion P (reverse xs)
turned P [] all = tt
turned P (x ∷ xs) all = subst (AllByRecursion P) (sym (reverse-more x xs)) (join P (reverse xs) (x ∷ []) (turned P xs all.1) (all.0, tt))

pub onto : {A : Type 0} (kept : List A) (x : A) (xs : List A) → reverse xs ++ x ∷ kept ≡ reverse (x ∷ xs) ++ kept
onto kept x xs = sym (append_assoc (reverse xs) (x ∷ []) kept) ∙ ap (λ ys. ys ++ kept) (sym (reverse-more x xs))

-- segments

abbrev pub is_slash : ℕ → Bool
is_slash b = b == slash

abbrev pub HasNoSlash : List ℕ → Type 0
HasNoSlash segment = AllByRecursion (λ b. is_slash b ≡ false) segment

pub first_longer : (b : ℕ) (parts : List (List ℕ)) → is_slash b ≡ false → AllByRecursion HasNoSlash parts → AllByRecursion HasNoSlash (onto_first b parts)
first_longer b [] e all = ((e, tt), tt)
first_longer b (part ∷ parts) e all = ((e, all.0), all.1)

pub split_more : (b : ℕ) (test : Bool) (parts : List (List ℕ)) → is_slash b ≡ test → AllByRecursion HasNoSlash parts
    → AllByRecursion HasNoSlash (if test then [] ∷ parts else onto_first b parts)
split_more b true parts e all = (tt, all)
split_more b false parts e all = first_longer b parts e all

pub no_slash : (path : List ℕ) → AllByRecursion HasNoSlash (segments path)
no_slash [] = (tt, tt)
no_slash (b ∷ path) = split_more b (is_slash b) (segments path) refl (no_slash path)

pub but_last : (P : List ℕ → Type 0) (pieces : List (List ℕ)) → AllByRecursion P pieces → AllByRecursion P (all_but_last pieces)
but_last P [] all = tt
but_last P (part ∷ []) all = tt
but_last P (part ∷ next ∷ more) all = (all.0, but_last P (next ∷ more) all.1)

pub one_segment : (last : List ℕ) → HasNoSlash last → segments last ≡ last ∷ []
one_segment last none = slice_split_none is_slash last (All-from_recursion (λ b. is_slash b ≡ false) last none)

pub more_segments : (part text : List ℕ) → HasNoSlash part → segments ((part ++ codes "/") ++ text) ≡ part ∷ segments text
more_segments part text none =
    ap segments (append_assoc part (codes "/") text) ∙ slice_split_at is_slash part slash text (All-from_recursion (λ b. is_slash b ≡ false) part none) refl

-- the segments of a text that is made of some
pub segments_of : (parts : List (List ℕ)) (last : List ℕ) → AllByRecursion HasNoSlash parts → HasNoSlash last → segments (with_slashes parts ++ last) ≡ parts ++ last ∷ []
segments_of [] last none none_last = one_segment last none_last
segments_of (part ∷ parts) last none none_last =
    ap segments (append_assoc (part ++ codes "/") (with_slashes parts) last)
    ∙ more_segments part (with_slashes parts ++ last) none.0
    ∙ ap (λ xs. part ∷ xs) (segments_of parts last none.1 none_last)

pub parts_and_more : (pieces : List (List ℕ)) (text : List ℕ) → AllByRecursion HasNoSlash pieces → segments (with_slashes pieces ++ text) ≡ pieces ++ segments text
parts_and_more [] text none = refl
parts_and_more (part ∷ more) text none =
    ap segments (append_assoc (part ++ codes "/") (with_slashes more) text)
    ∙ more_segments part (with_slashes more ++ text) none.0
    ∙ ap (λ xs. part ∷ xs) (parts_and_more more text none.1)

-- and the text of some segments
pub joined : (parts : List (List ℕ)) (last : List ℕ) → join_with_byte slash (parts ++ last ∷ []) ≡ with_slashes parts ++ last
joined [] last = refl
joined (part ∷ []) last = sym (append_assoc part (codes "/") last) ∙ ap (λ x. x ++ last) (sym (append-nil (part ++ codes "/")))
joined (part ∷ next ∷ parts) last =
    ap (λ x. part ++ slash ∷ x) (joined (next ∷ parts) last)
    ∙ sym (append_assoc part (codes "/") (with_slashes (next ∷ parts) ++ last))
    ∙ sym (append_assoc (part ++ codes "/") (with_slashes (next ∷ parts)) last)

-- what a segment says

abbrev pub says_nothing : List ℕ → Bool
says_nothing segment = bytes_eq segment [] || bytes_eq segment (codes ".")

abbrev pub is_up : List ℕ → Bool
is_up segment = bytes_eq segment (codes "..")

pub record IsWord (segment : List ℕ) : Type 0 where
  pub says : says_nothing segment ≡ false
  pub up : is_up segment ≡ false

pub apart : (segment word : List ℕ) → segment ≢ word → bytes_eq segment word ≡ false
apart segment word differ = elim (cases_Bool (bytes_eq segment word)) [ inl e ↦ absurd (differ ((bytes_eq-Decides segment word).0 e)) | inr e ↦ e ]

pub word_of : (segment : List ℕ) → segment ≢ [] → segment ≢ codes "." → segment ≢ codes ".." → IsWord segment
word_of segment some here up = record {
  says = ap (λ t. t || bytes_eq segment (codes ".")) (apart segment [] some) ∙ apart segment (codes ".") here;
  up = apart segment (codes "..") up;
}

pub words_of : (folders : List (List ℕ)) → AllByRecursion IsPlain folders → AllByRecursion IsWord folders
words_of [] all = tt
words_of (next ∷ folders) all = (word_of next all.0.some all.0.not_here all.0.not_up, words_of folders all.1)

pub plain : (segment : List ℕ) → IsWord segment → IsPlain segment
plain segment word = record {
  some = λ e. false≢true (sym word.says ∙ ap says_nothing e);
  not_here = λ e. false≢true (sym word.says ∙ ap says_nothing e);
  not_up = λ e. false≢true (sym word.up ∙ ap is_up e);
}

pub plain_all : (pieces : List (List ℕ)) → AllByRecursion IsWord pieces → AllByRecursion IsPlain pieces
plain_all [] all = tt
plain_all (segment ∷ more) all = (plain segment all.0, plain_all more all.1)

-- the ending

pub ended : (file : List ℕ) → ends_with nat_eq (with_ending file) (codes ".pl") ≡ true
ended file = by_test (ends_with nat_eq file (codes ".pl")) refl
  where
    by_test : (test : Bool) → ends_with nat_eq file (codes ".pl") ≡ test → ends_with nat_eq (if test then file else file ++ codes ".pl") (codes ".pl") ≡ true
    by_test true e = e
    by_test false e = ap (pointwise nat_eq (codes ".pl")) (end_rest (file ++ codes ".pl") (codes ".pl") file refl)

pub ended_word : (file : List ℕ) → ends_with nat_eq file (codes ".pl") ≡ true → IsWord file
ended_word file ends = word_of file (other [] refl) (other (codes ".") refl) (other (codes "..") refl)
  where
    other : (word : List ℕ) → ends_with nat_eq word (codes ".pl") ≡ false → file ≢ word
    other word not e = false≢true (sym not ∙ ap (λ x. ends_with nat_eq x (codes ".pl")) (sym e) ∙ ends)

pub ending_slashless : (file : List ℕ) → HasNoSlash file → HasNoSlash (with_ending file)
ending_slashless file none = by_test (ends_with nat_eq file (codes ".pl"))
  where
    by_test : (test : Bool) → HasNoSlash (if test then file else file ++ codes ".pl")
    by_test true = none
    by_test false = join (λ b. is_slash b ≡ false) file (codes ".pl") none (refl, (refl, (refl, tt)))

-- segments that say something and hold no slash: the first one of a text isn't the slash of a root

pub record IsPart (segment : List ℕ) : Type 0 where
  pub some : says_nothing segment ≡ false
  pub slashless : HasNoSlash segment

pub part_of_word : (segment : List ℕ) → IsWord segment → HasNoSlash segment → IsPart segment
part_of_word segment word none = record { some = word.says; slashless = none }

pub slashless_of : (folders : List (List ℕ)) → AllByRecursion IsPart folders → AllByRecursion HasNoSlash folders
slashless_of [] all = tt
slashless_of (folder ∷ folders) all = (all.0.slashless, slashless_of folders all.1)

pub part_first : (segment text : List ℕ) → IsPart segment → begins_with_slash (segment ++ text) ≡ false
part_first [] text part = absurd (false≢true (sym part.some))
part_first (b ∷ bs) text part = other (nat_eq slash b) refl
  where
    other : (test : Bool) → nat_eq slash b ≡ test → (test && true) ≡ false
    other true e = absurd (false≢true (sym part.slashless.0 ∙ ap is_slash (sym (eqb-true slash b e))))
    other false e = refl

pub relative_name : (pieces : List (List ℕ)) (last : List ℕ) → AllByRecursion IsPart pieces → IsPart last → begins_with_slash (with_slashes pieces ++ last) ≡ false
relative_name [] last all part = ap begins_with_slash (sym (append-nil last)) ∙ part_first last [] part
relative_name (segment ∷ more) last all part =
    ap begins_with_slash (append_assoc (segment ++ codes "/") (with_slashes more) last ∙ append_assoc segment (codes "/") (with_slashes more ++ last))
    ∙ part_first segment (codes "/" ++ (with_slashes more ++ last)) all.0

abbrev pub root : Bool → List ℕ
root absolute = if absolute then codes "/" else []

abbrev pub root_segments : Bool → List (List ℕ)
root_segments absolute = if absolute then [] ∷ [] else []

pub root_joined : (absolute : Bool) (folders : List (List ℕ)) (file : List ℕ)
    → (root absolute ++ with_slashes folders) ++ file ≡ join_with_byte slash ((root_segments absolute ++ folders) ++ file ∷ [])
root_joined true folders file = sym (joined ([] ∷ folders) file)
root_joined false folders file = sym (joined folders file)

pub record Tells (absolute : Bool) (folders : List (List ℕ)) (file : List ℕ) (name : List ℕ) : Type 0 where
  pub begins : begins_with_slash name ≡ absolute
  pub are : segments name ≡ (root_segments absolute ++ folders) ++ file ∷ []

pub tells : (absolute : Bool) (folders : List (List ℕ)) (file : List ℕ) → AllByRecursion IsPart folders → IsPart file
    → Tells absolute folders file ((root absolute ++ with_slashes folders) ++ file)
tells true folders file all part = record {
  begins = refl;
  are = ap (λ xs. [] ∷ xs) (segments_of folders file (slashless_of folders all) part.slashless);
}
tells false folders file all part = record {
  begins = relative_name folders file all part;
  are = segments_of folders file (slashless_of folders all) part.slashless;
}
