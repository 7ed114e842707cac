-- Files by name, and whether they are the first of their modules.
use Rattle.std.proofs.Common.{◌≡◌, ℕ, ◌+◌, ◌<◌, Bool, true, false, ◌&&◌, ◌||◌, not, List, [], ◌∷◌, Some, None, All, Contains, filter, cond, take, drop, get_or, length, refl, sym, ap, ◌∙◌, subst, inl, inr, arith}
use Rattle.std.specs.List.{list_any, list_all}
use Rattle.std.specs.Str.{bytes_eq}
use Rattle.std.specs.Ordering.{nat_cmp, is_eq, is_lt, ordering_reverse}
use Rattle.std.specs.Cmp.Lexicographic.{slice_cmp, texts_ties}
use Rattle.std.specs.declared.cmp.Ordering.{Ordering}
use Rattle.std.specs.declared.cmp.Ordering.TheVariants.{Less, Equal, Greater}
use Rattle.std.proofs.lemmas.Bool.{cases_eq}
use Rattle.std.proofs.lemmas.Cmp.{nat_list_cmp_total}
use Rattle.std.proofs.lemmas.List.{take-append-drop, get_or-take, get_or-drop, get_or_default, length-take, length-drop}
use Rattle.std.proofs.lemmas.List.Folds.{list_all-append}
use Rattle.std.proofs.lemmas.Slice.Eq.{bytes_eq-Decides}
use Rattle.list_laws.proofs.OneOrder.{nothing_in, first_or_rest, in_rest, in_first, before_rest, rest_in_order, less_strict}
use Rattle.module_table.specs.Facts.{Facts}
use Rattle.module_table.specs.Kinds.{first_of}
use Rattle.import_rules.specs.Files.{file_named, is_before, is_first}
use Rattle.import_rules.specs.KnownFiles.{AreRising, declares}
use Rattle.import_rules.proofs.Lists.{filter_none}

abbrev before : Facts → Facts → Type 0
before f g = slice_cmp nat_cmp f.file g.file ≡ Less

pub name_itself : (a : List ℕ) → bytes_eq a a ≡ true
name_itself a = (bytes_eq-Decides a a).1 refl

-- the name of the later one isn't that of the earlier one
differ : (f g : Facts) → before f g → bytes_eq g.file f.file ≡ false
differ f g less = texts_ties g.file f.file ∙ ap is_eq (nat_list_cmp_total.antisymm g.file f.file ∙ ap ordering_reverse less)

-- a file that is there is the one of its name
pub named_there : (files : List Facts) (file : Facts) → AreRising files → Contains files file → file_named files file.file ≡ Some file
named_there [] file up has = absurd (nothing_in file has)
named_there (first ∷ files) file up has =
    elim (first_or_rest first file files has) [
      | inl is ↦
          ap (λ b. first_of (cond b (first ∷ filter (λ (f : Facts). bytes_eq file.file f.file) files) (filter (λ (f : Facts). bytes_eq file.file f.file) files)))
          (subst (λ (f : Facts). bytes_eq file.file f.file ≡ true) (sym is) (name_itself file.file)) ∙ ap (λ f. Some f) is
      | inr later ↦
          ap (λ b. first_of (cond b (first ∷ filter (λ (f : Facts). bytes_eq file.file f.file) files) (filter (λ (f : Facts). bytes_eq file.file f.file) files)))
          (differ first file (before_rest before first file files up later))
          ∙ named_there files file (rest_in_order before first files up) later
    ]

-- no file has the name
pub none_named : (files : List Facts) (name : List ℕ) → All (λ (f : Facts). bytes_eq name f.file ≡ false) files → file_named files name ≡ None
none_named files name none = ap first_of (filter_none (λ (f : Facts). bytes_eq name f.file) files none)

-- of the files in order, only those before a file are of lesser name

one_earlier : (is_module same : Bool) (order : Ordering) (rest found : Bool) → order ≡ Less → rest ≡ not found → (not (is_module && (same && is_lt order)) && rest) ≡ not ((is_module && same) || found)
one_earlier true true order rest found less is = ap (λ r. not (is_lt r) && rest) less
one_earlier true false order rest found less is = is
one_earlier false same order rest found less is = is

one_later : (is_module same : Bool) (order : Ordering) (rest : Bool) → (order ≡ Less → ⊥) → rest ≡ true → (not (is_module && (same && is_lt order)) && rest) ≡ true
one_later true true Less rest none is = absurd (none refl)
one_later true true Equal rest none is = is
one_later true true Greater rest none is = is
one_later true false order rest none is = is
one_later false same order rest none is = is

earlier_tells : (file : Facts) (files : List Facts) → ((other : Facts) → Contains files other → before other file)
    → list_all (λ other. not (is_before file other)) files ≡ not (list_any (declares file.module_) files)
earlier_tells file [] less = refl
earlier_tells file (other ∷ files) less =
    one_earlier other.is_module (bytes_eq other.module_ file.module_) (slice_cmp nat_cmp other.file file.file) (list_all (λ f. not (is_before file f)) files)
    (list_any (declares file.module_) files) (less other (in_first other files)) (earlier_tells file files (λ f has. less f (in_rest other f files has)))

later_tells : (file : Facts) (files : List Facts) → ((other : Facts) → Contains files other → before other file → ⊥) → list_all (λ other. not (is_before file other)) files ≡ true
later_tells file [] none = refl
later_tells file (other ∷ files) none =
    one_later other.is_module (bytes_eq other.module_ file.module_) (slice_cmp nat_cmp other.file file.file) (list_all (λ f. not (is_before file f)) files)
    (none other (in_first other files)) (later_tells file files (λ f has. none f (in_rest other f files has)))

and_true : (a : Bool) → (a && true) ≡ a
and_true true = refl
and_true false = refl

pub first_told : (files : List Facts) (i : ℕ) (file : Facts) → AreRising files → i < length files → file ≡ get_or files i file
    → is_first files file ≡ not (list_any (declares file.module_) (take i files))
first_told files i file up within is =
    ap (list_all (λ other. not (is_before file other))) (sym (take-append-drop i files))
    ∙ (list_all-append (λ other. not (is_before file other)) (take i files) (drop i files)
    ∙ ((λ j. earlier_tells file (take i files) earlier j && later_tells file (drop i files) later j) ∙ and_true (not (list_any (declares file.module_) (take i files)))))
  where
    strict : (f g : Facts) → before f g → before g f → ⊥
    strict f g there back = (less_strict (slice_cmp nat_cmp) nat_list_cmp_total).one_way f.file g.file there back

    earlier : (other : Facts) → Contains (take i files) other → before other file
    earlier other has =
        let lower : has.0 < i = omega (arith, has.1, length-take i files) in
        subst (λ f. before other f) (sym is)
        (subst (λ f. before f (get_or files i file)) (sym (get_or-take i files has.0 other lower) ∙ has.2)
        (subst (λ f. before (get_or files has.0 other) f) (get_or_default files i other file within) (up has.0 i other lower within)))

    later : (other : Facts) → Contains (drop i files) other → before other file → ⊥
    later other has back = at has.0 has.1 has.2
      where
        at : (k : ℕ) → k < length (drop i files) → get_or (drop i files) k other ≡ other → ⊥
        at k below there =
            let here : get_or files (i + k) other ≡ other = sym (get_or-drop i files k other) ∙ there in
            let inside : i + k < length files = omega (arith, below, length-drop i files) in
            elim (cases_eq k 0) [
              | inl first ↦
                  let own : other ≡ file = sym here ∙ (ap (λ n. get_or files n other) (omega (arith, first)) ∙ (get_or_default files i other file within ∙ sym is)) in
                  let itself : before file file = subst (λ f. before f file) own back in
                  strict file file itself itself
              | inr next ↦
                  let higher : i < i + k = omega (arith, next) in
                  let less : before file other =
                  subst (λ f. before f other) (get_or_default files i other file within ∙ sym is)
                  (subst (λ f. before (get_or files i other) f) here (up i (i + k) other higher inside)) in
                  strict file other less back
            ]
