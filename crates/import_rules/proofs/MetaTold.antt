-- What a program keeps of declarations of goal arguments.
use Rattle.std.proofs.Common.{◌≡◌, ◌==◌, Bool, true, false, ◌≢◌, ◌<◌, ◌-◌, ℕ, List, [], Option, Some, None, length, map, get_or, option_map, refl, sym, ap, ◌∙◌, subst, arith}
use Rattle.std.specs.Prelude.{slice_get, slice_index_or}
use Rattle.std.proofs.lemmas.Bool.{eq-eqb, eqb-true}
use Rattle.std.proofs.lemmas.List.{length-map, get_or_past}
use Rattle.std.proofs.lemmas.Option.{slice_get-get_or, slice_get_within, slice_get-map, slice_get_read, same_Some}
use Rattle.file_library.specs.SortedOut.{see_loaded}
use Rattle.import_rules.specs.declared.program_tables.ProgramTables.{ProgramTables}
use Rattle.import_rules.specs.Names.{pred_name}
use Rattle.import_rules.specs.Parts.{names_at}
use Rattle.import_rules.specs.Program.{see_program, args_at, meta_in, meta_of_found}
use Rattle.import_rules.proofs.MetaThere.{IsMetaAt, none_kept, one_kept}

pub seen_at : {X Y : Type 0} (f : X → Y) (xs : List X) (i : ℕ) (x : X) (y : Y) → x ≡ get_or xs i x → slice_get (map f xs) i ≡ Some y → f x ≡ y
seen_at f xs i x y is there =
    let within : i < length xs = omega (arith, slice_get_within (map f xs) i y there, length-map xs f) in
    same_Some (f x) y (sym (slice_get-map f xs i ∙ ap (option_map f) (slice_get_read xs (length xs) i x refl within is)) ∙ there)

pub no_places : (n : ℕ) (xs : List (ℕ × ℕ)) (b : Bool) → b ≡ (n == 0) → b ≡ true → n ≡ length xs → length xs ≡ 0
no_places n xs b is empty count = omega (arith, eqb-true n 0 (sym is ∙ empty), count)

pub some_places : (n : ℕ) (xs : List (ℕ × ℕ)) (b : Bool) → b ≡ (n == 0) → b ≡ false → n ≡ length xs → xs ≢ []
some_places n xs b is filled count none_ =
    let zero_ : n ≡ 0 = omega (arith, count, ap length none_) in
    let both : true ≡ false = sym (eq-eqb n 0 zero_) ∙ (sym is ∙ filled) in
    cc

pub long_places : (p : ProgramTables) → p.meta_places.items ≢ [] → length p.meta_places.items ≡ length (see_program p).predicates
unfolding see_program
long_places p some = p.told.as_many some

pub told_none : (p : ProgramTables) (node : ℕ) (at : ℕ × ℕ) → node < length (see_program p).predicates → at ≡ slice_index_or p.meta_places.items node (0, 0) → at.1 ≡ 0
    → [] ≡ meta_in (see_program p) node
unfolding see_program meta_in
told_none p node at below is zero_ =
    let files = (see_loaded p.loaded).files in
    let names = names_at p.loaded.files.items p.places.items in
    let own = get_or names node (pred_name [] [] 0) in
    let named = slice_get-get_or names node (pred_name [] [] 0) below in
    none_kept files own at (is ∙ p.told.each node own named) zero_ ∙ ap (args_at files) (sym named)

pub told_one : (p : ProgramTables) (node : ℕ) (at : ℕ × ℕ) → node < length (see_program p).predicates → at ≡ slice_index_or p.meta_places.items node (0, 0) → at.1 ≢ 0
    → IsMetaAt (see_loaded p.loaded).files (at.0, at.1 - 1) (meta_in (see_program p) node)
unfolding see_program meta_in
told_one p node at below is some =
    let files = (see_loaded p.loaded).files in
    let names = names_at p.loaded.files.items p.places.items in
    let own = get_or names node (pred_name [] [] 0) in
    let named = slice_get-get_or names node (pred_name [] [] 0) below in
    subst (IsMetaAt files (at.0, at.1 - 1)) (ap (args_at files) (sym named)) (one_kept files own at (is ∙ p.told.each node own named) some)

-- nothing is declared at all
pub meant_none : (p : ProgramTables) → length p.meta_places.items ≡ 0 → (o : Option ℕ) → ((n : ℕ) → o ≡ Some n → n < length (see_program p).predicates) → [] ≡ meta_of_found (see_program p) o
meant_none p short None below = refl
meant_none p short (Some n) below =
    told_none p n (0, 0) (below n refl) (sym (get_or_past p.meta_places.items n (0, 0) (omega (arith, short)))) refl
