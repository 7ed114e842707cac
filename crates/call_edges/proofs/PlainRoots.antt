-- The predicates that plain root files define, by their places.
use Rattle.std.proofs.Common.{◌≡◌, ◌↔◌, inl, inr, ◌⊎◌, ℕ, ◌+◌, ◌<◌, ◌≤◌, Bool, true, false, List, [], ◌∷◌, ◌++◌, Some, length, get_or, take, map, ap, sym, ◌∙◌, subst, refl, arith}
use Rattle.std.specs.Prelude.{Contains, slice_get}
use Rattle.std.specs.List.{AllZip}
use Rattle.std.proofs.lemmas.Bool.{cases_lt}
use Rattle.std.proofs.lemmas.List.{take_more, take_all}
use Rattle.std.proofs.lemmas.Option.{same_Some, slice_get-get_or, slice_get_within, get_or_from_slice_get}
use Rattle.list_laws.proofs.Members.{stands_in}
use Rattle.module_table.specs.declared.file_facts.FileFacts.{FileFacts}
use Rattle.module_table.specs.Defined.{Predicate}
use Rattle.module_table.specs.Facts.{Facts, see_facts}
use Rattle.import_rules.specs.declared.names.PredName.{PredName}
use Rattle.import_rules.specs.Files.{name_in, IsDefinedAt}
use Rattle.import_rules.specs.Find.{or_found, first_source}
use Rattle.import_rules.specs.Names.{pred_name}
use Rattle.import_rules.specs.Numbers.{parts_in, places_for}
use Rattle.import_rules.specs.Program.{Seen, IsKnown, found, places_in, places_at}
use Rattle.import_rules.proofs.NumberLemmas.{number_at}
use Rattle.call_edges.specs.Goals.{Adds}
use Rattle.call_edges.specs.Calls.{IsAmong}
use Rattle.call_edges.specs.Roots.{Gives, IsGivenByRoot, IsExportedByRoot, IsPlainRoot, IsDefinedByRoot, AreMarked, HasMarked}
use Rattle.call_edges.proofs.AddsLemmas.{adds_as, adds_then, adds_nothing, adds_option}
use Rattle.call_edges.proofs.AmongLemmas.{among_as, among_map}
use Rattle.call_edges.proofs.PlaceLemmas.{place_stands, stands_place}
use Rattle.call_edges.proofs.CheckLemmas.{place_in, node_of, defined_there, place_of_node}
use Rattle.list_laws.proofs.Zips.{zip_at, zip_append, zip_count}

-- the name of a predicate means it
own_found : (seen : Seen) (n : ℕ) (p : PredName) → IsKnown seen → slice_get seen.predicates n ≡ Some p → found seen p.module p.name p.arity ≡ Some n
unfolding found
own_found seen n p known is =
    ap (λ o. or_found seen.predicates o (first_source seen.loaded.files p)) (number_at seen.predicates p n known.numbered.in_order is)

place_from_node : (seen : Seen) (n : ℕ) (p : PredName) (at : ℕ × ℕ) → slice_get seen.predicates n ≡ Some p → Contains (places_in seen n) at
    → Contains (places_for (parts_in seen.loaded.files) p) at
unfolding places_in
place_from_node seen n p at is has = subst (λ o. Contains (places_at seen.loaded.files o) at) is has

module _ (seen : Seen) (marks : List Bool) (known : IsKnown seen) (marked : AreMarked seen marks) where
  -- the mark of a file
  mark_of : (k : ℕ) (file : Facts) → slice_get seen.loaded.files k ≡ Some file → (get_or marks k false ≡ true) ↔ IsPlainRoot seen.loaded.roots file
  mark_of k file is =
      let R : Facts → Bool → Type 0 = λ f mark. (mark ≡ true) ↔ IsPlainRoot seen.loaded.roots f in
      let within = slice_get_within seen.loaded.files k file is in
      subst (λ f. R f (get_or marks k false)) (get_or_from_slice_get seen.loaded.files k file file is)
      (zip_at R seen.loaded.files marks k file false marked within)

  has_marked : (n : ℕ) (p : PredName) → slice_get seen.predicates n ≡ Some p → HasMarked marks (places_in seen n) → IsAmong (IsDefinedByRoot seen) seen.loaded.files n
  has_marked n p named has =
      let is = place_stands seen.loaded.files p has.at (place_from_node seen n p has.at named has.has) in
      let own : slice_get seen.predicates n ≡ Some (name_in is.predicate) = named ∙ ap (λ q. Some q) (sym is.is) in
      record {
        one = is.file;
        has = stands_in seen.loaded.files has.at.0 is.file is.at_place;
        is = (
          (mark_of has.at.0 is.file is.at_place).0 has.marked,
          record {
            one = is.predicate;
            has = stands_in is.file.defined has.at.1 is.predicate is.at_part;
            is = own_found seen n (name_in is.predicate) known own;
          },
        );
      }

  marked_has : (n : ℕ) → IsAmong (IsDefinedByRoot seen) seen.loaded.files n → HasMarked marks (places_in seen n)
  marked_has n among =
      let file : Facts = among.one in
      let gives = among.is.1 in
      let predicate : Predicate = gives.one in
      let here = place_in seen.loaded.files file among.has in
      let part = place_in file.defined predicate gives.has in
      let name = name_in predicate in
      let node = node_of seen name known (defined_there seen.loaded.files file here.0 part.0 predicate here.1 part.1) in
      let stands : IsDefinedAt seen.loaded.files name here.0 part.0 = record { file = file; predicate = predicate; at_place = here.1; at_part = part.1; is = refl } in
      let same : node.0 ≡ n = same_Some node.0 n (sym (own_found seen node.0 name known node.1) ∙ gives.is) in
      record {
        at = (here.0, part.0);
        has =
            subst (λ k. Contains (places_in seen k) (here.0, part.0)) same
            (place_of_node seen node.0 name (here.0, part.0) node.1 (stands_place seen.loaded.files name here.0 part.0 stands));
        marked = (mark_of here.0 file here.1).1 among.is.0;
      }

  -- a predicate is defined by a plain root file just where one of its places is in a marked file
  pub marked_is : (n : ℕ) → n < length seen.predicates → HasMarked marks (places_in seen n) ↔ IsAmong (IsDefinedByRoot seen) seen.loaded.files n
  marked_is n below =
      let p = get_or seen.predicates n (pred_name [] [] 0) in
      (has_marked n p (slice_get-get_or seen.predicates n (pred_name [] [] 0) below), marked_has n)

pub marks_count : (seen : Seen) (marks : List Bool) → AreMarked seen marks → length seen.loaded.files ≡ length marks
marks_count seen marks marked = zip_count (λ (f : Facts) mark. (mark ≡ true) ↔ IsPlainRoot seen.loaded.roots f) seen.loaded.files marks marked

-- predicates up to a number

pub adds_one : (P : ℕ → Type 0) (old new : List ℕ) (n : ℕ) → new ≡ old ++ n ∷ [] → P n → Adds (λ q. (q ≡ n) × P q) old new
adds_one P old new n is holds =
    adds_option (λ q. (q ≡ n) × P q) (Some n) old new (λ q both. ap (λ k. Some k) (sym both.0)) (λ q same. let here = same_Some n q same in (sym here, subst P here holds)) is

abbrev pub IsDefinedBelow : Seen → ℕ → ℕ → Type 0
IsDefinedBelow seen n q = (q < n) × IsAmong (IsDefinedByRoot seen) seen.loaded.files q

pub none_below : (seen : Seen) (old : List ℕ) → Adds (IsDefinedBelow seen 0) old old
none_below seen old = adds_nothing (IsDefinedBelow seen 0) old (λ q is. omega (arith, is.0))

pub below_more : (seen : Seen) (n : ℕ) (old mid new : List ℕ) → Adds (IsDefinedBelow seen n) old mid
    → Adds (λ q. (q ≡ n) × IsAmong (IsDefinedByRoot seen) seen.loaded.files q) mid new → Adds (IsDefinedBelow seen (n + 1)) old new
below_more seen n old mid new first second =
    let here : ℕ → Type 0 = λ q. (q ≡ n) × IsAmong (IsDefinedByRoot seen) seen.loaded.files q in
    adds_as (λ q. IsDefinedBelow seen n q ⊎ here q) (IsDefinedBelow seen (n + 1)) old new
    (λ q either. elim either [ inl below ↦ (omega (arith, below.0), below.1) | inr is ↦ (omega (arith, is.0), is.1) ])
    (λ q below.
    elim (cases_lt q n) [
      | inl less ↦ inl (less, below.1)
      | inr from ↦ let same : q ≡ n = omega (arith, from, below.0) in inr (same, below.1)
    ])
    (adds_then (IsDefinedBelow seen n) here old mid new first second)

pub all_below : (seen : Seen) (n : ℕ) (old new : List ℕ) → ((q : ℕ) → IsAmong (IsDefinedByRoot seen) seen.loaded.files q → q < n) → Adds (IsDefinedBelow seen n) old new
    → Adds (IsAmong (IsDefinedByRoot seen) seen.loaded.files) old new
all_below seen n old new within adds =
    adds_as (IsDefinedBelow seen n) (IsAmong (IsDefinedByRoot seen) seen.loaded.files) old new (λ q is. is.1) (λ q is. (within q is, is)) adds

-- what root files give is what module files export and others define

either_given : (seen : Seen) (file : Facts) (q : ℕ) (is_module : Bool) → file.is_module ≡ is_module → Contains seen.loaded.roots file.file → Gives seen file is_module q
    → IsExportedByRoot seen file q ⊎ IsDefinedByRoot seen file q
either_given seen file q true is root gives = inl (record { is_root = root; declared = is; gives = gives })
either_given seen file q false is root gives = inr (record { is_root = root; plain = is }, gives)

exported_given : (seen : Seen) (file : Facts) (q : ℕ) → IsExportedByRoot seen file q → IsGivenByRoot seen file q
exported_given seen file q is = record { is_root = is.is_root; gives = subst (λ b. Gives seen file b q) (sym is.declared) is.gives }

defined_given : (seen : Seen) (file : Facts) (q : ℕ) → IsDefinedByRoot seen file q → IsGivenByRoot seen file q
defined_given seen file q is = record { is_root = is.0.is_root; gives = subst (λ b. Gives seen file b q) (sym is.0.plain) is.1 }

pub given_both : (seen : Seen) (old mid new : List ℕ) → Adds (IsAmong (IsExportedByRoot seen) seen.loaded.files) old mid
    → Adds (IsAmong (IsDefinedByRoot seen) seen.loaded.files) mid new → Adds (IsAmong (IsGivenByRoot seen) seen.loaded.files) old new
given_both seen old mid new first second =
    let files = seen.loaded.files in
    adds_as (λ q. IsAmong (IsExportedByRoot seen) files q ⊎ IsAmong (IsDefinedByRoot seen) files q) (IsAmong (IsGivenByRoot seen) files) old new
    (λ q either.
    elim either [
      | inl among ↦ among_as (IsExportedByRoot seen) (IsGivenByRoot seen) files q (λ file. exported_given seen file q) among
      | inr among ↦ among_as (IsDefinedByRoot seen) (IsGivenByRoot seen) files q (λ file. defined_given seen file q) among
    ])
    (λ q among.
    elim (either_given seen among.one q among.one.is_module refl among.is.is_root among.is.gives) [
      | inl is ↦ inl (record { one = among.one; has = among.has; is = is })
      | inr is ↦ inr (record { one = among.one; has = among.has; is = is })
    ])
    (adds_then (IsAmong (IsExportedByRoot seen) files) (IsAmong (IsDefinedByRoot seen) files) old mid new first second)

-- facts as they are kept

abbrev pub IsExportedBy : Seen → FileFacts → ℕ → Type 0
IsExportedBy seen file n = IsExportedByRoot seen (see_facts file) n

pub exported_go : (seen : Seen) (files : List FileFacts) (all : List Facts) (old new : List ℕ) → map see_facts files ≡ all → Adds (IsAmong (IsExportedBy seen) files) old new
    → Adds (IsAmong (IsExportedByRoot seen) all) old new
exported_go seen files all old new are adds =
    let P : List Facts → Type 0 = λ fs. Adds (IsAmong (IsExportedByRoot seen) fs) old new in
    subst P are
    (adds_as (IsAmong (IsExportedBy seen) files) (IsAmong (IsExportedByRoot seen) (map see_facts files)) old new
    (λ q. (among_map (IsExportedByRoot seen) see_facts files q).1) (λ q. (among_map (IsExportedByRoot seen) see_facts files q).0) adds)

abbrev pub IsMark : List (List ℕ) → FileFacts → Bool → Type 0
IsMark roots file mark = (mark ≡ true) ↔ IsPlainRoot roots (see_facts file)

pub one_mark : (roots : List (List ℕ)) (files : List FileFacts) (k : ℕ) (file : FileFacts) (marks new : List Bool) (mark : Bool) → k < length files → file ≡ get_or files k file
    → new ≡ marks ++ mark ∷ [] → IsMark roots file mark → AllZip (IsMark roots) (take k files) marks → AllZip (IsMark roots) (take (k + 1) files) new
one_mark roots files k file marks new mark lt is pushed marked so_far =
    let more : take (k + 1) files ≡ take k files ++ file ∷ [] = take_more files k file lt ∙ ap (λ f. take k files ++ f ∷ []) (sym is) in
    subst (λ (fs : List FileFacts). AllZip (IsMark roots) fs new) (sym more)
    (subst (AllZip (IsMark roots) (take k files ++ file ∷ [])) (sym pushed)
    (zip_append (IsMark roots) (take k files) (file ∷ []) marks (mark ∷ []) so_far (marked, tt)))

marks_seen : (roots : List (List ℕ)) (files : List FileFacts) (marks : List Bool) → AllZip (IsMark roots) files marks
    → AllZip (λ (file : Facts) mark. (mark ≡ true) ↔ IsPlainRoot roots file) (map see_facts files) marks
marks_seen roots [] [] zip = tt
marks_seen roots [] (mark ∷ marks) zip = absurd zip
marks_seen roots (file ∷ files) [] zip = absurd zip
marks_seen roots (file ∷ files) (mark ∷ marks) zip = (zip.0, marks_seen roots files marks zip.1)

pub all_marked : (seen : Seen) (files : List FileFacts) (k : ℕ) (marks : List Bool) → map see_facts files ≡ seen.loaded.files → length files ≤ k
    → AllZip (IsMark seen.loaded.roots) (take k files) marks → AreMarked seen marks
all_marked seen files k marks are all zip =
    let whole : AllZip (IsMark seen.loaded.roots) files marks = subst (λ (fs : List FileFacts). AllZip (IsMark seen.loaded.roots) fs marks) (take_all k files all) zip in
    subst (λ (fs : List Facts). AllZip (λ (file : Facts) mark. (mark ≡ true) ↔ IsPlainRoot seen.loaded.roots file) fs marks) are (marks_seen seen.loaded.roots files marks whole)
