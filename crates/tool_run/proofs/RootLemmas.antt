-- The predicates that a list of names lists.
use Rattle.std.proofs.Common.{◌≡◌, ℕ, ◌<◌, ◌≤◌, ◌↔◌, ◌+◌, List, [], ◌∷◌, ◌++◌, Option, Some, None, Result, refl, IfOk, All, AllPairs, Contains, length, take, drop, get_or, sym, subst, ap, ◌∙◌, inl, inr, arith}
use Rattle.std.specs.List.{AllZip}
use Rattle.std.specs.declared.cmp.Ordering.TheVariants.{Less}
use Rattle.std.proofs.lemmas.List.{append_assoc, take-append-drop, take_more, take_all}
use Rattle.std.proofs.lemmas.List.Elements.{All-append, All-cons, All-nil}
use Rattle.std.proofs.lemmas.Option.{slice_get_within, get_or_from_slice_get, slice_get-get_or}
use Rattle.list_laws.proofs.OneOrder.{nothing_in, first_or_rest, in_first, in_rest}
use Rattle.import_rules.specs.declared.names.PredName.{PredName}
use Rattle.import_rules.specs.Names.{pred_cmp}
use Rattle.import_rules.specs.Program.{Seen}
use Rattle.import_rules.proofs.NumberLemmas.{number_at}
use Rattle.call_edges.specs.Calls.{IsAmong}
use Rattle.tool_run.specs.declared.roots.RootStop.{RootStop}
use Rattle.tool_run.specs.declared.roots.RootStop.TheVariants as of_stop
use Rattle.tool_run.specs.Roots.{AreEnds, HasRoots, IsEndStop, IsFirstMissing, IsNamed, IsRootStop, LacksRoot, asked_names}

abbrev pub AreRising : List PredName → Type 0
AreRising predicates = AllPairs (λ p q. pred_cmp p q ≡ Less) predicates

pub stands : (predicates : List PredName) (name : PredName) → Contains predicates name → (n : ℕ) × IsNamed predicates name n
stands predicates name (k, lt, is) = (k, slice_get-get_or predicates k name lt ∙ ap (λ p. Some p) is)

pub named_there : (predicates : List PredName) (name : PredName) (n : ℕ) → IsNamed predicates name n → Contains predicates name
named_there predicates name n is = (n, slice_get_within predicates n name is, get_or_from_slice_get predicates n name name is)

-- one predicate has the name
pub one_named : (predicates : List PredName) (name : PredName) (m n : ℕ) → AreRising predicates → IsNamed predicates name m → IsNamed predicates name n → m ≡ n
one_named predicates name m n rising is also =
    let same : Some m ≡ Some n = sym (number_at predicates name m rising is) ∙ number_at predicates name n rising also in cc

-- numbers of names, in the order of the names

pub zip_more : (predicates names : List PredName) (numbers : List ℕ) (name : PredName) (number : ℕ) → AllZip (IsNamed predicates) names numbers → IsNamed predicates name number
    → AllZip (IsNamed predicates) (names ++ name ∷ []) (numbers ++ number ∷ [])
zip_more predicates [] [] name number zip is = (is, tt)
zip_more predicates [] (n ∷ numbers) name number zip is = absurd zip
zip_more predicates (p ∷ names) [] name number zip is = absurd zip
zip_more predicates (p ∷ names) (n ∷ numbers) name number zip is = (zip.0, zip_more predicates names numbers name number zip.1 is)

pub zip_there : (predicates names : List PredName) (numbers : List ℕ) → AllZip (IsNamed predicates) names numbers → All (Contains predicates) names
zip_there predicates [] numbers zip = λ k d less. let none : ⊥ = omega (arith, less) in absurd none
zip_there predicates (p ∷ names) [] zip = absurd zip
zip_there predicates (p ∷ names) (n ∷ numbers) zip =
    All-cons (Contains predicates) p names (named_there predicates p n zip.0) (zip_there predicates names numbers zip.1)

pub zip_among : (predicates names : List PredName) (numbers : List ℕ) (q : ℕ) → AllZip (IsNamed predicates) names numbers → Contains numbers q → IsAmong (IsNamed predicates) names q
zip_among predicates [] [] q zip has = absurd (nothing_in q has)
zip_among predicates [] (n ∷ numbers) q zip has = absurd zip
zip_among predicates (p ∷ names) [] q zip has = absurd zip
zip_among predicates (p ∷ names) (n ∷ numbers) q zip has = elim (first_or_rest n q numbers has) [
  | inl here ↦ record { one = p; has = in_first p names; is = subst (IsNamed predicates p) here zip.0 }
  | inr later ↦
      let among = zip_among predicates names numbers q zip.1 later in
      record { one = among.one; has = in_rest p among.one names among.has; is = among.is }
]

pub among_zip : (predicates names : List PredName) (numbers : List ℕ) → AreRising predicates → AllZip (IsNamed predicates) names numbers → (q : ℕ) (name : PredName) → Contains names name
    → IsNamed predicates name q → Contains numbers q
among_zip predicates [] numbers rising zip q name has is = absurd (nothing_in name has)
among_zip predicates (p ∷ names) [] rising zip q name has is = absurd zip
among_zip predicates (p ∷ names) (n ∷ numbers) rising zip q name has is = elim (first_or_rest p name names has) [
  | inl here ↦ subst (Contains (n ∷ numbers)) (one_named predicates name n q rising (subst (λ p. IsNamed predicates p n) here zip.0) is) (in_first n numbers)
  | inr later ↦ in_rest n q numbers (among_zip predicates names numbers rising zip.1 q name later is)
]

-- the numbers are just those of the names
pub listed_are : (predicates names : List PredName) (numbers : List ℕ) → AreRising predicates → AllZip (IsNamed predicates) names numbers → (q : ℕ)
    → Contains numbers q ↔ IsAmong (IsNamed predicates) names q
listed_are predicates names numbers rising zip q = (
  zip_among predicates names numbers q zip,
  λ among. among_zip predicates names numbers rising zip q among.one among.has among.is,
)

pub named_below : (predicates names : List PredName) (q : ℕ) → IsAmong (IsNamed predicates) names q → q < length predicates
named_below predicates names q among = slice_get_within predicates q among.one among.is

-- names up to one that is none of a predicate

pub missing_at : (predicates names : List PredName) (numbers : List ℕ) (i : ℕ) (name : PredName) → i < length names → name ≡ get_or names i name
    → AllZip (IsNamed predicates) (take i names) numbers → (Contains predicates name → ⊥) → IsFirstMissing predicates names name
missing_at predicates names numbers i name less is zip lacks = record {
  before = take i names;
  after = drop (i + 1) names;
  is =
      sym (take-append-drop (i + 1) names)
      ∙ (ap (λ first. first ++ drop (i + 1) names) (take_more names i name less ∙ ap (λ p. take i names ++ p ∷ []) (sym is))
      ∙ append_assoc (take i names) (name ∷ []) (drop (i + 1) names));
  there = zip_there predicates (take i names) numbers zip;
  missing = lacks;
}

pub zip_next : (predicates names : List PredName) (numbers : List ℕ) (i : ℕ) (name : PredName) (number : ℕ) → i < length names → name ≡ get_or names i name
    → AllZip (IsNamed predicates) (take i names) numbers → IsNamed predicates name number → AllZip (IsNamed predicates) (take (i + 1) names) (numbers ++ number ∷ [])
zip_next predicates names numbers i name number less is zip named =
    subst (λ ns. AllZip (IsNamed predicates) ns (numbers ++ number ∷ [])) (sym (take_more names i name less ∙ ap (λ p. take i names ++ p ∷ []) (sym is)))
    (zip_more predicates (take i names) numbers name number zip named)

pub zip_whole : (predicates names : List PredName) (numbers : List ℕ) (i : ℕ) → length names ≤ i → AllZip (IsNamed predicates) (take i names) numbers
    → AllZip (IsNamed predicates) names numbers
zip_whole predicates names numbers i whole zip = subst (λ ns. AllZip (IsNamed predicates) ns numbers) (take_all i names whole) zip

-- what holds of the list holds of the option
pub rooted_by : {X E : Type 0} (r : Result X E) (list : Option (List PredName)) (names : List PredName) (seen : Seen) → list ≡ Some names → IfOk r (λ x. HasRoots (Some names) seen)
    → IfOk r (λ x. HasRoots list seen)
rooted_by {X} {E} r list names seen is rooted = subst (λ (l : Option (List PredName)). IfOk r (λ x. HasRoots l seen)) (sym is) rooted

-- names that are asked for, with the ends of a path behind them

-- a root that is missing is the first missing one
pub asked_lacks : (path : Option (PredName × PredName)) (roots : Option (List PredName)) (seen : Seen) (name : PredName) → LacksRoot roots seen name
    → LacksRoot (asked_names path roots) seen name
asked_lacks None roots seen name lacks = lacks
asked_lacks (Some both) None seen name lacks = absurd lacks
asked_lacks (Some both) (Some list) seen name lacks = record {
  before = lacks.before;
  after = lacks.after ++ both.0 ∷ both.1 ∷ [];
  is = ap (λ ns. ns ++ both.0 ∷ both.1 ∷ []) lacks.is ∙ append_assoc lacks.before (name ∷ lacks.after) (both.0 ∷ both.1 ∷ []);
  there = lacks.there;
  missing = lacks.missing;
}

pub asked_stop : (path : Option (PredName × PredName)) (roots : Option (List PredName)) (seen : Seen) (stop : RootStop) → IsRootStop roots seen stop
    → IsRootStop (asked_names path roots) seen stop
asked_stop path roots seen (of_stop.NoPredicate root) is = asked_lacks path roots seen root is
asked_stop path roots seen of_stop.NoMemory is = is

-- the end that a path leaves is missing
lacks_from : (both : PredName × PredName) (roots : Option (List PredName)) (seen : Seen) → HasRoots roots seen → (Contains seen.predicates both.0 → ⊥)
    → LacksRoot (asked_names (Some both) roots) seen both.0
lacks_from both None seen has lacks = record { before = []; after = both.1 ∷ []; is = refl; there = All-nil (Contains seen.predicates); missing = lacks }
lacks_from both (Some list) seen has lacks = record { before = list; after = both.1 ∷ []; is = refl; there = has; missing = lacks }

-- the end that it comes to is
lacks_to : (both : PredName × PredName) (roots : Option (List PredName)) (seen : Seen) → HasRoots roots seen → Contains seen.predicates both.0
    → (Contains seen.predicates both.1 → ⊥) → LacksRoot (asked_names (Some both) roots) seen both.1
lacks_to both None seen has there lacks = record {
  before = both.0 ∷ [];
  after = [];
  is = refl;
  there = All-cons (Contains seen.predicates) both.0 [] there (All-nil (Contains seen.predicates));
  missing = lacks;
}
lacks_to both (Some list) seen has there lacks = record {
  before = list ++ both.0 ∷ [];
  after = [];
  is = sym (append_assoc list (both.0 ∷ []) (both.1 ∷ []));
  there = All-append (Contains seen.predicates) list (both.0 ∷ []) has (All-cons (Contains seen.predicates) both.0 [] there (All-nil (Contains seen.predicates)));
  missing = lacks;
}

two_there : (both : PredName × PredName) (predicates : List PredName) → Contains predicates both.0 → Contains predicates both.1
    → All (Contains predicates) (both.0 ∷ both.1 ∷ [])
two_there both predicates from to =
    All-cons (Contains predicates) both.0 (both.1 ∷ []) from (All-cons (Contains predicates) both.1 [] to (All-nil (Contains predicates)))

-- all names are there
asked_there : (both : PredName × PredName) (roots : Option (List PredName)) (seen : Seen) → HasRoots roots seen → Contains seen.predicates both.0
    → Contains seen.predicates both.1 → HasRoots (asked_names (Some both) roots) seen
asked_there both None seen has from to = two_there both seen.predicates from to
asked_there both (Some list) seen has from to = All-append (Contains seen.predicates) list (both.0 ∷ both.1 ∷ []) has (two_there both seen.predicates from to)

-- what a stop at either end is
pub from_stop : (path : Option (PredName × PredName)) (both : PredName × PredName) (roots : Option (List PredName)) (seen : Seen) (stop : RootStop) → path ≡ Some both → HasRoots roots seen
    → IsEndStop seen.predicates both.0 stop → IsRootStop (asked_names path roots) seen stop
from_stop path both roots seen stop at has is = subst (λ p. IsRootStop (asked_names p roots) seen stop) (sym at) (go stop is)
  where
    go : (stop : RootStop) → IsEndStop seen.predicates both.0 stop → IsRootStop (asked_names (Some both) roots) seen stop
    go (of_stop.NoPredicate root) is = subst (LacksRoot (asked_names (Some both) roots) seen) (sym is.0) (lacks_from both roots seen has is.1)
    go of_stop.NoMemory is = is

pub to_stop : (path : Option (PredName × PredName)) (both : PredName × PredName) (roots : Option (List PredName)) (seen : Seen) (stop : RootStop) (from : ℕ) → path ≡ Some both → HasRoots roots seen
    → IsNamed seen.predicates both.0 from → IsEndStop seen.predicates both.1 stop → IsRootStop (asked_names path roots) seen stop
to_stop path both roots seen stop from at has named is = subst (λ p. IsRootStop (asked_names p roots) seen stop) (sym at) (go stop is)
  where
    go : (stop : RootStop) → IsEndStop seen.predicates both.1 stop → IsRootStop (asked_names (Some both) roots) seen stop
    go (of_stop.NoPredicate root) is =
        subst (LacksRoot (asked_names (Some both) roots) seen) (sym is.0) (lacks_to both roots seen has (named_there seen.predicates both.0 from named) is.1)
    go of_stop.NoMemory is = is

-- and what two ends that are there are
pub ends_there : (path : Option (PredName × PredName)) (both : PredName × PredName) (roots : Option (List PredName)) (seen : Seen) (from to : ℕ) → path ≡ Some both → HasRoots roots seen
    → IsNamed seen.predicates both.0 from → IsNamed seen.predicates both.1 to → HasRoots (asked_names path roots) seen
ends_there path both roots seen from to at has from_is to_is =
    subst (λ p. HasRoots (asked_names p roots) seen) (sym at)
    (asked_there both roots seen has (named_there seen.predicates both.0 from from_is) (named_there seen.predicates both.1 to to_is))

pub ends_are : (path : Option (PredName × PredName)) (both : PredName × PredName) (seen : Seen) (from to : ℕ) → path ≡ Some both
    → IsNamed seen.predicates both.0 from → IsNamed seen.predicates both.1 to → AreEnds path seen (Some (from, to))
ends_are path both seen from to at from_is to_is = subst (λ p. AreEnds p seen (Some (from, to))) (sym at) (from_is, to_is)
