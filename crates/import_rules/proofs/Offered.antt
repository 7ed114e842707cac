-- Names that one file alone offers: their items are of one module, so that they don't clash.
use Rattle.std.proofs.Common.{◌≡◌, Bool, true, false, not, ◌&&◌, List, [], ◌∷◌, Option, Some, None, AllPairs, Contains, map, flat_map, refl, sym, ap, subst, ◌∙◌, inl, inr, arith}
use Rattle.std.specs.Prelude.{if◌then◌else◌}
use Rattle.std.specs.List.{filter_map, list_any, list_all, cons_option}
use Rattle.std.specs.Str.{bytes_eq}
use Rattle.std.specs.Cmp.Lexicographic.{slice_cmp}
use Rattle.std.specs.Ordering.{nat_cmp, is_lt, ordering_reverse}
use Rattle.std.specs.declared.cmp.Ordering.{Ordering}
use Rattle.std.specs.declared.cmp.Ordering.TheVariants.{Less, Equal, Greater}
use Rattle.std.proofs.lemmas.Bool.{and_parts}
use Rattle.std.proofs.lemmas.Cmp.{nat_list_cmp_total}
use Rattle.std.proofs.lemmas.List.Elements.{All-contains}
use Rattle.std.proofs.lemmas.List.Kept.{AllPairs-cons}
use Rattle.std.proofs.lemmas.Slice.Eq.{bytes_eq-Decides}
use Rattle.list_laws.proofs.Members.{kept_in as kept_by}
use Rattle.list_laws.proofs.OneOrder.{nothing_in, first_or_rest, in_first, in_rest, before_rest, rest_in_order}
use Rattle.module_table.specs.declared.indicator.Indicator.{Indicator}
use Rattle.module_table.specs.Facts.{Facts}
use Rattle.module_table.specs.Kinds.{first_of}
use Rattle.module_table.specs.Said.{Loads}
use Rattle.import_rules.specs.declared.names.PredName.{PredName}
use Rattle.import_rules.specs.Clashes.{Imports, items_for, first_other, clash, AreClashes}
use Rattle.import_rules.specs.Files.{file_named, is_before, is_first}
use Rattle.import_rules.specs.Items.{given, gives, items, items_of_load, taken}
use Rattle.import_rules.specs.KnownFiles.{AreRising}
use Rattle.import_rules.specs.Names.{is_same, pred_cmp, pred_name}
use Rattle.import_rules.specs.Offers.{offer, offers, offers_of}
use Rattle.import_rules.proofs.Enough.{taken_from}
use Rattle.import_rules.proofs.FileNames.{named_there}
use Rattle.import_rules.proofs.Lists.{all_by, any_there, filter_none, kept_passes, kept_there, map_has}
use Rattle.import_rules.proofs.Meant.{found_there}
use Rattle.import_rules.proofs.Members.{flat_map_from, flat_map_has}
use Rattle.import_rules.proofs.NameOrder.{same_from, same_parts, same_text}
use Rattle.import_rules.proofs.Targets.{one_module}

-- the name without its module
abbrev pub bare : PredName → PredName
bare p = pred_name [] p.name p.arity

-- each item is that of an export that is offered

pub record IsOffered (files : List Facts) (i : Imports) : Type 0 where
  pub by : Imports
  pub stands : Contains (offers files) by
  pub into : by.into ≡ bare i.into
  pub from_module : by.from_module ≡ i.from_module

offered_by : (files : List Facts) (user file : Facts) (load : Loads) (i : Imports) (e : Indicator) → Contains files file → gives files user file ≡ true
    → Contains file.exports e → record { «module» = user.module_; name = e.name; arity = e.arity } ≡ i.into → file.module_ ≡ i.from_module → IsOffered files i
offered_by files user file load i e stands is has into from =
    let parts = and_parts file.is_module (is_first files file && not (bytes_eq file.module_ user.module_)) is in
    let first = and_parts (is_first files file) (not (bytes_eq file.module_ user.module_)) parts.1 in
    let leads : (file.is_module && is_first files file) ≡ true = λ k. parts.0 k && first.0 k in
    let own : offers_of files file ≡ map (offer file) file.exports = ap (λ b. if b then map (offer file) file.exports else []) leads in record {
      by = offer file e;
      stands = flat_map_has (offers_of files) files file (offer file e) stands (subst (λ os. Contains os (offer file e)) (sym own) (map_has (offer file) file.exports e has));
      into = ap bare into;
      from_module = from;
    }

-- a load that gives an item, and the file that it loads
pub record IsTakenBy (files : List Facts) (i : Imports) : Type 0 where
  pub user : Facts
  pub load : Loads
  pub file : Facts
  pub has_user : Contains files user
  pub has_load : Contains user.loads load
  pub named : file_named files load.file ≡ Some file
  pub gives_it : gives files user file ≡ true
  pub is : Contains (taken user file load load.kind) i

pub taken_by : (files : List Facts) (i : Imports) → Contains (items files) i → IsTakenBy files i
taken_by files i has =
    at (file_named files load.file) refl inner.2
  where
    outer : (u : Facts) × Contains files u × Contains (flat_map (items_of_load files u) u.loads) i
    outer = flat_map_from (λ (user : Facts). flat_map (items_of_load files user) user.loads) files i has

    user : Facts
    user = outer.0

    inner : (l : Loads) × Contains user.loads l × Contains (items_of_load files user l) i
    inner = flat_map_from (items_of_load files user) user.loads i outer.2

    load : Loads
    load = inner.0

    in_file : (file : Facts) (b : Bool) → file_named files load.file ≡ Some file → gives files user file ≡ b
        → Contains (if b then taken user file load load.kind else []) i → IsTakenBy files i
    in_file file true named is there = record {
      user = user;
      load = load;
      file = file;
      has_user = outer.1;
      has_load = inner.1;
      named = named;
      gives_it = is;
      is = there;
    }
    in_file file false named is there = absurd (nothing_in i there)

    at : (r : Option Facts) → file_named files load.file ≡ r → Contains (elim r [ Some file ↦ given files user load file | None ↦ [] ]) i → IsTakenBy files i
    at (Some file) is there = in_file file (gives files user file) is refl there
    at None is there = absurd (nothing_in i there)

pub is_offered : (files : List Facts) (i : Imports) → Contains (items files) i → IsOffered files i
is_offered files i has =
    let by = taken_by files i has in
    let from = taken_from by.user by.file by.load by.load.kind i by.is in
    offered_by files by.user by.file by.load i from.0 (found_there files by.load.file by.file by.named) by.gives_it from.1 from.2 from.3

-- names that don't clash

-- the name of a clash is that of an item
pub clash_is : (all : List Imports) (p : PredName) (c : Imports) → clash all p ≡ Some c → Contains all c × (p ≡ c.into)
clash_is all p c is =
    let there : Contains (items_for p all) c = at (items_for p all) is in
    (kept_there (λ (k : Imports). is_same p k.into) all c there, same_parts p c.into (kept_passes (λ (k : Imports). is_same p k.into) all c there))
  where
    led : (xs : List Imports) → first_of xs ≡ Some c → Contains xs c
    led [] e = cc
    led (x ∷ xs) e = let same : x ≡ c = cc in subst (Contains (x ∷ xs)) same (in_first x xs)

    at : (xs : List Imports) → first_other xs ≡ Some c → Contains xs c
    at [] e = cc
    at (x ∷ xs) e = in_rest x c xs (kept_there (λ (k : Imports). not (bytes_eq k.from_module x.from_module)) xs c (led _ e))

-- what a function gives of a member
pub given_there : {X Y : Type 0} (f : X → Option Y) (xs : List X) (x : X) (y : Y) → Contains xs x → f x ≡ Some y → Contains (filter_map f xs) y
given_there {X} {Y} f [] x y has is = absurd (nothing_in x has)
given_there {X} {Y} f (z ∷ xs) x y has is =
    elim (first_or_rest z x xs has) [
      | inl same ↦ subst (λ r. Contains (cons_option r (filter_map f xs)) y) (sym (ap f same ∙ is)) (in_first y (filter_map f xs))
      | inr later ↦ behind (f z) (given_there f xs x y later is)
    ]
  where
    behind : (r : Option Y) → Contains (filter_map f xs) y → Contains (cons_option r (filter_map f xs)) y
    behind None there = there
    behind (Some w) there = in_rest w y (filter_map f xs) there

pub given_from : {X Y : Type 0} (f : X → Option Y) (xs : List X) (y : Y) → Contains (filter_map f xs) y → (x : X) × Contains xs x × (f x ≡ Some y)
given_from {X} {Y} f [] y has = absurd (nothing_in y has)
given_from {X} {Y} f (x ∷ xs) y has = at (λ there. let from = given_from f xs y there in (from.0, in_rest x from.0 xs from.1, from.2)) (f x) refl has
  where
    at : (Contains (filter_map f xs) y → (w : X) × Contains (x ∷ xs) w × (f w ≡ Some y)) → (r : Option Y) → f x ≡ r → Contains (cons_option r (filter_map f xs)) y → (w : X) × Contains (x ∷ xs) w × (f w ≡ Some y)
    at later None is there = later there
    at later (Some z) is there =
        elim (first_or_rest z y (filter_map f xs) there) [
          | inl same ↦ (x, in_first x xs, is ∙ ap (λ k. Some k) same)
          | inr behind ↦ later behind
        ]

-- clashes are in order of their names

in_rising : (all : List Imports) (p : PredName) (ps : List PredName) (r : Option Imports) → clash all p ≡ r → AllPairs (λ p q. pred_cmp p q ≡ Less) (p ∷ ps)
    → AllPairs (λ (i j : Imports). pred_cmp i.into j.into ≡ Less) (filter_map (clash all) ps)
    → AllPairs (λ (i j : Imports). pred_cmp i.into j.into ≡ Less) (cons_option r (filter_map (clash all) ps))
in_rising all p ps None is up rest = rest
in_rising all p ps (Some c) is up rest =
    AllPairs-cons (λ (i j : Imports). pred_cmp i.into j.into ≡ Less) c (filter_map (clash all) ps)
    (all_by (λ (j : Imports). pred_cmp c.into j.into ≡ Less) (filter_map (clash all) ps)
    (λ j has.
    let from = given_from (clash all) ps j has in
    subst (λ q. pred_cmp q j.into ≡ Less) (clash_is all p c is).1
    (subst (λ q. pred_cmp p q ≡ Less) (clash_is all from.0 j from.2).1 (before_rest (λ p q. pred_cmp p q ≡ Less) p from.0 ps up from.1))))
    rest

names_rising : (all : List Imports) (ps : List PredName) → AllPairs (λ p q. pred_cmp p q ≡ Less) ps
    → AllPairs (λ (i j : Imports). pred_cmp i.into j.into ≡ Less) (filter_map (clash all) ps)
names_rising all [] up = λ i j d lt within. absurd (omega (arith, within))
names_rising all (p ∷ ps) up = in_rising all p ps (clash all p) refl up (names_rising all ps (rest_in_order (λ p q. pred_cmp p q ≡ Less) p ps up))

pub clashes_rise : (all clashes : List Imports) → AreClashes all clashes → AllPairs (λ (i j : Imports). pred_cmp i.into j.into ≡ Less) clashes
clashes_rise all clashes are = subst (AllPairs (λ (i j : Imports). pred_cmp i.into j.into ≡ Less)) (sym are.are) (names_rising all are.predicates are.in_order)

-- items of one module don't clash
none_other : (is : List Imports) → ((i j : Imports) → Contains is i → Contains is j → i.from_module ≡ j.from_module) → first_other is ≡ None
none_other [] one = refl
none_other (first ∷ others) one =
    ap first_of (filter_none (λ (i : Imports). not (bytes_eq i.from_module first.from_module)) others
    (all_by (λ (i : Imports). not (bytes_eq i.from_module first.from_module) ≡ false) others
    (λ i has. ap not ((bytes_eq-Decides i.from_module first.from_module).1 (one i first (in_rest first i others has) (in_first first others))))))

pub none_of_one : (all : List Imports) (p : PredName) → ((i j : Imports) → Contains all i → Contains all j → i.into ≡ p → j.into ≡ p → i.from_module ≡ j.from_module)
    → clash all p ≡ None
none_of_one all p one =
    none_other (items_for p all)
    (λ i j has also.
    one i j (kept_there (λ (k : Imports). is_same p k.into) all i has) (kept_there (λ (k : Imports). is_same p k.into) all j also)
    (sym (same_parts p i.into (kept_passes (λ (k : Imports). is_same p k.into) all i has)))
    (sym (same_parts p j.into (kept_passes (λ (k : Imports). is_same p k.into) all j also))))

-- whether a name is shared
abbrev pub is_shared_name : List Imports → PredName → Bool
is_shared_name shared p = list_any (λ (i : Imports). is_same (bare p) i.into) shared

module _ (files : List Facts) (shared : List Imports) (are : AreClashes (offers files) shared) where
  -- a name that isn't shared is offered by one file
  pub offers_alike : (p : PredName) → is_shared_name shared p ≡ false → clash (offers files) (bare p) ≡ None
  offers_alike p apart = at (clash (offers files) (bare p)) refl
    where
      at : (r : Option Imports) → clash (offers files) (bare p) ≡ r → clash (offers files) (bare p) ≡ None
      at None is = is
      at (Some c) is =
          let found = clash_is (offers files) (bare p) c is in
          let named : Contains are.predicates (bare p) =
          subst (Contains are.predicates) (sym found.1) (All-contains (λ (i : Imports). Contains are.predicates i.into) (offers files) c are.all found.0) in
          let there : Contains shared c = subst (λ cs. Contains cs c) (sym are.are) (given_there (clash (offers files)) are.predicates (bare p) c named is) in
          let both : true ≡ false = sym (any_there (λ (i : Imports). is_same (bare p) i.into) shared c there (same_from (bare p) c.into found.1)) ∙ apart in
          cc

  pub one_offer : (p : PredName) (i j : Imports) → is_shared_name shared p ≡ false → Contains (offers files) i → Contains (offers files) j
      → i.into ≡ bare p → j.into ≡ bare p → i.from_module ≡ j.from_module
  one_offer p i j apart has also is so =
      one_module (items_for (bare p) (offers files)) i j (offers_alike p apart)
      (kept_by (λ (k : Imports). is_same (bare p) k.into) (offers files) i has (same_from (bare p) i.into (sym is)))
      (kept_by (λ (k : Imports). is_same (bare p) k.into) (offers files) j also (same_from (bare p) j.into (sym so)))

  pub items_alike : (p : PredName) (i j : Imports) → is_shared_name shared p ≡ false → Contains (items files) i → Contains (items files) j → i.into ≡ p → j.into ≡ p
      → i.from_module ≡ j.from_module
  items_alike p i j apart has also is so =
      let one = is_offered files i has in
      let two = is_offered files j also in
      sym one.from_module ∙ one_offer p one.by two.by apart one.stands two.stands (one.into ∙ ap bare is) (two.into ∙ ap bare so) ∙ two.from_module

-- a file that leads is the only one of its module

before_is : (f g : Facts) → g.is_module ≡ true → g.module_ ≡ f.module_ → slice_cmp nat_cmp g.file f.file ≡ Less → is_before f g ≡ true
before_is f g holds same less =
    (λ k. holds k && ((bytes_eq-Decides g.module_ f.module_).1 same k && is_lt (less k)))

first_of_all : (files : List Facts) (f g : Facts) → Contains files g → is_first files f ≡ true → is_before f g ≡ true → ⊥
first_of_all [] f g has first before = nothing_in g has
first_of_all (h ∷ files) f g has first before =
    let parts = and_parts (not (is_before f h)) (list_all (λ other. not (is_before f other)) files) first in
    elim (first_or_rest h g files has) [
      | inl same ↦ let both : false ≡ true = sym (ap not (ap (is_before f) same ∙ before)) ∙ parts.0 in cc
      | inr later ↦ first_of_all files f g later parts.1 before
    ]

pub one_leader : (files : List Facts) (f g : Facts) → AreRising files → Contains files f → Contains files g → f.is_module ≡ true → g.is_module ≡ true
    → is_first files f ≡ true → is_first files g ≡ true → f.module_ ≡ g.module_ → f ≡ g
one_leader files f g up has also f_is g_is first_f first_g same = at (slice_cmp nat_cmp f.file g.file) refl
  where
    at : (r : Ordering) → slice_cmp nat_cmp f.file g.file ≡ r → f ≡ g
    at Less is = absurd (first_of_all files g f has first_g (before_is g f f_is same is))
    at Equal is =
        let both : Some f ≡ Some g = sym (named_there files f up has) ∙ ap (file_named files) (same_text f.file g.file is) ∙ named_there files g up also in
        cc
    at Greater is =
        absurd
        (first_of_all files f g also first_f
        (before_is f g g_is (sym same) (nat_list_cmp_total.antisymm g.file f.file ∙ ap ordering_reverse is)))
