-- Words set one list of options.
use Rattle.std.proofs.Common.{◌≡◌, ℕ, List, [], ◌∷◌, Option, Some, None, refl, ap, sym, ◌∙◌, subst}
use Rattle.prolog_terms.proofs.ViewLemmas.{some_once}
use Rattle.group_words.specs.declared.limits.TheConstants.{MOST_MADE}
use Rattle.import_rules.specs.declared.names.PredName.{PredName}
use Rattle.group_words.specs.Words.{Key, Jobs, Searches, Seed, Roots, Path, Make, IsReading}
use Rattle.argument_numbers.specs.Numbers.{IsNumberIn}
use Rattle.group_words.specs.Settings.{AreLawful, AreSettings, FilesAre, JobsAre, MakeIs, PathIs, RootsAre, SearchesAre, Settings, each_once}
use Rattle.group_words.specs.RootList.{IsRootList}
use Rattle.group_words.proofs.Readings.{one_given, one_files}
use Rattle.group_words.proofs.RootLists.{one_root_list}

one_number : (low high : ℕ) (text : List ℕ) (m n : ℕ) → IsNumberIn low high text m → IsNumberIn low high text n → m ≡ n
one_number low high text m n x y = x.is ∙ sym y.is

jobs_once : (given : Option (List ℕ)) (m n : ℕ) → JobsAre given m → JobsAre given n → m ≡ n
jobs_once None m n x y = x ∙ sym y
jobs_once (Some text) m n x y = one_number 1 64 text m n x y

searches_once : (searches seed : Option (List ℕ)) (m n : Option (ℕ × ℕ)) → SearchesAre searches seed m → SearchesAre searches seed n → m ≡ n
searches_once None None None None x y = refl
searches_once None None None (Some n) x y = absurd y
searches_once None None (Some m) n x y = absurd x
searches_once None (Some seed) m n x y = absurd x
searches_once (Some searches) None m n x y = absurd x
searches_once (Some searches) (Some seed) None n x y = absurd x
searches_once (Some searches) (Some seed) (Some m) None x y = absurd y
searches_once (Some searches) (Some seed) (Some m) (Some n) x y =
    let counts : m.0 ≡ n.0 = one_number 1 64 searches m.0 n.0 x.0 y.0 in
    let starts : m.1 ≡ n.1 = one_number 0 18446744073709551615 seed m.1 n.1 x.1 y.1 in
    λ i. Some (counts i, starts i)

two_heads : {A : Type 0} (x y a b : A) → x ∷ y ∷ [] ≡ a ∷ b ∷ [] → (x ≡ a) × (y ≡ b)
two_heads x y a b e = (cc, cc)

same_two : (m n : PredName × PredName) → m.0 ∷ m.1 ∷ [] ≡ n.0 ∷ n.1 ∷ [] → m ≡ n
same_two m n e =
    let heads = two_heads m.0 m.1 n.0 n.1 e in
    let from : m.0 ≡ n.0 = heads.0 in
    let to : m.1 ≡ n.1 = heads.1 in
    λ i. (from i, to i)

roots_once : (given : Option (List ℕ)) (m n : Option (List PredName)) → RootsAre given m → RootsAre given n → m ≡ n
roots_once None None None x y = refl
roots_once None None (Some n) x y = absurd y
roots_once None (Some m) n x y = absurd x
roots_once (Some text) None n x y = absurd x
roots_once (Some text) (Some m) None x y = absurd y
roots_once (Some text) (Some m) (Some n) x y = ap Some (one_root_list text m n x y)

path_once : (given : Option (List ℕ)) (m n : Option (PredName × PredName)) → PathIs given m → PathIs given n → m ≡ n
path_once None None None x y = refl
path_once None None (Some n) x y = absurd y
path_once None (Some m) n x y = absurd x
path_once (Some text) None n x y = absurd x
path_once (Some text) (Some m) None x y = absurd y
path_once (Some text) (Some m) (Some n) x y = ap Some (same_two m n (one_root_list text (m.0 ∷ m.1 ∷ []) (n.0 ∷ n.1 ∷ []) x y))

make_once : (given : Option (List ℕ)) (m n : Option ℕ) → MakeIs given m → MakeIs given n → m ≡ n
make_once None None None x y = refl
make_once None None (Some n) x y = absurd y
make_once None (Some m) n x y = absurd x
make_once (Some text) None n x y = absurd x
make_once (Some text) (Some m) None x y = absurd y
make_once (Some text) (Some m) (Some n) x y = ap Some (one_number 1 MOST_MADE text m n x y)

-- a list that hasn't just two names no ends of a path
pub not_two : (text : List ℕ) (roots : List PredName) → IsRootList text roots → ((both : PredName × PredName) → roots ≡ both.0 ∷ both.1 ∷ [] → ⊥) → (given : Option (List ℕ))
    → given ≡ Some text → (path : Option (PredName × PredName)) → PathIs given path → ⊥
not_two text roots are never None is path holds = let both : None ≡ Some text = is in cc
not_two text roots are never (Some other) is None holds = holds
not_two text roots are never (Some other) is (Some both) holds =
    let same : other ≡ text = some_once is in
    never both (one_root_list text roots (both.0 ∷ both.1 ∷ []) are (subst (λ t. IsRootList t (both.0 ∷ both.1 ∷ [])) same holds))

files_once : (words named others : List (List ℕ)) → FilesAre words named → FilesAre words others → named ≡ others
files_once words named others x y = x.each ∙ (ap each_once (some_once (sym x.resolve ∙ y.resolve)) ∙ sym y.each)

settings_once : (given : Key → Option (List ℕ)) (files : List (List ℕ)) (s t : Settings) → AreSettings given files s → AreSettings given files t → s ≡ t
settings_once given files s t x y =
    let jobs : s.jobs ≡ t.jobs = jobs_once (given Jobs) s.jobs t.jobs x.jobs y.jobs in
    let searches : s.searches ≡ t.searches = searches_once (given Searches) (given Seed) s.searches t.searches x.searches y.searches in
    let roots : s.roots ≡ t.roots = roots_once (given Roots) s.roots t.roots x.roots y.roots in
    let order : s.order ≡ t.order = x.order ∙ sym y.order in
    let unreached : s.unreached ≡ t.unreached = x.unreached ∙ sym y.unreached in
    let effects : s.effects ≡ t.effects = x.effects ∙ sym y.effects in
    let loops : s.loops ≡ t.loops = x.loops ∙ sym y.loops in
    let stream : s.stream ≡ t.stream = x.stream ∙ sym y.stream in
    let path : s.path ≡ t.path = path_once (given Path) s.path t.path x.path y.path in
    let make : s.make ≡ t.make = make_once (given Make) s.make t.make x.make y.make in
    let named : s.files ≡ t.files = files_once files s.files t.files x.named y.named in
    λ i. record {
      jobs = jobs i;
      searches = searches i;
      roots = roots i;
      order = order i;
      unreached = unreached i;
      effects = effects i;
      loops = loops i;
      stream = stream i;
      path = path i;
      make = make i;
      files = named i;
    }

-- settings of one reading are those of another
pub settings_moved : (words : List (List ℕ)) (given other : Key → Option (List ℕ)) (files more : List (List ℕ)) → IsReading words given files → IsReading words other more
    → (s : Settings) → AreSettings given files s → AreSettings other more s
settings_moved words given other files more r q s sets =
    let same : given ≡ other = λ i key. one_given words given other files more r q key i in
    subst (λ g. AreSettings g more s) same (subst (λ xs. AreSettings given xs s) (one_files words given other files more r q) sets)

pub one_settings : (words : List (List ℕ)) (s t : Settings) → AreLawful words s → AreLawful words t → s ≡ t
one_settings words s t x y =
    settings_once y.given y.files s t (settings_moved words x.given y.given x.files y.files x.reading y.reading s x.sets) y.sets
