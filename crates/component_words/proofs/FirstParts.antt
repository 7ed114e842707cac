-- The first of the parts that words spell.
use Rattle.std.proofs.Common.{◌≡◌, ℕ, List, [], ◌∷◌, ◌++◌, Bool, true, false, nat_eq, ◌&&◌, if◌then◌else◌, Option, Some, None, All, refl, ap, sym, subst, ◌∙◌}
use Rattle.std.specs.List.{flat_map}
use Rattle.std.proofs.lemmas.List.Elements.{All-head, All-tail}
use Rattle.component_words.specs.declared.flag.Flag.{Flag}
use Rattle.component_words.specs.declared.flag.Flag.TheVariants.{Order, Json, Loops, FromJson}
use Rattle.component_words.specs.Words.{IsPart, Part, apart, ends_word, flag, flag_word, is_operand, joined, joined_word, operand, part_words, rest_words, valued_word}
use Rattle.component_words.specs.declared.valued.Valued.{Valued}
use Rattle.component_words.specs.declared.valued.Valued.TheVariants.{Roots, Jobs}

abbrev pub spelled : List Part → Option (List (List ℕ)) → List (List ℕ)
spelled parts rest = flat_map part_words parts ++ rest_words rest

-- what a word may be: a whole part, the beginning of one whose value follows, or the end of options
pub data Kind : Type 0 where
  whole : Part → Kind
  before_value : Valued → Kind
  ends : Kind
  nothing : Kind

abbrev same : List ℕ → List ℕ → Bool
same [] [] = true
same [] (b ∷ bs) = false
same (a ∷ more) [] = false
same (a ∷ more) (b ∷ bs) = nat_eq a b && same more bs

abbrev behind : List ℕ → List ℕ → Option (List ℕ)
behind [] word = Some word
behind (a ∷ more) [] = None
behind (a ∷ more) (b ∷ bs) = if nat_eq a b then behind more bs else None

abbrev flag_kind : List ℕ → Kind
flag_kind word =
    if same word (flag_word Order) then whole (flag Order)
    else if same word (flag_word Json) then whole (flag Json)
    else if same word (flag_word Loops) then whole (flag Loops)
    else if same word (flag_word FromJson) then whole (flag FromJson)
    else nothing

abbrev value_kind : Option (List ℕ) → Option (List ℕ) → List ℕ → Kind
value_kind (Some name) jobs word = whole (joined Roots name)
value_kind None (Some jobs) word = whole (joined Jobs jobs)
value_kind None None word = flag_kind word

abbrev option_kind : List ℕ → Kind
option_kind word =
    if same word ends_word then ends
    else if same word (valued_word Roots) then before_value Roots
    else if same word (valued_word Jobs) then before_value Jobs
    else value_kind (behind (joined_word Roots []) word) (behind (joined_word Jobs []) word) word

abbrev pub kind_of : List ℕ → Kind
kind_of word = if is_operand word then whole (operand word) else option_kind word

pub operand_kind : (word : List ℕ) → is_operand word ≡ true → kind_of word ≡ whole (operand word)
operand_kind word is = ap (λ b. if b then whole (operand word) else option_kind word) is

pub flag_is : (own : Flag) → kind_of (flag_word own) ≡ whole (flag own)
flag_is Order = refl
flag_is Json = refl
flag_is Loops = refl
flag_is FromJson = refl

pub joined_is : (valued : Valued) (value : List ℕ) → kind_of (joined_word valued value) ≡ whole (joined valued value)
joined_is Roots value = refl
joined_is Jobs value = refl

pub valued_is : (valued : Valued) → kind_of (valued_word valued) ≡ before_value valued
valued_is Roots = refl
valued_is Jobs = refl

pub ends_is : kind_of ends_word ≡ ends
ends_is = refl

-- the parts begin with one of that kind, and the words behind it spell the others
abbrev pub FirstIs : Kind → List (List ℕ) → List Part → Option (List (List ℕ)) → Type 0
FirstIs (whole part) words parts rest = (others : List Part) × (parts ≡ part ∷ others) × (words ≡ spelled others rest)
FirstIs (before_value valued) words parts rest =
    (value : List ℕ) × ((others : List Part) × (parts ≡ apart valued value ∷ others) × (words ≡ value ∷ spelled others rest))
FirstIs ends words parts rest = (parts ≡ []) × (rest ≡ Some words)
FirstIs nothing words parts rest = ⊥

pub first_is : (word : List ℕ) (words : List (List ℕ)) (parts : List Part) (rest : Option (List (List ℕ))) → word ∷ words ≡ spelled parts rest
    → All IsPart parts → FirstIs (kind_of word) words parts rest
first_is word words [] None e lawful = let none : ⊥ = cc in absurd none
first_is word words [] (Some more) e lawful =
    let same_word : word ≡ ends_word = cc in
    let same_words : words ≡ more = cc in
    subst (λ k. FirstIs k words [] (Some more)) (sym (ap kind_of same_word ∙ ends_is)) (refl, ap Some (sym same_words))
first_is word words (operand name ∷ others) rest e lawful =
    let both : word ∷ words ≡ name ∷ spelled others rest = e in
    let same_word : word ≡ name = cc in
    let same_words : words ≡ spelled others rest = cc in
    let is : is_operand name ≡ true = All-head IsPart (operand name) others lawful in
    subst (λ k. FirstIs k words (operand name ∷ others) rest) (sym (ap kind_of same_word ∙ operand_kind name is)) (others, refl, same_words)
first_is word words (flag own ∷ others) rest e lawful =
    let both : word ∷ words ≡ flag_word own ∷ spelled others rest = e in
    let same_word : word ≡ flag_word own = cc in
    let same_words : words ≡ spelled others rest = cc in
    subst (λ k. FirstIs k words (flag own ∷ others) rest) (sym (ap kind_of same_word ∙ flag_is own)) (others, refl, same_words)
first_is word words (apart valued value ∷ others) rest e lawful =
    let both : word ∷ words ≡ valued_word valued ∷ (value ∷ spelled others rest) = e in
    let same_word : word ≡ valued_word valued = cc in
    let same_words : words ≡ value ∷ spelled others rest = cc in
    subst (λ k. FirstIs k words (apart valued value ∷ others) rest) (sym (ap kind_of same_word ∙ valued_is valued)) (value, (others, refl, same_words))
first_is word words (joined valued value ∷ others) rest e lawful =
    let both : word ∷ words ≡ joined_word valued value ∷ spelled others rest = e in
    let same_word : word ≡ joined_word valued value = cc in
    let same_words : words ≡ spelled others rest = cc in
    subst (λ k. FirstIs k words (joined valued value ∷ others) rest) (sym (ap kind_of same_word ∙ joined_is valued value)) (others, refl, same_words)

-- words spell parts in one way
abbrev IsOne : List Part → Option (List (List ℕ)) → List Part → Option (List (List ℕ)) → Type 0
IsOne parts rest others other = (parts ≡ others) × (rest ≡ other)

some_words : (part : Part) (parts : List Part) (rest : Option (List (List ℕ))) → [] ≡ spelled (part ∷ parts) rest → ⊥
some_words (operand name) parts rest e = let both : [] ≡ name ∷ spelled parts rest = e in cc
some_words (flag own) parts rest e = let both : [] ≡ flag_word own ∷ spelled parts rest = e in cc
some_words (apart valued value) parts rest e = let both : [] ≡ valued_word valued ∷ (value ∷ spelled parts rest) = e in cc
some_words (joined valued value) parts rest e = let both : [] ≡ joined_word valued value ∷ spelled parts rest = e in cc

pub none_spelled : (others : List Part) (other : Option (List (List ℕ))) → [] ≡ spelled others other → (others ≡ []) × (other ≡ None)
none_spelled [] None e = (refl, refl)
none_spelled [] (Some more) e = let both : [] ≡ ends_word ∷ more = e in let none : ⊥ = cc in absurd none
none_spelled (part ∷ others) other e = absurd (some_words part others other e)

behind_first : (part : Part) (parts : List Part) (rest : Option (List (List ℕ))) (others more : List Part) (other : Option (List (List ℕ)))
    → others ≡ part ∷ more → IsOne parts rest more other → IsOne (part ∷ parts) rest others other
behind_first part parts rest others more other is same = (ap (λ ps. part ∷ ps) same.0 ∙ sym is, same.1)

lawful_more : (part : Part) (others more : List Part) → others ≡ part ∷ more → All IsPart others → All IsPart more
lawful_more part others more is lawful = All-tail IsPart part more (subst (All IsPart) is lawful)

pub one_spelling : (parts : List Part) (rest : Option (List (List ℕ))) (others : List Part) (other : Option (List (List ℕ)))
    → spelled parts rest ≡ spelled others other → All IsPart parts → All IsPart others → IsOne parts rest others other
one_spelling [] None others other e lawful also = let is = none_spelled others other e in (sym is.0, sym is.1)
one_spelling [] (Some more) others other e lawful also =
    let is : FirstIs ends more others other = first_is ends_word more others other e also in (sym is.0, sym is.1)
one_spelling (operand name ∷ parts) rest others other e lawful also =
    let first = first_is name (spelled parts rest) others other e also in
    let is : FirstIs (whole (operand name)) (spelled parts rest) others other =
    subst (λ k. FirstIs k (spelled parts rest) others other) (operand_kind name (All-head IsPart (operand name) parts lawful)) first in
    behind_first (operand name) parts rest others is.0 other is.1
    (one_spelling parts rest is.0 other is.2 (All-tail IsPart (operand name) parts lawful) (lawful_more (operand name) others is.0 is.1 also))
one_spelling (flag own ∷ parts) rest others other e lawful also =
    let first = first_is (flag_word own) (spelled parts rest) others other e also in
    let is : FirstIs (whole (flag own)) (spelled parts rest) others other =
    subst (λ k. FirstIs k (spelled parts rest) others other) (flag_is own) first in
    behind_first (flag own) parts rest others is.0 other is.1
    (one_spelling parts rest is.0 other is.2 (All-tail IsPart (flag own) parts lawful) (lawful_more (flag own) others is.0 is.1 also))
one_spelling (joined valued value ∷ parts) rest others other e lawful also =
    let is : FirstIs (whole (joined valued value)) (spelled parts rest) others other =
    subst (λ k. FirstIs k (spelled parts rest) others other) (joined_is valued value)
    (first_is (joined_word valued value) (spelled parts rest) others other e also) in
    behind_first (joined valued value) parts rest others is.0 other is.1
    (one_spelling parts rest is.0 other is.2 (All-tail IsPart (joined valued value) parts lawful) (lawful_more (joined valued value) others is.0 is.1 also))
one_spelling (apart valued value ∷ parts) rest others other e lawful also =
    let is : FirstIs (before_value valued) (value ∷ spelled parts rest) others other =
    subst (λ k. FirstIs k (value ∷ spelled parts rest) others other) (valued_is valued)
    (first_is (valued_word valued) (value ∷ spelled parts rest) others other e also) in
    let both : value ∷ spelled parts rest ≡ is.0 ∷ spelled is.1.0 other = is.1.2 in
    let same_value : value ≡ is.0 = cc in
    let same_words : spelled parts rest ≡ spelled is.1.0 other = cc in
    let begins : others ≡ apart valued value ∷ is.1.0 = is.1.1 ∙ ap (λ v. apart valued v ∷ is.1.0) (sym same_value) in
    behind_first (apart valued value) parts rest others is.1.0 other begins
    (one_spelling parts rest is.1.0 other same_words (All-tail IsPart (apart valued value) parts lawful)
    (lawful_more (apart valued value) others is.1.0 begins also))
