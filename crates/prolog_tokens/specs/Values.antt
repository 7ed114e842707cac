-- What names and integers stand for.
use Rattle.std.specs.Prelude.{◌≡◌, ◌≢◌, ℕ, ◌+◌, ◌-◌, ◌<◌, ◌≤◌, ◌⊎◌, List, [], ◌∷◌, Option, Some, None, slice_range}
use Rattle.std.specs.Char.{encode_utf8}
use Rattle.std.specs.List.{flat_map}
use Rattle.prolog_tokens.specs.declared.token.Kind.{Kind}
use Rattle.prolog_tokens.specs.declared.token.Kind.TheVariants.{Name, Quoted, Integer}
use Rattle.prolog_tokens.specs.declared.token.Token.{Token}
use Rattle.prolog_tokens.specs.Quoted.{Part, plain, twice, escape, IsPart, AreParts}
use Rattle.prolog_tokens.specs.Numbers.{IsInteger}

-- the bytes that a part stands for
abbrev pub part_bytes : ℕ → Part → List ℕ
part_bytes q (plain x) = x ∷ []
part_bytes q twice = q ∷ []
part_bytes q (escape None) = []
part_bytes q (escape (Some c)) = encode_utf8 c

-- what stands between the quotes of an item, one at a and one before b
pub record IsQuotedText (text : List ℕ) (q a b : ℕ) (bytes : List ℕ) : Type 0 where
  pub parts : List Part
  pub are : AreParts text q (a + 1) parts (b - 1)
  pub is : bytes ≡ flat_map (part_bytes q) parts

-- the name of a token of the kind that is spelled from a to b
abbrev pub NameTextBy : List ℕ → ℕ → ℕ → List ℕ → Kind → Type 0
NameTextBy text a b name Name = name ≡ slice_range text a b
NameTextBy text a b name Quoted = IsQuotedText text 39 a b name
NameTextBy text a b name _ = ⊥

-- the name of a Name or Quoted token
abbrev pub IsNameText : List ℕ → Token → List ℕ → Type 0
IsNameText text t name = NameTextBy text t.start t.end name t.kind

-- the greatest value of an integer that is read
abbrev pub greatest_value : ℕ
greatest_value = 4294967295

-- the value of a token: that of an Integer, where it isn't too great
abbrev pub IsIntegerValue : List ℕ → Token → Option ℕ → Type 0
IsIntegerValue text t (Some n) = (t.kind ≡ Integer) × (n ≤ greatest_value) × IsInteger text t.start n t.end
IsIntegerValue text t None = (t.kind ≢ Integer) ⊎ ((n : ℕ) × (greatest_value < n) × IsInteger text t.start n t.end)

-- what is read of a number: itself, or none where it is too great
abbrev pub IsRead : ℕ → Option ℕ → Type 0
IsRead n (Some r) = (r ≡ n) × (n ≤ greatest_value)
IsRead n None = greatest_value < n

-- the part that the character, if any, stands for: the quote written twice, or an escape
abbrev pub IsMeant : List ℕ → ℕ → ℕ → Option ℕ → ℕ → Type 0
IsMeant text q a c b = ((c ≡ Some q) × IsPart text q a twice b) ⊎ IsPart text q a (escape c) b
