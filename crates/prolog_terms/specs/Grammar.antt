-- Which trees are lawful, each with all the words that it is written in.
use Rattle.std.specs.Prelude.{ℕ, ◌≡◌, ◌≤◌, ◌<◌, suc, max, true, List, [], ◌∷◌, ◌++◌, is_some, ◌⊎◌}
use Rattle.prolog_tokens.specs.declared.token.Kind.TheVariants.{OpenRound, CloseRound, OpenSquare, CloseSquare, OpenCurly, CloseCurly, Comma, Bar, End}
use Rattle.prolog_terms.specs.Words.{Word, Table, sides_of, is_leaf, is_functor, is_negative, is_atom, is_prefix}

-- what comes before the arguments of a bracket: a functor and its `(`, or a `[`
pub data GroupStart : Type 0 where
  call : Word → Word → GroupStart
  square : Word → GroupStart

mutual
  -- a tree with its words
  pub data Parse : Type 0 where
    -- a variable, a number or a text
    leaf : Word → Parse
    -- a minus and its number
    negative : Word → Word → Parse
    -- an atom
    bare : Word → Parse
    -- `[]` or `{}`
    pair : Word → Word → Parse
    -- a functional term, or a list with no tail
    group : GroupStart → Parts → Word → Parse
    -- a list: `[`, the items, the bar, the tail, `]`
    tailed : Word → Parts → Word → Parse → Word → Parse
    -- a term in round or curly brackets
    wrapped : Word → Parse → Word → Parse
    prefixed : Word → Parse → Parse
    infixed : Parse → Word → Parse → Parse
    postfixed : Parse → Word → Parse

  -- one or more trees with commas between
  pub data Parts : Type 0 where
    one : Parse → Parts
    more : Parts → Word → Parse → Parts

abbrev pub start_yield : GroupStart → List Word
start_yield (call functor bracket) = functor ∷ bracket ∷ []
start_yield (square bracket) = bracket ∷ []

-- the words of a tree, in order
abbrev mutual
  pub yield : Parse → List Word
  yield (leaf w) = w ∷ []
  yield (negative w n) = w ∷ n ∷ []
  yield (bare w) = w ∷ []
  yield (pair o c) = o ∷ c ∷ []
  yield (group g xs c) = start_yield g ++ (parts_yield xs ++ c ∷ [])
  yield (tailed o xs b t c) = o ∷ (parts_yield xs ++ b ∷ (yield t ++ c ∷ []))
  yield (wrapped o t c) = o ∷ (yield t ++ c ∷ [])
  yield (prefixed w r) = w ∷ yield r
  yield (infixed l w r) = yield l ++ w ∷ yield r
  yield (postfixed l w) = yield l ++ w ∷ []

  pub parts_yield : Parts → List Word
  parts_yield (one t) = yield t
  parts_yield (more xs w t) = parts_yield xs ++ w ∷ yield t

-- a variable, a constant and an atom have depth 1; every other form is one deeper than its deepest part
abbrev mutual
  pub parse_depth : Parse → ℕ
  parse_depth (leaf w) = 1
  parse_depth (negative w n) = 1
  parse_depth (bare w) = 1
  parse_depth (pair o c) = 1
  parse_depth (group g xs c) = suc (parts_depth xs)
  parse_depth (tailed o xs b t c) = suc (max (parts_depth xs) (parse_depth t))
  parse_depth (wrapped o t c) = suc (parse_depth t)
  parse_depth (prefixed w r) = suc (parse_depth r)
  parse_depth (infixed l w r) = suc (max (parse_depth l) (parse_depth r))
  parse_depth (postfixed l w) = suc (parse_depth l)

  pub parts_depth : Parts → ℕ
  parts_depth (one t) = parse_depth t
  parts_depth (more xs w t) = max (parts_depth xs) (parse_depth t)

-- the priority of an operator's term, and 0 of any other
abbrev pub priority : Table → Parse → ℕ
priority T (prefixed w r) = (sides_of (T.prefix w)).priority
priority T (infixed l w r) = (sides_of (T.infix_ w)).priority
priority T (postfixed l w) = (sides_of (T.postfix w)).priority
priority T _ = 0

-- the priority is above the right bound of each operator on the right spine of the tree
abbrev pub IsAboveSpine : Table → ℕ → Parse → Type 0
IsAboveSpine T p (prefixed w r) = ((sides_of (T.prefix w)).right < p) × IsAboveSpine T p r
IsAboveSpine T p (infixed l w r) = ((sides_of (T.infix_ w)).right < p) × IsAboveSpine T p r
IsAboveSpine T p _ = Unit {0}

-- before these words it opens arguments
abbrev pub Opens : GroupStart → List Word → Type 0
Opens (call functor bracket) after = is_functor functor (bracket ∷ after) ≡ true
Opens (square bracket) after = bracket.kind ≡ OpenSquare

abbrev pub Closes : GroupStart → Word → Type 0
Closes (call functor bracket) c = c.kind ≡ CloseRound
Closes (square bracket) c = c.kind ≡ CloseSquare

-- an empty pair of brackets that is an atom
abbrev pub IsPair : Word → Word → Type 0
IsPair o c = ((o.kind ≡ OpenSquare) × (c.kind ≡ CloseSquare)) ⊎ ((o.kind ≡ OpenCurly) × (c.kind ≡ CloseCurly))

-- brackets round one term
abbrev pub IsWrap : Word → Word → Type 0
IsWrap o c = ((o.kind ≡ OpenRound) × (c.kind ≡ CloseRound)) ⊎ ((o.kind ≡ OpenCurly) × (c.kind ≡ CloseCurly))

-- each node of the tree is lawful, where these words follow the tree
abbrev mutual
  pub IsKept : Table → Parse → List Word → Type 0
  IsKept T (leaf w) after = is_leaf w.kind ≡ true
  IsKept T (negative w n) after = is_negative w (n ∷ after) ≡ true
  IsKept T (bare w) after = is_atom T w after ≡ true
  IsKept T (pair o c) after = IsPair o c
  IsKept T (group g xs c) after = Opens g (parts_yield xs ++ c ∷ after) × AreKept T xs (c ∷ after) × Closes g c
  IsKept T (tailed o xs b t c) after =
      (o.kind ≡ OpenSquare) × AreKept T xs (b ∷ (yield t ++ c ∷ after)) × (b.kind ≡ Bar)
      × IsKept T t (c ∷ after) × (priority T t ≤ 999) × (c.kind ≡ CloseSquare)
  IsKept T (wrapped o t c) after = IsWrap o c × IsKept T t (c ∷ after) × (priority T t ≤ 1200)
  IsKept T (prefixed w r) after =
      (is_prefix T w (yield r ++ after) ≡ true) × IsKept T r after × (priority T r ≤ (sides_of (T.prefix w)).right)
  IsKept T (infixed l w r) after =
      (is_some (T.infix_ w) ≡ true) × IsKept T l (w ∷ (yield r ++ after)) × IsKept T r after
      × (priority T l ≤ (sides_of (T.infix_ w)).left) × (priority T r ≤ (sides_of (T.infix_ w)).right)
      × IsAboveSpine T (sides_of (T.infix_ w)).priority l
  IsKept T (postfixed l w) after =
      (is_some (T.postfix w) ≡ true) × IsKept T l (w ∷ after)
      × (priority T l ≤ (sides_of (T.postfix w)).left) × IsAboveSpine T (sides_of (T.postfix w)).priority l

  pub AreKept : Table → Parts → List Word → Type 0
  AreKept T (one t) after = IsKept T t after × (priority T t ≤ 999)
  AreKept T (more xs w t) after = AreKept T xs (w ∷ (yield t ++ after)) × (w.kind ≡ Comma) × IsKept T t after × (priority T t ≤ 999)

-- the tree is a clause before this End
pub record IsClause (T : Table) (t : Parse) (end : Word) : Type 0 where
  pub kept : IsKept T t (end ∷ [])
  pub within : priority T t ≤ 1200
  pub ends : end.kind ≡ End

-- some clause and its End begin with these words
pub record Begins (T : Table) (words : List Word) : Type 0 where
  pub tree : Parse
  pub end : Word
  pub more : List Word
  pub clause : IsClause T tree end
  pub is : yield tree ++ end ∷ [] ≡ words ++ more

-- some clause of at most this depth and its End begin with these words
pub record BeginsWithin (T : Table) (most : ℕ) (words : List Word) : Type 0 where
  pub begins : Begins T words
  pub shallow : parse_depth begins.tree ≤ most
