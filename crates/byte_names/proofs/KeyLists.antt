-- Keys of names.
use Rattle.std.proofs.Common.{◌≡◌, ℕ, ◌+◌, ◌++◌, List, [], ◌∷◌, Contains, IsPermutation, sym, subst, ◌∙◌, below_more, arith}
use Rattle.std.proofs.lemmas.List.{length_push, map_push}
use Rattle.std.proofs.lemmas.List.Elements.{All-push, Contains-append_left, Contains-push}
use Rattle.std.proofs.lemmas.List.Sorted.{All-permutation, Contains-permutation, IsPermutation-map, length_permutation}
use Rattle.byte_names.specs.declared.ranked.Keyed.{Keyed}
use Rattle.byte_names.specs.Keys.{AreKeys, IsKey, places}

pub key_more : (names : List (List ℕ)) (count : ℕ) (keys : List Keyed) (key : Keyed) → AreKeys names count keys → IsKey names key → key.place ≡ count
    → AreKeys names (count + 1) (keys ++ key ∷ [])
key_more names count keys key are is here =
    let more : places (keys ++ key ∷ []) ≡ places keys ++ key.place ∷ [] = map_push (λ (k : Keyed). k.place) keys key in
    record {
      long = omega (arith, length_push keys key, are.long);
      each = All-push (IsKey names) keys key are.each is;
      all = below_more (λ place. Contains (places (keys ++ key ∷ [])) place) count
          (λ place below. subst (λ ps. Contains ps place) (sym more) (Contains-append_left (places keys) (key.place ∷ []) place (are.all place below)))
          (subst (λ place. Contains (places (keys ++ key ∷ [])) place) here
          (subst (λ ps. Contains ps key.place) (sym more) (Contains-push (places keys) key.place)));
    }

pub keys_moved : (names : List (List ℕ)) (count : ℕ) (keys moved : List Keyed) → AreKeys names count keys → IsPermutation keys moved → AreKeys names count moved
keys_moved names count keys moved are is = record {
  long = length_permutation keys moved is ∙ are.long;
  each = All-permutation (IsKey names) keys moved is are.each;
  all = λ place below.
      Contains-permutation (places keys) (places moved) place (IsPermutation-map (λ (k : Keyed). k.place) keys moved is) (are.all place below);
}
