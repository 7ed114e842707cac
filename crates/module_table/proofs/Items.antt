-- What a list of terms is found to be.
use Rattle.std.specs.Prelude.{All, IfSome, ◌<◌, ℕ, length, get_or}
use Rattle.std.proofs.lemmas.List.Elements.{All-get_or}
use Rattle.std.proofs.Common.{subst, Vec, Global, ◌≡◌, List, Option, Some, None, option_map, map, ap, sym, ◌∙◌}

module _ {A B : Type 0} (f : A → B) (list : Option (List B)) (found : Option (Vec A Global)) where
  pub items_found : (items : Vec A Global) (slice : List A) → option_map (λ (vec : Vec A Global). map f vec.items) found ≡ list → found ≡ Some items → slice ≡ items.items
      → list ≡ Some (map f slice)
  items_found items slice is some same = sym is ∙ (ap (option_map (λ (vec : Vec A Global). map f vec.items)) some ∙ ap (λ xs. Some (map f xs)) (sym same))

  pub none_found : option_map (λ (vec : Vec A Global). map f vec.items) found ≡ list → found ≡ None → list ≡ None
  none_found is none = sym is ∙ ap (option_map (λ (vec : Vec A Global). map f vec.items)) none

-- what holds of all that is found holds of each
pub item_of : {A : Type 0} (P : A → Type 0) (found : Option (Vec A Global)) (items : Vec A Global) (slice : List A) (at : ℕ) (item : A)
    → IfSome found (λ (vec : Vec A Global). All P vec.items) → found ≡ Some items → slice ≡ items.items → at < length slice → item ≡ get_or slice at item → P item
item_of P found items slice at item all some same below is =
    let here : IfSome (Some items) (λ (vec : Vec _ Global). All P vec.items) = subst (λ found. IfSome found (λ (vec : Vec _ Global). All P vec.items)) some all in
    subst P (sym is) (All-get_or P slice at item below (subst (All P) (sym same) here))
