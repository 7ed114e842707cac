-- Calls of directives have their lines and columns, and these are one list.
use Rattle.std.proofs.Common.{◌≡◌, ℕ, Bool, List, map, sym, ◌∙◌, subst}
use Rattle.std.specs.List.{AllZip}
use Rattle.std.specs.declared.cmp.Ordering.TheVariants.{Less}
use Rattle.list_laws.proofs.OneOrder.{less_strict, same_order}
use Rattle.prolog_tokens.specs.declared.token.Place.{Place}
use Rattle.file_library.specs.Spots.{IsSpotPlace}
use Rattle.import_rules.specs.Program.{IsKnown, Seen}
use Rattle.call_edges.specs.CallPlaces.{CallAt, call_cmp}
use Rattle.call_edges.proofs.DirectiveCallLemmas.{directive_calls_stand}
use Rattle.call_edges.proofs.PlacedCallLemmas.{call_cmp_total}
use Rattle.call_table.specs.Directives.{ArePlacedDirectives}
use Rattle.call_table.specs.Table.{call_spot}
use Rattle.call_told.specs.Told.{TellsDirectives, directive_lines}
use Rattle.laws.proofs.CallTables.{each_place}
use Rattle.laws.proofs.OneTable.{same_places}
use Rattle.laws.proofs.OrderedClauses.{has_directives}

pub record SomeDirectives (seen : Seen) : Type 0 where
  pub calls : List CallAt
  pub places : List Place
  pub are : ArePlacedDirectives seen calls places

pub some_directives : (seen : Seen) → IsKnown seen → SomeDirectives seen
some_directives seen known =
    let calls = has_directives seen in
    let places = each_place call_spot seen.loaded.texts calls.0 (directive_calls_stand seen calls.0 known calls.1) in
    record { calls = calls.0; places = places.0; are = record { are = calls.1; placed = places.1 } }

-- one text is told of them
pub one_of_directives : (undefined : Bool) (seen : Seen) (bytes other : List ℕ) → TellsDirectives undefined seen bytes → TellsDirectives undefined seen other
    → bytes ≡ other
one_of_directives undefined seen bytes other is also =
    let texts = seen.loaded.texts in
    let calls : is.calls ≡ also.calls =
    same_order (λ a b. call_cmp a b ≡ Less) (less_strict call_cmp call_cmp_total) is.calls also.calls is.are.are.ordered also.are.are.ordered
    (λ c has. (also.are.are.each c).1 ((is.are.are.each c).0 has)) (λ c has. (is.are.are.each c).1 ((also.are.are.each c).0 has)) in
    let P : List CallAt → Type 0 = λ cs. AllZip (IsSpotPlace texts) (map call_spot cs) is.places in
    let places : is.places ≡ also.places =
    same_places texts (map call_spot also.calls) is.places also.places (subst P calls is.are.placed) also.are.placed in
    is.is ∙ ((λ i. directive_lines undefined seen (calls i) (places i)) ∙ sym also.is)
