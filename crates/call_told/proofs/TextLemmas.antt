-- Texts to which one piece after another is added.
use Rattle.std.proofs.Common.{◌≡◌, ℕ, ◌+◌, ◌<◌, Bool, List, [], ◌∷◌, ◌++◌, length, take, get_or, ap, sym, subst, ◌∙◌}
use Rattle.std.specs.Prelude.{is_some}
use Rattle.std.specs.List.{flat_map}
use Rattle.std.proofs.lemmas.List.{flat_map_more, take_more}
use Rattle.prolog_tokens.specs.declared.token.Place.{Place}
use Rattle.group_release.specs.declared.level.Level.{Level}
use Rattle.import_rules.specs.Program.{Seen}
use Rattle.call_edges.specs.CallPlaces.{CallAt}
use Rattle.call_table.specs.Directives.{ArePlacedDirectives}
use Rattle.call_table.specs.Marks.{AreMarked, ProgramMarks}
use Rattle.call_told.specs.Told.{IsReach, TellsBoth, TellsDirectives, TellsForm, TellsFrom, directive_lines}
use Rattle.call_told.specs.Wanted.{Asked}

-- the pieces of one more
pub piece_more : {X : Type 0} (f : X → List ℕ) (xs : List X) (i : ℕ) (x : X) (before text next : List ℕ) → i < length xs → x ≡ get_or xs i x
    → text ≡ before ++ flat_map f (take i xs) → next ≡ text ++ f x → next ≡ before ++ flat_map f (take (i + 1) xs)
piece_more {X} f xs i x before text next less is so_far pushed =
    pushed
    ∙ (ap (λ t. t ++ f x) so_far
    ∙ (flat_map_more f before (take i xs) x ∙ ap (λ ys. before ++ flat_map f ys) (sym (take_more xs i x less ∙ ap (λ y. take i xs ++ y ∷ []) (sym is)))))

-- what is added to no text is all
pub from_nothing : (text next piece : List ℕ) → text ≡ [] → next ≡ text ++ piece → next ≡ piece
from_nothing text next piece none is = is ∙ ap (λ t. t ++ piece) none

-- the bytes of a text tell of the program what the text does
pub tells_from : (asked : Asked) (own seen : Seen) (roots : List ℕ) (groups : List (List ℕ)) (levels : List Level) (places nodes text bytes : List ℕ) (marks : ProgramMarks)
    → own ≡ seen → IsReach asked own roots groups levels places nodes → AreMarked (is_some asked.settings.roots) own roots marks
    → TellsForm asked.form own groups levels places marks nodes text → bytes ≡ text → TellsFrom asked seen roots bytes
tells_from asked own seen roots groups levels places nodes text bytes marks same reach marked tells is =
    subst (λ (s : Seen). TellsFrom asked s roots bytes) same
    (record {
      groups = groups;
      levels = levels;
      places = places;
      marks = marks;
      nodes = nodes;
      reach = reach;
      marked = marked;
      tells = subst (TellsForm asked.form own groups levels places marks nodes) (sym is) tells;
    })

-- what is told of a table, with what is told of directives behind it
pub behind_table : (Table Directives : List ℕ → Type 0) (front bytes : List ℕ) → Table front → TellsBoth (λ first. first ≡ front) Directives bytes
    → TellsBoth Table Directives bytes
behind_table Table Directives front bytes table both = record {
  front = both.front;
  rest = both.rest;
  table = subst Table (sym both.table) table;
  directives = both.directives;
  is = both.is;
}

-- the lines of calls of directives are all that is told of them
pub directives_told : (undefined : Bool) (seen : Seen) (calls : List CallAt) (places : List Place) (shown : List CallAt) (shown_places : List Place) (text next : List ℕ)
    → ArePlacedDirectives seen calls places → shown ≡ calls → shown_places ≡ places → text ≡ [] → next ≡ text ++ directive_lines undefined seen shown shown_places
    → TellsDirectives undefined seen next
directives_told undefined seen calls places shown shown_places text next are same same_places none is = record {
  calls = calls;
  places = places;
  are = are;
  is = from_nothing text next (directive_lines undefined seen shown shown_places) none is ∙ (λ i. directive_lines undefined seen (same i) (same_places i));
}
