use Rattle.std.proofs.Common.{subst}
use Rattle.std.specs.Prelude.{Contains}
use Rattle.edge_text.specs.Lines.{words_of}
use Rattle.edge_text.proofs.WordPlaces.{place_word, word_place}
use Rattle.edge_text.proofs.laws.words_have_places.Goals as goal

pub returns : goal.returns
returns c line word = (
  λ has. let place = word_place line word has in (place.start, place.end, place.at, place.is),
  λ (start, end, at, is). subst (Contains (words_of line)) is (place_word line start end at),
)
