-- What a line says, by its first word.
use Rattle.std.proofs.Common.{◌≡◌, ℕ, true, false, ◌++◌, List, [], ◌∷◌, map, drop, cond, sym, ap, subst, ◌∙◌}
use Rattle.std.specs.Prelude.{slice_range}
use Rattle.std.proofs.lemmas.List.{append-nil}
use Rattle.list_laws.specs.Counts.{IsLonger}
use Rattle.byte_names.specs.Names.{name_at}
use Rattle.edge_text.specs.declared.words.Word.{Word}
use Rattle.edge_text.specs.EdgeGraph.{call_of, calls_of}
use Rattle.edge_text.specs.Lines.{is_comment, said_by, words_of}
use Rattle.edge_text.specs.Read.{AreAdded, IsLineRead, IsNamed, Read}
use Rattle.edge_text.specs.Words.{IsNextWord}
use Rattle.edge_text.proofs.Added.{more_added, none_added}

comment_says : (line : List ℕ) → is_comment line ≡ true → said_by line ≡ []
comment_says line is = ap (λ b. cond b [] (words_of line)) is

pub words_said : (line : List ℕ) → is_comment line ≡ false → said_by line ≡ words_of line
words_said line is = ap (λ b. cond b [] (words_of line)) is

nothing_read : (line : List ℕ) (read : Read) → said_by line ≡ [] → IsLineRead line read read
nothing_read line read none = record {
  names = subst (λ ws. AreAdded ws read.names read.names) (sym none) (none_added read.names);
  calls = sym (append-nil read.calls) ∙ ap (λ ws. read.calls ++ calls_of ws) (sym none);
}

pub comment_read : (line : List ℕ) (read : Read) → is_comment line ≡ true → IsLineRead line read read
comment_read line read is = nothing_read line read (comment_says line is)

pub empty_read : (line : List ℕ) (read : Read) → is_comment line ≡ false → words_of line ≡ [] → IsLineRead line read read
empty_read line read is none = nothing_read line read (words_said line is ∙ none)

-- a caller and its callees
pub line_read : (line : List ℕ) (old mid new : Read) (word : Word) (from : ℕ) → is_comment line ≡ false → IsNextWord line 0 word
    → IsNamed (slice_range line word.start word.end) mid.names from → AreAdded (slice_range line word.start word.end ∷ []) old.names mid.names
    → mid.calls ≡ old.calls → AreAdded (words_of (drop word.end line)) mid.names new.names
    → new.calls ≡ mid.calls ++ map (call_of (name_at mid.names from)) (words_of (drop word.end line)) → IsLineRead line old new
line_read line old mid new word from said found named added kept more called =
    let name = slice_range line word.start word.end in
    let rest = words_of (drop word.end line) in
    let says : said_by line ≡ name ∷ rest = words_said line said ∙ found.is in
    record {
      names =
          subst (λ ws. AreAdded ws old.names new.names) (sym says) (more_added (name ∷ []) rest old.names mid.names new.names added more);
      calls = called ∙ (λ i. kept i ++ map (call_of (named.is i)) rest) ∙ ap (λ ws. old.calls ++ calls_of ws) (sym says);
    }

-- a caller and the first of its callees
pub line_cut : (line : List ℕ) (old mid new : Read) (word : Word) (from : ℕ) → is_comment line ≡ false → IsNextWord line 0 word
    → IsNamed (slice_range line word.start word.end) mid.names from → mid.calls ≡ old.calls
    → IsLonger new.calls (mid.calls ++ map (call_of (name_at mid.names from)) (words_of (drop word.end line)))
    → IsLonger new.calls (old.calls ++ calls_of (said_by line))
line_cut line old mid new word from said found named kept cut =
    let rest = words_of (drop word.end line) in
    let says : said_by line ≡ slice_range line word.start word.end ∷ rest = words_said line said ∙ found.is in
    subst (IsLonger new.calls) ((λ i. kept i ++ map (call_of (named.is i)) rest) ∙ ap (λ ws. old.calls ++ calls_of ws) (sym says)) cut
