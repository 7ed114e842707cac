-- Callees as they are read, one after another.
use Rattle.std.proofs.Common.{◌≡◌, ℕ, ◌+◌, ◌<◌, ◌≤◌, ◌++◌, List, [], ◌∷◌, length, map, drop, refl, sym, ap, subst, ◌∙◌, arith}
use Rattle.std.specs.Prelude.{slice_range}
use Rattle.std.proofs.lemmas.List.{append-nil, append_assoc, map-append, map_push}
use Rattle.list_laws.specs.Counts.{IsLonger}
use Rattle.byte_names.specs.Names.{name_at}
use Rattle.edge_text.specs.declared.words.Word.{Word}
use Rattle.edge_text.specs.EdgeGraph.{call_of}
use Rattle.edge_text.specs.Lines.{words_of}
use Rattle.edge_text.specs.Read.{AreAdded, IsNamed, Read}
use Rattle.edge_text.specs.Words.{IsNextWord}
use Rattle.edge_text.proofs.Added.{more_added, name_stays, none_added}

-- the words of a line from one offset up to another are read as callees
pub record AreCalleesRead (line : List ℕ) (start from : ℕ) (old : Read) (at : ℕ) (now : Read) : Type 0 where
  pub after : start ≤ at
  pub within : at ≤ length line
  pub done : List (List ℕ)
  pub whole : words_of (drop start line) ≡ done ++ words_of (drop at line)
  pub names : AreAdded done old.names now.names
  pub calls : now.calls ≡ old.calls ++ map (call_of (name_at old.names from)) done
  pub few : length now.names + start ≤ length old.names + at

pub no_callees : (line : List ℕ) (start from : ℕ) (old : Read) → start ≤ length line → AreCalleesRead line start from old start old
no_callees line start from old within = record {
  after = omega arith;
  within = within;
  done = [];
  whole = refl;
  names = none_added old.names;
  calls = sym (append-nil old.calls);
  few = omega arith;
}

-- one more word: its name gets an index, and it is called
pub one_callee : (line : List ℕ) (start from at : ℕ) (old now mid new : Read) (word : Word) (to : ℕ) → AreCalleesRead line start from old at now
    → from < length old.names → IsNextWord line at word → AreAdded (slice_range line word.start word.end ∷ []) now.names mid.names
    → IsNamed (slice_range line word.start word.end) mid.names to → length mid.names ≤ length now.names + 1 → mid.calls ≡ now.calls → new.names ≡ mid.names
    → new.calls ≡ mid.calls ++ call_of (name_at mid.names from) (name_at mid.names to) ∷ [] → AreCalleesRead line start from old word.end new
one_callee line start from at old now mid new word to read below found added named one kept same called =
    let name = slice_range line word.start word.end in
    let f = call_of (name_at old.names from) in
    let both : AreAdded (read.done ++ name ∷ []) old.names mid.names = more_added read.done (name ∷ []) old.names now.names mid.names read.names added in
    let caller : name_at mid.names from ≡ name_at old.names from = name_stays old.names mid.names from both.longer below in
    record {
      after = omega (arith, read.after, found.after, found.ordered);
      within = found.within;
      done = read.done ++ name ∷ [];
      whole =
          read.whole ∙ ap (λ ws. read.done ++ ws) found.is
          ∙ sym (append_assoc read.done (name ∷ []) (words_of (drop word.end line)));
      names = subst (AreAdded (read.done ++ name ∷ []) old.names) (sym same) both;
      calls =
          called ∙ (λ i. kept i ++ call_of (caller i) (named.is i) ∷ [])
          ∙ ap (λ cs. cs ++ f name ∷ []) read.calls
          ∙ append_assoc old.calls (map f read.done) (f name ∷ [])
          ∙ ap (λ cs. old.calls ++ cs) (sym (map_push f read.done name));
      few = omega (arith, read.few, one, ap length same, found.after, found.ordered);
    }

-- no word is left
pub callees_done : (line : List ℕ) (start from at : ℕ) (old now : Read) (read : AreCalleesRead line start from old at now)
    → words_of (drop at line) ≡ [] → read.done ≡ words_of (drop start line)
callees_done line start from at old now read none =
    sym (append-nil read.done) ∙ ap (λ ws. read.done ++ ws) (sym none) ∙ sym read.whole

-- the calls so far are the first of all of the line
pub callees_cut : (line : List ℕ) (start from at : ℕ) (old now : Read) → AreCalleesRead line start from old at now
    → IsLonger now.calls (old.calls ++ map (call_of (name_at old.names from)) (words_of (drop start line)))
callees_cut line start from at old now read =
    let f = call_of (name_at old.names from) in
    let rest = words_of (drop at line) in
    record {
      more = map f rest;
      is =
          ap (λ ws. old.calls ++ map f ws) read.whole ∙ ap (λ cs. old.calls ++ cs) (map-append f read.done rest)
          ∙ sym (append_assoc old.calls (map f read.done) (map f rest)) ∙ ap (λ cs. cs ++ map f rest) (sym read.calls);
    }
