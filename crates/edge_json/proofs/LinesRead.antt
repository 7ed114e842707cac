-- The names of lines as they are read.
use Rattle.std.proofs.Common.{◌≡◌, ℕ, ◌+◌, ◌<◌, ◌≤◌, ◌++◌, Bool, true, false, List, [], ◌∷◌, length, get_or, take, drop, suc, sym, ap, subst, ◌∙◌, arith}
use Rattle.std.specs.List.{flat_map}
use Rattle.std.proofs.Math.Seq.{take-suc}
use Rattle.std.proofs.lemmas.Grind.{flat_map-append}
use Rattle.std.proofs.lemmas.List.{append-nil, length-append, take-append-drop, take_all}
use Rattle.byte_names.specs.Names.{name_at}
use Rattle.edge_text.specs.declared.limits.TheConstants.{MOST_BYTES, MOST_EDGES}
use Rattle.edge_text.specs.EdgeGraph.{Said, call_of, calls_of}
use Rattle.edge_text.specs.Read.{AreAdded, IsNamed, Read}
use Rattle.edge_text.proofs.Added.{more_added, name_stays, none_added}
use Rattle.edge_json.specs.Said.{AreLinesRead, said_of}

-- a line of two names: the second one is added, and the first calls it
pub edge_read : (from to : List ℕ) (old mid last : Read) (a b : ℕ) → IsNamed from mid.names a → IsNamed to last.names b → AreAdded (from ∷ []) old.names mid.names
    → AreAdded (to ∷ []) mid.names last.names → AreAdded (from ∷ to ∷ []) old.names last.names × (call_of (name_at last.names a) (name_at last.names b) ≡ call_of from to)
edge_read from to old mid last a b named also first second =
    let stays : name_at last.names a ≡ name_at mid.names a = name_stays mid.names last.names a second.longer named.within in (
      more_added (from ∷ []) (to ∷ []) old.names mid.names last.names first second,
      λ i. call_of ((stays ∙ named.is) i) (also.is i),
    )

-- so many lines are read
pub record AreRead (lines : List (List (List ℕ))) (count : ℕ) (now : Read) : Type 0 where
  pub names : AreAdded (flat_map (λ line. line) (take count lines)) [] now.names
  pub calls : now.calls ≡ flat_map calls_of (take count lines)
  pub few : length now.calls ≤ MOST_EDGES
  pub fewer : length now.names ≤ count + count

pub none_read : (lines : List (List (List ℕ))) (now : Read) → now.names ≡ [] → now.calls ≡ [] → AreRead lines 0 now
none_read lines now names calls = record {
  names = subst (λ ns. AreAdded [] [] ns) (sym names) (none_added []);
  calls = calls;
  few = omega (arith, ap length calls);
  fewer = omega (arith, ap length names);
}

flat_more : {X : Type 0} (f : List (List ℕ) → List X) (lines : List (List (List ℕ))) (count : ℕ) → count < length lines
    → flat_map f (take (count + 1) lines) ≡ flat_map f (take count lines) ++ f (get_or lines count [])
flat_more {X} f lines count lt =
    let next : count + 1 ≡ suc count = omega arith in
    let line = get_or lines count [] in
    ap (λ n. flat_map f (take n lines)) next ∙ ap (flat_map f) (take-suc lines count [] lt)
    ∙ flat_map-append f (take count lines) (line ∷ [])
    ∙ ap (λ xs. flat_map f (take count lines) ++ xs) (append-nil (f line))

calls_more : (lines : List (List (List ℕ))) (count : ℕ) (old new : Read) → AreRead lines count old → count < length lines
    → new.calls ≡ old.calls ++ calls_of (get_or lines count []) → new.calls ≡ flat_map calls_of (take (count + 1) lines)
calls_more lines count old new read lt called =
    called ∙ ap (λ cs. cs ++ calls_of (get_or lines count [])) read.calls ∙ sym (flat_more calls_of lines count lt)

pub one_read : (lines : List (List (List ℕ))) (count : ℕ) (old new : Read) → AreRead lines count old → count < length lines
    → AreAdded (get_or lines count []) old.names new.names → new.calls ≡ old.calls ++ calls_of (get_or lines count [])
    → length new.names ≤ length old.names + 2 → length new.calls ≤ MOST_EDGES → AreRead lines (count + 1) new
one_read lines count old new read lt added called more few =
    let all = flat_map (λ (line : List (List ℕ)). line) (take count lines) in
    let line = get_or lines count [] in
    record {
      names =
          subst (λ ws. AreAdded ws [] new.names) (sym (flat_more (λ names. names) lines count lt))
          (more_added all line [] old.names new.names read.names added);
      calls = calls_more lines count old new read lt called;
      few = few;
      fewer = omega (arith, read.fewer, more);
    }

pub too_many : (lines : List (List (List ℕ))) (count : ℕ) (old new : Read) → AreRead lines count old → count < length lines
    → new.calls ≡ old.calls ++ calls_of (get_or lines count []) → MOST_EDGES < length new.calls → AreLinesRead (said_of lines) new false
too_many lines count old new read lt called many =
    let parts : flat_map calls_of lines ≡ flat_map calls_of (take (count + 1) lines) ++ flat_map calls_of (drop (count + 1) lines) =
    ap (flat_map calls_of) (sym (take-append-drop (count + 1) lines))
    ∙ flat_map-append calls_of (take (count + 1) lines) (drop (count + 1) lines) in
    omega (
      arith,
      many,
      ap length (calls_more lines count old new read lt called),
      ap length parts,
      length-append (flat_map calls_of (take (count + 1) lines)) (flat_map calls_of (drop (count + 1) lines)),
    )

pub all_read : (lines : List (List (List ℕ))) (count : ℕ) (now : Read) → AreRead lines count now → length lines ≤ count → count ≤ MOST_BYTES + 1
    → AreLinesRead (said_of lines) now true
all_read lines count now read end small =
    let all : take count lines ≡ lines = take_all count lines end in (
      record {
        names = subst (λ ls. AreAdded (flat_map (λ line. line) ls) [] now.names) all read.names;
        calls = read.calls ∙ ap (flat_map calls_of) all;
        few = read.few;
      },
      omega (arith, read.fewer, small),
    )

-- which is what an answer of true says
pub whole_of : (said : Said) (read : Read) (b : Bool) → AreLinesRead said read b → b ≡ true → AreLinesRead said read true
whole_of said read true is e = is
whole_of said read false is e = absurd (let clash : false ≡ true = e in cc)
