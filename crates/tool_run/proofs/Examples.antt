-- What some words, lines and answers of sinks are, and what they aren't.
use Rattle.std.proofs.Common.{◌≡◌, inl, inr, ℕ, true, false, List, [], ◌∷◌, ◌++◌, All, Contains, length, Option, Some, None, codes, refl, ap, arith}
use Rattle.std.specs.Fmt.{digits}
use Rattle.std.proofs.lemmas.List.{length-take}
use Rattle.clause_text.specs.declared.cause.Cause.TheVariants.{NoRoot, Stuck}
use Rattle.file_library.specs.Library.{Files}
use Rattle.import_rules.specs.declared.names.PredName.{PredName}
use Rattle.import_rules.specs.Program.{Seen}
use Rattle.loop_report.specs.Spelled.{spelled_name}
use Rattle.list_laws.proofs.OneOrder.{nothing_in, first_or_rest}
use Rattle.std.proofs.lemmas.List.Elements.{All-cons}
use Rattle.file_library.specs.Asking.{LoadEnd, loaded, too_many, too_large, too_much, IsDecided}
use Rattle.file_library.specs.Asking as of_load
use Rattle.tool_run.specs.declared.sink.Put.TheVariants.{Took, Failed}
use Rattle.tool_run.specs.declared.sink.Flushed.TheVariants.{Done}
use Rattle.tool_run.specs.declared.stop.Limit.TheVariants.{FileTooLarge}
use Rattle.tool_run.specs.Say.{SaidIs, TookPart}
use Rattle.tool_run.specs.Sink.{sink_seen, PutIs, FlushIs}
use Rattle.tool_run.specs.Lines.{fault_line, fault_lines, limit_line, missing_line}
use Rattle.tool_run.specs.Answer.{LoadEndComesTo, IsAnswer}
use Rattle.tool_run.specs.End.{unread}
use Rattle.tool_run.specs.Wanted.{IsJust, IsNothingAsked, made_name, files_read}
use Rattle.tool_run.specs.Roots.{IsFirstMissing, LacksRoot, asked_names}
use Rattle.tool_run.specs.Tool.{Tool}

-- the made text is the one file that is read

made_file : files_read (Some 1) (λ name. None) made_name ≡ Some (codes "p0.\n")
unfolding digits
made_file = refl

no_other_file : (files : Files) → files_read (Some 1) files (codes "f.pl") ≡ None
no_other_file files = refl

-- what is handed over is wanted, and nothing besides
just_this : {A : Type 0} (asked : A) → IsNothingAsked (IsJust asked) → ⊥
just_this {A} asked none = none asked refl

-- the first name of a list that is missing, in the order of the list

-- a program without predicates
abbrev empty : Seen
empty = record { loaded = record { files = []; absent = []; roots = []; texts = [] }; predicates = [] }

abbrev named : ℕ → PredName
named arity = record { «module» = codes "a"; name = codes "p"; arity = arity }

abbrev two : List PredName
two = named 0 ∷ named 1 ∷ []

has_first : Contains two (named 0)
has_first = (0, omega arith, refl)

third_missing : IsFirstMissing two (named 0 ∷ named 3 ∷ named 2 ∷ []) (named 3)
third_missing = record {
  before = named 0 ∷ [];
  after = named 2 ∷ [];
  is = refl;
  there = All-cons (Contains two) (named 0) [] has_first (λ k d less. let none : ⊥ = omega (arith, less) in absurd none);
  missing = λ has.
      elim (first_or_rest (named 0) (named 3) (named 1 ∷ []) has) [
        | inl same ↦ omega (arith, ap (λ (p : PredName). p.arity) same)
        | inr later ↦
            elim (first_or_rest (named 1) (named 3) [] later) [
              | inl same ↦ omega (arith, ap (λ (p : PredName). p.arity) same)
              | inr none ↦ nothing_in (named 3) none
            ]
      ];
}

-- behind one that is missing no other is the first
later_missing : LacksRoot (Some (named 3 ∷ named 2 ∷ [])) empty (named 2) → ⊥
later_missing is = later is.before is.after is.is is.there
  where
    later : (before after : List PredName) → named 3 ∷ named 2 ∷ [] ≡ before ++ named 2 ∷ after → All (Contains []) before → ⊥
    later [] after same there =
        let first : named 3 ≡ named 2 = cc in
        omega (arith, ap (λ (p : PredName). p.arity) first)
    later (p ∷ before) after same there = nothing_in p (there 0 p (omega arith))

-- without a list no root is missing
none_missing : (seen : Seen) (root : PredName) → LacksRoot None seen root → ⊥
none_missing seen root is = is

-- the names asked for are those of the list, and behind them the ends of a path

path_alone : asked_names (Some (named 0, named 1)) None ≡ Some (named 0 ∷ named 1 ∷ [])
path_alone = refl

path_behind : asked_names (Some (named 3, named 2)) (Some (named 1 ∷ [])) ≡ Some (named 1 ∷ named 3 ∷ named 2 ∷ [])
path_behind = refl

-- that a file could not be read is no answer over a map
no_failed_read : {A : Type 0} (tool : Tool A) (wanted : A → Type 0) (files : Files) (name : List ℕ) → IsAnswer tool wanted files (unread name) → ⊥
no_failed_read {A} tool wanted files name is = undecided is.load is.decided is.comes
  where
    undecided : (load : LoadEnd) → IsDecided load → LoadEndComesTo tool is.asked load (unread name) → ⊥
    undecided (loaded found) decided comes = comes
    undecided (of_load.faults found) decided comes = cc
    undecided (of_load.unread other) decided comes = decided
    undecided too_many decided comes = cc
    undecided (too_large other) decided comes = cc
    undecided too_much decided comes = cc
    undecided of_load.no_memory decided comes = decided

-- lines

with_its_place : fault_line (record { file = codes "f.pl"; offset = 7; place = record { line = 1; column = 8 }; cause = Stuck }) ≡ codes "f.pl:1:8: no clause goes on with this token\n"
unfolding digits
with_its_place = refl

without_place : fault_lines (record { file = codes "f.pl"; offset = 0; place = record { line = 0; column = 0 }; cause = NoRoot } ∷ []) ≡ codes "f.pl: no such file\n"
without_place = refl

too_large_line : limit_line (codes "groups") (FileTooLarge (codes "f.pl")) ≡ codes "groups: f.pl is larger than 8388608 bytes\n"
too_large_line = refl

missing_root_line : missing_line (codes "calls") (named 2) ≡ codes "calls: no predicate a:p/2\n"
unfolding digits spelled_name
missing_root_line = refl

-- a sink takes some of the bytes, from the first on; never none, and no more than there are

took_two : PutIs (codes "abc") (sink_seen (Some (codes "x")) 0 true) (sink_seen (Some (codes "xab")) 0 false) (Took 2)
took_two = (omega arith, omega arith, refl, refl)

took_none : PutIs (codes "abc") (sink_seen (Some []) 0 true) (sink_seen (Some []) 0 false) (Took 0) → ⊥
took_none is = omega (arith, is.0)

took_too_many : PutIs (codes "a") (sink_seen (Some []) 0 true) (sink_seen (Some (codes "a")) 0 false) (Took 2) → ⊥
took_too_many is = omega (arith, is.1)

failed_uncounted : PutIs (codes "a") (sink_seen None 3 true) (sink_seen None 3 true) Failed → ⊥
failed_uncounted is = elim is.2 [ inl rose ↦ omega (arith, rose) | inr end ↦ omega (arith, end) ]

flushed : FlushIs (sink_seen (Some []) 0 false) (sink_seen (Some []) 0 true) Done
flushed = (refl, refl)

not_settled : FlushIs (sink_seen (Some []) 0 false) (sink_seen (Some []) 0 false) Done → ⊥
not_settled is = let both : false ≡ true = is.1 in cc

-- all of the bytes were said, or a part of them and a fault was counted

said_all : SaidIs (codes "ab") (sink_seen (Some []) 0 true) (sink_seen (Some (codes "ab")) 0 true) true
said_all = record { is = refl; is_settled = refl }

said_part : SaidIs (codes "ab") (sink_seen (Some []) 0 true) (sink_seen (Some (codes "a")) 1 false) false
said_part = record { count = 1; is = refl; rose = inl (omega arith) }

abbrev held : Option (List ℕ) → ℕ
held (Some bytes) = length bytes
held None = 0

part_for_all : SaidIs (codes "ab") (sink_seen (Some []) 0 true) (sink_seen (Some (codes "a")) 0 true) true → ⊥
part_for_all is = omega (arith, ap held is.is)

other_bytes : TookPart (codes "ab") (sink_seen (Some []) 0 true) (sink_seen (Some (codes "abc")) 1 false) → ⊥
other_bytes is = omega (arith, ap held is.is, length-take is.count (codes "ab"))
