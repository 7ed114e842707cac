use Rattle.std.proofs.Common.{◌≡◌, ◌+◌, ◌*◌, ◌≤◌, ◌++◌, ℕ, List, length, take}
use Rattle.prolog_tokens.specs.Cut.{StandBetween, ended}
use Rattle.prolog_names.specs.Names.{IsOpened, known_names}
use Rattle.prolog_names.specs.Numbers.{AreNumbered}
use Rattle.prolog_names.specs.Table.{bytes_of}
use Rattle.prolog_names.proofs.numbers.number_each.Given as goal

-- the tokens so far are numbered, and the table has at most a name more for each; its names have at most four bytes for each that the tokens have
abbrev pub invariant-loop-at : goal.invariant-loop-at
invariant-loop-at l = record {
  numbered : AreNumbered l.text l.table (take l.at l.tokens) l.numbers.items;
  opened : IsOpened l.table;
  kept : (more : List (List ℕ)) × (l.table ≡ l.initial.table ++ more) × (length more ≤ l.at);
  few : (from to : ℕ) → StandBetween l.text from l.tokens to → bytes_of l.initial.table ≤ 4 * from + bytes_of known_names
      → bytes_of l.table ≤ 4 * ended from l.tokens l.at + bytes_of known_names;
}
