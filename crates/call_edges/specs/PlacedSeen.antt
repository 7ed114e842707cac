-- What the code keeps of calls, as it is seen.
use Rattle.std.specs.Prelude.{ℕ, List, Option, Some, None, map}
use Rattle.import_rules.specs.Names.{pred_name}
use Rattle.import_rules.specs.Program.{Seen}
use Rattle.call_edges.specs.declared.placed_calls.PlacedCall.{PlacedCall}
use Rattle.call_edges.specs.CallPlaces.{CallAt}
use Rattle.call_edges.specs.Calls.{target}
use Rattle.call_edges.specs.Goals.{Met, call, fault}

abbrev pub see_call : PlacedCall → CallAt
see_call c = record {
  file = c.named.file;
  offset = c.named.offset;
  caller = c.named.caller;
  callee = pred_name c.named.module.now c.named.name.now c.named.arity;
  added = c.named.added;
  negated = c.named.negated;
  means = c.callee;
}

abbrev pub see_calls : List PlacedCall → List CallAt
see_calls calls = map see_call calls

-- the call in that file and by that predicate to what its name means, where what is met is one
abbrev pub call_to : Option ℕ → ℕ → ℕ → Met → Option CallAt
call_to means file caller (call at owner name arity more negated) =
    Some (record { file = file; offset = at; caller = caller; callee = pred_name owner name arity; added = more; negated = negated; means = means })
call_to means file caller (fault at) = None

-- the same, with what its name means in the program
abbrev pub call_met : Seen → ℕ → ℕ → Met → Option CallAt
call_met seen file caller met = call_to (target seen met) file caller met
