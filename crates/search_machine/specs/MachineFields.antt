-- How the fields of a machine hold its state.
use Rattle.std.specs.Prelude.{◌<◌, ◌^◌, length, drop}
use Rattle.search_machine.specs.declared.machine.Machine.TheInside.{Inside}
use Rattle.search_machine.specs.Machine.{MachineValue}
use Rattle.search_machine.specs.State.{State, IsGoodState}

abbrev pub state_of : Inside → State
state_of fields = record {
  running = fields.running.items;
  waiting = fields.waiting.items;
  kept = fields.book.kept;
  claimed = fields.claimed.items;
  to_come = drop fields.given fields.book.roots;
  groups = fields.book.groups;
}

abbrev pub value_of : Inside → MachineValue
value_of fields = record {
  lists = fields.book.lists;
  roots = fields.book.roots;
  failed = fields.book.failed;
  state = state_of fields;
}

-- the state is good, and a `u32` counts the places
pub record IsMachine (fields : Inside) : Type 0 where
  pub good : IsGoodState fields.book.lists fields.book.roots fields.book.failed (state_of fields)
  pub small : length fields.running.items < 2 ^ 32
