-- How the arguments of goals stand in a program.
use Rattle.std.specs.Prelude.{List, [], ◌∷◌, Option}
use Rattle.module_table.specs.declared.goal_arg.GoalArg.{GoalArg}
use Rattle.import_rules.specs.Program.{Seen, meta_meant}
use Rattle.call_edges.specs.declared.role.Row.{Row}
use Rattle.call_edges.specs.Goals.{Rows, Standing, as_declared, by_table, row}

-- as they are declared, else by the table
abbrev pub standing_by : Option Row → List GoalArg → Standing
standing_by table [] = by_table table
standing_by table (arg ∷ args) = as_declared (arg ∷ args)

-- where the predicate that the name means declares them, as it does, else by the table
abbrev pub rows_of : Seen → Rows
rows_of seen owner name arity = standing_by (row name arity) (meta_meant seen owner name arity)
