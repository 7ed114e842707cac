use Rattle.std.proofs.Common.{◌≡◌, ◌++◌, map, take}
use Rattle.std.specs.List.{flat_map}
use Rattle.module_table.specs.Facts.{goal_trees}
use Rattle.call_edges.specs.Bodies.{see_body, goal_body}
use Rattle.call_edges.proofs.body.push_goals.Given as goal

-- the goals of the directives so far
abbrev pub invariant-loop-goals : goal.invariant-loop-goals
invariant-loop-goals l =
    map see_body l.bodies.items
    ≡ map see_body l.fn.bodies.items ++ map (goal_body l.place l.file.module) (flat_map (goal_trees l.file.names) (take l.goals-index l.goals-items))
