use Rattle.std.proofs.Common.{◌≡◌, ◌++◌, map, take}
use Rattle.std.specs.Arc.{arc_value}
use Rattle.prolog_terms.specs.Terms.{tree_in}
use Rattle.call_edges.specs.Bodies.{see_body, goal_body}
use Rattle.call_edges.proofs.body.push_goals_in.Given as goal

-- the goals so far
abbrev pub invariant-loop-end : goal.invariant-loop-end
invariant-loop-end l =
    map see_body l.bodies.items
    ≡ map see_body l.fn.bodies.items ++ map (goal_body l.place l.file.module) (map (tree_in l.file.names (arc_value l.goals.list).1) (take l.end-index l.end-items))
