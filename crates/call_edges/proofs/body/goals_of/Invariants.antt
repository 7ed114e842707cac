use Rattle.std.proofs.Common.{◌≡◌, map, take}
use Rattle.std.specs.List.{flat_map, enumerate_from}
use Rattle.module_table.specs.Facts.{see_facts}
use Rattle.call_edges.specs.Bodies.{see_body, goals_of_file}
use Rattle.call_edges.proofs.body.goals_of.Given as goal

-- the goals of the files so far
abbrev pub invariant-loop-at : goal.invariant-loop-at
invariant-loop-at l = map see_body l.bodies.items ≡ flat_map goals_of_file (take l.at (enumerate_from 0 (map see_facts l.file-items)))
