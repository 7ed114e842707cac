use Rattle.std.proofs.Common.{◌≡◌, ◌++◌, All, map, take}
use Rattle.std.specs.List.{flat_map}
use Rattle.call_edges.specs.Bodies.{IsAtHome, see_body, bodies_at}
use Rattle.call_edges.proofs.body.push_bodies_of.Given as goal

-- the bodies at the places so far, each kept with its file
abbrev pub invariant-loop-place : goal.invariant-loop-place
invariant-loop-place l = record {
  bodies :
      map see_body l.bodies.items
      ≡ map see_body l.fn.bodies.items ++ flat_map (bodies_at l.fn.program.loaded.files) (take l.place-index l.place-items);
  home : All (IsAtHome l.fn.program) l.fn.bodies.items → All (IsAtHome l.fn.program) l.bodies.items;
}
