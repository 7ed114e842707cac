use Rattle.std.proofs.Common.{◌≡◌, ◌-◌, All, take}
use Rattle.prolog_terms.specs.Terms.{trees_of, IsOf}
use Rattle.prolog_terms.specs.Forest.{forest, parts_of}
use Rattle.prolog_terms.proofs.SizedNodes.{behind}
use Rattle.prolog_terms.proofs.term.Parts.to_vec.Given as goal

-- what is taken so far stands behind what is still to be taken, and is of the same nodes
abbrev pub invariant-loop-part : goal.invariant-loop-part
invariant-loop-part l =
    (parts_of (l.self.count - l._part) (forest l.self.names.now (take l.end l.self.nodes.now)) (behind l.terms.items) ≡ trees_of l.self)
    × All (IsOf l.self.names.now l.self.nodes.now) l.terms.items
