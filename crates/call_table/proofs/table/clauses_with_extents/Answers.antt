use Rattle.std.proofs.Common.{map, sym, subst}
use Rattle.std.specs.List.{AllZip}
use Rattle.file_library.specs.Spots.{AreSpots}
use Rattle.call_table.specs.Table.{IsExtentOf, clause_end, clause_spot}
use Rattle.call_table.proofs.table.clauses_with_extents.Goals as goal

pub extents_of-requires-clause-starts : goal.extents_of-requires-clause-starts
extents_of-requires-clause-starts c =
    subst (λ clauses. AreSpots c.args.program.now.loaded.texts (map clause_spot clauses)) (sym c.deref.ensures.value) c.in_ok-clauses.ensures.starts

pub extents_of-requires-clause-ends : goal.extents_of-requires-clause-ends
extents_of-requires-clause-ends c =
    subst (λ clauses. AreSpots c.args.program.now.loaded.texts (map clause_end clauses)) (sym c.deref.ensures.value) c.in_ok-clauses.ensures.ends

pub returns : goal.returns
returns c = record {
  are = c.in_ok-clauses.ensures.clauses;
  placed =
      subst (λ clauses. AllZip (IsExtentOf c.args.program.now.loaded.texts) clauses c.in_ok-extents.extents.items) c.deref.ensures.value
      c.in_ok-extents.ensures;
}
