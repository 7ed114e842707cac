-- Names that are called.
use Rattle.std.specs.Prelude.{ℕ, Option, Some, None}
use Rattle.import_rules.specs.declared.names.PredName.{PredName}
use Rattle.import_rules.specs.Names.{pred_name}
use Rattle.import_rules.specs.Program.{Seen, found}
use Rattle.call_edges.specs.declared.unresolved.Called.{Called}
use Rattle.call_edges.specs.Goals.{Met, call, fault}

abbrev pub see_called : Called → PredName
see_called c = pred_name c.module.now c.name.now c.arity

abbrev pub unless_found : PredName → Option ℕ → Option PredName
unless_found name (Some node) = None
unless_found name None = Some name

-- the name of a call that goes to no predicate
abbrev pub unresolved : Seen → Met → Option PredName
unresolved seen (call at owner name arity more negated) = unless_found (pred_name owner name arity) (found seen owner name arity)
unresolved seen (fault at) = None
