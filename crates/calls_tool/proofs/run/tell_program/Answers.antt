use Rattle.std.proofs.Common.{inl, inr, refl, subst, sym}
use Rattle.tool_run.specs.declared.stop.Stop.TheVariants.{NoMemory}
use Rattle.calls_tool.specs.Calls.{calls_tool}
use Rattle.tool_run.specs.Answer.{IsLoadedEnd}
use Rattle.tool_run.specs.Stop.{of_checking, of_roots}
use Rattle.call_told.specs.Told.{TellsFrom}
use Rattle.call_told.specs.Wanted.{see_wanted}
use Rattle.tool_run.proofs.EndLemmas.{handed_on, check_end, root_end}
use Rattle.calls_tool.proofs.run.tell_program.Goals as goal

pub returns-in_err-calls : goal.returns-in_err-calls
returns-in_err-calls g c found program =
    handed_on (IsLoadedEnd calls_tool (see_wanted c.args.wanted.now) found) c.from_residual.result (of_checking c.in_err-calls.field-0.0) c.from_residual.ensures.1
    (check_end calls_tool (see_wanted c.args.wanted.now) found c.args.program.now c.in_err-calls.field-0.0 program c.in_err-calls.ensures.refused)

pub returns-in_err-roots : goal.returns-in_err-roots
returns-in_err-roots g c found program =
    handed_on (IsLoadedEnd calls_tool (see_wanted c.args.wanted.now) found) c.from_residual-in_err-roots.result (of_roots c.in_err-roots.field-0.0) c.from_residual-in_err-roots.ensures.1
    (root_end calls_tool (see_wanted c.args.wanted.now) found c.args.program.now c.in_err-roots.field-0.0 program c.in_ok-calls.ensures.callable c.in_err-roots.ensures.err)

pub returns-in_err-texts : goal.returns-in_err-texts
returns-in_err-texts g c found program =
    handed_on (IsLoadedEnd calls_tool (see_wanted c.args.wanted.now) found) c.from_residual-in_err-texts.result NoMemory c.from_residual-in_err-texts.ensures.1 (inl refl)

pub returns-in_err-bytes : goal.returns-in_err-bytes
returns-in_err-bytes g c found program =
    handed_on (IsLoadedEnd calls_tool (see_wanted c.args.wanted.now) found) c.from_residual-in_err-bytes.result NoMemory c.from_residual-in_err-bytes.ensures.1 (inl refl)

pub returns : goal.returns
returns g c found program =
    inr (record {
      seen = c.args.program.now;
      program = record { program = program; callable = c.in_ok-calls.ensures.callable };
      rooted = c.in_ok-roots.ensures.rooted;
      tells = record {
        roots = c.in_ok-roots.roots.items;
        are = c.in_ok-roots.ensures.roots;
        tells = subst (TellsFrom (see_wanted c.args.wanted.now) c.args.program.now c.in_ok-roots.roots.items) (sym c.in_ok-bytes.ensures)
            (rw (c.deref.ensures.value) at c.in_ok-texts.ensures);
      };
    })
