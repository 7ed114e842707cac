-- What is asked of a search.
use Rattle.std.specs.Prelude.{ℕ, Result, IfOk, Vec}
use Rattle.std.specs.declared.alloc.AllocError.{AllocError}
use Rattle.std.specs.declared.alloc.Global.{Global}
use Rattle.graph_law.specs.Graph.{Calls, lists_of}
use Rattle.report_lines.specs.Reportable.{AreGroups}
use Rattle.component_answer.specs.declared.reach.Reach.{Reach}

-- what a search may return, of a graph and starts in it, are the classes of mutual reach of what the starts reach, each after those that it calls
abbrev pub FindsGroups : (Reach → Result (Vec (Vec ℕ Global) Global) AllocError → Type 0) → Type 0
FindsGroups MayReturn =
    (reach : Reach) (result : Result (Vec (Vec ℕ Global) Global) AllocError) → MayReturn reach result
    → IfOk result (λ groups. AreGroups (Calls reach.graph.now) reach.starts.now (lists_of groups.items))
