-- Why a run tells nothing, and how it ends.
use Rattle.std.specs.Prelude.{ℕ, Result, Ok, Err, Vec}
use Rattle.std.specs.declared.alloc.Global.{Global}
use Rattle.file_library.specs.declared.loaded.LoadStop.{LoadStop}
use Rattle.file_library.specs.declared.loaded.LoadStop.TheVariants as of_load
use Rattle.import_rules.specs.declared.import_stop.ImportStop.{ImportStop}
use Rattle.import_rules.specs.declared.import_stop.ImportStop.TheVariants as of_import
use Rattle.call_edges.specs.declared.goal_stop.GoalStop.{GoalStop}
use Rattle.call_edges.specs.declared.goal_stop.GoalStop.TheVariants as of_check
use Rattle.group_words.specs.declared.options.WordFault.{WordFault}
use Rattle.group_words.specs.declared.options.WordFault.TheVariants as of_word
use Rattle.tool_run.specs.declared.roots.RootStop.{RootStop}
use Rattle.tool_run.specs.declared.roots.RootStop.TheVariants as of_root
use Rattle.tool_run.specs.declared.stop.Limit.TheVariants.{TooManyFiles, FileTooLarge, TooMuchText, TooManyPredicates}
use Rattle.tool_run.specs.declared.stop.Stop.{Stop}
use Rattle.tool_run.specs.declared.stop.Stop.TheVariants.{Usage, Faults, NoPredicate, ReadFault, Passed, NoMemory}
use Rattle.tool_run.specs.Say.{concatenated}
use Rattle.tool_run.specs.End.{End, usage, faults, missing, unread, limit, output, no_memory}

-- why there are no options, as why a run tells nothing
abbrev pub of_words : WordFault → Stop
of_words of_word.Usage = Usage
of_words of_word.NoMemory = NoMemory

-- why nothing was loaded, as why a run tells nothing
abbrev pub of_loading : LoadStop → Stop
of_loading (of_load.Faults list) = Faults list
of_loading (of_load.ReadFault name) = ReadFault name
of_loading of_load.TooManyFiles = Passed TooManyFiles
of_loading (of_load.FileTooLarge name) = Passed (FileTooLarge name)
of_loading of_load.TooMuchText = Passed TooMuchText
of_loading of_load.NoMemory = NoMemory

-- why there is no program, as why a run tells nothing
abbrev pub of_importing : ImportStop → Stop
of_importing (of_import.Faults list) = Faults list
of_importing of_import.TooManyPredicates = Passed TooManyPredicates
of_importing of_import.NoMemory = NoMemory

-- why not every goal is known to be callable, as why a run tells nothing
abbrev pub of_checking : GoalStop → Stop
of_checking (of_check.Faults list) = Faults list
of_checking of_check.NoMemory = NoMemory

-- why there are no roots, as why a run tells nothing
abbrev pub of_roots : RootStop → Stop
of_roots (of_root.NoPredicate root) = NoPredicate root
of_roots of_root.NoMemory = NoMemory

-- how a run ends that stops
abbrev pub end_of_stop : Stop → End
end_of_stop Usage = usage
end_of_stop (Faults list) = faults list.items
end_of_stop (NoPredicate root) = missing root
end_of_stop (ReadFault name) = unread name
end_of_stop (Passed passed) = limit passed
end_of_stop NoMemory = no_memory

-- how it ends
abbrev pub end_of : Result (Vec (Vec ℕ Global) Global) Stop → End
end_of (Ok texts) = output (concatenated texts.items)
end_of (Err stop) = end_of_stop stop
