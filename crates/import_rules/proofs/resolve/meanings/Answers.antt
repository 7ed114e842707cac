use Rattle.std.proofs.Common.{◌≡◌, [], arith}
use Rattle.file_library.specs.SortedOut.{see_loaded}
use Rattle.import_rules.proofs.AllFound.{files_rise}
use Rattle.import_rules.proofs.Faultless.{empty_is, faultless, no_clashes}
use Rattle.import_rules.proofs.resolve.meanings.Goals as goal

pub returns-clause-targets : goal.returns-clause-targets
returns-clause-targets c =
    let loaded = see_loaded c.args.loaded.now in
    let found = c.in_ok-faults.field-0 in
    let none : found.faults.items ≡ [] = empty_is found.faults.items (omega (arith, c.if-len-gt0.false, c.len.ensures, found.faults.ok.0)) in
    c.in_ok-find_meanings.ensures loaded.files (files_rise loaded c.requires.loaded) c.requires.numbered
    (no_clashes loaded.files loaded.absent (faultless loaded found.faults.items none c.in_ok-faults.ensures.faults))
    c.in_ok-faults.ensures.imports

pub returns-clause-faultless : goal.returns-clause-faultless
returns-clause-faultless c =
    let loaded = see_loaded c.args.loaded.now in
    let found = c.in_ok-faults.field-0 in
    let none : found.faults.items ≡ [] = empty_is found.faults.items (omega (arith, c.if-len-gt0.false, c.len.ensures, found.faults.ok.0)) in
    faultless loaded found.faults.items none c.in_ok-faults.ensures.faults

pub find_meanings-requires-clause-kept : goal.find_meanings-requires-clause-kept
find_meanings-requires-clause-kept c = c.in_ok-faults.ensures.imports.are_kept.in_order

pub find_meanings-requires-clause-offered : goal.find_meanings-requires-clause-offered
find_meanings-requires-clause-offered c = c.in_ok-faults.ensures.imports.are_offered.in_order
