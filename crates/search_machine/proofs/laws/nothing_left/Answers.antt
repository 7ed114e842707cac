use Rattle.std.proofs.Common.{◌≡◌, ◌<◌, length, sym, subst}
use Rattle.search_machine.specs.Runs.{opening_state}
use Rattle.search_machine.proofs.Quiet.{run_free, run_places}
use Rattle.search_machine.proofs.Runs.{run_keeps}
use Rattle.search_machine.proofs.Starting.{starts_good}
use Rattle.search_machine.proofs.Stuck.{all_released, none_at}
use Rattle.search_machine.proofs.laws.nothing_left.Goals as goal

pub returns-clause-none_kept : goal.returns-clause-none_kept
returns-clause-none_kept c = λ lists roots failed s good some free stuck. none_at good some free stuck

pub returns-clause-complete : goal.returns-clause-complete
returns-clause-complete c = λ lists roots failed s good some free stuck. all_released good some free stuck

pub returns-clause-runs : goal.returns-clause-runs
returns-clause-runs c = λ lists roots places x states end closed rooted some run stuck.
    let good = run_keeps lists roots states x (opening_state (length lists) roots places) end (starts_good lists roots places closed rooted) run in
    let long : length end.running ≡ places = run_places lists states x (length lists) roots places end run in
    all_released good (subst (λ n. 0 < n) (sym long) some) (run_free lists states x (length lists) roots places end run) stuck
