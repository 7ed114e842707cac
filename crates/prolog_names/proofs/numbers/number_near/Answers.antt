use Rattle.std.proofs.lemmas.Result.{on_ok_weaker}
use Rattle.prolog_names.proofs.FewBytes.{slice_few}
use Rattle.prolog_names.proofs.GrownTable.{more_kept, bytes_grown}
use Rattle.prolog_names.proofs.numbers.number_near.Goals as goal

pub returns-then-eq-clause-kept : goal.returns-then-eq-clause-kept
returns-then-eq-clause-kept c = on_ok_weaker c.place_near.result (more_kept c.args.table.now c.place_near.new.self c.name_slice.result.now) c.place_near.ensures.names

pub returns-then-eq-clause-few : goal.returns-then-eq-clause-few
returns-then-eq-clause-few c =
    on_ok_weaker c.place_near.result
    (λ names. bytes_grown c.args.table.now c.place_near.new.self c.name_slice.result.now names
    (slice_few c.args.text.now c.args.token.start c.args.token.end c.name_slice.result.now c.name_slice.ensures.slice))
    c.place_near.ensures.names
