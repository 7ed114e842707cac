use Rattle.std.proofs.Common.{◌≡◌, ◌∷◌, ◌++◌, [], map, take, get_or, sym, ap, ◌∙◌, arith}
use Rattle.std.proofs.lemmas.List.{map-append, take_more, take_all}
use Rattle.import_rules.specs.Names.{pred_name}
use Rattle.import_rules.specs.NameTable.{name_hash}
use Rattle.import_rules.proofs.name_table.hashes_of.Goals as goal

pub loop-one-preserved : goal.loop-one-preserved
loop-one-preserved c =
    let names = c.args.names.now in
    let n = c.loop-one.one-index in
    let item = c.one-item.result in
    let hash : c.name_hash.result ≡ name_hash (get_or names n item) =
    c.name_hash.ensures ∙ (λ i. name_hash (pred_name (c.as_str.ensures i) (c.as_str-in-loop-one.ensures i) item.arity)) ∙ ap name_hash c.one-item.is in
    c.in_ok-push.ensures.items
    ∙ (λ i. c.loop-one.invariant i ++ hash i ∷ [])
    ∙ sym (ap (map name_hash) (take_more names n item (omega (arith, c.loop-one-test.true))) ∙ map-append name_hash (take n names) (get_or names n item ∷ []))

pub returns : goal.returns
returns c =
    c.loop-one.invariant
    ∙ ap (map name_hash) (take_all c.loop-one.one-index c.args.names.now (omega (arith, c.loop-one-test.false, c.loop-one.auto.one-index-end)))
