use Rattle.std.proofs.Common.{◌≡◌, ◌∷◌, ◌++◌, [], map, take, get_or, sym, ap, ◌∙◌, arith}
use Rattle.std.proofs.lemmas.List.{map-append, take_more, take_all}
use Rattle.import_rules.specs.NameTable.{name_hash}
use Rattle.import_rules.specs.Parts.{name_of_places, names_at}
use Rattle.import_rules.proofs.predicates.hashes_of.Goals as goal

pub loop-places-preserved : goal.loop-places-preserved
loop-places-preserved c =
    let files = c.args.files.now in
    let all = c.args.predicates.now in
    let n = c.loop-places.places-index in
    let item = c.places-item.result in
    let own = name_of_places files (get_or all n item) in
    let hash : c.hash.result ≡ name_hash own = c.hash.ensures ∙ ap (λ p. name_hash (name_of_places files p)) c.places-item.is in
    c.in_ok-push.ensures.items
    ∙ (λ i. c.loop-places.invariant i ++ hash i ∷ [])
    ∙ sym
    (ap (λ ps. map name_hash (names_at files ps)) (take_more all n item (omega (arith, c.loop-places-test.true)))
    ∙ ap (map name_hash) (map-append (name_of_places files) (take n all) (get_or all n item ∷ []))
    ∙ map-append name_hash (names_at files (take n all)) (own ∷ []))

pub returns : goal.returns
returns c =
    c.loop-places.invariant
    ∙ ap (λ ps. map name_hash (names_at c.args.files.now ps))
    (take_all c.loop-places.places-index c.args.predicates.now (omega (arith, c.loop-places-test.false, c.loop-places.auto.places-index-end)))
