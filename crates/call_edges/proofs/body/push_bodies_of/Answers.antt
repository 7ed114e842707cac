use Rattle.std.proofs.Common.{◌≡◌, ◌<◌, ℕ, ◌++◌, List, Some, length, map, take, get_or, slice_get, refl, ap, sym, ◌∙◌, subst, append_assoc, arith}
use Rattle.std.specs.Prelude.{Contains}
use Rattle.std.specs.List.{flat_map}
use Rattle.std.proofs.lemmas.List.{length-map}
use Rattle.std.proofs.lemmas.List.Elements.{Contains-get_or}
use Rattle.std.proofs.lemmas.Option.{same_Some, slice_get_within}
use Rattle.import_rules.proofs.MetaTold.{seen_at}
use Rattle.clause_text.specs.Clauses.{clause_trees}
use Rattle.module_table.specs.Defined.{see_defined}
use Rattle.module_table.specs.Facts.{see_facts, Facts}
use Rattle.import_rules.specs.Program.{Seen, places_in}
use Rattle.call_edges.specs.Bodies.{see_body, clause_bodies, bodies_at}
use Rattle.call_edges.proofs.BodyLemmas.{IsThere, places_there, bodies_there, flat_more}
use Rattle.call_edges.proofs.body.push_bodies_of.Goals as goal

-- the place is one of a file and of a part of it
there : (places : List (ℕ × ℕ)) (k : ℕ) (seen : Seen) (node : ℕ) → places ≡ places_in seen node → k < length places → IsThere seen.loaded.files (get_or places k (0, 0))
there places k seen node are lt =
    let at = get_or places k (0, 0) in
    places_there seen node at (subst (λ ps. Contains ps at) are (Contains-get_or places k (0, 0) lt))

pub of-home-requires : goal.of-home-requires
of-home-requires c =
    let seen = c.args.program.now in
    let k = c.loop-place.place-index in
    let places = c.places_of-place-items.result.now in
    let is = there places k seen c.args.node c.places_of-place-items.ensures c.loop-place-test.true in
    slice_get_within seen.loaded.files (get_or places k (0, 0)).0 is.file is.at_place

pub index-predicate-requires : goal.index-predicate-requires
index-predicate-requires c =
    let places = c.places_of-place-items.result.now in
    let k = c.loop-place.place-index in
    let at = get_or places k (0, 0) in
    let seen = c.args.program.now in
    let is = there places k seen c.args.node c.places_of-place-items.ensures c.loop-place-test.true in
    let file = c.of-home.result.facts.now in
    let same : see_facts file ≡ is.file = same_Some (see_facts file) is.file (sym c.of-home.ensures.facts ∙ is.at_place) in
    let part : slice_get (map (see_defined file.names) file.defined.items) at.1 ≡ Some is.predicate = ap (λ (f : Facts). slice_get f.defined at.1) same ∙ is.at_part in
    omega (arith, slice_get_within (map (see_defined file.names) file.defined.items) at.1 is.predicate part, length-map file.defined.items (see_defined file.names), file.defined.ok.0)

pub loop-place-preserved : goal.loop-place-preserved
loop-place-preserved c =
    let places = c.places_of-place-items.result.now in
    let k = c.loop-place.place-index in
    let at = get_or places k (0, 0) in
    let seen = c.args.program.now in
    let all = seen.loaded.files in
    let is = there places k seen c.args.node c.places_of-place-items.ensures c.loop-place-test.true in
    let file = c.of-home.result.facts.now in
    let predicate = c.index-predicate.result.now in
    let here : slice_get all at.0 ≡ Some (see_facts file) = c.of-home.ensures.facts in
    let same : see_facts file ≡ is.file = same_Some (see_facts file) is.file (sym here ∙ is.at_place) in
    let part : slice_get (map (see_defined file.names) file.defined.items) at.1 ≡ Some is.predicate = ap (λ (f : Facts). slice_get f.defined at.1) same ∙ is.at_part in
    let inner : see_defined file.names predicate ≡ is.predicate = seen_at (see_defined file.names) file.defined.items at.1 predicate is.predicate c.index-predicate.ensures part in
    let own : slice_get (see_facts file).defined at.1 ≡ Some (see_defined file.names predicate) = part ∙ ap (λ p. Some p) (sym inner) in
    let start = map see_body c.args.bodies.now.items in
    let before = map see_body c.loop-place.bodies.items in record {
      bodies =
          c.in_ok-push_bodies.ensures.bodies
          ∙ (ap (λ name. before ++ clause_bodies at.0 name (clause_trees file.names c.as_slice.result.now)) c.as_str.ensures
          ∙ (ap (λ xs. before ++ clause_bodies at.0 file.module (clause_trees file.names xs)) c.as_slice.ensures
          ∙ (ap (λ xs. before ++ xs) (sym (bodies_there all at (see_facts file) (see_defined file.names predicate) here own))
          ∙ (ap (λ xs. xs ++ bodies_at all at) c.loop-place.invariant.bodies
          ∙ (append_assoc start (flat_map (bodies_at all) (take k places)) (bodies_at all at)
          ∙ ap (λ xs. start ++ xs) (sym (flat_more (bodies_at all) places k (0, 0) c.loop-place-test.true)))))));
      home = λ before.
          c.in_ok-push_bodies.ensures.home seen (record { program = c.of-home.ensures.program; module_ = sym c.as_str.ensures; names_ = refl })
          (c.loop-place.invariant.home before);
    }
