use Rattle.std.proofs.Common.{◌≡◌, ◌<◌, ℕ, ◌++◌, List, Some, length, map, take, get_or, slice_get, ap, sym, ◌∙◌, subst, append_assoc, arith}
use Rattle.std.specs.Prelude.{Contains}
use Rattle.std.specs.List.{flat_map}
use Rattle.std.proofs.lemmas.List.{length-map}
use Rattle.std.proofs.lemmas.List.Elements.{Contains-get_or}
use Rattle.std.proofs.lemmas.Option.{slice_get_within}
use Rattle.import_rules.proofs.MetaTold.{seen_at}
use Rattle.clause_text.specs.Clauses.{clause_trees}
use Rattle.module_table.specs.Defined.{see_defined}
use Rattle.module_table.specs.Facts.{see_facts, Facts}
use Rattle.file_library.specs.Loaded.{LoadedFiles}
use Rattle.import_rules.specs.Program.{Seen, places_in}
use Rattle.call_edges.proofs.BodyLemmas.{IsThere, places_there, flat_more}
use Rattle.call_table.specs.Clauses.{clause_at, clauses_there}
use Rattle.call_table.proofs.ClauseLemmas.{clauses_at}
use Rattle.call_table.proofs.clause_at.push_clauses_of.Goals as goal

-- the place is one of a file and of a part of it
there : (places : List (ℕ × ℕ)) (k : ℕ) (seen : Seen) (node : ℕ) → places ≡ places_in seen node → k < length places → IsThere seen.loaded.files (get_or places k (0, 0))
there places k seen node are lt =
    let at = get_or places k (0, 0) in
    places_there seen node at (subst (λ ps. Contains ps at) are (Contains-get_or places k (0, 0) lt))

pub index-file-requires : goal.index-file-requires
index-file-requires c =
    let places = c.places_of-place-items.result.now in
    let k = c.loop-place.place-index in
    let at = get_or places k (0, 0) in
    let seen = c.args.program.now in
    let is = there places k seen c.args.node c.places_of-place-items.ensures c.loop-place-test.true in
    let files = c.loaded.result.now.files in
    let read : slice_get (map see_facts files.items) at.0 ≡ Some is.file = ap (λ (l : LoadedFiles). slice_get l.files at.0) (sym c.loaded.ensures) ∙ is.at_place in
    omega (arith, slice_get_within (map see_facts files.items) at.0 is.file read, length-map files.items see_facts, files.ok.0)

pub index-predicate-requires : goal.index-predicate-requires
index-predicate-requires c =
    let places = c.places_of-place-items.result.now in
    let k = c.loop-place.place-index in
    let at = get_or places k (0, 0) in
    let seen = c.args.program.now in
    let is = there places k seen c.args.node c.places_of-place-items.ensures c.loop-place-test.true in
    let files = c.loaded.result.now.files in
    let file = c.index-file.result.now in
    let read : slice_get (map see_facts files.items) at.0 ≡ Some is.file = ap (λ (l : LoadedFiles). slice_get l.files at.0) (sym c.loaded.ensures) ∙ is.at_place in
    let same : see_facts file ≡ is.file = seen_at see_facts files.items at.0 file is.file c.index-file.ensures read in
    let part : slice_get (map (see_defined file.names) file.defined.items) at.1 ≡ Some is.predicate = ap (λ (f : Facts). slice_get f.defined at.1) same ∙ is.at_part in
    omega (arith, slice_get_within (map (see_defined file.names) file.defined.items) at.1 is.predicate part, length-map file.defined.items (see_defined file.names), file.defined.ok.0)

pub loop-place-preserved : goal.loop-place-preserved
loop-place-preserved c =
    let places = c.places_of-place-items.result.now in
    let k = c.loop-place.place-index in
    let at = get_or places k (0, 0) in
    let seen = c.args.program.now in
    let all = seen.loaded.files in
    let is = there places k seen c.args.node c.places_of-place-items.ensures c.loop-place-test.true in
    let files = c.loaded.result.now.files in
    let file = c.index-file.result.now in
    let predicate = c.index-predicate.result.now in
    let loaded : slice_get all at.0 ≡ Some is.file = is.at_place in
    let read : slice_get (map see_facts files.items) at.0 ≡ Some is.file = ap (λ (l : LoadedFiles). slice_get l.files at.0) (sym c.loaded.ensures) ∙ loaded in
    let same : see_facts file ≡ is.file = seen_at see_facts files.items at.0 file is.file c.index-file.ensures read in
    let part : slice_get (map (see_defined file.names) file.defined.items) at.1 ≡ Some is.predicate = ap (λ (f : Facts). slice_get f.defined at.1) same ∙ is.at_part in
    let here : slice_get all at.0 ≡ Some (see_facts file) = loaded ∙ ap (λ f. Some f) (sym same) in
    let inner : see_defined file.names predicate ≡ is.predicate = seen_at (see_defined file.names) file.defined.items at.1 predicate is.predicate c.index-predicate.ensures part in
    let own : slice_get (see_facts file).defined at.1 ≡ Some (see_defined file.names predicate) = part ∙ ap (λ p. Some p) (sym inner) in
    let start = c.args.out.now.items in
    let before = c.loop-place.out.items in
    let node = c.args.node in
    c.in_ok-push_clauses.ensures
    ∙ (ap (λ xs. before ++ map (clause_at at.0 node) (clause_trees file.names xs)) c.as_slice-clauses.ensures
    ∙ (ap (λ xs. before ++ xs) (sym (clauses_at all node at (see_facts file) (see_defined file.names predicate) here own))
    ∙ (ap (λ xs. xs ++ clauses_there all node at) c.loop-place.invariant
    ∙ (append_assoc start (flat_map (clauses_there all node) (take k places)) (clauses_there all node at)
    ∙ ap (λ xs. start ++ xs) (sym (flat_more (clauses_there all node) places k (0, 0) c.loop-place-test.true))))))
