use Rattle.std.proofs.Common.{◌≡◌, ◌+◌, ◌*◌, ℕ, List, Some, map, slice_get, ap, sym, ◌∙◌, subst, arith}
use Rattle.std.specs.Prelude.{Contains}
use Rattle.std.proofs.lemmas.List.{length-map}
use Rattle.std.proofs.lemmas.List.Elements.{Contains-get_or}
use Rattle.std.proofs.lemmas.Option.{slice_get_within, get_or_from_slice_get}
use Rattle.import_rules.proofs.MetaTold.{seen_at}
use Rattle.clause_text.specs.Clauses.{clause_trees}
use Rattle.module_table.specs.Defined.{see_defined}
use Rattle.module_table.specs.Facts.{see_facts, Facts}
use Rattle.file_library.specs.Loaded.{LoadedFiles}
use Rattle.import_rules.specs.Program.{Seen, places_in}
use Rattle.call_edges.specs.FileOrder.{first_offset}
use Rattle.call_edges.proofs.BodyLemmas.{IsThere, places_there}
use Rattle.call_edges.proofs.FileOrderLemmas.{starts_at, starts_nowhere}
use Rattle.call_edges.proofs.starts.first_place.Goals as goal

-- the first place is one of a file and of a part of it
there : (places : List (ℕ × ℕ)) (at : ℕ × ℕ) (seen : Seen) (node : ℕ) → slice_get places 0 ≡ Some at → places ≡ places_in seen node → IsThere seen.loaded.files at
there places at seen node first are =
    let lt = slice_get_within places 0 at first in
    let is : Contains places at = subst (λ x. Contains places x) (get_or_from_slice_get places 0 at at first) (Contains-get_or places 0 at lt) in
    places_there seen node at (subst (λ ps. Contains ps at) are is)

pub index-file-requires : goal.index-file-requires
index-file-requires c =
    let at = c.in-Some.place.now in
    let seen = c.args.program.now in
    let is = there c.places_of.result.now at seen c.args.node (sym c.in-Some.ensures.value) c.places_of.ensures in
    let files = c.loaded.result.now.files in
    let read : slice_get (map see_facts files.items) at.0 ≡ Some is.file = ap (λ (l : LoadedFiles). slice_get l.files at.0) (sym c.loaded.ensures) ∙ is.at_place in
    omega (arith, slice_get_within (map see_facts files.items) at.0 is.file read, length-map files.items see_facts, files.ok.0)

pub index-predicate-requires : goal.index-predicate-requires
index-predicate-requires c =
    let at = c.in-Some.place.now in
    let seen = c.args.program.now in
    let is = there c.places_of.result.now at seen c.args.node (sym c.in-Some.ensures.value) c.places_of.ensures in
    let files = c.loaded.result.now.files in
    let file = c.index-file.result.now in
    let read : slice_get (map see_facts files.items) at.0 ≡ Some is.file = ap (λ (l : LoadedFiles). slice_get l.files at.0) (sym c.loaded.ensures) ∙ is.at_place in
    let same : see_facts file ≡ is.file = seen_at see_facts files.items at.0 file is.file c.index-file.ensures read in
    let part : slice_get (map (see_defined file.names) file.defined.items) at.1 ≡ Some is.predicate = ap (λ (f : Facts). slice_get f.defined at.1) same ∙ is.at_part in
    omega (arith, slice_get_within (map (see_defined file.names) file.defined.items) at.1 is.predicate part, length-map file.defined.items (see_defined file.names), file.defined.ok.0)

pub returns : goal.returns
returns c =
    let at = c.in-Some.place.now in
    let seen = c.args.program.now in
    let all = seen.loaded.files in
    let is = there c.places_of.result.now at seen c.args.node (sym c.in-Some.ensures.value) c.places_of.ensures in
    let files = c.loaded.result.now.files in
    let file = c.index-file.result.now in
    let predicate = c.index-predicate.result.now in
    let read : slice_get (map see_facts files.items) at.0 ≡ Some is.file = ap (λ (l : LoadedFiles). slice_get l.files at.0) (sym c.loaded.ensures) ∙ is.at_place in
    let same : see_facts file ≡ is.file = seen_at see_facts files.items at.0 file is.file c.index-file.ensures read in
    let part : slice_get (map (see_defined file.names) file.defined.items) at.1 ≡ Some is.predicate = ap (λ (f : Facts). slice_get f.defined at.1) same ∙ is.at_part in
    let here : slice_get all at.0 ≡ Some (see_facts file) = is.at_place ∙ ap (λ f. Some f) (sym same) in
    let inner : see_defined file.names predicate ≡ is.predicate = seen_at (see_defined file.names) file.defined.items at.1 predicate is.predicate c.index-predicate.ensures part in
    let own : slice_get (see_facts file).defined at.1 ≡ Some (see_defined file.names predicate) = part ∙ ap (λ p. Some p) (sym inner) in
    let first : slice_get (places_in seen c.args.node) 0 ≡ Some at = ap (λ (ps : List (ℕ × ℕ)). slice_get ps 0) (sym c.places_of.ensures) ∙ sym c.in-Some.ensures.value in
    ap (λ number. number * 4294967296 + c.from-2.result) c.from.ensures
    ∙ (ap (λ offset. at.0 * 4294967296 + offset) (c.from-2.ensures ∙ (c.first_offset-offset.ensures ∙ ap (λ xs. first_offset (clause_trees file.names xs)) c.as_slice.ensures))
    ∙ sym (starts_at all (places_in seen c.args.node) at (see_facts file) (see_defined file.names predicate) first here own))

pub returns-in_default : goal.returns-in_default
returns-in_default c =
    let seen = c.args.program.now in
    starts_nowhere seen.loaded.files (places_in seen c.args.node)
    (ap (λ (ps : List (ℕ × ℕ)). slice_get ps 0) (sym c.places_of.ensures) ∙ sym c.in_default.ensures.value)
