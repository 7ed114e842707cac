-- Goals stand at offsets of the text of their file.
use Rattle.std.specs.List.{AllZip}
use Rattle.std.proofs.Common.{◌≡◌, ℕ, zero, suc, List, [], ◌∷◌, Option, Some, None, All, slice_get, codes, ap, sym, ◌∙◌, subst, refl}
use Rattle.std.specs.Prelude.{Contains}
use Rattle.std.specs.Option.{option_map}
use Rattle.std.proofs.lemmas.List.Elements.{All-contains}
use Rattle.std.proofs.lemmas.Option.{none-some, same_Some}
use Rattle.list_laws.proofs.Members.{all_by, stands_in}
use Rattle.prolog_terms.specs.Tree.{Tree}
use Rattle.prolog_terms.specs.Views.{sides_of}
use Rattle.clause_text.specs.Offsets.{HasOffsets}
use Rattle.module_table.specs.Defined.{Predicate}
use Rattle.module_table.specs.Facts.{Facts}
use Rattle.file_library.specs.Loaded.{NamedText}
use Rattle.import_rules.specs.Program.{Seen, places_in, IsKnown, IsReadFrom}
use Rattle.call_edges.specs.Goals.{Place}
use Rattle.call_edges.specs.ProgramRows.{rows_of}
use Rattle.call_edges.specs.Calls.{body_of}
use Rattle.call_edges.specs.Bodies.{Body, body_in, clause_bodies, bodies_at}
use Rattle.file_library.specs.Spots.{StandsInText}
use Rattle.call_edges.specs.CallPlaces.{CallAt, IsCallOf, AreCallsOf, met_of}
use Rattle.call_edges.proofs.AmongLemmas.{flat_has, among_given}
use Rattle.call_edges.proofs.BodyLemmas.{places_there, bodies_there}
use Rattle.call_edges.proofs.OffsetLemmas.{by_stands, goal_stands}

-- the body of a clause that stands in the text
body_stands : (text : List ℕ) (file : ℕ) (owner : List ℕ) (clauses : List Tree) (body : Body) → All (HasOffsets text) clauses
    → Contains (clause_bodies file owner clauses) body → HasOffsets text body.at.tree × (body.file ≡ file)
body_stands text file owner clauses body stand has =
    let h : Tree → Option Body = λ clause. option_map (body_in file) (body_of owner clause) in
    let given = (among_given (λ (x : Body) (y : Body). x ≡ y) h clauses body).0 (record { one = body; has = has; is = refl }) in
    let is : h given.one ≡ Some body = given.is.is ∙ ap (λ b. Some b) given.is.holds in
    by_body given.one (body_of owner given.one) refl is (All-contains (HasOffsets text) clauses given.one stand given.has)
  where
    by_body : (clause : Tree) (o : Option Place) → body_of owner clause ≡ o → option_map (body_in file) o ≡ Some body → HasOffsets text clause
        → HasOffsets text body.at.tree × (body.file ≡ file)
    by_body clause None is given stands = absurd (none-some body given)
    by_body clause (Some at) is given stands =
        let same : body_in file at ≡ body = same_Some (body_in file at) body given in
        let here = by_stands text owner clause (sides_of (codes ":-") clause) (sides_of (codes "-->") clause) at stands refl refl is in
        (subst (λ (b : Body). HasOffsets text b.at.tree) same here, ap (λ (b : Body). b.file) (sym same))

pub zip_text : (texts : List NamedText) (files : List Facts) (k : ℕ) (file : Facts) → AllZip IsReadFrom texts files → slice_get files k ≡ Some file
    → (text : NamedText) × (slice_get texts k ≡ Some text) × IsReadFrom text file
zip_text [] [] k file read is = absurd (none-some file is)
zip_text [] (f ∷ files) k file read is = absurd read
zip_text (t ∷ texts) [] k file read is = absurd read
zip_text (t ∷ texts) (f ∷ files) zero file read is = (t, refl, subst (IsReadFrom t) (same_Some f file is) read.0)
zip_text (t ∷ texts) (f ∷ files) (suc k) file read is = zip_text texts files k file read.1 is

node_stands : (seen : Seen) (caller : ℕ) (c : CallAt) → IsKnown seen → IsCallOf seen caller c → StandsInText seen.loaded.texts c.file c.offset
node_stands seen caller c known among =
    let place = (flat_has (bodies_at seen.loaded.files) (places_in seen caller) among.one).0 among.has in
    let there = places_there seen caller place.one place.has in
    let text = zip_text seen.loaded.texts seen.loaded.files place.one.0 there.file known.read there.at_place in
    let in_part : Contains there.file.defined there.predicate = stands_in there.file.defined place.one.1 there.predicate there.at_part in
    let clauses : All (HasOffsets text.0.1) there.predicate.clauses =
    All-contains (λ (p : Predicate). All (HasOffsets text.0.1) p.clauses) there.file.defined there.predicate text.2.placed.of_clauses in_part in
    let body = body_stands text.0.1 place.one.0 there.file.module_ there.predicate.clauses among.one clauses
    (subst (λ (bs : List Body). Contains bs among.one) (bodies_there seen.loaded.files place.one there.file there.predicate there.at_place there.at_part) place.is) in
    let called = among.is in
    record {
      text = text.0;
      is = ap (slice_get seen.loaded.texts) (called.in_file ∙ body.1) ∙ text.1;
      stands = goal_stands text.0.1 (rows_of seen) among.one.at (met_of c) body.0 called.met;
    }

-- each call of predicates stands in its text
pub calls_stand : (seen : Seen) (callers : List ℕ) (calls : List CallAt) → IsKnown seen → AreCallsOf seen callers calls
    → All (λ (c : CallAt). StandsInText seen.loaded.texts c.file c.offset) calls
calls_stand seen callers calls known are =
    all_by (λ (c : CallAt). StandsInText seen.loaded.texts c.file c.offset) calls
    (λ c has. let among = (are.each c).0 has in node_stands seen among.one c known among.is)
