-- No body of a program is too heavy.
use Rattle.std.proofs.Common.{◌≡◌, ℕ, ◌+◌, ◌≤◌, List, Option, Some, None, All, codes, slice_get, ap, ◌∙◌, subst, refl, arith}
use Rattle.std.specs.Prelude.{Contains}
use Rattle.std.specs.List.{enumerate_from}
use Rattle.std.specs.Option.{option_map}
use Rattle.std.proofs.lemmas.List.Elements.{All-contains}
use Rattle.std.proofs.lemmas.Option.{none-some, same_Some, slice_get_within, get_or_from_slice_get}
use Rattle.list_laws.proofs.Members.{all_by, stands_in}
use Rattle.prolog_terms.specs.Tree.{Tree}
use Rattle.prolog_terms.specs.Views.{sides_of}
use Rattle.prolog_terms.specs.Weight.{weight}
use Rattle.prolog_terms.proofs.ViewLemmas.{sides_weight}
use Rattle.module_table.specs.Defined.{Predicate}
use Rattle.module_table.specs.Facts.{Facts}
use Rattle.prolog_tokens.specs.declared.limits.TheConstants.{MOST_BYTES}
use Rattle.import_rules.specs.Program.{Seen, places_in, IsKnown}
use Rattle.module_table.specs.Metas.{added}
use Rattle.call_edges.specs.Goals.{Place, place, goal_role, grammar_role}
use Rattle.call_edges.specs.Calls.{body_by, body_of}
use Rattle.call_edges.specs.Bodies.{Body, body_in, clause_bodies, bodies_at, bodies_in, goals_of_file, goals_in, IsLight}
use Rattle.call_edges.proofs.AmongLemmas.{flat_has, map_has, among_given}
use Rattle.call_edges.proofs.PlaceLemmas.{enumerated}
use Rattle.call_edges.proofs.ReadLemmas.{read_has}
use Rattle.call_edges.proofs.BodyLemmas.{places_there, bodies_there, IsThere}

-- a body weighs less than its clause
light_body : (owner : List ℕ) (clause : Tree) (rule grammar : Option (Tree × Tree)) (body : Place) → sides_of (codes ":-") clause ≡ rule → sides_of (codes "-->") clause ≡ grammar
    → body_by owner rule grammar ≡ Some body → added body.role.arg + weight body.tree ≤ weight clause
light_body owner clause (Some (left, right)) grammar body first second is =
    let same : place owner goal_role right ≡ body = same_Some (place owner goal_role right) body is in
    omega (arith, sides_weight (codes ":-") clause left right first, ap (λ (p : Place). weight p.tree) same, ap (λ (p : Place). added p.role.arg) same)
light_body owner clause None (Some (left, right)) body first second is =
    let same : place owner grammar_role right ≡ body = same_Some (place owner grammar_role right) body is in
    omega (arith, sides_weight (codes "-->") clause left right second, ap (λ (p : Place). weight p.tree) same, ap (λ (p : Place). added p.role.arg) same)
light_body owner clause None None body first second is = absurd (none-some body is)

given_light : (file : ℕ) (owner : List ℕ) (clause : Tree) (body : Body) (o : Option Place) → body_of owner clause ≡ o → option_map (body_in file) o ≡ Some body
    → weight clause ≤ MOST_BYTES → IsLight body
given_light file owner clause body None is given light = absurd (none-some body given)
given_light file owner clause body (Some at) is given light =
    let same : body_in file at ≡ body = same_Some (body_in file at) body given in
    let small = light_body owner clause (sides_of (codes ":-") clause) (sides_of (codes "-->") clause) at refl refl is in
    subst IsLight same (omega (arith, small, light))

pub clauses_light : (file : ℕ) (owner : List ℕ) (clauses : List Tree) (body : Body) → All (λ tree. weight tree ≤ MOST_BYTES) clauses → Contains (clause_bodies file owner clauses) body
    → IsLight body
clauses_light file owner clauses body light has =
    let h : Tree → Option Body = λ clause. option_map (body_in file) (body_of owner clause) in
    let given = (among_given (λ (x : Body) (y : Body). x ≡ y) h clauses body).0 (record { one = body; has = has; is = refl }) in
    let is : h given.one ≡ Some body = given.is.is ∙ ap (λ b. Some b) given.is.holds in
    given_light file owner given.one body (body_of owner given.one) refl is (All-contains (λ tree. weight tree ≤ MOST_BYTES) clauses given.one light given.has)

pub place_light : (seen : Seen) (at : ℕ × ℕ) (body : Body) → IsKnown seen → IsThere seen.loaded.files at → Contains (bodies_at seen.loaded.files at) body → IsLight body
place_light seen at body known is has =
    let files = seen.loaded.files in
    let in_file : Contains files is.file = stands_in files at.0 is.file is.at_place in
    let in_part : Contains is.file.defined is.predicate = stands_in is.file.defined at.1 is.predicate is.at_part in
    let P : Facts → Type 0 = λ file. All (λ (p : Predicate). All (λ tree. weight tree ≤ MOST_BYTES) p.clauses) file.defined in
    let light = read_has P seen.loaded.texts files known.read (λ text file read. read.light_clauses) is.file in_file in
    clauses_light at.0 is.file.module_ is.predicate.clauses body
    (All-contains (λ (p : Predicate). All (λ tree. weight tree ≤ MOST_BYTES) p.clauses) is.file.defined is.predicate light in_part)
    (subst (λ (bs : List Body). Contains bs body) (bodies_there files at is.file is.predicate is.at_place is.at_part) has)

pub bodies_light : (seen : Seen) (node : ℕ) → IsKnown seen → All IsLight (bodies_in seen node)
bodies_light seen node known =
    all_by IsLight (bodies_in seen node) (λ body has.
    let among = (flat_has (bodies_at seen.loaded.files) (places_in seen node) body).0 has in
    place_light seen among.one body known (places_there seen node among.one among.has) among.is)

pub goals_light : (seen : Seen) → IsKnown seen → All IsLight (goals_in seen.loaded.files)
goals_light seen known =
    all_by IsLight (goals_in seen.loaded.files) (λ body has.
    let files = seen.loaded.files in
    let of_file = (flat_has goals_of_file (enumerate_from 0 files) body).0 has in
    let file = of_file.one.1 in
    let there : slice_get files of_file.one.0 ≡ Some file = enumerated files of_file.one of_file.has in
    let in_files : Contains files file =
    (of_file.one.0, slice_get_within files of_file.one.0 file there, get_or_from_slice_get files of_file.one.0 file file there) in
    let of_goal = (map_has (λ goal. body_in of_file.one.0 (place file.module_ goal_role goal)) file.goals body).0 of_file.is in
    let light = read_has (λ (f : Facts). All (λ tree. weight tree ≤ MOST_BYTES) f.goals) seen.loaded.texts files known.read (λ text f read. read.light_goals) file in_files in
    let small : weight of_goal.one ≤ MOST_BYTES = All-contains (λ tree. weight tree ≤ MOST_BYTES) file.goals of_goal.one light of_goal.has in
    subst IsLight of_goal.is (omega (arith, small)))
