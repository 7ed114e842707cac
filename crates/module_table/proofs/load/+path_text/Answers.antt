use Rattle.std.proofs.Common.{◌≡◌, ◌++◌, Some, None, option_map, ap, sym, ◌∙◌, arith, codes}
use Rattle.std.specs.String.{string_bytes}
use Rattle.prolog_terms.specs.Terms.{tree_of}
use Rattle.module_table.specs.Loading.{both_texts, path_text}
use Rattle.prolog_terms.proofs.ViewLemmas.{AreBelow, sides_below}
use Rattle.module_table.proofs.Parts.{path_sides, path_alone, path_atom}
use Rattle.module_table.proofs.load.+path_text.Goals as goal

pub returns-in-Some : goal.returns-in-Some
returns-in-Some t c =
    ap (λ b. Some b) c.in_ok-from_str.ensures.ok ∙ sym (path_atom (tree_of c.args.term.now) c.in-Some.name.now (sym c.in-Some.ensures))

pub returns-in_default-sides : goal.returns-in_default-sides
returns-in_default-sides t c = sym (path_alone (tree_of c.args.term.now) (sym c.in_default.ensures) (sym c.in_default-sides.ensures.trees))

pub path_text-requires : goal.path_text-requires
path_text-requires t c =
    let below : AreBelow (tree_of c.args.term.now) (tree_of c.in-Some-sides.left) (tree_of c.in-Some-sides.right) =
    sides_below (codes "/") _ _ _ (sym c.in-Some-sides.ensures.trees) in
    (omega (arith, below.left_below), tt)

pub path_text-requires-2 : goal.path_text-requires-2
path_text-requires-2 t c =
    let below : AreBelow (tree_of c.args.term.now) (tree_of c.in-Some-sides.left) (tree_of c.in-Some-sides.right) =
    sides_below (codes "/") _ _ _ (sym c.in-Some-sides.ensures.trees) in
    (omega (arith, below.right_below), tt)

pub returns-in_default-2 : goal.returns-in_default-2
returns-in_default-2 t c =
    let left = tree_of c.in-Some-sides.left in
    let right = tree_of c.in-Some-sides.right in
    let sides = path_sides (tree_of c.args.term.now) left right (sym c.in-Some-sides.ensures.trees) in
    let none : path_text left ≡ None = sym c.in_ok-path.ensures ∙ ap (option_map string_bytes) c.in_default-2.is in
    sym (sides ∙ ap (λ found. both_texts found (path_text right)) none)

pub returns-in_default-3 : goal.returns-in_default-3
returns-in_default-3 t c =
    let left = tree_of c.in-Some-sides.left in
    let right = tree_of c.in-Some-sides.right in
    let sides = path_sides (tree_of c.args.term.now) left right (sym c.in-Some-sides.ensures.trees) in
    let some : path_text left ≡ Some (string_bytes c.in-Some-2.path) = sym c.in_ok-path.ensures ∙ ap (option_map string_bytes) c.in-Some-2.is in
    let none : path_text right ≡ None = sym c.in_ok-behind.ensures ∙ ap (option_map string_bytes) c.in_default-3.is in
    sym (sides ∙ (ap (λ found. both_texts found (path_text right)) some ∙ ap (both_texts (Some (string_bytes c.in-Some-2.path))) none))

pub returns : goal.returns
returns t c =
    let left = tree_of c.in-Some-sides.left in
    let right = tree_of c.in-Some-sides.right in
    let sides = path_sides (tree_of c.args.term.now) left right (sym c.in-Some-sides.ensures.trees) in
    let some : path_text left ≡ Some (string_bytes c.in-Some-2.path) = sym c.in_ok-path.ensures ∙ ap (option_map string_bytes) c.in-Some-2.is in
    let behind : path_text right ≡ Some (string_bytes c.in-Some-3.behind) = sym c.in_ok-behind.ensures ∙ ap (option_map string_bytes) c.in-Some-3.is in
    let whole : string_bytes c.push_str-2.new.self ≡ string_bytes c.in-Some-2.path ++ codes "/" ++ string_bytes c.in-Some-3.behind =
    c.in_ok-push_str-2.ensures.bytes
    ∙ (ap (λ b. b ++ c.as_str.result.now) c.in_ok-push_str.ensures.bytes ∙ ap (λ b. string_bytes c.in-Some-2.path ++ codes "/" ++ b) c.as_str.ensures.value) in
    ap (λ b. Some b) whole
    ∙ sym (sides ∙ (ap (λ found. both_texts found (path_text right)) some ∙ ap (both_texts (Some (string_bytes c.in-Some-2.path))) behind))
