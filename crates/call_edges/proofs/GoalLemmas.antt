-- The goals of directives, file by file.
use Rattle.std.proofs.Common.{◌≡◌, ℕ, ◌+◌, ◌<◌, ◌≤◌, List, ◌++◌, length, take, get_or, map, ap, sym, ◌∙◌, arith}
use Rattle.std.specs.List.{flat_map, enumerate_from}
use Rattle.std.proofs.lemmas.List.{length-map, get_or-map, take_all}
use Rattle.std.proofs.lemmas.List.FromFn.{length-enumerate_from, get_or-enumerate_from}
use Rattle.module_table.specs.declared.file_facts.FileFacts.{FileFacts}
use Rattle.module_table.specs.Facts.{see_facts}
use Rattle.call_edges.specs.Bodies.{goals_of_file, goals_in}
use Rattle.call_edges.proofs.BodyLemmas.{flat_more}

pub files_more : (files : List FileFacts) (k : ℕ) (file : FileFacts) → k < length files → file ≡ get_or files k file
    → flat_map goals_of_file (take (k + 1) (enumerate_from 0 (map see_facts files)))
    ≡ flat_map goals_of_file (take k (enumerate_from 0 (map see_facts files))) ++ goals_of_file (k, see_facts file)
files_more files k file lt is =
    let all = map see_facts files in
    let own = see_facts file in
    let within : k < length all = omega (arith, lt, length-map files see_facts) in
    let read : get_or all k own ≡ own = get_or-map see_facts files k file own lt ∙ ap see_facts (sym is) in
    let count : 0 + k ≡ k = omega arith in
    let here : get_or (enumerate_from 0 all) k (k, own) ≡ (k, own) = get_or-enumerate_from 0 all k (k, own) within ∙ (λ i. (count i, read i)) in
    flat_more goals_of_file (enumerate_from 0 all) k (k, own) (omega (arith, within, length-enumerate_from 0 all))
    ∙ ap (λ at. flat_map goals_of_file (take k (enumerate_from 0 all)) ++ goals_of_file at) here

pub files_all : (files : List FileFacts) (k : ℕ) → length files ≤ k → flat_map goals_of_file (take k (enumerate_from 0 (map see_facts files))) ≡ goals_in (map see_facts files)
files_all files k all =
    ap (flat_map goals_of_file)
    (take_all k (enumerate_from 0 (map see_facts files)) (omega (arith, all, length-enumerate_from 0 (map see_facts files), length-map files see_facts)))
