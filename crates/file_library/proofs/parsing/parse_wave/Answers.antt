-- The lists of files in order are the files of the answers.
use Rattle.std.proofs.Common.{◌≡◌, List, All, Vec, Global, map, length, get_or, subst, sym, ◌∙◌, arith}
use Rattle.std.specs.List.{AllZip, flat_map}
use Rattle.file_library.specs.declared.answer.Answer.{Answer}
use Rattle.file_library.specs.declared.asked_file.AskedFile.{AskedFile}
use Rattle.file_library.specs.AskedFile.{IsParsed, AreParsed, IsSmall}
use Rattle.file_library.proofs.ParsedFiles.{list_small, zip_from_lists, flat_lists, if_ok}
use Rattle.file_library.proofs.parsing.parse_wave.Goals as goal

pub map_vec-requires-after_bounds : goal.map_vec-requires-after_bounds
map_vec-requires-after_bounds g c = λ lifetimes outlives i x less is. (
  subst (λ (list : Vec Answer Global). All IsSmall list.items) (sym is)
      (list_small IsSmall c.in_ok-lists.lists.items (subst (λ answers. All IsSmall answers) (sym c.in_ok-lists.ensures.all) c.requires) i x less),
  search,
)

pub returns : goal.returns
returns g c =
    let lists = c.in_ok-lists.lists.items in
    let answers : List (List Answer) = map (λ (v : Vec Answer Global). v.items) lists in
    let same : length c.in_ok-parsed.parsed.items ≡ length lists = omega (arith, c.in_ok-parsed.ensures.len, c.in_ok-parsed.parsed.ok.0, c.in_ok-lists.lists.ok.0) in
    let zip : AllZip AreParsed answers c.in_ok-parsed.parsed.items =
    zip_from_lists AreParsed lists c.in_ok-parsed.parsed.items same
    (λ i d e less.
    let one = (c.in_ok-parsed.ensures.each i d (omega (arith, less, same))).1 in
    subst (λ (v : Vec Answer Global). AreParsed v.items (get_or c.in_ok-parsed.parsed.items i d)) (sym (one.job_is e)) one.call.met) in
    let flat : flat_map (λ (l : List Answer). l) answers ≡ c.args.answers.items = flat_lists lists ∙ c.in_ok-lists.ensures.all in
    if_ok (λ (files : Vec AskedFile Global). (parts : List (List Answer)) → AllZip AreParsed parts c.in_ok-parsed.parsed.items → AllZip IsParsed (flat_map (λ (l : List Answer). l) parts) files.items)
    (λ (files : Vec AskedFile Global). AllZip IsParsed c.args.answers.items files.items) c.joined_files.result
    (λ files gives. subst (λ items. AllZip IsParsed items files.items) flat (gives answers zip)) c.joined_files.ensures
