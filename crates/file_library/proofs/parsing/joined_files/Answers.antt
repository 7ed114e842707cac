-- The files of one more list come behind the others.
use Rattle.std.proofs.Common.{List, ◌++◌, ◌∷◌, [], subst, sym}
use Rattle.std.specs.List.{AllZip, flat_map}
use Rattle.file_library.specs.declared.answer.Answer.{Answer}
use Rattle.file_library.specs.AskedFile.{IsParsed, AreParsed}
use Rattle.file_library.proofs.ParsedFiles.{joined_none, joined_more}
use Rattle.file_library.proofs.parsing.joined_files.Goals as goal

pub loop-list-init : goal.loop-list-init
loop-list-init c = λ answers zip. subst (λ files. AllZip IsParsed (flat_map (λ (list : List Answer). list) answers) files) (sym c.new-all.ensures.items) (joined_none IsParsed answers zip)

pub loop-list-preserved : goal.loop-list-preserved
loop-list-preserved c = λ answers zip.
    subst (λ files. AllZip IsParsed (flat_map (λ (list : List Answer). list) answers) files) (sym c.in_ok-append.ensures.items)
    (joined_more IsParsed answers c.loop-list.yielded c.in_ok-list.list c.loop-list.all.items c.loop-list.invariant
    (subst (λ result. AllZip AreParsed answers (c.loop-list.yielded ++ result ∷ [])) c.in_ok-list.was zip))
