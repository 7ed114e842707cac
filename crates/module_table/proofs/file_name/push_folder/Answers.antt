use Rattle.std.proofs.Common.{rules, arith, ◌++◌, codes, sym, ap, ◌∙◌}
use Rattle.std.specs.String.{string_bytes}
use Rattle.std.proofs.lemmas.List.{append-nil}
use Rattle.module_table.specs.FileName.{folder}
use Rattle.module_table.proofs.FileNameLemmas.{folder_moved, folder_none}
use Rattle.module_table.proofs.file_name.push_folder.Goals as goal

pub loop-segment-preserved : goal.loop-segment-preserved
loop-segment-preserved c =
    let cut = c.in-Some.ensures.byte (omega arith) (λ w o h. h) in (
      search rules,
      ap (λ x. x ++ folder c.in-Some.more.now)
          (c.in_ok-push_str-2.ensures.bytes ∙ ap (λ x. x ++ codes "/") c.in_ok-push_str.ensures.bytes)
          ∙ folder_moved (string_bytes c.loop-segment.path) c.loop-segment.rest.now c.in-Some.segment.now c.in-Some.more.now cut.0 cut.1 cut.2
          ∙ c.loop-segment.invariant.1,
    )

pub returns : goal.returns
returns c =
    let none = c.in_default.ensures.byte (omega arith) (λ w o h. h) in
    sym (append-nil (string_bytes c.loop-segment.path))
    ∙ ap (λ x. string_bytes c.loop-segment.path ++ x) (sym (folder_none c.loop-segment.rest.now none))
    ∙ c.loop-segment.invariant.1
