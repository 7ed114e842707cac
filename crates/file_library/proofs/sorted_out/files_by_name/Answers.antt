-- The files are sorted by name, and no two have the same name.
use Rattle.std.proofs.Common.{rules}
use Rattle.std.proofs.lemmas.List.Sorted.{answers_always}
use Rattle.file_library.proofs.OrderedFiles.{comes_before, comes_before_ranks, ordered_files}
use Rattle.file_library.proofs.sorted_out.files_by_name.Goals as goal

pub returns : goal.returns
returns c = ordered_files c.args.files.items c.sort_by.new.self.items c.sort_by.ensures.permutation (c.in_ok-sort_by.ensures.sorted comes_before comes_before_ranks (answers_always _ _ _ (λ f a r g called. search rules))) c.requires
