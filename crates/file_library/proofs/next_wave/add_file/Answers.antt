-- A name that is known is passed over, and any other is added.
use Rattle.std.proofs.Common.{inl, inr, sym, ◌∙◌, ap}
use Rattle.std.specs.BTreeSet.{insert_key}
use Rattle.std.specs.Cmp.Lexicographic.{slice_cmp}
use Rattle.std.specs.Ordering.{nat_cmp}
use Rattle.file_library.proofs.NextWaveLemmas.{has_key, has_no_key, nothing_added, one_added}
use Rattle.file_library.proofs.next_wave.add_file.Goals as goal

pub returns-then-contains : goal.returns-then-contains
returns-then-contains c =
    nothing_added c.args.asked.now.keys c.args.room c.args.next.now.keys c.args.file.now (inl (has_key c.args.asked.now c.args.file.now (sym c.contains.ensures ∙ c.if-contains.true)))

pub returns-then-contains-2 : goal.returns-then-contains-2
returns-then-contains-2 c =
    nothing_added c.args.asked.now.keys c.args.room c.args.next.now.keys c.args.file.now
    (inr (inl (has_key c.args.next.now c.args.file.now (sym c.contains-2.ensures ∙ c.if-contains-2.true))))

pub returns : goal.returns
returns c =
    one_added c.args.asked.now.keys c.args.room c.args.next.now.keys c.insert.new.self.keys c.args.file.now
    (has_no_key c.args.asked.now c.args.file.now (sym c.contains.ensures ∙ c.if-contains.false))
    (c.in_ok-insert.ensures.keys ∙ ap (insert_key (slice_cmp nat_cmp) c.args.next.now.keys) (c.in_ok-new.ensures ∙ c.as_str.ensures))
