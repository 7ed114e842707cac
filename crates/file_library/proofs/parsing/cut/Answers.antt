-- One more list has left the rest.
use Rattle.std.proofs.Common.{◌≡◌, ◌+◌, ◌*◌, ◌/◌, length, subst, sym, ap, ◌∙◌, arith}
use Rattle.std.proofs.lemmas.List.{length-append, length-drop}
use Rattle.file_library.proofs.ParsedFiles.{cut_on, cut_counts}
use Rattle.file_library.specs.AskedFile.{items_in}
use Rattle.std.proofs.Common.{◌++◌, ◌∷◌, []}
use Rattle.file_library.proofs.parsing.cut.Goals as goal

pub loop-rest-preserved : goal.loop-rest-preserved
loop-rest-preserved c =
    let lists = c.loop-rest.lists.items in (
      subst (λ more. items_in more ++ c.in_ok-more.more.items ≡ c.args.answers.items) (sym c.in_ok-push.ensures.items)
          (cut_on lists c.split_off.new.self c.loop-rest.rest.items c.in_ok-more.more.items c.args.answers.items (c.len.result / 64 + 1) c.in_ok-more.ensures.items c.in_ok-more.ensures.tail
          c.loop-rest.invariant.0),
      subst (λ n. n * (c.len.result / 64 + 1) + length c.in_ok-more.more.items ≡ length c.args.answers.items) (sym (ap length c.in_ok-push.ensures.items ∙ length-append lists (c.split_off.new.self ∷ [])))
          (cut_counts (length lists) (c.len.result / 64 + 1) (length c.loop-rest.rest.items) (length c.in_ok-more.more.items) (length c.args.answers.items) c.loop-rest.invariant.1
          (omega (arith, ap (λ items. length items) c.in_ok-more.ensures.tail, length-drop (c.len.result / 64 + 1) c.loop-rest.rest.items, c.loop-rest-test.true, c.len-in-loop-rest.ensures))),
    )
