use Rattle.std.proofs.Common.{◌≡◌, ◌<◌, ◌∙◌, ◌&&◌, not, map, length, get_or, subst, ap, sym, arith}
use Rattle.std.specs.List.Sorted.{IsPermutation}
use Rattle.std.specs.BTreeSet.{contains}
use Rattle.std.specs.Cmp.Lexicographic.{slice_cmp}
use Rattle.std.specs.Ordering.{nat_cmp}
use Rattle.std.proofs.lemmas.List.{length-map, get_or-map}
use Rattle.module_table.specs.Facts.{see_facts}
use Rattle.import_rules.specs.KnownFiles.{indicators_of}
use Rattle.import_rules.proofs.Lookup.{known_more, declared_so_far}
use Rattle.import_rules.proofs.known_file.known_files.Goals as goal

pub loop-file-preserved : goal.loop-file-preserved
loop-file-preserved c =
    let files = map see_facts c.args.files.now in
    let i = c.loop-file.file-index in
    let file = see_facts c.file-item.result in
    let within : i < length files = omega (arith, c.loop-file-test.true, length-map c.args.files.now see_facts) in
    let here : file ≡ get_or files i file = ap see_facts c.file-item.is ∙ sym (get_or-map see_facts c.args.files.now i c.file-item.result file c.loop-file-test.true) in
    let known =
    known_more files i c.loop-file.known.items c.push.new.self.items _ c.requires within here c.in_ok-push.ensures.items c.loop-file.invariant.0 c.loop-file.invariant.1
    c.in_ok-exports.ensures.sorted (subst (λ es. IsPermutation es (indicators_of c.in_ok-exports.exports.items)) c.deref.ensures.value c.in_ok-exports.ensures.moved)
    (c.in_ok-leads.ensures.new ∙ ap (λ b. file.is_module && not b) (c.loop-file.invariant.2 file.module_)) in (
      known.0,
      known.1,
      λ own.
          declared_so_far own files i file (contains (slice_cmp nat_cmp) c.loop-file.declared own) (contains (slice_cmp nat_cmp) c.declare.new.declared own) within here
          (c.in_ok-leads.ensures.more own) (c.loop-file.invariant.2 own),
    )
