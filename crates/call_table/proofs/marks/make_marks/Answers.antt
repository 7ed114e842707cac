use Rattle.std.proofs.Common.{◌<◌, ℕ, All, refl, sym, subst}
use Rattle.std.specs.Prelude.{Contains}
use Rattle.call_table.specs.Marks.{AreMarks}
use Rattle.call_table.proofs.marks.make_marks.Goals as goal

pub marks_of-requires : goal.marks_of-requires
marks_of-requires c = subst (λ (n : ℕ). All (λ q. q < n) c.args.roots.now) (sym c.count.ensures) c.requires

pub returns : goal.returns
returns c = record {
  listed_is = refl;
  roots_are = subst (λ (n : ℕ). AreMarks n (Contains c.args.roots.now) c.in_ok-named.named.items) c.count.ensures c.in_ok-named.ensures;
  exported_are = c.in_ok-exported.ensures;
  by_export_are = c.in_ok-by_export.ensures;
  by_directive_are = c.in_ok-by_directive.ensures;
  by_file_are = c.in_ok-by_file.ensures;
  dynamic_are = c.in_ok-dynamic.ensures;
  multifile_are = c.in_ok-multifile.ensures;
}
