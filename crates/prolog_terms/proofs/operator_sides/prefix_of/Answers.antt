use Rattle.std.proofs.Common.{codes, refl, sym, ap, option_map}
use Rattle.prolog_ops.specs.Table.{Prefix}
use Rattle.prolog_terms.specs.Words.{sides}
use Rattle.prolog_terms.proofs.operator_sides.prefix_of.Goals as goal

pub returns-in-Comma : goal.returns-in-Comma
returns-in-Comma c = rw c.in-Comma.is (ap (option_map sides) (sym (c.table_law.ensures.fixed Prefix (codes ",") refl)))

pub returns-in-Bar : goal.returns-in-Bar
returns-in-Bar c = rw c.in-Bar.is (ap (option_map sides) (sym (c.table_law.ensures.fixed Prefix (codes "|") refl)))
