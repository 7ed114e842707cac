use Rattle.std.proofs.Common.{arith}
use Rattle.graph_law.proofs.GraphLaws.{length-lists_of}
use Rattle.report_lines.proofs.Printable.{few_groups, short_groups}
use Rattle.component_report.proofs.whole.written.Goals as goal

pub push_head-requires : goal.push_head-requires
push_head-requires c = record {
  few = omega (arith, few_groups c.requires.few c.requires.printable, length-lists_of c.args.groups.now);
  short = short_groups c.requires.few c.requires.printable;
}

pub push_groups-requires : goal.push_groups-requires
push_groups-requires c = record {
  one_level_each = omega (arith, c.requires.printable.one_level_each, length-lists_of c.args.groups.now);
  within = c.requires.printable.within;
  places = c.requires.places;
}

pub push_json_head-requires : goal.push_json_head-requires
push_json_head-requires c = record {
  few = omega (arith, few_groups c.requires.few c.requires.printable, length-lists_of c.args.groups.now);
  short = short_groups c.requires.few c.requires.printable;
}

pub push_json_groups-requires : goal.push_json_groups-requires
push_json_groups-requires c = record {
  one_level_each = omega (arith, c.requires.printable.one_level_each, length-lists_of c.args.groups.now);
  within = c.requires.printable.within;
  places = c.requires.places;
}
