use Rattle.std.proofs.Common.{◌∙◌, codes}
use Rattle.clap.specs.Words.{found_of}
use Rattle.clap.proofs.WalkLemmas.{first_value-rows}
use Rattle.group_words.proofs.given.given_by.Goals as goal

pub returns : goal.returns
returns c = let found = found_of c.args.matches.now in record {
  jobs = c.get_str.ensures ∙ first_value-rows found (codes "jobs");
  searches = c.get_str-2.ensures ∙ first_value-rows found (codes "searches");
  seed = c.get_str-3.ensures ∙ first_value-rows found (codes "seed");
  roots = c.get_str-4.ensures ∙ first_value-rows found (codes "roots");
  path = c.get_str-5.ensures ∙ first_value-rows found (codes "path");
  order = c.is_set.ensures;
  unreached = c.is_set-2.ensures;
  effects = c.is_set-3.ensures;
  loops = c.is_set-4.ensures;
  stream = c.is_set-5.ensures;
  make = c.get_str-6.ensures ∙ first_value-rows found (codes "make");
  files = c.in_ok-files.ensures;
}
