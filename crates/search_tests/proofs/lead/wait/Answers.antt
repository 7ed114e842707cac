use Rattle.search_tests.proofs.lead.wait.Goals as goal

pub suspend-requires-clause-can_wait : goal.suspend-requires-clause-can_wait
suspend-requires-clause-can_wait c = record {
  some = c.requires.leads.some;
  wants_nothing = c.requires.leads.wants_nothing;
  apart = c.requires.leads.apart;
  last = c.requires.leads.last;
  off = c.requires.off;
}
