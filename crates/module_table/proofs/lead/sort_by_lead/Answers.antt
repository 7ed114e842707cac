use Rattle.std.proofs.Common.{rules}
use Rattle.std.proofs.lemmas.Fn.{always_returns_same}
use Rattle.module_table.proofs.LeadOrder.{lead_of, stable_by_lead}
use Rattle.module_table.proofs.lead.sort_by_lead.Goals as goal

pub returns-clause-stable : goal.returns-clause-stable
returns-clause-stable c =
    stable_by_lead c.args.names.now c.args.runs.now.items c.sort_by_cached_key.new.self.items
    (c.sort_by_cached_key.ensures.stable (lead_of c.args.names.now) (always_returns_same _ _ _ (λ a r f called. search rules)))
