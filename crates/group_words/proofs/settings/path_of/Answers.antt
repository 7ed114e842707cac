use Rattle.std.proofs.Common.{Bor, List, ℕ, ap, option_map}
use Rattle.group_words.proofs.OneSettings.{not_two}
use Rattle.group_words.proofs.settings.path_of.Goals as goal

pub returns-in-None-clause-usage : goal.returns-in-None-clause-usage
returns-in-None-clause-usage c usage path is =
    not_two c.in-Some.list.now c.in-Some-2.named.items (rw c.in-Some-2.is at c.in_ok-named.ensures) c.in-None.ensures
    (option_map (λ (t : Bor (List ℕ)). t.now) c.args.text)
    (ap (option_map (λ (t : Bor (List ℕ)). t.now)) c.in-Some.is) path is
