use Rattle.search_stack.proofs.Edges.{good_more}
use Rattle.search_stack.proofs.search.Search.stays_good.Goals as goal

pub returns : goal.returns
returns c = λ lists roots done more opened stack good grows. good_more more good grows
