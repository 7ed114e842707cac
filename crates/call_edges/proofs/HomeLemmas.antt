-- Bodies that are kept with their files.
use Rattle.std.proofs.Common.{◌≡◌, ℕ, ◌<◌, List, All, length, get_or, ap, sym, ◌∙◌, subst}
use Rattle.import_rules.specs.declared.home.Home.{Home}
use Rattle.import_rules.specs.Program.{Seen}
use Rattle.call_edges.specs.declared.body.Body.{Body}
use Rattle.call_edges.specs.Bodies.{IsAtHome, IsHomeOf, names_in}

pub body_at_home : (seen : Seen) (owner : List ℕ) (names : List (List ℕ)) (home : Home) (b : Body) → IsHomeOf seen owner names home → b.home ≡ home
    → b.owner.now ≡ owner → names_in b.content ≡ names → IsAtHome seen b
body_at_home seen owner names home b is home_is owner_is names_are = record {
  program = ap (λ (h : Home). h.program.now) home_is ∙ is.program;
  module_ = ap (λ (h : Home). h.facts.now.module) home_is ∙ is.module_ ∙ sym owner_is;
  names_ = ap (λ (h : Home). h.facts.now.names) home_is ∙ is.names_ ∙ sym names_are;
}

-- each of them is
pub home_at : (seen : Seen) (bodies : List Body) (k : ℕ) (b : Body) → All (IsAtHome seen) bodies → k < length bodies → b ≡ get_or bodies k b → IsAtHome seen b
home_at seen bodies k b all within is = subst (IsAtHome seen) (sym is) (all k b within)
