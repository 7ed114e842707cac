-- Calls as the code keeps them.
use Rattle.std.proofs.Common.{◌≡◌, ◌↔◌, ℕ, List, [], ◌∷◌, Contains, ◌-◌, length, map, ap, ◌∙◌, refl, subst, arith}
use Rattle.std.specs.Prelude.{slice_range}
use Rattle.std.proofs.lemmas.List.{take_all}
use Rattle.import_rules.specs.Program.{Seen}
use Rattle.call_edges.specs.CallPlaces.{CallAt, IsCallOf}
use Rattle.call_edges.specs.KeptCalls.{AreCallsBetween, calls_in, has_call}
use Rattle.call_edges.specs.PlacedSeen.{see_calls}
use Rattle.call_edges.specs.declared.placed_calls.PlacedCall.{PlacedCall}
use Rattle.call_edges.proofs.KeptCallLemmas.{calls_between}

-- the names lie nowhere
abbrev pub kept : CallAt → PlacedCall
kept c = record {
  named = record {
    file = c.file;
    offset = c.offset;
    caller = c.caller;
    «module» = record { ref_ptr = (0, 0); now = c.callee.module };
    name = record { ref_ptr = (0, 0); now = c.callee.name };
    arity = c.callee.arity;
    added = c.added;
    negated = c.negated;
  };
  callee = c.means;
}

pub kept_seen : (calls : List CallAt) → see_calls (map kept calls) ≡ calls
kept_seen [] = refl
kept_seen (c ∷ calls) = ap (λ cs. c ∷ cs) (kept_seen calls)

-- the list of the calls of a predicate has just its calls
pub calls_are : (seen : Seen) (node : ℕ) (c : CallAt) → Contains (calls_in seen node) c ↔ IsCallOf seen node c
calls_are seen node c =
    let calls : List PlacedCall = map kept (calls_in seen node) in
    let whole : see_calls (slice_range calls 0 (length calls)) ≡ calls_in seen node =
    ap see_calls (take_all (length calls - 0) calls (omega arith)) ∙ kept_seen (calls_in seen node) in
    let between : AreCallsBetween seen node calls (0, length calls) = record {
      ordered = omega arith;
      within = omega arith;
      each = λ d. ap (λ cs. has_call cs d) whole;
    } in
    subst (λ (cs : List CallAt). Contains cs c ↔ IsCallOf seen node c) whole (calls_between seen node calls (0, length calls) between c)
