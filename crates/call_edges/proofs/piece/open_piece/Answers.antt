use Rattle.std.proofs.Common.{◌≡◌, ◌↔◌, ◌-◌, ◌*◌, ◌+◌, ◌<◌, ◌≤◌, ℕ, List, [], length, min, sym, subst, arith}
use Rattle.std.specs.Prelude.{Contains}
use Rattle.call_edges.specs.Goals.{Adds}
use Rattle.call_edges.specs.CallLists.{piece_lists}
use Rattle.call_edges.specs.CallPlaces.{CallAt, IsCallOf}
use Rattle.call_edges.specs.PlacedSeen.{see_calls}
use Rattle.call_edges.specs.Successors.{successor_lists}
use Rattle.call_edges.proofs.KeptCallLemmas.{AreFirstCalls, no_calls, more_calls, all_first_calls}
use Rattle.call_edges.proofs.LaidOutLemmas.{AreFirst, none_first, all_first, piece_count}
use Rattle.call_edges.proofs.PieceLemmas.{IsFaultBetween, between_none, between_more, piece_faults, piece_more}
use Rattle.call_edges.proofs.SuccessorLemmas.{lists_count}
use Rattle.call_edges.proofs.piece.open_piece.Goals as goal

pub loop-node-init : goal.loop-node-init
loop-node-init c =
    let seen = c.args.program.now in
    let from : ℕ = c.args.number * 512 in
    let piece = c.in_ok-piece.piece in
    let lists = piece_lists (successor_lists seen) c.args.number in
    let zero : 0 ≡ from - from = omega arith in record {
      lists =
          subst (λ (n : ℕ). AreFirst lists n piece.starts.items piece.callees.items) zero
          (subst (λ (xs : List ℕ). AreFirst lists 0 piece.starts.items xs) (sym c.in_ok-piece.ensures.callees)
          (none_first lists piece.starts.items c.in_ok-piece.ensures.starts));
      faults =
          subst (λ (xs : List (ℕ × ℕ)). Adds (IsFaultBetween seen from from) [] xs) (sym c.in_ok-piece.ensures.faults)
          (between_none seen from []);
      calls = λ keep.
          let kept = c.none-kept.result in
          subst (λ (n : ℕ). AreFirstCalls seen from n kept.spans.items kept.calls.items) zero
          (no_calls seen from kept.spans.items kept.calls.items c.none-kept.ensures.spans);
    }

pub loop-node-preserved : goal.loop-node-preserved
loop-node-preserved c =
    let seen = c.args.program.now in
    let number = c.args.number in
    let node = c.loop-node.node in
    let piece = c.loop-node.piece in
    let low : number * 512 ≤ node = omega arith in
    let below : node < length seen.predicates = omega (arith, c.count-count.ensures) in
    let high : node < number * 512 + 512 = omega (arith, c.count-count.ensures) in record {
      lists =
          piece_more seen number node c.open.new.found.callees.items c.deref.result.now piece.starts.items piece.callees.items c.push.new.self.starts.items c.push.new.self.callees.items
          low below high c.loop-node.invariant.lists c.in_ok-open.ensures.callees c.deref.ensures.value c.in_ok-push.ensures.callees c.in_ok-push.ensures.starts;
      faults =
          subst (λ (xs : List (ℕ × ℕ)). Adds (IsFaultBetween seen (number * 512) (node + 1)) [] xs) (sym c.in_ok-push.ensures.faults)
          (between_more seen (number * 512) node [] piece.faults.items c.open.new.faults.items low c.loop-node.invariant.faults c.in_ok-open.ensures.faults);
      calls = λ keep.
          let kept = c.loop-node.kept in
          let here : number * 512 + (node - number * 512) ≡ node = omega (arith, low) in
          let next : node - number * 512 + 1 ≡ node + 1 - number * 512 = omega (arith, low) in
          let Calls : ℕ → Type 0 = λ n. (call : CallAt) → Contains (see_calls c.open.new.found.calls.items) call ↔ IsCallOf seen n call in
          subst (λ (n : ℕ). AreFirstCalls seen (number * 512) n c.push-in-loop-node.new.self.spans.items c.push-in-loop-node.new.self.calls.items) next
          (more_calls seen (number * 512) (node - number * 512) kept.spans.items c.push-in-loop-node.new.self.spans.items kept.calls.items c.open.new.found.calls.items
          c.deref-in-loop-node.result.now c.push-in-loop-node.new.self.calls.items (c.loop-node.invariant.calls keep) (subst Calls (sym here) (c.in_ok-open.ensures.calls keep))
          c.deref-in-loop-node.ensures.value (c.in_ok-push-2.ensures.calls keep) (c.in_ok-push-2.ensures.spans keep));
    }

pub returns : goal.returns
returns c =
    let seen = c.args.program.now in
    let number = c.args.number in
    let node = c.loop-node.node in
    let piece = c.loop-node.piece in
    let every = successor_lists seen in
    let lists = piece_lists every number in
    let end : node ≡ number * 512 + min (length seen.predicates - number * 512) 512 = omega (arith, c.count-count.ensures, c.requires) in
    let whole : node - number * 512 ≡ length lists = omega (arith, end, piece_count every number, lists_count seen) in record {
      piece = record {
        laid_out = all_first lists (node - number * 512) piece.starts.items piece.callees.items c.loop-node.invariant.lists whole;
        faults = piece_faults seen number node piece.faults.items end c.loop-node.invariant.faults;
      };
      kept = λ keep.
          all_first_calls seen number (node - number * 512) c.loop-node.kept (λ k short below. omega (arith, short, below, end)) (c.loop-node.invariant.calls keep);
    }
