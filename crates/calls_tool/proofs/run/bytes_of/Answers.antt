-- One text more.
use Rattle.std.proofs.Common.{◌++◌, ◌∷◌, [], ℕ, Vec, Global, append_assoc, ap, sym, ◌∙◌}
use Rattle.tool_run.specs.Say.{concatenated}
use Rattle.calls_tool.proofs.Bytes.{bytes_more}
use Rattle.calls_tool.proofs.run.bytes_of.Goals as goal

pub loop-text-preserved : goal.loop-text-preserved
loop-text-preserved c =
    let text = c.in-Some.text in
    let before = c.loop-text.yielded in
    record {
      left = append_assoc before (text ∷ []) c.next.new.self.rest.items ∙ (ap (λ rest. before ++ rest) (sym c.in-Some.ensures.steps.0) ∙ c.loop-text.invariant.left);
      bytes =
          ap concatenated c.in_ok-push.ensures.items
          ∙ bytes_more c.loop-text.bytes.items c.into_bytes.result before text c.loop-text.invariant.bytes
          (ap (λ (bytes : Vec ℕ Global). bytes.items) c.into_bytes.ensures.value);
    }
