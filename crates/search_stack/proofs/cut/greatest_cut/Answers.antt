use Rattle.std.proofs.Common.{◌-◌, length, refl, arith}
use Rattle.search_stack.specs.FrameCuts.{frame_in}
use Rattle.search_stack.proofs.Scan.{scan_start, scan_step, scan_found, scan_none}
use Rattle.search_stack.proofs.cut.greatest_cut.Goals as goal

pub frames-init : goal.frames-init
frames-init c = scan_start c.args.frames.now c.args.place (length c.args.frames.now) refl

pub offset_bounds-frames-above : goal.offset_bounds-frames-above
offset_bounds-frames-above c = omega (arith, c.frames.invariant.within, c.requires.few)

pub bounds-frames-above : goal.bounds-frames-above
bounds-frames-above c = omega (arith, c.frames.invariant.within, c.frames-test.true)

pub frames-preserved-then-frame-place : goal.frames-preserved-then-frame-place
frames-preserved-then-frame-place c =
    scan_step c.min-least.result (frame_in c.args.frames.now (c.frames.above - 1)) c.frames.invariant c.frames-test.true refl c.min-least.ensures
    (λ le. absurd (omega (arith, le, c.if-frame-place.true))) (omega (arith, c.ranges.place))

pub overflow_cast-result : goal.overflow_cast-result
overflow_cast-result c = omega (arith, c.frames.invariant.within, c.requires.few, c.frames-test.true)

pub returns-then-frame-least : goal.returns-then-frame-least
returns-then-frame-least c =
    scan_found c.min-least.result (frame_in c.args.frames.now (c.frames.above - 1)) c.frames.invariant c.frames-test.true refl c.min-least.ensures
    (omega (arith, c.if-frame-place.false)) c.if-frame-least.true

pub frames-preserved : goal.frames-preserved
frames-preserved c =
    scan_step c.min-least.result (frame_in c.args.frames.now (c.frames.above - 1)) c.frames.invariant c.frames-test.true refl c.min-least.ensures
    (λ le. omega (arith, c.if-frame-least.false)) (omega (arith, c.ranges.place))

pub returns : goal.returns
returns c = absurd (scan_none c.frames.above c.frames.invariant (omega (arith, c.frames-test.false)) c.requires.some c.requires.first)
