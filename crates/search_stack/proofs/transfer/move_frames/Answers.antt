use Rattle.std.proofs.Common.{◌-◌, ◌∙◌, ◌++◌, List, [], ◌∷◌, length, take, drop, map, get_or, ap, sym, arith}
use Rattle.std.proofs.lemmas.List.{append-nil, append_assoc, length-append, length-drop, length-map, length-take-le, map_push, take_all, take_more, take_rest}
use Rattle.search_stack.specs.declared.frame.Frame.{Frame}
use Rattle.search_stack.specs.Search.{moved}
use Rattle.search_stack.proofs.transfer.move_frames.Goals as goal

pub loop-frame-init : goal.loop-frame-init
loop-frame-init c = record { items = sym (append-nil c.args.to.now.items); room = omega arith }

pub unwrap-requires : goal.unwrap-requires
unwrap-requires c =
    let all : List Frame = take (length c.deref.result.now - c.args.cut.frame) (drop c.args.cut.frame c.deref.result.now) in
    let n = c.loop-frame.frame-index in
    c.push.ensures.succeeds
    (omega (
      arith,
      c.loop-frame.to.ok.0,
      ap length c.loop-frame.invariant.items,
      length-append c.args.to.now.items (map (moved c.args.base c.args.cut.position) (take n all)),
      length-map (take n all) (moved c.args.base c.args.cut.position),
      length-take-le n all (omega (arith, c.loop-frame-test.true)),
      ap length (take_rest c.deref.result.now c.args.cut.frame),
      length-drop c.args.cut.frame c.deref.result.now,
      ap length c.deref.ensures.value,
      c.requires.room,
      c.requires.within,
      c.loop-frame-test.true,
      c.loop-frame.invariant.room,
    ))

pub loop-frame-preserved : goal.loop-frame-preserved
loop-frame-preserved c =
    let all : List Frame = take (length c.deref.result.now - c.args.cut.frame) (drop c.args.cut.frame c.deref.result.now) in
    let n = c.loop-frame.frame-index in
    let d : Frame = record { position = 0; low = 0 } in
    let f = moved c.args.base c.args.cut.position in
    let pushed = rw c.unwrap.ensures at c.push.ensures.items in
    record {
      items =
          pushed ∙ ap (λ xs. xs ++ f (get_or all n d) ∷ []) c.loop-frame.invariant.items
          ∙ append_assoc c.args.to.now.items (map f (take n all)) (f (get_or all n d) ∷ [])
          ∙ ap (λ xs. c.args.to.now.items ++ xs) (sym (map_push f (take n all) (get_or all n d)) ∙ sym (ap (map f) (take_more all n d c.loop-frame-test.true)));
      room = omega (arith, c.loop-frame.invariant.room, c.push.ensures.capacity);
    }

pub returns-clause-to : goal.returns-clause-to
returns-clause-to c =
    let all : List Frame = take (length c.deref.result.now - c.args.cut.frame) (drop c.args.cut.frame c.deref.result.now) in
    c.loop-frame.invariant.items
    ∙ ap (λ xs. c.args.to.now.items ++ map (moved c.args.base c.args.cut.position) xs)
    (take_all c.loop-frame.frame-index all (omega (arith, c.loop-frame-test.false)) ∙ take_rest c.deref.result.now c.args.cut.frame
    ∙ ap (drop c.args.cut.frame) c.deref.ensures.value)

pub returns-clause-to_room : goal.returns-clause-to_room
returns-clause-to_room c = c.loop-frame.invariant.room
