use Rattle.std.proofs.Common.{◌≡◌, Some, sym, arith}
use Rattle.prolog_names.specs.Names.{name_at}
use Rattle.prolog_terms.specs.Terms.{tree_of, trees_of}
use Rattle.prolog_terms.specs.Views.{Parted, name_and_args}
use Rattle.call_edges.proofs.FreeNames.{IsFree}
use Rattle.call_edges.proofs.PlainCalls.{plain_called, args_weight}
use Rattle.call_edges.proofs.by_number.free_goal.Goals as goal

pub arity_of-requires : goal.arity_of-requires
arity_of-requires c =
    let tree = tree_of c.args.term.now in
    let p : Parted = record { name = name_at c.args.term.now.names.now c.in_ok-number.number; args = trees_of c.in_ok-number.args } in
    let is : name_and_args tree ≡ Some p = sym c.in_ok-number.ensures.trees in
    omega (arith, c.requires, args_weight tree p is)

pub returns : goal.returns
returns c =
    let tree = tree_of c.args.term.now in
    let number = c.in_ok-number.number in
    let p : Parted = record { name = name_at c.args.term.now.names.now number; args = trees_of c.in_ok-number.args } in
    let is : name_and_args tree ≡ Some p = sym c.in_ok-number.ensures.trees in
    let free : IsFree p.name = λ some k below. c.known_law.ensures.others number k c.if-number-lt-KNOWN_COUNT.false some below in
    plain_called c.args.role tree c.arity_of.result p is (c.is_goal.ensures c.if-not-is_goal.false) free c.arity_of.ensures
