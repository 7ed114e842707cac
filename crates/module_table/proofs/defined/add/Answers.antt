use Rattle.std.proofs.Common.{take, refl, sym, ◌∙◌, ◌-◌}
use Rattle.std.specs.Prelude.{slice_set}
use Rattle.module_table.specs.declared.defined.Defined.{Defined}
use Rattle.module_table.proofs.RunLemmas.{none_there, last_there, last_changed}
use Rattle.module_table.proofs.Grouping.{add_to_none, add_behind, add_to_last}
use Rattle.module_table.proofs.defined.add.Goals as goal

pub returns-in_default : goal.returns-in_default
returns-in_default c ds up are =
    let names = c.args.names.now in
    let old = c.args.defined.now.items in
    add_to_none names ds c.args.run old c.push.new.self.items (none_there old c.in_default.ensures.item.3) c.in_ok-push.ensures.items are

pub returns-then-is_of : goal.returns-then-is_of
returns-then-is_of c ds up are =
    let names = c.args.names.now in
    let old = c.args.defined.now in
    let last = c.in-Some.last.now in
    let longer : Defined = record { «module» = last.module; name = last.name; arity = last.arity; clauses = c.append.new.self } in
    let some = c.in-Some.ensures.item.3.0 in
    add_to_last names ds c.args.run old.items (take (old.len - 1) old.items) (slice_set old.items (old.len - 1) longer) last longer
    (last_there old.items old.len last old.ok.0 some c.in-Some.ensures.value) (last_changed old.items old.len longer old.ok.0 some)
    refl refl refl c.in_ok-append.ensures (sym c.is_of.ensures ∙ c.if-is_of.true) are

pub returns : goal.returns
returns c ds up are =
    let names = c.args.names.now in
    let old = c.args.defined.now in
    let last = c.in-Some.last.now in
    let some = c.in-Some.ensures.item.3.0 in
    add_behind names ds c.args.run old.items (take (old.len - 1) old.items) (slice_set old.items (old.len - 1) last) c.push-2.new.self.items last
    (last_there old.items old.len last old.ok.0 some c.in-Some.ensures.value) (last_changed old.items old.len last old.ok.0 some)
    c.in_ok-push-2.ensures.items (sym c.is_of.ensures ∙ c.if-is_of.false) up are
