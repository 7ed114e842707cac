use Rattle.std.proofs.Common.{◌≡◌, ◌<◌, ◌-◌, Some, length, get_or, refl, sym, ap, subst, ◌∙◌, false, arith}
use Rattle.std.specs.Prelude.{slice_get}
use Rattle.std.specs.List.{list_any}
use Rattle.std.proofs.lemmas.List.{get_or_read, get_or-map, length-map}
use Rattle.std.proofs.lemmas.Option.{slice_get_read}
use Rattle.import_rules.specs.declared.name_table.Link.{Link}
use Rattle.import_rules.specs.Names.{is_same, pred_name}
use Rattle.prolog_names.specs.Table.{bucket_in}
use Rattle.import_rules.specs.NameTable.{bucket_of, next_of}
use Rattle.import_rules.proofs.NameOrder.{same_parts}
use Rattle.import_rules.proofs.Chains.{IsPassed, from_head, from_next, none_named, hash_at}
use Rattle.import_rules.proofs.name_table.NameTable.find.Goals as goal

pub loop-init : goal.loop-init
loop-init c =
    let wanted = pred_name c.args.module.now c.args.name.now c.args.arity in
    let names = c.self.inside.names.items in
    let heads = c.self.inside.heads.items in
    let size : c.len.result ≡ length heads = c.len.ensures ∙ c.self.inside.heads.ok.0 in
    let bucket : c.bucket_of.result ≡ bucket_of (length heads) wanted =
    c.bucket_of.ensures.is ∙ ap (λ n. bucket_in n c.args.hash) size ∙ ap (bucket_in (length heads)) c.requires in
    let below : c.bucket_of.result < length heads = omega (arith, c.bucket_of.ensures.below, size) in
    let read : c.index-at.result.now ≡ get_or heads (bucket_of (length heads) wanted) 0 =
    get_or_read heads c.bucket_of.result c.index-at.result.now below c.index-at.ensures 0 ∙ ap (λ b. get_or heads b 0) bucket in
    subst (IsPassed names (length heads) wanted) (sym read)
    (from_head names heads (next_of c.self.inside.links.items) wanted c.self.invariant.chained (subst (λ b. b < length heads) bucket below))

pub returns-then-is_named-clause-is : goal.returns-then-is_named-clause-is
returns-then-is_named-clause-is c =
    let wanted = pred_name c.args.module.now c.args.name.now c.args.arity in
    let names = c.self.inside.names.items in
    let at = c.loop.at - 1 in
    let below : at < length names = omega (arith, c.loop.invariant.within, c.if-at-eq0.false) in
    let is : wanted ≡ c.index.result.now = same_parts wanted c.index.result.now (sym c.is_named.ensures ∙ c.if-is_named.true) in
    ap (λ ps. slice_get ps at) (sym c.self.view_is)
    ∙ slice_get_read names (length names) at c.index.result.now refl below c.index.ensures
    ∙ ap (λ p. Some p) (sym is)

pub is_named-requires-clause-kept : goal.is_named-requires-clause-kept
is_named-requires-clause-kept c =
    let names = c.self.inside.names.items in
    let links = c.self.inside.links.items in
    let at = c.loop.at - 1 in
    let below : at < length names = omega (arith, c.loop.invariant.within, c.if-at-eq0.false) in
    let inside : at < length links = omega (arith, below, c.self.invariant.chained.chains.as_many, length-map links (λ (l : Link). l.next)) in
    hash_at names links at c.index-link.result.now c.index.result.now c.self.invariant.hashed below inside c.index-link.ensures c.index.ensures

pub loop-preserved : goal.loop-preserved
loop-preserved c =
    let wanted = pred_name c.args.module.now c.args.name.now c.args.arity in
    let names = c.self.inside.names.items in
    let links = c.self.inside.links.items in
    let next = next_of links in
    let at = c.loop.at - 1 in
    let link = c.index-link.result.now in
    let below : at < length names = omega (arith, c.loop.invariant.within, c.if-at-eq0.false) in
    let inside : at < length links = omega (arith, below, c.self.invariant.chained.chains.as_many, length-map links (λ (l : Link). l.next)) in
    let read : link.next ≡ get_or next at 0 = ap (λ (l : Link). l.next) c.index-link.ensures ∙ sym (get_or-map (λ (l : Link). l.next) links at link 0 inside) in
    let other : is_same wanted (get_or names at wanted) ≡ false =
    ap (is_same wanted) (sym (get_or_read names at c.index.result.now below c.index.ensures wanted)) ∙ sym c.is_named.ensures ∙ c.if-is_named.false in
    subst (IsPassed names (length c.self.inside.heads.items) wanted) (sym read)
    (from_next names c.self.inside.heads.items next wanted c.loop.at c.self.invariant.chained c.loop.invariant (omega (arith, c.if-at-eq0.false)) other)

pub returns-then-at-eq0-clause-is : goal.returns-then-at-eq0-clause-is
returns-then-at-eq0-clause-is c =
    let wanted = pred_name c.args.module.now c.args.name.now c.args.arity in
    ap (list_any (is_same wanted)) (sym c.self.view_is)
    ∙ none_named c.self.inside.names.items (length c.self.inside.heads.items) wanted c.loop.at c.if-at-eq0.true c.loop.invariant
