use Rattle.std.proofs.Common.{◌≡◌, ◌<◌, ◌-◌, [], length, get_or, sym, ap, subst, ◌∙◌, false, arith}
use Rattle.std.specs.List.{list_any}
use Rattle.std.specs.Str.{bytes_eq}
use Rattle.std.specs.String.{string_bytes}
use Rattle.std.proofs.lemmas.List.{get_or_read, get_or-map, length-map}
use Rattle.prolog_names.specs.declared.table.Entry.{Entry}
use Rattle.prolog_names.specs.Names.{name_at}
use Rattle.prolog_names.specs.Table.{bucket_in, chain_of, name_in, names_of, next_of}
use Rattle.std.specs.BTreeMap.{get_by_text}
use Rattle.std.specs.Option.{option_copied}
use Rattle.prolog_names.proofs.Far.{chain_below, near_chain, not_there, turned}
use Rattle.prolog_names.proofs.Chains.{IsPassed, same_bytes, from_head, from_next, none_named}
use Rattle.prolog_names.proofs.table.NameTable.find.Goals as goal

pub loop-at-init : goal.loop-at-init
loop-at-init c =
    let texts = string_bytes c.self.inside.texts in
    let entries = c.self.inside.entries.items in
    let heads = c.self.inside.heads.items in
    let name = c.args.name.now in
    let far = get_by_text c.self.inside.far in
    let size : c.len-2.result ≡ length heads = c.len-2.ensures ∙ c.self.inside.heads.ok.0 in
    let bucket : c.bucket_of.result ≡ chain_of far (length heads - 1) name =
    c.bucket_of.ensures.is ∙ ap (λ n. bucket_in (n - 1) c.args.hash) size ∙ ap (bucket_in (length heads - 1)) c.requires
    ∙ sym (near_chain far (length heads - 1) name (sym c.far_place.ensures ∙ ap option_copied c.in_default.is)) in
    let below : chain_of far (length heads - 1) name < length heads = chain_below far (names_of texts entries) heads (next_of entries) name c.self.invariant.chained in
    let read : c.index-at.result.now ≡ get_or heads (chain_of far (length heads - 1) name) 0 =
    get_or_read heads c.bucket_of.result c.index-at.result.now (subst (λ b. b < length heads) (sym bucket) below) c.index-at.ensures 0
    ∙ ap (λ b. get_or heads b 0) bucket in
    subst (IsPassed far (names_of texts entries) (length heads - 1) name) (sym read)
    (from_head far (names_of texts entries) heads (next_of entries) name c.self.invariant.chained below)

pub returns-then-is_named : goal.returns-then-is_named
returns-then-is_named c =
    let texts = string_bytes c.self.inside.texts in
    let entries = c.self.inside.entries.items in
    let at = c.loop-at.at - 1 in
    let entry = c.index-entry.result.now in
    let own : name_in c.as_str-texts.result.now entry ≡ name_in texts entry = ap (λ t. name_in t entry) c.as_str-texts.ensures.value in
    let count : length (names_of texts entries) ≡ length entries = length-map entries (name_in texts) in
    let below : at < length entries = omega (arith, c.loop-at.invariant.within, c.loop-at-test.true, count) in
    let here : at < length c.args.self.now = subst (λ names. at < length names) c.self.view_is (omega (arith, below, count)) in
    let is : c.args.name.now ≡ name_in texts entry = same_bytes c.args.name.now (name_in texts entry) (ap (bytes_eq c.args.name.now) (sym own) ∙ (sym c.is_named.ensures ∙ c.if-is_named.true)) in
    let read : name_at (names_of texts entries) at ≡ name_in texts entry =
    get_or-map (name_in texts) entries at entry [] below ∙ ap (name_in texts) (sym c.index-entry.ensures) in (
      here,
      ap (λ names. name_at names at) (sym c.self.view_is) ∙ read ∙ sym is,
    )

pub loop-at-preserved : goal.loop-at-preserved
loop-at-preserved c =
    let texts = string_bytes c.self.inside.texts in
    let entries = c.self.inside.entries.items in
    let heads = c.self.inside.heads.items in
    let name = c.args.name.now in
    let at = c.loop-at.at - 1 in
    let entry = c.index-entry.result.now in
    let own : name_in c.as_str-texts.result.now entry ≡ name_in texts entry = ap (λ t. name_in t entry) c.as_str-texts.ensures.value in
    let count : length (names_of texts entries) ≡ length entries = length-map entries (name_in texts) in
    let below : at < length entries = omega (arith, c.loop-at.invariant.within, c.loop-at-test.true, count) in
    let next : entry.next ≡ get_or (next_of entries) at 0 =
    ap (λ (e : Entry). e.next) c.index-entry.ensures ∙ sym (get_or-map (λ (e : Entry). e.next) entries at entry 0 below) in
    let read : get_or (names_of texts entries) at [] ≡ name_in texts entry =
    get_or-map (name_in texts) entries at entry [] below ∙ ap (name_in texts) (sym c.index-entry.ensures) in
    let other : bytes_eq name (get_or (names_of texts entries) at []) ≡ false = ap (bytes_eq name) (read ∙ sym own) ∙ sym c.is_named.ensures ∙ c.if-is_named.false in
    let far = get_by_text c.self.inside.far in
    subst (IsPassed far (names_of texts entries) (length heads - 1) name) (sym next)
    (from_next far (names_of texts entries) heads (next_of entries) name c.loop-at.at c.self.invariant.chained c.loop-at.invariant c.loop-at-test.true other)

pub returns : goal.returns
returns c =
    ap (list_any (bytes_eq c.args.name.now)) (sym c.self.view_is)
    ∙ none_named (get_by_text c.self.inside.far) (names_of (string_bytes c.self.inside.texts) c.self.inside.entries.items) (length c.self.inside.heads.items - 1) c.args.name.now c.loop-at.at (omega (arith, c.loop-at-test.false)) c.loop-at.invariant

pub returns-then-place-len : goal.returns-then-place-len
returns-then-place-len c =
    let texts = string_bytes c.self.inside.texts in
    let entries = c.self.inside.entries.items in
    let name = c.args.name.now in
    ap (list_any (bytes_eq name)) (sym c.self.view_is)
    ∙ not_there (get_by_text c.self.inside.far) (names_of texts entries) name c.in-Some.place.now c.self.invariant.told
    (sym c.far_place.ensures ∙ ap option_copied c.in-Some.is)
    (λ within. absurd (omega (arith, within, length-map entries (name_in texts), c.len.ensures, c.self.inside.entries.ok.0, c.if-place-len.true)))

pub returns-then-not-is : goal.returns-then-not-is
returns-then-not-is c =
    let texts = string_bytes c.self.inside.texts in
    let entries = c.self.inside.entries.items in
    let name = c.args.name.now in
    let place = c.in-Some.place.now in
    let other : bytes_eq name (name_at c.args.self.now place) ≡ false = turned (name_at c.args.self.now place) name (sym c.is.ensures ∙ c.if-not-is.true) in
    ap (list_any (bytes_eq name)) (sym c.self.view_is)
    ∙ not_there (get_by_text c.self.inside.far) (names_of texts entries) name place c.self.invariant.told (sym c.far_place.ensures ∙ ap option_copied c.in-Some.is)
    (λ within. subst (λ ns. bytes_eq name (name_at ns place) ≡ false) (sym c.self.view_is) other)

pub returns-in-Some : goal.returns-in-Some
returns-in-Some c =
    let texts = string_bytes c.self.inside.texts in
    let entries = c.self.inside.entries.items in
    let place = c.in-Some.place.now in
    let below : place < length (names_of texts entries) =
    omega (arith, length-map entries (name_in texts), c.len.ensures, c.self.inside.entries.ok.0, c.if-place-len.false) in (
      subst (λ ns. place < length ns) c.self.view_is below,
      same_bytes (name_at c.args.self.now place) c.args.name.now (sym c.is.ensures ∙ c.if-not-is.false),
    )
