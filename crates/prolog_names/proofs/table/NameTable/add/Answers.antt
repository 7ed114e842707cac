use Rattle.std.proofs.Common.{◌≡◌, ◌<◌, ◌+◌, ◌-◌, ◌++◌, ◌∷◌, [], length, get_or, set, sym, ap, subst, ◌∙◌, false}
use Rattle.std.specs.List.{list_any}
use Rattle.std.specs.Str.{bytes_eq}
use Rattle.std.specs.String.{string_bytes}
use Rattle.std.proofs.lemmas.List.{get_or_read}
use Rattle.prolog_names.specs.declared.table.Entry.{Entry}
use Rattle.prolog_names.specs.Table.{chain_of, names_of, next_of, IsChainFor, IsTable}
use Rattle.std.specs.BTreeMap.{get_by_text}
use Rattle.prolog_names.proofs.Far.{chain_below, chain_is, told_own, with_far}
use Rattle.prolog_names.proofs.GrownTable.{add_entry, names_more}
use Rattle.prolog_names.proofs.table.NameTable.add.Goals as goal

pub invariant_of-self-2 : goal.invariant_of-self-2
invariant_of-self-2 c =
    let texts = string_bytes c.self.inside.texts in
    let entries = c.self.inside.entries.items in
    let heads = c.self.inside.heads.items in
    let name = c.args.name.now in
    let bucket = c.in_ok-bucket.bucket in
    let far = get_by_text c.chain_for.new.far in
    let entry : Entry = record { start = c.len-start.result; end = c.len.result; hash = c.args.hash; next = c.index.result.now } in
    let starts : entry.start ≡ length texts = c.len-start.ensures ∙ c.self.inside.texts.bytes.ok.0 in
    let ends : entry.end ≡ length texts + length name =
    c.len.ensures ∙ c.in_ok-push_str.ensures.len ∙ ap (λ n. n + length name) c.self.inside.texts.bytes.ok.0 in
    let absent : list_any (bytes_eq name) (names_of texts entries) ≡ false = ap (list_any (bytes_eq name)) c.self.view_is ∙ c.requires.absent in
    let table : IsTable texts entries heads far =
    with_far texts entries heads (get_by_text c.self.inside.far) far name c.self.invariant c.in_ok-bucket.ensures.others absent in
    let takes : IsChainFor far (length heads - 1) name c.args.hash c.len-place.result bucket =
    subst (λ hs. IsChainFor far (length hs - 1) name c.args.hash c.len-place.result bucket) c.deref-2.ensures.value c.in_ok-bucket.ensures.chain in
    let is : bucket ≡ chain_of far (length heads - 1) name = chain_is far (length heads - 1) name c.args.hash c.len-place.result bucket c.requires.hash takes in
    let chain : chain_of far (length heads - 1) name < length heads = chain_below far (names_of texts entries) heads (next_of entries) name table.chained in
    let below : bucket < length heads = subst (λ b. b < length heads) (sym is) chain in
    let next : c.index.result.now ≡ get_or heads (chain_of far (length heads - 1) name) 0 =
    get_or_read heads bucket c.index.result.now below c.index.ensures 0 ∙ ap (λ b. get_or heads b 0) is in
    let count : c.len-place.result ≡ length entries = c.len-place.ensures ∙ c.self.inside.entries.ok.0 in
    let pushed : c.push.new.self.items ≡ entries ++ entry ∷ [] = c.in_ok-push.ensures.items ∙ ap (λ es. es ++ entry ∷ []) c.reserve.ensures.items in
    subst (λ t. IsTable t c.push.new.self.items (set heads bucket (c.len-place.result + 1)) far) (sym c.in_ok-push_str.ensures.bytes)
    (subst (λ es. IsTable (texts ++ name) es (set heads bucket (c.len-place.result + 1)) far) (sym pushed)
    (subst (λ k. IsTable (texts ++ name) (entries ++ entry ∷ []) (set heads bucket (k + 1)) far) (sym count)
    (subst (λ b. IsTable (texts ++ name) (entries ++ entry ∷ []) (set heads b (length entries + 1)) far) (sym is)
    (add_entry texts name entries heads far entry table starts ends c.utf8.name c.requires.hash absent
    (λ n told. told_own far (length heads - 1) name c.args.hash c.len-place.result bucket takes n told ∙ count) chain next))))

pub returns-clause-names : goal.returns-clause-names
returns-clause-names c =
    let texts = string_bytes c.self.inside.texts in
    let entries = c.self.inside.entries.items in
    let name = c.args.name.now in
    let entry : Entry = record { start = c.len-start.result; end = c.len.result; hash = c.args.hash; next = c.index.result.now } in
    let starts : entry.start ≡ length texts = c.len-start.ensures ∙ c.self.inside.texts.bytes.ok.0 in
    let ends : entry.end ≡ length texts + length name =
    c.len.ensures ∙ c.in_ok-push_str.ensures.len ∙ ap (λ n. n + length name) c.self.inside.texts.bytes.ok.0 in
    let pushed : c.push.new.self.items ≡ entries ++ entry ∷ [] = c.in_ok-push.ensures.items ∙ ap (λ es. es ++ entry ∷ []) c.reserve.ensures.items in
    ap (λ t. names_of t c.push.new.self.items) c.in_ok-push_str.ensures.bytes
    ∙ ap (names_of (texts ++ name)) pushed
    ∙ names_more texts name entries c.self.inside.heads.items (get_by_text c.self.inside.far) entry c.self.invariant starts ends
    ∙ ap (λ names. names ++ name ∷ []) c.self.view_is

pub invariant_of-self-in_err-bucket : goal.invariant_of-self-in_err-bucket
invariant_of-self-in_err-bucket c =
    let texts = string_bytes c.self.inside.texts in
    let entries = c.self.inside.entries.items in
    let heads = c.self.inside.heads.items in
    let name = c.args.name.now in
    let far = get_by_text c.chain_for.new.far in
    let absent : list_any (bytes_eq name) (names_of texts entries) ≡ false = ap (list_any (bytes_eq name)) c.self.view_is ∙ c.requires.absent in
    subst (λ es. IsTable texts es heads far) (sym c.reserve.ensures.items)
    (with_far texts entries heads (get_by_text c.self.inside.far) far name c.self.invariant c.chain_for.ensures.others absent)

pub invariant_of-self-in_err-push_str : goal.invariant_of-self-in_err-push_str
invariant_of-self-in_err-push_str c =
    let texts = string_bytes c.self.inside.texts in
    let entries = c.self.inside.entries.items in
    let heads = c.self.inside.heads.items in
    let name = c.args.name.now in
    let far = get_by_text c.chain_for.new.far in
    let absent : list_any (bytes_eq name) (names_of texts entries) ≡ false = ap (list_any (bytes_eq name)) c.self.view_is ∙ c.requires.absent in
    subst (λ t. IsTable t c.reserve.new.self.items heads far) (sym c.in_err-push_str.ensures.bytes)
    (subst (λ es. IsTable texts es heads far) (sym c.reserve.ensures.items)
    (with_far texts entries heads (get_by_text c.self.inside.far) far name c.self.invariant c.chain_for.ensures.others absent))
