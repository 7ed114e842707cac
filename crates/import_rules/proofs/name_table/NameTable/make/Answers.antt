use Rattle.std.proofs.Common.{◌≡◌, ◌<◌, ◌+◌, ◌++◌, ◌∷◌, [], length, map, get_or, set, sym, ap, subst, ◌∙◌, arith}
use Rattle.std.proofs.Math.ListN.{length-set}
use Rattle.std.proofs.lemmas.List.{get_or_read, get_or-map, length_push, length-map, map-append, take_more}
use Rattle.import_rules.specs.declared.name_table.Link.{Link}
use Rattle.prolog_names.specs.Table.{bucket_in, bucket_at, AreChains}
use Rattle.prolog_names.proofs.ChainSteps.{add_place}
use Rattle.import_rules.specs.NameTable.{name_hash, next_of, hashes_of}
use Rattle.import_rules.proofs.Chains.{all_linked}
use Rattle.import_rules.proofs.name_table.NameTable.make.Goals as goal

pub loop-hash-preserved : goal.loop-hash-preserved
loop-hash-preserved c =
    let hashes = c.deref-hash-items.result.now in
    let size = c.max-size.result in
    let n = c.loop-hash.hash-index in
    let heads = c.loop-hash.heads.items in
    let links = c.loop-hash.links.items in
    let next = next_of links in
    let b = c.bucket_of-bucket.result in
    let so_far = c.loop-hash.invariant in
    let buckets = map (bucket_in size) hashes in
    let item = get_or hashes n 0 in
    let within : n < length hashes = omega (arith, c.loop-hash-test.true) in
    let bucket : b ≡ bucket_at buckets n =
    c.bucket_of-bucket.ensures.is ∙ sym (get_or-map (bucket_in size) hashes n 0 0 within) in
    let below : b < length heads = omega (arith, c.bucket_of-bucket.ensures.below, so_far.2) in
    let stored : c.index.result.now ≡ get_or heads b 0 = get_or_read heads b c.index.result.now below c.index.ensures 0 in
    let link : Link = record { hash = item; next = c.index.result.now } in
    let pushed : c.push.new.self.items ≡ links ++ link ∷ [] = c.in_ok-push.ensures.items in
    let nexts : next_of c.push.new.self.items ≡ next ++ get_or heads b 0 ∷ [] =
    ap next_of pushed ∙ map-append (λ (l : Link). l.next) links (link ∷ []) ∙ ap (λ x. next ++ x ∷ []) stored in
    let before : length links ≡ n = sym (length-map links (λ (l : Link). l.next)) ∙ so_far.0.as_many in
    let count : c.len-in-loop-hash.result ≡ n + 1 =
    c.len-in-loop-hash.ensures ∙ c.push.new.self.ok.0 ∙ ap length pushed ∙ length_push links link ∙ ap (λ k. k + 1) before in (
      subst (λ xs. AreChains buckets (n + 1) (set heads b c.len-in-loop-hash.result) xs) (sym nexts)
          (subst (λ k. AreChains buckets (n + 1) (set heads b k) (next ++ get_or heads b 0 ∷ [])) (sym count)
          (add_place buckets heads next n b bucket below so_far.0)),
      ap hashes_of pushed
          ∙ map-append (λ (l : Link). l.hash) links (link ∷ [])
          ∙ (λ i. so_far.1 i ++ item ∷ [])
          ∙ sym (take_more hashes n 0 within),
      length-set heads b c.len-in-loop-hash.result ∙ so_far.2,
      so_far.3,
    )

pub invariant_of-result : goal.invariant_of-result
invariant_of-result c =
    let hashes = c.deref-hash-items.result.now in
    let so_far = c.loop-hash.invariant in
    all_linked c.args.names.items c.max-size.result c.loop-hash.hash-index hashes c.loop-hash.heads.items c.loop-hash.links.items
    (c.deref-hash-items.ensures.value ∙ c.in_ok-hashes.ensures ∙ ap (map name_hash) c.deref.ensures.value) so_far.0 so_far.1 so_far.2 so_far.3
    (omega (arith, c.loop-hash-test.false, c.loop-hash.auto.hash-index-end)) c.requires
