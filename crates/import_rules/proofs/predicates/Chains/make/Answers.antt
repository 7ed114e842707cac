use Rattle.std.proofs.Common.{◌≡◌, ◌<◌, ◌+◌, ◌++◌, ◌∷◌, [], length, map, get_or, set, sym, ap, subst, ◌∙◌, arith}
use Rattle.std.proofs.Math.ListN.{length-set}
use Rattle.std.proofs.lemmas.List.{get_or_read, get_or-map, length_push, length-map, map-append, take_more}
use Rattle.import_rules.specs.declared.predicates.Link.{Link}
use Rattle.prolog_names.specs.Table.{bucket_in, bucket_at, AreChains}
use Rattle.prolog_names.proofs.ChainSteps.{add_place}
use Rattle.import_rules.specs.Chained.{next_in, hashes_in}
use Rattle.import_rules.specs.Parts.{name_of_places, names_at}
use Rattle.import_rules.proofs.Chains.{all_chained}
use Rattle.import_rules.proofs.predicates.Chains.make.Goals as goal

pub loop-hash-preserved : goal.loop-hash-preserved
loop-hash-preserved c =
    let hashes = c.deref-hash-items.result.now in
    let size = c.max-size.result in
    let n = c.loop-hash.hash-index in
    let heads = c.loop-hash.heads.items in
    let links = c.loop-hash.links.items in
    let next = next_in links in
    let b = c.bucket_of-bucket.result in
    let so_far = c.loop-hash.invariant in
    let buckets = map (bucket_in size) hashes in
    let item = get_or hashes n 0 in
    let within : n < length hashes = omega (arith, c.loop-hash-test.true) in
    let bucket : b ≡ bucket_at buckets n =
    c.bucket_of-bucket.ensures.is ∙ sym (get_or-map (bucket_in size) hashes n 0 0 within) in
    let below : b < length heads = omega (arith, c.bucket_of-bucket.ensures.below, so_far.2) in
    let stored : c.index.result.now ≡ get_or heads b 0 = get_or_read heads b c.index.result.now below c.index.ensures 0 in
    let link : Link = record { hash = item; next = c.index.result.now } in
    let pushed : c.push.new.self.items ≡ links ++ link ∷ [] = c.in_ok-push.ensures.items in
    let nexts : next_in c.push.new.self.items ≡ next ++ get_or heads b 0 ∷ [] =
    ap next_in pushed ∙ map-append (λ (l : Link). l.next) links (link ∷ []) ∙ ap (λ x. next ++ x ∷ []) stored in
    let before : length links ≡ n = sym (length-map links (λ (l : Link). l.next)) ∙ so_far.0.as_many in
    let count : c.len.result ≡ n + 1 =
    c.len.ensures ∙ c.push.new.self.ok.0 ∙ ap length pushed ∙ length_push links link ∙ ap (λ k. k + 1) before in (
      subst (λ xs. AreChains buckets (n + 1) (set heads b c.len.result) xs) (sym nexts)
          (subst (λ k. AreChains buckets (n + 1) (set heads b k) (next ++ get_or heads b 0 ∷ [])) (sym count)
          (add_place buckets heads next n b bucket below so_far.0)),
      ap hashes_in pushed
          ∙ map-append (λ (l : Link). l.hash) links (link ∷ [])
          ∙ (λ i. so_far.1 i ++ item ∷ [])
          ∙ sym (take_more hashes n 0 within),
      length-set heads b c.len.result ∙ so_far.2,
      so_far.3,
    )

pub returns : goal.returns
returns c =
    let hashes = c.deref-hash-items.result.now in
    let so_far = c.loop-hash.invariant in
    let names = names_at c.args.files.now c.args.predicates.now in
    let all =
    all_chained names c.max-size.result c.loop-hash.hash-index hashes c.loop-hash.heads.items (next_in c.loop-hash.links.items) (hashes_in c.loop-hash.links.items)
    (c.deref-hash-items.ensures.value ∙ c.in_ok-hashes.ensures) so_far.0 so_far.1 so_far.2 so_far.3
    (omega (arith, c.loop-hash-test.false, c.loop-hash.auto.hash-index-end)) in record {
      chained = all.0;
      hashed = all.1;
      few = omega (arith, c.requires.few, length-map c.args.predicates.now (name_of_places c.args.files.now));
      in_order = c.requires.in_order;
    }
