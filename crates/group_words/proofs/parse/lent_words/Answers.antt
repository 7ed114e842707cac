use Rattle.std.proofs.Common.{◌≡◌, ◌++◌, ◌∷◌, [], ◌∙◌, List, ℕ, Bor, map, All, ap, ap₂, sym, subst}
use Rattle.std.specs.Str.{IsUtf8}
use Rattle.std.proofs.lemmas.List.{map-append, take_more}
use Rattle.std.proofs.lemmas.List.Elements.{All-push}
use Rattle.group_words.proofs.parse.lent_words.Goals as goal

pub loop-word-preserved : goal.loop-word-preserved
loop-word-preserved c =
    let lent = c.loop-word.lent.items in
    let all : map (λ (word : Bor (List ℕ)). word.now) c.push.new.self.items ≡ map (λ (word : Bor (List ℕ)). word.now) lent ++ c.as_str.result.now ∷ [] =
    ap (map (λ (word : Bor (List ℕ)). word.now)) c.in_ok-push.ensures.items ∙ map-append (λ (word : Bor (List ℕ)). word.now) lent (c.as_str.result ∷ []) in
    record {
      same = all
          ∙ (ap₂ (λ xs x. xs ++ x ∷ []) c.loop-word.invariant.same (c.as_str.ensures ∙ c.word-item.is)
          ∙ sym (take_more c.args.words.now c.loop-word.word-index c.word-item.result c.loop-word-test.true));
      text = subst (λ xs. All IsUtf8 xs) (sym all)
          (All-push IsUtf8 (map (λ (word : Bor (List ℕ)). word.now) lent) c.as_str.result.now c.loop-word.invariant.text c.as_str.utf8);
    }
