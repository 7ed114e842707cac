use Rattle.std.proofs.Common.{rules, ◌≡◌, ◌+◌, ℕ, suc, List, [], ◌∷◌, ◌++◌, length, replicate, Some, ap, ◌∙◌, arith}
use Rattle.group_release.specs.Book.{BookValue}
use Rattle.node_claims.specs.Rule.{Slot}
use Rattle.node_claims.proofs.Calls.{begins_as}
use Rattle.node_claims.proofs.claims.Claims.make.Goals as goal

pub new-requires : goal.new-requires
new-requires g c =
    let items : c.in_ok-words.words.items ≡ replicate (c.count.result + 1) 0 = search rules in
    let lists = ap (λ (b : BookValue). length b.lists) c.in_ok-book.ensures in
    let count : c.count.result + 1 ≡ suc (length c.in_ok-book.book.lists) = omega (arith, lists, c.count.ensures.count) in
    let one : List Slot = Some c.in_ok-book.book ∷ [] in
    let no_slot : c.in_ok-slots.slots.items ≡ [] = c.in_ok-slots.ensures.items in
    let pushed : c.push_reserved.new.self.items ≡ c.in_ok-slots.slots.items ++ one = c.push_reserved.ensures.items in
    let slots : c.push_reserved.new.self.items ≡ one = pushed ∙ ap (λ (l : List Slot). l ++ one) no_slot in
    let zeros : c.in_ok-words.words.items ≡ replicate (suc (length c.in_ok-book.book.lists)) 0 = items ∙ ap (λ (n : ℕ). replicate n 0) count in
    begins_as c.as_slice.result.now c.push_reserved.new.self.items c.of-about.result.value c.in_ok-book.book (c.as_slice.ensures.value ∙ zeros) slots
    (c.of-about.ensures ∙ c.pages.ensures)
    (ap (λ (b : BookValue). b.kept) c.in_ok-book.ensures) (ap (λ (b : BookValue). b.groups) c.in_ok-book.ensures)
