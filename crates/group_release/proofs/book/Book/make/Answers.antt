use Rattle.std.proofs.Common.{◌≡◌, ◌∙◌, ap, refl, false, List, ℕ}
use Rattle.group_release.specs.Coding.{lists_from}
use Rattle.group_release.proofs.Books.{made_book, made_value}
use Rattle.group_release.proofs.Coding.{back_again}
use Rattle.group_release.proofs.book.Book.make.Goals as goal

pub invariant_of-result : goal.invariant_of-result
invariant_of-result g c =
    let lists : List (List ℕ) = g.O.Opener.lists c.args.opener.now in
    let lists_are : lists_from c.of.result.numbers ≡ lists = ap lists_from c.of.ensures ∙ back_again lists in
    made_book (record {
      lists = c.of.result;
      roots = c.in_ok-to_vec.field-0;
      given = 0;
      failed = false;
      blocked = c.in_ok-make.field-0;
      released = c.in_ok-make-2.field-0;
    }) lists c.args.roots.now c.count-count.result lists_are
    (c.in_ok-to_vec.ensures.items_if_clones_equal (λ x y same. same)) refl refl c.in_ok-make.ensures c.in_ok-make-2.ensures c.count-count.ensures.count
    c.count-count.ensures.closed c.requires

pub returns : goal.returns
returns g c =
    let lists : List (List ℕ) = g.O.Opener.lists c.args.opener.now in
    let lists_are : lists_from c.of.result.numbers ≡ lists = ap lists_from c.of.ensures ∙ back_again lists in
    made_value (record {
      lists = c.of.result;
      roots = c.in_ok-to_vec.field-0;
      given = 0;
      failed = false;
      blocked = c.in_ok-make.field-0;
      released = c.in_ok-make-2.field-0;
    }) lists c.args.roots.now c.count-count.result lists_are (c.in_ok-to_vec.ensures.items_if_clones_equal (λ x y same. same)) refl refl
    c.in_ok-make.ensures c.in_ok-make-2.ensures
