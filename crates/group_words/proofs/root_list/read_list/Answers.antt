use Rattle.std.proofs.Common.{◌≡◌, ◌++◌, ◌∙◌, codes, ap, sym, subst}
use Rattle.std.proofs.lemmas.Result.{IfOk-weaker}
use Rattle.prolog_tokens.specs.Cut.{IsCut}
use Rattle.group_words.specs.RootList.{list_text}
use Rattle.group_words.proofs.RootLists.{list_read}
use Rattle.group_words.proofs.root_list.read_list.Goals as goal

pub returns-in-Ok : goal.returns-in-Ok
returns-in-Ok c =
    let list = c.args.list.now in
    let whole : c.as_str-whole.result.now ≡ list_text list =
    c.as_str-whole.ensures.value ∙ (c.in_ok-push_str.ensures.bytes ∙ ap (λ text. text ++ codes " .") c.in_ok-text.ensures.ok) in
    IfOk-weaker c.read_tokens.result _ _
    (λ found read. list_read list c.as_str-whole.result.now c.in-Ok.found.items c.deref.result.now found whole c.deref.ensures.value c.in-Ok.ensures.ok c.in-Ok.ensures.only read)
    c.read_tokens.ensures

pub returns : goal.returns
returns c tree list =
    let whole : c.as_str-whole.result.now ≡ list_text c.args.list.now =
    c.as_str-whole.ensures.value ∙ (c.in_ok-push_str.ensures.bytes ∙ ap (λ text. text ++ codes " .") c.in_ok-text.ensures.ok) in
    c.in-Err.ensures.no_cut c.in_default.not-NoMemory list.tokens (subst (λ t. IsCut t list.tokens) (sym whole) list.cut)
