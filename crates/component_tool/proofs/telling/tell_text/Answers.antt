use Rattle.std.proofs.Common.{◌≡◌, ◌<◌, ◌∙◌, [], ℕ, List, length, ap, subst, inl, inr}
use Rattle.std.proofs.lemmas.List.{get_or_default}
use Rattle.byte_names.specs.Names.{names_of}
use Rattle.component_answer.specs.Answers.{IsAnswer}
use Rattle.component_answer.specs.declared.answer.Answer.TheVariants.{NoNode}
use Rattle.component_words.specs.Settings.{see_settings}
use Rattle.component_tool.specs.Run.{wanted_of}
use Rattle.component_tool.specs.End.{no_node}
use Rattle.component_tool.proofs.telling.tell_text.Goals as goal

pub returns : goal.returns
returns g c =
    let text = c.args.text.now in
    let roots : List (List ℕ) = c.args.settings.now.roots.items in
    let wanted = wanted_of (see_settings c.args.settings.now) in
    let place = c.in-NoNode.place in
    let same : names_of c.deref-2.result.now ≡ roots = ap names_of c.deref-2.ensures.value ∙ c.in_ok-roots.ensures ∙ c.deref.ensures.value in
    let right : IsAnswer text roots wanted (NoNode place) =
    subst (λ rs. IsAnswer text rs wanted (NoNode place)) same
    (subst (λ w. IsAnswer text (names_of c.deref-2.result.now) w (NoNode place)) c.wanted_of.ensures
    (subst (IsAnswer text (names_of c.deref-2.result.now) c.wanted_of.result) c.in-NoNode.is c.in_ok-bytes.ensures)) in
    let within : place < length roots = right.1.1.first.within in
    elim (c.no_node.ensures c.args.settings.now.file) [
      | inl none ↦ inl none
      | inr is ↦ inr
          (record {
            within = c.requires.small;
            answer = NoNode place;
            right = right;
            is = is ∙ ap no_node (c.index.ensures ∙ get_or_default roots place c.index.result.now [] within);
          })
    ]
