use Rattle.std.proofs.Common.{◌≡◌, ◌∙◌, ap₂, codes}
use Rattle.std.proofs.lemmas.Result.{IfOk-weaker}
use Rattle.clap.specs.Words.{app_of, with_rule}
use Rattle.group_words.specs.ClapCommand.{bare_app, with_valued}
use Rattle.group_words.proofs.command.command.Goals as goal

pub returns : goal.returns
returns c =
    let one : app_of c.in_ok-arg.field-0 ≡ with_valued bare_app (codes "jobs") = c.in_ok-arg.ensures.shape c.valued_arg.ensures.own ∙ ap₂ with_rule c.bare_command.ensures c.valued_arg.ensures.rule in
    let two : app_of c.in_ok-arg-2.field-0 ≡ with_valued (with_valued bare_app (codes "jobs")) (codes "searches") =
    c.in_ok-arg-2.ensures.shape c.valued_arg-2.ensures.own ∙ ap₂ with_rule one c.valued_arg-2.ensures.rule in
    let three : app_of c.in_ok-arg-3.field-0 ≡ with_valued (with_valued (with_valued bare_app (codes "jobs")) (codes "searches")) (codes "seed") =
    c.in_ok-arg-3.ensures.shape c.valued_arg-3.ensures.own ∙ ap₂ with_rule two c.valued_arg-3.ensures.rule in
    let four = c.in_ok-arg-4.ensures.shape c.valued_arg-4.ensures.own ∙ ap₂ with_rule three c.valued_arg-4.ensures.rule in
    let five = c.in_ok-arg-5.ensures.shape c.valued_arg-5.ensures.own ∙ ap₂ with_rule four c.valued_arg-5.ensures.rule in
    let six = c.in_ok-arg-6.ensures.shape c.flag.ensures.own ∙ ap₂ with_rule five c.flag.ensures.rule in
    let seven = c.in_ok-arg-7.ensures.shape c.flag-2.ensures.own ∙ ap₂ with_rule six c.flag-2.ensures.rule in
    let eight = c.in_ok-arg-8.ensures.shape c.flag-3.ensures.own ∙ ap₂ with_rule seven c.flag-3.ensures.rule in
    let nine = c.in_ok-arg-9.ensures.shape c.flag-4.ensures.own ∙ ap₂ with_rule eight c.flag-4.ensures.rule in
    let ten = c.in_ok-arg-10.ensures.shape c.flag-5.ensures.own ∙ ap₂ with_rule nine c.flag-5.ensures.rule in
    let eleven = c.in_ok-arg-11.ensures.shape c.valued_arg-6.ensures.own ∙ ap₂ with_rule ten c.valued_arg-6.ensures.rule in
    IfOk-weaker c.arg-12.result _ _ (λ r added. added.shape c.files.ensures.own ∙ ap₂ with_rule eleven c.files.ensures.rule) c.arg-12.ensures
