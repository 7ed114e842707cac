use Rattle.std.proofs.Common.{◌≡◌, ◌∙◌, List, ℕ, Bor, All, map, ap, sym, subst}
use Rattle.std.specs.Str.{IsUtf8}
use Rattle.std.proofs.lemmas.Result.{IfErr-weaker, IfOk-weaker}
use Rattle.group_words.specs.Words.{IsReading}
use Rattle.group_words.specs.ClapCommand.{given_of, file_words}
use Rattle.group_words.specs.Settings.{see_options}
use Rattle.group_words.proofs.OneSettings.{one_settings, settings_moved}
use Rattle.group_words.proofs.parse.parse_words.Goals as goal

pub read_words-requires : goal.read_words-requires
read_words-requires c = subst (λ words. All IsUtf8 (map (λ (word : Bor (List ℕ)). word.now) words)) (sym c.deref.ensures.value) c.in_ok-lent.ensures.text

pub returns-in_default-clause-usage : goal.returns-in_default-clause-usage
returns-in_default-clause-usage c is settings lawful =
    let same : map (λ (word : Bor (List ℕ)). word.now) c.deref.result.now ≡ c.args.words.now =
    ap (map (λ (word : Bor (List ℕ)). word.now)) c.deref.ensures.value ∙ c.in_ok-lent.ensures.same in
    (rw c.in_default.is at c.in_ok-given.ensures) lawful.given lawful.files (subst (λ words. IsReading words lawful.given lawful.files) (sym same) lawful.reading)

pub returns-clause-ok : goal.returns-clause-ok
returns-clause-ok c =
    let g = c.in-Some.given in
    let same : map (λ (word : Bor (List ℕ)). word.now) c.deref.result.now ≡ c.args.words.now =
    ap (map (λ (word : Bor (List ℕ)). word.now)) c.deref.ensures.value ∙ c.in_ok-lent.ensures.same in
    let reading = subst (λ words. IsReading words (given_of g) (file_words g)) same (rw c.in-Some.is at c.in_ok-given.ensures) in
    IfOk-weaker c.options_of.result _ _ (λ options sets. record { given = given_of g; files = file_words g; reading = reading; sets = sets }) c.options_of.ensures.ok

pub returns-clause-only : goal.returns-clause-only
returns-clause-only c =
    let g = c.in-Some.given in
    let same : map (λ (word : Bor (List ℕ)). word.now) c.deref.result.now ≡ c.args.words.now =
    ap (map (λ (word : Bor (List ℕ)). word.now)) c.deref.ensures.value ∙ c.in_ok-lent.ensures.same in
    let reading = subst (λ words. IsReading words (given_of g) (file_words g)) same (rw c.in-Some.is at c.in_ok-given.ensures) in
    IfOk-weaker c.options_of.result _ _
    (λ options sets other lawful.
    one_settings c.args.words.now other (see_options options) lawful (record { given = given_of g; files = file_words g; reading = reading; sets = sets })) c.options_of.ensures.ok

pub returns-clause-usage : goal.returns-clause-usage
returns-clause-usage c =
    let g = c.in-Some.given in
    let same : map (λ (word : Bor (List ℕ)). word.now) c.deref.result.now ≡ c.args.words.now =
    ap (map (λ (word : Bor (List ℕ)). word.now)) c.deref.ensures.value ∙ c.in_ok-lent.ensures.same in
    let reading = subst (λ words. IsReading words (given_of g) (file_words g)) same (rw c.in-Some.is at c.in_ok-given.ensures) in
    IfErr-weaker c.options_of.result _ _
    (λ fault why is settings lawful.
    why is settings (settings_moved c.args.words.now lawful.given (given_of g) lawful.files (file_words g) lawful.reading reading settings lawful.sets)) c.options_of.ensures.usage
