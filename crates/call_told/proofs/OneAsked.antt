-- Words ask for one thing at most.
use Rattle.std.proofs.Common.{◌≡◌, ℕ, zero, suc, ◌+◌, List, ap, refl, sym, ◌∙◌}
use Rattle.group_words.proofs.OneSettings.{one_settings}
use Rattle.call_told.specs.Wanted.{Asked, AreAsked, FormWords, form_words, other_words}
use Rattle.call_told.specs.declared.wanted.Form.{Form}
use Rattle.call_told.specs.declared.wanted.Form.TheVariants.{Lines, Undefined, Dot, Condensed}

-- the form that is named so often by each word
form_by : ℕ → Form
form_by zero = Lines
form_by (suc zero) = Dot
form_by (suc (suc zero)) = Undefined
form_by (suc (suc (suc n))) = Condensed

abbrev form_at : FormWords → Form
form_at words = form_by (words.dot + (words.undefined + (words.undefined + (words.condensed + words.condensed))))

form_back : (form : Form) → form_at (form_words form) ≡ form
unfolding form_by
form_back Lines = refl
form_back Undefined = refl
form_back Dot = refl
form_back Condensed = refl

one_form : (a b : Form) → form_words a ≡ form_words b → a ≡ b
one_form a b same = sym (form_back a) ∙ (ap form_at same ∙ form_back b)

pub one_asked : (words : List (List ℕ)) (a b : Asked) → AreAsked words a → AreAsked words b → a ≡ b
one_asked words a b x y =
    let forms = one_form a.form b.form (sym x.one_form ∙ y.one_form) in
    let settings = one_settings (other_words words) a.settings b.settings x.lawful y.lawful in
    λ i. record { form = forms i; settings = settings i }
