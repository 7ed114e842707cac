-- How a height is raised, one callee or member after another.
use Rattle.std.proofs.Common.{◌≡◌, ◌⊎◌, inl, inr, ℕ, ◌<◌, ◌+◌, max, List, [], ◌∷◌, ◌++◌, get_or, refl, subst, sym, ap, ◌∙◌, arith}
use Rattle.std.proofs.lemmas.Bool.{cases_lt}
use Rattle.std.proofs.lemmas.List.Elements.{Contains-append_left, Contains-push, Contains-push_cases}
use Rattle.group_release.specs.declared.level.Level.{Level}
use Rattle.group_release.specs.Level.{level_at}
use Rattle.group_release.specs.Levels.{IsRaised, LeadDown, MembersLeadDown}

-- two ways to say what is led to
pub raised_same : (P Q : ℕ → Type 0) (levels : List Level) (before after : ℕ) → ((j : ℕ) → P j → Q j) → ((j : ℕ) → Q j → P j)
    → IsRaised P levels before after → IsRaised Q levels before after
raised_same P Q levels before after to from is = record {
  kept = is.kept;
  above = λ j led. is.above j (from j led);
  least = elim is.least [ inl same ↦ inl same | inr (j, led, at) ↦ inr (j, to j led, at) ];
}

-- raised by what either leads to, one after the other
pub raised_more : (P Q R : ℕ → Type 0) (levels : List Level) (before middle after : ℕ)
    → ((j : ℕ) → R j → P j ⊎ Q j) → ((j : ℕ) → P j → R j) → ((j : ℕ) → Q j → R j)
    → IsRaised P levels before middle → IsRaised Q levels middle after → IsRaised R levels before after
raised_more P Q R levels before middle after either left right first second = record {
  kept = omega (arith, first.kept, second.kept);
  above = λ j led. elim (either j led) [ inl by ↦ omega (arith, first.above j by, second.kept) | inr by ↦ second.above j by ];
  least = elim second.least [
    | inl same ↦
        elim first.least [ inl also ↦ inl (same ∙ also) | inr (j, led, at) ↦ inr (j, left j led, same ∙ at) ]
    | inr (j, led, at) ↦ inr (j, right j led, at)
  ];
}

-- a callee of the group itself raises nothing
pub lead_skip : (places : List ℕ) (place : ℕ) (xs : List ℕ) (callee : ℕ) (levels : List Level) (before after : ℕ)
    → get_or places callee 0 ≡ place
    → IsRaised (LeadDown places place xs) levels before after → IsRaised (LeadDown places place (xs ++ callee ∷ [])) levels before after
lead_skip places place xs callee levels before after own =
    raised_same (LeadDown places place xs) (LeadDown places place (xs ++ callee ∷ [])) levels before after
    (λ j led. record { callee = led.callee; is_callee = Contains-append_left xs (callee ∷ []) led.callee led.is_callee; at = led.at; earlier = led.earlier })
    (λ j led.
    elim (Contains-push_cases xs callee led.callee led.is_callee) [
      | inl seen ↦ record { callee = led.callee; is_callee = seen; at = led.at; earlier = led.earlier }
      | inr last ↦
          let same : get_or places callee 0 ≡ j = ap (λ k. get_or places k 0) last ∙ led.at in
          absurd (omega (arith, own, same, led.earlier))
    ])

-- a callee of an earlier group raises the height above that group
pub lead_more : (places : List ℕ) (place : ℕ) (xs : List ℕ) (callee : ℕ) (levels : List Level) (before after : ℕ)
    → get_or places callee 0 < place
    → IsRaised (LeadDown places place xs) levels before after
    → IsRaised (LeadDown places place (xs ++ callee ∷ [])) levels before (max after ((level_at levels (get_or places callee 0)).height + 1))
lead_more places place xs callee levels before after earlier is =
    let there : ℕ = get_or places callee 0 in
    let height : ℕ = (level_at levels there).height in
    raised_more (LeadDown places place xs) (λ j. j ≡ there) (LeadDown places place (xs ++ callee ∷ [])) levels before after (max after (height + 1))
    (λ j led.
    elim (Contains-push_cases xs callee led.callee led.is_callee) [
      | inl seen ↦ inl (record { callee = led.callee; is_callee = seen; at = led.at; earlier = led.earlier })
      | inr last ↦ inr (sym led.at ∙ ap (λ k. get_or places k 0) (sym last))
    ])
    (λ j led. record { callee = led.callee; is_callee = Contains-append_left xs (callee ∷ []) led.callee led.is_callee; at = led.at; earlier = led.earlier })
    (λ j is_there. record { callee = callee; is_callee = Contains-push xs callee; at = sym is_there; earlier = rw is_there earlier })
    is
    (record {
      kept = omega arith;
      above = λ j is_there.
          let same : (level_at levels j).height ≡ height = ap (λ k. (level_at levels k).height) is_there in omega (arith, same);
      least = elim (cases_lt after (height + 1)) [ inl lt ↦ inr (there, refl, omega (arith, lt)) | inr le ↦ inl (omega (arith, le)) ];
    })

-- one member more
pub members_more : (lists : List (List ℕ)) (places : List ℕ) (place : ℕ) (xs : List ℕ) (member : ℕ) (levels : List Level) (before after : ℕ)
    → IsRaised (MembersLeadDown lists places place xs) levels 0 before
    → IsRaised (LeadDown places place (get_or lists member [])) levels before after
    → IsRaised (MembersLeadDown lists places place (xs ++ member ∷ [])) levels 0 after
members_more lists places place xs member levels before after =
    raised_more (MembersLeadDown lists places place xs) (LeadDown places place (get_or lists member []))
    (MembersLeadDown lists places place (xs ++ member ∷ [])) levels 0 before after
    (λ j led.
    elim (Contains-push_cases xs member led.member led.is_member) [
      | inl seen ↦ inl (record { member = led.member; is_member = seen; leads = led.leads })
      | inr last ↦ inr (let P : ℕ → Type 0 = λ k. LeadDown places place (get_or lists k []) j in subst P (sym last) led.leads)
    ])
    (λ j led. record { member = led.member; is_member = Contains-append_left xs (member ∷ []) led.member led.is_member; leads = led.leads })
    (λ j led. record { member = member; is_member = Contains-push xs member; leads = led })
