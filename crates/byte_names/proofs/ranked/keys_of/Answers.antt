use Rattle.std.proofs.Common.{◌≡◌, ℕ, ◌+◌, ◌<◌, List, [], length, get_or, sym, ap, subst, ◌∙◌, arith}
use Rattle.std.proofs.lemmas.List.{get_or-map}
use Rattle.byte_names.specs.declared.ranked.Keyed.{Keyed}
use Rattle.byte_names.specs.Keys.{AreKeys, IsKey}
use Rattle.byte_names.specs.Names.{name_at, names_of}
use Rattle.byte_names.proofs.KeyLists.{key_more}
use Rattle.byte_names.proofs.NameLists.{as_many}
use Rattle.byte_names.proofs.ranked.keys_of.Goals as goal
use denote.Ref.{Bor}

pub loop-name-preserved : goal.loop-name-preserved
loop-name-preserved c =
    let names = c.args.names.now in
    let none : Bor (List ℕ) = record { ref_ptr = (0, 0); now = [] } in
    let i = c.loop-name.name-index in
    let name = get_or names i none in
    let within : i < length names = c.loop-name-test.true in
    let read : name_at (names_of names) i ≡ name.now = get_or-map (λ (n : Bor (List ℕ)). n.now) names i none [] within in
    let key : Keyed = record { lead = c.lead.result; name = name; place = c.len.result } in
    let here : key.place ≡ i = c.len.ensures ∙ c.loop-name.invariant.1 in
    let is : IsKey (names_of names) key = record {
      within = omega (arith, here, within, as_many names);
      named = sym read ∙ ap (name_at (names_of names)) (sym here);
      bytes = c.lead.ensures.bytes;
      led = c.lead.ensures.is;
    } in (
      subst (AreKeys (names_of names) (i + 1)) (sym c.in_ok-push.ensures.items)
          (key_more (names_of names) i c.loop-name.keys.items key c.loop-name.invariant.0 is here),
      c.in_ok-push.ensures.len ∙ ap (λ n. n + 1) c.loop-name.invariant.1,
    )
