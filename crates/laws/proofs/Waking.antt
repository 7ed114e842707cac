-- The kept searches that want a node of a group are made ready.
use Rattle.std.proofs.Common.{◌≡◌, inl, inr, ℕ, zero, suc, List, [], ◌∷◌, length, Option, None, Some, refl, ap, ◌∙◌, sym, subst}
use Rattle.std.specs.Prelude.{Contains}
use Rattle.search_stack.specs.Search.{SearchValue}
use Rattle.blocked_table.specs.Blocked.{IsWoken}
use Rattle.blocked_table.specs.Kept.{kept_at}
use Rattle.blocked_table.proofs.Chain.{none_is_not, some_is}
use Rattle.laws.proofs.Choices.{in_or_out}

-- what becomes of one place
record WakesTo (group : List ℕ) (before after : Option SearchValue) : Type 0 where
  none : before ≡ None → after ≡ None
  woken : (w : ℕ) (search : SearchValue) → before ≡ Some search → search.wanted ≡ Some w → Contains group w
      → after ≡ Some (record search { wanted = None })
  same : (search : SearchValue) → before ≡ Some search → ((w : ℕ) → search.wanted ≡ Some w → Contains group w → ⊥) → after ≡ Some search

abbrev Wakes : List ℕ → Option SearchValue → Type 0
Wakes group before = (after : Option SearchValue) × WakesTo group before after

-- it wants no node of the group
stays : (group : List ℕ) (search : SearchValue) → ((w : ℕ) → search.wanted ≡ Some w → Contains group w → ⊥) → Wakes group (Some search)
stays group search apart = (
  Some search,
  record {
    none = λ is. is;
    woken = λ w one at wants has. absurd (apart w (ap (λ (value : SearchValue). value.wanted) (some_is search one at) ∙ wants) has);
    same = λ one at none. at;
  },
)

-- it wants one
readies : (group : List ℕ) (search : SearchValue) (w : ℕ) → search.wanted ≡ Some w → Contains group w → Wakes group (Some search)
readies group search w wants has = (
  Some (record search { wanted = None }),
  record {
    none = λ is. absurd (none_is_not search (Some search) is refl);
    woken = λ u one at also in_group. ap (λ (value : SearchValue). Some (record value { wanted = None })) (some_is search one at);
    same = λ one at none. absurd (none w (sym (ap (λ (value : SearchValue). value.wanted) (some_is search one at)) ∙ wants) has);
  },
)

wakes_by : (group : List ℕ) (search : SearchValue) (o : Option ℕ) → search.wanted ≡ o → Wakes group (Some search)
wakes_by group search None is = stays group search (λ w wants. absurd (none_is_not w search.wanted is wants))
wakes_by group search (Some w) is = elim (in_or_out group w) [
  | inl has ↦ readies group search w is has
  | inr out ↦ stays group search (λ u wants has. out (subst (Contains group) (some_number u w (sym wants ∙ is)) has))
]
  where
    some_number : (u w : ℕ) → Some u ≡ Some w → u ≡ w
    some_number u w is = cc

nothing_wakes : (group : List ℕ) → WakesTo group None None
nothing_wakes group = record {
  none = λ is. is;
  woken = λ w search at wants has. absurd (none_is_not search None refl at);
  same = λ search at none. at;
}

wakes : (group : List ℕ) (before : Option SearchValue) → Wakes group before
wakes group None = (None, nothing_wakes group)
wakes group (Some search) = wakes_by group search search.wanted refl

record AreWoken (group : List ℕ) (old : List (Option SearchValue)) : Type 0 where
  new : List (Option SearchValue)
  each : length new ≡ length old
  at : (place : ℕ) → WakesTo group (kept_at old place) (kept_at new place)

woken_at : (group : List ℕ) (before after : Option SearchValue) (old new : List (Option SearchValue)) → WakesTo group before after
    → ((place : ℕ) → WakesTo group (kept_at old place) (kept_at new place)) → (place : ℕ)
    → WakesTo group (kept_at (before ∷ old) place) (kept_at (after ∷ new) place)
woken_at group before after old new first rest zero = first
woken_at group before after old new first rest (suc place) = rest place

all_woken : (group : List ℕ) (old : List (Option SearchValue)) → AreWoken group old
all_woken group [] = record { new = []; each = refl; at = λ place. nothing_wakes group }
all_woken group (before ∷ old) =
    let first : Wakes group before = wakes group before in
    let rest : AreWoken group old = all_woken group old in
    record {
      new = first.0 ∷ rest.new;
      each = ap (λ n. suc n) rest.each;
      at = woken_at group before first.0 old rest.new first.1 rest.at;
    }

pub woken_of : (group : List ℕ) (old : List (Option SearchValue)) → (new : List (Option SearchValue)) × IsWoken group old new
woken_of group old =
    let all : AreWoken group old = all_woken group old in (
      all.new,
      record {
        each = all.each;
        none = λ place. (all.at place).none;
        woken = λ place. (all.at place).woken;
        same = λ place. (all.at place).same;
      },
    )
