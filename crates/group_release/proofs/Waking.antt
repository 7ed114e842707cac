-- What a release keeps.
use Rattle.std.proofs.Common.{◌≡◌, ◌⊎◌, inl, inr, ℕ, ◌<◌, ◌≤◌, ◌+◌, List, [], ◌∷◌, ◌++◌, length, Option, None, Some, refl, ap, ◌∙◌, sym, subst, arith}
use Rattle.std.proofs.lemmas.Bool.{cases_lt}
use Rattle.std.proofs.lemmas.List.Sorted.{Contains-permutation, IsPermutation-sym, length_permutation}
use Rattle.std.specs.List.Sorted.{IsPermutation, IsStrictlyIncreasing}
use Rattle.std.specs.Prelude.{Contains}
use Rattle.list_laws.specs.Counts.{times, flat}
use Rattle.list_laws.proofs.Counting.{counted, standing, times-append, times-flat-append, times-permutation}
use Rattle.list_laws.proofs.Standing.{flat-map_same}
use Rattle.graph_law.specs.Classes.{HasMember, IsClass}
use Rattle.graph_law.specs.Graph.{Calls}
use Rattle.graph_law.specs.LegalOrder.{IsLegalOrder}
use Rattle.graph_law.specs.Reach.{IsReached}
use Rattle.graph_law.proofs.ClassLaws.{HasMember-push, HasMember-push_cases, HasMember-push_left}
use Rattle.search_stack.specs.Search.{SearchValue, IsGoodSearch, IsOn, IsReleasable}
use Rattle.search_stack.proofs.Released.{legal_push, whole_class}
use Rattle.blocked_table.specs.Blocked.{BlockedValue, IsWoken}
use Rattle.blocked_table.specs.Kept.{kept_at, Holds}
use Rattle.blocked_table.proofs.Chain.{none_is_not, some_is}
use Rattle.group_release.specs.Book.{BookValue, IsGoodBook, WantsOther, released_of}
use Rattle.group_release.specs.Outline.{kept_nodes, listed, nodes_of, nodes_on, wanted_nodes, wants_of}
use Rattle.group_release.specs.declared.book.Book.TheInside.{Inside}
use Rattle.group_release.specs.BookFields.{IsBook, value_of}
use Rattle.group_release.specs.Released.{IsAppended, IsNewGroup, ReleasedGroups}
use Rattle.group_release.proofs.Books.{same_size}
use Rattle.group_release.proofs.KeptCounts.{wanted_less}
use Rattle.group_release.proofs.Nodes.{from_flat, in_flat}

-- what became of a kept search: its stack is as it was, and it wants what it wanted, which isn't in the group, or nothing
pub record Stays (group : List ℕ) (before after : SearchValue) : Type 0 where
  pub stack_is : after.stack ≡ before.stack
  pub wants : (w : ℕ) → after.wanted ≡ Some w → (before.wanted ≡ Some w) × (Contains group w → ⊥)

module _ {group : List ℕ} {old new : List (Option SearchValue)} (woken : IsWoken group old new) where
  -- each kept search stays at its place
  pub record IsStill (place : ℕ) (before : SearchValue) : Type 0 where
    pub after : SearchValue
    pub at : kept_at new place ≡ Some after
    pub stays : Stays group before after

  by_wants : (place : ℕ) (before : SearchValue) → kept_at old place ≡ Some before → (wanted : Option ℕ) → before.wanted ≡ wanted → IsStill place before
  by_wants place before at None is = record {
    after = before;
    at = woken.same place before at (λ w wants member. none_is_not w before.wanted is wants);
    stays = record { stack_is = refl; wants = λ w wants. absurd (none_is_not w before.wanted is wants) };
  }
  by_wants place before at (Some w) is =
      elim (cases_lt 0 (times w group)) as (λ _. IsStill place before) [
        | inl some ↦
            record {
              after = record before { wanted = None };
              at = woken.woken place w before at is (standing w group some);
              stays = record { stack_is = refl; wants = λ u wants. absurd (none_is_not u None refl wants) };
            }
        | inr none ↦
            let out : (u : ℕ) → before.wanted ≡ Some u → Contains group u → ⊥ = λ u wants member.
            let same : u ≡ w = some_is u w (sym wants ∙ is) in
            let here : 0 < times w group = counted w group (subst (Contains group) same member) in
            omega (arith, here, none) in
            record {
              after = before;
              at = woken.same place before at out;
              stays = record { stack_is = refl; wants = λ u wants. (wants, out u wants) };
            }
      ]

  pub still : (place : ℕ) (before : SearchValue) → kept_at old place ≡ Some before → IsStill place before
  still place before at = by_wants place before at before.wanted refl

  -- and what is kept now was kept before
  pub record WasKept (place : ℕ) (after : SearchValue) : Type 0 where
    pub before : SearchValue
    pub at : kept_at old place ≡ Some before
    pub stays : Stays group before after

  was_by : (place : ℕ) (after : SearchValue) → kept_at new place ≡ Some after → (o : Option SearchValue) → kept_at old place ≡ o → WasKept place after
  was_by place after there None none = absurd (none_is_not after (kept_at new place) (woken.none place none) there)
  was_by place after there (Some before) at =
      let is : IsStill place before = still place before at in
      let same : is.after ≡ after = some_is is.after after (sym is.at ∙ there) in
      record { before = before; at = at; stays = subst (Stays group before) same is.stays }

  pub was_kept : (place : ℕ) (after : SearchValue) → kept_at new place ≡ Some after → WasKept place after
  was_kept place after there = was_by place after there (kept_at old place) refl

  nodes_by : (place : ℕ) (o : Option SearchValue) → kept_at old place ≡ o → nodes_of (kept_at new place) ≡ nodes_of (kept_at old place)
  nodes_by place None none = ap nodes_of (woken.none place none) ∙ sym (ap nodes_of none)
  nodes_by place (Some before) at =
      let is : IsStill place before = still place before at in
      ap nodes_of is.at ∙ ap nodes_on is.stays.stack_is ∙ sym (ap nodes_of at)

  pub woken_nodes : kept_nodes new ≡ kept_nodes old
  woken_nodes = flat-map_same nodes_of None old new woken.each (λ place. nodes_by place (kept_at old place) refl)

  listed_less : (x : ℕ) (before after : Option ℕ) → ((w : ℕ) → after ≡ Some w → before ≡ Some w) → times x (listed after) ≤ times x (listed before)
  listed_less x before None each = omega arith
  listed_less x before (Some w) each = let same : times x (listed before) ≡ times x (listed (Some w)) = ap (λ o. times x (listed o)) (each w refl) in omega (arith, same)

  wants_by : (x place : ℕ) (o : Option SearchValue) → kept_at old place ≡ o → times x (wants_of (kept_at new place)) ≤ times x (wants_of (kept_at old place))
  wants_by x place None none =
      let same : times x (wants_of (kept_at new place)) ≡ 0 = ap (λ o. times x (wants_of o)) (woken.none place none) in
      omega (arith, same)
  wants_by x place (Some before) at =
      let is : IsStill place before = still place before at in
      let was : times x (wants_of (kept_at old place)) ≡ times x (listed before.wanted) = ap (λ o. times x (wants_of o)) at in
      let now : times x (wants_of (kept_at new place)) ≡ times x (listed is.after.wanted) = ap (λ o. times x (wants_of o)) is.at in
      omega (arith, was, now, listed_less x before.wanted is.after.wanted (λ w wants. (is.stays.wants w wants).0))

  pub woken_wants : (x : ℕ) → times x (wanted_nodes new) ≤ times x (wanted_nodes old)
  woken_wants x = wanted_less x old new (λ place. wants_by x place (kept_at old place) refl)

-- the group's nodes are counted among those of the groups
pub released_count : (x : ℕ) (old after : ReleasedGroups) (group : List ℕ) → IsAppended old group after
    → times x (flat after.groups) ≡ times x (flat old.groups) + times x group
released_count x old after group is =
    let all : times x (flat after.groups) ≡ times x (flat (old.groups ++ is.last ∷ [])) = ap (λ groups. times x (flat groups)) is.groups in
    let one : times x (is.last ++ []) ≡ times x is.last + 0 = times-append x is.last [] in
    omega (arith, all, times-flat-append x old.groups (is.last ∷ []), one, times-permutation x group is.last is.same_members)

module _ {book : BookValue} {group last : List ℕ} {new : List (Option SearchValue)} (good : IsGoodBook book)
    (release : IsReleasable book.lists book.roots (flat book.groups) group) (fresh : (v : ℕ) → Contains group v → HasMember book.groups v → ⊥)
    (apart : (place v : ℕ) → Holds book.kept place v → Contains group v → ⊥) (woken : IsWoken group book.kept new) (moved : IsPermutation group last)
    (ascending : IsStrictlyIncreasing last) where
  from_last : (v : ℕ) → Contains last v → Contains group v
  from_last v member = Contains-permutation last group v (IsPermutation-sym group last moved) member

  to_last : (v : ℕ) → Contains group v → Contains last v
  to_last v member = Contains-permutation group last v moved member

  class : IsClass (Calls book.lists) last
  class = record {
    inhabited = omega (arith, length_permutation group last moved, release.inhabited);
    ascending = ascending;
    mutual_reach = λ p q first second. release.mutual_reach p q (from_last p first) (from_last q second);
    whole = λ p q member both. to_last q (whole_class good.legal release (from_flat book.groups) fresh p q (from_last p member) both);
  }

  legal : IsLegalOrder (Calls book.lists) (book.groups ++ last ∷ [])
  legal =
      legal_push good.legal class (λ v member has. fresh v (from_last v member) has)
      (λ p q member call.
      elim (release.calls p q (from_last p member) call) as (λ _. Contains last q ⊎ HasMember book.groups q)
      [ inl here ↦ inl (to_last q here) | inr done ↦ inr (from_flat book.groups q done) ])

  -- a node of the group that is last now, or of an older one
  member_cases : (v : ℕ) → HasMember (book.groups ++ last ∷ []) v → HasMember book.groups v ⊎ Contains group v
  member_cases v has =
      elim (HasMember-push_cases book.groups last v has) as (λ _. HasMember book.groups v ⊎ Contains group v)
      [ inl old ↦ inl old | inr newly ↦ inr (from_last v newly) ]

  pub more_old : (v : ℕ) → Contains (flat book.groups) v → Contains (flat (book.groups ++ last ∷ [])) v
  more_old v has = in_flat (book.groups ++ last ∷ []) v (HasMember-push_left book.groups last v (from_flat book.groups v has))

  pub more_new : (v : ℕ) → Contains group v → Contains (flat (book.groups ++ last ∷ [])) v
  more_new v member = in_flat (book.groups ++ last ∷ []) v (HasMember-push book.groups last v (to_last v member))

  pub released_good : ((place : ℕ) (search : SearchValue) → kept_at new place ≡ Some search
      → IsGoodSearch book.lists book.roots (flat (book.groups ++ last ∷ [])) search)
      → IsGoodBook (record book { kept = new; groups = book.groups ++ last ∷ [] })
  released_good stays = record {
    closed = good.closed;
    rooted = good.rooted;
    given = good.given;
    kept_good = stays;
    wants = λ place w search at wanted.
        let was : WasKept woken place search = was_kept woken place search at in
        let wants = was.stays.wants w wanted in
        let before : WantsOther book was.before w = good.wants place w was.before was.at wants.0 in
        record {
          unreleased = λ has.
              elim (member_cases w has) as (λ _. ⊥) [ inl old ↦ before.unreleased old | inr newly ↦ wants.1 newly ];
          off = λ on. before.off (subst (λ s. IsOn s w) was.stays.stack_is on);
        };
    unreleased = λ place v holds has.
        let was : WasKept woken place holds.search = was_kept woken place holds.search holds.at in
        let held : Holds book.kept place v =
        record { search = was.before; at = was.at; on = subst (λ s. IsOn s v) was.stays.stack_is holds.on } in
        elim (member_cases v has) as (λ _. ⊥) [ inl old ↦ good.unreleased place v held old | inr newly ↦ apart place v held newly ];
    legal = legal;
    reached = λ v has.
        elim (member_cases v has) as (λ _. IsReached (Calls book.lists) book.roots v)
        [ inl old ↦ good.reached v old | inr newly ↦ release.reached v newly ];
  }

-- the same groups in a list of the same size
pub released_book : (fields : Inside) (blocked : BlockedValue) (released : ReleasedGroups) (group : List ℕ) → IsBook fields
    → IsNewGroup (released_of (value_of fields)) group
    → IsReleasable (value_of fields).lists (value_of fields).roots (flat (value_of fields).groups) group
    → ((place v : ℕ) → Holds fields.blocked.kept place v → Contains group v → ⊥)
    → blocked ≡ record fields.blocked { kept = blocked.kept } → IsWoken group fields.blocked.kept blocked.kept → IsAppended fields.released group released
    → ((more : List ℕ) → ((v : ℕ) → Contains (flat (value_of fields).groups) v → Contains more v) → ((v : ℕ) → Contains group v → Contains more v)
    → (place : ℕ) (search : SearchValue) → kept_at blocked.kept place ≡ Some search
    → IsGoodSearch (value_of fields).lists (value_of fields).roots more search)
    → IsBook (record fields { blocked = blocked; released = released })
released_book fields blocked released group is new release apart only woken appended stays =
    let book : BookValue = value_of fields in
    let last : List ℕ = appended.last in
    let moved : IsPermutation group last = appended.same_members in
    let good : IsGoodBook (record book { kept = blocked.kept; groups = book.groups ++ last ∷ [] }) =
    released_good is.good release new.fresh apart woken moved appended.ascending
    (stays (flat (book.groups ++ last ∷ [])) (more_old is.good release new.fresh apart woken moved appended.ascending)
    (more_new is.good release new.fresh apart woken moved appended.ascending)) in
    let count_is : released.count ≡ length book.lists = appended.count ∙ ap (λ (value : ReleasedGroups). value.count) is.groups in
    record {
      table = same_size fields.blocked blocked (length book.lists) is.table only;
      groups = λ i. record { count = count_is i; groups = released.groups };
      good = subst (λ groups. IsGoodBook (record book { kept = blocked.kept; groups = groups })) (sym appended.groups) good;
    }
