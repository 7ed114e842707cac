-- What the feeder owes when it gives the turn back, and what it pushes.
use Rattle.std.proofs.Common.{◌≡◌, inl, inr, ℕ, ◌<◌, ◌+◌, true, List, [], ◌∷◌, ◌++◌, length, take, drop, get_or, subst, sym, refl, ap, arith}
use Rattle.std.proofs.lemmas.Bool.{cases_lt}
use Rattle.std.proofs.lemmas.List.{append-nil, get_or_append_left, length-append, take-append-drop, take_more}
use Rattle.std.specs.Prelude.{Contains}
use Rattle.list_laws.specs.Counts.{IsLonger, flat, times}
use Rattle.list_laws.proofs.Counting.{counted, standing, times-append}
use Rattle.graph_law.specs.Classes.{HasMember}
use Rattle.group_release.specs.Book.{BookValue}
use Rattle.group_release.proofs.Nodes.{from_flat, in_flat}
use Rattle.node_claims.specs.Steps.{MayGive}
use Rattle.node_claims.specs.Views.{outline_of}
use Rattle.node_claims.specs.declared.view.Taken.{Taken}
use Rattle.node_claims.specs.declared.view.View.{View}
use Rattle.group_feed.specs.Copying.{AreCopied, AreNodesSeen, AreWithin}
use Rattle.group_feed.specs.Ordered.{AreOrdered}
use Rattle.group_feed.proofs.LineSteps.{first_ordered}

-- a pass without nodes may give the book back as it was, or failed
pub may_rest : (v : View) (t : Taken) (book now : BookValue) → t ≡ record { book = outline_of book; closed = [] } → now ≡ record book { failed = now.failed }
    → (book.failed ≡ true → now.failed ≡ true) → v.nodes ≡ [] → MayGive v t (outline_of now) []
may_rest v t book now taken is failed idle =
    subst (λ (u : Taken). MayGive v u (outline_of now) []) (sym taken)
    (subst (λ (b : BookValue). MayGive v (record { book = outline_of book; closed = [] }) (outline_of b) []) (sym is)
    (record {
      lists = refl;
      roots = refl;
      failed = failed;
      released = record { more = []; is = sym (append-nil book.groups) };
      closed = λ x. omega arith;
      same = λ x. let none : times x v.nodes ≡ 0 = ap (times x) idle in omega (arith, none);
      wants = λ x wanted. inl wanted;
    }))

-- the groups up to a place are the first ones
take_drop : (n : ℕ) (groups : List (List ℕ)) → groups ≡ take n groups ++ drop n groups
take_drop n groups = sym (take-append-drop n groups)

pub take_is_first : (n : ℕ) (groups : List (List ℕ)) → IsLonger (take n groups) groups
take_is_first n groups = record { more = drop n groups; is = take_drop n groups }

pub part_ordered : (lists old new : List (List ℕ)) → IsLonger old new → AreOrdered lists new → AreOrdered lists old
part_ordered lists old new longer ordered = first_ordered lists old longer.more (subst (AreOrdered lists) longer.is ordered)

-- one group more may be pushed
pub may_push_next : (lists groups pushed : List (List ℕ)) (n : ℕ) (group : List ℕ) → n < length groups → group ≡ get_or groups n [] → pushed ≡ take n groups
    → AreOrdered lists groups → AreOrdered lists (pushed ++ group ∷ [])
may_push_next lists groups pushed n group lt is was ordered =
    let more : take (n + 1) groups ≡ take n groups ++ get_or groups n [] ∷ [] = take_more groups n [] lt in
    rw (was, is, ← more) (part_ordered lists (take (n + 1) groups) groups (take_is_first (n + 1) groups) ordered)

-- a member of the old groups is one of the new ones
pub has_more : (old new : List (List ℕ)) (p : ℕ) → IsLonger old new → HasMember old p → HasMember new p
has_more old new p longer has =
    let within = has.within in
    let long : length (old ++ longer.more) ≡ length old + length longer.more = length-append old longer.more in
    subst (λ (l : List (List ℕ)). HasMember l p) (sym longer.is)
    (record {
      place = has.place;
      within = omega (arith, long, within);
      member = subst (λ g. Contains g p) (sym (get_or_append_left old longer.more [] has.place within)) has.member;
    })

-- what was seen finished is released in the book that was lent
pub seen_within : (groups released : List (List ℕ)) (seen : List ℕ) → AreNodesSeen groups seen → ((x : ℕ) → 0 < times x seen → 0 < times x (flat released))
    → AreWithin groups released
seen_within groups released seen are lent p has = from_flat released p (standing p (flat released) (lent p (are p has)))

-- and what is released is seen when the turn is given
pub within_seen : (groups released : List (List ℕ)) (seen : List ℕ) → AreWithin groups released → AreNodesSeen groups (seen ++ flat released)
within_seen groups released seen within p has =
    let here : 0 < times p (flat released) = counted p (flat released) (in_flat released p (within p has)) in
    omega (arith, here, times-append p seen (flat released))

-- where all that is released is copied, so is all that was seen by then
pub seen_copied : (groups released : List (List ℕ)) (seen : List ℕ) → AreWithin released groups → ((x : ℕ) → 0 < times x seen → 0 < times x (flat released))
    → AreCopied (seen ++ flat released) groups
seen_copied groups released seen within lent p has =
    let both = times-append p seen (flat released) in
    let here : 0 < times p (flat released) = elim (cases_lt 0 (times p seen)) [ inl before ↦ lent p before | inr none ↦ omega (arith, has, both, none) ] in
    within p (from_flat released p (standing p (flat released) here))
