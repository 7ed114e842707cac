-- The parts behind a report exist.
use Rattle.std.proofs.Common.{◌≡◌, ◌⊎◌, inl, inr, ℕ, zero, suc, ◌<◌, ◌++◌, bit_or, Bool, true, false, List, [], ◌∷◌, Option, Some, None, All, Contains, length, map, get_or, refl, sym, subst, arith}
use Rattle.std.specs.List.{flat_map, range_with_len}
use Rattle.std.specs.Int.{IsBitSet}
use Rattle.std.proofs.lemmas.Bool.{cases_lt}
use Rattle.std.proofs.lemmas.List.{append-nil, append_assoc, get_or_past}
use Rattle.std.proofs.lemmas.List.Elements.{All-cons, All-contains, All-head, All-nil, All-tail}
use Rattle.std.proofs.lemmas.Option.{slice_get_within}
use Rattle.std.proofs.lemmas.List.FromFn.{get_or-map-range_with_len, length-map-range_with_len}
use Rattle.list_laws.proofs.OneOrder.{first_or_rest, in_first, nothing_in}
use Rattle.graph_law.specs.Classes.{HasMember, group_at}
use Rattle.graph_law.specs.Graph.{Calls, IsClosed}
use Rattle.graph_law.specs.LegalOrder.{IsComplete, IsLegalOrder}
use Rattle.graph_law.specs.Reach.{IsReached}
use Rattle.graph_law.proofs.ReachLaws.{along_walk}
use Rattle.group_release.specs.declared.level.Level.{Level}
use Rattle.laws.proofs.Choices.{in_or_out}
use Rattle.effect_flow.specs.Kinds.{kinds}
use Rattle.effect_flow.proofs.Known.{IsKnown, some_flows}
use Rattle.loop_paths.specs.Circuits.{AreCircuits, IsShortest}
use Rattle.import_rules.specs.declared.names.PredName.{PredName}
use Rattle.import_rules.specs.Names.{pred_name}
use Rattle.import_rules.specs.Program.{Seen, found}
use Rattle.import_rules.proofs.Lists.{all_by}
use Rattle.call_edges.specs.Calls.{IsMetIn}
use Rattle.call_edges.specs.Goals.{Met, call, fault}
use Rattle.call_edges.specs.Successors.{node_mets, successor_lists}
use Rattle.call_edges.specs.Unresolved.{IsUnresolved}
use Rattle.call_edges.proofs.AmongLemmas.{flat_has}
use Rattle.call_edges.proofs.SuccessorLemmas.{lists_closed, lists_count, node_mets_are}
use Rattle.group_words.specs.Settings.{Settings}
use Rattle.loop_report.specs.Effects.{place_effects}
use Rattle.report_lines.specs.LineOrder.{IsLineOrder}
use Rattle.report_lines.specs.Reportable.{AreLeveled, LeastDiffer}
use Rattle.loop_report.specs.Walks.{circuit_line_at}
use Rattle.report_lines.proofs.Printable.{least_differ}
use Rattle.group_tool.specs.Parts.{AreOwnKinds, AreParts, IsPart, IsPathPart, TellEffects, TellLoops, path_line}
use Rattle.tool_run.specs.Roots.{HasRoots, asked_names}
use Rattle.group_tool.proofs.GroupLemmas.{members_listed}
use Rattle.group_tool.proofs.KindLemmas.{AreKinds, kinds_more, kinds_none}
use Rattle.group_tool.proofs.PartLemmas.{told_effects, told_loops, told_path}
use Rattle.tool_run.proofs.RootLemmas.{stands}

-- what there is for each graph, as the laws say it
pub record PartLaws : Type 0 where
  pub shortest : (lists : List (List ℕ)) (p q : ℕ) → IsClosed lists → p < length lists → (found : Option (List ℕ)) × IsShortest (Calls lists) p q found
  pub circuits : (lists groups : List (List ℕ)) → IsClosed lists → IsLegalOrder (Calls lists) groups → ((p : ℕ) → HasMember groups p → p < length lists)
      → (circuits : List (Option (List ℕ))) × AreCircuits (Calls lists) groups circuits
  pub ordered : (lists : List (List ℕ)) (roots : List ℕ) → IsClosed lists → All (λ root. root < length lists) roots
      → (groups : List (List ℕ)) × (IsLegalOrder (Calls lists) groups × IsComplete roots groups × ((v : ℕ) → HasMember groups v → IsReached (Calls lists) roots v))
  pub rows : (groups : List (List ℕ)) (levels : List Level) → LeastDiffer groups → (order : List ℕ) × IsLineOrder groups levels order

-- the names of a longer list

rest_all : (P : PredName → Type 0) (xs ys : List PredName) → All P (xs ++ ys) → All P ys
rest_all P [] ys all = all
rest_all P (x ∷ xs) ys all = rest_all P xs ys (All-tail P x (xs ++ ys) all)

two_there : (P : PredName → Type 0) (x y : PredName) → All P (x ∷ y ∷ []) → P x × P y
two_there P x y all = (All-head P x (y ∷ []) all, All-head P y [] (All-tail P x (y ∷ []) all))

both_there : (both : PredName × PredName) (names : Option (List PredName)) (seen : Seen) → HasRoots (asked_names (Some both) names) seen
    → Contains seen.predicates both.0 × Contains seen.predicates both.1
both_there both None seen has = two_there (Contains seen.predicates) both.0 both.1 has
both_there both (Some list) seen has = two_there (Contains seen.predicates) both.0 both.1 (rest_all (Contains seen.predicates) list (both.0 ∷ both.1 ∷ []) has)

front_all : (P : PredName → Type 0) (xs ys : List PredName) → All P (xs ++ ys) → All P xs
front_all P [] ys all = All-nil P
front_all P (x ∷ xs) ys all = All-cons P x xs (All-head P x (xs ++ ys) all) (front_all P xs ys (All-tail P x (xs ++ ys) all))

-- where all asked names are there, so are the roots
pub roots_there : (path : Option (PredName × PredName)) (names : Option (List PredName)) (seen : Seen) → HasRoots (asked_names path names) seen → HasRoots names seen
roots_there None names seen has = has
roots_there (Some both) None seen has = tt
roots_there (Some both) (Some list) seen has = front_all (Contains seen.predicates) list (both.0 ∷ both.1 ∷ []) has

-- kinds of names

kinds_from : (before rest : List PredName) (all : ℕ) → AreKinds before all → (more : ℕ) × AreKinds (before ++ rest) more
kinds_from before [] all are = (all, subst (λ ns. AreKinds ns all) (sym (append-nil before)) are)
kinds_from before (name ∷ rest) all are =
    let more = kinds_from (before ++ name ∷ []) rest (bit_or all (kinds name.name name.arity)) (kinds_more before name all (kinds name.name name.arity) refl are) in
    (more.0, subst (λ ns. AreKinds ns more.0) (append_assoc before (name ∷ []) rest) more.1)

kinds_all : (names : List PredName) → (all : ℕ) × AreKinds names all
kinds_all names = kinds_from [] names 0 kinds_none

-- names that mean none

abbrev none_name : Option ℕ → PredName → List PredName
none_name None name = name ∷ []
none_name (Some n) name = []

abbrev unresolved_name : Seen → Met → List PredName
unresolved_name seen (call at owner name arity more negated) = none_name (found seen owner name arity) (pred_name owner name arity)
unresolved_name seen (fault at) = []

abbrev names_of : Seen → ℕ → List PredName
names_of seen node = flat_map (unresolved_name seen) (node_mets seen node)

in_none : (target : Option ℕ) (name other : PredName) → Contains (none_name target name) other → (name ≡ other) × (target ≡ None)
in_none None name other has = elim (first_or_rest name other [] has) [ inl same ↦ (same, refl) | inr later ↦ absurd (nothing_in other later) ]
in_none (Some n) name other has = absurd (nothing_in other has)

met_name : (seen : Seen) (node : ℕ) (m : Met) (name : PredName) → IsMetIn seen node m → Contains (unresolved_name seen m) name → IsUnresolved seen node name
met_name seen node (call at owner called arity more negated) name met has =
    let one = in_none (found seen owner called arity) (pred_name owner called arity) name has in
    subst (IsUnresolved seen node) one.0 (record { at = at; added = more; negated = negated; met = met; means_none = one.1 })
met_name seen node (fault at) name met has = absurd (nothing_in name has)

name_sound : (seen : Seen) (node : ℕ) (name : PredName) → Contains (names_of seen node) name → IsUnresolved seen node name
name_sound seen node name has =
    let among = (flat_has (unresolved_name seen) (node_mets seen node) name).0 has in
    met_name seen node among.one name ((node_mets_are seen node among.one).0 among.has) among.is

name_there : (seen : Seen) (node : ℕ) (name : PredName) → IsUnresolved seen node name → Contains (names_of seen node) name
name_there seen node name is =
    (flat_has (unresolved_name seen) (node_mets seen node) name).1
    (record {
      one = call is.at name.module name.name name.arity is.added is.negated;
      has = (node_mets_are seen node (call is.at name.module name.name name.arity is.added is.negated)).1 is.met;
      is = subst (λ target. Contains (none_name target name) name) (sym is.means_none) (in_first name []);
    })

-- the kinds of each predicate
own_kinds : (seen : Seen) → (own : List ℕ) × AreOwnKinds seen own
own_kinds seen =
    let at : ℕ → ℕ = λ node. (kinds_all (names_of seen node)).0 in
    let count : ℕ = length seen.predicates in (
      map at (range_with_len 0 count),
      record {
        each = length-map-range_with_len at 0 count;
        are = λ kind node low lt.
            let here : get_or (map at (range_with_len 0 count)) node 0 ≡ at node = get_or-map-range_with_len at 0 count node node 0 lt (omega arith) in
            let some = (kinds_all (names_of seen node)).1 kind in (
              λ set.
                  let one = some.0 (subst (λ k. IsBitSet k kind) here set) in
                  record { name = one.name; unresolved = name_sound seen node one.name one.is_name; of_kind = one.of_kind },
              λ has.
                  subst (λ k. IsBitSet k kind) (sym here)
                  (some.1 (record { name = has.name; is_name = name_there seen node has.name has.unresolved; of_kind = has.of_kind })),
            );
      },
    )

-- what a group reaches is known

member_or_not : (groups : List (List ℕ)) (v : ℕ) → HasMember groups v ⊎ (HasMember groups v → ⊥)
member_or_not [] v = inr (λ has. let within = has.within in omega (arith, within))
member_or_not (group ∷ groups) v = go (in_or_out group v) (member_or_not groups v)
  where
    none : (Contains group v → ⊥) → (HasMember groups v → ⊥) → (place : ℕ) → place < length (group ∷ groups) → Contains (group_at (group ∷ groups) place) v → ⊥
    none out never zero within member = out member
    none out never (suc place) within member = never (record { place = place; within = omega (arith, within); member = member })

    go : Contains group v ⊎ (Contains group v → ⊥) → HasMember groups v ⊎ (HasMember groups v → ⊥) → HasMember (group ∷ groups) v ⊎ (HasMember (group ∷ groups) v → ⊥)
    go (inl here) rest = inl (record { place = 0; within = omega arith; member = here })
    go (inr out) (inl has) = inl (record { place = suc has.place; within = (let within = has.within in omega (arith, within)); member = has.member })
    go (inr out) (inr never) = inr (λ has. none out never has.place has.within has.member)

reached_there : (calls : ℕ → ℕ → Type 0) (roots : List ℕ) (groups : List (List ℕ)) → IsLegalOrder calls groups → IsComplete roots groups → (v : ℕ) → IsReached calls roots v → HasMember groups v
reached_there calls roots groups legal complete v reached =
    along_walk calls (HasMember groups)
    (λ p q has call.
    let up = legal.callees_first has.place p q has.within has.member call in
    record { place = up.place; within = (let upto = up.upto in let within = has.within in omega (arith, upto, within)); member = up.member })
    reached.start reached.reaches.path v reached.reaches.walk (All-contains (HasMember groups) roots reached.start complete reached.is_start)

module _ (laws : PartLaws) where
  known_group : (lists : List (List ℕ)) (own : List ℕ) → IsClosed lists → (group : List ℕ) → All (λ p. p < length lists) group → IsKnown (Calls lists) own (length lists) group
  known_group lists own closed group below =
      let order = laws.ordered lists group closed below in record {
        known = λ q.
            elim (member_or_not order.0 q) [
              | inl has ↦ inl (order.1.2 q has)
              | inr never ↦ inr (λ reached. never (reached_there (Calls lists) group order.0 order.1.0 order.1.1 q reached))
            ];
        below = λ q reached.
            along_walk (Calls lists) (λ n. n < length lists) (λ n m low call. closed n m call) reached.start reached.reaches.path q reached.reaches.walk
            (All-contains (λ n. n < length lists) group reached.start below reached.is_start);
      }

  group_below : (lists : List (List ℕ)) (groups : List (List ℕ)) → ((p : ℕ) → HasMember groups p → p < length lists) → (place : ℕ) → All (λ p. p < length lists) (group_at groups place)
  group_below lists groups nodes place = elim (cases_lt place (length groups)) [
    | inl within ↦ all_by (λ p. p < length lists) (group_at groups place) (λ p has. nodes p (record { place = place; within = within; member = has }))
    | inr past ↦ subst (All (λ p. p < length lists)) (sym (get_or_past groups place [] past)) (All-nil (λ p. p < length lists))
  ]

  module _ (seen : Seen) (roots : List ℕ) (groups : List (List ℕ)) (levels : List Level) (below : All (λ q. q < length seen.predicates) roots)
      (leveled : AreLeveled (Calls (successor_lists seen)) roots groups levels) where
    abbrev lists : List (List ℕ)
    lists = successor_lists seen

    nodes : (p : ℕ) → HasMember groups p → p < length lists
    nodes = members_listed seen roots groups below leveled.are

    order : (order : List ℕ) × IsLineOrder groups levels order
    order = laws.rows groups levels (least_differ leveled.are.legal)

    some_effects : (bytes : List ℕ) × TellEffects seen groups levels bytes
    some_effects =
        let own = own_kinds seen in
        let flows =
        some_flows (Calls lists) own.0 (length lists) groups (λ place. known_group lists own.0 (lists_closed seen) (group_at groups place) (group_below lists groups nodes place)) in
        let bytes : List ℕ = flat_map (place_effects seen.predicates groups flows.0) order.0 in
        (bytes, told_effects seen groups levels own.0 flows.0 bytes own.1 flows.1 (record { order = order.0; in_order = order.1; is = refl }))

    some_loops : (bytes : List ℕ) × TellLoops seen groups levels bytes
    some_loops =
        let circuits = laws.circuits lists groups (lists_closed seen) leveled.are.legal nodes in
        let bytes : List ℕ = flat_map (circuit_line_at seen.predicates circuits.0) order.0 in
        (bytes, told_loops seen groups levels circuits.0 bytes circuits.1 (record { order = order.0; in_order = order.1; is = refl }))

    some_part : (wanted : Bool) (Tells : List ℕ → Type 0) → (bytes : List ℕ) × Tells bytes → (bytes : List ℕ) × IsPart wanted Tells bytes
    some_part false Tells one = ([], refl)
    some_part true Tells one = one

    some_path : (path : Option (PredName × PredName)) (names : Option (List PredName)) → HasRoots (asked_names path names) seen → (bytes : List ℕ) × IsPathPart path seen bytes
    some_path None names has = ([], refl)
    some_path (Some both) names has =
        let there = both_there both names seen has in
        let from = stands seen.predicates both.0 there.0 in
        let to = stands seen.predicates both.1 there.1 in
        let low : from.0 < length lists = (let within = slice_get_within seen.predicates from.0 both.0 from.1 in omega (arith, within, lists_count seen)) in
        let path = laws.shortest lists from.0 to.0 (lists_closed seen) low in
        let bytes : List ℕ = path_line seen.predicates from.0 to.0 path.0 in
        (bytes, told_path (Some both) seen from.0 to.0 path.0 bytes (from.1, to.1) path.1 refl)

    -- the parts that are wanted
    pub some_parts : (settings : Settings) → HasRoots (asked_names settings.path settings.roots) seen → (bytes : List ℕ) × AreParts settings seen groups levels bytes
    some_parts settings has =
        let effects = some_part settings.effects (TellEffects seen groups levels) some_effects in
        let loops = some_part settings.loops (TellLoops seen groups levels) some_loops in
        let path = some_path settings.path settings.roots has in (
          effects.0 ++ loops.0 ++ path.0,
          record {
            effects = effects.0;
            are_effects = effects.1;
            loops = loops.0;
            are_loops = loops.1;
            path = path.0;
            are_path = path.1;
            is = refl;
          },
        )
