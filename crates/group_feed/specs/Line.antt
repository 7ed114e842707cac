-- The rule of the line over which groups go from the feeder to the taker.
use Rattle.std.specs.Prelude.{◌≡◌, ⊤, ℕ, Bool, true, false, List, [], ◌∷◌, ◌++◌, map, Option, Some, None}
use mathlib.Core.Option.{some}
use lib.ListN.{get_elem?}
use Rattle.group_feed.specs.Ordered.{AreOrdered}
use Rattle.group_feed.specs.declared.line.Hand.{Hand}

-- the end mark, or nothing
abbrev pub mark : Bool → List (Option (List ℕ))
mark true = None ∷ []
mark false = []

-- the groups as they go over the line, and the end mark where it comes after them
abbrev pub parcels : List (List ℕ) → Bool → List (Option (List ℕ))
parcels groups ended = map (λ group. Some group) groups ++ mark ended

-- of a pass that has done nothing and may do all
abbrev pub newcomer : Hand
newcomer = record { feeds = true; takes = true; pushed = []; ended = false; taken = []; through = false }

-- of one that may only push, and of one that may only take
abbrev pub feeding : Hand → Hand
feeding v = record { feeds = true; takes = false; pushed = v.pushed; ended = v.ended; taken = []; through = false }

abbrev pub taking : Hand → Hand
taking v = record { feeds = false; takes = true; pushed = []; ended = false; taken = v.taken; through = v.through }

-- of the two put together, and of one that was put into another
abbrev pub both : Hand → Hand → Hand
both v w = record { feeds = true; takes = true; pushed = v.pushed; ended = v.ended; taken = w.taken; through = w.through }

abbrev pub spent : Hand
spent = record { feeds = false; takes = false; pushed = []; ended = false; taken = []; through = false }

-- after a push of a group, or of the end mark
abbrev pub after_push : Hand → Option (List ℕ) → Hand
after_push v (Some group) = record v { pushed = v.pushed ++ group ∷ [] }
after_push v None = record v { ended = true }

-- after a pop of a group, or of the end mark
abbrev pub after_pop : Hand → Option (List ℕ) → Hand
after_pop v (Some group) = record v { taken = v.taken ++ group ∷ [] }
after_pop v None = record v { through = true }

-- a pop adds to what was taken, which is in a legal order then
pub record Takes (lists : List (List ℕ)) (v : Hand) (x : Option (List ℕ)) (w : Hand) : Type 0 where
  pub after : w ≡ after_pop v x
  pub ordered : AreOrdered lists w.taken

-- the parcel may be pushed: the end mark wasn't, and a group goes on with the legal order
abbrev pub MayPush : List (List ℕ) → Hand → Option (List ℕ) → Type 0
MayPush lists v (Some group) = AreOrdered lists (v.pushed ++ group ∷ [])
MayPush lists v None = ⊤

-- one pass at most may push, and knows what was pushed; and one may take, and knows what was taken
pub record Fits (feeder taker : ℕ) (known : Hand) (port : ℕ) (v : Hand) : Type 0 where
  pub feeder_is : v.feeds ≡ true → port ≡ feeder
  pub pushed : v.feeds ≡ true → v.pushed ≡ known.pushed
  pub ended : v.feeds ≡ true → v.ended ≡ known.ended
  pub taker_is : v.takes ≡ true → port ≡ taker
  pub taken : v.takes ≡ true → v.taken ≡ known.taken
  pub through : v.takes ≡ true → v.through ≡ known.through

-- What was pushed is what was taken and then what the line holds. The groups that were pushed are in a legal order, and nothing comes after the
-- end mark.
pub record LineHolds (lists : List (List ℕ)) (items : List (Option (List ℕ))) (views : List Hand) : Type 0 where
  pub feeder : ℕ
  pub taker : ℕ
  pub known : Hand
  pub ordered : AreOrdered lists known.pushed
  pub held : parcels known.pushed known.ended ≡ parcels known.taken known.through ++ items
  pub each : (port : ℕ) (v : Hand) → get_elem? views port ≡ some v → Fits feeder taker known port v
