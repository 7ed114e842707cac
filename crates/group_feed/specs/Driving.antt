-- What the search and the feeder begin with, and how they and the taker end.
use Rattle.std.specs.Prelude.{◌≡◌, ℕ, true, List, [], length, Option, All}
use Rattle.crossbeam_queue.specs.Passes.{Pass, view, IsPassOf}
use Rattle.crossbeam_queue.specs.declared.array_queue.Doing.{Doing}
use Rattle.crossbeam_queue.specs.declared.array_queue.Slotted.{Slotted}
use Rattle.graph_law.specs.LegalOrder.{IsComplete}
use Rattle.node_claims.specs.Claims.{ClaimsValue}
use Rattle.search_pool.specs.Driving.{IsIdlePass}
use Rattle.group_feed.specs.declared.parts.Parts.{Parts}
use Rattle.group_feed.specs.declared.line.Hand.{Hand}
use Rattle.group_feed.specs.Feeder.{AreFed}
use Rattle.group_feed.specs.Line.{feeding, newcomer}
use Rattle.group_feed.specs.Ordered.{AreOrdered}

-- the line and its passes, as clauses see them
abbrev pub LineValue : Type 0 → Type 0 → Type 0
LineValue Q A = Slotted (Option (Option (List ℕ))) (Doing (Option (List ℕ)) Hand) Q A

abbrev pub HandPass : Type 0
HandPass = Pass (Option (List ℕ)) Hand

module _ {Q A : Type 0} where
  -- the passes are of these claims and have no node, nothing is pushed, and nothing is copied
  pub record AreReady (claims : ClaimsValue) (lists : List (List ℕ)) (line : LineValue Q A) (parts : Parts) : Type 0 where
    pub passes : All (IsIdlePass claims) parts.passes.items
    pub spare : IsIdlePass claims parts.spare
    pub feeder : IsIdlePass claims parts.feeder
    pub hand : IsPassOf line parts.hand
    pub new : view parts.hand ≡ feeding newcomer
    pub none : parts.copies ≡ record { count = length lists; groups = [] }

  -- the groups are what was pushed, in a legal order, and complete for the roots, which reach all their nodes
  pub record AreFound (claims : ClaimsValue) (line : LineValue Q A) (hand : HandPass) (groups : List (List ℕ)) : Type 0 where
    pub of_line : IsPassOf line hand
    pub feeds : (view hand).feeds ≡ true
    pub pushed : groups ≡ (view hand).pushed
    pub are : AreFed claims groups
    pub complete : IsComplete claims.roots groups

  -- the taker's pass may still take, and what the taker has is in a legal order
  pub record HasTaken (lists : List (List ℕ)) (line : LineValue Q A) (seat : HandPass) (taken : List (List ℕ)) : Type 0 where
    pub of_line : IsPassOf line seat
    pub takes : (view seat).takes ≡ true
    pub ordered : AreOrdered lists taken

-- the end mark was taken, and the taker has all that was
pub record HasTakenAll (seat : HandPass) (taken : List (List ℕ)) : Type 0 where
  pub through : (view seat).through ≡ true
  pub all : (view seat).taken ≡ taken
