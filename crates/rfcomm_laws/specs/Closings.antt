-- Two sides that may be told to close at any moment, one or both, also while the channel opens.
use Rattle.std.specs.Prelude.{List}
use Rattle.rfcomm_model.specs.ClosedSides.{IsOrderly}
use Rattle.rfcomm_laws.specs.Pairs.{Pair, Terms, new_pair, IsFront}
use Rattle.rfcomm_laws.specs.Happenings.{Happening, all_happen}

-- neither side refused the other, and what came is a front of what went, both ways
pub record ClosesInOrder (p : Pair) : Type 0 where
  pub initiator_orderly : IsOrderly p.initiator.mux.closed
  pub responder_orderly : IsOrderly p.responder.mux.closed
  pub forth : IsFront p.responder.got p.initiator.put
  pub back : IsFront p.initiator.got p.responder.put

abbrev pub ClosingsAreOrderly : Type 0
ClosingsAreOrderly = (t : Terms) (hs : List Happening) → ClosesInOrder (all_happen hs (new_pair t))
