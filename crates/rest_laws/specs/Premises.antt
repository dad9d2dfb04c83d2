-- What a world asks of its two machines, so that it comes to rest (this project's own).
use Rattle.std.specs.Prelude.{ℕ, ◌≡◌, false, List, Some}
use Rattle.station_laws.specs.world_model.specs.Machines.{News, Linked, Up, Upper}
use Rattle.station_laws.specs.turn_laws.specs.Premises.{SaysFrames, IsAside, Idles}

-- A client asks for one link in a push: once that came up it asks for none, and it begins to ask only as it begins to push.
pub record AsksOnce {S G : Type 0} (U : Upper S G) : Type 0 where
  pub comes : (answers : List G) (s : S) → U.wants_link (U.hear answers (Linked Up) s) ≡ false
  pub hears : (answers : List G) (news : News) (s : S) → IsAside news → U.wants_link s ≡ false → U.wants_link (U.hear answers news s) ≡ false
  pub says : (s : S) (pdu : List ℕ) (after : S) → U.next s ≡ Some (pdu, after) → U.wants_link s ≡ false → U.wants_link after ≡ false

-- both say PDUs that hosts take, and host a asks for its links as a client does
pub record AreOrderly {S T G H : Type 0} (U : Upper S G) (V : Upper T H) : Type 0 where
  pub frames_a : SaysFrames U
  pub frames_b : SaysFrames V
  pub idles : Idles U
  pub once : AsksOnce U
