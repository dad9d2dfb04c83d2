-- What a law asks of a machine, where it asks more than that it says less and less.
use Rattle.std.specs.Prelude.{ℕ, ◌≡◌, ◌≤◌, true, false, List, length, Some}
use Rattle.world_model.specs.acl_fragments.specs.Laws.{IsPdu}
use Rattle.world_model.specs.Machines.{News, Opening, Upper}
use Rattle.world_model.specs.Stations.{longest_pdu}

-- a PDU that says its own length, and that hosts take
pub record IsFrame (frame : List ℕ) : Type 0 where
  pub pdu : IsPdu frame
  pub short : length frame ≤ longest_pdu

-- it says such PDUs alone
abbrev pub SaysFrames : {S G : Type 0} → Upper S G → Type 0
SaysFrames {S} U = (s : S) (pdu : List ℕ) (after : S) → U.next s ≡ Some (pdu, after) → IsFrame pdu

abbrev pub IsAside : News → Type 0
IsAside (Opening name) = ⊥
IsAside news = Unit {0}

-- an idle client asks for no link, and is idle until it is to push
pub record Idles {S G : Type 0} (U : Upper S G) : Type 0 where
  pub first : U.is_idle U.first ≡ true
  pub wants_none : (s : S) → U.is_idle s ≡ true → U.wants_link s ≡ false
  pub hears : (answers : List G) (news : News) (s : S) → IsAside news → U.is_idle s ≡ true → U.is_idle (U.hear answers news s) ≡ true
  pub says : (s : S) (pdu : List ℕ) (after : S) → U.next s ≡ Some (pdu, after) → U.is_idle s ≡ true → U.is_idle after ≡ true
