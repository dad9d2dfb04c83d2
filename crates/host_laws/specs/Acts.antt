-- What a host hears and says on a link, in the order in which it does (this project's own).
use Rattle.std.specs.Prelude.{ℕ, ◌≡◌, List, [], ◌∷◌, Some}
use Rattle.std.specs.List.{flat_map}
use Rattle.shelf_model.specs.world_model.specs.Machines.{News, Linked, Failed, Heard, TimerFired, Cancelled, Opening, Upper}
use Rattle.channel_laws.specs.Runs.{Occurrence, Comes, Gives, Fires}

-- `G` is what the host is given with the news that it hears
pub data Act (G : Type 0) : Type 0 where
  -- it hears news; it says its next PDU
  Hears : (gifts : List G) (news : News) → Act G
  Says : (pdu : List ℕ) → Act G

abbrev pub Does : {S G : Type 0} → Upper S G → Act G → (old new : S) → Type 0
Does U (Hears gifts news) old new = new ≡ U.hear gifts news old
Does U (Says pdu) old new = U.next old ≡ Some (pdu, new)

-- one act after the other
abbrev pub Acting : {S G : Type 0} → Upper S G → List (Act G) → (old new : S) → Type 0
Acting U [] old new = new ≡ old
Acting {S} U (act ∷ acts) old new = (mid : S) × Does U act old mid × Acting U acts mid new

-- ---- a link

-- its link stays as it is
abbrev pub StaysOnLink : {G : Type 0} → Act G → Type 0
StaysOnLink (Hears gifts (Linked event)) = ⊥
StaysOnLink (Hears gifts news) = Unit {0}
StaysOnLink (Says pdu) = Unit {0}

-- what an act is for the channels of its link: a PDU comes in, the timer fires, the next PDU is given
abbrev pub from_news : News → List Occurrence
from_news (Linked event) = []
from_news (Failed status) = []
from_news (Heard pdu) = Comes pdu ∷ []
from_news TimerFired = Fires ∷ []
from_news Cancelled = []
from_news (Opening name) = []

abbrev pub from_act : {G : Type 0} → Act G → List Occurrence
from_act (Hears gifts news) = from_news news
from_act (Says pdu) = Gives pdu ∷ []

abbrev pub from_acts : {G : Type 0} → List (Act G) → List Occurrence
from_acts acts = flat_map from_act acts
