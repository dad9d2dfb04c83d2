-- SDUs of the object's channel and of the multiplexer's are SDUs of their PSMs.
use Rattle.std.proofs.Common.{◌≡◌, ℕ, List, [], ◌∷◌, ◌++◌, refl, ap₂}
use Rattle.std.specs.List.{flat_map}
use Rattle.pair_laws.specs.push_model.specs.Events as events
use Rattle.pair_laws.specs.push_model.specs.Laws as push
use Rattle.pair_laws.specs.push_model.specs.Laws.{Deed, Hears}
use Rattle.pair_laws.specs.push_model.specs.Server.{object_psm, rfcomm_psm}
use Rattle.pair_laws.specs.push_laws.specs.Carriage as muxed
use Rattle.pair_laws.specs.push_laws.specs.Occurrences.{Occurrence, Came, Went, Closed, LinkDown, Asked, Answering}
use Rattle.pair_laws.specs.push_laws.specs.Parties as direct
use Rattle.request_laws.specs.Streams.{come_on, gone_on, told_on, heard_on}

-- ---- of the object

pub come_one : (one : Occurrence) → direct.come_by one ≡ come_on object_psm one
come_one (Came psm sdu) = refl
come_one (Went psm sdu) = refl
come_one (Closed psm) = refl
come_one LinkDown = refl
come_one Asked = refl
come_one (Answering answers) = refl

pub come_is : (occurrences : List Occurrence) → flat_map direct.come_by occurrences ≡ flat_map (come_on object_psm) occurrences
come_is [] = refl
come_is (one ∷ rest) = ap₂ (λ (a b : List (List ℕ)). a ++ b) (come_one one) (come_is rest)

pub gone_one : (one : Occurrence) → direct.gone_by one ≡ gone_on object_psm one
gone_one (Came psm sdu) = refl
gone_one (Went psm sdu) = refl
gone_one (Closed psm) = refl
gone_one LinkDown = refl
gone_one Asked = refl
gone_one (Answering answers) = refl

pub gone_is : (occurrences : List Occurrence) → flat_map direct.gone_by occurrences ≡ flat_map (gone_on object_psm) occurrences
gone_is [] = refl
gone_is (one ∷ rest) = ap₂ (λ (a b : List (List ℕ)). a ++ b) (gone_one one) (gone_is rest)

heard_told : (heard : events.News) → direct.told_by heard ≡ told_on object_psm heard
heard_told events.LinkUp = refl
heard_told (events.LinkDown reason) = refl
heard_told (events.LinkFailed status) = refl
heard_told (events.ChannelOpen psm mtu) = refl
heard_told (events.ChannelClosed psm cause) = refl
heard_told (events.Sdu psm octets) = refl
heard_told events.FeaturesTold = refl
heard_told events.FeaturesLost = refl
heard_told events.Timer = refl

pub heard_one : (deed : Deed) → direct.heard_by deed ≡ heard_on object_psm deed
heard_one (Hears heard) = heard_told heard
heard_one (push.Asks parts) = refl
heard_one push.Finishes = refl
heard_one push.Cancels = refl

pub heard_is : (deeds : List Deed) → flat_map direct.heard_by deeds ≡ flat_map (heard_on object_psm) deeds
heard_is [] = refl
heard_is (one ∷ rest) = ap₂ (λ (a b : List (List ℕ)). a ++ b) (heard_one one) (heard_is rest)

-- ---- of the multiplexer

pub mux_come_one : (one : Occurrence) → muxed.come_by one ≡ come_on rfcomm_psm one
mux_come_one (Came psm sdu) = refl
mux_come_one (Went psm sdu) = refl
mux_come_one (Closed psm) = refl
mux_come_one LinkDown = refl
mux_come_one Asked = refl
mux_come_one (Answering answers) = refl

pub mux_come_is : (occurrences : List Occurrence) → flat_map muxed.come_by occurrences ≡ flat_map (come_on rfcomm_psm) occurrences
mux_come_is [] = refl
mux_come_is (one ∷ rest) = ap₂ (λ (a b : List (List ℕ)). a ++ b) (mux_come_one one) (mux_come_is rest)

pub mux_gone_one : (one : Occurrence) → muxed.gone_by one ≡ gone_on rfcomm_psm one
mux_gone_one (Came psm sdu) = refl
mux_gone_one (Went psm sdu) = refl
mux_gone_one (Closed psm) = refl
mux_gone_one LinkDown = refl
mux_gone_one Asked = refl
mux_gone_one (Answering answers) = refl

pub mux_gone_is : (occurrences : List Occurrence) → flat_map muxed.gone_by occurrences ≡ flat_map (gone_on rfcomm_psm) occurrences
mux_gone_is [] = refl
mux_gone_is (one ∷ rest) = ap₂ (λ (a b : List (List ℕ)). a ++ b) (mux_gone_one one) (mux_gone_is rest)

mux_heard_told : (heard : events.News) → muxed.told_by heard ≡ told_on rfcomm_psm heard
mux_heard_told events.LinkUp = refl
mux_heard_told (events.LinkDown reason) = refl
mux_heard_told (events.LinkFailed status) = refl
mux_heard_told (events.ChannelOpen psm mtu) = refl
mux_heard_told (events.ChannelClosed psm cause) = refl
mux_heard_told (events.Sdu psm octets) = refl
mux_heard_told events.FeaturesTold = refl
mux_heard_told events.FeaturesLost = refl
mux_heard_told events.Timer = refl

pub mux_heard_one : (deed : Deed) → muxed.heard_by deed ≡ heard_on rfcomm_psm deed
mux_heard_one (Hears heard) = mux_heard_told heard
mux_heard_one (push.Asks parts) = refl
mux_heard_one push.Finishes = refl
mux_heard_one push.Cancels = refl

pub mux_heard_is : (deeds : List Deed) → flat_map muxed.heard_by deeds ≡ flat_map (heard_on rfcomm_psm) deeds
mux_heard_is [] = refl
mux_heard_is (one ∷ rest) = ap₂ (λ (a b : List (List ℕ)). a ++ b) (mux_heard_one one) (mux_heard_is rest)
