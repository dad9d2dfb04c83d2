-- A client over RFCOMM pays for what it sends from its beginning on: also before its channel has opened, whatever comes there until then.
use Rattle.std.proofs.Common.{◌≡◌, ◌<◌, ℕ, ◌*◌, true, List, [], ◌∷◌, ◌++◌, map, Ok, Err, refl, sym, ap, ap₂, subst, ◌∙◌, append-nil, append_assoc}
use Rattle.std.specs.List.{AllByRecursion, flat_map}
use Rattle.std.proofs.lemmas.List.{map-append}
use Rattle.inbox_laws.specs.bt_base.specs.declared.settings.Transport.{Transport}
use Rattle.inbox_laws.specs.bt_base.specs.declared.settings.Transport.TheVariants.{Rfcomm}
use Rattle.inbox_laws.specs.rfcomm_frames.specs.declared.connection.Role.TheVariants.{Initiator, Responder}
use Rattle.inbox_laws.specs.rfcomm_frames.specs.Answers.{Answer}
use Rattle.inbox_laws.specs.rfcomm_frames.specs.Frames.{PlainFrame}
use Rattle.inbox_laws.specs.rfcomm_frames.specs.FrameReading.{frame_answer}
use Rattle.inbox_laws.specs.rfcomm_frames.specs.Multiplexing.{Framed}
use Rattle.inbox_laws.specs.rfcomm_model.specs.Machine.{Mux, new_mux}
use Rattle.inbox_laws.specs.rfcomm_model.specs.Sides.{heard_frame}
use Rattle.inbox_laws.specs.push_model.specs.Client.{Client}
use Rattle.inbox_laws.specs.push_model.specs.Events as events
use Rattle.inbox_laws.specs.push_model.specs.Laws.{Deed, done, all_done}
use Rattle.inbox_laws.specs.push_model.specs.Responding.{is_object}
use Rattle.inbox_laws.specs.push_laws.specs.Carriage.{frames_by, heard_by}
use Rattle.inbox_laws.specs.push_laws.proofs.Early.{IsEarly, IsOpened, Begun, Early, Opened, early_deed, early_frames}
use Rattle.inbox_laws.specs.push_laws.proofs.Late.{IsLate}
use Rattle.inbox_laws.specs.push_laws.proofs.Opening.{Walk, Stands, psm_over, course_of, behind_deed, deed_stands, opened_at}
use Rattle.request_laws.specs.Carried.{frames_over}
use Rattle.request_laws.proofs.Feeding.{all_both}
use Rattle.credit_laws.specs.Clients.{own_frame, framed_by, all_framed}
use Rattle.credit_laws.proofs.Aside.{PaysOn, new_on, IsPeers, peers_paid}
use Rattle.credit_laws.proofs.Clients.{State, deed_state}
use Rattle.credit_laws.proofs.Paying.{Paid}

-- it has sent nothing, wherever it stands on its way to its channel; or its channel has opened
pub record Before (client : Client) (fs : List Framed) : Type 0 where
  pub mux : Mux
  pub walk : Walk
  pub role : mux.role ≡ Initiator
  pub muxed : walk.transport ≡ Rfcomm
  pub early : IsEarly mux Rfcomm client
  pub stands : Stands walk client
  pub peers : AllByRecursion IsPeers fs

pub data Course (d : ℕ) (client : Client) (fs : List Framed) : Type 0 where
  Ahead : Before client fs → Course d client fs
  Goes : State d client fs → Course d client fs

pub course_paid : (d : ℕ) (client : Client) (fs : List Framed) → Course d client fs → Paid d Initiator fs
course_paid d client fs (Ahead before) = peers_paid d fs before.peers
course_paid d client fs (Goes state) = state.paid

pub course_muxed : (d : ℕ) (client : Client) (fs : List Framed) → Course d client fs → client.transport ≡ Rfcomm
course_muxed d client fs (Ahead before) = before.early.2
course_muxed d client fs (Goes state) = state.muxed

-- ---- one thing that happens to it

answer_peers : (a : Answer) → AllByRecursion IsPeers (heard_frame Responder a)
answer_peers (Ok f) = (refl, tt)
answer_peers (Err refusal) = tt

sdus_peers : (sdus : List (List ℕ)) → AllByRecursion IsPeers (flat_map (λ sdu. heard_frame Responder (frame_answer sdu)) sdus)
sdus_peers [] = tt
sdus_peers (sdu ∷ rest) = all_both IsPeers (heard_frame Responder (frame_answer sdu)) (flat_map (λ x. heard_frame Responder (frame_answer x)) rest) (answer_peers (frame_answer sdu)) (sdus_peers rest)

opens_state : (d : ℕ) (mux : Mux) (walk : Walk) (client : Client) (fs : List Framed) → mux.role ≡ Initiator → walk.transport ≡ Rfcomm → IsOpened mux Rfcomm client → Stands walk client → AllByRecursion IsPeers fs → State d client fs
opens_state d mux walk client fs role muxed opened stands peers =
    let works : is_object client.stage ≡ true = ap is_object opened.here in
    let names = (opened_at walk client.stage (course_of client) works stands).names in
    let new : PaysOn d (new_mux mux.role (2 * client.channel) mux.largest (events.own_frame mux.largest opened.mtu) mux.account.cap) fs =
    subst (λ r. PaysOn d (new_mux r (2 * client.channel) mux.largest (events.own_frame mux.largest opened.mtu) mux.account.cap) fs) (sym role) (new_on d (2 * client.channel) mux.largest (events.own_frame mux.largest opened.mtu) mux.account.cap fs peers) in
    record {
      late = subst IsLate (sym opened.here) tt;
      muxed = opened.same;
      psm_is = names.psm_is ∙ ap (λ (t : Transport). psm_over t names.number) muxed;
      open_pays = λ here. subst (λ (m : Mux). PaysOn d m fs) (sym opened.mux_is) new;
      paid = peers_paid d fs peers;
    }

before_deed : (d : ℕ) (deed : Deed) (client : Client) (fs : List Framed) (before : Before client fs) → Begun before.mux (done deed client) → Course d (done deed client) (fs ++ framed_by deed client)
before_deed d deed client fs before begun = by begun
  where
    walk : Walk
    walk = behind_deed before.walk deed client

    stands : Stands (behind_deed before.walk deed client) (done deed client)
    stands = deed_stands before.walk deed client before.stands

    new : AllByRecursion IsPeers (framed_by deed client)
    new =
        subst (λ (l : List PlainFrame). AllByRecursion IsPeers (flat_map (λ sdu. heard_frame Responder (frame_answer sdu)) (heard_by deed) ++ map own_frame l)) (sym (early_frames before.mux deed client before.early))
        (subst (AllByRecursion IsPeers) (sym (append-nil (flat_map (λ sdu. heard_frame Responder (frame_answer sdu)) (heard_by deed)))) (sdus_peers (heard_by deed)))

    peers : AllByRecursion IsPeers (fs ++ framed_by deed client)
    peers = all_both IsPeers fs (framed_by deed client) before.peers new

    by : Begun before.mux (done deed client) → Course d (done deed client) (fs ++ framed_by deed client)
    by (Early early) = Ahead (record { mux = before.mux; walk = walk; role = before.role; muxed = before.muxed; early = early; stands = stands; peers = peers })
    by (Opened opened) = Goes (opens_state d before.mux walk (done deed client) (fs ++ framed_by deed client) before.role before.muxed opened stands peers)

course_deed : (d : ℕ) (deed : Deed) (client : Client) (fs : List Framed) → 0 < d → Course d client fs → Course d (done deed client) (fs ++ framed_by deed client)
course_deed d deed client fs some (Ahead before) = before_deed d deed client fs before (early_deed before.mux deed client before.early)
course_deed d deed client fs some (Goes state) = Goes (deed_state d deed client fs some state)

pub course_deeds : (d : ℕ) (deeds : List Deed) (client : Client) (fs : List Framed) → 0 < d → Course d client fs → Course d (all_done deeds client) (fs ++ all_framed deeds client)
course_deeds d [] client fs some course = subst (Course d client) (sym (append-nil fs)) course
course_deeds d (deed ∷ deeds) client fs some course =
    subst (Course d (all_done deeds (done deed client))) (append_assoc fs (framed_by deed client) (all_framed deeds (done deed client)))
    (course_deeds d deeds (done deed client) (fs ++ framed_by deed client) some (course_deed d deed client fs some course))

-- where it hears nothing on its channel, what passes is what it asks to send
pub quiet_framed : (deeds : List Deed) (client : Client) → flat_map heard_by deeds ≡ [] → all_framed deeds client ≡ map own_frame (frames_over deeds client)
quiet_framed [] client none = refl
quiet_framed (deed ∷ deeds) client none =
    ap₂ (λ (a b : List Framed). a ++ b) (ap (λ (l : List (List ℕ)). flat_map (λ sdu. heard_frame Responder (frame_answer sdu)) l ++ map own_frame (frames_by deed client)) (none_first (heard_by deed) (flat_map heard_by deeds) none))
    (quiet_framed deeds (done deed client) (none_later (heard_by deed) (flat_map heard_by deeds) none))
    ∙ sym (map-append own_frame (frames_by deed client) (frames_over deeds (done deed client)))
  where
    none_first : (xs ys : List (List ℕ)) → xs ++ ys ≡ [] → xs ≡ []
    none_first [] ys is = refl
    none_first (x ∷ xs) ys is = cc

    none_later : (xs ys : List (List ℕ)) → xs ++ ys ≡ [] → ys ≡ []
    none_later [] ys is = is
    none_later (x ∷ xs) ys is = cc
