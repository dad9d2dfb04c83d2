-- What a list of occurrences gains, with the packets since the last closing.
use Rattle.std.proofs.Common.{◌≡◌, ℕ, zero, suc, List, [], ◌∷◌, ◌++◌, length, drop, map, fold, Bool, true, false, cond, eqb, Some, None, refl, sym, ap, ap₂, ◌∙◌, append_assoc, append-nil}
use Rattle.std.specs.List.{AllByRecursion, cons_option}
use Rattle.std.proofs.lemmas.Bool.{eqb-true}
use Rattle.std.proofs.lemmas.List.{map-append}
use Rattle.shelf_model.specs.bt_base.specs.declared.settings.Settings.{Settings}
use Rattle.shelf_model.specs.bt_base.specs.declared.settings.Transport.TheVariants.{L2cap, Rfcomm}
use Rattle.shelf_model.specs.bt_base.specs.Objects.{Object}
use Rattle.shelf_model.specs.capture.specs.Histories.{each_after}
use Rattle.shelf_model.specs.rfcomm_frames.specs.ObexPackets.{obex_packets}
use Rattle.shelf_model.specs.rfcomm_frames.specs.UserChannel.{user_octets}
use Rattle.shelf_model.specs.rfcomm_frames.specs.Multiplexing.{Passed}
use Rattle.shelf_model.specs.rfcomm_frames.specs.declared.connection.Role.{Role}
use Rattle.shelf_model.specs.rfcomm_frames.specs.declared.connection.Role.TheVariants.{Initiator, Responder}
use Rattle.shelf_model.specs.obex_headers.specs.Runs.{objects_from}
use Rattle.shelf_model.specs.obex_session.proofs.PastLaws.{objects-more}
use Rattle.push_laws.specs.link_talk.specs.Gains.{beyond, gained}
use Rattle.push_laws.specs.link_talk.specs.ObjectsHeard.{put_within, spelled_within}
use Rattle.push_laws.specs.push_model.specs.Client.{own_maximum}
use Rattle.push_laws.specs.push_model.specs.Server.{object_psm, rfcomm_psm}
use Rattle.push_laws.specs.Occurrences.{Occurrence, Came, Went, Closed, LinkDown, Asked, Answering}
use Rattle.push_laws.specs.Readings.{came_on, passing, passed_by, user_dlci, packets_over}
use Rattle.push_laws.specs.Gains.{objects_over, objects_with, objects}
use Rattle.push_laws.proofs.Readings.{read, read_more, read_same, read_closed, drop_front, drop_same}
use Rattle.host_laws.specs.Gaining.{IsDirect}

-- ---- packets over L2CAP

abbrev pub state : List (List ℕ) → Occurrence → List (List ℕ)
state packets (Came psm sdu) = cond (eqb psm object_psm) (packets ++ sdu ∷ []) packets
state packets (Went psm sdu) = packets
state packets (Closed psm) = cond (eqb psm object_psm) [] packets
state packets LinkDown = []
state packets Asked = packets
state packets (Answering answers) = packets

pub state_is : (past : List Occurrence) (one : Occurrence) → packets_over L2cap (past ++ one ∷ []) ≡ state (packets_over L2cap past) one
state_is past (Came psm sdu) = read_more (came_on object_psm) object_psm past (Came psm sdu) refl ∙ by (eqb psm object_psm)
  where
    by : (here : Bool) → packets_over L2cap past ++ cons_option (cond here (Some sdu) None) [] ≡ cond here (packets_over L2cap past ++ sdu ∷ []) (packets_over L2cap past)
    by true = refl
    by false = append-nil (packets_over L2cap past)
state_is past (Went psm sdu) = read_same (came_on object_psm) object_psm past (Went psm sdu) refl refl
state_is past (Closed psm) = by (eqb psm object_psm) refl
  where
    by : (here : Bool) → eqb psm object_psm ≡ here → packets_over L2cap (past ++ Closed psm ∷ []) ≡ cond here [] (packets_over L2cap past)
    by true is = read_closed (came_on object_psm) object_psm past (Closed psm) is
    by false is = read_same (came_on object_psm) object_psm past (Closed psm) is refl
state_is past LinkDown = read_closed (came_on object_psm) object_psm past LinkDown refl
state_is past Asked = read_same (came_on object_psm) object_psm past Asked refl refl
state_is past (Answering answers) = read_same (came_on object_psm) object_psm past (Answering answers) refl refl

-- ---- what is gained

abbrev pub gain : ℕ → List (List ℕ) → List Occurrence → List Object
gain most packets [] = []
gain most packets (one ∷ rest) = beyond (spelled_within most packets) (spelled_within most (state packets one)) ++ gain most (state packets one) rest

abbrev pub states : List (List ℕ) → List Occurrence → List (List ℕ)
states packets list = fold state packets list

pub gain-both : (most : ℕ) (packets : List (List ℕ)) (xs ys : List Occurrence) → gain most packets (xs ++ ys) ≡ gain most packets xs ++ gain most (states packets xs) ys
gain-both most packets [] ys = refl
gain-both most packets (x ∷ xs) ys =
    let new = beyond (spelled_within most packets) (spelled_within most (state packets x)) in
    ap (λ (rest : List Object). new ++ rest) (gain-both most (state packets x) xs ys) ∙ sym (append_assoc new (gain most (state packets x) xs) (gain most (states packets (x ∷ xs)) ys))

-- where the packets stay nothing is gained
pub gain-still : (most : ℕ) (packets : List (List ℕ)) (one : Occurrence) (rest : List Occurrence) → state packets one ≡ packets → gain most packets (one ∷ rest) ≡ gain most packets rest
gain-still most packets one rest same =
    ap (λ (now : List (List ℕ)). beyond (spelled_within most packets) (spelled_within most now) ++ gain most now rest) same ∙ ap (λ (new : List Object). new ++ gain most packets rest) (drop_same (spelled_within most packets))

drop_none : {X : Type 0} (n : ℕ) → drop {A = X} n [] ≡ []
drop_none zero = refl
drop_none (suc n) = refl

-- where they are forgotten neither
pub gain-over : (most : ℕ) (packets : List (List ℕ)) (one : Occurrence) (rest : List Occurrence) → state packets one ≡ [] → gain most packets (one ∷ rest) ≡ gain most [] rest
gain-over most packets one rest none =
    ap (λ (now : List (List ℕ)). beyond (spelled_within most packets) (spelled_within most now) ++ gain most now rest) none ∙ ap (λ (new : List Object). new ++ gain most [] rest) (drop_none (length (spelled_within most packets)))

-- a packet more
pub spelled-more : (most : ℕ) (packets : List (List ℕ)) (packet : List ℕ)
    → spelled_within most packets ++ beyond (spelled_within most packets) (spelled_within most (packets ++ packet ∷ [])) ≡ spelled_within most (packets ++ packet ∷ [])
spelled-more most packets packet =
    let puts = map (put_within most) packets in
    let grown = ap (λ ps. objects_from [] ps) (map-append (put_within most) packets (packet ∷ [])) ∙ objects-more [] puts (put_within most packet) in
    ap (λ (now : List Object). spelled_within most packets ++ beyond (spelled_within most packets) now) grown
    ∙ (ap (λ (rest : List Object). spelled_within most packets ++ rest) (drop_front (spelled_within most packets) _) ∙ sym grown)

-- ---- nothing over RFCOMM

abbrev passed : List Occurrence → List Passed
passed past = read passed_by rfcomm_psm past

none_passing : (psm : ℕ) (role : Role) (sdu : List ℕ) → (psm ≡ 0x0003 → ⊥) → passing psm role sdu ≡ None
none_passing psm role sdu other = by (eqb psm rfcomm_psm) refl
  where
    by : (here : Bool) → eqb psm rfcomm_psm ≡ here → cond here (let one : Passed = record { from = role; sdu = sdu } in Some one) None ≡ None
    by true is = absurd (other (eqb-true psm rfcomm_psm is))
    by false is = refl

passed_more : (past : List Occurrence) (one : Occurrence) → IsDirect one → passed past ≡ [] → passed (past ++ one ∷ []) ≡ []
passed_more past (Came psm sdu) direct none = read_same passed_by rfcomm_psm past (Came psm sdu) refl (none_passing psm Initiator sdu direct) ∙ none
passed_more past (Went psm sdu) direct none = read_same passed_by rfcomm_psm past (Went psm sdu) refl (none_passing psm Responder sdu direct) ∙ none
passed_more past (Closed psm) direct none = by (eqb psm rfcomm_psm) refl
  where
    by : (here : Bool) → eqb psm rfcomm_psm ≡ here → passed (past ++ Closed psm ∷ []) ≡ []
    by true is = read_closed passed_by rfcomm_psm past (Closed psm) is
    by false is = read_same passed_by rfcomm_psm past (Closed psm) is refl ∙ none
passed_more past LinkDown direct none = read_closed passed_by rfcomm_psm past LinkDown refl
passed_more past Asked direct none = read_same passed_by rfcomm_psm past Asked refl refl ∙ none
passed_more past (Answering answers) direct none = read_same passed_by rfcomm_psm past (Answering answers) refl refl ∙ none

muxed_none : (settings : Settings) (past : List Occurrence) (one : Occurrence) → IsDirect one → passed past ≡ [] → gained (objects_over settings Rfcomm) past one ≡ []
muxed_none settings past one direct none =
    let of : List Passed → List Object = λ list. spelled_within (own_maximum Rfcomm settings) (obex_packets (user_octets user_dlci Responder Initiator list)) in
    ap₂ (λ (a b : List Passed). beyond (of a) (of b)) none (passed_more past one direct none) ∙ drop_same (of [])

-- ---- all of it

gains_after : (settings : Settings) (past list : List Occurrence) → AllByRecursion IsDirect list → passed past ≡ [] → each_after (objects_with settings) past list ≡ gain (own_maximum L2cap settings) (packets_over L2cap past) list
gains_after settings past [] direct none = refl
gains_after settings past (one ∷ list) (now, direct) none =
    let most = own_maximum L2cap settings in
    let next = past ++ one ∷ [] in
    let old = spelled_within most (packets_over L2cap past) in
    ap₂ (λ (a b : List Object). a ++ b)
    (ap (λ (rest : List Object). gained (objects_over settings L2cap) past one ++ rest) (muxed_none settings past one now none)
    ∙ (append-nil (gained (objects_over settings L2cap) past one) ∙ ap (λ packets. beyond old (spelled_within most packets)) (state_is past one)))
    (gains_after settings next list direct (passed_more past one now none) ∙ ap (λ packets. gain most packets list) (state_is past one))

pub objects-are_gained : (settings : Settings) (list : List Occurrence) → AllByRecursion IsDirect list → objects settings list ≡ gain (own_maximum L2cap settings) [] list
objects-are_gained settings list direct = gains_after settings [] list direct refl
