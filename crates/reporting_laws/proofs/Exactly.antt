-- The first cause of a client is one that an SDU says exactly where that SDU shows it first.
use Rattle.std.proofs.Common.{◌≡◌, ◌⊎◌, ℕ, Bool, true, false, ◌==◌, List, [], ◌∷◌, ◌++◌, length, Option, Some, None, is_none, Result, Ok, Err, inl, inr, refl, sym, ap, subst, ◌∙◌, if◌then◌else◌}
use Rattle.std.specs.List.{AllByRecursion}
use Rattle.outcome_laws.specs.cause_laws.specs.bt_base.specs.declared.ports.PortFault.{PortFault}
use Rattle.outcome_laws.specs.cause_laws.specs.bt_base.specs.declared.ports.PortFault.TheVariants as fault
use Rattle.outcome_laws.specs.cause_laws.specs.bt_base.specs.declared.settings.Settings.{Settings}
use Rattle.outcome_laws.specs.cause_laws.specs.bt_base.specs.declared.settings.Transport.{Transport}
use Rattle.outcome_laws.specs.cause_laws.specs.bt_base.specs.declared.settings.Transport.TheVariants.{L2cap, Rfcomm}
use Rattle.outcome_laws.specs.cause_laws.specs.push_terms.specs.declared.outcome.Outcome.{Outcome}
use Rattle.outcome_laws.specs.cause_laws.specs.push_terms.specs.declared.outcome.Outcome.TheVariants.{LinkLost, NoService, ShelfFault, Cancelled, PeerClosed}
use Rattle.outcome_laws.specs.cause_laws.specs.rfcomm_model.specs.Hearing.{Up, nothing, opened, bytes, closed, up, hears}
use Rattle.outcome_laws.specs.cause_laws.specs.sdp_client.specs.Hearing.{found_at, after_reply}
use Rattle.outcome_laws.specs.cause_laws.specs.sdp_client.specs.declared.reason.Found.{Found}
use Rattle.outcome_laws.specs.cause_laws.specs.sdp_client.specs.declared.reason.Found.TheVariants as found
use Rattle.outcome_laws.specs.cause_laws.specs.sdp_client.specs.declared.reason.QueryReason.{QueryReason}
use Rattle.outcome_laws.specs.cause_laws.specs.sdp_client.specs.declared.reason.QueryReason.TheVariants.{BadReply, ErrorCode, WrongTransaction, TooLong}
use Rattle.outcome_laws.specs.cause_laws.specs.sdp_elements.specs.declared.target.Target.{Target}
use Rattle.outcome_laws.specs.cause_laws.specs.sdp_elements.specs.Targets.{is_service_psm, is_server_channel}
use Rattle.outcome_laws.specs.cause_laws.specs.push_model.specs.declared.course.Stage.{Stage}
use Rattle.outcome_laws.specs.cause_laws.specs.push_model.specs.declared.course.Stage.TheVariants.{Search, ObjectChannel, Object, ObjectEnd}
use Rattle.outcome_laws.specs.cause_laws.specs.push_model.specs.Causes.{cause_of_link, cause_of_page, cause_of_query, cause_of_mux}
use Rattle.outcome_laws.specs.cause_laws.specs.push_model.specs.Client.{Client, new_client, begins, begun_by, may_cancel}
use Rattle.outcome_laws.specs.cause_laws.specs.push_model.specs.Events as events
use Rattle.outcome_laws.specs.cause_laws.specs.push_model.specs.Events.{search_psm, kept_of, is_linked, is_paging}
use Rattle.outcome_laws.specs.cause_laws.specs.push_model.specs.Laws.{Deed, Hears, Asks, Finishes, Cancels, done}
use Rattle.outcome_laws.specs.cause_laws.specs.push_model.specs.Responding.{is_left}
use Rattle.outcome_laws.specs.cause_laws.specs.push_model.specs.Shown.{way_of, shows, found_shows, sdu_shows, object_shows, outside_shows, up_shows}
use Rattle.outcome_laws.specs.cause_laws.specs.host_laws.specs.Pushing.{Affair, Begins, Does, client_after, client_behind}
use Rattle.outcome_laws.specs.cause_laws.specs.host_laws.proofs.FramesSent.{stays_over}
use Rattle.outcome_laws.specs.cause_laws.specs.host_laws.proofs.GoingAsTold.{first_over}
use Rattle.outcome_laws.specs.cause_laws.specs.Said.{Decision, decision_of}
use Rattle.outcome_laws.specs.cause_laws.proofs.Clients.{never, is_unsaid, any_unsaid, shelf_unsaid, is_responded, Within, within_more, either, more_shown, up_shown, opens_shown, closes_shown, told_shown, lost_shown, timer_shown, asks_within, response_responds, stream_responds, is_shelf, lame_behind}
use Rattle.outcome_laws.specs.cause_laws.proofs.Lacking.{Finds, reply_finds}
use Rattle.outcome_laws.specs.cause_laws.proofs.Profiles.{well_before}
use Rattle.outcome_laws.specs.FirstCause.{begun_cause, caused_by, first_cause}
use Rattle.reporting_laws.specs.Exactly.{BeginsNoPush, IsLacking, LacksWhere, IsHeardFirst}

-- ---- where no service is found

up_responds : (news : Up) (client : Client) → Within is_responded (up_shows news client)
up_responds nothing client = tt
up_responds opened client = tt
up_responds (bytes octets) client = stream_responds (length (client.held ++ octets)) (client.held ++ octets) client
up_responds (closed reason) client = either is_responded (is_left client.contact reason) None (Some (cause_of_mux reason)) tt refl

object_responds : (transport : Transport) (sdu : List ℕ) (client : Client) → Within is_responded (object_shows transport sdu client)
object_responds L2cap sdu client = response_responds sdu client
object_responds Rfcomm sdu client = up_responds (up sdu client.mux) (record client { mux = hears sdu client.mux })

outside_responds : (transport : Transport) → Within is_responded (outside_shows transport)
outside_responds L2cap = refl
outside_responds Rfcomm = tt

not_responded : {X : Type 0} (shown : Option Outcome) → Within is_responded shown → shown ≡ Some NoService → X
not_responded shown within is = never (subst (Within is_responded) is within)

where_true : (test : Bool) (one : Option Outcome) → (if test then one else None) ≡ Some NoService → (test ≡ true) × (one ≡ Some NoService)
where_true true one is = (refl, is)
where_true false one is = cc

no_way : (transport : Transport) (target : Target) → target.l2cap ≡ None → target.rfcomm ≡ None → is_none (way_of transport target) ≡ true
no_way L2cap target one two = ap (λ (way : Option ℕ). is_none (kept_of is_service_psm way)) one
no_way Rfcomm target one two = ap (λ (way : Option ℕ). is_none (kept_of is_server_channel way)) two

query_other : (reason : QueryReason) → cause_of_query reason ≡ Some NoService → ⊥
query_other BadReply is = cc
query_other (ErrorCode code) is = cc
query_other WrongTransaction is = cc
query_other TooLong is = cc

found_lacking : (settings : Settings) (client : Client) (sdu : List ℕ) → client.transport ≡ settings.transport → client.stage ≡ Search → (what : Found) → Finds what (after_reply client.query sdu) → found_shows client.transport what ≡ Some NoService → IsLacking settings client sdu
found_lacking settings client sdu over at found.More so is = cc
found_lacking settings client sdu over at (found.Service target) so is = record {
  searches = at;
  target = target;
  read = so.1;
  none = ap (λ (transport : Transport). is_none (way_of transport target)) (sym over) ∙ (where_true (is_none (way_of client.transport target)) (Some NoService) is).0;
}
found_lacking settings client sdu over at found.NoService so is = let (target, read, one, two) = so.1 in record { searches = at; target = target; read = read; none = no_way settings.transport target one two }
found_lacking settings client sdu over at (found.Refused reason) so is = absurd (query_other reason is)

lacking : (settings : Settings) (client : Client) (psm : ℕ) (sdu : List ℕ) → client.transport ≡ settings.transport → sdu_shows client.stage psm sdu client ≡ Some NoService → IsLacking settings client sdu
lacking settings client psm sdu over = by client.stage refl
  where
    by : (stage : Stage) → client.stage ≡ stage → sdu_shows stage psm sdu client ≡ Some NoService → IsLacking settings client sdu
    by Search at is = found_lacking settings client sdu over at (found_at client.query sdu) (reply_finds client.query sdu) (where_true (psm == search_psm) (found_shows client.transport (found_at client.query sdu)) is).1
    by (ObjectChannel point) at is = not_responded (sdu_shows (ObjectChannel point) psm sdu client) (either is_responded (psm == client.psm) (outside_shows client.transport) None (outside_responds client.transport) tt) is
    by Object at is = not_responded (sdu_shows Object psm sdu client) (either is_responded (psm == client.psm) (object_shows client.transport sdu client) None (object_responds client.transport sdu client) tt) is
    by (ObjectEnd point) at is = not_responded (sdu_shows (ObjectEnd point) psm sdu client) (either is_responded (psm == client.psm) (outside_shows client.transport) None (outside_responds client.transport) tt) is
    by stage at is = cc

lacks_where : (settings : Settings) (outcome : Outcome) (client : Client) (psm : ℕ) (sdu : List ℕ) → client.transport ≡ settings.transport → sdu_shows client.stage psm sdu client ≡ Some outcome → LacksWhere settings outcome client sdu
lacks_where settings NoService client psm sdu over is = lacking settings client psm sdu over is
lacks_where settings outcome client psm sdu over is = tt

-- ---- the first cause of one list behind another

cause_both : (xs ys : List Affair) (client : Client) (earlier : Option Outcome) → first_cause (xs ++ ys) client earlier ≡ first_cause ys (client_behind xs client) (first_cause xs client earlier)
cause_both [] ys client earlier = refl
cause_both (one ∷ xs) ys client earlier = cause_both xs ys (client_after one client) (caused_by one client earlier)

stays : (affairs : List Affair) (client : Client) (outcome : Outcome) → AllByRecursion BeginsNoPush affairs → first_cause affairs client (Some outcome) ≡ Some outcome
stays [] client outcome none = refl
stays (Begins size name ∷ affairs) client outcome none = absurd none.0
stays (Does deed ∷ affairs) client outcome none = stays affairs (done deed client) outcome none.1

link_unsaid : (by_user : Bool) → Within is_unsaid (Some (if by_user then PeerClosed else LinkLost))
link_unsaid true = refl
link_unsaid false = refl

-- ---- what an SDU says

module _ (settings : Settings) (outcome : Outcome) (decision : Decision) (said : decision_of outcome ≡ Some decision) where
  not_unsaid : {X : Type 0} (shown : Option Outcome) → Within is_unsaid shown → shown ≡ Some outcome → X
  not_unsaid shown within is = let unsaid : is_unsaid outcome ≡ true = subst (Within is_unsaid) is within in never (sym (ap is_none said) ∙ unsaid)

  not_shelf : ShelfFault ≡ outcome → ⊥
  not_shelf is = not_unsaid (Some ShelfFault) refl (ap (λ (o : Outcome). Some o) is)

  -- nothing else shows it
  heard_so : (deed : Deed) (client : Client) → shows deed client ≡ Some outcome → (psm : ℕ) × (sdu : List ℕ) × (deed ≡ Hears (events.Sdu psm sdu))
  heard_so (Hears events.LinkUp) client is = not_unsaid (shows (Hears events.LinkUp) client) (more_shown is_unsaid any_unsaid (Hears events.LinkUp) up_shown client) is
  heard_so (Hears (events.LinkDown reason)) client is = not_unsaid (shows (Hears (events.LinkDown reason)) client) (either is_unsaid (is_linked client.stage) (Some (cause_of_link reason)) None (link_unsaid (reason == 0x13)) tt) is
  heard_so (Hears (events.LinkFailed status)) client is = not_unsaid (shows (Hears (events.LinkFailed status)) client) (either is_unsaid (is_paging client.stage) (Some (cause_of_page status)) None refl tt) is
  heard_so (Hears (events.ChannelOpen psm mtu)) client is = not_unsaid (shows (Hears (events.ChannelOpen psm mtu)) client) (more_shown is_unsaid any_unsaid (Hears (events.ChannelOpen psm mtu)) (opens_shown psm mtu) client) is
  heard_so (Hears (events.ChannelClosed psm cause)) client is = not_unsaid (shows (Hears (events.ChannelClosed psm cause)) client) (more_shown is_unsaid any_unsaid (Hears (events.ChannelClosed psm cause)) (closes_shown psm cause) client) is
  heard_so (Hears (events.Sdu psm sdu)) client is = (psm, sdu, refl)
  heard_so (Hears events.FeaturesTold) client is = not_unsaid (shows (Hears events.FeaturesTold) client) (more_shown is_unsaid any_unsaid (Hears events.FeaturesTold) told_shown client) is
  heard_so (Hears events.FeaturesLost) client is = not_unsaid (shows (Hears events.FeaturesLost) client) (more_shown is_unsaid any_unsaid (Hears events.FeaturesLost) lost_shown client) is
  heard_so (Hears events.Timer) client is = not_unsaid (shows (Hears events.Timer) client) (more_shown is_unsaid any_unsaid (Hears events.Timer) timer_shown client) is
  heard_so (Asks parts) client is = not_unsaid (shows (Asks parts) client) (within_more is_shelf is_unsaid shelf_unsaid (shows (Asks parts) client) (asks_within parts client)) is
  heard_so Finishes client is = not_unsaid None tt is
  heard_so Cancels client is = not_unsaid (shows Cancels client) (either is_unsaid (may_cancel client) (Some Cancelled) None refl tt) is

  -- ---- the first thing that shows it

  record IsShownFirst (affairs : List Affair) (client : Client) (earlier : Option Outcome) : Type 0 where
    before : List Affair
    deed : Deed
    after : List Affair
    affairs_are : affairs ≡ before ++ Does deed ∷ after
    none_ahead : first_cause before client earlier ≡ None
    shown : shows deed (client_behind before client) ≡ Some outcome
    none_begun : AllByRecursion BeginsNoPush after

  -- with a begin there is none, where memory is found
  none_begun_so : (size : Result ℕ PortFault) (name : List ℕ) (client : Client) (earlier : Option Outcome) → begun_cause size earlier ≡ Some outcome → (begun_by size name client).failed ≡ false → ⊥
  none_begun_so (Ok size) name client earlier is well = cc
  none_begun_so (Err fault.Failed) name client earlier is well = let same : ShelfFault ≡ outcome = cc in not_shelf same
  none_begun_so (Err fault.NoMemory) name client earlier is well = never (sym well)

  with_begin : (size : Result ℕ PortFault) (name : List ℕ) (rest : List Affair) (client : Client) (earlier : Option Outcome) → (client_behind (Begins size name ∷ rest) client).failed ≡ false → caused_by (Begins size name) client earlier ≡ Some outcome → ⊥
  with_begin size name rest client earlier well is =
      let here : client.failed ≡ false = well_before settings client.failed (client_behind (Begins size name ∷ rest) client).failed (lame_behind (Begins size name ∷ rest) client) well in
      let later : (begins size name client).failed ≡ false = well_before settings (begins size name client).failed (client_behind rest (begins size name client)).failed (lame_behind rest (begins size name client)) well in
      none_begun_so size name client earlier (sym (ap (λ (b : Bool). if b then earlier else begun_cause size earlier) here) ∙ is)
      (sym (ap (λ (b : Bool). (if b then client else begun_by size name client).failed) here) ∙ later)

  with_one : (one : Affair) (rest : List Affair) (client : Client) (earlier : Option Outcome) → (client_behind (one ∷ rest) client).failed ≡ false → caused_by one client earlier ≡ Some outcome → AllByRecursion BeginsNoPush rest
      → ((earlier ≡ Some outcome) × AllByRecursion BeginsNoPush (one ∷ rest)) ⊎ IsShownFirst (one ∷ rest) client earlier
  with_one (Begins size name) rest client earlier well is none = absurd (with_begin size name rest client earlier well is)
  with_one (Does deed) rest client None well is none = inr (record { before = []; deed = deed; after = rest; affairs_are = refl; none_ahead = refl; shown = is; none_begun = none })
  with_one (Does deed) rest client (Some first) well is none = inl (is, (tt, none))

  shown_first : (affairs : List Affair) (client : Client) (earlier : Option Outcome) → (client_behind affairs client).failed ≡ false → first_cause affairs client earlier ≡ Some outcome → ((earlier ≡ Some outcome) × AllByRecursion BeginsNoPush affairs) ⊎ IsShownFirst affairs client earlier
  shown_first [] client earlier well is = inl (is, tt)
  shown_first (one ∷ rest) client earlier well is =
      elim (shown_first rest (client_after one client) (caused_by one client earlier) well is) [
        | inl here ↦ with_one one rest client earlier well here.0 here.1
        | inr there ↦
            inr (record {
              before = one ∷ there.before;
              deed = there.deed;
              after = there.after;
              affairs_are = ap (λ (l : List Affair). one ∷ l) there.affairs_are;
              none_ahead = there.none_ahead;
              shown = there.shown;
              none_begun = there.none_begun;
            })
      ]

  -- ---- exactly there

  by_deed : (affairs : List Affair) → IsShownFirst affairs (new_client settings) None → IsHeardFirst settings outcome affairs
  by_deed affairs so =
      let client = client_behind so.before (new_client settings) in
      let over = stays_over settings.transport so.before (new_client settings) (first_over settings) in
      let (psm, sdu, is) = heard_so so.deed client so.shown in
      let shown : sdu_shows client.stage psm sdu client ≡ Some outcome = subst (λ (deed : Deed). shows deed client ≡ Some outcome) is so.shown in
      record {
        before = so.before;
        psm = psm;
        sdu = sdu;
        after = so.after;
        affairs_are = so.affairs_are ∙ ap (λ (deed : Deed). so.before ++ Does deed ∷ so.after) is;
        none_ahead = so.none_ahead;
        shown = shown;
        lacks = lacks_where settings outcome client psm sdu over.0 shown;
        none_begun = so.none_begun;
      }

  pub heard_first : (affairs : List Affair) → (client_behind affairs (new_client settings)).failed ≡ false → first_cause affairs (new_client settings) None ≡ Some outcome → IsHeardFirst settings outcome affairs
  heard_first affairs well is = elim (shown_first affairs (new_client settings) None well is) [ inl here ↦ (let no : None ≡ Some outcome = here.0 in cc) | inr so ↦ by_deed affairs so ]

  pub first_heard : (affairs : List Affair) → IsHeardFirst settings outcome affairs → first_cause affairs (new_client settings) None ≡ Some outcome
  first_heard affairs so =
      let one = Does (Hears (events.Sdu so.psm so.sdu)) in
      let first = new_client settings in
      let client = client_behind so.before first in
      ap (λ (l : List Affair). first_cause l first None) so.affairs_are
      ∙ (cause_both so.before (one ∷ so.after) first None
      ∙ (ap (λ (cause : Option Outcome). first_cause (one ∷ so.after) client cause) so.none_ahead
      ∙ (ap (λ (cause : Option Outcome). first_cause so.after (client_after one client) cause) so.shown ∙ stays so.after (client_after one client) outcome so.none_begun)))
