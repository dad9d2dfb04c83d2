-- Nothing comes on the one channel of a PSM behind its end: what a server is told is what its channels tell.
use Rattle.std.proofs.Common.{◌≡◌, ℕ, ◌==◌, Bool, true, false, cond, eqb, ◌&&◌, List, [], ◌∷◌, ◌++◌, Option, Some, None, inl, inr, refl, sym, ap, ap₂, subst, ◌∙◌}
use Rattle.std.specs.Prelude.{map, slice_get, option_to_list}
use Rattle.std.specs.List.{AllByRecursion, flat_map, cons_option}
use Rattle.std.proofs.lemmas.Bool.{eqb-true, eq-eqb}
use Rattle.std.proofs.lemmas.List.Concat.{flat_map-append}
use Rattle.pair_laws.specs.acl_fragments.specs.Pieces.{channel_of}
use Rattle.pair_laws.specs.bt_base.specs.declared.settings.Settings.{Settings}
use Rattle.pair_laws.specs.bt_base.specs.Objects.{Contents}
use Rattle.pair_laws.specs.link_talk.specs.declared.channel.Channel.{Channel}
use Rattle.pair_laws.specs.link_talk.specs.Channels.{Entry, reading}
use Rattle.pair_laws.specs.channel_model.specs.declared.event.ChannelEvent.{ChannelEvent}
use Rattle.pair_laws.specs.channel_model.specs.declared.event.ChannelEvent.TheVariants as events
use Rattle.pair_laws.specs.channel_model.specs.Hearing.{up}
use Rattle.pair_laws.specs.channel_model.specs.Policies.{Policy, policy}
use Rattle.pair_laws.specs.channel_model.specs.Value.{Channels, no_channels}
use Rattle.pair_laws.specs.channel_laws.specs.Closings.{IsClosingRead}
use Rattle.pair_laws.specs.channel_laws.specs.Endpoints.{IsOf}
use Rattle.pair_laws.specs.channel_laws.specs.Runs.{Occurrence, run_of}
use Rattle.pair_laws.specs.channel_laws.specs.Singly.{AsksForNoChannel}
use Rattle.pair_laws.specs.channel_laws.specs.Views.{channel_by, read_at}
use Rattle.pair_laws.specs.channel_laws.proofs.Shutting.{closings-are_read}
use Rattle.pair_laws.specs.push_model.specs.Server.{Lent, lends, lent_sdu, object_psm}
use Rattle.pair_laws.specs.push_laws.specs.Occurrences as push
use Rattle.pair_laws.specs.push_laws.specs.Parties.{sdu_if}
use Rattle.pair_laws.specs.push_laws.specs.Readings.{closes}
use Rattle.pair_laws.specs.world_model.specs.Machines.{Linked, Up, Down, Failed, Heard, TimerFired, Cancelled, Opening}
use Rattle.pair_laws.specs.host_model.specs.Endpoints.{endpoint_of, takes_sdu}
use Rattle.pair_laws.specs.host_model.specs.Pdus.{sdu_of}
use Rattle.pair_laws.specs.host_model.specs.Profiles.{Profile}
use Rattle.pair_laws.specs.host_model.specs.Servers.{ServerProfile, is_told, server_profile}
use Rattle.pair_laws.specs.host_laws.specs.Calls.{Call, Connect, AskFeatures, Disconnect, Send, Asks, from_call, values_after}
use Rattle.pair_laws.specs.host_laws.specs.Fed.{next_happening, strand_feeds, woven_feeds}
use Rattle.pair_laws.specs.host_laws.specs.Feeds.{Feed, Gifts, Learns, Receives, Happens, Sent, Steps, fed, Tiding, Brings, Tells, Turns, tidings_in, tidings_of, tidings_from}
use Rattle.pair_laws.specs.host_laws.specs.Gaining.{IsNoSdu}
use Rattle.pair_laws.specs.host_laws.specs.GainingOver.{CarriesOne}
use Rattle.pair_laws.specs.host_laws.specs.Serving.{event_served, taken_by, lent_by, served_from}
use Rattle.pair_laws.specs.host_laws.specs.InOrder.{AsksNoChannels}
use Rattle.pair_laws.specs.host_laws.specs.Told.{IsOfChannel, events_told, sdus_told, told_on}
use Rattle.pair_laws.specs.host_laws.specs.Woven.{Strand, Hearing, Giving, Firing, Telling, Gifting, Learning, Checking, Stepping, IsOnLink, strand_list, strand_profile, woven_list, Woven}
use Rattle.pair_laws.specs.host_laws.proofs.Gaining.{NoTurn, Fits, Ends, no_turns, all_fit, all_end}
use Rattle.pair_laws.specs.host_laws.proofs.GainingOver.{none_told as none_comes_in}
use Rattle.pair_laws.specs.host_laws.proofs.Growing.{tidings-append, told_up, none_told}
use Rattle.pair_laws.specs.host_laws.proofs.Silence.{ends-are_last, channels-are_named}
use Rattle.pair_laws.specs.host_laws.proofs.Telling.{events_run}
use Rattle.request_laws.specs.Behind.{NothingComesBehind}
use Rattle.request_laws.specs.BothFed.{ComesNone}
use Rattle.request_laws.specs.Carried.{NoneComesBehind}
use Rattle.pair_laws.specs.host_laws.specs.OneOnLinks.{CarriesOneOn}
use Rattle.request_laws.specs.Streams.{come_on}
use Rattle.request_laws.specs.Twists.{NoneBehind}
use Rattle.request_laws.proofs.Feeding.{all_both, event_shape, lent_shape}
use Rattle.request_laws.proofs.HandedUp.{none_flat}
use Rattle.request_laws.proofs.OnPsm.{come_is}
use Rattle.request_laws.proofs.Sole.{CarriesPackets, for_of, sole}

-- ---- a server is told what its channels tell

next_told : (list : List ChannelEvent) (v : Channels) → (let none : List Tiding = [] in tidings_of (next_happening list v) ≡ (none ++ map Tells (option_to_list (slice_get list 0))) ++ [])
next_told [] v = refl
next_told (event ∷ list) v = refl

module _ {P : Type 0} (A : Profile P) (asks : Asks A) where
  strand_told : (strand : Strand) (v : Channels) (p : P) → IsOnLink strand → tidings_of (strand_feeds strand v) ≡ tidings_from A.policy v (strand_list A asks strand v p)
  strand_told (Hearing pdu) v p on = told_up A asks (Unit {0}) (up (channel_of pdu) pdu v)
  strand_told (Giving pdu) v p on = refl
  strand_told Firing v p on = refl
  strand_told Telling v p on = next_told v.events v
  strand_told (Gifting circumstances) v p on = refl
  strand_told (Learning circumstances news) v p on = ap (λ (l : List Tiding). l ++ []) on
  strand_told Checking v p on = refl
  strand_told Stepping v p on = none_told A asks (Unit {0}) (asks.call v p) v

  pub weave_told : (weave : List Strand) (v : Channels) (p : P) → AllByRecursion IsOnLink weave → tidings_of (woven_feeds A asks weave v p) ≡ tidings_from A.policy v (woven_list A asks weave v p)
  weave_told [] v p on = refl
  weave_told (strand ∷ weave) v p on =
      let here = strand_list A asks strand v p in
      let w = values_after A.policy v here in
      let q = strand_profile A strand v p in
      flat_map-append tidings_in (strand_feeds strand v) (woven_feeds A asks weave w q)
      ∙ (ap₂ (λ (a b : List Tiding). a ++ b) (strand_told strand v p on.0) (weave_told weave w q on.1) ∙ sym (tidings-append A.policy v here (woven_list A asks weave w q)))

-- ---- what comes on the channels of a PSM

-- an SDU of the PSM is one of this channel, and of the PSM this one alone is told to be closed
abbrev pub FitsOn : (carrier : ℕ) → Channel → Tiding → Type 0
FitsOn carrier channel (Brings own psm sdu) = eqb psm carrier ≡ eqb own channel.own
FitsOn carrier channel (Tells (events.Opened own psm)) = Unit {0}
FitsOn carrier channel (Tells (events.Closed own psm reason)) = psm ≡ carrier → own ≡ channel.own
FitsOn carrier channel (Tells (events.Features features)) = Unit {0}
FitsOn carrier channel (Tells events.FeaturesLost) = Unit {0}
FitsOn carrier channel (Tells (events.DisconnectLost own)) = Unit {0}
FitsOn carrier channel (Turns event) = ⊥

abbrev brought : (carrier : ℕ) → Tiding → List (List ℕ)
brought carrier (Brings own psm sdu) = sdu_if (psm == carrier) sdu
brought carrier (Tells event) = []
brought carrier (Turns event) = []

abbrev all_brought : (carrier : ℕ) → List Tiding → List (List ℕ)
all_brought carrier tidings = flat_map (brought carrier) tidings

quiet_ahead : (carrier : ℕ) (xs ys : List push.Occurrence) → AllByRecursion ComesNone xs → flat_map (come_on carrier) (xs ++ ys) ≡ flat_map (come_on carrier) ys
quiet_ahead carrier xs ys quiet = flat_map-append (come_on carrier) xs ys ∙ ap (λ (l : List (List ℕ)). l ++ flat_map (come_on carrier) ys) (none_flat carrier xs quiet)

none_brought : (carrier : ℕ) (tidings : List Tiding) → AllByRecursion IsNoSdu tidings → all_brought carrier tidings ≡ []
none_brought carrier [] none = refl
none_brought carrier (Brings own psm sdu ∷ tidings) none = absurd none.0
none_brought carrier (Tells event ∷ tidings) none = none_brought carrier tidings none.1
none_brought carrier (Turns event ∷ tidings) none = none_brought carrier tidings none.1

told_if : (one two : Bool) (sdu : List ℕ) (rest : List (List ℕ)) → one ≡ two → sdu_if one sdu ++ rest ≡ cons_option (cond two (Some sdu) None) rest
told_if true true sdu rest same = refl
told_if false false sdu rest same = refl
told_if true false sdu rest same = cc
told_if false true sdu rest same = cc

-- where one channel carries packets, its SDUs come
brought_told : (carrier : ℕ) (channel : Channel) (tidings : List Tiding) → AllByRecursion (FitsOn carrier channel) tidings → all_brought carrier tidings ≡ sdus_told channel.own tidings
brought_told carrier channel [] fits = refl
brought_told carrier channel (Brings own psm sdu ∷ tidings) fits =
    told_if (eqb psm carrier) (eqb own channel.own) sdu (all_brought carrier tidings) fits.0 ∙ ap (λ (l : List (List ℕ)). cons_option (cond (eqb own channel.own) (Some sdu) None) l) (brought_told carrier channel tidings fits.1)
brought_told carrier channel (Tells event ∷ tidings) fits = brought_told carrier channel tidings fits.1
brought_told carrier channel (Turns event ∷ tidings) fits = absurd fits.0

module _ (carrier : ℕ) (settings : Settings) (content : Option Contents) where
  abbrev served : ServerProfile → List Feed → List push.Occurrence
  served p feeds = served_from settings content p feeds

  abbrev next : ServerProfile → Feed → ServerProfile
  next p feed = fed (server_profile settings content) p feed

  pub come_brought : (feeds : List Feed) (p : ServerProfile) → flat_map (come_on carrier) (served p feeds) ≡ all_brought carrier (tidings_of feeds)
  come_brought [] p = refl
  come_brought (Gifts circumstances ∷ feeds) p = come_brought feeds (next p (Gifts circumstances))
  come_brought (Learns circumstances (Linked Up) ∷ feeds) p = come_brought feeds (next p (Learns circumstances (Linked Up)))
  come_brought (Learns circumstances (Linked (Down reason)) ∷ feeds) p = come_brought feeds (next p (Learns circumstances (Linked (Down reason))))
  come_brought (Learns circumstances (Failed status) ∷ feeds) p = come_brought feeds (next p (Learns circumstances (Failed status)))
  come_brought (Learns circumstances (Heard pdu) ∷ feeds) p = come_brought feeds (next p (Learns circumstances (Heard pdu)))
  come_brought (Learns circumstances TimerFired ∷ feeds) p = come_brought feeds (next p (Learns circumstances TimerFired))
  come_brought (Learns circumstances Cancelled ∷ feeds) p = come_brought feeds (next p (Learns circumstances Cancelled))
  come_brought (Learns circumstances (Opening name) ∷ feeds) p = come_brought feeds (next p (Learns circumstances (Opening name)))
  come_brought (Receives own psm sdu ∷ feeds) p = ap (λ (l : List (List ℕ)). sdu_if (psm == carrier) sdu ++ l) (come_brought feeds (next p (Receives own psm sdu)))
  come_brought (Happens event v ∷ feeds) p = quiet_ahead carrier (event_served event) (served (next p (Happens event v)) feeds) (event_shape event) ∙ come_brought feeds (next p (Happens event v))
  come_brought (Sent v ∷ feeds) p = come_brought feeds (next p (Sent v))
  come_brought (Steps v ∷ feeds) p =
      let lent = lent_sdu (lends p.server) in
      quiet_ahead carrier (lent_by lent v p) (served (next p (Steps v)) feeds) (lent_shape lent v p) ∙ come_brought feeds (next p (Steps v))

  -- ---- behind an end

  -- what ends no channel
  abbrev Opens : push.Occurrence → Type 0
  Opens one = closes carrier one ≡ false

  ahead_behind : (xs ys : List push.Occurrence) → AllByRecursion Opens xs → NoneComesBehind carrier ys → NoneComesBehind carrier (xs ++ ys)
  ahead_behind [] ys opens behind = behind
  ahead_behind (x ∷ xs) ys opens behind = ((λ is. let never : true ≡ false = sym is ∙ opens.0 in cc), ahead_behind xs ys opens.1 behind)

  taken_opens : (own : Option ℕ) (lent : Lent) (v : Channels) → AllByRecursion Opens (taken_by own lent v)
  taken_opens None lent v = tt
  taken_opens (Some own) lent v = by (takes_sdu own (sdu_of lent.payload) v)
    where
      by : (taken : Bool) → AllByRecursion Opens (cond taken (push.Went lent.psm (sdu_of lent.payload) ∷ []) [])
      by true = (refl, tt)
      by false = tt

  lent_opens : (lent : Option Lent) (v : Channels) (p : ServerProfile) → AllByRecursion Opens (lent_by lent v p)
  lent_opens None v p = tt
  lent_opens (Some lent) v p = taken_opens (endpoint_of lent.psm p.endpoints) lent v

  quiet_behind : (xs : List push.Occurrence) → flat_map (come_on carrier) xs ≡ [] → NoneComesBehind carrier xs
  quiet_behind [] quiet = tt
  quiet_behind (x ∷ xs) quiet = let rest = behind_none (come_on carrier x) (flat_map (come_on carrier) xs) quiet in ((λ is. rest), quiet_behind xs rest)
    where
      behind_none : (ahead rest : List (List ℕ)) → ahead ++ rest ≡ [] → rest ≡ []
      behind_none [] rest none = none
      behind_none (one ∷ ahead) rest none = cc

  closed_behind : (told : Bool) (psm : ℕ) (later : List push.Occurrence) → ((psm == carrier) ≡ true → flat_map (come_on carrier) later ≡ []) → NoneComesBehind carrier later → NoneComesBehind carrier (cond told (push.Closed psm ∷ []) [] ++ later)
  closed_behind true psm later none behind = (none, behind)
  closed_behind false psm later none behind = behind

  none_behind : (channel : Channel) (feeds : List Feed) (p : ServerProfile) → AllByRecursion (FitsOn carrier channel) (tidings_of feeds) → Ends channel.own (tidings_of feeds) → NoneComesBehind carrier (served p feeds)
  none_behind channel [] p fits ends = tt
  none_behind channel (Gifts circumstances ∷ feeds) p fits ends = ((λ is. cc), none_behind channel feeds (next p (Gifts circumstances)) fits ends)
  none_behind channel (Learns circumstances (Linked event) ∷ feeds) p fits ends = absurd fits.0
  none_behind channel (Learns circumstances (Failed status) ∷ feeds) p fits ends = none_behind channel feeds (next p (Learns circumstances (Failed status))) fits ends
  none_behind channel (Learns circumstances (Heard pdu) ∷ feeds) p fits ends = none_behind channel feeds (next p (Learns circumstances (Heard pdu))) fits ends
  none_behind channel (Learns circumstances TimerFired ∷ feeds) p fits ends = none_behind channel feeds (next p (Learns circumstances TimerFired)) fits ends
  none_behind channel (Learns circumstances Cancelled ∷ feeds) p fits ends = none_behind channel feeds (next p (Learns circumstances Cancelled)) fits ends
  none_behind channel (Learns circumstances (Opening name) ∷ feeds) p fits ends = none_behind channel feeds (next p (Learns circumstances (Opening name))) fits ends
  none_behind channel (Receives own psm sdu ∷ feeds) p fits ends = ((λ is. cc), none_behind channel feeds (next p (Receives own psm sdu)) fits.1 ends)
  none_behind channel (Happens (events.Opened own psm) v ∷ feeds) p fits ends = none_behind channel feeds (next p (Happens (events.Opened own psm) v)) fits.1 ends.1
  none_behind channel (Happens (events.Closed own psm reason) v ∷ feeds) p fits ends =
      let after = next p (Happens (events.Closed own psm reason) v) in
      closed_behind (is_told reason) psm (served after feeds)
      (λ is. come_brought feeds after ∙ (brought_told carrier channel (tidings_of feeds) fits.1 ∙ ends.0 (ap (λ b. b && true) (eq-eqb own channel.own (fits.0 (eqb-true psm carrier is))))))
      (none_behind channel feeds after fits.1 ends.1)
  none_behind channel (Happens (events.Features features) v ∷ feeds) p fits ends = none_behind channel feeds (next p (Happens (events.Features features) v)) fits.1 ends.1
  none_behind channel (Happens events.FeaturesLost v ∷ feeds) p fits ends = none_behind channel feeds (next p (Happens events.FeaturesLost v)) fits.1 ends.1
  none_behind channel (Happens (events.DisconnectLost own) v ∷ feeds) p fits ends = none_behind channel feeds (next p (Happens (events.DisconnectLost own) v)) fits.1 ends.1
  none_behind channel (Sent v ∷ feeds) p fits ends = none_behind channel feeds (next p (Sent v)) fits ends
  none_behind channel (Steps v ∷ feeds) p fits ends =
      let lent = lent_sdu (lends p.server) in ((λ is. cc), ahead_behind (lent_by lent v p) (served (next p (Steps v)) feeds) (lent_opens lent v p) (none_behind channel feeds (next p (Steps v)) fits ends))

-- ---- of the object

fits_so : (channel : Channel) (tidings : List Tiding) → AllByRecursion (Fits channel) tidings → AllByRecursion (FitsOn object_psm channel) tidings
fits_so channel [] fits = tt
fits_so channel (Brings own psm sdu ∷ tidings) fits = (by (eqb own channel.own) refl, fits_so channel tidings fits.1)
  where
    by : (here : Bool) → eqb own channel.own ≡ here → eqb psm object_psm ≡ eqb own channel.own
    by true is = eq-eqb psm object_psm (fits.0.0 is) ∙ sym is
    by false is = fits.0.1 is ∙ sym is
fits_so channel (Tells (events.Opened own psm) ∷ tidings) fits = (tt, fits_so channel tidings fits.1)
fits_so channel (Tells (events.Closed own psm reason) ∷ tidings) fits = (fits.0, fits_so channel tidings fits.1)
fits_so channel (Tells (events.Features features) ∷ tidings) fits = (tt, fits_so channel tidings fits.1)
fits_so channel (Tells events.FeaturesLost ∷ tidings) fits = (tt, fits_so channel tidings fits.1)
fits_so channel (Tells (events.DisconnectLost own) ∷ tidings) fits = (tt, fits_so channel tidings fits.1)
fits_so channel (Turns event ∷ tidings) fits = absurd fits.0

behind_so : (list : List push.Occurrence) → NoneComesBehind object_psm list → NoneBehind list
behind_so [] behind = tt
behind_so (one ∷ rest) behind = (λ closed. come_is rest ∙ behind.0 closed, behind_so rest behind.1)

pub nothing_comes_behind : NothingComesBehind
nothing_comes_behind settings content asks list first last so carries = by carries
  where
    told_is : tidings_of (woven_feeds (server_profile settings content) asks so.weave no_channels first) ≡ told_on (policy settings true) list
    told_is = weave_told (server_profile settings content) asks so.weave no_channels first so.on_link ∙ ap (tidings_from (policy settings true) no_channels) (sym so.list_is)

    by : CarriesOne (policy settings true) list → NoneBehind (served_from settings content first (woven_feeds (server_profile settings content) asks so.weave no_channels first))
    by (inl bare) =
        let feeds = woven_feeds (server_profile settings content) asks so.weave no_channels first in
        let none = none_brought object_psm (told_on (policy settings true) list) (none_comes_in (policy settings true) no_channels list bare) in
        behind_so (served_from settings content first feeds) (quiet_behind object_psm settings content (served_from settings content first feeds) (come_brought object_psm settings content feeds first ∙ (ap (all_brought object_psm) told_is ∙ none)))
    by (inr one) =
        let wanted = policy settings true in
        let feeds = woven_feeds (server_profile settings content) asks so.weave no_channels first in
        let told = told_on wanted list in
        let fits = all_fit one.channel (reading (run_of wanted list).said).entries told one.psm_is one.alone (channels-are_named wanted list) one.closings (no_turns wanted no_channels list) in
        let ends = all_end one.channel.own told [] told refl (λ front after is closed. ends-are_last wanted list one.channel.own front after is closed) in
        behind_so (served_from settings content first feeds) (none_behind object_psm settings content one.channel feeds first (subst (AllByRecursion (FitsOn object_psm one.channel)) (sym told_is) (fits_so one.channel told fits)) (subst (Ends one.channel.own) (sym told_is) ends))

-- ---- of the multiplexer, where the host asks for no channel

module _ (carrier : ℕ) (policy : Policy) (list : List Occurrence) (carries : CarriesPackets carrier) (one : CarriesOneOn carrier policy list) where
  abbrev entries : List Entry
  entries = (reading (run_of policy list).said).entries

  agrees : (own psm peer : ℕ) → IsOf (channel_by psm own peer) (read_at own (reading (run_of policy list).said).entries) → eqb psm carrier ≡ eqb own one.channel.own
  agrees own psm peer is = (sole carrier one.channel (channel_by psm own peer) carries one.psm_is (for_of one.channel (channel_by psm own peer) (run_of policy list).said own one.alone is)).agrees

  closing : (event : ChannelEvent) → IsClosingRead (reading (run_of policy list).said).entries event → FitsOn carrier one.channel (Tells event)
  closing (events.Opened own psm) read = tt
  closing (events.Closed own psm reason) (peer, is) = λ at. eqb-true own one.channel.own (sym (agrees own psm peer is) ∙ eq-eqb psm carrier at)
  closing (events.Features features) read = tt
  closing events.FeaturesLost read = tt
  closing (events.DisconnectLost own) read = tt

  all_on : (tidings : List Tiding) → AllByRecursion (IsOfChannel (reading (run_of policy list).said).entries) tidings → AllByRecursion (IsClosingRead (reading (run_of policy list).said).entries) (events_told tidings) → AllByRecursion NoTurn tidings
      → AllByRecursion (FitsOn carrier one.channel) tidings
  all_on [] named closings still = tt
  all_on (Brings own psm sdu ∷ rest) named closings still = (agrees own psm named.0.0 named.0.1, all_on rest named.1 closings still.1)
  all_on (Tells event ∷ rest) named closings still = (closing event closings.0, all_on rest named.1 closings.1 still.1)
  all_on (Turns event ∷ rest) named closings still = absurd still.0

  fits_all : AllByRecursion AsksForNoChannel list → AllByRecursion (FitsOn carrier one.channel) (told_on policy list)
  fits_all none =
      all_on (told_on policy list) (channels-are_named policy list) (subst (AllByRecursion (IsClosingRead (reading (run_of policy list).said).entries)) (events_run policy list) (closings-are_read policy list none)) (no_turns policy no_channels list)

-- ---- a server asks for no channel

called_none : (call : Option Call) → ((psm : ℕ) → call ≡ Some (Connect psm) → ⊥) → AllByRecursion AsksForNoChannel (from_call call)
called_none None never = tt
called_none (Some (Connect psm)) never = absurd (never psm refl)
called_none (Some AskFeatures) never = (tt, tt)
called_none (Some (Disconnect own)) never = (tt, tt)
called_none (Some (Send own sdu)) never = (tt, tt)

module _ {P : Type 0} (A : Profile P) (asks : Asks A) (nothing : AsksNoChannels A asks) where
  strand_none : (strand : Strand) (v : Channels) (p : P) → AllByRecursion AsksForNoChannel (strand_list A asks strand v p)
  strand_none (Hearing pdu) v p = (tt, tt)
  strand_none (Giving pdu) v p = (tt, tt)
  strand_none Firing v p = (tt, tt)
  strand_none Telling v p = (tt, tt)
  strand_none (Gifting circumstances) v p = tt
  strand_none (Learning circumstances news) v p = tt
  strand_none Checking v p = tt
  strand_none Stepping v p = called_none (asks.call v p) (λ psm is. nothing v p psm is)

  weave_none : (weave : List Strand) (v : Channels) (p : P) → AllByRecursion AsksForNoChannel (woven_list A asks weave v p)
  weave_none [] v p = tt
  weave_none (strand ∷ weave) v p =
      let here = strand_list A asks strand v p in
      all_both AsksForNoChannel here (woven_list A asks weave (values_after A.policy v here) (strand_profile A strand v p)) (strand_none strand v p) (weave_none weave (values_after A.policy v here) (strand_profile A strand v p))

-- so nothing comes to it behind the end of its multiplexer's channel, where that alone carries packets
pub muxes_end_last : (carrier : ℕ) (settings : Settings) (content : Option Contents) (asks : Asks (server_profile settings content)) (list : List Occurrence) (first last : ServerProfile) (so : Woven (server_profile settings content) asks list first last) → CarriesPackets carrier → AsksNoChannels (server_profile settings content) asks
    → CarriesOneOn carrier (policy settings true) list → NoneComesBehind carrier (served_from settings content first (woven_feeds (server_profile settings content) asks so.weave no_channels first))
muxes_end_last carrier settings content asks list first last so carries nothing one =
    let wanted = policy settings true in
    let B = server_profile settings content in
    let feeds = woven_feeds B asks so.weave no_channels first in
    let told = told_on wanted list in
    let told_is : tidings_of feeds ≡ told = weave_told B asks so.weave no_channels first so.on_link ∙ ap (tidings_from wanted no_channels) (sym so.list_is) in
    let none : AllByRecursion AsksForNoChannel list = subst (AllByRecursion AsksForNoChannel) (sym so.list_is) (weave_none B asks nothing so.weave no_channels first) in
    let fits = fits_all carrier wanted list carries one none in
    let ends = all_end one.channel.own told [] told refl (λ front after is closed. ends-are_last wanted list one.channel.own front after is closed) in
    none_behind carrier settings content one.channel feeds first (subst (AllByRecursion (FitsOn carrier one.channel)) (sym told_is) fits) (subst (Ends one.channel.own) (sym told_is) ends)
