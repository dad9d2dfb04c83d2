-- What the packets spell which came to a server on one link, read off what moved there.
use Rattle.std.proofs.Common.{◌≡◌, inl, inr, ◌⊎◌, ℕ, Bool, true, false, cond, eqb, List, [], ◌∷◌, ◌++◌, Option, refl, sym, ap, ap₂, subst, ◌∙◌, append-nil}
use Rattle.std.specs.List.{AllByRecursion}
use Rattle.request_laws.specs.bt_base.specs.declared.settings.Settings.{Settings}
use Rattle.request_laws.specs.bt_base.specs.declared.settings.Transport.TheVariants.{L2cap}
use Rattle.request_laws.specs.bt_base.specs.Objects.{Object, Contents}
use Rattle.request_laws.specs.push_terms.specs.declared.word.Side.TheVariants as sides
use Rattle.request_laws.specs.link_talk.specs.declared.party.Party.{Party}
use Rattle.request_laws.specs.link_talk.specs.ObjectsHeard.{objects}
use Rattle.request_laws.specs.link_talk.specs.Sayings.{Saying}
use Rattle.request_laws.specs.channel_model.specs.Policies.{Policy, policy}
use Rattle.request_laws.specs.channel_model.specs.Value.{no_channels}
use Rattle.request_laws.specs.channel_model.specs.declared.event.ChannelEvent.{ChannelEvent}
use Rattle.request_laws.specs.channel_model.specs.declared.event.ChannelEvent.TheVariants as events
use Rattle.request_laws.specs.channel_laws.specs.Runs as channels
use Rattle.request_laws.specs.channel_laws.specs.Runs.{run_of}
use Rattle.request_laws.specs.push_model.specs.Server.{object_psm, rfcomm_psm}
use Rattle.request_laws.specs.push_laws.specs.Occurrences.{Occurrence, Came, Went, Closed, LinkDown, Asked, Answering}
use Rattle.request_laws.specs.push_laws.specs.Parties.{sdu_if}
use Rattle.request_laws.specs.world_model.specs.Talks.{Talk}
use Rattle.request_laws.specs.host_model.specs.Profiles.{Profile}
use Rattle.request_laws.specs.host_model.specs.Servers.{ServerProfile, server_profile}
use Rattle.request_laws.specs.host_laws.specs.Calls.{Asks}
use Rattle.request_laws.specs.host_laws.specs.Carriers.{reader}
use Rattle.request_laws.specs.host_laws.specs.Fed.{WovenFed}
use Rattle.request_laws.specs.capture.specs.Histories.{EachAfter}
use Rattle.request_laws.specs.host_laws.specs.Feeds.{Feed, Tiding, Brings, Tells, Turns, tidings_of, tidings_from}
use Rattle.request_laws.specs.host_laws.specs.Gaining.{IsNoSdu}
use Rattle.request_laws.specs.host_laws.specs.GainingOver.{IsNoPdu, CarriesOne}
use Rattle.request_laws.specs.host_laws.specs.Keeping.{GivesNothingUp}
use Rattle.request_laws.specs.host_laws.specs.OverLinks.{moved_in, IsTalkOf}
use Rattle.request_laws.specs.host_laws.specs.Seen.{spoken_of}
use Rattle.request_laws.specs.host_laws.specs.Serving.{served_from}
use Rattle.request_laws.specs.host_laws.specs.Spoken.{IsServed}
use Rattle.request_laws.specs.host_laws.specs.Told.{told_on}
use Rattle.request_laws.specs.host_laws.proofs.Asking.{hosts_ask}
use Rattle.request_laws.specs.host_laws.proofs.Gaining.{all_served, NoTurn, no_turns, feeds_same, link_gain, event_still}
use Rattle.request_laws.specs.host_laws.proofs.GainingOver.{none_told}
use Rattle.request_laws.specs.host_laws.proofs.Gains.{state, gain, states, gain-both, gain-still, gain-over}
use Rattle.request_laws.specs.host_laws.proofs.Spoken.{objects-move}
use Rattle.orderly_laws.specs.unit_laws.specs.scenario_laws.proofs.Wishes.{states_frame}
use Rattle.request_laws.specs.BothFed.{ComesNone}
use Rattle.request_laws.proofs.Behind.{weave_told}
use Rattle.request_laws.proofs.Feeding.{all_both}
use Rattle.request_laws.proofs.ServerTakes.{none-said}
use Rattle.request_laws.proofs.Timely.{HearsNothing}
use Rattle.orderly_laws.proofs.Linking.{no_pdus}
use Rattle.behind_laws.specs.following_laws.specs.Following.{ObjectsFollow, FollowsOthers, ClosesBehind, object_sdus_told}
use Rattle.behind_laws.specs.following_laws.proofs.Following.{link-spells}
use Rattle.behind_laws.specs.following_laws.proofs.Links.{out_behind}

-- ---- where no SDU comes nothing is gained

state_none : (one : Occurrence) → ComesNone one → (packets : List (List ℕ)) → (state packets one ≡ packets) ⊎ (state packets one ≡ [])
state_none (Came psm sdu) none packets = by (eqb psm object_psm) (none object_psm)
  where
    by : (here : Bool) → sdu_if here sdu ≡ [] → (cond here (packets ++ sdu ∷ []) packets ≡ packets) ⊎ (cond here (packets ++ sdu ∷ []) packets ≡ [])
    by true is = absurd cc
    by false is = inl refl
state_none (Went psm sdu) none packets = inl refl
state_none (Closed psm) none packets = by (eqb psm object_psm)
  where
    by : (here : Bool) → (cond here [] packets ≡ packets) ⊎ (cond here [] packets ≡ [])
    by true = inr refl
    by false = inl refl
state_none LinkDown none packets = inr refl
state_none Asked none packets = inl refl
state_none (Answering answers) none packets = inl refl

tail_gain : (most : ℕ) (tail : List Occurrence) (packets : List (List ℕ)) → AllByRecursion ComesNone tail → gain most packets tail ≡ []
tail_gain most [] packets none = refl
tail_gain most (one ∷ tail) packets none =
    elim (state_none one none.0 packets) [
      | inl same ↦ gain-still most packets one tail same ∙ tail_gain most tail packets none.1
      | inr over ↦ gain-over most packets one tail over ∙ tail_gain most tail [] none.1
    ]

ahead_gain : (most : ℕ) (ahead rest : List Occurrence) → AllByRecursion ComesNone ahead → gain most [] (ahead ++ rest) ≡ gain most [] rest
ahead_gain most [] rest none = refl
ahead_gain most (one ∷ ahead) rest none =
    elim (state_none one none.0 []) [
      | inl same ↦ gain-still most [] one (ahead ++ rest) same ∙ ahead_gain most ahead rest none.1
      | inr over ↦ gain-over most [] one (ahead ++ rest) over ∙ ahead_gain most ahead rest none.1
    ]

bare_gain : (most : ℕ) (tidings : List Tiding) → AllByRecursion IsNoSdu tidings → AllByRecursion NoTurn tidings → gain most [] (all_served tidings) ≡ []
bare_gain most [] bare still = refl
bare_gain most (Brings own psm sdu ∷ rest) bare still = absurd bare.0
bare_gain most (Tells event ∷ rest) bare still = event_still most event (all_served rest) ∙ bare_gain most rest bare.1 still.1
bare_gain most (Turns event ∷ rest) bare still = absurd still.0

-- and each channel that is closed is behind the others
none_objects : (own : ℕ) (past : List Tiding) → AllByRecursion IsNoSdu past → object_sdus_told own past ≡ []
none_objects own [] bare = refl
none_objects own (Brings other psm sdu ∷ past) bare = absurd bare.0
none_objects own (Tells event ∷ past) bare = none_objects own past bare.1
none_objects own (Turns event ∷ past) bare = none_objects own past bare.1

bare_closes : (past : List Tiding) → AllByRecursion IsNoSdu past → (event : ChannelEvent) → ClosesBehind past event
bare_closes past none (events.Opened own psm) = tt
bare_closes past none (events.Closed own psm reason) = λ is other differs. inl (none_objects other past none)
bare_closes past none (events.Features features) = tt
bare_closes past none events.FeaturesLost = tt
bare_closes past none (events.DisconnectLost own) = tt

bare_one : (past : List Tiding) → AllByRecursion IsNoSdu past → (one : Tiding) → IsNoSdu one → FollowsOthers past one
bare_one past none (Brings own psm sdu) bare = absurd bare
bare_one past none (Tells event) bare = bare_closes past none event
bare_one past none (Turns event) bare = tt

bare_after : (past rest : List Tiding) → AllByRecursion IsNoSdu past → AllByRecursion IsNoSdu rest → EachAfter FollowsOthers past rest
bare_after past [] none bare = tt
bare_after past (one ∷ rest) none bare = (bare_one past none one bare.0, bare_after (past ++ one ∷ []) rest (all_both IsNoSdu past (one ∷ []) none (bare.0, tt)) bare.1)

pub bare_follows : (settings : Settings) (list : List channels.Occurrence) → AllByRecursion IsNoPdu list → EachAfter FollowsOthers [] (told_on (policy settings true) list)
bare_follows settings list bare = bare_after [] (told_on (policy settings true) list) tt (none_told (policy settings true) no_channels list bare)

pub none_first : (xs ys : List Saying) → [] ≡ xs ++ ys → xs ≡ []
none_first [] ys is = refl
none_first (x ∷ xs) ys is = absurd cc

module _ (settings : Settings) (content : Option Contents) where
  abbrev P : Policy
  P = policy settings true

  abbrev B : Profile ServerProfile
  B = server_profile settings content

  abbrev asks : Asks (server_profile settings content)
  asks = hosts_ask.servers settings content

  abbrev party : Party
  party = reader settings settings.mps L2cap

  -- while no PDU comes in nothing is said
  pub bare_said : (list : List channels.Occurrence) (feeds : List Feed) (first last : ServerProfile) → WovenFed (server_profile settings content) (hosts_ask.servers settings content) list feeds first last → first.endpoints ≡ [] → AllByRecursion IsNoPdu list
      → (run_of (policy settings true) list).said ≡ []
  bare_said list feeds first last so none bare = ap (λ (l : List channels.Occurrence). (run_of P l).said) so.woven.list_is ∙ none-said rfcomm_psm settings content so.woven.weave first none (subst (AllByRecursion IsNoPdu) so.woven.list_is bare)

  pub deaf_said : (list : List channels.Occurrence) (feeds : List Feed) (first last : ServerProfile) → WovenFed (server_profile settings content) (hosts_ask.servers settings content) list feeds first last → first.endpoints ≡ [] → AllByRecursion HearsNothing list
      → (run_of (policy settings true) list).said ≡ []
  deaf_said list feeds first last so none deaf = bare_said list feeds first last so none (no_pdus list deaf)

  -- so nothing moved
  pub none_moved : (list : List channels.Occurrence) (part : List Talk) → IsTalkOf (policy settings true) list part → (run_of (policy settings true) list).said ≡ [] → moved_in part ≡ []
  none_moved list part is nothing = none_first (moved_in part) is.waits (sym (ap spoken_of nothing) ∙ is.talk_is)

  -- ---- a link over L2CAP

  module _ (list : List channels.Occurrence) (feeds : List Feed) (mid last : ServerProfile) (so : WovenFed (server_profile settings content) (hosts_ask.servers settings content) list feeds mid last) where
    told_is : tidings_of feeds ≡ told_on P list
    told_is = ap tidings_of so.feeds_are ∙ (weave_told B asks so.woven.weave no_channels mid so.woven.on_link ∙ ap (tidings_from P no_channels) (sym so.woven.list_is))

    told_gain : CarriesOne P list → (run_of P list).value.events ≡ [] → mid.endpoints ≡ [] → gain party.packet [] (all_served (told_on P list)) ≡ objects party (run_of P list).said
    told_gain (inl bare) told none =
        bare_gain party.packet (told_on P list) (none_told P no_channels list bare) (no_turns P no_channels list) ∙ sym (ap (objects party) (bare_said list feeds mid last so none bare))
    told_gain (inr one) told none = link_gain P party (states_frame settings true sides.B) list one told

    link_read : (between tail : List Occurrence) (part : List Talk) → AllByRecursion ComesNone between → AllByRecursion ComesNone tail → gain party.packet [] (all_served (told_on P list)) ≡ objects party (moved_in part)
        → gain party.packet [] (between ++ (served_from settings content mid feeds ++ tail)) ≡ objects party (moved_in part)
    link_read between tail part ahead behind spells =
        let most = party.packet in
        let here = served_from settings content mid feeds in
        ahead_gain most between (here ++ tail) ahead
        ∙ (gain-both most [] here tail
        ∙ (ap₂ (λ (a b : List Object). a ++ b) ((feeds_same settings content mid feeds).gain_is most [] ∙ (ap (λ (l : List Tiding). gain most [] (all_served l)) told_is ∙ spells)) (tail_gain most tail (states [] here) behind)
        ∙ append-nil (objects party (moved_in part))))

    -- one channel carries packets
    pub direct_read : (between tail : List Occurrence) (part : List Talk) → AllByRecursion ComesNone between → AllByRecursion ComesNone tail → CarriesOne (policy settings true) list → (run_of (policy settings true) list).value.events ≡ [] → mid.endpoints ≡ []
        → IsTalkOf (policy settings true) list part → IsServed (moved_in part) → gain (reader settings settings.mps L2cap).packet [] (between ++ (served_from settings content mid feeds ++ tail)) ≡ objects (reader settings settings.mps L2cap) (moved_in part)
    direct_read between tail part ahead behind carries told none is served =
        link_read between tail part ahead behind (told_gain carries told none ∙ objects-move party (run_of P list).said (moved_in part) is.waits is.talk_is is.go_out served)

    -- channels of objects come one behind the other
    pub turn_read : (between tail : List Occurrence) (part : List Talk) → AllByRecursion ComesNone between → AllByRecursion ComesNone tail → ObjectsFollow (policy settings true) list → (run_of (policy settings true) list).value.events ≡ [] → GivesNothingUp (policy settings true) list
        → IsTalkOf (policy settings true) list part → gain (reader settings settings.mps L2cap).packet [] (between ++ (served_from settings content mid feeds ++ tail)) ≡ objects (reader settings settings.mps L2cap) (moved_in part)
    turn_read between tail part ahead behind follow told gives is =
        link_read between tail part ahead behind
        (sym (link-spells P party (states_frame settings true sides.B) list follow told) ∙ (ap (objects party) (sym gives ∙ is.talk_is) ∙ out_behind party (moved_in part) is.waits is.go_out))
