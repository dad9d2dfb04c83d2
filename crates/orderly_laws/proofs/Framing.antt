-- Over all links of a server each frame comes in order, where that is so of what moved on each of them.
use Rattle.std.proofs.Common.{◌≡◌, ℕ, Bool, true, false, cond, eqb, List, [], ◌∷◌, ◌++◌, map, filter_map, Option, Some, None, refl, sym, ap, ap₂, subst, ◌∙◌, append_assoc, append-nil}
use Rattle.std.specs.List.{AllByRecursion, flat_map, cons_option}
use Rattle.request_laws.specs.bt_base.specs.declared.settings.Settings.{Settings}
use Rattle.request_laws.specs.bt_base.specs.Objects.{Contents}
use Rattle.request_laws.specs.capture.specs.Histories.{EachAfter}
use Rattle.request_laws.specs.link_talk.specs.declared.channel.Channel.{Channel}
use Rattle.request_laws.specs.link_talk.specs.Packets.{passed}
use Rattle.request_laws.specs.capture.specs.declared.flow.Flow.TheVariants.{Out, Into}
use Rattle.request_laws.specs.link_talk.specs.Sdus.{spoken_as, spoken}
use Rattle.request_laws.specs.rfcomm_frames.specs.declared.connection.Role.TheVariants.{Initiator, Responder}
use Rattle.request_laws.specs.rfcomm_frames.specs.Multiplexing.{Passed}
use Rattle.request_laws.specs.channel_model.specs.Policies.{policy}
use Rattle.request_laws.specs.channel_model.specs.Value.{Channels, no_channels}
use Rattle.request_laws.specs.channel_laws.specs.Frames.{AreUttered}
use Rattle.request_laws.specs.channel_laws.specs.Runs.{run_of}
use Rattle.request_laws.specs.channel_laws.specs.Runs as channels
use Rattle.request_laws.specs.push_model.specs.Server.{rfcomm_psm}
use Rattle.request_laws.specs.push_laws.specs.Carriage.{come_by}
use Rattle.request_laws.specs.push_laws.specs.Occurrences.{Occurrence, Came, Went, Closed, LinkDown, Asked, Answering}
use Rattle.request_laws.specs.push_laws.specs.Parties.{sdu_if}
use Rattle.request_laws.specs.push_laws.specs.Readings.{passed_by}
use Rattle.request_laws.specs.push_laws.proofs.Readings.{read_same, read_closed}
use Rattle.request_laws.specs.world_model.specs.Machines.{LinkEvent, Up, Down}
use Rattle.request_laws.specs.host_model.specs.Circumstances.{Circumstance}
use Rattle.request_laws.specs.host_model.specs.Profiles.{Profile}
use Rattle.request_laws.specs.host_model.specs.Servers.{ServerProfile, server_profile}
use Rattle.request_laws.specs.host_laws.specs.Calls.{Asks}
use Rattle.request_laws.specs.host_laws.specs.Fed.{WovenFed, turned_feeds, behind_span, woven_feeds, AreFed}
use Rattle.request_laws.specs.host_laws.specs.Feeds.{Feed}
use Rattle.request_laws.specs.host_laws.specs.InOrder.{AsksNoChannels}
use Rattle.request_laws.specs.host_laws.specs.Lives.{Span, all_marks}
use Rattle.request_laws.specs.host_laws.specs.OneCarrier.{IsAside, CarriesAlone}
use Rattle.request_laws.specs.host_laws.specs.OneOnLinks.{CarriesOneOn}
use Rattle.request_laws.specs.host_laws.specs.OverLinks.{AreTimely}
use Rattle.request_laws.specs.host_laws.proofs.Asking.{hosts_ask}
use Rattle.request_laws.specs.BothFed.{IsDown}
use Rattle.request_laws.specs.Carried.{NoneComesBehind}
use Rattle.request_laws.specs.Streams.{come_on}
use Rattle.request_laws.proofs.Behind.{muxes_end_last}
use Rattle.request_laws.proofs.Between.{between_still}
use Rattle.request_laws.proofs.Feeding.{up_served, down_served}
use Rattle.request_laws.proofs.HandedUp.{none_flat}
use Rattle.request_laws.proofs.Moved.{moves_in, link-moves}
use Rattle.request_laws.proofs.Silent.{IsStill}
use Rattle.request_laws.proofs.Timely.{is_up, goes_down, is_deaf, is_deaf_now, is_down}
use Rattle.carried_laws.specs.Orderly.{IsInOrder, passed_on}
use Rattle.carried_laws.proofs.Ordering.{InOrderFrom, ComesLast, Next, order_both, quiet_order, link_order}
use Rattle.orderly_laws.specs.Carried.{passed_in}
use Rattle.orderly_laws.proofs.Linking.{served, span_served, new_server, value_at}
use Rattle.orderly_laws.proofs.Passing.{muxed}

-- ---- what comes, in other words

come_is : (one : Occurrence) → come_by one ≡ come_on rfcomm_psm one
come_is (Came psm sdu) = refl
come_is (Went psm sdu) = refl
come_is (Closed psm) = refl
come_is LinkDown = refl
come_is Asked = refl
come_is (Answering answers) = refl

comes_are : (list : List Occurrence) → flat_map come_by list ≡ flat_map (come_on rfcomm_psm) list
comes_are [] = refl
comes_are (one ∷ list) = ap₂ (λ (a b : List (List ℕ)). a ++ b) (come_is one) (comes_are list)

last_comes : (list : List Occurrence) → NoneComesBehind rfcomm_psm list → ComesLast list
last_comes [] none = tt
last_comes (one ∷ list) none = ((λ over. comes_are list ∙ none.0 over), last_comes list none.1)

none_still : (list : List Occurrence) → AllByRecursion IsStill list → flat_map (come_on rfcomm_psm) list ≡ []
none_still [] still = refl
none_still (one ∷ list) still = ap₂ (λ (a b : List (List ℕ)). a ++ b) (still.0.come rfcomm_psm) (none_still list still.1)

-- ---- what passes

unpassed : (one : Occurrence) → IsStill one → passed_by one ≡ None
unpassed (Came psm sdu) still = by (eqb psm rfcomm_psm) (still.come rfcomm_psm)
  where
    by : (here : Bool) → sdu_if here sdu ≡ [] → cond here (Some (let p : Passed = record { from = Initiator; sdu = sdu } in p)) None ≡ None
    by true none = cc
    by false none = refl
unpassed (Went psm sdu) still = by (eqb psm rfcomm_psm) (still.gone rfcomm_psm)
  where
    by : (here : Bool) → sdu_if here sdu ≡ [] → cond here (Some (let p : Passed = record { from = Responder; sdu = sdu } in p)) None ≡ None
    by true none = cc
    by false none = refl
unpassed (Closed psm) still = refl
unpassed LinkDown still = refl
unpassed Asked still = refl
unpassed (Answering answers) still = refl

still_passed : (list past : List Occurrence) → AllByRecursion IsStill list → passed_on past ≡ [] → passed_on (past ++ list) ≡ []
still_passed [] past still empty = ap passed_on (append-nil past) ∙ empty
still_passed (one ∷ list) past still empty =
    ap passed_on (sym (append_assoc past (one ∷ []) list)) ∙ still_passed list (past ++ one ∷ []) still.1 (read_same passed_by rfcomm_psm past one (still.0.open_yet rfcomm_psm) (unpassed one still.0) ∙ empty)

module _ (settings : Settings) where
  passes_as : (list : List Occurrence) → filter_map passed_by list ≡ map (passed (muxed settings)) (moves_in rfcomm_psm list)
  passes_as [] = refl
  passes_as (Came psm sdu ∷ list) = by (eqb psm rfcomm_psm) (passes_as list)
    where
      by : (here : Bool) → filter_map passed_by list ≡ map (passed (muxed settings)) (moves_in rfcomm_psm list)
          → cons_option (cond here (Some (let p : Passed = record { from = Initiator; sdu = sdu } in p)) None) (filter_map passed_by list) ≡ map (passed (muxed settings)) (cons_option (cond here (Some (spoken_as Into sdu)) None) (moves_in rfcomm_psm list))
      by true same = ap (λ (ps : List Passed). (let p : Passed = record { from = Initiator; sdu = sdu } in p) ∷ ps) same
      by false same = same
  passes_as (Went psm sdu ∷ list) = by (eqb psm rfcomm_psm) (passes_as list)
    where
      by : (here : Bool) → filter_map passed_by list ≡ map (passed (muxed settings)) (moves_in rfcomm_psm list)
          → cons_option (cond here (Some (let p : Passed = record { from = Responder; sdu = sdu } in p)) None) (filter_map passed_by list) ≡ map (passed (muxed settings)) (cons_option (cond here (Some (spoken_as Out sdu)) None) (moves_in rfcomm_psm list))
      by true same = ap (λ (ps : List Passed). (let p : Passed = record { from = Responder; sdu = sdu } in p) ∷ ps) same
      by false same = same
  passes_as (Closed psm ∷ list) = passes_as list
  passes_as (LinkDown ∷ list) = passes_as list
  passes_as (Asked ∷ list) = passes_as list
  passes_as (Answering answers ∷ list) = passes_as list

  -- ---- a list of what happened, as it is read off what moved

  pub record FitLink (list : List channels.Occurrence) : Type 0 where
    pub uttered : AreUttered (policy settings true) list
    pub only : CarriesOneOn rfcomm_psm (policy settings true) list
    pub order : (channel : Channel) → channel.psm ≡ 0x0003 → CarriesAlone channel (run_of (policy settings true) list).said → IsInOrder settings (passed_in (muxed settings) channel (run_of (policy settings true) list).said)

  module _ (content : Option Contents) (nothing : AsksNoChannels (server_profile settings content) (hosts_ask.servers settings content)) where
    abbrev B : Profile ServerProfile
    B = server_profile settings content

    abbrev asks : Asks (server_profile settings content)
    asks = hosts_ask.servers settings content

    abbrev Served : ServerProfile → List Feed → List Occurrence
    Served p feeds = served settings content p feeds

    link_piece : (list : List channels.Occurrence) (feeds : List Feed) (first last : ServerProfile) (past : List Occurrence) → WovenFed B asks list feeds first last → first.endpoints ≡ [] → FitLink list → passed_on past ≡ [] → InOrderFrom settings past (Served first feeds)
    link_piece list feeds first last past so none fit empty =
        let link : List Occurrence = Served first (woven_feeds B asks so.woven.weave no_channels first) in
        let one = fit.only.channel in
        let carries = λ (psm : ℕ) (aside : IsAside psm) (is : psm ≡ rfcomm_psm). aside.1 is in
        let moves : moves_in rfcomm_psm link ≡ spoken (muxed settings) one (run_of (policy settings true) list).said = link-moves rfcomm_psm settings content (muxed settings) list so.woven.weave first so.woven.list_is none carries fit.only refl fit.uttered in
        let passes : filter_map passed_by link ≡ passed_in (muxed settings) one (run_of (policy settings true) list).said = passes_as link ∙ ap (map (passed (muxed settings))) moves in
        let behind = muxes_end_last rfcomm_psm settings content asks list first last so.woven carries nothing fit.only in
        subst (λ (l : List Feed). InOrderFrom settings past (Served first l)) (sym so.feeds_are)
        (link_order settings link past (subst (λ (ps : List Passed). EachAfter (Next settings) ps (filter_map passed_by link)) (sym empty)
        (subst (EachAfter (Next settings) []) (sym passes) (fit.order one fit.only.psm_is fit.only.alone))) (last_comes link behind))

    still_order : (list past : List Occurrence) → AllByRecursion IsStill list → InOrderFrom settings past list
    still_order list past still = quiet_order settings list past (comes_are list ∙ none_still list still)

    down_part : (past : List Occurrence) (circumstances : List Circumstance) (event : LinkEvent) (v : Channels) (p : ServerProfile) (rest : List Occurrence) → IsDown event → ((later : List Occurrence) → passed_on later ≡ [] → InOrderFrom settings later rest)
        → InOrderFrom settings past (Served p (turned_feeds circumstances event v) ++ rest)
    down_part past circumstances Up v p rest drops next = absurd drops
    down_part past circumstances (Down reason) v p rest drops next =
        let down = down_served settings content circumstances reason v p in
        let list : List Occurrence = down.ahead ++ LinkDown ∷ [] in
        subst (λ (l : List Occurrence). InOrderFrom settings past (l ++ rest)) (sym down.is)
        (order_both settings past list rest
        (order_both settings past down.ahead (LinkDown ∷ []) (quiet_order settings down.ahead past (comes_are down.ahead ∙ none_flat rfcomm_psm down.ahead down.quiet)) (quiet_order settings (LinkDown ∷ []) (past ++ down.ahead) refl))
        (next (past ++ list) (ap passed_on (sym (append_assoc past down.ahead (LinkDown ∷ []))) ∙ read_closed passed_by rfcomm_psm (past ++ down.ahead) LinkDown refl)))

    up_part : (past : List Occurrence) (circumstances : List Circumstance) (event : LinkEvent) (v : Channels) (p : ServerProfile) (rest : List Occurrence) → event ≡ Up → InOrderFrom settings past rest → InOrderFrom settings past (Served p (turned_feeds circumstances event v) ++ rest)
    up_part past circumstances event v p rest rises order = subst (λ (l : List Occurrence). InOrderFrom settings past (l ++ rest)) (sym (up_served settings content circumstances event v p rises)) order

    pub all-order : (spans : List Span) (now : List channels.Occurrence) (feeds : List Feed) (first last : ServerProfile) (past : List Occurrence) → AreFed B asks spans now feeds first last → first.endpoints ≡ [] → AreTimely false (all_marks spans now)
        → AllByRecursion (λ (span : Span). FitLink span.list) spans → FitLink now → passed_on past ≡ [] → InOrderFrom settings past (Served first feeds)
    all-order [] now feeds first last past so none timely fits fit empty = still_order (Served first feeds) past (between_still settings content asks now feeds first last so (is_deaf_now now timely))
    all-order (up ∷ []) now feeds first last past (here, later, is, so) none timely fits fit empty =
        let rises = is_up up [] now timely in
        let still = between_still settings content asks up.list here.here first here.mid here.so (is_deaf up [] now rises timely).deaf in
        let mid = behind_span B asks up first here in
        let ahead : List Occurrence = Served first here.here in
        subst (InOrderFrom settings past) (sym (span_served settings content up first here feeds later is))
        (order_both settings past ahead _ (still_order ahead past still)
        (up_part (past ++ ahead) here.circumstances up.event (value_at settings content up) here.mid (Served mid later) rises
        (link_piece now later mid last (past ++ ahead) so (new_server settings content here.circumstances up.event (value_at settings content up) here.mid) fit (still_passed ahead past still empty))))
    all-order (up ∷ down ∷ spans) now feeds first last past (here, later, is, (there, rest, rest_is, so)) none timely fits fit empty =
        let rises = is_up up (down ∷ spans) now timely in
        let deaf = is_deaf up (down ∷ spans) now rises timely in
        let drops = goes_down down spans now deaf.rest in
        let still = between_still settings content asks up.list here.here first here.mid here.so deaf.deaf in
        let mid = behind_span B asks up first here in
        let after = behind_span B asks down mid there in
        let ahead : List Occurrence = Served first here.here in
        let behind : List Occurrence = past ++ ahead in
        let link : InOrderFrom settings behind (Served mid later) =
        subst (InOrderFrom settings behind) (sym (span_served settings content down mid there later rest rest_is))
        (order_both settings behind (Served mid there.here) _
        (link_piece down.list there.here mid there.mid behind there.so (new_server settings content here.circumstances up.event (value_at settings content up) here.mid) fits.1.0 (still_passed ahead past still empty))
        (down_part (behind ++ Served mid there.here) there.circumstances down.event (value_at settings content down) there.mid (Served after rest) drops
        (λ before gone. all-order spans now rest after last before so (new_server settings content there.circumstances down.event (value_at settings content down) there.mid) (is_down down spans now drops deaf.rest) fits.1.1 fit gone))) in
        subst (InOrderFrom settings past) (sym (span_served settings content up first here feeds later is))
        (order_both settings past ahead _ (still_order ahead past still) (up_part behind here.circumstances up.event (value_at settings content up) here.mid (Served mid later) rises link))
