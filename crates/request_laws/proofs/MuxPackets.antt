-- Where the channel of the multiplexer alone carries packets on each link, nothing comes to a server over L2CAP.
use Rattle.std.proofs.Common.{◌≡◌, ℕ, suc, Bool, true, false, eqb, List, [], ◌∷◌, ◌++◌, Option, refl, sym, ap, subst, ◌∙◌, inl, inr}
use Rattle.std.specs.Prelude.{get_or}
use Rattle.std.specs.List.{AllByRecursion, flat_map}
use Rattle.std.proofs.lemmas.Bool.{eq-eqb}
use Rattle.pair_laws.specs.bt_base.specs.declared.settings.Settings.{Settings}
use Rattle.pair_laws.specs.bt_base.specs.Objects.{Contents}
use Rattle.pair_laws.specs.link_talk.specs.declared.channel.Channel.{Channel}
use Rattle.pair_laws.specs.link_talk.specs.Channels.{reading}
use Rattle.pair_laws.specs.channel_model.specs.Policies.{Policy, policy}
use Rattle.pair_laws.specs.channel_model.specs.Value.{Channels, no_channels}
use Rattle.pair_laws.specs.channel_laws.specs.Endpoints.{IsOf}
use Rattle.pair_laws.specs.channel_laws.specs.Runs as channels
use Rattle.pair_laws.specs.channel_laws.specs.Runs.{run_of}
use Rattle.pair_laws.specs.channel_laws.specs.Views.{channel_by, read_at}
use Rattle.pair_laws.specs.push_model.specs.Server.{object_psm, rfcomm_psm}
use Rattle.pair_laws.specs.push_laws.specs.Dialogs.{NoPacket}
use Rattle.pair_laws.specs.push_laws.specs.Occurrences.{Occurrence, Came, Went, Closed, LinkDown, Asked, Answering}
use Rattle.pair_laws.specs.push_laws.specs.Parties.{sdu_if, come_by}
use Rattle.pair_laws.specs.world_model.specs.Machines.{LinkEvent, Up, Down}
use Rattle.pair_laws.specs.host_model.specs.Circumstances.{Circumstance}
use Rattle.pair_laws.specs.host_model.specs.Servers.{ServerProfile, server_profile}
use Rattle.pair_laws.specs.host_laws.specs.Calls.{Asks, values_after}
use Rattle.pair_laws.specs.host_laws.specs.Fed.{turned_feeds, span_feeds, behind_span, WovenFed, AreFed}
use Rattle.pair_laws.specs.host_laws.specs.Feeds.{Feed}
use Rattle.pair_laws.specs.host_laws.specs.Lives.{Span}
use Rattle.pair_laws.specs.host_laws.specs.OneCarrier.{IsFor}
use Rattle.pair_laws.specs.host_laws.specs.Serving.{served_from}
use Rattle.pair_laws.specs.host_laws.proofs.StrandsFed.{here_so, span_so}
use Rattle.request_laws.specs.BothFed.{ComesNone}
use Rattle.request_laws.specs.HandedUp.{handed_for}
use Rattle.pair_laws.specs.host_laws.specs.OneOnLinks.{CarriesOneOn}
use Rattle.request_laws.proofs.Accepted.{all-opened}
use Rattle.request_laws.proofs.Feeding.{served-both, all_both, down_served}
use Rattle.request_laws.proofs.HandedUp.{none_flat, objects_are_handed_up}
use Rattle.request_laws.proofs.OnPsm.{come_is}
use Rattle.request_laws.proofs.Paired.{lists_of}
use Rattle.request_laws.proofs.Sole.{NoneOrOpened, none_or_opened, is_of, for_of}

-- ---- nothing is handed up of the object's PSM

objects_apart : (one other : Channel) → one.psm ≡ rfcomm_psm → other.psm ≡ object_psm → IsFor one other → ⊥
objects_apart one other muxed object fit = by (eqb other.own one.own) refl
  where
    by : (here : Bool) → eqb other.own one.own ≡ here → ⊥
    by true is =
        let same : other ≡ one = fit.same is in
        let never : 0x1001 ≡ 0x0003 = sym object ∙ (ap (λ (c : Channel). c.psm) same ∙ muxed) in
        cc
    by false is = (fit.aside is).0 object

none_handed : (wanted : Policy) (list : List channels.Occurrence) → CarriesOneOn rfcomm_psm wanted list → handed_for object_psm (run_of wanted list).up ≡ []
none_handed wanted list one = by (none_or_opened object_psm (run_of wanted list).said (run_of wanted list).up (all-opened wanted list))
  where
    by : NoneOrOpened object_psm (run_of wanted list).said (run_of wanted list).up → handed_for object_psm (run_of wanted list).up ≡ []
    by (inl none) = none
    by (inr (own, (peer, is))) =
        let channel : Channel = channel_by object_psm own peer in
        let there : IsOf channel (read_at own (reading (run_of wanted list).said).entries) = is_of channel (read_at own (reading (run_of wanted list).said).entries) is in
        absurd (objects_apart one.channel channel one.psm_is refl (for_of one.channel channel (run_of wanted list).said own one.alone there))

-- ---- so none comes

none_ahead : (xs ys : List (List ℕ)) → xs ++ ys ≡ [] → (xs ≡ []) × (ys ≡ [])
none_ahead [] ys none = (refl, none)
none_ahead (x ∷ xs) ys none = cc

no_packet : (one : Occurrence) → come_by one ≡ [] → NoPacket one
no_packet (Came psm sdu) none = λ object. by (eqb psm object_psm) (eq-eqb psm object_psm object) none
  where
    by : (here : Bool) → here ≡ true → sdu_if here sdu ≡ [] → ⊥
    by true is none = cc
    by false is none = cc
no_packet (Went psm sdu) none = tt
no_packet (Closed psm) none = tt
no_packet LinkDown none = tt
no_packet Asked none = tt
no_packet (Answering answers) none = tt

no_packets : (occurrences : List Occurrence) → flat_map come_by occurrences ≡ [] → AllByRecursion NoPacket occurrences
no_packets [] none = tt
no_packets (one ∷ rest) none = let cut = none_ahead (come_by one) (flat_map come_by rest) none in (no_packet one cut.0, no_packets rest cut.1)

none_packets : (occurrences : List Occurrence) → AllByRecursion ComesNone occurrences → AllByRecursion NoPacket occurrences
none_packets occurrences none = no_packets occurrences (come_is occurrences ∙ none_flat object_psm occurrences none)

module _ (settings : Settings) (content : Option Contents) (asks : Asks (server_profile settings content)) where
  woven_packets : (list : List channels.Occurrence) (feeds : List Feed) (first last : ServerProfile) → WovenFed (server_profile settings content) asks list feeds first last → CarriesOneOn rfcomm_psm (policy settings true) list → AllByRecursion NoPacket (served_from settings content first feeds)
  woven_packets list feeds first last so one = no_packets (served_from settings content first feeds) (objects_are_handed_up.servers settings content asks list feeds first last so ∙ none_handed (policy settings true) list one)

  turned_packets : (circumstances : List Circumstance) (event : LinkEvent) (v : Channels) (p : ServerProfile) → AllByRecursion NoPacket (served_from settings content p (turned_feeds circumstances event v))
  turned_packets circumstances Up v p = tt
  turned_packets circumstances (Down reason) v p =
      let down = down_served settings content circumstances reason v p in
      subst (AllByRecursion NoPacket) (sym down.is) (all_both NoPacket down.ahead (LinkDown ∷ []) (none_packets down.ahead down.quiet) (tt, tt))

  pub all_packets : (spans : List Span) (now : List channels.Occurrence) (feeds : List Feed) (first last : ServerProfile) → AreFed (server_profile settings content) asks spans now feeds first last → ((number : ℕ) → CarriesOneOn rfcomm_psm (policy settings true) (get_or (lists_of spans now) number []))
      → AllByRecursion NoPacket (served_from settings content first feeds)
  all_packets [] now feeds first last fed muxes = woven_packets now feeds first last fed (muxes 0)
  all_packets (span ∷ spans) now feeds first last (here, later, is, rest) muxes =
      let B = server_profile settings content in
      let turned = turned_feeds here.circumstances span.event (values_after B.policy no_channels span.list) in
      let ahead = span_feeds B asks span first here in
      let after = behind_span B asks span first here in
      let one : AllByRecursion NoPacket (served_from settings content first ahead) =
      subst (AllByRecursion NoPacket) (sym (served-both settings content here.here turned first ∙ ap (λ (p : ServerProfile). served_from settings content first here.here ++ served_from settings content p turned) (here_so B asks span first here)))
      (all_both NoPacket (served_from settings content first here.here) (served_from settings content here.mid turned) (woven_packets span.list here.here first here.mid here.so (muxes 0)) (turned_packets here.circumstances span.event (values_after B.policy no_channels span.list) here.mid)) in
      subst (λ (l : List Feed). AllByRecursion NoPacket (served_from settings content first l)) (sym is)
      (subst (AllByRecursion NoPacket) (sym (served-both settings content ahead later first ∙ ap (λ (p : ServerProfile). served_from settings content first ahead ++ served_from settings content p later) (span_so B asks span first here)))
      (all_both NoPacket (served_from settings content first ahead) (served_from settings content after later) one (all_packets spans now later after last rest (λ number. muxes (suc number)))))
