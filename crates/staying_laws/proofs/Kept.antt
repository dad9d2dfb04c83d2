-- What leaves a channel of a host one that it did not close.
use Rattle.std.proofs.Common.{◌≡◌, ℕ, List, [], ◌∷◌, map, Bool, true, false, cond, eqb, Option, Some, None, Result, Ok, Err, refl, sym, ap, subst, ◌∙◌, inl, inr, arith}
use Rattle.std.specs.Prelude.{find, is_some}
use Rattle.std.specs.List.{AllByRecursion}
use Rattle.channel_laws.specs.capture.specs.declared.flow.Flow.TheVariants.{Out, Into}
use Rattle.channel_laws.specs.ertm_model.specs.declared.reason.ErtmReason.{ErtmReason}
use Rattle.channel_laws.specs.ertm_model.specs.Value.{Ertm}
use Rattle.channel_laws.specs.l2cap_config.specs.declared.agreement.ConfigAnswer.TheVariants.{Accept, Unacceptable, Unknown}
use Rattle.channel_laws.specs.l2cap_config.specs.declared.options.Options.{Options}
use Rattle.channel_laws.specs.l2cap_config.specs.declared.options.ConfigRefusal.{ConfigRefusal}
use Rattle.channel_laws.specs.l2cap_config.specs.declared.wish.Wish.{Wish}
use Rattle.channel_laws.specs.l2cap_config.specs.Reading.{options_read}
use Rattle.channel_laws.specs.l2cap_signal.specs.Commands.{Content, reject, connection_request, connection_response, configuration_request, configuration_response, disconnection_request, disconnection_response, echo_request, echo_response, information_request, information_response}
use Rattle.channel_laws.specs.link_talk.specs.Sayings as sayings
use Rattle.channel_laws.specs.channel_model.specs.declared.errand.Errand.{Errand}
use Rattle.channel_laws.specs.channel_model.specs.declared.errand.Errand.TheVariants as errands
use Rattle.channel_laws.specs.channel_model.specs.declared.event.ChannelEvent.TheVariants.{Features}
use Rattle.channel_laws.specs.channel_model.specs.declared.event.CloseReason.TheVariants.{Refused, OwnClosed}
use Rattle.channel_laws.specs.channel_model.specs.declared.request_kind.RequestKind.{RequestKind}
use Rattle.channel_laws.specs.channel_model.specs.declared.request_kind.RequestKind.TheVariants as kinds
use Rattle.channel_laws.specs.channel_model.specs.Answers.{connection_result, configuration_answer, answer_to}
use Rattle.channel_laws.specs.channel_model.specs.Asking.{new_request, first_options, asks}
use Rattle.channel_laws.specs.channel_model.specs.Calls.{can_connect, connected, asks_features, disconnected_at, disconnected_held, disconnected, sends_setup, sends_on, sends_held, sends}
use Rattle.channel_laws.specs.channel_model.specs.Carrying.{machine_heard, read_by, is_taken_with, carries, opens_with, settles_machine, takes_with, takes_on, takes_held, takes}
use Rattle.channel_laws.specs.channel_model.specs.Changing.{has_own, in_place_of, held_at, has_room, is_peer, setup_of, stage_with, with_setup, to_setup, forgets, tells}
use Rattle.channel_laws.specs.channel_model.specs.Closing.{closes, closes_at, peer_closes_at, ends, ends_at}
use Rattle.channel_laws.specs.channel_model.specs.Configuring.{Verdict, NoChannel, TooLate, Unreadable, Incomplete, Judged, verdict, accepted_setup, accepts_with, follows_verdict, opens_if, granted_setup, grants}
use Rattle.channel_laws.specs.channel_model.specs.Following.{with_channel, follows_setup, follows_configuration, follows_disconnection, follows, remembers, says, can_say, hears_new, hears_again, hears_kind}
use Rattle.channel_laws.specs.channel_model.specs.Giving.{gives, connection_given, configuration_given, disconnection_given, stage_given, counted, carrier_spent, held_given, queue_given, after_given}
use Rattle.channel_laws.specs.channel_model.specs.Hearing.{hears_content}
use Rattle.channel_laws.specs.channel_model.specs.Policies.{Policy}
use Rattle.channel_laws.specs.channel_model.specs.Responses.{is_fresh_endpoint, connects, hears_connected, hears_grant_at, hears_grant, hears_options, is_asked, hears_response_on, hears_response, hears_end, has_identifier, hears_features, features_in}
use Rattle.channel_laws.specs.channel_model.specs.Value.{Request, Queued, Answer, Ask, Own, Unasked, Asking, Granted, Carrier, Plain, Retransmitting, Setup, no_setup, Stage, Requested, Connected, Leaving, Closing, Crossed, Held, Remembered, Channels}
use Rattle.channel_laws.specs.channel_model.proofs.Going.{staged}
use Rattle.channel_laws.specs.channel_model.proofs.Lookups.{own_of, found-has}
use Rattle.channel_laws.specs.OwnTalk.{spoken, command_with, response_by, command_if, reply_to, exchanged}
use Rattle.channel_laws.specs.Signals.{StandsIn}
use Rattle.lasting_laws.specs.Lasting.{OptionsSucceed}
use Rattle.staying_laws.specs.Stays.{IsKept, KeptAt, AllKept}
use Rattle.lasting_laws.proofs.Kept.{all-placed, all-left, all-more, all-found}

-- ---- a channel that its host did not close

pub kept-with : (setup : Setup) (stage : Stage) → IsKept stage → IsKept (stage_with setup stage)
kept-with setup (Requested request) is = tt
kept-with setup (Connected peer before) is = tt
kept-with setup (Leaving peer before request) is = tt
kept-with setup (Closing peer request checked) is = is
kept-with setup (Crossed peer request) is = tt

abbrev Agrees : Verdict → Type 0
Agrees NoChannel = Unit {0}
Agrees (TooLate peer) = Unit {0}
Agrees (Unreadable peer) = Unit {0}
Agrees (Incomplete peer options) = Unit {0}
Agrees (Judged peer options (Accept given)) = Unit {0}
Agrees (Judged peer options (Unacceptable refusal given)) = ⊥
Agrees (Judged peer options Unknown) = Unit {0}

-- for options: where all that is said to such requests is success
agrees_by : (identifier own : ℕ) (now : Verdict) → OptionsSucceed (spoken (command_with identifier (configuration_answer now own)) ∷ []) → Agrees now
agrees_by identifier own NoChannel succeed = tt
agrees_by identifier own (TooLate peer) succeed = tt
agrees_by identifier own (Unreadable peer) succeed = tt
agrees_by identifier own (Incomplete peer options) succeed = tt
agrees_by identifier own (Judged peer options (Accept given)) succeed = tt
agrees_by identifier own (Judged peer options (Unacceptable refusal given)) succeed = let never : 1 ≡ 0 = succeed Out identifier peer 0 1 _ (inl refl) in absurd (omega (arith, never))
agrees_by identifier own (Judged peer options Unknown) succeed = tt

abbrev Withstands : (own : Own) → (carrier : Option Carrier) → List ℕ → Type 0
Withstands own carrier pdu = (m : Ertm) → carrier ≡ Some (Retransmitting m) → is_taken_with own (Retransmitting m) pdu ≡ true → (machine_heard (read_by m pdu) m).closed ≡ None

call_given : (stage : Stage) → IsKept stage → IsKept (connection_given stage)
call_given (Requested request) is = is
call_given (Connected peer setup) is = is
call_given (Leaving peer setup request) is = is
call_given (Closing peer request checked) is = is
call_given (Crossed peer request) is = is

options_given : (stage : Stage) → IsKept stage → IsKept (configuration_given stage)
options_given (Requested request) is = is
options_given (Connected peer setup) is = is
options_given (Leaving peer setup request) is = is
options_given (Closing peer request checked) is = is
options_given (Crossed peer request) is = is

end_given : (stage : Stage) → IsKept stage → IsKept (disconnection_given stage)
end_given (Requested request) is = is
end_given (Connected peer setup) is = is
end_given (Leaving peer setup request) is = is
end_given (Closing peer request checked) is = is
end_given (Crossed peer request) is = is

-- the one of an endpoint
module _ (mine : ℕ) where
  placed : (v : Channels) (held : Held) (stage : Stage) → AllKept mine v → (held.own ≡ mine → IsKept stage) → AllByRecursion (KeptAt mine) (map (in_place_of (staged held stage)) v.held)
  placed v held stage all is = all-placed (KeptAt mine) (staged held stage) v.held is all

  pub found-kept : (own : ℕ) (v : Channels) (held : Held) → AllKept mine v → held_at own v ≡ Some held → KeptAt mine held
  found-kept own v held all found = all-found (KeptAt mine) (has_own own) v.held held all found

  setup_kept : (v : Channels) (held : Held) (setup : Setup) → AllKept mine v → KeptAt mine held → AllKept mine (to_setup held setup v)
  setup_kept v held setup all is = placed v held (stage_with setup held.stage) all (λ same. kept-with setup held.stage (is same))

  either : (b : Bool) (v w : Channels) → AllKept mine v → AllKept mine w → AllKept mine (cond b v w)
  either true v w one other = one
  either false v w one other = other

  -- ---- the peer's request for options, that is not refused

  accepted : (v : Channels) (own : Own) (wish : Wish) (held : Held) (setup : Setup) → AllKept mine v → KeptAt mine held → AllKept mine (accepts_with own wish held setup v)
  accepted v Unasked wish held setup all is = setup_kept v held (record setup { own = Asking (new_request v) (first_options wish) }) all is
  accepted v (Asking request options) wish held setup all is = setup_kept v held setup all is
  accepted v Granted wish held setup all is = setup_kept v held setup all is

  judged : (v : Channels) (now : Verdict) (wish : Wish) (held : Held) (setup : Setup) → Agrees now → AllKept mine v → KeptAt mine held → AllKept mine (follows_verdict now wish held setup v)
  judged v NoChannel wish held setup agrees all is = all
  judged v (TooLate peer) wish held setup agrees all is = all
  judged v (Unreadable peer) wish held setup agrees all is = setup_kept v held _ all is
  judged v (Incomplete peer options) wish held setup agrees all is = setup_kept v held (record setup { parts = options }) all is
  judged v (Judged peer options (Accept given)) wish held setup agrees all is = accepted v setup.own wish held (accepted_setup wish options setup) all is
  judged v (Judged peer options (Unacceptable refusal given)) wish held setup agrees all is = absurd agrees
  judged v (Judged peer options Unknown) wish held setup agrees all is = setup_kept v held _ all is

  configured : (policy : Policy) (own flags : ℕ) (options : List ℕ) (v : Channels) → Agrees (verdict policy own flags options v) → AllKept mine v → AllKept mine (follows_configuration (held_at own v) policy flags options v)
  configured policy own flags options v agrees all = by (held_at own v) refl
    where
      on : (held : Held) → held_at own v ≡ Some held → (setup : Option Setup) → AllKept mine (follows_setup setup policy held flags options v)
      on held found None = all
      on held found (Some setup) =
          judged v (verdict policy held.own flags options v) (policy.wish held.psm) held setup (subst (λ n. Agrees (verdict policy n flags options v)) (sym (found-has own_of own v.held held found)) agrees) all (found-kept own v held all found)

      by : (held : Option Held) → held_at own v ≡ held → AllKept mine (follows_configuration held policy flags options v)
      by None found = all
      by (Some held) found = on held found (setup_of held.stage)

  -- ---- any request of the peer

  says_held : (identifier : ℕ) (response : Option Content) (v : Channels) → AllKept mine v → AllKept mine (says identifier response v)
  says_held identifier None v all = all
  says_held identifier (Some content) v all = all

  asked_again : (identifier : ℕ) (response : Option Content) (v : Channels) → AllKept mine v → AllKept mine (hears_again identifier response v)
  asked_again identifier response v all = either (can_say response v) (says identifier response v) v (says_held identifier response v all) all

  asked_new : (kind : RequestKind) (identifier : ℕ) (response : Option Content) (more : Channels → Channels) (v : Channels) → ((u : Channels) → AllKept mine u → AllKept mine (more u)) → AllKept mine v → AllKept mine (hears_new kind identifier response more v)
  asked_new kind identifier response more v keeps all =
      let u : Channels = says identifier response (remembers kind identifier response v) in
      either (can_say response v) (more u) v (keeps u (says_held identifier response (remembers kind identifier response v) all)) all

  asked : (last : Option Remembered) (kind : RequestKind) (identifier : ℕ) (response : Option Content) (more : Channels → Channels) (v : Channels) → ((u : Channels) → AllKept mine u → AllKept mine (more u)) → AllKept mine v
      → AllKept mine (hears_kind last kind identifier response more v)
  asked None kind identifier response more v keeps all = asked_new kind identifier response more v keeps all
  asked (Some last) kind identifier response more v keeps all =
      either (eqb last.identifier identifier) (hears_again identifier last.response v) (hears_new kind identifier response more v) (asked_again identifier last.response v all) (asked_new kind identifier response more v keeps all)

  options_new : (policy : Policy) (one : _) (identifier own flags : ℕ) (options : List ℕ) (v : Channels) → (let answer : Option Content = answer_to policy (configuration_request own flags options) v in
      OptionsSucceed (exchanged one (command_if identifier answer) v) → AllKept mine v → AllKept mine (hears_new kinds.Configuration identifier answer (follows policy (configuration_request own flags options)) v))
  options_new policy one identifier own flags options v succeed all = by (has_room v) refl
    where
      now : Verdict
      now = verdict policy own flags options v

      answer : Content
      answer = configuration_answer now own

      by : (room : Bool) → has_room v ≡ room → AllKept mine (cond room (follows policy (configuration_request own flags options) (says identifier (Some answer) (remembers kinds.Configuration identifier (Some answer) v))) v)
      by true room =
          let said : exchanged one (Some (command_with identifier answer)) v ≡ sayings.Command Into one ∷ spoken (command_with identifier answer) ∷ [] = ap (λ b. cond b (sayings.Command Into one ∷ spoken (command_with identifier answer) ∷ []) []) room in
          let u : Channels = says identifier (Some answer) (remembers kinds.Configuration identifier (Some answer) v) in
          configured policy own flags options u
          (agrees_by identifier own now (λ flow i peer f r o stands. succeed flow i peer f r o (subst (StandsIn _) (sym said) (inr stands)))) all
      by false room = all

  options_asked : (policy : Policy) (one : _) (last : Option Remembered) (identifier own flags : ℕ) (options : List ℕ) (v : Channels) → (let answer : Option Content = answer_to policy (configuration_request own flags options) v in
      OptionsSucceed (exchanged one (command_if identifier (response_by last identifier answer)) v) → AllKept mine v → AllKept mine (hears_kind last kinds.Configuration identifier answer (follows policy (configuration_request own flags options)) v))
  options_asked policy one None identifier own flags options v succeed all = options_new policy one identifier own flags options v succeed all
  options_asked policy one (Some last) identifier own flags options v succeed all = by (eqb last.identifier identifier) succeed
    where
      answer : Option Content
      answer = answer_to policy (configuration_request own flags options) v

      by : (same : Bool) → OptionsSucceed (exchanged one (command_if identifier (cond same last.response answer)) v)
          → AllKept mine (cond same (hears_again identifier last.response v) (hears_new kinds.Configuration identifier answer (follows policy (configuration_request own flags options)) v))
      by true so = asked_again identifier last.response v all
      by false so = options_new policy one identifier own flags options v so all

  -- for its end
  ended_by_peer : (v : Channels) (held : Held) (stage : Stage) → AllKept mine v → AllKept mine (peer_closes_at stage held v)
  ended_by_peer v held (Requested request) all = all
  ended_by_peer v held (Connected peer setup) all = all-left (KeptAt mine) _ v.held all
  ended_by_peer v held (Leaving peer setup request) all = placed v held (Crossed peer request) all (λ same. tt)
  ended_by_peer v held (Closing peer request checked) all = placed v held (Crossed peer request) all (λ same. tt)
  ended_by_peer v held (Crossed peer request) all = all

  parted : (destination source : ℕ) (u : Channels) → AllKept mine u → AllKept mine (follows_disconnection (held_at destination u) source u)
  parted destination source u all = by (held_at destination u) refl
    where
      by : (held : Option Held) → held_at destination u ≡ held → AllKept mine (follows_disconnection held source u)
      by None found = all
      by (Some held) found = either (is_peer source held.stage) (peer_closes_at held.stage held u) u (ended_by_peer u held held.stage all) all

  -- ---- what the peer responds

  granted : (v : Channels) (held : Held) (setup : Setup) → AllKept mine v → KeptAt mine held → AllKept mine (grants held setup v)
  granted v held setup all is = by (is_some setup.carrier)
    where
      by : (b : Bool) → AllKept mine (opens_if b held (to_setup held (granted_setup setup) (forgets (errands.Configuration held.own) v)))
      by true = setup_kept v held (granted_setup setup) all is
      by false = setup_kept v held (granted_setup setup) all is

  opened : (v : Channels) (policy : Policy) (endpoint result : ℕ) (held : Held) (request : Request) → held.stage ≡ Requested request → AllKept mine v → AllKept mine (hears_connected policy endpoint result held v)
  opened v policy endpoint result held request is all =
      let made : Channels = connects (policy.wish held.psm) endpoint held v in
      let setup : Setup = record no_setup { own = Asking (new_request v) (first_options (policy.wish held.psm)) } in
      let refused : Channels = closes (Refused result) held v in
      either (eqb result 0) (cond (is_fresh_endpoint endpoint v) made v) (cond (eqb result 1) v refused)
      (either (is_fresh_endpoint endpoint v) made v (placed v held (Connected endpoint setup) all (λ same. tt)) all)
      (either (eqb result 1) v refused all (subst (λ s. AllKept mine (closes_at s (Refused result) held v)) (sym is) (all-left (KeptAt mine) _ v.held all)))

  grant_heard : (v : Channels) (policy : Policy) (own identifier endpoint result : ℕ) → AllKept mine v → AllKept mine (hears_grant (held_at own v) policy identifier endpoint result v)
  grant_heard v policy own identifier endpoint result all = by (held_at own v)
    where
      at : (held : Held) (stage : Stage) → held.stage ≡ stage → AllKept mine (hears_grant_at stage policy identifier endpoint result held v)
      at held (Requested request) is = either (eqb request.identifier identifier) (hears_connected policy endpoint result held v) v (opened v policy endpoint result held request is all) all
      at held (Connected peer setup) is = all
      at held (Leaving peer setup request) is = all
      at held (Closing peer request checked) is = all
      at held (Crossed peer request) is = all

      by : (held : Option Held) → AllKept mine (hears_grant held policy identifier endpoint result v)
      by None = all
      by (Some held) = at held held.stage refl

  success_heard : (v : Channels) (policy : Policy) (own identifier : ℕ) (octets : List ℕ) → AllKept mine v → AllKept mine (hears_response (held_at own v) policy identifier 0 octets v)
  success_heard v policy own identifier octets all = by (held_at own v) refl
    where
      read : (held : Held) (setup : Setup) → KeptAt mine held → (options : Result Options ConfigRefusal) → AllKept mine (hears_options options policy 0 held setup v)
      read held setup is (Ok options) = granted v held setup all is
      read held setup is (Err refusal) = all

      on : (held : Held) → KeptAt mine held → (setup : Option Setup) → AllKept mine (hears_response_on setup policy identifier 0 octets held v)
      on held is None = all
      on held is (Some setup) = either (is_asked identifier setup.own) (hears_options (options_read octets) policy 0 held setup v) v (read held setup is (options_read octets)) all

      by : (held : Option Held) → held_at own v ≡ held → AllKept mine (hears_response held policy identifier 0 octets v)
      by None found = all
      by (Some held) found = on held (found-kept own v held all found) (setup_of held.stage)

  pub ended : (v : Channels) (reason : _) (held : Held) (stage : Stage) → AllKept mine v → AllKept mine (ends_at stage reason held v)
  ended v reason held (Requested request) all = all
  ended v reason held (Connected peer setup) all = all
  ended v reason held (Leaving peer setup request) all = all-left (KeptAt mine) _ v.held all
  ended v reason held (Closing peer request checked) all = all-left (KeptAt mine) _ v.held all
  ended v reason held (Crossed peer request) all = all-left (KeptAt mine) _ v.held all

  end_heard : (v : Channels) (own peer : ℕ) → AllKept mine v → AllKept mine (hears_end (held_at own v) peer v)
  end_heard v own peer all = by (held_at own v)
    where
      by : (held : Option Held) → AllKept mine (hears_end held peer v)
      by None = all
      by (Some held) = either (is_peer peer held.stage) (ends OwnClosed held v) v (ended v OwnClosed held held.stage all) all

  features_heard : (identifier : ℕ) (given : Option ℕ) (v : Channels) → AllKept mine v → AllKept mine (hears_features identifier given v)
  features_heard identifier given v all = either (has_identifier identifier v.features) (tells (Features given) (forgets errands.Features (record v { features = None }))) v all all

  -- ---- a command

  connected_by : (policy : Policy) (psm source result : ℕ) (u : Channels) → AllKept mine u → AllKept mine (cond (eqb result 0) (with_channel psm (Connected source no_setup) u) u)
  connected_by policy psm source result u all = either (eqb result 0) (with_channel psm (Connected source no_setup) u) u (all-more (KeptAt mine) u.held _ all (λ same. tt)) all

  pub command-kept : (policy : Policy) (identifier : ℕ) (content : Content) (v : Channels) → OptionsSucceed (exchanged (Ok (command_with identifier content)) (reply_to policy (Ok (command_with identifier content)) v) v) → AllKept mine v
      → AllKept mine (hears_content policy identifier content v)
  command-kept policy identifier (reject reason rest) v succeed all = features_heard identifier None v all
  command-kept policy identifier (connection_request psm source) v succeed all =
      asked v.memory.connection kinds.Connection identifier _ (follows policy (connection_request psm source)) v (λ u kept. connected_by policy psm source (connection_result policy psm source u) u kept) all
  command-kept policy identifier (connection_response destination source answer status) v succeed all = grant_heard v policy source identifier destination answer all
  command-kept policy identifier (configuration_request destination flags options) v succeed all = options_asked policy (Ok (command_with identifier (configuration_request destination flags options))) v.memory.configuration identifier destination flags options v succeed all
  command-kept policy identifier (configuration_response source flags answer options) v succeed all =
      let zero : answer ≡ 0 = succeed Into identifier source flags answer options (inl refl) in
      subst (λ r. AllKept mine (hears_response (held_at source v) policy identifier r options v)) (sym zero) (success_heard v policy source identifier options all)
  command-kept policy identifier (disconnection_request destination source) v succeed all =
      asked v.memory.disconnection kinds.Disconnection identifier _ (follows policy (disconnection_request destination source)) v (λ u kept. parted destination source u kept) all
  command-kept policy identifier (disconnection_response destination source) v succeed all = end_heard v source destination all
  command-kept policy identifier (echo_request octets) v succeed all = asked v.memory.echo kinds.Echo identifier _ (follows policy (echo_request octets)) v (λ u kept. kept) all
  command-kept policy identifier (echo_response octets) v succeed all = all
  command-kept policy identifier (information_request kind) v succeed all = asked v.memory.information kinds.Information identifier _ (follows policy (information_request kind)) v (λ u kept. kept) all
  command-kept policy identifier (information_response kind answer rest) v succeed all = features_heard identifier (features_in kind answer rest) v all

  -- ---- a PDU on a channel

  closed_apart : (v : Channels) (held : Held) (stage : Stage) (reason : _) → (held.own ≡ mine → ⊥) → AllKept mine v → AllKept mine (closes_at stage reason held v)
  closed_apart v held (Requested request) reason apart all = all-left (KeptAt mine) _ v.held all
  closed_apart v held (Connected peer setup) reason apart all = placed v held _ all (λ same. absurd (apart same))
  closed_apart v held (Leaving peer setup request) reason apart all = placed v held _ all (λ same. absurd (apart same))
  closed_apart v held (Closing peer request checked) reason apart all = all
  closed_apart v held (Crossed peer request) reason apart all = all

  carried : (v : Channels) (carrier : Carrier) (pdu : List ℕ) (held : Held) (setup : Setup) → (held.own ≡ mine → (m : Ertm) → carrier ≡ Retransmitting m → (machine_heard (read_by m pdu) m).closed ≡ None) → KeptAt mine held → AllKept mine v → AllKept mine (carries carrier pdu held setup v)
  carried v (Plain agreed waiting) pdu held setup stands is all = all
  carried v (Retransmitting m) pdu held setup stands is all = by (machine_heard (read_by m pdu) m).closed refl
    where
      after : Ertm
      after = machine_heard (read_by m pdu) m

      by : (shut : Option ErtmReason) → after.closed ≡ shut → AllKept mine (settles_machine shut after held setup v)
      by None now = setup_kept v held _ all is
      by (Some reason) now = closed_apart v held held.stage _ (λ same. let never : None ≡ Some reason = sym (stands same m refl) ∙ now in cc) all

  opened_with : (v : Channels) (own : Own) (held : Held) (setup : Setup) → KeptAt mine held → AllKept mine v → AllKept mine (opens_with own held setup v)
  opened_with v Unasked held setup is all = all
  opened_with v (Asking request options) held setup is all = granted v held setup all is
  opened_with v Granted held setup is all = all

  pub taken-kept : (own : ℕ) (pdu : List ℕ) (v : Channels) → ((held : Held) (setup : Setup) → held_at own v ≡ Some held → setup_of held.stage ≡ Some setup → held.own ≡ mine → Withstands setup.own setup.carrier pdu) → AllKept mine v → AllKept mine (takes own pdu v)
  taken-kept own pdu v stands all = by (held_at own v) refl
    where
      with_carrier : (held : Held) (setup : Setup) → KeptAt mine held → (carrier : Option Carrier) → (held.own ≡ mine → Withstands setup.own carrier pdu) → AllKept mine (takes_with carrier pdu held setup v)
      with_carrier held setup is None so = all
      with_carrier held setup is (Some carrier) so = taken (is_taken_with setup.own carrier pdu) refl
        where
          after : Channels
          after = carries carrier pdu (with_setup held (granted_setup setup)) (granted_setup setup) (opens_with setup.own held setup v)

          taken : (b : Bool) → is_taken_with setup.own carrier pdu ≡ b → AllKept mine (cond b after v)
          taken true now =
              carried (opens_with setup.own held setup v) carrier pdu (with_setup held (granted_setup setup)) (granted_setup setup)
              (λ at m same. so at m (ap Some same) (sym (ap (λ c. is_taken_with setup.own c pdu) same) ∙ now)) (λ same. kept-with (granted_setup setup) held.stage (is same)) (opened_with v setup.own held setup is all)
          taken false now = all

      on : (held : Held) → held_at own v ≡ Some held → (setup : Option Setup) → setup_of held.stage ≡ setup → AllKept mine (takes_on setup pdu held v)
      on held found None has = all
      on held found (Some setup) has = with_carrier held setup (found-kept own v held all found) setup.carrier (stands held setup found has)

      by : (held : Option Held) → held_at own v ≡ held → AllKept mine (takes_held held pdu v)
      by None found = all
      by (Some held) found = on held found (setup_of held.stage) refl

  -- ---- what the host does

  pub calls-kept : (psm : ℕ) (v : Channels) → AllKept mine v → AllKept mine (connected psm v)
  calls-kept psm v all = either (can_connect v) (asks (errands.Connection v.next) (with_channel psm (Requested (new_request v)) v)) v (all-more (KeptAt mine) v.held _ all (λ same. tt)) all

  pub features-kept : (v : Channels) → AllKept mine v → AllKept mine (asks_features v)
  features-kept v all = either (is_some v.features) v (asks errands.Features (record v { features = Some (new_request v) })) all all

  pub leaves-kept : (own : ℕ) (v : Channels) → AllKept mine v → AllKept mine (disconnected own v)
  leaves-kept own v all = by (held_at own v)
    where
      at : (held : Held) (stage : Stage) → held.stage ≡ stage → AllKept mine (disconnected_at stage held v)
      at held (Requested request) is = subst (λ s. AllKept mine (closes_at s OwnClosed held v)) (sym is) (all-left (KeptAt mine) _ v.held all)
      at held (Connected peer setup) is = placed v held _ all (λ same. tt)
      at held (Leaving peer setup request) is = all
      at held (Closing peer request checked) is = all
      at held (Crossed peer request) is = all

      by : (held : Option Held) → AllKept mine (disconnected_held held v)
      by None = all
      by (Some held) = at held held.stage refl

  pub sends-kept : (own : ℕ) (sdu : List ℕ) (v : Channels) → AllKept mine v → AllKept mine (sends own sdu v)
  sends-kept own sdu v all = by (held_at own v) refl
    where
      on : (held : Held) → KeptAt mine held → (setup : Option Setup) → AllKept mine (sends_on setup sdu held v)
      on held is None = all
      on held is (Some setup) = setup_kept v held (sends_setup setup sdu) all is

      by : (held : Option Held) → held_at own v ≡ held → AllKept mine (sends_held held sdu v)
      by None found = all
      by (Some held) found = on held (found-kept own v held all found) (setup_of held.stage)

  -- ---- what it gives

  counted_at : (f : Stage → Stage) → ((stage : Stage) → IsKept stage → IsKept (f stage)) → (own : ℕ) (v : Channels) → AllKept mine v → AllKept mine (stage_given f (held_at own v) v)
  counted_at f keeps own v all = by (held_at own v) refl
    where
      by : (held : Option Held) → held_at own v ≡ held → AllKept mine (stage_given f held v)
      by None found = all
      by (Some held) found = placed v held (f held.stage) all (λ same. keeps held.stage (found-kept own v held all found same))

  counts_kept : (errand : Errand) (v : Channels) → AllKept mine v → AllKept mine (counted errand v)
  counts_kept (errands.Connection own) v all = counted_at connection_given call_given own v all
  counts_kept (errands.Configuration own) v all = counted_at configuration_given options_given own v all
  counts_kept (errands.Disconnection own) v all = counted_at disconnection_given end_given own v all
  counts_kept errands.Features v all = all

  pub gives-kept : (v : Channels) → AllKept mine v → AllKept mine (after_given v)
  gives-kept v all = by v.queue
    where
      on : (held : Held) → KeptAt mine held → (setup : Option Setup) → AllKept mine (carrier_spent setup held v)
      on held is None = all
      on held is (Some setup) = setup_kept v held _ all is

      first : (held : Option Held) → find gives v.held ≡ held → AllKept mine (held_given held v)
      first None found = all
      first (Some held) found = on held (all-found (KeptAt mine) gives v.held held all found) (setup_of held.stage)

      by : (queue : List Queued) → AllKept mine (queue_given queue v)
      by [] = first (find gives v.held) refl
      by (Answer command ∷ behind) = all
      by (Ask errand ∷ behind) = counts_kept errand (record v { queue = behind }) all
