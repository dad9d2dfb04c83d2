-- What stays so of each channel that is there while the peer suggests no other options.
use Rattle.std.proofs.Common.{◌≡◌, ℕ, List, [], ◌∷◌, map, Bool, true, false, cond, eqb, ◌&&◌, Option, Some, None, Result, Ok, Err, refl, sym, ap, subst}
use Rattle.std.specs.Prelude.{find, is_some, nat_le, option_map}
use Rattle.std.specs.List.{AllByRecursion}
use Rattle.std.proofs.lemmas.Bool.{ne_eqb}
use Rattle.channel_laws.specs.ertm_model.specs.declared.reason.ErtmReason.{ErtmReason}
use Rattle.channel_laws.specs.ertm_model.specs.Giving.{timed}
use Rattle.channel_laws.specs.ertm_model.specs.Value.{Ertm}
use Rattle.channel_laws.specs.l2cap_config.specs.declared.agreement.ConfigAnswer.TheVariants.{Accept, Unacceptable, Unknown}
use Rattle.channel_laws.specs.l2cap_config.specs.declared.agreement.Settled.TheVariants.{Accepted, Again, Wait, Never}
use Rattle.channel_laws.specs.l2cap_config.specs.declared.options.Options.{Options}
use Rattle.channel_laws.specs.l2cap_config.specs.declared.options.ConfigRefusal.{ConfigRefusal}
use Rattle.channel_laws.specs.l2cap_config.specs.Agreement.{keeps_mode, requested, settled}
use Rattle.channel_laws.specs.l2cap_config.specs.Reading.{options_read}
use Rattle.channel_laws.specs.l2cap_signal.specs.Commands.{Content, reject, connection_request, connection_response, configuration_request, configuration_response, disconnection_request, disconnection_response, echo_request, echo_response, information_request, information_response}
use Rattle.channel_laws.specs.channel_model.specs.declared.errand.Errand.{Errand}
use Rattle.channel_laws.specs.channel_model.specs.declared.errand.Errand.TheVariants as errands
use Rattle.channel_laws.specs.channel_model.specs.declared.event.ChannelEvent.TheVariants.{Features}
use Rattle.channel_laws.specs.channel_model.specs.declared.event.CloseReason.{CloseReason}
use Rattle.channel_laws.specs.channel_model.specs.declared.event.CloseReason.TheVariants.{Refused, OwnClosed, NoAgreement, RetryLimit}
use Rattle.channel_laws.specs.channel_model.specs.Answers.{connection_result}
use Rattle.channel_laws.specs.channel_model.specs.Asking.{Fired, StillDue, OnceMore, Spent, fired, new_request, first_options, asks}
use Rattle.channel_laws.specs.channel_model.specs.Calls.{carrier_with, can_connect, disconnected_at, disconnected_held, disconnected, sends_setup, sends_on, sends_held, sends}
use Rattle.channel_laws.specs.channel_model.specs.Carrying.{machine_heard, read_by, is_taken_with, carries, opens_with, reason_of, settles_machine, takes_with, takes_on, takes_held, takes}
use Rattle.channel_laws.specs.channel_model.specs.Changing.{has_own, in_place_of, held_at, is_open, is_peer, setup_of, stage_with, with_setup, to_setup, forgets, tells}
use Rattle.channel_laws.specs.channel_model.specs.Closing.{closes, closes_at, peer_closes_at, ends, ends_at}
use Rattle.channel_laws.specs.channel_model.specs.Configuring.{Verdict, NoChannel, TooLate, Unreadable, Incomplete, Judged, verdict, accepted_setup, accepts_with, without_parts, refused_setup, follows_verdict, opens_if, granted_setup, grants}
use Rattle.channel_laws.specs.channel_model.specs.Following.{with_channel, follows_setup, follows_configuration, follows_disconnection, follows}
use Rattle.channel_laws.specs.channel_model.specs.Giving.{carrier_given, own_given, setup_given, gives, connection_given, configuration_given, disconnection_given, stage_given, counted, carrier_spent, held_given, queue_given, after_given}
use Rattle.channel_laws.specs.channel_model.specs.Hearing.{hears_content}
use Rattle.channel_laws.specs.channel_model.specs.Policies.{Policy}
use Rattle.channel_laws.specs.channel_model.specs.Responses.{is_fresh_endpoint, connects, hears_connected, hears_grant_at, hears_grant, hears_settled, hears_options, is_asked, hears_response_on, hears_response, hears_end, has_identifier, hears_features, features_in}
use Rattle.channel_laws.specs.channel_model.specs.Timing.{fires, times_setup, times_carrier, times_stage, times_held, loses_end, times_end_at, times_end, times_features, loses_features}
use Rattle.channel_laws.specs.channel_model.specs.Value.{Request, Queued, Answer, Ask, Own, Unasked, Asking, Granted, Carrier, Plain, Retransmitting, Setup, no_setup, Stage, Requested, Connected, Leaving, Closing, Crossed, Held, Channels}
use Rattle.channel_laws.specs.channel_model.proofs.Going.{staged}
use Rattle.channel_laws.specs.channel_model.proofs.Walking.{found-own}
use Rattle.channel_laws.specs.Runs.{Occurrence, Comes, Connects, AsksFeatures, Disconnects, Sends, Gives, Fires, Tells, value_after}
use Rattle.channel_laws.specs.Views.{peer_of}
use Rattle.channel_laws.proofs.Converses.{is_single}
use Rattle.channel_laws.proofs.Replying.{is_response}
use Rattle.lasting_laws.proofs.Kept.{all-placed, all-left, all-more, all-found}

-- ---- something of each channel that is there

-- by its PSM and both endpoints
abbrev pub OfSetup : Type 1
OfSetup = (psm own peer : ℕ) → Setup → Type 0

-- It stays where the own request for options does, and accepted options are not lost; where one is made as the peer's are accepted; and where it is given. And it
-- is so where the own request was accepted.
pub record Stays (policy : Policy) (P : OfSetup) : Type 0 where
  pub same : (psm own peer : ℕ) (before after : Setup) → after.own ≡ before.own → (is_some before.carrier ≡ true → is_some after.carrier ≡ true) → P psm own peer before → P psm own peer after
  pub made : (psm own peer : ℕ) (before after : Setup) (request : Request) → before.own ≡ Unasked → after.own ≡ Asking request (first_options (policy.wish psm)) → is_some after.carrier ≡ true → P psm own peer before → P psm own peer after
  pub given : (psm own peer : ℕ) (setup : Setup) → P psm own peer setup → P psm own peer (setup_given setup)
  pub granted : (psm own peer : ℕ) (setup : Setup) → setup.own ≡ Granted → P psm own peer setup

abbrev pub StageOf : OfSetup → (psm own : ℕ) → Stage → Type 0
StageOf P psm own (Requested request) = Unit {0}
StageOf P psm own (Connected peer setup) = P psm own peer setup
StageOf P psm own (Leaving peer setup request) = P psm own peer setup
StageOf P psm own (Closing peer request checked) = Unit {0}
StageOf P psm own (Crossed peer request) = Unit {0}

abbrev pub HeldOf : OfSetup → Held → Type 0
HeldOf P held = StageOf P held.psm held.own held.stage

abbrev pub AllOf : OfSetup → Channels → Type 0
AllOf P v = AllByRecursion (HeldOf P) v.held

-- of a channel with its endpoint of the peer
abbrev pub On : OfSetup → Held → Setup → Type 0
On P held setup = (peer : ℕ) → peer_of held.stage ≡ Some peer → P held.psm held.own peer setup

pub setup-so : (P : OfSetup) (held : Held) (setup : Setup) → HeldOf P held → setup_of held.stage ≡ Some setup → On P held setup
setup-so P held setup is has peer to = by held.stage is has to
  where
    it : (at : ℕ) (s : Setup) → P held.psm held.own at s → s ≡ setup → at ≡ peer → P held.psm held.own peer setup
    it at s so same here = subst (λ p. P held.psm held.own p setup) here (subst (P held.psm held.own at) same so)

    by : (stage : Stage) → StageOf P held.psm held.own stage → setup_of stage ≡ Some setup → peer_of stage ≡ Some peer → P held.psm held.own peer setup
    by (Requested request) so had at = cc
    by (Connected other s) so had at = let same : s ≡ setup = cc in let here : other ≡ peer = cc in it other s so same here
    by (Leaving other s request) so had at = let same : s ≡ setup = cc in let here : other ≡ peer = cc in it other s so same here
    by (Closing other request checked) so had at = cc
    by (Crossed other request) so had at = cc

with_so : (P : OfSetup) (psm own : ℕ) (setup : Setup) (stage : Stage) → ((peer : ℕ) → peer_of stage ≡ Some peer → P psm own peer setup) → StageOf P psm own (stage_with setup stage)
with_so P psm own setup (Requested request) is = tt
with_so P psm own setup (Connected peer before) is = is peer refl
with_so P psm own setup (Leaving peer before request) is = is peer refl
with_so P psm own setup (Closing peer request checked) is = tt
with_so P psm own setup (Crossed peer request) is = tt

mapped : (f : Carrier → Carrier) (carrier : Option Carrier) → is_some carrier ≡ true → is_some (option_map f carrier) ≡ true
mapped f None is = is
mapped f (Some carrier) is = refl

module _ (policy : Policy) (P : OfSetup) (stays : Stays policy P) where
  placed : (v : Channels) (held : Held) (stage : Stage) → AllOf P v → StageOf P held.psm held.own stage → AllByRecursion (HeldOf P) (map (in_place_of (staged held stage)) v.held)
  placed v held stage all is = all-placed (HeldOf P) (staged held stage) v.held is all

  pub found-so : (own : ℕ) (v : Channels) (held : Held) → AllOf P v → held_at own v ≡ Some held → HeldOf P held
  found-so own v held all found = all-found (HeldOf P) (has_own own) v.held held all found

  to_so : (v : Channels) (held : Held) (setup : Setup) → AllOf P v → On P held setup → AllOf P (to_setup held setup v)
  to_so v held setup all is = placed v held (stage_with setup held.stage) all (with_so P held.psm held.own setup held.stage is)

  kept : (held : Held) (before after : Setup) → after.own ≡ before.own → (is_some before.carrier ≡ true → is_some after.carrier ≡ true) → On P held before → On P held after
  kept held before after same carries is peer to = stays.same held.psm held.own peer before after same carries (is peer to)

  either : (b : Bool) (v w : Channels) → AllOf P v → AllOf P w → AllOf P (cond b v w)
  either true v w one other = one
  either false v w one other = other

  -- ---- a channel is closed

  closed : (v : Channels) (reason : CloseReason) (held : Held) (stage : Stage) → AllOf P v → AllOf P (closes_at stage reason held v)
  closed v reason held (Requested request) all = all-left (HeldOf P) _ v.held all
  closed v reason held (Connected peer setup) all = placed v held (Closing peer _ _) all tt
  closed v reason held (Leaving peer setup request) all = placed v held (Closing peer request _) all tt
  closed v reason held (Closing peer request checked) all = all
  closed v reason held (Crossed peer request) all = all

  ended : (v : Channels) (reason : CloseReason) (held : Held) (stage : Stage) → AllOf P v → AllOf P (ends_at stage reason held v)
  ended v reason held (Requested request) all = all
  ended v reason held (Connected peer setup) all = all
  ended v reason held (Leaving peer setup request) all = all-left (HeldOf P) _ v.held all
  ended v reason held (Closing peer request checked) all = all-left (HeldOf P) _ v.held all
  ended v reason held (Crossed peer request) all = all-left (HeldOf P) _ v.held all

  ended_by_peer : (v : Channels) (held : Held) (stage : Stage) → AllOf P v → AllOf P (peer_closes_at stage held v)
  ended_by_peer v held (Requested request) all = all
  ended_by_peer v held (Connected peer setup) all = all-left (HeldOf P) _ v.held all
  ended_by_peer v held (Leaving peer setup request) all = placed v held (Crossed peer request) all tt
  ended_by_peer v held (Closing peer request checked) all = placed v held (Crossed peer request) all tt
  ended_by_peer v held (Crossed peer request) all = all

  -- ---- the peer asks

  accepted : (v : Channels) (own : Own) (held : Held) (before after : Setup) → after.own ≡ before.own → is_some after.carrier ≡ true → AllOf P v → before.own ≡ own → On P held before → AllOf P (accepts_with own (policy.wish held.psm) held after v)
  accepted v Unasked held before after same carries all asks is =
      let setup : Setup = record after { own = Asking (new_request v) (first_options (policy.wish held.psm)) } in
      to_so v held setup all (λ peer to. stays.made held.psm held.own peer before setup (new_request v) asks refl carries (is peer to))
  accepted v (Asking request options) held before after same carries all asks is = to_so v held after all (kept held before after same (λ some. carries) is)
  accepted v Granted held before after same carries all asks is = to_so v held after all (kept held before after same (λ some. carries) is)

  refused : (v : Channels) (held : Held) (setup : Setup) → AllOf P v → On P held setup → AllOf P (cond (nat_le 3 setup.refused) (closes NoAgreement (with_setup held setup) (to_setup held setup v)) (to_setup held setup v))
  refused v held setup all is =
      let w : Channels = to_setup held setup v in
      either (nat_le 3 setup.refused) (closes NoAgreement (with_setup held setup) w) w (closed w NoAgreement (with_setup held setup) (stage_with setup held.stage) (to_so v held setup all is)) (to_so v held setup all is)

  judged : (v : Channels) (now : Verdict) (held : Held) (setup : Setup) → AllOf P v → On P held setup → AllOf P (follows_verdict now (policy.wish held.psm) held setup v)
  judged v NoChannel held setup all is = all
  judged v (TooLate peer) held setup all is = all
  judged v (Unreadable peer) held setup all is = to_so v held (without_parts setup) all (kept held setup (without_parts setup) refl (λ some. some) is)
  judged v (Incomplete peer options) held setup all is = let after : Setup = record setup { parts = options } in to_so v held after all (kept held setup after refl (λ some. some) is)
  judged v (Judged peer options (Accept given)) held setup all is = accepted v setup.own held setup (accepted_setup (policy.wish held.psm) options setup) refl refl all refl is
  judged v (Judged peer options (Unacceptable refusal given)) held setup all is = refused v held (refused_setup setup) all (kept held setup (refused_setup setup) refl (λ some. some) is)
  judged v (Judged peer options Unknown) held setup all is = to_so v held (without_parts setup) all (kept held setup (without_parts setup) refl (λ some. some) is)

  configured : (own flags : ℕ) (options : List ℕ) (v : Channels) → AllOf P v → AllOf P (follows_configuration (held_at own v) policy flags options v)
  configured own flags options v all = by (held_at own v) refl
    where
      on : (held : Held) → HeldOf P held → (setup : Option Setup) → setup_of held.stage ≡ setup → AllOf P (follows_setup setup policy held flags options v)
      on held is None has = all
      on held is (Some setup) has = judged v (verdict policy held.own flags options v) held setup all (setup-so P held setup is has)

      by : (held : Option Held) → held_at own v ≡ held → AllOf P (follows_configuration held policy flags options v)
      by None found = all
      by (Some held) found = on held (found-so own v held all found) (setup_of held.stage) refl

  parted : (destination source : ℕ) (v : Channels) → AllOf P v → AllOf P (follows_disconnection (held_at destination v) source v)
  parted destination source v all = by (held_at destination v)
    where
      by : (held : Option Held) → AllOf P (follows_disconnection held source v)
      by None = all
      by (Some held) = either (is_peer source held.stage) (peer_closes_at held.stage held v) v (ended_by_peer v held held.stage all) all

  -- of a channel that the peer asks for
  abbrev pub NewIsSo : Channels → Type 0
  NewIsSo v = (psm peer : ℕ) → P psm v.next peer no_setup

  pub follows-so : (content : Content) (v : Channels) → NewIsSo v → AllOf P v → AllOf P (follows policy content v)
  follows-so (reject reason rest) v new all = all
  follows-so (connection_request psm source) v new all =
      either (eqb (connection_result policy psm source v) 0) (with_channel psm (Connected source no_setup) v) v (all-more (HeldOf P) v.held _ all (new psm source)) all
  follows-so (connection_response destination source answer status) v new all = all
  follows-so (configuration_request destination flags options) v new all = configured destination flags options v all
  follows-so (configuration_response source flags answer options) v new all = all
  follows-so (disconnection_request destination source) v new all = parted destination source v all
  follows-so (disconnection_response destination source) v new all = all
  follows-so (echo_request octets) v new all = all
  follows-so (echo_response octets) v new all = all
  follows-so (information_request kind) v new all = all
  follows-so (information_response kind answer rest) v new all = all

  -- ---- the peer responds

  granted : (v : Channels) (held : Held) (setup : Setup) → AllOf P v → AllOf P (grants held setup v)
  granted v held setup all = by (is_some setup.carrier)
    where
      by : (b : Bool) → AllOf P (opens_if b held (to_setup held (granted_setup setup) (forgets (errands.Configuration held.own) v)))
      by true = to_so v held (granted_setup setup) all (λ peer to. stays.granted held.psm held.own peer (granted_setup setup) refl)
      by false = to_so v held (granted_setup setup) all (λ peer to. stays.granted held.psm held.own peer (granted_setup setup) refl)

  -- of a channel that the host asked for
  abbrev pub MadeIsSo : Channels → Type 0
  MadeIsSo v = (held : Held) (request : Request) → held_at held.own v ≡ Some held → held.stage ≡ Requested request → (peer : ℕ) → P held.psm held.own peer (record no_setup { own = Asking (new_request v) (first_options (policy.wish held.psm)) })

  opened : (v : Channels) (endpoint result : ℕ) (held : Held) → P held.psm held.own endpoint (record no_setup { own = Asking (new_request v) (first_options (policy.wish held.psm)) }) → AllOf P v → AllOf P (hears_connected policy endpoint result held v)
  opened v endpoint result held now all =
      let made : Channels = connects (policy.wish held.psm) endpoint held v in
      let setup : Setup = record no_setup { own = Asking (new_request v) (first_options (policy.wish held.psm)) } in
      let refused : Channels = closes (Refused result) held v in
      either (eqb result 0) (cond (is_fresh_endpoint endpoint v) made v) (cond (eqb result 1) v refused)
      (either (is_fresh_endpoint endpoint v) made v (placed v held (Connected endpoint setup) all now) all)
      (either (eqb result 1) v refused all (closed v (Refused result) held held.stage all))

  grant_heard : (v : Channels) (own identifier endpoint result : ℕ) → MadeIsSo v → AllOf P v → AllOf P (hears_grant (held_at own v) policy identifier endpoint result v)
  grant_heard v own identifier endpoint result made all = by (held_at own v) refl
    where
      at : (held : Held) (stage : Stage) → held_at held.own v ≡ Some held → held.stage ≡ stage → AllOf P (hears_grant_at stage policy identifier endpoint result held v)
      at held (Requested request) found is = either (eqb request.identifier identifier) (hears_connected policy endpoint result held v) v (opened v endpoint result held (made held request found is endpoint) all) all
      at held (Connected peer setup) found is = all
      at held (Leaving peer setup request) found is = all
      at held (Closing peer request checked) found is = all
      at held (Crossed peer request) found is = all

      by : (held : Option Held) → held_at own v ≡ held → AllOf P (hears_grant held policy identifier endpoint result v)
      by None found = all
      by (Some held) found = at held held.stage (found-own own v held found) refl

  -- other options are suggested with result 1 alone
  settled_so : (v : Channels) (result : ℕ) (options : Options) (held : Held) (setup : Setup) → eqb result 1 ≡ false → AllOf P v → AllOf P (hears_settled (settled (policy.wish held.psm) result options) held setup v)
  settled_so v result options held setup other all = by (eqb result 0) (eqb result 4) (eqb result 1) other (keeps_mode (policy.wish held.psm) options)
    where
      by : (success pending again : Bool) → again ≡ false → (keeps : Bool)
          → AllOf P (hears_settled (cond success Accepted (cond pending Wait (cond (again && keeps) (Again (requested (policy.wish held.psm) options)) Never))) held setup v)
      by true pending again is keeps = granted v held setup all
      by false true again is keeps = all
      by false false true is keeps = cc
      by false false false is keeps = closed v NoAgreement held held.stage all

  options_heard : (v : Channels) (own identifier result : ℕ) (octets : List ℕ) → eqb result 1 ≡ false → AllOf P v → AllOf P (hears_response (held_at own v) policy identifier result octets v)
  options_heard v own identifier result octets other all = by (held_at own v)
    where
      read : (held : Held) (setup : Setup) (options : Result Options ConfigRefusal) → AllOf P (hears_options options policy result held setup v)
      read held setup (Ok options) = settled_so v result options held setup other all
      read held setup (Err refusal) = all

      on : (held : Held) (setup : Option Setup) → AllOf P (hears_response_on setup policy identifier result octets held v)
      on held None = all
      on held (Some setup) = either (is_asked identifier setup.own) (hears_options (options_read octets) policy result held setup v) v (read held setup (options_read octets)) all

      by : (held : Option Held) → AllOf P (hears_response held policy identifier result octets v)
      by None = all
      by (Some held) = on held (setup_of held.stage)

  end_heard : (v : Channels) (own peer : ℕ) → AllOf P v → AllOf P (hears_end (held_at own v) peer v)
  end_heard v own peer all = by (held_at own v)
    where
      by : (held : Option Held) → AllOf P (hears_end held peer v)
      by None = all
      by (Some held) = either (is_peer peer held.stage) (ends OwnClosed held v) v (ended v OwnClosed held held.stage all) all

  features_heard : (identifier : ℕ) (given : Option ℕ) (v : Channels) → AllOf P v → AllOf P (hears_features identifier given v)
  features_heard identifier given v all = either (has_identifier identifier v.features) (tells (Features given) (forgets errands.Features (record v { features = None }))) v all all

  -- what is no suggestion
  abbrev pub SuggestsOther : Content → Type 0
  SuggestsOther content = (source flags : ℕ) (options : List ℕ) → content ≡ configuration_response source flags 1 options → ⊥

  not_one : (source flags result : ℕ) (options : List ℕ) → SuggestsOther (configuration_response source flags result options) → eqb result 1 ≡ false
  not_one source flags result options other = ne_eqb result 1 (λ one. other source flags options (ap (λ n. configuration_response source flags n options) one))

  pub answered-so : (identifier : ℕ) (content : Content) (v : Channels) → is_response content ≡ true → SuggestsOther content → MadeIsSo v → AllOf P v → AllOf P (hears_content policy identifier content v)
  answered-so identifier (reject reason rest) v is other made all = features_heard identifier None v all
  answered-so identifier (connection_request psm source) v is other made all = cc
  answered-so identifier (connection_response destination source answer status) v is other made all = grant_heard v source identifier destination answer made all
  answered-so identifier (configuration_request destination flags options) v is other made all = cc
  answered-so identifier (configuration_response source flags answer options) v is other made all = options_heard v source identifier answer options (not_one source flags answer options other) all
  answered-so identifier (disconnection_request destination source) v is other made all = cc
  answered-so identifier (disconnection_response destination source) v is other made all = end_heard v source destination all
  answered-so identifier (echo_request octets) v is other made all = cc
  answered-so identifier (echo_response octets) v is other made all = all
  answered-so identifier (information_request kind) v is other made all = cc
  answered-so identifier (information_response kind answer rest) v is other made all = features_heard identifier (features_in kind answer rest) v all

  -- ---- a PDU on a channel, and the timer

  machine_so : (v : Channels) (reason : Option ErtmReason) (m : Ertm) (held : Held) (setup : Setup) → On P held setup → AllOf P v → AllOf P (settles_machine reason m held setup v)
  machine_so v None m held setup is all = let after : Setup = record setup { carrier = Some (Retransmitting m) } in to_so v held after all (kept held setup after refl (λ some. refl) is)
  machine_so v (Some reason) m held setup is all = closed v (reason_of reason) held held.stage all

  pub taken-so : (own : ℕ) (pdu : List ℕ) (v : Channels) → AllOf P v → AllOf P (takes own pdu v)
  taken-so own pdu v all = by (held_at own v)
    where
      opened_with : (by_own : Own) (held : Held) (setup : Setup) → AllOf P (opens_with by_own held setup v)
      opened_with Unasked held setup = all
      opened_with (Asking request options) held setup = granted v held setup all
      opened_with Granted held setup = all

      carried : (u : Channels) (carrier : Carrier) (held : Held) (setup : Setup) → On P held setup → AllOf P u → AllOf P (carries carrier pdu held setup u)
      carried u (Plain agreed waiting) held setup is so = so
      carried u (Retransmitting m) held setup is so = let after : Ertm = machine_heard (read_by m pdu) m in machine_so u after.closed after held setup is so

      with_carrier : (held : Held) (setup : Setup) (carrier : Option Carrier) → AllOf P (takes_with carrier pdu held setup v)
      with_carrier held setup None = all
      with_carrier held setup (Some carrier) =
          let u : Channels = opens_with setup.own held setup v in
          either (is_taken_with setup.own carrier pdu) (carries carrier pdu (with_setup held (granted_setup setup)) (granted_setup setup) u) v
          (carried u carrier (with_setup held (granted_setup setup)) (granted_setup setup) (λ peer to. stays.granted held.psm held.own peer (granted_setup setup) refl) (opened_with setup.own held setup)) all

      on : (held : Held) (setup : Option Setup) → AllOf P (takes_on setup pdu held v)
      on held None = all
      on held (Some setup) = with_carrier held setup setup.carrier

      by : (held : Option Held) → AllOf P (takes_held held pdu v)
      by None = all
      by (Some held) = on held (setup_of held.stage)

  fired_so : (now : Fired) (errand : Errand) (spent : Channels → Channels) (v : Channels) → AllOf P v → AllOf P (spent v) → AllOf P (fires now errand spent v)
  fired_so StillDue errand spent v all so = all
  fired_so OnceMore errand spent v all so = all
  fired_so Spent errand spent v all so = so

  pub times-so : (tries own : ℕ) (v : Channels) → AllOf P v → AllOf P (times_held (held_at own v) tries v)
  times-so tries own v all = by (held_at own v) refl
    where
      carried : (held : Held) (setup : Setup) → On P held setup → (carrier : Option Carrier) → AllOf P (times_carrier carrier held setup v)
      carried held setup is None = all
      carried held setup is (Some (Plain agreed waiting)) = all
      carried held setup is (Some (Retransmitting m)) = let after : Ertm = timed m in machine_so v after.closed after held setup is all

      set : (held : Held) (setup : Setup) → On P held setup → (by_own : Own) → AllOf P (times_setup by_own tries held setup v)
      set held setup is Unasked = carried held setup is setup.carrier
      set held setup is (Asking request options) = fired_so (fired tries (errands.Configuration held.own) request v) (errands.Configuration held.own) (closes RetryLimit held) v all (closed v RetryLimit held held.stage all)
      set held setup is Granted = carried held setup is setup.carrier

      at : (held : Held) (stage : Stage) → ((setup : Setup) → setup_of stage ≡ Some setup → On P held setup) → AllOf P (times_stage stage tries held v)
      at held (Requested request) is = fired_so (fired tries (errands.Connection held.own) request v) (errands.Connection held.own) (closes RetryLimit held) v all (closed v RetryLimit held held.stage all)
      at held (Connected peer setup) is = set held setup (is setup refl) setup.own
      at held (Leaving peer setup request) is = set held setup (is setup refl) setup.own
      at held (Closing peer request checked) is = all
      at held (Crossed peer request) is = all

      by : (held : Option Held) → held_at own v ≡ held → AllOf P (times_held held tries v)
      by None found = all
      by (Some held) found = at held held.stage (λ setup has. setup-so P held setup (found-so own v held all found) has)

  pub ends-so : (tries own : ℕ) (v : Channels) → AllOf P v → AllOf P (times_end (held_at own v) tries v)
  ends-so tries own v all = by (held_at own v)
    where
      spent : (held : Held) (request : Request) (last : Channels → Channels) → AllOf P (last v) → AllOf P (fires (fired tries (errands.Disconnection held.own) request v) (errands.Disconnection held.own) last v)
      spent held request last so = fired_so (fired tries (errands.Disconnection held.own) request v) (errands.Disconnection held.own) last v all so

      at : (held : Held) (stage : Stage) → AllOf P (times_end_at stage tries held v)
      at held (Requested request) = all
      at held (Connected peer setup) = all
      at held (Leaving peer setup request) = spent held request (ends RetryLimit held) (ended v RetryLimit held held.stage all)
      at held (Closing peer request checked) = spent held request (loses_end held) (ended v RetryLimit held held.stage all)
      at held (Crossed peer request) = spent held request (loses_end held) (ended v RetryLimit held held.stage all)

      by : (held : Option Held) → AllOf P (times_end held tries v)
      by None = all
      by (Some held) = at held held.stage

  pub features-so : (tries : ℕ) (v : Channels) → AllOf P v → AllOf P (times_features v.features tries v)
  features-so tries v all = by v.features
    where
      by : (features : Option Request) → AllOf P (times_features features tries v)
      by None = all
      by (Some request) = fired_so (fired tries errands.Features request v) errands.Features loses_features v all all

  -- ---- what the host does and gives

  left_so : (v : Channels) (held : Held) (stage : Stage) → StageOf P held.psm held.own stage → AllOf P v → AllOf P (disconnected_at stage held v)
  left_so v held (Requested request) is all = closed v OwnClosed held held.stage all
  left_so v held (Connected peer setup) is all = placed v held (Leaving peer setup (new_request v)) all is
  left_so v held (Leaving peer setup request) is all = all
  left_so v held (Closing peer request checked) is all = all
  left_so v held (Crossed peer request) is all = all

  sent_so : (own : ℕ) (sdu : List ℕ) (v : Channels) → AllOf P v → AllOf P (sends own sdu v)
  sent_so own sdu v all = by (held_at own v) refl
    where
      same : (held : Held) (setup : Setup) (open' : Bool) → On P held setup → (let after : Setup = cond open' (record setup { carrier = option_map (λ (carrier : Carrier). carrier_with carrier sdu) setup.carrier }) setup in On P held after)
      same held setup true is = kept held setup (record setup { carrier = option_map (λ (carrier : Carrier). carrier_with carrier sdu) setup.carrier }) refl (mapped (λ (carrier : Carrier). carrier_with carrier sdu) setup.carrier) is
      same held setup false is = is

      on : (held : Held) → HeldOf P held → (setup : Option Setup) → setup_of held.stage ≡ setup → AllOf P (sends_on setup sdu held v)
      on held is None has = all
      on held is (Some setup) has = to_so v held (sends_setup setup sdu) all (same held setup (is_open setup) (setup-so P held setup is has))

      by : (held : Option Held) → held_at own v ≡ held → AllOf P (sends_held held sdu v)
      by None found = all
      by (Some held) found = on held (found-so own v held all found) (setup_of held.stage) refl

  call_given : (psm own : ℕ) (stage : Stage) → StageOf P psm own stage → StageOf P psm own (connection_given stage)
  call_given psm own (Requested request) is = tt
  call_given psm own (Connected peer setup) is = is
  call_given psm own (Leaving peer setup request) is = is
  call_given psm own (Closing peer request checked) is = is
  call_given psm own (Crossed peer request) is = is

  options_given : (psm own : ℕ) (stage : Stage) → StageOf P psm own stage → StageOf P psm own (configuration_given stage)
  options_given psm own (Requested request) is = tt
  options_given psm own (Connected peer setup) is = stays.given psm own peer setup is
  options_given psm own (Leaving peer setup request) is = stays.given psm own peer setup is
  options_given psm own (Closing peer request checked) is = is
  options_given psm own (Crossed peer request) is = is

  end_given : (psm own : ℕ) (stage : Stage) → StageOf P psm own stage → StageOf P psm own (disconnection_given stage)
  end_given psm own (Requested request) is = tt
  end_given psm own (Connected peer setup) is = is
  end_given psm own (Leaving peer setup request) is = is
  end_given psm own (Closing peer request checked) is = is
  end_given psm own (Crossed peer request) is = is

  counted_at : (f : Stage → Stage) → ((psm own : ℕ) (stage : Stage) → StageOf P psm own stage → StageOf P psm own (f stage)) → (own : ℕ) (v : Channels) → AllOf P v → AllOf P (stage_given f (held_at own v) v)
  counted_at f keeps own v all = by (held_at own v) refl
    where
      by : (held : Option Held) → held_at own v ≡ held → AllOf P (stage_given f held v)
      by None found = all
      by (Some held) found = placed v held (f held.stage) all (keeps held.psm held.own held.stage (found-so own v held all found))

  counts_so : (errand : Errand) (v : Channels) → AllOf P v → AllOf P (counted errand v)
  counts_so (errands.Connection own) v all = counted_at connection_given call_given own v all
  counts_so (errands.Configuration own) v all = counted_at configuration_given options_given own v all
  counts_so (errands.Disconnection own) v all = counted_at disconnection_given end_given own v all
  counts_so errands.Features v all = all

  gives_so : (v : Channels) → AllOf P v → AllOf P (after_given v)
  gives_so v all = by v.queue
    where
      on : (held : Held) → HeldOf P held → (setup : Option Setup) → setup_of held.stage ≡ setup → AllOf P (carrier_spent setup held v)
      on held is None has = all
      on held is (Some setup) has =
          let after : Setup = record setup { carrier = option_map carrier_given setup.carrier } in to_so v held after all (kept held setup after refl (mapped carrier_given setup.carrier) (setup-so P held setup is has))

      first : (held : Option Held) → find gives v.held ≡ held → AllOf P (held_given held v)
      first None found = all
      first (Some held) found = on held (all-found (HeldOf P) gives v.held held all found) (setup_of held.stage) refl

      by : (queue : List Queued) → AllOf P (queue_given queue v)
      by [] = first (find gives v.held) refl
      by (Answer command ∷ behind) = all
      by (Ask errand ∷ behind) = counts_so errand (record v { queue = behind }) all

  left_by : (own : ℕ) (v : Channels) → AllOf P v → AllOf P (disconnected own v)
  left_by own v all = by (held_at own v) refl
    where
      by : (held : Option Held) → held_at own v ≡ held → AllOf P (disconnected_held held v)
      by None found = all
      by (Some held) found = left_so v held held.stage (found-so own v held all found) all

  pub single-so : (v : Channels) (more : Occurrence) → is_single more ≡ true → AllOf P v → AllOf P (value_after policy more v)
  single-so v (Comes pdu) is all = cc
  single-so v (Connects psm) is all = either (can_connect v) (asks (errands.Connection v.next) (with_channel psm (Requested (new_request v)) v)) v (all-more (HeldOf P) v.held _ all tt) all
  single-so v AsksFeatures is all = either (is_some v.features) v (asks errands.Features (record v { features = Some (new_request v) })) all all
  single-so v (Disconnects own) is all = left_by own v all
  single-so v (Sends own sdu) is all = sent_so own sdu v all
  single-so v (Gives pdu) is all = gives_so v all
  single-so v Fires is all = cc
  single-so v Tells is all = all

-- ---- something of the own request alone

-- by the PSM of its channel and both endpoints
abbrev pub OfOwn : Type 1
OfOwn = (psm own peer : ℕ) → Own → Type 0

abbrev pub OwnOf : OfOwn → OfSetup
OwnOf Q psm own peer setup = Q psm own peer setup.own

-- it stays as one is made, and is given, and it is so of each that was accepted
pub record OwnStays (policy : Policy) (Q : OfOwn) : Type 0 where
  pub made : (psm own peer : ℕ) (request : Request) → Q psm own peer Unasked → Q psm own peer (Asking request (first_options (policy.wish psm)))
  pub given : (psm own peer : ℕ) (request : Request) (options : Options) → Q psm own peer (Asking request options) → Q psm own peer (own_given (Asking request options))
  pub granted : (psm own peer : ℕ) → Q psm own peer Granted

pub own-stays : (policy : Policy) (Q : OfOwn) → OwnStays policy Q → Stays policy (OwnOf Q)
own-stays policy Q stays = record {
  same = λ psm own peer before after same carries is. subst (Q psm own peer) (sym same) is;
  made = λ psm own peer before after request none asks carries is. subst (Q psm own peer) (sym asks) (stays.made psm own peer request (subst (Q psm own peer) none is));
  given = λ psm own peer setup is. given psm own peer setup.own is;
  granted = λ psm own peer setup granted. subst (Q psm own peer) (sym granted) (stays.granted psm own peer);
}
  where
    given : (psm own peer : ℕ) (by_own : Own) → Q psm own peer by_own → Q psm own peer (own_given by_own)
    given psm own peer Unasked is = is
    given psm own peer (Asking request options) is = stays.given psm own peer request options is
    given psm own peer Granted is = is
