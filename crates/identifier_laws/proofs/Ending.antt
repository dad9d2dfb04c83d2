-- How a request for the end of a channel comes to wait: none waited for that channel before, and it has an identifier that was not given before.
use Rattle.std.proofs.Common.{◌≡◌, ℕ, ◌≤◌, List, [], ◌∷◌, ◌++◌, map, Bool, true, false, cond, eqb, not, ◌||◌, Option, Some, None, Result, Ok, Err, refl, sym, ap, subst, ◌∙◌, ◌⊎◌, inr}
use Rattle.std.specs.Prelude.{find, filter, option_map, is_some, nat_le}
use Rattle.std.specs.Option.{option_or}
use Rattle.std.proofs.lemmas.Bool.{eqb-true}
use Rattle.channel_laws.specs.l2cap_config.specs.declared.agreement.ConfigAnswer.{ConfigAnswer}
use Rattle.channel_laws.specs.l2cap_config.specs.declared.agreement.ConfigAnswer.TheVariants.{Accept, Unacceptable, Unknown}
use Rattle.channel_laws.specs.l2cap_config.specs.declared.agreement.Settled.{Settled}
use Rattle.channel_laws.specs.l2cap_config.specs.declared.agreement.Settled.TheVariants as settles
use Rattle.channel_laws.specs.l2cap_config.specs.declared.options.ConfigRefusal.{ConfigRefusal}
use Rattle.channel_laws.specs.l2cap_config.specs.declared.options.Options.{Options}
use Rattle.channel_laws.specs.l2cap_config.specs.declared.wish.Wish.{Wish}
use Rattle.channel_laws.specs.l2cap_config.specs.Agreement.{settled}
use Rattle.channel_laws.specs.l2cap_config.specs.Reading.{options_read}
use Rattle.channel_laws.specs.l2cap_signal.specs.Commands.{Command, disconnection_request}
use Rattle.channel_laws.specs.ertm_model.specs.declared.reason.ErtmReason.{ErtmReason}
use Rattle.channel_laws.specs.ertm_model.specs.Giving.{timed}
use Rattle.channel_laws.specs.ertm_model.specs.Value.{Ertm}
use Rattle.channel_laws.specs.channel_model.specs.declared.errand.Errand.{Errand}
use Rattle.channel_laws.specs.channel_model.specs.declared.errand.Errand.TheVariants as errands
use Rattle.channel_laws.specs.channel_model.specs.declared.event.CloseReason.{CloseReason}
use Rattle.channel_laws.specs.channel_model.specs.declared.event.CloseReason.TheVariants.{Refused, NoAgreement, OwnClosed, RetryLimit}
use Rattle.channel_laws.specs.channel_model.specs.Asking.{new_request, asks_options, StillDue, OnceMore, Spent}
use Rattle.channel_laws.specs.channel_model.specs.Calls.{disconnected_at, disconnected_held, sends_setup, sends_on, sends_held}
use Rattle.channel_laws.specs.channel_model.specs.Carrying.{reason_of, settles_machine, machine_heard, read_by, carries, is_taken_with, shows, opens_with, takes_with, takes_on, takes_held}
use Rattle.channel_laws.specs.channel_model.specs.Changing.{has_own, held_at, in_place_of, has_fcs_by, is_peer, setup_of, stage_with, with_setup, to_setup, is_leaving, is_due, forgets}
use Rattle.channel_laws.specs.channel_model.specs.Closing.{closes_at, closes, peer_closes_at, ends_at, ends}
use Rattle.channel_laws.specs.channel_model.specs.Configuring.{Verdict, NoChannel, TooLate, Unreadable, Incomplete, Judged, verdict, accepted_setup, without_parts, refused_setup, accepts_with, follows_answer, follows_verdict, opens_if, granted_setup, grants}
use Rattle.channel_laws.specs.channel_model.specs.Following.{follows_setup, follows_configuration, follows_disconnection}
use Rattle.channel_laws.specs.channel_model.specs.Giving.{disconnection_at, on_held, command_of, stage_given, connection_given, configuration_given, disconnection_given, counted, carrier_given, gives, carrier_spent, held_given, queue_given}
use Rattle.channel_laws.specs.channel_model.specs.Policies.{Policy}
use Rattle.channel_laws.specs.channel_model.specs.Responses.{is_fresh_endpoint, connects, hears_connected, hears_grant_at, hears_grant, renewed_setup, hears_settled, hears_options, is_asked, hears_response_on, hears_response, hears_end}
use Rattle.channel_laws.specs.channel_model.specs.Asking.{first_options}
use Rattle.channel_laws.specs.channel_model.specs.Timing.{fires, times, times_carrier, times_setup, times_stage, times_held, loses_end, times_end_at, times_end}
use Rattle.channel_laws.specs.channel_model.specs.Value.{Request, Queued, Answer, Ask, Own, Unasked, Asking, Granted, Carrier, Plain, Retransmitting, Setup, no_setup, Stage, Requested, Connected, Leaving, Closing, Crossed, Held, Channels}
use Rattle.channel_laws.specs.channel_model.proofs.Calling.{granted-same}
use Rattle.channel_laws.specs.channel_model.proofs.Going.{staged}
use Rattle.channel_laws.specs.channel_model.proofs.Lookups.{own_of, Distinct, find-append, found-placed, find-placed, find-others, find-gone, found-distinct}
use Rattle.channel_laws.specs.channel_model.proofs.Walking.{found-own, with-found}
use Rattle.channel_laws.specs.OwnTalk.{command_with}
use Rattle.channel_laws.proofs.Identifying.{IsSame, connection_is, configuration_is, disconnection_is}

-- the request for the end of a channel
abbrev pub end_of : Held → Option Command
end_of held = disconnection_at held.stage held

-- options leave it as it is
with_end : (held : Held) (after : Setup) (stage : Stage) → disconnection_at (stage_with after stage) (staged held (stage_with after stage)) ≡ disconnection_at stage held
with_end held after (Requested request) = refl
with_end held after (Connected peer setup) = refl
with_end held after (Leaving peer setup request) = refl
with_end held after (Closing peer request checked) = refl
with_end held after (Crossed peer request) = refl

module _ (base : Channels) where
  abbrev pub was : ℕ → Option Command
  was own = command_of (errands.Disconnection own) base

  -- what may wait of a channel later
  abbrev pub Fits : ℕ → Option Command → Type 0
  Fits own None = was own ≡ None
  Fits own (Some command) = (was own ≡ Some command) ⊎ ((was own ≡ None) × (base.identifier ≤ command.identifier))

  abbrev pub AllFit : Channels → Type 0
  AllFit v = (own : ℕ) (held : Held) → held_at own v ≡ Some held → Fits own (end_of held)

  -- while identifiers do not come round
  abbrev pub Goes : Channels → Channels → Type 0
  Goes v w = base.identifier ≤ v.identifier → AllFit v → AllFit w

  -- ---- one channel

  pub still-fits : (v w : Channels) → w.held ≡ v.held → Goes v w
  still-fits v w is rises all own held found = all own held (ap (find (has_own own)) (sym is) ∙ found)

  same : (v : Channels) → Goes v v
  same v = still-fits v v refl

  either : (b : Bool) (v x y : Channels) → Goes v x → Goes v y → Goes v (cond b x y)
  either true v x y one other = one
  either false v x y one other = other

  placed : (v w : Channels) (held : Held) (stage : Stage) → find (has_own held.own) v.held ≡ Some held → w.held ≡ map (in_place_of (staged held stage)) v.held → (Fits held.own (end_of held) → Fits held.own (disconnection_at stage (staged held stage))) → AllFit v → AllFit w
  placed v w held stage found is here all own one one_found = by (eqb held.own own) refl
    where
      by : (same' : Bool) → eqb held.own own ≡ same' → Fits own (end_of one)
      by true now =
          let mine : held.own ≡ own = eqb-true held.own own now in
          let w_is : find (has_own held.own) w.held ≡ Some (staged held stage) = ap (find (has_own held.own)) is ∙ found-placed (staged held stage) held v.held found in
          let both : Some (staged held stage) ≡ Some one = sym w_is ∙ (ap (λ n. find (has_own n) w.held) mine ∙ one_found) in
          let it : staged held stage ≡ one = cc in
          subst (λ (h : Held). Fits own (end_of h)) it (subst (λ n. Fits n (disconnection_at stage (staged held stage))) mine (here (all held.own held found)))
      by false now = all own one (sym (ap (find (has_own own)) is ∙ find-placed (staged held stage) v.held own now) ∙ one_found)

  keeps : (v w : Channels) (held : Held) (stage : Stage) → find (has_own held.own) v.held ≡ Some held → w.held ≡ map (in_place_of (staged held stage)) v.held → disconnection_at stage (staged held stage) ≡ end_of held → Goes v w
  keeps v w held stage found is alike rises = placed v w held stage found is (λ fits. subst (Fits held.own) (sym alike) fits)

  asks_end : (v w : Channels) (held : Held) (stage : Stage) (command : Command) → find (has_own held.own) v.held ≡ Some held → w.held ≡ map (in_place_of (staged held stage)) v.held → end_of held ≡ None → disconnection_at stage (staged held stage) ≡ Some command → command.identifier ≡ v.identifier → Goes v w
  asks_end v w held stage command found is none new named rises =
      placed v w held stage found is (λ fits. subst (Fits held.own) (sym new) (inr (subst (Fits held.own) none fits, subst (λ n. base.identifier ≤ n) (sym named) rises)))

  drops : (v w : Channels) (held : Held) → w.held ≡ filter (λ other. not (eqb other.own held.own)) v.held → Goes v w
  drops v w held is rises all own one found = by (eqb held.own own) refl
    where
      by : (same' : Bool) → eqb held.own own ≡ same' → Fits own (end_of one)
      by true now =
          let mine : held.own ≡ own = eqb-true held.own own now in
          let none : find (has_own own) w.held ≡ None = ap (λ n. find (has_own n) w.held) (sym mine) ∙ (ap (find (has_own held.own)) is ∙ find-gone own_of held.own v.held) in
          let never : None ≡ Some one = sym none ∙ found in absurd cc
      by false now = all own one (sym (ap (find (has_own own)) is ∙ find-others own_of held.own own v.held now) ∙ found)

  pub made-fits : ((own : ℕ) → base.next ≤ own → held_at own base ≡ None) → (v w : Channels) (new : Held) → w.held ≡ v.held ++ new ∷ [] → end_of new ≡ None → base.next ≤ new.own → Goes v w
  made-fits below v w new is none high rises all own one found = by (find (has_own own) v.held) refl (eqb new.own own) refl (sym (ap (find (has_own own)) is ∙ find-append own_of own v.held new) ∙ found)
    where
      fresh : new.own ≡ own → Fits own None
      fresh mine = ap (on_held (λ h. disconnection_at h.stage h)) (below own (subst (λ n. base.next ≤ n) mine high))

      by : (before : Option Held) → find (has_own own) v.held ≡ before → (here : Bool) → eqb new.own own ≡ here → option_or before (cond here (Some new) None) ≡ Some one → Fits own (end_of one)
      by (Some held) at here now some = let it : held ≡ one = cc in all own one (at ∙ ap Some it)
      by None at true now some = let it : new ≡ one = cc in subst (λ (h : Held). Fits own (end_of h)) it (subst (Fits own) (sym none) (fresh (eqb-true new.own own now)))
      by None at false now some = cc

  set_goes : (v w : Channels) (held : Held) (after : Setup) → find (has_own held.own) v.held ≡ Some held → w.held ≡ (to_setup held after v).held → Goes v w
  set_goes v w held after found is = keeps v w held (stage_with after held.stage) found is (with_end held after held.stage)

  -- ---- a channel is closed

  closes_go : (v : Channels) (held : Held) (reason : CloseReason) (stage : Stage) → held.stage ≡ stage → find (has_own held.own) v.held ≡ Some held → Goes v (closes_at stage reason held v)
  closes_go v held reason (Requested request) is found = drops v (closes_at (Requested request) reason held v) held refl
  closes_go v held reason (Connected peer setup) is found =
      asks_end v (closes_at (Connected peer setup) reason held v) held (Closing peer (new_request v) (has_fcs_by setup)) (command_with v.identifier (disconnection_request peer held.own)) found refl (ap (λ s. disconnection_at s held) is) refl refl
  closes_go v held reason (Leaving peer setup request) is found = keeps v (closes_at (Leaving peer setup request) reason held v) held (Closing peer request (has_fcs_by setup)) found refl (sym (ap (λ s. disconnection_at s held) is))
  closes_go v held reason (Closing peer request checked) is found = same v
  closes_go v held reason (Crossed peer request) is found = same v

  closed_goes : (v : Channels) (held : Held) (reason : CloseReason) → find (has_own held.own) v.held ≡ Some held → Goes v (closes reason held v)
  closed_goes v held reason found = closes_go v held reason held.stage refl found

  peer_goes : (v : Channels) (held : Held) (stage : Stage) → held.stage ≡ stage → find (has_own held.own) v.held ≡ Some held → Goes v (peer_closes_at stage held v)
  peer_goes v held (Requested request) is found = same v
  peer_goes v held (Connected peer setup) is found = drops v (peer_closes_at (Connected peer setup) held v) held refl
  peer_goes v held (Leaving peer setup request) is found = keeps v (peer_closes_at (Leaving peer setup request) held v) held (Crossed peer request) found refl (sym (ap (λ s. disconnection_at s held) is))
  peer_goes v held (Closing peer request checked) is found = keeps v (peer_closes_at (Closing peer request checked) held v) held (Crossed peer request) found refl (sym (ap (λ s. disconnection_at s held) is))
  peer_goes v held (Crossed peer request) is found = same v

  ends_go : (v : Channels) (held : Held) (reason : CloseReason) (stage : Stage) → Goes v (ends_at stage reason held v)
  ends_go v held reason (Requested request) = same v
  ends_go v held reason (Connected peer setup) = same v
  ends_go v held reason (Leaving peer setup request) = drops v (ends_at (Leaving peer setup request) reason held v) held refl
  ends_go v held reason (Closing peer request checked) = drops v (ends_at (Closing peer request checked) reason held v) held refl
  ends_go v held reason (Crossed peer request) = drops v (ends_at (Crossed peer request) reason held v) held refl

  -- ---- options

  asked_goes : (v : Channels) (held : Held) (setup : Setup) (options : Options) → find (has_own held.own) v.held ≡ Some held → Goes v (asks_options held setup options v)
  asked_goes v held setup options found = let asked : Setup = record setup { own = Asking (new_request v) options } in set_goes v (asks_options held setup options v) held asked found refl

  grants_go : (v : Channels) (held : Held) (setup : Setup) → find (has_own held.own) v.held ≡ Some held → Goes v (grants held setup v)
  grants_go v held setup found = by (is_some setup.carrier)
    where
      by : (b : Bool) → Goes v (opens_if b held (to_setup held (granted_setup setup) (forgets (errands.Configuration held.own) v)))
      by true = set_goes v (opens_if true held (to_setup held (granted_setup setup) (forgets (errands.Configuration held.own) v))) held (granted_setup setup) found refl
      by false = set_goes v (opens_if false held (to_setup held (granted_setup setup) (forgets (errands.Configuration held.own) v))) held (granted_setup setup) found refl

  accepts_go : (v : Channels) (own : Own) (wish : Wish) (held : Held) (after : Setup) → find (has_own held.own) v.held ≡ Some held → Goes v (accepts_with own wish held after v)
  accepts_go v Unasked wish held after found = asked_goes v held after (first_options wish) found
  accepts_go v (Asking request options) wish held after found = set_goes v (to_setup held after v) held after found refl
  accepts_go v Granted wish held after found = set_goes v (accepts_with Granted wish held after v) held after found refl

  third_goes : (v : Channels) (held : Held) (after : Setup) → find (has_own held.own) v.held ≡ Some held → Goes v (closes NoAgreement (with_setup held after) (to_setup held after v))
  third_goes v held after found rises all =
      let u : Channels = to_setup held after v in
      closed_goes u (with_setup held after) NoAgreement (with-found v held after found) rises (set_goes v u held after found refl rises all)

  answer_goes : (v : Channels) (answer : ConfigAnswer) (wish : Wish) (options : Options) (held : Held) (setup : Setup) → find (has_own held.own) v.held ≡ Some held → Goes v (follows_answer answer wish options held setup v)
  answer_goes v (Accept given) wish options held setup found = accepts_go v setup.own wish held (accepted_setup wish options setup) found
  answer_goes v (Unacceptable refusal given) wish options held setup found =
      let after : Setup = refused_setup setup in
      either (nat_le 3 after.refused) v (closes NoAgreement (with_setup held after) (to_setup held after v)) (to_setup held after v) (third_goes v held after found) (set_goes v (to_setup held after v) held after found refl)
  answer_goes v Unknown wish options held setup found = set_goes v (to_setup held (without_parts setup) v) held (without_parts setup) found refl

  verdict_goes : (v : Channels) (now : Verdict) (wish : Wish) (held : Held) (setup : Setup) → find (has_own held.own) v.held ≡ Some held → Goes v (follows_verdict now wish held setup v)
  verdict_goes v NoChannel wish held setup found = same v
  verdict_goes v (TooLate peer) wish held setup found = same v
  verdict_goes v (Unreadable peer) wish held setup found = set_goes v (to_setup held (without_parts setup) v) held (without_parts setup) found refl
  verdict_goes v (Incomplete peer options) wish held setup found = let after : Setup = record setup { parts = options } in set_goes v (to_setup held after v) held after found refl
  verdict_goes v (Judged peer options answer) wish held setup found = answer_goes v answer wish options held setup found

  setup_goes : (v : Channels) (setup : Option Setup) (policy : Policy) (held : Held) (flags : ℕ) (octets : List ℕ) → find (has_own held.own) v.held ≡ Some held → Goes v (follows_setup setup policy held flags octets v)
  setup_goes v None policy held flags octets found = same v
  setup_goes v (Some setup) policy held flags octets found = verdict_goes v (verdict policy held.own flags octets v) (policy.wish held.psm) held setup found

  pub configuration-fits : (v : Channels) (own : ℕ) (held : Option Held) (policy : Policy) (flags : ℕ) (octets : List ℕ) → find (has_own own) v.held ≡ held → Goes v (follows_configuration held policy flags octets v)
  configuration-fits v own None policy flags octets is = same v
  configuration-fits v own (Some held) policy flags octets is = setup_goes v (setup_of held.stage) policy held flags octets (found-own own v held is)

  pub disconnection-fits : (v : Channels) (own : ℕ) (held : Option Held) (peer : ℕ) → find (has_own own) v.held ≡ held → Goes v (follows_disconnection held peer v)
  disconnection-fits v own None peer is = same v
  disconnection-fits v own (Some held) peer is = either (is_peer peer held.stage) v (peer_closes_at held.stage held v) v (peer_goes v held held.stage refl (found-own own v held is)) (same v)

  -- ---- what the peer responds

  connected_goes : (v : Channels) (policy : Policy) (endpoint result : ℕ) (held : Held) (request : Request) → held.stage ≡ Requested request → find (has_own held.own) v.held ≡ Some held → Goes v (hears_connected policy endpoint result held v)
  connected_goes v policy endpoint result held request is found =
      let made : Channels = connects (policy.wish held.psm) endpoint held v in
      let refused : Channels = closes (Refused result) held v in
      let asked : Setup = record no_setup { own = Asking (new_request v) (first_options (policy.wish held.psm)) } in
      let goes : Goes v made = keeps v made held (Connected endpoint asked) found refl (sym (ap (λ s. disconnection_at s held) is)) in
      either (eqb result 0) v (cond (is_fresh_endpoint endpoint v) made v) (cond (eqb result 1) v refused) (either (is_fresh_endpoint endpoint v) v made v goes (same v))
      (either (eqb result 1) v v refused (same v) (closed_goes v held (Refused result) found))

  grant_at : (v : Channels) (stage : Stage) (policy : Policy) (identifier endpoint result : ℕ) (held : Held) → held.stage ≡ stage → find (has_own held.own) v.held ≡ Some held → Goes v (hears_grant_at stage policy identifier endpoint result held v)
  grant_at v (Requested request) policy identifier endpoint result held is found = either (eqb request.identifier identifier) v (hears_connected policy endpoint result held v) v (connected_goes v policy endpoint result held request is found) (same v)
  grant_at v (Connected peer setup) policy identifier endpoint result held is found = same v
  grant_at v (Leaving peer setup request) policy identifier endpoint result held is found = same v
  grant_at v (Closing peer request checked) policy identifier endpoint result held is found = same v
  grant_at v (Crossed peer request) policy identifier endpoint result held is found = same v

  pub grant-fits : (v : Channels) (own : ℕ) (held : Option Held) (policy : Policy) (identifier endpoint result : ℕ) → find (has_own own) v.held ≡ held → Goes v (hears_grant held policy identifier endpoint result v)
  grant-fits v own None policy identifier endpoint result is = same v
  grant-fits v own (Some held) policy identifier endpoint result is = grant_at v held.stage policy identifier endpoint result held refl (found-own own v held is)

  settled_goes : (v : Channels) (now : Settled) (held : Held) (setup : Setup) → find (has_own held.own) v.held ≡ Some held → Goes v (hears_settled now held setup v)
  settled_goes v settles.Accepted held setup found = grants_go v held setup found
  settled_goes v (settles.Again options) held setup found =
      let after : Setup = renewed_setup setup in
      either (is_leaving held.stage || nat_le 3 after.renewed) v (closes NoAgreement (with_setup held after) (to_setup held after v)) (asks_options held after options v) (third_goes v held after found) (asked_goes v held after options found)
  settled_goes v settles.Wait held setup found = same v
  settled_goes v settles.Never held setup found = closed_goes v held NoAgreement found

  options_go : (v : Channels) (read : Result Options ConfigRefusal) (policy : Policy) (result : ℕ) (held : Held) (setup : Setup) → find (has_own held.own) v.held ≡ Some held → Goes v (hears_options read policy result held setup v)
  options_go v (Ok options) policy result held setup found = settled_goes v (settled (policy.wish held.psm) result options) held setup found
  options_go v (Err refusal) policy result held setup found = same v

  response_on : (v : Channels) (setup : Option Setup) (policy : Policy) (identifier result : ℕ) (octets : List ℕ) (held : Held) → find (has_own held.own) v.held ≡ Some held → Goes v (hears_response_on setup policy identifier result octets held v)
  response_on v None policy identifier result octets held found = same v
  response_on v (Some setup) policy identifier result octets held found =
      either (is_asked identifier setup.own) v (hears_options (options_read octets) policy result held setup v) v (options_go v (options_read octets) policy result held setup found) (same v)

  pub response-fits : (v : Channels) (own : ℕ) (held : Option Held) (policy : Policy) (identifier result : ℕ) (octets : List ℕ) → find (has_own own) v.held ≡ held → Goes v (hears_response held policy identifier result octets v)
  response-fits v own None policy identifier result octets is = same v
  response-fits v own (Some held) policy identifier result octets is = response_on v (setup_of held.stage) policy identifier result octets held (found-own own v held is)

  pub end-fits : (v : Channels) (held : Option Held) (peer : ℕ) → Goes v (hears_end held peer v)
  end-fits v None peer = same v
  end-fits v (Some held) peer = either (is_peer peer held.stage) v (ends OwnClosed held v) v (ends_go v held OwnClosed held.stage) (same v)

  -- ---- a PDU on a channel

  settles_go : (v : Channels) (closed : Option ErtmReason) (machine : Ertm) (held : Held) (setup : Setup) → find (has_own held.own) v.held ≡ Some held → Goes v (settles_machine closed machine held setup v)
  settles_go v None machine held setup found = let after : Setup = record setup { carrier = Some (Retransmitting machine) } in set_goes v (to_setup held after v) held after found refl
  settles_go v (Some reason) machine held setup found = closed_goes v held (reason_of reason) found

  carries_go : (v : Channels) (carrier : Carrier) (pdu : List ℕ) (held : Held) (setup : Setup) → find (has_own held.own) v.held ≡ Some held → Goes v (carries carrier pdu held setup v)
  carries_go v (Plain agreed waiting) pdu held setup found = same v
  carries_go v (Retransmitting machine) pdu held setup found = let after : Ertm = machine_heard (read_by machine pdu) machine in settles_go v after.closed after held setup found

  opened_goes : (v : Channels) (pdu : List ℕ) (held : Held) (setup : Setup) (carrier : Carrier) (own : Own) → setup.own ≡ own → find (has_own held.own) v.held ≡ Some held → setup_of held.stage ≡ Some setup
      → Goes v (cond (is_taken_with own carrier pdu) (carries carrier pdu (with_setup held (granted_setup setup)) (granted_setup setup) (opens_with own held setup v)) v)
  opened_goes v pdu held setup carrier Unasked own_is found is = same v
  opened_goes v pdu held setup carrier (Asking request options) own_is found is =
      either (shows carrier pdu) v (carries carrier pdu (with_setup held (granted_setup setup)) (granted_setup setup) (grants held setup v)) v (by (is_some setup.carrier)) (same v)
    where
      after : Held
      after = with_setup held (granted_setup setup)

      by : (b : Bool) → Goes v (carries carrier pdu after (granted_setup setup) (opens_if b held (to_setup held (granted_setup setup) (forgets (errands.Configuration held.own) v))))
      by true rises all =
          let u : Channels = opens_if true held (to_setup held (granted_setup setup) (forgets (errands.Configuration held.own) v)) in
          carries_go u carrier pdu after (granted_setup setup) (with-found v held (granted_setup setup) found) rises (set_goes v u held (granted_setup setup) found refl rises all)
      by false rises all =
          let u : Channels = opens_if false held (to_setup held (granted_setup setup) (forgets (errands.Configuration held.own) v)) in
          carries_go u carrier pdu after (granted_setup setup) (with-found v held (granted_setup setup) found) rises (set_goes v u held (granted_setup setup) found refl rises all)
  opened_goes v pdu held setup carrier Granted own_is found is =
      let alike : with_setup held (granted_setup setup) ≡ held = ap (λ (s : Stage). let h : Held = record held { stage = s } in h) (granted-same held.stage setup is own_is) in
      carries_go v carrier pdu (with_setup held (granted_setup setup)) (granted_setup setup) (found ∙ ap Some (sym alike))

  taken_on : (v : Channels) (setup : Option Setup) (pdu : List ℕ) (held : Held) → find (has_own held.own) v.held ≡ Some held → setup_of held.stage ≡ setup → Goes v (takes_on setup pdu held v)
  taken_on v None pdu held found is = same v
  taken_on v (Some setup) pdu held found is = by setup.carrier
    where
      by : (carrier : Option Carrier) → Goes v (takes_with carrier pdu held setup v)
      by None = same v
      by (Some carrier) = opened_goes v pdu held setup carrier setup.own refl found is

  pub taken-fits : (v : Channels) (own : ℕ) (held : Option Held) (pdu : List ℕ) → find (has_own own) v.held ≡ held → Goes v (takes_held held pdu v)
  taken-fits v own None pdu is = same v
  taken-fits v own (Some held) pdu is = taken_on v (setup_of held.stage) pdu held (found-own own v held is) refl

  -- ---- the timer

  times_go : (v : Channels) (tries : ℕ) (errand : Errand) (request : Request) (spent : Channels → Channels) → Goes v (spent v) → Goes v (times tries errand request spent v)
  times_go v tries errand request spent goes = by (is_due errand v) (nat_le tries request.given)
    where
      by : (due most : Bool) → Goes v (fires (cond due StillDue (cond most Spent OnceMore)) errand spent v)
      by true most = same v
      by false true = goes
      by false false = same v

  carrier_goes : (v : Channels) (carrier : Option Carrier) (held : Held) (setup : Setup) → find (has_own held.own) v.held ≡ Some held → Goes v (times_carrier carrier held setup v)
  carrier_goes v None held setup found = same v
  carrier_goes v (Some (Plain agreed waits)) held setup found = same v
  carrier_goes v (Some (Retransmitting machine)) held setup found = settles_go v (timed machine).closed (timed machine) held setup found

  own_goes : (v : Channels) (own : Own) (tries : ℕ) (held : Held) (setup : Setup) → find (has_own held.own) v.held ≡ Some held → Goes v (times_setup own tries held setup v)
  own_goes v Unasked tries held setup found = carrier_goes v setup.carrier held setup found
  own_goes v (Asking request options) tries held setup found = times_go v tries (errands.Configuration held.own) request (closes RetryLimit held) (closed_goes v held RetryLimit found)
  own_goes v Granted tries held setup found = carrier_goes v setup.carrier held setup found

  stage_goes : (v : Channels) (stage : Stage) (tries : ℕ) (held : Held) → find (has_own held.own) v.held ≡ Some held → Goes v (times_stage stage tries held v)
  stage_goes v (Requested request) tries held found = times_go v tries (errands.Connection held.own) request (closes RetryLimit held) (closed_goes v held RetryLimit found)
  stage_goes v (Connected peer setup) tries held found = own_goes v setup.own tries held setup found
  stage_goes v (Leaving peer setup request) tries held found = own_goes v setup.own tries held setup found
  stage_goes v (Closing peer request checked) tries held found = same v
  stage_goes v (Crossed peer request) tries held found = same v

  pub timed-fits : (v : Channels) (own : ℕ) (held : Option Held) (tries : ℕ) → find (has_own own) v.held ≡ held → Goes v (times_held held tries v)
  timed-fits v own None tries is = same v
  timed-fits v own (Some held) tries is = stage_goes v held.stage tries held (found-own own v held is)

  loses_goes : (v : Channels) (held : Held) (stage : Stage) → held.stage ≡ stage → Goes v (loses_end held v)
  loses_goes v held stage is rises all = let u : Channels = ends RetryLimit held v in still-fits u (loses_end held v) refl (by held.stage) (ends_go v held RetryLimit held.stage rises all)
    where
      by : (s : Stage) → base.identifier ≤ (ends_at s RetryLimit held v).identifier
      by (Requested request) = rises
      by (Connected peer setup) = rises
      by (Leaving peer setup request) = rises
      by (Closing peer request checked) = rises
      by (Crossed peer request) = rises

  leaves_go : (v : Channels) (stage : Stage) (tries : ℕ) (held : Held) → Goes v (times_end_at stage tries held v)
  leaves_go v (Requested request) tries held = same v
  leaves_go v (Connected peer setup) tries held = same v
  leaves_go v (Leaving peer setup request) tries held = times_go v tries (errands.Disconnection held.own) request (ends RetryLimit held) (ends_go v held RetryLimit held.stage)
  leaves_go v (Closing peer request checked) tries held = times_go v tries (errands.Disconnection held.own) request (loses_end held) (loses_goes v held held.stage refl)
  leaves_go v (Crossed peer request) tries held = times_go v tries (errands.Disconnection held.own) request (loses_end held) (loses_goes v held held.stage refl)

  pub ended-fits : (v : Channels) (held : Option Held) (tries : ℕ) → Goes v (times_end held tries v)
  ended-fits v None tries = same v
  ended-fits v (Some held) tries = leaves_go v held.stage tries held

  -- ---- what the host does by itself

  left_at : (v : Channels) (held : Held) (stage : Stage) → held.stage ≡ stage → find (has_own held.own) v.held ≡ Some held → Goes v (disconnected_at stage held v)
  left_at v held (Requested request) is found = closed_goes v held OwnClosed found
  left_at v held (Connected peer setup) is found =
      asks_end v (disconnected_at (Connected peer setup) held v) held (Leaving peer setup (new_request v)) (command_with v.identifier (disconnection_request peer held.own)) found refl (ap (λ s. disconnection_at s held) is) refl refl
  left_at v held (Leaving peer setup request) is found = same v
  left_at v held (Closing peer request checked) is found = same v
  left_at v held (Crossed peer request) is found = same v

  pub left-fits : (v : Channels) (own : ℕ) (held : Option Held) → find (has_own own) v.held ≡ held → Goes v (disconnected_held held v)
  left-fits v own None is = same v
  left-fits v own (Some held) is = left_at v held held.stage refl (found-own own v held is)

  sent_on : (v : Channels) (setup : Option Setup) (sdu : List ℕ) (held : Held) → find (has_own held.own) v.held ≡ Some held → Goes v (sends_on setup sdu held v)
  sent_on v None sdu held found = same v
  sent_on v (Some setup) sdu held found = set_goes v (sends_on (Some setup) sdu held v) held (sends_setup setup sdu) found refl

  pub sent-fits : (v : Channels) (own : ℕ) (held : Option Held) (sdu : List ℕ) → find (has_own own) v.held ≡ held → Goes v (sends_held held sdu v)
  sent-fits v own None sdu is = same v
  sent-fits v own (Some held) sdu is = sent_on v (setup_of held.stage) sdu held (found-own own v held is)

  -- ---- the next PDU is given

  counted_at : (v : Channels) (given : Stage → Stage) (own : ℕ) (held : Option Held) → IsSame given → find (has_own own) v.held ≡ held → Goes v (stage_given given held v)
  counted_at v given own None alike is = same v
  counted_at v given own (Some held) alike is = keeps v (stage_given given (Some held) v) held (given held.stage) (found-own own v held is) refl (alike.ending held held.stage)

  counted_goes : (v : Channels) (errand : Errand) → Goes v (counted errand v)
  counted_goes v (errands.Connection own) = counted_at v connection_given own (held_at own v) connection_is refl
  counted_goes v (errands.Configuration own) = counted_at v configuration_given own (held_at own v) configuration_is refl
  counted_goes v (errands.Disconnection own) = counted_at v disconnection_given own (held_at own v) disconnection_is refl
  counted_goes v errands.Features = still-fits v (counted errands.Features v) refl

  given_goes : (v : Channels) (held : Option Held) → find gives v.held ≡ held → Distinct own_of v.held → Goes v (held_given held v)
  given_goes v None is lone = same v
  given_goes v (Some held) is lone = by (setup_of held.stage)
    where
      by : (setup : Option Setup) → Goes v (carrier_spent setup held v)
      by None = same v
      by (Some setup) =
          let after : Setup = record setup { carrier = option_map carrier_given setup.carrier } in
          set_goes v (carrier_spent (Some setup) held v) held after (found-distinct own_of gives v.held held lone is) refl

  pub queue-fits : (v : Channels) (queue : List Queued) → Distinct own_of v.held → Goes v (queue_given queue v)
  queue-fits v [] lone = given_goes v (find gives v.held) refl lone
  queue-fits v (Answer command ∷ behind) lone = still-fits v (queue_given (Answer command ∷ behind) v) refl
  queue-fits v (Ask errand ∷ behind) lone = let u : Channels = record v { queue = behind } in λ rises all. counted_goes u errand rises (still-fits v u refl rises all)
