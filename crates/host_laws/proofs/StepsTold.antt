-- A client takes a step: the channel that it opens and the SDU that it sends are as it was told.
use Rattle.std.proofs.Common.{◌≡◌, ℕ, ◌*◌, ◌-◌, Bool, true, false, cond, eqb, ◌&&◌, List, length, Option, Some, None, Ok, Err, refl, sym, ap, subst, ◌∙◌}
use Rattle.std.specs.Prelude.{IfSome, is_some, nat_lt, option_map}
use Rattle.std.specs.List.{AllByRecursion}
use Rattle.std.proofs.lemmas.Bool.{eqb-true, eq-eqb}
use Rattle.shelf_model.specs.bt_base.specs.declared.settings.Transport.{Transport}
use Rattle.shelf_model.specs.bt_base.specs.declared.settings.Transport.TheVariants.{L2cap, Rfcomm}
use Rattle.shelf_model.specs.push_terms.specs.declared.outcome.Outcome.{Outcome}
use Rattle.shelf_model.specs.rfcomm_frames.specs.declared.refusal.MuxRefusal.TheVariants.{Short, BadExtension}
use Rattle.shelf_model.specs.rfcomm_frames.specs.Answers.{Answer}
use Rattle.shelf_model.specs.rfcomm_frames.specs.FrameReading.{frame_answer}
use Rattle.shelf_model.specs.rfcomm_frames.specs.Frames.{PlainFrame}
use Rattle.shelf_model.specs.sdp_elements.specs.declared.target.Target.{Target}
use Rattle.shelf_model.specs.sdp_elements.specs.Targets.{is_service_psm, is_server_channel}
use Rattle.shelf_model.specs.sdp_client.specs.Asking.{Asking, is_due, after_request, request_octets}
use Rattle.push_laws.specs.link_talk.specs.declared.party.Party.{Party}
use Rattle.push_laws.specs.link_talk.specs.Sayings.{Saying}
use Rattle.push_laws.specs.push_model.specs.declared.course.Point.TheVariants.{Due, Asked}
use Rattle.push_laws.specs.push_model.specs.declared.course.Stage.{Stage}
use Rattle.push_laws.specs.push_model.specs.declared.course.Stage.TheVariants.{Rest, Link, SearchChannel, Search, SearchEnd, Features, ObjectChannel, Object, ObjectEnd, LinkEnd, Over}
use Rattle.push_laws.specs.push_model.specs.Client.{Client}
use Rattle.push_laws.specs.push_model.specs.Events.{kept_of, rfcomm_psm}
use Rattle.push_laws.specs.push_model.specs.Payloads.{Payload, Octets, Framed}
use Rattle.push_laws.specs.push_model.specs.Shown.{way_of}
use Rattle.push_laws.specs.push_model.specs.Steps.{Part, Step, Wait, MakeLink, AskFeatures, OpenChannel, SendSdu, CloseChannel, BreakLink, Ended, NoMemory, Stepped, sends_sdu, rests, tells_end, steps, steps_at, steps_object}
use Rattle.push_laws.proofs.Late.{anchor_of}
use Rattle.push_laws.proofs.Opening.{course_of, psm_over, Names, At}
use Rattle.shelf_model.specs.host_model.specs.Pdus.{sdu_of, mux_octets}
use Rattle.host_laws.specs.Seen.{spoken_of}
use Rattle.host_laws.specs.Services.{targets_told, is_number, tells_psm, tells_channel, dlci_of, tells_dlci, frame_read, asks_as_told, answers_peer, goes_as_told}
use Rattle.host_laws.proofs.FramesSent.{PayloadIs, StepIs, IsOver, object_sends}
use Rattle.host_laws.proofs.Knowing.{IsTold, Knows}
use Rattle.host_laws.proofs.MuxReplies.{GoesOn, read_again}
use Rattle.host_laws.proofs.ServicesTold.{or_right, or_goes}

-- ---- a step

-- the frame that octets are read as, where there is one
abbrev pub FrameGoes : List Target → List ℕ → Type 0
FrameGoes told octets = IfSome (frame_read (frame_answer octets)) (λ frame. goes_as_told told frame ≡ true)

abbrev pub StepGoes : Transport → List Target → Step → Type 0
StepGoes transport told Wait = Unit {0}
StepGoes transport told MakeLink = Unit {0}
StepGoes transport told AskFeatures = Unit {0}
StepGoes transport told (OpenChannel psm) = asks_as_told transport told psm ≡ true
StepGoes transport told (SendSdu psm payload) = transport ≡ Rfcomm → FrameGoes told (sdu_of payload)
StepGoes transport told (CloseChannel psm) = Unit {0}
StepGoes transport told BreakLink = Unit {0}
StepGoes transport told (Ended outcome) = Unit {0}
StepGoes transport told NoMemory = Unit {0}

-- ---- octets that are no frame

pub never : {X : Type 0} → L2cap ≡ Rfcomm → X
never is = cc

-- a request for services begins with an octet that no frame begins with
pub no_frame : (told : List Target) (query : Asking) → FrameGoes told (request_octets query)
unfolding frame_answer
no_frame told query = by (nat_lt (length (request_octets query)) 4)
  where
    by : (short : Bool) → IfSome (frame_read (cond short (Err Short) (Err BadExtension))) (λ frame. goes_as_told told frame ≡ true)
    by true = tt
    by false = tt

-- ---- what was told

pub kept_number : (test : ℕ → Bool) (found : Option ℕ) (number : ℕ) → kept_of test found ≡ Some number → found ≡ Some number
kept_number test None number is = cc
kept_number test (Some other) number is = by (test other) is
  where
    by : (b : Bool) → cond b (Some other) None ≡ Some number → Some other ≡ Some number
    by true now = now
    by false now = cc

pub search_asked : (transport : Transport) (told : List Target) → asks_as_told transport told 0x0001 ≡ true
search_asked L2cap told = refl
search_asked Rfcomm told = refl

module _ (party : Party) (said : List Saying) (c : Client) (knows : Knows party c said) (names : Names knows.walk (anchor_of c)) where
  abbrev told : List Target
  told = targets_told party (spoken_of said)

  told_one : IsTold party said names.target
  told_one = (subst (AllByRecursion (IsTold party said)) names.only knows.told).0

  -- of the channel that it opens
  psm_told : (t : Transport) → c.transport ≡ t → asks_as_told t told c.psm ≡ true
  psm_told L2cap is =
      let over : knows.walk.transport ≡ L2cap = sym names.same ∙ is in
      let named : names.target.l2cap ≡ Some names.number = kept_number is_service_psm names.target.l2cap names.number (ap (λ (x : Transport). way_of x names.target) (sym over) ∙ names.named) in
      let psm : names.number ≡ c.psm = sym (names.psm_is ∙ ap (λ (x : Transport). psm_over x names.number) over) in
      or_right (eqb c.psm 0x0001) (tells_psm told c.psm) (told_one (λ (target : Target). is_number c.psm target.l2cap) (ap (is_number c.psm) named ∙ eq-eqb names.number c.psm psm))
  psm_told Rfcomm is =
      let over : knows.walk.transport ≡ Rfcomm = sym names.same ∙ is in
      let named : names.target.rfcomm ≡ Some names.number = kept_number is_server_channel names.target.rfcomm names.number (ap (λ (x : Transport). way_of x names.target) (sym over) ∙ names.named) in
      let psm : c.psm ≡ rfcomm_psm = names.psm_is ∙ ap (λ (x : Transport). psm_over x names.number) over in
      or_right (eqb c.psm 0x0001) (eqb c.psm 0x0003 && tells_channel told) (ap (λ b. b && tells_channel told) (eq-eqb c.psm 0x0003 psm) ∙ told_one (λ (target : Target). is_some target.rfcomm) (ap is_some named))

  -- and of the data link connection
  dlci_told : c.transport ≡ Rfcomm → (knows.walk.transport ≡ Rfcomm → c.mux.dlci ≡ 2 * c.channel) → tells_dlci told c.mux.dlci ≡ true
  dlci_told is dlci =
      let over : knows.walk.transport ≡ Rfcomm = sym names.same ∙ is in
      let named : names.target.rfcomm ≡ Some names.number = kept_number is_server_channel names.target.rfcomm names.number (ap (λ (x : Transport). way_of x names.target) (sym over) ∙ names.named) in
      let twice : 2 * names.number ≡ c.mux.dlci = sym (dlci over ∙ ap (λ n. 2 * n) (names.channel_is over)) in
      told_one (λ (target : Target). is_number c.mux.dlci (dlci_of target)) (ap (λ o. is_number c.mux.dlci (option_map (λ n. 2 * n) o)) named ∙ eq-eqb (2 * names.number) c.mux.dlci twice)

-- ---- frames

pub frame_goes : (told : List Target) (dlci : ℕ) (frame : PlainFrame) → tells_dlci told dlci ≡ true → GoesOn dlci frame → goes_as_told told frame ≡ true
frame_goes told dlci frame tells goes =
    or_goes (answers_peer frame.kind) _ (answers_peer frame.kind) _ (λ is. is)
    (or_goes (eqb frame.dlci 0) (eqb frame.dlci dlci) (eqb frame.dlci 0) (tells_dlci told frame.dlci) (λ is. is) (λ is. subst (λ n. tells_dlci told n ≡ true) (sym (eqb-true frame.dlci dlci is)) tells)) goes

pub written_goes : (told : List Target) (dlci : ℕ) (frame : PlainFrame) → tells_dlci told dlci ≡ true → GoesOn dlci frame → FrameGoes told (mux_octets frame)
written_goes told dlci frame tells goes = by (frame_answer (mux_octets frame)) refl
  where
    by : (found : Answer) → frame_answer (mux_octets frame) ≡ found → IfSome (frame_read found) (λ read. goes_as_told told read ≡ true)
    by (Ok read) is = frame_goes told dlci read tells (read_again dlci frame read is goes)
    by (Err refusal) is = tt

pub payload_goes : (transport t : Transport) (targets : List Target) (dlci : ℕ) (payload : Payload) → t ≡ transport → (transport ≡ Rfcomm → tells_dlci targets dlci ≡ true) → PayloadIs (GoesOn dlci) t payload → transport ≡ Rfcomm → FrameGoes targets (sdu_of payload)
payload_goes transport t targets dlci (Octets octets) same tells is muxed = never (sym is ∙ (same ∙ muxed))
payload_goes transport t targets dlci (Framed frame) same tells is muxed = written_goes targets dlci frame (tells muxed) is

pub object_step : (transport t : Transport) (targets : List Target) (dlci : ℕ) (step : Step) → t ≡ transport → (transport ≡ Rfcomm → tells_dlci targets dlci ≡ true) → StepIs (GoesOn dlci) t step → StepGoes transport targets step
object_step transport t targets dlci Wait same tells is = tt
object_step transport t targets dlci MakeLink same tells is = tt
object_step transport t targets dlci AskFeatures same tells is = tt
object_step transport t targets dlci (OpenChannel psm) same tells is = absurd is
object_step transport t targets dlci (SendSdu psm payload) same tells is = payload_goes transport t targets dlci payload same tells is
object_step transport t targets dlci (CloseChannel psm) same tells is = tt
object_step transport t targets dlci BreakLink same tells is = tt
object_step transport t targets dlci (Ended outcome) same tells is = tt
object_step transport t targets dlci NoMemory same tells is = tt

-- ---- the steps of a push

-- it knows its way where it is to open the channel of its object, and on that
pub record KnowsWay (party : Party) (c : Client) (said : List Saying) : Type 0 where
  pub opens : c.stage ≡ ObjectChannel Due → Knows party c said
  pub uses : c.stage ≡ Object → Knows party c said

module _ (party : Party) (transport : Transport) (said : List Saying) (c : Client) (over : IsOver transport c) (knows : KnowsWay party c said) (parts : List Part) where
  abbrev all_told : List Target
  all_told = targets_told party (spoken_of said)

  abbrev G : Stepped → Type 0
  G s = StepGoes transport all_told s.step

  either : (b : Bool) (x y : Stepped) → G x → G y → G (cond b x y)
  either true x y one other = one
  either false x y one other = other

  ended : (cause : Option Outcome) → G (tells_end cause c parts)
  ended None = tt
  ended (Some outcome) = tt

  opening : c.stage ≡ ObjectChannel Due → asks_as_told transport all_told c.psm ≡ true
  opening at =
      let so = knows.opens at in
      let opens = subst (λ s. At so.walk s (course_of c)) at so.stands in
      psm_told party said c so opens.names transport over.0

  object : c.stage ≡ Object → G (steps_object c.transport c parts)
  object at =
      let so = knows.uses at in
      let has = subst (λ s. At so.walk s (course_of c)) at so.stands in
      object_step transport c.transport all_told c.mux.dlci (steps_object c.transport c parts).step over.0 (λ muxed. dlci_told party said c so has.names (over.0 ∙ muxed) has.dlci) (object_sends transport c parts over)

  at_stage : (stage : Stage) → c.stage ≡ stage → G (steps_at stage c parts)
  at_stage (SearchChannel Due) at = search_asked transport all_told
  at_stage Search at = either (is_due c.query) (sends_sdu 0x0001 (Octets (request_octets c.query)) (record c { query = after_request c.query; left = c.left - 1; rest = request_octets c.query }) parts) (rests c parts) (λ muxed. no_frame all_told c.query) tt
  at_stage (ObjectChannel Due) at = opening at
  at_stage Object at = object at
  at_stage Over at = ended c.cause
  at_stage Rest at = tt
  at_stage (Link Due) at = tt
  at_stage (Link Asked) at = tt
  at_stage (SearchChannel Asked) at = tt
  at_stage (SearchEnd Due) at = tt
  at_stage (SearchEnd Asked) at = tt
  at_stage (Features Due) at = tt
  at_stage (Features Asked) at = tt
  at_stage (ObjectChannel Asked) at = tt
  at_stage (ObjectEnd Due) at = tt
  at_stage (ObjectEnd Asked) at = tt
  at_stage (LinkEnd Due) at = tt
  at_stage (LinkEnd Asked) at = tt

  pub step_goes : G (steps c parts)
  step_goes = either c.failed (record { client = c; step = NoMemory; left = parts }) (cond c.given (rests c parts) (steps_at c.stage c parts)) tt (either c.given (rests c parts) (steps_at c.stage c parts) tt (at_stage c.stage refl))
