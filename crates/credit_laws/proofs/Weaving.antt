-- On a link over RFCOMM host a pays for what it sends: its channel takes each frame that its client asks to send, or refuses one, behind which that asks no more.
use Rattle.std.proofs.Common.{◌≡◌, ℕ, Bool, true, false, cond, eqb, List, [], ◌∷◌, ◌++◌, map, Option, Some, None, refl, sym, ap, subst, ◌∙◌, arith, inr, append-nil, append_assoc}
use Rattle.std.specs.List.{AllByRecursion, flat_map, cons_option}
use Rattle.std.proofs.lemmas.List.{map-append}
use Rattle.inbox_laws.specs.acl_fragments.specs.Pieces.{channel_of}
use Rattle.inbox_laws.specs.bt_base.specs.declared.settings.Settings.{Settings}
use Rattle.inbox_laws.specs.bt_base.specs.declared.settings.Transport.TheVariants.{Rfcomm}
use Rattle.inbox_laws.specs.capture.specs.declared.flow.Flow.TheVariants.{Out, Into}
use Rattle.inbox_laws.specs.push_terms.specs.declared.word.Side.TheVariants as sides
use Rattle.inbox_laws.specs.rfcomm_frames.specs.declared.connection.Role.TheVariants.{Initiator, Responder}
use Rattle.inbox_laws.specs.rfcomm_frames.specs.Answers.{Answer}
use Rattle.inbox_laws.specs.rfcomm_frames.specs.Frames.{PlainFrame}
use Rattle.inbox_laws.specs.rfcomm_frames.specs.FrameReading.{frame_answer}
use Rattle.inbox_laws.specs.rfcomm_frames.specs.Multiplexing.{Framed, framed, frames}
use Rattle.inbox_laws.specs.rfcomm_model.specs.Sides.{heard_frame}
use Rattle.inbox_laws.specs.link_talk.specs.Packets.{passed}
use Rattle.inbox_laws.specs.link_talk.specs.Sdus.{Spoken, spoken_as}
use Rattle.inbox_laws.specs.channel_model.specs.Carrying.{Up as Handed, Nothing, Received}
use Rattle.inbox_laws.specs.channel_model.specs.Hearing.{up}
use Rattle.inbox_laws.specs.channel_model.specs.Policies.{policy}
use Rattle.inbox_laws.specs.channel_model.specs.Value.{Channels}
use Rattle.inbox_laws.specs.channel_laws.specs.Exchanged.{heard_in}
use Rattle.inbox_laws.specs.channel_laws.specs.Runs.{Occurrence, Comes, run_of}
use Rattle.inbox_laws.specs.push_model.specs.Client.{Client}
use Rattle.inbox_laws.specs.push_model.specs.Laws.{Deed, all_done}
use Rattle.inbox_laws.specs.push_model.specs.Server.{rfcomm_psm}
use Rattle.inbox_laws.specs.push_laws.specs.Parties.{sdu_if}
use Rattle.inbox_laws.specs.push_laws.proofs.Staying.{multiplexers-stay}
use Rattle.inbox_laws.specs.host_model.specs.Clients.{ClientProfile, client_profile}
use Rattle.inbox_laws.specs.host_model.specs.Pdus.{mux_octets}
use Rattle.inbox_laws.specs.host_laws.specs.Calls.{Call, Connect, AskFeatures, Disconnect, Send, from_call, values_after}
use Rattle.inbox_laws.specs.host_laws.specs.Fed.{feeds_up, strand_feeds, woven_feeds}
use Rattle.inbox_laws.specs.host_laws.specs.Pushing.{Affair, pushed_from}
use Rattle.inbox_laws.specs.host_laws.specs.Woven.{Strand, Hearing, Giving, Firing, Telling, Gifting, Learning, Checking, Stepping, strand_list, strand_profile, woven_list}
use Rattle.inbox_laws.specs.host_laws.proofs.Asking.{clients_ask}
use Rattle.inbox_laws.specs.host_laws.proofs.StrandsFed.{strand_so}
use Rattle.request_laws.specs.Carried.{frames_over, IsReadSo}
use Rattle.request_laws.specs.Streams.{taken_at}
use Rattle.request_laws.specs.Twists.{all_deeds, OpensNone}
use Rattle.request_laws.proofs.Accepted.{Opened, OpenedUp, opened-up, up-stays}
use Rattle.request_laws.proofs.Asking.{Even, Stuck, Makes, Same, Takes, Refuses}
use Rattle.request_laws.proofs.ClientTakes.{Asked, Sure, strand_asked, strand_takes}
use Rattle.request_laws.proofs.Feeding.{all_ahead, pushed-both, strand_client}
use Rattle.request_laws.proofs.HandedUp.{handed_from}
use Rattle.request_laws.proofs.Moved.{exchanged_from, exchanged_both, call_exchanges}
use Rattle.request_laws.proofs.MuxAsking.{octets_over, strand_makes}
use Rattle.request_laws.proofs.MuxCarrying.{over_both}
use Rattle.request_laws.proofs.OnPsm.{mux_heard_is}
use Rattle.request_laws.proofs.Pushes.{deeds_both}
use Rattle.request_laws.proofs.Summing.{strand_hears}
use Rattle.request_laws.proofs.Takes.{value_behind}
use Rattle.inbox_laws.specs.scenario_laws.specs.Parties.{party_of}
use Rattle.credit_laws.specs.Clients.{own_frame, all_framed}
use Rattle.credit_laws.proofs.Aside.{heard_paid, frame_is}
use Rattle.credit_laws.proofs.Courses.{Course, course_paid, course_muxed, course_deeds, quiet_framed}
use Rattle.credit_laws.proofs.Paying.{Paid, frames_more}

-- ---- the frames that pass

-- frames that were written are read as they were
written_passes : (settings : Settings) (list : List PlainFrame) → AllByRecursion IsReadSo list → frames (map (passed (party_of settings sides.A)) (map (spoken_as Out) (map mux_octets list))) ≡ map own_frame list
written_passes settings [] all = refl
written_passes settings (frame ∷ list) all =
    let later = frames (map (passed (party_of settings sides.A)) (map (spoken_as Out) (map mux_octets list))) in
    ap (λ (a : Answer). cons_option (framed Initiator a) later) all.0 ∙ ap (λ (fs : List Framed). own_frame frame ∷ fs) (written_passes settings list all.1)

-- its pushes go on, or one frame was refused
pub data Pushing (p : ClientProfile) (fs : List Framed) : Type 0 where
  Going : Course 18 p.client fs → Even p → Pushing p fs
  Halted : Stuck p → p.client.transport ≡ Rfcomm → Paid 18 Initiator fs → Pushing p fs

pub pushing_paid : (p : ClientProfile) (fs : List Framed) → Pushing p fs → Paid 18 Initiator fs
pushing_paid p fs (Going course even) = course_paid 18 p.client fs course
pushing_paid p fs (Halted stuck muxed paid) = paid

-- ---- on the channel of an endpoint

module _ (settings : Settings) (here : ℕ) where
  abbrev pub passes : List Spoken → List Framed
  passes list = frames (map (passed (party_of settings sides.A)) list)

  abbrev deeds_in : Strand → Channels → ClientProfile → List Deed
  deeds_in strand v p = all_deeds (pushed_from settings p (strand_feeds strand v))

  abbrev list_of : Strand → Channels → ClientProfile → List Occurrence
  list_of strand v p = strand_list (client_profile settings) (clients_ask settings) strand v p

  abbrev exchanged : Strand → Channels → ClientProfile → List Spoken
  exchanged strand v p = exchanged_from (policy settings false) here v (strand_list (client_profile settings) (clients_ask settings) strand v p)

  passes_both : (xs ys : List Spoken) → passes (xs ++ ys) ≡ passes xs ++ passes ys
  passes_both xs ys = ap frames (map-append (passed (party_of settings sides.A)) xs ys) ∙ frames_more (map (passed (party_of settings sides.A)) xs) (map (passed (party_of settings sides.A)) ys)

  -- an SDU that comes up of the endpoint is for the multiplexer, and no other one
  abbrev IsForMux : Handed → Type 0
  IsForMux Nothing = Unit {0}
  IsForMux (Received at psm sdu) = eqb psm rfcomm_psm ≡ eqb at here

  abbrev pub AgreesOn : List Occurrence → Type 0
  AgreesOn list = (psm at : ℕ) → Opened (run_of (policy settings false) list).said psm at → eqb psm rfcomm_psm ≡ eqb at here

  for_mux : (list : List Occurrence) (brought : Handed) → AgreesOn list → OpenedUp (run_of (policy settings false) list).said brought → IsForMux brought
  for_mux list Nothing agrees opened = tt
  for_mux list (Received at psm sdu) agrees opened = agrees psm at opened

  brought_for : (front later : List Occurrence) (pdu : List ℕ) (v : Channels) → v ≡ (run_of (policy settings false) front).value → AgreesOn (front ++ later) → IsForMux (up (channel_of pdu) pdu v)
  brought_for front later pdu v at agrees =
      for_mux (front ++ later) (up (channel_of pdu) pdu v) agrees
      (up-stays (policy settings false) front later (up (channel_of pdu) pdu v)
      (subst (λ (w : Channels). OpenedUp (run_of (policy settings false) front).said (up (channel_of pdu) pdu w)) (sym at) (opened-up (policy settings false) front (Comes pdu))))

  -- ---- an SDU comes up

  up_passes : (brought : Handed) (p : ClientProfile) → IsForMux brought → passes ((heard_in here brought ++ []) ++ []) ≡ all_framed (all_deeds (pushed_from settings p (feeds_up brought))) p.client
  up_passes Nothing p agrees = refl
  up_passes (Received at psm sdu) p agrees = by (eqb psm rfcomm_psm) (eqb at here) agrees
    where
      by : (one two : Bool) → one ≡ two → passes ((cond two (spoken_as Into sdu ∷ []) [] ++ []) ++ []) ≡ (flat_map (λ x. heard_frame Responder (frame_answer x)) (sdu_if one sdu) ++ []) ++ []
      by true true same = frame_is (frame_answer sdu) ∙ (sym (append-nil (heard_frame Responder (frame_answer sdu))) ∙ (sym (append-nil (heard_frame Responder (frame_answer sdu) ++ [])) ∙ sym (append-nil ((heard_frame Responder (frame_answer sdu) ++ []) ++ []))))
      by false false same = refl
      by true false same = cc
      by false true same = cc

  up_paid : (brought : Handed) (fs : List Framed) → Paid 18 Initiator fs → Paid 18 Initiator (fs ++ passes ((heard_in here brought ++ []) ++ []))
  up_paid Nothing fs paid = subst (Paid 18 Initiator) (sym (append-nil fs)) paid
  up_paid (Received at psm sdu) fs paid = by (eqb at here)
    where
      by : (mine : Bool) → Paid 18 Initiator (fs ++ passes ((cond mine (spoken_as Into sdu ∷ []) [] ++ []) ++ []))
      by true = subst (λ (xs : List Framed). Paid 18 Initiator (fs ++ xs)) (sym (frame_is (frame_answer sdu))) (heard_paid 18 fs (frame_answer sdu) paid)
      by false = subst (Paid 18 Initiator) (sym (append-nil fs)) paid

  -- ---- anything else

  call_hands_none : (call : Option Call) (v : Channels) → handed_from rfcomm_psm (policy settings false) v (from_call call) ≡ []
  call_hands_none None v = refl
  call_hands_none (Some (Connect psm)) v = refl
  call_hands_none (Some AskFeatures) v = refl
  call_hands_none (Some (Disconnect at)) v = refl
  call_hands_none (Some (Send at sdu)) v = refl

  -- all that goes is what the channel takes, and all that passes what the client asks to send
  out_passes : (strand : Strand) (v : Channels) (p : ClientProfile) → handed_from rfcomm_psm (policy settings false) v (list_of strand v p) ≡ [] → exchanged strand v p ≡ map (spoken_as Out) (taken_at rfcomm_psm strand v p)
      → AllByRecursion IsReadSo (frames_over (deeds_in strand v p) p.client) → octets_over (deeds_in strand v p) p.client ≡ taken_at rfcomm_psm strand v p → passes (exchanged strand v p) ≡ all_framed (deeds_in strand v p) p.client
  out_passes strand v p none goes read same =
      ap passes (goes ∙ ap (map (spoken_as Out)) (sym same))
      ∙ (written_passes settings (frames_over (deeds_in strand v p) p.client) read
      ∙ sym (quiet_framed (deeds_in strand v p) p.client (mux_heard_is (deeds_in strand v p) ∙ (strand_hears settings None rfcomm_psm strand v p ∙ none))))

  step_goes : (front later : List Occurrence) (v : Channels) (p : ClientProfile) → v ≡ (run_of (policy settings false) front).value → Asked rfcomm_psm settings front p → Sure rfcomm_psm settings (front ++ later) here → exchanged Stepping v p ≡ map (spoken_as Out) (taken_at rfcomm_psm Stepping v p)
  step_goes front later v p at asked sure =
      sym (call_exchanges rfcomm_psm (policy settings false) here ((clients_ask settings).call v p) v) ∙ ap (map (spoken_as Out)) (sym (strand_takes rfcomm_psm settings front later here Stepping v p at asked sure))

  module _ (front later : List Occurrence) (v : Channels) (p : ClientProfile) (at : v ≡ (run_of (policy settings false) front).value) (asked : Asked rfcomm_psm settings front p) (sure : Sure rfcomm_psm settings (front ++ later) here)
      (agrees : AgreesOn (front ++ later)) where
    strand_passes : (strand : Strand) → AllByRecursion IsReadSo (frames_over (deeds_in strand v p) p.client) → octets_over (deeds_in strand v p) p.client ≡ taken_at rfcomm_psm strand v p → passes (exchanged strand v p) ≡ all_framed (deeds_in strand v p) p.client
    strand_passes (Hearing pdu) read same = up_passes (up (channel_of pdu) pdu v) p (brought_for front later pdu v at agrees)
    strand_passes (Giving pdu) read same = out_passes (Giving pdu) v p refl refl read same
    strand_passes Firing read same = out_passes Firing v p refl refl read same
    strand_passes Telling read same = out_passes Telling v p refl refl read same
    strand_passes (Gifting circumstances) read same = out_passes (Gifting circumstances) v p refl refl read same
    strand_passes (Learning circumstances news) read same = out_passes (Learning circumstances news) v p refl refl read same
    strand_passes Checking read same = out_passes Checking v p refl refl read same
    strand_passes Stepping read same = out_passes Stepping v p (call_hands_none ((clients_ask settings).call v p) v) (step_goes front later v p at asked sure) read same

    -- where nothing is taken, only what comes passes
    idle_paid : (strand : Strand) (fs : List Framed) → taken_at rfcomm_psm strand v p ≡ [] → Paid 18 Initiator fs → Paid 18 Initiator (fs ++ passes (exchanged strand v p))
    idle_paid (Hearing pdu) fs none paid = up_paid (up (channel_of pdu) pdu v) fs paid
    idle_paid (Giving pdu) fs none paid = subst (Paid 18 Initiator) (sym (append-nil fs)) paid
    idle_paid Firing fs none paid = subst (Paid 18 Initiator) (sym (append-nil fs)) paid
    idle_paid Telling fs none paid = subst (Paid 18 Initiator) (sym (append-nil fs)) paid
    idle_paid (Gifting circumstances) fs none paid = subst (Paid 18 Initiator) (sym (append-nil fs)) paid
    idle_paid (Learning circumstances news) fs none paid = subst (Paid 18 Initiator) (sym (append-nil fs)) paid
    idle_paid Checking fs none paid = subst (Paid 18 Initiator) (sym (append-nil fs)) paid
    idle_paid Stepping fs none paid =
        subst (λ (l : List Spoken). Paid 18 Initiator (fs ++ passes l)) (sym (step_goes front later v p at asked sure ∙ ap (map (spoken_as Out)) none)) (subst (Paid 18 Initiator) (sym (append-nil fs)) paid)

    strand_pushes : (strand : Strand) (fs : List Framed) → OpensNone strand → AllByRecursion IsReadSo (frames_over (deeds_in strand v p) p.client) → Pushing p fs → Pushing (strand_profile (client_profile settings) strand v p) (fs ++ passes (exchanged strand v p))
    strand_pushes strand fs opens read pushing = by pushing
      where
        q : ClientProfile
        q = strand_profile (client_profile settings) strand v p

        client_is : (strand_profile (client_profile settings) strand v p).client ≡ all_done (deeds_in strand v p) p.client
        client_is = strand_client settings (clients_ask settings) strand v p opens

        muxed_on : p.client.transport ≡ Rfcomm → (strand_profile (client_profile settings) strand v p).client.transport ≡ Rfcomm
        muxed_on muxed = ap (λ (c : Client). c.transport) client_is ∙ (multiplexers-stay p.client (deeds_in strand v p) muxed).0

        goes_on : Course 18 p.client fs → octets_over (deeds_in strand v p) p.client ≡ taken_at rfcomm_psm strand v p → Course 18 (strand_profile (client_profile settings) strand v p).client (fs ++ passes (exchanged strand v p))
        goes_on course same =
            subst (λ (c : Client). Course 18 c (fs ++ passes (exchanged strand v p))) (sym client_is)
            (subst (λ (xs : List Framed). Course 18 (all_done (deeds_in strand v p) p.client) (fs ++ xs)) (sym (strand_passes strand read same)) (course_deeds 18 (deeds_in strand v p) p.client fs (omega arith) course))

        going : Course 18 p.client fs → Even p → Makes p q (taken_at rfcomm_psm strand v p) (octets_over (deeds_in strand v p) p.client) → Pushing q (fs ++ passes (exchanged strand v p))
        going course even (Same none untaken evens stucks) = Going (goes_on course (none ∙ sym untaken)) (evens even)
        going course even (Takes never same after) = Going (goes_on course same) after
        going course even (Refuses never untaken one is stuck) = Halted stuck (muxed_on (course_muxed 18 p.client fs course)) (idle_paid strand fs untaken (course_paid 18 p.client fs course))

        halted : Stuck p → p.client.transport ≡ Rfcomm → Paid 18 Initiator fs → Makes p q (taken_at rfcomm_psm strand v p) (octets_over (deeds_in strand v p) p.client) → Pushing q (fs ++ passes (exchanged strand v p))
        halted stuck muxed paid (Same none untaken evens stucks) = Halted (stucks stuck) (muxed_on muxed) (idle_paid strand fs untaken paid)
        halted stuck muxed paid (Takes never same after) = absurd (never stuck)
        halted stuck muxed paid (Refuses never untaken one is then) = absurd (never stuck)

        by : Pushing p fs → Pushing (strand_profile (client_profile settings) strand v p) (fs ++ passes (exchanged strand v p))
        by (Going course even) = going course even (strand_makes settings strand v p opens (course_muxed 18 p.client fs course) even)
        by (Halted stuck muxed paid) = halted stuck muxed paid (strand_makes settings strand v p opens muxed (inr stuck.held))

  -- ---- a link

  abbrev pub woven : List Strand → Channels → ClientProfile → List Occurrence
  woven weave v p = woven_list (client_profile settings) (clients_ask settings) weave v p

  abbrev pub pushed_in : List Strand → Channels → ClientProfile → List Affair
  pushed_in weave v p = pushed_from settings p (woven_feeds (client_profile settings) (clients_ask settings) weave v p)

  pub weave_pushes : (weave : List Strand) (front : List Occurrence) (v : Channels) (p : ClientProfile) (fs : List Framed) → v ≡ (run_of (policy settings false) front).value → Asked rfcomm_psm settings front p → Sure rfcomm_psm settings (front ++ woven weave v p) here
      → AgreesOn (front ++ woven weave v p) → AllByRecursion OpensNone weave → AllByRecursion IsReadSo (frames_over (all_deeds (pushed_in weave v p)) p.client) → Pushing p fs → Paid 18 Initiator (fs ++ passes (exchanged_from (policy settings false) here v (woven weave v p)))
  weave_pushes [] front v p fs at asked sure agrees opens read pushing = subst (Paid 18 Initiator) (sym (append-nil fs)) (pushing_paid p fs pushing)
  weave_pushes (strand ∷ weave) front v p fs at asked sure agrees opens read pushing =
      let A = client_profile settings in
      let asks = clients_ask settings in
      let own = policy settings false in
      let list = list_of strand v p in
      let w = values_after own v list in
      let q = strand_profile A strand v p in
      let rest = woven weave w q in
      let feeds = strand_feeds strand v in
      let more = woven_feeds A asks weave w q in
      let deeds = deeds_in strand v p in
      let cut : all_deeds (pushed_in (strand ∷ weave) v p) ≡ deeds ++ all_deeds (pushed_in weave w q) =
      ap all_deeds (pushed-both settings feeds more p ∙ ap (λ (x : ClientProfile). pushed_from settings p feeds ++ pushed_from settings x more) (strand_so A asks strand v p)) ∙ deeds_both (pushed_from settings p feeds) (pushed_from settings q more) in
      let client_is : q.client ≡ all_done deeds p.client = strand_client settings asks strand v p opens.0 in
      let reads = all_ahead IsReadSo (frames_over deeds p.client) (frames_over (all_deeds (pushed_in weave w q)) (all_done deeds p.client))
      (subst (AllByRecursion IsReadSo) (ap (λ (l : List Deed). frames_over l p.client) cut ∙ over_both deeds (all_deeds (pushed_in weave w q)) p.client) read) in
      let next : Pushing q (fs ++ passes (exchanged strand v p)) = strand_pushes front (list ++ rest) v p at asked sure agrees strand fs opens.0 reads.0 pushing in
      let later = weave_pushes weave (front ++ list) w q (fs ++ passes (exchanged strand v p)) (value_behind own front list v at) (strand_asked rfcomm_psm settings front strand v p at asked)
      (subst (λ (l : List Occurrence). Sure rfcomm_psm settings l here) (sym (append_assoc front list rest)) sure) (subst AgreesOn (sym (append_assoc front list rest)) agrees) opens.1
      (subst (λ (c : Client). AllByRecursion IsReadSo (frames_over (all_deeds (pushed_in weave w q)) c)) (sym client_is) reads.1) next in
      subst (Paid 18 Initiator)
      (append_assoc fs (passes (exchanged strand v p)) (passes (exchanged_from own here w rest))
      ∙ ap (λ (xs : List Framed). fs ++ xs) (sym (passes_both (exchanged strand v p) (exchanged_from own here w rest)) ∙ ap passes (sym (exchanged_both own here list rest v)))) later
