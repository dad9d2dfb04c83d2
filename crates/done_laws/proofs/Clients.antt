-- A client that is connected heard success to CONNECT; where it is done it heard success twice, and its server has heard one packet at most that is no PUT.
use Rattle.std.proofs.Common.{inl, inr, ◌⊎◌, Bool, true, false, ◌||◌, ◌&&◌, ◌≡◌, ◌==◌, ℕ, ◌≤◌, List, [], ◌∷◌, ◌++◌, map, Option, Some, None, is_some, Result, Ok, Err, refl, sym, ap, subst, ◌∙◌, arith, if◌then◌else◌}
use Rattle.std.specs.Prelude.{slice_index, not}
use Rattle.std.proofs.lemmas.Bool.{cond-true, eqb-true, eq-eqb}
use Rattle.tape_laws.specs.bt_base.specs.declared.settings.Transport.{Transport}
use Rattle.tape_laws.specs.bt_base.specs.declared.settings.Transport.TheVariants.{L2cap}
use Rattle.tape_laws.specs.bt_base.specs.Objects.{Object}
use Rattle.tape_laws.specs.push_terms.specs.declared.outcome.Outcome.{Outcome}
use Rattle.tape_laws.specs.push_terms.specs.declared.outcome.Outcome.TheVariants as outcomes
use Rattle.tape_laws.specs.obex_headers.specs.declared.fault.ObexRefusal.{ObexRefusal}
use Rattle.tape_laws.specs.obex_headers.specs.declared.packet.Phase.TheVariants as phase
use Rattle.tape_laws.specs.obex_headers.specs.Packets.{PlainHeader, PlainPacket, packet_octets}
use Rattle.tape_laws.specs.obex_headers.specs.Reading.{packet_in}
use Rattle.tape_laws.specs.obex_session.specs.declared.asking.Request.{Request}
use Rattle.tape_laws.specs.obex_session.specs.declared.asking.Request.TheVariants as requests
use Rattle.tape_laws.specs.obex_session.specs.declared.client.Answered.{Answered}
use Rattle.tape_laws.specs.obex_session.specs.declared.client.Answered.TheVariants.{Go, Done, Refused, Bad, Srmp}
use Rattle.tape_laws.specs.obex_session.specs.Asking.{Asking, answer_read}
use Rattle.tape_laws.specs.obex_session.specs.Marks.{marks_of}
use Rattle.tape_laws.specs.obex_session.specs.NextPut.{put_request}
use Rattle.tape_laws.specs.obex_session.specs.PutPackets.{units_in, head_of, put_packet, packets_from}
use Rattle.tape_laws.specs.obex_session.specs.Views.{asks_connect, answer_at, after_at}
use Rattle.tape_laws.specs.push_model.specs.declared.course.Contact.{Contact}
use Rattle.tape_laws.specs.push_model.specs.declared.course.Contact.TheVariants.{Unmet, Met, Left, Closing}
use Rattle.tape_laws.specs.push_model.specs.declared.course.Stage.{Stage}
use Rattle.tape_laws.specs.push_model.specs.Causes.{cause_of_obex, unknown_parameters, unawaited_response}
use Rattle.tape_laws.specs.push_model.specs.Client.{Client, ends, ends_by, may_cancel}
use Rattle.tape_laws.specs.push_model.specs.Events as events
use Rattle.tape_laws.specs.push_model.specs.Laws as deeds
use Rattle.tape_laws.specs.push_model.specs.Laws.{Deed, Hears, Asks, Finishes, Cancels}
use Rattle.tape_laws.specs.push_model.specs.Responding.{met, takes, is_early, is_object, hears_answer, hears_response}
use Rattle.tape_laws.specs.push_model.specs.Server.{object_psm}
use Rattle.tape_laws.specs.push_model.proofs.CauseLaws.{first_causes_stay}
use Rattle.tape_laws.specs.push_laws.specs.Exchanges.{is_response}
use Rattle.tape_laws.specs.push_laws.specs.Faults.{counted}
use Rattle.tape_laws.specs.push_laws.specs.Parties.{told_by, heard_by}
use Rattle.tape_laws.specs.push_laws.specs.Sending.{AnswersTo, packets_by}
use Rattle.tape_laws.specs.push_laws.specs.Success.{Brings, HearsSuccess}
use Rattle.tape_laws.specs.push_laws.proofs.Inverting.{Sends, Rests, Connects, Puts, Aborts, Leaves, asks_send}
use Rattle.tape_laws.specs.push_laws.proofs.OnObject.{IsOnObject}
use Rattle.tape_laws.specs.push_laws.proofs.Pushing as state
use Rattle.tape_laws.specs.push_laws.proofs.Pushing.{Task, State, Stands, MayPutOn, connect_of}
use Rattle.tape_laws.specs.push_laws.proofs.Success.{done-exactly}
use Rattle.tape_laws.specs.push_laws.proofs.Talks.{Talk, talk_of, Unheard, object_of, news_quiet}
use Rattle.done_laws.proofs.Successes.{success_in, successes, successes_both, other_than_put, others, counted_few}
use Rattle.done_laws.proofs.Replies.{code_front}

no_none : (o : Outcome) → Some o ≡ None → ⊥
no_none o e = cc

-- a cause stays
pub cause_before : (deed : Deed) (client : Client) → (deeds.done deed client).cause ≡ None → client.cause ≡ None
cause_before deed client none = by client.cause refl
  where
    by : (cause : Option Outcome) → client.cause ≡ cause → client.cause ≡ None
    by None is = is
    by (Some o) is = absurd (no_none o (sym (first_causes_stay (deed ∷ []) client o is) ∙ none))

-- ---- the response to CONNECT

-- where it lets the client go on, it says success
connect_goes : (session : Asking) (octets : List ℕ) → answer_at (asks_connect session).awaited session octets ≡ Some Go → success_in octets ≡ 1
connect_goes session octets go = by (packet_in phase.ConnectResponse session.maximum octets) refl (inner (answer_read requests.Connect (packet_in phase.ConnectResponse session.maximum octets)) Go go)
  where
    inner : (a b : Answered) → Some a ≡ Some b → a ≡ b
    inner a b e = cc

    says : (refused : ℕ) (parameters matches : Bool) → (if parameters then Srmp else if matches then Go else Refused refused) ≡ Go → matches ≡ true
    says refused true matches e = absurd (let f : Srmp ≡ Go = e in cc)
    says refused false true e = refl
    says refused false false e = absurd (let f : Refused refused ≡ Go = e in cc)

    by : (read : Result PlainPacket ObexRefusal) → packet_in phase.ConnectResponse session.maximum octets ≡ read → answer_read requests.Connect read ≡ Go → success_in octets ≡ 1
    by (Ok packet) is e =
        let code = code_front phase.ConnectResponse session.maximum octets packet is in
        let matches : (packet.code == 0xA0) ≡ true = says packet.code (marks_of packet.headers).parameters (packet.code == 0xA0) e in
        ap (λ (n : ℕ). counted (n == 0xA0)) (sym code) ∙ ap counted matches
    by (Err refusal) is e = absurd (let f : Bad refusal ≡ Go = e in cc)

module _ (w : Task) (sent : List (List ℕ)) where
  -- what awaits a response at a client that is not connected is CONNECT
  unmet_goes : (client : Client) (octets : List ℕ) → Stands w sent (talk_of client) → client.cause ≡ None → client.contact ≡ Unmet → answer_at client.session.awaited client.session octets ≡ Some Go → success_in octets ≡ 1
  unmet_goes client octets s none unmet go = by s.1
    where
      not_met : Met ≡ Unmet → ⊥
      not_met e = cc

      caused : is_some client.cause ≡ true → ⊥
      caused e = let f : false ≡ true = sym (ap is_some none) ∙ e in cc

      gone : (contact : Contact) → contact ≡ Unmet → state.is_gone contact ≡ true → ⊥
      gone Unmet is e = let f : false ≡ true = e in cc
      gone Met is e = let f : false ≡ true = e in cc
      gone Left is e = cc
      gone Closing is e = cc

      by : State w sent client.cause client.contact client.session client.name client.size → success_in octets ≡ 1
      by (state.Fresh none_sent was free unput least other) = absurd (let f : None ≡ Some Go = sym (ap (λ (a : Option Request). answer_at a client.session octets) free) ∙ go in cc)
      by (state.Connecting is was waits unput other) = connect_goes client.session octets (sym (ap (λ (a : Option Request). answer_at a client.session octets) (waits none).0) ∙ go)
      by (state.Putting puts at is was wanted has place other some) = absurd (not_met (sym was ∙ unmet))
      by (state.Put puts is was whole waits unput other) = absurd (not_met (sym was ∙ unmet))
      by (state.GivenUp puts at is was wanted has given unput other some) = absurd (caused given)
      by (state.Gone left given past) = absurd (caused given)

-- ---- a client that is connected

-- it is connected, and has no cause
abbrev pub IsMet : Talk → Type 0
IsMet t = (t.cause ≡ None) × (t.contact ≡ Met)

-- a response makes it so only where it was so before, or lets it go on
met_by : (answer : Option Answered) (octets : List ℕ) (client : Client) → IsMet (talk_of (hears_answer answer octets client)) → (client.contact ≡ Met) ⊎ (answer ≡ Some Go)
met_by None octets client m = absurd (never client.cause m.0)
  where
    never : (cause : Option Outcome) → (ends_by cause unawaited_response client).cause ≡ None → ⊥
    never None e = no_none unawaited_response e
    never (Some o) e = by client.cause refl e
      where
        by : (c : Option Outcome) → client.cause ≡ c → client.cause ≡ None → ⊥
        by c is none = cc
met_by (Some Go) octets client m = inr refl
met_by (Some Done) octets client m = inl (same (is_early client) m.1)
  where
    same : (early : Bool) → (if early then ends unawaited_response (record client { session = after_at client.session.awaited client.session octets }) else ends outcomes.Done (record client { session = after_at client.session.awaited client.session octets })).contact ≡ Met → client.contact ≡ Met
    same true e = ended client.cause e
      where
        ended : (cause : Option Outcome) → (ends_by cause unawaited_response (record client { session = after_at client.session.awaited client.session octets })).contact ≡ Met → client.contact ≡ Met
        ended None e = e
        ended (Some o) e = e
    same false e = ended client.cause e
      where
        ended : (cause : Option Outcome) → (ends_by cause outcomes.Done (record client { session = after_at client.session.awaited client.session octets })).contact ≡ Met → client.contact ≡ Met
        ended None e = e
        ended (Some o) e = e
met_by (Some (Refused code)) octets client m = inl (ended client.cause m.1)
  where
    ended : (cause : Option Outcome) → (ends_by cause (outcomes.Refused code) (record client { session = after_at client.session.awaited client.session octets })).contact ≡ Met → client.contact ≡ Met
    ended None e = e
    ended (Some o) e = e
met_by (Some (Bad refusal)) octets client m = inl (ended client.cause m.1)
  where
    ended : (cause : Option Outcome) → (ends_by cause (cause_of_obex refusal) (record client { session = after_at client.session.awaited client.session octets })).contact ≡ Met → client.contact ≡ Met
    ended None e = e
    ended (Some o) e = e
met_by (Some Srmp) octets client m = inl (ended client.cause m.1)
  where
    ended : (cause : Option Outcome) → (ends_by cause unknown_parameters (record client { session = after_at client.session.awaited client.session octets })).contact ≡ Met → client.contact ≡ Met
    ended None e = e
    ended (Some o) e = e

contact_known : (contact : Contact) (Q : Type 0) → (contact ≡ Met → Q) → (contact ≡ Unmet → Q) → (contact ≡ Left → Q) → (contact ≡ Closing → Q) → Q
contact_known Met Q a b c d = a refl
contact_known Unmet Q a b c d = b refl
contact_known Left Q a b c d = c refl
contact_known Closing Q a b c d = d refl

-- so many responses say success that came where it is connected
abbrev pub HeardOne : List (List ℕ) → Talk → Type 0
HeardOne come t = IsMet t → 1 ≤ successes come

more_come : (come told : List (List ℕ)) → 1 ≤ successes come → 1 ≤ successes (come ++ told)
more_come come told some = let both = successes_both come told in omega (arith, some, both)

module _ (w : Task) (sent come : List (List ℕ)) where
  unheard : Unheard (HeardOne come)
  unheard = record { ends = λ outcome t free none heard m. absurd (no_none outcome m.0); opens = λ limit t least most heard m. heard m }

  -- a response that comes on the channel of the object
  response_met : (octets : List ℕ) (client : Client) → Stands w sent (talk_of client) → client.cause ≡ None → HeardOne come (talk_of client) → HeardOne (come ++ octets ∷ []) (talk_of (hears_response octets client))
  response_met octets client s none heard m =
      elim (met_by (answer_at client.session.awaited client.session octets) octets client m) [
        | inl was ↦ more_come come (octets ∷ []) (heard (none, was))
        | inr go ↦ contact_known client.contact (1 ≤ successes (come ++ octets ∷ []))
            (λ was. more_come come (octets ∷ []) (heard (none, was)))
            (λ was. let one = unmet_goes w sent client octets s none was go in let both = successes_both come (octets ∷ []) in omega (arith, one, both))
            (λ was. absurd (let f : Left ≡ Met = sym (ap met was) ∙ gone go m.1 in cc))
            (λ was. absurd (let f : Closing ≡ Met = sym (ap met was) ∙ gone go m.1 in cc))
      ]
    where
      gone : answer_at client.session.awaited client.session octets ≡ Some Go → (hears_response octets client).contact ≡ Met → met client.contact ≡ Met
      gone go e = by (is_early client) (subst (λ (a : Option Answered). (hears_answer a octets client).contact ≡ Met) go e)
        where
          stays : Left ≡ Met → ⊥
          stays f = cc

          ended : (cause : Option Outcome) → (ends_by cause unawaited_response (record client { session = after_at client.session.awaited client.session octets })).contact ≡ Met → client.contact ≡ Met
          ended None f = f
          ended (Some o) f = f

          by : (early : Bool)
              → (if early then ends unawaited_response (record client { session = after_at client.session.awaited client.session octets }) else takes Go (record client { session = after_at client.session.awaited client.session octets })).contact ≡ Met
              → met client.contact ≡ Met
          by true f = ap met (ended client.cause f)
          by false f = f

  and_parts : (a b : Bool) → (a && b) ≡ true → (a ≡ true) × (b ≡ true)
  and_parts true b e = (refl, e)
  and_parts false b e = absurd (let f : false ≡ true = e in cc)

  news_met : (heard_is : Bool) (news : events.News) (client : Client) → is_response news client ≡ heard_is → client.transport ≡ L2cap → IsOnObject client → Stands w sent (talk_of client) → HeardOne come (talk_of client) → HeardOne (come ++ told_by news) (talk_of (events.hears_news news client))
  news_met false news client quiet direct here s heard m = more_come come (told_by news) (news_quiet (HeardOne come) unheard news client quiet heard m)
  news_met true (events.Sdu psm sdu) client is direct here s heard m =
      let both = and_parts (is_object client.stage) (psm == client.psm) is in
      let at : psm ≡ object_psm = eqb-true psm client.psm both.1 ∙ here both.0 in
      let told : told_by (events.Sdu psm sdu) ≡ sdu ∷ [] = cond-true (psm == object_psm) (sdu ∷ []) [] (eq-eqb psm object_psm at) in
      let after : events.hears_news (events.Sdu psm sdu) client ≡ hears_response sdu client =
      ap (λ (st : Stage). events.sdu_at st psm sdu client) (object_of client.stage both.0) ∙ cond-true (psm == client.psm) (events.hears_object client.transport sdu client) client both.1 ∙ ap (λ (t : Transport). events.hears_object t sdu client) direct in
      subst (λ (xs : List (List ℕ)). 1 ≤ successes (come ++ xs)) (sym told)
      (response_met sdu client s (cause_before (Hears (events.Sdu psm sdu)) client m.0) heard (subst (λ (c : Client). IsMet (talk_of c)) after m))
  news_met true events.LinkUp client is direct here s heard m = absurd (let f : false ≡ true = is in cc)
  news_met true (events.LinkDown reason) client is direct here s heard m = absurd (let f : false ≡ true = is in cc)
  news_met true (events.LinkFailed status) client is direct here s heard m = absurd (let f : false ≡ true = is in cc)
  news_met true (events.ChannelOpen psm mtu) client is direct here s heard m = absurd (let f : false ≡ true = is in cc)
  news_met true (events.ChannelClosed psm cause) client is direct here s heard m = absurd (let f : false ≡ true = is in cc)
  news_met true events.FeaturesTold client is direct here s heard m = absurd (let f : false ≡ true = is in cc)
  news_met true events.FeaturesLost client is direct here s heard m = absurd (let f : false ≡ true = is in cc)
  news_met true events.Timer client is direct here s heard m = absurd (let f : false ≡ true = is in cc)

  asked_met : (content : Option (List Object)) (client : Client) (packets : List (List ℕ)) (after : Talk) → Sends content client packets after → after.contact ≡ Met → client.contact ≡ Met
  asked_met content client packets after (Rests none s c t) m = sym c ∙ m
  asked_met content client packets after (Connects free is s c t) m = absurd (let f : Unmet ≡ Met = sym c ∙ m in cc)
  asked_met content client packets after (Puts part free was none told is s c t) m = was
  asked_met content client packets after (Aborts free was is s c t) m = was
  asked_met content client packets after (Leaves free was is s c t) m = was

  cancelled_met : (may : Bool) (client : Client) → IsMet (talk_of (if may then ends outcomes.Cancelled client else client)) → client.contact ≡ Met
  cancelled_met true client m = by client.cause m.1
    where
      by : (cause : Option Outcome) → (ends_by cause outcomes.Cancelled client).contact ≡ Met → client.contact ≡ Met
      by None e = e
      by (Some o) e = e
  cancelled_met false client m = m.1

  -- any deed
  pub deed_met : (deed : Deed) (client : Client) → client.transport ≡ L2cap → IsOnObject client → AnswersTo w.content deed client → Stands w sent (talk_of client) → HeardOne come (talk_of client) → HeardOne (come ++ heard_by deed) (talk_of (deeds.done deed client))
  deed_met (Hears news) client direct here answers s heard m = news_met (is_response news client) news client refl direct here s heard m
  deed_met (Asks parts) client direct here answers s heard m =
      more_come come [] (heard (cause_before (Asks parts) client m.0, asked_met w.content client (packets_by (Asks parts) client) (talk_of (deeds.done (Asks parts) client)) (asks_send w.content client parts direct answers) m.1))
  deed_met Finishes client direct here answers s heard m = more_come come [] (heard m)
  deed_met Cancels client direct here answers s heard m = more_come come [] (heard (cause_before Cancels client m.0, cancelled_met (may_cancel client) client m))

-- ---- a client that is done

-- of the packets of an object each is a PUT
puts_none : (ahead : List PlainHeader) (parts : List (List ℕ)) (last : List ℕ) → others (map packet_octets (packets_from ahead parts last)) ≡ 0
puts_none ahead [] last = refl
puts_none ahead (part ∷ parts) last =
    let rest = puts_none [] parts last in
    let one : other_than_put (packet_octets (put_packet false ahead part)) ≡ 0 = refl in
    omega (arith, rest, one)

-- It has sent its final PUT, and success to it came.
pub record HearsDone (sent : List (List ℕ)) (deed : Deed) (client : Client) : Type 0 where
  pub sdu : List ℕ
  pub told : heard_by deed ≡ sdu ∷ []
  pub success : success_in sdu ≡ 1
  pub met : client.contact ≡ Met
  pub few : others sent ≤ 1

module _ (w : Task) (sent : List (List ℕ)) (client : Client) (s : Stands w sent (talk_of client)) (none : client.cause ≡ None) where
  abbrev Final : Option Request
  Final = Some (put_request false true false)

  awaits_put : client.session.awaited ≡ Final → (client.contact ≡ Met) × (others sent ≤ 1)
  awaits_put waits = by s.1
    where
      caused : is_some client.cause ≡ true → ⊥
      caused e = let f : false ≡ true = sym (ap is_some none) ∙ e in cc

      no_request : None ≡ Final → ⊥
      no_request e = cc

      other_request : (r : Request) → Some r ≡ Final → r ≡ requests.FinalPut
      other_request r e = cc

      first_or : (first single : Bool) → put_request first false single ≡ requests.FinalPut → ⊥
      first_or true single e = let f : requests.FirstPut ≡ requests.FinalPut = e in cc
      first_or false true e = let f : requests.Stream ≡ requests.FinalPut = e in cc
      first_or false false e = let f : requests.Put ≡ requests.FinalPut = e in cc

      puts_on : MayPutOn client.session → ⊥
      puts_on (inl free) = no_request (sym free ∙ waits)
      puts_on (inr put) = first_or put.0 put.1 (other_request (put_request put.0 false put.1) (sym put.2 ∙ waits))

      connects : requests.Connect ≡ requests.FinalPut → ⊥
      connects e = cc

      by : State w sent client.cause client.contact client.session client.name client.size → (client.contact ≡ Met) × (others sent ≤ 1)
      by (state.Fresh none_sent was free unput least other) = absurd (no_request (sym free ∙ waits))
      by (state.Connecting is was awaits unput other) = absurd (connects (other_request requests.Connect (sym (awaits none).0 ∙ waits)))
      by (state.Putting puts at is was wanted has place other some) = absurd (puts_on (place none).2)
      by (state.Put puts is was whole awaits unput other) = (
        was,
        (let puts_are = ap others whole.said_is in
            let nothing = puts_none (head_of w.wanted (units_in client.name) client.size) whole.parts whole.last in
            let all = ap others is in
            let one = counted_few (not ((slice_index (connect_of w) 0 == 0x02) || (slice_index (connect_of w) 0 == 0x82))) in
            omega (arith, puts_are, nothing, all, one)),
      )
      by (state.GivenUp puts at is was wanted has given unput other some) = absurd (caused given)
      by (state.Gone left given past) = absurd (caused given)

  hears_by : (deed : Deed) → client.transport ≡ L2cap → IsOnObject client → HearsSuccess deed client → HearsDone sent deed client
  hears_by (Hears (events.Sdu psm sdu)) direct here h =
      let at : psm ≡ object_psm = h.here ∙ here (ap is_object h.stage) in
      let brings : sdu ≡ h.packet = subst (λ (t : Transport). Brings t sdu client h.packet) direct h.brings in
      let read = h.answers.success in
      let code : slice_index h.packet 0 ≡ 0xA0 = sym (code_front phase.Response client.session.maximum h.packet read.read read.is) ∙ read.code in
      let put = awaits_put h.answers.awaited in
      record {
        sdu = sdu;
        told = cond-true (psm == object_psm) (sdu ∷ []) [] (eq-eqb psm object_psm at);
        success = ap success_in brings ∙ ap (λ (n : ℕ). counted (n == 0xA0)) code;
        met = put.0;
        few = put.1;
      }
  hears_by (Hears events.LinkUp) direct here h = absurd h
  hears_by (Hears (events.LinkDown reason)) direct here h = absurd h
  hears_by (Hears (events.LinkFailed status)) direct here h = absurd h
  hears_by (Hears (events.ChannelOpen psm mtu)) direct here h = absurd h
  hears_by (Hears (events.ChannelClosed psm cause)) direct here h = absurd h
  hears_by (Hears events.FeaturesTold) direct here h = absurd h
  hears_by (Hears events.FeaturesLost) direct here h = absurd h
  hears_by (Hears events.Timer) direct here h = absurd h
  hears_by (Asks parts) direct here h = absurd h
  hears_by Finishes direct here h = absurd h
  hears_by Cancels direct here h = absurd h

  -- a deed with which it comes to be done
  pub hears_done : (deed : Deed) → client.transport ≡ L2cap → IsOnObject client → (deeds.done deed client).cause ≡ Some outcomes.Done → HearsDone sent deed client
  hears_done deed direct here is = let heard = (done-exactly.done (deed ∷ []) client none).only is in by heard.before heard.deed heard.after heard.parts heard.heard
    where
      one : (x y : Deed) (xs : List Deed) → x ∷ [] ≡ y ∷ xs → x ≡ y
      one x y xs e = cc

      many : (x y z : Deed) (xs ys : List Deed) → x ∷ [] ≡ y ∷ (xs ++ z ∷ ys) → ⊥
      many x y z [] ys e = cc
      many x y z (u ∷ xs) ys e = cc

      by : (before : List Deed) (d : Deed) (after : List Deed) → deed ∷ [] ≡ before ++ d ∷ after → HearsSuccess d (deeds.all_done before client) → HearsDone sent deed client
      by [] d after parts h = hears_by deed direct here (subst (λ (x : Deed). HearsSuccess x client) (sym (one deed d after parts)) h)
      by (y ∷ before) d after parts h = absurd (many deed y d before after parts)
