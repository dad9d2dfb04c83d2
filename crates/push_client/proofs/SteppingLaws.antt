-- The steps of a client on the channel of the object.
use Rattle.std.proofs.Common.{◌≡◌, ℕ, ◌&&◌, not, min, Bool, true, false, List, [], ◌∷◌, ◌++◌, Option, Some, None, is_some, IfSome, Ok, Err, refl, sym, ap, subst, ◌∙◌, if◌then◌else◌}
use Rattle.bt_base.specs.Objects.{Object, octets_of, HasAt}
use Rattle.bt_base.specs.declared.no_memory.NoMemory.{NoMemory}
use Rattle.bt_base.specs.declared.ports.PortFault.TheVariants as fault
use Rattle.bt_base.specs.declared.settings.Transport.{Transport}
use Rattle.bt_base.specs.declared.settings.Transport.TheVariants.{L2cap, Rfcomm}
use Rattle.obex_session.specs.Asking.{Asking}
use Rattle.obex_session.specs.NextPut.{left_of, room_for}
use Rattle.obex_session.specs.PutPackets.{place_of, Reaches}
use Rattle.push_model.specs.declared.course.Stage.{Stage}
use Rattle.push_model.specs.declared.course.Stage.TheVariants.{Object as OnChannel}
use Rattle.push_model.specs.Client.{Client, is_direct}
use Rattle.push_model.specs.Payloads.{Payload, Octets}
use Rattle.push_model.specs.Responding.{is_object}
use Rattle.push_model.specs.Steps as steps
use Rattle.push_model.specs.Steps.{Part, Ask, Made, Stepped, put_count, requests, sends_direct, sends_muxed, filled, says, said_by, goes_muxed, steps_muxed, asks_muxed, asks_through, may_ask, next_ask, is_muxed, rests}
use Rattle.push_model.specs.rfcomm_model.specs.Saying.{Said, next, after_said}
use Rattle.push_rooms.specs.Frames.{said_frame}
use Rattle.push_client.specs.Putting.{AreAnswers, Comes}
use Rattle.push_client.specs.Pushing.{frame_said, payload_in, gone, said_next}
use Rattle.push_client.specs.declared.asking.Ask.{Ask as Enquiry}
use Rattle.push_client.specs.declared.asking.Ask.TheVariants as enquiries
use Rattle.push_client.specs.Requesting.{PutsAlike, ask_of, asked, sent_direct, sent_through}
use Rattle.push_client.specs.declared.step.Step.{Step}
use Rattle.push_client.specs.declared.step.Step.TheVariants as step
use Rattle.push_client.specs.declared.step.Step.TheVariants.{Wait, SendSdu}
use Rattle.push_client.proofs.AskingLaws.{comes_by, comes_as}

-- ---- what is sent

never : (b : Bool) → (b && false) ≡ false
never true = refl
never false = refl

pub direct_payload : (client : Client) → client.transport ≡ L2cap → payload_in client ≡ Octets client.rest
direct_payload client is =
    ap (λ (b : Bool). (if b then frame_said client.frame else Octets client.rest))
    (ap (λ (t : Transport). is_object client.stage && not (is_direct t)) is ∙ never (is_object client.stage))

pub muxed_by : (client : Client) → client.stage ≡ OnChannel → client.transport ≡ Rfcomm → is_muxed client ≡ true
muxed_by client stage transport = ap (λ (s : Stage). is_object s && not (is_direct client.transport)) stage ∙ ap (λ (t : Transport). not (is_direct t)) transport

-- ---- the next frame

goes : (said : Option Said) (full : Client) (parts : List Part) → is_some (said_frame said) ≡ true → is_muxed full ≡ true
    → said_by said full parts ≡ gone (record full { mux = after_said said full.mux; frame = said_frame said; given = true }) (SendSdu 3) parts
goes None full parts some muxed = absurd (let e : false ≡ true = some in cc)
goes (Some said) full parts some muxed =
    let after : Client = record full { mux = said.after; frame = Some said.frame; given = true } in
    ap (λ (b : Bool). (let r : Stepped = record { client = after; step = steps.SendSdu 3 (if b then frame_said (Some said.frame) else Octets full.rest); left = parts } in r)) (sym muxed)

waits : (said : Option Said) (full : Client) (parts : List Part) → is_some (said_frame said) ≡ false → said_by said full parts ≡ gone (record full { mux = after_said said full.mux; frame = said_frame said }) Wait parts
waits None full parts none = refl
waits (Some said) full parts none = absurd (let e : true ≡ false = none in cc)

-- it goes out
pub frame_goes : (client now : Client) (parts : List Part) → now ≡ said_next (filled client) → is_some now.frame ≡ true → is_muxed now ≡ true → says client parts ≡ gone (record now { given = true }) (SendSdu 3) parts
frame_goes client now parts is some muxed =
    let full = filled client in
    goes (next full.mux) full parts (sym (ap (λ (c : Client). is_some c.frame) is) ∙ some) (sym (ap is_muxed is) ∙ muxed) ∙ ap (λ (c : Client). gone (record c { given = true }) (SendSdu 3) parts) (sym is)

-- there is none
pub frame_waits : (client now : Client) (parts : List Part) → now ≡ said_next (filled client) → is_some now.frame ≡ false → says client parts ≡ gone now Wait parts
frame_waits client now parts is none =
    let full = filled client in
    waits (next full.mux) full parts (sym (ap (λ (c : Client). is_some c.frame) is) ∙ none) ∙ ap (λ (c : Client). gone c Wait parts) (sym is)

-- ---- a frame goes first, and then a request is made

goes_first : (said : Option Said) (full : Client) (parts : List Part) → is_some (said_frame said) ≡ true → goes_muxed said full parts ≡ said_by said full parts
goes_first None full parts some = absurd (let e : false ≡ true = some in cc)
goes_first (Some said) full parts some = refl

pub first_frame_goes : (client now : Client) (parts : List Part) → now ≡ said_next (filled client) → is_some now.frame ≡ true → is_muxed now ≡ true → steps_muxed client parts ≡ gone (record now { given = true }) (SendSdu 3) parts
first_frame_goes client now parts is some muxed =
    let full = filled client in
    goes_first (next full.mux) full parts (sym (ap (λ (c : Client). is_some c.frame) is) ∙ some) ∙ frame_goes client now parts is some muxed

abbrev asks_quiet : Client → List Part → Stepped
asks_quiet quiet parts = if may_ask quiet then asks_muxed (next_ask quiet) quiet parts else rests quiet parts

asks_then : (said : Option Said) (full : Client) (parts : List Part) → is_some (said_frame said) ≡ false → goes_muxed said full parts ≡ asks_quiet (record full { mux = after_said said full.mux; frame = said_frame said }) parts
asks_then None full parts none = refl
asks_then (Some said) full parts none = absurd (let e : true ≡ false = none in cc)

quiet_asks : (client now : Client) (parts : List Part) → now ≡ said_next (filled client) → is_some now.frame ≡ false → steps_muxed client parts ≡ asks_quiet now parts
quiet_asks client now parts is none =
    let full = filled client in
    asks_then (next full.mux) full parts (sym (ap (λ (c : Client). is_some c.frame) is) ∙ none) ∙ ap (λ (c : Client). asks_quiet c parts) (sym is)

pub quiet_rests : (client now : Client) (parts : List Part) → now ≡ said_next (filled client) → is_some now.frame ≡ false → may_ask now ≡ false → steps_muxed client parts ≡ gone now Wait parts
quiet_rests client now parts is none free =
    quiet_asks client now parts is none ∙ ap (λ (b : Bool). (if b then asks_muxed (next_ask now) now parts else rests now parts)) free

pub quiet_goes_on : (client now : Client) (ask : Ask) (parts : List Part) → now ≡ said_next (filled client) → is_some now.frame ≡ false → may_ask now ≡ true → ask ≡ next_ask now → steps_muxed client parts ≡ asks_muxed ask now parts
quiet_goes_on client now ask parts is none free asks =
    quiet_asks client now parts is none ∙ ap (λ (b : Bool). (if b then asks_muxed (next_ask now) now parts else rests now parts)) free ∙ ap (λ (a : Ask). asks_muxed a now parts) (sym asks)

-- ---- the next PUT is the same

abbrev count_of : Asking → List ℕ → ℕ → ℕ → ℕ
count_of session name size limit = min (left_of session size) (room_for session name size limit)

count_alike : (old new : Client) → PutsAlike old new → put_count new ≡ put_count old
count_alike old new alike =
    ap (λ (x : Asking). count_of x new.name new.size new.limit) alike.session ∙ ap (λ (x : List ℕ). count_of old.session x new.size new.limit) alike.name
    ∙ ap (λ (x : ℕ). count_of old.session old.name x new.limit) alike.size ∙ ap (λ (x : ℕ). count_of old.session old.name old.size x) alike.limit

answers_alike : (old new : Client) (content : Option (List Object)) (x x' s s' : ℕ) (used : List Part) → PutsAlike old new → AreAnswers new content x x' s s' used → AreAnswers old content x x' s s' used
answers_alike old new content x x' s s' [] alike answers = tt
answers_alike old new content x x' s s' (Ok part ∷ []) alike answers = (
  answers.0 ∙ count_alike old new alike,
  answers.1,
  subst (λ (name : List ℕ). IfSome content (λ objects. HasAt (place_of old.session.put) part (octets_of name objects))) alike.name
      (subst (λ (session : Asking). IfSome content (λ objects. HasAt (place_of session.put) part (octets_of new.name objects))) alike.session answers.2),
)
answers_alike old new content x x' s s' (Err fault.Failed ∷ []) alike answers = answers
answers_alike old new content x x' s s' (Err fault.NoMemory ∷ []) alike answers = answers
answers_alike old new content x x' s s' (answer ∷ other ∷ more) alike answers = answers

pub comes_alike : {R : Type 0} (reaction reaction' end : List Part → R) (old new : Client) (content : Option (List Object)) (x x' s s' : ℕ) (lacks : Bool) → PutsAlike old new → ((parts : List Part) → reaction' parts ≡ reaction parts)
    → Comes reaction end new content x x' s s' lacks → Comes reaction' end old content x x' s s' lacks
comes_alike reaction reaction' end old new content x x' s s' lacks alike same comes = record {
  used = comes.used;
  comes = λ rest. same (comes.used ++ rest) ∙ comes.comes rest;
  answers = answers_alike old new content x x' s s' comes.used alike comes.answers;
  short = comes.short;
  faults_stay = comes.faults_stay;
  shortages_stay = comes.shortages_stay;
}

-- it fits the shelf as before
pub reaches_alike : (old new : Client) (content : Option (List Object)) → PutsAlike old new → Reaches old.size old.name content → Reaches new.size new.name content
reaches_alike old new content alike reaches = subst (λ (size : ℕ). Reaches size new.name content) (sym alike.size) (subst (λ (name : List ℕ). Reaches old.size name content) (sym alike.name) reaches)

-- ---- a request over L2CAP

pub direct_sent : (ask : Ask) (old mid : Client) (content : Option (List Object)) (x x' s s' : ℕ) (lacks : Bool) → mid.transport ≡ L2cap
    → Comes (requests ask old) (asked mid (Ok tt)) old content x x' s s' lacks → Comes (sent_direct ask old) (gone (record mid { given = true }) (SendSdu mid.psm)) old content x x' s s' lacks
direct_sent ask old mid content x x' s s' lacks transport comes =
    comes_as _ _ _ _ old content x x' s s' lacks (λ parts. refl)
    (λ parts. ap (λ (payload : Payload). (let r : Stepped = record { client = record mid { given = true }; step = steps.SendSdu mid.psm payload; left = parts } in r)) (sym (direct_payload (record mid { given = true }) transport)))
    (comes_by (λ (made : Made). sends_direct made.outcome made) (requests ask old) (asked mid (Ok tt)) old content x x' s s' lacks comes)

pub direct_lacks : (ask : Ask) (old mid : Client) (lack : NoMemory) (content : Option (List Object)) (x x' s s' : ℕ) (lacks : Bool)
    → Comes (requests ask old) (asked mid (Err lack)) old content x x' s s' lacks → Comes (sent_direct ask old) (gone (record mid { failed = true }) step.NoMemory) old content x x' s s' lacks
direct_lacks ask old mid lack content x x' s s' lacks comes = comes_by (λ (made : Made). sends_direct made.outcome made) (requests ask old) (asked mid (Err lack)) old content x x' s s' lacks comes

-- ---- a request through the multiplexer

pub through_sent : (ask : Ask) (old mid new : Client) (next_step : Step) (content : Option (List Object)) (x x' s s' : ℕ) (lacks : Bool) → ((parts : List Part) → says mid parts ≡ gone new next_step parts)
    → Comes (requests ask old) (asked mid (Ok tt)) old content x x' s s' lacks → Comes (sent_through ask old) (gone new next_step) old content x x' s s' lacks
through_sent ask old mid new next_step content x x' s s' lacks said comes =
    comes_as _ _ _ _ old content x x' s s' lacks (λ parts. refl) said
    (comes_by (λ (made : Made). sends_muxed made.outcome made) (requests ask old) (asked mid (Ok tt)) old content x x' s s' lacks comes)

pub through_lacks : (ask : Ask) (old mid : Client) (lack : NoMemory) (content : Option (List Object)) (x x' s s' : ℕ) (lacks : Bool)
    → Comes (requests ask old) (asked mid (Err lack)) old content x x' s s' lacks → Comes (sent_through ask old) (gone (record mid { failed = true }) step.NoMemory) old content x x' s s' lacks
through_lacks ask old mid lack content x x' s s' lacks comes = comes_by (λ (made : Made). sends_muxed made.outcome made) (requests ask old) (asked mid (Err lack)) old content x x' s s' lacks comes

-- ---- behind the frames of the multiplexer

-- what is asked neither closes nor rests
asks_on : (ask : Ask) (client : Client) (parts : List Part) → (ask ≡ steps.Close → ⊥) → (ask ≡ steps.Nothing → ⊥) → asks_muxed ask client parts ≡ asks_through ask client parts
asks_on steps.Connect client parts stays goes_on = refl
asks_on steps.Put client parts stays goes_on = refl
asks_on steps.Abort client parts stays goes_on = refl
asks_on steps.Disconnect client parts stays goes_on = refl
asks_on steps.Close client parts stays goes_on = absurd (stays refl)
asks_on steps.Nothing client parts stays goes_on = absurd (goes_on refl)

pub quiet_asks_on : (client now : Client) (ask : Ask) (parts : List Part) → now ≡ said_next (filled client) → is_some now.frame ≡ false → may_ask now ≡ true → ask ≡ next_ask now → (ask ≡ steps.Close → ⊥) → (ask ≡ steps.Nothing → ⊥)
    → steps_muxed client parts ≡ asks_through ask now parts
quiet_asks_on client now ask parts is none free asks stays goes_on = quiet_goes_on client now ask parts is none free asks ∙ asks_on ask now parts stays goes_on

pub close_is : (ask : Enquiry) → ask_of ask ≡ steps.Close → ask ≡ enquiries.Close
close_is enquiries.Close e = refl
close_is enquiries.Connect e = absurd (let f : steps.Connect ≡ steps.Close = e in cc)
close_is enquiries.Put e = absurd (let f : steps.Put ≡ steps.Close = e in cc)
close_is enquiries.Abort e = absurd (let f : steps.Abort ≡ steps.Close = e in cc)
close_is enquiries.Disconnect e = absurd (let f : steps.Disconnect ≡ steps.Close = e in cc)
close_is enquiries.Nothing e = absurd (let f : steps.Nothing ≡ steps.Close = e in cc)

pub nothing_is : (ask : Enquiry) → ask_of ask ≡ steps.Nothing → ask ≡ enquiries.Nothing
nothing_is enquiries.Nothing e = refl
nothing_is enquiries.Connect e = absurd (let f : steps.Connect ≡ steps.Nothing = e in cc)
nothing_is enquiries.Put e = absurd (let f : steps.Put ≡ steps.Nothing = e in cc)
nothing_is enquiries.Abort e = absurd (let f : steps.Abort ≡ steps.Nothing = e in cc)
nothing_is enquiries.Disconnect e = absurd (let f : steps.Disconnect ≡ steps.Nothing = e in cc)
nothing_is enquiries.Close e = absurd (let f : steps.Close ≡ steps.Nothing = e in cc)
