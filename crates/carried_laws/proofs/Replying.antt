-- What the server answers over RFCOMM, as octets: what it sent, what its multiplexer holds and what waits for it are its responses, one behind the other.
use Rattle.std.proofs.Common.{arith, inl, inr, zero, suc, ◌≡◌, ◌⊎◌, ◌≤◌, ◌&&◌, ◌||◌, ℕ, Bool, true, false, cond, List, [], ◌∷◌, ◌++◌, length, take, drop, Option, Some, None, refl, sym, ap, subst, ◌∙◌, append_assoc, append-nil, length-append}
use Rattle.std.specs.Prelude.{nat_lt, nat_le}
use Rattle.std.specs.List.{AllByRecursion, flat_map}
use Rattle.std.proofs.lemmas.Bool.{cond_both, cond-false}
use Rattle.std.proofs.lemmas.List.{take-append-drop, nil_from_length}
use Rattle.std.proofs.lemmas.List.Concat.{flat_map-append}
use Rattle.push_laws.specs.link_talk.specs.bt_base.specs.declared.settings.Transport.TheVariants.{L2cap, Rfcomm}
use Rattle.push_laws.specs.push_model.specs.rfcomm_frames.specs.Frames.{PlainFrame}
use Rattle.push_laws.specs.push_model.specs.rfcomm_frames.specs.FrameReading.{is_empty}
use Rattle.push_laws.specs.push_model.specs.rfcomm_frames.specs.ObexPackets.{IsPacket, HasNoPacket, AreObexPackets, obex_packets}
use Rattle.push_laws.specs.push_model.specs.rfcomm_frames.proofs.ObexSplits.{obex_packets-right, obex_packets-one}
use Rattle.push_laws.specs.push_model.specs.rfcomm_model.specs.Hearing.{Up, nothing, opened, bytes, closed}
use Rattle.push_laws.specs.push_model.specs.rfcomm_model.specs.Machine.{Mux, may_pass, taken_count, sends}
use Rattle.push_laws.specs.push_model.specs.rfcomm_model.specs.Saying.{Said}
use Rattle.push_laws.specs.push_model.specs.rfcomm_model.specs.Sides.{handed}
use Rattle.push_laws.specs.push_model.specs.obex_session.proofs.SaidLaws.{said_sized}
use Rattle.push_laws.specs.push_model.specs.obex_headers.specs.declared.fault.ObexRefusal.{ObexRefusal}
use Rattle.push_laws.specs.push_model.specs.obex_headers.specs.Assembling.{BeginsNone}
use Rattle.push_laws.specs.push_model.specs.Listening.{Listener, Heeded, Received, stops, heeds_carried, hears_on, hears_front, hears_stream}
use Rattle.push_laws.specs.push_model.specs.Server.{Server, Reacted, hears_up}
use Rattle.push_laws.specs.push_model.specs.Service.{Service, Served, response_over, is_ignored, hears_packet}
use Rattle.push_laws.specs.push_model.specs.Sessions as model
use Rattle.push_laws.specs.push_model.specs.Sessions.{Sessions, Gift, lets_go, answers_to, is_naming, hears_after, hears}
use Rattle.push_laws.specs.push_model.specs.Streams.{Front, Whole, Partial, Broken, front_of}
use Rattle.push_laws.specs.rfcomm_laws.proofs.Harm.{Word, Step}
use Rattle.push_laws.specs.rfcomm_laws.proofs.Splitting.{before}
use Rattle.push_laws.specs.rfcomm_laws.proofs.Telling.{flow_of, Tells}
use Rattle.push_laws.proofs.Frames.{mux_said, frame_said}
use Rattle.push_laws.proofs.Streams.{none_front, hears_partial, hears_broken}
use Rattle.carried_laws.specs.Standing.{Standing, informs, comes, goes}
use Rattle.carried_laws.proofs.Owing.{flow_is}

-- ---- octets

abbrev pub joined : List (List ℕ) → List ℕ
joined packets = flat_map (λ (packet : List ℕ). packet) packets

abbrev pub flows : Option PlainFrame → List ℕ
flows None = []
flows (Some f) = informs f.kind f

-- of so many requests each has a response, or none; until the multiplexer is closed
pub record Replies (s : Standing) (requests : ℕ) (m : Mux) (frame : Option PlainFrame) (answer : List ℕ) : Type 0 where
  pub replied : List (List ℕ)
  pub sound : AllByRecursion IsPacket replied
  pub few : length replied ≤ requests
  pub all : m.closed ≡ None → joined replied ≡ s.sent ++ (flows frame ++ (m.waiting ++ answer))

pub said_replies : (s : Standing) (n : ℕ) (m : Mux) (o : Option Said) (answer : List ℕ) → ((said : Said) → o ≡ Some said → Tells true 18 m said.frame said.after) → Replies s n m None answer → Replies s n (mux_said o m) (frame_said o) answer
said_replies s n m None answer tells r = r
said_replies s n m (Some said) answer tells r = record {
  replied = r.replied;
  sound = r.sound;
  few = r.few;
  all = λ open'. r.all (sym t.closed_is ∙ open') ∙ ap (λ (xs : List ℕ). s.sent ++ xs) (ap (λ (xs : List ℕ). xs ++ answer) (parts t.flow) ∙ append_assoc (informs said.frame.kind said.frame) said.after.waiting answer);
}
  where
    t : Tells true 18 m said.frame said.after
    t = tells said refl

    parts : ((flow_of 18 said.frame ≡ []) × (said.after.waiting ≡ m.waiting)) ⊎ ((may_pass m ≡ true) × (m.waiting ≡ flow_of 18 said.frame ++ said.after.waiting)) → m.waiting ≡ informs said.frame.kind said.frame ++ said.after.waiting
    parts (inl same) = sym same.1 ∙ ap (λ (xs : List ℕ). xs ++ said.after.waiting) (sym same.0 ∙ flow_is said.frame.kind said.frame)
    parts (inr some) = some.1 ∙ ap (λ (xs : List ℕ). xs ++ said.after.waiting) (flow_is said.frame.kind said.frame)

pub went_replies : (s : Standing) (n : ℕ) (m : Mux) (f : PlainFrame) (answer : List ℕ) → Replies s n m (Some f) answer → Replies (goes f s) n m None answer
went_replies s n m f answer r = record { replied = r.replied; sound = r.sound; few = r.few; all = λ open'. r.all open' ∙ sym (append_assoc s.sent (informs f.kind f) (m.waiting ++ answer)) }

no_octets : (octets : List ℕ) → is_empty octets ≡ true → octets ≡ []
no_octets [] e = refl
no_octets (octet ∷ octets) e = let never : false ≡ true = e in cc

first_true : (a b : Bool) → (a && b) ≡ true → a ≡ true
first_true true b e = refl
first_true false b e = let never : false ≡ true = e in cc

pub filled_replies : (s : Standing) (n : ℕ) (m : Mux) (frame : Option PlainFrame) (answer : List ℕ) → Replies s n m frame answer → Replies s n (sends answer m) frame (drop (taken_count (length answer) m) answer)
filled_replies s n m frame answer r =
    let k : ℕ = taken_count (length answer) m in
    let free : Bool = is_empty m.waiting && nat_lt 0 m.account.held in
    cond_both free (record m { waiting = take k answer }) m (λ (x : Mux). Replies s n x frame (drop k answer))
    (λ e. record {
      replied = r.replied;
      sound = r.sound;
      few = r.few;
      all = λ open'. r.all open'
          ∙ ap (λ (xs : List ℕ). s.sent ++ (flows frame ++ xs)) (ap (λ (xs : List ℕ). xs ++ answer) (no_octets m.waiting (first_true (is_empty m.waiting) (nat_lt 0 m.account.held) e)) ∙ sym (take-append-drop k answer));
    })
    (λ e. subst (λ (i : ℕ). Replies s n m frame (drop i answer)) (sym (cond-false free (cond (nat_le (length answer) m.frame) (length answer) m.frame) 0 e)) r)

-- a frame comes: nothing is answered, or a response is
pub heard_replies : (s : Standing) (n n' : ℕ) (w : Word) (b c : ℕ) (m x : Mux) (frame : Option PlainFrame) (f : PlainFrame) (answer : List ℕ) → Step w b c m x → n ≤ n' → Replies s n m frame answer → Replies (comes f s) n' x frame answer
heard_replies s n n' w b c m x frame f answer st more r = record {
  replied = r.replied;
  sound = r.sound;
  few = let few = r.few in omega (arith, few, more);
  all = λ open'. let k = st.kept open' in r.all k.0 ∙ ap (λ (xs : List ℕ). s.sent ++ (flows frame ++ (xs ++ answer))) (sym k.1);
}

abbrev pub IsReply : List ℕ → Type 0
IsReply answer = (answer ≡ []) ⊎ IsPacket answer

one_more : (packets : List (List ℕ)) (packet : List ℕ) → AllByRecursion IsPacket packets → IsPacket packet → AllByRecursion IsPacket (packets ++ packet ∷ [])
one_more [] packet all is = (is, tt)
one_more (first ∷ packets) packet all is = (all.0, one_more packets packet all.1 is)

pub replied_more : (s : Standing) (n n' : ℕ) (w : Word) (b c : ℕ) (m x : Mux) (frame : Option PlainFrame) (f : PlainFrame) (answer : List ℕ) → Step w b c m x → suc n ≤ n' → IsReply answer → Replies s n m frame [] → Replies (comes f s) n' x frame answer
replied_more s n n' w b c m x frame f answer st more (inl none) r = subst (Replies (comes f s) n' x frame) (sym none) (heard_replies s n n' w b c m x frame f [] st (omega (arith, more)) r)
replied_more s n n' w b c m x frame f answer st more (inr packet) r = record {
  replied = r.replied ++ answer ∷ [];
  sound = one_more r.replied answer r.sound packet;
  few = (let few = r.few in let size = length-append r.replied (answer ∷ []) in omega (arith, few, more, size));
  all = λ open'.
      let k = st.kept open' in
      flat_map-append (λ (one : List ℕ). one) r.replied (answer ∷ []) ∙ ap (λ (xs : List ℕ). joined r.replied ++ xs) (append-nil answer)
      ∙ ap (λ (xs : List ℕ). xs ++ answer) (r.all k.0 ∙ ap (λ (xs : List ℕ). s.sent ++ (flows frame ++ xs)) (append-nil m.waiting ∙ sym k.1))
      ∙ append_assoc s.sent (flows frame ++ x.waiting) answer ∙ ap (λ (xs : List ℕ). s.sent ++ xs) (append_assoc (flows frame) x.waiting answer);
}

-- ---- where all responses went, none waits

no_head : (xs ys : List ℕ) → xs ++ ys ≡ [] → ys ≡ []
no_head [] ys e = e
no_head (x ∷ xs) ys e = absurd cc

no_rest : (xs ys : List ℕ) → xs ≡ xs ++ ys → ys ≡ []
no_rest xs ys e = nil_from_length ys (let same = ap length e in let sum = length-append xs ys in omega (arith, same, sum))

no_packets_more : (packets : List (List ℕ)) → length packets ≤ 0 → packets ≡ []
no_packets_more [] few = refl
no_packets_more (packet ∷ packets) few = absurd (omega (arith, few))

pub none_waits : (s : Standing) (n : ℕ) (m : Mux) (frame : Option PlainFrame) (answer : List ℕ) → Replies s n m frame answer → m.closed ≡ None → n ≤ length (obex_packets s.sent) → answer ≡ []
none_waits s n m frame answer r open' went =
    let rest : List ℕ = flows frame ++ (m.waiting ++ answer) in
    let packets : List (List ℕ) = obex_packets s.sent in
    let right : AreObexPackets s.sent packets = obex_packets-right s.sent in
    let whole : joined r.replied ≡ joined packets ++ (right.rest ++ rest) = r.all open' ∙ ap (λ (xs : List ℕ). xs ++ rest) right.whole ∙ append_assoc (joined packets) right.rest rest in
    let split : obex_packets (joined r.replied) ≡ packets ++ obex_packets (right.rest ++ rest) = before (joined r.replied) (right.rest ++ rest) packets whole right.each in
    let one : r.replied ≡ obex_packets (joined r.replied) = obex_packets-one (joined r.replied) r.replied (record { rest = []; whole = sym (append-nil (joined r.replied)); each = r.sound; no_more = inl (omega arith) }) in
    let sizes = ap length (one ∙ split) in
    let sum = length-append packets (obex_packets (right.rest ++ rest)) in
    let few = r.few in
    let none = no_packets_more (obex_packets (right.rest ++ rest)) (omega (arith, sizes, sum, few, went)) in
    let same : r.replied ≡ packets = one ∙ split ∙ ap (λ (ps : List (List ℕ)). packets ++ ps) none ∙ append-nil packets in
    no_head m.waiting answer (no_head (flows frame) (m.waiting ++ answer) (no_head right.rest rest (no_rest (joined packets) (right.rest ++ rest) (sym (ap joined same) ∙ whole))))

-- ---- what a listener answers

said_reply : (packet : List ℕ) (sessions : Sessions) (gift : Gift) → IsReply (answers_to Rfcomm packet sessions gift).response
said_reply packet sessions gift = said_sized packet sessions.carried.maximum _

heard_reply : (packet : List ℕ) (sessions : Sessions) (gift : Gift) → IsReply (hears Rfcomm packet sessions gift).response
heard_reply packet sessions gift =
    let parted = lets_go L2cap sessions gift in
    cond_both (is_naming Rfcomm packet sessions) (hears_after Rfcomm packet parted) (answers_to Rfcomm packet sessions gift) (λ (h : model.Heard). IsReply h.response)
    (λ named. cond_both parted.short _ (answers_to Rfcomm packet parted.sessions parted.gift) (λ (h : model.Heard). IsReply h.response) (λ short. inl refl) (λ e. said_reply packet parted.sessions parted.gift))
    (λ unnamed. said_reply packet sessions gift)

over_reply : (response : List ℕ) (service : Service) → IsReply service.answer → IsReply response → IsReply (response_over Rfcomm response service).answer
over_reply [] service old new = old
over_reply (octet ∷ octets) service old new = new

abbrev Answers : Listener → Type 0
Answers listener = IsReply listener.service.answer

packet_reply : (packet : List ℕ) (service : Service) (gift : Gift) → IsReply service.answer → IsReply (hears_packet Rfcomm packet service gift).service.answer
packet_reply packet service gift old =
    cond_both (is_ignored Rfcomm packet service) _ _ (λ (s : Served). IsReply s.service.answer) (λ e. old)
    (λ e. let h = hears Rfcomm packet service.sessions gift in over_reply h.response (record service { sessions = h.sessions; failed = service.failed || h.short }) old (heard_reply packet service.sessions gift))

on_reply : (more : Listener → Gift → Received) → ((listener : Listener) (gift : Gift) → Answers listener → Answers (more listener gift).listener) → (heeded : Heeded) → Answers heeded.listener → Answers (hears_on more heeded).listener
on_reply more keeps heeded old = cond_both (stops heeded.listener) _ _ (λ (r : Received). Answers r.listener) (λ e. old) (λ e. keeps heeded.listener heeded.gift old)

front_reply : (more : List ℕ → Listener → Gift → Received) → ((rest : List ℕ) (listener : Listener) (gift : Gift) → Answers listener → Answers (more rest listener gift).listener) → (stream : List ℕ) (front : Front) (listener : Listener) (gift : Gift) → Answers listener
    → Answers (hears_front more stream front listener gift).listener
front_reply more keeps stream (Whole packet rest) listener gift old = on_reply (more rest) (keeps rest) (heeds_carried packet listener gift) (packet_reply packet listener.service gift old)
front_reply more keeps stream Partial listener gift old = old
front_reply more keeps stream (Broken refusal) listener gift old = packet_reply (take 3 stream) listener.service gift old

stream_reply : (steps : ℕ) (stream : List ℕ) (listener : Listener) (gift : Gift) → Answers listener → Answers (hears_stream steps stream listener gift).listener
unfolding hears_stream
stream_reply zero stream listener gift old = old
stream_reply (suc steps) stream listener gift old =
    front_reply (λ rest l g. hears_stream steps rest l g) (λ rest l g. stream_reply steps rest l g) stream (front_of listener.service.sessions.carried.maximum stream) listener gift old

pub up_reply : (u : Up) (server : Server) (gift : Gift) → Answers server.listener → Answers (hears_up u server gift).server.listener
up_reply nothing server gift old = old
up_reply opened server gift old = old
up_reply (closed reason) server gift old = old
up_reply (bytes octets) server gift old = cond_both server.listener.breaks _ _ (λ (r : Reacted). Answers r.server.listener) (λ e. old) (λ e. stream_reply (length (server.held ++ octets)) (server.held ++ octets) server.listener gift old)

-- where no packet is whole and none begins wrong it stays as it is
pub up_same : (u : Up) (server : Server) (gift : Gift) → server.listener.breaks ≡ false → (hears_up u server gift).server.listener.breaks ≡ false → HasNoPacket (server.held ++ handed u) → (hears_up u server gift).server.listener ≡ server.listener
up_same nothing server gift unbroken later none = refl
up_same opened server gift unbroken later none = refl
up_same (closed reason) server gift unbroken later none = refl
up_same (bytes octets) server gift unbroken later none =
    elim (none_front server.listener.service.sessions.carried.maximum stream none) [
      | inl partial ↦ is ∙ ap (λ (r : Received). r.listener) (hears_partial (length stream) stream server.listener gift partial)
      | inr broken ↦ absurd (breaks_off broken.0 broken.1)
    ]
  where
    stream : List ℕ
    stream = server.held ++ octets

    is : (hears_up (bytes octets) server gift).server.listener ≡ (hears_stream (length stream) stream server.listener gift).listener
    is = ap (λ (r : Reacted). r.server.listener) (cond-false server.listener.breaks (let r : Reacted = record { server = server; gift = gift } in r) _ unbroken)

    breaks_off : (refusal : ObexRefusal) → BeginsNone server.listener.service.sessions.carried.maximum stream refusal → ⊥
    breaks_off refusal begins =
        let never : false ≡ true = sym later ∙ ap (λ (l : Listener). l.breaks) is ∙ ap (λ (r : Received). r.listener.breaks) (hears_broken (length stream) stream server.listener gift refusal (omega arith) begins) in
        cc
