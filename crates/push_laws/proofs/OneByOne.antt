-- A client that wants no single response mode: its requests come one by one, each behind the response to the one before, whatever the
-- inbox of its server answers.
use Rattle.std.proofs.Common.{Bool, true, false, eqb, ◌≡◌, ◌==◌, ℕ, ◌&&◌, List, [], ◌∷◌, ◌++◌, Option, Some, None, is_none, Result, Ok, Err, refl, sym, ap, subst, ◌∙◌, append-nil, if◌then◌else◌}
use Rattle.std.specs.Prelude.{not}
use Rattle.std.proofs.lemmas.Bool.{cond-true, eqb-true, eq-eqb, and_parts}
use Rattle.link_talk.specs.bt_base.specs.declared.settings.Transport.TheVariants.{L2cap}
use Rattle.link_talk.specs.bt_base.specs.Objects.{Object}
use Rattle.link_talk.specs.push_terms.specs.declared.outcome.Outcome.{Outcome}
use Rattle.link_talk.specs.push_terms.specs.declared.outcome.Outcome.TheVariants as outcomes
use Rattle.push_model.specs.obex_headers.specs.declared.fault.ObexRefusal.{ObexRefusal}
use Rattle.push_model.specs.obex_headers.specs.Packets.{PlainHeader, PlainPacket}
use Rattle.push_model.specs.obex_headers.specs.Reading.{packet_in}
use Rattle.push_model.specs.obex_session.specs.declared.asking.Request.{Request}
use Rattle.push_model.specs.obex_session.specs.declared.asking.Request.TheVariants as requests
use Rattle.push_model.specs.obex_session.specs.Asking.{Asking, phase_of, awaited_code, limit_by, single_by, after_read}
use Rattle.push_model.specs.obex_session.specs.Marks.{marks_of}
use Rattle.push_model.specs.obex_session.specs.NextPut.{is_waiting, put_request}
use Rattle.push_model.specs.obex_session.specs.Views.{after_at}
use Rattle.push_model.specs.Client.{Client, ends, ends_by, may_cancel}
use Rattle.push_model.specs.Events as events
use Rattle.push_model.specs.Laws as deeds
use Rattle.push_model.specs.Laws.{Deed, Hears, Asks, Finishes, Cancels}
use Rattle.push_model.specs.Responding.{is_object}
use Rattle.push_model.specs.Server.{object_psm}
use Rattle.push_model.specs.Steps.{is_last_put}
use Rattle.push_laws.specs.Exchanges.{is_response}
use Rattle.push_laws.specs.Parties.{Pipes, sdu_if, sent_by, told_by, heard_by}
use Rattle.push_laws.specs.Sending.{packets_by, AnswersTo}
use Rattle.push_laws.proofs.Answered.{after_answered}
use Rattle.push_laws.proofs.Inverting.{Sends, Rests, Connects, Puts, Aborts, Leaves, asks_send}
use Rattle.push_laws.proofs.OnObject.{IsOnObject, sent_same, told_is}
use Rattle.push_laws.proofs.Talks.{Talk, talk_of, Unheard, Kept, news_quiet, news_keeps, hears_by}
use Rattle.push_laws.proofs.Ways.{no_more, next_is}

-- ---- one request, one response

-- nothing is under way; a request is; its response is to go, if it has one; its response is under way
pub data Exchange (waits : Bool) (pipes : Pipes) (response : List ℕ) : Type 0 where
  Idle : pipes.requests_sent ≡ pipes.requests_come → pipes.responses_sent ≡ pipes.responses_come → response ≡ [] → Exchange waits pipes response
  Requested : (request : List ℕ) → pipes.requests_sent ≡ pipes.requests_come ++ request ∷ [] → pipes.responses_sent ≡ pipes.responses_come → response ≡ [] → waits ≡ true → Exchange waits pipes response
  Received : pipes.requests_sent ≡ pipes.requests_come → pipes.responses_sent ≡ pipes.responses_come → waits ≡ true → Exchange waits pipes response
  Responded : (answer : List ℕ) → pipes.requests_sent ≡ pipes.requests_come → pipes.responses_sent ≡ pipes.responses_come ++ answer ∷ [] → response ≡ [] → waits ≡ true → Exchange waits pipes response

module _ (waits : Bool) (pipes : Pipes) (response : List ℕ) where
  -- a request that comes finds no response that waits, and its own may wait then
  pub free_then : (sdu : List ℕ) (behind : List (List ℕ)) → pipes.requests_sent ≡ (pipes.requests_come ++ sdu ∷ []) ++ behind → Exchange waits pipes response → response ≡ []
  free_then sdu behind front (Idle is none free) = free
  free_then sdu behind front (Requested request is none free waiting) = free
  free_then sdu behind front (Received is none waiting) = absurd (no_more pipes.requests_come sdu behind (sym is ∙ front))
  free_then sdu behind front (Responded answer is some free waiting) = free

  abbrev come_with : List ℕ → Bool → Pipes
  come_with sdu closed = record pipes { requests_come = pipes.requests_come ++ sdu ∷ []; responses_sent = pipes.responses_sent ++ []; closed = closed }

  tail_none : (x y : List ℕ) (xs : List (List ℕ)) → x ∷ [] ≡ y ∷ xs → xs ≡ []
  tail_none x y xs e = cc

  pub comes : (sdu later : List ℕ) (behind : List (List ℕ)) (closed : Bool) → pipes.requests_sent ≡ (pipes.requests_come ++ sdu ∷ []) ++ behind → Exchange waits pipes response → Exchange waits (come_with sdu closed) later
  comes sdu later behind closed front (Idle is none free) = absurd (no_more pipes.requests_come sdu behind (sym is ∙ front))
  comes sdu later behind closed front (Requested request is none free waiting) =
      let over : behind ≡ [] = tail_none request sdu behind (next_is pipes.requests_come (request ∷ []) sdu behind pipes.requests_sent is front) in
      Received (front ∙ ap (λ (ps : List (List ℕ)). (pipes.requests_come ++ sdu ∷ []) ++ ps) over ∙ append-nil (pipes.requests_come ++ sdu ∷ [])) (append-nil pipes.responses_sent ∙ none) waiting
  comes sdu later behind closed front (Received is none waiting) = absurd (no_more pipes.requests_come sdu behind (sym is ∙ front))
  comes sdu later behind closed front (Responded answer is some free waiting) = absurd (no_more pipes.requests_come sdu behind (sym is ∙ front))

  abbrev gone_with : List ℕ → Bool → Pipes
  gone_with sdu closed = record pipes { requests_come = pipes.requests_come ++ []; responses_sent = pipes.responses_sent ++ sdu ∷ []; closed = closed }

  pub goes : (sdu : List ℕ) (closed : Bool) → (response ≡ [] → ⊥) → Exchange waits pipes response → Exchange waits (gone_with sdu closed) []
  goes sdu closed some (Idle is none free) = absurd (some free)
  goes sdu closed some (Requested request is none free waiting) = absurd (some free)
  goes sdu closed some (Received is none waiting) = Responded sdu (is ∙ sym (append-nil pipes.requests_come)) (ap (λ (rs : List (List ℕ)). rs ++ sdu ∷ []) none) refl waiting
  goes sdu closed some (Responded answer is other free waiting) = absurd (some free)

  pub alike : (pipes' : Pipes) (response' : List ℕ) → pipes'.requests_sent ≡ pipes.requests_sent → pipes'.requests_come ≡ pipes.requests_come → pipes'.responses_sent ≡ pipes.responses_sent → pipes'.responses_come ≡ pipes.responses_come → response' ≡ response
      → Exchange waits pipes response → Exchange waits pipes' response'
  alike pipes' response' a b c d e (Idle is none free) = Idle (a ∙ is ∙ sym b) (c ∙ none ∙ sym d) (e ∙ free)
  alike pipes' response' a b c d e (Requested request is none free waiting) = Requested request (a ∙ is ∙ ap (λ (ps : List (List ℕ)). ps ++ request ∷ []) (sym b)) (c ∙ none ∙ sym d) (e ∙ free) waiting
  alike pipes' response' a b c d e (Received is none waiting) = Received (a ∙ is ∙ sym b) (c ∙ none ∙ sym d) waiting
  alike pipes' response' a b c d e (Responded answer is some free waiting) = Responded answer (a ∙ is ∙ sym b) (c ∙ some ∙ ap (λ (ps : List (List ℕ)). ps ++ answer ∷ []) (sym d)) (e ∙ free) waiting

  -- a response that comes, and nothing is under way then
  abbrev taken_with : List ℕ → Pipes
  taken_with sdu = record pipes { requests_sent = pipes.requests_sent ++ []; responses_come = pipes.responses_come ++ sdu ∷ [] }

  pub takes : (waits' : Bool) (sdu : List ℕ) (behind : List (List ℕ)) → pipes.responses_sent ≡ (pipes.responses_come ++ sdu ∷ []) ++ behind → Exchange waits pipes response → Exchange waits' (taken_with sdu) response
  takes waits' sdu behind front (Idle is none free) = absurd (no_more pipes.responses_come sdu behind (sym none ∙ front))
  takes waits' sdu behind front (Requested request is none free waiting) = absurd (no_more pipes.responses_come sdu behind (sym none ∙ front))
  takes waits' sdu behind front (Received is none waiting) = absurd (no_more pipes.responses_come sdu behind (sym none ∙ front))
  takes waits' sdu behind front (Responded answer is some free waiting) =
      let over : behind ≡ [] = tail_none answer sdu behind (next_is pipes.responses_come (answer ∷ []) sdu behind pipes.responses_sent some front) in
      Idle (append-nil pipes.requests_sent ∙ is) (front ∙ ap (λ (ps : List (List ℕ)). (pipes.responses_come ++ sdu ∷ []) ++ ps) over ∙ append-nil (pipes.responses_come ++ sdu ∷ [])) free

  -- a request that is sent
  abbrev sent_with : List (List ℕ) → Pipes
  sent_with packets = record pipes { requests_sent = pipes.requests_sent ++ packets; responses_come = pipes.responses_come ++ [] }

  not_both : waits ≡ true → waits ≡ false → ⊥
  not_both e f = let g : true ≡ false = sym e ∙ f in absurd cc

  pub sends : (waits' : Bool) (packet : List ℕ) → waits ≡ false → waits' ≡ true → Exchange waits pipes response → Exchange waits' (sent_with (packet ∷ [])) response
  sends waits' packet still now (Idle is none free) = Requested packet (ap (λ (ps : List (List ℕ)). ps ++ packet ∷ []) is) (none ∙ sym (append-nil pipes.responses_come)) free now
  sends waits' packet still now (Requested request is none free waiting) = absurd (not_both waiting still)
  sends waits' packet still now (Received is none waiting) = absurd (not_both waiting still)
  sends waits' packet still now (Responded answer is some free waiting) = absurd (not_both waiting still)

-- ---- the client stays out of the mode

-- over L2CAP each of its requests waits for a response
abbrev pub Plain : Talk → Type 0
Plain t = (t.transport ≡ L2cap) × (t.session.wanted ≡ false) × (t.session.single ≡ false)

abbrev pub IsPlain : Client → Type 0
IsPlain client = Plain (talk_of client)

abbrev pub waits_of : Client → Bool
waits_of client = is_waiting client.session.awaited

ends_plain : (cause : Option Outcome) (o : Outcome) (client : Client) → IsPlain client → IsPlain (ends_by cause o client)
ends_plain None o client p = p
ends_plain (Some earlier) o client p = p

either : (test : Bool) (a b : Client) → IsPlain a → IsPlain b → IsPlain (if test then a else b)
either true a b x y = x
either false a b x y = y

single_plain : (request : Request) (wanted single : Bool) (headers : List PlainHeader) → wanted ≡ false → single ≡ false → single_by request wanted single (marks_of headers) ≡ false
single_plain requests.Connect wanted single headers w s = s
single_plain requests.FirstPut wanted single headers w s = ap (λ (b : Bool). b && (marks_of headers).single) w
single_plain requests.Put wanted single headers w s = s
single_plain requests.Stream wanted single headers w s = s
single_plain requests.FinalPut wanted single headers w s = s
single_plain requests.Abort wanted single headers w s = s
single_plain requests.Disconnect wanted single headers w s = s

off_tests : (parameters matches : Bool) (same going ended : Asking) → same.single ≡ false → going.single ≡ false → ended.single ≡ false → (if parameters then same else if matches then going else ended).single ≡ false
off_tests true matches same going ended x y z = x
off_tests false true same going ended x y z = y
off_tests false false same going ended x y z = z

off_read : (request : Request) (session : Asking) (read : Result PlainPacket ObexRefusal) → session.wanted ≡ false → session.single ≡ false → (after_read session request read).single ≡ false
off_read request session (Ok packet) w s =
    off_tests (marks_of packet.headers).parameters (eqb packet.code (awaited_code request)) session
    (record session { limit = limit_by request session.limit packet.extra; single = single_by request session.wanted session.single (marks_of packet.headers); awaited = None }) (record session { put = None; single = false; awaited = None }) s
    (single_plain request session.wanted session.single packet.headers w s) refl
off_read request session (Err refusal) w s = s

pub off_behind : (awaited : Option Request) (session : Asking) (response : List ℕ) → session.wanted ≡ false → session.single ≡ false → (after_at awaited session response).single ≡ false
off_behind None session response w s = s
off_behind (Some request) session response w s = off_read request session (packet_in (phase_of request) session.maximum response) w s

plain_kept : Kept Plain
plain_kept = record {
  unheard = record { ends = λ outcome t free none p. p; opens = λ limit t least most p. p };
  hears = λ response client p. hears_by Plain (λ o t x. x) (λ contact t x. x) response client p
      (p.0, (after_answered client.session response).wanted ∙ p.1, off_behind client.session.awaited client.session response p.1 p.2);
}

-- ---- what it sends

pub puts_wait : (first final single : Bool) → single ≡ false → is_waiting (Some (put_request first final single)) ≡ true
puts_wait first true single s = refl
puts_wait true false single s = refl
puts_wait false false true s = absurd (let f : true ≡ false = s in cc)
puts_wait false false false s = refl

pub off_put : (final single : Bool) → single ≡ false → (not final && single) ≡ false
off_put true single s = refl
off_put false single s = s

-- nothing, or a request behind which it waits
pub data Requests (client : Client) (packets : List (List ℕ)) (after : Talk) : Type 0 where
  Nothing : packets ≡ [] → is_waiting after.session.awaited ≡ waits_of client → Requests client packets after
  One : (packet : List ℕ) → packets ≡ packet ∷ [] → waits_of client ≡ false → is_waiting after.session.awaited ≡ true → Requests client packets after

abbrev waiting_in : Asking → Bool
waiting_in session = is_waiting session.awaited

requests_of : (content : Option (List Object)) (client : Client) (packets : List (List ℕ)) (after : Talk) → IsPlain client → Sends content client packets after → Plain after × Requests client packets after
requests_of content client packets after p (Rests none s c t) = ((t ∙ p.0, ap (λ (x : Asking). x.wanted) s ∙ p.1, ap (λ (x : Asking). x.single) s ∙ p.2), Nothing none (ap waiting_in s))
requests_of content client packets after p (Connects free is s c t) = ((t ∙ p.0, ap (λ (x : Asking). x.wanted) s ∙ p.1, ap (λ (x : Asking). x.single) s), One _ is free (ap waiting_in s))
requests_of content client packets after p (Puts part free met none told is s c t) = (
  (t ∙ p.0, ap (λ (x : Asking). x.wanted) s ∙ p.1, ap (λ (x : Asking). x.single) s ∙ off_put (is_last_put client) client.session.single p.2),
  One _ is free (ap waiting_in s ∙ puts_wait (is_none client.session.put) (is_last_put client) client.session.single p.2),
)
requests_of content client packets after p (Aborts free met is s c t) = ((t ∙ p.0, ap (λ (x : Asking). x.wanted) s ∙ p.1, ap (λ (x : Asking). x.single) s), One _ is free (ap waiting_in s))
requests_of content client packets after p (Leaves free met is s c t) = ((t ∙ p.0, ap (λ (x : Asking). x.wanted) s ∙ p.1, ap (λ (x : Asking). x.single) s), One _ is free (ap waiting_in s))

pub deed_plain : (content : Option (List Object)) (deed : Deed) (client : Client) → AnswersTo content deed client → IsPlain client → IsPlain (deeds.done deed client)
deed_plain content (Hears news) client answers p = news_keeps Plain plain_kept news client p
deed_plain content (Asks parts) client answers p = (requests_of content client (packets_by (Asks parts) client) (talk_of (deeds.done (Asks parts) client)) p (asks_send content client parts p.0 answers)).0
deed_plain content Finishes client answers p = p
deed_plain content Cancels client answers p = either (may_cancel client) (ends outcomes.Cancelled client) client (ends_plain client.cause outcomes.Cancelled client p) p

-- ---- a deed

-- what it takes as a response came on the server's channel
response_told : (news : events.News) (client : Client) → IsOnObject client → is_response news client ≡ true → (sdu : List ℕ) × (told_by news ≡ sdu ∷ [])
response_told (events.Sdu psm sdu) client here is =
    let both = and_parts (is_object client.stage) (psm == client.psm) is in (sdu, cond-true (psm == object_psm) (sdu ∷ []) [] (eq-eqb psm object_psm (eqb-true psm client.psm both.1 ∙ here both.0)))
response_told events.LinkUp client here is = absurd (let f : false ≡ true = is in cc)
response_told (events.LinkDown reason) client here is = absurd (let f : false ≡ true = is in cc)
response_told (events.LinkFailed status) client here is = absurd (let f : false ≡ true = is in cc)
response_told (events.ChannelOpen psm mtu) client here is = absurd (let f : false ≡ true = is in cc)
response_told (events.ChannelClosed psm cause) client here is = absurd (let f : false ≡ true = is in cc)
response_told events.FeaturesTold client here is = absurd (let f : false ≡ true = is in cc)
response_told events.FeaturesLost client here is = absurd (let f : false ≡ true = is in cc)
response_told events.Timer client here is = absurd (let f : false ≡ true = is in cc)

module _ (pipes : Pipes) (response : List ℕ) where
  abbrev Has : Client → Type 0
  Has client = Exchange (waits_of client) pipes response

  abbrev Behind : Client → (sent told : List (List ℕ)) → Type 0
  Behind client sent told = Exchange (waits_of client) (record pipes { requests_sent = pipes.requests_sent ++ sent; responses_come = pipes.responses_come ++ told }) response

  abbrev IsNext : List (List ℕ) → Type 0
  IsNext told = (behind : List (List ℕ)) × (pipes.responses_sent ≡ (pipes.responses_come ++ told) ++ behind)

  unheard : Unheard (λ (t : Talk). Exchange (is_waiting t.session.awaited) pipes response)
  unheard = record { ends = λ outcome t free none x. x; opens = λ limit t least most x. x }

  nothing_moves : (client : Client) → Has client → Behind client [] []
  nothing_moves client x = alike (waits_of client) pipes response (record pipes { requests_sent = pipes.requests_sent ++ []; responses_come = pipes.responses_come ++ [] }) response (append-nil pipes.requests_sent) refl refl (append-nil pipes.responses_come) refl x

  no_sdu : (sdu : List ℕ) → sdu ∷ [] ≡ [] → ⊥
  no_sdu sdu e = cc

  quiet_news : (heard : Bool) (news : events.News) (client : Client) → is_response news client ≡ heard → IsOnObject client → told_by news ≡ [] → Has client → Has (events.hears_news news client)
  quiet_news false news client is here none x = news_quiet (λ (t : Talk). Exchange (is_waiting t.session.awaited) pipes response) unheard news client is x
  quiet_news true news client is here none x = let told = response_told news client here is in absurd (no_sdu told.0 (sym told.1 ∙ none))

  told_news : (told : List (List ℕ)) (news : events.News) (client : Client) → told_by news ≡ told → (here : Bool) (sdu : List ℕ) → told ≡ sdu_if here sdu → IsOnObject client → IsNext told → Has client → Behind (events.hears_news news client) [] told
  told_news told news client is false sdu e on next x =
      subst (Behind (events.hears_news news client) []) (sym e) (nothing_moves (events.hears_news news client) (quiet_news (is_response news client) news client refl on (is ∙ e) x))
  told_news told news client is true sdu e on next x =
      let now = subst IsNext e next in subst (Behind (events.hears_news news client) []) (sym e) (takes (waits_of client) pipes response (waits_of (events.hears_news news client)) sdu now.0 now.1 x)

  requests_move : (client : Client) (packets : List (List ℕ)) (after : Client) → Requests client packets (talk_of after) → Has client → Behind after packets []
  requests_move client packets after (Nothing none same) x =
      subst (λ (b : Bool). Exchange b (record pipes { requests_sent = pipes.requests_sent ++ packets; responses_come = pipes.responses_come ++ [] }) response) (sym same)
      (subst (λ (ps : List (List ℕ)). Behind client ps []) (sym none) (nothing_moves client x))
  requests_move client packets after (One packet is still now) x = subst (λ (ps : List (List ℕ)). Behind after ps []) (sym is) (sends (waits_of client) pipes response (waits_of after) packet still now x)

  cancels : (may : Bool) (client : Client) → Has client → Has (if may then ends outcomes.Cancelled client else client)
  cancels true client x = ending client.cause outcomes.Cancelled client x
    where
      ending : (cause : Option Outcome) (o : Outcome) (client : Client) → Has client → Has (ends_by cause o client)
      ending None o client x = x
      ending (Some earlier) o client x = x
  cancels false client x = x

  deeded : (content : Option (List Object)) (deed : Deed) (client : Client) → IsPlain client → IsOnObject client → AnswersTo content deed client → IsNext (heard_by deed) → Has client → Behind (deeds.done deed client) (packets_by deed client) (heard_by deed)
  deeded content (Hears news) client p here answers next x = let told = told_is news in told_news (told_by news) news client refl told.0 told.1 told.2 here next x
  deeded content (Asks parts) client p here answers next x =
      requests_move client (packets_by (Asks parts) client) (deeds.done (Asks parts) client) (requests_of content client (packets_by (Asks parts) client) (talk_of (deeds.done (Asks parts) client)) p (asks_send content client parts p.0 answers)).1 x
  deeded content Finishes client p here answers next x = nothing_moves (deeds.done Finishes client) x
  deeded content Cancels client p here answers next x = nothing_moves (deeds.done Cancels client) (cancels (may_cancel client) client x)

  pub deed_moves : (content : Option (List Object)) (deed : Deed) (client : Client) → IsPlain client → IsOnObject client → AnswersTo content deed client → IsNext (heard_by deed) → Has client → Behind (deeds.done deed client) (sent_by deed client) (heard_by deed)
  deed_moves content deed client p here answers next x = subst (λ (ps : List (List ℕ)). Behind (deeds.done deed client) ps (heard_by deed)) (sym (sent_same deed client here)) (deeded content deed client p here answers next x)
