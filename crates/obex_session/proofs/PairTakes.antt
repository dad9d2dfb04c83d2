-- Two sessions over a pipe of packets: the client takes a response.
use Rattle.std.proofs.Common.{ℕ, Bool, true, false, eqb, ◌≡◌, ◌≤◌, ◌⊎◌, inl, inr, List, [], ◌∷◌, Some, None, Result, Ok, Err, refl, sym, ap, subst, ◌∙◌, arith}
use Rattle.std.specs.Prelude.{min}
use Rattle.std.specs.List.{AllByRecursion}
use Rattle.std.proofs.lemmas.Bool.{cond-true, cond-false}
use Rattle.obex_headers.specs.declared.fault.ObexRefusal.{ObexRefusal}
use Rattle.obex_headers.specs.Packets.{PlainPacket, maximum_of}
use Rattle.obex_headers.specs.Reading.{packet_in}
use Rattle.obex_session.specs.declared.asking.Request.{Request}
use Rattle.obex_session.specs.declared.asking.Request.TheVariants.{Connect, FirstPut, Put, Stream, FinalPut, Abort, Disconnect}
use Rattle.obex_session.specs.declared.client.Answered.{Answered}
use Rattle.obex_session.specs.declared.client.Answered.TheVariants.{Go, Done, Refused, Bad, Srmp}
use Rattle.obex_session.specs.declared.marks.Marks.{Marks}
use Rattle.obex_session.specs.Marks.{marks_of}
use Rattle.obex_session.proofs.StatingLaws.{States, states_least}
use Rattle.obex_session.specs.Asking.{Asking, phase_of, awaited_code, success_of, answer_by, answer_read, answer_to, limit_by, after_by, after_read, after_answer}
use Rattle.obex_session.specs.Pairs.{Pair, Takes, Ends, EndsPush, is_put_request, leave_request}
use Rattle.obex_session.proofs.PairStages.{Base, Agrees, Over, streaming, IsRefused, Stage, Asked, Idle, Mute, Quits, Parts, Deaf, leave_no_put, leave_refused, stream_is_refused, same_request, first_of, no_first, Replied, Streams, Stopped, Parted}

-- ---- the client takes a response

-- an answer that is neither bad nor one with parameters of single response mode ends the wait
abbrev pub Settles : Answered → Type 0
Settles Go = Unit {0}
Settles Done = Unit {0}
Settles (Refused code) = Unit {0}
Settles (Bad refusal) = ⊥
Settles Srmp = ⊥

pub ends_settles : (request : Request) (answer : Answered) → EndsPush request answer → Settles answer
ends_settles request Go ends = absurd ends
ends_settles request Done ends = tt
ends_settles request (Refused code) ends = tt
ends_settles request (Bad refusal) ends = absurd ends
ends_settles request Srmp ends = absurd ends

-- what a response leaves as it is
pub record Stays (session session' : Asking) : Type 0 where
  pub maximum : session'.maximum ≡ session.maximum
  pub wanted : session'.wanted ≡ session.wanted

stays_at : (session : Asking) (request : Request) (parameters matches : Bool) (marks : Marks) (code : ℕ) (extra : List ℕ) → marks.parameters ≡ parameters → eqb code (awaited_code request) ≡ matches → Stays session (after_by session request marks code extra)
stays_at session request true matches marks code extra p m = subst (Stays session) (sym (cond-true _ session _ p)) (record { maximum = refl; wanted = refl })
stays_at session request false true marks code extra p m = subst (Stays session) (sym (cond-false _ session _ p ∙ cond-true _ _ _ m)) (record { maximum = refl; wanted = refl })
stays_at session request false false marks code extra p m = subst (Stays session) (sym (cond-false _ session _ p ∙ cond-false _ _ _ m)) (record { maximum = refl; wanted = refl })

pub stays_read : (session : Asking) (request : Request) (read : Result PlainPacket ObexRefusal) → Stays session (after_read session request read)
stays_read session request (Ok packet) = stays_at session request (marks_of packet.headers).parameters (eqb packet.code (awaited_code request)) (marks_of packet.headers) packet.code packet.extra refl refl
stays_read session request (Err refusal) = record { maximum = refl; wanted = refl }

ends_at : (session : Asking) (request : Request) (parameters matches : Bool) (marks : Marks) (code : ℕ) (extra : List ℕ) → marks.parameters ≡ parameters → eqb code (awaited_code request) ≡ matches → Settles (answer_by request marks code) → (after_by session request marks code extra).awaited ≡ None
ends_at session request true matches marks code extra p m settles = absurd (subst Settles (cond-true _ Srmp _ p) settles)
ends_at session request false true marks code extra p m settles = ap (λ (s : Asking). s.awaited) (cond-false _ session _ p ∙ cond-true _ _ _ m)
ends_at session request false false marks code extra p m settles = ap (λ (s : Asking). s.awaited) (cond-false _ session _ p ∙ cond-false _ _ _ m)

pub ends_read : (session : Asking) (request : Request) (read : Result PlainPacket ObexRefusal) → Settles (answer_read request read) → (after_read session request read).awaited ≡ None
ends_read session request (Ok packet) settles = ends_at session request (marks_of packet.headers).parameters (eqb packet.code (awaited_code request)) (marks_of packet.headers) packet.code packet.extra refl refl settles
ends_read session request (Err refusal) settles = absurd settles

-- with success the object under way stays
keeps_at : (session : Asking) (request : Request) (parameters matches : Bool) (marks : Marks) (code : ℕ) (extra : List ℕ) → marks.parameters ≡ parameters → eqb code (awaited_code request) ≡ matches → answer_by request marks code ≡ Go → (after_by session request marks code extra).put ≡ session.put
keeps_at session request true matches marks code extra p m e = ap (λ (s : Asking). s.put) (cond-true _ session _ p)
keeps_at session request false true marks code extra p m e = ap (λ (s : Asking). s.put) (cond-false _ session _ p ∙ cond-true _ _ _ m)
keeps_at session request false false marks code extra p m e = absurd (let bad : Refused code ≡ Go = sym (cond-false _ Srmp _ p ∙ cond-false _ (success_of request) (Refused code) m) ∙ e in cc)

pub keeps_read : (session : Asking) (request : Request) (read : Result PlainPacket ObexRefusal) → answer_read request read ≡ Go → (after_read session request read).put ≡ session.put
keeps_read session request (Ok packet) e = keeps_at session request (marks_of packet.headers).parameters (eqb packet.code (awaited_code request)) (marks_of packet.headers) packet.code packet.extra refl refl e
keeps_read session request (Err refusal) e = refl

-- what is sent is bounded by what a response to CONNECT states
abbrev pub Bounds : ℕ → ℕ → Type 0
Bounds own limit = (255 ≤ limit) × (limit ≤ own)

no_connect_put : (request : Request) → is_put_request request ≡ true → request ≡ Connect → ⊥
no_connect_put request put connect = absurd (let never : false ≡ true = sym (ap is_put_request connect) ∙ put in cc)

others_bounded : (request : Request) (limit own : ℕ) → 255 ≤ limit → (request ≡ Connect) ⊎ (limit ≤ own) → (request ≡ Connect → ⊥) → Bounds own limit
others_bounded request limit own least (inl connect) other = absurd (other connect)
others_bounded request limit own least (inr bounded) other = (least, bounded)

lesser_bounded : (limit stated own : ℕ) → 255 ≤ limit → 255 ≤ stated → stated ≤ own → Bounds own (min limit stated)
lesser_bounded limit stated own a b c = (omega arith, omega arith)

limit_bounded : (request : Request) (limit own : ℕ) (extra : List ℕ) → 255 ≤ limit → (request ≡ Connect) ⊎ (limit ≤ own) → (request ≡ Connect → Bounds own (maximum_of extra)) → Bounds own (limit_by request limit extra)
limit_bounded Connect limit own extra least bounded states = lesser_bounded limit (maximum_of extra) own least (states refl).0 (states refl).1
limit_bounded FirstPut limit own extra least bounded states = others_bounded FirstPut limit own least bounded (λ e. absurd cc)
limit_bounded Put limit own extra least bounded states = others_bounded Put limit own least bounded (λ e. absurd cc)
limit_bounded Stream limit own extra least bounded states = others_bounded Stream limit own least bounded (λ e. absurd cc)
limit_bounded FinalPut limit own extra least bounded states = others_bounded FinalPut limit own least bounded (λ e. absurd cc)
limit_bounded Abort limit own extra least bounded states = others_bounded Abort limit own least bounded (λ e. absurd cc)
limit_bounded Disconnect limit own extra least bounded states = others_bounded Disconnect limit own least bounded (λ e. absurd cc)

bounded_at : (session : Asking) (request : Request) (parameters matches : Bool) (marks : Marks) (code own : ℕ) (extra : List ℕ) → marks.parameters ≡ parameters → eqb code (awaited_code request) ≡ matches → (answer_by request marks code ≡ Go) ⊎ (is_put_request request ≡ true)
    → 255 ≤ session.limit → (request ≡ Connect) ⊎ (session.limit ≤ own) → (request ≡ Connect → Bounds own (maximum_of extra)) → Bounds own (after_by session request marks code extra).limit
bounded_at session request true matches marks code own extra p m (inl go) least bounded states = absurd (let bad : Srmp ≡ Go = sym (cond-true _ Srmp _ p) ∙ go in cc)
bounded_at session request true matches marks code own extra p m (inr put) least bounded states =
    subst (λ (s : Asking). Bounds own s.limit) (sym (cond-true _ session _ p)) (others_bounded request session.limit own least bounded (no_connect_put request put))
bounded_at session request false true marks code own extra p m goes least bounded states =
    subst (λ (s : Asking). Bounds own s.limit) (sym (cond-false _ session _ p ∙ cond-true _ _ _ m)) (limit_bounded request session.limit own extra least bounded states)
bounded_at session request false false marks code own extra p m (inl go) least bounded states = absurd (let bad : Refused code ≡ Go = sym (cond-false _ Srmp _ p ∙ cond-false _ (success_of request) (Refused code) m) ∙ go in cc)
bounded_at session request false false marks code own extra p m (inr put) least bounded states =
    subst (λ (s : Asking). Bounds own s.limit) (sym (cond-false _ session _ p ∙ cond-false _ _ _ m)) (others_bounded request session.limit own least bounded (no_connect_put request put))

bounded_read : (session : Asking) (request : Request) (own : ℕ) (read : Result PlainPacket ObexRefusal) → (answer_read request read ≡ Go) ⊎ (is_put_request request ≡ true)
    → 255 ≤ session.limit → (request ≡ Connect) ⊎ (session.limit ≤ own) → ((packet : PlainPacket) → request ≡ Connect → read ≡ Ok packet → Bounds own (maximum_of packet.extra)) → Bounds own (after_read session request read).limit
bounded_read session request own (Ok packet) goes least bounded states =
    bounded_at session request (marks_of packet.headers).parameters (eqb packet.code (awaited_code request)) (marks_of packet.headers) packet.code own packet.extra refl refl goes least bounded (λ connect. states packet connect refl)
bounded_read session request own (Err refusal) (inl go) least bounded states = absurd (let bad : Bad refusal ≡ Go = go in cc)
bounded_read session request own (Err refusal) (inr put) least bounded states = others_bounded request session.limit own least bounded (no_connect_put request put)

response_states : (session : Asking) (request : Request) (own : ℕ) (response : List ℕ) → States own response → (packet : PlainPacket) → request ≡ Connect → packet_in (phase_of request) session.maximum response ≡ Ok packet → Bounds own (maximum_of packet.extra)
response_states session request own response states packet connect read =
    let is = ap (λ (r : Request). packet_in (phase_of r) session.maximum response) (sym connect) ∙ read in
    (states_least session.maximum response packet is, states session.maximum packet is)

pub last_of : (x y : List ℕ) (ys : List (List ℕ)) → x ∷ [] ≡ y ∷ ys → ys ≡ []
last_of x y ys e = cc

-- a response that comes is the one that the stage has
same_answer : (a : Pair) (r r' : Request) (s s' : List ℕ) → r ≡ r' → s ≡ s' → answer_to a.client.maximum r s ≡ answer_to a.client.maximum r' s'
same_answer a r r' s s' e f = ap (λ (x : Request). answer_to a.client.maximum x s) e ∙ ap (λ (x : List ℕ). answer_to a.client.maximum r' x) f

refused_no_go : (answer answer' : Answered) → answer ≡ answer' → IsRefused answer → answer' ≡ Go → ⊥
refused_no_go answer answer' same refused go = absurd (let bad : Refused refused.0 ≡ Go = sym refused.1 ∙ same ∙ go in cc)

pub takes_stage : (a b : Pair) → Stage a → Takes a b → Stage b
takes_stage a b (Asked r packet waits asks answers suits none) t = absurd (no_first t.response t.rest (sym answers ∙ t.next_is))
takes_stage a b (Replied r s waits waiting asks answers means goes) t =
    let r_is : r ≡ t.request = same_request r t.request (sym waits ∙ t.waits) in
    let s_is : s ≡ t.response = first_of s t.response [] t.rest (sym answers ∙ t.next_is) in
    let none_left : t.rest ≡ [] = last_of s t.response t.rest (sym answers ∙ t.next_is) in
    let on = goes (same_answer a r t.request s t.response r_is s_is ∙ t.goes) in
    let client : after_answer a.client r s ≡ after_answer a.client t.request t.response = ap (λ (x : Request). after_answer a.client x s) r_is ∙ ap (λ (x : List ℕ). after_answer a.client t.request x) s_is in
    subst Stage (sym t.rest_is) (Idle
    (ends_read a.client t.request (packet_in (phase_of t.request) a.client.maximum t.response) (subst Settles (sym t.goes) tt))
    asks none_left
    (subst (λ (c : Asking). Agrees c.put c.single a.server.course) client on.0)
    on.1)
takes_stage a b (Idle waits asks answers agrees none) t = absurd (no_first t.response t.rest (sym answers ∙ t.next_is))
takes_stage a b (Streams final progress waits more queued answers course none) t = absurd (no_first t.response t.rest (sym answers ∙ t.next_is))
takes_stage a b (Stopped final s waits more answers over refuses) t =
    absurd (refused_no_go _ _ (same_answer a (streaming final) t.request s t.response (same_request (streaming final) t.request (sym waits ∙ t.waits)) (first_of s t.response [] t.rest (sym answers ∙ t.next_is))) (stream_is_refused final a.client.maximum s refuses) t.goes)
takes_stage a b (Mute waiting asks answers) t = absurd (no_first t.response t.rest (sym answers ∙ t.next_is))
takes_stage a b (Quits final over waits answers passed) t = absurd (no_first t.response t.rest (sym answers ∙ t.next_is))
takes_stage a b (Parts under_way ahead over waits answers asks row) t = absurd (no_first t.response t.rest (sym answers ∙ t.next_is))
takes_stage a b (Parted under_way s over waits asks answers answer) t =
    subst Stage (sym t.rest_is) (Quits true over
    (ends_read a.client t.request (packet_in (phase_of t.request) a.client.maximum t.response) (subst Settles (sym t.goes) tt))
    (last_of s t.response t.rest (sym answers ∙ t.next_is)) (inl asks))
takes_stage a b (Deaf under_way s others over waits answers refuses) t =
    absurd (refused_no_go _ _ (same_answer a (leave_request under_way) t.request s t.response (same_request (leave_request under_way) t.request (sym waits ∙ t.waits)) (first_of s t.response others t.rest (sym answers ∙ t.next_is)))
    (leave_refused under_way a.client.maximum s refuses) t.goes)

-- ---- its push ends with it

pub ends_put : (request : Request) (answer : Answered) → EndsPush request answer → is_put_request request ≡ true
ends_put request Go ends = absurd ends
ends_put request Done ends = ends
ends_put request (Refused code) ends = ends
ends_put request (Bad refusal) ends = absurd ends
ends_put request Srmp ends = absurd ends

ended_by : (a b : Pair) (final : Bool) (t : Ends a b) → t.rest ≡ [] → Over a.server.maximum final a.server.course a.requests → Stage b
ended_by a b final t none_left over =
    subst Stage (sym t.rest_is) (Quits final refl
    (ends_read a.client t.request (packet_in (phase_of t.request) a.client.maximum t.response) (ends_settles t.request (answer_to a.client.maximum t.request t.response) t.ends)) none_left over)

never_ends : (request : Request) (answer : Answered) → is_put_request request ≡ false → EndsPush request answer → ⊥
never_ends request answer no_put ends = absurd (let never : false ≡ true = sym no_put ∙ ends_put request answer ends in cc)

leave_never_ends : (a b : Pair) (under_way : Bool) → a.client.awaited ≡ Some (leave_request under_way) → Ends a b → ⊥
leave_never_ends a b under_way waits t =
    never_ends t.request (answer_to a.client.maximum t.request t.response) (ap is_put_request (sym (same_request (leave_request under_way) t.request (sym waits ∙ t.waits))) ∙ leave_no_put under_way) t.ends

pub ends_stage : (a b : Pair) → Stage a → Ends a b → Stage b
ends_stage a b (Asked r packet waits asks answers suits none) t = absurd (no_first t.response t.rest (sym answers ∙ t.next_is))
ends_stage a b (Replied r s waits waiting asks answers means goes) t = ended_by a b true t (last_of s t.response t.rest (sym answers ∙ t.next_is)) (inl asks)
ends_stage a b (Idle waits asks answers agrees none) t = absurd (no_first t.response t.rest (sym answers ∙ t.next_is))
ends_stage a b (Streams final progress waits more queued answers course none) t = absurd (no_first t.response t.rest (sym answers ∙ t.next_is))
ends_stage a b (Stopped final s waits more answers over refuses) t = ended_by a b final t (last_of s t.response t.rest (sym answers ∙ t.next_is)) over
ends_stage a b (Mute waiting asks answers) t = absurd (no_first t.response t.rest (sym answers ∙ t.next_is))
ends_stage a b (Quits final over waits answers passed) t = absurd (no_first t.response t.rest (sym answers ∙ t.next_is))
ends_stage a b (Parts under_way ahead over waits answers asks row) t = absurd (no_first t.response t.rest (sym answers ∙ t.next_is))
ends_stage a b (Parted under_way s over waits asks answers answer) t = absurd (leave_never_ends a b under_way waits t)
ends_stage a b (Deaf under_way s others over waits answers refuses) t = absurd (leave_never_ends a b under_way waits t)

-- ---- what holds at every stage

taken_base : (a : Pair) (ended : Bool) (request : Request) (response : List ℕ) (rest : List (List ℕ)) → Base a → a.responses ≡ response ∷ rest → a.client.awaited ≡ Some request → (answer_to a.client.maximum request response ≡ Go) ⊎ (is_put_request request ≡ true)
    → Base (record a { client = after_answer a.client request response; ended = ended; responses = rest })
taken_base a ended request response rest base next waits goes =
    let stays = stays_read a.client request (packet_in (phase_of request) a.client.maximum response) in
    let stated = subst (AllByRecursion (States a.server.maximum)) next base.stated in
    let bounds = bounded_read a.client request a.server.maximum (packet_in (phase_of request) a.client.maximum response) goes base.limit_least
    (elim base.bounded [ inl connects ↦ inl (same_request request Connect (sym waits ∙ connects)) | inr bounded ↦ inr bounded ])
    (response_states a.client request a.server.maximum response stated.0) in
    record {
      stands = base.stands;
      client_least = subst (λ (n : ℕ). 255 ≤ n) (sym stays.maximum) base.client_least;
      server_least = base.server_least;
      server_most = base.server_most;
      stated = stated.1;
      limit_least = bounds.0;
      bounded = inr bounds.1;
    }

pub takes_base : (a b : Pair) → Base a → Takes a b → Base b
takes_base a b base t = subst Base (sym t.rest_is) (taken_base a a.ended t.request t.response t.rest base t.next_is t.waits (inl t.goes))

pub ends_base : (a b : Pair) → Base a → Ends a b → Base b
ends_base a b base t = subst Base (sym t.rest_is) (taken_base a true t.request t.response t.rest base t.next_is t.waits (inr (ends_put t.request (answer_to a.client.maximum t.request t.response) t.ends)))
