-- The session of a client behind a response, by what the response says.
use Rattle.std.proofs.Common.{◌≡◌, ℕ, ◌≤◌, min, Bool, true, false, eqb, List, Option, Some, None, Result, Ok, Err, refl, ap, arith, if◌then◌else◌}
use Rattle.std.specs.Prelude.{slice_index}
use Rattle.push_model.specs.obex_headers.specs.declared.packet.Phase.TheVariants as phase
use Rattle.push_model.specs.obex_headers.specs.Packets.{PlainPacket, maximum_of}
use Rattle.push_model.specs.obex_headers.specs.Reading.{◌>>=◌, headers_in, front_at, packet_in}
use Rattle.push_model.specs.obex_headers.proofs.HeaderLaws.{bind_ok, ok_is}
use Rattle.push_model.specs.obex_headers.proofs.PacketLaws.{front_takes}
use Rattle.push_model.specs.obex_session.specs.declared.asking.Request.{Request}
use Rattle.push_model.specs.obex_session.specs.declared.asking.Request.TheVariants as requests
use Rattle.push_model.specs.obex_session.specs.declared.client.Answered.{Answered}
use Rattle.push_model.specs.obex_session.specs.declared.client.Answered.TheVariants.{Go, Done, Refused, Bad, Srmp}
use Rattle.push_model.specs.obex_session.specs.Asking.{Asking, phase_of, awaited_code, success_of, answer_read, limit_by, single_by, after_read}
use Rattle.push_model.specs.obex_session.specs.Marks.{marks_of}
use Rattle.push_model.specs.obex_session.specs.NextPut.{put_request}
use Rattle.push_model.specs.obex_session.specs.Views.{asks_connect, answer_at, after_at}

of_option : {A : Type 0} → (x : Option A) (P : Option A → Type 0) → P None → ((a : A) → P (Some a)) → P x
of_option None P none some = none
of_option (Some a) P none some = some a

of_result : {A E : Type 0} → (x : Result A E) (P : Result A E → Type 0) → ((a : A) → x ≡ Ok a → P (Ok a)) → ((e : E) → P (Err e)) → P x
of_result (Ok a) P ok err = ok a refl
of_result (Err e) P ok err = err e

abbrev option_or : {A : Type 0} → A → Option A → A
option_or other None = other
option_or other (Some a) = a

-- ---- what is left

pub record After (session heard : Asking) : Type 0 where
  pub maximum : heard.maximum ≡ session.maximum
  pub wanted : heard.wanted ≡ session.wanted
  pub none : session.put ≡ None → heard.put ≡ None

pub same_session : (session : Asking) → After session session
same_session session = record { maximum = refl; wanted = refl; none = λ e. e }

after_tests : (parameters matches : Bool) (session going ended : Asking) → After session going → After session ended → After session (if parameters then session else if matches then going else ended)
after_tests true matches session going ended x y = same_session session
after_tests false true session going ended x y = x
after_tests false false session going ended x y = y

pub after_answered : (session : Asking) (octets : List ℕ) → After session (after_at session.awaited session octets)
after_answered session octets =
    of_option session.awaited (λ a. After session (after_at a session octets)) (same_session session)
    (λ r. of_result (packet_in (phase_of r) session.maximum octets) (λ read. After session (after_read session r read))
    (λ packet e. after_tests (marks_of packet.headers).parameters (eqb packet.code (awaited_code r)) session
    (record session { limit = limit_by r session.limit packet.extra; single = single_by r session.wanted session.single (marks_of packet.headers); awaited = None }) (record session { put = None; single = false; awaited = None })
    (record { maximum = refl; wanted = refl; none = λ n. n }) (record { maximum = refl; wanted = refl; none = λ n. refl }))
    (λ refusal. same_session session))

-- ---- where the client goes on

pub record Goes (session heard : Asking) : Type 0 where
  pub put : heard.put ≡ session.put
  pub free : heard.awaited ≡ None

says_go : (refused : ℕ) (parameters matches : Bool) (success : Answered) → (if parameters then Srmp else if matches then success else Refused refused) ≡ Go → (parameters ≡ false) × (matches ≡ true) × (success ≡ Go)
says_go refused true matches success e = absurd (let f : Srmp ≡ Go = e in cc)
says_go refused false true success e = (refl, refl, e)
says_go refused false false success e = absurd (let f : Refused refused ≡ Go = e in cc)

goes_tests : (parameters matches : Bool) (session going ended : Asking) → parameters ≡ false → matches ≡ true → Goes session going → Goes session (if parameters then session else if matches then going else ended)
goes_tests true matches session going ended p m g = absurd (let f : true ≡ false = p in cc)
goes_tests false true session going ended p m g = g
goes_tests false false session going ended p m g = absurd (let f : false ≡ true = m in cc)

inner : (a b : Answered) → Some a ≡ Some b → a ≡ b
inner a b e = cc

pub goes_answered : (session : Asking) (octets : List ℕ) → answer_at session.awaited session octets ≡ Some Go → Goes session (after_at session.awaited session octets)
goes_answered session octets =
    of_option session.awaited (λ a. answer_at a session octets ≡ Some Go → Goes session (after_at a session octets)) (λ e. absurd (let f : None ≡ Some Go = e in cc))
    (λ r e. of_result (packet_in (phase_of r) session.maximum octets) (λ read. answer_read r read ≡ Go → Goes session (after_read session r read))
    (λ packet is go. let says = says_go packet.code (marks_of packet.headers).parameters (eqb packet.code (awaited_code r)) (success_of r) go in
    goes_tests (marks_of packet.headers).parameters (eqb packet.code (awaited_code r)) session
    (record session { limit = limit_by r session.limit packet.extra; single = single_by r session.wanted session.single (marks_of packet.headers); awaited = None }) (record session { put = None; single = false; awaited = None })
    says.0 says.1 (record { put = refl; free = refl }))
    (λ refusal go. absurd (let f : Bad refusal ≡ Go = go in cc)) (inner (answer_read r (packet_in (phase_of r) session.maximum octets)) Go e))

-- ---- where it is refused

refused_tests : (own code : ℕ) (parameters matches : Bool) (success : Answered) (session going ended : Asking) → (success ≡ Refused code → ⊥) → ended.put ≡ None → (if parameters then Srmp else if matches then success else Refused own) ≡ Refused code
    → (if parameters then session else if matches then going else ended).put ≡ None
refused_tests own code true matches success session going ended other unput e = absurd (let f : Srmp ≡ Refused code = e in cc)
refused_tests own code false true success session going ended other unput e = absurd (other e)
refused_tests own code false false success session going ended other unput e = unput

not_refused : (request : Request) (code : ℕ) → success_of request ≡ Refused code → ⊥
not_refused requests.Connect code e = let f : Go ≡ Refused code = e in absurd cc
not_refused requests.FirstPut code e = let f : Go ≡ Refused code = e in absurd cc
not_refused requests.Put code e = let f : Go ≡ Refused code = e in absurd cc
not_refused requests.Stream code e = let f : Go ≡ Refused code = e in absurd cc
not_refused requests.FinalPut code e = let f : Done ≡ Refused code = e in absurd cc
not_refused requests.Abort code e = let f : Go ≡ Refused code = e in absurd cc
not_refused requests.Disconnect code e = let f : Go ≡ Refused code = e in absurd cc

-- no object is under way then
pub refused_answered : (session : Asking) (octets : List ℕ) (code : ℕ) → answer_at session.awaited session octets ≡ Some (Refused code) → (after_at session.awaited session octets).put ≡ None
refused_answered session octets code =
    of_option session.awaited (λ a. answer_at a session octets ≡ Some (Refused code) → (after_at a session octets).put ≡ None) (λ e. absurd (let f : None ≡ Some (Refused code) = e in cc))
    (λ r e. of_result (packet_in (phase_of r) session.maximum octets) (λ read. answer_read r read ≡ Refused code → (after_read session r read).put ≡ None)
    (λ packet is refused. refused_tests packet.code code (marks_of packet.headers).parameters (eqb packet.code (awaited_code r)) (success_of r) session
    (record session { limit = limit_by r session.limit packet.extra; single = single_by r session.wanted session.single (marks_of packet.headers); awaited = None }) (record session { put = None; single = false; awaited = None })
    (not_refused r code) refl refused)
    (λ refusal refused. absurd (let f : Bad refusal ≡ Refused code = refused in cc)) (inner (answer_read r (packet_in (phase_of r) session.maximum octets)) (Refused code) e))

-- behind the final PUT no response lets it go on
pub final_ends : (session : Asking) (octets : List ℕ) → answer_at (Some (put_request false true false)) session octets ≡ Some Go → ⊥
final_ends session octets e =
    of_result (packet_in (phase_of (put_request false true false)) session.maximum octets) (λ read. answer_read (put_request false true false) read ≡ Go → ⊥)
    (λ packet is go. let says = says_go packet.code (marks_of packet.headers).parameters (eqb packet.code 0xA0) Done go in let f : Done ≡ Go = says.2 in absurd cc)
    (λ refusal go. absurd (let f : Bad refusal ≡ Go = go in cc)) (inner (answer_read (put_request false true false) (packet_in (phase_of (put_request false true false)) session.maximum octets)) Go e)

-- ---- where it is done

says_done : (refused : ℕ) (parameters matches : Bool) (success : Answered) → (success ≡ Done → ⊥) → (if parameters then Srmp else if matches then success else Refused refused) ≡ Done → ⊥
says_done refused true matches success other e = let f : Srmp ≡ Done = e in absurd cc
says_done refused false true success other e = other e
says_done refused false false success other e = let f : Refused refused ≡ Done = e in absurd cc

put_goes : (first single : Bool) → success_of (put_request first false single) ≡ Done → ⊥
put_goes true single e = let f : Go ≡ Done = e in absurd cc
put_goes false true e = let f : Go ≡ Done = e in absurd cc
put_goes false false e = let f : Go ≡ Done = e in absurd cc

-- no response to CONNECT, or to a PUT that is not the final one, says that it is
pub connect_not_done : (session : Asking) (octets : List ℕ) → answer_at (asks_connect session).awaited session octets ≡ Some Done → ⊥
connect_not_done session octets e =
    of_result (packet_in phase.ConnectResponse session.maximum octets) (λ read. answer_read (option_or (put_request false true false) (asks_connect session).awaited) read ≡ Done → ⊥)
    (λ packet is done. says_done packet.code (marks_of packet.headers).parameters (eqb packet.code 0xA0) Go (λ f. absurd cc) done)
    (λ refusal done. let f : Bad refusal ≡ Done = done in absurd cc)
    (inner (answer_read (option_or (put_request false true false) (asks_connect session).awaited) (packet_in phase.ConnectResponse session.maximum octets)) Done e)

pub put_not_done : (first single : Bool) (session : Asking) (octets : List ℕ) → answer_at (Some (put_request first false single)) session octets ≡ Some Done → ⊥
put_not_done first single session octets e =
    of_result (packet_in (phase_of (put_request first false single)) session.maximum octets) (λ read. answer_read (put_request first false single) read ≡ Done → ⊥)
    (λ packet is done. says_done packet.code (marks_of packet.headers).parameters (eqb packet.code (awaited_code (put_request first false single))) (success_of (put_request first false single)) (put_goes first single) done)
    (λ refusal done. let f : Bad refusal ≡ Done = done in absurd cc)
    (inner (answer_read (put_request first false single) (packet_in (phase_of (put_request first false single)) session.maximum octets)) Done e)

-- ---- the limit of what is sent stays wide enough

-- a response to CONNECT that is read states 255 octets at least
connect_states : (maximum : ℕ) (octets : List ℕ) (packet : PlainPacket) → packet_in phase.ConnectResponse maximum octets ≡ Ok packet → 255 ≤ maximum_of packet.extra
unfolding packet_in
connect_states maximum octets packet e =
    let a = bind_ok (front_at phase.ConnectResponse maximum octets) (λ front. headers_in front.1 >>= λ headers. Ok (let p : PlainPacket = record { code = slice_index octets 0; extra = front.0; headers = headers } in p)) packet e in
    let b = bind_ok (headers_in a.0.1) (λ headers. Ok (let p : PlainPacket = record { code = slice_index octets 0; extra = a.0.0; headers = headers } in p)) packet a.2 in
    let made : PlainPacket = record { code = slice_index octets 0; extra = a.0.0; headers = b.0 } in
    let least = (front_takes phase.ConnectResponse maximum octets a.0 a.1).accepts.maximum refl in
    let same = ap (λ (p : PlainPacket). maximum_of p.extra) (ok_is made packet b.2) in
    omega (arith, least, same)

wide_tests : (parameters matches : Bool) (session going ended : Asking) → 255 ≤ session.limit → 255 ≤ going.limit → 255 ≤ ended.limit → 255 ≤ (if parameters then session else if matches then going else ended).limit
wide_tests true matches session going ended x y z = x
wide_tests false true session going ended x y z = y
wide_tests false false session going ended x y z = z

both_wide : (a b : ℕ) → 255 ≤ a → 255 ≤ b → 255 ≤ min a b
both_wide a b x y = omega (arith, x, y)

pub connect_wide : (session : Asking) (octets : List ℕ) → 255 ≤ session.limit → 255 ≤ (after_at (asks_connect session).awaited session octets).limit
connect_wide session octets least =
    of_result (packet_in phase.ConnectResponse session.maximum octets) (λ read. 255 ≤ (after_read session (option_or (put_request false true false) (asks_connect session).awaited) read).limit)
    (λ packet e. wide_tests (marks_of packet.headers).parameters (eqb packet.code 0xA0) session (record session { limit = min session.limit (maximum_of packet.extra); awaited = None })
    (record session { put = None; single = false; awaited = None }) least (both_wide session.limit (maximum_of packet.extra) least (connect_states session.maximum octets packet e)) least)
    (λ refusal. least)

same_limit : (first single : Bool) (limit : ℕ) (extra : List ℕ) → limit_by (put_request first false single) limit extra ≡ limit
same_limit true single limit extra = refl
same_limit false true limit extra = refl
same_limit false false limit extra = refl

pub put_wide : (first single : Bool) (session : Asking) (octets : List ℕ) → 255 ≤ session.limit → 255 ≤ (after_at (Some (put_request first false single)) session octets).limit
put_wide first single session octets least =
    of_result (packet_in (phase_of (put_request first false single)) session.maximum octets) (λ read. 255 ≤ (after_read session (put_request first false single) read).limit)
    (λ packet e. let same = same_limit first single session.limit packet.extra in wide_tests (marks_of packet.headers).parameters (eqb packet.code (awaited_code (put_request first false single))) session
    (record session { limit = limit_by (put_request first false single) session.limit packet.extra; single = single_by (put_request first false single) session.wanted session.single (marks_of packet.headers); awaited = None })
    (record session { put = None; single = false; awaited = None }) least (omega (arith, same, least)) least)
    (λ refusal. least)
