-- The longest packet that the session over RFCOMM takes stays what it is.
use Rattle.std.proofs.Common.{◌≡◌, ℕ, ◌≤◌, Bool, true, false, ◌||◌, List, [], ◌∷◌, ◌++◌, Option, Result, refl, sym, ap, subst, ◌∙◌, if◌then◌else◌, is_err}
use Rattle.bt_base.specs.Objects.{Contents}
use Rattle.bt_base.specs.declared.no_memory.NoMemory.{NoMemory}
use Rattle.bt_base.specs.declared.settings.Transport.{Transport}
use Rattle.bt_base.specs.declared.settings.Transport.TheVariants.{L2cap, Rfcomm}
use Rattle.obex_session.specs.Counting.{Counts}
use Rattle.obex_session.specs.Past.{Serving}
use Rattle.push_model.specs.Sessions.{Sessions, Gift, Parted, Heard, session_of, other_of, with_session, is_naming, lets_go, answers_to, hears_after, hears}
use Rattle.push_model.specs.Service.{Service, Served, response_over, after_heard, after_parted, is_ignored, hears_packet, parts}
use Rattle.push_model.specs.Listening.{Listener, Heeded, heeded_by, heeds, lets_go_by}
use Rattle.push_profile.specs.Reactions.{given, Comes, ServiceHears, ServiceParts}
use Rattle.push_profile.specs.Hearing.{heeded, longest}

with_longest : (t : Transport) (x : Serving) (s : Sessions) → x.maximum ≡ (session_of t s).maximum → (with_session t x s).carried.maximum ≡ s.carried.maximum
with_longest L2cap x s e = refl
with_longest Rfcomm x s e = e

go_longest : (t : Transport) (s : Sessions) (gift : Gift) → (lets_go t s gift).sessions.carried.maximum ≡ s.carried.maximum
go_longest L2cap s gift = refl
go_longest Rfcomm s gift = refl

answer_longest : (t : Transport) (packet : List ℕ) (s : Sessions) (gift : Gift) → (answers_to t packet s gift).sessions.carried.maximum ≡ s.carried.maximum
answer_longest L2cap packet s gift = refl
answer_longest Rfcomm packet s gift = refl

after_longest : (t : Transport) (packet : List ℕ) (s : Sessions) (short : Bool) (gift : Gift) → (hears_after t packet (record { sessions = s; short = short; gift = gift })).sessions.carried.maximum ≡ s.carried.maximum
after_longest t packet s true gift = refl
after_longest t packet s false gift = answer_longest t packet s gift

named_longest : (t : Transport) (packet : List ℕ) (s : Sessions) (gift : Gift) (naming : Bool)
    → (if naming then hears_after t packet (lets_go (other_of t) s gift) else answers_to t packet s gift).sessions.carried.maximum ≡ s.carried.maximum
named_longest t packet s gift true = let p = lets_go (other_of t) s gift in after_longest t packet p.sessions p.short p.gift ∙ go_longest (other_of t) s gift
named_longest t packet s gift false = answer_longest t packet s gift

response_stays : (t : Transport) (response : List ℕ) (s : Service) → (response_over t response s).sessions ≡ s.sessions
response_stays t [] s = refl
response_stays L2cap (octet ∷ octets) s = refl
response_stays Rfcomm (octet ∷ octets) s = refl

ignored_longest : (t : Transport) (packet : List ℕ) (s : Service) (gift : Gift) (ignored : Bool)
    → (if ignored then after_parted s (lets_go t s.sessions gift) else after_heard t s (hears t packet s.sessions gift)).service.sessions.carried.maximum ≡ s.sessions.carried.maximum
ignored_longest t packet s gift true = go_longest t s.sessions gift
ignored_longest t packet s gift false =
    let heard = hears t packet s.sessions gift in
    ap (λ (x : Sessions). x.carried.maximum) (response_stays t heard.response (record s { sessions = heard.sessions; failed = s.failed || heard.short }))
    ∙ named_longest t packet s.sessions gift (is_naming t packet s.sessions)

heeds_longest : (t : Transport) (packet : List ℕ) (l : Listener) (gift : Gift) → longest (heeds t packet l gift).listener ≡ longest l
heeds_longest t packet l gift = ignored_longest t packet l.service gift (is_ignored t packet l.service)

-- ---- calls

pub hear_longest : (t : Transport) (packet : List ℕ) (old new : Listener) (c c' : Option Contents) (s s' : Counts) (lacks : Bool) → Comes (heeds t packet old) (heeded new) c c' s s' lacks → longest new ≡ longest old
hear_longest t packet old new c c' s s' lacks comes =
    ap (λ (h : Heeded). longest h.listener) (sym (comes.comes [])) ∙ heeds_longest t packet old (given c (comes.used ++ []))

pub part_longest : (t : Transport) (old new : Listener) (c c' : Option Contents) (s s' : Counts) (lacks : Bool) → Comes (lets_go_by t old) (heeded new) c c' s s' lacks → longest new ≡ longest old
part_longest t old new c c' s s' lacks comes =
    ap (λ (h : Heeded). longest h.listener) (sym (comes.comes [])) ∙ go_longest t old.service.sessions (given c (comes.used ++ []))

pub hear_comes : (t : Transport) (packet : List ℕ) (old : Listener) (new : Service) (c c' : Option Contents) (s s' : Counts) (result : Result (Unit {0}) NoMemory) → ServiceHears t old.service new packet c c' s s' result
    → Comes (heeds t packet old) (heeded (record old { service = new })) c c' s s' (is_err result)
hear_comes t packet old new c c' s s' result hears = record { used = hears.used; comes = λ rest. ap (heeded_by old) (hears.heard rest); short = hears.short; counted = hears.counted }

pub part_comes : (t : Transport) (old : Listener) (new : Service) (c c' : Option Contents) (s s' : Counts) (result : Result (Unit {0}) NoMemory) → ServiceParts t old.service new c c' s s' result
    → Comes (lets_go_by t old) (heeded (record old { service = new })) c c' s s' (is_err result)
part_comes t old new c c' s s' result parted = record { used = parted.used; comes = λ rest. ap (heeded_by old) (parted.parted rest); short = parted.short; counted = parted.counted }
