-- A client sends nothing while a response is due.
use Rattle.std.proofs.Common.{◌≡◌, ℕ, ◌&&◌, ◌||◌, not, Bool, true, false, List, [], ◌∷◌, Option, Some, None, refl, sym, ap, subst, ◌∙◌, if◌then◌else◌}
use Rattle.std.proofs.lemmas.Bool.{cond-false}
use Rattle.link_talk.specs.bt_base.specs.declared.settings.Transport.{Transport}
use Rattle.link_talk.specs.bt_base.specs.declared.settings.Transport.TheVariants.{L2cap, Rfcomm}
use Rattle.link_talk.specs.push_terms.specs.declared.outcome.Outcome.{Outcome}
use Rattle.link_talk.specs.push_terms.specs.declared.outcome.Outcome.TheVariants as outcomes
use Rattle.push_model.specs.rfcomm_model.specs.Saying.{Said, next}
use Rattle.push_model.specs.obex_session.specs.NextPut.{is_waiting}
use Rattle.push_model.specs.declared.course.Stage.{Stage}
use Rattle.push_model.specs.Client.{Client, ends, ends_by, may_cancel, with_object}
use Rattle.push_model.specs.Events as events
use Rattle.push_model.specs.Events.{search_psm}
use Rattle.push_model.specs.Laws.{Deed, Hears, Asks, Finishes, Cancels, done}
use Rattle.push_model.specs.Responding.{is_object}
use Rattle.push_model.specs.Steps as steps
use Rattle.push_model.specs.Steps.{Part, Stepped, may_ask, next_ask, takes_some, filled, rests, steps_at, steps_object, asks_direct}
use Rattle.push_laws.specs.Exchanges.{is_response, due_with, due_after, SendInTurn, SendsBehindResponses}
use Rattle.push_laws.specs.Sending.{sdus_of, packets_behind, packets_muxed, packets_through, packets_by, packet_asked}
use Rattle.push_laws.proofs.Finals.{waits_talk}
use Rattle.push_laws.proofs.Sending.{filled_talk}
use Rattle.push_laws.proofs.Talks.{Talk, object_of, Unheard, news_quiet}

-- ---- news but a response leave the request that waits

abbrev IsWaiting : Talk → Type 0
IsWaiting t = is_waiting t.session.awaited ≡ true

abbrev Waits : Client → Type 0
Waits client = is_waiting client.session.awaited ≡ true

unheard_waits : Unheard IsWaiting
unheard_waits = record { ends = λ outcome t free none w. w; opens = λ limit t least most w. w }

-- news, and whether a response is due behind them
news_by : (response due : Bool) (news : events.News) (client : Client) → is_response news client ≡ response → (due ≡ true → Waits client) → (if response then false else due) ≡ true → Waits (events.hears_news news client)
news_by true due news client is w e = absurd (let f : false ≡ true = e in cc)
news_by false due news client is w e = news_quiet IsWaiting unheard_waits news client is (w e)

news_wait : (news : events.News) (due : Bool) (client : Client) → (due ≡ true → Waits client) → (if is_response news client then false else due) ≡ true → Waits (events.hears_news news client)
news_wait news due client w e = news_by (is_response news client) due news client refl w e

ends_waits : (cause : Option Outcome) (o : Outcome) (client : Client) → Waits client → Waits (ends_by cause o client)
ends_waits None o client w = w
ends_waits (Some earlier) o client w = w

either : (test : Bool) (a b : Client) → Waits a → Waits b → Waits (if test then a else b)
either true a b x y = x
either false a b x y = y

-- ---- nothing is sent while it waits

and_false : (a : Bool) → (a && false) ≡ false
and_false true = refl
and_false false = refl

may_not : (client : Client) → Waits client → may_ask client ≡ false
may_not client w = ap (λ (b : Bool). not client.going && not b) w ∙ and_false (not client.going)

NoSdu : Stepped → Type 0
NoSdu s = sdus_of s.step ≡ []

step_either : (test : Bool) (a b : Stepped) → NoSdu a → NoSdu b → NoSdu (if test then a else b)
step_either true a b x y = x
step_either false a b x y = y

direct_quiet : (t : Transport) (client : Client) (parts : List Part) → t ≡ L2cap → Waits client → NoSdu (steps_object t client parts)
unfolding NoSdu
direct_quiet L2cap client parts is w = ap (λ (s : Stepped). sdus_of s.step) (cond-false (may_ask client) (asks_direct (next_ask client) (record client { rest = [] }) parts) (rests client parts) (may_not client w))
direct_quiet Rfcomm client parts is w = absurd cc

steps_quiet : (client : Client) (parts : List Part) → client.transport ≡ L2cap → is_object client.stage ≡ true → Waits client → sdus_of (steps.steps client parts).step ≡ []
unfolding NoSdu
steps_quiet client parts t works w =
    step_either client.failed (record { client = client; step = steps.NoMemory; left = parts }) (if client.given then rests client parts else steps_at client.stage client parts) refl
    (step_either client.given (rests client parts) (steps_at client.stage client parts) refl
    (subst (λ (stage : Stage). sdus_of (steps_at stage client parts).step ≡ []) (sym (object_of client.stage works)) (direct_quiet client.transport client parts t w)))

behind_quiet : (said : Option Said) (full : Client) (parts : List Part) → Waits full → packets_behind said full parts ≡ []
behind_quiet None full parts w =
    cond-false (may_ask full && takes_some full.mux) (packet_asked (next_ask full) (record full { frame = None; rest = [] }) parts) [] (ap (λ (b : Bool). b && takes_some full.mux) (may_not full w))
behind_quiet (Some said) full parts w = refl

muxed_quiet : (client : Client) (parts : List Part) → Waits client → packets_muxed client parts ≡ []
muxed_quiet client parts w = let full = filled client in behind_quiet (next full.mux) full parts (filled_talk (λ t. is_waiting t.session.awaited ≡ true) client w)

quiet_if : (test : Bool) (packets : List (List ℕ)) → packets ≡ [] → (if test then [] else packets) ≡ []
quiet_if true packets e = refl
quiet_if false packets e = e

through_quiet : (t : Transport) (client : Client) (parts : List Part) → t ≡ client.transport → is_object client.stage ≡ true → Waits client → packets_through t client parts ≡ []
through_quiet L2cap client parts t works w = steps_quiet client parts (sym t) works w
through_quiet Rfcomm client parts t works w = quiet_if (client.failed || client.given) (packets_muxed client parts) (muxed_quiet client parts w)

object_quiet : (object : Bool) (client : Client) (parts : List Part) → is_object client.stage ≡ object → Waits client → (if object then packets_through client.transport client parts else []) ≡ []
object_quiet true client parts is w = through_quiet client.transport client parts refl is w
object_quiet false client parts is w = refl

none_sent : (deed : Deed) (client : Client) → Waits client → packets_by deed client ≡ []
none_sent (Hears news) client w = refl
none_sent (Asks parts) client w = object_quiet (is_object client.stage) client parts refl w
none_sent Finishes client w = refl
none_sent Cancels client w = refl

-- ---- the law

due_waits : (packets : List (List ℕ)) (due : Bool) (client : Client) → (due ≡ true → Waits client) → due_with packets client due ≡ true → Waits client
due_waits [] due client w e = w e
due_waits (packet ∷ packets) due client w e = e

deed_waits : (deed : Deed) (due : Bool) (client : Client) → (due ≡ true → Waits client) → due_after deed client due ≡ true → Waits (done deed client)
deed_waits (Hears news) due client w e = news_wait news due client w e
deed_waits (Asks parts) due client w e =
    due_waits (packets_by (Asks parts) client) due (done (Asks parts) client) (λ still. waits_talk (λ t. is_waiting t.session.awaited ≡ true) client parts (w still) (w still)) e
deed_waits Finishes due client w e = w e
deed_waits Cancels due client w e = either (may_cancel client) (ends outcomes.Cancelled client) client (ends_waits client.cause outcomes.Cancelled client (w e)) (w e)

all_in_turn : (deeds : List Deed) (due : Bool) (client : Client) → (due ≡ true → Waits client) → SendInTurn deeds client due
all_in_turn [] due client w = tt
all_in_turn (deed ∷ deeds) due client w = (λ e. none_sent deed client (w e), all_in_turn deeds (due_after deed client due) (done deed client) (deed_waits deed due client w))

never : false ≡ true → ⊥
never e = cc

pub sends-behind_responses : SendsBehindResponses
sends-behind_responses client name size deeds = all_in_turn deeds false (with_object name size client) (λ e. absurd (never e))
