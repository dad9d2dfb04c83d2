-- What a client sends with one step over L2CAP, and what it awaits then.
use Rattle.std.proofs.Common.{◌≡◌, ℕ, ◌==◌, Bool, true, false, List, [], ◌∷◌, Option, Some, None, Result, Ok, Err, refl, sym, ap, subst, ◌∙◌, arith, if◌then◌else◌}
use Rattle.std.proofs.lemmas.Bool.{eqb-true}
use Rattle.link_talk.specs.bt_base.specs.Objects.{Object}
use Rattle.link_talk.specs.bt_base.specs.declared.ports.PortFault.{PortFault}
use Rattle.link_talk.specs.bt_base.specs.declared.ports.PortFault.TheVariants as fault
use Rattle.link_talk.specs.bt_base.specs.declared.settings.Transport.{Transport}
use Rattle.link_talk.specs.bt_base.specs.declared.settings.Transport.TheVariants.{L2cap}
use Rattle.link_talk.specs.push_terms.specs.declared.outcome.Outcome.{Outcome}
use Rattle.link_talk.specs.push_terms.specs.declared.outcome.Outcome.TheVariants as outcomes
use Rattle.push_model.specs.obex_session.specs.NextPut.{after_put, is_waiting}
use Rattle.push_model.specs.obex_session.specs.Views.{asks_connect, asks_abort, asks_disconnect}
use Rattle.push_model.specs.declared.course.Contact.TheVariants.{Unmet, Met, Left}
use Rattle.push_model.specs.declared.course.Stage.{Stage}
use Rattle.push_model.specs.Client.{Client, ends, ends_by}
use Rattle.push_model.specs.Laws.{Asks, done}
use Rattle.push_model.specs.Responding.{is_object}
use Rattle.push_model.specs.Steps as steps
use Rattle.push_model.specs.Steps.{Part, Stepped, Made, Ask, Connect, Put, Abort, Disconnect, Close, Nothing, next_ask, may_ask, put_count, is_last_put, put_octets, connect_octets, abort_octets, disconnect_octets, puts_part, puts_from, puts, leaves_by, failing, puts_or_leaves, requests, sends_direct, asks_direct, steps_direct, steps_object, steps_at, rests}
use Rattle.push_laws.specs.Sending.{packet_of, packets_through, packets_by, sdus_of, Answers}
use Rattle.push_laws.proofs.Talks.{Talk, talk_of, object_of}
use Rattle.push_laws.proofs.Asking.{Told, whence}
use Rattle.push_laws.proofs.Sending.{at_talk, still_of}

-- nothing is sent, and all stays that is awaited; or one request is, where none waits
pub data Sends (content : Option (List Object)) (client : Client) (packets : List (List ℕ)) (after : Talk) : Type 0 where
  Rests : packets ≡ [] → after.session ≡ client.session → after.contact ≡ client.contact → after.transport ≡ client.transport → Sends content client packets after
  Connects : is_waiting client.session.awaited ≡ false → packets ≡ connect_octets client.session ∷ [] → after.session ≡ asks_connect client.session → after.contact ≡ Unmet → after.transport ≡ client.transport → Sends content client packets after
  Puts : (part : List ℕ) → is_waiting client.session.awaited ≡ false → client.contact ≡ Met → client.cause ≡ None → Told content client part → packets ≡ put_octets client part ∷ [] → after.session ≡ after_put client.session (is_last_put client) (put_count client)
      → after.contact ≡ Met → after.transport ≡ client.transport → Sends content client packets after
  Aborts : is_waiting client.session.awaited ≡ false → client.contact ≡ Met → packets ≡ abort_octets ∷ [] → after.session ≡ asks_abort client.session → after.contact ≡ Met → after.transport ≡ client.transport → Sends content client packets after
  Leaves : is_waiting client.session.awaited ≡ false → client.contact ≡ Met → packets ≡ disconnect_octets ∷ [] → after.session ≡ asks_disconnect client.session → after.contact ≡ Left → after.transport ≡ client.transport → Sends content client packets after

abbrev MadeSends : Option (List Object) → Client → Made → Type 0
MadeSends content client request = Sends content client (packet_of request.outcome request) (talk_of request.client)

module _ (content : Option (List Object)) (client : Client) (free : is_waiting client.session.awaited ≡ false) where
  -- with the fault of the shelf as its cause
  leaves_send : (ask : Ask) (ended : Client) (parts : List Part) → client.contact ≡ Met → ended.session ≡ client.session → ended.contact ≡ client.contact → ended.transport ≡ client.transport → MadeSends content client (leaves_by ask ended parts)
  leaves_send Abort ended parts met same contact transport = Aborts free met refl (ap asks_abort same) (contact ∙ met) transport
  leaves_send Connect ended parts met same contact transport = Leaves free met refl (ap asks_disconnect same) refl transport
  leaves_send Put ended parts met same contact transport = Leaves free met refl (ap asks_disconnect same) refl transport
  leaves_send Disconnect ended parts met same contact transport = Leaves free met refl (ap asks_disconnect same) refl transport
  leaves_send Close ended parts met same contact transport = Leaves free met refl (ap asks_disconnect same) refl transport
  leaves_send Nothing ended parts met same contact transport = Leaves free met refl (ap asks_disconnect same) refl transport

  same_session : (cause : Option Outcome) (o : Outcome) (c : Client) → (ends_by cause o c).session ≡ c.session
  same_session None o c = refl
  same_session (Some earlier) o c = refl

  same_contact : (cause : Option Outcome) (o : Outcome) (c : Client) → (ends_by cause o c).contact ≡ c.contact
  same_contact None o c = refl
  same_contact (Some earlier) o c = refl

  same_transport : (cause : Option Outcome) (o : Outcome) (c : Client) → (ends_by cause o c).transport ≡ c.transport
  same_transport None o c = refl
  same_transport (Some earlier) o c = refl

  failing_sends : (parts : List Part) → client.contact ≡ Met → MadeSends content client (failing (record client { rest = [] }) parts)
  failing_sends parts met =
      let quiet : Client = record client { rest = [] } in
      let ended = ends outcomes.ShelfFault quiet in
      leaves_send (next_ask ended) ended parts met (same_session quiet.cause outcomes.ShelfFault quiet) (same_contact quiet.cause outcomes.ShelfFault quiet) (same_transport quiet.cause outcomes.ShelfFault quiet)

  part_sends : (part : Part) (parts : List Part) → client.contact ≡ Met → client.cause ≡ None → ((octets : List ℕ) → part ≡ Ok octets → Told content client octets)
      → (let put = puts_part part (record client { rest = [] }) parts in MadeSends content client (puts_or_leaves put.outcome put))
  part_sends (Ok part) parts met none told = Puts part free met none (told part refl) refl refl met refl
  part_sends (Err fault.Failed) parts met none told = failing_sends parts met
  part_sends (Err fault.NoMemory) parts met none told = Rests refl refl refl refl

  same_octets : (part : Part) (a b : List ℕ) → part ≡ Ok a → part ≡ Ok b → a ≡ b
  same_octets part a b x y = cc

  told_by : (part : Part) (parts : List Part) → Answers content client (part ∷ parts) → (octets : List ℕ) → part ≡ Ok octets → Told content client octets
  told_by (Ok part) parts answers octets e = subst (Told content client) (same_octets (Ok part) part octets refl e) (answers.0, λ some. answers.1)
  told_by (Err fault) parts answers octets e = absurd cc

  from_sends : (parts : List Part) → client.contact ≡ Met → client.cause ≡ None → Answers content client parts → (let put = puts_from parts (record client { rest = [] }) in MadeSends content client (puts_or_leaves put.outcome put))
  from_sends [] met none answers = failing_sends [] met
  from_sends (part ∷ parts) met none answers = part_sends part parts met none (told_by part parts answers)

  no_octets : (part : Part) → part ≡ Ok [] → put_count client ≡ 0 → (octets : List ℕ) → part ≡ Ok octets → Told content client octets
  no_octets part none zero octets e = subst (Told content client) (same_octets part [] octets none e) (sym zero, λ some. absurd (omega (arith, zero, some)))

  count_sends : (zero : Bool) (parts : List Part) → zero ≡ (put_count client == 0) → client.contact ≡ Met → client.cause ≡ None → Answers content client parts
      → (let put = if zero then puts_part (Ok []) (record client { rest = [] }) parts else puts_from parts (record client { rest = [] }) in MadeSends content client (puts_or_leaves put.outcome put))
  count_sends true parts is met none answers = part_sends (Ok []) parts met none (no_octets (Ok []) refl (eqb-true (put_count client) 0 (sym is)))
  count_sends false parts is met none answers = from_sends parts met none answers

  made_sends : (ask : Ask) (parts : List Part) → ask ≡ next_ask client → Answers content client parts → (let s = asks_direct ask (record client { rest = [] }) parts in Sends content client (sdus_of s.step) (talk_of s.client))
  made_sends Close parts is answers = Rests refl refl refl refl
  made_sends Nothing parts is answers = Rests refl refl refl refl
  made_sends Connect parts is answers = Connects free refl refl refl refl
  made_sends Put parts is answers =
      let when = (whence client.contact client.cause client.session.put).put (sym is) in
      let request = requests Put (record client { rest = [] }) parts in
      by_outcome request.outcome request (count_sends (put_count client == 0) parts refl when.0 when.1 answers)
    where
      by_outcome : (outcome : Result (Unit {0}) PortFault) (request : Made) → Sends content client (packet_of outcome request) (talk_of request.client)
          → Sends content client (sdus_of (sends_direct outcome request).step) (talk_of (sends_direct outcome request).client)
      by_outcome (Ok done) request s = s
      by_outcome (Err fault) request s = s
  made_sends Abort parts is answers = let when = (whence client.contact client.cause client.session.put).abort (sym is) in Aborts free when.0 refl refl when.0 refl
  made_sends Disconnect parts is answers = let when = (whence client.contact client.cause client.session.put).disconnect (sym is) in Leaves free when.0 refl refl refl refl

-- ---- a step

direct_sends : (content : Option (List Object)) (may : Bool) (client : Client) (parts : List Part) → may ≡ may_ask client → Answers content client parts
    → (let s = (if may then asks_direct (next_ask client) (record client { rest = [] }) parts else rests client parts) in Sends content client (sdus_of s.step) (talk_of s.client))
direct_sends content true client parts is answers = made_sends content client (still_of client.going (is_waiting client.session.awaited) (sym is)) (next_ask client) parts refl answers
direct_sends content false client parts is answers = Rests refl refl refl refl

abbrev StepSends : Option (List Object) → Client → List Part → Stepped → Type 0
StepSends content client parts s = Sends content client (if is_object client.stage then sdus_of s.step else []) (talk_of s.client)

abbrev nothing_sent : List (List ℕ)
nothing_sent = []

none_here : (object : Bool) → (if object then [] else []) ≡ nothing_sent
none_here true = refl
none_here false = refl

either_sends : (content : Option (List Object)) (test : Bool) (client : Client) (parts : List Part) (a b : Stepped) → StepSends content client parts a → StepSends content client parts b → StepSends content client parts (if test then a else b)
either_sends content true client parts a b x y = x
either_sends content false client parts a b x y = y

at_sends : (content : Option (List Object)) (object : Bool) (client : Client) (parts : List Part) → is_object client.stage ≡ object → client.transport ≡ L2cap → Answers content client parts → StepSends content client parts (steps_at client.stage client parts)
at_sends content false client parts is t answers =
    subst (λ (b : Bool). Sends content client (if b then sdus_of (steps_at client.stage client parts).step else []) (talk_of (steps_at client.stage client parts).client)) (sym is)
    (at_talk (λ (after : Talk). Sends content client [] after) client.stage client parts is (Rests refl refl refl refl))
at_sends content true client parts is t answers =
    subst (λ (b : Bool). Sends content client (if b then sdus_of (steps_at client.stage client parts).step else []) (talk_of (steps_at client.stage client parts).client)) (sym is)
    (subst (λ (s : Stage). Sends content client (sdus_of (steps_at s client parts).step) (talk_of (steps_at s client parts).client)) (sym (object_of client.stage is))
    (subst (λ (x : Transport). Sends content client (sdus_of (steps_object x client parts).step) (talk_of (steps_object x client parts).client)) (sym t) (direct_sends content (may_ask client) client parts refl answers)))

pub asks_send : (content : Option (List Object)) (client : Client) (parts : List Part) → client.transport ≡ L2cap → Answers content client parts → Sends content client (packets_by (Asks parts) client) (talk_of (done (Asks parts) client))
asks_send content client parts t answers =
    subst (λ (x : Transport). Sends content client (if is_object client.stage then packets_through x client parts else []) (talk_of (steps.steps client parts).client)) (sym t)
    (either_sends content client.failed client parts (record { client = client; step = steps.NoMemory; left = parts }) (if client.given then rests client parts else steps_at client.stage client parts) (Rests (none_here (is_object client.stage)) refl refl refl)
    (either_sends content client.given client parts (rests client parts) (steps_at client.stage client parts) (Rests (none_here (is_object client.stage)) refl refl refl) (at_sends content (is_object client.stage) client parts refl t answers)))
