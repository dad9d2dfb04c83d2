-- What is sent of a push whose object is not sent has no final PUT, and nothing is gained of it.
use Rattle.std.proofs.Common.{inl, inr, Bool, true, false, cond, eqb, ◌≡◌, ◌==◌, ℕ, List, [], ◌∷◌, ◌++◌, Option, Some, refl, sym, ap₂, subst, ◌∙◌, append_assoc, if◌then◌else◌}
use Rattle.std.specs.List.{AllByRecursion}
use Rattle.tape_laws.specs.bt_base.specs.Objects.{Object}
use Rattle.tape_laws.specs.push_terms.specs.declared.outcome.Outcome.{Outcome}
use Rattle.tape_laws.specs.push_terms.specs.declared.outcome.Outcome.TheVariants as outcomes
use Rattle.tape_laws.specs.obex_session.specs.PutPackets.{units_in, head_of}
use Rattle.tape_laws.specs.link_talk.specs.Gains.{beyond}
use Rattle.tape_laws.specs.push_model.specs.Client.{Client}
use Rattle.tape_laws.specs.push_model.specs.Laws.{done}
use Rattle.tape_laws.specs.push_model.specs.Server.{object_psm}
use Rattle.tape_laws.specs.push_model.specs.Steps.{connect_octets}
use Rattle.tape_laws.specs.push_laws.specs.Occurrences.{Occurrence, Came, Went, Closed, LinkDown, Asked, Answering}
use Rattle.tape_laws.specs.push_laws.specs.Parties.{Move, OfServer, OfClient, server_side, client_side, Pipes, sent_by, come_by, sdu_if, pipes_after, no_pipes, StayPipes, Push, IsOffered, begun_of, ended_with}
use Rattle.tape_laws.specs.push_laws.specs.Sending.{packets_by, packets_sent, end_of, IsGivenUp, ArePuts, IsSent}
use Rattle.tape_laws.specs.push_laws.proofs.GivenUpSteps.{sends-one_push}
use Rattle.tape_laws.specs.host_laws.proofs.Gains.{state, gain}
use Rattle.tape_laws.specs.request_laws.proofs.Feeding.{all_ahead, all_both}
use Rattle.done_laws.specs.Kept.{client_of}
use Rattle.done_laws.proofs.Unfinished.{IsOpen, unfinal_none, fronts_open, ends_open}
use Rattle.unmarked_laws.specs.Unspelled.{is_withheld, IsWithheld}
use Rattle.unmarked_laws.proofs.Unserved.{unserved_sends_none}

abbrev AreOpen : List (List ℕ) → Type 0
AreOpen packets = AllByRecursion IsOpen packets

-- ---- what is sent

pub given_up_open : (most : ℕ) (connect : List ℕ) (wanted : Bool) (name : List ℕ) (size : ℕ) (content : Option (List Object)) (cause : Option Outcome) (sent : List (List ℕ)) → IsOpen connect → IsSent connect wanted name size content cause sent → IsGivenUp cause → AreOpen sent
given_up_open most connect wanted name size content cause sent first (inl none) given = subst AreOpen (sym none.0) tt
given_up_open most connect wanted name size content cause sent first (inr push) given = subst AreOpen (sym push.sent_is) (first, by push.puts_are)
  where
    by : ArePuts wanted name size content cause push.puts push.gave_up → AreOpen (push.puts ++ end_of push.gave_up push.left)
    by (inl whole) = absurd (elim given [ inl cancelled ↦ whole.2 cancelled | inr failed ↦ whole.3 failed ])
    by (inr part) =
        let has = part.2 in
        all_both IsOpen push.puts (end_of push.gave_up push.left) (subst AreOpen (sym has.said_is) (fronts_open most (head_of (part.0).wanted (units_in name) size) has.parts)) (ends_open most push.gave_up push.left)

-- its client sent no final PUT
sent_open : (most : ℕ) (push : Push) → IsOffered push → IsWithheld push → AreOpen (packets_sent (client_side push.moves) (begun_of push))
sent_open most push offered withheld = by withheld.outcome withheld.cause withheld.withheld
  where
    sent : List (List ℕ)
    sent = packets_sent (client_side push.moves) (begun_of push)

    given_up : IsGivenUp (client_of push).cause → AreOpen sent
    given_up = given_up_open most (connect_octets push.client.session) push.client.session.wanted push.name push.size push.content (client_of push).cause sent refl
        (sends-one_push push.client push.name push.size push.content (client_side push.moves) offered.may offered.answers).0

    by : (outcome : Outcome) → (client_of push).cause ≡ Some outcome → is_withheld outcome ≡ true → AreOpen sent
    by outcomes.Cancelled is withheld = given_up (inl is)
    by outcomes.ShelfFault is withheld = given_up (inr is)
    by outcomes.NoService is withheld = subst AreOpen (sym (unserved_sends_none (client_side push.moves) (begun_of push) refl is)) tt
    by outcome is withheld = cc

-- ---- what comes

-- what the client sends on the channel of the object
abbrev sent_along : List Move → Client → List (List ℕ)
sent_along [] client = []
sent_along (OfServer one ∷ moves) client = sent_along moves client
sent_along (OfClient deed ∷ moves) client = sent_by deed client ++ sent_along moves (done deed client)

by_open : (here : Bool) (packets : List (List ℕ)) → AreOpen packets → AreOpen (if here then packets else [])
by_open true packets open_ = open_
by_open false packets open_ = tt

along_open : (moves : List Move) (client : Client) → AreOpen (packets_sent (client_side moves) client) → AreOpen (sent_along moves client)
along_open [] client open_ = tt
along_open (OfServer one ∷ moves) client open_ = along_open moves client open_
along_open (OfClient deed ∷ moves) client open_ =
    let parts = all_ahead IsOpen (packets_by deed client) (packets_sent (client_side moves) (done deed client)) open_ in
    all_both IsOpen (sent_by deed client) (sent_along moves (done deed client)) (by_open (client.psm == object_psm) (packets_by deed client) parts.0) (along_open moves (done deed client) parts.1)

abbrev ComesOpen : Occurrence → Type 0
ComesOpen one = AreOpen (come_by one)

comes_open : (moves : List Move) (client : Client) (pipes : Pipes) → StayPipes moves client pipes → AreOpen (pipes.requests_sent ++ sent_along moves client) → AllByRecursion ComesOpen (server_side moves)
comes_open [] client pipes stay open_ = tt
comes_open (OfServer one ∷ moves) client pipes stay open_ =
    let front = stay.0.requests in
    let sent = (all_ahead IsOpen pipes.requests_sent (sent_along moves client) open_).0 in
    let come = (all_ahead IsOpen (pipes.requests_come ++ come_by one) front.0 (subst AreOpen front.1 sent)).0 in
    ((all_ahead IsOpen pipes.requests_come (come_by one) come).1, comes_open moves client (pipes_after (OfServer one) client pipes) stay.2 open_)
comes_open (OfClient deed ∷ moves) client pipes stay open_ =
    comes_open moves (done deed client) (pipes_after (OfClient deed) client pipes) stay.2 (subst AreOpen (sym (append_assoc pipes.requests_sent (sent_by deed client) (sent_along moves (done deed client)))) open_)

-- ---- what is gained

state_open : (packets : List (List ℕ)) (one : Occurrence) → AreOpen packets → ComesOpen one → AreOpen (state packets one)
state_open packets (Came psm sdu) open_ come = by (eqb psm object_psm) come
  where
    by : (here : Bool) → AreOpen (sdu_if here sdu) → AreOpen (cond here (packets ++ sdu ∷ []) packets)
    by true is = all_both IsOpen packets (sdu ∷ []) open_ is
    by false is = open_
state_open packets (Went psm sdu) open_ come = open_
state_open packets (Closed psm) open_ come = by (eqb psm object_psm)
  where
    by : (here : Bool) → AreOpen (cond here [] packets)
    by true = tt
    by false = open_
state_open packets LinkDown open_ come = tt
state_open packets Asked open_ come = open_
state_open packets (Answering answers) open_ come = open_

open_gains_none : (most : ℕ) (packets : List (List ℕ)) (list : List Occurrence) → AreOpen packets → AllByRecursion ComesOpen list → gain most packets list ≡ []
open_gains_none most packets [] open_ come = refl
open_gains_none most packets (one ∷ list) open_ come =
    let now = state_open packets one open_ come.0 in
    ap₂ (λ (old new : List Object). beyond old new ++ gain most (state packets one) list) (unfinal_none most [] packets open_) (unfinal_none most [] (state packets one) now) ∙ open_gains_none most (state packets one) list now come.1

-- where no final PUT was sent, with all that happened to its server, and with the end of its link
pub unfinal_gains_none : (most : ℕ) (push : Push) → IsOffered push → AllByRecursion IsOpen (packets_sent (client_side push.moves) (begun_of push)) → (gain most [] (server_side push.moves) ≡ []) × (gain most [] (ended_with push) ≡ [])
unfinal_gains_none most push offered open_ =
    let come = comes_open push.moves (begun_of push) no_pipes offered.carried (along_open push.moves (begun_of push) open_) in (
      open_gains_none most [] (server_side push.moves) tt come,
      open_gains_none most [] (ended_with push) tt (all_both ComesOpen (server_side push.moves) (LinkDown ∷ []) come (tt, tt)),
    )

pub withheld_gains_none : (most : ℕ) (push : Push) → IsOffered push → IsWithheld push → (gain most [] (server_side push.moves) ≡ []) × (gain most [] (ended_with push) ≡ [])
withheld_gains_none most push offered withheld = unfinal_gains_none most push offered (sent_open most push offered withheld)
