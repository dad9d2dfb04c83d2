-- What may still become of a push: where its object may come to be withheld, no final PUT was sent, and nothing is gained of it.
use Rattle.std.proofs.Common.{◌≡◌, inl, inr, ℕ, true, List, [], ◌∷◌, ◌++◌, Option, Some, None, Ok, Err, refl, sym, ap, subst, ◌∙◌, append_assoc}
use Rattle.std.specs.List.{AllByRecursion}
use Rattle.tape_laws.specs.bt_base.specs.Objects.{Object}
use Rattle.tape_laws.specs.push_terms.specs.declared.outcome.Outcome.{Outcome}
use Rattle.tape_laws.specs.push_terms.specs.declared.outcome.Outcome.TheVariants as outcomes
use Rattle.tape_laws.specs.push_model.specs.Client.{Client}
use Rattle.tape_laws.specs.push_model.specs.Laws.{Deed, Hears, Asks, Finishes, Cancels, done, all_done}
use Rattle.tape_laws.specs.push_model.specs.Steps.{Part, connect_octets}
use Rattle.tape_laws.specs.push_model.proofs.ShownFirstLaws.{done_behind}
use Rattle.tape_laws.specs.push_laws.specs.Parties.{server_side, client_side, Push, IsOffered, begun_of}
use Rattle.tape_laws.specs.push_laws.specs.Sending.{packets_by, packets_sent, IsGivenUp, Answers, AnswersTo, AllAnswer}
use Rattle.tape_laws.specs.push_laws.proofs.GivenUpSteps.{sends-one_push}
use Rattle.tape_laws.specs.host_laws.proofs.Gains.{gain}
use Rattle.tape_laws.specs.request_laws.proofs.Feeding.{all_ahead}
use Rattle.done_laws.specs.Kept.{client_of}
use Rattle.done_laws.proofs.Unfinished.{IsOpen}
use Rattle.unmarked_laws.specs.Unspelled.{is_withheld}
use Rattle.unmarked_laws.proofs.Open.{given_up_open, unfinal_gains_none}
use Rattle.unmarked_laws.proofs.Unserved.{unserved_sends_none}

-- something that may happen to it brings it to such an outcome, with as many octets as it asks its shelf for
pub record MayWithhold (client : Client) : Type 0 where
  pub deeds : List Deed
  pub answers : AllAnswer None deeds client
  pub outcome : Outcome
  pub cause : (all_done deeds client).cause ≡ Some outcome
  pub withheld : is_withheld outcome ≡ true

pub comes_to : (outcome : Outcome) (client : Client) → is_withheld outcome ≡ true → client.cause ≡ Some outcome → MayWithhold client
comes_to outcome client withheld is = record { deeds = []; answers = tt; outcome = outcome; cause = is; withheld = withheld }

-- it may where it may behind one thing more
pub one_back : (deed : Deed) (client : Client) → AnswersTo None deed client → MayWithhold (done deed client) → MayWithhold client
one_back deed client answers may = record { deeds = deed ∷ may.deeds; answers = (answers, may.answers); outcome = may.outcome; cause = may.cause; withheld = may.withheld }

-- ---- what was sent by then

plain_answers : (content : Option (List Object)) (client : Client) (parts : List Part) → Answers content client parts → Answers None client parts
plain_answers content client [] answers = tt
plain_answers content client (Ok part ∷ parts) answers = (answers.0, tt)
plain_answers content client (Err fault ∷ parts) answers = tt

plain_to : (content : Option (List Object)) (deed : Deed) (client : Client) → AnswersTo content deed client → AnswersTo None deed client
plain_to content (Hears news) client answers = tt
plain_to content (Asks parts) client answers = plain_answers content client parts answers
plain_to content Finishes client answers = tt
plain_to content Cancels client answers = tt

answers_both : (content : Option (List Object)) (deeds more : List Deed) (client : Client) → AllAnswer content deeds client → AllAnswer None more (all_done deeds client) → AllAnswer None (deeds ++ more) client
answers_both content [] more client here later = later
answers_both content (deed ∷ deeds) more client here later = (plain_to content deed client here.0, answers_both content deeds more (done deed client) here.1 later)

sent_both : (deeds more : List Deed) (client : Client) → packets_sent (deeds ++ more) client ≡ packets_sent deeds client ++ packets_sent more (all_done deeds client)
sent_both [] more client = refl
sent_both (deed ∷ deeds) more client = ap (λ (l : List (List ℕ)). packets_by deed client ++ l) (sent_both deeds more (done deed client)) ∙ sym (append_assoc (packets_by deed client) (packets_sent deeds (done deed client)) (packets_sent more (all_done deeds (done deed client))))

module _ (most : ℕ) (push : Push) (offered : IsOffered push) (may : MayWithhold (client_of push)) where
  abbrev deeds : List Deed
  deeds = client_side push.moves ++ may.deeds

  abbrev ends : Client
  ends = all_done (client_side push.moves ++ may.deeds) (begun_of push)

  abbrev sent : List (List ℕ)
  sent = packets_sent (client_side push.moves ++ may.deeds) (begun_of push)

  ends_so : ends.cause ≡ Some may.outcome
  ends_so = ap (λ (c : Client). c.cause) (done_behind (client_side push.moves) may.deeds (begun_of push)) ∙ may.cause

  given_up : IsGivenUp ends.cause → AllByRecursion IsOpen sent
  given_up =
      let answers = answers_both push.content (client_side push.moves) may.deeds (begun_of push) offered.answers may.answers in
      given_up_open most (connect_octets push.client.session) push.client.session.wanted push.name push.size None ends.cause sent refl (sends-one_push push.client push.name push.size None deeds offered.may answers).0

  all_open : (outcome : Outcome) → ends.cause ≡ Some outcome → is_withheld outcome ≡ true → AllByRecursion IsOpen sent
  all_open outcomes.Cancelled is withheld = given_up (inl is)
  all_open outcomes.ShelfFault is withheld = given_up (inr is)
  all_open outcomes.NoService is withheld = subst (AllByRecursion IsOpen) (sym (unserved_sends_none deeds (begun_of push) refl is)) tt
  all_open outcome is withheld = cc

  -- so nothing is gained by then
  pub may_gains_none : gain most [] (server_side push.moves) ≡ []
  may_gains_none =
      let all = subst (AllByRecursion IsOpen) (sent_both (client_side push.moves) may.deeds (begun_of push)) (all_open may.outcome ends_so may.withheld) in
      (unfinal_gains_none most push offered (all_ahead IsOpen (packets_sent (client_side push.moves) (begun_of push)) (packets_sent may.deeds (client_of push)) all).0).0
