-- What a server answers over RFCOMM: a packet that states its maximum, where it is read as a response to CONNECT; or nothing.
use Rattle.std.proofs.Common.{inl, inr, ◌||◌, ◌<◌, ◌^◌, ◌≡◌, ℕ, List, [], ◌∷◌, refl}
use Rattle.std.proofs.lemmas.Bool.{cond_both}
use Rattle.link_talk.specs.bt_base.specs.declared.settings.Transport.TheVariants.{L2cap, Rfcomm}
use Rattle.push_model.specs.obex_session.specs.Serving.{heard_with}
use Rattle.push_model.specs.obex_session.proofs.SaidLaws.{said_sized}
use Rattle.push_model.specs.obex_session.proofs.StatingLaws.{said_states}
use Rattle.push_model.specs.Service.{Service, Served, response_over, is_ignored, hears_packet}
use Rattle.push_model.specs.Sessions as model
use Rattle.push_model.specs.Sessions.{Sessions, Gift, lets_go, answers_to, is_naming, hears_after, hears}
use Rattle.push_laws.proofs.Stating.{IsAnswer}

carried_answer : (packet : List ℕ) (sessions : Sessions) (gift : Gift) → sessions.carried.maximum < 2 ^ 16 → IsAnswer sessions.carried.maximum (answers_to Rfcomm packet sessions gift).response
carried_answer packet sessions gift fits =
    let most = sessions.carried.maximum in
    let said = (heard_with sessions.carried packet gift.answers).saying in
    elim (said_sized packet most said) [ inl none ↦ inl none | inr sized ↦ inr (record { packet = sized; states = said_states packet most said fits }) ]

heard_answer : (packet : List ℕ) (sessions : Sessions) (gift : Gift) → sessions.carried.maximum < 2 ^ 16 → IsAnswer sessions.carried.maximum (hears Rfcomm packet sessions gift).response
heard_answer packet sessions gift fits =
    let parted = lets_go L2cap sessions gift in
    cond_both (is_naming Rfcomm packet sessions) (hears_after Rfcomm packet parted) (answers_to Rfcomm packet sessions gift) (λ (h : model.Heard). IsAnswer sessions.carried.maximum h.response)
    (λ named. cond_both parted.short _ (answers_to Rfcomm packet parted.sessions parted.gift) (λ (h : model.Heard). IsAnswer sessions.carried.maximum h.response) (λ short. inl refl) (λ e. carried_answer packet parted.sessions parted.gift fits))
    (λ unnamed. carried_answer packet sessions gift fits)

over_answer : (most : ℕ) (response : List ℕ) (service : Service) → service.answer ≡ [] → IsAnswer most response → IsAnswer most (response_over Rfcomm response service).answer
over_answer most [] service free is = inl free
over_answer most (octet ∷ octets) service free is = is

pub packet_answer : (packet : List ℕ) (service : Service) (gift : Gift) → service.sessions.carried.maximum < 2 ^ 16 → service.answer ≡ [] → IsAnswer service.sessions.carried.maximum (hears_packet Rfcomm packet service gift).service.answer
packet_answer packet service gift fits free =
    let most = service.sessions.carried.maximum in
    cond_both (is_ignored Rfcomm packet service) _ _ (λ (s : Served). IsAnswer most s.service.answer) (λ e. inl free)
    (λ e. let h = hears Rfcomm packet service.sessions gift in over_answer most h.response (record service { sessions = h.sessions; failed = service.failed || h.short }) free (heard_answer packet service.sessions gift fits))
