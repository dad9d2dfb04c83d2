-- What the channels carry, and the same with what the client asked to send.
use Rattle.std.proofs.Common.{◌≡◌, ℕ, Bool, ◌||◌, List, [], ◌∷◌, ◌++◌, None, refl, sym, ap, subst, ◌∙◌, inl, append_assoc, append-nil}
use Rattle.pair_laws.specs.push_model.specs.Client.{Client}
use Rattle.pair_laws.specs.push_model.specs.Laws as push
use Rattle.pair_laws.specs.push_model.specs.Laws.{Deed}
use Rattle.pair_laws.specs.push_model.specs.Server.{object_psm}
use Rattle.pair_laws.specs.push_laws.specs.Occurrences.{Occurrence}
use Rattle.pair_laws.specs.push_laws.specs.Parties.{OfServer, OfClient, Pipes, no_pipes, sent_by, heard_by, come_by, gone_by, pipes_after, IsFrontOf, ArePipes}
use Rattle.pair_laws.specs.push_laws.specs.Readings.{closes}
use Rattle.pair_laws.specs.host_model.specs.Clients.{ClientProfile}
use Rattle.request_laws.specs.Twists.{pipes_behind}
use Rattle.request_laws.proofs.Asking.{sent_over, Sent, All, OneMore, Makes, sent_more}
use Rattle.request_laws.proofs.Piping.{by_client, by_server}

-- all but the requests that were sent is the same
pub record Alike (channel pipes : Pipes) : Type 0 where
  pub come : pipes.requests_come ≡ channel.requests_come
  pub gone : pipes.responses_sent ≡ channel.responses_sent
  pub heard : pipes.responses_come ≡ channel.responses_come
  pub closed : pipes.closed ≡ channel.closed

pub record Carries (client : ClientProfile) (channel pipes : Pipes) : Type 0 where
  pub sent : Sent client channel.requests_sent pipes.requests_sent
  pub rest : Alike channel pipes

pub carries_none : (client : ClientProfile) → client.submitted ≡ None → Carries client no_pipes no_pipes
carries_none client none = record { sent = All (inl none) refl; rest = record { come = refl; gone = refl; heard = refl; closed = refl } }

sent_front : (client : ClientProfile) (front taken sent : List (List ℕ)) → Sent client taken sent → IsFrontOf front taken → IsFrontOf front sent
sent_front client front taken sent (All even is) (behind, so) = (behind, is ∙ so)
sent_front client front taken sent (OneMore stuck one is) (behind, so) = (behind ++ one ∷ [], is ∙ (ap (λ (l : List (List ℕ)). l ++ one ∷ []) so ∙ append_assoc front behind (one ∷ [])))

pub pipes_carried : (client : ClientProfile) (channel pipes : Pipes) → Carries client channel pipes → ArePipes channel → ArePipes pipes
pipes_carried client channel pipes carries now = record {
  requests = subst (λ (l : List (List ℕ)). IsFrontOf l pipes.requests_sent) (sym carries.rest.come) (sent_front client channel.requests_come channel.requests_sent pipes.requests_sent carries.sent now.requests);
  responses = subst (λ (l : List (List ℕ)). IsFrontOf l pipes.responses_sent) (sym carries.rest.heard) (subst (λ (l : List (List ℕ)). IsFrontOf channel.responses_come l) (sym carries.rest.gone) now.responses);
}

-- ---- the client

alike_client : (deeds : List Deed) (client : Client) (channel pipes : Pipes) → Alike channel pipes → Alike (pipes_behind (by_client deeds) client channel) (pipes_behind (by_client deeds) client pipes)
alike_client [] client channel pipes alike = alike
alike_client (deed ∷ deeds) client channel pipes alike =
    alike_client deeds (push.done deed client) (pipes_after (OfClient deed) client channel) (pipes_after (OfClient deed) client pipes)
    (record { come = alike.come; gone = alike.gone; heard = ap (λ (l : List (List ℕ)). l ++ heard_by deed) alike.heard; closed = alike.closed })

sent_client : (deeds : List Deed) (client : Client) (pipes : Pipes) → (pipes_behind (by_client deeds) client pipes).requests_sent ≡ pipes.requests_sent ++ sent_over deeds client
sent_client [] client pipes = sym (append-nil pipes.requests_sent)
sent_client (deed ∷ deeds) client pipes =
    sent_client deeds (push.done deed client) (pipes_after (OfClient deed) client pipes) ∙ append_assoc pipes.requests_sent (sent_by deed client) (sent_over deeds (push.done deed client))

pub carries_client : (deeds : List Deed) (before after : ClientProfile) (taken : List (List ℕ)) (channel pipes : Pipes) → Carries before channel pipes → Makes before after taken (sent_over deeds before.client)
    → (let carried : Pipes = record (pipes_behind (by_client deeds) before.client channel) { requests_sent = channel.requests_sent ++ taken } in Carries after carried (pipes_behind (by_client deeds) before.client pipes))
carries_client deeds before after taken channel pipes carries makes =
    let alike = alike_client deeds before.client channel pipes carries.rest in
    record {
      sent = subst (λ (l : List (List ℕ)). Sent after (channel.requests_sent ++ taken) l) (sym (sent_client deeds before.client pipes))
          (sent_more before after channel.requests_sent pipes.requests_sent taken (sent_over deeds before.client) carries.sent makes);
      rest = record { come = alike.come; gone = alike.gone; heard = alike.heard; closed = alike.closed };
    }

-- ---- the server

pub carries_server : (occurrences : List Occurrence) (p : ClientProfile) (client : Client) (channel pipes : Pipes) → Carries p channel pipes → Carries p (pipes_behind (by_server occurrences) client channel) (pipes_behind (by_server occurrences) client pipes)
carries_server [] p client channel pipes carries = carries
carries_server (one ∷ rest) p client channel pipes carries =
    carries_server rest p client (pipes_after (OfServer one) client channel) (pipes_after (OfServer one) client pipes)
    (record {
      sent = carries.sent;
      rest = record {
        come = ap (λ (l : List (List ℕ)). l ++ come_by one) carries.rest.come;
        gone = ap (λ (l : List (List ℕ)). l ++ gone_by one) carries.rest.gone;
        heard = carries.rest.heard;
        closed = ap (λ (c : Bool). c || closes object_psm one) carries.rest.closed;
      };
    })
