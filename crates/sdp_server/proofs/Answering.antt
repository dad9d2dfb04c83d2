-- A search and the part of its answer.
use Rattle.std.proofs.Common.{ℕ, Option, ap, ◌∙◌}
use Rattle.sdp_elements.specs.Answers.{Search, answer}
use Rattle.sdp_elements.specs.Exchange.{pdu_octets}
use Rattle.sdp_elements.specs.Pdus.{PlainPdu}
use Rattle.sdp_elements.specs.Questions.{search_parameters}
use Rattle.sdp_elements.proofs.PduLaws.{pdu_again}
use Rattle.sdp_server.specs.Laws.{AnswersSearches}
use Rattle.sdp_server.specs.Replies.{part_from, answered, responded, transaction_of, with_error}
use Rattle.sdp_server.specs.Requests.{Request}
use Rattle.sdp_server.proofs.Written.{requests_again}

pub answers_searches : AnswersSearches
answers_searches serves room transaction most offset pattern ranges continuation t p least fits r k size o =
    let parameters = search_parameters pattern most ranges continuation in
    let octets = pdu_octets 6 transaction parameters in
    let whole = answer serves (Search pattern ranges) in
    ap (λ (x : Option PlainPdu). with_error (transaction_of octets) (responded serves room x)) (pdu_again 6 transaction parameters t size)
    ∙ ap (λ (x : Option Request). with_error (transaction_of octets) (answered serves room transaction x)) (requests_again.search pattern most ranges continuation p least fits r k)
    ∙ ap (λ (x : Option ℕ). with_error (transaction_of octets) (part_from 7 transaction whole most room x)) o
