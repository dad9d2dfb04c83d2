-- What the packets spell of a list of occurrences hangs on what stands before it by the packets of that alone.
use Rattle.std.proofs.Common.{◌≡◌, inl, inr, ℕ, List, [], ◌∷◌, ◌++◌, Option, refl, sym, ap, ap₂, ◌∙◌}
use Rattle.std.specs.List.{cons_option}
use Rattle.std.proofs.lemmas.Bool.{cases_Bool}
use Rattle.request_laws.specs.bt_base.specs.declared.settings.Settings.{Settings}
use Rattle.request_laws.specs.bt_base.specs.declared.settings.Transport.{Transport}
use Rattle.request_laws.specs.bt_base.specs.declared.settings.Transport.TheVariants.{L2cap, Rfcomm}
use Rattle.request_laws.specs.bt_base.specs.Objects.{Object}
use Rattle.request_laws.specs.capture.specs.Histories.{each_after}
use Rattle.request_laws.specs.link_talk.specs.Gains.{beyond}
use Rattle.request_laws.specs.link_talk.specs.ObjectsHeard.{spelled_within}
use Rattle.request_laws.specs.obex_session.specs.InboxCalls.{Answer}
use Rattle.request_laws.specs.rfcomm_frames.specs.declared.connection.Role.TheVariants.{Initiator, Responder}
use Rattle.request_laws.specs.rfcomm_frames.specs.Multiplexing.{Passed}
use Rattle.request_laws.specs.rfcomm_frames.specs.ObexPackets.{obex_packets}
use Rattle.request_laws.specs.rfcomm_frames.specs.UserChannel.{user_octets}
use Rattle.request_laws.specs.push_model.specs.Client.{own_maximum}
use Rattle.request_laws.specs.push_model.specs.Server.{object_psm, rfcomm_psm}
use Rattle.request_laws.specs.push_laws.specs.Gains.{objects_with, objects}
use Rattle.request_laws.specs.push_laws.specs.Occurrences.{Occurrence, Answering}
use Rattle.request_laws.specs.push_laws.specs.Readings.{closes, came_on, passed_by, packets_over}
use Rattle.request_laws.specs.push_laws.proofs.Readings.{read, read_more, read_closed, drop_same}

-- two pasts bring the same packets
record AreAlike (p q : List Occurrence) : Type 0 where
  direct : read (came_on object_psm) object_psm p ≡ read (came_on object_psm) object_psm q
  carried : read passed_by rfcomm_psm p ≡ read passed_by rfcomm_psm q

read_alike : {Y : Type 0} (view : Occurrence → Option Y) (psm : ℕ) (p q : List Occurrence) (one : Occurrence) → read view psm p ≡ read view psm q → read view psm (p ++ one ∷ []) ≡ read view psm (q ++ one ∷ [])
read_alike {Y} view psm p q one same =
    elim (cases_Bool (closes psm one)) [
      | inl over ↦ read_closed view psm p one over ∙ sym (read_closed view psm q one over)
      | inr on ↦ read_more view psm p one on ∙ (ap (λ (l : List Y). l ++ cons_option (view one) []) same ∙ sym (read_more view psm q one on))
    ]

more_alike : (p q : List Occurrence) (one : Occurrence) → AreAlike p q → AreAlike (p ++ one ∷ []) (q ++ one ∷ [])
more_alike p q one same = record { direct = read_alike (came_on object_psm) object_psm p q one same.direct; carried = read_alike passed_by rfcomm_psm p q one same.carried }

packets_alike : (t : Transport) (p q : List Occurrence) → AreAlike p q → packets_over t p ≡ packets_over t q
packets_alike L2cap p q same = same.direct
packets_alike Rfcomm p q same = ap (λ (ps : List Passed). obex_packets (user_octets 18 Responder Initiator ps)) same.carried

module _ (settings : Settings) where
  abbrev of : Transport → List (List ℕ) → List Object
  of t packets = spelled_within (own_maximum t settings) packets

  gained_alike : (t : Transport) (p q : List Occurrence) (one : Occurrence) → AreAlike p q → beyond (of t (packets_over t p)) (of t (packets_over t (p ++ one ∷ []))) ≡ beyond (of t (packets_over t q)) (of t (packets_over t (q ++ one ∷ [])))
  gained_alike t p q one same = ap₂ (λ (a b : List (List ℕ)). beyond (of t a) (of t b)) (packets_alike t p q same) (packets_alike t (p ++ one ∷ []) (q ++ one ∷ []) (more_alike p q one same))

  all_alike : (list p q : List Occurrence) → AreAlike p q → each_after (objects_with settings) p list ≡ each_after (objects_with settings) q list
  all_alike [] p q same = refl
  all_alike (one ∷ list) p q same =
      ap₂ (λ (a b : List Object). a ++ b) (ap₂ (λ (a b : List Object). a ++ b) (gained_alike L2cap p q one same) (gained_alike Rfcomm p q one same)) (all_alike list (p ++ one ∷ []) (q ++ one ∷ []) (more_alike p q one same))

  -- what its inbox is to answer brings nothing
  pub answers_aside : (answers : List Answer) (list : List Occurrence) → objects settings (Answering answers ∷ list) ≡ objects settings list
  answers_aside answers list =
      ap₂ (λ (a b : List Object). a ++ b) (ap₂ (λ (a b : List Object). a ++ b) (drop_same (of L2cap (packets_over L2cap []))) (drop_same (of Rfcomm (packets_over Rfcomm []))))
      (all_alike list (Answering answers ∷ []) [] (record { direct = refl; carried = refl }))
