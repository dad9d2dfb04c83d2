-- The first packet of all comes over L2CAP.
use Rattle.std.proofs.Common.{false, ◌≤◌, ◌≡◌, ℕ, List, [], ◌∷◌, ◌++◌, length, arith, refl, sym, ap, subst, ◌∙◌, append-nil}
use Rattle.std.specs.Prelude.{nat_lt}
use Rattle.std.specs.List.{AllByRecursion}
use Rattle.link_talk.specs.bt_base.specs.declared.settings.Settings.{Settings}
use Rattle.link_talk.specs.bt_base.specs.declared.settings.Transport.{Transport}
use Rattle.link_talk.specs.bt_base.specs.declared.settings.Transport.TheVariants.{L2cap, Rfcomm}
use Rattle.link_talk.specs.bt_base.specs.Objects.{Object}
use Rattle.push_model.specs.obex_headers.specs.declared.packet.Phase.TheVariants.{Request}
use Rattle.push_model.specs.obex_headers.specs.Reading.{packet_in}
use Rattle.push_model.specs.obex_headers.specs.Runs.{names}
use Rattle.push_model.specs.obex_session.specs.Laws.{without_fault}
use Rattle.push_model.specs.obex_session.specs.Past.{open_headers}
use Rattle.push_model.specs.Listening.{has_bad_length}
use Rattle.push_model.specs.rfcomm_frames.specs.ObexPackets.{obex_packets}
use Rattle.link_talk.specs.Gains.{beyond}
use Rattle.link_talk.specs.ObjectsHeard.{spelled_within}
use Rattle.push_model.specs.Client.{own_maximum}
use Rattle.push_laws.specs.Occurrences.{Occurrence, Came, Went, Closed, LinkDown, Asked, Answering}
use Rattle.push_laws.specs.Premises.{is_under_way, IsHeard, AllGranted, MayCome, new_packets}
use Rattle.push_laws.specs.Laws.{new_over, OnePacketIsHeard}
use Rattle.push_laws.proofs.Streams.{no_packets}
use Rattle.push_laws.proofs.Readings.{drop_same}

abbrev first : List ℕ → Occurrence
first packet = Came 0x1001 packet

no_stream : (packet : List ℕ) → new_packets Rfcomm [] (first packet) ≡ []
no_stream packet = drop_same (obex_packets [])

none_under_way : (settings : Settings) → is_under_way settings Rfcomm [] ≡ false
none_under_way settings = ap (λ (ps : List (List ℕ)). nat_lt 0 (length (names (open_headers (own_maximum Rfcomm settings) (without_fault ps))))) no_packets

abbrev psm_in : Occurrence → ℕ
psm_in (Came psm sdu) = psm
psm_in (Went psm sdu) = 0
psm_in (Closed psm) = 0
psm_in LinkDown = 0
psm_in Asked = 0
psm_in (Answering answers) = 0

other_psm : (a b : List ℕ) → Came 0x1001 a ≡ Came 0x0003 b → ⊥
other_psm a b e = absurd (let same : 0x1001 ≡ 0x0003 = ap psm_in e in omega (arith, same))

may_come : (settings : Settings) (before : List Object) (packet : List ℕ) → MayCome AllGranted (IsHeard settings [] (new_over settings before).server.listener.service) settings [] (new_over settings before) (first packet)
may_come settings before packet = record {
  own = tt;
  answers = tt;
  requests = record { single = subst (λ (ps : List (List ℕ)). length ps ≤ 1) (sym (no_stream packet)) (omega arith); heard = heard; lengths = subst (λ (ps : List (List ℕ)). AllByRecursion (λ p. has_bad_length (packet_in Request (own_maximum Rfcomm settings) p) ≡ false) ps) (sym (no_stream packet)) tt };
  frame = λ sdu e. absurd (other_psm packet sdu e);
  orderly = tt;
}
  where
    heard : (t : Transport) → AllByRecursion (IsHeard settings [] (new_over settings before).server.listener.service t) (new_packets t [] (first packet))
    heard L2cap = (record { taken = refl; alone = λ named. none_under_way settings }, tt)
    heard Rfcomm = subst (AllByRecursion (IsHeard settings [] (new_over settings before).server.listener.service Rfcomm)) (sym (no_stream packet)) tt

pub one-packet_is_heard : OnePacketIsHeard
one-packet_is_heard settings before packet = (
  (may_come settings before packet, tt),
  append-nil (spelled_within (own_maximum L2cap settings) (packet ∷ []) ++ beyond (spelled_within (own_maximum Rfcomm settings) (obex_packets [])) (spelled_within (own_maximum Rfcomm settings) (obex_packets [])))
      ∙ ap (λ (os : List Object). spelled_within (own_maximum L2cap settings) (packet ∷ []) ++ os) (drop_same (spelled_within (own_maximum Rfcomm settings) (obex_packets []))) ∙ append-nil (spelled_within (own_maximum L2cap settings) (packet ∷ [])),
)
