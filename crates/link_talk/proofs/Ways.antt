-- Packets over L2CAP are its SDUs, and over any other channel but RFCOMM there are none.
use Rattle.std.proofs.Common.{◌≡◌, ℕ, ◌+◌, ◌<◌, List, [], ◌∷◌, ◌++◌, length, take, drop, get_or, map, Bool, false, cond, eqb, true, refl, sym, ap, subst, ◌∙◌, append_assoc, append-nil}
use Rattle.std.proofs.lemmas.Bool.{eqb-true}
use Rattle.std.proofs.lemmas.List.{take-append-drop}
use Rattle.std.specs.List.{flat_map, AllByRecursion}
use Rattle.bt_base.specs.Octets.{IsOctets}
use Rattle.capture.specs.declared.flow.Flow.{Flow}
use Rattle.capture.specs.Histories.{each_after, given_by}
use Rattle.capture.proofs.HistoryLaws.{front-more}
use Rattle.rfcomm_frames.specs.declared.connection.Role.{Role}
use Rattle.rfcomm_frames.specs.Answers.{Answer, IsAnswer}
use Rattle.rfcomm_frames.specs.FrameReading.{frame_answer}
use Rattle.rfcomm_frames.specs.Multiplexing.{Framed, framed, frames, carried}
use Rattle.rfcomm_frames.specs.Ending.{Course, to_closing}
use Rattle.rfcomm_frames.specs.ObexPackets.{IsPacket, HasNoPacket, obex_packets}
use Rattle.rfcomm_frames.proofs.OneAnswer.{one-answer}
use Rattle.rfcomm_frames.proofs.FrameReading.{frame_answered}
use Rattle.rfcomm_frames.proofs.ObexSplits.{obex_packets-one}
use Rattle.link_talk.specs.declared.party.Party.{Party}
use Rattle.link_talk.specs.Gains.{beyond, gained}
use Rattle.link_talk.specs.Sdus.{Spoken, spoken_as}
use Rattle.link_talk.specs.Packets.{OverL2cap, OverRfcomm, OverNothing, passed, packets_over_rfcomm, packet_with, packets_spoken}
use Rattle.link_talk.specs.Frames.{frame_in}

each_from : (past xs : List Spoken) → each_after (λ (before : List Spoken) (more : Spoken). more ∷ []) past xs ≡ xs
each_from past [] = refl
each_from past (x ∷ xs) = ap (λ ys. x ∷ ys) (each_from (past ++ x ∷ []) xs)

none_from : (past xs : List Spoken) → each_after (λ (before : List Spoken) (more : Spoken). let none : List Spoken = [] in none) past xs ≡ []
none_from past [] = refl
none_from past (x ∷ xs) = none_from (past ++ x ∷ []) xs

pub over_l2cap : (party : Party) (psm : ℕ) (sdus : List Spoken) → psm ≡ 0x1001 → sdus ≡ packets_spoken party psm sdus
over_l2cap party psm sdus is = sym (each_from [] sdus) ∙ ap (λ n. packets_spoken party n sdus) (sym is)

by_test : (a b : ℕ) (t : Bool) → eqb a b ≡ t → (a ≡ b → ⊥) → t ≡ false
by_test a b true is other = absurd (other (eqb-true a b is))
by_test a b false is other = refl

pub over_nothing : (party : Party) (psm : ℕ) (sdus : List Spoken) → (psm ≡ 0x1001 → ⊥) → (psm ≡ 0x0003 → ⊥) → [] ≡ packets_spoken party psm sdus
over_nothing party psm sdus other another =
    sym (none_from [] sdus)
    ∙ (ap (λ b. given_by (packet_with party (cond b OverL2cap (cond false OverRfcomm OverNothing))) sdus) (sym (by_test psm 0x1001 (eqb psm 0x1001) refl other))
    ∙ ap (λ b. given_by (packet_with party (cond (eqb psm 0x1001) OverL2cap (cond b OverRfcomm OverNothing))) sdus) (sym (by_test psm 0x0003 (eqb psm 0x0003) refl another)))
