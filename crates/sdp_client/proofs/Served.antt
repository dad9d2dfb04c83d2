-- The target that the answer of a server names.
use Rattle.std.proofs.Common.{◌≡◌, ℕ, zero, suc, ◌<◌, Bool, true, false, List, [], ◌∷◌, length, refl, ◌∙◌, ◌≤◌, arith}
use Rattle.std.specs.Prelude.{◌&&◌, nat_lt}
use Rattle.std.specs.List.{list_all}
use Rattle.std.proofs.lemmas.Bool.{ltb-true}
use Rattle.bt_base.specs.Octets.{IsOctets}
use Rattle.bt_base.specs.declared.settings.Serves.{Serves}
use Rattle.bt_base.specs.declared.settings.Serves.TheVariants as serving
use Rattle.sdp_elements.specs.Answers.{answer}
use Rattle.sdp_elements.specs.Elements.{short_uuid}
use Rattle.sdp_elements.specs.Exchange.{part_reply}
use Rattle.sdp_elements.specs.Reading.{tree_at, front_at, behind_header, content_at, parts_at, tree_of}
use Rattle.sdp_server.specs.Laws.{IsPattern, AreRanges}
use Rattle.sdp_server.proofs.Answering.{answers_searches}
use Rattle.sdp_client.specs.Asking.{asked_pattern, asked_ranges}
use Rattle.sdp_client.specs.Laws.{asked_question, FindsWhatIsServed, first_reply, FindsTheServer}
use Rattle.sdp_client.proofs.Joining.{one_reply}

pub finds_what_is_served : FindsWhatIsServed
unfolding tree_at front_at behind_header content_at parts_at tree_of
finds_what_is_served serving.Both = refl
finds_what_is_served serving.L2cap = refl
finds_what_is_served serving.Rfcomm = refl

-- ---- the reply of a server

both : (p q : Bool) → (p && q) ≡ true → (p ≡ true) × (q ≡ true)
both true q e = (refl, e)
both false q e = absurd cc

-- each member is an octet, by a test that computes
are_octets : (octets : List ℕ) → list_all (λ x. nat_lt x 256) octets ≡ true → IsOctets octets
are_octets [] e i = omega arith
are_octets (x ∷ octets) e zero = ltb-true x 256 (both (nat_lt x 256) (list_all (λ y. nat_lt y 256) octets) e).0
are_octets (x ∷ octets) e (suc i) = are_octets octets (both (nat_lt x 256) (list_all (λ y. nat_lt y 256) octets) e).1 i

uuid_octets : IsOctets (short_uuid 0x1105)
uuid_octets = are_octets (short_uuid 0x1105) refl

asked_is_pattern : IsPattern asked_pattern
asked_is_pattern = (omega arith, omega arith, ((refl, uuid_octets), tt))

asked_are_ranges : AreRanges asked_ranges
asked_are_ranges = (omega arith, ((omega arith, omega arith), ((omega arith, omega arith), tt)))

served_reply : (serves : Serves) (room : ℕ) → first_reply serves room ≡ part_reply 7 1 (answer serves asked_question) 0 256 room
served_reply serves room = answers_searches serves room 1 256 0 asked_pattern asked_ranges [] (omega arith) asked_is_pattern (omega arith) (omega arith) asked_are_ranges (omega arith) (omega arith) refl

-- the answer fits into one reply
record IsShort (octets : List ℕ) : Type 0 where
  some : 0 < length octets
  few : length octets ≤ 32

short_answer : (serves : Serves) → IsShort (answer serves asked_question)
short_answer serving.Both = record { some = omega arith; few = omega arith }
short_answer serving.L2cap = record { some = omega arith; few = omega arith }
short_answer serving.Rfcomm = record { some = omega arith; few = omega arith }

pub finds_the_server : FindsTheServer
finds_the_server serves room h =
    let octets = answer serves asked_question in
    let short = short_answer serves in
    let some = short.some in
    let few = short.few in
    one_reply octets (first_reply serves room) 1 256 room (omega arith) some (omega arith) (omega arith) (omega arith) (served_reply serves room) ∙ finds_what_is_served serves
