-- The channel on which a client carries its object: the server's, for the whole push, or another one.
use Rattle.std.proofs.Common.{Bool, true, false, ◌≡◌, ◌==◌, ℕ, List, [], ◌∷◌, ◌++◌, length, refl, sym, ap, subst, ◌∙◌, arith, if◌then◌else◌}
use Rattle.std.proofs.lemmas.Bool.{cond-true, cond-false, eq-eqb}
use Rattle.std.proofs.lemmas.List.{length-append}
use Rattle.push_model.specs.Client.{Client}
use Rattle.push_model.specs.Events as events
use Rattle.push_model.specs.Laws as deeds
use Rattle.push_model.specs.Laws.{Deed, Hears, Asks, Finishes, Cancels}
use Rattle.push_model.specs.Responding.{is_object}
use Rattle.push_model.specs.Server.{object_psm}
use Rattle.push_laws.specs.Parties.{Move, OfServer, OfClient, client_side, sdu_if, sent_by, told_by}
use Rattle.push_laws.specs.Sending.{packets_through, packets_by}
use Rattle.push_laws.proofs.Late.{Anchor, anchor_of, IsLate, all_late}
use Rattle.push_laws.proofs.Talks.{object_of}

-- where the client is on the channel of its object, that is the server's
abbrev pub IsOnObject : Client → Type 0
IsOnObject client = is_object client.stage ≡ true → client.psm ≡ object_psm

abbrev pub AllOnObject : List Move → Client → Type 0
AllOnObject [] client = Unit {0}
AllOnObject (OfServer occurrence ∷ moves) client = AllOnObject moves client
AllOnObject (OfClient deed ∷ moves) client = IsOnObject client × AllOnObject moves (deeds.done deed client)

-- ---- what is sent there

abbrev no_sdus : List (List ℕ)
no_sdus = []

none_if : (test : Bool) → (if test then no_sdus else no_sdus) ≡ no_sdus
none_if true = refl
none_if false = refl

asks_same : (object : Bool) (packets : List (List ℕ)) (psm : ℕ) → (object ≡ true → psm ≡ object_psm) → (if psm == object_psm then (if object then packets else no_sdus) else no_sdus) ≡ (if object then packets else no_sdus)
asks_same true packets psm here = cond-true (psm == object_psm) packets no_sdus (eq-eqb psm object_psm (here refl))
asks_same false packets psm here = none_if (psm == object_psm)

pub sent_same : (deed : Deed) (client : Client) → IsOnObject client → sent_by deed client ≡ packets_by deed client
sent_same (Hears news) client here = none_if (client.psm == object_psm)
sent_same (Asks parts) client here = asks_same (is_object client.stage) (packets_through client.transport client parts) client.psm here
sent_same Finishes client here = none_if (client.psm == object_psm)
sent_same Cancels client here = none_if (client.psm == object_psm)

-- an SDU comes there, or none
pub told_is : (news : events.News) → (here : Bool) × (sdu : List ℕ) × (told_by news ≡ sdu_if here sdu)
told_is events.LinkUp = (false, [], refl)
told_is (events.LinkDown reason) = (false, [], refl)
told_is (events.LinkFailed status) = (false, [], refl)
told_is (events.ChannelOpen psm mtu) = (false, [], refl)
told_is (events.ChannelClosed psm cause) = (false, [], refl)
told_is (events.Sdu psm octets) = (psm == object_psm, octets, refl)
told_is events.FeaturesTold = (false, [], refl)
told_is events.FeaturesLost = (false, [], refl)
told_is events.Timer = (false, [], refl)

-- ---- on another channel nothing is sent there, and nothing comes

asks_none : (object : Bool) (packets : List (List ℕ)) (psm : ℕ) → (object ≡ true → (psm == object_psm) ≡ false) → (if psm == object_psm then (if object then packets else no_sdus) else no_sdus) ≡ no_sdus
asks_none true packets psm away = cond-false (psm == object_psm) packets no_sdus (away refl)
asks_none false packets psm away = none_if (psm == object_psm)

pub none_sent : (deed : Deed) (client : Client) → (is_object client.stage ≡ true → (client.psm == object_psm) ≡ false) → sent_by deed client ≡ []
none_sent (Hears news) client away = none_if (client.psm == object_psm)
none_sent (Asks parts) client away = asks_none (is_object client.stage) (packets_through client.transport client parts) client.psm away
none_sent Finishes client away = none_if (client.psm == object_psm)
none_sent Cancels client away = none_if (client.psm == object_psm)

-- the channel of the object stays the same
pub same_psm : (later : List Deed) (client : Client) → is_object client.stage ≡ true → (deeds.all_done later client).psm ≡ client.psm
same_psm later client works = ap (λ (a : Anchor). a.psm) (all_late (anchor_of client) later client (subst IsLate (sym (object_of client.stage works)) tt, refl)).1

pub none_come : (all front : List (List ℕ)) (x : List ℕ) (behind : List (List ℕ)) → all ≡ [] → all ≡ (front ++ x ∷ []) ++ behind → ⊥
none_come all front x behind none is =
    let one = length-append front (x ∷ []) in
    let more = length-append (front ++ x ∷ []) behind in
    let empty = ap length (sym none ∙ is) in
    absurd (omega (arith, one, more, empty))

-- ---- it stays the same

pub on_object : (moves : List Move) (client : Client) → (deeds.all_done (client_side moves) client).psm ≡ object_psm → AllOnObject moves client
on_object [] client is = tt
on_object (OfServer one ∷ moves) client is = on_object moves client is
on_object (OfClient deed ∷ moves) client is = (λ works. sym (same_psm (deed ∷ client_side moves) client works) ∙ is, on_object moves (deeds.done deed client) is)
