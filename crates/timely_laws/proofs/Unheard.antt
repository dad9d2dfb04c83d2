-- A channel for whose options its host heard no request, and one of its peer for which that asks.
use Rattle.std.proofs.Common.{◌≡◌, ℕ, List, true, false, Option, Some, None, refl, sym, ap, subst, ◌∙◌}
use Rattle.std.specs.Prelude.{is_some, option_map}
use Rattle.channel_laws.specs.l2cap_config.specs.declared.wish.Mode.{Mode}
use Rattle.channel_laws.specs.link_talk.specs.Channels.{Entry, is_there, reading}
use Rattle.channel_laws.specs.link_talk.specs.Sayings.{Saying}
use Rattle.channel_laws.specs.channel_model.specs.Changing.{held_at, setup_of}
use Rattle.channel_laws.specs.channel_model.specs.Policies.{Policy}
use Rattle.channel_laws.specs.channel_model.specs.Value.{Carrier, Setup, Held}
use Rattle.channel_laws.specs.Pairs.{IsRunOf}
use Rattle.channel_laws.specs.Runs.{Run}
use Rattle.channel_laws.specs.Views.{read_at, carrier_mode}
use Rattle.channel_laws.proofs.Holding.{IsRead, is-read}
use Rattle.channel_laws.proofs.Petitions.{accepted-petitioned}
use Rattle.channel_laws.proofs.Running.{all-sound}
use Rattle.channel_laws.proofs.Sound.{Sound}
use Rattle.configuration_laws.specs.Met.{Remains}
use Rattle.disconnection_laws.specs.Ended.{HasAnsweredEnd, IsEndedFor, AnsweredEndsAreEnded}
use Rattle.staying_laws.specs.forgoing_laws.specs.Forgone.{ForgoesNoEnd}
use Rattle.lateness_laws.specs.Late.{HasHeardOptions}
use Rattle.lateness_laws.specs.Once.{PeersApart}
use Rattle.timely_laws.proofs.Coming.{IsAskingFor}

abbrev pub Unheard : (own : ℕ) → List Saying → Type 0
Unheard own said = (identifier : ℕ) → HasHeardOptions identifier own said → ⊥

pub sound-run : (policy : Policy) (run : Run) → IsRunOf policy run → Sound policy (reading run.said) run.value
sound-run policy run (list, is) = subst (λ (r : Run). Sound policy (reading r.said) r.value) (sym is) (all-sound policy list)

-- so none were accepted
pub carries-none : (policy : Policy) (run : Run) → IsRunOf policy run → (own : ℕ) (held : Held) (setup : Setup) → held_at own run.value ≡ Some held → setup_of held.stage ≡ Some setup → Unheard own run.said → (carrier : Carrier) → setup.carrier ≡ Some carrier → ⊥
carries-none policy run runs own held setup found has none carrier there =
    let r = is-read policy run.said run.value own held setup found has (sound-run policy run runs) in
    let (options, (identifier, flags, heard)) = accepted-petitioned run.said own r.entry r.found (ap (λ (m : Option Mode). is_some m) (r.agrees.set_up.accepted_is ∙ ap (option_map carrier_mode) there)) in
    none identifier (flags, options, heard)

-- ---- the peer's channel

-- it is there, so its host answered no request for the end of it
pub asked-remains : AnsweredEndsAreEnded → (policy : Policy) (run : Run) → IsRunOf policy run → PeersApart run.said → ForgoesNoEnd run.said → (own : ℕ) → IsAskingFor own run.value → Remains own run.said
asked-remains ended policy run runs apart forgoes own asks = record { unanswered = unanswered; not_forgone = λ peer gave. forgoes peer own gave }
  where
    r : IsRead policy run.said asks.other asks.held asks.setup
    r = is-read policy run.said run.value asks.other asks.held asks.setup asks.found asks.setup_is (sound-run policy run runs)

    peer_is : r.entry.channel.peer ≡ own
    peer_is = let both : Some r.peer ≡ Some own = sym r.peer_is ∙ asks.peer_is in let same : r.peer ≡ own = cc in r.here ∙ same

    gone_not : (other : ℕ) (found : Option Entry) → read_at other (reading run.said).entries ≡ found → IsEndedFor own found → ⊥
    gone_not other None at gone = elim gone [ ]
    gone_not other (Some entry) at gone =
        let same : other ≡ asks.other = apart other asks.other entry r.entry at r.found (gone.0 ∙ sym peer_is) in
        let both : Some entry ≡ Some r.entry = sym at ∙ (ap (λ n. read_at n (reading run.said).entries) same ∙ r.found) in
        let one : entry ≡ r.entry = cc in
        let never : true ≡ false = sym r.there ∙ (ap (λ (e : Entry). is_there e.life) (sym one) ∙ gone.1) in
        cc

    unanswered : (identifier other : ℕ) → HasAnsweredEnd identifier other own run.said → ⊥
    unanswered identifier other answered =
        gone_not other (read_at other (reading run.said).entries) refl
        (subst (λ (r : Run). IsEndedFor own (read_at other (reading r.said).entries)) (sym runs.1) (ended policy runs.0 identifier other own (subst (λ (r : Run). HasAnsweredEnd identifier other own r.said) runs.1 answered)).0)
