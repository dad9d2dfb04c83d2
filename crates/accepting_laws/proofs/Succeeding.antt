-- A request for options succeeds where it comes in time, between two hosts that wish the same.
use Rattle.std.proofs.Common.{◌≡◌, ℕ, List, Option, Some, None, refl, sym, ap, subst, ◌∙◌}
use Rattle.channel_laws.specs.l2cap_config.specs.Writing.{written}
use Rattle.channel_laws.specs.l2cap_signal.specs.Commands.{configuration_request, configuration_response}
use Rattle.channel_laws.specs.link_talk.specs.declared.channel.Channel.{Channel}
use Rattle.channel_laws.specs.link_talk.specs.Channels.{Entry, reading}
use Rattle.channel_laws.specs.channel_model.specs.Answers.{answer_to}
use Rattle.channel_laws.specs.channel_model.specs.Asking.{first_options}
use Rattle.channel_laws.specs.channel_model.specs.Policies.{Policy}
use Rattle.channel_laws.specs.channel_model.specs.Value.{Channels}
use Rattle.channel_laws.specs.Belonging.{AreRead, said_at}
use Rattle.channel_laws.specs.Endpoints.{IsOf}
use Rattle.channel_laws.specs.Pairs.{Side, Near, Far, turned, Turn, pair_of, IsRunOf}
use Rattle.channel_laws.specs.Runs.{Run}
use Rattle.channel_laws.specs.Views.{read_at}
use Rattle.channel_laws.proofs.Pairing.{each-end_runs}
use Rattle.channel_laws.proofs.Running.{all-sound}
use Rattle.channel_laws.proofs.Sharing.{psms-same}
use Rattle.channel_laws.proofs.Sound.{ReadsBy, Reads, Sound}
use Rattle.accepting_laws.specs.Accepted.{AwaitsOptions, CanBeAccepted}
use Rattle.accepting_laws.specs.First.{IsForFirst}
use Rattle.accepting_laws.specs.InTime.{OptionsInTimeSucceed}
use Rattle.accepting_laws.proofs.Accepting.{first-options_succeed}
use Rattle.accepting_laws.proofs.Coming.{first-options_are_under_way}

-- a channel that awaits options is read, with its PSM
entry_of : (policy : Policy) (run : Run) → IsRunOf policy run → (own peer psm : ℕ) → AwaitsOptions own peer psm run.value → (entry : Entry) × (read_at own (reading run.said).entries ≡ Some entry) × (entry.channel.psm ≡ psm)
entry_of policy run (list, is) own peer psm awaits = by (read_at own (reading run.said).entries) refl reads
  where
    sound : Sound policy (reading run.said) run.value
    sound = subst (λ (r : Run). Sound policy (reading r.said) r.value) (sym is) (all-sound policy list)

    reads : ReadsBy policy awaits.held (Some peer) (read_at own (reading run.said).entries)
    reads = subst (λ p. ReadsBy policy awaits.held p (read_at own (reading run.said).entries)) awaits.peer_is (subst (λ h. Reads policy h (read_at own (reading run.said).entries)) awaits.found (sound.core.reads own))

    by : (found : Option Entry) → read_at own (reading run.said).entries ≡ found → ReadsBy policy awaits.held (Some peer) found → (entry : Entry) × (read_at own (reading run.said).entries ≡ Some entry) × (entry.channel.psm ≡ psm)
    by None found reads = elim reads [ ]
    by (Some entry) found (there, agrees) = (entry, found, ap (λ (c : Channel). c.psm) there.channel_is ∙ awaits.psm_is)

-- it is the same at both ends
same_psm : (near far : Policy) (turns : List Turn) → AreRead near far turns → (side : Side) (own : ℕ) (one : Entry) → read_at own (reading (said_at side (pair_of near far turns))).entries ≡ Some one
    → (other : ℕ) (channel : Channel) → IsOf channel (read_at other (reading (said_at side (turned (pair_of near far turns)))).entries) → channel.peer ≡ own → channel.psm ≡ one.channel.psm
same_psm near far turns read side own one found other channel has to = by (read_at other (reading (said_at side (turned (pair_of near far turns)))).entries) refl has
  where
    by : (x : Option Entry) → read_at other (reading (said_at side (turned (pair_of near far turns)))).entries ≡ x → IsOf channel x → channel.psm ≡ one.channel.psm
    by None at is = elim is [ ]
    by (Some x) at is = sym (ap (λ (c : Channel). c.psm) is) ∙ psms-same near far turns read side own other one x found at (ap (λ (c : Channel). c.peer) is ∙ to)

answers_so : (asker other : Policy) (own peer psm flags : ℕ) (options : List ℕ) (v : Channels) → AwaitsOptions own peer psm v → asker.wish psm ≡ other.wish psm → CanBeAccepted (other.wish psm) → flags ≡ 0 → options ≡ written (first_options (asker.wish psm))
    → (given : List ℕ) × (answer_to other (configuration_request own flags options) v ≡ Some (configuration_response peer 0 0 given))
answers_so asker other own peer psm flags options v awaits same can whole octets =
    let (given, so) = first-options_succeed other own peer psm v awaits can in
    (given, ap (λ f. answer_to other (configuration_request own f options) v) whole ∙ (ap (λ o. answer_to other (configuration_request own 0 o) v) (octets ∙ ap (λ w. written (first_options w)) same) ∙ so))

pub options-in_time_succeed : OptionsInTimeSucceed
options-in_time_succeed near far turns read same Near none pdu identifier own flags options stands signals is peer psm awaits =
    let first : IsForFirst near (said_at Near (pair_of near far turns)) own flags options = first-options_are_under_way near far turns read Near none pdu identifier own flags options stands signals is in
    let (entry, found, psm_is) = entry_of far (pair_of near far turns).far.run (each-end_runs near far turns).1 own peer psm awaits in
    let one : first.channel.psm ≡ psm = same_psm near far turns read Far own entry found first.own first.channel first.has first.peer_is ∙ psm_is in
    let (wish, can) = same psm in
    answers_so near far own peer psm flags options (pair_of near far turns).far.run.value awaits wish (subst CanBeAccepted wish can) first.flags_are (first.octets_are ∙ ap (λ n. written (first_options (near.wish n))) one)
options-in_time_succeed near far turns read same Far none pdu identifier own flags options stands signals is peer psm awaits =
    let first : IsForFirst far (said_at Far (pair_of near far turns)) own flags options = first-options_are_under_way near far turns read Far none pdu identifier own flags options stands signals is in
    let (entry, found, psm_is) = entry_of near (pair_of near far turns).near.run (each-end_runs near far turns).0 own peer psm awaits in
    let one : first.channel.psm ≡ psm = same_psm near far turns read Near own entry found first.own first.channel first.has first.peer_is ∙ psm_is in
    let (wish, can) = same psm in
    answers_so far near own peer psm flags options (pair_of near far turns).near.run.value awaits (sym wish) can first.flags_are (first.octets_are ∙ ap (λ n. written (first_options (far.wish n))) one)
