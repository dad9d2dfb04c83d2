-- What is under way to a host of requests for the options of a channel, as something happens.
use Rattle.std.proofs.Common.{◌≡◌, ℕ, List, [], ◌∷◌, Bool, true, false, cond, Some, None, Option, refl, sym, ap, subst, ◌∙◌, ◌⊎◌, inl, inr}
use Rattle.channel_laws.specs.l2cap_config.specs.Writing.{written}
use Rattle.channel_laws.specs.l2cap_signal.specs.Commands.{Command, configuration_request}
use Rattle.channel_laws.specs.channel_model.specs.Changing.{held_at, setup_of}
use Rattle.channel_laws.specs.channel_model.specs.Giving.{Given, next_given}
use Rattle.channel_laws.specs.channel_model.specs.Value.{Answer, Stage, Requested, Connected, Leaving, Closing, Crossed, Setup, Held, Channels}
use Rattle.channel_laws.specs.Belonging.{IsReadAs, IsRead}
use Rattle.channel_laws.specs.OwnTalk.{command_with}
use Rattle.channel_laws.specs.Pairs.{Pair, Happening, Acts, Puts, Takes, Repeats, Loses, Damages, is_alone, occurs, with_near, puts, happens_near}
use Rattle.channel_laws.specs.Signals.{StandsIn}
use Rattle.channel_laws.specs.Views.{peer_of}
use Rattle.channel_laws.proofs.Demanding.{asked_at}
use Rattle.channel_laws.proofs.Replying.{is_response}
use Rattle.channel_laws.proofs.Saying.{stands-either}
use Rattle.channel_laws.proofs.UnderWay.{AllPlainly}
use Rattle.configuration_laws.proofs.Asking.{IsAsked, Brings, given-is, Asks}
use Rattle.accepting_laws.proofs.Turning.{near-less}
use Rattle.lateness_laws.specs.Late.{AreUnderWay}

-- ---- to the end where it happens

-- it was so before
pub under-before : (pair : Pair) (happening : Happening) → AllPlainly pair.near.coming → IsRead happening pair.near → (identifier own : ℕ) → AreUnderWay identifier own (happens_near happening pair).near.coming → AreUnderWay identifier own pair.near.coming
under-before pair happening plain read identifier own (pdu, flags, options, stands, signals, reads) =
    (pdu, flags, options, (near-less pair (λ other here signal. let (command, is, decisive) = plain other here signal in (command, is)) happening read).coming pdu stands, signals, reads)

-- ---- to the other end

-- a host asks for the options of a channel that it has, which its peer has with this endpoint
pub record IsAskingFor (own : ℕ) (v : Channels) : Type 0 where
  pub other : ℕ
  pub held : Held
  pub setup : Setup
  pub found : held_at other v ≡ Some held
  pub peer_is : peer_of held.stage ≡ Some own
  pub setup_is : setup_of held.stage ≡ Some setup

asking_setup : (stage : Stage) (n : ℕ) → asked_at stage ≡ Some (Some n) → (setup : Setup) × (setup_of stage ≡ Some setup)
asking_setup (Requested request) n is = cc
asking_setup (Connected peer setup) n is = (setup, refl)
asking_setup (Leaving peer setup request) n is = (setup, refl)
asking_setup (Closing peer request checked) n is = cc
asking_setup (Crossed peer request) n is = cc

asks_for : (own other identifier flags : ℕ) (options : List ℕ) (v : Channels) → Asks other v (command_with identifier (configuration_request own flags options)) → IsAskingFor own v
asks_for own other identifier flags options v asks =
    let (setup, has) = asking_setup asks.held.stage identifier asks.asking.asked in
    let content : configuration_request own flags options ≡ configuration_request asks.asking.peer 0 (written asks.asking.options) = asks.asking.content_is in
    let same : asks.asking.peer ≡ own = cc in
    record { other = other; held = asks.held; setup = setup; found = asks.found; peer_is = asks.asking.to ∙ ap Some same; setup_is = has }

-- it was so before, or the end where it happens asks so
pub under-or_asked : (pair : Pair) (happening : Happening) → IsRead happening pair.near → ((command : Command) → StandsIn (Answer command) pair.near.run.value.queue → is_response command.content ≡ true) → (identifier own : ℕ)
    → AreUnderWay identifier own (happens_near happening pair).far.coming → AreUnderWay identifier own pair.far.coming ⊎ IsAskingFor own pair.near.run.value
under-or_asked pair (Acts one) read responses identifier own = by (is_alone one)
  where
    by : (alone : Bool) → AreUnderWay identifier own (cond alone (with_near (occurs one pair.near) pair) pair).far.coming → AreUnderWay identifier own pair.far.coming ⊎ IsAskingFor own pair.near.run.value
    by true under = inl under
    by false under = inl under
under-or_asked pair (Puts pdu) read responses identifier own = by (next_given pair.near.run.value) refl read
  where
    asked : (given : Given) → next_given pair.near.run.value ≡ Some given → IsReadAs (Some given) pdu → (flags : ℕ) (options : List ℕ) → Brings pdu (command_with identifier (configuration_request own flags options)) → IsAskingFor own pair.near.run.value
    asked given is reads flags options brings = either (given-is pair.near.run.value given pdu is reads command brings)
      where
        command : Command
        command = command_with identifier (configuration_request own flags options)

        either : StandsIn (Answer command) pair.near.run.value.queue ⊎ IsAsked pair.near.run.value command → IsAskingFor own pair.near.run.value
        either (inl answer) = let never : false ≡ true = responses command answer in absurd cc
        either (inr asks) = let (other, it) = asks.wish (own, flags, options, refl) in asks_for own other identifier flags options pair.near.run.value it

    by : (given : Option Given) → next_given pair.near.run.value ≡ given → IsReadAs given pdu → AreUnderWay identifier own (puts given pdu pair).far.coming → AreUnderWay identifier own pair.far.coming ⊎ IsAskingFor own pair.near.run.value
    by None is reads under = inl under
    by (Some given) is reads (other, flags, options, stands, signals, brought) = either (stands-either other pair.far.coming (pdu ∷ []) stands)
      where
        either : StandsIn other pair.far.coming ⊎ StandsIn other (pdu ∷ []) → AreUnderWay identifier own pair.far.coming ⊎ IsAskingFor own pair.near.run.value
        either (inl old) = inl (other, flags, options, old, signals, brought)
        either (inr (inr none)) = elim none [ ]
        either (inr (inl same)) = inr (asked given is reads flags options (subst (λ p. Brings p (command_with identifier (configuration_request own flags options))) (sym same) (signals, brought)))
under-or_asked pair Takes read responses identifier own = λ under. inl under
under-or_asked pair Repeats read responses identifier own = λ under. inl under
under-or_asked pair Loses read responses identifier own = λ under. inl under
under-or_asked pair (Damages other) read responses identifier own = λ under. inl under
