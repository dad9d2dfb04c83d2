-- Each request for the options of a channel that is under way is that which the peer heard, while nothing else is suggested.
use Rattle.std.proofs.Common.{◌≡◌, ℕ, List, [], ◌∷◌, ◌++◌, false, true, Some, refl, sym, ap, subst, ◌∙◌, ◌⊎◌, inl, inr}
use Rattle.std.specs.Prelude.{find}
use Rattle.channel_laws.specs.l2cap_config.specs.Writing.{written}
use Rattle.channel_laws.specs.l2cap_signal.specs.Commands.{Command, configuration_request}
use Rattle.channel_laws.specs.channel_model.specs.Changing.{has_own}
use Rattle.channel_laws.specs.channel_model.specs.Giving.{Given, next_given}
use Rattle.channel_laws.specs.channel_model.specs.Policies.{Policy}
use Rattle.channel_laws.specs.channel_model.specs.Value.{Answer}
use Rattle.channel_laws.specs.channel_model.proofs.Lookups.{own_of, found-has}
use Rattle.channel_laws.specs.Belonging.{IsReadAs}
use Rattle.channel_laws.specs.OwnTalk.{command_with}
use Rattle.channel_laws.specs.Pairs.{End, new_end}
use Rattle.channel_laws.specs.Runs.{Occurrence, new_link, run_of}
use Rattle.channel_laws.specs.Signals.{StandsIn}
use Rattle.channel_laws.proofs.Running.{all-sound}
use Rattle.channel_laws.proofs.Saying.{stands-either}
use Rattle.configuration_laws.proofs.Asking.{IsAsked, Brings, given-is}
use Rattle.configuration_laws.proofs.Leaving.{answers-respond}
use Rattle.accepting_laws.proofs.Turning.{Sent, OfSender, Sends, turns-send}
use Rattle.lateness_laws.specs.Once.{OptionsAreAskedOnce}
use Rattle.lateness_laws.proofs.Sending.{Requests, InvAt, inv-occurs, Waits, inv-sends}

-- the requests for options that were sent to an end
abbrev Wishes : End → Requests
Wishes end' identifier peer = (flags : ℕ) × (options : List ℕ) × Sent end' (command_with identifier (configuration_request peer flags options))

abbrev Once : OfSender
Once run end' = InvAt (Wishes end') run

-- what a host gives waits
waits : (policy : Policy) (list : List Occurrence) (given : Given) (pdu : List ℕ) → next_given (run_of policy list).value ≡ Some given → IsReadAs (Some given) pdu → (identifier peer flags : ℕ) (options : List ℕ) → Brings pdu (command_with identifier (configuration_request peer flags options))
    → Waits (run_of policy list).value identifier peer
waits policy list given pdu is read identifier peer flags options brings = by (given-is (run_of policy list).value given pdu is read asks brings)
  where
    asks : Command
    asks = command_with identifier (configuration_request peer flags options)

    by : StandsIn (Answer asks) (run_of policy list).value.queue ⊎ IsAsked (run_of policy list).value asks → Waits (run_of policy list).value identifier peer
    by (inl answer) = let never : false ≡ true = answers-respond policy (run_of policy list) (list, refl) asks answer in absurd cc
    by (inr asked) =
        let (own, it) = asked.wish (peer, flags, options, refl) in
        let content : configuration_request peer flags options ≡ configuration_request it.asking.peer 0 (written it.asking.options) = it.asking.content_is in
        let same : peer ≡ it.asking.peer = cc in record {
          held = it.held;
          found = subst (λ n. find (has_own n) (run_of policy list).value.held ≡ Some it.held) (sym (found-has own_of own (run_of policy list).value.held it.held it.found)) it.found;
          to = it.asking.to ∙ ap Some (sym same);
          asks = it.asking.asked;
        }

once-sends : (policy : Policy) → Sends policy Once
once-sends policy = record {
  occurs = λ list one peer inv. inv-occurs policy (Wishes peer) list one inv;
  gives = gives;
  less = λ list before after less inv none apart.
      inv-sends policy (Wishes before) (Wishes after) (run_of policy list).said (run_of policy list).value (all-sound policy list) apart (λ identifier peer sent. inl (sent.0, sent.1, less.sent _ sent.2)) (inv none apart);
}
  where
    gives : (list : List Occurrence) (end' : End) (given : Given) (pdu : List ℕ) → next_given (run_of policy list).value ≡ Some given → IsReadAs (Some given) pdu → Once (run_of policy list) end' → Once (run_of policy list) (record end' { coming = end'.coming ++ pdu ∷ [] })
    gives list end' given pdu is read inv none apart = inv-sends policy (Wishes end') (Wishes after) (run_of policy list).said (run_of policy list).value (all-sound policy list) apart sends (inv none apart)
      where
        after : End
        after = record end' { coming = end'.coming ++ pdu ∷ [] }

        sends : (identifier peer : ℕ) → Wishes after identifier peer → Wishes end' identifier peer ⊎ Waits (run_of policy list).value identifier peer
        sends identifier peer (flags, options, inl heard) = inl (flags, options, inl heard)
        sends identifier peer (flags, options, inr (other, stands, brings)) = by (stands-either other end'.coming (pdu ∷ []) stands)
          where
            by : StandsIn other end'.coming ⊎ StandsIn other (pdu ∷ []) → Wishes end' identifier peer ⊎ Waits (run_of policy list).value identifier peer
            by (inl old) = inl (flags, options, inr (other, old, brings))
            by (inr (inl same)) = inr (waits policy list given pdu is read identifier peer flags options (subst (λ p. Brings p (command_with identifier (configuration_request peer flags options))) (sym same) brings))
            by (inr (inr never)) = elim never [ ]

begins : (policy other : Policy) → Once new_link (new_end other)
begins policy other none apart = record { all = tt; once = λ identifier also peer sent more. absurd (never identifier peer sent); reads = λ identifier peer sent. absurd (never identifier peer sent) }
  where
    never : (identifier peer : ℕ) → Wishes (new_end other) identifier peer → ⊥
    never identifier peer (flags, options, inl heard) = heard
    never identifier peer (flags, options, inr (pdu, stands, brings)) = stands

pub options-are_asked_once : OptionsAreAskedOnce
options-are_asked_once near far turns read side none apart own earlier identifier (flags, options, heard) (pdu, flags', options', stands, signals, brings) =
    (turns-send (λ policy. Once) once-sends begins near far turns read side none apart).once earlier identifier own (flags, options, inl heard) (flags', options', inr (pdu, stands, (signals, brings)))
