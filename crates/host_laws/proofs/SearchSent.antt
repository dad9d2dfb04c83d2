-- Where its channels have nothing to give, no request of a client for services waits in its channel.
use Rattle.std.proofs.Common.{◌≡◌, ℕ, List, [], ◌∷◌, Bool, true, false, not, Option, Some, None, refl, sym, ap, ◌∙◌}
use Rattle.shelf_model.specs.bt_base.specs.declared.settings.Settings.{Settings}
use Rattle.shelf_model.specs.l2cap_config.specs.declared.wish.Mode.TheVariants.{Basic, Enhanced}
use Rattle.channel_laws.specs.channel_model.specs.declared.event.ChannelEvent.TheVariants.{Closed, FeaturesLost}
use Rattle.channel_laws.specs.channel_model.specs.Value.{Carrier, Plain, Retransmitting, Setup, Held, Channels}
use Rattle.channel_laws.specs.channel_model.specs.Policies.{policy}
use Rattle.channel_laws.specs.channel_model.specs.Changing.{held_at, is_open, setup_of}
use Rattle.channel_laws.specs.channel_model.specs.Calls.{setup_on, carrier_if, open_carrier, some_waits, waits}
use Rattle.channel_laws.specs.Runs.{Occurrence, Run, run_of}
use Rattle.channel_laws.proofs.Ferrying.{IsBasic}
use Rattle.push_laws.specs.push_model.specs.declared.course.Stage.TheVariants.{Search}
use Rattle.push_laws.specs.push_model.specs.Events.{is_asking_features}
use Rattle.shelf_model.specs.host_model.specs.Clients.{ClientProfile}
use Rattle.host_laws.specs.Leaving.{in_use, is_off}
use Rattle.host_laws.specs.SearchOrder.{IsSent}
use Rattle.host_laws.specs.SearchSent.{SearchesAreSent}
use Rattle.host_laws.proofs.Moving.{quiet-none_waits}
use Rattle.host_laws.proofs.OneChannel.{notes}
use Rattle.host_laws.proofs.Plain.{plain_carrier, plain_setup, plain_at, NoPlain}
use Rattle.host_laws.proofs.Querying.{awaited}
use Rattle.host_laws.proofs.Searching.{OnSearch, Of, of_at}
use Rattle.host_laws.proofs.SearchingOn.{has_one, one_basic}
use Rattle.host_laws.proofs.SearchingTold.{Sees, Off, Doomed, Well}
use Rattle.host_laws.proofs.SearchingWeave.{searches_see}
use Rattle.host_laws.proofs.StandingClients.{Clean, Shut, Missed}

-- a channel in basic mode in which no SDU waits
none_waits : (own : ℕ) (v : Channels) → IsBasic own v → plain_at (held_at own v) ≡ false → waits own v ≡ false
none_waits own v basic plain = by (held_at own v) refl plain
  where
    carried : (held : Held) (setup : Setup) (carrier : Option Carrier) → held_at own v ≡ Some held → setup_of held.stage ≡ Some setup → setup.carrier ≡ carrier → plain_carrier carrier ≡ false → some_waits carrier ≡ false
    carried held setup None at has is none = refl
    carried held setup (Some (Plain agreed None)) at has is none = refl
    carried held setup (Some (Plain agreed (Some sdu))) at has is none = cc
    carried held setup (Some (Retransmitting machine)) at has is none = let never : Enhanced ≡ Basic = basic held setup (Retransmitting machine) at has is in absurd cc

    opened : (held : Held) (setup : Setup) (b : Bool) → held_at own v ≡ Some held → setup_of held.stage ≡ Some setup → plain_carrier setup.carrier ≡ false → some_waits (carrier_if b setup) ≡ false
    opened held setup true at has none = carried held setup setup.carrier at has refl none
    opened held setup false at has none = refl

    on : (held : Held) (found : Option Setup) → held_at own v ≡ Some held → setup_of held.stage ≡ found → plain_setup found ≡ false → some_waits (open_carrier found) ≡ false
    on held None at has none = refl
    on held (Some setup) at has none = opened held setup (is_open setup) at has none

    by : (found : Option Held) → held_at own v ≡ found → plain_at found ≡ false → some_waits (open_carrier (setup_on found)) ≡ false
    by None at none = refl
    by (Some held) at none = on held (setup_of held.stage) at refl none

not_on : (b : Bool) → not b ≡ true → b ≡ false
not_on true is = cc
not_on false is = refl

same_some : (a b : ℕ) → Some a ≡ Some b → a ≡ b
same_some a b is = cc

module _ (settings : Settings) (list : List Occurrence) (last : ClientProfile) where
  abbrev run : Run
  run = run_of (policy settings false) list

  sent_by : (one : Held) (submitted : Option ℕ) → last.submitted ≡ submitted → waits one.own run.value ≡ false → OnSearch (policy settings false) last.endpoints last.submitted true (not last.client.given) true (awaited last.client.query) run one
      → IsSent submitted run.value last.client.given
  sent_by one None none free is = not_on last.client.given (is.settled refl none)
  sent_by one (Some own) sent free is = ap (λ n. waits n run.value) (is.submits own sent) ∙ free

  at_search : NoPlain run.value → Clean last.client run.value → Of (policy settings false) last.endpoints last.submitted run last.client → last.client.stage ≡ Search → IsSent last.submitted run.value last.client.given
  at_search plain clean so at =
      let (asking, one, held_is, is) = of_at (policy settings false) last.endpoints last.submitted run Search last.client at so in
      let has = has_one last.client run.value one (ap is_asking_features at) held_is clean in
      let psm_is : one.psm ≡ 0x0001 = ap (λ (h : Held). h.psm) (sym has.is) ∙ (has.live.psm_is ∙ same_some has.psm 0x0001 (sym has.uses.used ∙ ap (λ s. in_use s last.client.psm) at)) in
      sent_by one last.submitted refl (none_waits one.own run.value (one_basic settings list one held_is psm_is) (plain one.own)) is

pub searches_are_sent : SearchesAreSent
searches_are_sent settings asks list first last as_steps on calm none quiet at = by (searches_see settings asks as_steps list first last on)
  where
    run' : Run
    run' = run_of (policy settings false) list

    by : Sees settings last run' → IsSent last.submitted run'.value last.client.given
    by (Off off) = let never : false ≡ true = sym (ap is_off at) ∙ off in absurd cc
    by (Doomed (Shut own psm reason more used why told)) = let never : [] ≡ Closed own psm reason ∷ more = ap notes (sym none) ∙ told in absurd cc
    by (Doomed (Missed asks' (more, told))) = let never : [] ≡ FeaturesLost ∷ more = ap notes (sym none) ∙ told in absurd cc
    by (Well clean so) = at_search settings list last (quiet-none_waits (policy settings false) list calm quiet) clean so at
