-- A channel on which anything came is in the mode that its host wishes of it.
use Rattle.std.proofs.Common.{◌≡◌, ℕ, List, [], ◌∷◌, ◌++◌, map, drop, Bool, true, false, cond, eqb, Option, Some, None, refl, sym, ap, subst, ◌∙◌, ◌⊎◌, inl, inr, append_assoc}
use Rattle.std.specs.Prelude.{is_some, option_map}
use Rattle.std.proofs.lemmas.Bool.{and_parts}
use Rattle.request_laws.specs.acl_fragments.specs.Pieces.{channel_of}
use Rattle.request_laws.specs.capture.specs.declared.flow.Flow.TheVariants.{Into}
use Rattle.request_laws.specs.l2cap_signal.specs.Reading.{answers}
use Rattle.request_laws.specs.l2cap_config.specs.declared.wish.Wish.{Wish}
use Rattle.request_laws.specs.link_talk.specs.declared.channel.Channel.{Channel}
use Rattle.request_laws.specs.link_talk.specs.declared.party.Party.{Party}
use Rattle.request_laws.specs.link_talk.specs.Carriages.{is_heard, entry_mode, mode_of}
use Rattle.request_laws.specs.link_talk.specs.Channels.{Entry, is_alive, reading}
use Rattle.request_laws.specs.link_talk.specs.GrowingLaws.{has_opened, HasOpened}
use Rattle.request_laws.specs.link_talk.specs.Sayings.{Saying, Carried}
use Rattle.request_laws.specs.link_talk.specs.Sdus.{sdus}
use Rattle.request_laws.specs.link_talk.specs.Setups.{is_set}
use Rattle.request_laws.specs.channel_model.specs.Calls.{carrier_at, connected, asks_features, disconnected}
use Rattle.request_laws.specs.channel_model.specs.Carrying.{takes}
use Rattle.request_laws.specs.channel_model.specs.Changing.{held_at}
use Rattle.request_laws.specs.channel_model.specs.Giving.{Given, Signal, Whole, Framed, next_given}
use Rattle.request_laws.specs.channel_model.specs.Policies.{Policy}
use Rattle.request_laws.specs.channel_model.specs.Telling.{is_told_closed}
use Rattle.request_laws.specs.channel_model.specs.Value.{Carrier, Plain, Retransmitting, Setup, Stage, Requested, Connected, Leaving, Closing, Crossed, Held}
use Rattle.request_laws.specs.channel_laws.specs.Endpoints.{IsOf}
use Rattle.request_laws.specs.channel_laws.specs.OwnTalk.{asked_between, said_with_all}
use Rattle.request_laws.specs.channel_laws.specs.Runs.{Occurrence, Comes, Connects, AsksFeatures, Disconnects, Sends, Gives, Fires, Tells, peer_at, said_by_carrier, said_as, said_in, Run, run_on, run_of, arisen}
use Rattle.request_laws.specs.channel_laws.specs.Views.{peer_of, life_of, carrier_mode, standing, read_at}
use Rattle.request_laws.specs.channel_laws.proofs.Carriages.{into-else}
use Rattle.request_laws.specs.channel_laws.proofs.Incoming.{before_comes}
use Rattle.request_laws.specs.channel_laws.proofs.Receiving.{mode-by}
use Rattle.request_laws.specs.channel_laws.proofs.Running.{IsSound, along}
use Rattle.request_laws.specs.channel_laws.proofs.Signalling.{bare-asked, bare-left, bare-with_all, bare-fired, bare-comes}
use Rattle.request_laws.specs.channel_laws.proofs.Sound.{CarrierIs, Agrees, AgreesIf, Reads, ReadsBy}
use Rattle.request_laws.specs.channel_laws.proofs.Stretching.{NoneComes, opens, nothing-heard, stays-heard}
use Rattle.request_laws.specs.channel_laws.proofs.Telling.{StageTold, HeldTold, RunTold, one_told, nothing_told}
use Rattle.orderly_laws.proofs.Moments.{of-stays, stands}

-- its talk has a channel at that endpoint, which has opened in the mode that its host wishes
pub record IsWished (policy : Policy) (one : Channel) (said : List Saying) : Type 0 where
  pub channel : Channel
  pub of : IsOf channel (read_at one.own (reading said).entries)
  pub opened : HasOpened one said
  pub mode_is : mode_of one said ≡ (policy.wish channel.psm).mode

pub stays-wished : (policy : Policy) (one : Channel) (said more : List Saying) → IsWished policy one said → IsWished policy one (said ++ more)
stays-wished policy one said more wished =
    let later = stands one said more wished.opened in record { channel = wished.channel; of = of-stays wished.channel one.own said more wished.of; opened = later.opened; mode_is = later.mode_is ∙ wished.mode_is }

-- ---- one that is open

some_of : {X Y : Type 0} (f : X → Y) (found : Option X) (other : Option Y) → other ≡ option_map f found → is_some other ≡ true → (x : X) × (found ≡ Some x)
some_of f None other is some = let never : false ≡ true = sym (ap is_some is) ∙ some in absurd cc
some_of f (Some x) other is some = (x, refl)

module _ (policy : Policy) (party : Party) (one : Channel) where
  abbrev entries_of : Run → List Entry
  entries_of run = (reading run.said).entries

  open_wished : (run : Run) (held : Held) (peer : ℕ) (setup : Setup) (entry : Entry) (closed : Bool) → read_at one.own (reading run.said).entries ≡ Some entry → entry.channel.psm ≡ held.psm → Agrees (policy.wish held.psm) setup entry.setup → StageTold (Connected peer setup) closed → is_set entry.setup ≡ true
      → IsWished policy one run.said
  open_wished run held peer setup entry closed at psm agrees told set =
      let wish : Wish = policy.wish held.psm in
      let (carrier, carries) = some_of carrier_mode setup.carrier entry.setup.accepted agrees.set_up.accepted_is (and_parts (is_some entry.setup.asked) (is_some entry.setup.accepted) set).1 in
      record {
        channel = entry.channel;
        of = subst (IsOf entry.channel) (sym at) refl;
        opened = ap has_opened at ∙ set;
        mode_is = ap entry_mode at ∙ (mode-by wish setup entry.setup carrier agrees carries (told.0 (ap is_some carries)) ∙ (subst (CarrierIs wish) carries agrees.carrier_is ∙ ap (λ (n : ℕ). (policy.wish n).mode) (sym psm)));
      }

  staged_wished : (run : Run) (held : Held) (stage : Stage) (entry : Entry) (closed : Bool) → held.stage ≡ stage → read_at one.own (reading run.said).entries ≡ Some entry → ReadsBy policy held (peer_of stage) (Some entry) → StageTold stage closed → is_set entry.setup ≡ true → is_alive entry.life ≡ true → IsWished policy one run.said
  staged_wished run held (Requested request) entry closed is at reads told set alive = elim reads [ ]
  staged_wished run held (Connected peer setup) entry closed is at (there, agrees) told set alive =
      open_wished run held peer setup entry closed at (ap (λ (c : Channel). c.psm) there.channel_is) (subst (λ (s : Stage). AgreesIf (policy.wish held.psm) (standing s) entry.setup) is agrees) told set
  staged_wished run held (Leaving peer setup request) entry closed is at reads told set alive = let never : false ≡ true = sym (ap is_alive (reads.0.life_is ∙ ap life_of is)) ∙ alive in absurd cc
  staged_wished run held (Closing peer request checked) entry closed is at reads told set alive = let never : false ≡ true = sym (ap is_alive (reads.0.life_is ∙ ap life_of is)) ∙ alive in absurd cc
  staged_wished run held (Crossed peer request) entry closed is at reads told set alive = let never : false ≡ true = sym (ap is_alive (reads.0.life_is ∙ ap life_of is)) ∙ alive in absurd cc

  found_wished : (run : Run) (found : Option Held) (entry : Entry) (closed : Bool) → read_at one.own (reading run.said).entries ≡ Some entry → Reads policy found (Some entry) → HeldTold found closed → is_set entry.setup ≡ true → is_alive entry.life ≡ true → IsWished policy one run.said
  found_wished run None entry closed at reads told set alive = let never : false ≡ true = sym (ap is_alive reads) ∙ alive in absurd cc
  found_wished run (Some held) entry closed at reads told set alive = staged_wished run held held.stage entry closed refl at reads told set alive

  opens_wished : (run : Run) → IsSound policy run → RunTold run → opens (read_at one.own (reading run.said).entries) ≡ true → IsWished policy one run.said
  opens_wished run sound told open' = by (read_at one.own (entries_of run)) refl open'
    where
      by : (found : Option Entry) → read_at one.own (entries_of run) ≡ found → opens found ≡ true → IsWished policy one run.said
      by None at is = cc
      by (Some entry) at is =
          let parts = and_parts (is_set entry.setup) (is_alive entry.life) is in
          found_wished run (held_at one.own run.value) entry (is_told_closed one.own (arisen run)) at (subst (λ (e : Option Entry). Reads policy (held_at one.own run.value) e) at (sound.core.reads one.own)) (told.at one.own) parts.0 parts.1

  -- ---- one thing more happens

  -- nothing came on it, or it is in that mode
  abbrev pub NoneOrWished : List Saying → Type 0
  NoneOrWished said = (sdus party one Into said ≡ []) ⊎ IsWished policy one said

  quiet : (said more : List Saying) → NoneComes more → NoneOrWished said → NoneOrWished (said ++ more)
  quiet said more none (inl nothing) = inl ((stays-heard party one more said none).sdus_are ∙ nothing)
  quiet said more none (inr wished) = inr (stays-wished policy one said more wished)

  comes_on : (run : Run) (pdu : List ℕ) → IsSound policy run → RunTold run → NoneOrWished run.said → NoneOrWished (run.said ++ Carried Into pdu ∷ [])
  comes_on run pdu sound told (inr wished) = inr (stays-wished policy one run.said (Carried Into pdu ∷ []) wished)
  comes_on run pdu sound told (inl nothing) = by (eqb (channel_of pdu) one.own) refl (opens (read_at one.own (entries_of run))) refl
    where
      by : (here : Bool) → eqb (channel_of pdu) one.own ≡ here → (open' : Bool) → opens (read_at one.own (entries_of run)) ≡ open' → NoneOrWished (run.said ++ Carried Into pdu ∷ [])
      by false away open' is = inl ((nothing-heard party one run.said (Carried Into pdu) (into-else is_heard one run.said pdu away)).sdus_are ∙ nothing)
      by true here false shut = inl (((before_comes policy party one run pdu sound here).passes shut).1 ∙ nothing)
      by true here true open' = inr (stays-wished policy one run.said (Carried Into pdu ∷ []) (opens_wished run sound told open'))

  no_carrier : (carrier : Option Carrier) (peer : ℕ) (sdu : List ℕ) → NoneComes (said_by_carrier carrier peer sdu)
  no_carrier None peer sdu = refl
  no_carrier (Some (Plain agreed None)) peer sdu = refl
  no_carrier (Some (Plain agreed (Some waiting))) peer sdu = refl
  no_carrier (Some (Retransmitting machine)) peer sdu = refl

  no_given : (given : Option Given) (pdu : List ℕ) → NoneComes (said_as given pdu)
  no_given None pdu = refl
  no_given (Some (Signal command)) pdu = refl
  no_given (Some (Whole peer sdu)) pdu = refl
  no_given (Some (Framed peer frame)) pdu = refl

  one_more : (run : Run) (more : Occurrence) → IsSound policy run → RunTold run → NoneOrWished run.said → NoneOrWished (run.said ++ said_in policy more run.value)
  one_more run (Comes pdu) sound told so = by (eqb (channel_of pdu) 0x0001)
    where
      asked : List Saying
      asked = asked_between run.value (takes (channel_of pdu) pdu run.value)

      by : (signals : Bool) → NoneOrWished (run.said ++ cond signals (said_with_all policy (answers (drop 4 pdu)) run.value) (Carried Into pdu ∷ asked))
      by true = quiet run.said (said_with_all policy (answers (drop 4 pdu)) run.value) (bare-comes (said_with_all policy (answers (drop 4 pdu)) run.value) (bare-with_all policy (answers (drop 4 pdu)) run.value)) so
      by false =
          subst NoneOrWished (append_assoc run.said (Carried Into pdu ∷ []) asked)
          (quiet (run.said ++ Carried Into pdu ∷ []) asked (bare-comes asked (bare-asked run.value (takes (channel_of pdu) pdu run.value))) (comes_on run pdu sound told so))
  one_more run (Connects psm) sound told so = quiet run.said (said_in policy (Connects psm) run.value) (bare-comes (said_in policy (Connects psm) run.value) (bare-asked run.value (connected psm run.value))) so
  one_more run AsksFeatures sound told so = quiet run.said (said_in policy AsksFeatures run.value) (bare-comes (said_in policy AsksFeatures run.value) (bare-asked run.value (asks_features run.value))) so
  one_more run (Disconnects own) sound told so = quiet run.said (said_in policy (Disconnects own) run.value) (bare-comes (said_in policy (Disconnects own) run.value) (bare-left own run.value (disconnected own run.value))) so
  one_more run (Sends own sdu) sound told so = quiet run.said (said_in policy (Sends own sdu) run.value) (no_carrier (carrier_at own run.value) (peer_at (held_at own run.value)) sdu) so
  one_more run (Gives pdu) sound told so = quiet run.said (said_in policy (Gives pdu) run.value) (no_given (next_given run.value) pdu) so
  one_more run Fires sound told so = quiet run.said (said_in policy Fires run.value) (bare-comes (said_in policy Fires run.value) (bare-fired policy.tries (map (λ (held : Held). held.own) run.value.held) run.value)) so
  one_more run Tells sound told so = quiet run.said [] refl so

  record IsKnown (run : Run) : Type 0 where
    told : RunTold run
    so : NoneOrWished run.said

  known_more : (run : Run) (more : Occurrence) → IsSound policy run → IsKnown run → IsKnown (run_on policy run more)
  known_more run more sound known = record { told = one_told policy run more sound.core.lone known.told; so = one_more run more sound known.told known.so }

  -- whatever happens
  pub none-or_wished : (list : List Occurrence) → NoneOrWished (run_of policy list).said
  none-or_wished list = (along policy IsKnown (record { told = nothing_told; so = inl refl }) known_more list).1.so
