-- What happens to a host leaves a channel of it one that it did not close.
use Rattle.std.proofs.Common.{◌≡◌, ℕ, List, [], ◌∷◌, ◌++◌, map, drop, Bool, true, false, cond, eqb, Ok, Some, None, refl, sym, ap, subst, ◌∙◌}
use Rattle.channel_laws.specs.acl_fragments.specs.Pieces.{channel_of}
use Rattle.channel_laws.specs.capture.specs.declared.flow.Flow.TheVariants.{Into}
use Rattle.channel_laws.specs.ertm_model.specs.Value.{Ertm}
use Rattle.channel_laws.specs.l2cap_signal.specs.Commands.{Command}
use Rattle.channel_laws.specs.l2cap_signal.specs.Reading.{Answer as Read, answers}
use Rattle.channel_laws.specs.link_talk.specs.Sayings.{Saying, Carried}
use Rattle.channel_laws.specs.channel_model.specs.Calls.{setup_on}
use Rattle.channel_laws.specs.channel_model.specs.Carrying.{takes, machine_heard, read_by, is_taken_with}
use Rattle.channel_laws.specs.channel_model.specs.Changing.{held_at}
use Rattle.channel_laws.specs.channel_model.specs.Hearing.{hears_commands}
use Rattle.channel_laws.specs.channel_model.specs.Policies.{Policy}
use Rattle.channel_laws.specs.channel_model.specs.Timing.{times_channels, times_features}
use Rattle.channel_laws.specs.channel_model.specs.Value.{Retransmitting, Setup, Channels}
use Rattle.channel_laws.specs.channel_model.proofs.Lookups.{own_of, found-has}
use Rattle.channel_laws.specs.OwnTalk.{exchanged, reply_to, asked_between, said_with_all}
use Rattle.channel_laws.specs.Runs.{Occurrence, Comes, Connects, AsksFeatures, Disconnects, Sends, Gives, Fires, Tells, said_in, value_after, run_of}
use Rattle.channel_laws.proofs.Running.{all-sound}
use Rattle.channel_laws.proofs.Saying.{stands-left}
use Rattle.lasting_laws.specs.Lasting.{OptionsSucceed, IsUnspent}
use Rattle.staying_laws.specs.Stays.{AllKept}
use Rattle.staying_laws.proofs.Kept.{command-kept, taken-kept, calls-kept, features-kept, leaves-kept, sends-kept, gives-kept}
use Rattle.staying_laws.proofs.Timed.{all-kept, all-last, channels-timed, features-timed}

module _ (mine : ℕ) where
  -- nothing that closes the channel of this endpoint: a signalling PDU has one command, a PDU on the channel does not close its machine, and the timer finds neither that nor its request for options spent
  abbrev pub IsSpared : Policy → Occurrence → Channels → Type 0
  IsSpared policy (Comes pdu) v =
      (eqb (channel_of pdu) 0x0001 ≡ true → (command : Command) × (answers (drop 4 pdu) ≡ Ok command ∷ []))
      × (channel_of pdu ≡ mine → (setup : Setup) (m : Ertm) → setup_on (held_at (channel_of pdu) v) ≡ Some setup → setup.carrier ≡ Some (Retransmitting m) → is_taken_with setup.own (Retransmitting m) pdu ≡ true → (machine_heard (read_by m pdu) m).closed ≡ None)
  IsSpared policy (Connects psm) v = Unit {0}
  IsSpared policy AsksFeatures v = Unit {0}
  IsSpared policy (Disconnects own) v = Unit {0}
  IsSpared policy (Sends own sdu) v = Unit {0}
  IsSpared policy (Gives pdu) v = Unit {0}
  IsSpared policy Fires v = (setup : Setup) → setup_on (held_at mine v) ≡ Some setup → IsUnspent policy.tries setup.own setup.carrier
  IsSpared policy Tells v = Unit {0}

  comes : (policy : Policy) (v : Channels) (pdu : List ℕ) → AllKept mine v → IsSpared policy (Comes pdu) v → OptionsSucceed (said_in policy (Comes pdu) v) → AllKept mine (value_after policy (Comes pdu) v)
  comes policy v pdu all (single, stands) succeed = by (eqb (channel_of pdu) 0x0001) refl succeed
    where
      read : (list : List Read) (command : Command) → list ≡ Ok command ∷ [] → OptionsSucceed (said_with_all policy list v) → AllKept mine (hears_commands policy list v)
      read list command is so = subst (λ (l : List Read). AllKept mine (hears_commands policy l v)) (sym is) (command-kept mine policy command.identifier command.content v exchange_succeeds all)
        where
          one : Read
          one = Ok command

          exchange : List Saying
          exchange = exchanged one (reply_to policy one v) v

          exchange_succeeds : OptionsSucceed exchange
          exchange_succeeds flow i peer f r o stood =
              subst (λ (l : List Read). OptionsSucceed (said_with_all policy l v)) is so flow i peer f r o
              (stands-left _ (exchange ++ asked_between v (hears_commands policy (one ∷ []) v)) [] (stands-left _ exchange (asked_between v (hears_commands policy (one ∷ []) v)) stood))

      by : (signals : Bool) → eqb (channel_of pdu) 0x0001 ≡ signals → OptionsSucceed (cond (eqb (channel_of pdu) 0x0001) (said_with_all policy (answers (drop 4 pdu)) v) (Carried Into pdu ∷ asked_between v (takes (channel_of pdu) pdu v))) → AllKept mine (value_after policy (Comes pdu) v)
      by true is so =
          let (command, read_is) = single is in
          subst (λ b. AllKept mine (cond b (hears_commands policy (answers (drop 4 pdu)) v) (takes (channel_of pdu) pdu v))) (sym is)
          (read (answers (drop 4 pdu)) command read_is (subst (λ b. OptionsSucceed (cond b (said_with_all policy (answers (drop 4 pdu)) v) (Carried Into pdu ∷ asked_between v (takes (channel_of pdu) pdu v)))) is so))
      by false is so =
          subst (λ b. AllKept mine (cond b (hears_commands policy (answers (drop 4 pdu)) v) (takes (channel_of pdu) pdu v))) (sym is)
          (taken-kept mine (channel_of pdu) pdu v (λ held setup found has same m carrier taken. stands (sym (found-has own_of (channel_of pdu) v.held held found) ∙ same) setup m (ap setup_on found ∙ has) carrier taken) all)

  pub occurs : (policy : Policy) (past : List Occurrence) (one : Occurrence) → (let v : Channels = (run_of policy past).value in AllKept mine v → IsSpared policy one v → OptionsSucceed (said_in policy one v) → AllKept mine (value_after policy one v))
  occurs policy past (Comes pdu) all spared succeed = comes policy (run_of policy past).value pdu all spared succeed
  occurs policy past (Connects psm) all spared succeed = calls-kept mine psm (run_of policy past).value all
  occurs policy past AsksFeatures all spared succeed = features-kept mine (run_of policy past).value all
  occurs policy past (Disconnects own) all spared succeed = leaves-kept mine own (run_of policy past).value all
  occurs policy past (Sends own sdu) all spared succeed = sends-kept mine own sdu (run_of policy past).value all
  occurs policy past (Gives pdu) all spared succeed = gives-kept mine (run_of policy past).value all
  occurs policy past Fires all spared succeed =
      let v : Channels = (run_of policy past).value in
      let owns : List ℕ = map (λ held. held.own) v.held in
      let after : Channels = times_channels policy.tries owns v in
      all-kept policy.tries mine (times_features after.features policy.tries after) (features-timed policy.tries mine after (channels-timed policy.tries mine owns v (all-last policy.tries mine v (all-sound policy past).core.lone all spared)))
  occurs policy past Tells all spared succeed = all
