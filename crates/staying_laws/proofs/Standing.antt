-- A channel of a host is one that it did not close, while its peer has it.
use Rattle.std.proofs.Common.{◌≡◌, ℕ, List, [], ◌∷◌, ◌++◌, drop, Bool, true, false, cond, eqb, Option, Some, None, Ok, refl, sym, ap, subst, ◌∙◌}
use Rattle.std.specs.List.{AllByRecursion}
use Rattle.channel_laws.specs.acl_fragments.specs.Pieces.{channel_of}
use Rattle.channel_laws.specs.l2cap_signal.specs.Commands.{Command}
use Rattle.channel_laws.specs.l2cap_signal.specs.Reading.{answers}
use Rattle.channel_laws.specs.channel_model.specs.Calls.{has_fcs}
use Rattle.channel_laws.specs.channel_model.specs.Giving.{Given, Signal, Whole, Framed, next_given}
use Rattle.channel_laws.specs.channel_model.specs.Policies.{Policy}
use Rattle.channel_laws.specs.Belonging.{IsReadAs, IsRead}
use Rattle.channel_laws.specs.Pairs.{End, Pair, Happening, Acts, Puts, Takes, Repeats, Loses, Damages, is_alone, occurs, with_near, puts, let_go, takes_first, repeats_first, loses_first, damages_first, happens_near, IsRunOf}
use Rattle.channel_laws.specs.Pipes.{IsSeen, IsCarried}
use Rattle.channel_laws.specs.Runs.{Occurrence, Comes, Connects, AsksFeatures, Disconnects, Sends, Gives, Fires, Tells, said_in, value_after, Run}
use Rattle.channel_laws.specs.Signals.{StandsIn}
use Rattle.channel_laws.proofs.Saying.{stands-right}
use Rattle.lasting_laws.specs.Lasting.{OptionsSucceed}
use Rattle.lasting_laws.proofs.Lasting.{less-succeed}
use Rattle.staying_laws.specs.Stays.{AllKept}
use Rattle.staying_laws.proofs.Occurring.{IsSpared, occurs as keeps}

-- ---- what is under way

-- a signalling PDU has one command
abbrev pub IsSingle : List ℕ → Type 0
IsSingle pdu = eqb (channel_of pdu) 0x0001 ≡ true → (command : Command) × (answers (drop 4 pdu) ≡ Ok command ∷ [])

single_given : (given : Given) (pdu : List ℕ) → IsReadAs (Some given) pdu → IsSingle pdu
single_given (Signal command) pdu read = λ signals. (command, read)
single_given (Whole peer sdu) pdu read = λ signals. let never : true ≡ false = sym signals ∙ read in absurd cc
single_given (Framed peer frame) pdu read = λ signals. let never : true ≡ false = sym signals ∙ read in absurd cc

all_last : (pdus : List (List ℕ)) (pdu : List ℕ) → AllByRecursion IsSingle pdus → IsSingle pdu → AllByRecursion IsSingle (pdus ++ pdu ∷ [])
all_last [] pdu all single = (single, tt)
all_last (first ∷ pdus) pdu all single = (all.0, all_last pdus pdu all.1 single)

-- what comes to the near end grows by what the far one gives alone
pub near-single : (pair : Pair) (happening : Happening) → AllByRecursion IsSingle pair.near.coming → AllByRecursion IsSingle (happens_near happening pair).near.coming
near-single pair (Acts one) all = by (is_alone one)
  where
    by : (alone : Bool) → AllByRecursion IsSingle (cond alone (with_near (occurs one pair.near) pair) pair).near.coming
    by true = all
    by false = all
near-single pair (Puts pdu) all = by (next_given pair.near.run.value)
  where
    by : (given : Option Given) → AllByRecursion IsSingle (puts given pdu pair).near.coming
    by None = all
    by (Some given) = all
near-single pair Takes all = by pair.near.coming all
  where
    by : (coming : List (List ℕ)) → AllByRecursion IsSingle coming → AllByRecursion IsSingle (takes_first coming pair.near).coming
    by [] now = all
    by (pdu ∷ coming) now = now.1
near-single pair Repeats all = by pair.near.coming
  where
    by : (coming : List (List ℕ)) → AllByRecursion IsSingle (repeats_first coming pair.near).coming
    by [] = all
    by (pdu ∷ coming) = all
near-single pair Loses all = by pair.near.coming all
  where
    by : (coming : List (List ℕ)) → AllByRecursion IsSingle coming → AllByRecursion IsSingle (loses_first coming pair.near).coming
    by [] now = all
    by (pdu ∷ coming) now = now.1
near-single pair (Damages other) all = by pair.near.coming all
  where
    by : (coming : List (List ℕ)) → AllByRecursion IsSingle coming → AllByRecursion IsSingle (damages_first other coming pair.near).coming
    by [] now = all
    by (pdu ∷ coming) now = checked (has_fcs (channel_of pdu) pair.near.run.value)
      where
        checked : (b : Bool) → AllByRecursion IsSingle (cond b (occurs (Comes other) (let_go coming pair.near)) (let_go coming pair.near)).coming
        checked true = now.1
        checked false = now.1

pub far-single : (pair : Pair) (happening : Happening) → IsRead happening pair.near → AllByRecursion IsSingle pair.far.coming → AllByRecursion IsSingle (happens_near happening pair).far.coming
far-single pair (Acts one) read all = by (is_alone one)
  where
    by : (alone : Bool) → AllByRecursion IsSingle (cond alone (with_near (occurs one pair.near) pair) pair).far.coming
    by true = all
    by false = all
far-single pair (Puts pdu) read all = by (next_given pair.near.run.value) read
  where
    by : (given : Option Given) → IsReadAs given pdu → AllByRecursion IsSingle (puts given pdu pair).far.coming
    by None so = all
    by (Some given) so = all_last pair.far.coming pdu all (single_given given pdu so)
far-single pair Takes read all = all
far-single pair Repeats read all = all
far-single pair Loses read all = all
far-single pair (Damages other) read all = all

-- ---- one turn

-- what it says with it of options is success
said_succeeds : (policy : Policy) (end' : End) (one : Occurrence) (coming : List (List ℕ)) → end'.policy ≡ policy → OptionsSucceed (occurs one (let_go coming end')).run.said → OptionsSucceed (said_in policy one end'.run.value)
said_succeeds policy end' one coming policy_is succeed =
    less-succeed (said_in policy one end'.run.value) (end'.run.said ++ said_in end'.policy one end'.run.value)
    (λ s stood. stands-right s end'.run.said (said_in end'.policy one end'.run.value) (subst (λ p. StandsIn s (said_in p one end'.run.value)) (sym policy_is) stood)) succeed

module _ (mine : ℕ) where
  occurs_kept : (policy : Policy) (end' : End) (one : Occurrence) (coming : List (List ℕ)) → end'.policy ≡ policy → IsRunOf policy end'.run → IsSpared mine policy one end'.run.value → OptionsSucceed (occurs one (let_go coming end')).run.said → AllKept mine end'.run.value
      → AllKept mine (occurs one (let_go coming end')).run.value
  occurs_kept policy end' one coming policy_is (list, is) spared succeed all =
      subst (λ p. AllKept mine (value_after p one end'.run.value)) (sym policy_is)
      (subst (λ (r : Run). AllKept mine (value_after policy one r.value)) (sym is)
      (keeps mine policy list one (subst (λ (r : Run). AllKept mine r.value) is all) (subst (λ (r : Run). IsSpared mine policy one r.value) is spared)
      (subst (λ (r : Run). OptionsSucceed (said_in policy one r.value)) is (said_succeeds policy end' one coming policy_is succeed))))

  alone_spared : (policy : Policy) (one : Occurrence) (end' : End) → is_alone one ≡ true → (one ≡ Fires → IsSpared mine policy Fires end'.run.value) → IsSpared mine policy one end'.run.value
  alone_spared policy (Comes pdu) end' alone timer = cc
  alone_spared policy (Connects psm) end' alone timer = tt
  alone_spared policy AsksFeatures end' alone timer = tt
  alone_spared policy (Disconnects own) end' alone timer = tt
  alone_spared policy (Sends own sdu) end' alone timer = tt
  alone_spared policy (Gives pdu) end' alone timer = cc
  alone_spared policy Fires end' alone timer = timer refl
  alone_spared policy Tells end' alone timer = tt

  -- of the near end of a pair, whose machine withstands what comes first, what is damaged, and the timer
  pub record Withstands (policy : Policy) (happening : Happening) (end' : End) : Type 0 where
    pub front : (pdu : List ℕ) (behind : List (List ℕ)) → end'.coming ≡ pdu ∷ behind → IsSingle pdu → IsSpared mine policy (Comes pdu) end'.run.value
    pub damage : (other : List ℕ) → (eqb (channel_of other) 0x0001) ≡ false → IsSeen end'.coming other → (pdu : List ℕ) (behind : List (List ℕ)) → end'.coming ≡ pdu ∷ behind → IsSpared mine policy (Comes other) end'.run.value
    pub timer : happening ≡ Acts Fires → IsSpared mine policy Fires end'.run.value

  pub near-kept : (policy : Policy) (pair : Pair) (happening : Happening) → pair.near.policy ≡ policy → IsRunOf policy pair.near.run → Withstands policy happening pair.near → IsRead happening pair.near → IsCarried happening pair.near → AllByRecursion IsSingle pair.near.coming
      → OptionsSucceed (happens_near happening pair).near.run.said → AllKept mine pair.near.run.value → AllKept mine (happens_near happening pair).near.run.value
  near-kept policy pair (Acts one) policy_is runs stands read passes single succeed all = by (is_alone one) refl succeed
    where
      by : (alone : Bool) → is_alone one ≡ alone → (let after : Pair = cond alone (with_near (occurs one pair.near) pair) pair in OptionsSucceed after.near.run.said → AllKept mine after.near.run.value)
      by true alone so = occurs_kept policy pair.near one pair.near.coming policy_is runs (alone_spared policy one pair.near alone (λ fires. stands.timer (ap Acts fires))) so all
      by false alone so = all
  near-kept policy pair (Puts pdu) policy_is runs stands read passes single succeed all = by (next_given pair.near.run.value) succeed
    where
      by : (given : Option Given) → OptionsSucceed (puts given pdu pair).near.run.said → AllKept mine (puts given pdu pair).near.run.value
      by None so = all
      by (Some given) so = occurs_kept policy pair.near (Gives pdu) pair.near.coming policy_is runs tt so all
  near-kept policy pair Takes policy_is runs stands read passes single succeed all = by pair.near.coming refl succeed
    where
      by : (coming : List (List ℕ)) → pair.near.coming ≡ coming → OptionsSucceed (takes_first coming pair.near).run.said → AllKept mine (takes_first coming pair.near).run.value
      by [] is so = all
      by (pdu ∷ coming) is so = let each : AllByRecursion IsSingle (pdu ∷ coming) = subst (AllByRecursion IsSingle) is single in occurs_kept policy pair.near (Comes pdu) coming policy_is runs (stands.front pdu coming is each.0) so all
  near-kept policy pair Repeats policy_is runs stands read passes single succeed all = by pair.near.coming refl succeed
    where
      by : (coming : List (List ℕ)) → pair.near.coming ≡ coming → OptionsSucceed (repeats_first coming pair.near).run.said → AllKept mine (repeats_first coming pair.near).run.value
      by [] is so = all
      by (pdu ∷ coming) is so = let each : AllByRecursion IsSingle (pdu ∷ coming) = subst (AllByRecursion IsSingle) is single in occurs_kept policy pair.near (Comes pdu) pair.near.coming policy_is runs (stands.front pdu coming is each.0) so all
  near-kept policy pair Loses policy_is runs stands read passes single succeed all = by pair.near.coming
    where
      by : (coming : List (List ℕ)) → AllKept mine (loses_first coming pair.near).run.value
      by [] = all
      by (pdu ∷ coming) = all
  near-kept policy pair (Damages other) policy_is runs stands read passes single succeed all = by pair.near.coming refl succeed
    where
      by : (coming : List (List ℕ)) → pair.near.coming ≡ coming → OptionsSucceed (damages_first other coming pair.near).run.said → AllKept mine (damages_first other coming pair.near).run.value
      by [] is so = all
      by (pdu ∷ coming) is so = checked (has_fcs (channel_of pdu) pair.near.run.value) so
        where
          checked : (b : Bool) → OptionsSucceed (cond b (occurs (Comes other) (let_go coming pair.near)) (let_go coming pair.near)).run.said → AllKept mine (cond b (occurs (Comes other) (let_go coming pair.near)) (let_go coming pair.near)).run.value
          checked true now = occurs_kept policy pair.near (Comes other) coming policy_is runs (stands.damage other read passes pdu coming is) now all
          checked false now = all
