-- A host whose peer stays asks for the end of no channel while few turns upset.
use Rattle.std.proofs.Common.{◌≡◌, ◌<◌, ℕ, List, [], ◌∷◌, ◌++◌, drop, Bool, true, false, cond, eqb, Option, Some, None, Ok, refl, sym, ap, subst, ◌∙◌, arith, append_assoc, append-nil}
use Rattle.std.specs.List.{AllByRecursion}
use Rattle.std.proofs.lemmas.List.Sums.{fold-append}
use Rattle.channel_laws.specs.acl_fragments.specs.Pieces.{channel_of}
use Rattle.channel_laws.specs.capture.specs.Histories.{EachAfter}
use Rattle.channel_laws.specs.capture.specs.declared.flow.Flow.TheVariants.{Out, Into}
use Rattle.channel_laws.specs.l2cap_signal.specs.Commands.{Command, configuration_response}
use Rattle.channel_laws.specs.l2cap_signal.specs.Reading.{answers}
use Rattle.channel_laws.specs.channel_model.specs.Calls.{has_fcs}
use Rattle.channel_laws.specs.channel_model.specs.Giving.{Given, Signal, Whole, Framed, next_given}
use Rattle.channel_laws.specs.channel_model.specs.Policies.{Policy}
use Rattle.channel_laws.specs.Belonging.{IsReadAs, IsRead, AreRead}
use Rattle.channel_laws.specs.Ends.{DoesSo, end_at, AreFair}
use Rattle.channel_laws.specs.Frames.{IsUttered}
use Rattle.channel_laws.specs.Pairs.{End, Pair, new_pair, Happening, Acts, Puts, Takes, Repeats, Loses, Damages, is_alone, occurs, with_near, puts, let_go, takes_first, repeats_first, loses_first, damages_first, happens_near, Side, Near, Far, turned, Turn, happens_at, pair_after, pair_of, IsRunOf}
use Rattle.channel_laws.specs.Pipes.{IsSeen, IsCarried, AreCarried, CanStateBoth}
use Rattle.channel_laws.specs.Runs.{Occurrence, Comes, Connects, AsksFeatures, Disconnects, Sends, Gives, Fires, Tells, said_in, value_after, Run}
use Rattle.channel_laws.specs.Signals.{StandsIn}
use Rattle.channel_laws.specs.OwnTalk.{command_with}
use Rattle.channel_laws.proofs.Belonging.{pledges-were_said}
use Rattle.channel_laws.proofs.Mating.{front-each}
use Rattle.channel_laws.proofs.Pairing.{each-end_runs, end-policy}
use Rattle.channel_laws.proofs.Saying.{stands-left, stands-right}
use Rattle.channel_laws.proofs.Sharing.{said-grows}
use Rattle.recovered_laws.specs.Calm.{all_upsets}
use Rattle.recovered_laws.specs.Paid.{MachinesArePaid}
use Rattle.lasting_laws.specs.Ends.{AnswersSuccess, IsNoLeave, IsFarFiring, LeavesNone, OptionsUnspent, PeerStays, FewUpsetsEndNone}
use Rattle.lasting_laws.specs.Lasting.{OptionsSucceed, AsksForNoEnd, IsSpared}
use Rattle.lasting_laws.proofs.Kept.{AllKept}
use Rattle.lasting_laws.proofs.Lasting.{lasts-so, less-succeed, KeepsOn, occurs as keeps}
use Rattle.lasting_laws.proofs.Machines.{upsets-ahead, withstands-front, withstands-damage, withstands-timer}
use Rattle.lasting_laws.proofs.Unsaid.{none-both, nothing-said}

-- ---- what is under way

-- a signalling PDU has one command
abbrev IsSingle : List ℕ → Type 0
IsSingle pdu = eqb (channel_of pdu) 0x0001 ≡ true → (command : Command) × (answers (drop 4 pdu) ≡ Ok command ∷ [])

single_given : (given : Given) (pdu : List ℕ) → IsReadAs (Some given) pdu → IsSingle pdu
single_given (Signal command) pdu read = λ signals. (command, read)
single_given (Whole peer sdu) pdu read = λ signals. let never : true ≡ false = sym signals ∙ read in absurd cc
single_given (Framed peer frame) pdu read = λ signals. let never : true ≡ false = sym signals ∙ read in absurd cc

all_last : (pdus : List (List ℕ)) (pdu : List ℕ) → AllByRecursion IsSingle pdus → IsSingle pdu → AllByRecursion IsSingle (pdus ++ pdu ∷ [])
all_last [] pdu all single = (single, tt)
all_last (first ∷ pdus) pdu all single = (all.0, all_last pdus pdu all.1 single)

-- ---- a host at an end of the link

-- it asked for no end so far
pub record IsStill (end' : End) : Type 0 where
  pub kept : AllKept end'.run.value
  pub silent : AsksForNoEnd end'.run.said
  pub coming : AllByRecursion IsSingle end'.coming

-- something occurs there
still_occurs : (policy : Policy) (end' : End) (one : Occurrence) (coming : List (List ℕ)) → end'.policy ≡ policy → IsRunOf policy end'.run → AllByRecursion IsSingle coming → IsSpared policy one end'.run.value → OptionsSucceed (said_in policy one end'.run.value) → IsStill end'
    → IsStill (occurs one (let_go coming end'))
still_occurs policy end' one coming policy_is (list, is) single spared succeed still =
    let step : KeepsOn policy one end'.run.value = subst (λ (r : Run). KeepsOn policy one r.value) (sym is)
    (keeps policy list one (subst (λ (r : Run). AllKept r.value) is still.kept) (subst (λ (r : Run). IsSpared policy one r.value) is spared) (subst (λ (r : Run). OptionsSucceed (said_in policy one r.value)) is succeed)) in
    record {
      kept = subst (λ p. AllKept (value_after p one end'.run.value)) (sym policy_is) step.0;
      silent = subst (λ p. AsksForNoEnd (end'.run.said ++ said_in p one end'.run.value)) (sym policy_is) (none-both end'.run.said (said_in policy one end'.run.value) still.silent step.1);
      coming = single;
    }

-- what it does by itself
alone_spared : (policy : Policy) (one : Occurrence) (end' : End) → is_alone one ≡ true → IsNoLeave one → (one ≡ Fires → IsSpared policy Fires end'.run.value) → IsSpared policy one end'.run.value
alone_spared policy (Comes pdu) end' alone none timer = cc
alone_spared policy (Connects psm) end' alone none timer = tt
alone_spared policy AsksFeatures end' alone none timer = tt
alone_spared policy (Disconnects own) end' alone none timer = absurd none
alone_spared policy (Sends own sdu) end' alone none timer = tt
alone_spared policy (Gives pdu) end' alone none timer = cc
alone_spared policy Fires end' alone none timer = timer refl
alone_spared policy Tells end' alone none timer = tt

-- what it says with it of options is success
said_succeeds : (policy : Policy) (end' : End) (one : Occurrence) (coming : List (List ℕ)) → end'.policy ≡ policy → OptionsSucceed (occurs one (let_go coming end')).run.said → OptionsSucceed (said_in policy one end'.run.value)
said_succeeds policy end' one coming policy_is succeed =
    less-succeed (said_in policy one end'.run.value) (end'.run.said ++ said_in end'.policy one end'.run.value)
    (λ s stood. stands-right s end'.run.said (said_in end'.policy one end'.run.value) (subst (λ p. StandsIn s (said_in p one end'.run.value)) (sym policy_is) stood)) succeed

-- of the near end of a pair, whose machines withstand what comes first, what is damaged, and the timer
pub record Withstands (policy : Policy) (happening : Happening) (end' : End) : Type 0 where
  pub front : (pdu : List ℕ) (behind : List (List ℕ)) → end'.coming ≡ pdu ∷ behind → IsSingle pdu → IsSpared policy (Comes pdu) end'.run.value
  pub damage : (other : List ℕ) → (eqb (channel_of other) 0x0001) ≡ false → IsSeen end'.coming other → (pdu : List ℕ) (behind : List (List ℕ)) → end'.coming ≡ pdu ∷ behind → IsSpared policy (Comes other) end'.run.value
  pub timer : happening ≡ Acts Fires → IsSpared policy Fires end'.run.value

near_still : (policy : Policy) (pair : Pair) (happening : Happening) → pair.near.policy ≡ policy → IsRunOf policy pair.near.run → Withstands policy happening pair.near → LeavesNone Far happening → IsRead happening pair.near → IsCarried happening pair.near → OptionsSucceed (happens_near happening pair).near.run.said → IsStill pair.near
    → IsStill (happens_near happening pair).near
near_still policy pair (Acts one) policy_is runs stands none read passes succeed still = by (is_alone one) refl succeed
  where
    by : (alone : Bool) → is_alone one ≡ alone → (let after : Pair = cond alone (with_near (occurs one pair.near) pair) pair in OptionsSucceed after.near.run.said → IsStill after.near)
    by true alone so =
        still_occurs policy pair.near one pair.near.coming policy_is runs still.coming (alone_spared policy one pair.near alone none (λ fires. stands.timer (ap Acts fires))) (said_succeeds policy pair.near one pair.near.coming policy_is so) still
    by false alone so = still
near_still policy pair (Puts pdu) policy_is runs stands none read passes succeed still = by (next_given pair.near.run.value) succeed
  where
    by : (given : Option Given) → OptionsSucceed (puts given pdu pair).near.run.said → IsStill (puts given pdu pair).near
    by None so = still
    by (Some given) so = still_occurs policy pair.near (Gives pdu) pair.near.coming policy_is runs still.coming tt (said_succeeds policy pair.near (Gives pdu) pair.near.coming policy_is so) still
near_still policy pair Takes policy_is runs stands none read passes succeed still = by pair.near.coming refl succeed
  where
    by : (coming : List (List ℕ)) → pair.near.coming ≡ coming → OptionsSucceed (takes_first coming pair.near).run.said → IsStill (takes_first coming pair.near)
    by [] is so = still
    by (pdu ∷ coming) is so =
        let all : AllByRecursion IsSingle (pdu ∷ coming) = subst (AllByRecursion IsSingle) is still.coming in
        still_occurs policy pair.near (Comes pdu) coming policy_is runs all.1 (stands.front pdu coming is all.0) (said_succeeds policy pair.near (Comes pdu) coming policy_is so) still
near_still policy pair Repeats policy_is runs stands none read passes succeed still = by pair.near.coming refl succeed
  where
    by : (coming : List (List ℕ)) → pair.near.coming ≡ coming → OptionsSucceed (repeats_first coming pair.near).run.said → IsStill (repeats_first coming pair.near)
    by [] is so = still
    by (pdu ∷ coming) is so =
        let all : AllByRecursion IsSingle (pdu ∷ coming) = subst (AllByRecursion IsSingle) is still.coming in
        still_occurs policy pair.near (Comes pdu) pair.near.coming policy_is runs still.coming (stands.front pdu coming is all.0) (said_succeeds policy pair.near (Comes pdu) pair.near.coming policy_is so) still
near_still policy pair Loses policy_is runs stands none read passes succeed still = by pair.near.coming refl
  where
    by : (coming : List (List ℕ)) → pair.near.coming ≡ coming → IsStill (loses_first coming pair.near)
    by [] is = still
    by (pdu ∷ coming) is = record { kept = still.kept; silent = still.silent; coming = (let all : AllByRecursion IsSingle (pdu ∷ coming) = subst (AllByRecursion IsSingle) is still.coming in all.1) }
near_still policy pair (Damages other) policy_is runs stands none read passes succeed still = by pair.near.coming refl succeed
  where
    by : (coming : List (List ℕ)) → pair.near.coming ≡ coming → OptionsSucceed (damages_first other coming pair.near).run.said → IsStill (damages_first other coming pair.near)
    by [] is so = still
    by (pdu ∷ coming) is so = checked (has_fcs (channel_of pdu) pair.near.run.value) so
      where
        all : AllByRecursion IsSingle (pdu ∷ coming)
        all = subst (AllByRecursion IsSingle) is still.coming

        checked : (b : Bool) → OptionsSucceed (cond b (occurs (Comes other) (let_go coming pair.near)) (let_go coming pair.near)).run.said → IsStill (cond b (occurs (Comes other) (let_go coming pair.near)) (let_go coming pair.near))
        checked true now = still_occurs policy pair.near (Comes other) coming policy_is runs all.1 (stands.damage other read passes pdu coming is) (said_succeeds policy pair.near (Comes other) coming policy_is now) still
        checked false now = record { kept = still.kept; silent = still.silent; coming = all.1 }

-- the other one gives it something, or does not
far_still : (pair : Pair) (happening : Happening) → IsRead happening pair.near → IsStill pair.far → IsStill (happens_near happening pair).far
far_still pair (Acts one) read still = by (is_alone one)
  where
    by : (alone : Bool) → IsStill (cond alone (with_near (occurs one pair.near) pair) pair).far
    by true = still
    by false = still
far_still pair (Puts pdu) read still = by (next_given pair.near.run.value) read
  where
    by : (given : Option Given) → IsReadAs given pdu → IsStill (puts given pdu pair).far
    by None so = still
    by (Some given) so = record { kept = still.kept; silent = still.silent; coming = all_last pair.far.coming pdu still.coming (single_given given pdu so) }
far_still pair Takes read still = still
far_still pair Repeats read still = still
far_still pair Loses read still = still
far_still pair (Damages other) read still = still

-- ---- all turns

module _ (near far : Policy) (turns : List Turn) (fair : AreFair near far turns) (read : AreRead near far turns) (passes : AreCarried near far turns) (paid : MachinesArePaid) (can : (psm : ℕ) → CanStateBoth near far psm) (few : (psm : ℕ) → all_upsets (new_pair near far) turns < (far.wish psm).tries)
    (succeed : OptionsSucceed (pair_of near far turns).far.run.said) where
  -- so it is ahead of a moment
  ahead : (P : List Turn → Turn → Type 0) (past later : List Turn) → turns ≡ past ++ later → EachAfter P [] turns → EachAfter P [] past
  ahead P past later is each = front-each P [] past later (subst (EachAfter P []) is each)

  succeeds_at : (past later : List Turn) → turns ≡ past ++ later → OptionsSucceed (pair_of near far past).far.run.said
  succeeds_at past later is =
      let grown = said-grows near far Far past later in
      less-succeed (pair_of near far past).far.run.said (pair_of near far turns).far.run.said
      (λ s stood. subst (λ (l : List Turn). StandsIn s (pair_of near far l).far.run.said) (sym is) (subst (StandsIn s) (sym grown.1) (stands-left s (pair_of near far past).far.run.said grown.0 stood))) succeed

  withstands : (past later : List Turn) (happening : Happening) → turns ≡ past ++ later → (IsFarFiring Far happening → OptionsUnspent near far past) → PeerStays near far past → Withstands far happening (pair_of near far past).far
  withstands past later happening is unspent stays =
      let uttered = ahead (λ front turn. DoesSo IsUttered turn.happening (end_at turn.side (pair_of near far front))) past later is fair in
      let reads = ahead (λ front turn. IsRead turn.happening (end_at turn.side (pair_of near far front))) past later is read in
      let carries = ahead (λ front turn. IsCarried turn.happening (end_at turn.side (pair_of near far front))) past later is passes in
      let less : (psm : ℕ) → all_upsets (new_pair near far) past < (far.wish psm).tries = λ psm.
      let most = few psm in
      let same : all_upsets (new_pair near far) turns ≡ all_upsets (new_pair near far) (past ++ later) = ap (all_upsets (new_pair near far)) is in
      let fewer = upsets-ahead (new_pair near far) past later in omega (arith, most, same, fewer) in
      record {
        front = λ pdu behind coming_is single. (single, λ plain setup m on carries_it taken. withstands-front near far past uttered reads carries paid can less stays pdu behind coming_is setup m on carries_it);
        damage = λ other plain seen pdu behind coming_is.
            let bad = subst (λ c. IsSeen c other) coming_is seen in
            ((λ signals. let never : true ≡ false = sym signals ∙ plain in absurd cc), λ apart setup m on carries_it taken. withstands-damage near far past uttered reads carries paid can less stays other bad.1 setup m on carries_it taken);
        timer = λ fires. withstands-timer near far past uttered reads carries paid can less stays (unspent (refl, fires));
      }

  side_still : (past later : List Turn) (side : Side) (happening : Happening) → turns ≡ past ++ later → (IsFarFiring side happening → OptionsUnspent near far past) → PeerStays near far past → LeavesNone side happening → IsRead happening (end_at side (pair_of near far past)) → IsCarried happening (end_at side (pair_of near far past))
      → OptionsSucceed (happens_at side happening (pair_of near far past)).far.run.said → IsStill (pair_of near far past).far → IsStill (happens_at side happening (pair_of near far past)).far
  side_still past later Near happening is unspent stays none reads carries so still = far_still (pair_of near far past) happening reads still
  side_still past later Far happening is unspent stays none reads carries so still =
      near_still far (turned (pair_of near far past)) happening (end-policy near far past Far) (each-end_runs near far past).1 (withstands past later happening is unspent stays) none reads carries so still

  all_still : (past rest : List Turn) → turns ≡ past ++ rest → EachAfter (λ front turn. LeavesNone turn.side turn.happening) past rest → EachAfter (λ front turn. AsksForNoEnd (pair_of near far front).far.run.said → IsFarFiring turn.side turn.happening → OptionsUnspent near far front) past rest → EachAfter (λ front turn. AsksForNoEnd (pair_of near far front).far.run.said → PeerStays near far front) past rest
      → EachAfter (λ front turn. IsRead turn.happening (end_at turn.side (pair_of near far front))) past rest → EachAfter (λ front turn. IsCarried turn.happening (end_at turn.side (pair_of near far front))) past rest → IsStill (pair_of near far past).far → IsStill (pair_of near far turns).far
  all_still past [] is leaves options peer reads carries still = subst (λ (l : List Turn). IsStill (pair_of near far l).far) (sym (is ∙ append-nil past)) still
  all_still past (turn ∷ rest) is (leave, leaves) (option, options) (stay, peer) (now, reads) (pass, carries) still =
      let next : pair_of near far (past ++ turn ∷ []) ≡ pair_after (pair_of near far past) turn = fold-append pair_after (new_pair near far) past (turn ∷ []) in
      let further : turns ≡ (past ++ turn ∷ []) ++ rest = is ∙ sym (append_assoc past (turn ∷ []) rest) in
      let so : OptionsSucceed (pair_after (pair_of near far past) turn).far.run.said = subst (λ (p : Pair). OptionsSucceed p.far.run.said) next (succeeds_at (past ++ turn ∷ []) rest further) in
      all_still (past ++ turn ∷ []) rest further leaves options peer reads carries
      (subst (λ (p : Pair). IsStill p.far) (sym next) (side_still past (turn ∷ rest) turn.side turn.happening is (option still.silent) (stay still.silent) leave now pass so still))

-- what a host heard, its peer said
options_succeed : (near far : Policy) (turns : List Turn) → AreRead near far turns → AnswersSuccess (pair_of near far turns).near.run.said → AnswersSuccess (pair_of near far turns).far.run.said → OptionsSucceed (pair_of near far turns).far.run.said
options_succeed near far turns read mine theirs Out identifier peer flags result options stood = theirs identifier peer flags result options stood
options_succeed near far turns read mine theirs Into identifier peer flags result options stood =
    mine identifier peer flags result options (pledges-were_said near far turns read Far (command_with identifier (configuration_response peer flags result options)) refl stood)

pub few-upsets_end_none : MachinesArePaid → FewUpsetsEndNone
few-upsets_end_none paid near far turns fair read passes can few leaves stays =
    let still = all_still near far turns fair read passes paid can few (options_succeed near far turns read stays.near_answers stays.far_answers) [] turns refl leaves stays.options stays.peer read passes (record { kept = tt; silent = nothing-said; coming = tt }) in
    lasts-so (pair_of near far turns).far.run still.kept still.silent
