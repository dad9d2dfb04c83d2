-- What the machines of a channel paid, of all turns; and a calm link is quiet.
use Rattle.std.proofs.Common.{◌≡◌, ℕ, ◌+◌, ◌≤◌, List, [], ◌∷◌, ◌++◌, length, Bool, true, false, cond, eqb, ◌&&◌, not, Option, Some, None, refl, sym, ap, subst, ◌∙◌, inl, inr, arith, append-nil}
use Rattle.std.specs.Prelude.{nat_le}
use Rattle.std.specs.List.{list_any, AllByRecursion}
use Rattle.std.proofs.lemmas.Bool.Decides.{leb_tells}
use Rattle.std.proofs.lemmas.List.Sums.{fold-append}
use Rattle.channel_laws.specs.capture.specs.Histories.{EachAfter}
use Rattle.channel_laws.specs.l2cap_config.specs.declared.wish.Agreed.{Agreed}
use Rattle.channel_laws.specs.l2cap_config.specs.declared.wish.Mode.TheVariants.{Enhanced}
use Rattle.channel_laws.specs.ertm_frames.specs.Reading.{answer_in}
use Rattle.channel_laws.specs.ertm_model.specs.declared.reason.ErtmReason.{ErtmReason}
use Rattle.channel_laws.specs.ertm_model.specs.declared.reason.ErtmReason.TheVariants.{RetryLimit}
use Rattle.channel_laws.specs.ertm_model.specs.Value.{Kept, Poll, NoPoll, Due, Waits, Ertm}
use Rattle.channel_laws.specs.ertm_model.specs.Giving.{closing, polling, first_poll, poll_timed, open_timed, timed}
use Rattle.channel_laws.specs.ertm_model.specs.Order.{StandsBoth, OnlyRetries}
use Rattle.channel_laws.specs.ertm_model.specs.Pair.{Pass, Pair as Machines, ByB, turned as machines_turned}
use Rattle.channel_laws.specs.ertm_model.proofs.Affording.{turned_accounts}
use Rattle.channel_laws.specs.ertm_model.proofs.Resting.{new_account}
use Rattle.channel_laws.specs.ertm_model.proofs.Standing.{turns-stand}
use Rattle.channel_laws.specs.link_talk.specs.declared.channel.Channel.{Channel}
use Rattle.channel_laws.specs.link_talk.specs.Channels.{reading}
use Rattle.channel_laws.specs.channel_model.specs.Value.{Carrier, Retransmitting, Setup, Held, Channels}
use Rattle.channel_laws.specs.channel_model.specs.Policies.{Policy}
use Rattle.channel_laws.specs.channel_model.specs.Changing.{held_at, is_answer, is_open, setup_of}
use Rattle.channel_laws.specs.channel_model.specs.Carrying.{read_by, machine_heard}
use Rattle.channel_laws.specs.channel_model.specs.Giving.{gives}
use Rattle.channel_laws.specs.channel_model.specs.Calls.{setup_on, open_carrier, carrier_if, carrier_at}
use Rattle.channel_laws.specs.Adverse.{is_quiet, seen_from, disturbs, disturbances}
use Rattle.channel_laws.specs.Common.{mirrored}
use Rattle.channel_laws.specs.Endpoints.{IsOf}
use Rattle.channel_laws.specs.Frames.{IsUttered}
use Rattle.channel_laws.specs.Modes.{OneWishes}
use Rattle.channel_laws.specs.Pairs.{Pair, new_pair, Happening, Acts, Puts, Takes, Repeats, Loses, Damages, Side, Near, Far, turned, Turn, pair_after, pair_of, IsRunOf}
use Rattle.channel_laws.specs.Runs.{Run, run_of}
use Rattle.channel_laws.specs.Tries.{one_if, is_firing}
use Rattle.channel_laws.specs.Views.{read_at}
use Rattle.channel_laws.proofs.Agreements.{agreements-are_on_heard}
use Rattle.channel_laws.proofs.Bonds.{Bond, bond-of}
use Rattle.channel_laws.proofs.Flowing.{Common, Fair as Suited, terms_of, fair-by, common_at}
use Rattle.channel_laws.proofs.HandedUp.{heard-agreed}
use Rattle.channel_laws.proofs.Joining.{Terms, Holds, other_terms}
use Rattle.channel_laws.proofs.Keeping.{HeldKeeps}
use Rattle.channel_laws.proofs.Mating.{same_channel}
use Rattle.channel_laws.proofs.Pairing.{first-runs, each-end_runs}
use Rattle.channel_laws.proofs.Partaking.{IsMate, kept-on, settle}
use Rattle.channel_laws.proofs.Piped.{under_way}
use Rattle.recovered_laws.specs.Calm.{owes, upsets, all_upsets, CalmIsQuiet, IsSettledAt, SettledUpsetNoMore}
use Rattle.recovered_laws.specs.Paid.{IsThere, EndIsPaid, MachinesArePaid}
use Rattle.recovered_laws.proofs.Moving.{Ends, ends-front, front-machine}
use Rattle.recovered_laws.proofs.Twins.{On, Twins, Both}
use Rattle.recovered_laws.proofs.Turning.{Joint}
use Rattle.recovered_laws.proofs.Readying.{both-ready}
use Rattle.recovered_laws.proofs.Paying.{Paid, turned_joint, paid-swapped, all_paid, first_joint}

-- ---- an open channel

pub record OpenAt (own : ℕ) (v : Channels) (carrier : Carrier) : Type 0 where
  pub held : Held
  pub setup : Setup
  pub found : held_at own v ≡ Some held
  pub has : setup_of held.stage ≡ Some setup
  pub opened : is_open setup ≡ true
  pub is : setup.carrier ≡ Some carrier

pub open-at : (own : ℕ) (v : Channels) (carrier : Carrier) → carrier_at own v ≡ Some carrier → OpenAt own v carrier
open-at own v carrier carries = by (held_at own v) refl carries
  where
    opens : (held : Held) (setup : Setup) (opened : Bool) → held_at own v ≡ Some held → setup_of held.stage ≡ Some setup → is_open setup ≡ opened → carrier_if opened setup ≡ Some carrier → OpenAt own v carrier
    opens held setup true found has opened is = record { held = held; setup = setup; found = found; has = has; opened = opened; is = is }
    opens held setup false found has opened is = cc

    on : (held : Held) (setup : Option Setup) → held_at own v ≡ Some held → setup_of held.stage ≡ setup → open_carrier setup ≡ Some carrier → OpenAt own v carrier
    on held None found has is = cc
    on held (Some setup) found has is = opens held setup (is_open setup) found has refl is

    by : (held : Option Held) → held_at own v ≡ held → open_carrier (setup_on held) ≡ Some carrier → OpenAt own v carrier
    by None found is = cc
    by (Some held) found is = on held (setup_of held.stage) found refl is

-- ---- what closes a machine

-- its timer does so for want of tries
pub timer_closes : (m : Ertm) (wrong : ℕ) (reason : ErtmReason) → m.closed ≡ None → m.sender.polls ≤ wrong → (timed m).closed ≡ Some reason → (reason ≡ RetryLimit) × (m.agreed.tries ≤ wrong)
timer_closes m wrong reason open' few closes = by_poll m.sender.poll (sym (ap (λ s. (open_timed s m).closed) open') ∙ closes)
  where
    never : m.closed ≡ Some reason → (reason ≡ RetryLimit) × (m.agreed.tries ≤ wrong)
    never is = let no : None ≡ Some reason = sym open' ∙ is in absurd cc

    first : (unacked : List Kept) → (first_poll unacked m).closed ≡ Some reason → (reason ≡ RetryLimit) × (m.agreed.tries ≤ wrong)
    first [] is = never is
    first (kept ∷ behind) is = never is

    late : (spent : Bool) → nat_le m.agreed.tries m.sender.polls ≡ spent → (cond spent (closing RetryLimit m) (polling m)).closed ≡ Some reason → (reason ≡ RetryLimit) × (m.agreed.tries ≤ wrong)
    late true spent is =
        let same : RetryLimit ≡ reason = cc in
        let least : m.agreed.tries ≤ m.sender.polls = elim (leb_tells m.agreed.tries m.sender.polls) [ inl (e, le) ↦ le | inr (e, lt) ↦ (let f : true ≡ false = sym spent ∙ e in cc) ] in
        (sym same, omega (arith, least, few))
    late false spent is = never is

    by_poll : (poll : Poll) → (poll_timed poll m).closed ≡ Some reason → (reason ≡ RetryLimit) × (m.agreed.tries ≤ wrong)
    by_poll NoPoll is = first m.sender.unacked is
    by_poll Due is = never is
    by_poll Waits is = late (nat_le m.agreed.tries m.sender.polls) refl is

-- a frame does so too
pub frame_closes : (t : Terms) (f : List (List ℕ)) (wrong : ℕ) (p : Machines) (pdu : List ℕ) (rest : List (List ℕ)) (reason : ErtmReason) → Ends t (pdu ∷ rest) f p → Paid wrong p → (machine_heard (answer_in t.mine.receive_mps pdu) p.a.machine).closed ≡ Some reason
    → (reason ≡ RetryLimit) × (p.a.machine.agreed.tries ≤ wrong)
frame_closes t f wrong p pdu rest reason ends paid closes = by after_stands.only_x
  where
    after : Machines
    after = machines_turned (ByB Pass) p

    machine_is : after.a.machine ≡ machine_heard (answer_in t.mine.receive_mps pdu) p.a.machine
    machine_is = front-machine t p pdu rest (ends-front t f p pdu rest ends)

    after_stands : StandsBoth after
    after_stands = turns-stand (ByB Pass) p tt ends.joins.stands

    shut : after.a.machine.closed ≡ Some reason
    shut = ap (λ (m : Ertm). m.closed) machine_is ∙ closes

    by : OnlyRetries after.a.machine.closed → (reason ≡ RetryLimit) × (p.a.machine.agreed.tries ≤ wrong)
    by (inl none) = let never : None ≡ Some reason = sym none ∙ shut in absurd cc
    by (inr spent) =
        let same : Some RetryLimit ≡ Some reason = sym spent ∙ shut in
        let one : RetryLimit ≡ reason = cc in
        let limit = (turned_accounts wrong (ByB Pass) p tt ends.joins.stands paid).there.affords.limit spent in
        let agreed : after.a.machine.agreed ≡ p.a.machine.agreed = ap (λ (m : Ertm). m.agreed) machine_is ∙ heard-agreed (answer_in t.mine.receive_mps pdu) p.a.machine in
        let tries = ap (λ (a : Agreed). a.tries) agreed in
        (sym one, omega (arith, limit, tries))

-- ---- the near end

pub near_is_paid : (t : Terms) (channel : Channel) (pair : Pair) (wrong : ℕ) → IsMate t.mine channel.own channel.peer pair.near.run.value → IsThere channel.peer pair.far.run.value → Joint t channel (Paid wrong) pair → EndIsPaid wrong channel.own pair.near
near_is_paid t channel pair wrong mate (far_held, far_setup, far_found, far_has) h m carries = record {
  given = subst (λ (x : Ertm). AllByRecursion (λ (kept : Kept). kept.given ≤ wrong + 1) x.sender.unacked) (sym same) x.kept.there.affords.given;
  polled = few;
  at_timer = λ reason closes. timer_closes m wrong reason was_open few closes;
  at_frame = λ pdu behind reason coming_is here closes.
      let first : n ≡ pdu ∷ under_way channel.own behind = ap (under_way channel.own) coming_is ∙ ap (λ b. cond b (pdu ∷ under_way channel.own behind) (under_way channel.own behind)) here in
      let read : read_by m pdu ≡ answer_in t.mine.receive_mps pdu = ap (λ (a : Agreed). answer_in a.receive_mps pdu) alike in
      let shut : (machine_heard (answer_in t.mine.receive_mps pdu) x.pair.a.machine).closed ≡ Some reason =
      sym (ap (λ (y : Ertm). (machine_heard (read_by m pdu) y).closed) same ∙ ap (λ a. (machine_heard a x.pair.a.machine).closed) read) ∙ closes in
      let (why, tries) = frame_closes t f wrong x.pair pdu (under_way channel.own behind) reason (subst (λ c. Ends t c f x.pair) first x.ends) x.kept shut in
      let agreed = ap (λ (y : Ertm). y.agreed.tries) same in
      (why, omega (arith, tries, agreed));
}
  where
    n : List (List ℕ)
    n = under_way channel.own pair.near.coming

    f : List (List ℕ)
    f = under_way channel.peer pair.far.coming

    o : OpenAt channel.own pair.near.run.value (Retransmitting m)
    o = open-at channel.own pair.near.run.value (Retransmitting m) carries

    near_so : Both t (under_way channel.own pair.near.coming) (under_way channel.peer pair.far.coming) (Paid wrong) pair.far.policy channel.peer pair.far.run.value (is_open o.setup) o.setup.carrier
    near_so =
        kept-on (On (Both t (under_way channel.own pair.near.coming) (under_way channel.peer pair.far.coming) (Paid wrong) pair.far.policy channel.peer pair.far.run.value)) (pair.near.policy.wish o.held.psm) o.held.stage o.setup o.has
        (subst (HeldKeeps pair.near.policy (On (Both t (under_way channel.own pair.near.coming) (under_way channel.peer pair.far.coming) (Paid wrong) pair.far.policy channel.peer pair.far.run.value))) o.found h.held)

    x : Twins t (under_way channel.own pair.near.coming) (under_way channel.peer pair.far.coming) (Paid wrong) (is_open o.setup) o.setup.carrier (is_open far_setup) far_setup.carrier
    x =
        kept-on (On (Twins t (under_way channel.own pair.near.coming) (under_way channel.peer pair.far.coming) (Paid wrong) (is_open o.setup) o.setup.carrier)) (pair.far.policy.wish far_held.psm) far_held.stage far_setup far_has
        (subst (HeldKeeps pair.far.policy (On (Twins t (under_way channel.own pair.near.coming) (under_way channel.peer pair.far.coming) (Paid wrong) (is_open o.setup) o.setup.carrier))) far_found near_so.held)

    alike : m.agreed ≡ t.mine
    alike = mate.enhanced o.held o.setup (Retransmitting m) o.found o.has o.is o.opened

    settled : (m ≡ x.pair.a.machine) × (m.closed ≡ None)
    settled = settle t.mine x.pair.a (is_open o.setup) m alike (subst (Holds t.mine x.pair.a (is_open o.setup)) o.is x.near_holds)

    same : m ≡ x.pair.a.machine
    same = settled.0

    was_open : m.closed ≡ None
    was_open = settled.1

    few : m.sender.polls ≤ wrong
    few = subst (λ (y : Ertm). y.sender.polls ≤ wrong) (sym same) x.kept.there.affords.polled

-- ---- both ends

-- a machine is one of a channel for which its host wishes enhanced mode
pub wishes-it : (policy : Policy) (run : Run) (channel : Channel) (m : Ertm) → IsRunOf policy run → IsOf channel (read_at channel.own (reading run.said).entries) → carrier_at channel.own run.value ≡ Some (Retransmitting m) → (policy.wish channel.psm).mode ≡ Enhanced
wishes-it policy run channel m (list, runs) has carries =
    let (found, is_of, mode, heard) = agreements-are_on_heard policy list channel.own (Retransmitting m) (subst (λ (r : Run). carrier_at channel.own r.value ≡ Some (Retransmitting m)) runs carries) in
    let same : found ≡ channel = same_channel found channel (read_at channel.own (reading (run_of policy list).said).entries) is_of (subst (λ (r : Run). IsOf channel (read_at channel.own (reading r.said).entries)) runs has) in
    subst (λ (c : Channel). (policy.wish c.psm).mode ≡ Enhanced) same (sym mode)

pub machines-are_paid : MachinesArePaid
machines-are_paid near far turns channel uttered read passes have can there beyond = (
  λ m carries. near_is_paid t channel (pair_of near far turns) wrong (common (inl (wishes-it near _ channel m (each-end_runs near far turns).0 have.near_has carries)) turns).near_mate beyond (joint (inl (wishes-it near _ channel m (each-end_runs near far turns).0 have.near_has carries))) m carries,
  λ m carries.
      let wish : OneWishes near far channel.psm Enhanced = inr (wishes-it far _ (mirrored channel) m (each-end_runs near far turns).1 have.far_has carries) in
      near_is_paid (other_terms t) (mirrored channel) (turned (pair_of near far turns)) wrong (common wish turns).far_mate there (turned_joint t channel (pair_of near far turns) (Paid wrong) (Paid wrong) (paid-swapped wrong) (joint wish)) m carries,
)
  where
    wrong : ℕ
    wrong = all_upsets (new_pair near far) turns

    near_bond : Bond near far turns Near channel.psm channel.own
    near_bond = bond-of near far turns read Near channel have.near_has can.near_can can.far_can

    far_bond : Bond near far turns Far channel.psm channel.peer
    far_bond = bond-of near far turns read Far (mirrored channel) have.far_has can.far_can can.near_can

    t : Terms
    t = terms_of near far turns channel near_bond far_bond

    suited : Suited t channel
    suited = fair-by near far turns channel have can near_bond far_bond

    common_so : OneWishes near far channel.psm Enhanced → (front behind : List Turn) → turns ≡ front ++ behind → Common t channel (pair_of near far front)
    common_so wish = common_at near far turns channel near_bond far_bond read have wish

    common : OneWishes near far channel.psm Enhanced → (all : List Turn) → Common t channel (pair_of near far turns)
    common wish all = common_so wish turns [] (sym (append-nil turns))

    joint : OneWishes near far channel.psm Enhanced → Joint t channel (Paid wrong) (pair_of near far turns)
    joint wish =
        let e : all_upsets (new_pair near far) turns + 0 ≡ wrong = omega arith in
        subst (λ k. Joint t channel (Paid k) (pair_of near far turns)) e
        (all_paid near far t channel 0 turns [] turns suited (common_so wish) refl uttered passes (both-ready near far turns channel uttered read passes have near_bond far_bond) (first-runs IsUttered near far) (first_joint near far t channel suited (Paid 0) (record { there = new_account t.mine t.other; back = new_account t.other t.mine })))

-- ---- calm is quiet

pub quiet_turned : (pair : Pair) → is_quiet (turned pair) ≡ is_quiet pair
quiet_turned pair = by (eqb (length pair.near.coming) 0) (eqb (length pair.far.coming) 0) (list_any is_answer pair.near.run.value.queue) (list_any is_answer pair.far.run.value.queue)
  where
    by : (a b c d : Bool) → ((b && a) && (not d && not c)) ≡ ((a && b) && (not c && not d))
    by true true true true = refl
    by true true true false = refl
    by true true false true = refl
    by true true false false = refl
    by true false c d = refl
    by false true c d = refl
    by false false c d = refl

pub less_upset : (fires quiet rest : Bool) → one_if (fires && not quiet) ≤ one_if (fires && not (quiet && rest))
less_upset false quiet rest = omega arith
less_upset true false rest = omega arith
less_upset true true rest = omega arith

pub near_less : (happening : Happening) (pair : Pair) → disturbs happening pair ≤ upsets happening pair
near_less (Acts occurrence) pair = less_upset (is_firing occurrence) (is_quiet pair) (not (list_any gives pair.near.run.value.held) && not (owes pair.far.run.value))
near_less (Puts pdu) pair = omega arith
near_less Takes pair = omega arith
near_less Repeats pair = omega arith
near_less Loses pair = omega arith
near_less (Damages pdu) pair = omega arith

pub disturbs_turned : (happening : Happening) (pair : Pair) → disturbs happening (turned pair) ≡ disturbs happening pair
disturbs_turned (Acts occurrence) pair = ap (λ b. one_if (is_firing occurrence && not b)) (quiet_turned pair)
disturbs_turned (Puts pdu) pair = refl
disturbs_turned Takes pair = refl
disturbs_turned Repeats pair = refl
disturbs_turned Loses pair = refl
disturbs_turned (Damages pdu) pair = refl

pub side_less : (side : Side) (happening : Happening) (pair : Pair) → disturbs happening pair ≤ upsets happening (seen_from side pair)
side_less Near happening pair = near_less happening pair
side_less Far happening pair = let same = disturbs_turned happening pair in let less = near_less happening (turned pair) in omega (arith, same, less)

pub calm-is_quiet : CalmIsQuiet
calm-is_quiet pair [] = omega arith
calm-is_quiet pair (turn ∷ turns) = let here = side_less turn.side turn.happening pair in let rest = calm-is_quiet (pair_after pair turn) turns in omega (arith, here, rest)

-- ---- settled hosts

pub less_disturb : (fires quiet gives owes : Bool) → (fires ≡ true → quiet ≡ true → (gives ≡ false) × (owes ≡ false)) → one_if (fires && not (quiet && (not gives && not owes))) ≤ one_if (fires && not quiet)
less_disturb false quiet gives owes so = omega arith
less_disturb true false gives owes so = omega arith
less_disturb true true gives owes so =
    let (silent, clear) = so refl refl in
    let none : one_if (not (not gives && not owes)) ≡ 0 = ap (λ b. one_if (not (not b && not owes))) silent ∙ ap (λ b. one_if (not (not b))) clear in
    omega (arith, none)

pub near_settled : (happening : Happening) (pair : Pair) → IsSettledAt happening pair → upsets happening pair ≤ disturbs happening pair
near_settled (Acts occurrence) pair so = less_disturb (is_firing occurrence) (is_quiet pair) (list_any gives pair.near.run.value.held) (owes pair.far.run.value) so
near_settled (Puts pdu) pair so = omega arith
near_settled Takes pair so = omega arith
near_settled Repeats pair so = omega arith
near_settled Loses pair so = omega arith
near_settled (Damages pdu) pair so = omega arith

pub side_settled : (side : Side) (happening : Happening) (pair : Pair) → IsSettledAt happening (seen_from side pair) → upsets happening (seen_from side pair) ≤ disturbs happening pair
side_settled Near happening pair so = near_settled happening pair so
side_settled Far happening pair so = let same = disturbs_turned happening pair in let less = near_settled happening (turned pair) so in omega (arith, same, less)

pub all_settled : (near far : Policy) (past rest : List Turn) → EachAfter (λ front turn. IsSettledAt turn.happening (seen_from turn.side (pair_of near far front))) past rest → all_upsets (pair_of near far past) rest ≤ disturbances (pair_of near far past) rest
all_settled near far past [] so = omega arith
all_settled near far past (turn ∷ rest) (now, so) =
    let next : pair_of near far (past ++ turn ∷ []) ≡ pair_after (pair_of near far past) turn = fold-append pair_after (new_pair near far) past (turn ∷ []) in
    let here = side_settled turn.side turn.happening (pair_of near far past) now in
    let later = subst (λ p. all_upsets p rest ≤ disturbances p rest) next (all_settled near far (past ++ turn ∷ []) rest so) in
    omega (arith, here, later)

pub settled-upset_no_more : SettledUpsetNoMore
settled-upset_no_more near far turns so = all_settled near far [] turns so
