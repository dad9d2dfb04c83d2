-- The machines of a channel that two hosts have in common follow the turns of the hosts as two ends.
use Rattle.std.proofs.Common.{◌≡◌, List, [], ◌∷◌, ◌++◌, refl, sym, ap, subst, ◌∙◌, inl, inr, append_assoc, append-nil}
use Rattle.std.proofs.lemmas.List.Sums.{fold-append}
use Rattle.channel_laws.specs.capture.specs.Histories.{EachAfter}
use Rattle.channel_laws.specs.l2cap_config.specs.declared.wish.Mode.TheVariants.{Enhanced}
use Rattle.channel_laws.specs.ertm_model.specs.Pair.{Give, Fire, Submit, Pass, Lose, Repeat, Pair as Machines, Turn as Deed, ByA, ByB, turned as machines_turned, all_turned, MayTurn, AllMay, new_pair as new_ends}
use Rattle.channel_laws.specs.link_talk.specs.declared.channel.Channel.{Channel}
use Rattle.channel_laws.specs.channel_model.specs.Value.{Retransmitting}
use Rattle.channel_laws.specs.channel_model.specs.Policies.{Policy}
use Rattle.channel_laws.specs.channel_model.specs.Changing.{is_open}
use Rattle.channel_laws.specs.Common.{mirrored}
use Rattle.channel_laws.specs.Ends.{DoesSo, end_at}
use Rattle.channel_laws.specs.Frames.{IsUttered}
use Rattle.channel_laws.specs.Modes.{OneWishes}
use Rattle.channel_laws.specs.Pairs.{Pair, new_pair, Happening, Acts, Puts, Takes, Repeats, Loses, Damages, happens_near, Side, Near, Far, turned, Turn, happens_at, pair_after, pair_of}
use Rattle.channel_laws.specs.Pipes.{IsCarried}
use Rattle.channel_laws.proofs.Bonds.{Bond, bond-of}
use Rattle.channel_laws.proofs.Flowing.{sound-of, Common, Fair as Suited, terms_of, fair-by, common_at}
use Rattle.channel_laws.proofs.Joining.{Terms, Holds, other_terms}
use Rattle.channel_laws.proofs.Keeping.{HeldKeeps}
use Rattle.channel_laws.proofs.Pairing.{BothRun, at-runs, first-runs, each-end_runs}
use Rattle.channel_laws.proofs.Partaking.{kept-on, settle}
use Rattle.channel_laws.proofs.Piped.{under_way}
use Rattle.recovered_laws.specs.TwoEnds.{IsDeedAt, AreDeeds, MachinesAreTwoEnds}
use Rattle.recovered_laws.proofs.Moving.{swap}
use Rattle.recovered_laws.proofs.Twins.{On, Twins, Both}
use Rattle.recovered_laws.proofs.Turning.{Moves, Joint, near-turns}
use Rattle.recovered_laws.proofs.Paying.{BothPrepared, turned_joint, first_joint}
use Rattle.recovered_laws.proofs.Readying.{both-ready}
use Rattle.recovered_laws.proofs.Settling.{OpenAt, open-at, wishes-it}

-- ---- one more turn

pub none_more : (turns : List Turn) (turn : Turn) (deeds : List Deed) → AreDeeds turns deeds → AreDeeds (turns ++ turn ∷ []) deeds
none_more [] turn [] are = tt
none_more [] turn (deed ∷ deeds) are = absurd are
none_more (first ∷ turns) turn [] are = none_more turns turn [] are
none_more (first ∷ turns) turn (deed ∷ deeds) (inl are) = inl (none_more turns turn (deed ∷ deeds) are)
none_more (first ∷ turns) turn (deed ∷ deeds) (inr (is, are)) = inr (is, none_more turns turn deeds are)

pub one_more : (turns : List Turn) (turn : Turn) (deeds : List Deed) (deed : Deed) → IsDeedAt turn.side turn.happening deed → AreDeeds turns deeds → AreDeeds (turns ++ turn ∷ []) (deeds ++ deed ∷ [])
one_more [] turn [] deed is are = inr (is, tt)
one_more [] turn (other ∷ deeds) deed is are = absurd are
one_more (first ∷ turns) turn [] deed is are = inl (one_more turns turn [] deed is are)
one_more (first ∷ turns) turn (other ∷ deeds) deed is (inl are) = inl (one_more turns turn (other ∷ deeds) deed is are)
one_more (first ∷ turns) turn (other ∷ deeds) deed is (inr (here, are)) = inr (here, one_more turns turn deeds deed is are)

pub all_more : (deeds : List Deed) (deed : Deed) (p : Machines) → all_turned (deeds ++ deed ∷ []) p ≡ machines_turned deed (all_turned deeds p)
all_more [] deed p = refl
all_more (first ∷ deeds) deed p = all_more deeds deed (machines_turned first p)

pub may_more : (deeds : List Deed) (deed : Deed) (p : Machines) → AllMay deeds p → MayTurn deed (all_turned deeds p) → AllMay (deeds ++ deed ∷ []) p
may_more [] deed p may now = (now, tt)
may_more (first ∷ deeds) deed p (here, may) now = (here, may_more deeds deed (machines_turned first p) may now)

-- ---- what is kept

pub record Follows (t : Terms) (turns : List Turn) (p : Machines) : Type 0 where
  pub deeds : List Deed
  pub are : AreDeeds turns deeds
  pub may : AllMay deeds (new_ends t.mine t.other)
  pub is : p ≡ all_turned deeds (new_ends t.mine t.other)

pub stays : (t : Terms) (turns : List Turn) (turn : Turn) (p : Machines) → Follows t turns p → Follows t (turns ++ turn ∷ []) p
stays t turns turn p h = record { deeds = h.deeds; are = none_more turns turn h.deeds h.are; may = h.may; is = h.is }

pub does : (t : Terms) (turns : List Turn) (turn : Turn) (deed : Deed) → IsDeedAt turn.side turn.happening deed → (p : Machines) → MayTurn deed p → Follows t turns p → Follows t (turns ++ turn ∷ []) (machines_turned deed p)
does t turns turn deed is p may h = record {
  deeds = h.deeds ++ deed ∷ [];
  are = one_more turns turn h.deeds deed is h.are;
  may = may_more h.deeds deed (new_ends t.mine t.other) h.may (subst (MayTurn deed) h.is may);
  is = ap (machines_turned deed) h.is ∙ sym (all_more h.deeds deed (new_ends t.mine t.other));
}

-- as the other host has it
abbrev pub Turned : Terms → List Turn → Machines → Type 0
Turned t turns p = Follows t turns (swap p)

pub by_near : (t : Terms) (turns : List Turn) (happening : Happening) → (let turn : Turn = record { side = Near; happening = happening } in Moves happening (Follows t turns) (Follows t (turns ++ turn ∷ [])))
by_near t turns (Acts occurrence) = (
  λ fires p stands may h. does t turns (record { side = Near; happening = Acts occurrence }) (ByA Fire) (inl (fires, refl)) p may h,
  λ sdu p stands may h. does t turns (record { side = Near; happening = Acts occurrence }) (ByA (Submit sdu)) (inr (sdu, refl)) p may h,
)
by_near t turns (Puts pdu) = λ p stands may h. does t turns (record { side = Near; happening = Puts pdu }) (ByA Give) refl p may h
by_near t turns Takes = λ p stands may h. does t turns (record { side = Near; happening = Takes }) (ByB Pass) refl p may h
by_near t turns Repeats = λ p stands may h. does t turns (record { side = Near; happening = Repeats }) (ByB Repeat) refl p may h
by_near t turns Loses = λ p stands may h. does t turns (record { side = Near; happening = Loses }) (ByB Lose) refl p may h
by_near t turns (Damages pdu) = λ p stands may h. does t turns (record { side = Near; happening = Damages pdu }) (ByB Lose) refl p may h

pub by_far : (t : Terms) (turns : List Turn) (happening : Happening) → (let turn : Turn = record { side = Far; happening = happening } in Moves happening (Turned t turns) (Turned t (turns ++ turn ∷ [])))
by_far t turns (Acts occurrence) = (
  λ fires p stands may h. does t turns (record { side = Far; happening = Acts occurrence }) (ByB Fire) (inl (fires, refl)) (swap p) may h,
  λ sdu p stands may h. does t turns (record { side = Far; happening = Acts occurrence }) (ByB (Submit sdu)) (inr (sdu, refl)) (swap p) may h,
)
by_far t turns (Puts pdu) = λ p stands may h. does t turns (record { side = Far; happening = Puts pdu }) (ByB Give) refl (swap p) may h
by_far t turns Takes = λ p stands may h. does t turns (record { side = Far; happening = Takes }) (ByA Pass) refl (swap p) may h
by_far t turns Repeats = λ p stands may h. does t turns (record { side = Far; happening = Repeats }) (ByA Repeat) refl (swap p) may h
by_far t turns Loses = λ p stands may h. does t turns (record { side = Far; happening = Loses }) (ByA Lose) refl (swap p) may h
by_far t turns (Damages pdu) = λ p stands may h. does t turns (record { side = Far; happening = Damages pdu }) (ByA Lose) refl (swap p) may h

-- ---- a turn of either

pub side_follows : (near far : Policy) (t : Terms) (channel : Channel) (pair : Pair) (turns : List Turn) (side : Side) (happening : Happening) → Suited t channel → BothRun IsUttered near far pair → BothPrepared t channel pair → Common t channel pair → Common t channel (happens_at side happening pair)
    → DoesSo IsUttered happening (end_at side pair) → IsCarried happening (end_at side pair) → Joint t channel (Follows t turns) pair → (let turn : Turn = record { side = side; happening = happening } in Joint t channel (Follows t (turns ++ turn ∷ [])) (happens_at side happening pair))
side_follows near far t channel pair turns Near happening suited runs ready before after uttered passes h =
    near-turns t channel pair (Follows t turns) _ happening (record { own_high = suited.own_high; peer_high = suited.peer_high; suits = suited.there; sound = sound-of IsUttered near pair.near runs.near_runs; mate = before.near_mate; prepared = ready.0 })
    (stays t turns _) (by_near t turns happening) after.near_mate uttered passes h
side_follows near far t channel pair turns Far happening suited runs ready before after uttered passes h =
    let other : Pair = turned pair in
    let turn : Turn = record { side = Far; happening = happening } in
    turned_joint (other_terms t) (mirrored channel) (happens_near happening other) (Turned t (turns ++ turn ∷ [])) (Follows t (turns ++ turn ∷ [])) (λ p so. so)
    (near-turns (other_terms t) (mirrored channel) other (Turned t turns) (Turned t (turns ++ turn ∷ [])) happening (record { own_high = suited.peer_high; peer_high = suited.own_high; suits = suited.back; sound = sound-of IsUttered far pair.far runs.far_runs; mate = before.far_mate; prepared = ready.1 })
    (λ p so. stays t turns turn (swap p) so) (by_far t turns happening) after.far_mate uttered passes
    (turned_joint t channel pair (Follows t turns) (Turned t turns) (λ p so. so) h))

-- ---- all turns

pub all_follow : (near far : Policy) (t : Terms) (channel : Channel) (all past rest : List Turn) → Suited t channel → ((front behind : List Turn) → all ≡ front ++ behind → Common t channel (pair_of near far front)) → all ≡ past ++ rest
    → EachAfter (λ front turn. DoesSo IsUttered turn.happening (end_at turn.side (pair_of near far front))) past rest → EachAfter (λ front turn. IsCarried turn.happening (end_at turn.side (pair_of near far front))) past rest
    → ((front behind : List Turn) → all ≡ front ++ behind → BothPrepared t channel (pair_of near far front)) → BothRun IsUttered near far (pair_of near far past) → Joint t channel (Follows t past) (pair_of near far past) → Joint t channel (Follows t all) (pair_of near far all)
all_follow near far t channel all past [] suited common is uttered passes ready runs h = subst (λ list. Joint t channel (Follows t list) (pair_of near far list)) (sym (is ∙ append-nil past)) h
all_follow near far t channel all past (turn ∷ rest) suited common is (now, uttered) (passes, passing) ready runs h =
    all_follow near far t channel all (past ++ turn ∷ []) rest suited common further uttered passing ready
    (subst (BothRun IsUttered near far) (sym next) (at-runs IsUttered near far turn.side turn.happening pair (λ pdu v. tt) now runs))
    (subst (Joint t channel (Follows t (past ++ turn ∷ []))) (sym next) (side_follows near far t channel pair past turn.side turn.happening suited runs (ready past (turn ∷ rest) is) (common past (turn ∷ rest) is) (subst (Common t channel) next (common (past ++ turn ∷ []) rest further)) now passes h))
  where
    pair : Pair
    pair = pair_of near far past

    next : pair_of near far (past ++ turn ∷ []) ≡ happens_at turn.side turn.happening pair
    next = fold-append pair_after (new_pair near far) past (turn ∷ [])

    further : all ≡ (past ++ turn ∷ []) ++ rest
    further = is ∙ sym (append_assoc past (turn ∷ []) rest)

pub machines-are_two_ends : MachinesAreTwoEnds
machines-are_two_ends near far turns channel uttered read passes have can near_machine far_machine near_carries far_carries = record {
  near_agreed = t.mine;
  far_agreed = t.other;
  meets = suited.there.meets;
  met = suited.back.meets;
  deeds = x.kept.deeds;
  are = x.kept.are;
  may = x.kept.may;
  near_is = near_same ∙ ap (λ (p : Machines). p.a.machine) x.kept.is;
  far_is = far_same ∙ ap (λ (p : Machines). p.b.machine) x.kept.is;
}
  where
    near_bond : Bond near far turns Near channel.psm channel.own
    near_bond = bond-of near far turns read Near channel have.near_has can.near_can can.far_can

    far_bond : Bond near far turns Far channel.psm channel.peer
    far_bond = bond-of near far turns read Far (mirrored channel) have.far_has can.far_can can.near_can

    t : Terms
    t = terms_of near far turns channel near_bond far_bond

    suited : Suited t channel
    suited = fair-by near far turns channel have can near_bond far_bond

    wish : OneWishes near far channel.psm Enhanced
    wish = inl (wishes-it near (pair_of near far turns).near.run channel near_machine (each-end_runs near far turns).0 have.near_has near_carries)

    common : (front behind : List Turn) → turns ≡ front ++ behind → Common t channel (pair_of near far front)
    common = common_at near far turns channel near_bond far_bond read have wish

    now : Common t channel (pair_of near far turns)
    now = common turns [] (sym (append-nil turns))

    pair : Pair
    pair = pair_of near far turns

    joint : Joint t channel (Follows t turns) (pair_of near far turns)
    joint =
        all_follow near far t channel turns [] turns suited common refl uttered passes (both-ready near far turns channel uttered read passes have near_bond far_bond) (first-runs IsUttered near far)
        (first_joint near far t channel suited (Follows t []) (record { deeds = []; are = tt; may = tt; is = refl }))

    o : OpenAt channel.own (pair_of near far turns).near.run.value (Retransmitting near_machine)
    o = open-at channel.own (pair_of near far turns).near.run.value (Retransmitting near_machine) near_carries

    q : OpenAt channel.peer (pair_of near far turns).far.run.value (Retransmitting far_machine)
    q = open-at channel.peer (pair_of near far turns).far.run.value (Retransmitting far_machine) far_carries

    near_so : Both t (under_way channel.own (pair_of near far turns).near.coming) (under_way channel.peer (pair_of near far turns).far.coming) (Follows t turns) (pair_of near far turns).far.policy channel.peer (pair_of near far turns).far.run.value (is_open o.setup) o.setup.carrier
    near_so =
        kept-on (On (Both t (under_way channel.own (pair_of near far turns).near.coming) (under_way channel.peer (pair_of near far turns).far.coming) (Follows t turns) (pair_of near far turns).far.policy channel.peer (pair_of near far turns).far.run.value)) ((pair_of near far turns).near.policy.wish o.held.psm) o.held.stage o.setup o.has
        (subst (HeldKeeps (pair_of near far turns).near.policy (On (Both t (under_way channel.own (pair_of near far turns).near.coming) (under_way channel.peer (pair_of near far turns).far.coming) (Follows t turns) (pair_of near far turns).far.policy channel.peer (pair_of near far turns).far.run.value))) o.found joint.held)

    x : Twins t (under_way channel.own (pair_of near far turns).near.coming) (under_way channel.peer (pair_of near far turns).far.coming) (Follows t turns) (is_open o.setup) o.setup.carrier (is_open q.setup) q.setup.carrier
    x =
        kept-on (On (Twins t (under_way channel.own (pair_of near far turns).near.coming) (under_way channel.peer (pair_of near far turns).far.coming) (Follows t turns) (is_open o.setup) o.setup.carrier)) ((pair_of near far turns).far.policy.wish q.held.psm) q.held.stage q.setup q.has
        (subst (HeldKeeps (pair_of near far turns).far.policy (On (Twins t (under_way channel.own (pair_of near far turns).near.coming) (under_way channel.peer (pair_of near far turns).far.coming) (Follows t turns) (is_open o.setup) o.setup.carrier))) q.found near_so.held)

    near_same : near_machine ≡ x.pair.a.machine
    near_same =
        (settle t.mine x.pair.a (is_open o.setup) near_machine (now.near_mate.enhanced o.held o.setup (Retransmitting near_machine) o.found o.has o.is o.opened) (subst (Holds t.mine x.pair.a (is_open o.setup)) o.is x.near_holds)).0

    far_same : far_machine ≡ x.pair.b.machine
    far_same = (settle t.other x.pair.b (is_open q.setup) far_machine (now.far_mate.enhanced q.held q.setup (Retransmitting far_machine) q.found q.has q.is q.opened) (subst (Holds t.other x.pair.b (is_open q.setup)) q.is x.far_holds)).0
