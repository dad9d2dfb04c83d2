-- The machines of a channel that two hosts have in common are paid by the turns that upset.
use Rattle.std.proofs.Common.{◌≡◌, ℕ, zero, suc, ◌+◌, ◌-◌, ◌≤◌, List, [], ◌∷◌, ◌++◌, length, Bool, true, false, cond, eqb, ◌&&◌, not, Option, Some, None, refl, sym, ap, subst, ◌∙◌, inl, inr, arith, append_assoc, append-nil}
use Rattle.std.specs.Prelude.{find, option_map, is_some}
use Rattle.std.specs.List.{list_any}
use Rattle.std.proofs.lemmas.Bool.{eqb-true, or_parts}
use Rattle.std.proofs.lemmas.List.Sums.{fold-append}
use Rattle.channel_laws.specs.capture.specs.Histories.{EachAfter}
use Rattle.channel_laws.specs.l2cap_config.specs.declared.wish.Agreed.{Agreed}
use Rattle.channel_laws.specs.ertm_frames.specs.Frames.{PlainFrame}
use Rattle.channel_laws.specs.ertm_model.specs.Value.{Reply, NoReply, Acknowledges, Rejects, Ertm}
use Rattle.channel_laws.specs.ertm_model.specs.Giving.{Giving, giving, frame_by, next_frame}
use Rattle.channel_laws.specs.ertm_model.specs.Pair.{Sent, End as MachineEnd, Give, Fire, Submit, Pass, Lose, Repeat, new_pair as new_ends, Pair as Machines, Turn as MachineTurn, ByA, ByB, turned as machines_turned}
use Rattle.channel_laws.specs.ertm_model.specs.Recovery.{adverse_turn}
use Rattle.channel_laws.specs.ertm_model.proofs.Accounts.{at_most-more}
use Rattle.channel_laws.specs.ertm_model.proofs.Affording.{Account, Accounts, turned_accounts}
use Rattle.channel_laws.specs.ertm_model.proofs.Inverting.{IsQuiet}
use Rattle.channel_laws.specs.ertm_model.proofs.Paying.{pays-more}
use Rattle.channel_laws.specs.ertm_model.proofs.Standing.{new-stands}
use Rattle.channel_laws.specs.link_talk.specs.declared.channel.Channel.{Channel}
use Rattle.channel_laws.specs.channel_model.specs.Value.{Carrier, Plain, Retransmitting, Setup, Stage, Requested, Connected, Leaving, Closing, Crossed, Held, Channels}
use Rattle.channel_laws.specs.channel_model.specs.Policies.{Policy}
use Rattle.channel_laws.specs.channel_model.specs.Changing.{has_own, held_at, is_answer, setup_of}
use Rattle.channel_laws.specs.channel_model.specs.Giving.{Framed, some_carrier_gives, stage_gives, gives}
use Rattle.channel_laws.specs.Adverse.{is_quiet, seen_from}
use Rattle.channel_laws.specs.Common.{mirrored}
use Rattle.channel_laws.specs.Ends.{DoesSo, end_at}
use Rattle.channel_laws.specs.Frames.{IsUttered}
use Rattle.channel_laws.specs.Pairs.{Pair, new_pair, Happening, Acts, Puts, Takes, Repeats, Loses, Damages, happens_near, Side, Near, Far, turned, Turn, happens_at, pair_after, pair_of}
use Rattle.channel_laws.specs.Pipes.{IsCarried}
use Rattle.channel_laws.specs.Tries.{one_if, is_firing}
use Rattle.channel_laws.proofs.Flowing.{sound-of, Common, Fair as Suited}
use Rattle.channel_laws.proofs.Joining.{AreSpelled, Terms, Holds, other_terms}
use Rattle.channel_laws.proofs.Keeping.{StageKeeps, HeldKeeps}
use Rattle.channel_laws.proofs.Partaking.{IsMate}
use Rattle.channel_laws.proofs.Pairing.{BothRun, at-runs}
use Rattle.channel_laws.proofs.Piped.{under_way}
use Rattle.recovered_laws.specs.Calm.{is_reply, owes_reply, carrier_owes, setup_owes, owes, is_calm, upsets, all_upsets}
use Rattle.recovered_laws.proofs.Moving.{swap}
use Rattle.recovered_laws.proofs.Twins.{OfEnd, On, Here, here-also, here-turned, Twins, twins-swapped, Both}
use Rattle.recovered_laws.proofs.Turning.{Move, Joint, Prepared, Fair, near-turns}
use Rattle.recovered_laws.proofs.Waking.{MayWake, wakes-free}

-- ---- what holds of both machines after so many turns that upset

abbrev pub Paid : ℕ → Machines → Type 0
Paid wrong p = Accounts wrong p.a p.b

pub account_more : (wrong : ℕ) (x y : MachineEnd) → Account wrong x y → Account (1 + wrong) x y
account_more wrong x y h = record {
  affords = record {
    given = at_most-more wrong (1 + wrong) x.machine.sender.unacked (omega arith) h.affords.given;
    polled = let e = h.affords.polled in omega arith;
    limit = λ e. let f = h.affords.limit e in omega arith;
  };
  ready = h.ready;
  pays = λ open'. let k = h.pays open' in record { a = k.a; a_is = k.a_is; pays = pays-more k.pays };
}

pub more : (extra wrong : ℕ) (p : Machines) → Paid wrong p → Paid (extra + wrong) p
more zero wrong p h = let e : 0 + wrong ≡ wrong = omega arith in rw e h
more (suc extra) wrong p h =
    let h' = more extra wrong p h in
    let e : suc extra + wrong ≡ 1 + (extra + wrong) = omega arith in
    rw e (record { there = account_more (extra + wrong) p.a p.b h'.there; back = account_more (extra + wrong) p.b p.a h'.back })

-- where a turn of them costs no more
pub moved : (extra wrong : ℕ) (turn : MachineTurn) → adverse_turn turn ≤ extra → Move turn (Paid wrong) (Paid (extra + wrong))
moved extra wrong turn few p stands may h = by extra few (turned_accounts wrong turn p may stands h)
  where
    by : (extra : ℕ) → adverse_turn turn ≤ extra → Paid (adverse_turn turn + wrong) (machines_turned turn p) → Paid (extra + wrong) (machines_turned turn p)
    by extra few paid =
        let e : (extra - adverse_turn turn) + (adverse_turn turn + wrong) ≡ extra + wrong = omega (arith, few) in
        subst (λ k. Paid k (machines_turned turn p)) e (more (extra - adverse_turn turn) (adverse_turn turn + wrong) (machines_turned turn p) paid)

-- ---- what is known of the carrier of a channel

abbrev pub With : (Option Carrier → Type 0) → OfEnd → OfEnd
With F Q opened carrier = F carrier × Q opened carrier

pub here_with : (policy : Policy) (own : ℕ) (F : Option Carrier → Type 0) (Q : OfEnd) (v : Channels) → F None → ((held : Held) (setup : Setup) → held_at own v ≡ Some held → setup_of held.stage ≡ Some setup → F setup.carrier) → Here policy own Q v → Here policy own (With F Q) v
here_with policy own F Q v none so h = record { held = of (held_at own v) refl h.held; before = λ above. (none, h.before above) }
  where
    at : (held : Held) → held_at own v ≡ Some held → (stage : Stage) → held.stage ≡ stage → StageKeeps (On Q) (policy.wish held.psm) stage → StageKeeps (On (With F Q)) (policy.wish held.psm) stage
    at held found (Requested request) is was = (none, was)
    at held found (Connected peer setup) is was = (so held setup found (ap setup_of is), was)
    at held found (Leaving peer setup request) is was = (so held setup found (ap setup_of is), was)
    at held found (Closing peer request checked) is was = tt
    at held found (Crossed peer request) is was = tt

    of : (held : Option Held) → held_at own v ≡ held → HeldKeeps policy (On Q) held → HeldKeeps policy (On (With F Q)) held
    of None found was = tt
    of (Some held) found was = at held found held.stage refl was

-- ---- a calm link

abbrev pub Silent : Option Carrier → Type 0
Silent carrier = (machine : Ertm) → carrier ≡ Some (Retransmitting machine) → giving machine ≡ None

abbrev pub Clear : Option Carrier → Type 0
Clear carrier = (machine : Ertm) → carrier ≡ Some (Retransmitting machine) → owes_reply machine ≡ false

-- of a host where none is so
pub none_found : (p : Held → Bool) (hs : List Held) → list_any p hs ≡ false → (own : ℕ) (held : Held) → find (has_own own) hs ≡ Some held → p held ≡ false
none_found p [] none own held found = cc
none_found p (x ∷ hs) none own held found = by (has_own own x) (λ rest. none_found p hs off.1 own held rest) found
  where
    off : (p x ≡ false) × (list_any p hs ≡ false)
    off = or_parts (p x) (list_any p hs) none

    by : (same : Bool) → (find (has_own own) hs ≡ Some held → p held ≡ false) → cond same (Some x) (find (has_own own) hs) ≡ Some held → p held ≡ false
    by true rest found = let one : x ≡ held = cc in ap p (sym one) ∙ off.0
    by false rest found = rest found

pub not_some : {X : Type 0} (x : Option X) → is_some x ≡ false → x ≡ None
not_some None is = refl
not_some (Some x) is = cc

pub silent_frame : (machine : Ertm) → next_frame machine ≡ None → giving machine ≡ None
silent_frame machine none = by (giving machine) none
  where
    by : (g : Option Giving) → frame_by g machine ≡ None → g ≡ None
    by None is = refl
    by (Some g) is = cc

pub framed_none : (peer : ℕ) (machine : Ertm) → option_map (Framed peer) (next_frame machine) ≡ None → giving machine ≡ None
framed_none peer machine is = by (next_frame machine) refl is
  where
    by : (frame : Option PlainFrame) → next_frame machine ≡ frame → option_map (Framed peer) frame ≡ None → giving machine ≡ None
    by None now is = silent_frame machine now
    by (Some frame) now is = cc

pub silent_stage : (stage : Stage) (setup : Setup) → setup_of stage ≡ Some setup → stage_gives stage ≡ None → Silent setup.carrier
silent_stage (Requested request) setup has none = cc
silent_stage (Connected peer s) setup has none = λ machine is. let same : s ≡ setup = cc in framed_none peer machine (ap (λ c. some_carrier_gives c peer) (sym (ap (λ (x : Setup). x.carrier) same ∙ is)) ∙ none)
silent_stage (Leaving peer s request) setup has none = λ machine is. let same : s ≡ setup = cc in framed_none peer machine (ap (λ c. some_carrier_gives c peer) (sym (ap (λ (x : Setup). x.carrier) same ∙ is)) ∙ none)
silent_stage (Closing peer request checked) setup has none = cc
silent_stage (Crossed peer request) setup has none = cc

-- ---- of both machines

pub quiet_reply : (m : Ertm) → m.closed ≡ None → owes_reply m ≡ false → IsQuiet m
quiet_reply m open' none =
    let (unpolled, unreplied) = or_parts m.receiver.polled (is_reply m.receiver.reply) none in
    record { open_ = open'; unpolled = unpolled; unreplied = by m.receiver.reply unreplied }
  where
    by : (reply : Reply) → is_reply reply ≡ false → reply ≡ NoReply
    by NoReply is = refl
    by Acknowledges is = cc
    by Rejects is = cc

pub quiet_held : (agreed : Agreed) (e : MachineEnd) (opened : Bool) (carrier : Option Carrier) → Clear carrier → Holds agreed e opened carrier → IsQuiet e.machine
quiet_held agreed e opened None clear new = subst (λ (x : MachineEnd). IsQuiet x.machine) (sym new) (record { open_ = refl; unpolled = refl; unreplied = refl })
quiet_held agreed e opened (Some (Plain a waiting)) clear new = subst (λ (x : MachineEnd). IsQuiet x.machine) (sym new) (record { open_ = refl; unpolled = refl; unreplied = refl })
quiet_held agreed e opened (Some (Retransmitting machine)) clear (inl (a, is, new)) = subst (λ (x : MachineEnd). IsQuiet x.machine) (sym new) (record { open_ = refl; unpolled = refl; unreplied = refl })
quiet_held agreed e opened (Some (Retransmitting machine)) clear (inr (is, now, open')) = subst IsQuiet is (quiet_reply machine open' (clear machine refl))

pub silent_held : (agreed : Agreed) (e : MachineEnd) (opened : Bool) (carrier : Option Carrier) → Silent carrier → Holds agreed e opened carrier → (e.machine.closed ≡ None) × (giving e.machine ≡ None)
silent_held agreed e opened None silent new = subst (λ (x : MachineEnd). (x.machine.closed ≡ None) × (giving x.machine ≡ None)) (sym new) (refl, refl)
silent_held agreed e opened (Some (Plain a waiting)) silent new = subst (λ (x : MachineEnd). (x.machine.closed ≡ None) × (giving x.machine ≡ None)) (sym new) (refl, refl)
silent_held agreed e opened (Some (Retransmitting machine)) silent (inl (a, is, new)) = subst (λ (x : MachineEnd). (x.machine.closed ≡ None) × (giving x.machine ≡ None)) (sym new) (refl, refl)
silent_held agreed e opened (Some (Retransmitting machine)) silent (inr (is, now, open')) = (ap (λ (x : Ertm). x.closed) (sym is) ∙ open', ap giving (sym is) ∙ silent machine refl)

pub none_spelled : (pdus : List (List ℕ)) (queue : List Sent) → pdus ≡ [] → AreSpelled pdus queue → queue ≡ []
none_spelled [] [] is spelled = refl
none_spelled [] (sent ∷ queue) is spelled = elim spelled [ ]
none_spelled (pdu ∷ pdus) queue is spelled = cc

-- so the near one may fire
abbrev pub Woken : ℕ → Machines → Type 0
Woken wrong p = Paid wrong p × MayWake p.a p.b

pub may_wake : (t : Terms) (n f : List (List ℕ)) (wrong : ℕ) (opened : Bool) (carrier : Option Carrier) (far_opened : Bool) (far_carrier : Option Carrier) → n ≡ [] → f ≡ [] → Silent carrier → Clear far_carrier → Twins t n f (Paid wrong) opened carrier far_opened far_carrier
    → Twins t n f (Woken wrong) opened carrier far_opened far_carrier
may_wake t n f wrong opened carrier far_opened far_carrier none_n none_f silent clear x =
    let (open', gives_none) = silent_held t.mine x.pair.a opened carrier silent x.near_holds in
    record {
      pair = x.pair;
      ends = x.ends;
      near_holds = x.near_holds;
      far_holds = x.far_holds;
      near_first = x.near_first;
      far_first = x.far_first;
      kept = (
        x.kept,
        record {
          open_x = open';
          silent_x = gives_none;
          quiet_y = quiet_held t.other x.pair.b far_opened far_carrier clear x.far_holds;
          none_x = none_spelled f x.pair.a.queue none_f x.ends.joins.near_flies;
          none_y = none_spelled n x.pair.b.queue none_n x.ends.joins.far_flies;
        },
      );
    }

-- ---- a turn of the near end

pub calm_parts : (pair : Pair) → is_calm pair ≡ true → ((pair.near.coming ≡ []) × (pair.far.coming ≡ [])) × ((list_any gives pair.near.run.value.held ≡ false) × (owes pair.far.run.value ≡ false))
calm_parts pair calm =
    let (quiet, rest) = and_parts (is_quiet pair) (not (list_any gives pair.near.run.value.held) && not (owes pair.far.run.value)) calm in
    let (silent, clear) = and_parts (not (list_any gives pair.near.run.value.held)) (not (owes pair.far.run.value)) rest in
    let (still, said) = and_parts (eqb (length pair.near.coming) 0 && eqb (length pair.far.coming) 0) (not (list_any is_answer pair.near.run.value.queue) && not (list_any is_answer pair.far.run.value.queue)) quiet in
    let (near, far) = and_parts (eqb (length pair.near.coming) 0) (eqb (length pair.far.coming) 0) still in
    ((empty pair.near.coming near, empty pair.far.coming far), (off (list_any gives pair.near.run.value.held) silent, off (owes pair.far.run.value) clear))
  where
    and_parts : (a b : Bool) → (a && b) ≡ true → (a ≡ true) × (b ≡ true)
    and_parts true b is = (refl, is)
    and_parts false b is = cc

    empty : (list : List (List ℕ)) → eqb (length list) 0 ≡ true → list ≡ []
    empty [] is = refl
    empty (pdu ∷ list) is = let none : length (pdu ∷ list) ≡ 0 = eqb-true (length (pdu ∷ list)) 0 is in absurd (omega (arith, none))

    off : (b : Bool) → not b ≡ true → b ≡ false
    off true is = cc
    off false is = refl

pub calm_joint : (t : Terms) (channel : Channel) (pair : Pair) (wrong : ℕ) → is_calm pair ≡ true → Joint t channel (Paid wrong) pair → Joint t channel (Woken wrong) pair
calm_joint t channel pair wrong calm h =
    here-also near channel.own (With Silent (Both t n f (Paid wrong) far channel.peer w)) (Both t n f (Woken wrong) far channel.peer w) v
    (λ opened carrier (silent, so). here-also far channel.peer (With Clear (Twins t n f (Paid wrong) opened carrier)) (Twins t n f (Woken wrong) opened carrier) w
    (λ far_opened far_carrier (clear, x). may_wake t n f wrong opened carrier far_opened far_carrier (ap (under_way channel.own) parts.0.0) (ap (under_way channel.peer) parts.0.1) silent clear x)
    (here_with far channel.peer Clear (Twins t n f (Paid wrong) opened carrier) w (λ machine never. cc) clears so))
    (here_with near channel.own Silent (Both t n f (Paid wrong) far channel.peer w) v (λ machine never. cc) silences h)
  where
    near : Policy
    near = pair.near.policy

    far : Policy
    far = pair.far.policy

    v : Channels
    v = pair.near.run.value

    w : Channels
    w = pair.far.run.value

    n : List (List ℕ)
    n = under_way channel.own pair.near.coming

    f : List (List ℕ)
    f = under_way channel.peer pair.far.coming

    parts : ((pair.near.coming ≡ []) × (pair.far.coming ≡ [])) × ((list_any gives pair.near.run.value.held ≡ false) × (owes pair.far.run.value ≡ false))
    parts = calm_parts pair calm

    silences : (held : Held) (setup : Setup) → held_at channel.own v ≡ Some held → setup_of held.stage ≡ Some setup → Silent setup.carrier
    silences held setup found has = silent_stage held.stage setup has (not_some (stage_gives held.stage) (none_found gives v.held parts.1.0 channel.own held found))

    clears : (held : Held) (setup : Setup) → held_at channel.peer w ≡ Some held → setup_of held.stage ≡ Some setup → Clear setup.carrier
    clears held setup found has machine is =
        ap carrier_owes (sym is) ∙ (ap setup_owes (sym has) ∙ none_found (λ (x : Held). setup_owes (setup_of x.stage)) w.held parts.1.1 channel.peer held found)

pub near_paid : (t : Terms) (channel : Channel) (pair : Pair) (wrong : ℕ) (happening : Happening) → Fair t channel pair → IsMate t.mine channel.own channel.peer (happens_near happening pair).near.run.value → DoesSo IsUttered happening pair.near → IsCarried happening pair.near
    → Joint t channel (Paid wrong) pair → Joint t channel (Paid (upsets happening pair + wrong)) (happens_near happening pair)
near_paid t channel pair wrong (Acts occurrence) fair mate uttered passes h = by (is_firing occurrence) refl (is_calm pair) refl
  where
    cost : ℕ
    cost = upsets (Acts occurrence) pair

    submits : (extra : ℕ) (sdu : List ℕ) → Move (ByA (Submit sdu)) (Paid wrong) (Paid (extra + wrong))
    submits extra sdu = moved extra wrong (ByA (Submit sdu)) (omega arith)

    by : (fires : Bool) → is_firing occurrence ≡ fires → (calm : Bool) → is_calm pair ≡ calm → Joint t channel (Paid (upsets (Acts occurrence) pair + wrong)) (happens_near (Acts occurrence) pair)
    by false is calm calm_is =
        near-turns t channel pair (Paid wrong) (Paid (upsets (Acts occurrence) pair + wrong)) (Acts occurrence) fair (λ p paid. more (upsets (Acts occurrence) pair) wrong p paid)
        ((λ now. let never : false ≡ true = sym is ∙ now in absurd cc), submits (upsets (Acts occurrence) pair)) mate uttered passes h
    by true is false calm_is =
        let one : upsets (Acts occurrence) pair ≡ 1 = ap (λ b. one_if (b && not (is_calm pair))) is ∙ ap (λ b. one_if (not b)) calm_is in
        near-turns t channel pair (Paid wrong) (Paid (upsets (Acts occurrence) pair + wrong)) (Acts occurrence) fair (λ p paid. more (upsets (Acts occurrence) pair) wrong p paid)
        ((λ now. moved (upsets (Acts occurrence) pair) wrong (ByA Fire) (omega (arith, one))), submits (upsets (Acts occurrence) pair)) mate uttered passes h
    by true is true calm_is =
        near-turns t channel pair (Woken wrong) (Paid (upsets (Acts occurrence) pair + wrong)) (Acts occurrence) fair (λ p woken. more (upsets (Acts occurrence) pair) wrong p woken.0) (
          (λ now p stands may woken. more (upsets (Acts occurrence) pair) wrong (machines_turned (ByA Fire) p) (wakes-free wrong p.a p.b stands woken.1 woken.0)),
          (λ sdu p stands may woken. submits (upsets (Acts occurrence) pair) sdu p stands may woken.0),
        ) mate uttered passes (calm_joint t channel pair wrong calm_is h)
near_paid t channel pair wrong (Puts pdu) fair mate uttered passes h = near-turns t channel pair (Paid wrong) (Paid (0 + wrong)) (Puts pdu) fair (λ p paid. more 0 wrong p paid) (moved 0 wrong (ByA Give) (omega arith)) mate uttered passes h
near_paid t channel pair wrong Takes fair mate uttered passes h = near-turns t channel pair (Paid wrong) (Paid (0 + wrong)) Takes fair (λ p paid. more 0 wrong p paid) (moved 0 wrong (ByB Pass) (omega arith)) mate uttered passes h
near_paid t channel pair wrong Repeats fair mate uttered passes h = near-turns t channel pair (Paid wrong) (Paid (1 + wrong)) Repeats fair (λ p paid. more 1 wrong p paid) (moved 1 wrong (ByB Repeat) (omega arith)) mate uttered passes h
near_paid t channel pair wrong Loses fair mate uttered passes h = near-turns t channel pair (Paid wrong) (Paid (1 + wrong)) Loses fair (λ p paid. more 1 wrong p paid) (moved 1 wrong (ByB Lose) (omega arith)) mate uttered passes h
near_paid t channel pair wrong (Damages pdu) fair mate uttered passes h = near-turns t channel pair (Paid wrong) (Paid (1 + wrong)) (Damages pdu) fair (λ p paid. more 1 wrong p paid) (moved 1 wrong (ByB Lose) (omega arith)) mate uttered passes h

-- ---- a turn of either

pub turned_joint : (t : Terms) (channel : Channel) (pair : Pair) (K L : Machines → Type 0) → ((p : Machines) → K p → L (swap p)) → Joint t channel K pair → Joint (other_terms t) (mirrored channel) L (turned pair)
turned_joint t channel pair K L so h =
    let near : Policy = pair.near.policy in
    let far : Policy = pair.far.policy in
    let n : List (List ℕ) = under_way channel.own pair.near.coming in
    let f : List (List ℕ) = under_way channel.peer pair.far.coming in
    here-also far channel.peer (λ far_opened far_carrier. Here near channel.own (λ opened carrier. Twins t n f K opened carrier far_opened far_carrier) pair.near.run.value)
    (Both (other_terms t) f n L near channel.own pair.near.run.value) pair.far.run.value
    (λ far_opened far_carrier here. here-also near channel.own (λ opened carrier. Twins t n f K opened carrier far_opened far_carrier) (Twins (other_terms t) f n L far_opened far_carrier) pair.near.run.value
    (λ opened carrier x. twins-swapped t n f K L opened carrier far_opened far_carrier so x) here)
    (here-turned near far channel.own channel.peer pair.near.run.value pair.far.run.value (Twins t n f K) h)

pub paid-swapped : (wrong : ℕ) (p : Machines) → Paid wrong p → Paid wrong (swap p)
paid-swapped wrong p paid = record { there = paid.back; back = paid.there }

abbrev pub BothPrepared : Terms → Channel → Pair → Type 0
BothPrepared t channel pair = Prepared t channel pair × Prepared (other_terms t) (mirrored channel) (turned pair)

pub side_paid : (near far : Policy) (t : Terms) (channel : Channel) (pair : Pair) (wrong : ℕ) (side : Side) (happening : Happening) → Suited t channel → BothRun IsUttered near far pair → BothPrepared t channel pair → Common t channel pair → Common t channel (happens_at side happening pair)
    → DoesSo IsUttered happening (end_at side pair) → IsCarried happening (end_at side pair) → Joint t channel (Paid wrong) pair → Joint t channel (Paid (upsets happening (seen_from side pair) + wrong)) (happens_at side happening pair)
side_paid near far t channel pair wrong Near happening suited runs ready before after uttered passes h =
    near_paid t channel pair wrong happening (record { own_high = suited.own_high; peer_high = suited.peer_high; suits = suited.there; sound = sound-of IsUttered near pair.near runs.near_runs; mate = before.near_mate; prepared = ready.0 }) after.near_mate uttered passes h
side_paid near far t channel pair wrong Far happening suited runs ready before after uttered passes h =
    let other : Pair = turned pair in
    turned_joint (other_terms t) (mirrored channel) (happens_near happening other) (Paid (upsets happening other + wrong)) (Paid (upsets happening other + wrong)) (paid-swapped (upsets happening other + wrong))
    (near_paid (other_terms t) (mirrored channel) other wrong happening (record { own_high = suited.peer_high; peer_high = suited.own_high; suits = suited.back; sound = sound-of IsUttered far pair.far runs.far_runs; mate = before.far_mate; prepared = ready.1 }) after.far_mate uttered passes
    (turned_joint t channel pair (Paid wrong) (Paid wrong) (paid-swapped wrong) h))

-- ---- all turns

pub all_paid : (near far : Policy) (t : Terms) (channel : Channel) (wrong : ℕ) (all past rest : List Turn) → Suited t channel → ((front behind : List Turn) → all ≡ front ++ behind → Common t channel (pair_of near far front)) → all ≡ past ++ rest
    → EachAfter (λ front turn. DoesSo IsUttered turn.happening (end_at turn.side (pair_of near far front))) past rest → EachAfter (λ front turn. IsCarried turn.happening (end_at turn.side (pair_of near far front))) past rest
    → ((front behind : List Turn) → all ≡ front ++ behind → BothPrepared t channel (pair_of near far front)) → BothRun IsUttered near far (pair_of near far past) → Joint t channel (Paid wrong) (pair_of near far past)
    → Joint t channel (Paid (all_upsets (pair_of near far past) rest + wrong)) (pair_of near far all)
all_paid near far t channel wrong all past [] suited common is uttered passes ready runs h = subst (λ list. Joint t channel (Paid (0 + wrong)) (pair_of near far list)) (sym (is ∙ append-nil past)) (let e : 0 + wrong ≡ wrong = omega arith in rw e h)
all_paid near far t channel wrong all past (turn ∷ rest) suited common is (now, uttered) (passes, passing) ready runs h =
    let cost : ℕ = upsets turn.happening (seen_from turn.side pair) in
    subst (λ k. Joint t channel (Paid k) (pair_of near far all)) sums
    (all_paid near far t channel (cost + wrong) all (past ++ turn ∷ []) rest suited common further uttered passing ready
    (subst (BothRun IsUttered near far) (sym next) (at-runs IsUttered near far turn.side turn.happening pair (λ pdu v. tt) now runs))
    (subst (Joint t channel (Paid (cost + wrong))) (sym next) (side_paid near far t channel pair wrong turn.side turn.happening suited runs (ready past (turn ∷ rest) is) (common past (turn ∷ rest) is) (subst (Common t channel) next (common (past ++ turn ∷ []) rest further)) now passes h)))
  where
    pair : Pair
    pair = pair_of near far past

    next : pair_of near far (past ++ turn ∷ []) ≡ happens_at turn.side turn.happening pair
    next = fold-append pair_after (new_pair near far) past (turn ∷ [])

    further : all ≡ (past ++ turn ∷ []) ++ rest
    further = is ∙ sym (append_assoc past (turn ∷ []) rest)

    sums : all_upsets (pair_of near far (past ++ turn ∷ [])) rest + (upsets turn.happening (seen_from turn.side pair) + wrong) ≡ (upsets turn.happening (seen_from turn.side pair) + all_upsets (pair_after pair turn) rest) + wrong
    sums = let same = ap (λ p. all_upsets p rest) next in omega (arith, same)

pub first_joint : (near far : Policy) (t : Terms) (channel : Channel) → Suited t channel → (K : Machines → Type 0) → K (new_ends t.mine t.other) → Joint t channel K (new_pair near far)
first_joint near far t channel suited K so = record {
  held = tt;
  before = λ above. record {
    held = tt;
    before = λ beyond. record {
      pair = new_ends t.mine t.other;
      ends = record {
        near_said = [];
        far_said = [];
        joins = record {
          stands = new-stands t.mine t.other suited.there.meets suited.back.meets;
          near_tells = record { put_is = refl; short = tt };
          far_tells = record { put_is = refl; short = tt };
          near_flies = tt;
          far_flies = tt;
          near_by = refl;
          far_by = refl;
        };
      };
      near_holds = refl;
      far_holds = refl;
      near_first = λ none. refl;
      far_first = λ none. refl;
      kept = so;
    };
  };
}
