-- Whole runs of words: the passes that find something to do are bounded, and one that finds nothing is of ends that are
-- done.
use Rattle.std.proofs.Common.{ℕ, ◌≡◌, ◌+◌, ◌*◌, ◌≤◌, Bool, true, false, cond, List, [], ◌∷◌, Option, Some, None, refl, ap, sym, ◌∙◌, subst, arith}
use Rattle.std.specs.Prelude.{◌||◌}
use Rattle.std.specs.Prelude.{nat_le}
use Rattle.l2cap_config.specs.declared.wish.Agreed.{Agreed}
use Rattle.ertm_frames.specs.declared.refusal.FrameRefusal.{FrameRefusal}
use Rattle.ertm_frames.specs.Frames.{PlainFrame}
use Rattle.ertm_model.specs.declared.reason.ErtmReason.{ErtmReason}
use Rattle.ertm_model.specs.declared.reason.ErtmReason.TheVariants.{RetryLimit}
use Rattle.ertm_model.specs.Value.{Kept, Poll, NoPoll, Due, Waits, Ertm, armed}
use Rattle.ertm_model.specs.Submitting.{is_busy}
use Rattle.ertm_model.specs.Giving.{Giving, PollAnswer, Acknowledgement, Rejection, Polling, Again, New, giving, closing, polling, first_poll, poll_timed, open_timed}
use Rattle.ertm_model.specs.Hearing.{fault, refusal_fault, closed_by}
use Rattle.ertm_model.specs.Pair.{Sent, End, Deed, Give, Fire, Submit, Pass, Lose, Repeat, Damage, gave, took, near, far, hearing_by, hearing_front, damaged_front, Pair, Turn, ByA, ByB, turned, all_turned, AllMay, new_pair}
use Rattle.ertm_model.specs.Order.{StandsBoth}
use Rattle.ertm_model.specs.Recovery.{IsAtRest, Happening, Usual, Rest, happened, all_happened, MayHappen, AllMayHappen, adverse, adverse_turn, cost, Affords, AffordsBoth, IsDone, UnarmedIsDone}
use Rattle.std.specs.List.{AllByRecursion}
use Rattle.ertm_model.specs.Recovery as Recovery
use Rattle.ertm_model.proofs.Standing.{new-stands}
use Rattle.ertm_model.proofs.Resting.{happened_stands, always-affords}
use Rattle.ertm_model.proofs.Unarmed.{rest-is_done}
use Rattle.recovery_laws.specs.Number.{passes_left}
use Rattle.recovery_laws.specs.Facts.{Recovers}
use Rattle.recovery_laws.specs.Words.{IsMild, IsMildTurn, Word, spoken, harm, all_spoken, AllMaySpeak, all_passed, all_costs, AllMayCome, RunsAreBounded, HarmIsSmall, IdleIsDone, ClosingsArePaid}
use Rattle.recovery_laws.proofs.Tests.{bit}
use Rattle.recovery_laws.proofs.Turning.{words-go_on, new-recovers}

-- ---- an end keeps what it agreed on

gave_agreed : (given : Option Giving) (e : End) → (gave given e).machine.agreed ≡ e.machine.agreed
gave_agreed None e = refl
gave_agreed (Some PollAnswer) e = refl
gave_agreed (Some Acknowledgement) e = refl
gave_agreed (Some Rejection) e = refl
gave_agreed (Some Polling) e = refl
gave_agreed (Some (Again kept)) e = refl
gave_agreed (Some (New segment behind)) e = refl

late_agreed : (late : Bool) (m : Ertm) → (cond late (closing RetryLimit m) (polling m)).agreed ≡ m.agreed
late_agreed true m = refl
late_agreed false m = refl

first_agreed : (unacked : List Kept) (m : Ertm) → (first_poll unacked m).agreed ≡ m.agreed
first_agreed [] m = refl
first_agreed (kept ∷ behind) m = refl

poll_agreed : (poll : Poll) (m : Ertm) → (poll_timed poll m).agreed ≡ m.agreed
poll_agreed NoPoll m = first_agreed m.sender.unacked m
poll_agreed Due m = refl
poll_agreed Waits m = late_agreed (nat_le m.agreed.tries m.sender.polls) m

timed_agreed : (closed : Option ErtmReason) (m : Ertm) → (open_timed closed m).agreed ≡ m.agreed
timed_agreed None m = poll_agreed m.sender.poll m
timed_agreed (Some reason) m = refl

took_agreed : (busy : Bool) (sdu : List ℕ) (e : End) → (cond busy e (took sdu e)).machine.agreed ≡ e.machine.agreed
took_agreed true sdu e = refl
took_agreed false sdu e = refl

near_agreed : (deed : Deed) (e : End) → (near deed e).machine.agreed ≡ e.machine.agreed
near_agreed Give e = gave_agreed (giving e.machine) e
near_agreed Fire e = timed_agreed e.machine.closed e.machine
near_agreed (Submit sdu) e = took_agreed (is_busy e.machine) sdu e
near_agreed Pass e = refl
near_agreed Lose e = refl
near_agreed Repeat e = refl
near_agreed (Damage refusal) e = refl

heard_agreed : (closed cause : Option ErtmReason) (frame : PlainFrame) (e : End) → (hearing_by closed cause frame e).machine.agreed ≡ e.machine.agreed
heard_agreed (Some reason) cause frame e = refl
heard_agreed None (Some cause) frame e = refl
heard_agreed None None frame e = refl

front_agreed : (queue : List Sent) (e : End) → (hearing_front queue e).machine.agreed ≡ e.machine.agreed
front_agreed [] e = refl
front_agreed (sent ∷ queue) e = heard_agreed e.machine.closed (fault sent.frame e.machine) sent.frame e

refused_agreed : (closed fault_ : Option ErtmReason) (m : Ertm) → (closed_by closed fault_ m).agreed ≡ m.agreed
refused_agreed (Some reason) fault_ m = refl
refused_agreed None None m = refl
refused_agreed None (Some reason) m = refl

damaged_agreed : (refusal : FrameRefusal) (queue : List Sent) (e : End) → (damaged_front refusal queue e).machine.agreed ≡ e.machine.agreed
damaged_agreed refusal [] e = refl
damaged_agreed refusal (sent ∷ queue) e = refused_agreed e.machine.closed (refusal_fault refusal) e.machine

far_agreed : (deed : Deed) (queue : List Sent) (e : End) → (far deed queue e).machine.agreed ≡ e.machine.agreed
far_agreed Give queue e = refl
far_agreed Fire queue e = refl
far_agreed (Submit sdu) queue e = refl
far_agreed Pass queue e = front_agreed queue e
far_agreed Lose queue e = refl
far_agreed Repeat queue e = front_agreed queue e
far_agreed (Damage refusal) queue e = damaged_agreed refusal queue e

happened_agreed : (happening : Happening) (p : Pair) → ((happened happening p).a.machine.agreed ≡ p.a.machine.agreed) × ((happened happening p).b.machine.agreed ≡ p.b.machine.agreed)
happened_agreed (Usual (ByA deed)) p = (near_agreed deed p.a, far_agreed deed p.a.queue p.b)
happened_agreed (Usual (ByB deed)) p = (far_agreed deed p.b.queue p.a, near_agreed deed p.b)
happened_agreed Rest p = (near_agreed Fire p.a, near_agreed Fire p.b)

record SameAgreed (p q : Pair) : Type 0 where
  at_a : q.a.machine.agreed ≡ p.a.machine.agreed
  at_b : q.b.machine.agreed ≡ p.b.machine.agreed

turns_agreed : (turns : List Turn) (p : Pair) → SameAgreed p (all_turned turns p)
turns_agreed [] p = record { at_a = refl; at_b = refl }
turns_agreed (turn ∷ turns) p =
    let one = happened_agreed (Usual turn) p in
    let rest = turns_agreed turns (turned turn p) in
    record { at_a = rest.at_a ∙ one.0; at_b = rest.at_b ∙ one.1 }

spoken_harm : (word : Word) (p : Pair) → harm (spoken word p).a.machine.agreed.send_window (spoken word p).b.machine.agreed.send_window ≡ harm p.a.machine.agreed.send_window p.b.machine.agreed.send_window
spoken_harm word p =
    let same = happened_agreed word.happening p in
    let rest = turns_agreed word.behind (happened word.happening p) in
    ap (λ (m : Agreed). harm m.send_window (spoken word p).b.machine.agreed.send_window) (rest.at_a ∙ same.0)
    ∙ ap (λ (m : Agreed). harm p.a.machine.agreed.send_window m.send_window) (rest.at_b ∙ same.1)

-- ---- all words

record GoOn (planned_a planned_b : ℕ) (words : List Word) (p : Pair) : Type 0 where
  recovers : Recovers planned_a planned_b (all_spoken words p)
  falls : all_passed words p + passes_left planned_a planned_b (all_spoken words p)
      ≤ all_costs words * harm p.a.machine.agreed.send_window p.b.machine.agreed.send_window + passes_left planned_a planned_b p

all_go_on : (planned_a planned_b : ℕ) (words : List Word) (p : Pair) → Recovers planned_a planned_b p → AllMaySpeak planned_a planned_b words p → GoOn planned_a planned_b words p
all_go_on planned_a planned_b [] p h may = record { recovers = h; falls = omega arith }
all_go_on planned_a planned_b (word ∷ words) p h may =
    let one = words-go_on planned_a planned_b word p h may.0 in
    let rest = all_go_on planned_a planned_b words (spoken word p) one.recovers may.1 in
    let le = one.falls in
    let le' = rest.falls in
    let same = ap (λ (n : ℕ). all_costs words * n) (spoken_harm word p) in
    record { recovers = rest.recovers; falls = omega arith }

pub runs-are_bounded : RunsAreBounded
runs-are_bounded a b planned_a planned_b words meets met may =
    let new = new-recovers a b planned_a planned_b meets met in
    let all = all_go_on planned_a planned_b words (new_pair a b) new.0 may in
    let falls = all.falls in
    let start = new.1 in
    omega arith

pub harm-is_small : HarmIsSmall
harm-is_small a b meets met =
    let w = meets.within in
    let x = meets.most in
    let y = met.within in
    let z = met.most in
    omega arith

-- ---- words as single happenings

abbrev usual : List Turn → List Happening → List Happening
usual [] rest = rest
usual (turn ∷ turns) rest = Usual turn ∷ usual turns rest

abbrev all_of : List Word → List Happening
all_of [] = []
all_of (word ∷ words) = word.happening ∷ usual word.behind (all_of words)

usual_are : (turns : List Turn) (rest : List Happening) (p : Pair) → all_happened (usual turns rest) p ≡ all_happened rest (all_turned turns p)
usual_are [] rest p = refl
usual_are (turn ∷ turns) rest p = usual_are turns rest (turned turn p)

usual_may : (turns : List Turn) (rest : List Happening) (p : Pair) → AllMay turns p → AllMayHappen rest (all_turned turns p) → AllMayHappen (usual turns rest) p
usual_may [] rest p may may' = may'
usual_may (turn ∷ turns) rest p may may' = (may.0, usual_may turns rest (turned turn p) may.1 may')

mild_free : (deed : Deed) → IsMild deed → adverse deed ≡ 0
mild_free Give mild = refl
mild_free Fire mild = absurd mild
mild_free (Submit sdu) mild = refl
mild_free Pass mild = refl
mild_free Lose mild = absurd mild
mild_free Repeat mild = absurd mild
mild_free (Damage refusal) mild = absurd mild

turn_free : (turn : Turn) → IsMildTurn turn → adverse_turn turn ≡ 0
turn_free (ByA deed) mild = mild_free deed mild
turn_free (ByB deed) mild = mild_free deed mild

usual_free : (turns : List Turn) (rest : List Happening) → AllByRecursion IsMildTurn turns → Recovery.all_costs (usual turns rest) ≡ Recovery.all_costs rest
usual_free [] rest mild = refl
usual_free (turn ∷ turns) rest mild = let one = turn_free turn mild.0 in let more = usual_free turns rest mild.1 in omega arith

-- the same pair, and what it costs
all_are : (words : List Word) (p : Pair) → all_happened (all_of words) p ≡ all_spoken words p
all_are [] p = refl
all_are (word ∷ words) p = usual_are word.behind (all_of words) (happened word.happening p) ∙ all_are words (spoken word p)

all_may : (words : List Word) (p : Pair) → AllMayCome words p → AllMayHappen (all_of words) p
all_may [] p may = tt
all_may (word ∷ words) p may = (may.0.may, usual_may word.behind (all_of words) (happened word.happening p) may.0.behind (all_may words (spoken word p) may.1))

all_cost : (words : List Word) (p : Pair) → AllMayCome words p → Recovery.all_costs (all_of words) ≡ all_costs words
all_cost [] p may = refl
all_cost (word ∷ words) p may =
    let one = usual_free word.behind (all_of words) may.0.mild in
    let rest = all_cost words (spoken word p) may.1 in
    omega arith

all_come : (planned_a planned_b : ℕ) (words : List Word) (p : Pair) → AllMaySpeak planned_a planned_b words p → AllMayCome words p
all_come planned_a planned_b [] p may = tt
all_come planned_a planned_b (word ∷ words) p may = (may.0.comes, all_come planned_a planned_b words (spoken word p) may.1)

-- ---- closings

all_stand : (happenings : List Happening) (p : Pair) → AllMayHappen happenings p → StandsBoth p → StandsBoth (all_happened happenings p)
all_stand [] p may s = s
all_stand (happening ∷ happenings) p may s = all_stand happenings (happened happening p) may.1 (happened_stands happening p may.0 s)

pub closings-are_paid : ClosingsArePaid
closings-are_paid a b words meets met come =
    let may = all_may words (new_pair a b) come in
    let are = all_are words (new_pair a b) in
    let stands : StandsBoth (all_spoken words (new_pair a b)) = subst (λ (p : Pair). StandsBoth p) are (all_stand (all_of words) (new_pair a b) may (new-stands a b meets met)) in
    let affords : AffordsBoth (all_costs words) (all_spoken words (new_pair a b)) =
    subst (λ (n : ℕ). AffordsBoth n (all_spoken words (new_pair a b))) (all_cost words (new_pair a b) come) (subst (λ (p : Pair). AffordsBoth (Recovery.all_costs (all_of words)) p) are (always-affords a b (all_of words) meets met may)) in
    (record { only = stands.only_x; paid = affords.0 }, record { only = stands.only_y; paid = affords.1 })

-- ---- a pass that finds nothing to do

none_armed : (a b : Bool) → bit (a || b) ≡ 0 → (a ≡ false) × (b ≡ false)
none_armed true b is = absurd (omega arith)
none_armed false true is = absurd (omega arith)
none_armed false false is = (refl, refl)

pub idle-is_done : IdleIsDone
idle-is_done a b planned_a planned_b words meets met may none_a none_b idle =
    let p : Pair = all_spoken words (new_pair a b) in
    let are = all_are words (new_pair a b) in
    let h = (all_go_on planned_a planned_b words (new_pair a b) (new-recovers a b planned_a planned_b meets met).0 may).recovers in
    let rest : IsAtRest p.a p.b =
    record { open_x = h.settled_a.is_open; open_y = h.settled_b.is_open; none_x = none_a; none_y = none_b; silent_x = h.settled_a.is_silent; silent_y = h.settled_b.is_silent } in
    let rests : IsAtRest (all_happened (all_of words) (new_pair a b)).a (all_happened (all_of words) (new_pair a b)).b = subst (λ (q : Pair). IsAtRest q.a q.b) (sym are) rest in
    let done = rest-is_done a b (all_of words) meets met (all_may words (new_pair a b) (all_come planned_a planned_b words (new_pair a b) may)) rests in
    let unarmed = none_armed (armed p.a.machine) (armed p.b.machine) idle in
    let done_a : UnarmedIsDone p.a p.b = subst (λ (q : Pair). UnarmedIsDone q.a q.b) are done.0 in
    let done_b : UnarmedIsDone p.b p.a = subst (λ (q : Pair). UnarmedIsDone q.b q.a) are done.1 in
    (done_a unarmed.0, done_b unarmed.1)
