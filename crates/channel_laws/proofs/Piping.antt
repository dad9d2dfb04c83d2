-- Of two ends of an enhanced channel: what the frames of one say is what was put, and what the other handed up is a front of it.
use Rattle.std.proofs.Common.{ℕ, zero, suc, ◌≡◌, ◌+◌, ◌-◌, ◌%◌, ◌≤◌, Bool, true, false, cond, inl, inr, List, [], ◌∷◌, ◌++◌, length, drop, Option, Some, None, Ok, refl, sym, ap, subst, ◌∙◌, arith, append-nil, length-append, append_assoc, length-drop}
use Rattle.std.specs.Prelude.{◌==◌, nat_le, option_to_list}
use Rattle.std.specs.List.{AllByRecursion}
use Rattle.std.proofs.lemmas.Bool.{eq-eqb, ne_eqb}
use Rattle.std.proofs.lemmas.Bool.Decides.{leb_tells}
use Rattle.std.proofs.lemmas.List.{length-take}
use Rattle.own_channel_laws.specs.talk_laws.specs.ertm_frames.specs.Frames.{PlainFrame}
use Rattle.own_channel_laws.specs.talk_laws.specs.ertm_frames.specs.Segments.{Segment}
use Rattle.own_channel_laws.specs.talk_laws.specs.ertm_frames.specs.Picking.{segments_in, picked}
use Rattle.own_channel_laws.specs.talk_laws.specs.ertm_frames.specs.Joining.{At, joined, ended, sdus_of}
use Rattle.own_channel_laws.specs.talk_laws.specs.ertm_frames.proofs.Longest.{ended-append}
use Rattle.own_channel_laws.specs.talk_laws.specs.ertm_frames.proofs.Telling.{picked-more}
use Rattle.own_channel_laws.specs.channel_model.specs.ertm_model.specs.declared.reason.ErtmReason.{ErtmReason}
use Rattle.own_channel_laws.specs.channel_model.specs.ertm_model.specs.Value.{Ertm, Kept, Poll, NoPoll, Due, Waits}
use Rattle.own_channel_laws.specs.channel_model.specs.ertm_model.specs.Submitting.{later_within, cut, is_busy, submitted, taking}
use Rattle.own_channel_laws.specs.channel_model.specs.ertm_model.specs.Giving.{Giving, PollAnswer, Acknowledgement, Rejection, Polling, Again, New, giving, given_frame, next_number, polling, closing, first_poll, poll_timed, open_timed, timed}
use Rattle.own_channel_laws.specs.channel_model.specs.ertm_model.specs.Hearing.{fault, heard_by, open_heard, heard, sdu_in, sdu_answer, answer_by}
use Rattle.own_channel_laws.specs.channel_model.specs.ertm_model.specs.declared.reason.ErtmReason.TheVariants.{RetryLimit}
use Rattle.own_channel_laws.specs.channel_model.specs.ertm_model.specs.Pair.{End, gave, took, near, Submit, listed, hearing_by, hearing}
use Rattle.own_channel_laws.specs.channel_model.specs.ertm_model.specs.Order.{Stands}
use Rattle.own_channel_laws.specs.channel_model.specs.ertm_model.proofs.Inverting as inverting
use Rattle.own_channel_laws.specs.channel_model.specs.ertm_model.proofs.Lists.{get-inside, get-none, all-both}
use Rattle.own_channel_laws.specs.channel_model.specs.ertm_model.proofs.Sending.{put-length}
use Rattle.own_channel_laws.specs.channel_model.specs.ertm_model.proofs.Standing.{no_fresh}
use Rattle.own_channel_laws.specs.channel_model.specs.ertm_model.proofs.Reading.{none-more}
use Rattle.own_channel_laws.specs.channel_model.specs.Carrying.{sdu_heard, machine_sdu}
use Rattle.channel_laws.specs.Pipes.{IsFront}

-- ---- what the frames of an end say

-- picked by their numbers, and with what was never given behind them, they are what was put; and none is longer than the other
-- end takes
pub record Tells (most : ℕ) (x : End) (said : List PlainFrame) : Type 0 where
  pub put_is : x.put ≡ picked 0 said ++ x.machine.sender.fresh
  pub short : AllByRecursion (λ (s : Segment). length s.octets ≤ most) x.put

-- as many as were given
pub tells_many : {most : ℕ} {x y : End} {said : List PlainFrame} (h : Stands x y) → Tells most x said → length (picked 0 said) ≡ h.there.a + length x.machine.sender.unacked
tells_many {x = x} {said = said} h tells =
    let long = put-length h.there.sends in
    let same = ap length tells.put_is ∙ length-append (picked 0 said) x.machine.sender.fresh in
    omega arith

gives_by : (most : ℕ) (x y : End) (g : Giving) (said : List PlainFrame) → inverting.Gives x.machine (Some g) → Stands x y → Tells most x said → Tells most (gave (Some g) x) (said ++ given_frame g x.machine ∷ [])
gives_by most x y PollAnswer said why h tells = record { put_is = tells.put_is ∙ ap (λ l. l ++ x.machine.sender.fresh) (sym (none-more said (given_frame PollAnswer x.machine) refl)); short = tells.short }
gives_by most x y Acknowledgement said why h tells = record { put_is = tells.put_is ∙ ap (λ l. l ++ x.machine.sender.fresh) (sym (none-more said (given_frame Acknowledgement x.machine) refl)); short = tells.short }
gives_by most x y Rejection said why h tells = record { put_is = tells.put_is ∙ ap (λ l. l ++ x.machine.sender.fresh) (sym (none-more said (given_frame Rejection x.machine) refl)); short = tells.short }
gives_by most x y Polling said why h tells = record { put_is = tells.put_is ∙ ap (λ l. l ++ x.machine.sender.fresh) (sym (none-more said (given_frame Polling x.machine) refl)); short = tells.short }
gives_by most x y (Again kept) said (free, at) h tells =
    let frame : PlainFrame = given_frame (Again kept) x.machine in
    let many = tells_many h tells in
    let inside = get-inside x.machine.sender.unacked x.machine.sender.next kept at in
    let first_is = h.there.sends.first_is in
    let in_window = h.there.sends.in_window in
    let within = h.meets.within in
    let most_is = h.meets.most in
    let other : (next_number x.machine == length (picked 0 said) % 64) ≡ false = ne_eqb (next_number x.machine) (length (picked 0 said) % 64) (λ e. omega (arith, e)) in
    record {
      put_is = tells.put_is ∙ ap (λ l. l ++ x.machine.sender.fresh) (sym (none-more said frame (ap (λ (b : Bool). cond b (segments_in frame) []) other)));
      short = tells.short;
    }
gives_by most x y (New segment behind) said (free, none, is, room) h tells =
    let frame : PlainFrame = given_frame (New segment behind) x.machine in
    let many = tells_many h tells in
    let past_end = get-none x.machine.sender.unacked x.machine.sender.next none in
    let first_is = h.there.sends.first_is in
    let next_in = h.there.sends.next_in in
    let here : (next_number x.machine == (0 + length (picked 0 said)) % 64) ≡ true = eq-eqb (next_number x.machine) ((0 + length (picked 0 said)) % 64) (omega arith) in
    let more : picked 0 (said ++ frame ∷ []) ≡ picked 0 said ++ segment ∷ [] = picked-more 0 said frame ∙ ap (λ (b : Bool). picked 0 said ++ cond b (segments_in frame) []) here in
    record {
      put_is = tells.put_is ∙ (ap (λ l. picked 0 said ++ l) is ∙ (sym (append_assoc (picked 0 said) (segment ∷ []) behind) ∙ ap (λ l. l ++ behind) (sym more)));
      short = tells.short;
    }

pub tells-gives : (most : ℕ) (x y : End) (g : Giving) (said : List PlainFrame) → giving x.machine ≡ Some g → Stands x y → Tells most x said → Tells most (gave (Some g) x) (said ++ given_frame g x.machine ∷ [])
tells-gives most x y g said is h tells = gives_by most x y g said (subst (inverting.Gives x.machine) is (inverting.gives x.machine)) h tells

-- ---- an SDU is put

later_short : (count mps most : ℕ) (octets : List ℕ) → 1 ≤ mps → mps ≤ most → length octets ≤ count → AllByRecursion (λ (s : Segment). length s.octets ≤ most) (later_within count mps octets)
later_short zero mps most octets some le few = (omega arith, tt)
later_short (suc count) mps most octets some le few =
    let taken = length-take mps octets in
    let fewer = length-drop mps octets in
    elim (leb_tells (length octets) mps) [
      | inl (e, short) ↦ rw e (omega arith, tt)
      | inr (e, long) ↦ rw e (omega arith, later_short count mps most (drop mps octets) some le (omega arith))
    ]

cut_short : (mps most : ℕ) (sdu : List ℕ) → 1 ≤ mps → mps ≤ most → AllByRecursion (λ (s : Segment). length s.octets ≤ most) (cut mps sdu)
cut_short mps most sdu some le =
    let taken = length-take (mps - 2) sdu in
    elim (leb_tells (length sdu) mps) [
      | inl (e, short) ↦ rw e (omega arith, tt)
      | inr (e, long) ↦ rw e (omega arith, later_short (length (drop (mps - 2) sdu)) mps most (drop (mps - 2) sdu) some le (omega arith))
    ]

pub tells-takes : (most : ℕ) (x : End) (sdu : List ℕ) (said : List PlainFrame) (busy : Bool) → is_busy x.machine ≡ busy → 1 ≤ x.machine.agreed.send_mps → x.machine.agreed.send_mps ≤ most → Tells most x said → Tells most (cond busy x (took sdu x)) said
tells-takes most x sdu said true is some le tells = tells
tells-takes most x sdu said false is some le tells =
    let more : List Segment = cut x.machine.agreed.send_mps sdu in
    let none = no_fresh x.machine.sender.fresh is in
    record {
      put_is = ap (λ l. l ++ more) (tells.put_is ∙ (ap (λ l. picked 0 said ++ l) none ∙ append-nil (picked 0 said)));
      short = all-both (λ (s : Segment). length s.octets ≤ most) x.put more tells.short (cut_short x.machine.agreed.send_mps most sdu some le);
    }

pub took-machine : (sdu : List ℕ) (x : End) → (near (Submit sdu) x).machine ≡ submitted sdu x.machine
took-machine sdu x = by (is_busy x.machine)
  where
    by : (busy : Bool) → (cond busy x (took sdu x)).machine ≡ cond busy x.machine (taking sdu x.machine)
    by true = refl
    by false = refl

-- ---- its timer fires

fresh_timed : (m : Ertm) → (timed m).sender.fresh ≡ m.sender.fresh
fresh_timed m = by m.closed
  where
    waits : (spent : Bool) → (cond spent (closing RetryLimit m) (polling m)).sender.fresh ≡ m.sender.fresh
    waits true = refl
    waits false = refl

    first : (kept : List Kept) → (first_poll kept m).sender.fresh ≡ m.sender.fresh
    first [] = refl
    first (k ∷ kept) = refl

    polls : (poll : Poll) → (poll_timed poll m).sender.fresh ≡ m.sender.fresh
    polls NoPoll = first m.sender.unacked
    polls Due = refl
    polls Waits = waits (nat_le m.agreed.tries m.sender.polls)

    by : (shut : Option ErtmReason) → (open_timed shut m).sender.fresh ≡ m.sender.fresh
    by None = polls m.sender.poll
    by (Some reason) = refl

pub tells-fires : (most : ℕ) (x : End) (said : List PlainFrame) → Tells most x said → (let after : End = record x { machine = timed x.machine } in Tells most after said)
tells-fires most x said tells = record { put_is = tells.put_is ∙ ap (λ l. picked 0 said ++ l) (sym (fresh_timed x.machine)); short = tells.short }

-- ---- it hears a frame

pub tells-hears : (most : ℕ) (x : End) (frame : PlainFrame) (said : List PlainFrame) → Tells most x said → Tells most (hearing frame x) said
tells-hears most x frame said tells = by x.machine.closed (fault frame x.machine)
  where
    by : (shut cause : Option ErtmReason) → Tells most (hearing_by shut cause frame x) said
    by (Some reason) cause = tells
    by None (Some cause) = record { put_is = tells.put_is; short = tells.short }
    by None None = record { put_is = tells.put_is; short = tells.short }

pub heard-machine : (frame : PlainFrame) (x : End) → (hearing frame x).machine ≡ heard frame x.machine
heard-machine frame x = by x.machine.closed
  where
    on : (cause : Option ErtmReason) → (hearing_by None cause frame x).machine ≡ heard_by cause frame x.machine
    on (Some cause) = refl
    on None = refl

    by : (shut : Option ErtmReason) → (hearing_by shut (fault frame x.machine) frame x).machine ≡ open_heard shut frame x.machine
    by (Some reason) = refl
    by None = on (fault frame x.machine)

listed_is : (found : Option (List ℕ)) → listed found ≡ option_to_list (sdu_heard (sdu_answer found))
listed_is None = refl
listed_is (Some sdu) = refl

-- and hands up what its machine does
pub heard-up : (frame : PlainFrame) (x : End) → x.machine.closed ≡ None → (hearing frame x).up ≡ x.up ++ option_to_list (machine_sdu (Ok frame) x.machine)
heard-up frame x open' = ap (λ s. (hearing_by s (fault frame x.machine) frame x).up) open' ∙ on (fault frame x.machine) refl
  where
    closed_is : (heard frame x.machine).closed ≡ (heard_by (fault frame x.machine) frame x.machine).closed
    closed_is = ap (λ s. (open_heard s frame x.machine).closed) open'

    on : (cause : Option ErtmReason) → fault frame x.machine ≡ cause → (hearing_by None cause frame x).up ≡ x.up ++ option_to_list (machine_sdu (Ok frame) x.machine)
    on (Some cause) is =
        let shut : (heard frame x.machine).closed ≡ Some cause = closed_is ∙ ap (λ o. (heard_by o frame x.machine).closed) is in
        sym (append-nil x.up) ∙ ap (λ o. x.up ++ option_to_list (sdu_heard (answer_by o frame x.machine))) (sym shut)
    on None is =
        let still : (heard frame x.machine).closed ≡ None = closed_is ∙ (ap (λ o. (heard_by o frame x.machine).closed) is ∙ open') in
        ap (λ l. x.up ++ l) (listed_is (sdu_in frame x.machine)) ∙ ap (λ o. x.up ++ option_to_list (sdu_heard (answer_by o frame x.machine))) (sym still)

-- ---- the pipe

behind_more : {X : Type 0} (xs ys zs ws : List X) → xs ++ ys ≡ zs ++ ws → length xs ≤ length zs → IsFront xs zs
behind_more [] ys zs ws is few = (zs, refl)
behind_more (x ∷ xs) ys [] ws is few = absurd (omega arith)
behind_more (x ∷ xs) ys (z ∷ zs) ws is few =
    let rest : xs ++ ys ≡ zs ++ ws = cc in
    let one : x ≡ z = cc in
    let fewer : length xs ≤ length zs = omega arith in
    let (more, same) = behind_more xs ys zs ws rest fewer in
    (more, ap (λ y. y ∷ zs) (sym one) ∙ ap (λ l. x ∷ l) same)

pub tells-pipe : (most : ℕ) (x y : End) (said : List PlainFrame) → Stands x y → Tells most x said → IsFront y.up (sdus_of (picked 0 said))
tells-pipe most x y said h tells =
    let many = tells_many h tells in
    let c_n = h.there.c_n in
    let (more, same) = behind_more y.got h.there.accepts.left (picked 0 said) x.machine.sender.fresh (sym h.there.accepts.put_is ∙ tells.put_is) (omega arith) in
    (ended (joined (At None) y.got) more, ap sdus_of same ∙ (ended-append (At None) y.got more ∙ ap (λ l. l ++ ended (joined (At None) y.got) more) h.there.accepts.up_is))
