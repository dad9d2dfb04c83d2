-- The first frame that shows that a request for options was accepted does not close the machine of the channel.
use Rattle.std.proofs.Common.{◌≡◌, ℕ, zero, suc, List, [], ◌∷◌, drop, Bool, true, false, cond, eqb, ◌&&◌, Option, Some, None, Ok, refl, sym, ap, subst, ◌∙◌, inl, inr}
use Rattle.std.specs.Prelude.{nat_lt}
use Rattle.channel_laws.specs.acl_fragments.specs.Pieces.{channel_of}
use Rattle.channel_laws.specs.l2cap_config.specs.declared.wish.Agreed.{Agreed}
use Rattle.channel_laws.specs.ertm_frames.specs.Frames.{PlainFrame, information, supervisory}
use Rattle.channel_laws.specs.ertm_frames.specs.Joining.{Misplaced, Begins, Ends as Finishes}
use Rattle.channel_laws.specs.ertm_frames.specs.Reading.{answer_in}
use Rattle.channel_laws.specs.ertm_model.specs.declared.reason.ErtmReason.{ErtmReason}
use Rattle.channel_laws.specs.ertm_model.specs.declared.reason.ErtmReason.TheVariants.{RetryLimit, BadReqSeq, Srej, TooLongSdu}
use Rattle.channel_laws.specs.ertm_model.specs.Hearing.{acknowledged, selects_frames, asks_again, is_spent, sender_fault, Place, Expected, Ahead, Other, place_of, past, stated, joint_fault, place_fault, segment_of, receiver_fault, or_else, fault, heard_by, heard}
use Rattle.channel_laws.specs.ertm_model.specs.Order.{StandsBoth, OnlyRetries}
use Rattle.channel_laws.specs.ertm_model.specs.Pair.{Pass, End as MachineEnd, Pair as Machines, ByB, turned as machines_turned}
use Rattle.channel_laws.specs.ertm_model.specs.Value.{Kept, new_sender, new_receiver, Ertm, new_ertm}
use Rattle.channel_laws.specs.ertm_model.proofs.Standing.{turns-stand}
use Rattle.channel_laws.specs.link_talk.specs.declared.channel.Channel.{Channel}
use Rattle.channel_laws.specs.channel_model.specs.Carrying.{machine_heard, read_by}
use Rattle.channel_laws.specs.channel_model.specs.Changing.{held_at, setup_of, is_open}
use Rattle.channel_laws.specs.channel_model.specs.Value.{Retransmitting, Setup, Held}
use Rattle.channel_laws.specs.Pairs.{Pair}
use Rattle.channel_laws.proofs.Joining.{Terms, Holds}
use Rattle.channel_laws.proofs.Keeping.{HeldKeeps}
use Rattle.channel_laws.proofs.Partaking.{kept-on}
use Rattle.channel_laws.proofs.Piped.{under_way}
use Rattle.recovered_laws.specs.Paid.{IsThere}
use Rattle.recovered_laws.proofs.Moving.{Ends, Front, ends-front, front-machine}
use Rattle.recovered_laws.proofs.Paying.{Paid}
use Rattle.recovered_laws.proofs.Turning.{Joint}
use Rattle.recovered_laws.proofs.Twins.{On, Twins, Both}

-- ---- a new machine

dropped_none : (k : ℕ) → (let none : List Kept = [] in drop k none ≡ none)
dropped_none zero = refl
dropped_none (suc k) = refl

-- nothing of it was given too often
sender_new : (tries : ℕ) (frame : PlainFrame) → sender_fault tries frame new_sender ≡ cond (nat_lt 0 (acknowledged frame new_sender)) (Some BadReqSeq) (cond (selects_frames frame) (Some Srej) None)
sender_new tries frame =
    ap (λ (kept : List Kept). cond (nat_lt 0 (acknowledged frame new_sender)) (Some BadReqSeq) (cond (selects_frames frame) (Some Srej) (cond (asks_again new_sender.poll frame && is_spent tries kept) (Some RetryLimit) None))) (dropped_none (acknowledged frame new_sender))
    ∙ by (asks_again new_sender.poll frame)
  where
    by : (again : Bool) → cond (nat_lt 0 (acknowledged frame new_sender)) (Some BadReqSeq) (cond (selects_frames frame) (Some Srej) (cond (again && false) (Some RetryLimit) None)) ≡ cond (nat_lt 0 (acknowledged frame new_sender)) (Some BadReqSeq) (cond (selects_frames frame) (Some Srej) None)
    by true = refl
    by false = refl

receiver_alike : (a b : Agreed) (frame : PlainFrame) → a.receive_window ≡ b.receive_window → a.receive_mtu ≡ b.receive_mtu → receiver_fault frame (new_ertm a) ≡ receiver_fault frame (new_ertm b)
receiver_alike a b (information tx final req sar total octets) window mtu =
    ap (λ w. place_fault (place_of w (past new_receiver.expected tx)) a.receive_mtu (segment_of sar total octets) new_receiver) window
    ∙ ap (λ n. place_fault (place_of b.receive_window (past new_receiver.expected tx)) n (segment_of sar total octets) new_receiver) mtu
receiver_alike a b (supervisory kind poll final req) window mtu = refl

-- so machines that receive alike close alike
fault_alike : (a b : Agreed) (frame : PlainFrame) → a.receive_window ≡ b.receive_window → a.receive_mtu ≡ b.receive_mtu → fault frame (new_ertm a) ≡ fault frame (new_ertm b)
fault_alike a b frame window mtu =
    ap (λ f. or_else f (receiver_fault frame (new_ertm a))) (sender_new a.tries frame ∙ sym (sender_new b.tries frame))
    ∙ ap (or_else (sender_fault b.tries frame new_sender)) (receiver_alike a b frame window mtu)

-- and none for want of tries
no_retry_placed : (place : Place) (mtu : ℕ) (segment : _) → place_fault place mtu segment new_receiver ≡ Some RetryLimit → ⊥
no_retry_placed Expected mtu segment is = by _ is
  where
    long : (b : Bool) → cond b (Some TooLongSdu) None ≡ Some RetryLimit → ⊥
    long true is = cc
    long false is = cc

    by : (j : _) → joint_fault j mtu segment ≡ Some RetryLimit → ⊥
    by Misplaced is = cc
    by (Begins begun) is = long (nat_lt mtu (stated segment)) is
    by (Finishes sdu) is = long (nat_lt mtu (stated segment)) is
no_retry_placed Ahead mtu segment is = cc
no_retry_placed Other mtu segment is = cc

no_retry_received : (frame : PlainFrame) (a : Agreed) → receiver_fault frame (new_ertm a) ≡ Some RetryLimit → ⊥
no_retry_received (information tx final req sar total octets) a is = no_retry_placed _ a.receive_mtu (segment_of sar total octets) is
no_retry_received (supervisory kind poll final req) a is = cc

no_retry : (frame : PlainFrame) (a : Agreed) → fault frame (new_ertm a) ≡ Some RetryLimit → ⊥
no_retry frame a is = by (nat_lt 0 (acknowledged frame new_sender)) (selects_frames frame) (sym (ap (λ f. or_else f (receiver_fault frame (new_ertm a))) (sender_new a.tries frame)) ∙ is)
  where
    by : (ahead selects : Bool) → or_else (cond ahead (Some BadReqSeq) (cond selects (Some Srej) None)) (receiver_fault frame (new_ertm a)) ≡ Some RetryLimit → ⊥
    by true selects now = cc
    by false true now = cc
    by false false now = no_retry_received frame a now

closed_new : (frame : PlainFrame) (a : Agreed) → (heard frame (new_ertm a)).closed ≡ fault frame (new_ertm a)
closed_new frame a = by (fault frame (new_ertm a))
  where
    by : (f : Option ErtmReason) → (heard_by f frame (new_ertm a)).closed ≡ f
    by None = refl
    by (Some cause) = refl

-- ---- a channel of the near end that is not open

pub record Alike (a b : Agreed) : Type 0 where
  pub mps : a.receive_mps ≡ b.receive_mps
  pub window : a.receive_window ≡ b.receive_window
  pub mtu : a.receive_mtu ≡ b.receive_mtu

pub opening : (t : Terms) (channel : Channel) (pair : Pair) (wrong : ℕ) (held : Held) (setup : Setup) (m : Ertm) (pdu : List ℕ) (behind : List (List ℕ)) → Joint t channel (Paid wrong) pair → IsThere channel.peer pair.far.run.value → held_at channel.own pair.near.run.value ≡ Some held
    → setup_of held.stage ≡ Some setup → setup.carrier ≡ Some (Retransmitting m) → is_open setup ≡ false → Alike m.agreed t.mine → pair.near.coming ≡ pdu ∷ behind → eqb (channel_of pdu) channel.own ≡ true → (machine_heard (read_by m pdu) m).closed ≡ None
opening t channel pair wrong held setup m pdu behind joint (far_held, far_setup, far_found, far_has) found has is shut alike coming_is here = by (subst (λ b. Holds t.mine x.pair.a b (Some (Retransmitting m))) shut (subst (Holds t.mine x.pair.a (is_open setup)) is x.near_holds))
  where
    n : List (List ℕ)
    n = under_way channel.own pair.near.coming

    f : List (List ℕ)
    f = under_way channel.peer pair.far.coming

    near_so : Both t (under_way channel.own pair.near.coming) (under_way channel.peer pair.far.coming) (Paid wrong) pair.far.policy channel.peer pair.far.run.value (is_open setup) setup.carrier
    near_so =
        kept-on (On (Both t (under_way channel.own pair.near.coming) (under_way channel.peer pair.far.coming) (Paid wrong) pair.far.policy channel.peer pair.far.run.value)) (pair.near.policy.wish held.psm) held.stage setup has
        (subst (HeldKeeps pair.near.policy (On (Both t (under_way channel.own pair.near.coming) (under_way channel.peer pair.far.coming) (Paid wrong) pair.far.policy channel.peer pair.far.run.value))) found joint.held)

    x : Twins t (under_way channel.own pair.near.coming) (under_way channel.peer pair.far.coming) (Paid wrong) (is_open setup) setup.carrier (is_open far_setup) far_setup.carrier
    x =
        kept-on (On (Twins t (under_way channel.own pair.near.coming) (under_way channel.peer pair.far.coming) (Paid wrong) (is_open setup) setup.carrier)) (pair.far.policy.wish far_held.psm) far_held.stage far_setup far_has
        (subst (HeldKeeps pair.far.policy (On (Twins t (under_way channel.own pair.near.coming) (under_way channel.peer pair.far.coming) (Paid wrong) (is_open setup) setup.carrier))) far_found near_so.held)

    rest : List (List ℕ)
    rest = under_way channel.own behind

    first : n ≡ pdu ∷ rest
    first = ap (under_way channel.own) coming_is ∙ ap (λ b. cond b (pdu ∷ under_way channel.own behind) (under_way channel.own behind)) here

    front : Front t x.pair pdu rest
    front = ends-front t f x.pair pdu rest (subst (λ c. Ends t c f x.pair) first x.ends)

    after : Machines
    after = machines_turned (ByB Pass) x.pair

    stands : StandsBoth after
    stands = turns-stand (ByB Pass) x.pair tt x.ends.joins.stands

    by : Holds t.mine x.pair.a false (Some (Retransmitting m)) → (machine_heard (read_by m pdu) m).closed ≡ None
    by (inr (same, now, open')) = let never : false ≡ true = now in absurd cc
    by (inl (a, new, end_is)) = same ∙ none stands.only_x
      where
        frame : PlainFrame
        frame = front.sent.frame

        agreed_is : m.agreed ≡ a
        agreed_is = ap (λ (y : Ertm). y.agreed) new

        -- as it is read by either agreement
        read : read_by m pdu ≡ Ok frame
        read = ap (λ k. answer_in k pdu) alike.mps ∙ front.read

        same : (machine_heard (read_by m pdu) m).closed ≡ fault frame (new_ertm t.mine)
        same =
            ap (λ r. (machine_heard r m).closed) read
            ∙ (ap (λ (y : Ertm). (heard frame y).closed) new
            ∙ (closed_new frame a
            ∙ fault_alike a t.mine frame (sym (ap (λ (g : Agreed). g.receive_window) agreed_is) ∙ alike.window) (sym (ap (λ (g : Agreed). g.receive_mtu) agreed_is) ∙ alike.mtu)))

        after_is : after.a.machine.closed ≡ fault frame (new_ertm t.mine)
        after_is =
            ap (λ (y : Ertm). y.closed) (front-machine t x.pair pdu rest front)
            ∙ (ap (λ r. (machine_heard r x.pair.a.machine).closed) front.read
            ∙ (ap (λ (e : MachineEnd). (heard frame e.machine).closed) end_is ∙ closed_new frame t.mine))

        none : OnlyRetries after.a.machine.closed → fault frame (new_ertm t.mine) ≡ None
        none (inl open') = sym after_is ∙ open'
        none (inr spent) = absurd (no_retry frame t.mine (sym after_is ∙ spent))
