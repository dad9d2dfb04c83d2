-- Every turn keeps what holds of two ends.
use Rattle.std.proofs.Common.{ℕ, ◌≡◌, ◌+◌, ◌≤◌, ◌⊎◌, inl, inr, Bool, true, false, cond, List, [], ◌∷◌, ◌++◌, length, Option, Some, None, refl, ap, ◌∙◌, arith}
use Rattle.std.specs.Prelude.{nat_le}
use Rattle.std.proofs.lemmas.List.{append_assoc}
use Rattle.ertm_frames.specs.declared.refusal.FrameRefusal.{FrameRefusal}
use Rattle.ertm_frames.specs.declared.refusal.FrameRefusal.TheVariants.{Short, BadFcs}
use Rattle.ertm_frames.specs.Segments.{Segment}
use Rattle.ertm_frames.specs.Joining.{Begun, Joining, At, joined, ended}
use Rattle.ertm_frames.proofs.Longest.{joined-append, ended-append, sdu_joins}
use Rattle.ertm_model.specs.declared.reason.ErtmReason.{ErtmReason}
use Rattle.ertm_model.specs.declared.reason.ErtmReason.TheVariants.{RetryLimit}
use Rattle.ertm_model.specs.Value.{Kept, Poll, NoPoll, Due, Waits, Ertm}
use Rattle.ertm_model.specs.Submitting.{cut, is_some_fresh, is_busy}
use Rattle.ertm_model.specs.Giving.{closing, polling, first_poll, poll_timed, open_timed}
use Rattle.ertm_model.specs.Hearing.{stated, refusal_fault, closed_by}
use Rattle.ertm_model.specs.Pair.{Sent, End, Deed, Give, Fire, Submit, Pass, Lose, Repeat, Damage, took, near, far, behind_front, Pair, Turn, ByA, ByB, turned, all_turned, MayDo, AllMay}
use Rattle.ertm_model.specs.Order.{Way, Stands, StandsBoth, NewStands, TurnsStand}
use Rattle.ertm_model.proofs.Cutting.{cut-spells, cut-stated}
use Rattle.ertm_model.proofs.Lists.{all-both}
use Rattle.ertm_model.proofs.Queues.{flies-more, flies-behind, rises-behind}
use Rattle.ertm_model.proofs.Sending.{sends-taken}
use Rattle.ertm_model.proofs.Saying.{gives-stands}
use Rattle.ertm_model.proofs.Hearing.{hearing-stands}

-- ---- timer

closing_on : (x y : End) (spent : Bool) → Stands x y → Stands (record x { machine = cond spent (closing RetryLimit x.machine) (polling x.machine) }) y
closing_on x y true h = record { meets = h.meets; met = h.met; there = h.there; back = h.back; only_x = inr refl; only_y = h.only_y }
closing_on x y false h = record { meets = h.meets; met = h.met; there = h.there; back = h.back; only_x = h.only_x; only_y = h.only_y }

first_on : (x y : End) (unacked : List Kept) → Stands x y → Stands (record x { machine = first_poll unacked x.machine }) y
first_on x y [] h = h
first_on x y (kept ∷ behind) h = record { meets = h.meets; met = h.met; there = h.there; back = h.back; only_x = h.only_x; only_y = h.only_y }

fires_poll : (x y : End) (poll : Poll) → Stands x y → Stands (record x { machine = poll_timed poll x.machine }) y
fires_poll x y NoPoll h = first_on x y x.machine.sender.unacked h
fires_poll x y Due h = h
fires_poll x y Waits h = closing_on x y (nat_le x.machine.agreed.tries x.machine.sender.polls) h

fires : (x y : End) (closed : Option ErtmReason) → Stands x y → Stands (record x { machine = open_timed closed x.machine }) y
fires x y (Some reason) h = h
fires x y None h = fires_poll x y x.machine.sender.poll h

-- ---- submit

took_there :
    {window mtu first next : ℕ} {unacked : List Kept} {fresh put : List Segment} {sdus : List (List ℕ)} {queue : List Sent} {expected : ℕ} {begun : Option Begun} {got : List Segment} {up : List (List ℕ)} {asking : List Sent} (mps : ℕ) (sdu : List ℕ)
    → fresh ≡ [] → length sdu ≤ mtu
    → Way window mtu first next unacked fresh put sdus queue expected begun got up asking
    → Way window mtu first next unacked (cut mps sdu) (put ++ cut mps sdu) (sdus ++ sdu ∷ []) queue expected begun got up asking
took_there {window} {mtu} {first} {next} {unacked} {fresh} {put} {sdus} {queue} {expected} {begun} {got} {up} {asking} mps sdu none fits h =
    let more = cut mps sdu in
    let joins = sdu_joins more sdu (cut-spells mps sdu) in
    record {
      a = h.a;
      sends = sends-taken more none h.sends;
      accepts = record {
        left = h.accepts.left ++ more;
        put_is = ap (λ (l : List Segment). l ++ more) h.accepts.put_is ∙ append_assoc got h.accepts.left more;
        expected_is = h.accepts.expected_is;
        joins = h.accepts.joins;
        up_is = h.accepts.up_is;
      };
      holds = record {
        joins = joined-append (At None) put more ∙ ap (λ (j : Joining). joined j more) h.holds.joins ∙ joins.0;
        sdus_are =
            ended-append (At None) put more ∙ ap (λ (l : List (List ℕ)). l ++ ended (joined (At None) put) more) h.holds.sdus_are
            ∙ ap (λ (j : Joining). sdus ++ ended j more) h.holds.joins ∙ ap (λ (l : List (List ℕ)). sdus ++ l) joins.1;
        within = all-both (λ (s : Segment). stated s ≤ mtu) put more h.holds.within (cut-stated mps mtu sdu fits);
      };
      a_c = h.a_c;
      c_n = h.c_n;
      flies = flies-more window put more (h.a + length unacked) (h.a + length unacked) (length got) (length got) queue (omega arith) (omega arith) h.flies;
      rises = h.rises;
    }

pub no_fresh : (fresh : List Segment) → is_some_fresh fresh ≡ false → fresh ≡ []
no_fresh [] is = refl
no_fresh (segment ∷ fresh) is = cc

submits : (x y : End) (sdu : List ℕ) (busy : Bool) → is_busy x.machine ≡ busy → length sdu ≤ x.machine.agreed.send_mtu → Stands x y → Stands (cond busy x (took sdu x)) y
submits x y sdu true is fits h = h
submits x y sdu false is fits h = record {
  meets = h.meets;
  met = h.met;
  there = took_there x.machine.agreed.send_mps sdu (no_fresh x.machine.sender.fresh is) (let e = h.meets.mtu in omega arith) h.there;
  back = h.back;
  only_x = h.only_x;
  only_y = h.only_y;
}

-- ---- the front frame goes

goes_there :
    {window mtu first next : ℕ} {unacked : List Kept} {fresh put : List Segment} {sdus : List (List ℕ)} {queue : List Sent} {expected : ℕ} {begun : Option Begun} {got : List Segment} {up : List (List ℕ)} {asking : List Sent}
    → Way window mtu first next unacked fresh put sdus queue expected begun got up asking → Way window mtu first next unacked fresh put sdus (behind_front queue) expected begun got up asking
goes_there {window} {mtu} {first} {next} {unacked} {fresh} {put} {sdus} {queue} {expected} {begun} {got} {up} {asking} h =
    record { a = h.a; sends = h.sends; accepts = h.accepts; holds = h.holds; a_c = h.a_c; c_n = h.c_n; flies = flies-behind window put (h.a + length unacked) (length got) queue h.flies; rises = h.rises }

goes_back :
    {window mtu first next : ℕ} {unacked : List Kept} {fresh put : List Segment} {sdus : List (List ℕ)} {queue : List Sent} {expected : ℕ} {begun : Option Begun} {got : List Segment} {up : List (List ℕ)} {asking : List Sent}
    → Way window mtu first next unacked fresh put sdus queue expected begun got up asking → Way window mtu first next unacked fresh put sdus queue expected begun got up (behind_front asking)
goes_back {got = got} {asking = asking} h =
    record { a = h.a; sends = h.sends; accepts = h.accepts; holds = h.holds; a_c = h.a_c; c_n = h.c_n; flies = h.flies; rises = rises-behind h.a (length got) asking h.rises }

pub goes-stands : (x y : End) → Stands x y → Stands (record x { queue = behind_front x.queue }) y
goes-stands x y h = record { meets = h.meets; met = h.met; there = goes_there h.there; back = goes_back h.back; only_x = h.only_x; only_y = h.only_y }

-- a damaged frame changes nothing
no_fault : (refusal : FrameRefusal) → (refusal ≡ Short) ⊎ (refusal ≡ BadFcs) → refusal_fault refusal ≡ None
no_fault refusal (inl e) = rw e refl
no_fault refusal (inr e) = rw e refl

unchanged : (closed : Option ErtmReason) (m : Ertm) → closed_by closed None m ≡ m
unchanged None m = refl
unchanged (Some reason) m = refl

pub damages : (refusal : FrameRefusal) (queue : List Sent) (y : End) → (refusal ≡ Short) ⊎ (refusal ≡ BadFcs) → far (Damage refusal) queue y ≡ y
damages refusal [] y is = refl
damages refusal (sent ∷ queue) y is =
    ap (λ (m : Ertm). record y { machine = m }) (ap (λ (f : Option ErtmReason). closed_by y.machine.closed f y.machine) (no_fault refusal is) ∙ unchanged y.machine.closed y.machine)

-- ---- every deed

pub hands-stands : (x y : End) (queue : List Sent) → x.queue ≡ queue → Stands x y → Stands x (far Repeat queue y)
hands-stands x y [] is h = h
hands-stands x y (sent ∷ queue) is h = hearing-stands x y sent queue is h

pub does-stands : (deed : Deed) (x y : End) → MayDo deed x → Stands x y → Stands (near deed x) (far deed x.queue y)
does-stands Give x y may h = gives-stands x y h
does-stands Fire x y may h = fires x y x.machine.closed h
does-stands (Submit sdu) x y may h = submits x y sdu (is_busy x.machine) refl may h
does-stands Pass x y may h = goes-stands x (far Repeat x.queue y) (hands-stands x y x.queue refl h)
does-stands Lose x y may h = goes-stands x y h
does-stands Repeat x y may h = hands-stands x y x.queue refl h
does-stands (Damage refusal) x y may h = let e = damages refusal x.queue y may in rw e (goes-stands x y h)

pub swapped : {x y : End} → Stands x y → Stands y x
swapped h = record { meets = h.met; met = h.meets; there = h.back; back = h.there; only_x = h.only_y; only_y = h.only_x }

pub turns-stand : TurnsStand
turns-stand (ByA deed) p may h = does-stands deed p.a p.b may h
turns-stand (ByB deed) p may h = swapped (does-stands deed p.b p.a may (swapped h))

pub all-stand : (turns : List Turn) (p : Pair) → AllMay turns p → StandsBoth p → StandsBoth (all_turned turns p)
all-stand [] p may h = h
all-stand (turn ∷ turns) p may h = all-stand turns (turned turn p) may.1 (turns-stand turn p may.0 h)

new_way : (window mtu : ℕ) → Way window mtu 0 0 [] [] [] [] [] 0 None [] [] []
new_way window mtu = record {
  a = 0;
  sends = record { done = []; put_is = refl; done_is = refl; first_is = refl; next_in = omega arith; in_window = omega arith };
  accepts = record { left = []; put_is = refl; expected_is = refl; joins = refl; up_is = refl };
  holds = record { joins = refl; sdus_are = refl; within = tt };
  a_c = omega arith;
  c_n = omega arith;
  flies = omega arith;
  rises = omega arith;
}

pub new-stands : NewStands
new-stands a b meets met = record {
  meets = meets;
  met = met;
  there = new_way a.send_window b.receive_mtu;
  back = new_way b.send_window a.receive_mtu;
  only_x = inl refl;
  only_y = inl refl;
}
