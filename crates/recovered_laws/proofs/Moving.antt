-- Two ends of a channel with the PDUs that are under way between their hosts, and what each turn of them leaves of these.
use Rattle.std.proofs.Common.{◌≡◌, ℕ, ◌+◌, ◌≤◌, List, [], ◌∷◌, ◌++◌, length, Bool, true, false, cond, Option, Some, None, Ok, refl, sym, ap, subst, ◌∙◌, inl, inr}
use Rattle.channel_laws.specs.l2cap_config.specs.declared.wish.Agreed.{Agreed}
use Rattle.channel_laws.specs.ertm_frames.specs.Frames.{PlainFrame}
use Rattle.channel_laws.specs.ertm_frames.specs.Answers.{IsWithin}
use Rattle.channel_laws.specs.ertm_frames.specs.Reading.{answer_in}
use Rattle.channel_laws.specs.ertm_model.specs.declared.reason.ErtmReason.{ErtmReason}
use Rattle.channel_laws.specs.ertm_model.specs.Value.{Ertm}
use Rattle.channel_laws.specs.ertm_model.specs.Submitting.{is_busy}
use Rattle.channel_laws.specs.ertm_model.specs.Giving.{Giving, giving, given_frame, frame_by, next_frame, after_by, timed}
use Rattle.channel_laws.specs.ertm_model.specs.Hearing.{fault}
use Rattle.channel_laws.specs.ertm_model.specs.Pair.{Sent, End, Give, Fire, Submit, Pass, Lose, Repeat, gave, took, behind_front, hearing_by, hearing_front, near, acknowledged_by, accepted_by, new_end, Pair, ByA, ByB, turned}
use Rattle.channel_laws.specs.ertm_model.specs.Order.{Stands}
use Rattle.channel_laws.specs.ertm_model.proofs.Ordering.{front-flies}
use Rattle.channel_laws.specs.ertm_model.proofs.Saying.{gives-stands}
use Rattle.channel_laws.specs.ertm_model.proofs.Standing.{turns-stand, swapped}
use Rattle.channel_laws.specs.channel_model.specs.Carrying.{machine_heard}
use Rattle.channel_laws.specs.channel_model.specs.Value.{Carrier, Plain, Retransmitting}
use Rattle.channel_laws.specs.Pipes.{Suits}
use Rattle.channel_laws.proofs.Attending.{submits-aside, gives-aside, fires-aside}
use Rattle.channel_laws.proofs.HandedUp.{heard-agreed}
use Rattle.channel_laws.proofs.Joining.{Seen, Reads, AreSpelled, Terms, Joins, Holds, other_terms}
use Rattle.channel_laws.proofs.Partaking.{frame-within}
use Rattle.channel_laws.proofs.Piping.{Tells, tells-gives, tells-takes, took-machine, tells-fires, tells-hears, heard-machine}

abbrev pub seen : (near_said far_said : List PlainFrame) → (to_near to_far : List (List ℕ)) → Seen
seen near_said far_said to_near to_far = record { near_said = near_said; far_said = far_said; to_near = to_near; to_far = to_far }

pub record Ends (t : Terms) (to_near to_far : List (List ℕ)) (p : Pair) : Type 0 where
  pub near_said : List PlainFrame
  pub far_said : List PlainFrame
  pub joins : Joins t (seen near_said far_said to_near to_far) p

abbrev pub swap : Pair → Pair
swap p = record { a = p.b; b = p.a }

pub ends-swapped : (t : Terms) (n f : List (List ℕ)) (p : Pair) → Ends t n f p → Ends (other_terms t) f n (swap p)
ends-swapped t n f p e = record {
  near_said = e.far_said;
  far_said = e.near_said;
  joins = record {
    stands = swapped e.joins.stands;
    near_tells = e.joins.far_tells;
    far_tells = e.joins.near_tells;
    near_flies = e.joins.far_flies;
    far_flies = e.joins.near_flies;
    near_by = e.joins.far_by;
    far_by = e.joins.near_by;
  };
}

-- ---- the near end does something

pub ends-fires : (t : Terms) (n f : List (List ℕ)) (p : Pair) → (timed p.a.machine).closed ≡ None → Ends t n f p → Ends t n f (turned (ByA Fire) p)
ends-fires t n f p still e = record {
  near_said = e.near_said;
  far_said = e.far_said;
  joins = record {
    stands = turns-stand (ByA Fire) p tt e.joins.stands;
    near_tells = tells-fires t.other.receive_mps p.a e.near_said e.joins.near_tells;
    far_tells = e.joins.far_tells;
    near_flies = e.joins.near_flies;
    far_flies = e.joins.far_flies;
    near_by = (fires-aside p.a.machine still).agreed_same ∙ e.joins.near_by;
    far_by = e.joins.far_by;
  };
}

pub submitted_queue : (sdu : List ℕ) (e : End) → (near (Submit sdu) e).queue ≡ e.queue
submitted_queue sdu e = by (is_busy e.machine)
  where
    by : (busy : Bool) → (cond busy e (took sdu e)).queue ≡ e.queue
    by true = refl
    by false = refl

pub ends-submits : (t : Terms) (n f : List (List ℕ)) (p : Pair) (sdu : List ℕ) → Suits t.mine t.other → length sdu ≤ p.a.machine.agreed.send_mtu → Ends t n f p → Ends t n f (turned (ByA (Submit sdu)) p)
ends-submits t n f p sdu fit short e = record {
  near_said = e.near_said;
  far_said = e.far_said;
  joins = record {
    stands = turns-stand (ByA (Submit sdu)) p short e.joins.stands;
    near_tells = tells-takes t.other.receive_mps p.a sdu e.near_said (is_busy p.a.machine) refl (subst (λ (a : Agreed). 1 ≤ a.send_mps) (sym is) fit.some) (subst (λ (a : Agreed). a.send_mps ≤ t.other.receive_mps) (sym is) fit.within) e.joins.near_tells;
    far_tells = e.joins.far_tells;
    near_flies = subst (AreSpelled f) (sym (submitted_queue sdu p.a)) e.joins.near_flies;
    far_flies = e.joins.far_flies;
    near_by = ap (λ (m : Ertm). m.agreed) (took-machine sdu p.a) ∙ ((submits-aside sdu p.a.machine).agreed_same ∙ is);
    far_by = e.joins.far_by;
  };
}
  where
    is : p.a.machine.agreed ≡ t.mine
    is = e.joins.near_by

pub spelled_more : (pdus : List (List ℕ)) (queue : List Sent) (pdu : List ℕ) (sent : Sent) → Reads pdu sent.frame → AreSpelled pdus queue → AreSpelled (pdus ++ pdu ∷ []) (queue ++ sent ∷ [])
spelled_more [] [] pdu sent reads spelled = (reads, tt)
spelled_more [] (first ∷ queue) pdu sent reads spelled = elim spelled [ ]
spelled_more (first ∷ pdus) [] pdu sent reads spelled = elim spelled [ ]
spelled_more (first ∷ pdus) (other ∷ queue) pdu sent reads spelled = (spelled.0, spelled_more pdus queue pdu sent reads spelled.1)

pub ends-gives : (t : Terms) (n f : List (List ℕ)) (p : Pair) (pdu : List ℕ) (frame : PlainFrame) → next_frame p.a.machine ≡ Some frame → Reads pdu frame → Ends t n f p → Ends t n (f ++ pdu ∷ []) (turned (ByA Give) p)
ends-gives t n f p pdu frame next reads e = by (giving p.a.machine) refl next
  where
    by : (given : Option Giving) → giving p.a.machine ≡ given → frame_by given p.a.machine ≡ Some frame → (let now : Pair = record { a = gave given p.a; b = p.b } in Ends t n (f ++ pdu ∷ []) now)
    by None is same = cc
    by (Some g) is same =
        let frame_is : given_frame g p.a.machine ≡ frame = cc in
        let sent : Sent = record { frame = given_frame g p.a.machine; number = acknowledged_by p.a + p.a.machine.sender.next; asks = accepted_by p.a } in
        record {
          near_said = e.near_said ++ given_frame g p.a.machine ∷ [];
          far_said = e.far_said;
          joins = record {
            stands = subst (λ o. Stands (gave o p.a) p.b) is (gives-stands p.a p.b e.joins.stands);
            near_tells = tells-gives t.other.receive_mps p.a p.b g e.near_said is e.joins.stands e.joins.near_tells;
            far_tells = e.joins.far_tells;
            near_flies = spelled_more f p.a.queue pdu sent (subst (Reads pdu) (sym frame_is) reads) e.joins.near_flies;
            far_flies = e.joins.far_flies;
            near_by = sym (ap (λ o. (after_by o p.a.machine).agreed) is) ∙ ((gives-aside p.a.machine).agreed_same ∙ e.joins.near_by);
            far_by = e.joins.far_by;
          };
        }

-- ---- it hears the first of what is under way

pub same_queue : (queue : List Sent) (e : End) → (hearing_front queue e).queue ≡ e.queue
same_queue [] e = refl
same_queue (sent ∷ queue) e = by e.machine.closed (fault sent.frame e.machine)
  where
    by : (shut cause : Option ErtmReason) → (hearing_by shut cause sent.frame e).queue ≡ e.queue
    by (Some reason) cause = refl
    by None (Some cause) = refl
    by None None = refl

-- an end that has said something is not new
pub not_new : {X : Type 0} (agreed : Agreed) (e : End) (sent : Sent) (queue : List Sent) → e.queue ≡ sent ∷ queue → e ≡ new_end agreed → X
not_new agreed e sent queue is new = let never : [] ≡ sent ∷ queue = sym (ap (λ (x : End). x.queue) new) ∙ is in absurd cc

abbrev pub behind : End → End
behind e = record e { queue = behind_front e.queue }

pub behind_holds : (agreed : Agreed) (e : End) (sent : Sent) (queue : List Sent) → e.queue ≡ sent ∷ queue → (opened : Bool) (carrier : Option Carrier) → Holds agreed e opened carrier → Holds agreed (behind e) opened carrier
behind_holds agreed e sent queue is opened None holds = not_new agreed e sent queue is holds
behind_holds agreed e sent queue is opened (Some (Plain a waiting)) holds = not_new agreed e sent queue is holds
behind_holds agreed e sent queue is opened (Some (Retransmitting machine)) (inl (a, same, new)) = not_new agreed e sent queue is new
behind_holds agreed e sent queue is opened (Some (Retransmitting machine)) (inr holds) = inr holds

-- the frame at the front, and its PDU
pub record Front (t : Terms) (p : Pair) (pdu : List ℕ) (rest : List (List ℕ)) : Type 0 where
  pub sent : Sent
  pub queue : List Sent
  pub first : p.b.queue ≡ sent ∷ queue
  pub spelled : AreSpelled rest queue
  pub read : answer_in t.mine.receive_mps pdu ≡ Ok sent.frame

pub ends-front : (t : Terms) (f : List (List ℕ)) (p : Pair) (pdu : List ℕ) (rest : List (List ℕ)) → Ends t (pdu ∷ rest) f p → Front t p pdu rest
ends-front t f p pdu rest e = by p.b.queue refl e.joins.far_flies
  where
    by : (queue : List Sent) → p.b.queue ≡ queue → AreSpelled (pdu ∷ rest) queue → Front t p pdu rest
    by [] none spelled = elim spelled [ ]
    by (sent ∷ queue) first (reads, spelled) =
        let within : IsWithin t.mine.receive_mps sent.frame = frame-within t.mine.receive_mps _ _ _ sent.number p.b.put sent.frame e.joins.far_tells.short (front-flies p.b p.a sent queue (swapped e.joins.stands) first) in
        record { sent = sent; queue = queue; first = first; spelled = spelled; read = reads.1 t.mine.receive_mps within }

-- what its machine is then
pub front-machine : (t : Terms) (p : Pair) (pdu : List ℕ) (rest : List (List ℕ)) → Front t p pdu rest → (hearing_front p.b.queue p.a).machine ≡ machine_heard (answer_in t.mine.receive_mps pdu) p.a.machine
front-machine t p pdu rest front = ap (λ l. (hearing_front l p.a).machine) front.first ∙ (heard-machine front.sent.frame p.a ∙ ap (λ x. machine_heard x p.a.machine) (sym front.read))

-- what it says is as before, and what it agreed on
pub near_says : (t : Terms) (f : List (List ℕ)) (p : Pair) (pdu : List ℕ) (rest : List (List ℕ)) → Front t p pdu rest → (e : Ends t (pdu ∷ rest) f p)
    → Tells t.other.receive_mps (hearing_front p.b.queue p.a) e.near_said × AreSpelled f (hearing_front p.b.queue p.a).queue × ((hearing_front p.b.queue p.a).machine.agreed ≡ t.mine)
near_says t f p pdu rest front e = (
  subst (λ l. Tells t.other.receive_mps (hearing_front l p.a) e.near_said) (sym front.first) (tells-hears t.other.receive_mps p.a front.sent.frame e.near_said e.joins.near_tells),
  subst (AreSpelled f) (sym (same_queue p.b.queue p.a)) e.joins.near_flies,
  ap (λ (m : Ertm). m.agreed) (front-machine t p pdu rest front) ∙ (heard-agreed (answer_in t.mine.receive_mps pdu) p.a.machine ∙ e.joins.near_by),
)

-- it comes in, and goes or stays
pub ends-passes : (t : Terms) (f : List (List ℕ)) (p : Pair) (pdu : List ℕ) (rest : List (List ℕ)) → Front t p pdu rest → Ends t (pdu ∷ rest) f p → Ends t rest f (turned (ByB Pass) p)
ends-passes t f p pdu rest front e =
    let says = near_says t f p pdu rest front e in
    record {
      near_said = e.near_said;
      far_said = e.far_said;
      joins = record {
        stands = turns-stand (ByB Pass) p tt e.joins.stands;
        near_tells = says.0;
        far_tells = record { put_is = e.joins.far_tells.put_is; short = e.joins.far_tells.short };
        near_flies = says.1;
        far_flies = subst (AreSpelled rest) (sym (ap behind_front front.first)) front.spelled;
        near_by = says.2;
        far_by = e.joins.far_by;
      };
    }

pub ends-repeats : (t : Terms) (f : List (List ℕ)) (p : Pair) (pdu : List ℕ) (rest : List (List ℕ)) → Front t p pdu rest → Ends t (pdu ∷ rest) f p → Ends t (pdu ∷ rest) f (turned (ByB Repeat) p)
ends-repeats t f p pdu rest front e =
    let says = near_says t f p pdu rest front e in
    record {
      near_said = e.near_said;
      far_said = e.far_said;
      joins = record {
        stands = turns-stand (ByB Repeat) p tt e.joins.stands;
        near_tells = says.0;
        far_tells = e.joins.far_tells;
        near_flies = says.1;
        far_flies = e.joins.far_flies;
        near_by = says.2;
        far_by = e.joins.far_by;
      };
    }

-- it is gone
pub ends-loses : (t : Terms) (f : List (List ℕ)) (p : Pair) (pdu : List ℕ) (rest : List (List ℕ)) → Front t p pdu rest → Ends t (pdu ∷ rest) f p → Ends t rest f (turned (ByB Lose) p)
ends-loses t f p pdu rest front e = record {
  near_said = e.near_said;
  far_said = e.far_said;
  joins = record {
    stands = turns-stand (ByB Lose) p tt e.joins.stands;
    near_tells = e.joins.near_tells;
    far_tells = record { put_is = e.joins.far_tells.put_is; short = e.joins.far_tells.short };
    near_flies = e.joins.near_flies;
    far_flies = subst (AreSpelled rest) (sym (ap behind_front front.first)) front.spelled;
    near_by = e.joins.near_by;
    far_by = e.joins.far_by;
  };
}

pub gone-holds : (t : Terms) (p : Pair) (pdu : List ℕ) (rest : List (List ℕ)) → Front t p pdu rest → (opened : Bool) (carrier : Option Carrier) → Holds t.other p.b opened carrier → (let b : End = record p.b { queue = behind_front p.b.queue } in Holds t.other b opened carrier)
gone-holds t p pdu rest front opened carrier holds = behind_holds t.other p.b front.sent front.queue front.first opened carrier holds
