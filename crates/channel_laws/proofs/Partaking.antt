-- One of two hosts hears on the channel that they have in common, sends on it and gives its frames.
use Rattle.std.proofs.Common.{◌≡◌, ℕ, zero, suc, ◌+◌, ◌≤◌, List, [], ◌∷◌, ◌++◌, length, Bool, true, false, cond, ◌&&◌, Option, Some, None, Ok, Err, refl, sym, ap, subst, ◌∙◌, ◌⊎◌, inl, inr, arith, append-nil, append_assoc}
use Rattle.std.specs.Prelude.{find, option_map, option_to_list, is_some, slice_get}
use Rattle.std.specs.List.{AllByRecursion}
use Rattle.own_channel_laws.specs.talk_laws.specs.l2cap_config.specs.declared.wish.Agreed.{Agreed}
use Rattle.own_channel_laws.specs.talk_laws.specs.ertm_frames.specs.declared.refusal.FrameRefusal.{FrameRefusal}
use Rattle.own_channel_laws.specs.talk_laws.specs.ertm_frames.specs.declared.refusal.FrameRefusal.TheVariants.{Short, BadFcs}
use Rattle.own_channel_laws.specs.talk_laws.specs.ertm_frames.specs.Frames.{PlainFrame, information, supervisory}
use Rattle.own_channel_laws.specs.talk_laws.specs.ertm_frames.specs.Segments.{Segment}
use Rattle.own_channel_laws.specs.talk_laws.specs.ertm_frames.specs.Answers.{Answer, IsWithin}
use Rattle.own_channel_laws.specs.talk_laws.specs.ertm_frames.specs.Reading.{answer_in}
use Rattle.own_channel_laws.specs.channel_model.specs.ertm_model.specs.declared.reason.ErtmReason.{ErtmReason}
use Rattle.own_channel_laws.specs.channel_model.specs.ertm_model.specs.Value.{Ertm, new_ertm}
use Rattle.own_channel_laws.specs.channel_model.specs.ertm_model.specs.Submitting.{is_busy, submitted}
use Rattle.own_channel_laws.specs.channel_model.specs.ertm_model.specs.Giving.{Giving, giving, given_frame, next_frame, after_by, frame_by, after_frame}
use Rattle.own_channel_laws.specs.channel_model.specs.ertm_model.specs.Hearing.{fault, refusal_fault, closed_by, segment_of}
use Rattle.own_channel_laws.specs.channel_model.specs.ertm_model.specs.Pair.{Sent, End, Pair, near, Submit, gave, took, hearing_by, hearing, acknowledged_by, accepted_by}
use Rattle.own_channel_laws.specs.channel_model.specs.ertm_model.specs.Order.{MayFly, Stands}
use Rattle.own_channel_laws.specs.channel_model.specs.ertm_model.proofs.Standing.{does-stands, swapped}
use Rattle.own_channel_laws.specs.channel_model.specs.ertm_model.proofs.Hearing.{hearing-stands}
use Rattle.own_channel_laws.specs.channel_model.specs.ertm_model.proofs.Saying.{gives-stands}
use Rattle.own_channel_laws.specs.channel_model.specs.ertm_model.proofs.Ordering.{front-flies}
use Rattle.own_channel_laws.specs.channel_model.specs.Value.{Carrier, Plain, Retransmitting, Setup, Stage, Requested, Connected, Leaving, Closing, Crossed, Held, Channels}
use Rattle.own_channel_laws.specs.channel_model.specs.Policies.{Policy}
use Rattle.own_channel_laws.specs.channel_model.specs.Changing.{has_own, held_at, is_granted, is_open, setup_of, stage_with, with_setup, to_setup, has_fcs_by}
use Rattle.own_channel_laws.specs.channel_model.specs.Asking.{new_request}
use Rattle.own_channel_laws.specs.channel_model.specs.Closing.{closes_at}
use Rattle.own_channel_laws.specs.channel_model.specs.Configuring.{granted_setup}
use Rattle.own_channel_laws.specs.channel_model.specs.Carrying.{reason_of, settles_machine, read_by, machine_heard, machine_sdu, carried_sdu, is_taken_with, sdu_with, sdu_at, takes_on, takes_held, takes}
use Rattle.own_channel_laws.specs.channel_model.specs.Giving.{carrier_given, carrier_spent}
use Rattle.own_channel_laws.specs.channel_model.specs.Calls.{carrier_with, sends_on, sends_held, sends}
use Rattle.own_channel_laws.specs.channel_model.proofs.Lookups.{own_of, found-has, found-placed}
use Rattle.own_channel_laws.specs.channel_model.proofs.Going.{staged}
use Rattle.own_channel_laws.specs.channel_model.proofs.Walking.{found-own, with-setup, with-found}
use Rattle.own_channel_laws.specs.Views.{peer_of}
use Rattle.channel_laws.specs.Pipes.{IsFront, Suits}
use Rattle.own_channel_laws.proofs.Both.{and-right}
use Rattle.own_channel_laws.proofs.Keeping.{OfCarrier, StageKeeps, HeldKeeps}
use Rattle.own_channel_laws.proofs.Attending.{submits-aside, gives-aside}
use Rattle.own_channel_laws.proofs.HandedUp.{heard-agreed, closes-silent}
use Rattle.own_channel_laws.proofs.Taking.{Opens, takes-cases}
use Rattle.channel_laws.proofs.Piping.{Tells, tells-gives, tells-takes, took-machine, tells-hears, heard-machine, heard-up}
use Rattle.channel_laws.proofs.Joining.{Seen, Reads, AreSpelled, Terms, Joins, Holds, IsEnd, At, Joined, IsBelow}

-- ---- a channel that talks

abbrev pub leaving_of : Stage → Bool
leaving_of (Requested request) = false
leaving_of (Connected peer setup) = false
leaving_of (Leaving peer setup request) = true
leaving_of (Closing peer request checked) = false
leaving_of (Crossed peer request) = false

pub kept-on : (P : OfCarrier) (wish : _) (stage : Stage) (setup : Setup) → setup_of stage ≡ Some setup → StageKeeps P wish stage → P wish (leaving_of stage) (is_open setup) setup.carrier
kept-on P wish (Requested request) setup is kept = cc
kept-on P wish (Connected peer s) setup is kept = let same : s ≡ setup = cc in subst (λ (x : Setup). P wish false (is_open x) x.carrier) same kept
kept-on P wish (Leaving peer s request) setup is kept = let same : s ≡ setup = cc in subst (λ (x : Setup). P wish true (is_open x) x.carrier) same kept
kept-on P wish (Closing peer request checked) setup is kept = cc
kept-on P wish (Crossed peer request) setup is kept = cc

pub keeps-on : (P : OfCarrier) (wish : _) (stage : Stage) (setup after : Setup) → setup_of stage ≡ Some setup → P wish (leaving_of stage) (is_open after) after.carrier → StageKeeps P wish (stage_with after stage)
keeps-on P wish (Requested request) setup after is kept = cc
keeps-on P wish (Connected peer s) setup after is kept = kept
keeps-on P wish (Leaving peer s request) setup after is kept = kept
keeps-on P wish (Closing peer request checked) setup after is kept = cc
keeps-on P wish (Crossed peer request) setup after is kept = cc

same_leaving : (stage : Stage) (setup : Setup) → leaving_of (stage_with setup stage) ≡ leaving_of stage
same_leaving (Requested request) setup = refl
same_leaving (Connected peer s) setup = refl
same_leaving (Leaving peer s request) setup = refl
same_leaving (Closing peer request checked) setup = refl
same_leaving (Crossed peer request) setup = refl

sdu_of : (stage : Stage) (setup : Setup) (pdu : List ℕ) → setup_of stage ≡ Some setup → sdu_at stage pdu ≡ cond (leaving_of stage) None (sdu_with setup.carrier setup.own pdu)
sdu_of (Requested request) setup pdu is = cc
sdu_of (Connected peer s) setup pdu is = let same : s ≡ setup = cc in ap (λ (x : Setup). sdu_with x.carrier x.own pdu) same
sdu_of (Leaving peer s request) setup pdu is = refl
sdu_of (Closing peer request checked) setup pdu is = cc
sdu_of (Crossed peer request) setup pdu is = cc

no_sdu : (stage : Stage) (setup : Setup) (pdu : List ℕ) → setup_of stage ≡ Some setup → sdu_with setup.carrier setup.own pdu ≡ None → sdu_at stage pdu ≡ None
no_sdu stage setup pdu is none = sdu_of stage setup pdu is ∙ (ap (cond (leaving_of stage) None) none ∙ by (leaving_of stage))
  where
    nothing : Option (List ℕ)
    nothing = None

    by : (leaving : Bool) → cond leaving nothing nothing ≡ nothing
    by true = refl
    by false = refl

silent_at : (stage : Stage) (pdu : List ℕ) → setup_of stage ≡ None → sdu_at stage pdu ≡ None
silent_at (Requested request) pdu is = refl
silent_at (Connected peer setup) pdu is = cc
silent_at (Leaving peer setup request) pdu is = cc
silent_at (Closing peer request checked) pdu is = refl
silent_at (Crossed peer request) pdu is = refl

-- ---- what is agreed on

-- it is in enhanced retransmission mode, and by this agreement where its channel is open
abbrev pub IsMachine : Agreed → (opened : Bool) → Carrier → Type 0
IsMachine agreed opened (Plain other waiting) = ⊥
IsMachine agreed opened (Retransmitting machine) = opened ≡ true → machine.agreed ≡ agreed

-- A host's channel of an own endpoint is for one endpoint of the peer, and no other one that carries something is for that.
pub record IsSole (own peer : ℕ) (v : Channels) : Type 0 where
  pub for : (held : Held) (endpoint : ℕ) → held_at own v ≡ Some held → peer_of held.stage ≡ Some endpoint → endpoint ≡ peer
  pub alone : (held : Held) (setup : Setup) (carrier : Carrier) → held_at held.own v ≡ Some held → setup_of held.stage ≡ Some setup → setup.carrier ≡ Some carrier → peer_of held.stage ≡ Some peer → held.own ≡ own

-- and it is enhanced
pub record IsMate (agreed : Agreed) (own peer : ℕ) (v : Channels) : Type 0 where
  pub sole : IsSole own peer v
  pub enhanced : (held : Held) (setup : Setup) (carrier : Carrier) → held_at own v ≡ Some held → setup_of held.stage ≡ Some setup → setup.carrier ≡ Some carrier → IsMachine agreed (is_open setup) carrier

-- a channel at the endpoint is enhanced, and by this agreement where it is open
abbrev pub Agrees : Agreed → (own : ℕ) → Channels → Type 0
Agrees agreed own v = (held : Held) (setup : Setup) (carrier : Carrier) → held_at own v ≡ Some held → setup_of held.stage ≡ Some setup → setup.carrier ≡ Some carrier → IsMachine agreed (is_open setup) carrier

pub settle : (agreed : Agreed) (e : End) (opened : Bool) (machine : Ertm) → machine.agreed ≡ agreed → Holds agreed e opened (Some (Retransmitting machine)) → (machine ≡ e.machine) × (machine.closed ≡ None)
settle agreed e opened machine is (inl (other, same, new)) =
    let alike : other ≡ agreed = sym (ap (λ (m : Ertm). m.agreed) same) ∙ is in
    (same ∙ (ap new_ertm alike ∙ sym (ap (λ (x : End). x.machine) new)), ap (λ (m : Ertm). m.closed) same)
settle agreed e opened machine is (inr (same, now, open')) = (same, open')

-- ---- what comes of a PDU at the end

pub record Heard (t : Terms) (d : Seen) (p : Pair) (found : Answer) : Type 0 where
  pub pair : Pair
  pub joins : Joins t d pair
  pub far_is : pair.b ≡ p.b
  pub machine_is : pair.a.machine ≡ machine_heard found p.a.machine
  pub up_is : pair.a.up ≡ p.a.up ++ option_to_list (machine_sdu found p.a.machine)

abbrev pub CanHear : Terms → Seen → List ℕ → Type 0
CanHear t d pdu = (p : Pair) → Joins t d p → p.a.machine.closed ≡ None → Heard t d p (answer_in t.mine.receive_mps pdu)

all_at : {X : Type 0} (P : X → Type 0) (xs : List X) (n : ℕ) (x : X) → AllByRecursion P xs → slice_get xs n ≡ Some x → P x
all_at P [] n x all is = cc
all_at P (y ∷ xs) zero x all is = let same : y ≡ x = cc in subst P same all.0
all_at P (y ∷ xs) (suc n) x all is = all_at P xs n x all.1 is

pub frame-within : (most window given reach number : ℕ) (put : List Segment) (frame : PlainFrame) → AllByRecursion (λ (s : Segment). length s.octets ≤ most) put → MayFly window put given reach number frame → IsWithin most frame
frame-within most window given reach number put (information tx final req sar total octets) short may = all_at (λ (s : Segment). length s.octets ≤ most) put number (segment_of sar total octets) short may.3
frame-within most window given reach number put (supervisory kind poll final req) short may = tt

same_queue : (frame : PlainFrame) (e : End) → (hearing frame e).queue ≡ e.queue
same_queue frame e = by e.machine.closed (fault frame e.machine)
  where
    by : (shut cause : Option ErtmReason) → (hearing_by shut cause frame e).queue ≡ e.queue
    by (Some reason) cause = refl
    by None (Some cause) = refl
    by None None = refl

-- the first of what is under way is a frame of the other end
pub hears-frame : (t : Terms) (d : Seen) (pdu : List ℕ) (rest : List (List ℕ)) → d.to_near ≡ pdu ∷ rest → CanHear t d pdu
hears-frame t d pdu rest is p joins open' = by p.b.queue refl (subst (λ pdus. AreSpelled pdus p.b.queue) is joins.far_flies)
  where
    by : (queue : List Sent) → p.b.queue ≡ queue → AreSpelled (pdu ∷ rest) queue → Heard t d p (answer_in t.mine.receive_mps pdu)
    by [] none spelled = elim spelled [ ]
    by (sent ∷ queue) first (read, spelled) =
        let within : IsWithin t.mine.receive_mps sent.frame = frame-within t.mine.receive_mps _ _ _ sent.number p.b.put sent.frame joins.far_tells.short (front-flies p.b p.a sent queue (swapped joins.stands) first) in
        let now : End = hearing sent.frame p.a in
        subst (Heard t d p) (sym (read.1 t.mine.receive_mps within)) (record {
          pair = record { a = now; b = p.b };
          joins = record {
            stands = swapped (hearing-stands p.b p.a sent queue first (swapped joins.stands));
            near_tells = tells-hears t.other.receive_mps p.a sent.frame d.near_said joins.near_tells;
            far_tells = joins.far_tells;
            near_flies = subst (AreSpelled d.to_far) (sym (same_queue sent.frame p.a)) joins.near_flies;
            far_flies = joins.far_flies;
            near_by = ap (λ (m : Ertm). m.agreed) (heard-machine sent.frame p.a) ∙ (heard-agreed (Ok sent.frame) p.a.machine ∙ joins.near_by);
            far_by = joins.far_by;
          };
          far_is = refl;
          machine_is = heard-machine sent.frame p.a;
          up_is = heard-up sent.frame p.a open';
        })

no_cause : (refusal : FrameRefusal) → (refusal ≡ Short) ⊎ (refusal ≡ BadFcs) → refusal_fault refusal ≡ None
no_cause refusal (inl is) = ap refusal_fault is
no_cause refusal (inr is) = ap refusal_fault is

-- what is damaged is heard as nothing
pub hears-damaged : (t : Terms) (d : Seen) (pdu : List ℕ) (refusal : FrameRefusal) → (refusal ≡ Short) ⊎ (refusal ≡ BadFcs) → answer_in t.mine.receive_mps pdu ≡ Err refusal → CanHear t d pdu
hears-damaged t d pdu refusal seen is p joins open' = subst (Heard t d p) (sym is) (record {
  pair = p;
  joins = joins;
  far_is = refl;
  machine_is = sym (ap (λ c. closed_by c (refusal_fault refusal) p.a.machine) open' ∙ ap (λ c. closed_by None c p.a.machine) (no_cause refusal seen));
  up_is = sym (append-nil p.a.up);
})

-- ---- a PDU comes in on the channel

-- the SDU that it hands up
abbrev pub sdu_for : Option Held → List ℕ → Option (List ℕ)
sdu_for None pdu = None
sdu_for (Some held) pdu = sdu_at held.stage pdu

nothing_up : (near far : Policy) (t : Terms) (n f : ℕ) (d : Seen) (near_up far_up : List (List ℕ)) (v w : Channels) (sdu : Option (List ℕ)) → sdu ≡ None → Joined near far t n f d near_up far_up v w → Joined near far t n f d (near_up ++ option_to_list sdu) far_up v w
nothing_up near far t n f d near_up far_up v w sdu none h = subst (λ up. Joined near far t n f d up far_up v w) (sym (ap (λ s. near_up ++ option_to_list s) none ∙ append-nil near_up)) h

-- a channel that its machine closes is closed
closed_held : (policy : Policy) (P : OfCarrier) (u : Channels) (held : Held) (reason : _) (stage : Stage) (setup : Setup) → find (has_own held.own) u.held ≡ Some held → setup_of stage ≡ Some setup
    → HeldKeeps policy P (find (has_own held.own) (closes_at stage reason held u).held) × ((closes_at stage reason held u).next ≡ u.next)
closed_held policy P u held reason (Requested request) setup found has = cc
closed_held policy P u held reason (Connected peer s) setup found has = (subst (HeldKeeps policy P) (sym (found-placed (staged held (Closing peer (new_request u) (has_fcs_by s))) held u.held found)) tt, refl)
closed_held policy P u held reason (Leaving peer s request) setup found has = (subst (HeldKeeps policy P) (sym (found-placed (staged held (Closing peer request (has_fcs_by s))) held u.held found)) tt, refl)
closed_held policy P u held reason (Closing peer request checked) setup found has = cc
closed_held policy P u held reason (Crossed peer request) setup found has = cc

longer_front : (up ends more : List (List ℕ)) → IsFront up ends → IsFront up (ends ++ more)
longer_front up ends more (behind, is) = (behind ++ more, ap (λ l. l ++ more) is ∙ append_assoc up behind more)

-- by whether its host has asked for its end
up_by : (leaving : Bool) (near_up ups ends more : List (List ℕ)) (sdu : Option (List ℕ)) → ups ≡ near_up ++ option_to_list (cond leaving None sdu) → ends ≡ ends → more ≡ ends ++ option_to_list sdu → (leaving ≡ false → near_up ≡ ends) → IsFront near_up ends
    → (leaving ≡ false → ups ≡ more) × IsFront ups more
up_by true near_up ups ends more sdu ups_are any more_is same front =
    ((λ left. let never : true ≡ false = left in absurd cc), subst (λ x. IsFront x more) (sym (ups_are ∙ append-nil near_up)) (subst (IsFront near_up) (sym more_is) (longer_front near_up ends (option_to_list sdu) front)))
up_by false near_up ups ends more sdu ups_are any more_is same front =
    let all : ups ≡ more = ups_are ∙ (ap (λ l. l ++ option_to_list sdu) (same refl) ∙ sym more_is) in
    ((λ left. all), ([], sym all ∙ sym (append-nil ups)))

machine_hears : (near far : Policy) (t : Terms) (f : ℕ) (d : Seen) (near_up far_up : List (List ℕ)) (v u w : Channels) (pdu : List ℕ) (held : Held) (setup : Setup) (machine : Ertm) (closed : Option ErtmReason) → IsBelow v → find (has_own held.own) v.held ≡ Some held → setup_of held.stage ≡ Some setup
    → CanHear t d pdu → setup.carrier ≡ Some (Retransmitting machine) → is_taken_with setup.own (Retransmitting machine) pdu ≡ true → Opens v u held setup → (machine_heard (read_by machine pdu) machine).closed ≡ closed
    → (let after : Ertm = machine_heard (read_by machine pdu) machine in let z : Channels = settles_machine closed after (with_setup held (granted_setup setup)) (granted_setup setup) u in
    Agrees t.mine held.own z → Joined near far t held.own f d near_up far_up v w → Joined near far t held.own f d (near_up ++ option_to_list (sdu_at held.stage pdu)) far_up z w)
machine_hears near far t f d near_up far_up v u w pdu held setup machine (Some reason) below found has hears is taken opens shut agrees h =
    let base : Setup = granted_setup setup in
    let at_base : Held = with_setup held base in
    let silent : sdu_with setup.carrier setup.own pdu ≡ None =
    ap (λ c. sdu_with c setup.own pdu) is ∙ (ap (λ b. cond b (machine_sdu (read_by machine pdu) machine) None) taken ∙ closes-silent reason machine pdu shut) in
    let (keeps, next_is) = closed_held near (IsEnd t.mine near_up h.pair.a) u at_base (reason_of reason) at_base.stage base opens.here (with-setup held.stage setup base has) in
    let z : Channels = settles_machine (Some reason) (machine_heard (read_by machine pdu) machine) at_base base u in
    nothing_up near far t held.own f d near_up far_up z w (sdu_at held.stage pdu) (no_sdu held.stage setup pdu has silent) (record {
      pair = h.pair;
      joins = h.joins;
      near_at = record {
        held = keeps;
        before = λ above. let none : held_at held.own v ≡ None = below held.own (let same = opens.next_is in omega (arith, above, next_is, same)) in let never : None ≡ Some held = sym none ∙ found in absurd cc;
        front = h.near_at.front;
      };
      far_at = h.far_at;
    })
machine_hears near far t f d near_up far_up v u w pdu held setup machine None below found has hears is taken opens open' agrees h =
    let base : Setup = granted_setup setup in
    let after : Ertm = machine_heard (read_by machine pdu) machine in
    let last : Setup = record base { carrier = Some (Retransmitting after) } in
    let at_base : Held = with_setup held base in
    let z : Channels = to_setup at_base last u in
    let here : find (has_own held.own) z.held ≡ Some (with_setup at_base last) = with-found u at_base last opens.here in
    let has_base : setup_of at_base.stage ≡ Some base = with-setup held.stage setup base has in
    let alike : machine.agreed ≡ t.mine = sym (heard-agreed (read_by machine pdu) machine) ∙ agrees (with_setup at_base last) last (Retransmitting after) here (with-setup at_base.stage base last has_base) refl refl in
    let (up, holds) = kept-on (IsEnd t.mine near_up h.pair.a) (near.wish held.psm) held.stage setup has (subst (HeldKeeps near (IsEnd t.mine near_up h.pair.a)) found h.near_at.held) in
    let (same, was_open) = settle t.mine h.pair.a (is_open setup) machine alike (subst (Holds t.mine h.pair.a (is_open setup)) is holds) in
    let found_is : read_by machine pdu ≡ answer_in t.mine.receive_mps pdu = ap (λ (a : Agreed). answer_in a.receive_mps pdu) alike in
    let now = hears h.pair h.joins (sym (ap (λ (m : Ertm). m.closed) same) ∙ was_open) in
    let after_is : after ≡ now.pair.a.machine = ap (λ m. machine_heard (read_by machine pdu) m) same ∙ (ap (λ a. machine_heard a h.pair.a.machine) found_is ∙ sym now.machine_is) in
    let sdu : Option (List ℕ) = machine_sdu (read_by machine pdu) machine in
    let sdu_is : sdu ≡ machine_sdu (answer_in t.mine.receive_mps pdu) h.pair.a.machine = ap (λ m. machine_sdu (read_by machine pdu) m) same ∙ ap (λ a. machine_sdu a h.pair.a.machine) found_is in
    let handed : sdu_at held.stage pdu ≡ cond (leaving_of held.stage) None sdu = sdu_of held.stage setup pdu has ∙ (ap (λ c. cond (leaving_of held.stage) None (sdu_with c setup.own pdu)) is ∙ ap (λ b. cond (leaving_of held.stage) None (cond b sdu None)) taken) in
    let (ups, front) = up_by (leaving_of held.stage) near_up (near_up ++ option_to_list (sdu_at held.stage pdu)) h.pair.a.up now.pair.a.up sdu (ap (λ s. near_up ++ option_to_list s) handed) refl
    (now.up_is ∙ ap (λ s. h.pair.a.up ++ option_to_list s) (sym sdu_is)) up h.near_at.front in
    record {
      pair = now.pair;
      joins = now.joins;
      near_at = record {
        held = subst (HeldKeeps near (IsEnd t.mine (near_up ++ option_to_list (sdu_at held.stage pdu)) now.pair.a)) (sym here)
            (keeps-on (IsEnd t.mine (near_up ++ option_to_list (sdu_at held.stage pdu)) now.pair.a) (near.wish held.psm) at_base.stage base last has_base
            (subst (λ leaving. IsEnd t.mine (near_up ++ option_to_list (sdu_at held.stage pdu)) now.pair.a (near.wish held.psm) leaving true (Some (Retransmitting after))) (sym (same_leaving held.stage base)) (ups, inr (after_is, refl, open'))));
        before = λ above. let none : held_at held.own v ≡ None = below held.own (let same_next = opens.next_is in omega (arith, above, same_next)) in let never : None ≡ Some held = sym none ∙ found in absurd cc;
        front = front;
      };
      far_at = subst (λ e. At far t.other f far_up e w) (sym now.far_is) h.far_at;
    }

takes_by : (near far : Policy) (t : Terms) (f : ℕ) (d : Seen) (near_up far_up : List (List ℕ)) (v w : Channels) (pdu : List ℕ) (held : Held) (setup : Option Setup) → IsBelow v → find (has_own held.own) v.held ≡ Some held → setup_of held.stage ≡ setup → CanHear t d pdu
    → Agrees t.mine held.own v → Agrees t.mine held.own (takes_on setup pdu held v) → Joined near far t held.own f d near_up far_up v w → Joined near far t held.own f d (near_up ++ option_to_list (sdu_at held.stage pdu)) far_up (takes_on setup pdu held v) w
takes_by near far t f d near_up far_up v w pdu held None below found has hears was agrees h = nothing_up near far t held.own f d near_up far_up v w (sdu_at held.stage pdu) (silent_at held.stage pdu has) h
takes_by near far t f d near_up far_up v w pdu held (Some setup) below found has hears was agrees h =
    takes-cases (λ z. Agrees t.mine held.own z → Joined near far t held.own f d (near_up ++ option_to_list (sdu_at held.stage pdu)) far_up z w) v pdu held setup (record {
      none = λ is so. nothing_up near far t held.own f d near_up far_up v w (sdu_at held.stage pdu) (no_sdu held.stage setup pdu has (ap (λ c. sdu_with c setup.own pdu) is)) h;
      ignored = λ carrier is taken so.
          nothing_up near far t held.own f d near_up far_up v w (sdu_at held.stage pdu)
          (no_sdu held.stage setup pdu has (ap (λ c. sdu_with c setup.own pdu) is ∙ ap (λ b. cond b (carried_sdu carrier pdu) None) taken)) h;
      whole = λ u agreed waiting is taken opens so. absurd (was held setup (Plain agreed waiting) found has is);
      framed = λ u machine is taken opens so.
          machine_hears near far t f d near_up far_up v u w pdu held setup machine (machine_heard (read_by machine pdu) machine).closed below found has hears is taken opens refl so h;
    }) found has agrees

pub joined-takes : (near far : Policy) (t : Terms) (n f : ℕ) (d : Seen) (near_up far_up : List (List ℕ)) (v w : Channels) (pdu : List ℕ) → IsBelow v → CanHear t d pdu → Agrees t.mine n v → Agrees t.mine n (takes n pdu v) → Joined near far t n f d near_up far_up v w
    → Joined near far t n f d (near_up ++ option_to_list (sdu_for (held_at n v) pdu)) far_up (takes n pdu v) w
joined-takes near far t n f d near_up far_up v w pdu below hears was agrees h = by (held_at n v) refl agrees
  where
    by : (held : Option Held) → held_at n v ≡ held → Agrees t.mine n (takes_held held pdu v) → Joined near far t n f d (near_up ++ option_to_list (sdu_for held pdu)) far_up (takes_held held pdu v) w
    by None found agrees = nothing_up near far t n f d near_up far_up v w None refl h
    by (Some held) found agrees =
        let same : held.own ≡ n = found-has own_of n v.held held found in
        subst (λ k. Joined near far t k f d (near_up ++ option_to_list (sdu_at held.stage pdu)) far_up (takes_on (setup_of held.stage) pdu held v) w) same
        (takes_by near far t f d near_up far_up v w pdu held (setup_of held.stage) below (found-own n v held found) refl hears (subst (λ k. Agrees t.mine k v) (sym same) was)
        (subst (λ k. Agrees t.mine k (takes_on (setup_of held.stage) pdu held v)) (sym same) agrees) (subst (λ k. Joined near far t k f d near_up far_up v w) (sym same) h))

-- ---- the channel goes on with another setup

placed : (near far : Policy) (t : Terms) (f : ℕ) (d d' : Seen) (near_up far_up : List (List ℕ)) (v w : Channels) (held : Held) (setup after : Setup) (p : Pair) → IsBelow v → find (has_own held.own) v.held ≡ Some held → setup_of held.stage ≡ Some setup
    → Joins t d' p → At far t.other f far_up p.b w → IsFront near_up p.a.up → IsEnd t.mine near_up p.a (near.wish held.psm) (leaving_of held.stage) (is_open after) after.carrier → Joined near far t held.own f d' near_up far_up (to_setup held after v) w
placed near far t f d d' near_up far_up v w held setup after p below found has joins at front end' = record {
  pair = p;
  joins = joins;
  near_at = record {
    held = subst (HeldKeeps near (IsEnd t.mine near_up p.a)) (sym (with-found v held after found)) (keeps-on (IsEnd t.mine near_up p.a) (near.wish held.psm) held.stage setup after has end');
    before = λ above. let none : held_at held.own v ≡ None = below held.own above in let never : None ≡ Some held = sym none ∙ found in absurd cc;
    front = front;
  };
  far_at = at;
}

-- ---- an SDU is sent

-- it is none that the peer does not take
abbrev pub IsShort : List ℕ → Carrier → Type 0
IsShort sdu (Plain agreed waiting) = Unit {0}
IsShort sdu (Retransmitting machine) = length sdu ≤ machine.agreed.send_mtu

abbrev submits : List ℕ → End → End
submits sdu e = near (Submit sdu) e

submitted_pair : (t : Terms) (d : Seen) (p : Pair) (sdu : List ℕ) → Suits t.mine t.other → p.a.machine.agreed ≡ t.mine → length sdu ≤ p.a.machine.agreed.send_mtu → Joins t d p → (let now : Pair = record { a = submits sdu p.a; b = p.b } in Joins t d now)
submitted_pair t d p sdu fit is short joins = record {
  stands = does-stands (Submit sdu) p.a p.b short joins.stands;
  near_tells = tells-takes t.other.receive_mps p.a sdu d.near_said (is_busy p.a.machine) refl (subst (λ (a : Agreed). 1 ≤ a.send_mps) (sym is) fit.some) (subst (λ (a : Agreed). a.send_mps ≤ t.other.receive_mps) (sym is) fit.within) joins.near_tells;
  far_tells = joins.far_tells;
  near_flies = subst (AreSpelled d.to_far) (sym (by (is_busy p.a.machine))) joins.near_flies;
  far_flies = joins.far_flies;
  near_by = ap (λ (m : Ertm). m.agreed) (took-machine sdu p.a) ∙ ((submits-aside sdu p.a.machine).agreed_same ∙ is);
  far_by = joins.far_by;
}
  where
    by : (busy : Bool) → (cond busy p.a (took sdu p.a)).queue ≡ p.a.queue
    by true = refl
    by false = refl

same_up : (sdu : List ℕ) (e : End) → (submits sdu e).up ≡ e.up
same_up sdu e = by (is_busy e.machine)
  where
    by : (busy : Bool) → (cond busy e (took sdu e)).up ≡ e.up
    by true = refl
    by false = refl

sends_carrier : (near far : Policy) (t : Terms) (f : ℕ) (d : Seen) (near_up far_up : List (List ℕ)) (v w : Channels) (held : Held) (setup : Setup) (sdu : List ℕ) (carrier : Option Carrier) → Suits t.mine t.other → IsBelow v → find (has_own held.own) v.held ≡ Some held → setup_of held.stage ≡ Some setup
    → is_open setup ≡ true → setup.carrier ≡ carrier → Agrees t.mine held.own v → ((c : Carrier) → carrier ≡ Some c → IsShort sdu c) → Joined near far t held.own f d near_up far_up v w
    → (let sent : Setup = record setup { carrier = option_map (λ c. carrier_with c sdu) carrier } in Joined near far t held.own f d near_up far_up (to_setup held sent v) w)
sends_carrier near far t f d near_up far_up v w held setup sdu None fit below found has opened is agrees short h =
    let never : false ≡ true = sym (ap (λ (c : Option Carrier). is_some c && is_granted setup.own) is) ∙ opened in absurd cc
sends_carrier near far t f d near_up far_up v w held setup sdu (Some (Plain agreed waiting)) fit below found has opened is agrees short h = absurd (agrees held setup (Plain agreed waiting) found has is)
sends_carrier near far t f d near_up far_up v w held setup sdu (Some (Retransmitting machine)) fit below found has opened is agrees short h =
    let sent : Setup = record setup { carrier = Some (Retransmitting (submitted sdu machine)) } in
    let (up, holds) = kept-on (IsEnd t.mine near_up h.pair.a) (near.wish held.psm) held.stage setup has (subst (HeldKeeps near (IsEnd t.mine near_up h.pair.a)) found h.near_at.held) in
    let alike : machine.agreed ≡ t.mine = agrees held setup (Retransmitting machine) found has is opened in
    let (same, was_open) = settle t.mine h.pair.a (is_open setup) machine alike (subst (Holds t.mine h.pair.a (is_open setup)) is holds) in
    let now : Pair = record { a = submits sdu h.pair.a; b = h.pair.b } in
    placed near far t f d d near_up far_up v w held setup sent now below found has
    (submitted_pair t d h.pair sdu fit (sym (ap (λ (m : Ertm). m.agreed) same) ∙ alike) (subst (λ (m : Ertm). length sdu ≤ m.agreed.send_mtu) same (short (Retransmitting machine) refl)) h.joins)
    h.far_at (subst (IsFront near_up) (sym (same_up sdu h.pair.a)) h.near_at.front) (
      (λ left. up left ∙ sym (same_up sdu h.pair.a)),
      inr (ap (submitted sdu) same ∙ sym (took-machine sdu h.pair.a), and-right (is_some setup.carrier) (is_granted setup.own) opened, (submits-aside sdu machine).open_still was_open),
    )

sends_setup_by : (near far : Policy) (t : Terms) (f : ℕ) (d : Seen) (near_up far_up : List (List ℕ)) (v w : Channels) (held : Held) (setup : Setup) (sdu : List ℕ) (opened : Bool) → Suits t.mine t.other → IsBelow v → find (has_own held.own) v.held ≡ Some held → setup_of held.stage ≡ Some setup
    → is_open setup ≡ opened → Agrees t.mine held.own v → ((c : Carrier) → opened ≡ true → setup.carrier ≡ Some c → IsShort sdu c) → Joined near far t held.own f d near_up far_up v w
    → (let sent : Setup = record setup { carrier = option_map (λ c. carrier_with c sdu) setup.carrier } in Joined near far t held.own f d near_up far_up (to_setup held (cond opened sent setup) v) w)
sends_setup_by near far t f d near_up far_up v w held setup sdu true fit below found has opened agrees short h =
    sends_carrier near far t f d near_up far_up v w held setup sdu setup.carrier fit below found has opened refl agrees (λ c is. short c refl is) h
sends_setup_by near far t f d near_up far_up v w held setup sdu false fit below found has opened agrees short h =
    placed near far t f d d near_up far_up v w held setup setup h.pair below found has h.joins h.far_at h.near_at.front
    (kept-on (IsEnd t.mine near_up h.pair.a) (near.wish held.psm) held.stage setup has (subst (HeldKeeps near (IsEnd t.mine near_up h.pair.a)) found h.near_at.held))

-- an SDU that is sent on the channel, while it is open, is one that the peer takes
abbrev pub SendsShort : List ℕ → ℕ → Channels → Type 0
SendsShort sdu own v = (held : Held) (setup : Setup) (carrier : Carrier) → held_at own v ≡ Some held → setup_of held.stage ≡ Some setup → is_open setup ≡ true → setup.carrier ≡ Some carrier → IsShort sdu carrier

pub joined-sends : (near far : Policy) (t : Terms) (n f : ℕ) (d : Seen) (near_up far_up : List (List ℕ)) (v w : Channels) (sdu : List ℕ) → Suits t.mine t.other → IsBelow v → Agrees t.mine n v → SendsShort sdu n v → Joined near far t n f d near_up far_up v w
    → Joined near far t n f d near_up far_up (sends n sdu v) w
joined-sends near far t n f d near_up far_up v w sdu fit below agrees short h = by (held_at n v) refl
  where
    on : (held : Held) (setup : Option Setup) → find (has_own held.own) v.held ≡ Some held → setup_of held.stage ≡ setup → held.own ≡ n → Joined near far t held.own f d near_up far_up (sends_on setup sdu held v) w
    on held None found has same = subst (λ k. Joined near far t k f d near_up far_up v w) (sym same) h
    on held (Some setup) found has same =
        sends_setup_by near far t f d near_up far_up v w held setup sdu (is_open setup) fit below found has refl (subst (λ k. Agrees t.mine k v) (sym same) agrees)
        (λ c opened is. subst (λ k. SendsShort sdu k v) (sym same) short held setup c found has opened is) (subst (λ k. Joined near far t k f d near_up far_up v w) (sym same) h)

    by : (held : Option Held) → held_at n v ≡ held → Joined near far t n f d near_up far_up (sends_held held sdu v) w
    by None found = h
    by (Some held) found =
        let same : held.own ≡ n = found-has own_of n v.held held found in
        subst (λ k. Joined near far t k f d near_up far_up (sends_on (setup_of held.stage) sdu held v) w) same (on held (setup_of held.stage) (found-own n v held found) refl same)

-- ---- a frame is given

-- with one frame more
abbrev pub with_frame : PlainFrame → List ℕ → Seen → Seen
with_frame frame pdu d = record d { near_said = d.near_said ++ frame ∷ []; to_far = d.to_far ++ pdu ∷ [] }

spelled_more : (pdus : List (List ℕ)) (queue : List Sent) (pdu : List ℕ) (sent : Sent) → Reads pdu sent.frame → AreSpelled pdus queue → AreSpelled (pdus ++ pdu ∷ []) (queue ++ sent ∷ [])
spelled_more [] [] pdu sent reads spelled = (reads, tt)
spelled_more [] (first ∷ queue) pdu sent reads spelled = elim spelled [ ]
spelled_more (first ∷ pdus) [] pdu sent reads spelled = elim spelled [ ]
spelled_more (first ∷ pdus) (other ∷ queue) pdu sent reads spelled = (spelled.0, spelled_more pdus queue pdu sent reads spelled.1)

gives_pair : (near far : Policy) (t : Terms) (f : ℕ) (d : Seen) (near_up far_up : List (List ℕ)) (v w : Channels) (held : Held) (setup : Setup) (machine : Ertm) (pdu : List ℕ) (given : Option Giving) (frame : PlainFrame) → IsBelow v → find (has_own held.own) v.held ≡ Some held
    → setup_of held.stage ≡ Some setup → setup.carrier ≡ Some (Retransmitting machine) → giving machine ≡ given → frame_by given machine ≡ Some frame → Reads pdu frame → Joined near far t held.own f d near_up far_up v w
    → (let after : Setup = record setup { carrier = Some (Retransmitting (after_frame machine)) } in Joined near far t held.own f (with_frame frame pdu d) near_up far_up (to_setup held after v) w)
gives_pair near far t f d near_up far_up v w held setup machine pdu None frame below found has is gives next reads h = cc
gives_pair near far t f d near_up far_up v w held setup machine pdu (Some giving') frame below found has is gives next reads h =
    let (up, holds) = kept-on (IsEnd t.mine near_up h.pair.a) (near.wish held.psm) held.stage setup has (subst (HeldKeeps near (IsEnd t.mine near_up h.pair.a)) found h.near_at.held) in
    by up (subst (Holds t.mine h.pair.a (is_open setup)) is holds)
  where
    after : Setup
    after = record setup { carrier = Some (Retransmitting (after_frame machine)) }

    by : (leaving_of held.stage ≡ false → near_up ≡ h.pair.a.up) → Holds t.mine h.pair.a (is_open setup) (Some (Retransmitting machine)) → Joined near far t held.own f (with_frame frame pdu d) near_up far_up (to_setup held after v) w
    by up (inl (other, new, none)) = let never : None ≡ Some giving' = sym (ap giving new) ∙ gives in absurd cc
    by up (inr (same, opened, was_open)) =
        let mine : giving h.pair.a.machine ≡ Some giving' = ap giving (sym same) ∙ gives in
        let frame_is : given_frame giving' h.pair.a.machine ≡ frame = ap (given_frame giving') (sym same) ∙ some_frame in
        let now : End = gave (Some giving') h.pair.a in
        let now_pair : Pair = record { a = now; b = h.pair.b } in
        placed near far t f d (with_frame frame pdu d) near_up far_up v w held setup after now_pair below found has
        (record {
          stands = gave_stands giving' mine;
          near_tells = subst (λ x. Tells t.other.receive_mps now (d.near_said ++ x ∷ [])) frame_is (tells-gives t.other.receive_mps h.pair.a h.pair.b giving' d.near_said mine h.joins.stands h.joins.near_tells);
          far_tells = h.joins.far_tells;
          near_flies = spelled_more d.to_far h.pair.a.queue pdu (record { frame = given_frame giving' h.pair.a.machine; number = acknowledged_by h.pair.a + h.pair.a.machine.sender.next; asks = accepted_by h.pair.a }) (subst (Reads pdu) (sym frame_is) reads) h.joins.near_flies;
          far_flies = h.joins.far_flies;
          near_by = sym (ap (λ g. (after_by g h.pair.a.machine).agreed) mine) ∙ ((gives-aside h.pair.a.machine).agreed_same ∙ h.joins.near_by);
          far_by = h.joins.far_by;
        })
        h.far_at h.near_at.front
        (up, inr (ap after_frame same ∙ ap (λ g. after_by g h.pair.a.machine) mine, and-right (is_some setup.carrier) (is_granted setup.own) opened, (gives-aside machine).open_still was_open))
      where
        some_frame : given_frame giving' machine ≡ frame
        some_frame = cc

        gave_stands : (g : Giving) → giving h.pair.a.machine ≡ Some g → Stands (gave (Some g) h.pair.a) h.pair.b
        gave_stands g mine = subst (λ o. Stands (gave o h.pair.a) h.pair.b) mine (gives-stands h.pair.a h.pair.b h.joins.stands)

pub joined-gives : (near far : Policy) (t : Terms) (f : ℕ) (d : Seen) (near_up far_up : List (List ℕ)) (v w : Channels) (held : Held) (setup : Setup) (machine : Ertm) (pdu : List ℕ) (frame : PlainFrame) → IsBelow v → find (has_own held.own) v.held ≡ Some held → setup_of held.stage ≡ Some setup
    → setup.carrier ≡ Some (Retransmitting machine) → next_frame machine ≡ Some frame → Reads pdu frame → Joined near far t held.own f d near_up far_up v w
    → Joined near far t held.own f (with_frame frame pdu d) near_up far_up (carrier_spent (Some setup) held v) w
joined-gives near far t f d near_up far_up v w held setup machine pdu frame below found has is next reads h =
    subst (λ (c : Option Carrier). let after : Setup = record setup { carrier = option_map carrier_given c } in Joined near far t held.own f (with_frame frame pdu d) near_up far_up (to_setup held after v) w) (sym is)
    (gives_pair near far t f d near_up far_up v w held setup machine pdu (giving machine) frame below found has is refl next reads h)
