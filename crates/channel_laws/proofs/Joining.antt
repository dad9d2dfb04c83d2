-- An enhanced channel that two hosts have in common: its ends are two ends in order, whatever one of them does.
use Rattle.std.proofs.Common.{◌≡◌, ℕ, ◌≤◌, List, [], ◌∷◌, Bool, true, false, Option, Some, None, Ok, refl, sym, ap, subst, ◌∙◌, ◌⊎◌, inl, inr, arith}
use Rattle.std.proofs.lemmas.Bool.Decides.{leb_tells}
use Rattle.own_channel_laws.specs.talk_laws.specs.l2cap_config.specs.declared.wish.Agreed.{Agreed}
use Rattle.own_channel_laws.specs.talk_laws.specs.l2cap_config.specs.declared.wish.Mode.TheVariants.{Basic}
use Rattle.own_channel_laws.specs.talk_laws.specs.l2cap_config.specs.declared.wish.Wish.{Wish}
use Rattle.own_channel_laws.specs.talk_laws.specs.ertm_frames.specs.Frames.{PlainFrame, information, supervisory}
use Rattle.own_channel_laws.specs.talk_laws.specs.ertm_frames.specs.Answers.{IsWithin}
use Rattle.own_channel_laws.specs.talk_laws.specs.ertm_frames.specs.Reading.{answer_in}
use Rattle.own_channel_laws.specs.channel_model.specs.ertm_model.specs.Value.{Ertm, new_ertm}
use Rattle.own_channel_laws.specs.channel_model.specs.ertm_model.specs.Giving.{Giving, PollAnswer, Acknowledgement, Rejection, Polling, Again, New, giving, given_frame, frame_by, next_frame, timed}
use Rattle.own_channel_laws.specs.channel_model.specs.ertm_model.specs.Pair.{Sent, End, Pair, new_end, near, Fire, behind_front}
use Rattle.own_channel_laws.specs.channel_model.specs.ertm_model.specs.Order.{StandsBoth}
use Rattle.own_channel_laws.specs.channel_model.specs.ertm_model.proofs.Standing.{does-stands, goes-stands, swapped}
use Rattle.own_channel_laws.specs.channel_model.specs.Value.{Carrier, Plain, Retransmitting, Stage, Requested, Connected, Leaving, Closing, Crossed, Held, Channels}
use Rattle.own_channel_laws.specs.channel_model.specs.Policies.{Policy}
use Rattle.own_channel_laws.specs.channel_model.specs.Changing.{held_at, is_open}
use Rattle.own_channel_laws.specs.channel_model.proofs.Going.{IsAccepted, CarrierGoes}
use Rattle.channel_laws.specs.Pipes.{IsFront}
use Rattle.own_channel_laws.proofs.Keeping.{OfCarrier, StageKeeps, HeldKeeps, AllKeep, KeepsOn, Keeps}
use Rattle.own_channel_laws.proofs.Attending.{IsNew, new-carrier, fires-aside}
use Rattle.own_channel_laws.proofs.Passing.{Fired, fired-same}
use Rattle.channel_laws.proofs.Piping.{Tells, tells-fires}

-- ---- what can be seen of it

-- the frames that each host said on the channel, and the PDUs on it that are under way to each
pub record Seen : Type 0 where
  pub near_said : List PlainFrame
  pub far_said : List PlainFrame
  pub to_near : List (List ℕ)
  pub to_far : List (List ℕ)

-- an I-frame ends no wait
abbrev pub EndsNoWait : PlainFrame → Type 0
EndsNoWait (information tx final req sar total octets) = final ≡ false
EndsNoWait (supervisory kind poll final req) = Unit {0}

given_ends_none : (given : Giving) (machine : Ertm) → EndsNoWait (given_frame given machine)
given_ends_none PollAnswer machine = tt
given_ends_none Acknowledgement machine = tt
given_ends_none Rejection machine = tt
given_ends_none Polling machine = tt
given_ends_none (Again kept) machine = refl
given_ends_none (New segment behind) machine = refl

frame_ends_none : (given : Option Giving) (machine : Ertm) (frame : PlainFrame) → frame_by given machine ≡ Some frame → EndsNoWait frame
frame_ends_none None machine frame is = cc
frame_ends_none (Some given) machine frame is =
    let same : given_frame given machine ≡ frame = cc in
    subst EndsNoWait same (given_ends_none given machine)

-- so it is of those that a machine gives
pub next-ends_none : (machine : Ertm) (frame : PlainFrame) → next_frame machine ≡ Some frame → EndsNoWait frame
next-ends_none machine frame next = frame_ends_none (giving machine) machine frame next

-- a PDU is read as the frame, where it is none too long
abbrev pub Reads : List ℕ → PlainFrame → Type 0
Reads pdu frame = EndsNoWait frame × ((most : ℕ) → IsWithin most frame → answer_in most pdu ≡ Ok frame)

abbrev pub AreSpelled : List (List ℕ) → List Sent → Type 0
AreSpelled [] [] = Unit {0}
AreSpelled [] (sent ∷ queue) = ⊥
AreSpelled (pdu ∷ pdus) [] = ⊥
AreSpelled (pdu ∷ pdus) (sent ∷ queue) = Reads pdu sent.frame × AreSpelled pdus queue

-- ---- two ends

-- what the two hosts agreed on, each by what it accepted
pub record Terms : Type 0 where
  pub mine : Agreed
  pub other : Agreed

pub record Joins (t : Terms) (d : Seen) (p : Pair) : Type 0 where
  pub stands : StandsBoth p
  pub near_tells : Tells t.other.receive_mps p.a d.near_said
  pub far_tells : Tells t.mine.receive_mps p.b d.far_said
  pub near_flies : AreSpelled d.to_far p.a.queue
  pub far_flies : AreSpelled d.to_near p.b.queue
  -- each goes by what it agreed on
  pub near_by : p.a.machine.agreed ≡ t.mine
  pub far_by : p.b.machine.agreed ≡ t.other

-- a host's machine is that end, once its channel is open; before that both are new
abbrev pub Holds : Agreed → End → (opened : Bool) → Option Carrier → Type 0
Holds agreed e opened None = e ≡ new_end agreed
Holds agreed e opened (Some (Plain other waiting)) = e ≡ new_end agreed
Holds agreed e opened (Some (Retransmitting machine)) =
    ((other : Agreed) × (machine ≡ new_ertm other) × (e ≡ new_end agreed)) ⊎ ((machine ≡ e.machine) × (opened ≡ true) × (machine.closed ≡ None))

-- what was handed up is what the end handed up, until the host asks for its end
abbrev pub IsEnd : Agreed → List (List ℕ) → End → OfCarrier
IsEnd agreed up e wish leaving opened carrier = (leaving ≡ false → up ≡ e.up) × Holds agreed e opened carrier

pub record At (policy : Policy) (agreed : Agreed) (own : ℕ) (up : List (List ℕ)) (e : End) (v : Channels) : Type 0 where
  pub held : HeldKeeps policy (IsEnd agreed up e) (held_at own v)
  pub before : v.next ≤ own → (e ≡ new_end agreed) × (up ≡ [])
  pub front : IsFront up e.up

pub record Joined (near far : Policy) (t : Terms) (n f : ℕ) (d : Seen) (near_up far_up : List (List ℕ)) (v w : Channels) : Type 0 where
  pub pair : Pair
  pub joins : Joins t d pair
  pub near_at : At near t.mine n near_up pair.a v
  pub far_at : At far t.other f far_up pair.b w

-- each may be the near one
abbrev pub other_terms : Terms → Terms
other_terms t = record { mine = t.other; other = t.mine }

abbrev pub other_seen : Seen → Seen
other_seen d = record { near_said = d.far_said; far_said = d.near_said; to_near = d.to_far; to_far = d.to_near }

pub joined-swapped : (near far : Policy) (t : Terms) (n f : ℕ) (d : Seen) (near_up far_up : List (List ℕ)) (v w : Channels) → Joined near far t n f d near_up far_up v w → Joined far near (other_terms t) f n (other_seen d) far_up near_up w v
joined-swapped near far t n f d near_up far_up v w h = record {
  pair = record { a = h.pair.b; b = h.pair.a };
  joins = record {
    stands = swapped h.joins.stands;
    near_tells = h.joins.far_tells;
    far_tells = h.joins.near_tells;
    near_flies = h.joins.far_flies;
    far_flies = h.joins.near_flies;
    near_by = h.joins.far_by;
    far_by = h.joins.near_by;
  };
  near_at = h.far_at;
  far_at = h.near_at;
}

-- ---- where no frame passes

-- two ends, as the other host has the one of them
abbrev pub Rest : Policy → Terms → Seen → (f : ℕ) → (near_up far_up : List (List ℕ)) → Channels → Pair → Type 0
Rest far t d f near_up far_up w p = Joins t d p × At far t.other f far_up p.b w × IsFront near_up p.a.up

-- such that the near host's channel is the other
abbrev pub Kept : Policy → Terms → Seen → (n f : ℕ) → (near_up far_up : List (List ℕ)) → Channels → ℕ → OfCarrier
Kept far t d n f near_up far_up w own wish leaving opened carrier =
    own ≡ n → (p : Pair) × Rest far t d f near_up far_up w p × IsEnd t.mine near_up p.a wish leaving opened carrier

new_holds : (wish : Wish) (agreed : Agreed) (e : End) (opened : Bool) (carrier : Carrier) → IsAccepted wish carrier → e ≡ new_end agreed → Holds agreed e opened (Some carrier)
new_holds wish agreed e opened carrier accepted new = by (new-carrier wish carrier accepted)
  where
    by : ((a : Agreed) × (carrier ≡ Plain a None) × (wish.mode ≡ Basic)) ⊎ ((a : Agreed) × IsNew wish a carrier) → Holds agreed e opened (Some carrier)
    by (inl (a, is, basic)) = subst (λ c. Holds agreed e opened (Some c)) (sym is) new
    by (inr (a, made)) = subst (λ c. Holds agreed e opened (Some c)) (sym made.is) (inl (a, refl, new))

still_new : (agreed : Agreed) (e : End) (opened : Bool) (carrier : Carrier) → opened ≡ false → Holds agreed e opened (Some carrier) → e ≡ new_end agreed
still_new agreed e opened (Plain a waiting) shut holds = holds
still_new agreed e opened (Retransmitting machine) shut (inl (a, is, new)) = new
still_new agreed e opened (Retransmitting machine) shut (inr (is, now, open')) = let never : true ≡ false = sym now ∙ shut in absurd cc

stays_open : (before after : Bool) → (after ≡ false → before ≡ false) → before ≡ true → after ≡ true
stays_open before true shut now = refl
stays_open before false shut now = let never : true ≡ false = sym now ∙ shut refl in absurd cc

-- the carrier goes on by itself, as it does when the timer fires
goes_on : (far : Policy) (t : Terms) (d : Seen) (f : ℕ) (near_up far_up : List (List ℕ)) (w : Channels) (wish : Wish) (leaving opened opened' : Bool) (before after : Carrier) → (opened' ≡ false → opened ≡ false) → Fired before after
    → (p : Pair) → Rest far t d f near_up far_up w p → (leaving ≡ false → near_up ≡ p.a.up) → Holds t.mine p.a opened (Some before)
    → (q : Pair) × Rest far t d f near_up far_up w q × IsEnd t.mine near_up q.a wish leaving opened' (Some after)
goes_on far t d f near_up far_up w wish leaving opened opened' (Plain a waiting) (Plain b waiting') shut goes p rest up holds = (p, rest, (up, holds))
goes_on far t d f near_up far_up w wish leaving opened opened' (Plain a waiting) (Retransmitting m) shut goes p rest up holds = elim goes [ ]
goes_on far t d f near_up far_up w wish leaving opened opened' (Retransmitting m) (Plain b waiting) shut goes p rest up holds = elim goes [ ]
goes_on far t d f near_up far_up w wish leaving opened opened' (Retransmitting m) (Retransmitting after) shut (inl same) p rest up (inl (a, is, new)) = (p, rest, (up, inl (a, same ∙ is, new)))
goes_on far t d f near_up far_up w wish leaving opened opened' (Retransmitting m) (Retransmitting after) shut (inl same) p rest up (inr (is, now, open')) =
    (p, rest, (up, inr (same ∙ is, stays_open opened opened' shut now, ap (λ (x : Ertm). x.closed) same ∙ open')))
goes_on far t d f near_up far_up w wish leaving opened opened' (Retransmitting m) (Retransmitting after) shut (inr (fires, still)) p rest up (inl (a, is, new)) = (p, rest, (up, inl (a, fires ∙ ap timed is, new)))
goes_on far t d f near_up far_up w wish leaving opened opened' (Retransmitting m) (Retransmitting after) shut (inr (fires, still)) p (joins, at, front) up (inr (is, now, open')) =
    let fired : End = near Fire p.a in (
      record { a = fired; b = p.b },
      (
        record {
          stands = does-stands Fire p.a p.b tt joins.stands;
          near_tells = tells-fires t.other.receive_mps p.a d.near_said joins.near_tells;
          far_tells = joins.far_tells;
          near_flies = joins.near_flies;
          far_flies = joins.far_flies;
          near_by = (fires-aside p.a.machine (subst (λ (x : Ertm). (timed x).closed ≡ None) is still)).agreed_same ∙ joins.near_by;
          far_by = joins.far_by;
        },
        at,
        front,
      ),
      (up, inr (fires ∙ ap timed is, stays_open opened opened' shut now, ap (λ (x : Ertm). x.closed) fires ∙ still)),
    )

carrier_goes : (far : Policy) (t : Terms) (d : Seen) (f : ℕ) (near_up far_up : List (List ℕ)) (w : Channels) (wish : Wish) (leaving opened opened' : Bool) (before after : Option Carrier) → (opened' ≡ false → opened ≡ false) → CarrierGoes wish Fired opened before after
    → (p : Pair) → Rest far t d f near_up far_up w p → IsEnd t.mine near_up p.a wish leaving opened before → (q : Pair) × Rest far t d f near_up far_up w q × IsEnd t.mine near_up q.a wish leaving opened' after
carrier_goes far t d f near_up far_up w wish leaving opened opened' None None shut goes p rest end' = (p, rest, end')
carrier_goes far t d f near_up far_up w wish leaving opened opened' None (Some after) shut goes p rest (up, holds) = (p, rest, (up, new_holds wish t.mine p.a opened' after goes holds))
carrier_goes far t d f near_up far_up w wish leaving opened opened' (Some before) None shut goes p rest end' = elim goes [ ]
carrier_goes far t d f near_up far_up w wish leaving opened opened' (Some before) (Some after) shut (inl goes) p rest (up, holds) = goes_on far t d f near_up far_up w wish leaving opened opened' before after shut goes p rest up holds
carrier_goes far t d f near_up far_up w wish leaving opened opened' (Some before) (Some after) shut (inr (closed, accepted)) p rest (up, holds) =
    (p, rest, (up, new_holds wish t.mine p.a opened' after accepted (still_new t.mine p.a opened before closed holds)))

pub keeps-kept : (near far : Policy) (t : Terms) (d : Seen) (n f : ℕ) (near_up far_up : List (List ℕ)) (w : Channels) → Keeps near Fired (Kept far t d n f near_up far_up w)
keeps-kept near far t d n f near_up far_up w = record {
  same = fired-same;
  goes = λ own psm leaving opened opened' before after shut goes was same. let (p, rest, end') = was same in carrier_goes far t d f near_up far_up w (near.wish psm) leaving opened opened' before after shut goes p rest end';
  leaves = λ own psm opened carrier was same. let (p, rest, (up, holds)) = was same in (p, rest, ((λ left. let never : true ≡ false = left in absurd cc), holds));
}

-- ---- all of it, and what the walks keep

spread : (near far : Policy) (t : Terms) (d : Seen) (n f : ℕ) (near_up far_up : List (List ℕ)) (w : Channels) (p : Pair) → Rest far t d f near_up far_up w p → (own : ℕ) (held : Option Held)
    → (own ≡ n → HeldKeeps near (IsEnd t.mine near_up p.a) held) → HeldKeeps near (Kept far t d n f near_up far_up w own) held
spread near far t d n f near_up far_up w p rest own None was = tt
spread near far t d n f near_up far_up w p rest own (Some held) was = by held.stage was
  where
    by : (stage : Stage) → (own ≡ n → StageKeeps (IsEnd t.mine near_up p.a) (near.wish held.psm) stage) → StageKeeps (Kept far t d n f near_up far_up w own) (near.wish held.psm) stage
    by (Requested request) was = λ same. (p, rest, was same)
    by (Connected peer setup) was = λ same. (p, rest, was same)
    by (Leaving peer setup request) was = λ same. (p, rest, was same)
    by (Closing peer request checked) was = tt
    by (Crossed peer request) was = tt

gather : (near far : Policy) (t : Terms) (d : Seen) (n f : ℕ) (near_up far_up : List (List ℕ)) (w : Channels) (p : Pair) → Rest far t d f near_up far_up w p → (held : Option Held) → HeldKeeps near (Kept far t d n f near_up far_up w n) held
    → (q : Pair) × Rest far t d f near_up far_up w q × HeldKeeps near (IsEnd t.mine near_up q.a) held
gather near far t d n f near_up far_up w p rest None was = (p, rest, tt)
gather near far t d n f near_up far_up w p rest (Some held) was = by held.stage was
  where
    by : (stage : Stage) → StageKeeps (Kept far t d n f near_up far_up w n) (near.wish held.psm) stage → (q : Pair) × Rest far t d f near_up far_up w q × StageKeeps (IsEnd t.mine near_up q.a) (near.wish held.psm) stage
    by (Requested request) was = was refl
    by (Connected peer setup) was = was refl
    by (Leaving peer setup request) was = was refl
    by (Closing peer request checked) was = (p, rest, tt)
    by (Crossed peer request) was = (p, rest, tt)

-- no channel has an endpoint that was not given
abbrev pub IsBelow : Channels → Type 0
IsBelow v = (own : ℕ) → v.next ≤ own → held_at own v ≡ None

pub joined-walks : (near far : Policy) (t : Terms) (n f : ℕ) (d : Seen) (near_up far_up : List (List ℕ)) (v v' w : Channels) → IsBelow v → KeepsOn near (Kept far t d n f near_up far_up w) v v' → Joined near far t n f d near_up far_up v w
    → Joined near far t n f d near_up far_up v' w
joined-walks near far t n f d near_up far_up v v' w below keeps h =
    elim (leb_tells v'.next n) [
      | inl (e, above) ↦ (
          let (p, rest, (up, new)) = all.fresh n 0 above refl in
          record {
            pair = p;
            joins = rest.0;
            near_at = record {
              held = subst (HeldKeeps near (IsEnd t.mine near_up p.a)) (sym (all.below n above)) tt;
              before = λ high. (new, up refl ∙ ap (λ (x : End). x.up) new);
              front = rest.2;
            };
            far_at = rest.1;
          })
      | inr (e, less) ↦ (
          let (p, rest, held) = gather near far t d n f near_up far_up w h.pair (h.joins, h.far_at, h.near_at.front) (held_at n v') (all.at n) in
          record {
            pair = p;
            joins = rest.0;
            near_at = record { held = held; before = λ high. absurd (omega arith); front = rest.2 };
            far_at = rest.1;
          })
    ]
  where
    all : AllKeep near (Kept far t d n f near_up far_up w) v'
    all = keeps (record {
      at = λ own. spread near far t d n f near_up far_up w h.pair (h.joins, h.far_at, h.near_at.front) own (held_at own v) (λ same. subst (λ k. HeldKeeps near (IsEnd t.mine near_up h.pair.a) (held_at k v)) (sym same) h.near_at.held);
      fresh = λ own psm above same.
          let (new, none) = h.near_at.before (subst (λ k. v.next ≤ k) same above) in
          (h.pair, (h.joins, h.far_at, h.near_at.front), ((λ left. none ∙ sym (ap (λ (x : End). x.up) new)), new));
      below = below;
    })

-- where the near channel is as it was
pub joined-same : (near far : Policy) (t : Terms) (n f : ℕ) (d : Seen) (near_up far_up : List (List ℕ)) (v v' w : Channels) → held_at n v' ≡ held_at n v → v'.next ≡ v.next → Joined near far t n f d near_up far_up v w
    → Joined near far t n f d near_up far_up v' w
joined-same near far t n f d near_up far_up v v' w held_is next_is h = record {
  pair = h.pair;
  joins = h.joins;
  near_at = record {
    held = subst (HeldKeeps near (IsEnd t.mine near_up h.pair.a)) (sym held_is) h.near_at.held;
    before = λ above. h.near_at.before (omega (arith, next_is, above));
    front = h.near_at.front;
  };
  far_at = h.far_at;
}

-- ---- a PDU that is under way to it is gone

pub held-also : (policy : Policy) (P Q : OfCarrier) → ((wish : Wish) (leaving opened : Bool) (carrier : Option Carrier) → P wish leaving opened carrier → Q wish leaving opened carrier) → (held : Option Held) → HeldKeeps policy P held → HeldKeeps policy Q held
held-also policy P Q also None was = tt
held-also policy P Q also (Some held) was = by held.stage was
  where
    by : (stage : Stage) → StageKeeps P (policy.wish held.psm) stage → StageKeeps Q (policy.wish held.psm) stage
    by (Requested request) was = also (policy.wish held.psm) false false None was
    by (Connected peer setup) was = also (policy.wish held.psm) false (is_open setup) setup.carrier was
    by (Leaving peer setup request) was = also (policy.wish held.psm) true (is_open setup) setup.carrier was
    by (Closing peer request checked) was = tt
    by (Crossed peer request) was = tt

-- an end that has said something is not new
not_new : {X : Type 0} (agreed : Agreed) (e : End) (sent : Sent) (queue : List Sent) → e.queue ≡ sent ∷ queue → e ≡ new_end agreed → X
not_new agreed e sent queue is new = let never : [] ≡ sent ∷ queue = sym (ap (λ (x : End). x.queue) new) ∙ is in absurd cc

abbrev behind_one : End → End
behind_one e = record e { queue = behind_front e.queue }

gone_holds : (agreed : Agreed) (e : End) (sent : Sent) (queue : List Sent) → e.queue ≡ sent ∷ queue → (opened : Bool) (carrier : Option Carrier) → Holds agreed e opened carrier → Holds agreed (behind_one e) opened carrier
gone_holds agreed e sent queue is opened None holds = not_new agreed e sent queue is holds
gone_holds agreed e sent queue is opened (Some (Plain a waiting)) holds = not_new agreed e sent queue is holds
gone_holds agreed e sent queue is opened (Some (Retransmitting machine)) (inl (a, same, new)) = not_new agreed e sent queue is new
gone_holds agreed e sent queue is opened (Some (Retransmitting machine)) (inr holds) = inr holds

gone_at : (policy : Policy) (agreed : Agreed) (own : ℕ) (up : List (List ℕ)) (e : End) (v : Channels) (sent : Sent) (queue : List Sent) → e.queue ≡ sent ∷ queue → At policy agreed own up e v → At policy agreed own up (behind_one e) v
gone_at policy agreed own up e v sent queue is at = record {
  held = held-also policy (IsEnd agreed up e) (IsEnd agreed up (behind_one e)) (λ wish leaving opened carrier was. (was.0, gone_holds agreed e sent queue is opened carrier was.1)) (held_at own v) at.held;
  before = λ above. not_new agreed e sent queue is (at.before above).0;
  front = at.front;
}

-- the PDUs that are under way, without the first
abbrev pub with_rest : List (List ℕ) → Seen → Seen
with_rest rest d = record d { to_near = rest }

pub joined-loses : (near far : Policy) (t : Terms) (n f : ℕ) (d : Seen) (near_up far_up : List (List ℕ)) (v w : Channels) (pdu : List ℕ) (rest : List (List ℕ)) → d.to_near ≡ pdu ∷ rest → Joined near far t n f d near_up far_up v w
    → Joined near far t n f (with_rest rest d) near_up far_up v w
joined-loses near far t n f d near_up far_up v w pdu rest is h = by h.pair.b.queue refl (subst (λ pdus. AreSpelled pdus h.pair.b.queue) is h.joins.far_flies)
  where
    by : (queue : List Sent) → h.pair.b.queue ≡ queue → AreSpelled (pdu ∷ rest) queue → Joined near far t n f (with_rest rest d) near_up far_up v w
    by [] none spelled = elim spelled [ ]
    by (sent ∷ queue) first (read, spelled) = record {
      pair = record { a = h.pair.a; b = behind_one h.pair.b };
      joins = record {
        stands = swapped (goes-stands h.pair.b h.pair.a (swapped h.joins.stands));
        near_tells = h.joins.near_tells;
        far_tells = record { put_is = h.joins.far_tells.put_is; short = h.joins.far_tells.short };
        near_flies = h.joins.near_flies;
        far_flies = subst (AreSpelled rest) (sym (ap behind_front first)) spelled;
        near_by = h.joins.near_by;
        far_by = h.joins.far_by;
      };
      near_at = h.near_at;
      far_at = gone_at far t.other f far_up h.pair.b w sent queue first h.far_at;
    }
