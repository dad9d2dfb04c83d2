-- Both directions of the pair, whatever happens.
use Rattle.std.proofs.Common.{arith, ◌≡◌, inl, inr, ◌≤◌, ℕ, ◌+◌, Bool, true, false, ◌&&◌, ◌||◌, cond, List, [], ◌∷◌, ◌++◌, length, take, Option, Some, None, Ok, refl, sym, ap, subst, ◌∙◌, append_assoc}
use Rattle.std.specs.Prelude.{not, nat_lt, nat_le, is_none, is_some}
use Rattle.std.proofs.lemmas.List.{append-nil}
use Rattle.std.proofs.Math.Bool.{or-true}
use Rattle.rfcomm_frames.specs.declared.frame.MuxKind.{MuxKind}
use Rattle.rfcomm_frames.specs.declared.frame.MuxKind.TheVariants.{Sabm, Ua, Dm, Disc, Uih}
use Rattle.rfcomm_frames.specs.declared.connection.Role.{Role}
use Rattle.rfcomm_frames.specs.declared.connection.Role.TheVariants.{Initiator, Responder}
use Rattle.rfcomm_frames.specs.declared.connection.Dlc.{Dlc}
use Rattle.rfcomm_frames.specs.declared.connection.Dlc.TheVariants.{Idle, Asked, Open, Ended}
use Rattle.rfcomm_frames.specs.Frames.{PlainFrame}
use Rattle.rfcomm_frames.specs.FrameReading.{is_empty}
use Rattle.rfcomm_frames.specs.Connections.{other_role, is_ended}
use Rattle.rfcomm_model.specs.declared.state.Command.TheVariants.{LeaveUser}
use Rattle.rfcomm_model.specs.declared.state.Asks.{Asks}
use Rattle.rfcomm_model.specs.declared.state.Asks.TheVariants.{Due}
use Rattle.rfcomm_model.specs.declared.state.MuxReason.{MuxReason}
use Rattle.rfcomm_model.specs.Machine.{Mux, new_mux, first_credits, may_pass, is_leaving, taken_count, sends, leaves}
use Rattle.rfcomm_model.specs.Hearing.{own_credits, hears_answer}
use Rattle.rfcomm_model.specs.Saying.{Said, next}
use Rattle.rfcomm_laws.specs.Pairs.{End, new_end, Speak, Give, Deliver, spoken, taking, without_first, hearing, Pair, ByInitiator, ByResponder, Terms, new_pair}
use Rattle.rfcomm_laws.specs.Happenings.{Happening, Moves, Closes, happens, all_happen}
use Rattle.rfcomm_laws.specs.Closings.{ClosingsAreOrderly}
use Rattle.rfcomm_laws.proofs.Running.{both_true}
use Rattle.rfcomm_laws.specs.Totals.{bonus_of, cost_of}
use Rattle.rfcomm_laws.proofs.Harm.{bonuses_of, costs_of, rank, is_over, is_far, AllWait, SoundAsks, Step, not_before}
use Rattle.rfcomm_laws.proofs.Turning.{Fit, still_fit}
use Rattle.rfcomm_laws.proofs.Harmless.{SoundIn, asks_in, opens_in, word_to, heard_step}
use Rattle.rfcomm_laws.proofs.Telling.{SaysWell, says_well}
use Rattle.rfcomm_laws.proofs.Passing.{hands, ua_opens}
use Rattle.rfcomm_laws.proofs.Ways.{AllSound, all_sound_later, flows_of, opens_any, any_more, far_rises, asks_later, or_cases, own_says, other_says, away, heard_end, front_over, stream_comes, Way, way_front}

-- ---- a frame comes

-- what hearing makes of the hearer, of frames that keep the rules
pub step_of : (from : Role) (d : ℕ) (s h : End) (f : PlainFrame) (fs : List PlainFrame) → s.queue ≡ f ∷ fs → Way from d s h → Fit d h.mux → Step (word_to s.mux.agreed h.mux f) (bonus_of d f) (cost_of f) h.mux (hears_answer (Ok f) h.mux)
step_of from d s h f fs is w fit =
    let sound = subst (AllSound s.mux.agreed h.mux.agreed d) is w.sound in
    heard_step s.mux.agreed d f h.mux fit (subst (λ (n : ℕ). SoundIn s.mux.agreed h.mux.agreed n f.kind f) (sym fit.dlci) sound.0)

record Paid (d : ℕ) (f : PlainFrame) (h : End) : Type 0 where
  pub fits : h.mux.account.held + bonus_of d f ≤ 65535
  pub paid : cost_of f ≤ h.mux.account.peer

paid_for : (from to : Role) (d : ℕ) (s h : End) (f : PlainFrame) (fs : List PlainFrame) → s.queue ≡ f ∷ fs → Way from d s h → Way to d h s → Paid d f h
paid_for from to d s h f fs is w v =
    let costs = ap costs_of is in
    let brings = ap (bonuses_of d) is in
    record { fits = omega (arith, v.money, w.few, brings); paid = omega (arith, w.money, costs) }

own_comes : (from to : Role) (d : ℕ) (s h : End) (f : PlainFrame) (fs : List PlainFrame) → s.queue ≡ f ∷ fs → Way from d s h → Way to d h s
    → (is_over h.mux ≡ false → opens_in from d f.kind f ≡ true → is_far (hears_answer (Ok f) h.mux).user ≡ true) → Way from d (away s fs) (heard_end h f)
own_comes from to d s h f fs is w v opens =
    let step = step_of from d s h f fs is w v.fit in
    let pay = paid_for from to d s h f fs is w v in
    let hand = hands d f h.mux v.fit pay.fits pay.paid in
    let costs = ap costs_of is in
    let owed = subst (λ (n : ℕ). bonuses_of n (hears_answer (Ok f) h.mux).answers + own_credits (hears_answer (Ok f) h.mux) ≤ bonuses_of n h.mux.answers + own_credits h.mux) (let fit = v.fit in fit.dlci) step.owed in
    let sound = subst (AllSound s.mux.agreed h.mux.agreed d) is w.sound in
    record {
      fit = w.fit;
      role = w.role;
      few = w.few;
      cap = w.cap;
      orderly = w.orderly;
      money = omega (arith, w.money, costs, owed, step.peer);
      waits = w.waits;
      asks = asks_later h.mux.agreed (hears_answer (Ok f) h.mux).agreed s.mux.asks step.agrees w.asks;
      sound = all_sound_later s.mux.agreed s.mux.agreed h.mux.agreed (hears_answer (Ok f) h.mux).agreed d fs (λ a. a) step.agrees sound.1;
      flow = elim w.flow [
        | inl over ↦ inl (step.over over.0, front_over h.mux f d s.put h.got over.0 hand over.1)
        | inr streams ↦ stream_comes from d s h f fs (word_to s.mux.agreed h.mux f) (bonus_of d f) (cost_of f) is hand step opens streams (is_over (hears_answer (Ok f) h.mux)) refl
      ];
    }

other_comes : (from to : Role) (d : ℕ) (s h : End) (f : PlainFrame) (fs : List PlainFrame) → s.queue ≡ f ∷ fs → Way from d s h → Way to d h s
    → ((word_to s.mux.agreed h.mux f).opens ≡ true → is_far s.mux.user ≡ true) → Way to d (heard_end h f) (away s fs)
other_comes from to d s h f fs is w v opens =
    let after : Mux = hears_answer (Ok f) h.mux in
    let step = step_of from d s h f fs is w v.fit in
    let pay = paid_for from to d s h f fs is w v in
    let brings = ap (bonuses_of d) is in
    let fit = v.fit in
    record {
      fit = still_fit (word_to s.mux.agreed h.mux f) (bonus_of d f) (cost_of f) d h.mux after step v.fit;
      role = step.role ∙ v.role;
      few = omega (arith, step.less, v.few);
      cap = omega (arith, step.cap, v.cap);
      orderly = step.orderly pay.fits pay.paid v.orderly;
      money = omega (arith, v.money, brings, step.held);
      waits = subst (λ (n : ℕ). AllWait after.agreed (rank after.user) n after.answers) fit.dlci (step.waits (subst (λ (n : ℕ). AllWait h.mux.agreed (rank h.mux.user) n h.mux.answers) (sym fit.dlci) v.waits));
      asks = step.asks v.asks;
      sound = all_sound_later h.mux.agreed after.agreed s.mux.agreed s.mux.agreed d h.queue step.agrees (λ a. a) v.sound;
      flow = elim v.flow [
        | inl over ↦ inl over
        | inr st ↦ inr (record {
          rest = st.rest;
          exact = st.exact;
          waits = λ e. let kept = step.kept e in st.waits kept.0 ∙ sym kept.1;
          behind = st.behind;
          reach = λ o far. elim (step.far o far) [
            | inl before ↦ st.reach (not_before (is_over h.mux) (is_over after) step.over o) before
            | inr opened ↦ ap (λ (b : Bool). b || opens_any to d h.queue) (opens opened)
          ];
        })
      ];
    }

-- ---- what is asked of a side

-- other octets wait, and another wish: of the speaker
own_asked : (from : Role) (d : ℕ) (s h : End) (asks : Asks) (waiting more : List ℕ) → SoundAsks h.mux.agreed asks → (s.mux.closed ≡ None → waiting ≡ s.mux.waiting ++ more) → Way from d s h
    → Way from d (record { mux = record s.mux { asks = asks; waiting = waiting }; queue = s.queue; put = s.put ++ more; got = s.got }) h
own_asked from d s h asks waiting more sound waits w = record {
  fit = let fit = w.fit in record { some = fit.some; dlci = fit.dlci; least = fit.least; most = fit.most };
  role = w.role;
  few = w.few;
  cap = w.cap;
  orderly = w.orderly;
  money = w.money;
  waits = w.waits;
  asks = sound;
  sound = w.sound;
  flow = elim w.flow [
    | inl over ↦ inl (over.0, (over.1.0 ++ more, ap (λ (xs : List ℕ). xs ++ more) over.1.1 ∙ append_assoc h.got over.1.0 more))
    | inr st ↦ inr (record {
      rest = st.rest ++ more;
      exact = ap (λ (xs : List ℕ). xs ++ more) st.exact ∙ append_assoc h.got (flows_of d s.queue ++ st.rest) more ∙ ap (λ (xs : List ℕ). h.got ++ xs) (append_assoc (flows_of d s.queue) st.rest more);
      waits = λ e. ap (λ (xs : List ℕ). xs ++ more) (st.waits e) ∙ sym (waits e);
      behind = st.behind;
      reach = st.reach;
    })
  ];
}

-- and of the hearer
other_asked : (from : Role) (d : ℕ) (s h : End) (asks : Asks) (waiting put : List ℕ) → Way from d s h → Way from d s (record { mux = record h.mux { asks = asks; waiting = waiting }; queue = h.queue; put = put; got = h.got })
other_asked from d s h asks waiting put w = record {
  fit = w.fit;
  role = w.role;
  few = w.few;
  cap = w.cap;
  orderly = w.orderly;
  money = w.money;
  waits = w.waits;
  asks = w.asks;
  sound = w.sound;
  flow = elim w.flow [ inl over ↦ inl over | inr st ↦ inr (record { rest = st.rest; exact = st.exact; waits = st.waits; behind = st.behind; reach = st.reach }) ];
}

-- both directions after octets were given
record BothWays (from to : Role) (d : ℕ) (s h : End) : Type 0 where
  pub own : Way from d s h
  pub peer : Way to d h s

empty_is : (xs : List ℕ) → is_empty xs ≡ true → xs ≡ []
empty_is [] is = refl
empty_is (x ∷ xs) is = let never : false ≡ true = is in cc

takes_if : (from to : Role) (d : ℕ) (s h : End) (octets : List ℕ) (k : ℕ) (test : Bool) → (test ≡ true → s.mux.waiting ≡ []) → Way from d s h → Way to d h s
    → BothWays from to d (record { mux = cond test (record s.mux { waiting = take (cond test k 0) octets }) s.mux; queue = s.queue; put = s.put ++ take (cond test k 0) octets; got = s.got }) h
takes_if from to d s h octets k true free w v = record {
  own = own_asked from d s h s.mux.asks (take k octets) (take k octets) w.asks (λ e. ap (λ (xs : List ℕ). xs ++ take k octets) (sym (free refl))) w;
  peer = other_asked to d h s s.mux.asks (take k octets) (s.put ++ take k octets) v;
}
takes_if from to d s h octets k false free w v = record {
  own = own_asked from d s h s.mux.asks s.mux.waiting [] w.asks (λ e. sym (append-nil s.mux.waiting)) w;
  peer = other_asked to d h s s.mux.asks s.mux.waiting (s.put ++ []) v;
}

gives_if : (from to : Role) (d : ℕ) (s h : End) (octets : List ℕ) (may : Bool) → Way from d s h → Way to d h s → BothWays from to d (cond may (taking octets s) s) h
gives_if from to d s h octets true w v =
    takes_if from to d s h octets (cond (nat_le (length octets) s.mux.frame) (length octets) s.mux.frame) (is_empty s.mux.waiting && nat_lt 0 s.mux.account.held)
    (λ is. empty_is s.mux.waiting (both_true (is_empty s.mux.waiting) (nat_lt 0 s.mux.account.held) is).0) w v
gives_if from to d s h octets false w v = record { own = w; peer = v }

closes_if : (from to : Role) (d : ℕ) (s h : End) (test : Bool) → Way from d s h → Way to d h s → BothWays from to d (record { mux = cond test (record s.mux { asks = Due LeaveUser }) s.mux; queue = s.queue; put = s.put; got = s.got }) h
closes_if from to d s h true w v = record {
  own = subst (λ (put : List ℕ). Way from d (record { mux = record s.mux { asks = Due LeaveUser }; queue = s.queue; put = put; got = s.got }) h) (append-nil s.put)
      (own_asked from d s h (Due LeaveUser) s.mux.waiting [] tt (λ e. sym (append-nil s.mux.waiting)) w);
  peer = other_asked to d h s (Due LeaveUser) s.mux.waiting s.put v;
}
closes_if from to d s h false w v = record { own = w; peer = v }

-- ---- the pair

abbrev asks_any : ℕ → List PlainFrame → Bool
asks_any d [] = false
asks_any d (f ∷ fs) = asks_in d f.kind f || asks_any d fs

-- the initiator asked for the user channel before anyone else knows of it, and the responder agreed before its UA goes
pub record Knows (d : ℕ) (i r : End) : Type 0 where
  pub idle : i.mux.user ≡ Idle → (r.mux.user ≡ Idle) × (asks_any d i.queue ≡ false)
  pub opened : opens_any Responder d r.queue ≡ true → is_far r.mux.user ≡ true

pub record Crossing (d : ℕ) (p : Pair) : Type 0 where
  pub forth : Way Initiator d p.initiator p.responder
  pub back : Way Responder d p.responder p.initiator
  pub knows : Knows d p.initiator p.responder

rank_idle : (u v : Dlc) → rank u ≤ rank v → v ≡ Idle → u ≡ Idle
rank_idle Idle v most is = refl
rank_idle Asked v most is = absurd (let zero_is = ap rank is in omega (arith, zero_is, most))
rank_idle Open v most is = absurd (let zero_is = ap rank is in omega (arith, zero_is, most))
rank_idle Ended v most is = absurd (let zero_is = ap rank is in omega (arith, zero_is, most))

or_none : (a b : Bool) → (a || b) ≡ false → (a ≡ false) × (b ≡ false)
or_none true b is = let never : true ≡ false = is in cc
or_none false b is = (refl, is)

asks_more : (d : ℕ) (fs : List PlainFrame) (f : PlainFrame) → asks_any d fs ≡ false → asks_in d f.kind f ≡ false → asks_any d (fs ++ f ∷ []) ≡ false
asks_more d [] f none not_asked = ap (λ (b : Bool). b || false) not_asked
asks_more d (g ∷ fs) f none not_asked =
    let parts = or_none (asks_in d g.kind g) (asks_any d fs) none in
    ap (λ (b : Bool). b || asks_any d (fs ++ f ∷ [])) parts.0 ∙ asks_more d fs f parts.1 not_asked

is_false : (b : Bool) → (b ≡ true → ⊥) → b ≡ false
is_false true never = absurd (never refl)
is_false false never = refl

not_both : (b : Bool) → b ≡ true → b ≡ false → ⊥
not_both b holds fails = let never : true ≡ false = sym holds ∙ fails in cc

initiator_opens_none : (d : ℕ) (kind : MuxKind) (f : PlainFrame) → opens_in Initiator d kind f ≡ true → ⊥
initiator_opens_none d Sabm f is = not_both false is refl
initiator_opens_none d Ua f is = not_both false is refl
initiator_opens_none d Dm f is = not_both false is refl
initiator_opens_none d Disc f is = not_both false is refl
initiator_opens_none d Uih f is = not_both false is refl

initiator_says : (d : ℕ) (i r : End) → Crossing d (record { initiator = i; responder = r }) → (o : Option Said) → SaysWell r.mux.agreed d i.mux o → Crossing d (record { initiator = spoken o i; responder = r })
initiator_says d i r c None t = c
initiator_says d i r c (Some said) t =
    let role = c.forth.role in
    record {
      forth = own_says Initiator d i r said.frame said.after c.forth t;
      back = other_says Responder r.mux.agreed d r i said.frame said.after c.back t;
      knows = record {
        idle = λ e.
            let was = c.knows.idle (rank_idle i.mux.user said.after.user t.rises e) in
            (was.0, asks_more d i.queue said.frame was.1 (is_false (asks_in d said.frame.kind said.frame) (λ asks. t.asked_is role asks e)));
        opened = c.knows.opened;
      };
    }

responder_says : (d : ℕ) (i r : End) → Crossing d (record { initiator = i; responder = r }) → (o : Option Said) → SaysWell i.mux.agreed d r.mux o → Crossing d (record { initiator = i; responder = spoken o r })
responder_says d i r c None t = c
responder_says d i r c (Some said) t =
    let role = c.back.role in
    record {
      forth = other_says Initiator i.mux.agreed d i r said.frame said.after c.forth t;
      back = own_says Responder d r i said.frame said.after c.back t;
      knows = record {
        idle = λ e. let was = c.knows.idle e in (t.idle role was.0, was.1);
        opened = λ o.
            or_cases (opens_any Responder d r.queue) (opens_in Responder d said.frame.kind said.frame) (is_far said.after.user) (λ before. far_rises r.mux.user said.after.user t.rises (c.knows.opened before))
            (λ opens. t.opened (ap (λ (x : Role). opens_in x d said.frame.kind said.frame) role ∙ opens)) (sym (any_more Responder d r.queue said.frame) ∙ o);
      };
    }

-- the record of an end whose queue is empty
empty_away : (d : ℕ) (i r : End) (P : Pair → Type 0) → i.queue ≡ [] → P (record { initiator = i; responder = r }) → P (record { initiator = record { mux = i.mux; queue = []; put = i.put; got = i.got }; responder = r })
empty_away d i r P is p = subst (λ (q : List PlainFrame). P (record { initiator = record { mux = i.mux; queue = q; put = i.put; got = i.got }; responder = r })) is p

empty_away_back : (d : ℕ) (i r : End) (P : Pair → Type 0) → r.queue ≡ [] → P (record { initiator = i; responder = r }) → P (record { initiator = i; responder = record { mux = r.mux; queue = []; put = r.put; got = r.got } })
empty_away_back d i r P is p = subst (λ (q : List PlainFrame). P (record { initiator = i; responder = record { mux = r.mux; queue = q; put = r.put; got = r.got } })) is p

from_responder : (role : Role) → role ≡ Initiator → other_role role ≡ Responder
from_responder Initiator is = refl
from_responder Responder is = cc

from_initiator : (role : Role) → role ≡ Responder → other_role role ≡ Initiator
from_initiator Responder is = refl
from_initiator Initiator is = cc

over_closed : (m : Mux) → is_over m ≡ false → m.closed ≡ None
over_closed m stands = closed_if m.closed stands
  where
    closed_if : (c : Option MuxReason) → (is_some c || (is_ended m.user || is_ended m.control)) ≡ false → c ≡ None
    closed_if None is = refl
    closed_if (Some reason) is = let never : true ≡ false = is in cc

initiator_delivers : (d : ℕ) (i r : End) → Crossing d (record { initiator = i; responder = r }) → (q : List PlainFrame) → i.queue ≡ q
    → Crossing d (record { initiator = record { mux = i.mux; queue = without_first q; put = i.put; got = i.got }; responder = hearing q r })
initiator_delivers d i r c [] is = empty_away d i r (Crossing d) is c
initiator_delivers d i r c (f ∷ fs) is =
    let fit = c.back.fit in
    let step = step_of Initiator d i r f fs is c.forth c.back.fit in
    record {
      forth = own_comes Initiator Responder d i r f fs is c.forth c.back (λ stands opens. absurd (initiator_opens_none d f.kind f opens));
      back = other_comes Initiator Responder d i r f fs is c.forth c.back
          (λ opens. absurd (initiator_opens_none r.mux.dlci f.kind f (ap (λ (x : Role). opens_in x r.mux.dlci f.kind f) (sym (from_initiator r.mux.role c.back.role)) ∙ opens)));
      knows = record {
        idle = λ e.
            let was = c.knows.idle e in
            let none = or_none (asks_in d f.kind f) (asks_any d fs) (ap (asks_any d) (sym is) ∙ was.1) in
            elim (step.idle was.0) [
              | inl still ↦ (still, none.1)
              | inr asks ↦ absurd (not_both (asks_in d f.kind f) (ap (λ (n : ℕ). asks_in n f.kind f) (sym fit.dlci) ∙ asks) none.0)
            ];
        opened = λ o. far_rises r.mux.user (hears_answer (Ok f) r.mux).user step.rises (c.knows.opened o);
      };
    }

responder_delivers : (d : ℕ) (i r : End) → Crossing d (record { initiator = i; responder = r }) → (q : List PlainFrame) → r.queue ≡ q
    → Crossing d (record { initiator = hearing q i; responder = record { mux = r.mux; queue = without_first q; put = r.put; got = r.got } })
responder_delivers d i r c [] is = empty_away_back d i r (Crossing d) is c
responder_delivers d i r c (f ∷ fs) is =
    let fit = c.forth.fit in
    let step = step_of Responder d r i f fs is c.back c.forth.fit in
    let first : opens_in Responder d f.kind f ≡ true → is_far r.mux.user ≡ true = λ opens. c.knows.opened (ap (opens_any Responder d) is ∙ ap (λ (b : Bool). b || opens_any Responder d fs) opens) in
    let used : opens_in Responder d f.kind f ≡ true → i.mux.user ≡ Idle → ⊥ = λ opens e. not_both (is_far r.mux.user) (first opens) (ap is_far (c.knows.idle e).0) in
    record {
      forth = other_comes Responder Initiator d r i f fs is c.back c.forth
          (λ opens. first (ap (λ (n : ℕ). opens_in Responder n f.kind f) (sym fit.dlci) ∙ ap (λ (x : Role). opens_in x i.mux.dlci f.kind f) (sym (from_responder i.mux.role c.forth.role)) ∙ opens));
      back = own_comes Responder Initiator d r i f fs is c.back c.forth
          (λ stands opens. ua_opens d f i.mux c.forth.fit (over_closed i.mux stands) c.forth.role (used opens) f.kind refl opens);
      knows = record {
        idle = λ e. c.knows.idle (rank_idle i.mux.user (hears_answer (Ok f) i.mux).user step.rises e);
        opened = λ o. c.knows.opened (ap (opens_any Responder d) is ∙ ap (λ (b : Bool). opens_in Responder d f.kind f || b) o ∙ or-true (opens_in Responder d f.kind f));
      };
    }

-- giving and closing leave what the sides know of each other
taking_knows : (d : ℕ) (i r : End) (octets : List ℕ) (may : Bool) → Knows d i r → Knows d (cond may (taking octets i) i) r
taking_knows d i r octets true k = record { idle = λ e. k.idle (sym (sends_user octets i.mux) ∙ e); opened = k.opened }
  where
    sends_user : (octets : List ℕ) (m : Mux) → (sends octets m).user ≡ m.user
    sends_user octets m = user_if (is_empty m.waiting && nat_lt 0 m.account.held)
      where
        user_if : (b : Bool) → (cond b (record m { waiting = take (taken_count (length octets) m) octets }) m).user ≡ m.user
        user_if true = refl
        user_if false = refl
taking_knows d i r octets false k = k

taking_known : (d : ℕ) (i r : End) (octets : List ℕ) (may : Bool) → Knows d i r → Knows d i (cond may (taking octets r) r)
taking_known d i r octets true k = record { idle = λ e. let was = k.idle e in (sends_user octets r.mux ∙ was.0, was.1); opened = λ o. ap is_far (sends_user octets r.mux) ∙ k.opened o }
  where
    sends_user : (octets : List ℕ) (m : Mux) → (sends octets m).user ≡ m.user
    sends_user octets m = user_if (is_empty m.waiting && nat_lt 0 m.account.held)
      where
        user_if : (b : Bool) → (cond b (record m { waiting = take (taken_count (length octets) m) octets }) m).user ≡ m.user
        user_if true = refl
        user_if false = refl
taking_known d i r octets false k = k

leaves_user : (m : Mux) → (leaves m).user ≡ m.user
leaves_user m = user_if (is_none m.closed && not (is_leaving m.asks))
  where
    user_if : (b : Bool) → (cond b (record m { asks = Due LeaveUser }) m).user ≡ m.user
    user_if true = refl
    user_if false = refl

pub step : (d : ℕ) (h : Happening) (p : Pair) → Crossing d p → Crossing d (happens h p)
step d (Moves (ByInitiator Speak)) p c =
    initiator_says d p.initiator p.responder c (next p.initiator.mux) (says_well p.responder.mux.agreed d p.initiator.mux c.forth.fit c.forth.waits c.forth.asks)
step d (Moves (ByResponder Speak)) p c =
    responder_says d p.initiator p.responder c (next p.responder.mux) (says_well p.initiator.mux.agreed d p.responder.mux c.back.fit c.back.waits c.back.asks)
step d (Moves (ByInitiator (Give octets))) p c =
    let two = gives_if Initiator Responder d p.initiator p.responder octets (may_pass p.initiator.mux) c.forth c.back in
    record { forth = two.own; back = two.peer; knows = taking_knows d p.initiator p.responder octets (may_pass p.initiator.mux) c.knows }
step d (Moves (ByResponder (Give octets))) p c =
    let two = gives_if Responder Initiator d p.responder p.initiator octets (may_pass p.responder.mux) c.back c.forth in
    record { forth = two.peer; back = two.own; knows = taking_known d p.initiator p.responder octets (may_pass p.responder.mux) c.knows }
step d (Moves (ByInitiator Deliver)) p c = initiator_delivers d p.initiator p.responder c p.initiator.queue refl
step d (Moves (ByResponder Deliver)) p c = responder_delivers d p.initiator p.responder c p.responder.queue refl
step d (Closes Initiator) p c =
    let two = closes_if Initiator Responder d p.initiator p.responder (is_none p.initiator.mux.closed && not (is_leaving p.initiator.mux.asks)) c.forth c.back in
    let k = c.knows in
    record { forth = two.own; back = two.peer; knows = record { idle = λ e. k.idle (sym (leaves_user p.initiator.mux) ∙ e); opened = k.opened } }
step d (Closes Responder) p c =
    let two = closes_if Responder Initiator d p.responder p.initiator (is_none p.responder.mux.closed && not (is_leaving p.responder.mux.asks)) c.back c.forth in
    let k = c.knows in
    record {
      forth = two.peer;
      back = two.own;
      knows = record { idle = λ e. let was = k.idle e in (leaves_user p.responder.mux ∙ was.0, was.1); opened = λ o. ap is_far (leaves_user p.responder.mux) ∙ k.opened o };
    }

steps : (d : ℕ) (hs : List Happening) (p : Pair) → Crossing d p → Crossing d (all_happen hs p)
steps d [] p c = c
steps d (h ∷ hs) p c = steps d hs (happens h p) (step d h p c)

few_first : (cap : ℕ) → cap ≤ 40 → first_credits cap ≤ 40
few_first cap most = few_if (nat_le cap 7)
  where
    few_if : (b : Bool) → cond b cap 7 ≤ 40
    few_if true = most
    few_if false = omega arith

-- a new pair whose initiator had room for larger frames than it offers
abbrev pub offering : Terms → ℕ → Pair
offering t largest = record { initiator = new_end (new_mux Initiator t.dlci largest t.own t.cap); responder = new_end (new_mux Responder t.dlci t.own_peer t.own_peer t.cap_peer) }

pub first_offering : (t : Terms) (largest : ℕ) → Crossing t.dlci (offering t largest)
first_offering t largest = record {
  forth = record {
    fit = record { some = t.some; dlci = refl; least = t.least; most = t.most };
    role = refl;
    few = few_first t.cap t.cap_most;
    cap = t.cap_most;
    orderly = tt;
    money = omega arith;
    waits = tt;
    asks = tt;
    sound = tt;
    flow = inr (record { rest = []; exact = refl; waits = λ e. refl; behind = tt; reach = λ o far. let never : false ≡ true = far in cc });
  };
  back = record {
    fit = record { some = t.some; dlci = refl; least = t.least_peer; most = t.most_peer };
    role = refl;
    few = few_first t.cap_peer t.cap_peer_most;
    cap = t.cap_peer_most;
    orderly = tt;
    money = omega arith;
    waits = tt;
    asks = tt;
    sound = tt;
    flow = inr (record { rest = []; exact = refl; waits = λ e. refl; behind = tt; reach = λ o far. let never : false ≡ true = far in cc });
  };
  knows = record { idle = λ e. (refl, refl); opened = λ o. let never : false ≡ true = o in cc };
}

pub first : (t : Terms) → Crossing t.dlci (new_pair t)
first t = first_offering t t.own

pub closings-are_orderly : ClosingsAreOrderly
closings-are_orderly t hs =
    let c = steps t.dlci hs (new_pair t) (first t) in
    let p : Pair = all_happen hs (new_pair t) in
    record {
      initiator_orderly = c.forth.orderly;
      responder_orderly = c.back.orderly;
      forth = way_front Initiator t.dlci p.initiator p.responder c.forth;
      back = way_front Responder t.dlci p.responder p.initiator c.back;
    }
