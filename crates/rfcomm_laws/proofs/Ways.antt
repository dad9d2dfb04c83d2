-- One direction of the pair, through closings: what a side owes the other, and what is on its way.
use Rattle.std.proofs.Common.{arith, ◌≡◌, ◌⊎◌, inl, inr, ◌≤◌, ℕ, ◌+◌, Bool, true, false, ◌||◌, List, [], ◌∷◌, ◌++◌, None, Ok, refl, sym, ap, subst, ◌∙◌, append_assoc}
use Rattle.std.proofs.lemmas.List.{append-nil}
use Rattle.std.proofs.Math.Bool.{or-true}
use Rattle.rfcomm_model.specs.declared.state.Command.TheVariants.{OpenControl, Agree, OpenUser, Signal, LeaveUser, LeaveControl}
use Rattle.rfcomm_model.specs.declared.state.Asks.{Asks}
use Rattle.rfcomm_model.specs.declared.state.Asks.TheVariants.{Nothing, Due, Awaited}
use Rattle.rfcomm_frames.specs.declared.frame.MuxKind.{MuxKind}
use Rattle.rfcomm_frames.specs.declared.frame.MuxKind.TheVariants.{Sabm, Ua, Dm, Disc, Uih}
use Rattle.rfcomm_frames.specs.declared.connection.Role.{Role}
use Rattle.rfcomm_frames.specs.declared.connection.Dlc.{Dlc}
use Rattle.rfcomm_frames.specs.declared.connection.Dlc.TheVariants.{Idle, Asked, Open, Ended}
use Rattle.rfcomm_frames.specs.Frames.{PlainFrame}
use Rattle.rfcomm_frames.specs.FrameReading.{messages}
use Rattle.rfcomm_model.specs.Machine.{Mux, may_pass}
use Rattle.rfcomm_model.specs.ClosedSides.{IsOrderly}
use Rattle.rfcomm_model.specs.Hearing.{own_credits, hears_answer}
use Rattle.rfcomm_laws.specs.Pairs.{End, handed_by, IsFront}
use Rattle.rfcomm_laws.specs.Totals.{}
use Rattle.rfcomm_laws.proofs.Harm.{bonuses_of, costs_of, bonuses_append, costs_append, rank, is_over, is_far, AllWait, SoundAsks, messages_later, Word, Step, not_before}
use Rattle.rfcomm_laws.proofs.Turning.{Fit}
use Rattle.rfcomm_laws.proofs.Harmless.{SoundIn, opens_in}
use Rattle.rfcomm_laws.proofs.Telling.{flow_of, Tells}
use Rattle.rfcomm_laws.proofs.Passing.{over_passes, passing_is, not_far, Hands}

-- ---- frames on the way

abbrev pub AllSound : Bool → Bool → ℕ → List PlainFrame → Type 0
AllSound terms own d [] = Unit {0}
AllSound terms own d (f ∷ fs) = SoundIn terms own d f.kind f × AllSound terms own d fs

abbrev pub flows_of : ℕ → List PlainFrame → List ℕ
flows_of d [] = []
flows_of d (f ∷ fs) = flow_of d f ++ flows_of d fs

-- information comes only behind what opens the channel
abbrev pub Behind : Role → ℕ → Bool → List PlainFrame → Type 0
Behind from d o [] = Unit {0}
Behind from d o (f ∷ fs) = (o ≡ false → flow_of d f ≡ []) × Behind from d (o || opens_in from d f.kind f) fs

abbrev pub opens_any : Role → ℕ → List PlainFrame → Bool
opens_any from d [] = false
opens_any from d (f ∷ fs) = opens_in from d f.kind f || opens_any from d fs

sound_later : (a b x y : Bool) (d : ℕ) (kind : MuxKind) (f : PlainFrame) → (a ≡ true → b ≡ true) → (x ≡ true → y ≡ true) → SoundIn a x d kind f → SoundIn b y d kind f
sound_later a b x y d Sabm f p q s = λ here. q (s here)
sound_later a b x y d Ua f p q s = tt
sound_later a b x y d Dm f p q s = tt
sound_later a b x y d Disc f p q s = tt
sound_later a b x y d Uih f p q s = λ here. messages_later a b d (messages f.octets) p (s here)

pub all_sound_later : (a b x y : Bool) (d : ℕ) (fs : List PlainFrame) → (a ≡ true → b ≡ true) → (x ≡ true → y ≡ true) → AllSound a x d fs → AllSound b y d fs
all_sound_later a b x y d [] p q s = tt
all_sound_later a b x y d (f ∷ fs) p q s = (sound_later a b x y d f.kind f p q s.0, all_sound_later a b x y d fs p q s.1)

all_sound_more : (a x : Bool) (d : ℕ) (fs : List PlainFrame) (f : PlainFrame) → AllSound a x d fs → SoundIn a x d f.kind f → AllSound a x d (fs ++ f ∷ [])
all_sound_more a x d [] f s t = (t, tt)
all_sound_more a x d (g ∷ fs) f s t = (s.0, all_sound_more a x d fs f s.1 t)

flows_append : (d : ℕ) (fs : List PlainFrame) (f : PlainFrame) → flows_of d (fs ++ f ∷ []) ≡ flows_of d fs ++ flow_of d f
flows_append d [] f = append-nil (flow_of d f)
flows_append d (g ∷ fs) f = ap (λ (xs : List ℕ). flow_of d g ++ xs) (flows_append d fs f) ∙ sym (append_assoc (flow_of d g) (flows_of d fs) (flow_of d f))

or_assoc : (a b c : Bool) → ((a || b) || c) ≡ (a || (b || c))
or_assoc true b c = refl
or_assoc false b c = refl

or_false : (a : Bool) → (a || false) ≡ a
or_false true = refl
or_false false = refl

or_more : (a b c : Bool) → (a ≡ true → b ≡ true) → (a || c) ≡ true → (b || c) ≡ true
or_more true b c p is = ap (λ (x : Bool). x || c) (p refl)
or_more false true c p is = refl
or_more false false c p is = is

behind_later : (from : Role) (d : ℕ) (a b : Bool) (fs : List PlainFrame) → (a ≡ true → b ≡ true) → Behind from d a fs → Behind from d b fs
behind_later from d a b [] p s = tt
behind_later from d a b (f ∷ fs) p s =
    ((λ is. s.0 (not_before a b p is)), behind_later from d (a || opens_in from d f.kind f) (b || opens_in from d f.kind f) fs (or_more a b (opens_in from d f.kind f) p) s.1)

behind_more : (from : Role) (d : ℕ) (o : Bool) (fs : List PlainFrame) (f : PlainFrame) → Behind from d o fs → ((o || opens_any from d fs) ≡ false → flow_of d f ≡ []) → Behind from d o (fs ++ f ∷ [])
behind_more from d o [] f s t = ((λ is. t (or_false o ∙ is)), tt)
behind_more from d o (g ∷ fs) f s t =
    (s.0, behind_more from d (o || opens_in from d g.kind g) fs f s.1 (λ is. t (sym (or_assoc o (opens_in from d g.kind g) (opens_any from d fs)) ∙ is)))

pub any_more : (from : Role) (d : ℕ) (fs : List PlainFrame) (f : PlainFrame) → opens_any from d (fs ++ f ∷ []) ≡ (opens_any from d fs || opens_in from d f.kind f)
any_more from d [] f = or_false (opens_in from d f.kind f)
any_more from d (g ∷ fs) f = ap (λ (b : Bool). opens_in from d g.kind g || b) (any_more from d fs f) ∙ sym (or_assoc (opens_in from d g.kind g) (opens_any from d fs) (opens_in from d f.kind f))

pub far_rises : (u v : Dlc) → rank u ≤ rank v → is_far u ≡ true → is_far v ≡ true
far_rises Idle v most is = let never : false ≡ true = is in cc
far_rises Asked v most is = let never : false ≡ true = is in cc
far_rises Open Open most is = refl
far_rises Open Ended most is = refl
far_rises Ended Ended most is = refl
far_rises Ended Open most is = refl
far_rises Open Idle most is = absurd (omega arith)
far_rises Open Asked most is = absurd (omega arith)
far_rises Ended Idle most is = absurd (omega arith)
far_rises Ended Asked most is = absurd (omega arith)

-- ---- a direction

-- nothing is lost: what was put is what was got, what is on the way, and what waits
pub record Streams (from : Role) (d : ℕ) (s h : End) : Type 0 where
  pub rest : List ℕ
  pub exact : s.put ≡ h.got ++ (flows_of d s.queue ++ rest)
  pub waits : s.mux.closed ≡ None → rest ≡ s.mux.waiting
  pub behind : Behind from d (is_far h.mux.user) s.queue
  pub reach : is_over s.mux ≡ false → is_far s.mux.user ≡ true → (is_far h.mux.user || opens_any from d s.queue) ≡ true

abbrev pub Flows : Role → ℕ → End → End → Type 0
Flows from d s h = ((is_over h.mux ≡ true) × IsFront h.got s.put) ⊎ Streams from d s h

pub record Way (from : Role) (d : ℕ) (s h : End) : Type 0 where
  pub fit : Fit d s.mux
  pub role : s.mux.role ≡ from
  pub few : s.mux.account.peer ≤ 40
  pub cap : s.mux.account.cap ≤ 40
  pub orderly : IsOrderly s.mux.closed
  pub money : s.mux.account.held + (costs_of s.queue + (bonuses_of d h.queue + (bonuses_of d h.mux.answers + own_credits h.mux))) ≤ h.mux.account.peer
  pub waits : AllWait s.mux.agreed (rank s.mux.user) d s.mux.answers
  pub asks : SoundAsks h.mux.agreed s.mux.asks
  pub sound : AllSound s.mux.agreed h.mux.agreed d s.queue
  pub flow : Flows from d s h

pub way_front : (from : Role) (d : ℕ) (s h : End) → Way from d s h → IsFront h.got s.put
way_front from d s h w = elim w.flow [ inl over ↦ over.1 | inr streams ↦ (flows_of d s.queue ++ streams.rest, streams.exact) ]

pub asks_later : (a b : Bool) (asks : Asks) → (a ≡ true → b ≡ true) → SoundAsks a asks → SoundAsks b asks
asks_later a b Nothing p s = tt
asks_later a b (Due OpenControl) p s = tt
asks_later a b (Due Agree) p s = tt
asks_later a b (Due OpenUser) p s = p s
asks_later a b (Due Signal) p s = tt
asks_later a b (Due LeaveUser) p s = tt
asks_later a b (Due LeaveControl) p s = tt
asks_later a b (Awaited command) p s = tt

-- ---- the speaker says a frame

abbrev pub said_end : End → PlainFrame → Mux → End
said_end e f after = record { mux = after; queue = e.queue ++ f ∷ []; put = e.put; got = e.got }

stream_says : (from : Role) (d : ℕ) (s h : End) (f : PlainFrame) (after : Mux) → s.mux.role ≡ from → Tells h.mux.agreed d s.mux f after → Streams from d s h → Streams from d (said_end s f after) h
stream_says from d s h f after role t st =
    let spoken_far : is_over after ≡ false → is_far after.user ≡ true → (is_far h.mux.user || opens_any from d (s.queue ++ f ∷ [])) ≡ true =
    λ o far.
    let any = any_more from d s.queue f in
    elim (t.far o far) [
      | inl before ↦ ap (λ (b : Bool). is_far h.mux.user || b) any ∙ sym (or_assoc (is_far h.mux.user) (opens_any from d s.queue) (opens_in from d f.kind f))
          ∙ ap (λ (b : Bool). b || opens_in from d f.kind f) (st.reach (not_before (is_over s.mux) (is_over after) t.over o) before)
      | inr opens ↦ ap (λ (b : Bool). is_far h.mux.user || b) (any ∙ ap (λ (b : Bool). opens_any from d s.queue || b) (ap (λ (r : Role). opens_in r d f.kind f) (sym role) ∙ opens) ∙ or-true (opens_any from d s.queue)) ∙ or-true (is_far h.mux.user)
    ] in
    elim t.flow [
      | inl free ↦ record {
        rest = st.rest;
        exact = st.exact ∙ ap (λ (xs : List ℕ). h.got ++ (xs ++ st.rest)) (sym (append-nil (flows_of d s.queue)) ∙ ap (λ (xs : List ℕ). flows_of d s.queue ++ xs) (sym free.0) ∙ sym (flows_append d s.queue f));
        waits = λ e. st.waits (sym t.closed_is ∙ e) ∙ sym free.1;
        behind = behind_more from d (is_far h.mux.user) s.queue f st.behind (λ is. free.0);
        reach = spoken_far;
      }
      | inr paid ↦
          let may = passing_is s.mux paid.0 in
          record {
            rest = after.waiting;
            exact = st.exact ∙ ap (λ (xs : List ℕ). h.got ++ (flows_of d s.queue ++ xs)) (st.waits may.2 ∙ paid.1) ∙ ap (λ (xs : List ℕ). h.got ++ xs) (sym (append_assoc (flows_of d s.queue) (flow_of d f) after.waiting))
                ∙ ap (λ (xs : List ℕ). h.got ++ (xs ++ after.waiting)) (sym (flows_append d s.queue f));
            waits = λ e. refl;
            behind = behind_more from d (is_far h.mux.user) s.queue f st.behind (λ is. absurd (let never : true ≡ false = sym (st.reach may.0 may.1) ∙ is in cc));
            reach = spoken_far;
          }
    ]

pub own_says : (from : Role) (d : ℕ) (s h : End) (f : PlainFrame) (after : Mux) → Way from d s h → Tells h.mux.agreed d s.mux f after → Way from d (said_end s f after) h
own_says from d s h f after w t =
    let costs = costs_append s.queue f in
    record {
      fit = let fit = w.fit in record { some = fit.some; dlci = t.dlci ∙ fit.dlci; least = omega (arith, t.own, fit.least); most = omega (arith, t.own, fit.most) };
      role = t.role ∙ w.role;
      few = t.within w.few w.cap;
      cap = omega (arith, t.cap, w.cap);
      orderly = subst IsOrderly (sym t.closed_is) w.orderly;
      money = omega (arith, costs, t.held, w.money);
      waits = t.waits;
      asks = t.asks;
      sound = all_sound_more after.agreed h.mux.agreed d s.queue f (all_sound_later s.mux.agreed after.agreed h.mux.agreed h.mux.agreed d s.queue (λ a. t.agreed_is ∙ a) (λ a. a) w.sound)
          (sound_later s.mux.agreed after.agreed h.mux.agreed h.mux.agreed d f.kind f (λ a. t.agreed_is ∙ a) (λ a. a) t.sound);
      flow = elim w.flow [ inl over ↦ inl over | inr streams ↦ inr (stream_says from d s h f after w.role t streams) ];
    }

-- ---- the hearer says a frame

pub other_says : (from : Role) (terms : Bool) (d : ℕ) (s h : End) (f : PlainFrame) (after : Mux) → Way from d s h → Tells terms d h.mux f after → Way from d s (said_end h f after)
other_says from terms d s h f after w t =
    let brings = bonuses_append d h.queue f in
    record {
      fit = w.fit;
      role = w.role;
      few = w.few;
      cap = w.cap;
      orderly = w.orderly;
      money = omega (arith, brings, t.owed, w.money);
      waits = w.waits;
      asks = asks_later h.mux.agreed after.agreed s.mux.asks (λ a. t.agreed_is ∙ a) w.asks;
      sound = all_sound_later s.mux.agreed s.mux.agreed h.mux.agreed after.agreed d s.queue (λ a. a) (λ a. t.agreed_is ∙ a) w.sound;
      flow = elim w.flow [
        | inl over ↦ inl (t.over over.0, over.1)
        | inr st ↦ inr (record {
          rest = st.rest;
          exact = st.exact;
          waits = st.waits;
          behind = behind_later from d (is_far h.mux.user) (is_far after.user) s.queue (far_rises h.mux.user after.user t.rises) st.behind;
          reach = λ o far. or_more (is_far h.mux.user) (is_far after.user) (opens_any from d s.queue) (far_rises h.mux.user after.user t.rises) (st.reach o far);
        })
      ];
    }

-- ---- a frame comes

abbrev pub away : End → List PlainFrame → End
away e fs = record { mux = e.mux; queue = fs; put = e.put; got = e.got }

abbrev pub heard_end : End → PlainFrame → End
heard_end h f = record { mux = hears_answer (Ok f) h.mux; queue = h.queue; put = h.put; got = h.got ++ handed_by f h.mux }

-- a front stays one where what was carried came or nothing did
front_on : (d : ℕ) (f : PlainFrame) (fs : List PlainFrame) (m : Mux) (put got rest : List ℕ) → Hands d f m → put ≡ got ++ (flows_of d (f ∷ fs) ++ rest) → IsFront (got ++ handed_by f m) put
front_on d f fs m put got rest h exact = by_pass (may_pass m) refl
  where
    by_pass : (b : Bool) → may_pass m ≡ b → IsFront (got ++ handed_by f m) put
    by_pass true may = (flows_of d fs ++ rest, exact ∙ ap (λ (xs : List ℕ). got ++ xs) (append_assoc (flow_of d f) (flows_of d fs) rest) ∙ sym (append_assoc got (flow_of d f) (flows_of d fs ++ rest)) ∙ ap (λ (xs : List ℕ). (got ++ xs) ++ (flows_of d fs ++ rest)) (sym (h.open_is may)))
    by_pass false may = (flows_of d (f ∷ fs) ++ rest, exact ∙ ap (λ (xs : List ℕ). xs ++ (flows_of d (f ∷ fs) ++ rest)) (sym (append-nil got) ∙ ap (λ (xs : List ℕ). got ++ xs) (sym (h.shut_is may))))

pub front_over : (m : Mux) (f : PlainFrame) (d : ℕ) (put got : List ℕ) → is_over m ≡ true → Hands d f m → IsFront got put → IsFront (got ++ handed_by f m) put
front_over m f d put got over h front =
    let none = h.shut_is (over_shut (may_pass m) refl) in
    (front.0, front.1 ∙ ap (λ (xs : List ℕ). xs ++ front.0) (sym (append-nil got) ∙ ap (λ (xs : List ℕ). got ++ xs) (sym none)))
  where
    over_shut : (b : Bool) → may_pass m ≡ b → b ≡ false
    over_shut true may = let never : true ≡ false = sym over ∙ (passing_is m may).0 in cc
    over_shut false may = refl

-- what the hearer takes while it goes on
taken_whole : (d : ℕ) (f : PlainFrame) (m : Mux) → Hands d f m → is_over m ≡ false → (is_far m.user ≡ false → flow_of d f ≡ []) → handed_by f m ≡ flow_of d f
taken_whole d f m h stands behind = by_far (is_far m.user) refl
  where
    by_far : (b : Bool) → is_far m.user ≡ b → handed_by f m ≡ flow_of d f
    by_far true far = h.open_is (over_passes m stands far)
    by_far false near = h.shut_is (not_far m near) ∙ sym (behind near)

pub or_cases : (a b c : Bool) → (a ≡ true → c ≡ true) → (b ≡ true → c ≡ true) → (a || b) ≡ true → c ≡ true
or_cases true b c p q is = p refl
or_cases false b c p q is = q is

pub stream_comes : (from : Role) (d : ℕ) (s h : End) (f : PlainFrame) (fs : List PlainFrame) (word : Word) (b c : ℕ) → s.queue ≡ f ∷ fs → Hands d f h.mux → Step word b c h.mux (hears_answer (Ok f) h.mux)
    → (is_over h.mux ≡ false → opens_in from d f.kind f ≡ true → is_far (hears_answer (Ok f) h.mux).user ≡ true) → Streams from d s h → (over : Bool) → is_over (hears_answer (Ok f) h.mux) ≡ over → Flows from d (away s fs) (heard_end h f)
stream_comes from d s h f fs word b c is hand step opens st true over =
    inl (over, front_on d f fs h.mux s.put h.got st.rest hand (st.exact ∙ ap (λ (q : List PlainFrame). h.got ++ (flows_of d q ++ st.rest)) is))
stream_comes from d s h f fs word b c is hand step opens st false over =
    let after : Mux = hears_answer (Ok f) h.mux in
    let stood : is_over h.mux ≡ false = not_before (is_over h.mux) (is_over after) step.over over in
    let behind : Behind from d (is_far h.mux.user) (f ∷ fs) = subst (Behind from d (is_far h.mux.user)) is st.behind in
    let whole = taken_whole d f h.mux hand stood behind.0 in
    let later : (is_far h.mux.user || opens_in from d f.kind f) ≡ true → is_far after.user ≡ true =
    or_cases (is_far h.mux.user) (opens_in from d f.kind f) (is_far after.user) (far_rises h.mux.user after.user step.rises) (opens stood) in
    inr (record {
      rest = st.rest;
      exact = st.exact ∙ ap (λ (q : List PlainFrame). h.got ++ (flows_of d q ++ st.rest)) is ∙ ap (λ (xs : List ℕ). h.got ++ xs) (append_assoc (flow_of d f) (flows_of d fs) st.rest)
          ∙ sym (append_assoc h.got (flow_of d f) (flows_of d fs ++ st.rest)) ∙ ap (λ (xs : List ℕ). (h.got ++ xs) ++ (flows_of d fs ++ st.rest)) (sym whole);
      waits = st.waits;
      behind = behind_later from d (is_far h.mux.user || opens_in from d f.kind f) (is_far after.user) fs later behind.1;
      reach = λ o far.
          or_more (is_far h.mux.user || opens_in from d f.kind f) (is_far after.user) (opens_any from d fs) later
          (or_assoc (is_far h.mux.user) (opens_in from d f.kind f) (opens_any from d fs) ∙ ap (λ (q : List PlainFrame). is_far h.mux.user || opens_any from d q) (sym is) ∙ st.reach o far);
    })
