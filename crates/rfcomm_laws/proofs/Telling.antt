-- What a side says keeps the rules.
use Rattle.std.proofs.Common.{arith, ◌≡◌, ◌⊎◌, inl, inr, ◌<◌, ◌≤◌, ℕ, ◌==◌, ◌+◌, ◌-◌, ◌*◌, ◌%◌, Bool, true, false, ◌&&◌, ◌||◌, cond, List, [], ◌∷◌, ◌++◌, Option, Some, None, Ok, refl, sym, ap, subst, ◌∙◌}
use Rattle.std.specs.Prelude.{not, nat_lt, nat_le, is_some}
use Rattle.std.proofs.lemmas.Bool.{ltb-true, eqb-true, ne_eqb, eq-eqb}
use Rattle.std.proofs.lemmas.List.{append-nil}
use Rattle.rfcomm_frames.specs.declared.frame.MuxKind.{MuxKind}
use Rattle.rfcomm_frames.specs.declared.frame.MuxKind.TheVariants.{Sabm, Ua, Dm, Disc, Uih}
use Rattle.rfcomm_frames.specs.declared.connection.Role.{Role}
use Rattle.rfcomm_frames.specs.declared.connection.Role.TheVariants.{Initiator, Responder}
use Rattle.rfcomm_frames.specs.declared.connection.Dlc.{Dlc}
use Rattle.rfcomm_frames.specs.declared.connection.Dlc.TheVariants.{Idle, Asked, Open, Ended}
use Rattle.rfcomm_frames.specs.Frames.{PlainFrame}
use Rattle.rfcomm_frames.specs.Controls.{PlainControl, pn, msc, written}
use Rattle.rfcomm_frames.specs.FrameReading.{messages, is_empty}
use Rattle.rfcomm_frames.specs.Connections.{turned, asked, agreed, left, is_ended}
use Rattle.rfcomm_frames.specs.Multiplexing.{stated_by}
use Rattle.rfcomm_credits.specs.Accounts.{grant_of}
use Rattle.rfcomm_model.specs.declared.state.Command.{Command}
use Rattle.rfcomm_model.specs.declared.state.Command.TheVariants.{OpenControl, Agree, OpenUser, Signal, LeaveUser, LeaveControl}
use Rattle.rfcomm_model.specs.declared.state.Asks.{Asks}
use Rattle.rfcomm_model.specs.declared.state.Asks.TheVariants.{Nothing, Due, Awaited}
use Rattle.rfcomm_model.specs.Machine.{Mux, may_pass, is_ready, is_both}
use Rattle.rfcomm_model.specs.Written.{grant_frame, data_frame}
use Rattle.rfcomm_model.specs.Hearing.{own_credits}
use Rattle.rfcomm_model.specs.Saying.{Said, passed_on, passes, frame_of_command, commanded, says_data, says_grant, first_of, says_command, says_answer, next}
use Rattle.rfcomm_model.proofs.Stepping.{cond_same}
use Rattle.rfcomm_laws.proofs.Opening.{msc_read, pn_read}
use Rattle.rfcomm_laws.proofs.Running.{grant_if, both_true}
use Rattle.rfcomm_laws.specs.Totals.{stated_sum, bonus_of, cost_in, cost_of}
use Rattle.rfcomm_laws.proofs.Harm.{bonuses_of, rank, is_over, SoundMessages, whoever, WaitsIn, AllWait, SoundAsks, all_later, is_far}
use Rattle.rfcomm_laws.proofs.Turning.{Fit, over_more, none_of, asked_rank, agreed_rank}
use Rattle.rfcomm_laws.proofs.Harmless.{SoundIn, is_responder, asks_in, opens_in}

-- what a UIH frame costs, on the control channel or not, empty or not
abbrev cond_cost : Bool → Bool → ℕ
cond_cost here none = cond here 0 (cond none 0 1)

-- the information that a frame carries on the user channel
abbrev pub flow_in : ℕ → MuxKind → PlainFrame → List ℕ
flow_in d Sabm f = []
flow_in d Ua f = []
flow_in d Dm f = []
flow_in d Disc f = []
flow_in d Uih f = cond (not (f.dlci == 0) && (f.dlci == d)) f.octets []

abbrev pub flow_of : ℕ → PlainFrame → List ℕ
flow_of d f = flow_in d f.kind f

-- `terms` says whether the hearer agreed to the terms
pub record Tells (terms : Bool) (d : ℕ) (m : Mux) (f : PlainFrame) (after : Mux) : Type 0 where
  pub role : after.role ≡ m.role
  pub dlci : after.dlci ≡ m.dlci
  pub own : after.own ≡ m.own
  pub cap : after.account.cap ≡ m.account.cap
  pub agreed_is : after.agreed ≡ m.agreed
  pub closed_is : after.closed ≡ m.closed
  pub held : m.account.held ≡ cost_of f + after.account.held
  pub owed : (bonus_of d f + (bonuses_of d after.answers + own_credits after)) + m.account.peer ≤ (bonuses_of d m.answers + own_credits m) + after.account.peer
  pub more : m.account.peer ≤ after.account.peer
  pub within : m.account.peer ≤ 40 → m.account.cap ≤ 40 → after.account.peer ≤ 40
  pub over : is_over m ≡ true → is_over after ≡ true
  pub rises : rank m.user ≤ rank after.user
  pub waits : AllWait after.agreed (rank after.user) d after.answers
  pub asks : SoundAsks terms after.asks
  pub sound : SoundIn m.agreed terms d f.kind f
  pub idle : m.role ≡ Responder → m.user ≡ Idle → after.user ≡ Idle
  pub asked_is : m.role ≡ Initiator → asks_in d f.kind f ≡ true → after.user ≡ Idle → ⊥
  pub far : is_over after ≡ false → is_far after.user ≡ true → (is_far m.user ≡ true) ⊎ (opens_in m.role d f.kind f ≡ true)
  pub opened : opens_in m.role d f.kind f ≡ true → is_far after.user ≡ true
  pub flow : ((flow_of d f ≡ []) × (after.waiting ≡ m.waiting)) ⊎ ((may_pass m ≡ true) × (m.waiting ≡ flow_of d f ++ after.waiting))

-- ---- own frames count for the connections

turned_ended : (role : Role) (kind : MuxKind) (dlc : Dlc) → is_ended dlc ≡ true → is_ended (turned role kind dlc) ≡ true
turned_ended Initiator Sabm Ended is = refl
turned_ended Responder Sabm Ended is = refl
turned_ended Initiator Ua Ended is = refl
turned_ended Responder Ua Ended is = refl
turned_ended Initiator Dm Ended is = refl
turned_ended Responder Dm Ended is = refl
turned_ended Initiator Disc Ended is = refl
turned_ended Responder Disc Ended is = refl
turned_ended Initiator Uih Ended is = refl
turned_ended Responder Uih Ended is = refl
turned_ended role kind Idle is = let never : false ≡ true = is in cc
turned_ended role kind Asked is = let never : false ≡ true = is in cc
turned_ended role kind Open is = let never : false ≡ true = is in cc

passed_ended : (role : Role) (kind : MuxKind) (here pf : Bool) (dlc : Dlc) → is_ended dlc ≡ true → is_ended (cond here (passed_on role kind pf dlc) dlc) ≡ true
passed_ended role kind true true dlc is = turned_ended role kind dlc is
passed_ended role kind true false dlc is = is
passed_ended role kind false pf dlc is = is

left_rises : (from : Role) (dlc : Dlc) → rank dlc ≤ rank (left from dlc)
left_rises from Idle = omega arith
left_rises Initiator Asked = omega arith
left_rises Responder Asked = omega arith
left_rises from Open = omega arith
left_rises from Ended = omega arith

turned_rises : (role : Role) (kind : MuxKind) (dlc : Dlc) → rank dlc ≤ rank (turned role kind dlc)
turned_rises Initiator Sabm dlc = (asked_rank dlc).0
turned_rises Responder Sabm dlc = omega arith
turned_rises Initiator Ua dlc = omega arith
turned_rises Responder Ua dlc = agreed_rank dlc
turned_rises Initiator Dm dlc = omega arith
turned_rises Responder Dm dlc = omega arith
turned_rises Initiator Disc dlc = left_rises Initiator dlc
turned_rises Responder Disc dlc = left_rises Responder dlc
turned_rises Initiator Uih dlc = omega arith
turned_rises Responder Uih dlc = omega arith

passed_rises : (role : Role) (kind : MuxKind) (here pf : Bool) (dlc : Dlc) → rank dlc ≤ rank (cond here (passed_on role kind pf dlc) dlc)
passed_rises role kind true true dlc = turned_rises role kind dlc
passed_rises role kind true false dlc = omega arith
passed_rises role kind false pf dlc = omega arith

-- a responder's own frames leave an idle channel
responder_idle : (kind : MuxKind) (here pf : Bool) → cond here (passed_on Responder kind pf Idle) Idle ≡ Idle
responder_idle kind false pf = refl
responder_idle kind true false = refl
responder_idle Sabm true true = refl
responder_idle Ua true true = refl
responder_idle Dm true true = refl
responder_idle Disc true true = refl
responder_idle Uih true true = refl

passed_idle : (role : Role) (kind : MuxKind) (here pf : Bool) (dlc : Dlc) → role ≡ Responder → dlc ≡ Idle → cond here (passed_on role kind pf dlc) dlc ≡ Idle
passed_idle role kind here pf dlc r u =
    ap (λ (x : Role). cond here (passed_on x kind pf dlc) dlc) r ∙ ap (λ (x : Dlc). cond here (passed_on Responder kind pf x) x) u ∙ responder_idle kind here pf

-- how the own user channel comes to be open
passed_far : (role : Role) (kind : MuxKind) (d : ℕ) (f : PlainFrame) (dlc : Dlc) (here pf : Bool) → (f.dlci == d) ≡ here → f.pf ≡ pf → is_ended (cond here (passed_on role kind pf dlc) dlc) ≡ false
    → is_far (cond here (passed_on role kind pf dlc) dlc) ≡ true → (is_far dlc ≡ true) ⊎ (opens_in role d kind f ≡ true)
passed_far role kind d f dlc false pf ih ip e is = inl is
passed_far role kind d f dlc true false ih ip e is = inl is
passed_far Responder Sabm d f dlc true true ih ip e is = inl is
passed_far Initiator Sabm d f Idle true true ih ip e is = let never : false ≡ true = is in cc
passed_far Initiator Sabm d f Asked true true ih ip e is = inl is
passed_far Initiator Sabm d f Open true true ih ip e is = inl refl
passed_far Initiator Sabm d f Ended true true ih ip e is = inl refl
passed_far Initiator Ua d f dlc true true ih ip e is = inl is
passed_far Responder Ua d f dlc true true ih ip e is = inr (ap (λ (x : Bool). x && f.pf) ih ∙ ip)
passed_far Initiator Dm d f dlc true true ih ip e is = inl is
passed_far Responder Dm d f dlc true true ih ip e is = inl is
passed_far role Disc d f Idle true true ih ip e is = inl is
passed_far Initiator Disc d f Asked true true ih ip e is = let never : true ≡ false = e in cc
passed_far Responder Disc d f Asked true true ih ip e is = inl is
passed_far role Disc d f Open true true ih ip e is = inl refl
passed_far role Disc d f Ended true true ih ip e is = inl refl
passed_far Initiator Uih d f dlc true true ih ip e is = inl is
passed_far Responder Uih d f dlc true true ih ip e is = inl is

-- what may be sent: SABM and DISC with P, UA for the user channel where it was asked for
abbrev Fits : ℕ → ℕ → MuxKind → PlainFrame → Type 0
Fits k d Sabm f = f.pf ≡ true
Fits k d Ua f = (f.dlci == d) ≡ true → 1 ≤ k
Fits k d Dm f = Unit {0}
Fits k d Disc f = Unit {0}
Fits k d Uih f = Unit {0}

agreed_far : (dlc : Dlc) → 1 ≤ rank dlc → is_far (agreed dlc) ≡ true
agreed_far Idle some = absurd (omega (arith, some))
agreed_far Asked some = refl
agreed_far Open some = refl
agreed_far Ended some = refl

three_parts : (role : Role) (a b : Bool) → (is_responder role && (a && b)) ≡ true → (role ≡ Responder) × (a ≡ true) × (b ≡ true)
three_parts Initiator a b is = let never : false ≡ true = is in cc
three_parts Responder a b is = let two = both_true a b is in (refl, two.0, two.1)

passed_opened : (role : Role) (kind : MuxKind) (d : ℕ) (f : PlainFrame) (dlc : Dlc) → Fits (rank dlc) d kind f → opens_in role d kind f ≡ true → is_far (cond (f.dlci == d) (passed_on role kind f.pf dlc) dlc) ≡ true
passed_opened role Sabm d f dlc fits is = let never : false ≡ true = is in cc
passed_opened role Ua d f dlc fits is =
    let parts = three_parts role (f.dlci == d) f.pf is in
    ap (λ (x : Bool). is_far (cond x (passed_on role Ua f.pf dlc) dlc)) parts.1 ∙ ap (λ (x : Bool). is_far (passed_on role Ua x dlc)) parts.2 ∙ ap (λ (r : Role). is_far (turned r Ua dlc)) parts.0 ∙ agreed_far dlc (fits parts.1)
passed_opened role Dm d f dlc fits is = let never : false ≡ true = is in cc
passed_opened role Disc d f dlc fits is = let never : false ≡ true = is in cc
passed_opened role Uih d f dlc fits is = let never : false ≡ true = is in cc

asked_not_idle : (dlc : Dlc) → asked dlc ≡ Idle → ⊥
asked_not_idle Idle is = cc
asked_not_idle Asked is = cc
asked_not_idle Open is = cc
asked_not_idle Ended is = cc

passed_asked : (role : Role) (kind : MuxKind) (d : ℕ) (f : PlainFrame) (dlc : Dlc) → Fits (rank dlc) d kind f → role ≡ Initiator → asks_in d kind f ≡ true → cond (f.dlci == d) (passed_on role kind f.pf dlc) dlc ≡ Idle → ⊥
passed_asked role Sabm d f dlc fits r is idle =
    asked_not_idle dlc (sym (ap (λ (x : Bool). cond x (passed_on role Sabm f.pf dlc) dlc) is ∙ ap (λ (x : Bool). passed_on role Sabm x dlc) fits ∙ ap (λ (x : Role). turned x Sabm dlc) r) ∙ idle)
passed_asked role Ua d f dlc fits r is idle = let never : false ≡ true = is in cc
passed_asked role Dm d f dlc fits r is idle = let never : false ≡ true = is in cc
passed_asked role Disc d f dlc fits r is idle = let never : false ≡ true = is in cc
passed_asked role Uih d f dlc fits r is idle = let never : false ≡ true = is in cc

-- ---- a frame that is said, and what is otherwise changed by it

record Leaves (terms : Bool) (d : ℕ) (m : Mux) (f : PlainFrame) (x : Mux) : Type 0 where
  pub role : x.role ≡ m.role
  pub dlci : x.dlci ≡ d
  pub own : x.own ≡ m.own
  pub cap : x.account.cap ≡ m.account.cap
  pub agreed_is : x.agreed ≡ m.agreed
  pub closed_is : x.closed ≡ m.closed
  pub control_is : x.control ≡ m.control
  pub user_is : x.user ≡ m.user
  pub held : m.account.held ≡ cost_of f + x.account.held
  pub owed : (bonus_of d f + (bonuses_of d x.answers + own_credits x)) + m.account.peer ≤ (bonuses_of d m.answers + own_credits m) + x.account.peer
  pub more : m.account.peer ≤ x.account.peer
  pub within : m.account.peer ≤ 40 → m.account.cap ≤ 40 → x.account.peer ≤ 40
  pub waits : AllWait m.agreed (rank m.user) d x.answers
  pub asks : SoundAsks terms x.asks
  pub sound : SoundIn m.agreed terms d f.kind f
  pub fits : Fits (rank m.user) d f.kind f
  pub flow : ((flow_of d f ≡ []) × (x.waiting ≡ m.waiting)) ⊎ ((may_pass m ≡ true) × (m.waiting ≡ flow_of d f ++ x.waiting))

tells : (terms : Bool) (d : ℕ) (m : Mux) (f : PlainFrame) (x : Mux) → m.dlci ≡ d → Leaves terms d m f x → Tells terms d m f (passes f.dlci f.kind f.pf x)
tells terms d m f x on l =
    let here : Bool = f.dlci == x.dlci in
    let is_here : (f.dlci == x.dlci) ≡ (f.dlci == d) = ap (λ (n : ℕ). f.dlci == n) l.dlci in
    let user : cond (f.dlci == x.dlci) (passed_on x.role f.kind f.pf x.user) x.user ≡ cond (f.dlci == d) (passed_on m.role f.kind f.pf m.user) m.user =
    ap (λ (b : Bool). cond b (passed_on x.role f.kind f.pf x.user) x.user) is_here ∙ ap (λ (r : Role). cond (f.dlci == d) (passed_on r f.kind f.pf x.user) x.user) l.role ∙ ap (λ (u : Dlc). cond (f.dlci == d) (passed_on m.role f.kind f.pf u) u) l.user_is in
    let rises : rank m.user ≤ rank (cond (f.dlci == x.dlci) (passed_on x.role f.kind f.pf x.user) x.user) = subst (λ (u : Dlc). rank m.user ≤ rank u) (sym user) (passed_rises m.role f.kind (f.dlci == d) f.pf m.user) in
    record {
      role = l.role;
      dlci = l.dlci ∙ sym on;
      own = l.own;
      cap = l.cap;
      agreed_is = l.agreed_is;
      closed_is = l.closed_is;
      held = l.held;
      owed = l.owed;
      more = l.more;
      within = l.within;
      over = λ o. over_more (is_some x.closed) (is_ended x.user) (is_ended x.control) (is_ended (cond (f.dlci == x.dlci) (passed_on x.role f.kind f.pf x.user) x.user)) (is_ended (cond (f.dlci == 0) (passed_on x.role f.kind f.pf x.control) x.control))
          (passed_ended x.role f.kind (f.dlci == x.dlci) f.pf x.user) (passed_ended x.role f.kind (f.dlci == 0) f.pf x.control)
          (ap (λ (c : Option _). is_some c || (is_ended x.user || is_ended x.control)) l.closed_is ∙ ap (λ (u : Dlc). is_some m.closed || (is_ended u || is_ended x.control)) l.user_is ∙ ap (λ (u : Dlc). is_some m.closed || (is_ended m.user || is_ended u)) l.control_is ∙ o);
      rises = rises;
      waits = all_later m.agreed x.agreed (rank m.user) (rank (cond (f.dlci == x.dlci) (passed_on x.role f.kind f.pf x.user) x.user)) d x.answers (λ a. l.agreed_is ∙ a) rises l.waits;
      asks = l.asks;
      sound = l.sound;
      idle = λ r u. user ∙ passed_idle m.role f.kind (f.dlci == d) f.pf m.user r u;
      asked_is = λ r a u. passed_asked m.role f.kind d f m.user l.fits r a (sym user ∙ u);
      far = λ o is.
          passed_far m.role f.kind d f m.user (f.dlci == d) f.pf refl refl
          (ap is_ended (sym user) ∙ none_of (is_some x.closed) (is_ended (cond (f.dlci == x.dlci) (passed_on x.role f.kind f.pf x.user) x.user)) (is_ended (cond (f.dlci == 0) (passed_on x.role f.kind f.pf x.control) x.control)) o)
          (ap is_far (sym user) ∙ is);
      opened = λ o. ap is_far user ∙ passed_opened m.role f.kind d f m.user l.fits o;
      flow = l.flow;
    }

-- ---- answers

on_control : (d : ℕ) (f : PlainFrame) → f.dlci ≡ 0 → (f.dlci == 0) ≡ true
on_control d f is = eq-eqb f.dlci 0 is

-- an answer carries nothing and costs nothing
answer_free : (terms : Bool) (k d : ℕ) (kind : MuxKind) (f : PlainFrame) → f.kind ≡ kind → WaitsIn terms k d kind f → (cost_of f ≡ 0) × (flow_of d f ≡ [])
answer_free terms k d Sabm f is w = absurd w
answer_free terms k d Ua f is w = (ap (λ (x : MuxKind). cost_in x f) is, ap (λ (x : MuxKind). flow_in d x f) is)
answer_free terms k d Dm f is w = (ap (λ (x : MuxKind). cost_in x f) is, ap (λ (x : MuxKind). flow_in d x f) is)
answer_free terms k d Disc f is w = absurd w
answer_free terms k d Uih f is w =
    let zero_is = on_control d f w.0 in
    (ap (λ (x : MuxKind). cost_in x f) is ∙ ap (λ (b : Bool). cond_cost b (is_empty f.octets)) zero_is, ap (λ (x : MuxKind). flow_in d x f) is ∙ ap (λ (b : Bool). cond (not b && (f.dlci == d)) f.octets []) zero_is)

answer_sound : (own terms : Bool) (k d : ℕ) (kind : MuxKind) (f : PlainFrame) → WaitsIn own k d kind f → SoundIn own terms d kind f × Fits k d kind f
answer_sound own terms k d Sabm f w = absurd w
answer_sound own terms k d Ua f w = (tt, w)
answer_sound own terms k d Dm f w = (tt, tt)
answer_sound own terms k d Disc f w = absurd w
answer_sound own terms k d Uih f w = ((λ here. w.1), tt)

answer_leaves : (terms : Bool) (d : ℕ) (m : Mux) (f : PlainFrame) (rest : List PlainFrame) → m.answers ≡ f ∷ rest → m.dlci ≡ d → AllWait m.agreed (rank m.user) d m.answers → SoundAsks terms m.asks → Leaves terms d m f (record m { answers = rest })
answer_leaves terms d m f rest is on all asks =
    let waits : AllWait m.agreed (rank m.user) d (f ∷ rest) = subst (AllWait m.agreed (rank m.user) d) is all in
    let free = answer_free m.agreed (rank m.user) d f.kind f refl waits.0 in
    let sound = answer_sound m.agreed terms (rank m.user) d f.kind f waits.0 in
    let before = ap (bonuses_of d) is in
    record {
      role = refl;
      dlci = on;
      own = refl;
      cap = refl;
      agreed_is = refl;
      closed_is = refl;
      control_is = refl;
      user_is = refl;
      held = let none = free.0 in omega (arith, none);
      owed = omega (arith, before);
      more = omega arith;
      within = λ few most. few;
      waits = waits.1;
      asks = asks;
      sound = sound.0;
      fits = sound.1;
      flow = inl (free.1, refl);
    }

-- ---- own commands

-- a command that carries and costs nothing
command_leaves : (terms : Bool) (d : ℕ) (m x : Mux) (f : PlainFrame) → x ≡ record m { asks = x.asks; stated = x.stated } → m.dlci ≡ d → AllWait m.agreed (rank m.user) d m.answers → SoundAsks terms x.asks
    → cost_of f ≡ 0 → flow_of d f ≡ [] → bonus_of d f + own_credits x ≤ own_credits m → SoundIn m.agreed terms d f.kind f → Fits (rank m.user) d f.kind f → Leaves terms d m f x
command_leaves terms d m x f is on all asks no_cost no_flow owed sound fits =
    let answers = ap (λ (y : Mux). bonuses_of d y.answers) is in
    let held = ap (λ (y : Mux). y.account.held) is in
    let peer = ap (λ (y : Mux). y.account.peer) is in
    record {
      role = ap (λ (y : Mux). y.role) is;
      dlci = ap (λ (y : Mux). y.dlci) is ∙ on;
      own = ap (λ (y : Mux). y.own) is;
      cap = ap (λ (y : Mux). y.account.cap) is;
      agreed_is = ap (λ (y : Mux). y.agreed) is;
      closed_is = ap (λ (y : Mux). y.closed) is;
      control_is = ap (λ (y : Mux). y.control) is;
      user_is = ap (λ (y : Mux). y.user) is;
      held = omega (arith, no_cost, held);
      owed = omega (arith, owed, answers, peer);
      more = omega (arith, peer);
      within = λ few most. omega (arith, peer, few);
      waits = subst (AllWait m.agreed (rank m.user) d) (sym (ap (λ (y : Mux). y.answers) is)) all;
      asks = asks;
      sound = sound;
      fits = fits;
      flow = inl (no_flow, ap (λ (y : Mux). y.waiting) is);
    }

not_here : (d : ℕ) → 0 < d → (0 == d) ≡ true → ⊥
not_here d some is = let zero_is = eqb-true 0 d is in omega arith

commanded_leaves : (terms : Bool) (d : ℕ) (command : Command) (m : Mux) → Fit d m → m.asks ≡ Due command → AllWait m.agreed (rank m.user) d m.answers → SoundAsks terms m.asks → Leaves terms d m (frame_of_command command m) (commanded command m)
commanded_leaves terms d OpenControl m fit is all asks =
    command_leaves terms d m (commanded OpenControl m) (frame_of_command OpenControl m) refl fit.dlci all tt refl refl (omega arith) (λ here. absurd (not_here d fit.some here)) refl
commanded_leaves terms d Agree m fit is all asks =
    let control : PlainControl = pn true m.dlci 0xF0 0 0 m.own 0 (own_credits m) in
    let read : messages (written control) ≡ Ok control ∷ [] = pn_read true m.dlci 0xF0 0 0 m.own 0 (own_credits m) fit.most in
    let brings : stated_sum d (messages (written control)) ≡ stated_by d (Ok control) + 0 = ap (stated_sum d) read in
    let few = stated_few (m.dlci % 64 == d) in
    command_leaves terms d m (commanded Agree m) (frame_of_command Agree m) refl fit.dlci all tt refl refl (omega (arith, brings, few))
    (λ here. subst (SoundMessages m.agreed d) (sym read) (((fit.least, λ same. refl), whoever m.agreed), tt)) tt
  where
    stated_few : (t : Bool) → cond t (own_credits m % 8) 0 ≤ own_credits m
    stated_few true = omega arith
    stated_few false = omega arith
commanded_leaves terms d OpenUser m fit is all asks =
    let sound : SoundAsks terms (Due OpenUser) = subst (SoundAsks terms) is asks in
    command_leaves terms d m (commanded OpenUser m) (frame_of_command OpenUser m) refl fit.dlci all tt refl refl (omega arith) (λ here. sound) refl
commanded_leaves terms d Signal m fit is all asks =
    let control : PlainControl = msc true (4 * m.dlci + 3) 0x8D in
    let read : messages (written control) ≡ Ok control ∷ [] = msc_read true (4 * m.dlci + 3) 0x8D in
    let brings : stated_sum d (messages (written control)) ≡ 0 = ap (stated_sum d) read in
    command_leaves terms d m (commanded Signal m) (frame_of_command Signal m) refl fit.dlci all tt refl refl (omega (arith, brings)) (λ here. subst (SoundMessages m.agreed d) (sym read) ((tt, whoever m.agreed), tt)) tt
commanded_leaves terms d LeaveUser m fit is all asks = command_leaves terms d m (commanded LeaveUser m) (frame_of_command LeaveUser m) refl fit.dlci all tt refl refl (omega arith) tt tt
commanded_leaves terms d LeaveControl m fit is all asks = command_leaves terms d m (commanded LeaveControl m) (frame_of_command LeaveControl m) refl fit.dlci all tt refl refl (omega arith) tt tt

-- ---- grants and data

not_zero : (d : ℕ) (m : Mux) → Fit d m → (m.dlci == 0) ≡ false
not_zero d m fit = let same = fit.dlci in let some = fit.some in ne_eqb m.dlci 0 (λ e. omega (arith, same, some, e))

grant_leaves : (terms : Bool) (d : ℕ) (m : Mux) → Fit d m → AllWait m.agreed (rank m.user) d m.answers → SoundAsks terms m.asks
    → Leaves terms d m (grant_frame m.role m.dlci (grant_of m.account)) (record m { account = record { cap = m.account.cap; held = m.account.held; peer = m.account.peer + grant_of m.account } })
grant_leaves terms d m fit all asks =
    let n : ℕ = grant_of m.account in
    let brings : cond (m.dlci == 0) (stated_sum d (messages [])) n ≡ n = ap (λ (b : Bool). cond b (stated_sum d (messages [])) n) (not_zero d m fit) in
    let costs : cond_cost (m.dlci == 0) true ≡ 0 = cond_same (m.dlci == 0) 0 in
    record {
      role = refl;
      dlci = fit.dlci;
      own = refl;
      cap = refl;
      agreed_is = refl;
      closed_is = refl;
      control_is = refl;
      user_is = refl;
      held = omega (arith, costs);
      owed = omega (arith, brings);
      more = omega arith;
      within = λ few most. grant_if m.account.cap m.account.peer (nat_le (2 * m.account.peer) m.account.cap) refl few most;
      waits = all;
      asks = asks;
      sound = λ here. absurd (let never : true ≡ false = sym here ∙ not_zero d m fit in cc);
      fits = tt;
      flow = inl (cond_same (not (m.dlci == 0) && (m.dlci == d)) [], refl);
    }

data_leaves : (terms : Bool) (d : ℕ) (m : Mux) → Fit d m → AllWait m.agreed (rank m.user) d m.answers → SoundAsks terms m.asks → (is_ready m && (not (is_empty m.waiting) && nat_lt 0 m.account.held)) ≡ true
    → Leaves terms d m (data_frame m.role m.dlci m.waiting) (record m { waiting = []; account = record { cap = m.account.cap; held = m.account.held - 1; peer = m.account.peer } })
data_leaves terms d m fit all asks t =
    let first = both_true (is_ready m) (not (is_empty m.waiting) && nat_lt 0 m.account.held) t in
    let second = both_true (not (is_empty m.waiting)) (nat_lt 0 m.account.held) first.1 in
    let pass = both_true (is_both m.ready) (may_pass m) first.0 in
    let some : 0 < m.account.held = ltb-true 0 m.account.held second.1 in
    let off = not_zero d m fit in
    let brings : cond (m.dlci == 0) (stated_sum d (messages m.waiting)) 0 ≡ 0 = ap (λ (b : Bool). cond b (stated_sum d (messages m.waiting)) 0) off in
    let costs : cond_cost (m.dlci == 0) (is_empty m.waiting) ≡ 1 = ap (λ (b : Bool). cond_cost b (is_empty m.waiting)) off ∙ full_costs (is_empty m.waiting) second.0 in
    record {
      role = refl;
      dlci = fit.dlci;
      own = refl;
      cap = refl;
      agreed_is = refl;
      closed_is = refl;
      control_is = refl;
      user_is = refl;
      held = omega (arith, costs, some);
      owed = omega (arith, brings);
      more = omega arith;
      within = λ few most. few;
      waits = all;
      asks = asks;
      sound = λ here. absurd (let never : true ≡ false = sym here ∙ off in cc);
      fits = tt;
      flow = inr (
        pass.1,
        sym (append-nil _
            ∙ ap (λ (b : Bool). cond (not b && (m.dlci == d)) m.waiting []) off ∙ ap (λ (b : Bool). cond b m.waiting []) (eq-eqb m.dlci d fit.dlci)),
      );
    }
  where
    full_costs : (b : Bool) → not b ≡ true → cond_cost false b ≡ 1
    full_costs true is = let never : false ≡ true = is in cc
    full_costs false is = refl

-- ---- what is said next

abbrev pub SaysWell : Bool → ℕ → Mux → Option Said → Type 0
SaysWell terms d m None = Unit {0}
SaysWell terms d m (Some said) = Tells terms d m said.frame said.after

if_well : (terms : Bool) (d : ℕ) (m : Mux) (b : Bool) (said : Said) → (b ≡ true → SaysWell terms d m (Some said)) → SaysWell terms d m (cond b (Some said) None)
if_well terms d m true said s = s refl
if_well terms d m false said s = tt

first_well : (terms : Bool) (d : ℕ) (m : Mux) (x y : Option Said) → SaysWell terms d m x → SaysWell terms d m y → SaysWell terms d m (first_of x y)
first_well terms d m None y p q = q
first_well terms d m (Some said) y p q = p

free_well : (terms : Bool) (d : ℕ) (m : Mux) → Fit d m → AllWait m.agreed (rank m.user) d m.answers → SoundAsks terms m.asks → SaysWell terms d m (first_of (says_grant m) (says_data m))
free_well terms d m fit all asks =
    first_well terms d m (says_grant m) (says_data m) (if_well terms d m (may_pass m && nat_lt 0 (grant_of m.account)) _ (λ t. tells terms d m (grant_frame m.role m.dlci (grant_of m.account)) _ fit.dlci (grant_leaves terms d m fit all asks)))
    (if_well terms d m (is_ready m && (not (is_empty m.waiting) && nat_lt 0 m.account.held)) _ (λ t. tells terms d m (data_frame m.role m.dlci m.waiting) _ fit.dlci (data_leaves terms d m fit all asks t)))

command_well : (terms : Bool) (d : ℕ) (asks : Asks) (m : Mux) → m.asks ≡ asks → Fit d m → AllWait m.agreed (rank m.user) d m.answers → SoundAsks terms m.asks → SaysWell terms d m (says_command asks m)
command_well terms d Nothing m is fit all sound = free_well terms d m fit all sound
command_well terms d (Due command) m is fit all sound = tells terms d m (frame_of_command command m) (commanded command m) fit.dlci (commanded_leaves terms d command m fit is all sound)
command_well terms d (Awaited command) m is fit all sound = free_well terms d m fit all sound

answers_well : (terms : Bool) (d : ℕ) (answers : List PlainFrame) (m : Mux) → m.answers ≡ answers → Fit d m → AllWait m.agreed (rank m.user) d m.answers → SoundAsks terms m.asks → SaysWell terms d m (says_answer answers m)
answers_well terms d [] m is fit all sound = command_well terms d m.asks m refl fit all sound
answers_well terms d (f ∷ rest) m is fit all sound = tells terms d m f (record m { answers = rest }) fit.dlci (answer_leaves terms d m f rest is fit.dlci all sound)

pub says_well : (terms : Bool) (d : ℕ) (m : Mux) → Fit d m → AllWait m.agreed (rank m.user) d m.answers → SoundAsks terms m.asks → SaysWell terms d m (next m)
says_well terms d m fit all sound = answers_well terms d m.answers m refl fit all sound
