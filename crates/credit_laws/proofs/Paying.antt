-- A side pays for what it sends with what the frames grant it, whatever comes.
use Rattle.std.proofs.Common.{arith, ◌≡◌, ◌≤◌, ◌<◌, ◌⊎◌, inl, inr, ℕ, ◌==◌, ◌+◌, ◌-◌, Bool, true, false, ◌&&◌, ◌||◌, cond, List, [], ◌∷◌, ◌++◌, Option, Some, None, Ok, Err, refl, sym, ap, subst, ◌∙◌, append-nil, append_assoc}
use Rattle.std.specs.Prelude.{not, nat_lt, is_none, pos, ◌-ℤ◌, take, length}
use Rattle.std.specs.List.{cons_option}
use Rattle.std.proofs.Math.IntN.{pos-+ℤ-pos, +ℤ-neg_ℤ_cancel}
use Rattle.std.proofs.lemmas.List.Elements.{filter_map-append}
use Rattle.inbox_laws.specs.rfcomm_frames.specs.declared.frame.MuxKind.{MuxKind}
use Rattle.inbox_laws.specs.rfcomm_frames.specs.declared.frame.MuxKind.TheVariants.{Sabm, Ua, Dm, Disc, Uih}
use Rattle.inbox_laws.specs.rfcomm_frames.specs.declared.connection.Role.{Role}
use Rattle.inbox_laws.specs.rfcomm_frames.specs.declared.connection.Dlc.{Dlc}
use Rattle.inbox_laws.specs.rfcomm_frames.specs.declared.connection.Dlc.TheVariants.{Ended}
use Rattle.inbox_laws.specs.rfcomm_frames.specs.Answers.{Answer}
use Rattle.inbox_laws.specs.rfcomm_frames.specs.Frames.{PlainFrame}
use Rattle.inbox_laws.specs.rfcomm_frames.specs.FrameReading.{frame_answer, is_empty}
use Rattle.inbox_laws.specs.rfcomm_frames.specs.Connections.{other_role, is_left}
use Rattle.inbox_laws.specs.rfcomm_frames.specs.Ending.{is_closed_by, Course, no_course, course_after, is_last, has_last, to_closing}
use Rattle.inbox_laws.specs.rfcomm_frames.specs.Multiplexing.{Passed, Framed, framed, frames, Connections, no_connections, connections_after, granted_by, granted, spent, spent_by}
use Rattle.inbox_laws.specs.rfcomm_frames.specs.UserChannel.{live_frames}
use Rattle.inbox_laws.specs.rfcomm_frames.proofs.FrameReading.{spelled_answered}
use Rattle.inbox_laws.specs.rfcomm_model.specs.declared.state.MuxReason.{MuxReason}
use Rattle.inbox_laws.specs.rfcomm_model.specs.declared.state.MuxReason.TheVariants as reasons
use Rattle.inbox_laws.specs.rfcomm_model.specs.declared.state.Command.TheVariants.{OpenControl, Agree, OpenUser, Signal, LeaveUser, LeaveControl}
use Rattle.inbox_laws.specs.rfcomm_model.specs.declared.state.Asks.{Asks}
use Rattle.inbox_laws.specs.rfcomm_model.specs.declared.state.Asks.TheVariants.{Nothing, Due, Awaited}
use Rattle.inbox_laws.specs.rfcomm_model.specs.Captured.{sdu_from, Goes, Passes, AllPass}
use Rattle.inbox_laws.specs.rfcomm_model.specs.Machine.{Mux, new_mux, may_pass, is_leaving, taken_count, sends, leaves, closes}
use Rattle.inbox_laws.specs.rfcomm_model.specs.Hearing.{has_room, answering, says_dm, ends, hears_disc, if_stands, hears_settled, hears_frame, hears_answer, hears}
use Rattle.inbox_laws.specs.rfcomm_model.specs.Saying.{Said, says_grant, says_data, first_of, says_command, says_answer, next}
use Rattle.inbox_laws.specs.rfcomm_model.specs.Sides.{Deed, Hears, Says, Sends, Leaves, Side, said_by, done, all_done, new_side, given, connections_of}
use Rattle.inbox_laws.specs.rfcomm_model.specs.Written.{response_frame}
use Rattle.inbox_laws.specs.rfcomm_model.proofs.Closing.{keep_cond, done_shut, closed-for_good}
use Rattle.inbox_laws.specs.rfcomm_model.proofs.Ended.{to_all, to_more, to_over}
use Rattle.inbox_laws.specs.rfcomm_model.proofs.Giving.{Gives, SaysGives, next_gives}
use Rattle.inbox_laws.specs.rfcomm_model.proofs.Keeping.{hears_keeps, answers_keep, SaysKept}
use Rattle.inbox_laws.specs.rfcomm_model.proofs.Reading.{lines_more, granted_more, spent_more, own_grants, peer_spends, not_other}
use Rattle.inbox_laws.specs.rfcomm_model.proofs.Stepping.{AllQuiet, IsReply, all_more, turning}
use Rattle.inbox_laws.specs.rfcomm_model.proofs.Talking.{same_role}
use Rattle.inbox_laws.specs.rfcomm_model.proofs.Walking.{answer_walks}
use Rattle.credit_laws.specs.Covered.{IsCovered, GrantsCoverSpending}
use Rattle.credit_laws.proofs.Granting.{is_idle, agrees, IsAwaited, AllAwaited}
use Rattle.credit_laws.proofs.Affording.{Near, own_near, all_awaited, less_idle, IsNear, After}
use Rattle.credit_laws.proofs.Owing.{kind_after}

-- ---- the frames, one by one

abbrev pub course_of : ℕ → Role → Course → List Framed → Course
course_of d role c [] = c
course_of d role c (f ∷ fs) = course_of d role (course_after d role c f) fs

lines_are : (d : ℕ) (role : Role) (c : Course) (fs : List Framed) → (course_of d role c fs).lines ≡ connections_of d c.lines fs
lines_are d role c [] = refl
lines_are d role c (f ∷ fs) = lines_are d role (course_after d role c f) fs

or_first : (a x : Bool) → (a || x) ≡ false → a ≡ false
or_first true x is = is
or_first false x is = refl

or_second : (a x : Bool) → (a || x) ≡ false → x ≡ false
or_second true x is = let never : true ≡ false = is in cc
or_second false x is = is

or_more : (a x y : Bool) → (a || x) ≡ true → (x ≡ true → y ≡ true) → (a || y) ≡ true
or_more true x y is more = refl
or_more false x y is more = more is

or_none : (x b : Bool) → x ≡ b → (x || false) ≡ b
or_none true b is = is
or_none false b is = is

pub last_more : (d : ℕ) (role : Role) (c : Course) (fs : List Framed) (f : Framed) (b : Bool) → has_last d role c fs ≡ false → is_last d role (course_of d role c fs) f ≡ b → has_last d role c (fs ++ f ∷ []) ≡ b
last_more d role c [] f b none is = or_none (is_last d role c f) b is
last_more d role c (g ∷ fs) f b none is =
    ap (λ (x : Bool). x || has_last d role (course_after d role c g) (fs ++ f ∷ [])) (or_first (is_last d role c g) (has_last d role (course_after d role c g) fs) none)
    ∙ last_more d role (course_after d role c g) fs f b (or_second (is_last d role c g) (has_last d role (course_after d role c g) fs) none) is

over_more : (d : ℕ) (role : Role) (c : Course) (fs more : List Framed) → has_last d role c fs ≡ true → has_last d role c (fs ++ more) ≡ true
over_more d role c [] more over = let never : false ≡ true = over in cc
over_more d role c (g ∷ fs) more over = or_more (is_last d role c g) (has_last d role (course_after d role c g) fs) (has_last d role (course_after d role c g) (fs ++ more)) over (over_more d role (course_after d role c g) fs more)

own_not_last : (d : ℕ) (role : Role) (c : Course) (f : PlainFrame) → is_last d role c (record { from = role; frame = f }) ≡ false
own_not_last d role c f = ap (λ (b : Bool). not b && is_closed_by d role c.lines c.closing f.kind f.dlci f.pf) (same_role role)

peer_last : (d : ℕ) (role : Role) (c : Course) (f : PlainFrame) → is_last d role c (record { from = other_role role; frame = f }) ≡ is_closed_by d (other_role role) c.lines c.closing f.kind f.dlci f.pf
peer_last d role c f = ap (λ (b : Bool). not b && is_closed_by d (other_role role) c.lines c.closing f.kind f.dlci f.pf) (not_other role)

-- ---- what is paid

-- the frames that count grant the side at least what it spent
abbrev pub Paid : ℕ → Role → List Framed → Type 0
Paid d role fs = spent d role (to_closing d role no_course fs) ≤ granted d role no_connections (to_closing d role no_course fs)

-- so it is with one more that costs nothing
pub free_more : (d : ℕ) (role : Role) (fs : List Framed) (f : Framed) → spent_by d role f ≡ 0 → Paid d role fs → Paid d role (fs ++ f ∷ [])
free_more d role fs f none paid = by (has_last d role no_course fs) refl
  where
    by : (b : Bool) → has_last d role no_course fs ≡ b → Paid d role (fs ++ f ∷ [])
    by true over = subst (λ (xs : List Framed). spent d role xs ≤ granted d role no_connections xs) (sym (to_over d role no_course fs (f ∷ []) over)) paid
    by false open_still =
        let before : spent d role fs ≤ granted d role no_connections fs = subst (λ (xs : List Framed). spent d role xs ≤ granted d role no_connections xs) (to_all d role no_course fs open_still) paid in
        let spends = spent_more d role fs f in
        let grants = granted_more d role no_connections fs f in
        subst (λ (xs : List Framed). spent d role xs ≤ granted d role no_connections xs) (sym (to_more d role no_course fs f open_still)) (omega (arith, before, spends, grants, none))

-- what comes does
pub heard_more : (d : ℕ) (role : Role) (fs : List Framed) (a : Answer) → Paid d role fs → Paid d role (fs ++ cons_option (framed (other_role role) a) [])
heard_more d role fs (Ok f) paid = free_more d role fs (record { from = other_role role; frame = f }) (peer_spends d role f) paid
heard_more d role fs (Err refusal) paid = subst (Paid d role) (sym (append-nil fs)) paid

-- no frame closed it, and it owes nothing; or one did, and it owed nothing then
pub record Owes (d : ℕ) (role : Role) (m : Mux) (fs : List Framed) : Type 0 where
  pub open_still : has_last d role no_course fs ≡ false
  pub held_is : spent d role fs + m.account.held ≤ granted d role no_connections fs
  pub near : m.closed ≡ None → IsNear role d (connections_of d no_connections fs) m

pub record Over (d : ℕ) (role : Role) (fs : List Framed) : Type 0 where
  pub over : has_last d role no_course fs ≡ true
  pub paid : Paid d role fs

pub record Pays (d : ℕ) (role : Role) (m : Mux) (fs : List Framed) : Type 0 where
  pub role_is : m.role ≡ role
  pub dlci_is : m.dlci ≡ d
  pub quiet : AllQuiet d m.answers
  pub state : Owes d role m fs ⊎ Over d role fs

pub over_stays : (d : ℕ) (role : Role) (fs more : List Framed) → Over d role fs → Over d role (fs ++ more)
over_stays d role fs more o =
    let same = to_over d role no_course fs more o.over in
    record { over = over_more d role no_course fs more o.over; paid = subst (λ (live : List Framed). spent d role live ≤ granted d role no_connections live) (sym same) o.paid }

-- ---- a frame is heard

never : {A : Type 0} → (reason : MuxReason) → Some reason ≡ None → A
never reason is = cc

module _ (held : ℕ) where
  abbrev AtMost : Mux → Type 0
  AtMost m = m.account.held ≤ held

  dm_held : (n : ℕ) (m : Mux) → AtMost m → AtMost (says_dm n m)
  dm_held n m h = keep_cond AtMost (has_room m) (answering (response_frame m.role Dm n) m) m h h

  ends_held : (closed : Option MuxReason) (m : Mux) → AtMost m → AtMost (ends closed m)
  ends_held None m h = h
  ends_held (Some reason) m h = h

  disc_held : (n : ℕ) (m : Mux) → AtMost m → AtMost (hears_disc n m)
  disc_held n m h =
      let first : Mux = answering (response_frame m.role Ua 0) (ends m.closed (record m { control = Ended })) in
      let second : Mux = answering (response_frame m.role Ua m.dlci) (ends m.closed (record m { user = Ended })) in
      keep_cond AtMost ((n == 0) && is_left (other_role m.role) m.control) (cond (has_room m) first m) (cond ((n == m.dlci) && is_left (other_role m.role) m.user) (cond (has_room m) second m) (says_dm n m))
      (keep_cond AtMost (has_room m) first m (ends_held m.closed (record m { control = Ended }) h) h)
      (keep_cond AtMost ((n == m.dlci) && is_left (other_role m.role) m.user) (cond (has_room m) second m) (says_dm n m)
      (keep_cond AtMost (has_room m) second m (ends_held m.closed (record m { user = Ended }) h) h) (dm_held n m h))

  settled_held : (kind : MuxKind) (frame : PlainFrame) (m : Mux) → AtMost m → AtMost (hears_settled kind frame m)
  settled_held Sabm frame m h = keep_cond AtMost frame.pf (says_dm frame.dlci m) m (dm_held frame.dlci m h) h
  settled_held Ua frame m h = h
  settled_held Dm frame m h = h
  settled_held Disc frame m h = keep_cond AtMost frame.pf (hears_disc frame.dlci m) m (disc_held frame.dlci m h) h
  settled_held Uih frame m h = h

  closed_held : (reason : MuxReason) (frame : PlainFrame) (m : Mux) → AtMost m → AtMost (hears_frame (Some reason) frame m)
  closed_held reasons.Dm frame m h = settled_held frame.kind frame m h
  closed_held reasons.Disc frame m h = settled_held frame.kind frame m h
  closed_held reasons.NoCreditFlow frame m h = h
  closed_held reasons.Overdrawn frame m h = h
  closed_held reasons.BadFrame frame m h = h
  closed_held reasons.CreditOverflow frame m h = h

-- an SDU that is heard leaves a closed multiplexer closed
stays_closed : (sdu : List ℕ) (a : Answer) (m : Mux) (reason : MuxReason) → frame_answer sdu ≡ a → m.closed ≡ Some reason → (hears_answer a m).closed ≡ Some reason
stays_closed sdu a m reason reads is = ap (λ (x : Answer). (hears_answer x m).closed) (sym reads) ∙ (closed-for_good m reason is).stays (Hears sdu) [] []

abbrev peer_frame : Mux → PlainFrame → Framed
peer_frame m f = record { from = other_role m.role; frame = f }

-- what it is behind a frame that does not close it by the frames
heard_owes : (sdu : List ℕ) (m : Mux) (f : PlainFrame) (fs : List Framed) → frame_answer sdu ≡ Ok f → 0 < m.dlci → is_last m.dlci m.role (course_of m.dlci m.role no_course fs) (peer_frame m f) ≡ false → Owes m.dlci m.role m fs
    → Owes m.dlci m.role (hears_answer (Ok f) m) (fs ++ peer_frame m f ∷ [])
heard_owes sdu m f fs reads some last o = by m.closed refl
  where
    d : ℕ
    d = m.dlci

    by : (closed : Option MuxReason) → m.closed ≡ closed → Owes m.dlci m.role (hears_frame m.closed f m) (fs ++ peer_frame m f ∷ [])
    by (Some reason) is =
        let held : (hears_frame m.closed f m).account.held ≤ m.account.held = subst (λ (c : Option MuxReason). (hears_frame c f m).account.held ≤ m.account.held) (sym is) (closed_held m.account.held reason f m (omega arith)) in
        let before = o.held_is in
        let grants = granted_more m.dlci m.role no_connections fs (peer_frame m f) in
        let spends = spent_more m.dlci m.role fs (peer_frame m f) in
        let none = peer_spends m.dlci m.role f in
        record {
          open_still = last_more m.dlci m.role no_course fs (peer_frame m f) false o.open_still last;
          held_is = omega (arith, held, before, grants, spends, none);
          near = λ stands. never reason (sym (stays_closed sdu (Ok f) m reason reads is) ∙ stands);
        }
    by None is =
        let course : Course = course_of m.dlci m.role no_course fs in
        let c : Connections = connections_of m.dlci no_connections fs in
        let lines : course.lines ≡ c = lines_are m.dlci m.role no_course fs in
        let none_closes : is_closed_by m.dlci (other_role m.role) c course.closing f.kind f.dlci f.pf ≡ false =
        ap (λ (x : Connections). is_closed_by m.dlci (other_role m.role) x course.closing f.kind f.dlci f.pf) (sym lines) ∙ (sym (peer_last m.dlci m.role course f) ∙ last) in
        let a : After m.role m.dlci (connections_after m.dlci c (peer_frame m f)) (m.account.held + granted_by m.dlci m.role c (peer_frame m f)) (hears_frame m.closed f m) =
        subst (λ (k : Option MuxReason). After m.role m.dlci (connections_after m.dlci c (peer_frame m f)) (m.account.held + granted_by m.dlci m.role c (peer_frame m f)) (hears_frame k f m)) (sym is)
        (kind_after m f f.kind c course.closing refl some is none_closes (o.near is)) in
        let held = a.held_is in
        let before = o.held_is in
        let grants = granted_more m.dlci m.role no_connections fs (peer_frame m f) in
        let spends = spent_more m.dlci m.role fs (peer_frame m f) in
        let none = peer_spends m.dlci m.role f in
        record {
          open_still = last_more m.dlci m.role no_course fs (peer_frame m f) false o.open_still last;
          held_is = omega (arith, held, before, grants, spends, none);
          near = λ stands. subst (λ (x : Connections). IsNear m.role m.dlci x (hears_frame m.closed f m)) (sym (lines_more m.dlci no_connections fs (peer_frame m f))) (a.near stands);
        }

pub heard_over : (m : Mux) (f : PlainFrame) (fs : List Framed) → is_last m.dlci m.role (course_of m.dlci m.role no_course fs) (peer_frame m f) ≡ true → Owes m.dlci m.role m fs → Over m.dlci m.role (fs ++ peer_frame m f ∷ [])
heard_over m f fs last o =
    let live = to_more m.dlci m.role no_course fs (peer_frame m f) o.open_still in
    let before = o.held_is in
    let grants = granted_more m.dlci m.role no_connections fs (peer_frame m f) in
    let spends = spent_more m.dlci m.role fs (peer_frame m f) in
    let none = peer_spends m.dlci m.role f in
    record {
      over = last_more m.dlci m.role no_course fs (peer_frame m f) true o.open_still last;
      paid = subst (λ (xs : List Framed). spent m.dlci m.role xs ≤ granted m.dlci m.role no_connections xs) (sym live) (omega (arith, before, grants, spends, none));
    }

heard_state : (sdu : List ℕ) (m : Mux) (f : PlainFrame) (fs : List Framed) → frame_answer sdu ≡ Ok f → 0 < m.dlci → Owes m.dlci m.role m fs ⊎ Over m.dlci m.role fs
    → Owes m.dlci m.role (hears_answer (Ok f) m) (fs ++ peer_frame m f ∷ []) ⊎ Over m.dlci m.role (fs ++ peer_frame m f ∷ [])
heard_state sdu m f fs reads some (inr over) = inr (over_stays m.dlci m.role fs (peer_frame m f ∷ []) over)
heard_state sdu m f fs reads some (inl o) = by (is_last m.dlci m.role (course_of m.dlci m.role no_course fs) (peer_frame m f)) refl
  where
    by : (b : Bool) → is_last m.dlci m.role (course_of m.dlci m.role no_course fs) (peer_frame m f) ≡ b → Owes m.dlci m.role (hears_answer (Ok f) m) (fs ++ peer_frame m f ∷ []) ⊎ Over m.dlci m.role (fs ++ peer_frame m f ∷ [])
    by true last = inr (heard_over m f fs last o)
    by false last = inl (heard_owes sdu m f fs reads some last o)

refused_owes : (m : Mux) (fs : List Framed) (closed : Option MuxReason) → m.closed ≡ closed → Owes m.dlci m.role m fs → Owes m.dlci m.role (if_stands (closes reasons.BadFrame) closed m) fs
refused_owes m fs None is o = record { open_still = o.open_still; held_is = o.held_is; near = λ stands. never reasons.BadFrame stands }
refused_owes m fs (Some reason) is o = o

refused_state : (m : Mux) (fs : List Framed) → Owes m.dlci m.role m fs ⊎ Over m.dlci m.role fs → Owes m.dlci m.role (if_stands (closes reasons.BadFrame) m.closed m) fs ⊎ Over m.dlci m.role fs
refused_state m fs (inl o) = inl (refused_owes m fs m.closed refl o)
refused_state m fs (inr over) = inr over

pub quiet_heard : (d : ℕ) (a : Answer) (m : Mux) → 0 < d → AllQuiet d m.answers → AllQuiet d (hears_answer a m).answers
quiet_heard d a m some all =
    answer_walks d some (λ x. AllQuiet d x.answers) (λ reason x p. p) (λ f x reply p. all_more (IsReply d) x.answers f p reply) (λ control user asks ready held peer frame agreed stated x p. p) a m all

-- of the side's own role and channel
heard_here : (sdu : List ℕ) (a : Answer) (m : Mux) (fs : List Framed) → frame_answer sdu ≡ a → 0 < m.dlci → Pays m.dlci m.role m fs → Pays m.dlci m.role (hears_answer a m) (fs ++ cons_option (framed (other_role m.role) a) [])
heard_here sdu (Ok f) m fs reads some p =
    let kept = hears_keeps sdu m in
    record {
      role_is = ap (λ (x : Answer). (hears_answer x m).role) (sym reads) ∙ kept.0;
      dlci_is = ap (λ (x : Answer). (hears_answer x m).dlci) (sym reads) ∙ kept.1;
      quiet = quiet_heard m.dlci (Ok f) m some p.quiet;
      state = heard_state sdu m f fs reads some p.state;
    }
heard_here sdu (Err refusal) m fs reads some p =
    let kept = hears_keeps sdu m in
    record {
      role_is = ap (λ (x : Answer). (hears_answer x m).role) (sym reads) ∙ kept.0;
      dlci_is = ap (λ (x : Answer). (hears_answer x m).dlci) (sym reads) ∙ kept.1;
      quiet = quiet_heard m.dlci (Err refusal) m some p.quiet;
      state = subst (λ (xs : List Framed). Owes m.dlci m.role (hears_answer (Err refusal) m) xs ⊎ Over m.dlci m.role xs) (sym (append-nil fs)) (refused_state m fs p.state);
    }

-- an SDU comes
pub hears_pays : (d : ℕ) (role : Role) (sdu : List ℕ) (m : Mux) (fs : List Framed) → 0 < d → Pays d role m fs → Pays d role (hears sdu m) (fs ++ frames (sdu_from (other_role role) sdu ∷ []))
hears_pays d role sdu m fs some p =
    let here : Pays m.dlci m.role m fs = subst (λ (k : ℕ). Pays k m.role m fs) (sym p.dlci_is) (subst (λ (r : Role). Pays d r m fs) (sym p.role_is) p) in
    let dlci = p.dlci_is in
    let then = heard_here sdu (frame_answer sdu) m fs refl (omega (arith, some, dlci)) here in
    subst (λ (k : ℕ). Pays k role (hears sdu m) (fs ++ cons_option (framed (other_role role) (frame_answer sdu)) [])) p.dlci_is
    (subst (λ (r : Role). Pays m.dlci r (hears sdu m) (fs ++ cons_option (framed (other_role r) (frame_answer sdu)) [])) p.role_is then)

-- ---- a frame is said

abbrev own_frame : Mux → PlainFrame → Framed
own_frame m f = record { from = m.role; frame = f }

-- UA goes only for a connection that was asked for
abbrev SaysAwaited : Mux → Option Said → Type 0
SaysAwaited m None = Unit {0}
SaysAwaited m (Some said) = IsAwaited m.dlci m.control m.user said.frame × AllAwaited m.dlci m.control m.user said.after.answers

first_awaited : (m : Mux) (a b : Option Said) → SaysAwaited m a → SaysAwaited m b → SaysAwaited m (first_of a b)
first_awaited m None b p q = q
first_awaited m (Some said) b p q = p

if_awaited : (m : Mux) (b : Bool) (said : Said) → SaysAwaited m (Some said) → SaysAwaited m (cond b (Some said) None)
if_awaited m true said p = p
if_awaited m false said p = tt

free_awaited : (m : Mux) → AllAwaited m.dlci m.control m.user m.answers → SaysAwaited m (first_of (says_grant m) (says_data m))
free_awaited m all = first_awaited m (says_grant m) (says_data m) (if_awaited m _ _ (refl, all)) (if_awaited m _ _ (refl, all))

asks_awaited : (asks : Asks) (m : Mux) → AllAwaited m.dlci m.control m.user m.answers → SaysAwaited m (says_command asks m)
asks_awaited Nothing m all = free_awaited m all
asks_awaited (Awaited command) m all = free_awaited m all
asks_awaited (Due OpenControl) m all = (refl, all)
asks_awaited (Due Agree) m all = (refl, all)
asks_awaited (Due OpenUser) m all = (refl, all)
asks_awaited (Due Signal) m all = (refl, all)
asks_awaited (Due LeaveUser) m all = (refl, all)
asks_awaited (Due LeaveControl) m all = (refl, all)

says_awaited : (answers : List PlainFrame) (m : Mux) → m.answers ≡ answers → AllAwaited m.dlci m.control m.user answers → SaysAwaited m (says_answer answers m)
says_awaited [] m is all = asks_awaited m.asks m (subst (AllAwaited m.dlci m.control m.user) (sym is) all)
says_awaited (answer ∷ rest) m is all = all

first_not : (k a i b j : Bool) → (k || (not (a && i) && not (b && j))) ≡ true → (a ≡ true → i ≡ true → k ≡ true) × (b ≡ true → j ≡ true → k ≡ true)
first_not true a i b j is = (λ p q. refl, λ p q. refl)
first_not false true true b j is = let absurd' : false ≡ true = is in cc
first_not false true false true true is = let absurd' : false ≡ true = is in cc
first_not false true false true false is = (λ p q. cc, λ p q. cc)
first_not false true false false j is = (λ p q. cc, λ p q. cc)
first_not false false i true true is = let absurd' : false ≡ true = is in cc
first_not false false i true false is = (λ p q. cc, λ p q. cc)
first_not false false i false j is = (λ p q. cc, λ p q. cc)

not_agrees : (b : Bool) → not b ≡ true → b ≡ false
not_agrees true is = let absurd' : false ≡ true = is in cc
not_agrees false is = refl

-- one of the two connections behind an own frame
passing_near : (role : Role) (f : PlainFrame) (here pf : Bool) (held read : Dlc) → (here ≡ true → is_idle held ≡ true → agrees f.kind ≡ false) → Near role held read → Near role (turning role f.kind here pf held) (turning role f.kind here pf read)
passing_near role f true true held read ok near = own_near role f.kind held read (ok refl) near
passing_near role f true false held read ok near = near
passing_near role f false pf held read ok near = near

turning_idle : (role : Role) (kind : MuxKind) (here pf : Bool) (dlc : Dlc) → is_idle dlc ≡ false → is_idle (turning role kind here pf dlc) ≡ false
turning_idle role kind here true dlc is = less_idle role kind here dlc is
turning_idle role kind true false dlc is = is
turning_idle role kind false false dlc is = is

said_near : (m : Mux) (said : Said) (c : Connections) → Gives m said → SaysAwaited m (Some said) → IsNear m.role m.dlci c m → IsNear m.role m.dlci (connections_after m.dlci c (own_frame m said.frame)) said.after
said_near m said c g ok near =
    let f : PlainFrame = said.frame in
    let both = first_not (not (agrees f.kind)) (f.dlci == 0) (is_idle m.control) (f.dlci == m.dlci) (is_idle m.user) ok.0 in
    record {
      control = subst (λ (dlc : Dlc). Near m.role dlc (turning m.role f.kind (f.dlci == 0) f.pf c.control)) (sym g.control_is)
          (passing_near m.role f (f.dlci == 0) f.pf m.control c.control (λ here idle. not_agrees (agrees f.kind) (both.0 here idle)) near.control);
      user = subst (λ (dlc : Dlc). Near m.role dlc (turning m.role f.kind (f.dlci == m.dlci) f.pf c.user)) (sym g.user_is)
          (passing_near m.role f (f.dlci == m.dlci) f.pf m.user c.user (λ here idle. not_agrees (agrees f.kind) (both.1 here idle)) near.user);
      awaited = subst (λ (dlc : Dlc). AllAwaited m.dlci dlc said.after.user said.after.answers) (sym g.control_is)
          (subst (λ (dlc : Dlc). AllAwaited m.dlci (turning m.role f.kind (f.dlci == 0) f.pf m.control) dlc said.after.answers) (sym g.user_is)
          (all_awaited m.dlci m.control m.user (turning m.role f.kind (f.dlci == 0) f.pf m.control) (turning m.role f.kind (f.dlci == m.dlci) f.pf m.user) said.after.answers
          (turning_idle m.role f.kind (f.dlci == 0) f.pf m.control) (turning_idle m.role f.kind (f.dlci == m.dlci) f.pf m.user) ok.1));
    }

stood : (m : Mux) (said : Said) (closed : Option MuxReason) → m.closed ≡ closed → next m ≡ Some said → said.after.closed ≡ None → m.closed ≡ None
stood m said None is says stands = is
stood m said (Some reason) is says stands =
    let side : Side = record { mux = m; talk = []; got = [] } in
    let after : said.after.closed ≡ Some reason = ap (λ (o : Option Said). (said_by o side).mux.closed) (sym says) ∙ done_shut reason Says side is in
    never reason (sym after ∙ stands)

said_owes : (m : Mux) (said : Said) (fs : List Framed) → next m ≡ Some said → Gives m said → SaysKept m (Some said) → Owes m.dlci m.role m fs → Owes m.dlci m.role said.after (fs ++ own_frame m said.frame ∷ [])
said_owes m said fs says g kept o =
    let before = o.held_is in
    let grants = granted_more m.dlci m.role no_connections fs (own_frame m said.frame) in
    let none = own_grants m.dlci m.role (connections_of m.dlci no_connections fs) said.frame in
    let spends = spent_more m.dlci m.role fs (own_frame m said.frame) in
    let held = g.held_is in
    record {
      open_still = last_more m.dlci m.role no_course fs (own_frame m said.frame) false o.open_still (own_not_last m.dlci m.role (course_of m.dlci m.role no_course fs) said.frame);
      held_is = omega (arith, before, grants, none, spends, held);
      near = λ stands.
          let near = o.near (stood m said m.closed refl says stands) in
          let awaited : SaysAwaited m (Some said) = subst (SaysAwaited m) says (says_awaited m.answers m refl near.awaited) in
          subst (λ (x : Connections). IsNear m.role m.dlci x said.after) (sym (lines_more m.dlci no_connections fs (own_frame m said.frame))) (said_near m said (connections_of m.dlci no_connections fs) g awaited near);
    }

said_here : (m : Mux) (said : Said) (fs : List Framed) → next m ≡ Some said → 0 < m.dlci → Pays m.dlci m.role m fs → Pays m.dlci m.role said.after (fs ++ own_frame m said.frame ∷ [])
said_here m said fs says some p =
    let g : Gives m said = subst (SaysGives m) says (next_gives m some p.quiet) in
    let kept : SaysKept m (Some said) = subst (SaysKept m) says (answers_keep m.answers m) in
    record { role_is = kept.0; dlci_is = kept.1; quiet = g.quiet; state = by g kept p.state }
  where
    by : Gives m said → SaysKept m (Some said) → Owes m.dlci m.role m fs ⊎ Over m.dlci m.role fs → Owes m.dlci m.role said.after (fs ++ own_frame m said.frame ∷ []) ⊎ Over m.dlci m.role (fs ++ own_frame m said.frame ∷ [])
    by g kept (inl o) = inl (said_owes m said fs says g kept o)
    by g kept (inr over) = inr (over_stays m.dlci m.role fs (own_frame m said.frame ∷ []) over)

-- its next frame goes
pub says_pays : (d : ℕ) (role : Role) (m : Mux) (said : Said) (fs : List Framed) → 0 < d → next m ≡ Some said → Pays d role m fs → Pays d role said.after (fs ++ record { from = role; frame = said.frame } ∷ [])
says_pays d role m said fs some says p =
    let here : Pays m.dlci m.role m fs = subst (λ (k : ℕ). Pays k m.role m fs) (sym p.dlci_is) (subst (λ (r : Role). Pays d r m fs) (sym p.role_is) p) in
    let dlci = p.dlci_is in
    let then = said_here m said fs says (omega (arith, some, dlci)) here in
    subst (λ (k : ℕ). Pays k role said.after (fs ++ record { from = role; frame = said.frame } ∷ [])) p.dlci_is
    (subst (λ (r : Role). Pays m.dlci r said.after (fs ++ record { from = r; frame = said.frame } ∷ [])) p.role_is then)

-- an SDU that spells its next frame goes
pub sdu_pays : (d : ℕ) (role : Role) (m : Mux) (said : Said) (sdu : List ℕ) (fs : List Framed) → 0 < d → next m ≡ Some said → frame_answer sdu ≡ Ok said.frame → Pays d role m fs → Pays d role said.after (fs ++ frames (sdu_from role sdu ∷ []))
sdu_pays d role m said sdu fs some says reads p =
    subst (λ (a : Answer). Pays d role said.after (fs ++ cons_option (framed role a) [])) (sym reads) (says_pays d role m said fs some says p)

-- ---- what is asked of it, and a new one

-- only what it is asked for, and the octets that wait, are other
abbrev IsSame : Mux → Mux → Type 0
IsSame m x = (x.role ≡ m.role) × (x.dlci ≡ m.dlci) × (x.closed ≡ m.closed) × (x.control ≡ m.control) × (x.user ≡ m.user) × (x.account.held ≡ m.account.held) × (x.answers ≡ m.answers)

same_pays : (d : ℕ) (role : Role) (m x : Mux) (fs : List Framed) → IsSame m x → Pays d role m fs → Pays d role x fs
same_pays d role m x fs same p = record {
  role_is = same.0 ∙ p.role_is;
  dlci_is = same.1 ∙ p.dlci_is;
  quiet = subst (AllQuiet d) (sym same.6) p.quiet;
  state = by p.state;
}
  where
    near_same : IsNear role d (connections_of d no_connections fs) m → IsNear role d (connections_of d no_connections fs) x
    near_same near = record {
      control = subst (λ (dlc : Dlc). Near role dlc (connections_of d no_connections fs).control) (sym same.3) near.control;
      user = subst (λ (dlc : Dlc). Near role dlc (connections_of d no_connections fs).user) (sym same.4) near.user;
      awaited = subst (λ (dlc : Dlc). AllAwaited d dlc x.user x.answers) (sym same.3) (subst (λ (dlc : Dlc). AllAwaited d m.control dlc x.answers) (sym same.4) (subst (AllAwaited d m.control m.user) (sym same.6) near.awaited));
    }

    by : Owes d role m fs ⊎ Over d role fs → Owes d role x fs ⊎ Over d role fs
    by (inl o) = inl (record { open_still = o.open_still; held_is = subst (λ (n : ℕ). spent d role fs + n ≤ granted d role no_connections fs) (sym same.5) o.held_is; near = λ stands. near_same (o.near (sym same.2 ∙ stands)) })
    by (inr over) = inr over

same_if : (m x : Mux) (b : Bool) → IsSame m x → IsSame m (cond b x m)
same_if m x true same = same
same_if m x false same = (refl, refl, refl, refl, refl, refl, refl)

pub sends_pays : (d : ℕ) (role : Role) (octets : List ℕ) (m : Mux) (fs : List Framed) → Pays d role m fs → Pays d role (sends octets m) fs
sends_pays d role octets m fs p =
    same_pays d role m (sends octets m) fs (same_if m (record m { waiting = take (taken_count (length octets) m) octets }) (is_empty m.waiting && nat_lt 0 m.account.held) (refl, refl, refl, refl, refl, refl, refl)) p

pub leaves_pays : (d : ℕ) (role : Role) (m : Mux) (fs : List Framed) → Pays d role m fs → Pays d role (leaves m) fs
leaves_pays d role m fs p = same_pays d role m (leaves m) fs (same_if m (record m { asks = Due LeaveUser }) (is_none m.closed && not (is_leaving m.asks)) (refl, refl, refl, refl, refl, refl, refl)) p

given_pays : (d : ℕ) (role : Role) (octets : List ℕ) (m : Mux) (fs : List Framed) → Pays d role m fs → Pays d role (given octets m) fs
given_pays d role octets m fs p = keep_cond (λ x. Pays d role x fs) (may_pass m) (sends octets m) m (sends_pays d role octets m fs p) p

pub new_pays : (d : ℕ) (role : Role) (largest own cap : ℕ) → Pays d role (new_mux role d largest own cap) []
new_pays d role largest own cap = record { role_is = refl; dlci_is = refl; quiet = tt; state = inl (record { open_still = refl; held_is = omega arith; near = λ stands. record { control = inl refl; user = inl refl; awaited = tt } }) }

-- ---- what it holds by the frames

left_over : (s h : ℕ) → pos (s + h) -ℤ pos s ≡ pos h
left_over s h = ap (λ n. pos n -ℤ pos s) (omega arith) ∙ (ap (λ m. m -ℤ pos s) (sym (pos-+ℤ-pos h s)) ∙ +ℤ-neg_ℤ_cancel (pos h) (pos s))

pub paid_covers : (d : ℕ) (role : Role) (passed : List Passed) → Paid d role (frames passed) → IsCovered d role passed
paid_covers d role passed less =
    let s : ℕ = spent d role (live_frames d role passed) in
    let g : ℕ = granted d role no_connections (live_frames d role passed) in
    record { covered = less; left = g - s; held = ap (λ (n : ℕ). pos n -ℤ pos s) (omega (arith, less)) ∙ left_over s (g - s) }

pub pays_paid : (d : ℕ) (role : Role) (m : Mux) (fs : List Framed) → Pays d role m fs → Paid d role fs
pays_paid d role m fs p = by p.state
  where
    by : Owes d role m fs ⊎ Over d role fs → Paid d role fs
    by (inl o) =
        let held = o.held_is in
        subst (λ (xs : List Framed). spent d role xs ≤ granted d role no_connections xs) (sym (to_all d role no_course fs o.open_still)) (omega (arith, held))
    by (inr over) = over.paid

pub pays_covered : (d : ℕ) (role : Role) (m : Mux) (passed : List Passed) → Pays d role m (frames passed) → IsCovered d role passed
pays_covered d role m passed p = paid_covers d role passed (pays_paid d role m (frames passed) p)

-- ---- all deeds

pub frames_more : (past new : List Passed) → frames (past ++ new) ≡ frames past ++ frames new
frames_more past new = filter_map-append (λ (p : Passed). framed p.from (frame_answer p.sdu)) past new

none_pays : (d : ℕ) (role : Role) (m : Mux) (past new : List Passed) → new ≡ [] → Pays d role m (frames past) → Pays d role m (frames (past ++ new))
none_pays d role m past new is p = subst (λ (xs : List Passed). Pays d role m (frames xs)) (sym (append-nil past) ∙ ap (λ (xs : List Passed). past ++ xs) (sym is)) p

goes_pays : (d : ℕ) (role : Role) (side : Side) (o : Option Said) (past new : List Passed) → 0 < d → next side.mux ≡ o → Goes side.mux.role o new → Pays d role side.mux (frames past) → Pays d role (said_by o side).mux (frames (past ++ new))
goes_pays d role side None past new some says is p = none_pays d role side.mux past new is p
goes_pays d role side (Some said) past new some says (sdu, octets, spells, is) p =
    let then = sdu_pays d role side.mux said sdu (frames past) some says (spelled_answered said.frame sdu octets spells) p in
    let same : new ≡ sdu_from role sdu ∷ [] = is ∙ ap (λ (r : Role). sdu_from r sdu ∷ []) p.role_is in
    subst (λ (xs : List Framed). Pays d role said.after xs) (sym (ap (λ (xs : List Passed). frames (past ++ xs)) same ∙ frames_more past (sdu_from role sdu ∷ []))) then

deed_pays : (d : ℕ) (role : Role) (deed : Deed) (side : Side) (past new : List Passed) → 0 < d → Passes deed side.mux new → Pays d role side.mux (frames past) → Pays d role (done deed side).mux (frames (past ++ new))
deed_pays d role (Hears sdu) side past new some is p =
    let same : new ≡ sdu_from (other_role role) sdu ∷ [] = is ∙ ap (λ (r : Role). sdu_from (other_role r) sdu ∷ []) p.role_is in
    subst (λ (xs : List Framed). Pays d role (hears sdu side.mux) xs) (sym (ap (λ (xs : List Passed). frames (past ++ xs)) same ∙ frames_more past (sdu_from (other_role role) sdu ∷ []))) (hears_pays d role sdu side.mux (frames past) some p)
deed_pays d role Says side past new some goes p = goes_pays d role side (next side.mux) past new some refl goes p
deed_pays d role (Sends octets) side past new some is p = none_pays d role (given octets side.mux) past new is (given_pays d role octets side.mux (frames past) p)
deed_pays d role Leaves side past new some is p = none_pays d role (leaves side.mux) past new is (leaves_pays d role side.mux (frames past) p)

all_pay : (d : ℕ) (role : Role) (deeds : List Deed) (side : Side) (past passed : List Passed) → 0 < d → AllPass deeds side passed → Pays d role side.mux (frames past) → Pays d role (all_done deeds side).mux (frames (past ++ passed))
all_pay d role [] side past passed some is p = none_pays d role side.mux past passed is p
all_pay d role (deed ∷ deeds) side past passed some (new, rest, parts, one, others) p =
    let then = all_pay d role deeds (done deed side) (past ++ new) rest some others (deed_pays d role deed side past new some one p) in
    subst (λ (xs : List Passed). Pays d role (all_done (deed ∷ deeds) side).mux (frames xs)) (append_assoc past new rest ∙ ap (λ (xs : List Passed). past ++ xs) (sym parts)) then

pub grants-cover_spending : GrantsCoverSpending
grants-cover_spending role dlci largest own cap deeds passed some pass =
    pays_covered dlci role (all_done deeds (new_side role dlci largest own cap)).mux passed (all_pay dlci role deeds (new_side role dlci largest own cap) [] passed some pass (new_pays dlci role largest own cap))
