-- A client pays for what it sends on a channel also where its multiplexer is for another one: no information of it goes there. And so it does before it says
-- anything, whatever came until then.
use Rattle.std.proofs.Common.{arith, ◌≡◌, ◌<◌, ◌⊎◌, inl, inr, ℕ, ◌==◌, Bool, true, false, ◌&&◌, cond, List, [], ◌∷◌, ◌++◌, Option, Some, None, Ok, Err, refl, sym, ap, subst, ◌∙◌, append-nil, append_assoc, ◌+◌, ◌-◌}
use Rattle.std.specs.Prelude.{not, nat_lt, is_none, length, take}
use Rattle.std.specs.List.{AllByRecursion, cons_option}
use Rattle.std.proofs.lemmas.Bool.{eqb-true}
use Rattle.inbox_laws.specs.rfcomm_frames.specs.declared.frame.MuxKind.{MuxKind}
use Rattle.inbox_laws.specs.rfcomm_frames.specs.declared.frame.MuxKind.TheVariants.{Sabm, Ua, Dm, Disc, Uih}
use Rattle.inbox_laws.specs.rfcomm_frames.specs.declared.connection.Dlc.{Dlc}
use Rattle.inbox_laws.specs.rfcomm_frames.specs.declared.connection.Dlc.TheVariants.{Idle}
use Rattle.inbox_laws.specs.rfcomm_frames.specs.declared.connection.Role.TheVariants.{Initiator, Responder}
use Rattle.inbox_laws.specs.rfcomm_frames.specs.Answers.{Answer}
use Rattle.inbox_laws.specs.rfcomm_frames.specs.Connections.{turned}
use Rattle.inbox_laws.specs.rfcomm_frames.specs.Ending.{no_course, is_last}
use Rattle.inbox_laws.specs.rfcomm_frames.specs.Frames.{PlainFrame}
use Rattle.inbox_laws.specs.rfcomm_frames.specs.FrameReading.{frame_answer, is_empty}
use Rattle.inbox_laws.specs.rfcomm_frames.specs.Multiplexing.{Framed, framed, no_connections, Connections}
use Rattle.inbox_laws.specs.rfcomm_credits.specs.Accounts.{grant_of}
use Rattle.inbox_laws.specs.rfcomm_model.specs.declared.state.Command.TheVariants.{OpenControl, Agree, OpenUser, Signal, LeaveUser, LeaveControl}
use Rattle.inbox_laws.specs.rfcomm_model.specs.declared.state.Asks.{Asks}
use Rattle.inbox_laws.specs.rfcomm_model.specs.declared.state.Asks.TheVariants.{Nothing, Due, Awaited}
use Rattle.inbox_laws.specs.rfcomm_model.specs.Hearing.{hears}
use Rattle.inbox_laws.specs.rfcomm_model.specs.Machine.{Mux, new_mux, may_pass, is_leaving, is_ready, taken_count, sends, leaves}
use Rattle.inbox_laws.specs.rfcomm_model.specs.Saying.{Said, says, says_grant, says_data, first_of, says_command, says_answer, next}
use Rattle.inbox_laws.specs.rfcomm_model.specs.Sides.{heard_frame, connections_of}
use Rattle.inbox_laws.specs.rfcomm_model.specs.Written.{grant_frame, data_frame}
use Rattle.inbox_laws.specs.rfcomm_model.proofs.Giving.{on_control, spent_none}
use Rattle.inbox_laws.specs.rfcomm_model.proofs.Keeping.{hears_keeps, SaysKept, answers_keep}
use Rattle.inbox_laws.specs.rfcomm_model.proofs.Reading.{lines_more, granted_more, spent_more, peer_spends}
use Rattle.inbox_laws.specs.rfcomm_model.proofs.Stepping.{IsQuiet, AllQuiet, and_false}
use Rattle.inbox_laws.specs.talk_laws.proofs.Passes.{from_end}
use Rattle.credit_laws.specs.Clients.{own_frame}
use Rattle.credit_laws.proofs.Affording.{Near, IsNear}
use Rattle.credit_laws.proofs.Paying.{Paid, free_more, heard_more, pays_paid, Pays, Owes, Over, course_of, last_more, over_stays, heard_over, quiet_heard, hears_pays, says_pays, sends_pays, leaves_pays, new_pays}

abbrev peer_frame : PlainFrame → Framed
peer_frame frame = record { from = Responder; frame = frame }

pub frame_is : (a : Answer) → cons_option (framed Responder a) [] ≡ heard_frame Responder a
frame_is (Ok f) = refl
frame_is (Err refusal) = refl

pub heard_paid : (d : ℕ) (fs : List Framed) (a : Answer) → Paid d Initiator fs → Paid d Initiator (fs ++ heard_frame Responder a)
heard_paid d fs a paid = subst (λ (xs : List Framed). Paid d Initiator (fs ++ xs)) (frame_is a) (heard_more d Initiator fs a paid)

-- ---- of a multiplexer that is for another channel

pub record Aside (d : ℕ) (m : Mux) (fs : List Framed) : Type 0 where
  pub away : (m.dlci == d) ≡ false
  pub quiet : AllQuiet d m.answers
  pub paid : Paid d Initiator fs

abbrev SaysQuiet : ℕ → Option Said → Type 0
SaysQuiet d None = Unit {0}
SaysQuiet d (Some said) = IsQuiet d said.frame × AllQuiet d said.after.answers

first_quiet : (d : ℕ) (a b : Option Said) → SaysQuiet d a → SaysQuiet d b → SaysQuiet d (first_of a b)
first_quiet d None b p q = q
first_quiet d (Some said) b p q = p

if_quiet : (d : ℕ) (b : Bool) (said : Said) → SaysQuiet d (Some said) → SaysQuiet d (cond b (Some said) None)
if_quiet d true said p = p
if_quiet d false said p = tt

free_quiet : (d : ℕ) (m : Mux) → (m.dlci == d) ≡ false → AllQuiet d m.answers → SaysQuiet d (first_of (says_grant m) (says_data m))
free_quiet d m away all =
    first_quiet d (says_grant m) (says_data m)
    (if_quiet d (may_pass m && nat_lt 0 (grant_of m.account)) (says (grant_frame m.role m.dlci (grant_of m.account)) (record m { account = record { cap = m.account.cap; held = m.account.held; peer = m.account.peer + grant_of m.account } })) (ap (λ (b : Bool). b && true) away, all))
    (if_quiet d (is_ready m && (not (is_empty m.waiting) && nat_lt 0 m.account.held))
    (says (data_frame m.role m.dlci m.waiting) (record m { waiting = []; account = record { cap = m.account.cap; held = m.account.held - 1; peer = m.account.peer } })) (ap (λ (b : Bool). b && true) away, all))

command_quiet : (d : ℕ) (m : Mux) (asks : Asks) → 0 < d → (m.dlci == d) ≡ false → AllQuiet d m.answers → SaysQuiet d (says_command asks m)
command_quiet d m Nothing some away all = free_quiet d m away all
command_quiet d m (Awaited command) some away all = free_quiet d m away all
command_quiet d m (Due OpenControl) some away all = (on_control d false some, all)
command_quiet d m (Due Agree) some away all = (on_control d true some, all)
command_quiet d m (Due OpenUser) some away all = (and_false (m.dlci == d), all)
command_quiet d m (Due Signal) some away all = (on_control d true some, all)
command_quiet d m (Due LeaveUser) some away all = (and_false (m.dlci == d), all)
command_quiet d m (Due LeaveControl) some away all = (on_control d false some, all)

answer_quiet : (d : ℕ) (answers : List PlainFrame) (m : Mux) → 0 < d → (m.dlci == d) ≡ false → AllQuiet d m.answers → AllQuiet d answers → SaysQuiet d (says_answer answers m)
answer_quiet d [] m some away all these = command_quiet d m m.asks some away all
answer_quiet d (answer ∷ rest) m some away all these = (these.0.0, these.1)

-- ---- of any multiplexer

abbrev pub PaysOn : ℕ → Mux → List Framed → Type 0
PaysOn d m fs = Pays d Initiator m fs ⊎ Aside d m fs

pub hears_on : (d : ℕ) (sdu : List ℕ) (m : Mux) (fs : List Framed) → 0 < d → PaysOn d m fs → PaysOn d (hears sdu m) (fs ++ heard_frame Responder (frame_answer sdu))
hears_on d sdu m fs some (inl pays) = inl (subst (λ (xs : List Framed). Pays d Initiator (hears sdu m) (fs ++ xs)) (frame_is (frame_answer sdu)) (hears_pays d Initiator sdu m fs some pays))
hears_on d sdu m fs some (inr aside) = inr (record { away = ap (λ (n : ℕ). n == d) (hears_keeps sdu m).1 ∙ aside.away; quiet = quiet_heard d (frame_answer sdu) m some aside.quiet; paid = heard_paid d fs (frame_answer sdu) aside.paid })

pub says_on : (d : ℕ) (m : Mux) (said : Said) (fs : List Framed) → 0 < d → next m ≡ Some said → PaysOn d m fs → PaysOn d said.after (fs ++ own_frame said.frame ∷ [])
says_on d m said fs some says_it (inl pays) = inl (says_pays d Initiator m said fs some says_it pays)
says_on d m said fs some says_it (inr aside) =
    let kept : SaysKept m (Some said) = subst (SaysKept m) says_it (answers_keep m.answers m) in
    let so : SaysQuiet d (Some said) = subst (SaysQuiet d) says_it (answer_quiet d m.answers m some aside.away aside.quiet aside.quiet) in
    inr (record { away = ap (λ (n : ℕ). n == d) kept.1 ∙ aside.away; quiet = so.1; paid = free_more d Initiator fs (own_frame said.frame) (spent_none d Initiator Initiator said.frame so.0) aside.paid })

if_aside : (d : ℕ) (m x : Mux) (fs : List Framed) (b : Bool) → x.dlci ≡ m.dlci → x.answers ≡ m.answers → Aside d m fs → Aside d (cond b x m) fs
if_aside d m x fs true dlci answers aside = record { away = ap (λ (n : ℕ). n == d) dlci ∙ aside.away; quiet = subst (AllQuiet d) (sym answers) aside.quiet; paid = aside.paid }
if_aside d m x fs false dlci answers aside = aside

pub sends_on : (d : ℕ) (octets : List ℕ) (m : Mux) (fs : List Framed) → PaysOn d m fs → PaysOn d (sends octets m) fs
sends_on d octets m fs (inl pays) = inl (sends_pays d Initiator octets m fs pays)
sends_on d octets m fs (inr aside) = inr (if_aside d m (record m { waiting = take (taken_count (length octets) m) octets }) fs (is_empty m.waiting && nat_lt 0 m.account.held) refl refl aside)

pub leaves_on : (d : ℕ) (m : Mux) (fs : List Framed) → PaysOn d m fs → PaysOn d (leaves m) fs
leaves_on d m fs (inl pays) = inl (leaves_pays d Initiator m fs pays)
leaves_on d m fs (inr aside) = inr (if_aside d m (record m { asks = Due LeaveUser }) fs (is_none m.closed && not (is_leaving m.asks)) refl refl aside)

pub on_paid : (d : ℕ) (m : Mux) (fs : List Framed) → PaysOn d m fs → Paid d Initiator fs
on_paid d m fs (inr aside) = aside.paid
on_paid d m fs (inl pays) = pays_paid d Initiator m fs pays

-- ---- a new one, whatever came before it said anything

abbrev pub IsPeers : Framed → Type 0
IsPeers f = f.from ≡ Responder

pub peers_paid : (d : ℕ) (fs : List Framed) → AllByRecursion IsPeers fs → Paid d Initiator fs
peers_paid d = from_end (λ fs. AllByRecursion IsPeers fs → Paid d Initiator fs) (λ all. omega arith) (λ fs f before all. let parts = peers_ahead fs f all in subst (λ (x : Framed). Paid d Initiator (fs ++ x ∷ [])) (sym (is_peer f parts.1)) (free_more d Initiator fs (peer_frame f.frame) (peer_spends d Initiator f.frame) (before parts.0)))
  where
    is_peer : (f : Framed) → f.from ≡ Responder → f ≡ peer_frame f.frame
    is_peer f is = ap (λ r. let x : Framed = record { from = r; frame = f.frame } in x) is

    peers_ahead : (fs : List Framed) (f : Framed) → AllByRecursion IsPeers (fs ++ f ∷ []) → AllByRecursion IsPeers fs × IsPeers f
    peers_ahead [] f all = (tt, all.0)
    peers_ahead (g ∷ fs) f all = let rest = peers_ahead fs f all.1 in ((all.0, rest.0), rest.1)

-- the responder alone opens nothing
still_idle : (kind : MuxKind) (here pf : Bool) (dlc : Dlc) → dlc ≡ Idle → cond here (cond pf (turned Responder kind dlc) dlc) dlc ≡ Idle
still_idle kind false pf dlc is = is
still_idle kind true false dlc is = is
still_idle kind true true dlc is = ap (turned Responder kind) is ∙ by kind
  where
    by : (k : MuxKind) → turned Responder k Idle ≡ Idle
    by Sabm = refl
    by Ua = refl
    by Dm = refl
    by Disc = refl
    by Uih = refl

near_idle : (dlc : Dlc) → Near Initiator Idle dlc → dlc ≡ Idle
near_idle dlc (inl same) = same
near_idle dlc (inr (never, idle, asked)) = cc

module _ (d largest own cap : ℕ) where
  abbrev new : Mux
  new = new_mux Initiator d largest own cap

  one_pays : (fs : List Framed) (f : PlainFrame) → Pays d Initiator (new_mux Initiator d largest own cap) fs → Pays d Initiator (new_mux Initiator d largest own cap) (fs ++ peer_frame f ∷ [])
  one_pays fs f pays = record { role_is = refl; dlci_is = refl; quiet = tt; state = by pays.state (is_last d Initiator (course_of d Initiator no_course fs) (peer_frame f)) refl }
    where
      by : Owes d Initiator new fs ⊎ Over d Initiator fs → (last : Bool) → is_last d Initiator (course_of d Initiator no_course fs) (peer_frame f) ≡ last → Owes d Initiator new (fs ++ peer_frame f ∷ []) ⊎ Over d Initiator (fs ++ peer_frame f ∷ [])
      by (inr over) last is = inr (over_stays d Initiator fs (peer_frame f ∷ []) over)
      by (inl o) true is = inr (heard_over new f fs is o)
      by (inl o) false is =
          let before = o.held_is in
          let spends = spent_more d Initiator fs (peer_frame f) in
          let grants = granted_more d Initiator no_connections fs (peer_frame f) in
          let none = peer_spends d Initiator f in
          let near = o.near refl in
          let c : Connections = connections_of d no_connections fs in
          inl (record {
            open_still = last_more d Initiator no_course fs (peer_frame f) false o.open_still is;
            held_is = omega (arith, before, spends, grants, none);
            near = λ stands. subst (λ (x : Connections). IsNear Initiator d x new) (sym (lines_more d no_connections fs (peer_frame f))) (record {
              control = inl (still_idle f.kind (f.dlci == 0) f.pf c.control (near_idle c.control near.control));
              user = inl (still_idle f.kind (f.dlci == d) f.pf c.user (near_idle c.user near.user));
              awaited = tt;
            });
          })

pub new_on : (d e largest own cap : ℕ) (fs : List Framed) → AllByRecursion IsPeers fs → PaysOn d (new_mux Initiator e largest own cap) fs
new_on d e largest own cap fs all = by (e == d) refl
  where
    pays : (list : List Framed) → AllByRecursion IsPeers list → (past : List Framed) → Pays d Initiator (new_mux Initiator d largest own cap) past → Pays d Initiator (new_mux Initiator d largest own cap) (past ++ list)
    pays [] all' past p = subst (Pays d Initiator (new_mux Initiator d largest own cap)) (sym (append-nil past)) p
    pays (f ∷ list) all' past p =
        subst (Pays d Initiator (new_mux Initiator d largest own cap)) (append_assoc past (f ∷ []) list)
        (pays list all'.1 (past ++ f ∷ []) (subst (λ r. let x : Framed = record { from = r; frame = f.frame } in Pays d Initiator (new_mux Initiator d largest own cap) (past ++ x ∷ [])) (sym all'.0) (one_pays d largest own cap past f.frame p)))

    by : (same : Bool) → (e == d) ≡ same → PaysOn d (new_mux Initiator e largest own cap) fs
    by true is = inl (subst (λ (n : ℕ). Pays d Initiator (new_mux Initiator n largest own cap) fs) (sym (eqb-true e d is)) (pays fs all [] (new_pays d Initiator largest own cap)))
    by false is = inr (record { away = is; quiet = tt; paid = peers_paid d fs all })
