-- What a side holds and handed up is what its frames say.
use Rattle.std.proofs.Common.{rules, arith, ◌≡◌, ◌<◌, ℕ, ◌==◌, ◌+◌, Bool, true, false, ◌&&◌, cond, List, [], ◌∷◌, ◌++◌, Option, Some, None, Ok, Err, refl, sym, ap, subst, ◌∙◌, append_assoc}
use Rattle.std.specs.Prelude.{not, sum_by, is_none}
use Rattle.std.proofs.lemmas.List.Sums.{sum_by-append, sum_by-cons}
use Rattle.std.proofs.lemmas.List.{append-nil}
use Rattle.rfcomm_frames.specs.declared.frame.MuxKind.{MuxKind}
use Rattle.rfcomm_frames.specs.declared.frame.MuxKind.TheVariants.{Sabm, Ua, Dm, Disc, Uih}
use Rattle.rfcomm_frames.specs.declared.connection.Role.{Role}
use Rattle.rfcomm_frames.specs.declared.connection.Role.TheVariants.{Initiator, Responder}
use Rattle.rfcomm_frames.specs.declared.connection.Dlc.{Dlc}
use Rattle.rfcomm_frames.specs.Frames.{PlainFrame, carries}
use Rattle.rfcomm_frames.specs.Answers.{Answer}
use Rattle.rfcomm_frames.specs.FrameReading.{frame_answer, messages, is_empty}
use Rattle.rfcomm_frames.specs.Connections.{other_role, turned, is_open, is_ended}
use Rattle.rfcomm_frames.specs.Multiplexing.{Framed, Connections, no_connections, connections_after, passing, carries_on, is_over, is_role, is_data, information, carried, stated_by, credit_octet, granted_by, granted, spent_by, spent}
use Rattle.rfcomm_model.specs.declared.state.MuxReason.{MuxReason}
use Rattle.rfcomm_model.specs.declared.state.MuxReason.TheVariants as reasons
use Rattle.rfcomm_credits.specs.Accounts.{Credits}
use Rattle.rfcomm_model.specs.declared.state.Readiness.{Readiness}
use Rattle.rfcomm_model.specs.declared.state.Command.TheVariants.{LeaveUser}
use Rattle.rfcomm_model.specs.declared.state.Asks.TheVariants.{Due}
use Rattle.rfcomm_model.specs.Machine.{Mux, is_both, may_pass, is_ready, is_leaving, sends, closes}
use Rattle.rfcomm_model.specs.Hearing.{hears_answer, hears_frame, hears_kind, hears_data, if_stands, with_credits, charged, news, data_kind, data_of, read_data, hears_messages}
use Rattle.rfcomm_model.specs.Saying.{Said, next, after_said}
use Rattle.rfcomm_model.specs.Sides.{Deed, Hears, Says, Sends, Leaves, Side, handed, heard_frame, said_by, done, all_done, new_side, FindsRoom, AnswerFindsRoom, DeedFindsRoom, AlwaysRoom, connections_of, Reads, SidesRead}
use Rattle.rfcomm_model.proofs.Closing.{done_shut}
use Rattle.rfcomm_model.proofs.Keeping.{hears_keeps, next_keeps}
use Rattle.rfcomm_model.proofs.Stepping.{Turns, AllQuiet, and_false, cond_same, apart, turning, frame_turns}
use Rattle.rfcomm_model.proofs.Talking.{lines_of, same_role, uih_turns, data_turns}
use Rattle.rfcomm_model.proofs.Giving.{Gives, SaysGives, next_gives}

-- ---- one frame more

pub lines_more : (d : ℕ) (c : Connections) (fs : List Framed) (f : Framed) → connections_of d c (fs ++ f ∷ []) ≡ connections_after d (connections_of d c fs) f
lines_more d c [] f = refl
lines_more d c (g ∷ fs) f = lines_more d (connections_after d c g) fs f

pub carried_more : (d : ℕ) (from : Role) (c : Connections) (fs : List Framed) (f : Framed)
    → carried d from c (fs ++ f ∷ []) ≡ carried d from c fs ++ cond (carries_on (connections_of d c fs)) (information d from f) []
carried_more d from c [] f = append-nil (cond (carries_on c) (information d from f) [])
carried_more d from c (g ∷ fs) f =
    ap (λ (xs : List ℕ). cond (carries_on c) (information d from g) [] ++ xs) (carried_more d from (connections_after d c g) fs f)
    ∙ sym (append_assoc (cond (carries_on c) (information d from g) []) (carried d from (connections_after d c g) fs) (cond (carries_on (connections_of d (connections_after d c g) fs)) (information d from f) []))

pub granted_more : (d : ℕ) (side : Role) (c : Connections) (fs : List Framed) (f : Framed) → granted d side c (fs ++ f ∷ []) ≡ granted d side c fs + granted_by d side (connections_of d c fs) f
granted_more d side c [] f = omega arith
granted_more d side c (g ∷ fs) f = omega (arith, granted_more d side (connections_after d c g) fs f)

pub spent_more : (d : ℕ) (side : Role) (fs : List Framed) (f : Framed) → spent d side (fs ++ f ∷ []) ≡ spent d side fs + spent_by d side f
spent_more d side fs f =
    let one : sum_by (spent_by d side) (f ∷ []) ≡ spent_by d side f = sum_by-cons (spent_by d side) f [] ∙ omega arith in
    omega (arith, sum_by-append (spent_by d side) fs (f ∷ []), one)

-- ---- frames of the other side, and own ones

pub not_other : (role : Role) → is_role role (other_role role) ≡ false
not_other Initiator = refl
not_other Responder = refl

pub not_own : (role : Role) → is_role (other_role role) role ≡ false
not_own Initiator = refl
not_own Responder = refl

-- own frames grant nothing to their side, and bring no octets of the peer
pub own_grants : (d : ℕ) (role : Role) (c : Connections) (f : PlainFrame) → granted_by d role c (record { from = role; frame = f }) ≡ 0
own_grants d role c f =
    ap (λ (b : Bool). cond ((b && ((f.dlci == 0) && carries f.kind)) && not (is_over c)) (sum_by (stated_by d) (messages f.octets)) 0 + cond ((b && ((f.dlci == d) && carries f.kind)) && carries_on c) (credit_octet f.credits) 0) (not_own role)

pub own_brings : (d : ℕ) (role : Role) (b : Bool) (f : PlainFrame) → cond b (information d (other_role role) (record { from = role; frame = f })) [] ≡ []
own_brings d role b f = ap (λ (x : Bool). cond b (cond (x && ((f.dlci == d) && carries f.kind)) f.octets []) []) (not_own role) ∙ cond_same b []

pub peer_spends : (d : ℕ) (role : Role) (f : PlainFrame) → spent_by d role (record { from = other_role role; frame = f }) ≡ 0
peer_spends d role f = ap (λ (x : Bool). cond (is_empty (cond (x && ((f.dlci == d) && carries f.kind)) f.octets [])) 0 1) (not_other role)

-- ---- the law, at a side

record Stands (d : ℕ) (role : Role) (side : Side) : Type 0 where
  role_is : side.mux.role ≡ role
  dlci_is : side.mux.dlci ≡ d
  reads : Reads d role side
  quiet : AllQuiet d side.mux.answers

-- ---- a frame is sent

said_reads : (side : Side) (said : Said) → Gives side.mux said → Reads side.mux.dlci side.mux.role side → Reads side.mux.dlci side.mux.role (said_by (Some said) side)
said_reads side said g r =
    let m : Mux = side.mux in
    let f : Framed = record { from = m.role; frame = said.frame } in
    let c : Connections = connections_of m.dlci no_connections side.talk in
    record {
      connections = ap (λ (dlc : Dlc). record { control = dlc; user = said.after.user }) g.control_is
          ∙ ap (λ (dlc : Dlc). record { control = passing 0 f m.control; user = dlc }) g.user_is
          ∙ ap (λ (lines : Connections). connections_after m.dlci lines f) r.connections
          ∙ sym (lines_more m.dlci no_connections side.talk f);
      octets = r.octets ∙ sym (append-nil (carried m.dlci (other_role m.role) no_connections side.talk))
          ∙ ap (λ (xs : List ℕ). carried m.dlci (other_role m.role) no_connections side.talk ++ xs) (sym (own_brings m.dlci m.role (carries_on c) said.frame))
          ∙ sym (carried_more m.dlci (other_role m.role) no_connections side.talk f);
      credits = omega (arith, granted_more m.dlci m.role no_connections side.talk f, own_grants m.dlci m.role c said.frame, spent_more m.dlci m.role side.talk f, r.credits, g.held_is);
    }

said_at : (side : Side) (o : Option Said) → SaysGives side.mux o → Reads side.mux.dlci side.mux.role side → Reads side.mux.dlci side.mux.role (said_by o side)
said_at side None g r = r
said_at side (Some said) g r = said_reads side said g r

said_quiet : (side : Side) (o : Option Said) → SaysGives side.mux o → AllQuiet side.mux.dlci side.mux.answers → AllQuiet side.mux.dlci (said_by o side).mux.answers
said_quiet side None g all = all
said_quiet side (Some said) g all = g.quiet

-- ---- a frame is heard

no_uih : (from : Role) (dlc : Dlc) → turned from Uih dlc ≡ dlc
no_uih Initiator dlc = refl
no_uih Responder dlc = refl

pub silent_grants : (d : ℕ) (role from : Role) (c : Connections) (f : PlainFrame) → carries f.kind ≡ false → granted_by d role c (record { from = from; frame = f }) ≡ 0
silent_grants d role from c f none =
    let brought : (n : ℕ) → is_data n (other_role role) (record { from = from; frame = f }) ≡ false = λ n.
    ap (λ (b : Bool). is_role (other_role role) from && ((f.dlci == n) && b)) none ∙ ap (λ (b : Bool). is_role (other_role role) from && b) (and_false (f.dlci == n)) ∙ and_false (is_role (other_role role) from) in
    ap (λ (b : Bool). cond (b && not (is_over c)) (sum_by (stated_by d) (messages f.octets)) 0 + cond (is_data d (other_role role) (record { from = from; frame = f }) && carries_on c) (credit_octet f.credits) 0) (brought 0)
    ∙ ap (λ (b : Bool). 0 + cond (b && carries_on c) (credit_octet f.credits) 0) (brought d)

more_held : (m x : Mux) (c u : Dlc) (h k : ℕ) → h ≡ k → Turns m c u h x → Turns m c u k x
more_held m x c u h k is t = subst (λ (n : ℕ). Turns m c u n x) is t

abbrev Moved : Mux → PlainFrame → MuxKind → Type 0
Moved m f kind =
    Turns m (turning (other_role m.role) kind (f.dlci == 0) f.pf m.control) (turning (other_role m.role) kind (f.dlci == m.dlci) f.pf m.user)
    (m.account.held + granted_by m.dlci m.role (lines_of m) (record { from = other_role m.role; frame = f })) (hears_kind kind f m)

moved_silent : (m : Mux) (f : PlainFrame) (kind : MuxKind) → f.kind ≡ kind → carries kind ≡ false → 0 < m.dlci → FindsRoom kind f m → (hears_kind kind f m).closed ≡ None → Moved m f kind
moved_silent m f kind is none some room stands =
    let grants = silent_grants m.dlci m.role (other_role m.role) (lines_of m) f (ap carries is ∙ none) in
    more_held m (hears_kind kind f m) (turning (other_role m.role) kind (f.dlci == 0) f.pf m.control) (turning (other_role m.role) kind (f.dlci == m.dlci) f.pf m.user) m.account.held
    (m.account.held + granted_by m.dlci m.role (lines_of m) (record { from = other_role m.role; frame = f })) (omega (arith, grants)) (frame_turns m f kind none some room stands)

turning_uih : (from : Role) (here pf : Bool) (dlc : Dlc) → dlc ≡ turning from Uih here pf dlc
turning_uih from here pf dlc = sym (ap (λ (d : Dlc). cond here (cond pf d dlc) dlc) (no_uih from dlc) ∙ ap (λ (d : Dlc). cond here d dlc) (cond_same pf dlc) ∙ cond_same here dlc)

moved : (m : Mux) (f : PlainFrame) (kind : MuxKind) → f.kind ≡ kind → 0 < m.dlci → m.closed ≡ None → FindsRoom kind f m → (hears_kind kind f m).closed ≡ None → Moved m f kind
moved m f Sabm is some standing room stands = moved_silent m f Sabm is refl some room stands
moved m f Ua is some standing room stands = moved_silent m f Ua is refl some room stands
moved m f Dm is some standing room stands = moved_silent m f Dm is refl some room stands
moved m f Disc is some standing room stands = moved_silent m f Disc is refl some room stands
moved m f Uih is some standing room stands =
    let t = uih_turns m f (ap carries is) (apart f.dlci m.dlci some) some standing room stands in
    record {
      control_is = t.control_is ∙ turning_uih (other_role m.role) (f.dlci == 0) f.pf m.control;
      user_is = t.user_is ∙ turning_uih (other_role m.role) (f.dlci == m.dlci) f.pf m.user;
      held_is = t.held_is;
      quiet = t.quiet;
    }

-- ---- what comes up

handed_is : (flag : Bool) (brought : List ℕ) → (flag ≡ true → brought ≡ []) → handed (news None None flag brought) ≡ brought
handed_is true brought none = sym (none refl)
handed_is false [] none = refl
handed_is false (x ∷ xs) none = refl

no_rise : (a b : Bool) → a ≡ b → (a && not b) ≡ true → ⊥
no_rise true true is rises = cc
no_rise false b is rises = cc
no_rise true false is rises = cc

charged_ready : (octets : List ℕ) (m : Mux) → (charged octets m).ready ≡ m.ready
charged_ready [] m = refl
charged_ready (octet ∷ octets) m = search rules

with_credits_ready : (credits : Option ℕ) (m : Mux) → (with_credits credits m).ready ≡ m.ready
with_credits_ready None m = refl
with_credits_ready (Some n) m = search rules

stands_ready : (octets : List ℕ) (closed : Option MuxReason) (m : Mux) → (if_stands (charged octets) closed m).ready ≡ m.ready
stands_ready octets None m = charged_ready octets m
stands_ready octets (Some reason) m = refl

data_ready : (m : Mux) (f : PlainFrame) → m.closed ≡ None → (hears_data f m).closed ≡ None → is_ready (hears_data f m) ≡ is_ready m
data_ready m f standing stands =
    let x : Mux = hears_data f m in
    let t = data_turns m f stands in
    let same : x.ready ≡ m.ready = stands_ready f.octets (with_credits f.credits m).closed (with_credits f.credits m) ∙ with_credits_ready f.credits m in
    ap (λ (r : Readiness). is_both r && (is_none x.closed && (is_open x.user && not (is_ended x.control)))) same
    ∙ ap (λ (o : Option MuxReason). is_both m.ready && (is_none o && (is_open x.user && not (is_ended x.control)))) (stands ∙ sym standing)
    ∙ ap (λ (dlc : Dlc). is_both m.ready && (is_none m.closed && (is_open dlc && not (is_ended x.control)))) t.user_is
    ∙ ap (λ (dlc : Dlc). is_both m.ready && (is_none m.closed && (is_open m.user && not (is_ended dlc)))) t.control_is

-- information on the open channel does not open it
uih_rises : (m : Mux) (f : PlainFrame) (w : Mux) (a b : Bool) → m.closed ≡ None → (cond a w (cond b (hears_data f m) m)).closed ≡ None
    → (is_ready (cond a w (cond b (hears_data f m) m)) && not (is_ready m)) ≡ true → cond (not a && b) f.octets [] ≡ []
uih_rises m f w true b standing stands rises = refl
uih_rises m f w false true standing stands rises = absurd (no_rise (is_ready (hears_data f m)) (is_ready m) (data_ready m f standing stands) rises)
uih_rises m f w false false standing stands rises = refl

-- what is handed up of a frame of each kind
silent_of : (m : Mux) (f : PlainFrame) (kind : MuxKind) → f.kind ≡ kind → carries kind ≡ false → data_of f m ≡ []
silent_of m f kind is none = silent_kind f.kind (ap carries is ∙ none)
  where
    silent_kind : (k : MuxKind) → carries k ≡ false → data_kind k f m ≡ []
    silent_kind Sabm mute = refl
    silent_kind Ua mute = refl
    silent_kind Dm mute = refl
    silent_kind Disc mute = refl
    silent_kind Uih mute = let never : true ≡ false = mute in cc

uih_data : (m : Mux) (f : PlainFrame) → f.kind ≡ Uih → data_of f m ≡ cond (not (f.dlci == 0) && ((f.dlci == m.dlci) && may_pass m)) f.octets []
uih_data m f is = ap (λ (k : MuxKind). data_kind k f m) is

-- a data frame does not make it ready
rises_not : (m : Mux) (f : PlainFrame) (kind : MuxKind) → f.kind ≡ kind → m.closed ≡ None → (hears_kind kind f m).closed ≡ None → (is_ready (hears_kind kind f m) && not (is_ready m)) ≡ true → data_of f m ≡ []
rises_not m f Sabm is standing stands rises = silent_of m f Sabm is refl
rises_not m f Ua is standing stands rises = silent_of m f Ua is refl
rises_not m f Dm is standing stands rises = silent_of m f Dm is refl
rises_not m f Disc is standing stands rises = silent_of m f Disc is refl
rises_not m f Uih is standing stands rises = uih_data m f is ∙ uih_rises m f (hears_messages (messages f.octets) m) (f.dlci == 0) ((f.dlci == m.dlci) && may_pass m) standing stands rises

-- what is handed up is what the frame brings
brings_if : (a b pass : Bool) (octets : List ℕ) → (a ≡ true → b ≡ false) → cond (not a && (b && pass)) octets [] ≡ cond pass (cond (b && true) octets []) []
brings_if true true pass octets one = let never : true ≡ false = one refl in cc
brings_if true false pass octets one = sym (cond_same pass [])
brings_if false true true octets one = refl
brings_if false true false octets one = refl
brings_if false false true octets one = refl
brings_if false false false octets one = refl

pub silent_brings : (m : Mux) (f : PlainFrame) → carries f.kind ≡ false → cond (carries_on (lines_of m)) (information m.dlci (other_role m.role) (record { from = other_role m.role; frame = f })) [] ≡ []
silent_brings m f none =
    ap (λ (b : Bool). cond (carries_on (lines_of m)) (cond (is_role (other_role m.role) (other_role m.role) && ((f.dlci == m.dlci) && b)) f.octets []) []) none
    ∙ ap (λ (b : Bool). cond (carries_on (lines_of m)) (cond (is_role (other_role m.role) (other_role m.role) && b) f.octets []) []) (and_false (f.dlci == m.dlci))
    ∙ ap (λ (b : Bool). cond (carries_on (lines_of m)) (cond b f.octets []) []) (and_false (is_role (other_role m.role) (other_role m.role)))
    ∙ cond_same (carries_on (lines_of m)) []

brings : (m : Mux) (f : PlainFrame) (kind : MuxKind) → f.kind ≡ kind → 0 < m.dlci → m.closed ≡ None
    → data_of f m ≡ cond (carries_on (lines_of m)) (information m.dlci (other_role m.role) (record { from = other_role m.role; frame = f })) []
brings m f Sabm is some standing = silent_of m f Sabm is refl ∙ sym (silent_brings m f (ap carries is))
brings m f Ua is some standing = silent_of m f Ua is refl ∙ sym (silent_brings m f (ap carries is))
brings m f Dm is some standing = silent_of m f Dm is refl ∙ sym (silent_brings m f (ap carries is))
brings m f Disc is some standing = silent_of m f Disc is refl ∙ sym (silent_brings m f (ap carries is))
brings m f Uih is some standing =
    let pass_is : may_pass m ≡ carries_on (lines_of m) = ap (λ (c : Option MuxReason). is_none c && carries_on (lines_of m)) standing in
    uih_data m f is
    ∙ ap (λ (b : Bool). cond (not (f.dlci == 0) && ((f.dlci == m.dlci) && b)) f.octets []) pass_is
    ∙ brings_if (f.dlci == 0) (f.dlci == m.dlci) (carries_on (lines_of m)) f.octets (apart f.dlci m.dlci some)
    ∙ ap (λ (b : Bool). cond (carries_on (lines_of m)) (cond ((f.dlci == m.dlci) && b) f.octets []) []) (sym (ap carries is))
    ∙ ap (λ (b : Bool). cond (carries_on (lines_of m)) (cond (b && ((f.dlci == m.dlci) && carries f.kind)) f.octets []) []) (sym (same_role (other_role m.role)))

-- ---- one deed

-- a side with another multiplexer, and one frame of the peer more
heard_reads : (side : Side) (f : PlainFrame) (m' : Mux) (octets : List ℕ) → m'.role ≡ side.mux.role
    → Turns side.mux (turning (other_role side.mux.role) f.kind (f.dlci == 0) f.pf side.mux.control) (turning (other_role side.mux.role) f.kind (f.dlci == side.mux.dlci) f.pf side.mux.user)
    (side.mux.account.held + granted_by side.mux.dlci side.mux.role (lines_of side.mux) (record { from = other_role side.mux.role; frame = f })) m'
    → octets ≡ cond (carries_on (lines_of side.mux)) (information side.mux.dlci (other_role side.mux.role) (record { from = other_role side.mux.role; frame = f })) []
    → Reads side.mux.dlci side.mux.role side
    → Reads side.mux.dlci side.mux.role (record { mux = m'; talk = side.talk ++ record { from = other_role side.mux.role; frame = f } ∷ []; got = side.got ++ octets })
heard_reads side f m' octets same t comes r =
    let m : Mux = side.mux in
    let peer : Role = other_role m.role in
    let fr : Framed = record { from = peer; frame = f } in
    let c : Connections = connections_of m.dlci no_connections side.talk in
    record {
      connections = ap (λ (dlc : Dlc). record { control = dlc; user = m'.user }) t.control_is
          ∙ ap (λ (dlc : Dlc). record { control = passing 0 fr m.control; user = dlc }) t.user_is
          ∙ ap (λ (lines : Connections). connections_after m.dlci lines fr) r.connections
          ∙ sym (lines_more m.dlci no_connections side.talk fr);
      octets = ap (λ (xs : List ℕ). xs ++ octets) r.octets
          ∙ ap (λ (xs : List ℕ). carried m.dlci peer no_connections side.talk ++ xs)
          (comes ∙ ap (λ (lines : Connections). cond (carries_on lines) (information m.dlci peer fr) []) r.connections)
          ∙ sym (carried_more m.dlci peer no_connections side.talk fr);
      credits = granted_more m.dlci m.role no_connections side.talk fr
          ∙ ap (λ (lines : Connections). granted m.dlci m.role no_connections side.talk + granted_by m.dlci m.role lines fr) (sym r.connections)
          ∙ sums (granted m.dlci m.role no_connections side.talk) (spent m.dlci m.role side.talk) (spent m.dlci m.role (side.talk ++ fr ∷ [])) m.account.held (granted_by m.dlci m.role (lines_of m) fr) m'.account.held
          r.credits (spent_more m.dlci m.role side.talk fr ∙ ap (λ (n : ℕ). spent m.dlci m.role side.talk + n) (peer_spends m.dlci m.role f)) t.held_is;
    }
  where
    sums : (g s s' h n h' : ℕ) → g ≡ s + h → s' ≡ s + 0 → h' ≡ h + n → g + n ≡ s' + h'
    sums g s s' h n h' is same' held = omega arith

pub record Next (side side' : Side) : Type 0 where
  pub role_is : side'.mux.role ≡ side.mux.role
  pub dlci_is : side'.mux.dlci ≡ side.mux.dlci
  pub reads : Reads side.mux.dlci side.mux.role side'
  pub quiet : AllQuiet side.mux.dlci side'.mux.answers

hears_is : (m : Mux) (f : PlainFrame) → m.closed ≡ None → hears_answer (Ok f) m ≡ hears_kind f.kind f m
hears_is m f standing = ap (λ (c : Option MuxReason). hears_frame c f m) standing

pub heard_next : (side : Side) (a : Answer) → 0 < side.mux.dlci → side.mux.closed ≡ None → AnswerFindsRoom a side.mux → (hears_answer a side.mux).closed ≡ None
    → Reads side.mux.dlci side.mux.role side → AllQuiet side.mux.dlci side.mux.answers
    → (hears_answer a side.mux).role ≡ side.mux.role → (hears_answer a side.mux).dlci ≡ side.mux.dlci
    → Next side (record {
      mux = hears_answer a side.mux;
      talk = side.talk ++ heard_frame (other_role side.mux.role) a;
      got = side.got ++ handed (news side.mux.closed (hears_answer a side.mux).closed (is_ready (hears_answer a side.mux) && not (is_ready side.mux)) (read_data a side.mux));
    })
heard_next side (Err refusal) some standing room stands r all role_is dlci_is =
    let never : Some reasons.BadFrame ≡ None = sym (ap (λ (c : Option MuxReason). (if_stands (closes reasons.BadFrame) c side.mux).closed) standing) ∙ stands in
    cc
heard_next side (Ok f) some standing room stands r all role_is dlci_is =
    let m : Mux = side.mux in
    let m' : Mux = hears_answer (Ok f) m in
    let is : m' ≡ hears_kind f.kind f m = hears_is m f standing in
    let stands' : (hears_kind f.kind f m).closed ≡ None = ap (λ (x : Mux). x.closed) (sym is) ∙ stands in
    let t = subst (λ (x : Mux). Turns m (turning (other_role m.role) f.kind (f.dlci == 0) f.pf m.control) (turning (other_role m.role) f.kind (f.dlci == m.dlci) f.pf m.user)
    (m.account.held + granted_by m.dlci m.role (lines_of m) (record { from = other_role m.role; frame = f })) x) (sym is) (moved m f f.kind refl some standing room stands') in
    let flag : Bool = is_ready m' && not (is_ready m) in
    let up_is : handed (news m.closed m'.closed flag (data_of f m)) ≡ data_of f m =
    ap (λ (c : Option MuxReason). handed (news c m'.closed flag (data_of f m))) standing ∙ ap (λ (c : Option MuxReason). handed (news None c flag (data_of f m))) stands
    ∙ handed_is flag (data_of f m) (λ rises. rises_not m f f.kind refl standing stands' (ap (λ (x : Mux). is_ready x && not (is_ready m)) (sym is) ∙ rises)) in
    record {
      role_is = role_is;
      dlci_is = dlci_is;
      reads = heard_reads side f m' (handed (news m.closed m'.closed flag (data_of f m))) role_is t (up_is ∙ brings m f f.kind refl some standing) r;
      quiet = t.quiet all;
    }

-- a call that changes nothing of what is read
plain_next : (side : Side) (b : Bool) (x : Mux) → x.role ≡ side.mux.role → x.dlci ≡ side.mux.dlci → lines_of x ≡ lines_of side.mux → x.account ≡ side.mux.account → x.answers ≡ side.mux.answers
    → Reads side.mux.dlci side.mux.role side → AllQuiet side.mux.dlci side.mux.answers → Next side (record { mux = cond b x side.mux; talk = side.talk; got = side.got })
plain_next side false x r d l a w reads all = record { role_is = refl; dlci_is = refl; reads = reads; quiet = all }
plain_next side true x r d l a w reads all = record {
  role_is = r;
  dlci_is = d;
  reads = record { connections = l ∙ reads.connections; octets = reads.octets; credits = reads.credits ∙ ap (λ (k : Credits). spent side.mux.dlci side.mux.role side.talk + k.held) (sym a) };
  quiet = subst (λ (xs : List PlainFrame). AllQuiet side.mux.dlci xs) (sym w) all;
}

sends_next : (side : Side) (octets : List ℕ) → Reads side.mux.dlci side.mux.role side → AllQuiet side.mux.dlci side.mux.answers → Next side (done (Sends octets) side)
sends_next side octets reads all =
    plain_next side (may_pass side.mux) (sends octets side.mux) (search rules) (search rules) (search rules) (search rules) (search rules) reads all

said_next : (side : Side) (o : Option Said) → SaysGives side.mux o → (said_by o side).mux.role ≡ side.mux.role → (said_by o side).mux.dlci ≡ side.mux.dlci
    → Reads side.mux.dlci side.mux.role side → AllQuiet side.mux.dlci side.mux.answers → Next side (said_by o side)
said_next side o g role_is dlci_is r all = record { role_is = role_is; dlci_is = dlci_is; reads = said_at side o g r; quiet = said_quiet side o g all }

pub said_keeps : (side : Side) (o : Option Said) → (said_by o side).mux ≡ after_said o side.mux
said_keeps side None = refl
said_keeps side (Some said) = refl

pub one_deed : (deed : Deed) (side : Side) → 0 < side.mux.dlci → side.mux.closed ≡ None → DeedFindsRoom deed side.mux → (done deed side).mux.closed ≡ None
    → Reads side.mux.dlci side.mux.role side → AllQuiet side.mux.dlci side.mux.answers → Next side (done deed side)
one_deed (Hears sdu) side some standing room stands r all =
    let kept = hears_keeps sdu side.mux in
    heard_next side (frame_answer sdu) some standing room stands r all kept.0 kept.1
one_deed Says side some standing room stands r all =
    let kept = next_keeps side.mux in
    let is = said_keeps side (next side.mux) in
    said_next side (next side.mux) (next_gives side.mux some all) (ap (λ (x : Mux). x.role) is ∙ kept.0) (ap (λ (x : Mux). x.dlci) is ∙ kept.1) r all
one_deed (Sends octets) side some standing room stands r all = sends_next side octets r all
one_deed Leaves side some standing room stands r all =
    plain_next side (is_none side.mux.closed && not (is_leaving side.mux.asks)) (record side.mux { asks = Due LeaveUser }) refl refl refl refl refl r all

-- ---- all deeds

was_open : (deed : Deed) (side : Side) (c : Option MuxReason) → side.mux.closed ≡ c → (done deed side).mux.closed ≡ None → side.mux.closed ≡ None
was_open deed side None is stands = is
was_open deed side (Some reason) is stands = let never : Some reason ≡ None = sym (done_shut reason deed side is) ∙ stands in cc

all_open : (deeds : List Deed) (side : Side) → (all_done deeds side).mux.closed ≡ None → side.mux.closed ≡ None
all_open [] side stands = stands
all_open (deed ∷ deeds) side stands = was_open deed side side.mux.closed refl (all_open deeds (done deed side) stands)

lead : (d : ℕ) (role : Role) (deeds : List Deed) (side : Side) → side.mux.dlci ≡ d → side.mux.role ≡ role → 0 < d → (all_done deeds side).mux.closed ≡ None → AlwaysRoom deeds side
    → Reads d role side → AllQuiet d side.mux.answers → Reads d role (all_done deeds side)
lead d role [] side d_is r_is some stands room reads all = reads
lead d role (deed ∷ deeds) side d_is r_is some stands room reads all =
    let m : Mux = side.mux in
    let here : Reads m.dlci m.role side = subst (λ (k : ℕ). Reads k m.role side) (sym d_is) (subst (λ (x : Role). Reads d x side) (sym r_is) reads) in
    let quiet : AllQuiet m.dlci m.answers = subst (λ (k : ℕ). AllQuiet k m.answers) (sym d_is) all in
    let then = all_open deeds (done deed side) stands in
    let step = one_deed deed side (omega arith) (all_open (deed ∷ deeds) side stands) room.0 then here quiet in
    lead d role deeds (done deed side) (step.dlci_is ∙ d_is) (step.role_is ∙ r_is) some stands room.1
    (subst (λ (k : ℕ). Reads k role (done deed side)) d_is (subst (λ (x : Role). Reads m.dlci x (done deed side)) r_is step.reads))
    (subst (λ (k : ℕ). AllQuiet k (done deed side).mux.answers) d_is step.quiet)

pub sides-read : SidesRead
sides-read role dlci largest own cap deeds some stands room =
    lead dlci role deeds (new_side role dlci largest own cap) refl refl some stands room (record { connections = refl; octets = refl; credits = refl }) tt
