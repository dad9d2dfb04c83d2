-- The information that a side sent is all read.
use Rattle.std.proofs.Common.{arith, ◌≡◌, inl, inr, ◌<◌, ℕ, Bool, true, false, cond, List, [], ◌∷◌, ◌++◌, Option, Some, None, Ok, Err, refl, sym, ap, subst, ◌∙◌, append-nil}
use Rattle.rfcomm_frames.specs.declared.connection.Role.{Role}
use Rattle.rfcomm_frames.specs.Answers.{Answer}
use Rattle.rfcomm_frames.specs.FrameReading.{frame_answer}
use Rattle.rfcomm_frames.specs.Connections.{other_role}
use Rattle.rfcomm_frames.specs.Multiplexing.{Framed, no_connections, information, carries_on, carried}
use Rattle.rfcomm_frames.specs.Ending.{no_course, has_last, to_closing}
use Rattle.rfcomm_model.specs.declared.state.MuxReason.{MuxReason}
use Rattle.rfcomm_model.specs.Machine.{Mux}
use Rattle.rfcomm_model.specs.Saying.{Said, next}
use Rattle.rfcomm_model.specs.Sides.{Deed, Hears, Says, Sends, Leaves, Side, heard_frame, said_by, done, all_done, new_side, AlwaysRoom, connections_of}
use Rattle.rfcomm_model.specs.Taken.{taken_of, all_sent}
use Rattle.rfcomm_model.proofs.Stepping.{cond_same}
use Rattle.rfcomm_model.proofs.Reading.{carried_more}
use Rattle.rfcomm_model.proofs.Taking.{SaysPasses, says_passes, Goes, next_goes, sent_more, peer_sends}
use Rattle.rfcomm_model.proofs.Ended.{to_all, to_more, to_over, StateAs, next_as, new_follows, done_keeps}

-- what is read of the own frames is what was sent
abbrev pub Owns : ℕ → Role → List Framed → Type 0
Owns d role fs = carried d role no_connections (to_closing d role no_course fs) ≡ all_sent d role fs

-- a frame more has no information, or comes while octets are carried
data IsOwned (d : ℕ) (role : Role) (fs : List Framed) (f : Framed) : Type 0 where
  silent : information d role f ≡ [] → IsOwned d role fs f
  carrying : has_last d role no_course fs ≡ false → carries_on (connections_of d no_connections fs) ≡ true → IsOwned d role fs f

silent_owns : (d : ℕ) (role : Role) (fs : List Framed) (f : Framed) (last : Bool) → has_last d role no_course fs ≡ last → information d role f ≡ [] → Owns d role fs
    → carried d role no_connections (to_closing d role no_course (fs ++ f ∷ [])) ≡ all_sent d role fs
silent_owns d role fs f true is none owns = ap (carried d role no_connections) (to_over d role no_course fs (f ∷ []) is) ∙ owns
silent_owns d role fs f false is none owns =
    let open_ : Bool = carries_on (connections_of d no_connections fs) in
    ap (carried d role no_connections) (to_more d role no_course fs f is)
    ∙ (carried_more d role no_connections fs f
    ∙ (ap (λ (xs : List ℕ). carried d role no_connections fs ++ cond open_ xs []) none
    ∙ (ap (λ (xs : List ℕ). carried d role no_connections fs ++ xs) (cond_same open_ [])
    ∙ (append-nil (carried d role no_connections fs) ∙ (ap (carried d role no_connections) (sym (to_all d role no_course fs is)) ∙ owns)))))

owns_more : (d : ℕ) (role : Role) (fs : List Framed) (f : Framed) → IsOwned d role fs f → Owns d role fs → Owns d role (fs ++ f ∷ [])
owns_more d role fs f (silent none) owns =
    silent_owns d role fs f (has_last d role no_course fs) refl none owns
    ∙ sym (sent_more d role fs f ∙ (ap (λ (xs : List ℕ). all_sent d role fs ++ xs) none ∙ append-nil (all_sent d role fs)))
owns_more d role fs f (carrying none here) owns =
    ap (carried d role no_connections) (to_more d role no_course fs f none)
    ∙ (carried_more d role no_connections fs f
    ∙ (ap (λ (b : Bool). carried d role no_connections fs ++ cond b (information d role f) []) here
    ∙ (ap (λ (xs : List ℕ). xs ++ information d role f) (ap (carried d role no_connections) (sym (to_all d role no_course fs none)) ∙ owns)
    ∙ sym (sent_more d role fs f))))

-- ---- a deed

heard_owns : (d : ℕ) (role : Role) (a : Answer) (fs : List Framed) → Owns d role fs → Owns d role (fs ++ heard_frame (other_role role) a)
heard_owns d role (Ok f) fs owns = owns_more d role fs (record { from = other_role role; frame = f }) (silent (peer_sends d role f)) owns
heard_owns d role (Err refusal) fs owns = subst (Owns d role) (sym (append-nil fs)) owns

-- octets pass where it is open
open_carries : (side : Side) (closed : Option MuxReason) (f : Framed) → side.mux.closed ≡ closed → side.mux.closed ≡ None → StateAs closed side.mux.dlci side.mux.role side
    → carries_on (record { control = side.mux.control; user = side.mux.user }) ≡ true → IsOwned side.mux.dlci side.mux.role side.talk f
open_carries side None f is none s here = carrying s.none (ap carries_on (sym s.reads.connections) ∙ here)
open_carries side (Some reason) f is none s here = let never : Some reason ≡ None = sym is ∙ none in cc

said_owns : (side : Side) (o : Option Said) → SaysPasses side.mux o → StateAs side.mux.closed side.mux.dlci side.mux.role side → Owns side.mux.dlci side.mux.role side.talk → Owns side.mux.dlci side.mux.role (said_by o side).talk
said_owns side None p s owns = owns
said_owns side (Some said) p s owns =
    let fr : Framed = record { from = side.mux.role; frame = said.frame } in
    elim p.flow [
      | inl still ↦ owns_more side.mux.dlci side.mux.role side.talk fr (silent still.0) owns
      | inr gone ↦ owns_more side.mux.dlci side.mux.role side.talk fr (open_carries side side.mux.closed fr refl gone.0 s gone.3) owns
    ]

done_owns : (deed : Deed) (side : Side) (taken : List ℕ) → 0 < side.mux.dlci → Goes side.mux.dlci side.mux.role side taken → StateAs side.mux.closed side.mux.dlci side.mux.role side
    → Owns side.mux.dlci side.mux.role side.talk → Owns side.mux.dlci side.mux.role (done deed side).talk
done_owns (Hears sdu) side taken some g s owns = heard_owns side.mux.dlci side.mux.role (frame_answer sdu) side.talk owns
done_owns Says side taken some g s owns = said_owns side (next side.mux) (says_passes side.mux.answers side.mux some g.quiet g.quiet) s owns
done_owns (Sends octets) side taken some g s owns = owns
done_owns Leaves side taken some g s owns = owns

-- ---- all deeds

-- what is kept of a side
record Keeps (d : ℕ) (role : Role) (side : Side) : Type 0 where
  dlci_is : side.mux.dlci ≡ d
  role_is : side.mux.role ≡ role
  taken : List ℕ
  goes : Goes side.mux.dlci side.mux.role side taken
  state : StateAs side.mux.closed side.mux.dlci side.mux.role side
  owns : Owns side.mux.dlci side.mux.role side.talk

keeps_next : (d : ℕ) (role : Role) (deed : Deed) (side : Side) → 0 < d → AlwaysRoom (deed ∷ []) side → Keeps d role side → Keeps d role (done deed side)
keeps_next d role deed side some room k =
    let m : Mux = side.mux in
    let after : Side = done deed side in
    let kept = done_keeps deed side in
    let on : 0 < m.dlci = omega (arith, some, k.dlci_is) in
    let moved : (P : ℕ → Role → Type 0) → P m.dlci m.role → P after.mux.dlci after.mux.role =
    λ P p. subst (λ (n : ℕ). P n after.mux.role) (sym kept.1) (subst (λ (r : Role). P m.dlci r) (sym kept.0) p) in
    record {
      dlci_is = kept.1 ∙ k.dlci_is;
      role_is = kept.0 ∙ k.role_is;
      taken = k.taken ++ taken_of deed m;
      goes = moved (λ n r. Goes n r after (k.taken ++ taken_of deed m)) (next_goes deed side k.taken on k.goes);
      state = moved (λ n r. StateAs after.mux.closed n r after) (next_as deed side m.closed refl on room.0 k.state);
      owns = moved (λ n r. Owns n r after.talk) (done_owns deed side k.taken on k.goes k.state k.owns);
    }

all_keep : (d : ℕ) (role : Role) (deeds : List Deed) (side : Side) → 0 < d → AlwaysRoom deeds side → Keeps d role side → Keeps d role (all_done deeds side)
all_keep d role [] side some room k = k
all_keep d role (deed ∷ deeds) side some room k = all_keep d role deeds (done deed side) some room.1 (keeps_next d role deed side some (room.0, tt) k)

pub all_own : (role : Role) (dlci largest own cap : ℕ) (deeds : List Deed) → 0 < dlci → AlwaysRoom deeds (new_side role dlci largest own cap)
    → Owns dlci role (all_done deeds (new_side role dlci largest own cap)).talk
all_own role dlci largest own cap deeds some room =
    let new = new_side role dlci largest own cap in
    let start : Keeps dlci role new = record {
      dlci_is = refl;
      role_is = refl;
      taken = [];
      goes = record { quiet = tt; sends = record { rest = []; front = refl; waits = λ e. refl } };
      state = new_follows role dlci largest own cap;
      owns = refl;
    } in
    let k = all_keep dlci role deeds new some room start in
    let talk : List Framed = (all_done deeds new).talk in
    subst (λ (n : ℕ). Owns n role talk) k.dlci_is (subst (λ (r : Role). Owns (all_done deeds new).mux.dlci r talk) k.role_is k.owns)
