-- A server keeps what its multiplexer owes, and its responses, while it is asked for what it sends.
use Rattle.std.proofs.Common.{◌≡◌, ◌&&◌, ℕ, Bool, true, false, List, [], ◌∷◌, ◌++◌, Option, Some, None, Ok, refl, sym, ap, subst, ◌∙◌}
use Rattle.std.specs.Prelude.{not}
use Rattle.std.proofs.lemmas.Bool.{cond_both}
use Rattle.push_laws.specs.link_talk.specs.bt_base.specs.Octets.{IsOctets}
use Rattle.push_laws.specs.push_model.specs.declared.outlet.Outlet.{Outlet}
use Rattle.push_laws.specs.push_model.specs.declared.outlet.Outlet.TheVariants.{Records, Direct, Muxed}
use Rattle.push_laws.specs.push_model.specs.rfcomm_frames.specs.declared.connection.Role.TheVariants.{Responder}
use Rattle.push_laws.specs.push_model.specs.rfcomm_frames.specs.Answers.{Answer}
use Rattle.push_laws.specs.push_model.specs.rfcomm_frames.specs.FrameReading.{frame_answer, is_empty}
use Rattle.push_laws.specs.push_model.specs.rfcomm_frames.specs.Frames.{PlainFrame}
use Rattle.push_laws.specs.push_model.specs.rfcomm_frames.specs.Multiplexing.{Passed}
use Rattle.push_laws.specs.push_model.specs.rfcomm_frames.proofs.FrameReading.{spelled_answered}
use Rattle.push_laws.specs.push_model.specs.rfcomm_model.specs.Machine.{Mux, is_ready}
use Rattle.push_laws.specs.push_model.specs.rfcomm_model.specs.Saying.{Said, next}
use Rattle.push_laws.specs.push_model.specs.Payloads.{Framed, IsSaid}
use Rattle.push_laws.specs.push_model.specs.Server.{Server, Lent, filled, said_on, breaks_now, left_by, leaves_with, framed_by, framed, outlet_of, lends_new, lends_by, frame_lent, lent_by, taken_by, rfcomm_psm}
use Rattle.push_laws.specs.Occurrences.{Occurrence, Went}
use Rattle.push_laws.specs.Readings.{passed_by}
use Rattle.push_laws.proofs.Frames.{mux_said, frame_said}
use Rattle.push_laws.proofs.Readings.{read_more, read_same}
use Rattle.carried_laws.specs.Orderly.{passed_on}
use Rattle.carried_laws.specs.Standing.{Standing, start, goes, passes_as, passes, stands_from, standing}
use Rattle.carried_laws.proofs.Owing.{Owes, said_owes, went_owes, sends_owe, tells_next}
use Rattle.carried_laws.proofs.Replying.{Replies, said_replies, went_replies, filled_replies}

pub record Kept (s : Standing) (requests : ℕ) (server : Server) : Type 0 where
  pub owes : Owes s server.mux server.frame
  pub replies : Replies s requests server.mux server.frame server.listener.service.answer
  pub unbroken : server.listener.breaks ≡ false

-- of a server with these
pub kept_by : (s : Standing) (n : ℕ) (server : Server) (m : Mux) (frame : Option PlainFrame) (answer : List ℕ) → server.mux ≡ m → server.frame ≡ frame → server.listener.service.answer ≡ answer → server.listener.breaks ≡ false → Owes s m frame
    → Replies s n m frame answer → Kept s n server
kept_by s n server m frame answer mux_is frame_is answer_is unbroken owes replies = record {
  owes = subst (λ (x : Mux). Owes s x server.frame) (sym mux_is) (subst (Owes s m) (sym frame_is) owes);
  replies = subst (λ (x : Mux). Replies s n x server.frame server.listener.service.answer) (sym mux_is)
      (subst (λ (x : Option PlainFrame). Replies s n m x server.listener.service.answer) (sym frame_is) (subst (Replies s n m frame) (sym answer_is) replies));
  unbroken = unbroken;
}

-- while none of its frames waits
record Free (s : Standing) (requests : ℕ) (server : Server) : Type 0 where
  owes : Owes s server.mux None
  replies : Replies s requests server.mux None server.listener.service.answer
  unbroken : server.listener.breaks ≡ false

module _ (s : Standing) (n : ℕ) where
  -- ---- it is asked for what it sends

  filled_free : (server : Server) → Free s n server → Free s n (filled server)
  filled_free server f =
      let answer : List ℕ = server.listener.service.answer in
      cond_both (is_ready server.mux && not (is_empty answer)) _ _ (Free s n)
      (λ ready. record { owes = sends_owe s server.mux None answer f.owes; replies = filled_replies s n server.mux None answer f.replies; unbroken = f.unbroken })
      (λ busy. f)

  said_kept : (o : Option Said) (server : Server) → Owes s (mux_said o server.mux) (frame_said o) → Replies s n (mux_said o server.mux) (frame_said o) server.listener.service.answer → server.listener.breaks ≡ false → Kept s n (said_on o server)
  said_kept None server owes replies unbroken = record { owes = owes; replies = replies; unbroken = unbroken }
  said_kept (Some said) server owes replies unbroken = record { owes = owes; replies = replies; unbroken = unbroken }

  breaks_not : (a b : Bool) → a ≡ false → (a && b) ≡ true → ⊥
  breaks_not true b is both = let never : true ≡ false = is in cc
  breaks_not false b is both = let never : false ≡ true = both in cc

  goes_kept : (o : Option Said) (server : Server) → next server.mux ≡ o → Free s n server → Kept s n (leaves_with o server)
  goes_kept None server is f =
      let quiet : Server = said_on None server in
      cond_both (breaks_now quiet) (left_by quiet) quiet (Kept s n) (λ now. absurd (breaks_not server.listener.breaks (is_empty server.listener.service.answer) f.unbroken now))
      (λ later. said_kept None server f.owes f.replies f.unbroken)
  goes_kept (Some said) server is f =
      said_kept (Some said) server (said_owes s server.mux (Some said) is f.owes) (said_replies s n server.mux (Some said) server.listener.service.answer (tells_next s server.mux (Some said) is f.owes) f.replies) f.unbroken

  framed_kept : (o : Option PlainFrame) (server : Server) → server.frame ≡ o → Kept s n server → Kept s n (framed_by o server)
  framed_kept None server is k =
      goes_kept (next (filled server).mux) (filled server) refl (filled_free server (record {
        owes = subst (Owes s server.mux) is k.owes;
        replies = subst (λ (x : Option PlainFrame). Replies s n server.mux x server.listener.service.answer) is k.replies;
        unbroken = k.unbroken;
      }))
  framed_kept (Some frame) server is k = k

  new_kept : (server : Server) → Kept s n server → Kept s n (lends_new server)
  new_kept server k =
      let full : Server = framed server in
      let v = framed_kept server.frame server refl k in
      cond_both (is_empty server.reply && is_empty server.listener.service.response) (record full { lent = outlet_of full }) (record server { lent = outlet_of server }) (Kept s n)
      (λ none. record { owes = v.owes; replies = v.replies; unbroken = v.unbroken })
      (λ some. record { owes = k.owes; replies = k.replies; unbroken = k.unbroken })

  pub asked_kept : (o : Option Outlet) (server : Server) → Kept s n server → Kept s n (lends_by o server)
  asked_kept None server k = new_kept server k
  asked_kept (Some outlet) server k = k

-- ---- with one more that passes

pub stands_more : (s : Standing) (passed : List Passed) (p : Passed) → stands_from s (passed ++ p ∷ []) ≡ passes p (stands_from s passed)
stands_more s [] p = refl
stands_more s (first ∷ passed) p = stands_more (passes first s) passed p

-- ---- what it lends goes

same_lent : (a b : Lent) → Some a ≡ Some b → a ≡ b
same_lent a b e = cc

no_lent : (lent : Lent) → None ≡ Some lent → ⊥
no_lent lent e = cc

module _ (past : List Occurrence) (n : ℕ) where
  abbrev now : Standing
  now = standing (passed_on past)

  abbrev Behind : ℕ → List ℕ → Server → Type 0
  Behind psm sdu server = Kept (standing (passed_on (past ++ Went psm sdu ∷ []))) n server

  frame_went : (sdu : List ℕ) (server : Server) (f : PlainFrame) → server.frame ≡ Some f → IsSaid (Framed f) sdu → IsOctets sdu → Kept now n server → Behind rfcomm_psm sdu (record server { frame = None; lent = None })
  frame_went sdu server f is said octets k =
      let read : frame_answer sdu ≡ Ok f = spelled_answered f sdu octets said.spelling in
      let stands : standing (passed_on (past ++ Went rfcomm_psm sdu ∷ [])) ≡ goes f now =
      ap standing (read_more passed_by rfcomm_psm past (Went rfcomm_psm sdu) refl)
      ∙ stands_more start (passed_on past) (record { from = Responder; sdu = sdu }) ∙ ap (λ (a : Answer). passes_as Responder a now) read in
      subst (λ (x : Standing). Kept x n (record server { frame = None; lent = None })) (sym stands) (record {
        owes = went_owes now server.mux f (subst (Owes now server.mux) is k.owes);
        replies = went_replies now n server.mux f server.listener.service.answer (subst (λ (o : Option PlainFrame). Replies now n server.mux o server.listener.service.answer) is k.replies);
        unbroken = k.unbroken;
      })

  muxed_went : (psm : ℕ) (sdu : List ℕ) (server : Server) (lent : Lent) (o : Option PlainFrame) → server.frame ≡ o → frame_lent o ≡ Some lent → lent.psm ≡ psm → IsSaid lent.payload sdu → IsOctets sdu → Kept now n server
      → Behind psm sdu (record server { frame = None; lent = None })
  muxed_went psm sdu server lent None is e p said octets k = absurd (no_lent lent e)
  muxed_went psm sdu server lent (Some f) is e p said octets k =
      let same = same_lent (record { psm = rfcomm_psm; payload = Framed f }) lent e in
      subst (λ (i : ℕ). Behind i sdu (record server { frame = None; lent = None })) (ap (λ (l : Lent). l.psm) same ∙ p) (frame_went sdu server f is (subst (λ (l : Lent). IsSaid l.payload sdu) (sym same) said) octets k)

  aside_went : (psm : ℕ) (sdu : List ℕ) (server : Server) → passed_by (Went psm sdu) ≡ None → Kept now n server → Behind psm sdu server
  aside_went psm sdu server none k = subst (λ (ps : List Passed). Kept (standing ps) n server) (sym (read_same passed_by rfcomm_psm past (Went psm sdu) refl none)) k

  pub went_kept : (o : Option Outlet) (psm : ℕ) (sdu : List ℕ) (server : Server) (lent : Lent) → lent_by o server ≡ Some lent → lent.psm ≡ psm → IsSaid lent.payload sdu → IsOctets sdu → Kept now n server → Behind psm sdu (taken_by o server)
  went_kept None psm sdu server lent e p said octets k = absurd (no_lent lent e)
  went_kept (Some Muxed) psm sdu server lent e p said octets k = muxed_went psm sdu server lent server.frame refl e p said octets k
  went_kept (Some Records) psm sdu server lent e p said octets k =
      subst (λ (i : ℕ). Behind i sdu (taken_by (Some Records) server)) (ap (λ (l : Lent). l.psm) (same_lent _ lent e) ∙ p)
      (aside_went 0x0001 sdu (taken_by (Some Records) server) refl (record { owes = k.owes; replies = k.replies; unbroken = k.unbroken }))
  went_kept (Some Direct) psm sdu server lent e p said octets k =
      subst (λ (i : ℕ). Behind i sdu (taken_by (Some Direct) server)) (ap (λ (l : Lent). l.psm) (same_lent _ lent e) ∙ p)
      (aside_went 0x1001 sdu (taken_by (Some Direct) server) refl (record { owes = k.owes; replies = k.replies; unbroken = k.unbroken }))
