-- What is said first is sent.
use Rattle.std.proofs.Common.{◌≡◌, ℕ, List, Option, Some, None, true, refl, ap, subst, ◌∙◌}
use Rattle.rfcomm_frames.specs.declared.connection.Role.{Role}
use Rattle.rfcomm_frames.specs.Controls.{pn}
use Rattle.rfcomm_model.specs.declared.state.Command.TheVariants.{Agree}
use Rattle.rfcomm_model.specs.Written.{control_frame}
use Rattle.rfcomm_model.specs.Hearing.{own_credits}
use Rattle.rfcomm_model.specs.Machine.{Mux}
use Rattle.rfcomm_model.specs.Saying.{Said, first_of, after_said, frame_of_command}
use Rattle.rfcomm_mux.specs.Sent.{IsWritten, Sends}

pub first_sends : (a b : Option Said) (old new : Mux) (n : ℕ) (before after : List ℕ) → Sends a old new (Some n) before after → Sends (first_of a b) old new (Some n) before after
first_sends None b old new n before after s = absurd s.some
first_sends (Some said) b old new n before after s = s

second_at : (a : Option Said) (b : Mux → Option Said) (old new : Mux) (r : Option ℕ) (before after : List ℕ) → a ≡ None → Sends (b old) old new r before after → Sends (first_of a (b old)) old new r before after
second_at None b old new r before after none s = s
second_at (Some said) b old new r before after none s = cc

pub second_sends : (a : Option Said) (b : Mux → Option Said) (old mid new : Mux) (r : Option ℕ) (before between after : List ℕ)
    → Sends a old mid None before between → Sends (b mid) mid new r between after → Sends (first_of a (b old)) old new r before after
second_sends a b old mid new r before between after s t =
    let same : mid ≡ old = s.machine ∙ after_none a old s.none.0 in
    second_at a b old new r before after s.none.0
    (subst (λ (xs : List ℕ). Sends (b old) old new r xs after) s.none.1 (subst (λ (m : Mux). Sends (b m) m new r between after) same t))
  where
    after_none : (a' : Option Said) (m : Mux) → a' ≡ None → after_said a' m ≡ m
    after_none None m none = refl
    after_none (Some said) m none = cc

-- a PN command with the numbers of a multiplexer is its own
pub offer_is : (n : ℕ) (octets : List ℕ) (m : Mux) (role : Role) (dlci own credits : ℕ) → role ≡ m.role → dlci ≡ m.dlci → own ≡ m.own → credits ≡ own_credits m
    → IsWritten n octets (control_frame role (pn true dlci 0xF0 0 0 own 0 credits)) → IsWritten n octets (frame_of_command Agree m)
offer_is n octets m role dlci own credits r d o k is =
    let frame_is : control_frame role (pn true dlci 0xF0 0 0 own 0 credits) ≡ frame_of_command Agree m =
    ap (λ (x : Role). control_frame x (pn true dlci 0xF0 0 0 own 0 credits)) r
    ∙ ap (λ (x : ℕ). control_frame m.role (pn true x 0xF0 0 0 own 0 credits)) d
    ∙ ap (λ (x : ℕ). control_frame m.role (pn true m.dlci 0xF0 0 0 x 0 credits)) o
    ∙ ap (λ (x : ℕ). control_frame m.role (pn true m.dlci 0xF0 0 0 m.own 0 x)) k in
    subst (IsWritten n octets) frame_is is
