-- What a response leaves of a session.
use Rattle.std.proofs.Common.{◌≡◌, ℕ, ◌==◌, Bool, true, false, List, Option, Some, None, is_some, Result, Ok, Err, IfSome, refl, ap, ◌∙◌, if◌then◌else◌}
use Rattle.obex_headers.specs.Reading.{packet_in}
use Rattle.obex_session.specs.Asking.{Asking, phase_of, awaited_code, limit_by, single_by, after_read, after_answer}
use Rattle.obex_session.specs.Marks.{marks_of}

by_option : {R : Type 0} (o : Option R) (P : Option R → Type 0) → P None → ((r : R) → P (Some r)) → P o
by_option None P none some = none
by_option (Some r) P none some = some r

by_result : {R E : Type 0} (read : Result R E) (P : Result R E → Type 0) → ((r : R) → P (Ok r)) → ((e : E) → P (Err e)) → P read
by_result (Ok r) P ok err = ok r
by_result (Err e) P ok err = err e

either : (test : Bool) (maximum : ℕ) (a b : Asking) → a.maximum ≡ maximum → b.maximum ≡ maximum → (if test then a else b).maximum ≡ maximum
either true maximum a b p q = p
either false maximum a b p q = q

-- a session takes packets of the same length behind a response
pub maximum_kept : (session new : Asking) (packet : List ℕ) → true ≡ is_some session.awaited → IfSome session.awaited (λ request. new ≡ after_answer session request packet) → new.maximum ≡ session.maximum
maximum_kept session new packet = by_option session.awaited (λ o. true ≡ is_some o → IfSome o (λ request. new ≡ after_answer session request packet) → new.maximum ≡ session.maximum)
    (λ waits after. absurd (let e : true ≡ false = waits in cc))
    (λ request waits after. ap (λ (s : Asking). s.maximum) after ∙ by_result (packet_in (phase_of request) session.maximum packet) (λ read. (after_read session request read).maximum ≡ session.maximum)
    (λ p. let marks = marks_of p.headers in
    let heard : Asking = record session { limit = limit_by request session.limit p.extra; single = single_by request session.wanted session.single marks; awaited = None } in
    let refused : Asking = record session { put = None; single = false; awaited = None } in
    either marks.parameters session.maximum session (if p.code == awaited_code request then heard else refused) refl (either (p.code == awaited_code request) session.maximum heard refused refl refl))
    (λ e. refl))
