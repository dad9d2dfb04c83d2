-- A client hears a frame of the multiplexer.
use Rattle.std.proofs.Common.{◌≡◌, ◌≤◌, ℕ, List, ◌++◌, length, sym, ap, subst, ◌∙◌}
use Rattle.push_model.specs.rfcomm_model.specs.Hearing.{Up, bytes, up, hears}
use Rattle.push_model.specs.rfcomm_model.specs.Machine.{Mux}
use Rattle.push_model.specs.rfcomm_model.proofs.Keeping.{hears_keeps}
use Rattle.push_model.specs.Client.{Client}
use Rattle.push_model.specs.Responding.{hears_stream, hears_up, hears_frame}
use Rattle.push_client.specs.Talking.{placed}
use Rattle.push_client.specs.declared.dialog.Dialog.{Dialog}

-- its octets are those of the stream of responses
pub octets_heard : (client : Client) (sdu octets : List ℕ) (mux : Mux) (old new : Dialog) (held : List ℕ) → placed old client.held client ≡ client → up sdu client.mux ≡ bytes octets → mux ≡ hears sdu client.mux
    → ((any : Client) → hears_stream (length (client.held ++ octets)) (client.held ++ octets) (placed old client.held any) ≡ placed new held any)
    → placed new held (record client { mux = mux }) ≡ hears_frame sdu client
octets_heard client sdu octets mux old new held same brings after heard =
    let next : Mux → Client = λ m. record client { mux = m } in
    ap (λ (m : Mux). placed new held (next m)) after
    ∙ sym (heard (next (hears sdu client.mux)))
    ∙ ap (λ (x : Client). hears_stream (length (client.held ++ octets)) (client.held ++ octets) (record x { mux = hears sdu client.mux })) same
    ∙ ap (λ (u : Up). hears_up u (next (hears sdu client.mux))) (sym brings)

pub still_largest : (sdu : List ℕ) (old new : Mux) → new ≡ hears sdu old → 23 ≤ old.largest → 23 ≤ new.largest
still_largest sdu old new is most = subst (λ (n : ℕ). 23 ≤ n) (sym (ap (λ (m : Mux). m.largest) is ∙ (hears_keeps sdu old).2)) most
