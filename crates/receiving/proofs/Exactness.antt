-- Turn for turn a host puts out exactly what its packets and the answers of its port lead to.
use Rattle.std.proofs.Common.{◌≡◌, ◌∙◌, ℕ, Bool, List, [], ◌∷◌, refl, sym, ap, ap₂}
use Rattle.std.specs.Prelude.{Option, Some, None}
use mathlib.Core.Path.{fun_ext}
use Rattle.h4_framing.specs.Packets.{Packet}
use Rattle.bt_host.specs.host_model.specs.Circumstances.{Circumstance}
use Rattle.bt_host.specs.host_model.specs.Profiles.{Profile}
use Rattle.receiving.specs.Turns.{Stand, Posture, Turn, HearsIn, HasTurn, HasTurns, emptied, answers_heard}
use Rattle.receiving.specs.Exactness.{back_out, heard_out, prompted, says_along, stands_behind, prompt_of, prompts_of, AreExact}

module _ {S : Type 0} (A : Profile S) where
  heard_exactly : (packet : Option Packet) (full : Bool) (between after : Stand S) (hears : HearsIn A packet full between after) → after ≡ heard_out A packet (answers_heard A packet full between after hears) between
  heard_exactly None full between after hears = hears.1
  heard_exactly (Some packet) full between after hears = fun_ext (λ rest. sym (hears.0.moves.exactly rest))

  turned_exactly : (turn : Turn) (old new : Posture S) (one : HasTurn A turn old new) → one.after ≡ prompted A (prompt_of A turn old new one) old.stands
  turned_exactly turn old new one =
      let back : one.between ≡ back_out A one.back.used old.stands = fun_ext (λ rest. sym (one.back.exactly rest)) in
      heard_exactly turn.packet old.full one.between one.after one.hears ∙ ap (heard_out A turn.packet (answers_heard A turn.packet old.full one.between one.after one.hears)) back

  pub turns_are_exact : (turns : List Turn) (old new : Posture S) (has : HasTurns A turns old new) → AreExact A turns (prompts_of A turns old new has) old.stands new.stands
  turns_are_exact [] old new has = record { said = refl; stands = ap (λ (p : Posture S). p.stands) has }
  turns_are_exact (turn ∷ turns) old new (mid, one, more) =
      let after = turned_exactly turn old mid one in
      let there : mid.stands ≡ (λ rest. emptied (prompted A (prompt_of A turn old mid one) old.stands rest)) = one.stands ∙ ap (λ (s : Stand S). λ (rest : List Circumstance). emptied (s rest)) after in
      let then = turns_are_exact turns mid new more in
      let prompts = prompts_of A turns mid new more in
      record {
        said = ap₂ (λ (xs : List ℕ) (xss : List (List ℕ)). xs ∷ xss) (sym (one.says []) ∙ ap (λ (s : Stand S). (s []).line.out) after) (then.said ∙ ap (says_along A prompts) there);
        stands = then.stands ∙ ap (stands_behind A prompts) there;
      }
