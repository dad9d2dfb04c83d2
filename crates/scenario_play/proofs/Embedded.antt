-- A machine that keeps more goes as the one that it is.
use Rattle.std.proofs.Common.{◌≡◌, ℕ, List, Some, refl, sym, ap, ◌∙◌}
use Rattle.noting_laws.specs.world_model.specs.Machines.{Upper, Linked, Up}
use Rattle.noting_laws.specs.turn_laws.specs.Premises.{SaysFrames, Idles}
use Rattle.noting_laws.specs.rest_laws.specs.Premises.{AsksOnce, AreOrderly}
use Rattle.radio_world.specs.run_laws.specs.Embedding.{said_as, Embeds}
use Rattle.noting_laws.specs.alike_laws.proofs.Alike.{AreAlike}

module _ {S S' G : Type 0} (embed : S → S') (U : Upper S G) (V : Upper S' G) (e : Embeds embed U V) where
  said_there : (s : S) (pdu : List ℕ) (after : S) → U.next s ≡ Some (pdu, after) → V.next (embed s) ≡ Some (pdu, embed after)
  said_there s pdu after is = e.next s ∙ ap (said_as embed) is

  pub alike_of : AreAlike (λ s t. t ≡ embed s) U V
  alike_of = record {
    hear = λ answers news s t is. (answers, ap (V.hear answers news) is ∙ e.hear answers news s);
    says = λ s t is pdu after next. (embed after, refl, ap V.next is ∙ said_there s pdu after next);
    silent = λ s t is none. ap V.next is ∙ e.next s ∙ ap (said_as embed) none;
    wants_link = λ s t is. ap V.wants_link is ∙ e.wants_link s;
    leaves_link = λ s t is. ap V.leaves_link is ∙ e.leaves_link s;
    is_idle = λ s t is. ap V.is_idle is ∙ e.is_idle s;
    outcome = λ s t is. ap V.outcome is ∙ e.outcome s;
    armed = λ s t is. ap V.armed is ∙ e.armed s;
    may_cancel = λ s t is. ap V.may_cancel is ∙ e.may_cancel s;
    has_check = λ s t own is. ap (λ x. V.has_check x own) is ∙ e.has_check s own;
  }

  pub frames_of : SaysFrames V → SaysFrames U
  frames_of frames s pdu after is = frames (embed s) pdu (embed after) (said_there s pdu after is)

  pub idles_of : embed U.first ≡ V.first → Idles V → Idles U
  idles_of first idles = record {
    first = sym (e.is_idle U.first) ∙ ap V.is_idle first ∙ idles.first;
    wants_none = λ s is. sym (e.wants_link s) ∙ idles.wants_none (embed s) (e.is_idle s ∙ is);
    hears = λ answers news s aside is.
        sym (e.is_idle (U.hear answers news s)) ∙ sym (ap V.is_idle (e.hear answers news s)) ∙ idles.hears answers news (embed s) aside (e.is_idle s ∙ is);
    says = λ s pdu after next is. sym (e.is_idle after) ∙ idles.says (embed s) pdu (embed after) (said_there s pdu after next) (e.is_idle s ∙ is);
  }

  pub once_of : AsksOnce V → AsksOnce U
  once_of once = record {
    comes = λ answers s. sym (e.wants_link (U.hear answers (Linked Up) s)) ∙ sym (ap V.wants_link (e.hear answers (Linked Up) s)) ∙ once.comes answers (embed s);
    hears = λ answers news s aside none.
        sym (e.wants_link (U.hear answers news s)) ∙ sym (ap V.wants_link (e.hear answers news s)) ∙ once.hears answers news (embed s) aside (e.wants_link s ∙ none);
    says = λ s pdu after next none. sym (e.wants_link after) ∙ once.says (embed s) pdu (embed after) (said_there s pdu after next) (e.wants_link s ∙ none);
  }

-- two machines are orderly where those that they are are
pub orderly_of : {S S' T T' G H : Type 0} (embed_a : S → S') (embed_b : T → T') (U : Upper S G) (U' : Upper S' G) (V : Upper T H) (V' : Upper T' H) → Embeds embed_a U U' → Embeds embed_b V V' → embed_a U.first ≡ U'.first
    → AreOrderly U' V' → AreOrderly U V
orderly_of embed_a embed_b U U' V V' e f first orderly = record {
  frames_a = frames_of embed_a U U' e orderly.frames_a;
  frames_b = frames_of embed_b V V' f orderly.frames_b;
  idles = idles_of embed_a U U' e first orderly.idles;
  once = once_of embed_a U U' e orderly.once;
}
