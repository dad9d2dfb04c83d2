-- What one host and its controller become when a piece or an answer comes in.
use Rattle.std.proofs.Common.{◌≡◌, ◌⊎◌, ℕ, ◌≤◌, Bool, true, false, List, [], ◌∷◌, ◌++◌, Option, refl, sym, ap, ◌∙◌, inl, inr, subst}
use Rattle.std.proofs.lemmas.Bool.{eq-eqb}
use Rattle.world_model.specs.acl_fragments.specs.Pieces.{Piece, starts}
use Rattle.world_model.specs.acl_fragments.specs.Answers.{Answer as Joined, Pdu, More, Dropped, answer}
use Rattle.world_model.specs.radio_model.specs.Controllers.{Answer, Controller}
use Rattle.world_model.specs.Machines.{Heard, Upper}
use Rattle.world_model.specs.Talks.{Talk, Told}
use Rattle.world_model.specs.Carriages.{End, Arrival}
use Rattle.world_model.specs.Stations.{Station, longest_pdu, gives, holds, whole_in, is_handle, hears_each, hears_piece}
use Rattle.turn_laws.proofs.Joining.{completions, EndsOnce}
use Rattle.turn_laws.proofs.Leading.{Tiding, tidings, tiding_in, events, Led}
use Rattle.world_model.specs.capture.specs.declared.flow.Flow.TheVariants.{Into}
use Rattle.world_model.specs.PerLink.{linkage}
use Rattle.turn_laws.proofs.Linkages.{as_was, heard_more, linkage_one, moved_none}
use Rattle.turn_laws.proofs.Wiring.{IsListening, Awaits, Ends}
use Rattle.turn_laws.proofs.Stationing.{linked_handle, Steady, end_of, Proceeds}

-- ---- a piece comes in

abbrev pub with_coming : List Piece → Controller → Controller
with_coming coming one = record one { coming = coming }

pub handle_is : (up : Bool) (told number : ℕ) (link : Option ℕ) → up ≡ true → told ≡ number → link ≡ linked_handle up told → is_handle number link ≡ true
handle_is true told number link up here is = ap (λ (l : Option ℕ). is_handle number l) is ∙ eq-eqb told number here
handle_is false told number link up here is = cc

pub listening : {S G : Type 0} (U : Upper S G) (up : Bool) (told number : ℕ) (upper : S) (pieces coming : List Piece) (piece : Piece) (rest : List Piece) → coming ≡ piece ∷ rest
    → (coming ≡ []) ⊎ IsListening U up told number upper pieces → IsListening U up told number upper pieces
listening U up told number upper pieces coming piece rest first either = elim either [ inl none ↦ cc | inr listens ↦ listens ]

abbrev pub with_piece_heard : {S G : Type 0} → Upper S G → List G → Piece → Station S → Station S
with_piece_heard U answers piece station = record station { upper = hears_each U answers (gives longest_pdu station.joining piece) station.upper; joining = holds longest_pdu station.joining piece }

whole_cases : (judged : Joined) → (whole_in judged ≡ []) ⊎ ((pdu : List ℕ) × (whole_in judged ≡ pdu ∷ []))
whole_cases (Pdu channel octets) = inr (octets, refl)
whole_cases More = inl refl
whole_cases (Dropped reason) = inl refl

pub hears_piece_steady :
    {S G : Type 0} (U : Upper S G) (number : ℕ) (together : Bool) (extra : ℕ) (one : Controller) (old : Station S) (talk : List Talk) (answers : List G) (piece : Piece) (rest : List Piece) → one.coming ≡ piece ∷ rest
    → Steady U number together extra one old → Proceeds U (heard_more (gives longest_pdu old.joining piece)) number together extra one old talk (with_coming rest one) (hears_piece U answers number piece old)
hears_piece_steady {S} U number together extra one old talk answers piece rest first steady =
    let listens = listening U one.up one.told number old.upper old.pieces one.coming piece rest first steady.incoming.listens in
    let here : is_handle number old.link ≡ true = handle_is one.up one.told number old.link listens.on listens.here steady.link in
    let once : EndsOnce longest_pdu old.joining (piece ∷ rest) = subst (λ (l : List Piece). EndsOnce longest_pdu old.joining l) first steady.incoming.once in
    let e : End S = end_of one old talk in
    let coming : e.coming ≡ gives longest_pdu old.joining piece ++ completions longest_pdu (holds longest_pdu old.joining piece) rest = ap (λ (l : List Piece). completions longest_pdu old.joining l) first in
    let heard : Station S = with_piece_heard U answers piece old in
    rw here (elim (whole_cases (answer longest_pdu old.joining (starts piece.boundary) piece.octets)) [
      | inl none ↦
          let same : heard.upper ≡ old.upper = ap (λ (l : List (List ℕ)). hears_each U answers l old.upper) none in
          let comes : completions longest_pdu heard.joining rest ≡ e.coming = sym (coming ∙ ap (λ (l : List (List ℕ)). l ++ completions longest_pdu heard.joining rest) none) in
          record {
            steady = record {
              led = steady.led;
              link = steady.link;
              long = steady.long;
              off = steady.off;
              wired = steady.wired;
              incoming = record { once = once.1; listens = inr (subst (λ (s : S). IsListening U one.up one.told number s old.pieces) (sym same) listens) };
              awaits = steady.awaits;
              ends = subst (λ (s : S). Ends U one.told one.up old.waiting old.out old.pieces s) (sym same) steady.ends;
            };
            motions = [];
            talk' = talk;
            links = sym (ap (λ (l : List (List ℕ)). heard_more l (linkage talk)) none ∙ moved_none Into (linkage talk));
            goes = λ i. record e { upper = same i; coming = comes i };
          }
      | inr some ↦
          let pdu = some.0 in
          let same : heard.upper ≡ U.hear answers (Heard pdu) old.upper = ap (λ (l : List (List ℕ)). hears_each U answers l old.upper) some.1 in
          let last : rest ≡ [] = elim once.0 [ inl none ↦ (let one_is = some.1 in cc) | inr end ↦ end ] in
          let none : completions longest_pdu heard.joining rest ≡ [] = ap (λ (l : List Piece). completions longest_pdu heard.joining l) last in
          let comes : e.coming ≡ pdu ∷ [] = coming ∙ ap (λ (l : List (List ℕ)). l ++ completions longest_pdu heard.joining rest) some.1 ∙ ap (λ (l : List (List ℕ)). pdu ∷ l) none in
          record {
            steady = record {
              led = steady.led;
              link = steady.link;
              long = steady.long;
              off = steady.off;
              wired = steady.wired;
              incoming = record { once = once.1; listens = inl last };
              awaits = steady.awaits;
              ends = record {
                within_waiting = steady.ends.within_waiting;
                within_out = steady.ends.within_out;
                leaving = λ up ends. let leaving = steady.ends.leaving up ends in let leaves = leaving.leaves in let stays = listens.stays in absurd cc;
                last = steady.ends.last;
                still = steady.ends.still;
              };
            };
            motions = Arrival pdu ∷ [];
            talk' = talk ++ Told (Heard pdu) ∷ [];
            links = linkage_one talk (Told (Heard pdu)) ∙ sym (ap (λ (l : List (List ℕ)). heard_more l (linkage talk)) some.1);
            goes = (
              record e { upper = U.hear answers (Heard pdu) e.upper; coming = []; talk = talk ++ Told (Heard pdu) ∷ [] },
              record { answers = answers; first = comes; is = refl },
              λ i. record e { upper = same i; coming = none i; talk = talk ++ Told (Heard pdu) ∷ [] },
            );
          }
    ])

-- ---- an answer that tells of no link comes in

abbrev pub with_owed : List Answer → Controller → Controller
with_owed owed one = record one { owed = owed }

pub rest_tidings : (owed rest : List Answer) (answer : Answer) → owed ≡ answer ∷ rest → tiding_in answer ≡ [] → tidings rest ≡ tidings owed
rest_tidings owed rest answer first plain = sym (ap tidings first ∙ ap (λ (l : List Tiding). l ++ tidings rest) plain)

-- what nothing that is kept here depends on
abbrev pub altered : {S : Type 0} → Option ℕ → (size total outstanding : ℕ) → Station S → Station S
altered awaited size total outstanding station = record station { awaited = awaited; size = size; total = total; outstanding = outstanding }

pub altered_proceeds :
    {S G : Type 0} (U : Upper S G) (number : ℕ) (together : Bool) (extra : ℕ) (one : Controller) (old : Station S) (talk : List Talk) (rest : List Answer) (awaited : Option ℕ) (size total outstanding : ℕ)
    → tidings rest ≡ tidings one.owed → 27 ≤ size → Steady U number together extra one old
    → Proceeds U as_was number together extra one old talk (with_owed rest one) (altered awaited size total outstanding old)
altered_proceeds U number together extra one old talk rest awaited size total outstanding same long steady = record {
  steady = record {
    led = subst (λ (l : List Tiding). Led one.told one.up l number together) (sym same) steady.led;
    link = steady.link;
    long = long;
    off = steady.off;
    wired = steady.wired;
    incoming = steady.incoming;
    awaits = subst (λ (l : List Tiding). Awaits extra l old.waiting old.out old.asked) (sym same) steady.awaits;
    ends = steady.ends;
  };
  motions = [];
  talk' = talk;
  links = refl;
  goes = λ i. record (end_of one old talk) { owed = events (same i) };
}
