-- Where memory is wanted for an ACL packet.
use Rattle.std.proofs.Common.{◌≡◌, ℕ, ◌+◌, ◌%◌, eqb, ◌≤◌, ◌||◌, ◌&&◌, Bool, true, cond, List, length, Option, Some, None, refl, sym, ap, subst, ◌∙◌, arith, inl, inr}
use Rattle.std.specs.Prelude.{nat_le}
use Rattle.std.proofs.lemmas.Bool.{or_right, or_left, or_cases, leb-true, le-leb}
use Rattle.h4_framing.specs.Packets.{Acl}
use Rattle.acl_fragments.specs.Pieces.{Piece}
use Rattle.push_terms.specs.declared.word.Side.{Side}
use Rattle.push_terms.specs.declared.word.Side.TheVariants as sides
use Rattle.radio_model.specs.Controllers.{Controller, after_giving_back}
use Rattle.radio_model.specs.Queues.{Queue, is_crowded}
use Rattle.radio_model.specs.Radio.{Radio, controller, knows_link, piece_from, with_piece, after_taking, after_acl}
use Rattle.radio_model.specs.Owed.{with_queues, piece_taken, owes_many, wants_memory}

waits_either : (b : Bool) (one other : Controller) (waiting : List (List ℕ)) → one.waiting ≡ waiting → other.waiting ≡ waiting → (cond b one other).waiting ≡ waiting
waits_either b one other waiting first second = elim b as (λ t. (cond t one other).waiting ≡ waiting) [ true ↦ first | _ ↦ second ]

-- a packet that is counted leaves the frames as they are
taken_waiting : (handle : ℕ) (one : Controller) → (after_taking handle one).waiting ≡ one.waiting
taken_waiting handle one =
    let one_more : Controller = record one { taken = one.taken + 1 } in
    let given : Controller = record (after_giving_back one) { taken = 1 } in
    waits_either (eqb handle one.told && nat_le 1 one.told) (cond (eqb one.taken 65535) given one_more) one one.waiting
    (waits_either (eqb one.taken 65535) given one_more one.waiting refl refl) refl

piece_waiting : (flies : Bool) (piece : Option Piece) (own other : Queue) (manager : Controller) → (with_piece flies piece (with_queues own other manager)).waiting ≡ (piece_taken flies piece own).waiting
piece_waiting flies None own other manager = refl
piece_waiting flies (Some piece) own other manager = refl

many_owed : (side : Side) (radio : Radio) → nat_le 16 (length (controller side radio).owed) ≡ true → owes_many 15 radio ≡ true
many_owed sides.A radio many = or_left (nat_le 15 (length radio.a.owed)) (nat_le 15 (length radio.b.owed)) (le-leb 15 (length radio.a.owed) (omega (arith, leb-true 16 (length radio.a.owed) many)))
many_owed sides.B radio many = or_right (nat_le 15 (length radio.a.owed)) (nat_le 15 (length radio.b.owed)) (le-leb 15 (length radio.b.owed) (omega (arith, leb-true 16 (length radio.b.owed) many)))

crowd_at : (side : Side) (word : ℕ) (octets : List ℕ) (radio : Radio)
    → is_crowded (with_piece (knows_link side radio) (piece_from (controller side radio) (Acl word octets)) (controller side radio)).waiting ≡ true → wants_memory radio (after_acl side word octets radio) ≡ true
crowd_at sides.A word octets radio crowded =
    or_right (owes_many 15 radio) (is_crowded (after_acl sides.A word octets radio).a.waiting || is_crowded (after_acl sides.A word octets radio).b.waiting) (or_left (is_crowded (after_acl sides.A word octets radio).a.waiting) (is_crowded (after_acl sides.A word octets radio).b.waiting) (subst (λ w. is_crowded w ≡ true) (sym (taken_waiting (word % 0x1000) (with_piece (knows_link sides.A radio) (piece_from radio.a (Acl word octets)) radio.a))) crowded))
crowd_at sides.B word octets radio crowded =
    or_right (owes_many 15 radio) (is_crowded (after_acl sides.B word octets radio).a.waiting || is_crowded (after_acl sides.B word octets radio).b.waiting) (or_right (is_crowded (after_acl sides.B word octets radio).a.waiting) (is_crowded (after_acl sides.B word octets radio).b.waiting) (subst (λ w. is_crowded w ≡ true) (sym (taken_waiting (word % 0x1000) (with_piece (knows_link sides.B radio) (piece_from radio.b (Acl word octets)) radio.b))) crowded))

pub carry_wants : (side : Side) (word : ℕ) (octets : List ℕ) (radio : Radio) (manager : Controller) (own other : Queue) (flies : Bool) → controller side radio ≡ with_queues own other manager → flies ≡ knows_link side radio
    → (nat_le 16 (length manager.owed) || is_crowded (piece_taken flies (piece_from manager (Acl word octets)) own).waiting) ≡ true → wants_memory radio (after_acl side word octets radio) ≡ true
carry_wants side word octets radio manager own other flies is flying wants =
    elim (or_cases (nat_le 16 (length manager.owed)) (is_crowded (piece_taken flies (piece_from manager (Acl word octets)) own).waiting) wants) [
      | inl many ↦ or_left (owes_many 15 radio) (is_crowded (after_acl side word octets radio).a.waiting || is_crowded (after_acl side word octets radio).b.waiting) (many_owed side radio (ap (λ c. nat_le 16 (length c.owed)) is ∙ many))
      | inr crowded ↦
          crowd_at side word octets radio
          (subst (λ c. is_crowded (with_piece (knows_link side radio) (piece_from c (Acl word octets)) c).waiting ≡ true) (sym is)
          (subst (λ b. is_crowded (with_piece b (piece_from manager (Acl word octets)) (with_queues own other manager)).waiting ≡ true) flying
          (subst (λ w. is_crowded w ≡ true) (sym (piece_waiting flies (piece_from manager (Acl word octets)) own other manager)) crowded)))
    ]
