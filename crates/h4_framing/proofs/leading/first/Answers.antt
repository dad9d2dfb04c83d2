use Rattle.std.proofs.Common.{◌≡◌, ◌≤◌, ◌<◌, ◌^◌, length, take, sym, ap, ◌∙◌, arith}
use Rattle.std.proofs.lemmas.List.{length-take-le}
use Rattle.bt_base.specs.Octets.{IsOctets}
use Rattle.h4_framing.specs.Extents.{extent}
use Rattle.h4_framing.specs.Packets.{packet}
use Rattle.h4_framing.specs.declared.extent.Extent.TheVariants.{Known}
use Rattle.h4_framing.proofs.OctetLists.{IsOctets-take}
use Rattle.h4_framing.proofs.ExtentLemmas.{known_take, whole_known, known_positive, known_unfinished, short_unfinished, refused_wrong}
use Rattle.h4_framing.proofs.SpellingLemmas.{spelled_packet}
use Rattle.h4_framing.proofs.leading.first.Goals as goal

pub returns-in-Refused : goal.returns-in-Refused
returns-in-Refused c = refused_wrong c.args.limit c.args.bytes.now c.in-Refused.refusal c.in-Refused.place (λ i. omega (arith, c.type_inv.bytes i)) (sym c.in-Refused.ensures)

pub unit_of-requires : goal.unit_of-requires
unit_of-requires c =
    let limit : c.args.limit < 2 ^ 16 = omega arith in
    whole_known c.args.limit c.args.bytes.now c.in-Known.length limit (sym c.in-Known.ensures) (omega arith)

pub returns-in-Known : goal.returns-in-Known
returns-in-Known c =
    let n = c.in-Known.length in
    let known : extent c.args.limit c.args.bytes.now ≡ Known n = sym c.in-Known.ensures in
    let le : n ≤ length c.args.bytes.now = omega arith in
    let fits : IsOctets (take n c.args.bytes.now) = IsOctets-take n c.args.bytes.now (λ i. omega (arith, c.type_inv.bytes i)) in
    let front : extent c.args.limit (take n c.args.bytes.now) ≡ Known (length (take n c.args.bytes.now)) = known_take c.args.limit c.args.bytes.now n known le ∙ ap Known (sym (length-take-le n c.args.bytes.now le)) in (
      spelled_packet c.args.limit (packet c.unit_of.result) (take n c.args.bytes.now) c.unit_of.ensures.number c.unit_of.ensures.spelling fits front,
      known_positive c.args.limit c.args.bytes.now n known,
      le,
      sym c.unit_of.ensures.spelling,
    )

pub returns-in-Known-2 : goal.returns-in-Known-2
returns-in-Known-2 c =
    known_unfinished c.args.limit c.args.bytes.now c.in-Known.length (sym c.in-Known.ensures) (λ i. omega (arith, c.type_inv.bytes i)) (omega arith)

pub returns-in-AtLeast : goal.returns-in-AtLeast
returns-in-AtLeast c =
    short_unfinished c.args.limit c.args.bytes.now c.in-AtLeast.field-0 c.requires (λ i. omega (arith, c.type_inv.bytes i)) (sym c.in-AtLeast.ensures)
