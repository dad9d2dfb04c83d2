-- What comes up of an enhanced channel is a front of what the other host's channel took.
use Rattle.std.proofs.Common.{◌≡◌, ℕ, List, inl, sym, subst}
use Rattle.own_channel_laws.specs.talk_laws.specs.l2cap_config.specs.declared.wish.Mode.TheVariants.{Enhanced}
use Rattle.own_channel_laws.specs.talk_laws.specs.link_talk.specs.declared.channel.Channel.{Channel}
use Rattle.own_channel_laws.specs.talk_laws.specs.link_talk.specs.Carriages.{mode_of}
use Rattle.own_channel_laws.specs.talk_laws.specs.capture.specs.declared.flow.Flow.TheVariants.{Out}
use Rattle.own_channel_laws.specs.talk_laws.specs.link_talk.specs.Sdus.{sdus}
use Rattle.own_channel_laws.specs.channel_model.specs.Policies.{Policy}
use Rattle.own_channel_laws.specs.channel_model.specs.Carrying.{Up}
use Rattle.own_channel_laws.specs.Runs.{Occurrence, Run, sdus_up}
use Rattle.channel_laws.specs.Pairs.{Pair, Near, Far, turned, pair_of}
use Rattle.channel_laws.specs.Common.{mirrored}
use Rattle.channel_laws.specs.Pipes.{IsFront, IsPipe}
use Rattle.channel_laws.specs.Taken.{taken_of}
use Rattle.channel_laws.specs.Delivered.{IsRunBy, IsDelivered, TakenIsDelivered, IsWholeFront, WishedIsDelivered}
use Rattle.channel_laws.proofs.Bonds.{Bond, bond-of}
use Rattle.channel_laws.proofs.Joining.{Terms, other_terms}
use Rattle.channel_laws.proofs.Piped.{frames_said, Piped}
use Rattle.channel_laws.proofs.Piping.{tells-pipe}
use Rattle.own_channel_laws.specs.Endpoints.{IsOf}
use Rattle.own_channel_laws.specs.Views.{read_at}
use Rattle.own_channel_laws.specs.talk_laws.specs.ertm_frames.specs.Joining.{sdus_of}
use Rattle.own_channel_laws.specs.talk_laws.specs.ertm_frames.specs.Picking.{picked}
use Rattle.own_channel_laws.specs.channel_model.specs.ertm_model.proofs.Standing.{swapped}
use Rattle.own_channel_laws.specs.talk_laws.specs.link_talk.specs.Channels.{reading}
use Rattle.own_channel_laws.specs.talk_laws.specs.link_talk.specs.declared.party.Party.{Party}
use Rattle.channel_laws.proofs.Flowing.{front-of_front, turned-piped, piped-by, terms_of, enhanced-are_pipes}
use Rattle.channel_laws.proofs.Taken.{taken-said, taken-goes_out}

delivered : (policy : Policy) (sent : Channel) (run : Run) (list : List Occurrence) (own : ℕ) (ups : List Up) → IsRunBy policy run list → IsPipe sent run.said own ups → IsDelivered policy sent run list own ups
delivered policy sent run list own ups runs pipe party states mode =
    front-of_front (sdus_up own ups) (sdus party sent Out run.said) (taken_of policy sent.own list) (pipe party mode)
    (subst (λ (r : Run). IsFront (sdus party sent Out r.said) (taken_of policy sent.own list)) (sym runs.run_is)
    (taken-goes_out policy party list sent states runs.uttered (subst (λ (r : Run). mode_of sent r.said ≡ Enhanced) runs.run_is mode)))

pub taken-is_delivered : TakenIsDelivered
taken-is_delivered near far turns channel one other fair read carried have can near_by far_by =
    let pair : Pair = pair_of near far turns in
    let (near_pipe, far_pipe) = enhanced-are_pipes near far turns channel fair read carried have can in (
      delivered far (mirrored channel) pair.far.run other channel.own pair.near.run.up far_by near_pipe,
      delivered near channel pair.near.run one channel.peer pair.far.run.up near_by far_pipe,
    )

-- ---- in whatever mode the talk has it

-- what came up is a front of what the frames of the other say
front_said : (t : Terms) (channel : Channel) (pair : Pair) (party : Party) → Piped party t channel pair → IsFront (sdus_up channel.own pair.near.run.up) (sdus_of (picked 0 (frames_said party (mirrored channel) pair.far.run.said)))
front_said t channel pair party h =
    let said = frames_said party (mirrored channel) pair.far.run.said in
    front-of_front (sdus_up channel.own pair.near.run.up) h.pair.a.up (sdus_of (picked 0 said)) h.near_at.front (tells-pipe t.mine.receive_mps h.pair.b h.pair.a said (swapped h.joins.stands) h.joins.far_tells)

whole_front : (policy : Policy) (t : Terms) (channel : Channel) (pair : Pair) (list : List Occurrence) → IsRunBy policy pair.far.run list → (policy.wish channel.psm).mode ≡ Enhanced → IsOf (mirrored channel) (read_at channel.peer (reading pair.far.run.said).entries)
    → ((party : Party) → Piped party t channel pair) → IsWholeFront policy (mirrored channel) list channel.own pair.near.run.up
whole_front policy t channel pair list runs mode has piped party states =
    let said = frames_said party (mirrored channel) pair.far.run.said in
    front-of_front (sdus_up channel.own pair.near.run.up) (sdus_of (picked 0 said)) (taken_of policy channel.peer list) (front_said t channel pair party (piped party))
    (subst (λ (r : Run). IsFront (sdus_of (picked 0 (frames_said party (mirrored channel) r.said))) (taken_of policy channel.peer list)) (sym runs.run_is)
    (taken-said policy party list (mirrored channel) states runs.uttered (subst (λ (r : Run). IsOf (mirrored channel) (read_at channel.peer (reading r.said).entries)) runs.run_is has) mode))

pub wished-is_delivered : WishedIsDelivered
wished-is_delivered near far turns channel one other fair read carried have can near_mode far_mode near_by far_by = (
  whole_front far t channel pair other far_by far_mode have.far_has piped,
  whole_front near (other_terms t) (mirrored channel) (turned pair) one near_by near_mode have.near_has (λ party. turned-piped party t channel pair (piped party)),
)
  where
    pair : Pair
    pair = pair_of near far turns

    near_bond : Bond near far turns Near channel.psm channel.own
    near_bond = bond-of near far turns read Near channel have.near_has can.near_can can.far_can

    far_bond : Bond near far turns Far channel.psm channel.peer
    far_bond = bond-of near far turns read Far (mirrored channel) have.far_has can.far_can can.near_can

    t : Terms
    t = terms_of near far turns channel near_bond far_bond

    piped : (party : Party) → Piped party t channel pair
    piped party = piped-by near far turns fair read carried channel have can near_bond far_bond (inl near_mode) party
