use Rattle.seen_channels.specs.declared.direction.Direction.TheVariants.{Out, In}
use Rattle.seen_channels.proofs.channels.Channels.new.Goals as goal

pub returns : goal.returns
returns c = record {
  list = c.new.ensures.items;
  outward = record { requests = c.new-2.ensures.requests; places = c.new-2.ensures.places Out };
  inward = record { requests = c.new-3.ensures.requests; places = c.new-3.ensures.places In };
}
