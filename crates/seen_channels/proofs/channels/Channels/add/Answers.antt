use Rattle.std.proofs.Common.{◌≡◌, List, [], ◌∷◌, ◌++◌, length, ap, ◌∙◌, arith}
use Rattle.seen_channels.specs.declared.direction.Direction.TheVariants.{Out, In}
use Rattle.seen_channels.specs.declared.channel.Channel.{Channel}
use Rattle.seen_channels.proofs.Places.{length-oldest_first}
use Rattle.seen_channels.proofs.Keeping.{places_more}
use Rattle.seen_channels.proofs.channels.Channels.add.Goals as goal

pub returns : goal.returns
returns c learnt keeps =
    let size : c.len-place.result ≡ length learnt.channels = omega (arith, c.len-place.ensures, ap length keeps.list, length-oldest_first learnt.channels) in
    record {
      list = c.in_ok-push.ensures.items ∙ ap (λ (l : List Channel). l ++ c.args.channel ∷ []) keeps.list;
      outward = record {
        requests = keeps.outward.requests;
        places = λ cid. places_more Out c.args.channel.far _ cid learnt.channels _ _ size (c.in_ok-insert.ensures.updates.0 cid) (keeps.outward.places cid);
      };
      inward = record {
        requests = keeps.inward.requests;
        places = λ cid. places_more In c.args.channel.near _ cid learnt.channels _ _ size (c.in_ok-insert-2.ensures.updates.0 cid) (keeps.inward.places cid);
      };
    }
