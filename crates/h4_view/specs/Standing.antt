-- What a view has come to, between two pieces of its input (this project's own).
use Rattle.std.specs.Prelude.{ℕ, ◌≡◌, ◌<◌, ◌≤◌, List, [], length, Option, None, IfSome, Result, Ok, Err}
use Rattle.bt_base.specs.Streams.{gained}
use Rattle.h4_framing.specs.Packets.{Packet, spellings}
use Rattle.h4_framing.specs.Framing.{Framing}
use Rattle.h4_framing.specs.Accounts.{Accounts}
use Rattle.h4_view.specs.declared.refusal.ViewFault.{ViewFault}
use Rattle.h4_view.specs.declared.raw.Progress.{Progress}
use Rattle.h4_view.specs.declared.raw.Progress.TheVariants.{More, Ended}
use Rattle.h4_view.specs.declared.links.Links.{Links}
use Rattle.h4_view.specs.Details.{Knows}
use Rattle.h4_view.specs.Lines.{lines}
use Rattle.h4_view.specs.View.{acl_limit, input_limit, Took, ShowsAll}

-- Octets were taken of the input, and their whole packets have their lines in the sink.
pub record Standing (input left old new : Option (List ℕ)) (framing : Framing) (links : Links) (offset fed : ℕ) : Type 0 where
  pub octets : List ℕ
  pub packets : List Packet
  pub took : Took input left octets
  pub count : length octets ≡ fed
  pub within : fed ≤ input_limit
  pub accounts : Accounts octets packets framing
  pub keeps : framing.limit ≡ acl_limit
  pub sound : framing.fault ≡ None
  pub moves : offset ≡ length (spellings packets)
  pub knows : Knows packets links
  pub written : new ≡ gained old (lines [] 0 packets)

-- One piece more was read and shown, or the view ended: from each standing it leads to the next one, or to the
-- view of the whole input.
abbrev pub Steps : Option (List ℕ) → Option (List ℕ) → Option (List ℕ) → Option (List ℕ) → Framing → Framing → Links → Links → ℕ → ℕ → ℕ → ℕ → Result Progress ViewFault → Type 0
Steps left left' new new' framing framing' links links' offset offset' fed fed' (Ok More) =
    (fed < fed') × ((input old : Option (List ℕ)) → Standing input left old new framing links offset fed → Standing input left' old new' framing' links' offset' fed')
Steps left left' new new' framing framing' links links' offset offset' fed fed' (Ok (Ended verdict)) =
    (input old : Option (List ℕ)) → Standing input left old new framing links offset fed → IfSome input (λ all. ShowsAll all left' old new' (Ok verdict))
Steps left left' new new' framing framing' links links' offset offset' fed fed' (Err fault) =
    (input old : Option (List ℕ)) → Standing input left old new framing links offset fed → IfSome input (λ all. ShowsAll all left' old new' (Err fault))
