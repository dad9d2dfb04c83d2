-- What a reader has heard of the links of host b.
use Rattle.std.specs.Prelude.{◌≡◌, List, map}
use Rattle.std.specs.List.{flat_map}
use Rattle.push_terms.specs.declared.word.Side.TheVariants as sides
use Rattle.capture.specs.Entries.{Entry}
use Rattle.link_talk.specs.declared.party.Party.{Party}
use Rattle.link_readers.specs.talk_laws.specs.CapturePass.{HeldLinks, held_links}
use Rattle.object_lines.specs.declared.objects.Hearer.{Hearer}
use Rattle.object_lines.specs.Tallies.{Told, plain_told}
use Rattle.object_lines.specs.Passes.{Telling, no_telling, telling_after}
use Rattle.object_lines.specs.Held.{plain_links}

-- what is held of its links behind these entries
abbrev pub links_of_b : Party → List Entry → HeldLinks Telling
links_of_b party past = held_links (telling_after party) no_telling sides.B past

-- what was told on links
abbrev pub told_on : List Telling → List Told
told_on tellings = flat_map (λ (one : Telling). one.told) tellings

-- Behind these entries it holds the link that is up, and has told of the objects of those that ended.
pub record IsHeard (party : Party) (past : List Entry) (hearer : Hearer) : Type 0 where
  pub links : plain_links (links_of_b party past).past hearer.links ≡ links_of_b party past
  pub told : map plain_told hearer.found.items ≡ told_on (links_of_b party past).past
