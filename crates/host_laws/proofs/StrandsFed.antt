-- What a profile goes through on its links, strand by strand.
use Rattle.std.proofs.Common.{◌≡◌, List, [], ◌∷◌, refl, sym, ap, ◌∙◌}
use Rattle.std.proofs.lemmas.List.Sums.{fold-append}
use Rattle.shelf_model.specs.acl_fragments.specs.Pieces.{channel_of}
use Rattle.channel_laws.specs.channel_model.specs.declared.event.ChannelEvent.{ChannelEvent}
use Rattle.channel_laws.specs.channel_model.specs.Carrying.{Up as Handed, Nothing, Received}
use Rattle.channel_laws.specs.channel_model.specs.Calls.{link_down}
use Rattle.channel_laws.specs.channel_model.specs.Hearing.{up}
use Rattle.channel_laws.specs.channel_model.specs.Value.{Channels, no_channels}
use Rattle.shelf_model.specs.world_model.specs.Machines.{LinkEvent, Up, Down, Linked}
use Rattle.shelf_model.specs.host_model.specs.Circumstances.{Circumstance}
use Rattle.shelf_model.specs.host_model.specs.Hosts.{handed}
use Rattle.shelf_model.specs.host_model.specs.Profiles.{Profile}
use Rattle.host_laws.specs.Calls.{Asks as Asking, values_after}
use Rattle.host_laws.specs.Fed.{feeds_up, next_happening, strand_feeds, woven_feeds, happenings, turned_feeds, FedSpan, span_feeds, behind_span}
use Rattle.host_laws.specs.Feeds.{Learns, fed, all_fed}
use Rattle.host_laws.specs.Lives.{Span}
use Rattle.host_laws.specs.Woven.{Strand, Hearing, Giving, Firing, Telling, Gifting, Learning, Checking, Stepping, told_next, strand_list, strand_profile, woven_profile, turned}
use Rattle.host_laws.proofs.Draining.{each_fed}

-- ---- one profile

module _ {P : Type 0} (A : Profile P) (asks : Asking A) where
  handed_so : (brought : Handed) (p : P) → all_fed A p (feeds_up brought) ≡ handed A brought p
  handed_so Nothing p = refl
  handed_so (Received own psm sdu) p = refl

  told_so : (events : List ChannelEvent) (v : Channels) (p : P) → all_fed A p (next_happening events v) ≡ told_next A events v p
  told_so [] v p = refl
  told_so (event ∷ events) v p = refl

  pub strand_so : (strand : Strand) (v : Channels) (p : P) → all_fed A p (strand_feeds strand v) ≡ strand_profile A strand v p
  strand_so (Hearing pdu) v p = handed_so (up (channel_of pdu) pdu v) p
  strand_so (Giving pdu) v p = refl
  strand_so Firing v p = refl
  strand_so Telling v p = told_so v.events v p
  strand_so (Gifting circumstances) v p = refl
  strand_so (Learning circumstances news) v p = refl
  strand_so Checking v p = refl
  strand_so Stepping v p = refl

  pub woven_so : (weave : List Strand) (v : Channels) (p : P) → all_fed A p (woven_feeds A asks weave v p) ≡ woven_profile A asks weave v p
  woven_so [] v p = refl
  woven_so (strand ∷ weave) v p =
      let q = strand_profile A strand v p in
      let w = values_after A.policy v (strand_list A asks strand v p) in
      fold-append (fed A) p (strand_feeds strand v) (woven_feeds A asks weave w q) ∙ (ap (λ (x : P). all_fed A x (woven_feeds A asks weave w q)) (strand_so strand v p) ∙ woven_so weave w q)

  turned_so : (circumstances : List Circumstance) (event : LinkEvent) (v : Channels) (p : P) → all_fed A p (turned_feeds circumstances event v) ≡ turned A circumstances event v p
  turned_so circumstances Up v p = refl
  turned_so circumstances (Down reason) v p =
      let w = link_down v in
      fold-append (fed A) p (happenings w w.events) (Learns circumstances (Linked (Down reason)) ∷ []) ∙ ap (A.told circumstances (Linked (Down reason))) (sym (each_fed A w w.events p))

  pub here_so : (span : Span) (first : P) (so : FedSpan A asks span first) → all_fed A first so.here ≡ so.mid
  here_so span first so = ap (all_fed A first) so.so.feeds_are ∙ (woven_so so.so.woven.weave no_channels first ∙ sym so.so.woven.last_is)

  pub span_so : (span : Span) (first : P) (so : FedSpan A asks span first) → all_fed A first (span_feeds A asks span first so) ≡ behind_span A asks span first so
  span_so span first so =
      let v = values_after A.policy no_channels span.list in
      fold-append (fed A) first so.here (turned_feeds so.circumstances span.event v)
      ∙ (ap (λ (p : P). all_fed A p (turned_feeds so.circumstances span.event v)) (here_so span first so) ∙ turned_so so.circumstances span.event v so.mid)
