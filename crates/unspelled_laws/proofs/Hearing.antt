-- Whatever a client goes through within a push: where its object may be withheld behind it, it might be before.
use Rattle.std.proofs.Common.{◌≡◌, Bool, true, false, ℕ, List, [], ◌∷◌, Option, Some, None, subst, if◌then◌else◌}
use Rattle.std.specs.List.{AllByRecursion}
use Rattle.tape_laws.specs.bt_base.specs.declared.settings.Settings.{Settings}
use Rattle.cause_laws.specs.acl_fragments.specs.Pieces.{Piece}
use Rattle.tape_laws.specs.push_model.specs.Client.{Client}
use Rattle.tape_laws.specs.push_model.specs.Laws.{done}
use Rattle.tape_laws.specs.push_terms.specs.declared.word.Side.TheVariants.{A, B}
use Rattle.tape_laws.specs.push_terms.specs.declared.word.Way.TheVariants.{Ab, Ba}
use Rattle.tape_laws.specs.world_model.specs.radio_model.specs.declared.deed.Deed.{Deed}
use Rattle.tape_laws.specs.world_model.specs.radio_model.specs.declared.deed.Deed.TheVariants.{Nothing, Meets, Fires, FiresBoth, Breaks, Cancels}
use Rattle.tape_laws.specs.world_model.specs.radio_model.specs.Radio.{found}
use Rattle.cause_laws.specs.turn_laws.specs.Premises.{IsAside}
use Rattle.tape_laws.specs.world_model.specs.Machines.{LinkEvent, Up, Down, News, Linked, Failed, Heard, TimerFired, Cancelled, Opening, Upper}
use Rattle.tape_laws.specs.world_model.specs.Stations.{Station, Effort, Taking, Putting, Asking, Leaving, Commanding, MakesEffort, longest_pdu, gives, holds, is_handle, hears_each, hears_piece, event_in, upper_told, told}
use Rattle.tape_laws.specs.world_model.specs.Worlds.{World, Happening, Tries, Departure, GivingBack, Piecemeal, Answering, Turns, Misses, Opens, Closes, fired, Acts, Does}
use Rattle.tape_laws.specs.host_model.specs.Circumstances.{Circumstance}
use Rattle.tape_laws.specs.host_model.specs.Clients.{ClientProfile, client_profile}
use Rattle.tape_laws.specs.host_model.specs.Hosts.{Host, hear, next}
use Rattle.tape_laws.specs.host_model.specs.Machines.{client_host}
use Rattle.tape_laws.specs.host_model.proofs.Keeping.{Keeps, KeepsNews, hears_on, goes_next}
use Rattle.tape_laws.specs.host_laws.specs.shelf_model.specs.Held.{longest_octets}
use Rattle.tape_laws.specs.host_laws.specs.Answered.{AllAnswered, BeginsAtMost}
use Rattle.tape_laws.specs.host_laws.specs.Feeds.{Feed, Gifts, Learns, Receives, Happens, Sent, Steps, fed}
use Rattle.tape_laws.specs.host_laws.specs.Pushing.{Affair, Begins, Does as Deeds, client_behind, pushed_from}
use Rattle.tape_laws.specs.host_laws.proofs.Answered.{clients_are_answered}
use Rattle.tape_laws.specs.host_laws.proofs.Pushing.{all_pushed}
use Rattle.tape_laws.specs.pair_laws.specs.Granted.{answered_by}
use Rattle.tape_laws.specs.request_laws.proofs.Feeding.{IsDeed, Holds, FeedSo, all_so}
use Rattle.unspelled_laws.proofs.Possible.{MayWithhold, one_back}

-- ---- what its profile goes through

affairs_back : (most : ℕ) (affairs : List Affair) (client : Client) → AllByRecursion IsDeed affairs → AllAnswered most affairs client → MayWithhold (client_behind affairs client) → MayWithhold client
affairs_back most [] client of answered may = may
affairs_back most (Begins size name ∷ affairs) client of answered may = absurd of.0
affairs_back most (Deeds deed ∷ affairs) client of answered may = one_back deed client answered.0 (affairs_back most affairs (done deed client) of.1 answered.1 may)

deeds_hold : Holds IsDeed
deeds_hold = record { asks = λ parts. tt; finishes = tt; cancels = tt; down = λ reason. tt; failed = λ status. tt; opened = λ psm mtu. tt; closed = λ psm cause. tt; told = tt; lost = tt; timer = tt }

feed_back : (settings : Settings) (feed : Feed) (p : ClientProfile) → FeedSo IsDeed feed → BeginsAtMost longest_octets feed → MayWithhold (fed (client_profile settings) p feed).client → MayWithhold p.client
feed_back settings feed p of begins may =
    affairs_back longest_octets (pushed_from settings p (feed ∷ [])) p.client (all_so IsDeed deeds_hold settings (feed ∷ []) p (of, tt)) (clients_are_answered longest_octets settings p (feed ∷ []) (begins, tt))
    (subst MayWithhold (all_pushed settings (feed ∷ []) p) may)

-- ---- what its host hears and says

module _ (settings : Settings) (first : Client) where
  abbrev K : ClientProfile → Type 0
  K p = MayWithhold p.client → MayWithhold first

  goes : (feed : Feed) (p : ClientProfile) → FeedSo IsDeed feed → BeginsAtMost longest_octets feed → K p → K (fed (client_profile settings) p feed)
  goes feed p of begins k = λ may. k (feed_back settings feed p of begins may)

  keeps : Keeps (client_profile settings) K
  keeps = record {
    given = λ circumstances p k. goes (Gifts circumstances) p tt tt k;
    received = λ own psm sdu p k. goes (Receives own psm sdu) p tt tt k;
    happened = λ event v p k. goes (Happens event v) p tt tt k;
    sent = λ v p k. goes (Sent v) p tt tt k;
    steps = λ v p k. goes (Steps v) p tt tt k;
  }

  news_kept : (news : News) → IsAside news → KeepsNews (client_profile settings) K news
  news_kept (Linked Up) of = λ circumstances p k. goes (Learns circumstances (Linked Up)) p tt tt k
  news_kept (Linked (Down reason)) of = λ circumstances p k. goes (Learns circumstances (Linked (Down reason))) p tt tt k
  news_kept (Failed status) of = λ circumstances p k. goes (Learns circumstances (Failed status)) p tt tt k
  news_kept (Heard pdu) of = λ circumstances p k. goes (Learns circumstances (Heard pdu)) p tt tt k
  news_kept TimerFired of = λ circumstances p k. goes (Learns circumstances TimerFired) p tt tt k
  news_kept Cancelled of = λ circumstances p k. goes (Learns circumstances Cancelled) p tt tt k
  news_kept (Opening name) of = absurd of

module _ (settings : Settings) where
  hear_back : (gifts : List Circumstance) (news : News) (host : Host ClientProfile) → IsAside news → MayWithhold (hear (client_profile settings) gifts news host).profile.client → MayWithhold host.profile.client
  hear_back gifts news host of = let first = host.profile.client in hears_on (client_profile settings) (K settings first) (keeps settings first) gifts news host (news_kept settings first news of) (λ may. may)

  next_back : (host : Host ClientProfile) (pdu : List ℕ) (after : Host ClientProfile) → next (client_profile settings) host ≡ Some (pdu, after) → MayWithhold after.profile.client → MayWithhold host.profile.client
  next_back host pdu after is = let first = host.profile.client in goes_next (client_profile settings) (K settings first) (keeps settings first) host pdu after is (λ may. may)

-- ---- whatever happens, but that a push begins

abbrev pub IsWithin : Happening → Type 0
IsWithin (Opens push name) = ⊥
IsWithin happening = Unit {0}

module _ {T H : Type 0} (settings : Settings) (to : News → List Circumstance → List Circumstance) (V : Upper T H) where
  abbrev U : Upper (Host ClientProfile) Circumstance
  U = answered_by to (client_host settings)

  abbrev May : Host ClientProfile → Type 0
  May host = MayWithhold host.profile.client

  heard_back : (g : List Circumstance) (news : News) (host : Host ClientProfile) → IsAside news → May (U.hear g news host) → May host
  heard_back g news host of = hear_back settings (to news g) news host of

  effort_back : (effort : Effort) (one two : Station (Host ClientProfile)) → MakesEffort U A effort one two → May two.upper → May one.upper
  effort_back Taking one two does may = next_back settings one.upper does.pdu does.after does.next (subst (λ (s : Station (Host ClientProfile)). May s.upper) does.new_is may)
  effort_back Putting one two does may = subst (λ (s : Station (Host ClientProfile)). May s.upper) does.new_is may
  effort_back Asking one two does may = subst (λ (s : Station (Host ClientProfile)). May s.upper) does.new_is may
  effort_back Leaving one two does may = subst (λ (s : Station (Host ClientProfile)). May s.upper) does.new_is may
  effort_back Commanding one two does may = subst (λ (s : Station (Host ClientProfile)). May s.upper) does.new_is may

  each_back : (g : List Circumstance) (pdus : List (List ℕ)) (host : Host ClientProfile) → May (hears_each U g pdus host) → May host
  each_back g [] host may = may
  each_back g (pdu ∷ pdus) host may = heard_back g (Heard pdu) host tt (each_back g pdus (U.hear g (Heard pdu) host) may)

  piece_back : (g : List Circumstance) (handle : ℕ) (piece : Piece) (s : Station (Host ClientProfile)) → May (hears_piece U g handle piece s).upper → May s.upper
  piece_back g handle piece s = by (is_handle handle s.link)
    where
      by : (here : Bool) → May (if here then (let heard : Station (Host ClientProfile) = record s { upper = hears_each U g (gives longest_pdu s.joining piece) s.upper; joining = holds longest_pdu s.joining piece } in heard) else s).upper → May s.upper
      by true may = each_back g (gives longest_pdu s.joining piece) s.upper may
      by false may = may

  event_back : (g : List Circumstance) (event : Option LinkEvent) (host : Host ClientProfile) → May (upper_told U g event host) → May host
  event_back g None host may = may
  event_back g (Some event) host may = heard_back g (Linked event) host tt may

  fired_back : (g : List Circumstance) (s : Station (Host ClientProfile)) → May (fired U g s).upper → May s.upper
  fired_back g s = by (U.armed s.upper)
    where
      by : (armed : Bool) → May (if armed then told U g TimerFired s else s).upper → May s.upper
      by true may = heard_back g TimerFired s.upper tt may
      by false may = may

  acts_back : (deed : Deed) (old mid : World (Host ClientProfile) T) → Acts U V deed old mid → May mid.a.upper → May old.a.upper
  acts_back Nothing old mid acts may = absurd acts
  acts_back (Meets Ab fate) old mid acts may = subst (λ (w : World (Host ClientProfile) T). May w.a.upper) acts may
  acts_back (Meets Ba fate) old mid acts may = subst (λ (w : World (Host ClientProfile) T). May w.a.upper) acts may
  acts_back (Fires A) old mid (armed, g, same) may = heard_back g TimerFired old.a.upper tt (subst (λ (w : World (Host ClientProfile) T). May w.a.upper) same may)
  acts_back (Fires B) old mid (armed, h, same) may = subst (λ (w : World (Host ClientProfile) T). May w.a.upper) same may
  acts_back FiresBoth old mid (armed, g, h, same) may = fired_back g old.a (subst (λ (w : World (Host ClientProfile) T). May w.a.upper) same may)
  acts_back Breaks old mid acts may = subst (λ (w : World (Host ClientProfile) T). May w.a.upper) acts may
  acts_back Cancels old mid (may_now, g, same) may = heard_back g Cancelled old.a.upper tt (subst (λ (w : World (Host ClientProfile) T). May w.a.upper) same may)

  pub does_back : (happening : Happening) (old new : World (Host ClientProfile) T) → IsWithin happening → Does (answered_by to (client_host settings)) V happening old new → MayWithhold new.a.upper.profile.client → MayWithhold old.a.upper.profile.client
  does_back (Tries A effort) old new of (station, does, same) may = effort_back effort old.a station does (subst (λ (w : World (Host ClientProfile) T). May w.a.upper) same may)
  does_back (Tries B effort) old new of (station, does, same) may = subst (λ (w : World (Host ClientProfile) T). May w.a.upper) same may
  does_back (Departure A order) old new of (rest, first, same) may = subst (λ (w : World (Host ClientProfile) T). May w.a.upper) same may
  does_back (Departure B order) old new of (rest, first, same) may = subst (λ (w : World (Host ClientProfile) T). May w.a.upper) same may
  does_back (GivingBack side) old new of same may = subst (λ (w : World (Host ClientProfile) T). May w.a.upper) same may
  does_back (Piecemeal A handle piece) old new of (rest, first, here, g, same) may = piece_back g handle piece old.a (subst (λ (w : World (Host ClientProfile) T). May w.a.upper) same may)
  does_back (Piecemeal B handle piece) old new of (rest, first, here, h, same) may = subst (λ (w : World (Host ClientProfile) T). May w.a.upper) same may
  does_back (Answering A answer) old new of (rest, none, first, g, same) may = event_back g (event_in answer old.a) old.a.upper (subst (λ (w : World (Host ClientProfile) T). May w.a.upper) same may)
  does_back (Answering B answer) old new of (rest, none, first, h, same) may = subst (λ (w : World (Host ClientProfile) T). May w.a.upper) same may
  does_back (Turns ordinal word) old new of (rest, is_word, ordinal_is, mid, acts, same) may = acts_back (found word old.radio) old mid acts (subst (λ (w : World (Host ClientProfile) T). May w.a.upper) same may)
  does_back (Misses word) old new of (rest, nothing, same) may = subst (λ (w : World (Host ClientProfile) T). May w.a.upper) same may
  does_back (Opens push name) old new of does may = absurd of
  does_back (Closes push outcome) old new of (going, push_is, idle, is, apart, none_a, none_b, quiet_a, quiet_b, same) may = subst (λ (w : World (Host ClientProfile) T). May w.a.upper) same may
