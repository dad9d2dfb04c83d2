-- The first thing that a profile with a tape goes through is what it is given.
use Rattle.std.proofs.Common.{◌≡◌, ◌⊎◌, inl, inr, ℕ, List, [], ◌∷◌, ◌++◌, Some, None, refl, sym, ap, subst, ◌∙◌, append-nil, append_assoc}
use Rattle.inbox_laws.specs.world_model.specs.Machines.{News}
use Rattle.inbox_laws.specs.world_model.specs.Talks.{Talk}
use Rattle.inbox_laws.specs.host_model.specs.Circumstances.{Circumstance}
use Rattle.inbox_laws.specs.host_model.specs.Hosts.{Host, first_host, ready, hear, next}
use Rattle.inbox_laws.specs.host_model.specs.Machines.{upper}
use Rattle.inbox_laws.specs.host_model.specs.Profiles.{Profile}
use Rattle.inbox_laws.specs.host_laws.specs.Acts.{Act, Hears, Says, Acting}
use Rattle.inbox_laws.specs.host_laws.specs.Calls.{Asks}
use Rattle.inbox_laws.specs.host_laws.specs.Fed.{TalksFed}
use Rattle.inbox_laws.specs.host_laws.specs.Feeds.{Feed, Gifts, Learns, Receives, Happens, Sent, Steps, fed, all_fed}
use Rattle.inbox_laws.specs.host_laws.specs.OverLinks.{OverLinks}
use Rattle.inbox_laws.specs.scenario_laws.proofs.SetHosts.{hear_same}
use Rattle.inbox_laws.proofs.Keeping.{KeepsSo, hear_kept, next_kept}
use Rattle.tape_laws.specs.Once.{BeginsGiven}
use Rattle.tape_laws.specs.Taped.{Tape, Taped, taped, taped_asks}

-- there was such a first thing
abbrev IsBegun : List Feed → Type 0
IsBegun past = (circumstances : List Circumstance) × (more : List Feed) × (past ≡ Gifts circumstances ∷ more)

more_begun : (past : List Feed) (feed : Feed) → IsBegun past → IsBegun (past ++ feed ∷ [])
more_begun past feed (circumstances, more, is) = (circumstances, more ++ feed ∷ [], ap (λ (l : List Feed). l ++ feed ∷ []) is)

module _ {P T : Type 0} (A : Profile P) (tape : Tape P T) where
  abbrev B : Profile (Taped P T)
  B = taped A tape

  abbrev On : Type 0
  On = Host (Taped P T)

  abbrev Begun : Taped P T → Type 0
  Begun now = IsBegun now.past

  abbrev still : List Circumstance → Taped P T → Taped P T
  still circumstances now = now

  still_begun : KeepsSo (record B { given = still }) Begun
  still_begun = record {
    given = λ circumstances now so. so;
    told = λ circumstances news now so. more_begun now.past (Learns circumstances news) so;
    received = λ own psm sdu now so. more_begun now.past (Receives own psm sdu) so;
    happened = λ event v now so. more_begun now.past (Happens event v) so;
    sent = λ v now so. more_begun now.past (Sent v) so;
    steps = λ v now so. more_begun now.past (Steps v) so;
  }

  all_begun : KeepsSo B Begun
  all_begun = record { given = λ circumstances now so. more_begun now.past (Gifts circumstances) so; told = still_begun.told; received = still_begun.received; happened = still_begun.happened; sent = still_begun.sent; steps = still_begun.steps }

  -- it has heard nothing yet, or it has begun so
  abbrev IsSo : On → Type 0
  IsSo host = (host ≡ first_host B) ⊎ Begun host.profile

  given_so : (gifts : List Circumstance) (host : On) → IsSo host → Begun (ready B gifts host).profile
  given_so gifts host (inl is) = (gifts, [], ap (λ (h : On). h.profile.past ++ Gifts gifts ∷ []) is)
  given_so gifts host (inr begun) = more_begun host.profile.past (Gifts gifts) begun

  heard_so : (gifts : List Circumstance) (news : News) (host : On) → IsSo host → Begun (hear B gifts news host).profile
  heard_so gifts news host so =
      let given = ready B gifts host in
      subst (λ (h : On). Begun h.profile) (hear_same B B.first still gifts news given) (hear_kept (record B { given = still }) Begun still_begun gifts news given (given_so gifts host so))

  said_so : (pdu : List ℕ) (host after : On) → IsSo host → next B host ≡ Some (pdu, after) → Begun after.profile
  said_so pdu host after (inl is) said = let none : next B host ≡ None = ap (next B) is in cc
  said_so pdu host after (inr begun) said = next_kept B Begun all_begun host pdu after said begun

  acts_so : (acts : List (Act Circumstance)) (old now : On) → Acting (upper B) acts old now → IsSo old → IsSo now
  acts_so [] old now same so = subst IsSo (sym same) so
  acts_so (Hears gifts news ∷ acts) old now (mid, does, rest) so = acts_so acts mid now rest (inr (subst (λ (h : On). Begun h.profile) (sym does) (heard_so gifts news old so)))
  acts_so (Says pdu ∷ acts) old now (mid, does, rest) so = acts_so acts mid now rest (inr (said_so pdu old mid so does))

  -- ---- it keeps all that it goes through

  past_one : (now : Taped P T) (feed : Feed) → (fed B now feed).past ≡ now.past ++ feed ∷ []
  past_one now (Gifts circumstances) = refl
  past_one now (Learns circumstances news) = refl
  past_one now (Receives own psm sdu) = refl
  past_one now (Happens event v) = refl
  past_one now (Sent v) = refl
  past_one now (Steps v) = refl

  past_all : (feeds : List Feed) (now : Taped P T) → (all_fed B now feeds).past ≡ now.past ++ feeds
  past_all [] now = sym (append-nil now.past)
  past_all (feed ∷ feeds) now = past_all feeds (fed B now feed) ∙ (ap (λ (l : List Feed). l ++ feeds) (past_one now feed) ∙ append_assoc now.past (feed ∷ []) feeds)

  begins_so : (host : On) → IsSo host → BeginsGiven host.profile.past
  begins_so host (inl is) = subst (λ (h : On). BeginsGiven h.profile.past) (sym is) tt
  begins_so host (inr (circumstances, more, is)) = subst BeginsGiven (sym is) tt

  -- all that it went through over its links is what it keeps
  pub past_fed : (asks : Asks A) (talk : List Talk) (host : Host (Taped P T)) (is : TalksFed (taped A tape) (taped_asks A tape asks) talk host) → host.profile.past ≡ is.so.lives.feeds
  past_fed asks talk host is = let lives = is.so.lives in ap (λ (now : Taped P T). now.past) lives.profile_is ∙ past_all lives.feeds B.first

  pub begins_given : (asks : Asks A) (talk : List Talk) (host : On) → OverLinks (upper B) talk host → (is : TalksFed B (taped_asks A tape asks) talk host) → BeginsGiven is.so.lives.feeds
  begins_given asks talk host over is = subst BeginsGiven (past_fed asks talk host is) (begins_so host (acts_so over.acts (first_host B) host over.acting (inl refl)))
