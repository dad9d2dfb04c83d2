-- What came over a basic channel that two hosts have in common, of what was sent.
use Rattle.std.proofs.Common.{◌≡◌, ℕ, List, [], ◌∷◌, ◌++◌, map, drop, refl, sym, ap, subst, ◌∙◌, inl, inr, append_assoc, append-nil}
use Rattle.std.specs.Prelude.{take}
use Rattle.std.specs.List.{AllByRecursion}
use Rattle.own_channel_laws.specs.talk_laws.specs.capture.specs.declared.flow.Flow.TheVariants.{Out}
use Rattle.own_channel_laws.specs.talk_laws.specs.l2cap_config.specs.declared.wish.Mode.TheVariants.{Basic}
use Rattle.own_channel_laws.specs.talk_laws.specs.link_talk.specs.declared.channel.Channel.{Channel}
use Rattle.own_channel_laws.specs.talk_laws.specs.link_talk.specs.declared.party.Party.{Party}
use Rattle.own_channel_laws.specs.talk_laws.specs.link_talk.specs.Sayings.{Saying}
use Rattle.own_channel_laws.specs.talk_laws.specs.link_talk.specs.Carriages.{stretch, pdus_of, mode_of}
use Rattle.own_channel_laws.specs.talk_laws.specs.link_talk.specs.Sdus.{sdus_by, sdus}
use Rattle.own_channel_laws.specs.Runs.{sdus_up}
use Rattle.channel_laws.specs.Pairs.{Pair, Happening, Acts, Puts, Takes, Repeats, Loses, Damages, Turn, turned, pair_of}
use Rattle.channel_laws.specs.Common.{mirrored}
use Rattle.channel_laws.specs.Arrivals.{Arrives, IsFerry, BasicChannelsArrive, ComesOnce, RepeatsNone, IsOnceOver, BasicChannelsComeOnce}
use Rattle.channel_laws.proofs.Flowing.{out-same}
use Rattle.channel_laws.proofs.Delivering.{arrives-more, arrives-again, sent_on}
use Rattle.channel_laws.proofs.Ferrying.{Flight, Way, Delivers, Reaches, Allows}
use Rattle.channel_laws.proofs.Ferried.{Ferries, all-ferries}

pub sent_are : (party : Party) (channel : Channel) (said : List Saying) → mode_of channel said ≡ Basic → sdus party channel Out said ≡ sent_on channel said
sent_are party channel said mode = ap (λ m. sdus_by 65535 m (pdus_of Out (stretch channel said))) mode ∙ ap (map (drop 4)) (out-same channel [] said)

-- ---- whatever the link does

-- what is done came, or not, and the first that is under way may have come
abbrev By_link : Way
By_link came done flight = Arrives came (done ++ take 1 flight)

-- one PDU more may be under way
first_more : (done flight more : List (List ℕ)) → (extra : List (List ℕ)) × (done ++ take 1 (flight ++ more) ≡ (done ++ take 1 flight) ++ extra)
first_more done [] more = (take 1 more, ap (λ d. d ++ take 1 more) (sym (append-nil done)))
first_more done (x ∷ flight) more = ([], sym (append-nil (done ++ x ∷ [])))

link_grows : (came done flight more : List (List ℕ)) → By_link came done flight → By_link came done (flight ++ more)
link_grows came done flight more was = let (extra, is) = first_more done flight more in subst (Arrives came) (sym is) (arrives-more came (done ++ take 1 flight) extra was)

link_reaches : Reaches By_link
link_reaches = record {
  first = refl;
  grows = link_grows;
  comes = λ came done flight x was. arrives-more (came ++ x ∷ []) (done ++ x ∷ []) (take 1 flight) (arrives-again came done x was);
  goes = λ came done flight x was. arrives-more came (done ++ x ∷ []) (take 1 flight) was;
}

link_allows : (happening : Happening) → Allows By_link happening
link_allows (Acts occurrence) = tt
link_allows (Puts pdu) = tt
link_allows Takes = tt
link_allows Repeats = λ came done flight x was. arrives-again came done x was
link_allows Loses = tt
link_allows (Damages pdu) = tt

all_allowed : (turns : List Turn) → AllByRecursion (λ turn. Allows By_link turn.happening) turns
all_allowed [] = tt
all_allowed (turn ∷ turns) = (link_allows turn.happening, all_allowed turns)

all_of : (done flight rest : List (List ℕ)) → (extra : List (List ℕ)) × (done ++ (flight ++ rest) ≡ (done ++ take 1 flight) ++ extra)
all_of done [] rest = (rest, ap (λ d. d ++ rest) (sym (append-nil done)))
all_of done (x ∷ flight) rest = (flight ++ rest, sym (append_assoc done (x ∷ []) (flight ++ rest)))

ferry_of : (channel : Channel) (pair : Pair) → Delivers By_link channel pair → IsFerry channel pair.near.run.said channel.peer pair.far.run.up
ferry_of channel pair h party mode =
    let came : List (List ℕ) = sdus_up channel.peer pair.far.run.up in
    let flight : List (List ℕ) = Flight channel.peer pair.far.coming in
    let (extra, is) = all_of h.done flight h.rest in
    subst (Arrives came) (sym (sent_are party channel pair.near.run.said mode ∙ (h.sent_is ∙ is))) (arrives-more came (h.done ++ take 1 flight) extra h.reached)

pub basic-arrive : BasicChannelsArrive
basic-arrive near far turns channel uttered read passes have wish =
    let both : Ferries By_link channel (pair_of near far turns) = all-ferries By_link link_reaches near far turns channel (all_allowed turns) uttered read passes have wish in
    (ferry_of (mirrored channel) (turned (pair_of near far turns)) both.back, ferry_of channel (pair_of near far turns) both.there)

-- ---- where it repeats nothing

-- what is done came, or not
abbrev By_once : Way
By_once came done flight = ComesOnce came done

-- more was sent
none_once : {X : Type 0} (sent : List X) → ComesOnce [] sent
none_once [] = refl
none_once (x ∷ sent) = inl (none_once sent)

once_more : {X : Type 0} (came sent more : List X) → ComesOnce came sent → ComesOnce came (sent ++ more)
once_more came [] more is = subst (λ c. ComesOnce c more) (sym is) (none_once more)
once_more came (x ∷ sent) more (inl left) = inl (once_more came sent more left)
once_more came (x ∷ sent) more (inr (rest, is, once)) = inr (rest, is, once_more rest sent more once)

-- and it came
once_next : {X : Type 0} (came sent : List X) (x : X) → ComesOnce came sent → ComesOnce (came ++ x ∷ []) (sent ++ x ∷ [])
once_next came [] x is = inr ([], ap (λ c. c ++ x ∷ []) is, refl)
once_next came (y ∷ sent) x (inl left) = inl (once_next came sent x left)
once_next came (y ∷ sent) x (inr (rest, is, once)) = inr (rest ++ x ∷ [], ap (λ c. c ++ x ∷ []) is, once_next rest sent x once)

once_reaches : Reaches By_once
once_reaches = record {
  first = refl;
  grows = λ came done flight more was. was;
  comes = λ came done flight x was. once_next came done x was;
  goes = λ came done flight x was. once_more came done (x ∷ []) was;
}

once_allows : (happening : Happening) → RepeatsNone happening → Allows By_once happening
once_allows (Acts occurrence) none = tt
once_allows (Puts pdu) none = tt
once_allows Takes none = tt
once_allows Repeats none = elim none [ ]
once_allows Loses none = tt
once_allows (Damages pdu) none = tt

each_allowed : (turns : List Turn) → AllByRecursion (λ turn. RepeatsNone turn.happening) turns → AllByRecursion (λ turn. Allows By_once turn.happening) turns
each_allowed [] none = tt
each_allowed (turn ∷ turns) (now, later) = (once_allows turn.happening now, each_allowed turns later)

once_of : (channel : Channel) (pair : Pair) → Delivers By_once channel pair → IsOnceOver channel pair.near.run.said channel.peer pair.far.run.up
once_of channel pair h party mode =
    let came : List (List ℕ) = sdus_up channel.peer pair.far.run.up in
    subst (ComesOnce came) (sym (sent_are party channel pair.near.run.said mode ∙ h.sent_is)) (once_more came h.done (Flight channel.peer pair.far.coming ++ h.rest) h.reached)

pub basic-once : BasicChannelsComeOnce
basic-once near far turns channel uttered read passes have wish none =
    let both : Ferries By_once channel (pair_of near far turns) = all-ferries By_once once_reaches near far turns channel (each_allowed turns none) uttered read passes have wish in
    (once_of (mirrored channel) (turned (pair_of near far turns)) both.back, once_of channel (pair_of near far turns) both.there)
