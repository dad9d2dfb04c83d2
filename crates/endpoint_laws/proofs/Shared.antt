-- A channel of one host is the one that the other host has for its endpoint, since each endpoint is given once.
use Rattle.std.proofs.Common.{◌≡◌, ℕ, List, Some, refl, sym, ap, subst, ◌∙◌, ◌⊎◌, inl, inr, arith}
use Rattle.channel_laws.specs.l2cap_signal.specs.Commands.{Command, connection_request, connection_response, code_of}
use Rattle.channel_laws.specs.link_talk.specs.declared.channel.Channel.{Channel}
use Rattle.channel_laws.specs.link_talk.specs.Channels.{reading}
use Rattle.channel_laws.specs.link_talk.specs.Sayings.{Saying}
use Rattle.channel_laws.specs.channel_model.specs.Policies.{Policy}
use Rattle.channel_laws.specs.Belonging.{HasAsked, HasGranted, Belongs, ChannelsBelong}
use Rattle.channel_laws.specs.OwnTalk.{spoken, command_with}
use Rattle.channel_laws.specs.Pairs.{Near, Far, pair_of, IsRunOf, EachEndRuns}
use Rattle.channel_laws.specs.Runs.{Run}
use Rattle.channel_laws.specs.Signals.{StandsIn}
use Rattle.channel_laws.proofs.Entries.{read-own}
use Rattle.endpoint_laws.specs.Given.{gives_endpoint, EndpointsAreGivenOnce}
use Rattle.endpoint_laws.specs.Shared.{IsTheSame, EndpointsAreShared}

abbrev GivesOnce : List Saying → Type 0
GivesOnce said = (one other : Saying) (own : ℕ) → StandsIn one said → StandsIn other said → gives_endpoint one ≡ Some own → gives_endpoint other ≡ Some own → one ≡ other

sole_at : EndpointsAreGivenOnce → (policy : Policy) (run : Run) → IsRunOf policy run → GivesOnce run.said
sole_at once policy run (list, is) = subst (λ (r : Run). GivesOnce r.said) (sym is) (once policy list)

same_command : (a b : Command) → spoken a ≡ spoken b → a ≡ b
same_command a b same = cc

-- a request and a grant do not give one endpoint
apart : (said : List Saying) → GivesOnce said → (identifier psm own other status peer : ℕ) → HasAsked identifier psm own said → HasGranted other status own peer said → ⊥
apart said sole identifier psm own other status peer asked granted =
    let same = same_command (command_with identifier (connection_request psm own)) (command_with other (connection_response own peer 0 status)) (sole _ _ own asked granted refl refl) in
    let never : 0x02 ≡ 0x03 = ap (λ (c : Command). code_of c.content) same in omega (arith, never)

-- two requests, or two grants, that give one
asked_alike : (said : List Saying) → GivesOnce said → (identifier psm own other again : ℕ) → HasAsked identifier psm own said → HasAsked other again own said → (identifier ≡ other) × (psm ≡ again)
asked_alike said sole identifier psm own other again first second =
    let same = same_command (command_with identifier (connection_request psm own)) (command_with other (connection_request again own)) (sole _ _ own first second refl refl) in
    let inside : connection_request psm own ≡ connection_request again own = ap (λ (c : Command). c.content) same in
    (ap (λ (c : Command). c.identifier) same, cc)

granted_alike : (said : List Saying) → GivesOnce said → (identifier status own peer other again source : ℕ) → HasGranted identifier status own peer said → HasGranted other again own source said → peer ≡ source
granted_alike said sole identifier status own peer other again source first second =
    let same = same_command (command_with identifier (connection_response own peer 0 status)) (command_with other (connection_response own source 0 again)) (sole _ _ own first second refl refl) in
    let inside : connection_response own peer 0 status ≡ connection_response own source 0 again = ap (λ (c : Command). c.content) same in cc

the_same : (mine other : List Saying) → GivesOnce mine → GivesOnce other → (channel theirs : Channel) → theirs.peer ≡ channel.own → Belongs mine other channel → Belongs other mine theirs → IsTheSame mine other channel theirs
the_same mine other sole sole_too channel theirs at (i, s, first) (j, t, second) = by first second
  where
    by : (HasGranted i s channel.own channel.peer mine × HasAsked i channel.psm channel.peer other) ⊎ (HasAsked i channel.psm channel.own mine × HasGranted i s channel.peer channel.own other)
        → (HasGranted j t theirs.own theirs.peer other × HasAsked j theirs.psm theirs.peer mine) ⊎ (HasAsked j theirs.psm theirs.own other × HasGranted j t theirs.peer theirs.own mine) → IsTheSame mine other channel theirs
    by (inl (granted, asked)) (inl (theirs_granted, theirs_asked)) =
        absurd (apart mine sole j theirs.psm channel.own i s channel.peer (subst (λ n. HasAsked j theirs.psm n mine) at theirs_asked) granted)
    by (inl (granted, asked)) (inr (theirs_asked, theirs_granted)) =
        let one : theirs.own ≡ channel.peer = granted_alike mine sole j t channel.own theirs.own i s channel.peer (subst (λ n. HasGranted j t n theirs.own mine) at theirs_granted) granted in
        ((asked_alike other sole_too j theirs.psm channel.peer i channel.psm (subst (λ n. HasAsked j theirs.psm n other) one theirs_asked) asked).1, inl one)
    by (inr (asked, granted)) (inl (theirs_granted, theirs_asked)) =
        let (named, psm_is) = asked_alike mine sole j theirs.psm channel.own i channel.psm (subst (λ n. HasAsked j theirs.psm n mine) at theirs_asked) asked in
        (psm_is, inr (i, s, t, asked, granted, subst (λ n. HasGranted n t theirs.own channel.own other) named (subst (λ n. HasGranted j t theirs.own n other) at theirs_granted)))
    by (inr (asked, granted)) (inr (theirs_asked, theirs_granted)) =
        absurd (apart mine sole i channel.psm channel.own j t theirs.own asked (subst (λ n. HasGranted j t n theirs.own mine) at theirs_granted))

pub endpoints-are_shared : EndpointsAreGivenOnce → ChannelsBelong → EachEndRuns → EndpointsAreShared
endpoints-are_shared once belong runs near far turns read Near own other entry theirs found at for_it =
    let ends = runs near far turns in
    the_same _ _ (sole_at once near (pair_of near far turns).near.run ends.0) (sole_at once far (pair_of near far turns).far.run ends.1) entry.channel theirs.channel
    (for_it ∙ sym (read-own own (reading (pair_of near far turns).near.run.said).entries entry found)) (belong near far turns read Near own entry found) (belong near far turns read Far other theirs at)
endpoints-are_shared once belong runs near far turns read Far own other entry theirs found at for_it =
    let ends = runs near far turns in
    the_same _ _ (sole_at once far (pair_of near far turns).far.run ends.1) (sole_at once near (pair_of near far turns).near.run ends.0) entry.channel theirs.channel
    (for_it ∙ sym (read-own own (reading (pair_of near far turns).far.run.said).entries entry found)) (belong near far turns read Far own entry found) (belong near far turns read Near other theirs at)
