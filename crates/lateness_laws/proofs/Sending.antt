-- The requests for options that a host sent, against those of its channels that wait, while its peer suggests no others.
use Rattle.std.proofs.Common.{◌≡◌, ℕ, List, [], ◌∷◌, ◌++◌, Bool, true, false, cond, eqb, Option, Some, None, refl, sym, ap, subst, ◌∙◌, ◌⊎◌, inl, inr, arith, append_assoc, append-nil}
use Rattle.std.specs.Prelude.{find}
use Rattle.std.specs.List.{AllByRecursion}
use Rattle.std.proofs.lemmas.Bool.{eqb-true}
use Rattle.std.proofs.lemmas.List.Sums.{fold-append}
use Rattle.channel_laws.specs.l2cap_config.specs.declared.options.Options.{Options}
use Rattle.channel_laws.specs.link_talk.specs.declared.channel.Channel.{Channel}
use Rattle.channel_laws.specs.link_talk.specs.Channels.{Entry, reading}
use Rattle.channel_laws.specs.link_talk.specs.Sayings.{Saying}
use Rattle.channel_laws.specs.channel_model.specs.Asking.{first_options}
use Rattle.channel_laws.specs.channel_model.specs.Changing.{has_own}
use Rattle.channel_laws.specs.channel_model.specs.Giving.{own_given}
use Rattle.channel_laws.specs.channel_model.specs.Policies.{Policy}
use Rattle.channel_laws.specs.channel_model.specs.Value.{Request, Own, Unasked, Asking, Granted, Stage, Requested, Connected, Leaving, Closing, Crossed, Held, Channels}
use Rattle.channel_laws.specs.channel_model.proofs.Lookups.{own_of, Distinct, eqb-same}
use Rattle.channel_laws.specs.Granted.{IsFor}
use Rattle.channel_laws.specs.Runs.{Occurrence, said_in, Run, new_link, run_on, run_of}
use Rattle.channel_laws.specs.Tries.{own_request}
use Rattle.channel_laws.specs.Views.{peer_of, read_at}
use Rattle.channel_laws.proofs.Demanding.{asked_at}
use Rattle.channel_laws.proofs.Lasting.{asked_by}
use Rattle.channel_laws.proofs.Moves.{found-there}
use Rattle.channel_laws.proofs.Running.{all-sound}
use Rattle.channel_laws.proofs.Sound.{Reads, Sound, requested-unread}
use Rattle.disconnection_laws.proofs.Staying.{more-for}
use Rattle.lasting_laws.proofs.Kept.{all-found}
use Rattle.accepting_laws.specs.First.{SuggestsNone}
use Rattle.accepting_laws.proofs.Owning.{OfSetup, Stays, StageOf, HeldOf, AllOf, OfOwn, OwnOf, own-stays}
use Rattle.accepting_laws.proofs.Walking.{fewer-suggest, Walks, walks-on}
use Rattle.lateness_laws.specs.Once.{PeersApart}

-- requests for options that were sent, by identifier and the endpoint that they name
abbrev pub Requests : Type 1
Requests = (identifier peer : ℕ) → Type 0

-- those that were sent for the channel of an own request have the identifier of that which waits, and none was sent before one was made
abbrev FitsOwn : Requests → OfOwn
FitsOwn S psm own peer Unasked = (identifier : ℕ) → S identifier peer → ⊥
FitsOwn S psm own peer (Asking request options) = (identifier : ℕ) → S identifier peer → identifier ≡ request.identifier
FitsOwn S psm own peer Granted = Unit {0}

abbrev pub Fits : Requests → OfSetup
Fits S = OwnOf (FitsOwn S)

-- So it is of all channels, and the requests for one endpoint have one identifier; and each is for a channel that the host's talk has.
pub record Inv (S : Requests) (said : List Saying) (v : Channels) : Type 0 where
  pub all : AllOf (Fits S) v
  pub once : (identifier other peer : ℕ) → S identifier peer → S other peer → identifier ≡ other
  pub reads : (identifier peer : ℕ) → S identifier peer → (own : ℕ) × IsFor peer (read_at own (reading said).entries)

-- ---- something of each channel, from that it is found

all_found : (P Q : Held → Type 0) (hs : List Held) → Distinct own_of hs → ((held : Held) → find (has_own held.own) hs ≡ Some held → P held → Q held) → AllByRecursion P hs → AllByRecursion Q hs
all_found P Q [] lone so all = tt
all_found P Q (h ∷ hs) lone so all = (so h here all.0, all_found P Q hs lone.1 (λ held found is. so held (behind held found (eqb h.own held.own) refl) is) all.1)
  where
    here : find (has_own h.own) (h ∷ hs) ≡ Some h
    here = ap (λ (b : Bool). cond b (Some h) (find (has_own h.own) hs)) (eqb-same h.own)

    behind : (held : Held) → find (has_own held.own) hs ≡ Some held → (same : Bool) → eqb h.own held.own ≡ same → find (has_own held.own) (h ∷ hs) ≡ Some held
    behind held found true is = let never : None ≡ Some held = sym lone.0 ∙ (ap (λ n. find (has_own n) hs) (eqb-true h.own held.own is) ∙ found) in absurd cc
    behind held found false is = ap (λ (b : Bool). cond b (Some h) (find (has_own held.own) hs)) is ∙ found

-- ---- what is read

-- a channel that counts is read with its endpoint of the peer
counts_for : (policy : Policy) (said : List Saying) (v : Channels) (held : Held) (peer : ℕ) → Sound policy (reading said) v → find (has_own held.own) v.held ≡ Some held → peer_of held.stage ≡ Some peer → IsFor peer (read_at held.own (reading said).entries)
counts_for policy said v held peer sound found to =
    let it = found-there policy (reading said).entries v.held v.next held peer sound.core found to in subst (IsFor peer) (sym it.found_is) (ap (λ (c : Channel). c.peer) it.there.channel_is)

-- so is one channel alone
same_own : (said : List Saying) (peer own other : ℕ) → PeersApart said → IsFor peer (read_at own (reading said).entries) → IsFor peer (read_at other (reading said).entries) → own ≡ other
same_own said peer own other apart one two = by (read_at own (reading said).entries) (read_at other (reading said).entries) refl refl one two
  where
    by : (first second : Option Entry) → read_at own (reading said).entries ≡ first → read_at other (reading said).entries ≡ second → IsFor peer first → IsFor peer second → own ≡ other
    by None second at there for also = elim for [ ]
    by (Some entry) None at there for also = elim also [ ]
    by (Some entry) (Some second) at there for also = apart own other entry second at there (for ∙ sym also)

-- what is not read now was not read before
unread_before : (own : ℕ) (before more : List Saying) → read_at own (reading (before ++ more)).entries ≡ None → read_at own (reading before).entries ≡ None
unread_before own before more none = by (read_at own (reading before).entries) refl
  where
    by : (found : Option Entry) → read_at own (reading before).entries ≡ found → read_at own (reading before).entries ≡ None
    by None at = at
    by (Some entry) at =
        let for : IsFor entry.channel.peer (read_at own (reading (before ++ more)).entries) = more-for entry.channel.peer own before more (subst (IsFor entry.channel.peer) (sym at) refl) in
        let never : ⊥ = subst (IsFor entry.channel.peer) none for in absurd never

pub fewer-apart : (said more : List Saying) → PeersApart (said ++ more) → PeersApart said
fewer-apart said more apart own other entry also found there same =
    same_own (said ++ more) also.channel.peer own other apart (more-for also.channel.peer own said more (subst (IsFor also.channel.peer) (sym found) same)) (more-for also.channel.peer other said more (subst (IsFor also.channel.peer) (sym there) refl))

-- ---- something occurs to the host, and nothing more is sent

-- as before, or the channel was not there then
abbrev FitsOwnOr : Requests → List Saying → OfOwn
FitsOwnOr S before psm own peer by_own = (read_at own (reading before).entries ≡ None) ⊎ FitsOwn S psm own peer by_own

abbrev FitsOr : Requests → List Saying → OfSetup
FitsOr S before = OwnOf (FitsOwnOr S before)

fits-stay : (policy : Policy) (S : Requests) (before : List Saying) → Stays policy (FitsOr S before)
fits-stay policy S before = own-stays policy (FitsOwnOr S before) (record { made = made; given = given; granted = λ psm own peer. inr tt })
  where
    made : (psm own peer : ℕ) (request : Request) → FitsOwnOr S before psm own peer Unasked → FitsOwnOr S before psm own peer (Asking request (first_options (policy.wish psm)))
    made psm own peer request (inl none) = inl none
    made psm own peer request (inr unsent) = inr (λ identifier sent. absurd (unsent identifier sent))

    given : (psm own peer : ℕ) (request : Request) (options : Options) → FitsOwnOr S before psm own peer (Asking request options) → FitsOwnOr S before psm own peer (own_given (Asking request options))
    given psm own peer request options (inl none) = inl none
    given psm own peer request options (inr fits) = inr fits

-- from that moment on
abbrev Since : List Saying → List Saying → Type 0
Since before past = (more : List Saying) × (past ≡ before ++ more)

since-walks : (policy : Policy) (S : Requests) (before : List Saying) → Walks policy (Since before) (λ past. FitsOr S before)
since-walks policy S before = record {
  further = λ past said since. (since.0 ++ said, ap (λ s. s ++ said) since.1 ∙ append_assoc before since.0 said);
  stays = λ past. fits-stay policy S before;
  more = λ past said psm own peer setup is. is;
  new = λ past v since sound psm peer. inl (unread past v.next since (sound.core.read_below v.next (omega arith)));
  made = λ past v since sound held request found asks peer.
      inl (unread past held.own since (requested-unread policy held request (read_at held.own (reading past).entries) asks (subst (λ h. Reads policy h (read_at held.own (reading past).entries)) found (sound.core.reads held.own))));
}
  where
    -- a channel that is not read now was not read then
    unread : (past : List Saying) (own : ℕ) → Since before past → read_at own (reading past).entries ≡ None → read_at own (reading before).entries ≡ None
    unread past own (more, is) none = unread_before own before more (subst (λ s. read_at own (reading s).entries ≡ None) is none)

-- While nothing is suggested, and no two channels are for one endpoint.
abbrev pub InvAt : Requests → Run → Type 0
InvAt S run = SuggestsNone run.said → PeersApart run.said → Inv S run.said run.value

pub inv-occurs : (policy : Policy) (S : Requests) (list : List Occurrence) (one : Occurrence) → InvAt S (run_of policy list) → InvAt S (run_of policy (list ++ one ∷ []))
inv-occurs policy S list one inv none apart = record {
  all = all_found (HeldOf (FitsOr S before)) (HeldOf (Fits S)) w.held (all-sound policy (list ++ one ∷ [])).core.lone settles since;
  once = was.once;
  reads = λ identifier peer sent. let (own, for) = was.reads identifier peer sent in (own, more_for peer own for);
}
  where
    before : List Saying
    before = (run_of policy list).said

    after : List Saying
    after = (run_of policy (list ++ one ∷ [])).said

    w : Channels
    w = (run_of policy (list ++ one ∷ [])).value

    said : List Saying
    said = said_in policy one (run_of policy list).value

    after_is : after ≡ before ++ said
    after_is = ap (λ (r : Run). r.said) (fold-append (run_on policy) new_link list (one ∷ []))

    was : Inv S before (run_of policy list).value
    was = inv (fewer-suggest before said (subst SuggestsNone after_is none)) (fewer-apart before said (subst PeersApart after_is apart))

    more_for : (peer own : ℕ) → IsFor peer (read_at own (reading before).entries) → IsFor peer (read_at own (reading after).entries)
    more_for peer own for = subst (λ s. IsFor peer (read_at own (reading s).entries)) (sym after_is) (more-for peer own before said for)

    since : AllOf (FitsOr S before) w
    since = walks-on policy (Since before) (λ past. FitsOr S before) (since-walks policy S before) list (one ∷ []) ([], sym (append-nil before)) (λ quiet. all_more (run_of policy list).value.held was.all) none
      where
        stage_more : (psm own : ℕ) (stage : Stage) → StageOf (Fits S) psm own stage → StageOf (FitsOr S before) psm own stage
        stage_more psm own (Requested request) is = tt
        stage_more psm own (Connected peer setup) is = inr is
        stage_more psm own (Leaving peer setup request) is = inr is
        stage_more psm own (Closing peer request checked) is = tt
        stage_more psm own (Crossed peer request) is = tt

        all_more : (hs : List Held) → AllByRecursion (HeldOf (Fits S)) hs → AllByRecursion (HeldOf (FitsOr S before)) hs
        all_more [] all = tt
        all_more (h ∷ hs) all = (stage_more h.psm h.own h.stage all.0, all_more hs all.1)

    -- none was sent for a channel that was not there
    none_sent : (held : Held) (identifier peer : ℕ) → find (has_own held.own) w.held ≡ Some held → peer_of held.stage ≡ Some peer → read_at held.own (reading before).entries ≡ None → S identifier peer → ⊥
    none_sent held identifier peer found to unread sent =
        let (own, for) = was.reads identifier peer sent in
        let same : held.own ≡ own = same_own after peer held.own own apart (counts_for policy after w held peer (all-sound policy (list ++ one ∷ [])) found to) (more_for peer own for) in
        subst (IsFor peer) unread (subst (λ n. IsFor peer (read_at n (reading before).entries)) (sym same) for)

    settles : (held : Held) → find (has_own held.own) w.held ≡ Some held → HeldOf (FitsOr S before) held → HeldOf (Fits S) held
    settles held found is = by held.stage refl is
      where
        fits : (peer : ℕ) → peer_of held.stage ≡ Some peer → (by_own : Own) → FitsOwnOr S before held.psm held.own peer by_own → FitsOwn S held.psm held.own peer by_own
        fits peer to by_own (inr so) = so
        fits peer to Unasked (inl unread) = λ identifier sent. none_sent held identifier peer found to unread sent
        fits peer to (Asking request options) (inl unread) = λ identifier sent. absurd (none_sent held identifier peer found to unread sent)
        fits peer to Granted (inl unread) = tt

        by : (stage : Stage) → held.stage ≡ stage → StageOf (FitsOr S before) held.psm held.own stage → StageOf (Fits S) held.psm held.own stage
        by (Requested request) same so = tt
        by (Connected peer setup) same so = fits peer (ap peer_of same) setup.own so
        by (Leaving peer setup request) same so = fits peer (ap peer_of same) setup.own so
        by (Closing peer request checked) same so = tt
        by (Crossed peer request) same so = tt

-- ---- what is sent

-- the request of a channel waits, with this identifier and for this endpoint of the peer
pub record Waits (v : Channels) (identifier peer : ℕ) : Type 0 where
  pub held : Held
  pub found : find (has_own held.own) v.held ≡ Some held
  pub to : peer_of held.stage ≡ Some peer
  pub asks : asked_at held.stage ≡ Some (Some identifier)

-- what is sent was sent before, or waits
pub inv-sends : (policy : Policy) (S T : Requests) (said : List Saying) (v : Channels) → Sound policy (reading said) v → PeersApart said → ((identifier peer : ℕ) → T identifier peer → S identifier peer ⊎ Waits v identifier peer) → Inv S said v → Inv T said v
inv-sends policy S T said v sound apart sends inv = record {
  all = all_found (HeldOf (Fits S)) (HeldOf (Fits T)) v.held sound.core.lone settles inv.all;
  once = λ identifier other peer one two. once identifier other peer (sends identifier peer one) (sends other peer two);
  reads = λ identifier peer sent. reads identifier peer (sends identifier peer sent);
}
  where
    -- the channel that waits is the one with that endpoint
    it_waits : (held : Held) (identifier peer : ℕ) → find (has_own held.own) v.held ≡ Some held → peer_of held.stage ≡ Some peer → Waits v identifier peer → asked_at held.stage ≡ Some (Some identifier)
    it_waits held identifier peer at has waits =
        let same : held.own ≡ waits.held.own = same_own said peer held.own waits.held.own apart (counts_for policy said v held peer sound at has) (counts_for policy said v waits.held peer sound waits.found waits.to) in
        let both : Some held ≡ Some waits.held = sym at ∙ (ap (λ m. find (has_own m) v.held) same ∙ waits.found) in
        let it : held ≡ waits.held = cc in ap (λ (h : Held). asked_at h.stage) it ∙ waits.asks

    none : (held : Held) (peer identifier : ℕ) → find (has_own held.own) v.held ≡ Some held → peer_of held.stage ≡ Some peer → asked_at held.stage ≡ Some None → (S identifier peer → ⊥) → S identifier peer ⊎ Waits v identifier peer → ⊥
    none held peer identifier at has asked so (inl sent) = so sent
    none held peer identifier at has asked so (inr waits) = let never : Some None ≡ Some (Some identifier) = sym asked ∙ it_waits held identifier peer at has waits in cc

    one : (held : Held) (peer identifier n : ℕ) → find (has_own held.own) v.held ≡ Some held → peer_of held.stage ≡ Some peer → asked_at held.stage ≡ Some (Some n) → (S identifier peer → identifier ≡ n) → S identifier peer ⊎ Waits v identifier peer → identifier ≡ n
    one held peer identifier n at has asked so (inl sent) = so sent
    one held peer identifier n at has asked so (inr waits) = let both : Some (Some n) ≡ Some (Some identifier) = sym asked ∙ it_waits held identifier peer at has waits in cc

    fits : (held : Held) → find (has_own held.own) v.held ≡ Some held → (peer : ℕ) → peer_of held.stage ≡ Some peer → (by_own : Own) → asked_at held.stage ≡ Some (asked_by (own_request by_own)) → FitsOwn S held.psm held.own peer by_own → FitsOwn T held.psm held.own peer by_own
    fits held at peer has Unasked asked so = λ identifier sent. none held peer identifier at has asked (so identifier) (sends identifier peer sent)
    fits held at peer has (Asking request options) asked so = λ identifier sent. one held peer identifier request.identifier at has asked (so identifier) (sends identifier peer sent)
    fits held at peer has Granted asked so = tt

    settles : (held : Held) → find (has_own held.own) v.held ≡ Some held → HeldOf (Fits S) held → HeldOf (Fits T) held
    settles held at is = by held.stage refl is
      where
        by : (stage : Stage) → held.stage ≡ stage → StageOf (Fits S) held.psm held.own stage → StageOf (Fits T) held.psm held.own stage
        by (Requested request) same so = tt
        by (Connected peer setup) same so = fits held at peer (ap peer_of same) setup.own (ap asked_at same) so
        by (Leaving peer setup request) same so = fits held at peer (ap peer_of same) setup.own (ap asked_at same) so
        by (Closing peer request checked) same so = tt
        by (Crossed peer request) same so = tt

    -- what was sent for the endpoint of one that waits has its identifier
    named : (identifier other peer : ℕ) → S identifier peer → Waits v other peer → identifier ≡ other
    named identifier other peer sent waits = by waits.held.stage (all-found (HeldOf (Fits S)) (has_own waits.held.own) v.held waits.held inv.all waits.found) waits.to waits.asks
      where
        at : (to : ℕ) (by_own : Own) → Some to ≡ Some peer → FitsOwn S waits.held.psm waits.held.own to by_own → Some (asked_by (own_request by_own)) ≡ Some (Some other) → identifier ≡ other
        at to Unasked is so asked = cc
        at to (Asking request options) is so asked =
            let same : to ≡ peer = cc in
            let it : request.identifier ≡ other = cc in so identifier (subst (S identifier) (sym same) sent) ∙ it
        at to Granted is so asked = cc

        by : (stage : Stage) → StageOf (Fits S) waits.held.psm waits.held.own stage → peer_of stage ≡ Some peer → asked_at stage ≡ Some (Some other) → identifier ≡ other
        by (Requested request) so is asked = cc
        by (Connected to setup) so is asked = at to setup.own is so asked
        by (Leaving to setup request) so is asked = at to setup.own is so asked
        by (Closing to request checked) so is asked = cc
        by (Crossed to request) so is asked = cc

    once : (identifier other peer : ℕ) → S identifier peer ⊎ Waits v identifier peer → S other peer ⊎ Waits v other peer → identifier ≡ other
    once identifier other peer (inl sent) (inl also) = inv.once identifier other peer sent also
    once identifier other peer (inl sent) (inr waits) = named identifier other peer sent waits
    once identifier other peer (inr waits) (inl sent) = sym (named other identifier peer sent waits)
    once identifier other peer (inr waits) (inr also) = let both : Some (Some identifier) ≡ Some (Some other) = sym waits.asks ∙ it_waits waits.held other peer waits.found waits.to also in cc

    reads : (identifier peer : ℕ) → S identifier peer ⊎ Waits v identifier peer → (own : ℕ) × IsFor peer (read_at own (reading said).entries)
    reads identifier peer (inl sent) = inv.reads identifier peer sent
    reads identifier peer (inr waits) = (waits.held.own, counts_for policy said v waits.held peer sound waits.found waits.to)
