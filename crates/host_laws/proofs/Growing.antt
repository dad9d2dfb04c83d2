-- What a host does, one thing after the other.
use Rattle.std.proofs.Common.{◌≡◌, ℕ, zero, suc, Bool, true, false, List, [], ◌∷◌, ◌++◌, Option, Some, None, is_some, refl, sym, ap, ap₂, subst, ◌∙◌, append_assoc, append-nil, if◌then◌else◌}
use Rattle.std.specs.List.{AllByRecursion, filter_map}
use Rattle.std.proofs.lemmas.List.Concat.{flat_map-append}
use Rattle.std.proofs.lemmas.List.Elements.{filter_map-append}
use Rattle.std.proofs.lemmas.List.Sums.{fold-append}
use Rattle.shelf_model.specs.acl_fragments.specs.Pieces.{channel_of}
use Rattle.channel_laws.specs.channel_model.specs.Value.{Channels}
use Rattle.channel_laws.specs.channel_model.specs.Policies.{Policy}
use Rattle.channel_laws.specs.channel_model.specs.Carrying.{Up as Handed, Nothing, Received}
use Rattle.channel_laws.specs.channel_model.specs.Hearing as channels
use Rattle.channel_laws.specs.channel_model.specs.Timing.{timed_out}
use Rattle.channel_laws.specs.channel_model.specs.Giving.{Given, next_given, after_given}
use Rattle.channel_laws.specs.Runs.{Occurrence, Comes, Fires, Gives, value_after}
use Rattle.shelf_model.specs.world_model.specs.Machines.{News, Linked, Failed, Heard, TimerFired, Cancelled, Opening}
use Rattle.shelf_model.specs.host_model.specs.Circumstances.{Circumstance}
use Rattle.shelf_model.specs.host_model.specs.Pdus.{pdu_of, is_frame}
use Rattle.shelf_model.specs.host_model.specs.Profiles.{Profile}
use Rattle.shelf_model.specs.host_model.specs.Hosts.{Host, with_channels, tells_events, settles, strides, goes_by, drives, most_steps, steps_behind, driven, handed, told, hears_news, ready, hear, after_said, says}
use Rattle.shelf_model.specs.host_model.specs.Machines.{upper}
use Rattle.host_laws.specs.Acts.{Act, Hears, Says, Does, StaysOnLink, from_news, from_act}
use Rattle.host_laws.specs.Calls.{Call, Connect, AskFeatures, Disconnect, Send, Asks, from_call, values_after, asked, outer}
use Rattle.host_laws.specs.Feeds.{Feed, Gifts, Learns, Receives, fed, all_fed, asked_with, asked_from, Tiding, tidings_by, tidings_in, tidings_of, brought_by, tidings_with, tidings_from}
use Rattle.host_laws.specs.Feeds as feeds
use Rattle.host_laws.specs.Seen.{IsQuiet, IsGiven, IsCalmAt, IsCalm}
use Rattle.host_laws.specs.Calm.{IsCalmNews, IsReadFrom, IsCalmAct}
use Rattle.host_laws.specs.Woven.{Strand, IsOnLink, Hearing, Giving, Firing, Gifting, Learning, Checking, Stepping, strand_list, strand_profile, woven_list, woven_profile}
use Rattle.host_laws.specs.Fed.{feeds_up, strand_feeds, woven_feeds}
use Rattle.host_laws.specs.Asked.{IsOfLink, BeginsNone, ActsOfLink}
use Rattle.host_laws.specs.Gifts.{gifts_with, gifts_by, gifts_along}
use Rattle.host_laws.proofs.Steps.{Grows}
use Rattle.host_laws.proofs.Draining.{tells_grow, tells-begin_none, tells-give_none}

pub tidings-append : (policy : Policy) (v : Channels) (xs ys : List Occurrence) → tidings_from policy v (xs ++ ys) ≡ tidings_from policy v xs ++ tidings_from policy (values_after policy v xs) ys
tidings-append policy v [] ys = refl
tidings-append policy v (x ∷ xs) ys =
    ap (λ (rest : List Tiding). tidings_with x v ++ rest) (tidings-append policy (value_after policy x v) xs ys)
    ∙ sym (append_assoc (tidings_with x v) (tidings_from policy (value_after policy x v) xs) (tidings_from policy (values_after policy v (x ∷ xs)) ys))

pub asked-append : {P : Type 0} (A : Profile P) (asks : Asks A) (p : P) (xs ys : List Feed) → asked_from A asks p (xs ++ ys) ≡ asked_from A asks p xs ++ asked_from A asks (all_fed A p xs) ys
asked-append A asks p [] ys = refl
asked-append A asks p (x ∷ xs) ys =
    ap (λ (rest : List Occurrence). asked_with A asks p x ++ rest) (asked-append A asks (fed A p x) xs ys)
    ∙ sym (append_assoc (asked_with A asks p x) (asked_from A asks (fed A p x) xs) (asked_from A asks (all_fed A p (x ∷ xs)) ys))

pub calm-both : (policy : Policy) (v : Channels) (xs ys : List Occurrence) → IsCalm policy v xs → IsCalm policy (values_after policy v xs) ys → IsCalm policy v (xs ++ ys)
calm-both policy v [] ys one two = two
calm-both policy v (x ∷ xs) ys one two = (one.0, calm-both policy (value_after policy x v) xs ys one.1 two)

pub both-on_link : (one two : List Strand) → AllByRecursion IsOnLink one → AllByRecursion IsOnLink two → AllByRecursion IsOnLink (one ++ two)
both-on_link [] two first second = second
both-on_link (strand ∷ one) two first second = (first.0, both-on_link one two first.1 second)

pub woven-both : {P : Type 0} (A : Profile P) (asks : Asks A) (one two : List Strand) (v : Channels) (p : P)
    → woven_list A asks (one ++ two) v p ≡ woven_list A asks one v p ++ woven_list A asks two (values_after A.policy v (woven_list A asks one v p)) (woven_profile A asks one v p)
woven-both A asks [] two v p = refl
woven-both A asks (strand ∷ one) two v p =
    let here = strand_list A asks strand v p in
    let w = values_after A.policy v here in
    let q = strand_profile A strand v p in
    let more = woven_list A asks one w q in
    ap (λ (l : List Occurrence). here ++ l) (woven-both A asks one two w q)
    ∙ (ap (λ (u : Channels). here ++ (more ++ woven_list A asks two u (woven_profile A asks one w q))) (sym (fold-append (λ u next. value_after A.policy next u) v here more))
    ∙ sym (append_assoc here more (woven_list A asks two (values_after A.policy v (here ++ more)) (woven_profile A asks one w q))))

pub woven-last : {P : Type 0} (A : Profile P) (asks : Asks A) (one two : List Strand) (v : Channels) (p : P)
    → woven_profile A asks (one ++ two) v p ≡ woven_profile A asks two (values_after A.policy v (woven_list A asks one v p)) (woven_profile A asks one v p)
woven-last A asks [] two v p = refl
woven-last A asks (strand ∷ one) two v p =
    let here = strand_list A asks strand v p in
    let w = values_after A.policy v here in
    let q = strand_profile A strand v p in
    woven-last A asks one two w q
    ∙ ap (λ (u : Channels). woven_profile A asks two u (woven_profile A asks one w q)) (sym (fold-append (λ u next. value_after A.policy next u) v here (woven_list A asks one w q)))

pub fed-both : {P : Type 0} (A : Profile P) (asks : Asks A) (one two : List Strand) (v : Channels) (p : P)
    → woven_feeds A asks (one ++ two) v p ≡ woven_feeds A asks one v p ++ woven_feeds A asks two (values_after A.policy v (woven_list A asks one v p)) (woven_profile A asks one v p)
fed-both A asks [] two v p = refl
fed-both A asks (strand ∷ one) two v p =
    let here = strand_list A asks strand v p in
    let fed = strand_feeds strand v in
    let w = values_after A.policy v here in
    let q = strand_profile A strand v p in
    let more = woven_feeds A asks one w q in
    ap (λ (l : List Feed). fed ++ l) (fed-both A asks one two w q)
    ∙ (ap (λ (u : Channels). fed ++ (more ++ woven_feeds A asks two u (woven_profile A asks one w q))) (sym (fold-append (λ u next. value_after A.policy next u) v here (woven_list A asks one w q)))
    ∙ sym (append_assoc fed more (woven_feeds A asks two (values_after A.policy v (here ++ woven_list A asks one w q)) (woven_profile A asks one w q))))

pub none-some : {X : Type 0} (found : Option X) → is_some found ≡ false → found ≡ None
none-some None is = refl
none-some (Some x) is = cc

-- ---- what a host does

-- with what it is given of its ports on the way
pub record Gifted {P : Type 0} (A : Profile P) (asks : Asks A) (C : Type 0) (acted : List Occurrence) (gifts : List (List Circumstance)) (old new : Host P) : Type 0 where
  pub grows : Grows A asks C acted old new
  pub gifts_are : gifts_along grows.weave ≡ gifts

-- without the begin of a push, and where it hears nothing of its link
pub record Plainly {P : Type 0} (A : Profile P) (asks : Asks A) (C : Type 0) (acted : List Occurrence) (gifts : List (List Circumstance)) (old new : Host P) : Type 0 where
  pub grows : Grows A asks C acted old new
  pub begins : AllByRecursion BeginsNone grows.weave
  pub gifts_are : gifts_along grows.weave ≡ gifts

pub both-begin_none : (one two : List Strand) → AllByRecursion BeginsNone one → AllByRecursion BeginsNone two → AllByRecursion BeginsNone (one ++ two)
both-begin_none [] two first second = second
both-begin_none (strand ∷ one) two first second = (first.0, both-begin_none one two first.1 second)

module _ {P : Type 0} (A : Profile P) (asks : Asks A) (C : Type 0) where
  pub grows_none : (host : Host P) → Grows A asks C [] host host
  grows_none host = record { list = []; feeds = []; channels_are = refl; profile_is = refl; tidings_are = refl; asked_is = refl; acted_is = refl; calm = λ c. tt; weave = []; woven_is = refl; last_is = refl; on_link = tt; feeds_are = refl }

  unfoldable pub grows_then : (xs ys : List Occurrence) (old mid new : Host P) → Grows A asks C xs old mid → Grows A asks C ys mid new → Grows A asks C (xs ++ ys) old new
  grows_then xs ys old mid new one two = record {
    list = one.list ++ two.list;
    feeds = one.feeds ++ two.feeds;
    channels_are = two.channels_are
        ∙ (ap (λ v. values_after A.policy v two.list) one.channels_are ∙ sym (fold-append (λ w more. value_after A.policy more w) old.channels one.list two.list));
    profile_is = two.profile_is ∙ (ap (λ p. all_fed A p two.feeds) one.profile_is ∙ sym (fold-append (fed A) old.profile one.feeds two.feeds));
    tidings_are = flat_map-append tidings_in one.feeds two.feeds
        ∙ (ap₂ (λ (a b : List Tiding). a ++ b) one.tidings_are (two.tidings_are ∙ ap (λ v. tidings_from A.policy v two.list) one.channels_are)
        ∙ sym (tidings-append A.policy old.channels one.list two.list));
    asked_is = filter_map-append asked one.list two.list
        ∙ (ap₂ (λ (a b : List Occurrence). a ++ b) one.asked_is (two.asked_is ∙ ap (λ p. asked_from A asks p two.feeds) one.profile_is)
        ∙ sym (asked-append A asks old.profile one.feeds two.feeds));
    acted_is = filter_map-append outer one.list two.list ∙ ap₂ (λ (a b : List Occurrence). a ++ b) one.acted_is two.acted_is;
    calm = λ c. calm-both A.policy old.channels one.list two.list (one.calm c) (subst (λ (v : Channels). IsCalm A.policy v two.list) one.channels_are (two.calm c));
    weave = one.weave ++ two.weave;
    woven_is = ap₂ (λ (a b : List Occurrence). a ++ b) one.woven_is
        (two.woven_is ∙ ap₂ (λ (v : Channels) (p : P). woven_list A asks two.weave v p) (one.channels_are ∙ ap (values_after A.policy old.channels) one.woven_is) one.last_is)
        ∙ sym (woven-both A asks one.weave two.weave old.channels old.profile);
    last_is = two.last_is
        ∙ (ap₂ (λ (v : Channels) (p : P). woven_profile A asks two.weave v p) (one.channels_are ∙ ap (values_after A.policy old.channels) one.woven_is) one.last_is
        ∙ sym (woven-last A asks one.weave two.weave old.channels old.profile));
    on_link = both-on_link one.weave two.weave one.on_link two.on_link;
    feeds_are = ap₂ (λ (a b : List Feed). a ++ b) one.feeds_are
        (two.feeds_are ∙ ap₂ (λ (v : Channels) (p : P). woven_feeds A asks two.weave v p) (one.channels_are ∙ ap (values_after A.policy old.channels) one.woven_is) one.last_is)
        ∙ sym (fed-both A asks one.weave two.weave old.channels old.profile);
  }

  -- the profile alone goes on
  feeds_grow : (host : Host P) (feed : Feed) (strand : Strand) (count : ℕ) → IsOnLink strand → strand_list A asks strand host.channels host.profile ≡ [] → fed A host.profile feed ≡ strand_profile A strand host.channels host.profile → strand_feeds strand host.channels ≡ feed ∷ [] → tidings_in feed ≡ [] → asked_with A asks host.profile feed ≡ [] → (let after : Host P = record host { profile = fed A host.profile feed; may_say = count } in Grows A asks C [] host after)
  feeds_grow host feed strand count on silent goes told none nothing = record {
    list = [];
    feeds = feed ∷ [];
    channels_are = refl;
    profile_is = refl;
    tidings_are = ap (λ (t : List Tiding). t ++ []) none;
    asked_is = sym (ap (λ (l : List Occurrence). l ++ []) nothing);
    acted_is = refl;
    calm = λ c. tt;
    weave = strand ∷ [];
    woven_is = sym (ap (λ (l : List Occurrence). l ++ []) silent);
    last_is = goes;
    on_link = (on, tt);
    feeds_are = sym (ap (λ (l : List Feed). l ++ []) told);
  }

  gifts_then : (one two : List Strand) (gs hs : List (List Circumstance)) → gifts_along one ≡ gs → gifts_along two ≡ hs → gifts_along (one ++ two) ≡ gs ++ hs
  gifts_then one two gs hs first second = flat_map-append gifts_by one two ∙ ap₂ (λ (x y : List (List Circumstance)). x ++ y) first second

  gifted_then : (xs ys : List Occurrence) (gs hs : List (List Circumstance)) (old mid new : Host P) → Gifted A asks C xs gs old mid → Gifted A asks C ys hs mid new → Gifted A asks C (xs ++ ys) (gs ++ hs) old new
  unfolding grows_then
  gifted_then xs ys gs hs old mid new one two = record { grows = grows_then xs ys old mid new one.grows two.grows; gifts_are = gifts_then one.grows.weave two.grows.weave gs hs one.gifts_are two.gifts_are }

  pub plain_then : (xs ys : List Occurrence) (gs hs : List (List Circumstance)) (old mid new : Host P) → Plainly A asks C xs gs old mid → Plainly A asks C ys hs mid new → Plainly A asks C (xs ++ ys) (gs ++ hs) old new
  unfolding grows_then
  plain_then xs ys gs hs old mid new one two = record {
    grows = grows_then xs ys old mid new one.grows two.grows;
    begins = both-begin_none one.grows.weave two.grows.weave one.begins two.begins;
    gifts_are = gifts_then one.grows.weave two.grows.weave gs hs one.gifts_are two.gifts_are;
  }

  gifted_so : (acted : List Occurrence) (gifts : List (List Circumstance)) (old new : Host P) → Plainly A asks C acted gifts old new → Gifted A asks C acted gifts old new
  gifted_so acted gifts old new plain = record { grows = plain.grows; gifts_are = plain.gifts_are }

  pub tells_plain : (host : Host P) → Plainly A asks C [] [] host (tells_events A host)
  tells_plain host = record { grows = tells_grow A asks C host; begins = tells-begin_none A asks C host; gifts_are = tells-give_none A asks C host }

  settles_plain : (host : Host P) → Plainly A asks C [] [] host (settles A host)
  unfolding feeds_grow
  settles_plain host = record { grows = feeds_grow host (feeds.Sent host.channels) Checking host.may_say tt refl refl refl refl refl; begins = (tt, tt); gifts_are = refl }

  pub readies_plain : (circumstances : List Circumstance) (host : Host P) → Plainly A asks C [] (circumstances ∷ []) host (ready A circumstances host)
  unfolding feeds_grow
  readies_plain circumstances host = record { grows = feeds_grow host (Gifts circumstances) (Gifting circumstances) (ready A circumstances host).may_say tt refl refl refl refl refl; begins = (tt, tt); gifts_are = refl }

  learns_gifted : (circumstances : List Circumstance) (news : News) (host : Host P) → tidings_by news ≡ [] → Gifted A asks C [] [] host (told A circumstances news host)
  unfolding feeds_grow
  learns_gifted circumstances news host none = record { grows = feeds_grow host (Learns circumstances news) (Learning circumstances news) host.may_say none refl refl refl none refl; gifts_are = refl }

  learns_plain : (circumstances : List Circumstance) (news : News) (host : Host P) → IsOfLink news → tidings_by news ≡ [] → Plainly A asks C [] [] host (told A circumstances news host)
  unfolding feeds_grow
  learns_plain circumstances news host of none = record { grows = feeds_grow host (Learns circumstances news) (Learning circumstances news) host.may_say none refl refl refl none refl; begins = (of, tt); gifts_are = refl }

  -- ---- a PDU comes in

  fed_up : (up : Handed) (p : P) → handed A up p ≡ all_fed A p (feeds_up up)
  fed_up Nothing p = refl
  fed_up (Received own psm sdu) p = refl

  pub told_up : (up : Handed) → tidings_of (feeds_up up) ≡ (brought_by up ++ []) ++ []
  told_up Nothing = refl
  told_up (Received own psm sdu) = refl

  asked_up : (up : Handed) (p : P) → asked_from A asks p (feeds_up up) ≡ []
  asked_up Nothing p = refl
  asked_up (Received own psm sdu) p = refl

  comes_plain : (pdu : List ℕ) (host : Host P) → (C → IsCalmAt A.policy (Comes pdu) host.channels)
      → (let after : Host P = record host { channels = channels.hears A.policy (channel_of pdu) pdu host.channels; profile = handed A (channels.up (channel_of pdu) pdu host.channels) host.profile } in Plainly A asks C (Comes pdu ∷ []) [] host after)
  comes_plain pdu host calm =
      let up = channels.up (channel_of pdu) pdu host.channels in
      record {
        grows = record { list = Comes pdu ∷ []; feeds = feeds_up up; channels_are = refl; profile_is = fed_up up host.profile; tidings_are = told_up up; asked_is = sym (asked_up up host.profile); acted_is = refl; calm = λ c. (calm c, tt); weave = Hearing pdu ∷ []; woven_is = refl; last_is = refl; on_link = (tt, tt); feeds_are = sym (append-nil (feeds_up up)) };
        begins = (tt, tt);
        gifts_are = refl;
      }

  -- ---- the timer fires, a PDU is given

  fires_plain : (host : Host P) → (C → IsCalmAt A.policy Fires host.channels) → Plainly A asks C (Fires ∷ []) [] host (with_channels (timed_out A.policy host.channels) host)
  fires_plain host calm = record {
    grows = record { list = Fires ∷ []; feeds = []; channels_are = refl; profile_is = refl; tidings_are = refl; asked_is = refl; acted_is = refl; calm = λ c. (calm c, tt); weave = Firing ∷ []; woven_is = refl; last_is = refl; on_link = (tt, tt); feeds_are = refl };
    begins = (tt, tt);
    gifts_are = refl;
  }

  gives_plain : (pdu : List ℕ) (host : Host P) → (C → IsGiven host.channels pdu) → Plainly A asks C (Gives pdu ∷ []) [] host (with_channels (after_given host.channels) host)
  gives_plain pdu host calm = record {
    grows = record { list = Gives pdu ∷ []; feeds = []; channels_are = refl; profile_is = refl; tidings_are = refl; asked_is = refl; acted_is = refl; calm = λ c. (calm c, tt); weave = Giving pdu ∷ []; woven_is = refl; last_is = refl; on_link = (tt, tt); feeds_are = refl };
    begins = (tt, tt);
    gifts_are = refl;
  }

  -- ---- a step of its profile

  pub none_told : (call : Option Call) (v : Channels) → [] ≡ tidings_from A.policy v (from_call call)
  none_told None v = refl
  none_told (Some (Connect psm)) v = refl
  none_told (Some AskFeatures) v = refl
  none_told (Some (Disconnect own)) v = refl
  none_told (Some (Send own sdu)) v = refl

  call_asked : (call : Option Call) → filter_map asked (from_call call) ≡ from_call call ++ []
  call_asked None = refl
  call_asked (Some (Connect psm)) = refl
  call_asked (Some AskFeatures) = refl
  call_asked (Some (Disconnect own)) = refl
  call_asked (Some (Send own sdu)) = refl

  none_acted : (call : Option Call) → filter_map outer (from_call call) ≡ []
  none_acted None = refl
  none_acted (Some (Connect psm)) = refl
  none_acted (Some AskFeatures) = refl
  none_acted (Some (Disconnect own)) = refl
  none_acted (Some (Send own sdu)) = refl

  call_calm : (call : Option Call) (v : Channels) → IsQuiet v → IsCalm A.policy v (from_call call)
  call_calm None v quiet = tt
  call_calm (Some (Connect psm)) v quiet = (quiet, tt)
  call_calm (Some AskFeatures) v quiet = (quiet, tt)
  call_calm (Some (Disconnect own)) v quiet = (quiet, tt)
  call_calm (Some (Send own sdu)) v quiet = (quiet, tt)

  strides_plain : (host : Host P) → IsQuiet host.channels → Plainly A asks C [] [] host (strides A (A.steps host.channels host.profile) host)
  strides_plain host quiet =
      let stride = A.steps host.channels host.profile in
      let mid : Host P = record host { channels = stride.channels; profile = stride.profile } in
      let call = asks.call host.channels host.profile in
      let steps : Grows A asks C [] host mid = record {
        list = from_call call;
        feeds = feeds.Steps host.channels ∷ [];
        channels_are = asks.steps_are host.channels host.profile;
        profile_is = refl;
        tidings_are = none_told call host.channels;
        asked_is = call_asked call;
        acted_is = none_acted call;
        calm = λ c. call_calm call host.channels quiet;
        weave = Stepping ∷ [];
        on_link = (tt, tt);
        feeds_are = refl;
        woven_is = sym (append-nil (from_call call));
        last_is = refl;
      } in
      plain_then [] [] [] [] host mid (strides A stride host) (record { grows = steps; begins = (tt, tt); gifts_are = refl }) (tells_plain mid)

  -- ---- all that it does by itself

  plain_on : (more : Host P → Host P) (test : Bool) (host : Host P) → IsQuiet host.channels → ((next : Host P) → Plainly A asks C [] [] next (more next))
      → (let after = strides A (A.steps host.channels host.profile) host in Plainly A asks C [] [] host (if test then more after else after))
  plain_on more true host quiet goes = let after = strides A (A.steps host.channels host.profile) host in plain_then [] [] [] [] host after (more after) (strides_plain host quiet) (goes after)
  plain_on more false host quiet goes = strides_plain host quiet

  plain_goes : (more : Host P → Host P) (test : Bool) (host : Host P) → is_some (next_given host.channels) ≡ test → ((next : Host P) → Plainly A asks C [] [] next (more next))
      → Plainly A asks C [] [] host (if test then host else goes_by A more (A.steps host.channels host.profile) host)
  unfolding grows_none
  plain_goes more true host is goes = record { grows = grows_none host; begins = tt; gifts_are = refl }
  plain_goes more false host is goes = plain_on more (A.steps host.channels host.profile).more host (none-some (next_given host.channels) is) goes

  pub drives_plain : (count : ℕ) (host : Host P) → Plainly A asks C [] [] host (drives A count host)
  unfolding drives
  drives_plain zero host = settles_plain host
  drives_plain (suc count) host =
      let now = settles A host in
      let more = λ (next : Host P). drives A count next in
      let test = is_some (next_given now.channels) in
      plain_then [] [] [] [] host now (if test then now else goes_by A more (A.steps now.channels now.profile) now) (settles_plain host) (plain_goes more test now refl (λ next. drives_plain count next))

  plain_drives : (count : ℕ) (acted : List Occurrence) (gifts : List (List Circumstance)) (old new : Host P) → Plainly A asks C acted gifts old new → Plainly A asks C acted gifts old (drives A count new)
  plain_drives count acted gifts old new plain =
      subst (λ (list : List Occurrence). Plainly A asks C list gifts old (drives A count new)) (append-nil acted)
      (subst (λ (gs : List (List Circumstance)). Plainly A asks C (acted ++ []) gs old (drives A count new)) (append-nil gifts) (plain_then acted [] gifts [] old new (drives A count new) plain (drives_plain count new)))

  -- ---- acts

  plain_hears : (circumstances : List Circumstance) (news : News) (host : Host P) → IsOfLink news → (C → IsCalmNews A.policy news host.channels) → Plainly A asks C (from_news news) [] host (hears_news A circumstances news host)
  plain_hears circumstances (Linked event) host of calm = absurd of
  plain_hears circumstances (Failed status) host of calm = absurd of
  plain_hears circumstances (Heard pdu) host of calm =
      let heard : Host P = record host { channels = channels.hears A.policy (channel_of pdu) pdu host.channels; profile = handed A (channels.up (channel_of pdu) pdu host.channels) host.profile } in
      plain_then (Comes pdu ∷ []) [] [] [] host heard (tells_events A heard) (comes_plain pdu host calm) (tells_plain heard)
  plain_hears circumstances TimerFired host of calm =
      let fired = with_channels (timed_out A.policy host.channels) host in
      plain_then (Fires ∷ []) [] [] [] host fired (told A circumstances TimerFired (tells_events A fired)) (fires_plain host calm)
      (plain_then [] [] [] [] fired (tells_events A fired) (told A circumstances TimerFired (tells_events A fired)) (tells_plain fired) (learns_plain circumstances TimerFired (tells_events A fired) tt refl))
  plain_hears circumstances Cancelled host of calm = learns_plain circumstances Cancelled host tt refl
  plain_hears circumstances (Opening name) host of calm = absurd of

  plain_hear : (circumstances : List Circumstance) (news : News) (host : Host P) → IsOfLink news → (C → IsCalmNews A.policy news host.channels) → Plainly A asks C (from_news news) (circumstances ∷ []) host (hear A circumstances news host)
  plain_hear circumstances news host of calm =
      let old = ready A circumstances host in
      plain_drives most_steps (from_news news) (circumstances ∷ []) host (hears_news A circumstances news old)
      (plain_then [] (from_news news) (circumstances ∷ []) [] host old (hears_news A circumstances news old) (readies_plain circumstances host) (plain_hears circumstances news old of calm))

  abbrev Says_plain : Host P → Option (List ℕ × Host P) → Type 0
  Says_plain host None = Unit {0}
  Says_plain host (Some one) = (C → IsReadFrom one.0 host) → Plainly A asks C (Gives one.0 ∷ []) [] host one.1

  frames_plain : (old : Host P) (test : Bool) (pdu : List ℕ) (host : Host P) → ((C → IsReadFrom pdu old) → Plainly A asks C (Gives pdu ∷ []) [] old host) → Says_plain old (if test then Some (pdu, host) else None)
  frames_plain old true pdu host plain = plain
  frames_plain old false pdu host plain = tt

  -- how much it may say counts for nothing
  may_plain : (acted : List Occurrence) (gifts : List (List Circumstance)) (old new : Host P) (count : ℕ) → Plainly A asks C acted gifts old new → (let after : Host P = record new { may_say = count } in Plainly A asks C acted gifts old after)
  may_plain acted gifts old new count plain =
      let grows = plain.grows in
      record {
        grows = record {
          list = grows.list;
          feeds = grows.feeds;
          channels_are = grows.channels_are;
          profile_is = grows.profile_is;
          tidings_are = grows.tidings_are;
          asked_is = grows.asked_is;
          acted_is = grows.acted_is;
          calm = grows.calm;
          weave = grows.weave;
          woven_is = grows.woven_is;
          last_is = grows.last_is;
          on_link = grows.on_link;
          feeds_are = grows.feeds_are;
        };
        begins = plain.begins;
        gifts_are = plain.gifts_are;
      }

  says_plain : (old : Host P) (given : Option Given) (count : ℕ) → next_given old.channels ≡ given → Says_plain old (says A given count old)
  says_plain old None count is = tt
  says_plain old (Some given) zero is = tt
  says_plain old (Some given) (suc count) is =
      let pdu = pdu_of given in
      let gave = with_channels (after_given old.channels) old in
      frames_plain old (is_frame pdu) pdu (after_said A count old)
      (λ calm. may_plain (Gives pdu ∷ []) [] old (drives A (steps_behind count) gave) count (plain_drives (steps_behind count) (Gives pdu ∷ []) [] old gave (gives_plain pdu old (λ c. record { given = given; is = is; said_as = calm c given is }))))

  -- what a host does on its link, where no push begins
  pub act_plain : (act : Act Circumstance) (old new : Host P) → ActsOfLink act → (C → IsCalmAct A act old) → Does (upper A) act old new → Plainly A asks C (from_act act) (gifts_with act) old new
  act_plain (Hears circumstances news) old new of calm does = subst (λ (host : Host P). Plainly A asks C (from_news news) (circumstances ∷ []) old host) (sym does) (plain_hear circumstances news old of calm)
  act_plain (Says pdu) old new of calm does = subst (Says_plain old) does (says_plain old (next_given old.channels) old.may_say refl) calm

  -- ---- whatever it does

  pub drives_grow : (count : ℕ) (host : Host P) → Grows A asks C [] host (drives A count host)
  drives_grow count host = (drives_plain count host).grows

  pub readies : (circumstances : List Circumstance) (host : Host P) → Grows A asks C [] host (ready A circumstances host)
  readies circumstances host = (readies_plain circumstances host).grows

  -- it hears news that are for its profile alone
  aside_gifted : (circumstances : List Circumstance) (news : News) (host : Host P) → tidings_by news ≡ [] → Gifted A asks C [] (circumstances ∷ []) host (driven A (told A circumstances news (ready A circumstances host)))
  aside_gifted circumstances news host none =
      let old = ready A circumstances host in
      let mid = told A circumstances news old in
      gifted_then [] [] (circumstances ∷ []) [] host mid (driven A mid)
      (gifted_then [] [] (circumstances ∷ []) [] host old mid (gifted_so [] (circumstances ∷ []) host old (readies_plain circumstances host)) (learns_gifted circumstances news old none)) (gifted_so [] [] mid (driven A mid) (drives_plain most_steps mid))

  hears_gifted : (circumstances : List Circumstance) (news : News) (host : Host P) → StaysOnLink (Hears circumstances news) → (C → IsCalmNews A.policy news host.channels) → Gifted A asks C (from_news news) (circumstances ∷ []) host (hear A circumstances news host)
  hears_gifted circumstances (Linked event) host stays calm = absurd stays
  hears_gifted circumstances (Failed status) host stays calm = aside_gifted circumstances (Failed status) host refl
  hears_gifted circumstances (Heard pdu) host stays calm = gifted_so (Comes pdu ∷ []) (circumstances ∷ []) host _ (plain_hear circumstances (Heard pdu) host tt calm)
  hears_gifted circumstances TimerFired host stays calm = gifted_so (Fires ∷ []) (circumstances ∷ []) host _ (plain_hear circumstances TimerFired host tt calm)
  hears_gifted circumstances Cancelled host stays calm = gifted_so [] (circumstances ∷ []) host _ (plain_hear circumstances Cancelled host tt calm)
  hears_gifted circumstances (Opening name) host stays calm = aside_gifted circumstances (Opening name) host refl

  pub act_gifted : (act : Act Circumstance) (old new : Host P) → StaysOnLink act → (C → IsCalmAct A act old) → Does (upper A) act old new → Gifted A asks C (from_act act) (gifts_with act) old new
  act_gifted (Hears circumstances news) old new stays calm does = subst (λ (host : Host P). Gifted A asks C (from_news news) (circumstances ∷ []) old host) (sym does) (hears_gifted circumstances news old stays calm)
  act_gifted (Says pdu) old new stays calm does = gifted_so (Gives pdu ∷ []) [] old new (act_plain (Says pdu) old new tt calm does)

  pub act_grows : (act : Act Circumstance) (old new : Host P) → StaysOnLink act → (C → IsCalmAct A act old) → Does (upper A) act old new → Grows A asks C (from_act act) old new
  act_grows act old new stays calm does = (act_gifted act old new stays calm does).grows

-- it is so of a host that need not be calm
abbrev pub without_calm : {P : Type 0} (A : Profile P) (asks : Asks A) (acted : List Occurrence) (old new : Host P) → Grows A asks (Unit {0}) acted old new → Grows A asks ⊥ acted old new
without_calm A asks acted old new grows = record {
  list = grows.list;
  feeds = grows.feeds;
  channels_are = grows.channels_are;
  profile_is = grows.profile_is;
  tidings_are = grows.tidings_are;
  asked_is = grows.asked_is;
  acted_is = grows.acted_is;
  calm = λ never. absurd never;
  weave = grows.weave;
  woven_is = grows.woven_is;
  last_is = grows.last_is;
  on_link = grows.on_link;
  feeds_are = grows.feeds_are;
}
