-- What a longer talk has more in objects, where one endpoint alone has more.
use Rattle.std.proofs.Common.{◌≡◌, ℕ, Bool, true, false, cond, eqb, List, [], ◌∷◌, ◌++◌, map, filter_map, Option, Some, None, refl, sym, ap, ap₂, ◌∙◌, append-nil}
use Rattle.std.specs.List.{cons_option}
use Rattle.std.proofs.lemmas.Bool.{eq-eqb}
use Rattle.std.proofs.lemmas.List.{append_cancel_left, map-append}
use Rattle.std.proofs.lemmas.List.Elements.{filter_map-append}
use Rattle.host_laws.specs.channel_laws.specs.bt_base.specs.Objects.{Object}
use Rattle.host_laws.specs.channel_laws.specs.capture.proofs.HistoryLaws.{each_after-append}
use Rattle.host_laws.specs.channel_laws.specs.capture.specs.Histories.{each_after}
use Rattle.host_laws.specs.channel_laws.specs.link_talk.specs.declared.channel.Channel.{Channel}
use Rattle.host_laws.specs.channel_laws.specs.link_talk.specs.declared.party.Party.{Party}
use Rattle.host_laws.specs.channel_laws.specs.link_talk.specs.Channels.{Entry, reading}
use Rattle.host_laws.specs.channel_laws.specs.link_talk.specs.ObjectsHeard.{channel_objects, objects}
use Rattle.host_laws.specs.channel_laws.specs.link_talk.specs.Sayings.{Saying}
use Rattle.host_laws.specs.channel_laws.specs.talk_laws.proofs.LinkObjects.{objects-fall_to_channels}
use Rattle.host_laws.specs.channel_laws.specs.talk_laws.specs.LinkObjects.{PlacedObject, placed_with, placed_objects, object_on}
use Rattle.host_laws.specs.channel_laws.specs.Views.{read_at}

-- ---- on one own endpoint

abbrev pub with_own : ℕ → Channel
with_own n = record { psm = 0; own = n; peer = 0 }

-- the objects that came there
abbrev pub objects_at : Party → ℕ → List Saying → List Object
objects_at party n said = filter_map (object_on (with_own n)) (placed_objects party said)

pub at-none : (party : Party) (n : ℕ) (said : List Saying) → read_at n (reading said).entries ≡ None → objects_at party n said ≡ []
at-none party n said none = objects-fall_to_channels.none party said (with_own n) none

pub at-some : (party : Party) (n : ℕ) (said : List Saying) (entry : Entry) → read_at n (reading said).entries ≡ Some entry → objects_at party n said ≡ channel_objects party entry.channel said
at-some party n said entry is = objects-fall_to_channels.each party said (with_own n) entry is

-- ---- all that is new came there

abbrev object_of : PlacedObject → Object
object_of one = one.object

no_tail : {X : Type 0} (first : Option X) (rest : List X) → cons_option first rest ≡ [] → rest ≡ []
no_tail None rest none = none
no_tail (Some x) rest none = cc

abbrev NoneElsewhere : ℕ → List PlacedObject → Type 0
NoneElsewhere n list = (other : ℕ) → eqb other n ≡ false → filter_map (object_on (with_own other)) list ≡ []

sole_by : (n : ℕ) (one : PlacedObject) (list : List PlacedObject) (here : Bool) → eqb one.channel.own n ≡ here → NoneElsewhere n (one ∷ list) → map object_of list ≡ filter_map (object_on (with_own n)) list
    → one.object ∷ map object_of list ≡ cons_option (cond here (Some one.object) None) (filter_map (object_on (with_own n)) list)
sole_by n one list true is none rest = ap (λ (l : List Object). one.object ∷ l) rest
sole_by n one list false is none rest =
    let here = none one.channel.own is in
    let some : one.object ∷ filter_map (object_on (with_own one.channel.own)) list ≡ [] =
    sym (ap (λ (b : Bool). cons_option (cond b (Some one.object) None) (filter_map (object_on (with_own one.channel.own)) list)) (eq-eqb one.channel.own one.channel.own refl)) ∙ here in
    cc

sole : (n : ℕ) (list : List PlacedObject) → NoneElsewhere n list → map object_of list ≡ filter_map (object_on (with_own n)) list
sole n [] none = refl
sole n (one ∷ list) none =
    sole_by n one list (eqb one.channel.own n) refl none (sole n list (λ other apart. no_tail (object_on (with_own other) one) (filter_map (object_on (with_own other)) list) (none other apart)))

-- ---- a longer talk

module _ (party : Party) (past more : List Saying) where
  abbrev behind : List PlacedObject
  behind = each_after (placed_with party) past more

  split : placed_objects party (past ++ more) ≡ placed_objects party past ++ each_after (placed_with party) past more
  split = each_after-append (placed_with party) [] past more

  -- what is new at an endpoint
  new_at : (n : ℕ) (new : List Object) → objects_at party n (past ++ more) ≡ objects_at party n past ++ new → filter_map (object_on (with_own n)) behind ≡ new
  new_at n new is =
      append_cancel_left (objects_at party n past) _ _
      (sym (ap (filter_map (object_on (with_own n))) split ∙ filter_map-append (object_on (with_own n)) (placed_objects party past) behind) ∙ is)

  pub objects-grow_at : (n : ℕ) (new : List Object) → ((other : ℕ) → eqb other n ≡ false → objects_at party other (past ++ more) ≡ objects_at party other past)
      → objects_at party n (past ++ more) ≡ objects_at party n past ++ new → objects party (past ++ more) ≡ objects party past ++ new
  objects-grow_at n new others here =
      let none : NoneElsewhere n behind = λ other apart. new_at other [] (others other apart ∙ sym (append-nil (objects_at party other past))) in
      sym (objects-fall_to_channels.all party (past ++ more))
      ∙ (ap (map object_of) split
      ∙ (map-append object_of (placed_objects party past) behind
      ∙ ap₂ (λ (a b : List Object). a ++ b) (objects-fall_to_channels.all party past) (sole n behind none ∙ new_at n new here)))

  -- where no endpoint has more there is none
  pub objects-stay_at : ((n : ℕ) → objects_at party n (past ++ more) ≡ objects_at party n past) → objects party (past ++ more) ≡ objects party past
  objects-stay_at same = objects-grow_at 0 [] (λ other apart. same other) (same 0 ∙ sym (append-nil (objects_at party 0 past))) ∙ append-nil (objects party past)
