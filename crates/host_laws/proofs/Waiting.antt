-- What waits to be given, as it is said.
use Rattle.std.proofs.Common.{◌≡◌, ℕ, List, [], ◌∷◌, ◌++◌, map, Bool, true, false, cond, eqb, find, Option, Some, None, option_map, option_to_list, is_some, refl, sym, ap, subst, ◌∙◌}
use Rattle.std.specs.List.{AllByRecursion}
use Rattle.std.proofs.lemmas.Bool.{eqb-true}
use Rattle.shelf_model.specs.l2cap_signal.specs.Commands.{Command}
use Rattle.push_laws.specs.link_talk.specs.Sayings.{Saying}
use Rattle.channel_laws.specs.channel_model.specs.declared.errand.Errand.{Errand}
use Rattle.channel_laws.specs.channel_model.specs.declared.errand.Errand.TheVariants as errands
use Rattle.channel_laws.specs.channel_model.specs.Value.{Request, Queued, Answer, Ask, Own, Unasked, Asking, Granted, Stage, Requested, Connected, Leaving, Closing, Crossed, Held, Channels}
use Rattle.channel_laws.specs.channel_model.specs.Changing.{has_own, held_at, in_place_of}
use Rattle.channel_laws.specs.channel_model.specs.Giving.{Given, connection_at, configuration_by, configuration_at, disconnection_at, on_held, command_of, own_given, connection_given, configuration_given, disconnection_given, stage_given, counted, stage_gives, gives, held_gives, one_more, features_command}
use Rattle.channel_laws.specs.channel_model.proofs.Walking.{found-own}
use Rattle.channel_laws.specs.channel_model.proofs.Lookups.{own_of, Distinct, not_found, found-placed, find-placed}
use Rattle.channel_laws.specs.OwnTalk.{spoken, said_of}
use Rattle.host_laws.specs.Seen.{waiting_in, AllDue}

-- ---- the queue

abbrev pub SameCommands : (v w : Channels) → Type 0
SameCommands v w = (errand : Errand) → command_of errand w ≡ command_of errand v

pub waiting-same : (v w : Channels) (queue : List Queued) → SameCommands v w → waiting_in queue w ≡ waiting_in queue v
waiting-same v w [] same = refl
waiting-same v w (Answer command ∷ queue) same = ap (λ (rest : List Saying). spoken command ∷ rest) (waiting-same v w queue same)
waiting-same v w (Ask errand ∷ queue) same =
    ap (λ (c : Option Command). map spoken (option_to_list c) ++ waiting_in queue w) (same errand) ∙ ap (λ (rest : List Saying). said_of (Some errand) v ++ rest) (waiting-same v w queue same)

pub due-same : (v w : Channels) (queue : List Queued) → SameCommands v w → AllDue queue v → AllDue queue w
due-same v w [] same due = tt
due-same v w (Answer command ∷ queue) same due = (tt, due-same v w queue same due.1)
due-same v w (Ask errand ∷ queue) same due = (ap is_some (same errand) ∙ due.0, due-same v w queue same due.1)

-- ---- a request is given one time more

-- what waits of a channel stays as it is
pub record SameView (before after : Held) : Type 0 where
  pub own_is : after.own ≡ before.own
  pub connection_is : connection_at after.stage after ≡ connection_at before.stage before
  pub configuration_is : configuration_at after.stage ≡ configuration_at before.stage
  pub disconnection_is : disconnection_at after.stage after ≡ disconnection_at before.stage before
  pub gives_is : stage_gives after.stage ≡ stage_gives before.stage

own_view : (own : Own) (peer : ℕ) → configuration_by (own_given own) peer ≡ configuration_by own peer
own_view Unasked peer = refl
own_view (Asking request options) peer = refl
own_view Granted peer = refl

abbrev staged_as : Held → Stage → Held
staged_as held stage = record held { stage = stage }

connection_view : (held : Held) (stage : Stage) → SameView (staged_as held stage) (staged_as held (connection_given stage))
connection_view held (Requested request) = record { own_is = refl; connection_is = refl; configuration_is = refl; disconnection_is = refl; gives_is = refl }
connection_view held (Connected peer setup) = record { own_is = refl; connection_is = refl; configuration_is = refl; disconnection_is = refl; gives_is = refl }
connection_view held (Leaving peer setup request) = record { own_is = refl; connection_is = refl; configuration_is = refl; disconnection_is = refl; gives_is = refl }
connection_view held (Closing peer request checked) = record { own_is = refl; connection_is = refl; configuration_is = refl; disconnection_is = refl; gives_is = refl }
connection_view held (Crossed peer request) = record { own_is = refl; connection_is = refl; configuration_is = refl; disconnection_is = refl; gives_is = refl }

configuration_view : (held : Held) (stage : Stage) → SameView (staged_as held stage) (staged_as held (configuration_given stage))
configuration_view held (Requested request) = record { own_is = refl; connection_is = refl; configuration_is = refl; disconnection_is = refl; gives_is = refl }
configuration_view held (Connected peer setup) = record { own_is = refl; connection_is = refl; configuration_is = own_view setup.own peer; disconnection_is = refl; gives_is = refl }
configuration_view held (Leaving peer setup request) = record { own_is = refl; connection_is = refl; configuration_is = own_view setup.own peer; disconnection_is = refl; gives_is = refl }
configuration_view held (Closing peer request checked) = record { own_is = refl; connection_is = refl; configuration_is = refl; disconnection_is = refl; gives_is = refl }
configuration_view held (Crossed peer request) = record { own_is = refl; connection_is = refl; configuration_is = refl; disconnection_is = refl; gives_is = refl }

disconnection_view : (held : Held) (stage : Stage) → SameView (staged_as held stage) (staged_as held (disconnection_given stage))
disconnection_view held (Requested request) = record { own_is = refl; connection_is = refl; configuration_is = refl; disconnection_is = refl; gives_is = refl }
disconnection_view held (Connected peer setup) = record { own_is = refl; connection_is = refl; configuration_is = refl; disconnection_is = refl; gives_is = refl }
disconnection_view held (Leaving peer setup request) = record { own_is = refl; connection_is = refl; configuration_is = refl; disconnection_is = refl; gives_is = refl }
disconnection_view held (Closing peer request checked) = record { own_is = refl; connection_is = refl; configuration_is = refl; disconnection_is = refl; gives_is = refl }
disconnection_view held (Crossed peer request) = record { own_is = refl; connection_is = refl; configuration_is = refl; disconnection_is = refl; gives_is = refl }

-- a request of the channel that is put in place
on_same : (before after : Held) (hs : List Held) (own : ℕ) (f : Held → Option Command) → find (has_own after.own) hs ≡ Some before → f after ≡ f before → on_held f (find (has_own own) (map (in_place_of after) hs)) ≡ on_held f (find (has_own own) hs)
on_same before after hs own f found same = by (eqb after.own own) refl
  where
    by : (here : Bool) → eqb after.own own ≡ here → on_held f (find (has_own own) (map (in_place_of after) hs)) ≡ on_held f (find (has_own own) hs)
    by false apart = ap (on_held f) (find-placed after hs own apart)
    by true is =
        subst (λ n. on_held f (find (has_own n) (map (in_place_of after) hs)) ≡ on_held f (find (has_own n) hs)) (eqb-true after.own own is)
        (ap (on_held f) (found-placed after before hs found) ∙ (same ∙ sym (ap (on_held f) found)))

placed_commands : (v : Channels) (before after : Held) → find (has_own before.own) v.held ≡ Some before → SameView before after → (let w : Channels = record v { held = map (in_place_of after) v.held } in SameCommands v w)
placed_commands v before after found view (errands.Connection own) = on_same before after v.held own (λ held. connection_at held.stage held) (ap (λ n. find (has_own n) v.held) view.own_is ∙ found) view.connection_is
placed_commands v before after found view (errands.Configuration own) = on_same before after v.held own (λ held. configuration_at held.stage) (ap (λ n. find (has_own n) v.held) view.own_is ∙ found) view.configuration_is
placed_commands v before after found view (errands.Disconnection own) = on_same before after v.held own (λ held. disconnection_at held.stage held) (ap (λ n. find (has_own n) v.held) view.own_is ∙ found) view.disconnection_is
placed_commands v before after found view errands.Features = refl

-- ---- what channels give

-- all of them that have the number of the one that is found
none_all : (n : ℕ) (hs : List Held) (X : Held → Type 0) → find (has_own n) hs ≡ None → AllByRecursion (λ (x : Held). eqb x.own n ≡ true → X x) hs
none_all n [] X none = tt
none_all n (x ∷ hs) X none = let parts = not_found (eqb x.own n) x (find (has_own n) hs) none in (λ is. let never : true ≡ false = sym is ∙ parts.0 in absurd cc, none_all n hs X parts.1)

pub found_all : (n : ℕ) (hs : List Held) (held : Held) (X : Held → Type 0) → Distinct own_of hs → find (has_own n) hs ≡ Some held → X held → AllByRecursion (λ (x : Held). eqb x.own n ≡ true → X x) hs
found_all n [] held X distinct found x = tt
found_all n (one ∷ hs) held X (alone, distinct) found x = by (eqb one.own n) refl found (λ some. found_all n hs held X distinct some x)
  where
    by : (here : Bool) → eqb one.own n ≡ here → cond here (Some one) (find (has_own n) hs) ≡ Some held → (find (has_own n) hs ≡ Some held → AllByRecursion (λ (y : Held). eqb y.own n ≡ true → X y) hs) → (eqb one.own n ≡ true → X one) × AllByRecursion (λ (y : Held). eqb y.own n ≡ true → X y) hs
    by true is some later = let same : one ≡ held = cc in (λ here. subst X (sym same) x, none_all n hs X (ap (λ m. find (has_own m) hs) (sym (eqb-true one.own n is)) ∙ alone))
    by false is some later = (λ here. let never : true ≡ false = sym here ∙ is in absurd cc, later some)

abbrev first_gives : List Held → Option Given
first_gives hs = held_gives (find gives hs)

gives_by : (after : Held) (hs : List Held) → AllByRecursion (λ (x : Held). eqb x.own after.own ≡ true → stage_gives after.stage ≡ stage_gives x.stage) hs → first_gives (map (in_place_of after) hs) ≡ first_gives hs
gives_by after [] all = refl
gives_by after (x ∷ hs) all = by (eqb x.own after.own) refl (gives_by after hs all.1)
  where
    by : (here : Bool) → eqb x.own after.own ≡ here → first_gives (map (in_place_of after) hs) ≡ first_gives hs → first_gives (cond here after x ∷ map (in_place_of after) hs) ≡ first_gives (x ∷ hs)
    by false is later = on (is_some (stage_gives x.stage))
      where
        on : (some : Bool) → held_gives (cond some (Some x) (find gives (map (in_place_of after) hs))) ≡ held_gives (cond some (Some x) (find gives hs))
        on true = refl
        on false = later
    by true is later = swap (stage_gives after.stage) (stage_gives x.stage) refl refl (all.0 is)
      where
        swap : (one other : Option Given) → stage_gives after.stage ≡ one → stage_gives x.stage ≡ other → one ≡ other
            → held_gives (cond (is_some one) (Some after) (find gives (map (in_place_of after) hs))) ≡ held_gives (cond (is_some other) (Some x) (find gives hs))
        swap None None at was same = later
        swap None (Some b) at was same = cc
        swap (Some a) None at was same = cc
        swap (Some a) (Some b) at was same = at ∙ (same ∙ sym was)

-- ---- both

pub record Unchanged (v w : Channels) : Type 0 where
  pub commands : SameCommands v w
  pub gives : held_gives (find gives w.held) ≡ held_gives (find gives v.held)

placed_same : (v : Channels) (before after : Held) → Distinct own_of v.held → find (has_own before.own) v.held ≡ Some before → SameView before after → (let w : Channels = record v { held = map (in_place_of after) v.held } in Unchanged v w)
placed_same v before after distinct found view = record {
  commands = placed_commands v before after found view;
  gives = gives_by after v.held (found_all after.own v.held before (λ (x : Held). stage_gives after.stage ≡ stage_gives x.stage) distinct (ap (λ n. find (has_own n) v.held) view.own_is ∙ found) view.gives_is);
}

given_same : (v : Channels) (own : ℕ) (found : Option Held) (f : Stage → Stage) → ((held : Held) → SameView held (staged_as held (f held.stage))) → Distinct own_of v.held → find (has_own own) v.held ≡ found → Unchanged v (stage_given f found v)
given_same v own None f view distinct is = record { commands = λ errand. refl; gives = refl }
given_same v own (Some held) f view distinct is = placed_same v held (staged_as held (f held.stage)) distinct (found-own own v held is) (view held)

features_same : (v : Channels) (request : Option Request) → request ≡ v.features → (let w : Channels = record v { features = option_map one_more request } in SameCommands v w)
features_same v request is (errands.Connection own) = refl
features_same v request is (errands.Configuration own) = refl
features_same v request is (errands.Disconnection own) = refl
features_same v None is errands.Features = ap features_command is
features_same v (Some request) is errands.Features = ap features_command is

pub counted-same : (errand : Errand) (v : Channels) → Distinct own_of v.held → Unchanged v (counted errand v)
counted-same (errands.Connection own) v distinct = given_same v own (held_at own v) connection_given (λ held. connection_view held held.stage) distinct refl
counted-same (errands.Configuration own) v distinct = given_same v own (held_at own v) configuration_given (λ held. configuration_view held held.stage) distinct refl
counted-same (errands.Disconnection own) v distinct = given_same v own (held_at own v) disconnection_given (λ held. disconnection_view held held.stage) distinct refl
counted-same errands.Features v distinct = record { commands = features_same v v.features refl; gives = refl }
