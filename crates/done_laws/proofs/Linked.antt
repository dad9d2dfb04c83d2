-- What the packets spell on the last link on which a host heard anything.
use Rattle.std.proofs.Common.{◌≡◌, ◌⊎◌, inl, inr, ℕ, Bool, true, false, cond, eqb, List, [], ◌∷◌, ◌++◌, length, refl, sym, ap, ap₂, ◌∙◌, append-nil}
use Rattle.std.specs.Prelude.{get_or}
use Rattle.std.specs.List.{AllByRecursion, AllZip, flat_map}
use Rattle.std.proofs.lemmas.List.{append_cancel_left}
use Rattle.std.proofs.lemmas.List.Sums.{fold-append}
use Rattle.tape_laws.specs.bt_base.specs.declared.settings.Settings.{Settings}
use Rattle.tape_laws.specs.bt_base.specs.declared.settings.Transport.TheVariants.{L2cap}
use Rattle.tape_laws.specs.bt_base.specs.Objects.{Object}
use Rattle.tape_laws.specs.link_talk.specs.declared.party.Party.{Party}
use Rattle.tape_laws.specs.link_talk.specs.ObjectsHeard.{objects as objects_on}
use Rattle.tape_laws.specs.push_model.specs.Client.{own_maximum}
use Rattle.tape_laws.specs.push_model.specs.Server.{object_psm}
use Rattle.tape_laws.specs.push_laws.specs.Gains.{objects}
use Rattle.tape_laws.specs.push_laws.specs.Occurrences.{Occurrence, Came, Went, Closed, LinkDown, Asked, Answering}
use Rattle.tape_laws.specs.push_laws.specs.Parties.{sdu_if, server_side, Push, ended_with}
use Rattle.tape_laws.specs.world_model.specs.Machines.{Up, Down}
use Rattle.tape_laws.specs.world_model.specs.Talks.{Talk}
use Rattle.tape_laws.specs.host_model.specs.Servers.{server_profile}
use Rattle.tape_laws.specs.host_laws.specs.channel_model.specs.Policies.{Policy, policy}
use Rattle.tape_laws.specs.host_laws.specs.channel_model.specs.Value.{no_channels}
use Rattle.tape_laws.specs.host_laws.specs.channel_laws.specs.Runs as channels
use Rattle.tape_laws.specs.host_laws.specs.channel_laws.specs.Runs.{run_of}
use Rattle.tape_laws.specs.host_laws.specs.channel_laws.specs.Sdus.{StatesFrame}
use Rattle.tape_laws.specs.host_laws.specs.Fed.{woven_feeds}
use Rattle.tape_laws.specs.host_laws.specs.Feeds.{Tiding, Brings, Tells, Turns, tidings_of, tidings_from}
use Rattle.tape_laws.specs.host_laws.specs.Gaining.{IsDirect, IsNoSdu}
use Rattle.tape_laws.specs.host_laws.specs.GainingOver.{CarriesOne}
use Rattle.tape_laws.specs.host_laws.specs.OverLinks.{moved_in, IsTalkOf}
use Rattle.tape_laws.specs.host_laws.specs.Spoken.{IsServed}
use Rattle.tape_laws.specs.host_laws.specs.Told.{told_on}
use Rattle.tape_laws.specs.host_laws.proofs.Gaining.{all_served, feeds_same, link_gain}
use Rattle.tape_laws.specs.host_laws.proofs.GainingOver.{none_told}
use Rattle.tape_laws.specs.host_laws.proofs.Gains.{state, states, gain, gain-both, gain-still, gain-over, objects-are_gained}
use Rattle.tape_laws.specs.host_laws.proofs.Spoken.{objects-move}
use Rattle.tape_laws.specs.request_laws.specs.BothFed.{ComesNone}
use Rattle.tape_laws.specs.request_laws.specs.Streams.{come_on}
use Rattle.tape_laws.specs.request_laws.specs.Twists.{Set}
use Rattle.tape_laws.specs.request_laws.proofs.Behind.{weave_told}
use Rattle.tape_laws.specs.request_laws.proofs.Feeding.{all_ahead, all_both, event_shape}
use Rattle.tape_laws.specs.request_laws.proofs.LastLinks.{OnLast}
use Rattle.tape_laws.specs.request_laws.proofs.Piping.{still_quiet}
use Rattle.tape_laws.specs.request_laws.proofs.Pushes.{served_on}

-- ---- where nothing comes nothing is gained

came_still : (psm : ℕ) (sdu : List ℕ) (packets : List (List ℕ)) → come_on object_psm (Came psm sdu) ≡ [] → state packets (Came psm sdu) ≡ packets
came_still psm sdu packets none = by (eqb psm object_psm) none
  where
    by : (here : Bool) → sdu_if here sdu ≡ [] → cond here (packets ++ sdu ∷ []) packets ≡ packets
    by true is = cc
    by false is = refl

stays_or_ends : (packets : List (List ℕ)) (one : Occurrence) → ComesNone one → (state packets one ≡ packets) ⊎ (state packets one ≡ [])
stays_or_ends packets (Came psm sdu) none = inl (came_still psm sdu packets (none object_psm))
stays_or_ends packets (Went psm sdu) none = inl refl
stays_or_ends packets (Closed psm) none = by (eqb psm object_psm)
  where
    by : (here : Bool) → (cond here [] packets ≡ packets) ⊎ (cond here [] packets ≡ [])
    by true = inr refl
    by false = inl refl
stays_or_ends packets LinkDown none = inr refl
stays_or_ends packets Asked none = inl refl
stays_or_ends packets (Answering answers) none = inl refl

pub gain_none : (most : ℕ) (packets : List (List ℕ)) (list : List Occurrence) → AllByRecursion ComesNone list → gain most packets list ≡ []
gain_none most packets [] quiet = refl
gain_none most packets (one ∷ list) quiet =
    elim (stays_or_ends packets one quiet.0) [ inl same ↦ gain-still most packets one list same ∙ gain_none most packets list quiet.1 | inr none ↦ gain-over most packets one list none ∙ gain_none most [] list quiet.1 ]

states_none : (list : List Occurrence) → AllByRecursion ComesNone list → states [] list ≡ []
states_none [] quiet = refl
states_none (one ∷ list) quiet = ap (λ (packets : List (List ℕ)). states packets list) (elim (stays_or_ends [] one quiet.0) [ inl same ↦ same | inr none ↦ none ]) ∙ states_none list quiet.1

-- behind the end of a link nothing is left
pub ended : (push : Push) (packets : List (List ℕ)) → states packets (ended_with push) ≡ []
ended push packets = fold-append state packets (server_side push.moves) (LinkDown ∷ [])

pub all_ended : (pushes : List Push) → states [] (flat_map ended_with pushes) ≡ []
all_ended [] = refl
all_ended (push ∷ pushes) = fold-append state [] (ended_with push) (flat_map ended_with pushes) ∙ (ap (λ (packets : List (List ℕ)). states packets (flat_map ended_with pushes)) (ended push []) ∙ all_ended pushes)

-- what a push spells behind ended links is what its own occurrences gain
pub here_gained : (settings : Settings) (pushes : List Push) (side : List Occurrence) (here : List Object) → AllByRecursion IsDirect (flat_map ended_with pushes ++ side) → objects settings (flat_map ended_with pushes ++ side) ≡ objects settings (flat_map ended_with pushes) ++ here
    → here ≡ gain (own_maximum L2cap settings) [] side
here_gained settings pushes side here direct spelled =
    let most = own_maximum L2cap settings in
    let past = flat_map ended_with pushes in
    let alone = objects-are_gained settings past (all_ahead IsDirect past side direct).0 in
    append_cancel_left (objects settings past) here (gain most [] side)
    (sym spelled ∙ (objects-are_gained settings (past ++ side) direct ∙ (gain-both most [] past side
    ∙ ap₂ (λ (a b : List Object). a ++ b) (sym alone) (ap (λ (packets : List (List ℕ)). gain most packets side) (all_ended pushes)))))

-- ---- what is told on a link

pub served_none : (told : List Tiding) → AllByRecursion IsNoSdu told → AllByRecursion ComesNone (all_served told)
served_none [] none = tt
served_none (Brings own psm sdu ∷ told) none = absurd none.0
served_none (Tells event ∷ told) none = all_both ComesNone _ (all_served told) (event_shape event) (served_none told none.1)
served_none (Turns Up ∷ told) none = served_none told none.1
served_none (Turns (Down reason) ∷ told) none = (λ carrier. refl, served_none told none.1)

module _ (set : Set) (one : Push) (lists : List (List channels.Occurrence)) (on : OnLast set one lists) where
  abbrev most : ℕ
  most = own_maximum L2cap set.settings

  pub side_gained : gain (own_maximum L2cap set.settings) [] (server_side one.moves) ≡ gain (own_maximum L2cap set.settings) [] (all_served (told_on (policy set.settings true) on.list))
  side_gained =
      let B = server_profile set.settings set.content in
      let asks = set.asks.servers set.settings set.content in
      let here = served_on set on.woven.woven.weave no_channels on.up in
      let feeds = woven_feeds B asks on.woven.woven.weave no_channels on.up in
      let between = still_quiet on.between on.still in
      let told : tidings_of feeds ≡ told_on (policy set.settings true) on.list =
      weave_told B asks on.woven.woven.weave no_channels on.up on.woven.woven.on_link ∙ ap (tidings_from (policy set.settings true) no_channels) (sym on.woven.woven.list_is) in
      ap (gain most []) on.one_is
      ∙ (gain-both most [] on.between (here ++ on.tail)
      ∙ (ap₂ (λ (a b : List Object). a ++ b) (gain_none most [] on.between between) (ap (λ (packets : List (List ℕ)). gain most packets (here ++ on.tail)) (states_none on.between between))
      ∙ (gain-both most [] here on.tail
      ∙ (ap (λ (os : List Object). gain most [] here ++ os) (gain_none most (states [] here) on.tail on.quiet) ∙ (append-nil (gain most [] here)
      ∙ ((feeds_same set.settings set.content on.up feeds).gain_is most [] ∙ ap (λ (l : List Tiding). gain most [] (all_served l)) told))))))

-- ---- what the PDUs say of it

module _ (settings : Settings) (party : Party) (states_frame : StatesFrame (policy settings true) party) where
  abbrev Q : Policy
  Q = policy settings true

  pub one_on : (list : List channels.Occurrence) (part : List Talk) (object : Object) → CarriesOne (policy settings true) list → IsTalkOf (policy settings true) list part → IsServed (moved_in part) → (run_of (policy settings true) list).value.events ≡ []
      → gain party.packet [] (all_served (told_on (policy settings true) list)) ≡ object ∷ [] → objects_on party (moved_in part) ≡ object ∷ []
  one_on list part object (inl bare) is served none gained =
      absurd (let never : object ∷ [] ≡ [] = sym gained ∙ gain_none party.packet [] (all_served (told_on Q list)) (served_none (told_on Q list) (none_told Q no_channels list bare)) in cc)
  one_on list part object (inr alone) is served none gained =
      sym (link_gain Q party states_frame list alone none ∙ objects-move party (run_of Q list).said (moved_in part) is.waits is.talk_is is.go_out served) ∙ gained

-- ---- parts and links

pub zip_split : {X Y : Type 0} (F : X → Y → Type 0) (ahead : List X) (x : X) (rest : List X) (ys : List Y) → AllZip F (ahead ++ x ∷ rest) ys → (before : List Y) × (y : Y) × (after : List Y) × (ys ≡ before ++ y ∷ after) × F x y × AllZip F rest after
zip_split F [] x rest [] zip = absurd zip
zip_split F [] x rest (y ∷ ys) zip = ([], y, ys, refl, zip.0, zip.1)
zip_split F (a ∷ ahead) x rest [] zip = absurd zip
zip_split F (a ∷ ahead) x rest (y ∷ ys) zip = let later = zip_split F ahead x rest ys zip.1 in (y ∷ later.0, later.1, later.2, ap (λ l. y ∷ l) later.3, later.4, later.5)

pub at_place : {X : Type 0} (ahead : List X) (x : X) (rest : List X) (none : X) → get_or (ahead ++ x ∷ rest) (length ahead) none ≡ x
at_place [] x rest none = refl
at_place (a ∷ ahead) x rest none = at_place ahead x rest none
