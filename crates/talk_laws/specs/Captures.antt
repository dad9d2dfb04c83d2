-- What a capture says of the talks of a side, in one pass and with one entry more.
use Rattle.std.specs.Prelude.{ℕ, ◌≡◌, false, Bool, List, [], ◌∷◌, ◌++◌, fold, Option, Some, None}
use Rattle.std.specs.List.{list_any}
use Rattle.link_talk.specs.bt_base.specs.Objects.{Object}
use Rattle.link_talk.specs.push_terms.specs.declared.word.Side.{Side}
use Rattle.link_talk.specs.capture.specs.Entries.{Entry}
use Rattle.link_talk.specs.capture.specs.Moves.{Move, move_of, moves}
use Rattle.link_talk.specs.declared.party.Party.{Party}
use Rattle.link_talk.specs.Sayings.{Saying}
use Rattle.link_talk.specs.Waits.{is_checked}
use Rattle.link_talk.specs.Captures.{talks, talk_now, objects_heard, window_held, credits_of, is_armed, is_checked_at}
use Rattle.talk_laws.specs.LinkPass.{LinkPass, no_pass, held_by, pass_after}
use Rattle.talk_laws.specs.Spelling.{Hearing, no_hearing}
use Rattle.talk_laws.specs.LinkObjects.{hearing_step, objects_along}
use Rattle.talk_laws.specs.LinkWaits.{Watch, no_watch, watch_after, waits_in, widest_in}
use Rattle.talk_laws.specs.LinkCredits.{Purse, no_purse, purse_step, credits_in}
use Rattle.talk_laws.specs.CapturePass.{HeldLink, HeldLinks, no_held_links, sayings_with, links_with, held_links, states, held_back}

-- an entry that moves nothing at a side changes neither
pub record OnlyMovesTell : Type 0 where
  pub armed : (party : Party) (side : Side) (past : List Entry) (more : Entry) → moves side (more ∷ []) ≡ [] → is_armed party side (past ++ more ∷ []) ≡ is_armed party side past
  pub checked : (side : Side) (past : List Entry) (more : Entry) (own : ℕ) → moves side (more ∷ []) ≡ [] → is_checked_at side (past ++ more ∷ []) own ≡ is_checked_at side past own

-- ---- what each pass holds of a talk

abbrev pub said_so_far : List Saying → Saying → List Saying
said_so_far said more = said ++ more ∷ []

abbrev pub hearing_pass : Party → LinkPass Hearing → Saying → LinkPass Hearing
hearing_pass party pass more = pass_after (hearing_step party) no_hearing pass more

abbrev pub purse_pass : Party → LinkPass Purse → Saying → LinkPass Purse
purse_pass party pass more = pass_after (purse_step party) no_purse pass more

-- ---- what it finds

-- the objects whose last packets a packet of the HCI brings on the link that is up
abbrev pub objects_up : Party → Move → Option (HeldLink (LinkPass Hearing)) → List Object
objects_up party move None = []
objects_up party move (Some link) = objects_along party link.state (sayings_with link move)

abbrev pub objects_moved : Party → HeldLinks (LinkPass Hearing) → Option Move → List Object
objects_moved party links None = []
objects_moved party links (Some move) = objects_up party move links.up

abbrev pub objects_found : Party → Side → HeldLinks (LinkPass Hearing) → List Entry → List Object
objects_found party side links [] = []
objects_found party side links (entry ∷ entries) =
    objects_moved party links (move_of side entry) ++ objects_found party side (links_with (hearing_pass party) (no_pass Hearing) side links entry) entries

abbrev pub said_up : Option (HeldLink (List Saying)) → List Saying
said_up None = []
said_up (Some link) = link.state

abbrev pub armed_up : Option (HeldLink Watch) → Bool
armed_up None = false
armed_up (Some link) = waits_in link.state

abbrev pub checked_up : ℕ → Option (HeldLink Watch) → Bool
checked_up own None = false
checked_up own (Some link) = list_any (is_checked own) (held_by link.state.pass).entries

-- the last, or another where there is none
abbrev pub last_else : {X : Type 0} → X → List X → X
last_else other [] = other
last_else other (x ∷ []) = x
last_else other (x ∷ next ∷ xs) = last_else other (next ∷ xs)

-- ---- the laws

pub record CapturesLookBack : Type 0 where
  -- the state of each talk is that of all that was said in it
  pub saying : (side : Side) (entries : List Entry) → held_links said_so_far [] side entries ≡ held_back (λ said. said) side entries
  pub hearing : (party : Party) (side : Side) (entries : List Entry) → held_links (hearing_pass party) (no_pass Hearing) side entries ≡ held_back (fold (hearing_pass party) (no_pass Hearing)) side entries
  pub talks : (side : Side) (entries : List Entry) → talks side entries ≡ states (held_links said_so_far [] side entries)
  pub now : (side : Side) (entries : List Entry) → talk_now side entries ≡ said_up (held_links said_so_far [] side entries).up
  pub objects : (party : Party) (side : Side) (entries : List Entry) → objects_heard party side entries ≡ objects_found party side (no_held_links (LinkPass Hearing)) entries
  pub armed : (party : Party) (side : Side) (entries : List Entry) → is_armed party side entries ≡ armed_up (held_links (watch_after party) no_watch side entries).up
  pub checked : (party : Party) (side : Side) (entries : List Entry) (own : ℕ) → is_checked_at side entries own ≡ checked_up own (held_links (watch_after party) no_watch side entries).up
  pub window : (party : Party) (side : Side) (entries : List Entry) → window_held party side entries ≡ widest_in (last_else no_watch (states (held_links (watch_after party) no_watch side entries))).pass
  pub credits : (party : Party) (side : Side) (entries : List Entry) → credits_of party side entries ≡ credits_in (last_else (no_pass Purse) (states (held_links (purse_pass party) (no_pass Purse) side entries)))

-- One entry more: what a pass holds is told by what it held before, and so are the objects.
pub record CapturesGrow : Type 0 where
  pub hearing : (party : Party) (side : Side) (past : List Entry) (more : Entry)
      → held_links (hearing_pass party) (no_pass Hearing) side (past ++ more ∷ []) ≡ links_with (hearing_pass party) (no_pass Hearing) side (held_links (hearing_pass party) (no_pass Hearing) side past) more
  pub purses : (party : Party) (side : Side) (past : List Entry) (more : Entry)
      → held_links (purse_pass party) (no_pass Purse) side (past ++ more ∷ []) ≡ links_with (purse_pass party) (no_pass Purse) side (held_links (purse_pass party) (no_pass Purse) side past) more
  pub watches : (party : Party) (side : Side) (past : List Entry) (more : Entry)
      → held_links (watch_after party) no_watch side (past ++ more ∷ []) ≡ links_with (watch_after party) no_watch side (held_links (watch_after party) no_watch side past) more
  pub talks : (side : Side) (past : List Entry) (more : Entry) → talks side (past ++ more ∷ []) ≡ states (links_with said_so_far [] side (held_links said_so_far [] side past) more)
  pub objects : (party : Party) (side : Side) (past : List Entry) (more : Entry)
      → objects_heard party side (past ++ more ∷ []) ≡ objects_heard party side past ++ objects_moved party (held_links (hearing_pass party) (no_pass Hearing) side past) (move_of side more)
  pub armed : (party : Party) (side : Side) (past : List Entry) (more : Entry)
      → is_armed party side (past ++ more ∷ []) ≡ armed_up (links_with (watch_after party) no_watch side (held_links (watch_after party) no_watch side past) more).up
  pub checked : (party : Party) (side : Side) (past : List Entry) (more : Entry) (own : ℕ)
      → is_checked_at side (past ++ more ∷ []) own ≡ checked_up own (links_with (watch_after party) no_watch side (held_links (watch_after party) no_watch side past) more).up
