-- What a timer finds on a link, in one pass.
use Rattle.std.proofs.Common.{◌≡◌, ℕ, List, [], ◌∷◌, ◌++◌, map, fold, max, Bool, ◌||◌, refl, sym, ap, ◌∙◌}
use Rattle.std.specs.Prelude.{Option, None, is_some}
use Rattle.std.specs.List.{list_any}
use Rattle.std.proofs.lemmas.List.Sums.{fold-append}
use Rattle.link_talk.specs.l2cap_config.specs.declared.wish.Mode.{Mode}
use Rattle.link_talk.specs.l2cap_config.specs.declared.wish.Mode.TheVariants.{Basic, Enhanced}
use Rattle.link_talk.specs.declared.channel.Channel.{Channel}
use Rattle.link_talk.specs.declared.party.Party.{Party}
use Rattle.link_talk.specs.Sayings.{Saying}
use Rattle.link_talk.specs.Channels.{Entry, Reading, reading}
use Rattle.link_talk.specs.Carriages.{mode_of}
use Rattle.link_talk.specs.Accounts.{frames_passed, waiting_frames, window_used, widest}
use Rattle.link_talk.specs.Waits.{call_waits, entry_waits, waits, is_checked}
use Rattle.talk_laws.specs.Accounts.{used}
use Rattle.talk_laws.specs.Waits.{Counts, no_counts, Tracked, tracked_of, noticed_after, counts_of}
use Rattle.talk_laws.specs.LinkPass.{LinkPass, held_by, pass_after, kept_of, pass_back, Follows}
use Rattle.talk_laws.specs.LinkWaits.{counts_step, Watch, no_watch, watch_after, watch_of, kept_waits, waits_in, window_in, kept_window, widest_in, watch_back, LinkWaitsLookBack, LinkWaitsGrow}
use Rattle.talk_laws.proofs.Passes.{from_end}
use Rattle.talk_laws.proofs.Accounts.{window-is}
use Rattle.talk_laws.proofs.Waits.{counts-grow, counts-anew, tracked-is, any_same, informed_more, entry_same, counts_same}
use Rattle.talk_laws.proofs.LinkPass.{held-back, pass-more}

-- ---- lists

any_mapped : {X Y : Type 0} (f : Y → Bool) (g : X → Y) (xs : List X) → list_any f (map g xs) ≡ list_any (λ x. f (g x)) xs
any_mapped f g [] = refl
any_mapped f g (x ∷ xs) = ap (λ b. f (g x) || b) (any_mapped f g xs)

map_same : {X Y : Type 0} (f g : X → Y) (xs : List X) → ((x : X) → f x ≡ g x) → map f xs ≡ map g xs
map_same f g [] same = refl
map_same f g (x ∷ xs) same = ap (λ y. y ∷ map f xs) (same x) ∙ ap (λ ys. g x ∷ ys) (map_same f g xs same)

map_mapped : {X Y Z : Type 0} (f : Y → Z) (g : X → Y) (xs : List X) → map f (map g xs) ≡ map (λ x. f (g x)) xs
map_mapped f g [] = refl
map_mapped f g (x ∷ xs) = ap (λ zs. f (g x) ∷ zs) (map_mapped f g xs)

-- ---- what is held

counts-follow : (party : Party) → Follows (counts_step party) no_counts (counts_of party)
counts-follow party = record { grows = counts-grow party; anew = counts-anew party }

abbrev watched : LinkPass Counts → Option ℕ → Watch
watched pass information = record { pass = pass; information = information }

watch_more : (party : Party) (said : List Saying) (more : Saying) → watch_back party (said ++ more ∷ []) ≡ watch_after party (watch_back party said) more
watch_more party said more =
    ap (λ pass. watched pass (fold noticed_after None (said ++ more ∷ []))) (sym (pass-more (counts_step party) no_counts (counts_of party) (counts-follow party) said more))
    ∙ ap (watched (pass_after (counts_step party) no_counts (pass_back (counts_of party) said) more)) (fold-append noticed_after None said (more ∷ []))

pub watch-is : (party : Party) (said : List Saying) → watch_of party said ≡ watch_back party said
watch-is party said = from_end (λ past. watch_of party past ≡ watch_back party past) refl step said
  where
    step : (past : List Saying) (more : Saying) → watch_of party past ≡ watch_back party past → watch_of party (past ++ more ∷ []) ≡ watch_back party (past ++ more ∷ [])
    step past more held =
        fold-append (watch_after party) no_watch past (more ∷ [])
        ∙ (ap (λ watch. watch_after party watch more) held ∙ sym (watch_more party past more))

-- ---- what it finds

abbrev counts_then : Party → List Saying → Channel → Counts
counts_then party said channel = (tracked_of party channel said).counts

entry_kept : (party : Party) (said : List Saying) (entry : Entry) → entry_waits party said entry ≡ kept_waits (reading said) (kept_of (counts_of party) said entry)
entry_kept party said entry =
    entry_same party said entry
    ∙ counts_same (reading said) (counts_then party said) (λ channel. counts_of party entry.channel said) entry (ap (λ (t : Tracked). t.counts) (tracked-is party entry.channel said))

waits_back : (party : Party) (said : List Saying) → waits party said ≡ waits_in (watch_back party said)
waits_back party said =
    let held = reading said in
    let kept = map (kept_of (counts_of party) said) held.entries in
    ap (λ o. list_any (call_waits held) held.requests.calls || (is_some o || list_any (entry_waits party said) held.entries)) (informed_more None said)
    ∙ (ap (λ b. list_any (call_waits held) held.requests.calls || (is_some (fold noticed_after None said) || b))
    (any_same (entry_waits party said) (λ entry. kept_waits held (kept_of (counts_of party) said entry)) held.entries (entry_kept party said) ∙ sym (any_mapped (kept_waits held) (kept_of (counts_of party) said) held.entries))
    ∙ ap (λ (now : Reading). list_any (call_waits now) held.requests.calls || (is_some (fold noticed_after None said) || list_any (kept_waits now) kept)) (sym (held-back (counts_of party) said)))

window_same : (party : Party) (said : List Saying) (channel : Channel) (mode : Mode) → waiting_frames mode (frames_passed party channel said) ≡ window_in mode (counts_of party channel said)
window_same party said channel Basic = refl
window_same party said channel Enhanced = sym (ap used (window-is (frames_passed party channel said)))

widest_back : (party : Party) (said : List Saying) → widest party said ≡ widest_in (pass_back (counts_of party) said)
widest_back party said =
    let entries = (reading said).entries in
    let kept = map (kept_of (counts_of party) said) entries in
    ap (fold max 0)
    (map_same (λ (entry : Entry). window_used party said entry.channel) (λ entry. kept_window (reading said) (kept_of (counts_of party) said entry)) entries
    (λ (entry : Entry). window_same party said entry.channel (mode_of entry.channel said))
    ∙ (sym (map_mapped (kept_window (reading said)) (kept_of (counts_of party) said) entries) ∙ ap (λ held. map (kept_window held) kept) (sym (held-back (counts_of party) said))))

pub link-waits_look_back : LinkWaitsLookBack
link-waits_look_back = record {
  held = watch-is;
  waits = λ party said. waits_back party said ∙ ap waits_in (sym (watch-is party said));
  widest = λ party said. widest_back party said ∙ ap (λ (watch : Watch). widest_in watch.pass) (sym (watch-is party said));
  checked = λ party said own.
      ap (λ (held : Reading). list_any (is_checked own) held.entries) (sym (held-back (counts_of party) said) ∙ ap (λ (watch : Watch). held_by watch.pass) (sym (watch-is party said)));
}

pub link-waits_grow : LinkWaitsGrow
link-waits_grow = record {
  held = watch_more;
  waits = λ party said more. waits_back party (said ++ more ∷ []) ∙ ap waits_in (watch_more party said more);
  widest = λ party said more. widest_back party (said ++ more ∷ []) ∙ ap (λ (watch : Watch). widest_in watch.pass) (watch_more party said more);
}
