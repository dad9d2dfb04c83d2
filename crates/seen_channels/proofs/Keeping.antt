-- The tables after what a command tells.
use Rattle.std.proofs.Common.{◌≡◌, ℕ, ◌<◌, List, [], ◌∷◌, length, get_or, Bool, cond, eqb, ltb, Option, Some, None, Bor, refl, sym, ap, subst, ◌∙◌, arith}
use Rattle.std.specs.Prelude.{slice_get, drop, fold, is_some, IfSome}
use Rattle.std.specs.List.{flat_map}
use Rattle.std.specs.Option.{option_copied}
use Rattle.std.proofs.lemmas.List.Sums.{fold-append}
use Rattle.l2cap_signal.specs.Reading.{Answer, answers}
use Rattle.std.proofs.lemmas.Bool.{ltb-false, ltb-true}
use Rattle.std.proofs.lemmas.Option.{slice_get_past, slice_get_read}
use Rattle.seen_channels.specs.declared.direction.Direction.{Direction}
use Rattle.seen_channels.specs.declared.direction.Direction.TheVariants.{Out, In}
use Rattle.seen_channels.specs.declared.channel.Channel.{Channel}
use Rattle.seen_channels.specs.declared.channels.Channels.{Channels}
use Rattle.seen_channels.specs.declared.side.Side.{Side}
use Rattle.seen_channels.specs.Tellings.{Learnt, learn, told_by, heard, find, with_mode, configured, with_channels}
use Rattle.seen_channels.specs.Tables.{oldest_first, place_of, IsSide, Keeps}
use Rattle.seen_channels.proofs.Places.{place_within, length-oldest_first, place-with_mode, oldest-with_mode, mode_at}

-- an element that was looked up
pub copied_got : (xs : List Channel) (i : ℕ) (got : Option (Bor Channel)) → is_some got ≡ ltb i (length xs) → IfSome got (λ x. x.now ≡ get_or xs i x.now) → option_copied got ≡ slice_get xs i
copied_got xs i None there at = sym (slice_get_past xs i (ltb-false i (length xs) (sym there)))
copied_got xs i (Some x) there at = sym (slice_get_read xs (length xs) i x.now refl (ltb-true i (length xs) (sym there)) at)

side_kept : (e d : Direction) (cid : ℕ) (mode : Bool) (learnt : Learnt) (side : Side) → IsSide e learnt side → IsSide e (with_channels learnt (with_mode d cid mode learnt.channels)) side
side_kept Out d cid mode learnt side is = record { requests = is.requests; places = λ other. is.places other ∙ sym (place-with_mode d cid mode Out other learnt.channels) }
side_kept In d cid mode learnt side is = record { requests = is.requests; places = λ other. is.places other ∙ sym (place-with_mode d cid mode In other learnt.channels) }

-- a mode was written at the place of the channel
mode_written : (d : Direction) (cid : ℕ) (mode : Bool) (learnt : Learnt) (table table' : Channels) (place : Option ℕ) (found : Option Channel) → Keeps learnt table
    → place ≡ place_of d cid learnt.channels → found ≡ find d cid learnt.channels → table'.list.items ≡ mode_at table.list.items mode place found → table'.outward ≡ table.outward → table'.inward ≡ table.inward
    → Keeps (with_channels learnt (with_mode d cid mode learnt.channels)) table'
mode_written d cid mode learnt table table' place found keeps at there list outward inward = record {
  list =
      list
      ∙ ap (λ (l : List Channel). mode_at l mode place found) keeps.list
      ∙ ap (λ (p : Option ℕ). mode_at (oldest_first learnt.channels) mode p found) at
      ∙ ap (mode_at (oldest_first learnt.channels) mode (place_of d cid learnt.channels)) there
      ∙ sym (oldest-with_mode d cid mode learnt.channels);
  outward = subst (λ (s : Side). IsSide Out (with_channels learnt (with_mode d cid mode learnt.channels)) s) (sym outward) (side_kept Out d cid mode learnt table.outward keeps.outward);
  inward = subst (λ (s : Side). IsSide In (with_channels learnt (with_mode d cid mode learnt.channels)) s) (sym inward) (side_kept In d cid mode learnt table.inward keeps.inward);
}

-- the same by what was asked for
pub mode_kept : (d : Direction) (cid : ℕ) (mode : Bool) (mode_asked : Option Bool) (learnt : Learnt) (table table' : Channels) (place : Option ℕ) (found : Option Channel) → Some mode ≡ mode_asked → Keeps learnt table
    → place ≡ place_of d cid learnt.channels → found ≡ find d cid learnt.channels → table'.list.items ≡ mode_at table.list.items mode place found → table'.outward ≡ table.outward → table'.inward ≡ table.inward
    → Keeps (with_channels learnt (configured d cid mode_asked learnt.channels)) table'
mode_kept d cid mode mode_asked learnt table table' place found asked keeps at there list outward inward =
    subst (λ (m : Option Bool). Keeps (with_channels learnt (configured d cid m learnt.channels)) table') asked (mode_written d cid mode learnt table table' place found keeps at there list outward inward)

-- a place that the tables have is one of the list
pub place_there : (d : Direction) (cid : ℕ) (cs list : List Channel) (place : ℕ) → list ≡ oldest_first cs → Some place ≡ place_of d cid cs → place < length list
place_there d cid cs list place is at = omega (arith, ap length is, length-oldest_first cs, place_within d cid cs place (sym at))

-- a channel that was made
pub places_more : (d : Direction) (far place cid : ℕ) (cs : List Channel) (got got' : Option ℕ) → place ≡ length cs → got' ≡ cond (eqb far cid) (Some place) got → got ≡ place_of d cid cs
    → got' ≡ cond (eqb far cid) (Some (length cs)) (place_of d cid cs)
places_more d far place cid cs got got' size is old = is ∙ ap (λ (n : ℕ). cond (eqb far cid) (Some n) got) size ∙ ap (cond (eqb far cid) (Some (length cs))) old

-- what is still to be heard of a payload leads to what is known at its end
pub record IsHearing (direction : Direction) (table table' : Channels) (payload : List ℕ) (rest : List Answer) : Type 0 where
  pub along : (learnt : Learnt) → Keeps learnt table → (now : Learnt) × Keeps now table' × (fold learn now (flat_map (told_by direction) rest) ≡ heard direction payload learnt)

pub hearing_starts : (direction : Direction) (table : Channels) (payload : List ℕ) → IsHearing direction table table payload (answers payload)
hearing_starts direction table payload = record { along = λ learnt keeps. (learnt, keeps, refl) }

pub hearing_goes_on : (direction : Direction) (table mid new : Channels) (payload : List ℕ) (rest rest' : List Answer) (given : Option Answer) (a : Answer) → IsHearing direction table mid payload rest
    → given ≡ slice_get rest 0 → given ≡ Some a → rest' ≡ drop 1 rest → ((learnt : Learnt) → Keeps learnt mid → Keeps (fold learn learnt (told_by direction a)) new) → IsHearing direction table new payload rest'
hearing_goes_on direction table mid new payload [] rest' given a so_far front is behind heard = absurd cc
hearing_goes_on direction table mid new payload (b ∷ rest) rest' given a so_far front is behind hears = record {
  along = λ learnt keeps.
      let before = so_far.along learnt keeps in
      let same : a ≡ b = cc in
      let step = hears before.0 before.1 in (
        fold learn before.0 (told_by direction a),
        step,
        ap (λ (r : List Answer). fold learn (fold learn before.0 (told_by direction a)) (flat_map (told_by direction) r)) behind
            ∙ ap (λ (x : Answer). fold learn (fold learn before.0 (told_by direction x)) (flat_map (told_by direction) rest)) same
            ∙ sym (fold-append learn before.0 (told_by direction b) (flat_map (told_by direction) rest))
            ∙ before.2,
      );
}

pub hearing_ends : (direction : Direction) (table table' : Channels) (payload : List ℕ) (rest : List Answer) → IsHearing direction table table' payload rest → None ≡ slice_get rest 0
    → (learnt : Learnt) → Keeps learnt table → Keeps (heard direction payload learnt) table'
hearing_ends direction table table' payload [] so_far none learnt keeps = let now = so_far.along learnt keeps in subst (λ (l : Learnt). Keeps l table') now.2 now.1
hearing_ends direction table table' payload (a ∷ rest) so_far none learnt keeps = absurd cc
